use Rattle.std.proofs.Common.{refl}
use Rattle.c_frames.proofs.states.pushed_if.Goals as goal

pub returns-then-is_end : goal.returns-then-is_end
returns-then-is_end c = rw c.if-is_end.true c.pushed.ensures

pub returns-else-is_end : goal.returns-else-is_end
returns-else-is_end c = rw c.if-is_end.false refl
