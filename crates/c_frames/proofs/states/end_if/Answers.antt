use Rattle.std.proofs.Common.{refl}
use Rattle.c_frames.proofs.states.end_if.Goals as goal

pub returns-then-is_end : goal.returns-then-is_end
returns-then-is_end c = λ k ns. rw c.if-is_end.true refl

pub returns-else-is_end : goal.returns-else-is_end
returns-else-is_end c = λ k ns. rw c.if-is_end.false refl
