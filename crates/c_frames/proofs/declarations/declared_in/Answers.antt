use Rattle.c_frames.proofs.OtherFrames.{no_items}
use Rattle.c_frames.proofs.declarations.declared_in.Goals as goal

pub returns-in_default : goal.returns-in_default
returns-in_default c = λ n. no_items _ c.args.frame n _ _ c.in_default.not-Block c.in_default.not-Function c.in_default.not-Group c.in_default.not-ForHead

pub returns-in-Function : goal.returns-in-Function
returns-in-Function c = λ n. rw c.in-Function.is (c.declared_in_function.ensures n)
