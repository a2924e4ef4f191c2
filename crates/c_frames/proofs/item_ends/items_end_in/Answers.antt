use Rattle.c_frames.proofs.OtherFrames.{no_block}
use Rattle.c_frames.proofs.item_ends.items_end_in.Goals as goal

pub returns-in-Function : goal.returns-in-Function
returns-in-Function c = λ n. rw c.in-Function.is (c.function_ends.ensures n)

pub returns-in_default : goal.returns-in_default
returns-in_default c = λ n. no_block c.args.frame n _ _ c.in_default.not-Block c.in_default.not-Function c.in_default.not-Group
