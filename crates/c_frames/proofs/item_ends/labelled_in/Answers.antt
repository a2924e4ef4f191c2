use Rattle.c_frames.proofs.OtherFrames.{no_label}
use Rattle.c_frames.proofs.item_ends.labelled_in.Goals as goal

pub returns-in_default : goal.returns-in_default
returns-in_default c = λ n. no_label _ c.args.frame n _ _ c.in_default.not-Label
