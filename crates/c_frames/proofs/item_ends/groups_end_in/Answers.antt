use Rattle.c_frames.proofs.OtherFrames.{no_groups}
use Rattle.c_frames.proofs.item_ends.groups_end_in.Goals as goal

pub returns-in_default : goal.returns-in_default
returns-in_default c = λ n k ns. no_groups _ c.args.frame n k ns c.in_default.not-Groups
