use Rattle.c_frames.proofs.OtherFrames.{no_enum}
use Rattle.c_frames.proofs.suffix_ends.enumeration_end_in.Goals as goal

pub returns-in_default : goal.returns-in_default
returns-in_default c = λ n k ns. no_enum _ c.args.frame n k ns c.in_default.not-Enum
