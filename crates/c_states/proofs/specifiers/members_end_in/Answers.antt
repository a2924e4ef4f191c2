use Rattle.c_states.proofs.OtherFrames.{no_members}
use Rattle.c_states.proofs.specifiers.members_end_in.Goals as goal

pub returns-in_default : goal.returns-in_default
returns-in_default c = λ n k ns. no_members c.args.frame n k ns c.in_default.not-Members
