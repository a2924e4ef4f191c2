use Rattle.c_states.proofs.OtherFrames.{no_length}
use Rattle.c_states.proofs.suffix.no_length_end_in.Goals as goal

pub returns-in_default : goal.returns-in_default
returns-in_default c = λ n k ns. no_length c.args.frame n k ns c.in_default.not-Length
