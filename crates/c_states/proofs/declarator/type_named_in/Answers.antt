use Rattle.c_states.proofs.OtherFrames.{no_type_named}
use Rattle.c_states.proofs.declarator.type_named_in.Goals as goal

pub returns-in_default : goal.returns-in_default
returns-in_default c = λ n. no_type_named _ c.args.frame n _ _ c.in_default.not-CastType c.in_default.not-SizeofType
