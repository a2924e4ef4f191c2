use Rattle.std.proofs.Common.{refl}
use Rattle.c_states.proofs.OtherFrames.{no_star}
use Rattle.c_states.proofs.declarator.star_qualifiers.Goals as goal

pub returns-in_default : goal.returns-in_default
returns-in_default c = (refl, no_star c.args.frame c.in_default.not-Star)
