use Rattle.std.proofs.Common.{refl}
use Rattle.c_states.proofs.OtherFrames.{no_whole}
use Rattle.c_states.proofs.expr.join.Goals as goal

pub returns-in_default : goal.returns-in_default
returns-in_default c = (no_whole _ c.args.frame c.in_default.not-Step c.in_default.not-Unary c.in_default.not-Sizeof c.in_default.not-Cast c.in_default.not-Binary c.in_default.not-Conditional c.in_default.not-Assignment, refl, refl)
