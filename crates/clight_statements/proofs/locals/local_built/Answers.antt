use Rattle.clight_expressions.proofs.Stops.{stops_on, fails_as, fails_short}
use Rattle.clight_scopes.specs.SceneOf.{scene_of}
use Rattle.clight_statements.proofs.Behind.{one_value}
use Rattle.clight_statements.proofs.Chains.{built_front, local_value}
use Rattle.clight_statements.proofs.locals.local_built.Goals as goal

pub returns-in_err-built : goal.returns-in_err-built
returns-in_err-built c = fails_short _ _ c.from_residual.result c.from_residual.ensures.1

pub returns-in_err-number : goal.returns-in_err-number
returns-in_err-number c = fails_as _ _ c.from_residual-in_err-number.result c.in_err-number.field-0.0 c.from_residual-in_err-number.ensures.1 (stops_on _ _ _ _ (built_front (scene_of c.args.scene.now) _ _ _ _ _ _ _ c.in_ok-built.ensures.built c.in_ok-built.ensures.rest) c.in_err-number.ensures)

pub returns : goal.returns
returns c = one_value _ _ _ _ _ (built_front (scene_of c.args.scene.now) _ _ _ _ _ _ _ c.in_ok-built.ensures.built c.in_ok-built.ensures.rest) c.in_ok-number.ensures (local_value _ _ _ _ c.local_type-type_number.ensures)
