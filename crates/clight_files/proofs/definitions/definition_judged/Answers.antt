use Rattle.std.proofs.Common.{map}
use Rattle.c_tree.specs.FileShape.{items_of}
use Rattle.clight_types.specs.BuiltOf.{built_of, parameter_of}
use Rattle.clight_scopes.specs.SceneOf.{scene_of}
use Rattle.clight_expressions.proofs.Stops.{fails_as}
use Rattle.clight_files.proofs.Fronts.{typed_stops}
use Rattle.clight_files.proofs.definitions.definition_judged.Goals as goal

pub returns-in_err-function_judged-in-Some : goal.returns-in_err-function_judged-in-Some
returns-in_err-function_judged-in-Some c = fails_as _ _ c.from_residual.result c.in_err-function_judged-in-Some.field-0.0 c.from_residual.ensures.1 (typed_stops (scene_of c.args.scene.now) c.args.is_static c.args.at c.args.name (built_of c.args.scene.now.types c.args.built) (map parameter_of c.args.parameters.now) (items_of c.args.body.now) c.args.built.type_number c.in-Some.t c.in_err-function_judged-in-Some.field-0.0 c.in-Some.is c.in_err-function_judged-in-Some.ensures)
