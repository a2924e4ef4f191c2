use Rattle.std.proofs.Common.{length, map, sym, ◌∙◌}
use Rattle.std.proofs.lemmas.List.{length-map}
use Rattle.c_tree.specs.FileShape.{items_of}
use Rattle.clight_types.specs.BuiltOf.{parameter_of}
use Rattle.clight_scopes.specs.SceneOf.{scene_of}
use Rattle.clight_expressions.proofs.Stops.{fails_as, fails_short}
use Rattle.clight_statements.specs.StatementsOf.{around_of}
use Rattle.clight_files.proofs.Fronts.{body_stops, body_made}
use Rattle.clight_files.proofs.definitions.body_judged.Goals as goal

pub returns-in_err-begin_body : goal.returns-in_err-begin_body
returns-in_err-begin_body c = fails_short _ _ c.from_residual.result c.from_residual.ensures.1

pub returns-in_err-made : goal.returns-in_err-made
returns-in_err-made c = fails_as _ _ c.from_residual-in_err-made.result c.in_err-made.field-0.0 c.from_residual-in_err-made.ensures.1 (body_stops (scene_of c.args.scene.now) (scene_of c.begin_body.new.scene) (around_of c.around_body-around.result) c.args.name c.args.t (map parameter_of c.args.parameters.now) (items_of c.args.body.now) c.in_err-made.field-0.0 c.in_ok-begin_body.ensures c.around_body-around.ensures c.in_err-made.ensures)

pub returns : goal.returns
returns c = body_made (scene_of c.args.scene.now) (scene_of c.begin_body.new.scene) (scene_of c.items_judged.new.scene) (scene_of c.end_body.new.scene) (around_of c.around_body-around.result) c.args.name c.args.t (map parameter_of c.args.parameters.now) (items_of c.args.body.now) _ c.in_ok-copied_numbers.field-0.items c.in_ok-copied_numbers-2.field-0.items (length c.args.parameters.now) c.name.inside.bytes.items c.in_ok-begin_body.ensures c.around_body-around.ensures c.in_ok-made.ensures c.end_body.ensures (c.in_ok-copied_numbers.ensures ∙ c.deref.ensures.value) (c.in_ok-copied_numbers-2.ensures ∙ c.deref-2.ensures.value) (sym (length-map c.args.parameters.now parameter_of)) c.name.view_is
