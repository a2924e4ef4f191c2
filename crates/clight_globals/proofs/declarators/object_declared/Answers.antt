use Rattle.c_tree.specs.FileShape.{initializer_of}
use Rattle.clight_types.specs.BuiltOf.{built_of}
use Rattle.clight_scopes.specs.SceneOf.{scene_of}
use Rattle.clight_expressions.proofs.Stops.{fails_as}
use Rattle.clight_globals.specs.GlobalsOf.{storage_given}
use Rattle.clight_globals.proofs.Chosen.{object_stops, extern_judged, plain_judged}
use Rattle.clight_globals.proofs.declarators.object_declared.Goals as goal

pub returns-in_err-object_judged : goal.returns-in_err-object_judged
returns-in_err-object_judged c = fails_as _ _ c.from_residual.result c.in_err-object_judged.field-0.0 c.from_residual.ensures.1 (object_stops (scene_of c.args.scene.now) (storage_given c.args.storage) c.args.at c.args.name.now (built_of c.args.scene.now.types c.args.built) (initializer_of c.args.initializer.now) c.is_extern-is_extern.result c.in_err-object_judged.field-0.0 c.is_extern-is_extern.ensures c.in_err-object_judged.ensures)

pub returns-then-is_extern : goal.returns-then-is_extern
returns-then-is_extern c = extern_judged (scene_of c.args.scene.now) (scene_of c.object_judged.new.scene) (storage_given c.args.storage) c.args.at c.args.name.now (built_of c.args.scene.now.types c.args.built) (initializer_of c.args.initializer.now) c.is_extern-is_extern.result (λ u. scene_of c.refused_initializer.new.scene) c.refused_initializer.result c.is_extern-is_extern.ensures c.if-is_extern.true c.in_ok-object_judged.ensures c.refused_initializer.ensures

pub returns-else-is_extern : goal.returns-else-is_extern
returns-else-is_extern c = plain_judged (scene_of c.args.scene.now) (scene_of c.object_judged.new.scene) (storage_given c.args.storage) c.args.at c.args.name.now (built_of c.args.scene.now.types c.args.built) (initializer_of c.args.initializer.now) c.is_extern-is_extern.result c.type_or-t.result (λ u. scene_of c.object_initialized.new.scene) c.object_initialized.result c.is_extern-is_extern.ensures c.if-is_extern.false c.in_ok-object_judged.ensures c.type_or-t.ensures c.object_initialized.ensures
