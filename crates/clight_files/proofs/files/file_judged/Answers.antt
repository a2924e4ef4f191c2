use Rattle.std.proofs.Common.{sym, ◌∙◌}
use Rattle.c_tree.specs.FileShape.{file_of}
use Rattle.clight_scopes.specs.SceneOf.{scene_of}
use Rattle.clight_expressions.proofs.Stops.{stops_as, fails_as, fails_short}
use Rattle.clight_files.specs.Files.{defined_names}
use Rattle.clight_files.proofs.Ends.{begun_scene, same_externals, same_names, file_stops, settled_stops, main_stops, file_made}
use Rattle.clight_files.proofs.files.file_judged.Goals as goal

pub returns-in_err-defined : goal.returns-in_err-defined
returns-in_err-defined c = fails_short _ _ c.from_residual.result c.from_residual.ensures.1

pub returns-in_err-scene : goal.returns-in_err-scene
returns-in_err-scene c = fails_short _ _ c.from_residual-in_err-scene.result c.from_residual-in_err-scene.ensures.1

pub returns-in_err-functions : goal.returns-in_err-functions
returns-in_err-functions c = fails_as _ _ c.from_residual-in_err-functions.result c.in_err-functions.field-0.0 c.from_residual-in_err-functions.ensures.1 (file_stops c.args.length _ (file_of c.args.file.now) c.in_err-functions.field-0.0 (begun_scene _ _ (defined_names (file_of c.args.file.now)) c.in_ok-scene.ensures (c.in_ok-defined.ensures ∙ same_names _ _ c.deref.ensures.value)) (stops_as _ _ _ (same_externals _ _ _ (sym c.deref-2.ensures.value)) c.in_err-functions.ensures))

pub returns-in_err-all_settled : goal.returns-in_err-all_settled
returns-in_err-all_settled c = fails_as _ _ c.from_residual-in_err-all_settled.result c.in_err-all_settled.field-0.0 c.from_residual-in_err-all_settled.ensures.1 (settled_stops c.args.length _ (file_of c.args.file.now) (scene_of c.externals_judged.new.scene) _ c.in_err-all_settled.field-0.0 (begun_scene _ _ (defined_names (file_of c.args.file.now)) c.in_ok-scene.ensures (c.in_ok-defined.ensures ∙ same_names _ _ c.deref.ensures.value)) (same_externals _ _ _ (sym c.deref-2.ensures.value) ∙ c.in_ok-functions.ensures) c.in_err-all_settled.ensures)

pub returns-in_err-defines_main : goal.returns-in_err-defines_main
returns-in_err-defines_main c = fails_short _ _ c.from_residual-in_err-defines_main.result c.from_residual-in_err-defines_main.ensures.1

pub returns-in_err-owed : goal.returns-in_err-owed
returns-in_err-owed c = fails_as _ _ c.from_residual-in_err-owed.result c.in_err-owed.field-0.0 c.from_residual-in_err-owed.ensures.1 (main_stops c.args.length _ (file_of c.args.file.now) (scene_of c.externals_judged.new.scene) _ _ c.in_err-owed.field-0.0 (begun_scene _ _ (defined_names (file_of c.args.file.now)) c.in_ok-scene.ensures (c.in_ok-defined.ensures ∙ same_names _ _ c.deref.ensures.value)) (same_externals _ _ _ (sym c.deref-2.ensures.value) ∙ c.in_ok-functions.ensures) c.in_ok-all_settled.ensures c.in_ok-defines_main.ensures c.in_err-owed.ensures.err)

pub returns : goal.returns
returns c = file_made c.args.length _ (file_of c.args.file.now) (scene_of c.externals_judged.new.scene) _ _ (begun_scene _ _ (defined_names (file_of c.args.file.now)) c.in_ok-scene.ensures (c.in_ok-defined.ensures ∙ same_names _ _ c.deref.ensures.value)) (same_externals _ _ _ (sym c.deref-2.ensures.value) ∙ c.in_ok-functions.ensures) c.in_ok-all_settled.ensures c.in_ok-defines_main.ensures c.in_ok-owed.ensures.ok
