use Rattle.std.proofs.Common.{sym, ap, ◌∙◌}
use Rattle.std.proofs.lemmas.Result.{on_ok_weaker}
use Rattle.clight_scopes.specs.SceneOf.{scene_of}
use Rattle.clight_scopes.specs.Scopes.{ObjectEntity}
use Rattle.clight_globals.proofs.Behind.{new_name, object_put, object_in_file}
use Rattle.clight_globals.proofs.known.object_known.Goals as goal

pub put_file_name-requires : goal.put_file_name-requires
put_file_name-requires c = new_name c.args.name.now c.in_ok-copied.field-0 c.args.scene.now.file.entries c.in_ok-copied.ensures (sym c.in_default.ensures.found)

pub returns-in-Some-get_index_mut : goal.returns-in-Some-get_index_mut
returns-in-Some-get_index_mut c = object_in_file c.args.scene.now c.args.name.now c.args.at c.args.t c.args.defines c.in-Some.index c.in-Some-get_index_mut.known.now c.object_again.new.entity (sym c.in-Some.ensures.index) (sym c.in-Some-get_index_mut.ensures.value) (sym c.in-Some.ensures.value ∙ sym c.in-Some-get_index_mut.ensures.value) c.object_again.ensures

pub returns : goal.returns
returns c = on_ok_weaker c.put_file_name.result (object_put (scene_of c.args.scene.now) (scene_of c.put_file_name.new.self) c.args.name.now c.in_ok-copied.field-0 c.args.at c.args.t c.args.defines _ (new_name c.args.name.now c.in_ok-copied.field-0 c.args.scene.now.file.entries c.in_ok-copied.ensures (sym c.in_default.ensures.found)) c.in_ok-copied.ensures (ap (ObjectEntity c.args.t c.args.defines) c.new.ensures.items)) c.put_file_name.ensures
