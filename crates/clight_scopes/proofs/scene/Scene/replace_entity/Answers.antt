use Rattle.std.proofs.Common.{ap, sym}
use Rattle.clight_scopes.specs.SceneOf.{scene_of, entity_of}
use Rattle.clight_scopes.proofs.Found.{file_replaced, file_kept}
use Rattle.clight_scopes.proofs.scene.Scene.replace_entity.Goals as goal

pub returns-in-Some-get_index_mut : goal.returns-in-Some-get_index_mut
returns-in-Some-get_index_mut c = ap (λ r. record (scene_of c.args.self.now) { file = r }) (file_replaced c.args.name.now c.args.entity c.args.self.now.file.entries c.in-Some.index c.in-Some-get_index_mut.known.now (sym c.in-Some.ensures.index) (sym c.in-Some-get_index_mut.ensures.value))

pub returns-in_default : goal.returns-in_default
returns-in_default c = ap (λ r. record (scene_of c.args.self.now) { file = r }) (sym (file_kept c.args.name.now (entity_of c.args.entity) c.args.self.now.file.entries (sym c.in_default.ensures.found)))
