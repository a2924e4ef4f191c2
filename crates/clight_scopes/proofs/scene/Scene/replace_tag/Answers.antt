use Rattle.std.proofs.Common.{ap, sym}
use Rattle.clight_scopes.specs.SceneOf.{scene_of, tag_kind_of}
use Rattle.clight_scopes.proofs.Found.{tag_replaced, tag_kept}
use Rattle.clight_scopes.proofs.scene.Scene.replace_tag.Goals as goal

pub returns-in-Some-get_index_mut : goal.returns-in-Some-get_index_mut
returns-in-Some-get_index_mut c = ap (λ r. record (scene_of c.args.self.now) { tags = r }) (tag_replaced c.args.name.now c.args.kind c.args.self.now.tags.entries c.in-Some.index (sym c.in-Some.ensures.index))

pub returns-in_default : goal.returns-in_default
returns-in_default c = ap (λ r. record (scene_of c.args.self.now) { tags = r }) (sym (tag_kept c.args.name.now (tag_kind_of c.args.kind) c.args.self.now.tags.entries (sym c.in_default.ensures.found)))
