use Rattle.std.proofs.Common.{◌≡◌, drop}
use Rattle.c_tree.specs.FileShape.{items_of, groups_of}
use Rattle.clight_scopes.specs.SceneOf.{scene_of}
use Rattle.clight_typing.specs.Statements.{no_labels, items_judged, groups_judged}
use Rattle.clight_made.specs.MadeOf.{made_list, made_groups}
use Rattle.clight_statements.specs.StatementsOf.{around_of, behind, groups_behind, group_begun}
use Rattle.clight_statements.proofs.statements.+statements.Given as goal

abbrev pub invariant-items_judged-loop-item : goal.invariant-items_judged-loop-item
invariant-items_judged-loop-item l = behind (made_list l.made.items) (items_judged (around_of l.around) (scene_of l.scene) (items_of (drop l.item-index l.list))) ≡ items_judged (around_of l.around) (scene_of l.initial.scene) (items_of l.list)

abbrev pub invariant-groups_judged-loop-group : goal.invariant-groups_judged-loop-group
invariant-groups_judged-loop-group l = groups_behind (made_groups l.made.items) (groups_judged (around_of l.around) (scene_of l.scene) (group_begun l.seen) (groups_of (drop l.group-index l.list))) ≡ groups_judged (around_of l.around) (scene_of l.initial.scene) no_labels (groups_of l.list)
