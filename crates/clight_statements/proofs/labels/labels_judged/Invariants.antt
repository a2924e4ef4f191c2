use Rattle.std.proofs.Common.{◌≡◌, drop}
use Rattle.c_tree.specs.FileShape.{labels_of as label_trees}
use Rattle.clight_scopes.specs.SceneOf.{scene_of}
use Rattle.clight_typing.specs.Statements.{labels_judged}
use Rattle.clight_statements.specs.StatementsOf.{labels_of, group_begun}
use Rattle.clight_statements.proofs.labels.labels_judged.Given as goal

abbrev pub invariant-loop-label : goal.invariant-loop-label
invariant-loop-label l = labels_judged (scene_of l.scene) (labels_of l.seen l.group) (label_trees (drop l.label-index l.list)) ≡ labels_judged (scene_of l.initial.scene) (group_begun l.initial.seen) (label_trees l.list)
