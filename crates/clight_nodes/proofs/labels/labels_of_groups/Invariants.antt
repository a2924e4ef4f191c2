use Rattle.std.proofs.Common.{◌≡◌, drop}
use Rattle.c_tree.specs.FileShape.{groups_of}
use Rattle.clight_nodes.specs.Nodes.{group_labels}
use Rattle.clight_nodes.specs.Counted.{counted}
use Rattle.clight_nodes.proofs.labels.labels_of_groups.Given as goal

abbrev pub invariant-loop-group : goal.invariant-loop-group
invariant-loop-group l = counted l.count (group_labels (groups_of (drop l.group-index l.list))) ≡ counted 0 (group_labels (groups_of l.list))
