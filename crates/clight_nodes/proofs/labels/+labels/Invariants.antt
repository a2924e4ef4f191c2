use Rattle.std.proofs.Common.{◌≡◌, drop, max}
use Rattle.c_tree.specs.FileShape.{items_of, groups_of}
use Rattle.clight_nodes.specs.Nodes.{items_labels, groups_labels}
use Rattle.clight_nodes.specs.Counted.{counted}
use Rattle.clight_nodes.proofs.labels.+labels.Given as goal

abbrev pub invariant-most_labels-loop-item : goal.invariant-most_labels-loop-item
invariant-most_labels-loop-item l = max l.most (counted 0 (items_labels (items_of (drop l.item-index l.list)))) ≡ counted 0 (items_labels (items_of l.list))

abbrev pub invariant-labels_in_groups-loop-group : goal.invariant-labels_in_groups-loop-group
invariant-labels_in_groups-loop-group l = max l.most (counted 0 (groups_labels (groups_of (drop l.group-index l.list)))) ≡ counted 0 (groups_labels (groups_of l.list))
