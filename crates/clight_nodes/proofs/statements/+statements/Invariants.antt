use Rattle.std.proofs.Common.{◌≡◌, drop}
use Rattle.c_tree.specs.FileShape.{items_of, groups_of}
use Rattle.clight_nodes.specs.Nodes.{items_nodes, groups_nodes}
use Rattle.clight_nodes.specs.Counted.{counted}
use Rattle.clight_nodes.proofs.statements.+statements.Given as goal

abbrev pub invariant-count_items-loop-item : goal.invariant-count_items-loop-item
invariant-count_items-loop-item l = counted l.count (items_nodes (items_of (drop l.item-index l.list))) ≡ counted l.initial.count (items_nodes (items_of l.list))

abbrev pub invariant-count_groups-loop-group : goal.invariant-count_groups-loop-group
invariant-count_groups-loop-group l = counted l.count (groups_nodes (groups_of (drop l.group-index l.list))) ≡ counted l.initial.count (groups_nodes (groups_of l.list))
