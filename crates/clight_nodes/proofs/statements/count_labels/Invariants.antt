use Rattle.std.proofs.Common.{◌≡◌, drop}
use Rattle.c_tree.specs.FileShape.{labels_of}
use Rattle.clight_nodes.specs.Nodes.{labels_nodes}
use Rattle.clight_nodes.specs.Counted.{counted}
use Rattle.clight_nodes.proofs.statements.count_labels.Given as goal

abbrev pub invariant-loop-label : goal.invariant-loop-label
invariant-loop-label l = counted l.count (labels_nodes (labels_of (drop l.label-index l.list))) ≡ counted l.initial.count (labels_nodes (labels_of l.list))
