use Rattle.std.proofs.Common.{◌≡◌, drop}
use Rattle.c_tree.specs.FileShape.{init_declarators_of}
use Rattle.clight_nodes.specs.Nodes.{inits_nodes}
use Rattle.clight_nodes.specs.Counted.{counted}
use Rattle.clight_nodes.proofs.statements.count_inits.Given as goal

abbrev pub invariant-loop-item : goal.invariant-loop-item
invariant-loop-item l = counted l.count (inits_nodes (init_declarators_of (drop l.item-index l.list))) ≡ counted l.initial.count (inits_nodes (init_declarators_of l.list))
