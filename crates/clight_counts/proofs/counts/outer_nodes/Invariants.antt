use Rattle.std.proofs.Common.{◌≡◌, drop}
use Rattle.std.specs.Prelude.{sum_by}
use Rattle.c_tree.specs.FileShape.{externals_of}
use Rattle.clight_nodes.specs.Counted.{counted}
use Rattle.clight_meaning.specs.Counts.{outer_nodes}
use Rattle.clight_counts.proofs.counts.outer_nodes.Given as goal

abbrev pub invariant-loop-external : goal.invariant-loop-external
invariant-loop-external l = counted l.nodes (sum_by outer_nodes (externals_of (drop l.external-index l.externals))) ≡ counted 0 (sum_by outer_nodes (externals_of l.externals))
