use Rattle.std.proofs.Common.{◌≡◌, ◌+◌, length}
use Rattle.x86_machine.specs.Tables.{count_below}
use Rattle.x86_machine.proofs.heap.count_below.Given as goal

abbrev pub invariant-loop-rest : goal.invariant-loop-rest
invariant-loop-rest l = record {
  value : l.count + count_below l.base l.rest ≡ count_below l.base l.blocks;
  within : l.count + length l.rest ≡ length l.blocks;
}

abbrev pub decreases-loop-rest : goal.decreases-loop-rest
decreases-loop-rest l = length l.rest
