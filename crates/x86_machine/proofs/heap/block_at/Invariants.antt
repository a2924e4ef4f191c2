use Rattle.std.proofs.Common.{◌≡◌, length}
use Rattle.x86_machine.specs.Target.{block_at}
use Rattle.x86_machine.proofs.heap.block_at.Given as goal

abbrev pub invariant-loop-rest : goal.invariant-loop-rest
invariant-loop-rest l = block_at l.rest l.base ≡ block_at l.blocks l.base

abbrev pub decreases-loop-rest : goal.decreases-loop-rest
decreases-loop-rest l = length l.rest
