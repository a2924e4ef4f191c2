use Rattle.std.proofs.Common.{◌≤◌, ◌^◌, drop, length}
use Rattle.tso_memory.specs.Buffer.{places_lifted}
use Rattle.tso_core.specs.Least.{Skips}
use Rattle.tso_machine.proofs.skips.skip_own.Given as goal

abbrev pub invariant-loop-k : goal.invariant-loop-k
invariant-loop-k l = (l.k ≤ length l.items) × Skips (λ y. places_lifted y l.size (drop l.k l.items)) l.x l.at × (l.at ≤ 2 ^ 33)

abbrev pub decreases-loop-k : goal.decreases-loop-k
decreases-loop-k l = l.k
