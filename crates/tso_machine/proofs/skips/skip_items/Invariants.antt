use Rattle.std.proofs.Common.{◌≤◌, ◌^◌, take}
use Rattle.tso_memory.specs.Buffer.{unplaced}
use Rattle.tso_core.specs.Least.{Skips}
use Rattle.tso_machine.proofs.skips.skip_items.Given as goal

abbrev pub invariant-loop-k : goal.invariant-loop-k
invariant-loop-k l = Skips (λ y. unplaced y l.size (take l.k l.items)) l.x l.at × (l.at ≤ 2 ^ 33)
