use Rattle.std.proofs.Common.{◌≤◌, ◌^◌, take}
use Rattle.std.specs.List.{list_all}
use Rattle.tso_memory.specs.Buffer.{unplaced}
use Rattle.tso_core.specs.Least.{Skips}
use Rattle.tso_machine.proofs.skips.skip_others.Given as goal

abbrev pub invariant-loop-k : goal.invariant-loop-k
invariant-loop-k l = Skips (λ y. list_all (λ b. unplaced y l.size b.items) (take l.k l.buffers)) l.x l.at × (l.at ≤ 2 ^ 33)
