use Rattle.std.proofs.Common.{◌≤◌, ◌^◌, take}
use Rattle.tso_memory.specs.Buffer.{objects_lifted}
use Rattle.tso_core.specs.Least.{Skips}
use Rattle.tso_machine.proofs.skips.skip_objects.Given as goal

abbrev pub invariant-loop-k : goal.invariant-loop-k
invariant-loop-k l = Skips (λ y. objects_lifted y l.size l.own (take l.k l.objects)) l.x l.at × (l.at ≤ 2 ^ 33)
