use Rattle.std.proofs.Common.{◌≡◌, ◌≤◌, ◌-◌, ◌%◌, ◌^◌, []}
use Rattle.tso_memory.specs.Buffer.{objects_lifted}
use Rattle.tso_core.specs.Least.{NoneBetween}
use Rattle.tso_machine.proofs.choices.least_block.Given as goal

abbrev pub invariant-loop-x : goal.invariant-loop-x
invariant-loop-x l = (0x30000000 ≤ l.x) × (l.x % 16 ≡ 0) × (l.x ≤ 2 ^ 33) × NoneBetween (λ y. objects_lifted y l.size [] l.objects) 0x30000000 l.x

abbrev pub decreases-loop-x : goal.decreases-loop-x
decreases-loop-x l = 0x90000000 - l.x
