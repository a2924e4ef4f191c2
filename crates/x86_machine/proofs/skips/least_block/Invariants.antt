use Rattle.std.proofs.Common.{◌≡◌, ◌≤◌, ◌-◌, ◌%◌, ◌^◌, not}
use Rattle.std.specs.List.{list_all}
use Rattle.x86_machine.specs.Target.{meets}
use Rattle.tso_core.specs.Least.{NoneBetween}
use Rattle.x86_machine.proofs.skips.least_block.Given as goal

abbrev pub invariant-loop-x : goal.invariant-loop-x
invariant-loop-x l = (0x30000000 ≤ l.x) × (l.x % 16 ≡ 0) × (l.x ≤ 2 ^ 33) × NoneBetween (λ y. list_all (λ b. not (meets b.0 b.1 y l.size)) l.blocks) 0x30000000 l.x

abbrev pub decreases-loop-x : goal.decreases-loop-x
decreases-loop-x l = 0x90000001 - l.x
