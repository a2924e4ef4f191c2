use Rattle.std.proofs.Common.{◌≡◌, ◌≤◌, ◌-◌, ◌%◌, ◌^◌, not}
use Rattle.std.specs.List.{list_all}
use Rattle.x86_machine.specs.Kept.{threads_of}
use Rattle.x86_machine.specs.Target.{meets, stack_size}
use Rattle.tso_core.specs.Least.{NoneBetween}
use Rattle.x86_machine.proofs.skips.least_stack.Given as goal

abbrev pub invariant-loop-x : goal.invariant-loop-x
invariant-loop-x l = (0x90000000 ≤ l.x) × (l.x % 16 ≡ 0) × (l.x ≤ 2 ^ 33) × NoneBetween (λ y. list_all (λ t. not (meets t.stack stack_size y stack_size)) (threads_of l.threads)) 0x90000000 l.x

abbrev pub decreases-loop-x : goal.decreases-loop-x
decreases-loop-x l = 0xF0000001 - l.x
