use Rattle.std.proofs.Common.{◌≤◌, ◌^◌, take, not}
use Rattle.std.specs.List.{list_all}
use Rattle.x86_machine.specs.Kept.{threads_of}
use Rattle.x86_machine.specs.Target.{meets, stack_size}
use Rattle.tso_core.specs.Least.{Skips}
use Rattle.x86_machine.proofs.skips.skip_stacks.Given as goal

abbrev pub invariant-loop-k : goal.invariant-loop-k
invariant-loop-k l = Skips (λ y. list_all (λ t. not (meets t.stack stack_size y stack_size)) (threads_of (take l.k l.threads))) l.x l.at × (l.at ≤ 2 ^ 33)
