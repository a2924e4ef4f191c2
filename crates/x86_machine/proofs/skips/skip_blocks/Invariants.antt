use Rattle.std.proofs.Common.{◌≤◌, ◌^◌, take, not}
use Rattle.std.specs.List.{list_all}
use Rattle.x86_machine.specs.Target.{meets}
use Rattle.tso_core.specs.Least.{Skips}
use Rattle.x86_machine.proofs.skips.skip_blocks.Given as goal

abbrev pub invariant-loop-k : goal.invariant-loop-k
invariant-loop-k l = Skips (λ y. list_all (λ b. not (meets b.0 b.1 y l.size)) (take l.k l.blocks)) l.x l.at × (l.at ≤ 2 ^ 33)
