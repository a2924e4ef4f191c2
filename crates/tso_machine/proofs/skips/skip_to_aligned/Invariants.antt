use Rattle.std.proofs.Common.{◌≡◌, ◌≤◌, ◌+◌, ◌-◌, ◌%◌, ◌==◌}
use Rattle.tso_core.specs.Least.{NoneBetween}
use Rattle.tso_machine.proofs.skips.skip_to_aligned.Given as goal

abbrev pub invariant-loop-at : goal.invariant-loop-at
invariant-loop-at l = (l.x ≤ l.at) × (l.at % 16 ≡ 0) × (l.at ≤ l.end + 16) × NoneBetween (λ y. y % l.align == 0) l.x l.at

abbrev pub decreases-loop-at : goal.decreases-loop-at
decreases-loop-at l = l.end + 16 - l.at
