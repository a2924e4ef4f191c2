use Rattle.std.proofs.Common.{◌≡◌, ◌≤◌, ◌-◌, ◌%◌, ◌^◌, map}
use Rattle.tso_core.specs.Least.{NoneBetween}
use Rattle.tso_machine.proofs.Least.{is_place_clear}
use Rattle.tso_machine.proofs.choices.least_place.Given as goal

abbrev pub invariant-loop-x : goal.invariant-loop-x
invariant-loop-x l = (0x90000000 ≤ l.x) × (l.x % 16 ≡ 0) × (l.x ≤ 2 ^ 33) × NoneBetween (is_place_clear l.memory.objects (map (λ b. b.items) l.buffers) l.i l.size l.align) 0x90000000 l.x

abbrev pub decreases-loop-x : goal.decreases-loop-x
decreases-loop-x l = 0xF0000000 - l.x
