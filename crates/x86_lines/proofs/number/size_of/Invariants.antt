use Rattle.std.proofs.Common.{◌≡◌, length, ◌<◌, ◌^◌}
use Rattle.x86_lines.specs.Reading.{value_on}
use Rattle.x86_lines.proofs.number.size_of.Given as goal

abbrev pub invariant-loop-rest : goal.invariant-loop-rest
invariant-loop-rest l = (value_on l.radix l.size l.rest ≡ value_on l.radix 0 l.digits) × (l.size < 2 ^ 128)

abbrev pub decreases-loop-rest : goal.decreases-loop-rest
decreases-loop-rest l = length l.rest
