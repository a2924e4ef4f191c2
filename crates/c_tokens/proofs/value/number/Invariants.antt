use Rattle.std.proofs.Common.{◌≡◌, ◌≤◌, length}
use Rattle.c_tokens.specs.Scanning.{number_from}
use Rattle.c_tokens.proofs.value.number.Given as goal

abbrev pub invariant-loop-rest : goal.invariant-loop-rest
invariant-loop-rest l = (number_from l.base l.number l.rest ≡ number_from l.base 0 l.bytes) × (l.number ≤ 4294967295)

abbrev pub decreases-loop-rest : goal.decreases-loop-rest
decreases-loop-rest l = length l.rest
