use Rattle.std.proofs.Common.{◌≡◌, length}
use Rattle.schedule_text.specs.Scanning.{digits_from}
use Rattle.schedule_text.proofs.number.digits.Given as goal

abbrev pub invariant-loop-rest : goal.invariant-loop-rest
invariant-loop-rest l = digits_from l.base l.number l.rest ≡ digits_from l.base 0 l.field

abbrev pub decreases-loop-rest : goal.decreases-loop-rest
decreases-loop-rest l = length l.rest
