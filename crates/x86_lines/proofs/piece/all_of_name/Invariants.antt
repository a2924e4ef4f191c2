use Rattle.std.proofs.Common.{◌≡◌, length}
use Rattle.x86_lines.specs.Reading.{all_of_name}
use Rattle.x86_lines.proofs.piece.all_of_name.Given as goal

abbrev pub invariant-loop-rest : goal.invariant-loop-rest
invariant-loop-rest l = all_of_name l.rest ≡ all_of_name l.bytes

abbrev pub decreases-loop-rest : goal.decreases-loop-rest
decreases-loop-rest l = length l.rest
