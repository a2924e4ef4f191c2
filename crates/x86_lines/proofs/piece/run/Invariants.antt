use Rattle.std.proofs.Common.{◌≡◌, ◌+◌, length}
use Rattle.x86_lines.specs.Reading.{run}
use Rattle.x86_lines.proofs.piece.run.Given as goal

abbrev pub invariant-loop-rest : goal.invariant-loop-rest
invariant-loop-rest l = (l.count + run l.rest ≡ run l.bytes) × (l.count + length l.rest ≡ length l.bytes)

abbrev pub decreases-loop-rest : goal.decreases-loop-rest
decreases-loop-rest l = length l.rest
