use Rattle.std.proofs.Common.{◌≡◌, ◌≤◌, length}
use Rattle.schedule_text.specs.Scanning.{behind, members}
use Rattle.schedule_text.proofs.split.behind.Given as goal

abbrev pub invariant-loop-rest : goal.invariant-loop-rest
invariant-loop-rest l = (behind (members l.class) l.rest ≡ behind (members l.class) l.bytes) × (length l.rest ≤ length l.bytes)

abbrev pub decreases-loop-rest : goal.decreases-loop-rest
decreases-loop-rest l = length l.rest
