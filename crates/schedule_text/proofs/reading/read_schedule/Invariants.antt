use Rattle.std.proofs.Common.{length}
use Rattle.schedule_text.proofs.Progress.{Progress}
use Rattle.schedule_text.proofs.reading.read_schedule.Given as goal

abbrev pub invariant-loop-rest : goal.invariant-loop-rest
invariant-loop-rest l = Progress l.bytes l.number l.lines.items l.rest

abbrev pub decreases-loop-rest : goal.decreases-loop-rest
decreases-loop-rest l = length l.rest
