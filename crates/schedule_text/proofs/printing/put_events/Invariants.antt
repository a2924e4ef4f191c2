use Rattle.std.proofs.Common.{◌≡◌, ◌++◌, length}
use Rattle.schedule_text.specs.Printed.{events_text}
use Rattle.schedule_text.proofs.printing.put_events.Given as goal

abbrev pub invariant-loop-rest : goal.invariant-loop-rest
invariant-loop-rest l = l.out.items ++ events_text l.rest ≡ l.initial.out.items ++ events_text l.events

abbrev pub decreases-loop-rest : goal.decreases-loop-rest
decreases-loop-rest l = length l.rest
