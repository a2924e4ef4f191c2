use Rattle.schedule_text.specs.Playing.{TriesOf}
use Rattle.schedule_text.proofs.Paths.{Turns}
use Rattle.schedule_text.proofs.playing.burst.Given as goal

abbrev pub invariant-loop-turn : goal.invariant-loop-turn
invariant-loop-turn g l =
    record {
      turns : Turns (TriesOf g.M.Replayed.steps l.way l.thread) l._turn (g.M.Replayed.state_of l.initial.machine) (g.M.Replayed.state_of l.machine) l.initial.log l.log;
      ready : g.M.Replayed.is_ready l.machine;
    }
