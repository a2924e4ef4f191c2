use Rattle.std.proofs.Common.{take}
use Rattle.schedule_text.proofs.Sequences.{Front}
use Rattle.schedule_text.proofs.playing.replay.Given as goal

abbrev pub invariant-loop-line : goal.invariant-loop-line
invariant-loop-line g l =
    record {
      front : Front g.M.Replayed.steps (take l.line-index l.s.lines.items) (g.M.Replayed.state_of l.initial.machine) (g.M.Replayed.state_of l.machine) l.log;
      ready : g.M.Replayed.is_ready l.machine;
    }
