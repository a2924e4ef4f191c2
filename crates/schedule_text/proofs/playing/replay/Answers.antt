use Rattle.std.proofs.Common.{refl, ◌∙◌}
use Rattle.schedule_text.proofs.Sequences.{front_start, front_step, front_stops, line_stops}
use Rattle.schedule_text.proofs.playing.replay.Goals as goal

pub loop-line-init : goal.loop-line-init
loop-line-init g c =
    record {
      front = front_start g.M.Replayed.steps (g.M.Replayed.state_of c.args.machine.now) (record { events = c.new.result; taken = 0 }) c.new.ensures.items refl;
      ready = c.requires;
    }

pub loop-line-preserved : goal.loop-line-preserved
loop-line-preserved g c =
    record {
      front = front_step g.M.Replayed.steps c.args.s.now.lines.items c.deref-line-items.result.now c.loop-line.line-index _ (g.M.Replayed.state_of c.args.machine.now) (g.M.Replayed.state_of c.loop-line.machine) (g.M.Replayed.state_of c.play_line.new.machine) c.loop-line.log c.play_line.new.log c.deref-line-items.ensures.value c.loop-line-test.true c.loop-line.invariant.front c.in-Ok.ensures.gives;
      ready = c.in-Ok.ensures.ready;
    }

pub returns-in-Err-NotEnabled-clause-plays : goal.returns-in-Err-NotEnabled-clause-plays
returns-in-Err-NotEnabled-clause-plays g c =
    front_stops g.M.Replayed.steps g.M.Replayed.end_of c.args.s.now.lines.items c.deref-line-items.result.now c.loop-line.line-index _ (g.M.Replayed.state_of c.args.machine.now) (g.M.Replayed.state_of c.loop-line.machine) (g.M.Replayed.state_of c.play_line.new.machine) c.loop-line.log c.play_line.new.log c.replay.result c.deref-line-items.ensures.value c.loop-line-test.true c.loop-line.invariant.front (line_stops g.M.Replayed.steps _ (g.M.Replayed.state_of c.loop-line.machine) (g.M.Replayed.state_of c.play_line.new.machine) c.loop-line.log c.play_line.new.log c.in-Err-NotEnabled.field-0 c.in-Err-NotEnabled.field-0-is c.in-Err-NotEnabled.ensures.gives) c.replay.ensures.0 c.replay.ensures.1 (c.replay.ensures.2 ∙ c.end.ensures)
