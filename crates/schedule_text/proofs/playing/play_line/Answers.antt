use Rattle.schedule_text.proofs.Sequences.{line_refused}
use Rattle.schedule_text.proofs.playing.play_line.Goals as goal

pub returns-in-Err-clause-gives : goal.returns-in-Err-clause-gives
returns-in-Err-clause-gives g c =
    line_refused g.M.Replayed.steps c.in-Step.step (g.M.Replayed.state_of c.args.machine.now) (g.M.Replayed.state_of c.step.new.self) c.args.log.now c.args.what.now c.in-Err.refusal c.in-Step.is c.in-Err.ensures.gives
