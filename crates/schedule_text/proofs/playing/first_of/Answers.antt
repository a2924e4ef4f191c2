use Rattle.schedule_text.proofs.Paths.{second_gives, refused}
use Rattle.schedule_text.specs.Plays.{First}
use Rattle.schedule_text.proofs.playing.first_of.Goals as goal

pub returns-in-Ok-clause-gives : goal.returns-in-Ok-clause-gives
returns-in-Ok-clause-gives g c = First (c.in-Ok.event, g.M.Replayed.state_of c.step.new.self) c.in-Ok.ensures.gives

pub returns-in-Err-NotEnabled-clause-gives : goal.returns-in-Err-NotEnabled-clause-gives
returns-in-Err-NotEnabled-clause-gives g c =
    let first = refused (λ a o. g.M.Replayed.steps a c.args.first.now o) (g.M.Replayed.state_of c.args.machine.now) (g.M.Replayed.state_of c.step.new.self) c.in-Err-NotEnabled.field-0 c.in-Err-NotEnabled.field-0-is c.in-Err-NotEnabled.ensures.gives in
    second_gives g.M.Replayed.steps c.args.first.now c.args.second.now (g.M.Replayed.state_of c.args.machine.now) (g.M.Replayed.state_of c.step.new.self) (g.M.Replayed.state_of c.step-in-Err-NotEnabled.new.self) c.step-in-Err-NotEnabled.result first.0 first.1 c.step-in-Err-NotEnabled.ensures.gives
