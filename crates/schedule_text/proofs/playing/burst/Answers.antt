use Rattle.std.proofs.Common.{arith}
use Rattle.schedule_text.specs.Playing.{TriesOf}
use Rattle.schedule_text.proofs.Paths.{refused, turns_stuck, turns_spent, turns_after, shown_after}
use Rattle.schedule_text.proofs.playing.burst.Goals as goal

pub returns-then-is_shown-clause-ok : goal.returns-then-is_shown-clause-ok
returns-then-is_shown-clause-ok g c =
    shown_after (TriesOf g.M.Replayed.steps c.args.way c.args.thread) c.loop-turn._turn c.args.most (g.M.Replayed.state_of c.args.machine.now) (g.M.Replayed.state_of c.loop-turn.machine) (g.M.Replayed.state_of c.attempt.new.machine) c.args.log.now c.loop-turn.log c.add.new.self c.in-Ok.event c.loop-turn.invariant.turns (omega arith) (cc) c.in-Ok.ensures.gives c.in_ok-add-in-Ok.ensures

pub returns-in-Err-NotEnabled-clause-ok : goal.returns-in-Err-NotEnabled-clause-ok
returns-in-Err-NotEnabled-clause-ok g c =
    let tries = TriesOf g.M.Replayed.steps c.args.way c.args.thread in
    let last = refused tries (g.M.Replayed.state_of c.loop-turn.machine) (g.M.Replayed.state_of c.attempt.new.machine) c.in-Err-NotEnabled.field-0 c.in-Err-NotEnabled.field-0-is c.in-Err-NotEnabled.ensures.gives in
    turns_stuck tries c.loop-turn._turn c.args.most (g.M.Replayed.state_of c.args.machine.now) (g.M.Replayed.state_of c.loop-turn.machine) (g.M.Replayed.state_of c.attempt.new.machine) c.args.log.now c.loop-turn.log c.loop-turn.invariant.turns (omega arith) last.0 last.1

pub loop-turn-preserved : goal.loop-turn-preserved
loop-turn-preserved g c =
    record {
      turns = turns_after (TriesOf g.M.Replayed.steps c.args.way c.args.thread) c.loop-turn._turn (g.M.Replayed.state_of c.args.machine.now) (g.M.Replayed.state_of c.loop-turn.machine) (g.M.Replayed.state_of c.attempt.new.machine) c.args.log.now c.loop-turn.log c.add.new.self c.in-Ok.event c.loop-turn.invariant.turns (cc) c.in-Ok.ensures.gives c.in_ok-add-in-Ok.ensures;
      ready = c.in-Ok.ensures.ready;
    }

pub returns-clause-ok : goal.returns-clause-ok
returns-clause-ok g c =
    turns_spent (TriesOf g.M.Replayed.steps c.args.way c.args.thread) c.loop-turn._turn c.args.most (g.M.Replayed.state_of c.args.machine.now) (g.M.Replayed.state_of c.loop-turn.machine) c.args.log.now c.loop-turn.log c.loop-turn.invariant.turns (omega arith)
