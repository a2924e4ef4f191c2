use Rattle.std.proofs.Common.{subst}
use Rattle.schedule_text.specs.Plays.{Replays}
use Rattle.clight_lang.specs.Meaning.{program_of}
use Rattle.clight_run.specs.Source.{Source, SourceGives, end_of_source, opening_of}
use Rattle.clight_run.specs.Standing.{source_of}
use Rattle.clight_run.proofs.replaying.replay_source.Goals as goal

pub returns-in-Ok : goal.returns-in-Ok
returns-in-Ok c =
    let end = source_of c.replay.new.machine in
    (end, subst (λ (s : Source). Replays SourceGives end_of_source c.args.s.now.lines.items s end c.replay.result) c.in-Ok.ensures c.replay.ensures.plays)

pub returns-in-Err : goal.returns-in-Err
returns-in-Err c = (opening_of (program_of c.args.p.now), tt)
