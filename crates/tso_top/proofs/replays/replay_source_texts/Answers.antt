use Rattle.std.proofs.Common.{Err}
use Rattle.clight_lang.specs.Meaning.{program_of}
use Rattle.clight_run.specs.Source.{IsReplayOf}
use Rattle.tso_top.specs.Replays.{Playing, Scheduling}
use Rattle.tso_top.proofs.Replayed.{program_leads, lines_lead, no_program_leads, bad_schedule_leads}
use Rattle.tso_top.proofs.replays.replay_source_texts.Goals as goal

pub returns-in-Err : goal.returns-in-Err
returns-in-Err c = no_program_leads (λ p. Scheduling (λ lines. Playing (IsReplayOf p lines)) c.args.schedule.now) c.args.file.now c.in-Err.refusal c.no_program.result c.no_program.ensures c.in-Err.ensures

pub play_source-requires : goal.play_source-requires
play_source-requires c = (c.args.file.now, c.in-Ok.ensures)

pub returns-in-Ok-read_schedule : goal.returns-in-Ok-read_schedule
returns-in-Ok-read_schedule c =
    program_leads (λ p. Scheduling (λ lines. Playing (IsReplayOf p lines)) c.args.schedule.now) c.args.file.now (program_of c.in-Ok.program) c.play_source.result c.in-Ok.ensures
    (lines_lead (λ lines. Playing (IsReplayOf (program_of c.in-Ok.program) lines)) c.args.schedule.now c.in-Ok-read_schedule.schedule.lines.items c.play_source.result c.in-Ok-read_schedule.ensures.told c.play_source.ensures)

pub returns : goal.returns
returns c =
    program_leads (λ p. Scheduling (λ lines. Playing (IsReplayOf p lines)) c.args.schedule.now) c.args.file.now (program_of c.in-Ok.program) (Err c.bad_schedule.result) c.in-Ok.ensures
    (bad_schedule_leads (λ lines. Playing (IsReplayOf (program_of c.in-Ok.program) lines)) c.args.schedule.now c.in-Err-read_schedule.refusal c.bad_schedule.result c.bad_schedule.ensures c.in-Err-read_schedule.ensures.told)
