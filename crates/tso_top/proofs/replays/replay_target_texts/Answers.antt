use Rattle.std.proofs.Common.{Err}
use Rattle.x86_lang.specs.Assembly.{assembly_of}
use Rattle.x86_run.specs.Target.{IsReplayOf}
use Rattle.tso_top.specs.Replays.{Playing}
use Rattle.tso_top.proofs.Replayed.{texts_lead, lines_lead, bad_text_leads, bad_schedule_leads}
use Rattle.tso_top.proofs.replays.replay_target_texts.Goals as goal

pub returns-in-Err : goal.returns-in-Err
returns-in-Err c = bad_text_leads c.args.text.now c.args.schedule.now c.in-Err.refusal c.bad_text.result c.bad_text.ensures c.in-Err.ensures.refused

pub returns-in-Ok-read_schedule : goal.returns-in-Ok-read_schedule
returns-in-Ok-read_schedule c =
    texts_lead c.args.text.now c.args.schedule.now c.in-Ok.asm c.play_target.result c.in-Ok.ensures.asm
    (lines_lead (λ lines. Playing (IsReplayOf (assembly_of c.in-Ok.asm) lines)) c.args.schedule.now c.in-Ok-read_schedule.schedule.lines.items c.play_target.result c.in-Ok-read_schedule.ensures.told c.play_target.ensures)

pub returns : goal.returns
returns c =
    texts_lead c.args.text.now c.args.schedule.now c.in-Ok.asm (Err c.bad_schedule.result) c.in-Ok.ensures.asm
    (bad_schedule_leads (λ lines. Playing (IsReplayOf (assembly_of c.in-Ok.asm) lines)) c.args.schedule.now c.in-Err-read_schedule.refusal c.bad_schedule.result c.bad_schedule.ensures c.in-Err-read_schedule.ensures.told)
