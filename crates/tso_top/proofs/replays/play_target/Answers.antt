use Rattle.x86_lang.specs.Assembly.{assembly_of}
use Rattle.x86_run.specs.Target.{IsReplayOf}
use Rattle.tso_top.proofs.Replayed.{plays}
use Rattle.tso_top.proofs.replays.play_target.Goals as goal

pub returns : goal.returns
returns c = plays (IsReplayOf (assembly_of c.args.asm.now) c.args.schedule.now.lines.items) c.replay_target.result c.print.result c.replay_target.ensures c.print.ensures
