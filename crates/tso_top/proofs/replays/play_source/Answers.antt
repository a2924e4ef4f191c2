use Rattle.clight_lang.specs.Meaning.{program_of}
use Rattle.clight_run.specs.Source.{IsReplayOf}
use Rattle.tso_top.proofs.Replayed.{plays}
use Rattle.tso_top.proofs.replays.play_source.Goals as goal

pub replay_source-requires : goal.replay_source-requires
replay_source-requires c = (c.programs_are_well_made.ensures c.requires.0 (program_of c.args.program.now) c.requires.1).globals

pub returns : goal.returns
returns c = plays (IsReplayOf (program_of c.args.program.now) c.args.schedule.now.lines.items) c.replay_source.result c.print.result c.replay_source.ensures c.print.ensures
