use Rattle.clight_run.proofs.AsRuns.{answers}
use Rattle.clight_run.proofs.laws.source_replays_are_runs.Goals as goal

pub returns : goal.returns
returns c = answers
