use Rattle.x86_run.proofs.AsRuns.{answers}
use Rattle.x86_run.proofs.laws.target_replays_are_runs.Goals as goal

pub returns : goal.returns
returns c = answers
