use Rattle.tso_top.proofs.Outcomes.{usage_exactly}
use Rattle.tso_top.proofs.steady.run_steady.Goals as goal

pub returns-clause-usage : goal.returns-clause-usage
returns-clause-usage c = usage_exactly _ _ _ _ _ c.run.result c.run.ensures
