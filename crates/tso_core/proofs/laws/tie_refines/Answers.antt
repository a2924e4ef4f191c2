-- By the lemma of the same name.
use Rattle.tso_core.proofs.laws.tie_refines.Goals as goal
use Rattle.tso_core.proofs.Tied

pub returns : goal.returns
returns g c = Tied.tie_refines _ _ _ _ (g.T.MachineTie.tied _ _ c.requires)
