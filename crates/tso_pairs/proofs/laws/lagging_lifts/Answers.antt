-- By the lemma of the same content.
use Rattle.tso_pairs.proofs.laws.lagging_lifts.Goals as goal
use Rattle.tso_core.proofs.Simulated.{simulation_refines}
use Rattle.tso_pairs.proofs.Lagged

pub returns : goal.returns
returns g c = simulation_refines _ _ _ _ (Lagged.lagging_simulates _ _ _ _ _ (g.S.LaggingSim.tied _ _ c.requires))
