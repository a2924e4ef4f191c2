-- By the lemma of the same content.
use Rattle.tso_core.proofs.laws.sim_lifts.Goals as goal
use Rattle.tso_core.proofs.Simulated.{simulation_refines}

pub returns : goal.returns
returns g c = simulation_refines _ _ _ _ (g.S.ThreadSim.tied _ _ c.requires)
