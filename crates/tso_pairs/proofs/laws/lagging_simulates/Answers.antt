-- By the lemma of the same content.
use Rattle.tso_pairs.proofs.laws.lagging_simulates.Goals as goal
use Rattle.tso_pairs.proofs.Lagged

pub returns : goal.returns
returns g c = Lagged.lagging_simulates _ _ _ _ _ (g.S.LaggingSim.tied _ _ c.requires)
