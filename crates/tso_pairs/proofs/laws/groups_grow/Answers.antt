-- By the lemma of the same content.
use Rattle.tso_pairs.proofs.laws.groups_grow.Goals as goal
use Rattle.tso_pairs.proofs.Grown

pub returns : goal.returns
returns g c = Grown.groups_grow g.P.Pairs.pairing
