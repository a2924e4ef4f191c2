-- By the lemma of the same content.
use Rattle.tso_pairs.proofs.laws.no_put_is_alone.Goals as goal
use Rattle.tso_pairs.proofs.Grouped.{no_put_alone}

pub returns : goal.returns
returns g c = no_put_alone g.P.Pairs.pairing
