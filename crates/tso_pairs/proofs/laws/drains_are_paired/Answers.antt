-- By the lemma of the same content.
use Rattle.tso_pairs.proofs.laws.drains_are_paired.Goals as goal
use Rattle.tso_pairs.proofs.Grouped.{drains_paired}

pub returns : goal.returns
returns g c = drains_paired _ g.P.Pairs.keeps
