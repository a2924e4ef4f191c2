-- By the lemma of the same content.
use Rattle.tso_pairs.proofs.laws.views_are_paired.Goals as goal
use Rattle.tso_pairs.proofs.Grouped.{views_paired}

pub returns : goal.returns
returns g c = views_paired g.P.Pairs.pairing g.P.Pairs.keeps
