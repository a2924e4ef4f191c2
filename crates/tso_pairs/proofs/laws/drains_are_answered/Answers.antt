-- By the lemma of the same content.
use Rattle.tso_pairs.proofs.laws.drains_are_answered.Goals as goal
use Rattle.tso_pairs.proofs.Answered.{drains_answered}

pub returns : goal.returns
returns g c = drains_answered (g.L.ThreadLang.language c.args.p.now) _ g.P.Pairs.keeps
