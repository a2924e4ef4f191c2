-- By the lemma of the same content.
use Rattle.tso_pairs.proofs.laws.empty_buffers_are_answered.Goals as goal
use Rattle.tso_pairs.proofs.Answered.{empties_answered}

pub returns : goal.returns
returns g c = empties_answered (g.L.ThreadLang.language c.args.p.now) _ g.P.Pairs.keeps
