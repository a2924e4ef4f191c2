-- By the lemma of the same content.
use Rattle.tso_pairs.proofs.laws.front_drains.Goals as goal
use Rattle.tso_pairs.proofs.Drained

pub returns : goal.returns
returns g c = Drained.front_drains (g.L.ThreadLang.language c.args.p.now)
