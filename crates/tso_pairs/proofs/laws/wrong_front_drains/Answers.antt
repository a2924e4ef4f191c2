-- By the lemma of the same content.
use Rattle.tso_pairs.proofs.laws.wrong_front_drains.Goals as goal
use Rattle.tso_pairs.proofs.Drained

pub returns : goal.returns
returns g c = Drained.wrong_front_drains (g.L.ThreadLang.language c.args.p.now)
