-- By the lemma of the same content.
use Rattle.tso_core.proofs.laws.locals_are_safe.Goals as goal
use Rattle.tso_core.proofs.Safely.{always_safe}

pub returns : goal.returns
returns g c = always_safe _ (g.met.L.ThreadLang.lawful _)
