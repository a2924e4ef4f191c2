-- By the lemma of the same content.
use Rattle.tso_core.proofs.laws.refines_compose.Goals as goal
use Rattle.tso_core.proofs.Compose.{refines_trans}

pub returns : goal.returns
returns g c = λ j k first second. refines_trans _ _ _ j k first second
