-- By the lemma of the same content.
use Rattle.tso_core.proofs.laws.every_run_is_matched.Goals as goal
use Rattle.tso_core.proofs.Theorem.{machine_matched}

pub returns : goal.returns
returns g c = λ pace refines. machine_matched _ _ pace refines
