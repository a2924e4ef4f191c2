-- By the lemma of the same content.
use Rattle.tso_pairs.proofs.laws.drains_are_no_runs.Goals as goal
use Rattle.tso_pairs.proofs.Drained.{no_runs}

pub returns : goal.returns
returns c = no_runs
