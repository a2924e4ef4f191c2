-- By the lemma of the same content.
use Rattle.tso_core.proofs.laws.matches_literally.Goals as goal
use Rattle.tso_core.proofs.Literally.{literally}

pub returns : goal.returns
returns g c = λ pace s t steps pieces right matches. literally _ _ pace s t right steps pieces matches
