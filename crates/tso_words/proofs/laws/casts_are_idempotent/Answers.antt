use Rattle.tso_words.proofs.OperatorLaws.{cast_again}
use Rattle.tso_words.proofs.laws.casts_are_idempotent.Goals as goal

pub returns : goal.returns
returns c = cast_again
