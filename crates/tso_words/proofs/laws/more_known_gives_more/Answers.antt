use Rattle.tso_words.proofs.BelowLaws.{operate-below, compare-below, bytes_of-below, value_of-below}
use Rattle.tso_words.proofs.laws.more_known_gives_more.Goals as goal

pub returns-clause-operator : goal.returns-clause-operator
returns-clause-operator c = operate-below

pub returns-clause-comparison : goal.returns-clause-comparison
returns-clause-comparison c = compare-below

pub returns-clause-bytes : goal.returns-clause-bytes
returns-clause-bytes c = bytes_of-below

pub returns-clause-value : goal.returns-clause-value
returns-clause-value c = value_of-below
