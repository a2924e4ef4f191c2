use Rattle.tso_words.proofs.OperatorLaws.{compare-negate, negate-negate, operate-Cmp}
use Rattle.tso_words.proofs.laws.negation_holds_otherwise.Goals as goal

pub returns-clause-otherwise : goal.returns-clause-otherwise
returns-clause-otherwise c = compare-negate

pub returns-clause-twice : goal.returns-clause-twice
returns-clause-twice c = negate-negate

pub returns-clause-operator : goal.returns-clause-operator
returns-clause-operator c = operate-Cmp
