use Rattle.tso_words.proofs.OperatorLaws.{operate-words, operate-fits}
use Rattle.tso_words.proofs.laws.words_give_words.Goals as goal

pub returns-clause-known : goal.returns-clause-known
returns-clause-known c = operate-words

pub returns-clause-fits : goal.returns-clause-fits
returns-clause-fits c = operate-fits
