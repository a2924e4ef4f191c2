use Rattle.tso_words.proofs.ByteLaws.{length-bytes_of, bytes_of_fit, value_of_fits}
use Rattle.tso_words.proofs.laws.bytes_and_values_fit.Goals as goal

pub returns-clause-size : goal.returns-clause-size
returns-clause-size c = length-bytes_of

pub returns-clause-bytes : goal.returns-clause-bytes
returns-clause-bytes c = bytes_of_fit

pub returns-clause-value : goal.returns-clause-value
returns-clause-value c = value_of_fits
