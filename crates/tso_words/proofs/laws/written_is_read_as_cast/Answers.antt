use Rattle.tso_words.proofs.ByteLaws.{value_of-bytes_of}
use Rattle.tso_words.proofs.laws.written_is_read_as_cast.Goals as goal

pub returns : goal.returns
returns c = value_of-bytes_of
