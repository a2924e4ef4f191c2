use Rattle.c_reading.proofs.Exact as reading
use Rattle.c_reading.proofs.laws.answers_exactly.Goals as goal

pub returns : goal.returns
returns c = reading.exact
