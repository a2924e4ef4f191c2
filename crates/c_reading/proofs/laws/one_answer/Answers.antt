use Rattle.c_reading.proofs.OneAnswer as one
use Rattle.c_reading.proofs.laws.one_answer.Goals as goal

pub returns : goal.returns
returns c = one.one_answer
