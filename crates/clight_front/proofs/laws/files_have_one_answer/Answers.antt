use Rattle.clight_front.proofs.OneFront.{one_front}
use Rattle.clight_front.proofs.laws.files_have_one_answer.Goals as goal

pub returns : goal.returns
returns c = one_front
