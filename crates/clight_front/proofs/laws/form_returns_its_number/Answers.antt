use Rattle.clight_front.proofs.FormMeans.{form_program}
use Rattle.clight_front.proofs.laws.form_returns_its_number.Goals as goal

pub returns : goal.returns
returns c = form_program
