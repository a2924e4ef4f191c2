use Rattle.tso_top.proofs.Outcomes.{form_asks}
use Rattle.tso_top.proofs.laws.form_is_asked_for.Goals as goal

pub returns : goal.returns
returns c = form_asks
