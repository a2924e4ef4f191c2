use Rattle.first_form.proofs.HasTree.{listed}
use Rattle.first_form.proofs.Ten.{ten_tokens}
use Rattle.first_form.proofs.laws.form_is_ten_tokens.Goals as goal

pub returns : goal.returns
returns c = record { listed = listed; told = ten_tokens }
