use Rattle.first_form.proofs.HasTree.{has_tree}
use Rattle.first_form.proofs.laws.form_has_a_tree.Goals as goal

pub returns : goal.returns
returns c = has_tree
