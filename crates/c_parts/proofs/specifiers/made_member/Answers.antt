use Rattle.std.proofs.Common.{rules}
use Rattle.c_tree.specs.declared.expr.Direct.TheViews.{the_lemmas}
use Rattle.c_tree.proofs.Rows.{specifiers_same, declarators_same}
use Rattle.c_parts.proofs.specifiers.made_member.Goals as goal

pub returns : goal.returns
returns c = λ r. search (rules, the_lemmas, specifiers_same, declarators_same)
