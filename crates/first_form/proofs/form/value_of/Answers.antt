use Rattle.std.proofs.Common.{rules, ap, Some}
use Rattle.first_form.proofs.Number.{not_integer, value_is}
use Rattle.first_form.proofs.form.value_of.Goals as goal

pub returns-then-eq : goal.returns-then-eq
returns-then-eq c = λ n small e. ap Some (value_is c.args.word.now c.integer_constant.result n c.integer_constant.ensures small e)

pub returns-else-eq : goal.returns-else-eq
returns-else-eq c = λ n small e. absurd (not_integer c.args.kind c.args.word.now n c.requires (λ same. search (rules, same)) small e)
