-- All counts are 0.
use Rattle.std.proofs.Common.{◌≡◌, true, sym, subst, arith}
use Rattle.tso_machine.specs.Known.{are_known}
use Rattle.tso_machine.proofs.KnownItems.{none_known}
use Rattle.tso_machine.proofs.known.forget.Goals as goal

pub returns-clause-none : goal.returns-clause-none
returns-clause-none c = λ os bs n. subst (λ z. are_known os bs z ≡ true) (sym (c.fill.ensures.items (λ y e. e))) (none_known os bs c.args.known.now.len (omega (arith, n)))
