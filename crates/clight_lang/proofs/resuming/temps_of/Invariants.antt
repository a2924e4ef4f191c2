use Rattle.std.proofs.Common.{◌≡◌, fold, replicate, take}
use Rattle.tso_words.specs.declared.value.Val.TheVariants.{Undef}
use Rattle.clight_lang.specs.Rules.{take_argument}
use Rattle.clight_lang.proofs.resuming.temps_of.Given as goal

abbrev pub invariant-loop-taken : goal.invariant-loop-taken
invariant-loop-taken l =
    l.temps.items ≡ fold (take_argument l.args) (replicate l.function.temps Undef) (take l.taken-index l.function.taken.items)
