use Rattle.std.proofs.Common.{◌≡◌, take}
use Rattle.std.specs.Prelude.{sum_by}
use Rattle.clight_lang.specs.declared.function.Local.{Local}
use Rattle.clight_programs.proofs.functions.bytes_of.Given as goal

abbrev pub invariant-loop-local : goal.invariant-loop-local
invariant-loop-local l = l.bytes ≡ sum_by (λ (x : Local). x.size) (take l.local-index l.locals)
