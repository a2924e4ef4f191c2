use Rattle.std.proofs.Common.{◌≡◌, ℕ, ◌+◌, ◌++◌, drop}
use Rattle.clight_lang.specs.Placed.{functions_from}
use Rattle.clight_lang.proofs.placing.with_functions.Given as goal

abbrev pub invariant-loop-f : goal.invariant-loop-f
invariant-loop-f l = record {
  list_is : l.list.items ++ functions_from l.address (drop l.f-index l.functions) ≡ l.initial.list.items ++ functions_from 0x08000000 l.functions;
  address_is : l.address ≡ 0x08000000 + l.f-index;
}
