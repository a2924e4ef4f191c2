use Rattle.std.proofs.Common.{◌≡◌, ◌++◌, drop}
use Rattle.clight_types.specs.BuiltOf.{types_in}
use Rattle.clight_types.proofs.declarators.types_in.Given as goal

abbrev pub invariant-loop-parameter : goal.invariant-loop-parameter
invariant-loop-parameter l = l.types.items ++ types_in (drop l.parameter-index l.parameters) ≡ types_in l.parameters
