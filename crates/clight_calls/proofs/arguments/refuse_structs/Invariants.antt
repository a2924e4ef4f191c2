use Rattle.std.proofs.Common.{◌≡◌, drop}
use Rattle.clight_types.specs.Judged.{Judged}
use Rattle.clight_types.specs.Table.{types_of}
use Rattle.clight_operands.specs.Operands.{Typed}
use Rattle.clight_calls.specs.Calls.{no_structs}
use Rattle.clight_operands.specs.Shown.{all_typed}
use Rattle.clight_calls.proofs.arguments.refuse_structs.Given as goal

abbrev pub invariant-loop-arg : goal.invariant-loop-arg
invariant-loop-arg l = (j : Judged Typed) → no_structs (types_of l.types) (all_typed l.args) j ≡ no_structs (types_of l.types) (all_typed (drop l.arg-index l.args)) j
