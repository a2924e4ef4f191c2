use Rattle.std.proofs.Common.{◌≡◌, ◌++◌, map}
use Rattle.std.specs.Vec.Iter.{into_iter_items}
use Rattle.clight_lang.specs.Syntax.{expression_of}
use Rattle.clight_types.specs.Table.{types_of}
use Rattle.clight_operands.specs.Shown.{all_typed}
use Rattle.clight_calls.specs.Calls.{arguments_of}
use Rattle.clight_calls.proofs.arguments.arguments_behind.Given as goal

abbrev pub invariant-loop-arg : goal.invariant-loop-arg
invariant-loop-arg l = map expression_of l.made.items ++ arguments_of (types_of l.types) (all_typed (into_iter_items l.arg-iterator)) l.rest ≡ map expression_of l.fn.made.items ++ arguments_of (types_of l.types) (all_typed l.fn.args.items) l.parameters
