use Rattle.std.proofs.Common.{◌≡◌, ◌++◌, map, drop}
use Rattle.clight_types.specs.Types.{value_at}
use Rattle.clight_types.specs.Table.{types_of}
use Rattle.clight_calls.proofs.calls.values_of.Given as goal

abbrev pub invariant-loop-t : goal.invariant-loop-t
invariant-loop-t l = l.values.items ++ map (value_at (types_of l.types)) (drop l.t-index l.numbers) ≡ map (value_at (types_of l.types)) l.numbers
