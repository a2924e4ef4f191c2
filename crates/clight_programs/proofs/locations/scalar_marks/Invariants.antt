use Rattle.std.proofs.Common.{◌≡◌, map, not, take}
use Rattle.clight_types.specs.Types.{is_scalar}
use Rattle.clight_types.specs.Table.{types_of}
use Rattle.clight_programs.proofs.locations.scalar_marks.Given as goal

abbrev pub invariant-loop-t : goal.invariant-loop-t
invariant-loop-t l = l.marks.items ≡ map (λ t. not (is_scalar (types_of l.types) t)) (take l.t-index l.locals)
