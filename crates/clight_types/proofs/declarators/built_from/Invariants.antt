use Rattle.std.proofs.Common.{◌≡◌, drop, length, map}
use Rattle.clight_types.specs.BuiltOf.{built_of as what_is, part_of}
use Rattle.clight_types.specs.Table.{types_of}
use Rattle.clight_types.specs.Declarators.{begun, built_of}
use Rattle.clight_types.proofs.declarators.built_from.Given as goal

abbrev pub invariant-loop-part : goal.invariant-loop-part
invariant-loop-part l = (l.left ≡ length (drop l.part-index l.parts)) × (built_of l.is_parameter (what_is l.types l.b) (map part_of (drop l.part-index l.parts)) ≡ built_of l.is_parameter (begun (types_of l.initial.types) l.base) (map part_of l.parts))
