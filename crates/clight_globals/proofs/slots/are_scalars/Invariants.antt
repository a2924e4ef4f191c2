use Rattle.std.proofs.Common.{◌≡◌}
use Rattle.std.specs.List.{list_all}
use Rattle.clight_types.specs.Types.{is_scalar, body_members}
use Rattle.clight_types.specs.Table.{types_of, body_of}
use Rattle.clight_globals.proofs.Members.{all_scalars}
use Rattle.clight_globals.proofs.slots.are_scalars.Given as goal

abbrev pub invariant-loop-member : goal.invariant-loop-member
invariant-loop-member l = all_scalars (types_of l.types) l.member-iterator ≡ list_all (λ m. is_scalar (types_of l.types) m.type) (body_members (body_of l.body))
