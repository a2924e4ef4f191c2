-- What the code's table of types is: the same without vectors and maps, in the order of its numbers.
use Rattle.std.specs.Prelude.{List, map, fold, Option}
use Rattle.std.specs.Option.{option_map}
use Rattle.clight_types.specs.declared.types.Shape.{Shape}
use Rattle.clight_types.specs.declared.types.Shape.TheVariants as s
use Rattle.clight_types.specs.declared.laid.Member.{Member}
use Rattle.clight_types.specs.declared.types.Body.{Body}
use Rattle.clight_types.specs.declared.types.Body.TheVariants as b
use Rattle.clight_types.specs.declared.types.Types as T
use Rattle.clight_types.specs.Alignments.{bytes_in}
use Rattle.clight_types.specs.Types as t

abbrev pub shape_of : Shape → t.Shape
shape_of s.Void = t.VoidShape
shape_of (s.Integer i) = t.IntegerShape i
shape_of (s.Pointer u) = t.PointerShape u
shape_of (s.Array e n size align) = t.ArrayShape e n size (bytes_in align)
shape_of (s.Struct n) = t.StructShape n
shape_of (s.Function r ps) = t.FunctionShape r ps.items

-- a member by its name
abbrev pub member_of : t.Spelling → Member → t.MemberOf
member_of name m = record { name = name; offset = m.offset; type = m.type_number }

abbrev pub members_of : List (t.Spelling × Member) → List t.MemberOf
members_of ms = map (λ m. member_of m.0 m.1) ms

abbrev pub member_named : t.Spelling → Option Member → Option t.MemberOf
member_named name m = option_map (member_of name) m

abbrev pub body_of : Body → t.BodyOf
body_of b.Open = t.Open
body_of (b.Closed size align members) = t.Closed size (bytes_in align) (members_of members.entries)

abbrev pub types_of : T.Types → t.Types
types_of x = record { shapes = map shape_of x.shapes.keys; structs = map body_of x.structs.items }

-- the table with types of these shapes
abbrev pub with_shapes : t.Types → List t.Shape → t.Types
with_shapes types shapes = fold (λ x s. (t.with_shape x s).0) types shapes
