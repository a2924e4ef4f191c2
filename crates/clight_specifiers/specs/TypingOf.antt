-- What the code's clashes, enumerators' values and parts of declarators are.
use Rattle.std.specs.Prelude.{ℕ, List, Option, None, map, reverse, if◌then◌else◌}
use Rattle.clight_types.specs.declared.declarators.Part as P
use Rattle.clight_types.specs.BuiltOf.{part_of}
use Rattle.clight_types.specs.Declarators as d
use Rattle.clight_specifiers.specs.declared.enumerators.Clash as C
use Rattle.clight_specifiers.specs.declared.enumerators.EnumValue as E
use Rattle.clight_specifiers.specs.declared.enumerators.EnumValue.TheVariants as e
use Rattle.c_grammar.specs.Tokens as k
use Rattle.clight_operands.specs.Operands.{Naming, addressed_by}
use Rattle.clight_calls.specs.Names.{is_ampersand}
use Rattle.clight_typing.specs.Typing as t

abbrev pub clash_of : C.Clash → t.Clash
clash_of c = record { twice = c.is_twice; differs = c.differs }

abbrev pub value_of : E.EnumValue → t.EnumValue
value_of e.Next = t.NextValue
value_of (e.Stated c) = t.StatedValue c

-- the code keeps the innermost part first
abbrev pub parts_of : List P.Part → List d.Part
parts_of parts = map part_of (reverse parts)

-- the local whose address an operator takes
abbrev pub noted_local : k.Operator → Naming → Option ℕ
noted_local o name = if is_ampersand o then addressed_by name else None
