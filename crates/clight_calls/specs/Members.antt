-- Members (6.5.2.3): `.` looks at an object, `->` at what a pointer points to.
use Rattle.std.specs.Prelude.{ℕ, Option, Some, None}
use Rattle.c_grammar.specs.Tokens as k
use Rattle.clight_lang.specs.Syntax.{Expression}
use Rattle.clight_types.specs.declared.kind.Value.{Value}
use Rattle.clight_types.specs.declared.kind.Value.TheVariants as v
use Rattle.clight_types.specs.declared.kind.Denoted.{Denoted}
use Rattle.clight_types.specs.declared.kind.Denoted.TheVariants as d
use Rattle.clight_types.specs.declared.kind.Constant.TheVariants as constant
use Rattle.clight_types.specs.declared.rule.Rule.TheVariants as rule
use Rattle.clight_types.specs.Judged.{Judged, value, fault}
use Rattle.clight_types.specs.Types.{Types, Spelling, MemberOf, member_at}
use Rattle.clight_operands.specs.Applied.{moved}
use Rattle.clight_operands.specs.Operands.{Typed, plain, recovered, value_in, read_in}

abbrev pub member_by : ℕ → ℕ → Expression → Option MemberOf → Judged Typed
member_by at name_at address None = fault rule.NoMember name_at (value (recovered at))
member_by at name_at address (Some m) = value (plain at (d.Object m.type) constant.No (moved m.offset address))

abbrev pub dot_member : Types → Denoted → Spelling → Option MemberOf
dot_member types (d.Object t) name = member_at types t name
dot_member types _ name = None

abbrev pub arrow_member : Types → Value → Spelling → Option MemberOf
arrow_member types (v.Pointer t) name = member_at types t name
arrow_member types _ name = None

abbrev pub member_typed : Types → ℕ → k.Access → ℕ → Spelling → Typed → Judged Typed
member_typed types at k.Dot name_at name a = member_by at name_at a.meaning (dot_member types a.denoted name)
member_typed types at k.Arrow name_at name a = member_by at name_at (read_in types a) (arrow_member types (value_in types a) name)
