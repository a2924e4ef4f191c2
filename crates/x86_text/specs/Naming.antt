-- What the code keeps of the names that lines make, and what it looks up there: functions in the code's order. The texts do not rest on them.
use Rattle.std.specs.Prelude.{◌↔◌, ◌⊎◌, ℕ, Bool, true, false, List, codes, bytes_eq, nat_eq, Option, Some, None, IsTrue, ◌||◌, ◌&&◌}
use Rattle.std.specs.Cmp.Lexicographic.{pointwise}
use Rattle.indexmap.specs.IndexMap.{get}
use Rattle.tso_core.specs.Systems.{Names}
use Rattle.x86_table.specs.declared.operand.Operand.{Operand}
use Rattle.x86_table.specs.declared.operand.Operand.TheVariants.{Symbol, Memory}
use Rattle.x86_table.specs.declared.operand.Operands.{Operands}
use Rattle.x86_table.specs.declared.instruction.Instr.{Instr}
use Rattle.x86_table.specs.declared.instruction.Instr.TheVariants.{JumpIf, Jump, Call}
use Rattle.x86_table.specs.Instruction.{operands_of}
use Rattle.x86_text.specs.declared.line.Line.{Line}
use Rattle.x86_text.specs.declared.line.Line.TheVariants as line
use Rattle.x86_text.specs.declared.naming.Role.{Role}
use Rattle.x86_text.specs.declared.naming.Role.TheVariants as role
use Rattle.x86_text.specs.declared.naming.Roles.{Roles}
use Rattle.x86_text.specs.declared.naming.NameTable.{NameTable}
use Rattle.x86_text.specs.Text.{lines}
use Rattle.x86_text.specs.Bad.{Made, CodeLabel, DataLabel, External, IsMadeAs, all_made, Hears}

-- what a table tells of a name
abbrev pub Look : Type 0
Look = Names → Option Roles

abbrev pub look : NameTable → Look
look t name = get (pointwise nat_eq) t.roles name

-- what a name is made as
abbrev pub made_of : Role → Made
made_of role.Code = CodeLabel
made_of role.Data = DataLabel
made_of role.External = External

abbrev pub as_code : Option Roles → Bool
as_code None = false
as_code (Some r) = r.code_label

abbrev pub as_data : Option Roles → Bool
as_data None = false
as_data (Some r) = r.data_label

abbrev pub as_external : Option Roles → Bool
as_external None = false
as_external (Some r) = r.external

abbrev pub has_role : Made → Option Roles → Bool
has_role CodeLabel r = as_code r
has_role DataLabel r = as_data r
has_role External r = as_external r

-- with one role more
abbrev pub with_role : Role → Option Roles → Roles
with_role role.Code r = record { code_label = true; data_label = as_data r; external = as_external r }
with_role role.Data r = record { code_label = as_code r; data_label = true; external = as_external r }
with_role role.External r = record { code_label = as_code r; data_label = as_data r; external = true }

-- whether a use names what its place may name
abbrev pub is_service : Names → Bool
is_service name = bytes_eq name (codes "malloc") || (bytes_eq name (codes "free") || (bytes_eq name (codes "thread_create") || bytes_eq name (codes "exit")))

abbrev pub label_named : Look → Names → Bool
label_named at name = as_code (at name) || as_data (at name)

abbrev pub callee_named : Look → Names → Bool
callee_named at name = as_code (at name) || (as_external (at name) || is_service name)

abbrev pub label_or_none : Look → Option Names → Bool
label_or_none at None = true
label_or_none at (Some name) = label_named at name

abbrev pub operand_named : Look → Operand → Bool
operand_named at (Symbol s) = label_named at s.name
operand_named at (Memory m) = label_or_none at m.label
operand_named at _ = true

abbrev pub operands_named : Look → Operands → Bool
operands_named at o = operand_named at o.first && operand_named at o.second

abbrev pub instr_named : Look → Instr → Bool
instr_named at (JumpIf condition name) = as_code (at name)
instr_named at (Jump name) = as_code (at name)
instr_named at (Call name) = callee_named at name
instr_named at i = operands_named at (operands_of i)

abbrev pub line_named : Look → Line → Bool
line_named at (line.Op i) = instr_named at i
line_named at (line.Export name) = label_named at name
line_named at _ = true

-- a table tells just what these lines make
abbrev pub Tells : Look → List (Names × Made) → Type 0
Tells at all = (name : Names) (m : Made) → IsTrue (has_role m (at name)) ↔ IsMadeAs name m all

-- and behind further lines
abbrev pub Notes : Look → Look → List (Names × Made) → Type 0
Notes before behind new = (name : Names) (m : Made) → IsTrue (has_role m (behind name)) ↔ (IsTrue (has_role m (before name)) ⊎ IsMadeAs name m new)

-- the table of a text
pub record IsSurvey (text : List ℕ) (at : Look) : Type 0 where
  pub said : List (Option Line)
  pub hears : Hears (lines text) said
  pub tells : Tells at (all_made false said)
