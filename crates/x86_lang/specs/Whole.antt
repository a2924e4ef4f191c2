-- The parts that some assembly text has: each name is made once, each use names a thing of the right kind, and the numbers are in their ranges. The rules are those of the text, docs/ASSEMBLY.md.
use Rattle.std.specs.Prelude.{◌≡◌, ◌⊎◌, ℕ, ◌^◌, ◌<◌, ◌≤◌, List, [], ◌∷◌, ◌++◌, codes, Option, Some, None}
use Rattle.tso_core.specs.Systems.{Names, Places}
use Rattle.tso_core.specs.Placing.{NamesDiffer}
use Rattle.x86_table.specs.Names.{AllOf, IsName}
use Rattle.x86_table.specs.declared.operand.Operand.{Operand}
use Rattle.x86_table.specs.declared.operand.Operand.TheVariants.{Number, Symbol, Memory}
use Rattle.x86_table.specs.declared.instruction.Instr.{Instr}
use Rattle.x86_table.specs.declared.instruction.Instr.TheVariants.{JumpIf, Jump, Call, ShiftByNumber}
use Rattle.x86_table.specs.Instruction.{operands_of}
use Rattle.x86_lang.specs.declared.assembly.StaticLine.{StaticLine}
use Rattle.x86_lang.specs.declared.assembly.StaticLine.TheVariants as statics
use Rattle.x86_lang.specs.declared.assembly.Parts.{Parts}
use Rattle.x86_lang.specs.Assembly.{code_start, data_start, code_labels, labels_of, instructions, code_end, data_end, heap_start}

-- the name is among these
abbrev pub IsAmong : Names → List Names → Type 0
IsAmong name [] = ⊥
IsAmong name (x ∷ xs) = (name ≡ x) ⊎ IsAmong name xs

-- the name is that of a place
abbrev pub IsPlaced : Names → Places → Type 0
IsPlaced name [] = ⊥
IsPlaced name (p ∷ ps) = (name ≡ p.0) ⊎ IsPlaced name ps

-- what the machine itself answers to a call
abbrev pub services : List Names
services = codes "malloc" ∷ codes "free" ∷ codes "thread_create" ∷ codes "exit" ∷ []

-- labels and externals: no name twice, none that of a service
abbrev pub names_made : Parts → Places
names_made a = labels_of a ++ a.externs

-- a label of code; any label; what a call may name
abbrev pub IsCodeLabel : Parts → Names → Type 0
IsCodeLabel a name = IsPlaced name (code_labels code_start a.code)

abbrev pub IsLabel : Parts → Names → Type 0
IsLabel a name = IsPlaced name (labels_of a)

abbrev pub IsCallable : Parts → Names → Type 0
IsCallable a name = IsCodeLabel a name ⊎ (IsPlaced name a.externs ⊎ IsAmong name services)

-- the name that an operand has, if any, is a label
abbrev pub IsLabelOrNone : Parts → Option Names → Type 0
IsLabelOrNone a None = Unit {0}
IsLabelOrNone a (Some name) = IsLabel a name

abbrev pub UsesLabels : Parts → Operand → Type 0
UsesLabels a (Symbol s) = IsLabel a s.name
UsesLabels a (Memory m) = IsLabelOrNone a m.label
UsesLabels a _ = Unit {0}

-- an instruction names what its place may name; a shift's count is at most 31
abbrev pub IsRightInstr : Parts → Instr → Type 0
IsRightInstr a (JumpIf condition name) = IsCodeLabel a name
IsRightInstr a (Jump name) = IsCodeLabel a name
IsRightInstr a (Call name) = IsCallable a name
IsRightInstr a (ShiftByNumber shift count register) = count ≤ 31
IsRightInstr a instr = UsesLabels a (operands_of instr).first × UsesLabels a (operands_of instr).second

-- the numbers of an instruction are words
abbrev pub HasWord : Operand → Type 0
HasWord (Number n) = n < 2 ^ 32
HasWord (Symbol s) = s.plus < 2 ^ 32
HasWord (Memory m) = m.displacement < 2 ^ 32
HasWord _ = Unit {0}

abbrev pub HasWords : Instr → Type 0
HasWords instr = HasWord (operands_of instr).first × HasWord (operands_of instr).second

-- a number of the data fits its width
abbrev pub FitsWidth : StaticLine → Type 0
FitsWidth (statics.Byte n) = n < 2 ^ 8
FitsWidth (statics.Short n) = n < 2 ^ 16
FitsWidth (statics.Long n) = n < 2 ^ 32
FitsWidth (statics.Zero n) = n < 2 ^ 32
FitsWidth _ = Unit {0}

-- what '.balign' takes
abbrev pub IsAlignment : StaticLine → Type 0
IsAlignment (statics.Balign n) = (n ≡ 1) ⊎ ((n ≡ 2) ⊎ ((n ≡ 4) ⊎ (n ≡ 16)))
IsAlignment _ = Unit {0}

-- an external takes at most 64 words
abbrev pub IsExtern : Names × ℕ → Type 0
IsExtern e = e.1 ≤ 64

-- a name that is made: of the form of names, and not that of a service
abbrev pub IsMade : Names × ℕ → Type 0
IsMade p = IsName p.0 × (IsAmong p.0 services → ⊥)

-- some text has these parts
pub record IsWhole (a : Parts) : Type 0 where
  pub names_differ : NamesDiffer (names_made a)
  pub names_made_right : AllOf IsMade (names_made a)
  pub uses : AllOf (IsRightInstr a) (instructions a.code)
  pub exports : AllOf (IsLabel a) a.exports
  pub starts : IsCodeLabel a (codes "main")
  pub extern_words : AllOf IsExtern a.externs
  pub numbers : AllOf HasWords (instructions a.code)
  pub widths : AllOf FitsWidth a.statics
  pub pace_fits : a.pace < 2 ^ 128
  pub alignments : AllOf IsAlignment a.statics
  -- at most 402,653,184 instructions and 268,435,456 bytes of data: they end where the data and the heap begin
  pub code_fits : code_end code_start a.code ≤ data_start
  pub data_fits : data_end data_start a.statics ≤ heap_start
