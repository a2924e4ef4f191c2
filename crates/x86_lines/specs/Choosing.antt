-- What instruction the table has for a mnemonic's text and operands of given shapes.
use Rattle.std.specs.Prelude.{◌≡◌, ℕ, List, Option, Some, None, IsTrue, slice_get}
use Rattle.x86_table.specs.declared.operand.Operands.{Operands}
use Rattle.x86_table.specs.declared.mnemonic.Mnemonic.{Mnemonic}
use Rattle.x86_table.specs.declared.table.Pattern.{Pattern}
use Rattle.x86_table.specs.declared.table.Form.{Form}
use Rattle.x86_table.specs.declared.table.TheConstants.{FORMS}
use Rattle.x86_table.specs.declared.instruction.Instr.{Instr}
use Rattle.x86_table.specs.Mnemonic.{text_of}
use Rattle.x86_table.specs.Instruction.{mnemonic_of, operands_of}
use Rattle.x86_table.specs.Table.{is_form_of}
use Rattle.x86_lines.specs.Grammar.{AreOperands, HasShortShift}

-- a row of the table has the mnemonic of this text, and takes operands of these shapes
pub record HasRow (text : List ℕ) (pattern : Pattern) (m : Mnemonic) : Type 0 where
  pub row : ℕ
  pub form : Form
  pub stands : slice_get FORMS row ≡ Some form
  pub fits : IsTrue (is_form_of text pattern form)
  pub named : text_of m ≡ text

-- the instruction has that mnemonic and these operands
pub record IsChosen (text : List ℕ) (operands : Operands) (pattern : Pattern) (instr : Instr) : Type 0 where
  pub has : HasRow text pattern (mnemonic_of instr)
  pub given : operands_of instr ≡ operands
  pub short : HasShortShift instr

-- the same, for the pieces behind the mnemonic
pub record IsBehind (text : List ℕ) (given : List (List ℕ)) (instr : Instr) : Type 0 where
  pub pattern : Pattern
  pub has : HasRow text pattern (mnemonic_of instr)
  pub operands : AreOperands given (operands_of instr) pattern
  pub short : HasShortShift instr

-- an instruction behind the mnemonic that was split off
abbrev pub IsAfter : Option (List ℕ × List (List ℕ)) → Instr → Type 0
IsAfter None i = ⊥
IsAfter (Some t) i = IsBehind t.0 t.1 i
