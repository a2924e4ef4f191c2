-- The instruction table: which form a mnemonic with operands of given shapes names. Mnemonics and operands after GNU as for the System V i386 ABI; the shapes are this project's own. The code compares shapes and texts by '=='.
use Rattle.std.specs.Prelude.{◌≡◌, ℕ, Bool, true, false, ◌&&◌, IsTrue, List, bytes_eq, Some, slice_get}
use Rattle.x86_table.specs.declared.table.Shape.{Shape}
use Rattle.x86_table.specs.declared.table.Shape.TheVariants.{Absent, Word, Byte, Cl, Half, Number, Symbol, Bare, Memory, Through}
use Rattle.x86_table.specs.declared.table.Pattern.{Pattern}
use Rattle.x86_table.specs.declared.table.Form.{Form}
use Rattle.x86_table.specs.Mnemonic.{text_of}

-- an operand may stand where the table has its own shape; CL is a byte register too, and a name alone a memory operand
abbrev pub takes : Shape → Shape → Bool
takes Absent Absent = true
takes Word Word = true
takes Byte Byte = true
takes Byte Cl = true
takes Cl Cl = true
takes Half Half = true
takes Number Number = true
takes Symbol Symbol = true
takes Bare Bare = true
takes Memory Memory = true
takes Memory Bare = true
takes Through Through = true
takes _ _ = false

-- both operands may stand there
abbrev pub takes_pattern : Pattern → Pattern → Bool
takes_pattern row given = takes row.first given.first && takes row.second given.second

-- a form is that of a mnemonic with operands of these shapes
abbrev pub is_form_of : List ℕ → Pattern → Form → Bool
is_form_of mnemonic given form = bytes_eq (text_of form.mnemonic) mnemonic && takes_pattern form.pattern given

-- whatever the mnemonic and the operands are, there is at most one row that fits
pub record FitsAtMostOnce (table : List Form) : Type 0 where
  pub same_row : (mnemonic : List ℕ) (given : Pattern) (i j : ℕ) (f g : Form) → slice_get table i ≡ Some f → slice_get table j ≡ Some g → IsTrue (is_form_of mnemonic given f) → IsTrue (is_form_of mnemonic given g) → i ≡ j
