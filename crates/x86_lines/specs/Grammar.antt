-- The instructions of an assembly text, as lists of pieces: operands, operand lists, instructions. Syntax after GNU as for the System V i386 ABI, the source operand first.
use Rattle.std.specs.Prelude.{◌≡◌, ◌≢◌, ℕ, ◌≤◌, List, [], ◌∷◌, ◌++◌, codes, Option, Some, None, IsTrue, slice_get}
use Rattle.x86_table.specs.declared.register.Register.{Register}
use Rattle.x86_table.specs.declared.register.ByteRegister.{ByteRegister}
use Rattle.x86_table.specs.declared.register.HalfRegister.{HalfRegister}
use Rattle.x86_table.specs.declared.register.IndexRegister.{IndexRegister}
use Rattle.x86_table.specs.declared.operand.Index.{Index}
use Rattle.x86_table.specs.declared.operand.Scale.{Scale}
use Rattle.x86_table.specs.declared.operand.Operand.{Operand}
use Rattle.x86_table.specs.declared.operand.Operand.TheVariants as operand
use Rattle.x86_table.specs.declared.operand.Operands.{Operands}
use Rattle.x86_table.specs.declared.table.Shape.{Shape}
use Rattle.x86_table.specs.declared.table.Shape.TheVariants as shape
use Rattle.x86_table.specs.declared.table.Pattern.{Pattern}
use Rattle.x86_table.specs.declared.table.Form.{Form}
use Rattle.x86_table.specs.declared.table.TheConstants.{FORMS}
use Rattle.x86_table.specs.declared.instruction.Instr.{Instr}
use Rattle.x86_table.specs.declared.instruction.Instr.TheVariants.{ShiftByNumber}
use Rattle.x86_table.specs.Names.{IsName}
use Rattle.x86_table.specs.Mnemonic.{text_of}
use Rattle.x86_table.specs.Operand.{shape_of}
use Rattle.x86_table.specs.Instruction.{mnemonic_of, operands_of, name_alone}
use Rattle.x86_table.specs.Table.{is_form_of}
use Rattle.x86_lines.specs.Pieces.{pieces}
use Rattle.x86_lines.specs.Numbers.{IsWord, IsCount}
use Rattle.x86_lines.specs.Registers.{register_text, byte_text, half_text, index_register, factor}

-- what stands before the parentheses of a memory operand: its label and what is added
pub data IsFront : List (List ℕ) → Option (List ℕ) → ℕ → Type 0 where
  Nothing : IsFront [] None 0
  Plus : (p : List ℕ) (n : ℕ) → IsWord p n → IsFront (p ∷ []) None n
  Label : (name : List ℕ) → IsName name → IsFront (name ∷ []) (Some name) 0
  LabelPlus : (name p : List ℕ) (n : ℕ) → IsName name → IsWord p n → IsFront (name ∷ codes "+" ∷ p ∷ []) (Some name) n

-- the parentheses: base, index and scale
pub data IsBack : List (List ℕ) → Option Register → Option Index → Type 0 where
  Absent : IsBack [] None None
  Base : (r : Register) → IsBack (codes "(" ∷ register_text r ∷ codes ")" ∷ []) (Some r) None
  Scaled : (i : IndexRegister) (p : List ℕ) (s : Scale) → IsCount p (factor s) → IsBack (codes "(" ∷ codes "," ∷ register_text (index_register i) ∷ codes "," ∷ p ∷ codes ")" ∷ []) None (Some (record { register = i; scale = s }))
  BaseScaled : (r : Register) (i : IndexRegister) (p : List ℕ) (s : Scale) → IsCount p (factor s) → IsBack (codes "(" ∷ register_text r ∷ codes "," ∷ register_text (index_register i) ∷ codes "," ∷ p ∷ codes ")" ∷ []) (Some r) (Some (record { register = i; scale = s }))

-- no name that stands alone
abbrev pub IsNoLoneName : List (List ℕ) → Type 0
IsNoLoneName ps = (name : List ℕ) → IsName name → ps ≢ name ∷ []

-- an operand and its shape; a name alone has a shape of its own, also where a memory operand with '+0' means the same
pub data IsOperand : List (List ℕ) → Operand → Shape → Type 0 where
  Word : (r : Register) → IsOperand (register_text r ∷ []) (operand.Word r) shape.Word
  Byte : (r : ByteRegister) → IsOperand (byte_text r ∷ []) (operand.Byte r) (shape_of (operand.Byte r))
  Half : (r : HalfRegister) → IsOperand (half_text r ∷ []) (operand.Half r) shape.Half
  Through : (r : Register) → IsOperand (codes "*" ∷ register_text r ∷ []) (operand.Through r) shape.Through
  Number : (p : List ℕ) (n : ℕ) → IsWord p n → IsOperand (codes "$" ∷ p ∷ []) (operand.Number n) shape.Number
  Symbol : (name : List ℕ) → IsName name → IsOperand (codes "$" ∷ name ∷ []) (operand.Symbol (record { name = name; plus = 0 })) shape.Symbol
  SymbolPlus : (name p : List ℕ) (n : ℕ) → IsName name → IsWord p n → IsOperand (codes "$" ∷ name ∷ codes "+" ∷ p ∷ []) (operand.Symbol (record { name = name; plus = n })) shape.Symbol
  Bare : (name : List ℕ) → IsName name → IsOperand (name ∷ []) (name_alone name) shape.Bare
  Memory : (front back : List (List ℕ)) (label : Option (List ℕ)) (n : ℕ) (base : Option Register) (index : Option Index) → IsFront front label n → IsBack back base index → front ++ back ≢ [] → IsNoLoneName (front ++ back) → IsOperand (front ++ back) (operand.Memory (record { label = label; displacement = n; base = base; index = index })) shape.Memory

-- at most two operands, with a comma between them
pub data AreOperands : List (List ℕ) → Operands → Pattern → Type 0 where
  NoOperand : AreOperands [] (record { first = operand.Absent; second = operand.Absent }) (record { first = shape.Absent; second = shape.Absent })
  OneOperand : (ps : List (List ℕ)) (o : Operand) (s : Shape) → IsOperand ps o s → AreOperands ps (record { first = o; second = operand.Absent }) (record { first = s; second = shape.Absent })
  TwoOperands : (ps qs : List (List ℕ)) (o p : Operand) (s t : Shape) → IsOperand ps o s → IsOperand qs p t → AreOperands (ps ++ codes "," ∷ qs) (record { first = o; second = p }) (record { first = s; second = t })

-- the number that a shift goes by is at most 31
abbrev pub HasShortShift : Instr → Type 0
HasShortShift (ShiftByNumber shift count register) = count ≤ 31
HasShortShift _ = Unit {0}

-- an instruction: its mnemonic, and operands that a row of the table takes
pub record IsInstr (line : List (List ℕ)) (instr : Instr) : Type 0 where
  pub given : List (List ℕ)
  pub pattern : Pattern
  pub row : ℕ
  pub form : Form
  pub parts : line ≡ pieces (text_of (mnemonic_of instr)) ++ given
  pub operands : AreOperands given (operands_of instr) pattern
  pub stands : slice_get FORMS row ≡ Some form
  pub fits : IsTrue (is_form_of (text_of (mnemonic_of instr)) pattern form)
  pub short : HasShortShift instr
