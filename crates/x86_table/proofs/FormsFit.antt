-- The form of each instruction is the first that has its mnemonic and takes its operands: by cases, each computed over the table.
use Rattle.std.specs.Prelude.{◌≡◌, ℕ, Bool, true, false, if◌then◌else◌, Some, position, refl}
use Rattle.std.proofs.Common.{sym, subst}
use Rattle.x86_table.specs.declared.table.TheConstants.{FORMS}
use Rattle.x86_table.specs.declared.table.Shape.{Shape}
use Rattle.x86_table.specs.declared.table.Shape.TheVariants as shape
use Rattle.x86_table.specs.declared.mnemonic.Mnemonic.{Mnemonic}
use Rattle.x86_table.specs.declared.mnemonic.Mnemonic.TheVariants as mnemonic
use Rattle.x86_table.specs.declared.register.ByteRegister.TheVariants.{Al, Bl, Cl, Dl}
use Rattle.x86_table.specs.Mnemonic.{text_of}
use Rattle.x86_table.specs.Operand.{is_bare, pattern_of}
use Rattle.x86_table.specs.Table.{is_form_of}
use Rattle.x86_table.specs.Instruction.{mnemonic_of, operands_of, form_of}
use Rattle.x86_table.specs.declared.instruction.Instr.{Instr}
use Rattle.x86_table.specs.declared.instruction.Instr.TheVariants.{MoveNumber, MoveSymbol, Move, Load, Store, StoreNumber, StoreByte, StoreHalf, LoadExtended, ExtendByte, ExtendHalf, LoadAddress, Combine, CombineNumber, Negate, Complement, ShiftByNumber, ShiftByCl, ExtendEax, Divide, Compare, CompareNumber, Test, Set, JumpIf, Jump, Call, CallThrough, Return, Push, Pop, Fence, CompareExchange, ExchangeAdd, Exchange}
use Rattle.x86_table.specs.declared.instruction.Sign.TheVariants.{Signed, Unsigned}
use Rattle.x86_table.specs.declared.instruction.Width.TheVariants as width
use Rattle.x86_table.specs.declared.instruction.Operator.TheVariants.{Add, Subtract, Multiply, And, Or, Xor}
use Rattle.x86_table.specs.declared.instruction.Shift.TheVariants.{Left, Right, Arithmetic}
use Rattle.x86_table.specs.declared.instruction.Condition.TheVariants.{Equal, NotEqual, Less, GreaterOrEqual, LessOrEqual, Greater, Below, AboveOrEqual, BelowOrEqual, Above}

-- the first form of a mnemonic with operands of two shapes
abbrev Finds : Mnemonic → Shape → Shape → ℕ → Type 0
Finds m p q n = position (is_form_of (text_of m) (record { first = p; second = q })) FORMS ≡ Some n

-- a memory operand is found whether or not it is a name alone
memory_first : (m : Mnemonic) (q : Shape) (n : ℕ) (b : Bool) → Finds m shape.Bare q n → Finds m shape.Memory q n → Finds m (if b then shape.Bare else shape.Memory) q n
memory_first m q n true h k = h
memory_first m q n false h k = k

memory_second : (m : Mnemonic) (p : Shape) (n : ℕ) (b : Bool) → Finds m p shape.Bare n → Finds m p shape.Memory n → Finds m p (if b then shape.Bare else shape.Memory) n
memory_second m p n true h k = h
memory_second m p n false h k = k

forms_fit : (i : Instr) → position (is_form_of (text_of (mnemonic_of i)) (pattern_of (operands_of i))) FORMS ≡ Some (form_of i)
forms_fit (MoveNumber n r) = refl
forms_fit (MoveSymbol s r) = refl
forms_fit (Move q r) = refl
forms_fit (Load a r) = memory_first mnemonic.Movl shape.Word 3 (is_bare a) refl refl
forms_fit (Store r a) = memory_second mnemonic.Movl shape.Word 4 (is_bare a) refl refl
forms_fit (StoreNumber n a) = memory_second mnemonic.Movl shape.Number 5 (is_bare a) refl refl
forms_fit (StoreByte Al a) = memory_second mnemonic.Movb shape.Byte 6 (is_bare a) refl refl
forms_fit (StoreByte Bl a) = memory_second mnemonic.Movb shape.Byte 6 (is_bare a) refl refl
forms_fit (StoreByte Cl a) = memory_second mnemonic.Movb shape.Cl 6 (is_bare a) refl refl
forms_fit (StoreByte Dl a) = memory_second mnemonic.Movb shape.Byte 6 (is_bare a) refl refl
forms_fit (StoreHalf r a) = memory_second mnemonic.Movw shape.Half 7 (is_bare a) refl refl
forms_fit (LoadExtended width.Byte Signed a r) = memory_first mnemonic.Movsbl shape.Word 8 (is_bare a) refl refl
forms_fit (LoadExtended width.Byte Unsigned a r) = memory_first mnemonic.Movzbl shape.Word 9 (is_bare a) refl refl
forms_fit (LoadExtended width.Half Signed a r) = memory_first mnemonic.Movswl shape.Word 10 (is_bare a) refl refl
forms_fit (LoadExtended width.Half Unsigned a r) = memory_first mnemonic.Movzwl shape.Word 11 (is_bare a) refl refl
forms_fit (ExtendByte Signed Al r) = refl
forms_fit (ExtendByte Signed Bl r) = refl
forms_fit (ExtendByte Signed Cl r) = refl
forms_fit (ExtendByte Signed Dl r) = refl
forms_fit (ExtendByte Unsigned Al r) = refl
forms_fit (ExtendByte Unsigned Bl r) = refl
forms_fit (ExtendByte Unsigned Cl r) = refl
forms_fit (ExtendByte Unsigned Dl r) = refl
forms_fit (ExtendHalf Signed q r) = refl
forms_fit (ExtendHalf Unsigned q r) = refl
forms_fit (LoadAddress a r) = memory_first mnemonic.Leal shape.Word 16 (is_bare a) refl refl
forms_fit (Combine Add q r) = refl
forms_fit (Combine Subtract q r) = refl
forms_fit (Combine Multiply q r) = refl
forms_fit (Combine And q r) = refl
forms_fit (Combine Or q r) = refl
forms_fit (Combine Xor q r) = refl
forms_fit (CombineNumber Add n r) = refl
forms_fit (CombineNumber Subtract n r) = refl
forms_fit (CombineNumber Multiply n r) = refl
forms_fit (CombineNumber And n r) = refl
forms_fit (CombineNumber Or n r) = refl
forms_fit (CombineNumber Xor n r) = refl
forms_fit (Negate r) = refl
forms_fit (Complement r) = refl
forms_fit (ShiftByNumber Left n r) = refl
forms_fit (ShiftByNumber Right n r) = refl
forms_fit (ShiftByNumber Arithmetic n r) = refl
forms_fit (ShiftByCl Left r) = refl
forms_fit (ShiftByCl Right r) = refl
forms_fit (ShiftByCl Arithmetic r) = refl
forms_fit ExtendEax = refl
forms_fit (Divide Signed r) = refl
forms_fit (Divide Unsigned r) = refl
forms_fit (Compare q r) = refl
forms_fit (CompareNumber n r) = refl
forms_fit (Test q r) = refl
forms_fit (Set Equal Al) = refl
forms_fit (Set Equal Bl) = refl
forms_fit (Set Equal Cl) = refl
forms_fit (Set Equal Dl) = refl
forms_fit (Set NotEqual Al) = refl
forms_fit (Set NotEqual Bl) = refl
forms_fit (Set NotEqual Cl) = refl
forms_fit (Set NotEqual Dl) = refl
forms_fit (Set Less Al) = refl
forms_fit (Set Less Bl) = refl
forms_fit (Set Less Cl) = refl
forms_fit (Set Less Dl) = refl
forms_fit (Set GreaterOrEqual Al) = refl
forms_fit (Set GreaterOrEqual Bl) = refl
forms_fit (Set GreaterOrEqual Cl) = refl
forms_fit (Set GreaterOrEqual Dl) = refl
forms_fit (Set LessOrEqual Al) = refl
forms_fit (Set LessOrEqual Bl) = refl
forms_fit (Set LessOrEqual Cl) = refl
forms_fit (Set LessOrEqual Dl) = refl
forms_fit (Set Greater Al) = refl
forms_fit (Set Greater Bl) = refl
forms_fit (Set Greater Cl) = refl
forms_fit (Set Greater Dl) = refl
forms_fit (Set Below Al) = refl
forms_fit (Set Below Bl) = refl
forms_fit (Set Below Cl) = refl
forms_fit (Set Below Dl) = refl
forms_fit (Set AboveOrEqual Al) = refl
forms_fit (Set AboveOrEqual Bl) = refl
forms_fit (Set AboveOrEqual Cl) = refl
forms_fit (Set AboveOrEqual Dl) = refl
forms_fit (Set BelowOrEqual Al) = refl
forms_fit (Set BelowOrEqual Bl) = refl
forms_fit (Set BelowOrEqual Cl) = refl
forms_fit (Set BelowOrEqual Dl) = refl
forms_fit (Set Above Al) = refl
forms_fit (Set Above Bl) = refl
forms_fit (Set Above Cl) = refl
forms_fit (Set Above Dl) = refl
forms_fit (JumpIf Equal name) = refl
forms_fit (JumpIf NotEqual name) = refl
forms_fit (JumpIf Less name) = refl
forms_fit (JumpIf GreaterOrEqual name) = refl
forms_fit (JumpIf LessOrEqual name) = refl
forms_fit (JumpIf Greater name) = refl
forms_fit (JumpIf Below name) = refl
forms_fit (JumpIf AboveOrEqual name) = refl
forms_fit (JumpIf BelowOrEqual name) = refl
forms_fit (JumpIf Above name) = refl
forms_fit (Jump name) = refl
forms_fit (Call name) = refl
forms_fit (CallThrough r) = refl
forms_fit Return = refl
forms_fit (Push r) = refl
forms_fit (Pop r) = refl
forms_fit Fence = refl
forms_fit (CompareExchange r a) = memory_second mnemonic.LockCmpxchgl shape.Word 70 (is_bare a) refl refl
forms_fit (ExchangeAdd r a) = memory_second mnemonic.LockXaddl shape.Word 71 (is_bare a) refl refl
forms_fit (Exchange r a) = memory_second mnemonic.Xchgl shape.Word 72 (is_bare a) refl refl

pub form_is_found : (i : Instr) (n : ℕ) → n ≡ form_of i → position (is_form_of (text_of (mnemonic_of i)) (pattern_of (operands_of i))) FORMS ≡ Some n
form_is_found i n e =
    let P : ℕ → Type 0 = λ k. position (is_form_of (text_of (mnemonic_of i)) (pattern_of (operands_of i))) FORMS ≡ Some k in
    subst P (sym e) (forms_fit i)
