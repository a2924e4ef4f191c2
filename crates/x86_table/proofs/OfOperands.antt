-- Each instruction is that of its mnemonic and operands, and of no others: by cases.
use Rattle.std.specs.Prelude.{IfSome, IfNone, ◌≡◌, ℕ, List, Bool, true, false, ◌==◌, Option, Some, None, if◌then◌else◌, unwrap_or, refl}
use Rattle.std.proofs.Common.{◌∙◌, sym, ap, subst}
use Rattle.std.proofs.lemmas.Bool.{eqb-true}
use Rattle.x86_table.specs.declared.register.Register.{Register}
use Rattle.x86_table.specs.declared.register.ByteRegister.{ByteRegister}
use Rattle.x86_table.specs.declared.register.ByteRegister.TheVariants.{Cl}
use Rattle.x86_table.specs.declared.register.HalfRegister.{HalfRegister}
use Rattle.x86_table.specs.declared.operand.Index.{Index}
use Rattle.x86_table.specs.declared.operand.Symbol as symbols
use Rattle.x86_table.specs.declared.operand.Address.{Address}
use Rattle.x86_table.specs.declared.operand.Operand.{Operand}
use Rattle.x86_table.specs.declared.operand.Operand.TheVariants.{Absent, Word, Byte, Half, Number, Symbol, Memory, Through}
use Rattle.x86_table.specs.declared.operand.Operands.{Operands}
use Rattle.x86_table.specs.declared.mnemonic.Mnemonic.{Mnemonic}
use Rattle.x86_table.specs.declared.mnemonic.Mnemonic.TheVariants as mnemonic
use Rattle.x86_table.specs.declared.instruction.Instr.{Instr}
use Rattle.x86_table.specs.declared.instruction.Instr.TheVariants.{MoveNumber, MoveSymbol, Move, Load, Store, StoreNumber, StoreByte, StoreHalf, LoadExtended, ExtendByte, ExtendHalf, LoadAddress, Combine, CombineNumber, Negate, Complement, ShiftByNumber, ShiftByCl, ExtendEax, Divide, Compare, CompareNumber, Test, Set, JumpIf, Jump, Call, CallThrough, Return, Push, Pop, Fence, CompareExchange, ExchangeAdd, Exchange}
use Rattle.x86_table.specs.declared.instruction.Sign.TheVariants.{Signed, Unsigned}
use Rattle.x86_table.specs.declared.instruction.Width.TheVariants as width
use Rattle.x86_table.specs.declared.instruction.Operator.TheVariants.{Add, Subtract, Multiply, And, Or, Xor}
use Rattle.x86_table.specs.declared.instruction.Shift.TheVariants.{Left, Right, Arithmetic}
use Rattle.x86_table.specs.declared.instruction.Condition.TheVariants.{Equal, NotEqual, Less, GreaterOrEqual, LessOrEqual, Greater, Below, AboveOrEqual, BelowOrEqual, Above}
use Rattle.x86_table.specs.Instruction.{mnemonic_of, operands_of, two, name_alone}
use Rattle.x86_table.specs.OfOperands.{instr_of, instr_at, on_parts, number_to_register, symbol_to_register, register_to_register, memory_to_register, register_to_memory, number_to_memory, byte_to_memory, half_to_memory, half_to_register, on_register, on_nothing, on_byte, through_register, cl_to_register, byte_to_register, on_name, on_memory}

found : (i : Instr) → instr_of (mnemonic_of i) (operands_of i) ≡ Some i
found (MoveNumber n r) = refl
found (CombineNumber Add n r) = refl
found (CombineNumber Subtract n r) = refl
found (CombineNumber Multiply n r) = refl
found (CombineNumber And n r) = refl
found (CombineNumber Or n r) = refl
found (CombineNumber Xor n r) = refl
found (ShiftByNumber Left n r) = refl
found (ShiftByNumber Right n r) = refl
found (ShiftByNumber Arithmetic n r) = refl
found (CompareNumber n r) = refl
found (MoveSymbol s r) = refl
found (Move q r) = refl
found (Combine Add q r) = refl
found (Combine Subtract q r) = refl
found (Combine Multiply q r) = refl
found (Combine And q r) = refl
found (Combine Or q r) = refl
found (Combine Xor q r) = refl
found (Compare q r) = refl
found (Test q r) = refl
found (Load a r) = refl
found (LoadExtended width.Byte Signed a r) = refl
found (LoadExtended width.Byte Unsigned a r) = refl
found (LoadExtended width.Half Signed a r) = refl
found (LoadExtended width.Half Unsigned a r) = refl
found (LoadAddress a r) = refl
found (Store r a) = refl
found (CompareExchange r a) = refl
found (ExchangeAdd r a) = refl
found (Exchange r a) = refl
found (StoreNumber n a) = refl
found (StoreByte q a) = refl
found (StoreHalf q a) = refl
found (ExtendHalf Signed q r) = refl
found (ExtendHalf Unsigned q r) = refl
found (Negate r) = refl
found (Complement r) = refl
found (Divide Signed r) = refl
found (Divide Unsigned r) = refl
found (Push r) = refl
found (Pop r) = refl
found ExtendEax = refl
found Return = refl
found Fence = refl
found (Set Equal q) = refl
found (Set NotEqual q) = refl
found (Set Less q) = refl
found (Set GreaterOrEqual q) = refl
found (Set LessOrEqual q) = refl
found (Set Greater q) = refl
found (Set Below q) = refl
found (Set AboveOrEqual q) = refl
found (Set BelowOrEqual q) = refl
found (Set Above q) = refl
found (CallThrough r) = refl
found (ShiftByCl Left r) = refl
found (ShiftByCl Right r) = refl
found (ShiftByCl Arithmetic r) = refl
found (ExtendByte Signed q r) = refl
found (ExtendByte Unsigned q r) = refl
found (JumpIf Equal name) = refl
found (JumpIf NotEqual name) = refl
found (JumpIf Less name) = refl
found (JumpIf GreaterOrEqual name) = refl
found (JumpIf LessOrEqual name) = refl
found (JumpIf Greater name) = refl
found (JumpIf Below name) = refl
found (JumpIf AboveOrEqual name) = refl
found (JumpIf BelowOrEqual name) = refl
found (JumpIf Above name) = refl
found (Jump name) = refl
found (Call name) = refl

-- an instruction has this mnemonic and these operands
abbrev Has : Mnemonic → Operand → Operand → Instr → Type 0
Has m p q i = (mnemonic_of i ≡ m) × (operands_of i ≡ two p q)

has : (m : Mnemonic) (p q : Operand) (x i : Instr) → Has m p q x → Some x ≡ Some i → Has m p q i
has m p q x i h e = let P : Instr → Type 0 = λ y. Has m p q y in subst P (ap (λ o. unwrap_or o x) e) h

number_to_register_back : (m : Mnemonic) (n : ℕ) (r : Register) (i : Instr) → number_to_register m n r ≡ Some i → Has m (Number n) (Word r) i
number_to_register_back mnemonic.Movl n r i e = has _ _ _ (MoveNumber n r) i (refl, refl) e
number_to_register_back mnemonic.Addl n r i e = has _ _ _ (CombineNumber Add n r) i (refl, refl) e
number_to_register_back mnemonic.Subl n r i e = has _ _ _ (CombineNumber Subtract n r) i (refl, refl) e
number_to_register_back mnemonic.Imull n r i e = has _ _ _ (CombineNumber Multiply n r) i (refl, refl) e
number_to_register_back mnemonic.Andl n r i e = has _ _ _ (CombineNumber And n r) i (refl, refl) e
number_to_register_back mnemonic.Orl n r i e = has _ _ _ (CombineNumber Or n r) i (refl, refl) e
number_to_register_back mnemonic.Xorl n r i e = has _ _ _ (CombineNumber Xor n r) i (refl, refl) e
number_to_register_back mnemonic.Shll n r i e = has _ _ _ (ShiftByNumber Left n r) i (refl, refl) e
number_to_register_back mnemonic.Shrl n r i e = has _ _ _ (ShiftByNumber Right n r) i (refl, refl) e
number_to_register_back mnemonic.Sarl n r i e = has _ _ _ (ShiftByNumber Arithmetic n r) i (refl, refl) e
number_to_register_back mnemonic.Cmpl n r i e = has _ _ _ (CompareNumber n r) i (refl, refl) e
number_to_register_back _ n r i e = absurd cc

symbol_to_register_back : (m : Mnemonic) (s : symbols.Symbol) (r : Register) (i : Instr) → symbol_to_register m s r ≡ Some i → Has m (Symbol s) (Word r) i
symbol_to_register_back mnemonic.Movl s r i e = has _ _ _ (MoveSymbol s r) i (refl, refl) e
symbol_to_register_back _ s r i e = absurd cc

register_to_register_back : (m : Mnemonic) (q : Register) (r : Register) (i : Instr) → register_to_register m q r ≡ Some i → Has m (Word q) (Word r) i
register_to_register_back mnemonic.Movl q r i e = has _ _ _ (Move q r) i (refl, refl) e
register_to_register_back mnemonic.Addl q r i e = has _ _ _ (Combine Add q r) i (refl, refl) e
register_to_register_back mnemonic.Subl q r i e = has _ _ _ (Combine Subtract q r) i (refl, refl) e
register_to_register_back mnemonic.Imull q r i e = has _ _ _ (Combine Multiply q r) i (refl, refl) e
register_to_register_back mnemonic.Andl q r i e = has _ _ _ (Combine And q r) i (refl, refl) e
register_to_register_back mnemonic.Orl q r i e = has _ _ _ (Combine Or q r) i (refl, refl) e
register_to_register_back mnemonic.Xorl q r i e = has _ _ _ (Combine Xor q r) i (refl, refl) e
register_to_register_back mnemonic.Cmpl q r i e = has _ _ _ (Compare q r) i (refl, refl) e
register_to_register_back mnemonic.Testl q r i e = has _ _ _ (Test q r) i (refl, refl) e
register_to_register_back _ q r i e = absurd cc

memory_to_register_back : (m : Mnemonic) (a : Address) (r : Register) (i : Instr) → memory_to_register m a r ≡ Some i → Has m (Memory a) (Word r) i
memory_to_register_back mnemonic.Movl a r i e = has _ _ _ (Load a r) i (refl, refl) e
memory_to_register_back mnemonic.Movsbl a r i e = has _ _ _ (LoadExtended width.Byte Signed a r) i (refl, refl) e
memory_to_register_back mnemonic.Movzbl a r i e = has _ _ _ (LoadExtended width.Byte Unsigned a r) i (refl, refl) e
memory_to_register_back mnemonic.Movswl a r i e = has _ _ _ (LoadExtended width.Half Signed a r) i (refl, refl) e
memory_to_register_back mnemonic.Movzwl a r i e = has _ _ _ (LoadExtended width.Half Unsigned a r) i (refl, refl) e
memory_to_register_back mnemonic.Leal a r i e = has _ _ _ (LoadAddress a r) i (refl, refl) e
memory_to_register_back _ a r i e = absurd cc

register_to_memory_back : (m : Mnemonic) (r : Register) (a : Address) (i : Instr) → register_to_memory m r a ≡ Some i → Has m (Word r) (Memory a) i
register_to_memory_back mnemonic.Movl r a i e = has _ _ _ (Store r a) i (refl, refl) e
register_to_memory_back mnemonic.LockCmpxchgl r a i e = has _ _ _ (CompareExchange r a) i (refl, refl) e
register_to_memory_back mnemonic.LockXaddl r a i e = has _ _ _ (ExchangeAdd r a) i (refl, refl) e
register_to_memory_back mnemonic.Xchgl r a i e = has _ _ _ (Exchange r a) i (refl, refl) e
register_to_memory_back _ r a i e = absurd cc

number_to_memory_back : (m : Mnemonic) (n : ℕ) (a : Address) (i : Instr) → number_to_memory m n a ≡ Some i → Has m (Number n) (Memory a) i
number_to_memory_back mnemonic.Movl n a i e = has _ _ _ (StoreNumber n a) i (refl, refl) e
number_to_memory_back _ n a i e = absurd cc

byte_to_memory_back : (m : Mnemonic) (q : ByteRegister) (a : Address) (i : Instr) → byte_to_memory m q a ≡ Some i → Has m (Byte q) (Memory a) i
byte_to_memory_back mnemonic.Movb q a i e = has _ _ _ (StoreByte q a) i (refl, refl) e
byte_to_memory_back _ q a i e = absurd cc

half_to_memory_back : (m : Mnemonic) (q : HalfRegister) (a : Address) (i : Instr) → half_to_memory m q a ≡ Some i → Has m (Half q) (Memory a) i
half_to_memory_back mnemonic.Movw q a i e = has _ _ _ (StoreHalf q a) i (refl, refl) e
half_to_memory_back _ q a i e = absurd cc

half_to_register_back : (m : Mnemonic) (q : HalfRegister) (r : Register) (i : Instr) → half_to_register m q r ≡ Some i → Has m (Half q) (Word r) i
half_to_register_back mnemonic.Movswl q r i e = has _ _ _ (ExtendHalf Signed q r) i (refl, refl) e
half_to_register_back mnemonic.Movzwl q r i e = has _ _ _ (ExtendHalf Unsigned q r) i (refl, refl) e
half_to_register_back _ q r i e = absurd cc

on_register_back : (m : Mnemonic) (r : Register) (i : Instr) → on_register m r ≡ Some i → Has m (Word r) Absent i
on_register_back mnemonic.Negl r i e = has _ _ _ (Negate r) i (refl, refl) e
on_register_back mnemonic.Notl r i e = has _ _ _ (Complement r) i (refl, refl) e
on_register_back mnemonic.Idivl r i e = has _ _ _ (Divide Signed r) i (refl, refl) e
on_register_back mnemonic.Divl r i e = has _ _ _ (Divide Unsigned r) i (refl, refl) e
on_register_back mnemonic.Pushl r i e = has _ _ _ (Push r) i (refl, refl) e
on_register_back mnemonic.Popl r i e = has _ _ _ (Pop r) i (refl, refl) e
on_register_back _ r i e = absurd cc

on_nothing_back : (m : Mnemonic) (i : Instr) → on_nothing m ≡ Some i → Has m Absent Absent i
on_nothing_back mnemonic.Cltd i e = has _ _ _ ExtendEax i (refl, refl) e
on_nothing_back mnemonic.Ret i e = has _ _ _ Return i (refl, refl) e
on_nothing_back mnemonic.Mfence i e = has _ _ _ Fence i (refl, refl) e
on_nothing_back _ i e = absurd cc

on_byte_back : (m : Mnemonic) (q : ByteRegister) (i : Instr) → on_byte m q ≡ Some i → Has m (Byte q) Absent i
on_byte_back mnemonic.Sete q i e = has _ _ _ (Set Equal q) i (refl, refl) e
on_byte_back mnemonic.Setne q i e = has _ _ _ (Set NotEqual q) i (refl, refl) e
on_byte_back mnemonic.Setl q i e = has _ _ _ (Set Less q) i (refl, refl) e
on_byte_back mnemonic.Setge q i e = has _ _ _ (Set GreaterOrEqual q) i (refl, refl) e
on_byte_back mnemonic.Setle q i e = has _ _ _ (Set LessOrEqual q) i (refl, refl) e
on_byte_back mnemonic.Setg q i e = has _ _ _ (Set Greater q) i (refl, refl) e
on_byte_back mnemonic.Setb q i e = has _ _ _ (Set Below q) i (refl, refl) e
on_byte_back mnemonic.Setae q i e = has _ _ _ (Set AboveOrEqual q) i (refl, refl) e
on_byte_back mnemonic.Setbe q i e = has _ _ _ (Set BelowOrEqual q) i (refl, refl) e
on_byte_back mnemonic.Seta q i e = has _ _ _ (Set Above q) i (refl, refl) e
on_byte_back _ q i e = absurd cc

through_register_back : (m : Mnemonic) (r : Register) (i : Instr) → through_register m r ≡ Some i → Has m (Through r) Absent i
through_register_back mnemonic.Call r i e = has _ _ _ (CallThrough r) i (refl, refl) e
through_register_back _ r i e = absurd cc

cl_to_register_back : (m : Mnemonic) (q : ByteRegister) (r : Register) (i : Instr) → cl_to_register m q r ≡ Some i → Has m (Byte q) (Word r) i
cl_to_register_back mnemonic.Shll Cl r i e = has _ _ _ (ShiftByCl Left r) i (refl, refl) e
cl_to_register_back mnemonic.Shrl Cl r i e = has _ _ _ (ShiftByCl Right r) i (refl, refl) e
cl_to_register_back mnemonic.Sarl Cl r i e = has _ _ _ (ShiftByCl Arithmetic r) i (refl, refl) e
cl_to_register_back _ _ r i e = absurd cc

byte_to_register_back : (m : Mnemonic) (q : ByteRegister) (r : Register) (i : Instr) → byte_to_register m q r ≡ Some i → Has m (Byte q) (Word r) i
byte_to_register_back mnemonic.Movsbl q r i e = has _ _ _ (ExtendByte Signed q r) i (refl, refl) e
byte_to_register_back mnemonic.Movzbl q r i e = has _ _ _ (ExtendByte Unsigned q r) i (refl, refl) e
byte_to_register_back m q r i e = cl_to_register_back m q r i e

on_name_back : (m : Mnemonic) (name : List ℕ) (i : Instr) → on_name m name ≡ Some i → Has m (name_alone name) Absent i
on_name_back mnemonic.Je name i e = has _ _ _ (JumpIf Equal name) i (refl, refl) e
on_name_back mnemonic.Jne name i e = has _ _ _ (JumpIf NotEqual name) i (refl, refl) e
on_name_back mnemonic.Jl name i e = has _ _ _ (JumpIf Less name) i (refl, refl) e
on_name_back mnemonic.Jge name i e = has _ _ _ (JumpIf GreaterOrEqual name) i (refl, refl) e
on_name_back mnemonic.Jle name i e = has _ _ _ (JumpIf LessOrEqual name) i (refl, refl) e
on_name_back mnemonic.Jg name i e = has _ _ _ (JumpIf Greater name) i (refl, refl) e
on_name_back mnemonic.Jb name i e = has _ _ _ (JumpIf Below name) i (refl, refl) e
on_name_back mnemonic.Jae name i e = has _ _ _ (JumpIf AboveOrEqual name) i (refl, refl) e
on_name_back mnemonic.Jbe name i e = has _ _ _ (JumpIf BelowOrEqual name) i (refl, refl) e
on_name_back mnemonic.Ja name i e = has _ _ _ (JumpIf Above name) i (refl, refl) e
on_name_back mnemonic.Jmp name i e = has _ _ _ (Jump name) i (refl, refl) e
on_name_back mnemonic.Call name i e = has _ _ _ (Call name) i (refl, refl) e
on_name_back _ name i e = absurd cc

abbrev parts : Option (List ℕ) → ℕ → Option Register → Option Index → Operand
parts label displacement base index = Memory (record { label = label; displacement = displacement; base = base; index = index })

at_zero : (m : Mnemonic) (name : List ℕ) (d : ℕ) (b : Bool) (i : Instr) → (b ≡ true → d ≡ 0) → (if b then on_name m name else None) ≡ Some i → Has m (parts (Some name) d None None) Absent i
at_zero m name d true i z e = let P : ℕ → Type 0 = λ n. Has m (parts (Some name) n None None) Absent i in subst P (sym (z refl)) (on_name_back m name i e)
at_zero m name d false i z e = absurd cc

on_parts_back : (m : Mnemonic) (label : Option (List ℕ)) (d : ℕ) (base : Option Register) (index : Option Index) (i : Instr) → on_parts m label d base index ≡ Some i → Has m (parts label d base index) Absent i
on_parts_back m (Some name) d None None i e = at_zero m name d (d == 0) i (eqb-true d 0) e
on_parts_back _ _ _ _ _ i e = absurd cc

on_memory_back : (m : Mnemonic) (a : Address) (i : Instr) → on_memory m a ≡ Some i → Has m (Memory a) Absent i
on_memory_back m a i e = on_parts_back m a.label a.displacement a.base a.index i e

instr_at_back : (m : Mnemonic) (p q : Operand) (i : Instr) → instr_at m p q ≡ Some i → Has m p q i
instr_at_back m (Number n) (Word r) i e = number_to_register_back m n r i e
instr_at_back m (Symbol s) (Word r) i e = symbol_to_register_back m s r i e
instr_at_back m (Word q) (Word r) i e = register_to_register_back m q r i e
instr_at_back m (Memory a) (Word r) i e = memory_to_register_back m a r i e
instr_at_back m (Word r) (Memory a) i e = register_to_memory_back m r a i e
instr_at_back m (Number n) (Memory a) i e = number_to_memory_back m n a i e
instr_at_back m (Byte q) (Memory a) i e = byte_to_memory_back m q a i e
instr_at_back m (Half q) (Memory a) i e = half_to_memory_back m q a i e
instr_at_back m (Half q) (Word r) i e = half_to_register_back m q r i e
instr_at_back m (Word r) Absent i e = on_register_back m r i e
instr_at_back m Absent Absent i e = on_nothing_back m i e
instr_at_back m (Byte q) Absent i e = on_byte_back m q i e
instr_at_back m (Through r) Absent i e = through_register_back m r i e
instr_at_back m (Byte q) (Word r) i e = byte_to_register_back m q r i e
instr_at_back m (Memory a) Absent i e = on_memory_back m a i e
instr_at_back _ _ _ i e = absurd cc

back : (m : Mnemonic) (o : Operands) (i : Instr) → instr_of m o ≡ Some i → (mnemonic_of i ≡ m) × (operands_of i ≡ o)
back m o i e = instr_at_back m o.first o.second i e

pub has_both : (m : Mnemonic) (o : Operands) (r : Option Instr) → r ≡ instr_of m o → IfSome r (λ i. (mnemonic_of i ≡ m) × (operands_of i ≡ o))
has_both m o None e = tt
has_both m o (Some i) e = back m o i (sym e)

found_at : (m : Mnemonic) (o : Operands) (i : Instr) → mnemonic_of i ≡ m → operands_of i ≡ o → instr_of m o ≡ Some i
found_at m o i h k =
    let P : Mnemonic → Type 0 = λ x. instr_of x (operands_of i) ≡ Some i in
    let Q : Operands → Type 0 = λ x. instr_of m x ≡ Some i in
    subst Q k (subst P h (found i))

pub none_has : (m : Mnemonic) (o : Operands) (r : Option Instr) → r ≡ instr_of m o → IfNone r ((i : Instr) → mnemonic_of i ≡ m → operands_of i ≡ o → ⊥)
none_has m o None e = λ i h k. let both : None ≡ Some i = e ∙ found_at m o i h k in absurd cc
none_has m o (Some i) e = tt

pub determine : (i j : Instr) → mnemonic_of i ≡ mnemonic_of j → operands_of i ≡ operands_of j → i ≡ j
determine i j h k = ap (λ o. unwrap_or o i) (sym (found_at (mnemonic_of j) (operands_of j) i h k) ∙ found j)
