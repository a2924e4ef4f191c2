-- The mnemonic and the operands of each instruction, the source first, as GNU as for the System V i386 ABI spells them.
use Rattle.std.specs.Prelude.{ℕ, ◌+◌, List, Some, None}
use Rattle.x86_table.specs.declared.operand.Operand.{Operand}
use Rattle.x86_table.specs.declared.operand.Operand.TheVariants.{Absent, Word, Byte, Half, Number, Symbol, Memory, Through}
use Rattle.x86_table.specs.declared.operand.Operands.{Operands}
use Rattle.x86_table.specs.declared.mnemonic.Mnemonic.{Mnemonic}
use Rattle.x86_table.specs.declared.mnemonic.Mnemonic.TheVariants as mnemonic
use Rattle.x86_table.specs.declared.instruction.Instr.{Instr}
use Rattle.x86_table.specs.declared.instruction.Instr.TheVariants.{MoveNumber, MoveSymbol, Move, Load, Store, StoreNumber, StoreByte, StoreHalf, LoadExtended, ExtendByte, ExtendHalf, LoadAddress, Combine, CombineNumber, Negate, Complement, ShiftByNumber, ShiftByCl, ExtendEax, Divide, Compare, CompareNumber, Test, Set, JumpIf, Jump, Call, CallThrough, Return, Push, Pop, Fence, CompareExchange, ExchangeAdd, Exchange}
use Rattle.x86_table.specs.declared.instruction.Sign.{Sign}
use Rattle.x86_table.specs.declared.instruction.Sign.TheVariants.{Signed, Unsigned}
use Rattle.x86_table.specs.declared.instruction.Width.{Width}
use Rattle.x86_table.specs.declared.instruction.Width.TheVariants as width
use Rattle.x86_table.specs.declared.instruction.Operator.{Operator}
use Rattle.x86_table.specs.declared.instruction.Operator.TheVariants.{Add, Subtract, Multiply, And, Or, Xor}
use Rattle.x86_table.specs.declared.instruction.Shift.{Shift}
use Rattle.x86_table.specs.declared.instruction.Shift.TheVariants.{Left, Right, Arithmetic}
use Rattle.x86_table.specs.declared.instruction.Condition.{Condition}
use Rattle.x86_table.specs.declared.instruction.Condition.TheVariants.{Equal, NotEqual, Less, GreaterOrEqual, LessOrEqual, Greater, Below, AboveOrEqual, BelowOrEqual, Above}
use Rattle.x86_table.specs.declared.register.ByteRegister.TheVariants.{Cl}

-- a byte or a half extended to a word
abbrev pub extension : Width → Sign → Mnemonic
extension width.Byte Signed = mnemonic.Movsbl
extension width.Byte Unsigned = mnemonic.Movzbl
extension width.Half Signed = mnemonic.Movswl
extension width.Half Unsigned = mnemonic.Movzwl

-- an operator that puts 'second op first' into its second operand
abbrev pub operation : Operator → Mnemonic
operation Add = mnemonic.Addl
operation Subtract = mnemonic.Subl
operation Multiply = mnemonic.Imull
operation And = mnemonic.Andl
operation Or = mnemonic.Orl
operation Xor = mnemonic.Xorl

abbrev pub shift : Shift → Mnemonic
shift Left = mnemonic.Shll
shift Right = mnemonic.Shrl
shift Arithmetic = mnemonic.Sarl

abbrev pub division : Sign → Mnemonic
division Signed = mnemonic.Idivl
division Unsigned = mnemonic.Divl

-- the byte that says whether a condition holds
abbrev pub setting : Condition → Mnemonic
setting Equal = mnemonic.Sete
setting NotEqual = mnemonic.Setne
setting Less = mnemonic.Setl
setting GreaterOrEqual = mnemonic.Setge
setting LessOrEqual = mnemonic.Setle
setting Greater = mnemonic.Setg
setting Below = mnemonic.Setb
setting AboveOrEqual = mnemonic.Setae
setting BelowOrEqual = mnemonic.Setbe
setting Above = mnemonic.Seta

-- the jump where a condition holds
abbrev pub jump : Condition → Mnemonic
jump Equal = mnemonic.Je
jump NotEqual = mnemonic.Jne
jump Less = mnemonic.Jl
jump GreaterOrEqual = mnemonic.Jge
jump LessOrEqual = mnemonic.Jle
jump Greater = mnemonic.Jg
jump Below = mnemonic.Jb
jump AboveOrEqual = mnemonic.Jae
jump BelowOrEqual = mnemonic.Jbe
jump Above = mnemonic.Ja

-- the mnemonic of an instruction
abbrev pub mnemonic_of : Instr → Mnemonic
mnemonic_of (MoveNumber n r) = mnemonic.Movl
mnemonic_of (MoveSymbol s r) = mnemonic.Movl
mnemonic_of (Move q r) = mnemonic.Movl
mnemonic_of (Load a r) = mnemonic.Movl
mnemonic_of (Store r a) = mnemonic.Movl
mnemonic_of (StoreNumber n a) = mnemonic.Movl
mnemonic_of (StoreByte r a) = mnemonic.Movb
mnemonic_of (StoreHalf r a) = mnemonic.Movw
mnemonic_of (LoadExtended w s a r) = extension w s
mnemonic_of (ExtendByte s q r) = extension width.Byte s
mnemonic_of (ExtendHalf s q r) = extension width.Half s
mnemonic_of (LoadAddress a r) = mnemonic.Leal
mnemonic_of (Combine op q r) = operation op
mnemonic_of (CombineNumber op n r) = operation op
mnemonic_of (Negate r) = mnemonic.Negl
mnemonic_of (Complement r) = mnemonic.Notl
mnemonic_of (ShiftByNumber s n r) = shift s
mnemonic_of (ShiftByCl s r) = shift s
mnemonic_of ExtendEax = mnemonic.Cltd
mnemonic_of (Divide s r) = division s
mnemonic_of (Compare q r) = mnemonic.Cmpl
mnemonic_of (CompareNumber n r) = mnemonic.Cmpl
mnemonic_of (Test q r) = mnemonic.Testl
mnemonic_of (Set c r) = setting c
mnemonic_of (JumpIf c name) = jump c
mnemonic_of (Jump name) = mnemonic.Jmp
mnemonic_of (Call name) = mnemonic.Call
mnemonic_of (CallThrough r) = mnemonic.Call
mnemonic_of Return = mnemonic.Ret
mnemonic_of (Push r) = mnemonic.Pushl
mnemonic_of (Pop r) = mnemonic.Popl
mnemonic_of Fence = mnemonic.Mfence
mnemonic_of (CompareExchange r a) = mnemonic.LockCmpxchgl
mnemonic_of (ExchangeAdd r a) = mnemonic.LockXaddl
mnemonic_of (Exchange r a) = mnemonic.Xchgl

-- the operand that is a name alone
abbrev pub name_alone : List ℕ → Operand
name_alone name = Memory (record { label = Some name; displacement = 0; base = None; index = None })

abbrev pub two : Operand → Operand → Operands
two first second = record { first = first; second = second }

-- the operands of an instruction
abbrev pub operands_of : Instr → Operands
operands_of (MoveNumber n r) = two (Number n) (Word r)
operands_of (MoveSymbol s r) = two (Symbol s) (Word r)
operands_of (Move q r) = two (Word q) (Word r)
operands_of (Load a r) = two (Memory a) (Word r)
operands_of (Store r a) = two (Word r) (Memory a)
operands_of (StoreNumber n a) = two (Number n) (Memory a)
operands_of (StoreByte r a) = two (Byte r) (Memory a)
operands_of (StoreHalf r a) = two (Half r) (Memory a)
operands_of (LoadExtended w s a r) = two (Memory a) (Word r)
operands_of (ExtendByte s q r) = two (Byte q) (Word r)
operands_of (ExtendHalf s q r) = two (Half q) (Word r)
operands_of (LoadAddress a r) = two (Memory a) (Word r)
operands_of (Combine op q r) = two (Word q) (Word r)
operands_of (CombineNumber op n r) = two (Number n) (Word r)
operands_of (Negate r) = two (Word r) Absent
operands_of (Complement r) = two (Word r) Absent
operands_of (ShiftByNumber s n r) = two (Number n) (Word r)
operands_of (ShiftByCl s r) = two (Byte Cl) (Word r)
operands_of ExtendEax = two Absent Absent
operands_of (Divide s r) = two (Word r) Absent
operands_of (Compare q r) = two (Word q) (Word r)
operands_of (CompareNumber n r) = two (Number n) (Word r)
operands_of (Test q r) = two (Word q) (Word r)
operands_of (Set c r) = two (Byte r) Absent
operands_of (JumpIf c name) = two (name_alone name) Absent
operands_of (Jump name) = two (name_alone name) Absent
operands_of (Call name) = two (name_alone name) Absent
operands_of (CallThrough r) = two (Through r) Absent
operands_of Return = two Absent Absent
operands_of (Push r) = two (Word r) Absent
operands_of (Pop r) = two (Word r) Absent
operands_of Fence = two Absent Absent
operands_of (CompareExchange r a) = two (Word r) (Memory a)
operands_of (ExchangeAdd r a) = two (Word r) (Memory a)
operands_of (Exchange r a) = two (Word r) (Memory a)

-- the places of the operators among the rows of one kind
abbrev pub operator_place : Operator → ℕ
operator_place Add = 0
operator_place Subtract = 1
operator_place Multiply = 2
operator_place And = 3
operator_place Or = 4
operator_place Xor = 5

abbrev pub shift_place : Shift → ℕ
shift_place Left = 0
shift_place Right = 1
shift_place Arithmetic = 2

abbrev pub condition_place : Condition → ℕ
condition_place Equal = 0
condition_place NotEqual = 1
condition_place Less = 2
condition_place GreaterOrEqual = 3
condition_place LessOrEqual = 4
condition_place Greater = 5
condition_place Below = 6
condition_place AboveOrEqual = 7
condition_place BelowOrEqual = 8
condition_place Above = 9

abbrev pub sign_place : Sign → ℕ
sign_place Signed = 0
sign_place Unsigned = 1

abbrev pub width_place : Width → ℕ
width_place width.Byte = 0
width_place width.Half = 2

-- the index of an instruction's form in the table
abbrev pub form_of : Instr → ℕ
form_of (MoveNumber n r) = 0
form_of (MoveSymbol s r) = 1
form_of (Move q r) = 2
form_of (Load a r) = 3
form_of (Store r a) = 4
form_of (StoreNumber n a) = 5
form_of (StoreByte r a) = 6
form_of (StoreHalf r a) = 7
form_of (LoadExtended w s a r) = 8 + width_place w + sign_place s
form_of (ExtendByte s q r) = 12 + sign_place s
form_of (ExtendHalf s q r) = 14 + sign_place s
form_of (LoadAddress a r) = 16
form_of (Combine op q r) = 17 + operator_place op
form_of (CombineNumber op n r) = 23 + operator_place op
form_of (Negate r) = 29
form_of (Complement r) = 30
form_of (ShiftByNumber s n r) = 31 + shift_place s
form_of (ShiftByCl s r) = 34 + shift_place s
form_of ExtendEax = 37
form_of (Divide s r) = 38 + sign_place s
form_of (Compare q r) = 40
form_of (CompareNumber n r) = 41
form_of (Test q r) = 42
form_of (Set c r) = 43 + condition_place c
form_of (JumpIf c name) = 53 + condition_place c
form_of (Jump name) = 63
form_of (Call name) = 64
form_of (CallThrough r) = 65
form_of Return = 66
form_of (Push r) = 67
form_of (Pop r) = 68
form_of Fence = 69
form_of (CompareExchange r a) = 70
form_of (ExchangeAdd r a) = 71
form_of (Exchange r a) = 72
