-- The instruction of a mnemonic and two operands: the other way round of specs/Instruction. None where there is none. One definition for each pair of operands that some instruction has; the code has a function for each.
use Rattle.std.specs.Prelude.{ℕ, List, ◌==◌, Option, Some, None, if◌then◌else◌}
use Rattle.x86_table.specs.declared.register.Register.{Register}
use Rattle.x86_table.specs.declared.register.ByteRegister.{ByteRegister}
use Rattle.x86_table.specs.declared.register.ByteRegister.TheVariants.{Cl}
use Rattle.x86_table.specs.declared.register.HalfRegister.{HalfRegister}
use Rattle.x86_table.specs.declared.operand.Index.{Index}
use Rattle.x86_table.specs.declared.operand.Symbol as symbols
use Rattle.x86_table.specs.declared.operand.Address.{Address}
use Rattle.x86_table.specs.declared.operand.Operand.{Operand}
use Rattle.x86_table.specs.declared.operand.Operand.TheVariants.{Absent, Word, Byte, Half, Number, Symbol, Memory, Through}
use Rattle.x86_table.specs.declared.operand.Operands.{Operands}
use Rattle.x86_table.specs.declared.mnemonic.Mnemonic.{Mnemonic}
use Rattle.x86_table.specs.declared.mnemonic.Mnemonic.TheVariants as mnemonic
use Rattle.x86_table.specs.declared.instruction.Instr.{Instr}
use Rattle.x86_table.specs.declared.instruction.Instr.TheVariants.{MoveNumber, MoveSymbol, Move, Load, Store, StoreNumber, StoreByte, StoreHalf, LoadExtended, ExtendByte, ExtendHalf, LoadAddress, Combine, CombineNumber, Negate, Complement, ShiftByNumber, ShiftByCl, ExtendEax, Divide, Compare, CompareNumber, Test, Set, JumpIf, Jump, Call, CallThrough, Return, Push, Pop, Fence, CompareExchange, ExchangeAdd, Exchange}
use Rattle.x86_table.specs.declared.instruction.Sign.TheVariants.{Signed, Unsigned}
use Rattle.x86_table.specs.declared.instruction.Width.TheVariants as width
use Rattle.x86_table.specs.declared.instruction.Operator.TheVariants.{Add, Subtract, Multiply, And, Or, Xor}
use Rattle.x86_table.specs.declared.instruction.Shift.TheVariants.{Left, Right, Arithmetic}
use Rattle.x86_table.specs.declared.instruction.Condition.TheVariants.{Equal, NotEqual, Less, GreaterOrEqual, LessOrEqual, Greater, Below, AboveOrEqual, BelowOrEqual, Above}

-- with a number and a register
abbrev pub number_to_register : Mnemonic → ℕ → Register → Option Instr
number_to_register mnemonic.Movl n r = Some (MoveNumber n r)
number_to_register mnemonic.Addl n r = Some (CombineNumber Add n r)
number_to_register mnemonic.Subl n r = Some (CombineNumber Subtract n r)
number_to_register mnemonic.Imull n r = Some (CombineNumber Multiply n r)
number_to_register mnemonic.Andl n r = Some (CombineNumber And n r)
number_to_register mnemonic.Orl n r = Some (CombineNumber Or n r)
number_to_register mnemonic.Xorl n r = Some (CombineNumber Xor n r)
number_to_register mnemonic.Shll n r = Some (ShiftByNumber Left n r)
number_to_register mnemonic.Shrl n r = Some (ShiftByNumber Right n r)
number_to_register mnemonic.Sarl n r = Some (ShiftByNumber Arithmetic n r)
number_to_register mnemonic.Cmpl n r = Some (CompareNumber n r)
number_to_register _ _ _ = None

-- with a label as a number, and a register
abbrev pub symbol_to_register : Mnemonic → symbols.Symbol → Register → Option Instr
symbol_to_register mnemonic.Movl s r = Some (MoveSymbol s r)
symbol_to_register _ _ _ = None

-- with two registers
abbrev pub register_to_register : Mnemonic → Register → Register → Option Instr
register_to_register mnemonic.Movl q r = Some (Move q r)
register_to_register mnemonic.Addl q r = Some (Combine Add q r)
register_to_register mnemonic.Subl q r = Some (Combine Subtract q r)
register_to_register mnemonic.Imull q r = Some (Combine Multiply q r)
register_to_register mnemonic.Andl q r = Some (Combine And q r)
register_to_register mnemonic.Orl q r = Some (Combine Or q r)
register_to_register mnemonic.Xorl q r = Some (Combine Xor q r)
register_to_register mnemonic.Cmpl q r = Some (Compare q r)
register_to_register mnemonic.Testl q r = Some (Test q r)
register_to_register _ _ _ = None

-- with memory and a register
abbrev pub memory_to_register : Mnemonic → Address → Register → Option Instr
memory_to_register mnemonic.Movl a r = Some (Load a r)
memory_to_register mnemonic.Movsbl a r = Some (LoadExtended width.Byte Signed a r)
memory_to_register mnemonic.Movzbl a r = Some (LoadExtended width.Byte Unsigned a r)
memory_to_register mnemonic.Movswl a r = Some (LoadExtended width.Half Signed a r)
memory_to_register mnemonic.Movzwl a r = Some (LoadExtended width.Half Unsigned a r)
memory_to_register mnemonic.Leal a r = Some (LoadAddress a r)
memory_to_register _ _ _ = None

-- with a register and memory
abbrev pub register_to_memory : Mnemonic → Register → Address → Option Instr
register_to_memory mnemonic.Movl r a = Some (Store r a)
register_to_memory mnemonic.LockCmpxchgl r a = Some (CompareExchange r a)
register_to_memory mnemonic.LockXaddl r a = Some (ExchangeAdd r a)
register_to_memory mnemonic.Xchgl r a = Some (Exchange r a)
register_to_memory _ _ _ = None

-- with a number and memory
abbrev pub number_to_memory : Mnemonic → ℕ → Address → Option Instr
number_to_memory mnemonic.Movl n a = Some (StoreNumber n a)
number_to_memory _ _ _ = None

-- with a byte and memory
abbrev pub byte_to_memory : Mnemonic → ByteRegister → Address → Option Instr
byte_to_memory mnemonic.Movb q a = Some (StoreByte q a)
byte_to_memory _ _ _ = None

-- with a half and memory
abbrev pub half_to_memory : Mnemonic → HalfRegister → Address → Option Instr
half_to_memory mnemonic.Movw q a = Some (StoreHalf q a)
half_to_memory _ _ _ = None

-- with a half and a register
abbrev pub half_to_register : Mnemonic → HalfRegister → Register → Option Instr
half_to_register mnemonic.Movswl q r = Some (ExtendHalf Signed q r)
half_to_register mnemonic.Movzwl q r = Some (ExtendHalf Unsigned q r)
half_to_register _ _ _ = None

-- with a register
abbrev pub on_register : Mnemonic → Register → Option Instr
on_register mnemonic.Negl r = Some (Negate r)
on_register mnemonic.Notl r = Some (Complement r)
on_register mnemonic.Idivl r = Some (Divide Signed r)
on_register mnemonic.Divl r = Some (Divide Unsigned r)
on_register mnemonic.Pushl r = Some (Push r)
on_register mnemonic.Popl r = Some (Pop r)
on_register _ _ = None

-- with no operand
abbrev pub on_nothing : Mnemonic → Option Instr
on_nothing mnemonic.Cltd = Some ExtendEax
on_nothing mnemonic.Ret = Some Return
on_nothing mnemonic.Mfence = Some Fence
on_nothing _ = None

-- with a byte
abbrev pub on_byte : Mnemonic → ByteRegister → Option Instr
on_byte mnemonic.Sete q = Some (Set Equal q)
on_byte mnemonic.Setne q = Some (Set NotEqual q)
on_byte mnemonic.Setl q = Some (Set Less q)
on_byte mnemonic.Setge q = Some (Set GreaterOrEqual q)
on_byte mnemonic.Setle q = Some (Set LessOrEqual q)
on_byte mnemonic.Setg q = Some (Set Greater q)
on_byte mnemonic.Setb q = Some (Set Below q)
on_byte mnemonic.Setae q = Some (Set AboveOrEqual q)
on_byte mnemonic.Setbe q = Some (Set BelowOrEqual q)
on_byte mnemonic.Seta q = Some (Set Above q)
on_byte _ _ = None

-- with an address in a register
abbrev pub through_register : Mnemonic → Register → Option Instr
through_register mnemonic.Call r = Some (CallThrough r)
through_register _ _ = None

-- with CL, the count of a shift, and a register
abbrev pub cl_to_register : Mnemonic → ByteRegister → Register → Option Instr
cl_to_register mnemonic.Shll Cl r = Some (ShiftByCl Left r)
cl_to_register mnemonic.Shrl Cl r = Some (ShiftByCl Right r)
cl_to_register mnemonic.Sarl Cl r = Some (ShiftByCl Arithmetic r)
cl_to_register _ _ _ = None

-- with a byte and a register
abbrev pub byte_to_register : Mnemonic → ByteRegister → Register → Option Instr
byte_to_register mnemonic.Movsbl q r = Some (ExtendByte Signed q r)
byte_to_register mnemonic.Movzbl q r = Some (ExtendByte Unsigned q r)
byte_to_register m q r = cl_to_register m q r

-- with a name alone
abbrev pub on_name : Mnemonic → List ℕ → Option Instr
on_name mnemonic.Je name = Some (JumpIf Equal name)
on_name mnemonic.Jne name = Some (JumpIf NotEqual name)
on_name mnemonic.Jl name = Some (JumpIf Less name)
on_name mnemonic.Jge name = Some (JumpIf GreaterOrEqual name)
on_name mnemonic.Jle name = Some (JumpIf LessOrEqual name)
on_name mnemonic.Jg name = Some (JumpIf Greater name)
on_name mnemonic.Jb name = Some (JumpIf Below name)
on_name mnemonic.Jae name = Some (JumpIf AboveOrEqual name)
on_name mnemonic.Jbe name = Some (JumpIf BelowOrEqual name)
on_name mnemonic.Ja name = Some (JumpIf Above name)
on_name mnemonic.Jmp name = Some (Jump name)
on_name mnemonic.Call name = Some (Call name)
on_name _ name = None

-- with an address of these parts: it has to be a name alone
abbrev pub on_parts : Mnemonic → Option (List ℕ) → ℕ → Option Register → Option Index → Option Instr
on_parts m (Some name) displacement None None = if displacement == 0 then on_name m name else None
on_parts _ _ _ _ _ = None

abbrev pub on_memory : Mnemonic → Address → Option Instr
on_memory m a = on_parts m a.label a.displacement a.base a.index

-- with two operands
abbrev pub instr_at : Mnemonic → Operand → Operand → Option Instr
instr_at m (Number n) (Word r) = number_to_register m n r
instr_at m (Symbol s) (Word r) = symbol_to_register m s r
instr_at m (Word q) (Word r) = register_to_register m q r
instr_at m (Memory a) (Word r) = memory_to_register m a r
instr_at m (Word r) (Memory a) = register_to_memory m r a
instr_at m (Number n) (Memory a) = number_to_memory m n a
instr_at m (Byte q) (Memory a) = byte_to_memory m q a
instr_at m (Half q) (Memory a) = half_to_memory m q a
instr_at m (Half q) (Word r) = half_to_register m q r
instr_at m (Word r) Absent = on_register m r
instr_at m Absent Absent = on_nothing m
instr_at m (Byte q) Absent = on_byte m q
instr_at m (Through r) Absent = through_register m r
instr_at m (Byte q) (Word r) = byte_to_register m q r
instr_at m (Memory a) Absent = on_memory m a
instr_at _ _ _ = None

-- the instruction with this mnemonic and these operands
abbrev pub instr_of : Mnemonic → Operands → Option Instr
instr_of m o = instr_at m o.first o.second
