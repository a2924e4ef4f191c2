-- What each instruction does (Intel's manual of the IA-32 architecture, volume 2; that flags may be unknown is this project's own): one definition for each column of the table, and one clause for each kind of form. An instruction stands at a place, `label` is the address of the one name that it has, and `loaded` is what its access found, extended by zeros. The code has a function for each.
use Rattle.std.specs.Prelude.{ℕ, ◌+◌, ◌-◌, ◌%◌, ◌^◌, Bool, ◌==◌, if◌then◌else◌, Option, Some, None, bit_and}
use Rattle.x86_table.specs.declared.register.Register.{Register}
use Rattle.x86_table.specs.declared.register.Register.TheVariants.{Eax, Edx, Esp}
use Rattle.x86_table.specs.declared.register.ByteRegister.{ByteRegister}
use Rattle.x86_table.specs.declared.register.ByteRegister.TheVariants.{Cl}
use Rattle.x86_table.specs.declared.instruction.Width.TheVariants as width
use Rattle.x86_table.specs.declared.instruction.Instr.{Instr}
use Rattle.x86_table.specs.declared.instruction.Instr.TheVariants.{MoveNumber, MoveSymbol, Move, Load, Store, StoreNumber, StoreByte, StoreHalf, LoadExtended, ExtendByte, ExtendHalf, LoadAddress, Combine, CombineNumber, Negate, Complement, ShiftByNumber, ShiftByCl, ExtendEax, Divide, Compare, CompareNumber, Test, Set, JumpIf, Jump, Call, CallThrough, Return, Push, Pop, CompareExchange, ExchangeAdd, Exchange}
use Rattle.x86_table.specs.declared.instruction.Operator.TheVariants.{Subtract}
use Rattle.x86_steps.specs.declared.registers.Registers.{Registers}
use Rattle.x86_steps.specs.declared.flags.Flags.{Flags}
use Rattle.x86_steps.specs.declared.arithmetic.Division.{Division}
use Rattle.x86_steps.specs.declared.execution.After.{After}
use Rattle.x86_steps.specs.Registers.{word_in, with_word, byte_in, half_in, with_byte}
use Rattle.x86_steps.specs.Flags.{unknown, is_negative, flags_of_difference, flags_of_bits, flags_of_match, holds}
use Rattle.x86_steps.specs.Arithmetic.{combined, flags_of_combined, shifted, extended, divided}
use Rattle.x86_steps.specs.Accesses.{effective, pushed, popped}

-- the word whose bits are all the sign of another
abbrev pub sign_word : ℕ → ℕ
sign_word w = if is_negative w then 2 ^ 32 - 1 else 0

-- registers after a division: the quotient in EAX, the remainder in EDX
abbrev pub with_division : Registers → Option Division → Option Registers
with_division r None = None
with_division r (Some d) = Some (record r { eax = d.quotient; edx = d.remainder })

-- registers after a byte is set to the truth of a condition
abbrev pub with_truth : Registers → ByteRegister → Option Bool → Option Registers
with_truth r q None = None
with_truth r q (Some holds) = Some (with_byte r q (if holds then 1 else 0))

-- a word is popped behind the change of the stack pointer, which it may replace
abbrev pub with_popped : Registers → Register → ℕ → Registers
with_popped r q word = with_word (with_word r Esp (popped r.esp)) q word

-- the registers after an instruction; None is a fault
abbrev pub registers_after : Instr → ℕ → Registers → Flags → ℕ → Option Registers
registers_after (MoveNumber n t) label r f loaded = Some (with_word r t n)
registers_after (MoveSymbol s t) label r f loaded = Some (with_word r t ((label + s.plus) % 2 ^ 32))
registers_after (Move q t) label r f loaded = Some (with_word r t (word_in r q))
registers_after (Load a t) label r f loaded = Some (with_word r t loaded)
registers_after (LoadExtended w s a t) label r f loaded = Some (with_word r t (extended w s loaded))
registers_after (ExtendByte s q t) label r f loaded = Some (with_word r t (extended width.Byte s (byte_in r q)))
registers_after (ExtendHalf s q t) label r f loaded = Some (with_word r t (extended width.Half s (half_in r q)))
registers_after (LoadAddress a t) label r f loaded = Some (with_word r t (effective a label r))
registers_after (Combine op q t) label r f loaded = Some (with_word r t (combined op (word_in r t) (word_in r q)))
registers_after (CombineNumber op n t) label r f loaded = Some (with_word r t (combined op (word_in r t) n))
registers_after (Negate t) label r f loaded = Some (with_word r t (combined Subtract 0 (word_in r t)))
registers_after (Complement t) label r f loaded = Some (with_word r t (2 ^ 32 - 1 - word_in r t))
registers_after (ShiftByNumber s n t) label r f loaded = Some (with_word r t (shifted s (word_in r t) n))
registers_after (ShiftByCl s t) label r f loaded = Some (with_word r t (shifted s (word_in r t) (byte_in r Cl)))
registers_after ExtendEax label r f loaded = Some (with_word r Edx (sign_word r.eax))
registers_after (Divide s q) label r f loaded = with_division r (divided s r.edx r.eax (word_in r q))
registers_after (Set c q) label r f loaded = with_truth r q (holds c f)
registers_after (Call name) label r f loaded = Some (with_word r Esp (pushed r.esp))
registers_after (CallThrough q) label r f loaded = Some (with_word r Esp (pushed r.esp))
registers_after (Push q) label r f loaded = Some (with_word r Esp (pushed r.esp))
registers_after Return label r f loaded = Some (with_word r Esp (popped r.esp))
registers_after (Pop t) label r f loaded = Some (with_popped r t loaded)
registers_after (CompareExchange q a) label r f loaded = Some (with_word r Eax loaded)
registers_after (ExchangeAdd t a) label r f loaded = Some (with_word r t loaded)
registers_after (Exchange t a) label r f loaded = Some (with_word r t loaded)
registers_after _ label r f loaded = Some r

-- the flags after an instruction
abbrev pub flags_after : Instr → Registers → Flags → ℕ → Flags
flags_after (Combine op q t) r f loaded = flags_of_combined op (word_in r t) (word_in r q)
flags_after (CombineNumber op n t) r f loaded = flags_of_combined op (word_in r t) n
flags_after (Negate t) r f loaded = flags_of_difference 0 (word_in r t)
flags_after (ShiftByNumber s n t) r f loaded = unknown
flags_after (ShiftByCl s t) r f loaded = unknown
flags_after (Divide s q) r f loaded = unknown
flags_after (Compare first second) r f loaded = flags_of_difference (word_in r second) (word_in r first)
flags_after (CompareNumber n second) r f loaded = flags_of_difference (word_in r second) n
flags_after (Test first second) r f loaded = flags_of_bits (bit_and (word_in r second) (word_in r first))
flags_after (CompareExchange q a) r f loaded = flags_of_match (r.eax == loaded)
flags_after (ExchangeAdd t a) r f loaded = unknown
flags_after _ r f loaded = f

-- where a jump on a condition leads
abbrev pub branch : Option Bool → (taken next : ℕ) → Option ℕ
branch None taken next = None
branch (Some holds) taken next = Some (if holds then taken else next)

-- the place after an instruction; None is a fault
abbrev pub place_after : Instr → (label place : ℕ) → Registers → Flags → ℕ → Option ℕ
place_after (JumpIf c name) label place r f loaded = branch (holds c f) label (place + 1)
place_after (Jump name) label place r f loaded = Some label
place_after (Call name) label place r f loaded = Some label
place_after (CallThrough q) label place r f loaded = Some (word_in r q)
place_after Return label place r f loaded = Some loaded
place_after _ label place r f loaded = Some (place + 1)

-- what is written at the address of the access; None: nothing is
abbrev pub written : Instr → (place : ℕ) → Registers → ℕ → Option ℕ
written (Store q a) place r loaded = Some (word_in r q)
written (StoreNumber n a) place r loaded = Some n
written (StoreByte q a) place r loaded = Some (byte_in r q)
written (StoreHalf q a) place r loaded = Some (half_in r q)
written (Call name) place r loaded = Some (place + 1)
written (CallThrough q) place r loaded = Some (place + 1)
written (Push q) place r loaded = Some (word_in r q)
written (CompareExchange q a) place r loaded = if r.eax == loaded then Some (word_in r q) else None
written (ExchangeAdd q a) place r loaded = Some ((loaded + word_in r q) % 2 ^ 32)
written (Exchange q a) place r loaded = Some (word_in r q)
written _ place r loaded = None

abbrev pub joined : Option Registers → Option ℕ → Flags → Option ℕ → Option After
joined None place f w = None
joined (Some r) None f w = None
joined (Some r) (Some place) f w = Some (record { registers = r; flags = f; place = place; written = w })

-- all of it; None is a fault
abbrev pub executed : Instr → (label place : ℕ) → Registers → Flags → (loaded : ℕ) → Option After
executed i label place r f loaded =
    joined (registers_after i label r f loaded) (place_after i label place r f loaded) (flags_after i r f loaded) (written i place r loaded)
