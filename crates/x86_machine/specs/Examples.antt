-- Small programs and runs of them, worked by hand from the rules: what a run shows and what the machine has come to.
use Rattle.std.specs.Prelude.{ℕ, zero, suc, List, [], ◌∷◌, ◌++◌, codes, Option, Some, None}
use Rattle.tso_core.specs.declared.Step.{Step}
use Rattle.tso_core.specs.declared.Step.TheVariants.{Run, Drain}
use Rattle.tso_core.specs.declared.Event.{Event}
use Rattle.tso_core.specs.Systems.{Names}
use Rattle.x86_table.specs.declared.operand.Address.{Address}
use Rattle.x86_table.specs.declared.register.Register.{Register}
use Rattle.x86_table.specs.declared.register.Register.TheVariants.{Eax, Ecx, Esp}
use Rattle.x86_table.specs.declared.instruction.Sign.TheVariants.{Signed}
use Rattle.x86_table.specs.declared.instruction.Operator.TheVariants.{Add, Subtract}
use Rattle.x86_table.specs.declared.instruction.Shift.TheVariants.{Left}
use Rattle.x86_table.specs.declared.instruction.Condition.TheVariants.{Equal}
use Rattle.x86_table.specs.declared.instruction.Instr.{Instr}
use Rattle.x86_table.specs.declared.instruction.Instr.TheVariants.{MoveNumber, MoveSymbol, Load, Store, StoreNumber, CombineNumber, ShiftByNumber, ExtendEax, Divide, JumpIf, Jump, Call, CallThrough, Return}
use Rattle.x86_lang.specs.Assembly.{Assembly}
use Rattle.x86_machine.specs.declared.now.X86Now.{X86Now}
use Rattle.x86_machine.specs.Target.{State}
use Rattle.x86_machine.specs.X86Tso.{Outcome, step, opening}

-- the events of steps that are enabled in their turn, and what the machine has come to; None where one is not
abbrev pub Played : Type 0
Played = Option (List Event × X86Now)

abbrev pub shown_first : Option Event → Played → Played
shown_first None played = played
shown_first (Some e) None = None
shown_first (Some e) (Some p) = Some (e ∷ p.0, p.1)

abbrev pub outcome_then : Outcome → (State → Played) → Played
outcome_then None k = None
outcome_then (Some o) k = shown_first o.0 (k o.1)

abbrev pub plays : Assembly → List Step → State → Played
plays a [] m = Some ([], m.now)
plays a (s ∷ ss) m = outcome_then (step a m s) (plays a ss)

-- from the opening
abbrev pub run_of : Assembly → List Step → Played
run_of a steps = plays a steps (opening a a.labels)

-- ---- programs

abbrev pub at_register : (displacement : ℕ) → Register → Address
at_register n r = record { label = None; displacement = n; base = Some r; index = None }

abbrev pub at_name : Names → Address
at_name name = record { label = Some name; displacement = 0; base = None; index = None }

abbrev pub main_alone : List Instr → Assembly
main_alone code = record { pace = 0; externs = []; instructions = code; labels = (codes "main", 0x08000000) ∷ []; bytes = [] }

-- subl $4, %esp; movl $8, (%esp); call malloc; movl $8, (%esp); call malloc; addl $4, %esp; ret
abbrev pub two_blocks : Assembly
two_blocks = main_alone (CombineNumber Subtract 4 Esp ∷ StoreNumber 8 (at_register 0 Esp) ∷ Call (codes "malloc") ∷ StoreNumber 8 (at_register 0 Esp) ∷ Call (codes "malloc") ∷ CombineNumber Add 4 Esp ∷ Return ∷ [])

-- movl $-2147483648, %eax; movl $-1, %ecx; cltd; idivl %ecx; ret
abbrev pub no_quotient : Assembly
no_quotient = main_alone (MoveNumber 0x80000000 Eax ∷ MoveNumber 0xFFFFFFFF Ecx ∷ ExtendEax ∷ Divide Signed Ecx ∷ Return ∷ [])

-- movl $3, %eax; call *%eax
abbrev pub call_of_no_code : Assembly
call_of_no_code = main_alone (MoveNumber 3 Eax ∷ CallThrough Eax ∷ [])

-- movl $1, %eax; shll $0, %eax; je main
abbrev pub unknown_flag : Assembly
unknown_flag = main_alone (MoveNumber 1 Eax ∷ ShiftByNumber Left 0 Eax ∷ JumpIf Equal (codes "main") ∷ [])

-- movl $7, %eax; ret
abbrev pub seven : Assembly
seven = main_alone (MoveNumber 7 Eax ∷ Return ∷ [])

-- main starts f, then writes x and reads y; f writes y and reads x; each prints what it read
abbrev pub store_buffering : Assembly
store_buffering =
    record {
      pace = 0;
      externs = (codes "print", 1) ∷ [];
      instructions =
          CombineNumber Subtract 8 Esp ∷ MoveSymbol (record { name = codes "f"; plus = 0 }) Eax ∷ Store Eax (at_register 0 Esp) ∷ StoreNumber 0 (at_register 4 Esp) ∷ Call (codes "thread_create")
          ∷ StoreNumber 1 (at_name (codes "x")) ∷ Load (at_name (codes "y")) Eax ∷ Store Eax (at_register 0 Esp) ∷ Call (codes "print") ∷ Return
          ∷ CombineNumber Subtract 4 Esp ∷ StoreNumber 1 (at_name (codes "y")) ∷ Load (at_name (codes "x")) Eax ∷ Store Eax (at_register 0 Esp) ∷ Call (codes "print") ∷ Jump (codes ".L0") ∷ [];
      labels = (codes "main", 0x08000000) ∷ (codes "f", 0x0800000A) ∷ (codes ".L0", 0x0800000F) ∷ (codes "x", 0x20000000) ∷ (codes "y", 0x20000004) ∷ [];
      bytes = 0 ∷ 0 ∷ 0 ∷ 0 ∷ 0 ∷ 0 ∷ 0 ∷ 0 ∷ [];
    }

-- ---- steps

abbrev pub runs : (thread count : ℕ) → List Step
runs i zero = []
runs i (suc n) = Run i None ∷ runs i n

-- the arguments reach memory, f starts, and each thread runs up to its print
abbrev pub to_prints : List Step
to_prints = runs 0 4 ++ (Drain 0 ∷ Drain 0 ∷ Run 0 (Some 0x90100000) ∷ []) ++ runs 0 4 ++ runs 1 5

-- the same, but main's write of x and its word reach memory before f runs
abbrev pub drained_between : List Step
drained_between = runs 0 4 ++ (Drain 0 ∷ Drain 0 ∷ Run 0 (Some 0x90100000) ∷ []) ++ runs 0 4 ++ (Drain 0 ∷ []) ++ runs 1 5
