-- Where the program 'return n' and its assembly stand while both run (of this project's own making): the program's first three steps, up to leaving main, belong to the first instruction.
use Rattle.std.specs.Prelude.{◌≡◌, ℕ, ◌<◌, true, [], ◌∷◌, Some}
use Rattle.tso_words.specs.declared.value.Val.TheVariants.{Word}
use Rattle.tso_core.specs.declared.offer.Now.{Now}
use Rattle.tso_core.specs.declared.offer.Now.TheVariants as N
use Rattle.tso_core.specs.Systems.{Places}
use Rattle.tso_core.specs.Shared.{Shared}
use Rattle.tso_core.specs.Runs.{opening}
use Rattle.tso_core.specs.Machine.{MachineState}
use Rattle.clight_lang.specs.State as clight
use Rattle.clight_lang.specs.Rules.{entering}
use Rattle.clight_lang.specs.Syntax.{Statements, Const, Return, Cons}
use Rattle.clight_lang.specs.Meaning.{ProgramOf}
use Rattle.clight_lang.specs.MainAlone.{main_alone, main_returning}
use Rattle.x86_machine.specs.declared.now.X86Now.{X86Now}
use Rattle.x86_machine.specs.declared.now.X86Now.TheVariants.{Running, Exited}
use Rattle.x86_machine.specs.Target as x86
use Rattle.x86_machine.specs.X86Tso as x86_tso
use Rattle.first_pass.specs.Assembled.{returning}

pub data Stage : Type 0 where
  -- no instruction is done, and main is to be entered
  Begun : Stage
  -- the number is in EAX, and main is to be left with it
  Moved : Stage
  -- both have ended
  Ended : Stage

-- the source machine at a stage: its one thread, and whether it runs
abbrev pub source_with : Places → Now → clight.State → MachineState clight.State
source_with at now t = let sh : Shared = opening main_alone at in record { at = at; shared = record sh { now = now }; threads = t ∷ [] }

-- the thread of main: it enters main, or leaves it with the number
abbrev pub entering_main : ℕ → clight.State
entering_main n = entering true (main_returning n) []

abbrev pub leaving_main : ℕ → clight.State
leaving_main n = let t : clight.State = entering_main n in record t { doing = clight.Leave (Word n) }

abbrev pub source_at : ℕ → Places → Stage → MachineState clight.State
source_at n at Begun = source_with at N.Running (entering_main n)
source_at n at Moved = source_with at N.Running (leaving_main n)
source_at n at Ended = source_with at N.Exited (leaving_main n)

-- the target machine before its first step
abbrev pub target_opening : ℕ → x86.State
target_opening n = x86_tso.opening (returning n) (returning n).labels

-- its one thread behind the first instruction
abbrev pub moved : ℕ → x86.Thread
moved n = let t : x86.Thread = x86_tso.new_thread 0x08000001 x86.stacks_start in record t { registers = record t.registers { eax = n } }

-- the target machine at a stage; the return that ends it leaves its thread as it was
abbrev pub target_with : ℕ → X86Now → x86.State
target_with n now = let m : x86.State = target_opening n in record m { now = now; threads = moved n ∷ [] }

abbrev pub target_at : ℕ → Stage → x86.State
target_at n Begun = target_opening n
target_at n Moved = target_with n Running
target_at n Ended = target_with n Exited

-- both stand at one stage, and no run is owed
pub record Stands (n : ℕ) (s : MachineState clight.State) (t : x86.State) (owed : ℕ → ℕ) : Type 0 where
  pub at : Places
  pub stage : Stage
  pub in_source : s ≡ source_at n at stage
  pub in_target : t ≡ target_at n stage
  pub none_owed : (i : ℕ) → owed i < 1

-- the constant that the first statement of main returns, and 0 where it does something else
abbrev pub number_in : Statements → ℕ
number_in (Cons (Return (Some (Const n))) l) = n
number_in _ = 0

abbrev pub number_of : ProgramOf → ℕ
number_of p = number_in p.main.body
