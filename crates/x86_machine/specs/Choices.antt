-- The choice that a step takes where its schedule gives none (a rule of this project: the least address that is allowed, so that runs of a schedule repeat).
use Rattle.std.specs.Prelude.{◌≡◌, ◌⊎◌, ℕ, Bool, Option, Some, None, Result, Ok, Err, codes, bytes_eq, slice_get, if◌then◌else◌}
use Rattle.tso_core.specs.declared.Step.{Step}
use Rattle.tso_core.specs.declared.Step.TheVariants.{Run, Drain}
use Rattle.tso_core.specs.declared.Event.{Event}
use Rattle.tso_core.specs.declared.offer.StepRefusal.{StepRefusal}
use Rattle.tso_core.specs.declared.offer.StepRefusal.TheVariants.{NotEnabled, NoMemory}
use Rattle.tso_core.specs.Least.{IsLeast, NonePasses}
use Rattle.x86_table.specs.declared.instruction.Instr.{Instr}
use Rattle.x86_table.specs.declared.instruction.Instr.TheVariants as instr
use Rattle.x86_lang.specs.Assembly.{Assembly, heap_start}
use Rattle.x86_machine.specs.declared.choices.Asked.{Asked}
use Rattle.x86_machine.specs.declared.choices.Asked.TheVariants as asked
use Rattle.x86_machine.specs.declared.now.X86Out.{X86Out}
use Rattle.x86_machine.specs.Target.{Thread, State, stacks_start, are_right, instruction_at, block_size, is_block_allowed, is_stack_allowed}
use Rattle.x86_machine.specs.X86Tso.{Outcome, step, word_at_esp}

-- the least, or 0 where there is none
abbrev pub IsLeastOrZero : (from : ℕ) → (ℕ → Bool) → (base : ℕ) → Type 0
IsLeastOrZero from test base = IsLeast from test base ⊎ ((base ≡ 0) × NonePasses from test)

-- what the next step of a thread asks a schedule to choose: a block where it calls 'malloc', a stack where it calls 'thread_create', if the words that it passes are right
abbrev pub asked_by_call : Assembly → State → Thread → Option Instr → Asked
asked_by_call a m t (Some (instr.Call name)) =
    if bytes_eq name (codes "malloc") then (if are_right a m t.registers.esp 1 then asked.Block (word_at_esp m t 0) else asked.Nothing)
    else if bytes_eq name (codes "thread_create") then (if are_right a m t.registers.esp 2 then asked.Stack else asked.Nothing)
    else asked.Nothing
asked_by_call a m t _ = asked.Nothing

-- and the word that a call of the outside returns, where it waits for one
abbrev pub asked_of : Assembly → State → Thread → Asked
asked_of a m t = if t.waits then asked.Word else asked_by_call a m t (instruction_at a t.place)

-- the default: 0 for a word; the least base that is allowed, and 0 where there is none; no choice for a step that takes none
abbrev pub IsDefault : State → Asked → Option ℕ → Type 0
IsDefault m asked.Nothing c = c ≡ None
IsDefault m asked.Word c = c ≡ Some 0
IsDefault m (asked.Block n) None = ⊥
IsDefault m (asked.Block n) (Some base) = IsLeastOrZero heap_start (λ x. is_block_allowed m.heap x (block_size n)) base
IsDefault m asked.Stack None = ⊥
IsDefault m asked.Stack (Some base) = IsLeastOrZero stacks_start (is_stack_allowed m.threads) base

-- the step that the machine takes for a step of a schedule
pub data IsChosen (a : Assembly) (m : State) : Step → Step → Type 0 where
  Drained : {i : ℕ} → IsChosen a m (Drain i) (Drain i)
  Given : {i c : ℕ} → IsChosen a m (Run i (Some c)) (Run i (Some c))
  Missing : {i : ℕ} → slice_get m.threads i ≡ None → IsChosen a m (Run i None) (Run i None)
  Default : {i : ℕ} {c : Option ℕ} {t : Thread} → slice_get m.threads i ≡ Some t → IsDefault m (asked_of a m t) c → IsChosen a m (Run i None) (Run i c)

-- the step is enabled, and gives its event and the new state; it is not enabled, and nothing changes; or memory lacks, and nothing changes
abbrev pub StepGives : Outcome → (old new : State) → Result X86Out StepRefusal → Type 0
StepGives x old new (Ok out) = (x ≡ Some (out.event, new)) × (out.now ≡ new.now)
StepGives x old new (Err NotEnabled) = (x ≡ None) × (new ≡ old)
StepGives x old new (Err NoMemory) = new ≡ old

-- a chosen step and what it gives
pub record MachineGives (a : Assembly) (s : Step) (old new : State) (result : Result X86Out StepRefusal) : Type 0 where
  pub taken : Step
  pub chosen : IsChosen a old s taken
  pub gives : StepGives (step a old taken) old new result
