-- The choice that a step takes where its schedule gives none (a rule of this project: the least address that is allowed, so that runs of a schedule repeat).
use Rattle.std.specs.Prelude.{◌≡◌, ◌≢◌, ◌⊎◌, ℕ, Bool, true, List, Option, Some, None, Result, Err, slice_get}
use Rattle.tso_words.specs.declared.value.Val.TheVariants.{Word}
use Rattle.tso_memory.specs.declared.object.Object.{Object}
use Rattle.tso_memory.specs.declared.buffer.Item.{Item}
use Rattle.tso_memory.specs.Buffer.{is_place_allowed}
use Rattle.tso_core.specs.declared.Step.{Step}
use Rattle.tso_core.specs.declared.Step.TheVariants.{Run, Drain}
use Rattle.tso_core.specs.declared.offer.Now.TheVariants as N
use Rattle.tso_core.specs.declared.offer.Offer.{Offer}
use Rattle.tso_core.specs.declared.offer.Offer.TheVariants as O
use Rattle.tso_core.specs.declared.offer.StepOut.{StepOut}
use Rattle.tso_core.specs.declared.offer.StepRefusal.{StepRefusal}
use Rattle.tso_core.specs.declared.offer.StepRefusal.TheVariants.{NoMemory}
use Rattle.tso_core.specs.Language.{Language}
use Rattle.tso_core.specs.Least.{IsLeast, NonePasses}
use Rattle.tso_core.specs.Machine.{MachineState, step}
use Rattle.tso_core.specs.Shared.{is_block_allowed, block_size}
use Rattle.tso_machine.specs.State.{StepGives}

-- the least, if there is one
abbrev pub IsLeastOrNone : (from : ℕ) → (ℕ → Bool) → Option ℕ → Type 0
IsLeastOrNone from test None = NonePasses from test
IsLeastOrNone from test (Some base) = IsLeast from test base

-- the least allowed base of a block of this size, or 0 where there is none
abbrev pub IsLeastOrZero : List Object → (size base : ℕ) → Type 0
IsLeastOrZero os n base =
    IsLeast 0x30000000 (λ x. is_block_allowed os x (block_size n)) base
    ⊎ ((base ≡ 0) × NonePasses 0x30000000 (λ x. is_block_allowed os x (block_size n)))

-- the default of an offer of thread i: the least allowed place of a local, and none where there is no such place; the least allowed block, and 0 where there is none; 0 for what an external call returns; and none for a step that takes no choice
abbrev pub IsDefault : List Object → List (List Item) → ℕ → Offer → Option ℕ → Type 0
IsDefault os buffers i (O.Place size align) c = IsLeastOrNone 0x90000000 (λ base. is_place_allowed os buffers i base size align) c
IsDefault os buffers i (O.Malloc (Word n)) None = ⊥
IsDefault os buffers i (O.Malloc (Word n)) (Some base) = IsLeastOrZero os n base
IsDefault os buffers i O.Wait c = c ≡ Some 0
IsDefault os buffers i _ c = c ≡ None

-- the thread cannot run: the machine has stopped, the thread has ended, or there is none
abbrev pub IsIdle : {State : Type 0} → MachineState State → ℕ → Type 0
IsIdle m i = (m.shared.now ≢ N.Running) ⊎ (m.shared.ended i ≡ true) ⊎ (slice_get m.threads i ≡ None)

-- the step that a machine takes for a step of a schedule
pub data IsChosen {State : Type 0} (l : Language State) (m : MachineState State) : Step → Step → Type 0 where
  Drained : {i : ℕ} → IsChosen l m (Drain i) (Drain i)
  Given : {i c : ℕ} → IsChosen l m (Run i (Some c)) (Run i (Some c))
  Idle : {i : ℕ} → IsIdle m i → IsChosen l m (Run i None) (Run i None)
  Default : {i : ℕ} {c : Option ℕ} {s : State} → slice_get m.threads i ≡ Some s → IsDefault m.shared.memory.objects m.shared.buffers i (l.offer m.at s) c → IsChosen l m (Run i None) (Run i c)

-- a chosen step and what it gives
pub record ChosenGives {State : Type 0} (l : Language State) (x : Step) (old new : MachineState State) (result : Result StepOut StepRefusal) : Type 0 where
  pub taken : Step
  pub chosen : IsChosen l old x taken
  pub gives : StepGives (step l old taken) old new result

-- the same, but that memory can lack before there is a choice
abbrev pub MachineGives : {State : Type 0} → Language State → Step → (old new : MachineState State) → Result StepOut StepRefusal → Type 0
MachineGives l x old new (Err NoMemory) = new ≡ old
MachineGives l x old new result = ChosenGives l x old new result
