-- What a machine keeps stands for, and what a step of it gives (a function on states, where the code changes in place).
use Rattle.std.specs.Prelude.{◌≡◌, ◌≢◌, ◌≤◌, ◌⊎◌, ℕ, List, [], ◌∷◌, length, Bool, true, false, Option, Some, None, Result, Ok, Err, map, slice_get}
use Rattle.tso_core.specs.declared.Event.{Event}
use Rattle.tso_core.specs.declared.offer.Answer.TheVariants.{Value}
use Rattle.tso_core.specs.declared.offer.Offer.{Offer}
use Rattle.tso_core.specs.declared.offer.Now.{Now}
use Rattle.tso_core.specs.declared.offer.Now.TheVariants as N
use Rattle.tso_core.specs.declared.offer.StepOut.{StepOut}
use Rattle.tso_core.specs.declared.offer.StepRefusal.{StepRefusal}
use Rattle.tso_core.specs.declared.offer.StepRefusal.TheVariants.{NotEnabled, NoMemory}
use Rattle.tso_core.specs.Systems.{Places}
use Rattle.tso_core.specs.Threads.{Goes, acted, finished}
use Rattle.tso_core.specs.Language.{Language}
use Rattle.tso_core.specs.Shared.{Shared, Eff, shared_part, when, is_block_allowed, block_size, block}
use Rattle.tso_core.specs.Machine.{MachineState, lang_of, offered}
use Rattle.tso_memory.specs.declared.buffer.Item.{Item}
use Rattle.tso_memory.specs.Memory.{added}
use Rattle.tso_memory.specs.Kept.{memory_of}
use Rattle.tso_words.specs.declared.value.Cell.TheVariants.{Blank}
use Rattle.tso_words.specs.declared.value.Val.TheVariants.{Word}
use Rattle.tso_machine.specs.declared.keep.Core.{Core}

-- the mark of a thread, false where there is none
abbrev pub flag : Option Bool → Bool
flag None = false
flag (Some b) = b

-- what the threads share
abbrev pub core_shared : {Thread : Type 0} → Core Thread → Shared
core_shared c = record { memory = memory_of c.memory; buffers = map (λ b. b.items) c.buffers.items; ended = λ j. flag (slice_get c.ended.items j); now = c.now }

-- the oldest of some items, and those behind it
abbrev pub oldest_of : List Item → Option Item
oldest_of [] = None
oldest_of (item ∷ rest) = Some item

abbrev pub behind : List Item → List Item
behind [] = []
behind (item ∷ rest) = rest

-- the state of the machine, with the threads as what they stand for
abbrev pub core_state : {Thread State : Type 0} → (Thread → State) → Places → Core Thread → MachineState State
core_state f at c = record { at = at; shared = core_shared c; threads = map f c.threads.items }

-- the step is enabled, and gives its event and the new state; it is not enabled, and nothing changes; or memory lacks, and nothing changes
abbrev pub StepGives : {State : Type 0} → Option (Option Event × MachineState State) → (old new : MachineState State) → Result StepOut StepRefusal → Type 0
StepGives x old new (Ok out) = (x ≡ Some (out.event, new)) × (out.now ≡ new.shared.now)
StepGives x old new (Err NotEnabled) = (x ≡ None) × (new ≡ old)
StepGives x old new (Err NoMemory) = new ≡ old

-- the same of an effect, for the thread at a place
abbrev pub EffectGives : {State : Type 0} → Language State → Eff → ℕ → (old new : MachineState State) → Result StepOut StepRefusal → Type 0
EffectGives {State} l x i old new result = (s : State) → slice_get old.threads i ≡ Some s → StepGives (finished shared_part (lang_of l) old i s x) old new result

-- the same of an offer, where a step of the thread's own and going wrong are offers too
abbrev pub ActGives : {State : Type 0} → Language State → Offer → Option ℕ → ℕ → (old new : MachineState State) → Result StepOut StepRefusal → Type 0
ActGives {State} l o c i old new result = (s : State) → slice_get old.threads i ≡ Some s → StepGives (acted shared_part (lang_of l) old i s (offered o) c) old new result

-- why a thread cannot run: the machine has stopped, the thread has ended, or there is none
abbrev pub CannotRun : Now → (ended : List Bool) → ℕ → Type 0
CannotRun now ended i = (now ≢ N.Running) ⊎ (flag (slice_get ended i) ≡ true) ⊎ (length ended ≤ i)

-- a heap block at a base that is not 0, where it may begin
abbrev pub given_from : Shared → (size base : ℕ) → Eff
given_from sh size base = when (is_block_allowed sh.memory.objects base (block_size size)) (Goes (Value (Word base)) None (record sh { memory = added (block base (block_size size)) Blank sh.memory }))

-- the thread at a place offers this
abbrev pub OffersAt : {State : Type 0} → Language State → Offer → ℕ → MachineState State → Type 0
OffersAt {State} l o i m = (s : State) → slice_get m.threads i ≡ Some s → l.offer m.at s ≡ o
