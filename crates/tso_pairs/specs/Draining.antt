-- Drains of one thread's buffer, one after another (the internal steps of x86-TSO of Owens, Sarkar and Sewell 2009).
use Rattle.std.specs.Prelude.{◌≡◌, ℕ, zero, suc, ◌≤◌, List, [], ◌∷◌, ◌++◌, length, Some, None, slice_set}
use Rattle.tso_memory.specs.declared.buffer.Item.{Item}
use Rattle.tso_memory.specs.Memory.{MemoryMeaning}
use Rattle.tso_memory.specs.Buffer.{view}
use Rattle.tso_core.specs.declared.Step.{Step}
use Rattle.tso_core.specs.declared.Step.TheVariants.{Drain}
use Rattle.tso_core.specs.declared.offer.Now.TheVariants as N
use Rattle.tso_core.specs.Systems.{after, shown, IsRun}
use Rattle.tso_core.specs.Language.{Language}
use Rattle.tso_core.specs.Machine.{MachineState, open_machine}
use Rattle.tso_core.specs.Shared.{buffer_of}

-- so many drains of a thread
abbrev pub drains : (thread count : ℕ) → List Step
drains i zero = []
drains i (suc n) = Drain i ∷ drains i n

module _ {State : Type 0} (l : Language State) where
  -- they are enabled, show nothing, and lead to a state
  pub record Leads (m : MachineState State) (i count : ℕ) (new : MachineState State) : Type 0 where
    pub is_run : IsRun (open_machine l) m (drains i count)
    pub quiet : shown (open_machine l) m (drains i count) ≡ []
    pub leads : after (open_machine l) m (drains i count) ≡ new

  -- some are enabled, show nothing, and the last makes the machine wrong
  pub record ComesToWrong (m : MachineState State) (i : ℕ) : Type 0 where
    pub count : ℕ
    pub new : MachineState State
    pub some : 1 ≤ count
    pub leads : Leads m i count new
    pub wrong : new.shared.now ≡ N.Wrong

  -- a machine whose memory is the view behind the items that were drained
  abbrev pub drained_to : MachineState State → ℕ → MemoryMeaning → List Item → MachineState State
  drained_to m i memory rest = record { at = m.at; shared = record m.shared { memory = memory; buffers = slice_set m.shared.buffers i rest }; threads = m.threads }

  -- the front of a buffer that is right drains to its view
  abbrev pub FrontDrains : Type 0
  FrontDrains = (m : MachineState State) (i : ℕ) (items rest : List Item) (memory : MemoryMeaning) → m.shared.now ≡ N.Running → buffer_of m.shared i ≡ items ++ rest → view m.shared.memory items ≡ Some memory → Leads m i (length items) (drained_to m i memory rest)

  -- one that is not right drains to the store that is wrong in its turn
  abbrev pub WrongFrontDrains : Type 0
  WrongFrontDrains = (m : MachineState State) (i : ℕ) (items rest : List Item) → m.shared.now ≡ N.Running → buffer_of m.shared i ≡ items ++ rest → view m.shared.memory items ≡ None → ComesToWrong m i
