-- How the machine of a pass's input answers drains of its output's, where the buffers are paired.
use Rattle.std.specs.Prelude.{◌≡◌, ℕ, List, [], ◌∷◌, Some, ◌⊎◌}
use Rattle.tso_memory.specs.Memory.{MemoryMeaning}
use Rattle.tso_core.specs.declared.offer.Now.TheVariants as N
use Rattle.tso_core.specs.Language.{Language}
use Rattle.tso_core.specs.Machine.{MachineState}
use Rattle.tso_core.specs.Shared.{buffer_of}
use Rattle.tso_pairs.specs.Groups.{Pairing, sources, targets, Fit}
use Rattle.tso_pairs.specs.Draining.{Leads, ComesToWrong, drained_to}

module _ {State : Type 0} (l : Language State) (p : Pairing) where
  -- drains that lead to where the groups behind the drained item are left, over related memories
  pub record AnswersDrain (m : MachineState State) (i : ℕ) (n : p.Store) (item : p.Held) (rest : List p.Held) : Type 0 where
    pub left : List p.Group
    pub memory : MemoryMeaning
    pub target_memory : p.Store
    pub count : ℕ
    pub leads : Leads l m i count (drained_to l m i memory (sources p left))
    pub drains : p.apply n item ≡ Some target_memory
    pub pair : p.Pair memory target_memory
    pub fit : Fit p memory left
    pub rest_is : targets p left ≡ rest

  -- a drain of the output's oldest item is answered, or the input goes wrong
  abbrev pub DrainsAnswered : Type 0
  DrainsAnswered = (m : MachineState State) (i : ℕ) (n : p.Store) (gs : List p.Group) (item : p.Held) (rest : List p.Held) → m.shared.now ≡ N.Running → buffer_of m.shared i ≡ sources p gs → p.Pair m.shared.memory n → Fit p m.shared.memory gs → targets p gs ≡ item ∷ rest → ComesToWrong l m i ⊎ AnswersDrain m i n item rest

  -- drains that empty the buffer, to a memory that is related
  pub record Empties (m : MachineState State) (i : ℕ) (n : p.Store) : Type 0 where
    pub memory : MemoryMeaning
    pub count : ℕ
    pub leads : Leads l m i count (drained_to l m i memory [])
    pub pair : p.Pair memory n

  -- where the output's buffer is empty, the input's can be, or the input goes wrong
  abbrev pub EmptiesAnswered : Type 0
  EmptiesAnswered = (m : MachineState State) (i : ℕ) (n : p.Store) (gs : List p.Group) → m.shared.now ≡ N.Running → buffer_of m.shared i ≡ sources p gs → p.Pair m.shared.memory n → Fit p m.shared.memory gs → targets p gs ≡ [] → ComesToWrong l m i ⊎ Empties m i n
