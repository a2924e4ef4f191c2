-- A further group behind those that wait in two paired buffers (of this project).
use Rattle.std.specs.Prelude.{◌≡◌, List, [], ◌∷◌, ◌++◌, Some}
use Rattle.tso_memory.specs.Memory.{MemoryMeaning}
use Rattle.tso_memory.specs.Buffer.{view}
use Rattle.tso_pairs.specs.Groups.{Pairing, one_or_none, sources, targets, Fit}

module _ (p : Pairing) where
  -- its items stand behind those of the others, and each group has what it asks
  pub record IsGrown (m : MemoryMeaning) (gs : List p.Group) (g : p.Group) : Type 0 where
    pub sources_are : sources p (gs ++ g ∷ []) ≡ sources p gs ++ p.source g
    pub targets_are : targets p (gs ++ g ∷ []) ≡ targets p gs ++ one_or_none (p.target g)
    pub fit : Fit p m (gs ++ g ∷ [])

  -- all that is asked is what the group itself asks, of the view of the input's thread
  abbrev pub GroupsGrow : Type 0
  GroupsGrow = (m : MemoryMeaning) (gs : List p.Group) (g : p.Group) → Fit p m gs → ((k : MemoryMeaning) → view m (sources p gs) ≡ Some k → p.Side k g) → IsGrown m gs g
