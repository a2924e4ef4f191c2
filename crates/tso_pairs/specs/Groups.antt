-- Buffers of one thread on two machines, related by a list of groups (of this project; the buffers of x86-TSO are lists, and what a pass puts in place of an item is one group). The output's machine may be of another kind, so its items and its memory are any.
use Rattle.std.specs.Prelude.{◌≡◌, Bool, false, List, [], ◌∷◌, ◌++◌, ◌||◌, Option, Some, None}
use Rattle.tso_memory.specs.declared.buffer.Item.{Item}
use Rattle.tso_memory.specs.Memory.{MemoryMeaning}
use Rattle.tso_memory.specs.Buffer.{view}
use Rattle.tso_core.specs.Shared.{holds_put}

-- how a pass relates the buffers of its input and its output
pub record Pairing : Type 1 where
  -- the items of the output's buffer and its memory, which items are writes, and the memory after an item; None where it is wrong
  pub Held : Type 0
  pub Store : Type 0
  pub is_write : Held → Bool
  pub apply : Store → Held → Option Store
  pub Group : Type 0
  -- what of a group waits in the input's buffer, and the item, if there is one, that waits in the output's
  pub source : Group → List Item
  pub target : Group → Option Held
  -- the memories of the two that are related, and what a group asks of the input's memory when its turn comes
  pub Pair : MemoryMeaning → Store → Type 0
  pub Side : MemoryMeaning → Group → Type 0

abbrev pub one_or_none : {A : Type 0} → Option A → List A
one_or_none None = []
one_or_none (Some i) = i ∷ []

abbrev pub and_then : {A : Type 0} → Option A → (A → Option A) → Option A
and_then None f = None
and_then (Some a) f = f a

module _ (p : Pairing) where
  -- the two buffers
  abbrev pub sources : List p.Group → List Item
  sources [] = []
  sources (g ∷ gs) = p.source g ++ sources gs

  abbrev pub targets : List p.Group → List p.Held
  targets [] = []
  targets (g ∷ gs) = one_or_none (p.target g) ++ targets gs

  -- the output's memory after all items in order; None where one is wrong in its turn
  abbrev pub target_view : p.Store → List p.Held → Option p.Store
  target_view n [] = Some n
  target_view n (i ∷ is) = and_then (p.apply n i) (λ k. target_view k is)

  -- a write waits among the items
  abbrev pub holds_write : List p.Held → Bool
  holds_write [] = false
  holds_write (i ∷ is) = p.is_write i || holds_write is

  -- each group has what it asks when its turn comes
  abbrev pub Fit : MemoryMeaning → List p.Group → Type 0
  Fit m [] = Unit {0}
  Fit m (g ∷ gs) = p.Side m g × ((n : MemoryMeaning) → view m (p.source g) ≡ Some n → Fit n gs)

  -- related memories; where the input has gone wrong, the output is free
  abbrev pub ArePaired : Option MemoryMeaning → Option p.Store → Type 0
  ArePaired None n = Unit {0}
  ArePaired (Some m) None = ⊥
  ArePaired (Some m) (Some n) = p.Pair m n

  -- each group keeps memories related: all that a pass has to show
  abbrev pub KeepsPair : Type 0
  KeepsPair = (m : MemoryMeaning) (n : p.Store) (g : p.Group) → p.Pair m n → p.Side m g → ArePaired (view m (p.source g)) (target_view n (one_or_none (p.target g)))

  -- the views behind the two buffers are related
  abbrev pub ViewsPaired : Type 0
  ViewsPaired = (m : MemoryMeaning) (n : p.Store) (gs : List p.Group) → p.Pair m n → Fit m gs → ArePaired (view m (sources gs)) (target_view n (targets gs))

  -- the groups in front that a drain of the output's oldest item takes off, and those that are left
  pub record Drains (m : MemoryMeaning) (n : p.Store) (item : p.Held) (rest : List p.Held) (gs : List p.Group) : Type 0 where
    pub drained : List p.Group
    pub left : List p.Group
    pub split : gs ≡ drained ++ left
    pub rest_is : targets left ≡ rest
    pub paired : ArePaired (view m (sources drained)) (p.apply n item)
    pub fit : (k : MemoryMeaning) → view m (sources drained) ≡ Some k → Fit k left

  abbrev pub DrainsPaired : Type 0
  DrainsPaired = (m : MemoryMeaning) (n : p.Store) (gs : List p.Group) (item : p.Held) (rest : List p.Held) → p.Pair m n → Fit m gs → targets gs ≡ item ∷ rest → Drains m n item rest gs

  -- a Put of the input is in the buffer only with a write of the output
  abbrev pub PutsPaired : Type 0
  PutsPaired = (g : p.Group) → holds_write (one_or_none (p.target g)) ≡ false → holds_put (p.source g) ≡ false

  abbrev pub NoPutAlone : Type 0
  NoPutAlone = (gs : List p.Group) → holds_write (targets gs) ≡ false → holds_put (sources gs) ≡ false
