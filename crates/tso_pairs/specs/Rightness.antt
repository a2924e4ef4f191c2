-- Buffers whose stores are right in their turn, and what keeps them so (of this project; in x86-TSO of Owens, Sarkar and Sewell 2009 every store is right).
use Rattle.std.specs.Prelude.{◌≡◌, ℕ, Bool, true, false, List, [], ◌∷◌, ◌++◌, Some, IsSome}
use Rattle.std.specs.List.{list_any}
use Rattle.tso_words.specs.declared.value.Val.{Val}
use Rattle.tso_words.specs.declared.value.Cell.{Cell}
use Rattle.tso_words.specs.declared.value.Chunk.{Chunk}
use Rattle.tso_memory.specs.declared.object.Object.{Object}
use Rattle.tso_memory.specs.declared.buffer.Item.{Item}
use Rattle.tso_memory.specs.declared.buffer.Item.TheVariants.{Place}
use Rattle.tso_memory.specs.Memory.{MemoryMeaning, put, added, is_met}
use Rattle.tso_memory.specs.Buffer.{applied, view}

-- no store among the items is wrong in its turn
abbrev pub IsRightBuffer : MemoryMeaning → List Item → Type 0
IsRightBuffer m items = IsSome (view m items)

-- whatever an object of the first memory passes, one of the second passes
abbrev pub HasObjects : MemoryMeaning → MemoryMeaning → Type 0
HasObjects m n = (test : Object → Bool) → list_any test m.objects ≡ true → list_any test n.objects ≡ true

-- more objects leave a buffer right
abbrev pub MoreObjectsKeepRight : Type 0
MoreObjectsKeepRight = (m n : MemoryMeaning) (items : List Item) → HasObjects m n → IsRightBuffer m items → IsRightBuffer n items

-- a store of any thread, a new object, and a Place that meets no live object take no object away
abbrev pub StoreKeepsObjects : Type 0
StoreKeepsObjects = (m n : MemoryMeaning) (c : Chunk) (addr v : Val) → put m c addr v ≡ Some n → HasObjects m n

abbrev pub NewObjectKeepsObjects : Type 0
NewObjectKeepsObjects = (m : MemoryMeaning) (o : Object) (cell : Cell) → HasObjects m (added o cell m)

abbrev pub PlaceKeepsObjects : Type 0
PlaceKeepsObjects = (m n : MemoryMeaning) (base size : ℕ) → list_any (is_met base size) m.objects ≡ false → applied m (Place base size) ≡ Some n → HasObjects m n

-- an item that is right in the thread's view may stand behind the others, and the oldest may drain
abbrev pub PushKeepsRight : Type 0
PushKeepsRight = (m n : MemoryMeaning) (items : List Item) (i : Item) → view m items ≡ Some n → IsSome (applied n i) → IsRightBuffer m (items ++ i ∷ [])

abbrev pub DrainKeepsRight : Type 0
DrainKeepsRight = (m n : MemoryMeaning) (i : Item) (items : List Item) → applied m i ≡ Some n → IsRightBuffer m (i ∷ items) → IsRightBuffer n items
