-- Laws of memory and of the view of a thread: what a load finds after stores, after objects begin and end elsewhere, and which items stay right.
use Rattle.std.specs.Prelude.{◌≡◌, ℕ, suc, ◌+◌, ◌-◌, ◌<◌, ◌≤◌, true, List, [], ◌∷◌, ◌++◌, length, take, Some, is_some, ◌⊎◌}
use Rattle.tso_words.specs.declared.value.Val.{Val}
use Rattle.tso_words.specs.declared.value.Val.TheVariants.{Word}
use Rattle.tso_words.specs.declared.value.Cell.{Cell}
use Rattle.tso_words.specs.declared.value.Chunk.{Chunk}
use Rattle.tso_words.specs.Words.{chunk_size, byte_of, bytes_of, value_of}
use Rattle.tso_memory.specs.declared.object.Object.{Object}
use Rattle.tso_memory.specs.declared.buffer.Item.{Item}
use Rattle.tso_memory.specs.declared.buffer.Item.TheVariants.{Put, Place, Lift}
use Rattle.tso_memory.specs.Memory.{MemoryMeaning, is_right, load, cells_put, put, unmet, lifted}
use Rattle.tso_memory.specs.Buffer.{applied, and_then, view, loaded}
use Rattle.tso_memory.specs.Through.{objects_at, is_store, all_right}

-- a load of the bytes that were stored gives the value, as the chunks keep it
abbrev pub LoadsWhatWasStored : Type 0
LoadsWhatWasStored = (m n : MemoryMeaning) (c d : Chunk) (addr v : Val) → chunk_size d ≡ chunk_size c → put m c addr v ≡ Some n → load n d addr ≡ Some (value_of d (bytes_of c v))

-- a store to other bytes leaves a load
abbrev pub StoreElsewhereLeaves : Type 0
StoreElsewhereLeaves = (m n : MemoryMeaning) (c d : Chunk) (a x : ℕ) (v : Val) → put m c (Word a) v ≡ Some n → (x + chunk_size d ≤ a) ⊎ (a + chunk_size c ≤ x) → load n d (Word x) ≡ load m d (Word x)

-- byte by byte: a stored cell has its byte of the value
abbrev pub StoresByteByByte : Type 0
StoresByteByByte = (cells : ℕ → Cell) (c : Chunk) (a : ℕ) (v : Val) (x : ℕ) → a ≤ x → x < a + chunk_size c → cells_put cells c (Word a) v x ≡ byte_of v (x - a)

-- the view behind two lists of items is that behind the second on that behind the first
abbrev pub ViewIsFold : Type 0
ViewIsFold = (m : MemoryMeaning) (xs ys : List Item) → view m (xs ++ ys) ≡ and_then (view m xs) (λ n. view n ys)

-- the oldest item reaches memory, and the own view stays
abbrev pub DrainingKeepsView : Type 0
DrainingKeepsView = (m n : MemoryMeaning) (i : Item) (is : List Item) → applied m i ≡ Some n → view m (i ∷ is) ≡ view n is

-- there is a view just where each store is right in its turn
abbrev pub ViewIsWhereRight : Type 0
ViewIsWhereRight = (m : MemoryMeaning) (is : List Item) → is_some (view m is) ≡ all_right m.objects is

-- a load sees the newest own store
abbrev pub SeesNewestStore : Type 0
SeesNewestStore = (m n : MemoryMeaning) (xs : List Item) (c d : Chunk) (addr v : Val) → chunk_size d ≡ chunk_size c → view m (xs ++ Put c addr v ∷ []) ≡ Some n → loaded (view m (xs ++ Put c addr v ∷ [])) d addr ≡ Some (value_of d (bytes_of c v))

-- a Lift, or a Place elsewhere, that leaves the object of a load leaves the load
abbrev pub LiftElsewhereLeaves : Type 0
LiftElsewhereLeaves = (m : MemoryMeaning) (base size : ℕ) (d : Chunk) (x : ℕ) → is_right (lifted base size m.objects) d (Word x) ≡ true → is_right m.objects d (Word x) ≡ true → loaded (applied m (Lift base size)) d (Word x) ≡ load m d (Word x)

abbrev pub PlaceElsewhereLeaves : Type 0
PlaceElsewhereLeaves = (m : MemoryMeaning) (base size : ℕ) (d : Chunk) (x : ℕ) → is_right (unmet base size m.objects) d (Word x) ≡ true → is_right m.objects d (Word x) ≡ true → (x + chunk_size d ≤ base) ⊎ (base + size ≤ x) → loaded (applied m (Place base size)) d (Word x) ≡ load m d (Word x)

-- a push leaves the stores known to be right: it adds none to the first items
abbrev pub PushLeavesRight : Type 0
PushLeavesRight = (os : List Object) (is : List Item) (i : Item) (k : ℕ) → k ≤ length is → all_right os (take k (is ++ i ∷ [])) ≡ all_right os (take k is)

-- once the oldest item is in memory, the items behind it that were right with it are right there
abbrev pub DrainLeavesRight : Type 0
DrainLeavesRight = (os : List Object) (i : Item) (is : List Item) (k : ℕ) → all_right os (take (suc k) (i ∷ is)) ≡ true → all_right (objects_at i os) (take k is) ≡ true

-- the live objects of a memory after an item
abbrev pub ItemChangesObjects : Type 0
ItemChangesObjects = (m n : MemoryMeaning) (i : Item) → applied m i ≡ Some n → n.objects ≡ objects_at i m.objects

-- a store, of whatever thread, leaves the live objects, and so what is right among them
abbrev pub StoreLeavesObjects : Type 0
StoreLeavesObjects = (m n : MemoryMeaning) (i : Item) → is_store i ≡ true → applied m i ≡ Some n → n.objects ≡ m.objects
