-- Store buffers (after x86-TSO of Owens, Sarkar and Sewell 2009 for stores, and ClightTSO for the objects of locals; the view is a whole memory here, where the code looks at the items that matter).
use Rattle.std.specs.Prelude.{ℕ, zero, suc, ◌+◌, ◌%◌, Bool, true, false, not, List, [], ◌∷◌, Option, Some, None, ◌&&◌, ◌||◌, ◌==◌, nat_lt, nat_le, slice_index_or}
use Rattle.std.specs.List.{list_any, list_all}
use Rattle.tso_words.specs.declared.value.Val.{Val}
use Rattle.tso_words.specs.declared.value.Cell.TheVariants.{Blank}
use Rattle.tso_words.specs.declared.value.Chunk.{Chunk}
use Rattle.tso_memory.specs.declared.object.Object.{Object}
use Rattle.tso_memory.specs.declared.object.Kind.TheVariants.{Local}
use Rattle.tso_memory.specs.declared.buffer.Item.{Item}
use Rattle.tso_memory.specs.declared.buffer.Item.TheVariants.{Put, Place, Lift}
use Rattle.tso_memory.specs.Memory.{MemoryMeaning, IsSound, meets, load, put, only, added, unmet, lifted}

-- the object that a Place makes
abbrev pub local : (base size : ℕ) → Object
local base size = record { base = base; size = size; kind = Local }

-- the memory after an item; None where the item is wrong
abbrev pub applied : MemoryMeaning → Item → Option MemoryMeaning
applied m (Put chunk addr val) = put m chunk addr val
applied m (Place base size) = Some (added (local base size) Blank (only (unmet base size m.objects) m))
applied m (Lift base size) = Some (only (lifted base size m.objects) m)

abbrev pub and_then : Option MemoryMeaning → (MemoryMeaning → Option MemoryMeaning) → Option MemoryMeaning
and_then None f = None
and_then (Some m) f = f m

-- the memory after all items in order; None where one is wrong in its turn
abbrev pub view : MemoryMeaning → List Item → Option MemoryMeaning
view m [] = Some m
view m (i ∷ is) = and_then (applied m i) (λ n. view n is)

-- a load from a view; None where there is no view or the access is not right there
abbrev pub loaded : Option MemoryMeaning → Chunk → Val → Option Val
loaded None c addr = None
loaded (Some m) c addr = load m c addr

-- the range of a Place is sound
abbrev pub IsSoundItem : Item → Type 0
IsSoundItem (Put chunk addr val) = Unit {0}
IsSoundItem (Place base size) = IsSound base size
IsSoundItem (Lift base size) = Unit {0}

abbrev pub AreSoundItems : List Item → Type 0
AreSoundItems [] = Unit {0}
AreSoundItems (i ∷ is) = IsSoundItem i × AreSoundItems is

-- what a buffer means: its items, oldest first, and how many more need no memory
pub record BufferMeaning : Type 0 where
  pub items : List Item
  pub spare : ℕ

-- the item is the Lift of a whole range
abbrev pub is_lift : (base size : ℕ) → Item → Bool
is_lift base size (Put chunk addr val) = false
is_lift base size (Place b n) = false
is_lift base size (Lift b n) = (b == base) && (n == size)

-- the item is a Place that meets a range
abbrev pub is_place : (base size : ℕ) → Item → Bool
is_place base size (Put chunk addr val) = false
is_place base size (Place b n) = meets b n base size
is_place base size (Lift b n) = false

-- each live object that meets the range has its Lift among the items
abbrev pub objects_lifted : (base size : ℕ) → List Item → List Object → Bool
objects_lifted base size own os = list_all (λ o. not (meets o.base o.size base size) || list_any (is_lift o.base o.size) own) os

-- each Place among the items that meets the range has its Lift behind it
abbrev pub places_lifted : (base size : ℕ) → List Item → Bool
places_lifted base size [] = true
places_lifted base size (Put chunk addr val ∷ is) = places_lifted base size is
places_lifted base size (Place b n ∷ is) = (not (meets b n base size) || list_any (is_lift b n) is) && places_lifted base size is
places_lifted base size (Lift b n ∷ is) = places_lifted base size is

-- no Place among the items meets the range
abbrev pub unplaced : (base size : ℕ) → List Item → Bool
unplaced base size is = list_all (λ i. not (is_place base size i)) is

-- of all buffers: a Place that meets the range stands in that of the thread, with its Lift behind it
abbrev pub pending_ok : (base size : ℕ) → (thread : ℕ) → List (List Item) → Bool
pending_ok base size thread [] = true
pending_ok base size zero (own ∷ others) = places_lifted base size own && list_all (unplaced base size) others
pending_ok base size (suc thread) (other ∷ buffers) = unplaced base size other && pending_ok base size thread buffers

-- the range is one of the stacks' range
abbrev pub is_in_stacks : (base size : ℕ) → Bool
is_in_stacks base size = nat_le 0x90000000 base && nat_le (base + size) 0xF0000000

-- a thread may place an object: the range has at least one byte, its base is a multiple of the alignment, it lies in the stacks' range, each live object that it meets has its Lift in the thread's buffer, and each pending Place that it meets stands in the thread's buffer with its Lift behind it
abbrev pub is_place_allowed : List Object → List (List Item) → (thread base size align : ℕ) → Bool
is_place_allowed os buffers thread base size align = nat_lt 0 size && (nat_lt 0 align && ((base % align == 0) && (is_in_stacks base size && (objects_lifted base size (slice_index_or buffers thread []) os && pending_ok base size thread buffers))))
