-- What each item does to the objects, to the object with a range, and to one cell: a view without its whole memory.
use Rattle.std.specs.Prelude.{ℕ, ◌-◌, Bool, true, false, not, List, [], ◌∷◌, Option, Some, None, ◌&&◌, ◌||◌, ◌%◌, ◌==◌, nat_lt, if◌then◌else◌}
use Rattle.std.specs.List.{list_any}
use Rattle.tso_words.specs.declared.value.Val.TheVariants.{Undef, Word}
use Rattle.tso_words.specs.declared.value.Cell.{Cell}
use Rattle.tso_words.specs.declared.value.Cell.TheVariants.{Blank}
use Rattle.tso_words.specs.Words.{chunk_size, byte_of}
use Rattle.tso_memory.specs.declared.object.Object.{Object}
use Rattle.tso_memory.specs.declared.buffer.Item.{Item}
use Rattle.tso_memory.specs.declared.buffer.Item.TheVariants.{Put, Place, Lift}
use Rattle.tso_memory.specs.Memory.{meets, is_in, is_right, holds, is_met, is_at, inserted, unmet, lifted}
use Rattle.tso_memory.specs.Buffer.{local, is_lift, is_in_stacks}

-- the objects after an item, and after all of them
abbrev pub objects_at : Item → List Object → List Object
objects_at (Put chunk addr val) os = os
objects_at (Place base size) os = inserted (local base size) (unmet base size os)
objects_at (Lift base size) os = lifted base size os

abbrev pub objects_after : List Object → List Item → List Object
objects_after os [] = os
objects_after os (i ∷ is) = objects_after (objects_at i os) is

-- the item is no store, or one that is right
abbrev pub is_right_item : List Object → Item → Bool
is_right_item os (Put chunk addr val) = is_right os chunk addr
is_right_item os (Place base size) = true
is_right_item os (Lift base size) = true

-- each store is right in its turn
abbrev pub all_right : List Object → List Item → Bool
all_right os [] = true
all_right os (i ∷ is) = is_right_item os i && all_right (objects_at i os) is

-- the item is a store, which leaves the objects
abbrev pub is_store : Item → Bool
is_store (Put chunk addr val) = true
is_store (Place base size) = false
is_store (Lift base size) = false

-- an object, unless the test ends it
abbrev pub unless : (Object → Bool) → Option Object → Option Object
unless t None = None
unless t (Some o) = if t o then None else Some o

-- the object with a range after an item, and after all of them
abbrev pub holder_after : Item → (base size : ℕ) → Option Object → Option Object
holder_after (Put chunk addr val) base size holder = holder
holder_after (Place b n) base size holder = if holds (local b n) base size then Some (local b n) else unless (is_met b n) holder
holder_after (Lift b n) base size holder = unless (is_at b n) holder

abbrev pub holder_through : List Item → (base size : ℕ) → Option Object → Option Object
holder_through [] base size holder = holder
holder_through (i ∷ is) base size holder = holder_through is base size (holder_after i base size holder)

-- the cell at an address after an item, and after all of them, as long as it is live
abbrev pub cell_after : Item → ℕ → Cell → Cell
cell_after (Put chunk Undef val) x cell = cell
cell_after (Put chunk (Word a) val) x cell = if is_in a (chunk_size chunk) x then byte_of val (x - a) else cell
cell_after (Place base size) x cell = if is_in base size x then Blank else cell
cell_after (Lift base size) x cell = cell

abbrev pub cell_through : List Item → ℕ → Cell → Cell
cell_through [] x cell = cell
cell_through (i ∷ is) x cell = cell_through is x (cell_after i x cell)

-- the item is no Place that meets the range, or its Lift stands behind it
abbrev pub is_lifted_by : (base size : ℕ) → (behind : List Item) → Item → Bool
is_lifted_by base size behind (Put chunk addr val) = true
is_lifted_by base size behind (Place b n) = not (meets b n base size) || list_any (is_lift b n) behind
is_lifted_by base size behind (Lift b n) = true

-- the range may hold an object of a stack, whatever else is there
abbrev pub is_fit : (base size align : ℕ) → Bool
is_fit base size align = nat_lt 0 size && (nat_lt 0 align && ((base % align == 0) && is_in_stacks base size))
