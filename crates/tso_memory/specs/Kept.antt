-- What the fields of a memory and of a buffer stand for. The cells are kept in pages, an entry for each page number; a cell that no store or new object has touched has what its object began with.
use Rattle.std.specs.Prelude.{◌≡◌, ℕ, ◌+◌, ◌*◌, ◌/◌, ◌%◌, ◌<◌, ◌≤◌, List, [], ◌∷◌, length, drop, Option, Some, None, IsSome, slice_index_or, ◌&&◌, nat_lt, nat_le, if◌then◌else◌}
use Rattle.std.specs.Option.{unwrap_or}
use Rattle.tso_words.specs.declared.value.Cell.{Cell}
use Rattle.tso_words.specs.declared.value.Cell.TheVariants.{Blank, Byte}
use Rattle.tso_memory.specs.declared.object.Object.{Object}
use Rattle.tso_memory.specs.declared.buffer.Item.{Item}
use Rattle.tso_memory.specs.Buffer.{AreSoundItems}
use Rattle.tso_memory.specs.Memory.{MemoryMeaning, AreObjects, is_live}

-- pages of 16,384 cells: for each page number the place of its page, and the pages one after another
pub record KeptPages : Type 0 where
  pub table : List (Option ℕ)
  pub cells : List (Option Cell)
  -- a page more needs no memory
  pub spare : ℕ

-- the cell in a page
abbrev pub cell_in : List (Option Cell) → Option ℕ → ℕ → Option Cell
cell_in cells None offset = None
cell_in cells (Some page) offset = slice_index_or cells (page * 16384 + offset) None

-- the cell that was written at an address, if one was
abbrev pub written_at : KeptPages → ℕ → Option Cell
written_at p x = cell_in p.cells (slice_index_or p.table (x / 16384) None) (x % 16384)

-- the page of an address is there
abbrev pub IsOpen : KeptPages → ℕ → Type 0
IsOpen p x = IsSome (slice_index_or p.table (x / 16384) None)

-- what the fields of pages keep: the entries of the table lie among the pages, and no two are the same
pub record ArePages (table : List (Option ℕ)) (cells : List (Option Cell)) (count : ℕ) : Type 0 where
  pub whole : length cells ≡ count * 16384
  pub there : (i page : ℕ) → slice_index_or table i None ≡ Some page → page < count
  pub apart : (i j page : ℕ) → slice_index_or table i None ≡ Some page → slice_index_or table j None ≡ Some page → i ≡ j

-- 1 where one more page needs no memory: the table is whole, and there is room for the cells
abbrev pub page_room : (length capacity count : ℕ) → (table : ℕ) → ℕ
page_room length capacity count table = if nat_le 262144 table && (nat_le (length + 16384) capacity && nat_lt count 4294967295) then 1 else 0

-- a memory as its fields keep it
pub record Kept : Type 0 where
  pub objects : List Object
  -- those that began with zeros
  pub zeroed : List Object
  pub pages : KeptPages
  -- with 1 the next change needs no memory
  pub spare : ℕ

-- the cell of an address in a live object
abbrev pub kept_at : Kept → ℕ → Cell
kept_at k x = unwrap_or (written_at k.pages x) (if is_live k.zeroed x then Byte 0 else Blank)

-- what it means
abbrev pub memory_of : Kept → MemoryMeaning
memory_of k = record { objects = k.objects; cells = λ x. if is_live k.objects x then kept_at k x else Blank }

-- the first are some of the second, in the same order
pub data Within : List Object → List Object → Type 0 where
  WithinNone : Within [] []
  WithinBoth : {o : Object} {xs ys : List Object} → Within xs ys → Within (o ∷ xs) (o ∷ ys)
  WithinMore : {o : Object} {xs ys : List Object} → Within xs ys → Within xs (o ∷ ys)

-- what the fields of a memory keep
pub record IsKept (objects zeroed : List Object) : Type 0 where
  pub in_order : AreObjects 0 objects
  pub zeroed_order : AreObjects 0 zeroed
  pub live : Within zeroed objects

-- 1 where the next change needs no memory
abbrev pub object_room : (length capacity pages : ℕ) → ℕ
object_room length capacity pages = if nat_le (length + 1) capacity && nat_le 1 pages then 1 else 0

-- the memory without objects
abbrev pub empty : MemoryMeaning
empty = record { objects = []; cells = λ x. Blank }

-- what the fields of a buffer keep: the items taken off lie in the list, and the others are sound
pub record IsQueue (list : List Item) (head : ℕ) : Type 0 where
  pub within : head ≤ length list
  pub sound : AreSoundItems (drop head list)
