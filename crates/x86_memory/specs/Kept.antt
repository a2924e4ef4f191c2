-- What the fields of a memory and a buffer stand for: bytes are kept in pages, an entry for each page number, and a byte of no page is 0.
use Rattle.std.specs.Prelude.{◌≡◌, ℕ, ◌+◌, ◌*◌, ◌/◌, ◌%◌, ◌<◌, ◌≤◌, List, length, drop, Option, Some, None, IsSome, slice_index_or, slice_index, ◌&&◌, nat_lt, nat_le, if◌then◌else◌}
use Rattle.x86_memory.specs.declared.buffer.Write.{Write}
use Rattle.x86_memory.specs.Bytes.{Bytes, AreSound}

-- pages of 16,384 bytes: for each page number the place of its page, and the pages one after another
pub record Kept : Type 0 where
  pub table : List (Option ℕ)
  pub bytes : List ℕ
  -- with 1 the next write needs no memory
  pub spare : ℕ

abbrev pub byte_in : List ℕ → Option ℕ → ℕ → ℕ
byte_in bytes None offset = 0
byte_in bytes (Some page) offset = slice_index bytes (page * 16384 + offset)

-- the byte at an address
abbrev pub byte_at : Kept → ℕ → ℕ
byte_at k x = byte_in k.bytes (slice_index_or k.table (x / 16384) None) (x % 16384)

-- what it means
abbrev pub bytes_in : Kept → Bytes
bytes_in k = λ x. byte_at k x

-- the page of an address is there
abbrev pub IsOpen : Kept → ℕ → Type 0
IsOpen k x = IsSome (slice_index_or k.table (x / 16384) None)

-- what the fields of a memory keep: the entries of the table lie among the pages, and no two are the same
pub record ArePages (table : List (Option ℕ)) (bytes : List ℕ) (count : ℕ) : Type 0 where
  pub whole : length bytes ≡ count * 16384
  pub there : (i page : ℕ) → slice_index_or table i None ≡ Some page → page < count
  pub apart : (i j page : ℕ) → slice_index_or table i None ≡ Some page → slice_index_or table j None ≡ Some page → i ≡ j

-- 1 where one more page needs no memory: the table is whole, and there is room for the bytes
abbrev pub page_room : (length capacity count table : ℕ) → ℕ
page_room length capacity count table = if nat_le 262144 table && (nat_le (length + 16384) capacity && nat_lt count 4294967295) then 1 else 0

-- what the fields of a buffer keep: the writes taken off lie in the list, and the others are sound
pub record IsQueue (list : List Write) (head : ℕ) : Type 0 where
  pub within : head ≤ length list
  pub sound : AreSound (drop head list)
