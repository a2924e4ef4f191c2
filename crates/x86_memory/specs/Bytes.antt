-- Memory as bytes, and what a thread sees of it through its buffer of writes (x86-TSO of Owens, Sarkar and Sewell 2009; there a location holds a word, here each byte is one). The code keeps bytes in pages and reads a byte from the newest write.
use Rattle.std.specs.Prelude.{◌≡◌, ℕ, ◌+◌, ◌-◌, ◌*◌, ◌/◌, ◌%◌, ◌^◌, ◌≤◌, Bool, List, [], ◌∷◌, ◌&&◌, nat_le, nat_lt, if◌then◌else◌, Option, Some, None, unwrap_or}
use Rattle.x86_steps.specs.declared.access.Size.{Size}
use Rattle.x86_steps.specs.declared.access.Size.TheVariants as size
use Rattle.x86_steps.specs.Accesses.{bytes_of}
use Rattle.x86_memory.specs.declared.buffer.Write.{Write}

-- the byte at each address
abbrev pub Bytes : Type 0
Bytes = ℕ → ℕ

-- bytes that were never written
abbrev pub zeros : Bytes
zeros x = 0

-- the address is one of a range
abbrev pub is_in : (base bytes x : ℕ) → Bool
is_in base bytes x = nat_le base x && nat_lt x (base + bytes)

-- the byte of a write at an address, the lowest first, where it has one there
abbrev pub byte_of : Write → ℕ → Option ℕ
byte_of w x = if is_in w.address (bytes_of w.size) x then Some (w.value / 256 ^ (x - w.address) % 256) else None

-- memory after a write
abbrev pub written : Bytes → Write → Bytes
written m w x = unwrap_or (byte_of w x) (m x)

-- the write of a word
abbrev pub word_write : (address value : ℕ) → Write
word_write address value = record { address = address; size = size.Word; value = value }

-- what a thread sees: memory after all writes of its buffer, the oldest first
abbrev pub view : Bytes → List Write → Bytes
view m [] = m
view m (w ∷ ws) = view (written m w) ws

-- the word that an access finds, extended by zeros
abbrev pub word_at : Bytes → Size → ℕ → ℕ
word_at m size.Byte a = m a
word_at m size.Half a = m a + 256 * m (a + 1)
word_at m size.Word a = m a + 256 * m (a + 1) + 65536 * m (a + 2) + 16777216 * m (a + 3)

-- a write of which each byte has an address, at a multiple of its size
abbrev pub IsAligned : (address : ℕ) → Size → Type 0
IsAligned address s = (address % bytes_of s ≡ 0) × (address + bytes_of s ≤ 2 ^ 32)

abbrev pub IsSound : Write → Type 0
IsSound w = IsAligned w.address w.size

abbrev pub AreSound : List Write → Type 0
AreSound [] = Unit {0}
AreSound (w ∷ ws) = IsSound w × AreSound ws

-- a buffer as contracts see it: the writes, oldest first, and how many more need no memory
pub record Waiting : Type 0 where
  pub writes : List Write
  pub spare : ℕ
