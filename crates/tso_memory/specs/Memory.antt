-- Live objects and the cells of their bytes (after the memories of CompCert and CompCertTSO; here addresses are flat words, objects are never told apart by a block, and the code keeps the objects sorted and the cells in pages).
use Rattle.std.specs.Prelude.{◌≡◌, ℕ, zero, suc, ◌+◌, ◌-◌, ◌%◌, ◌^◌, ◌≤◌, Bool, false, not, List, [], ◌∷◌, Option, Some, None, ◌&&◌, ◌==◌, nat_lt, nat_le, if◌then◌else◌}
use Rattle.std.specs.List.{filter, list_any}
use Rattle.tso_words.specs.declared.value.Val.{Val}
use Rattle.tso_words.specs.declared.value.Val.TheVariants.{Undef, Word}
use Rattle.tso_words.specs.declared.value.Cell.{Cell}
use Rattle.tso_words.specs.declared.value.Cell.TheVariants.{Blank}
use Rattle.tso_words.specs.declared.value.Chunk.{Chunk}
use Rattle.tso_words.specs.Words.{chunk_size, byte_of, value_of}
use Rattle.tso_memory.specs.declared.object.Object.{Object}

-- what a memory means
pub record MemoryMeaning : Type 0 where
  -- the live objects, by rising base
  pub objects : List Object
  -- the cell at each address; off the live objects it is blank
  pub cells : ℕ → Cell

-- a range has at least one byte, and its last byte has an address
abbrev pub IsSound : (base size : ℕ) → Type 0
IsSound base size = (1 ≤ size) × (base + size ≤ 2 ^ 32)

-- the address is one of a range
abbrev pub is_in : (base size x : ℕ) → Bool
is_in base size x = nat_le base x && nat_lt x (base + size)

-- two ranges share an address
abbrev pub meets : (base1 size1 base2 size2 : ℕ) → Bool
meets base1 size1 base2 size2 = nat_lt base1 (base2 + size2) && nat_lt base2 (base1 + size1)

-- all bytes of a range lie in the object
abbrev pub holds : Object → (base size : ℕ) → Bool
holds o base size = nat_le o.base base && nat_le (base + size) (o.base + o.size)

-- the object meets a range
abbrev pub is_met : (base size : ℕ) → Object → Bool
is_met base size o = meets o.base o.size base size

-- the object is a whole range
abbrev pub is_at : (base size : ℕ) → Object → Bool
is_at base size o = (o.base == base) && (o.size == size)

-- the address lies in one of the objects
abbrev pub is_live : List Object → ℕ → Bool
is_live os x = list_any (λ o. is_in o.base o.size x) os

-- an access is right where its address is a word and a multiple of the chunk's size, and all its bytes lie in one live object
abbrev pub is_right : List Object → Chunk → Val → Bool
is_right os c Undef = false
is_right os c (Word a) = (a % chunk_size c == 0) && list_any (λ o. holds o a (chunk_size c)) os

-- the cells from an address on
abbrev pub cells_from : (ℕ → Cell) → ℕ → ℕ → List Cell
cells_from cells a zero = []
cells_from cells a (suc n) = cells a ∷ cells_from cells (suc a) n

-- the value that a right access finds
abbrev pub value_at : (ℕ → Cell) → Chunk → Val → Val
value_at cells c Undef = Undef
value_at cells c (Word a) = value_of c (cells_from cells a (chunk_size c))

-- a load; None where it is not right
abbrev pub load : MemoryMeaning → Chunk → Val → Option Val
load m c addr = if is_right m.objects c addr then Some (value_at m.cells c addr) else None

-- the cells after the low bytes of a value are written, the lowest first
abbrev pub cells_put : (ℕ → Cell) → Chunk → Val → Val → ℕ → Cell
cells_put cells c Undef v x = cells x
cells_put cells c (Word a) v x = if is_in a (chunk_size c) x then byte_of v (x - a) else cells x

-- a store; None where it is not right
abbrev pub put : MemoryMeaning → Chunk → Val → Val → Option MemoryMeaning
put m c addr v = if is_right m.objects c addr then Some (record m { cells = cells_put m.cells c addr v }) else None

-- only these of the objects stay live; the bytes of the others are blank from now on
abbrev pub only : List Object → MemoryMeaning → MemoryMeaning
only os m = record { objects = os; cells = λ x. if is_live os x then m.cells x else Blank }

-- the object at its place by base
abbrev pub inserted : Object → List Object → List Object
inserted o [] = o ∷ []
inserted o (p ∷ ps) = if nat_lt p.base o.base then p ∷ inserted o ps else o ∷ p ∷ ps

-- a new object, all of whose cells are the same
abbrev pub added : Object → Cell → MemoryMeaning → MemoryMeaning
added o start m = record { objects = inserted o m.objects; cells = λ x. if is_in o.base o.size x then start else m.cells x }

-- the objects that do not meet a range, that are not a whole range, that do not begin at a base
abbrev pub unmet : (base size : ℕ) → List Object → List Object
unmet base size os = filter (λ o. not (is_met base size o)) os

abbrev pub lifted : (base size : ℕ) → List Object → List Object
lifted base size os = filter (λ o. not (is_at base size o)) os

abbrev pub removed : (base : ℕ) → List Object → List Object
removed base os = filter (λ o. not (o.base == base)) os

-- the objects are sound, pairwise disjoint, by rising base, and none begins below `low`
abbrev pub AreObjects : (low : ℕ) → List Object → Type 0
AreObjects low [] = Unit {0}
AreObjects low (o ∷ os) = (low ≤ o.base) × IsSound o.base o.size × AreObjects (o.base + o.size) os

-- no object shares an address with a range
abbrev pub IsApart : (base size : ℕ) → List Object → Type 0
IsApart base size os = list_any (is_met base size) os ≡ false
