-- Chunks, and the little-endian bytes of a value (after CompCert's memory values; bytes and words are numbers here, where the code shifts and masks).
use Rattle.std.specs.Prelude.{ℕ, zero, suc, ◌+◌, ◌-◌, ◌*◌, ◌/◌, ◌%◌, ◌^◌, ◌<◌, List, [], ◌∷◌, nat_lt, if◌then◌else◌}
use Rattle.tso_words.specs.declared.value.Val.{Val}
use Rattle.tso_words.specs.declared.value.Val.TheVariants.{Undef, Word}
use Rattle.tso_words.specs.declared.value.Cell.{Cell}
use Rattle.tso_words.specs.declared.value.Cell.TheVariants.{Blank, Byte}
use Rattle.tso_words.specs.declared.value.Chunk.{Chunk}
use Rattle.tso_words.specs.declared.value.Chunk.TheVariants.{I8s, I8u, I16s, I16u, I32}

-- what the code holds: a word has 32 bits, a byte 8
abbrev pub IsValue : Val → Type 0
IsValue Undef = Unit {0}
IsValue (Word w) = w < 2 ^ 32

abbrev pub IsCell : Cell → Type 0
IsCell Blank = Unit {0}
IsCell (Byte b) = b < 2 ^ 8

-- the size of a chunk in bytes
abbrev pub chunk_size : Chunk → ℕ
chunk_size I8s = 1
chunk_size I8u = 1
chunk_size I16s = 2
chunk_size I16u = 2
chunk_size I32 = 4

-- the byte of a value at a place, the lowest first; nothing is known of the bytes of Undef
abbrev pub byte_of : Val → ℕ → Cell
byte_of Undef i = Blank
byte_of (Word w) i = Byte (w / 256 ^ i % 256)

-- the bytes of a value as a chunk keeps them, from a place on
abbrev pub bytes_from : Val → ℕ → ℕ → List Cell
bytes_from v i zero = []
bytes_from v i (suc n) = byte_of v i ∷ bytes_from v (suc i) n

abbrev pub bytes_of : Chunk → Val → List Cell
bytes_of c v = bytes_from v 0 (chunk_size c)

-- a byte below a number that is written in the bytes above it
abbrev pub with_byte : ℕ → Val → Val
with_byte b Undef = Undef
with_byte b (Word w) = Word (b + 256 * w)

-- the number that cells write, little-endian; Undef where one is blank
abbrev pub number_of : List Cell → Val
number_of [] = Word 0
number_of (Blank ∷ cs) = Undef
number_of (Byte b ∷ cs) = with_byte b (number_of cs)

-- a number of so many bits as a word: the lower half stays, and the upper half is extended by its sign bit
abbrev pub extend_sign : ℕ → ℕ → ℕ
extend_sign bits w = if nat_lt w (2 ^ (bits - 1)) then w else w + (2 ^ 32 - 2 ^ bits)

-- the word of a chunk's number, and of one that may not be known
abbrev pub extended : Chunk → ℕ → ℕ
extended I8s w = extend_sign 8 w
extended I8u w = w
extended I16s w = extend_sign 16 w
extended I16u w = w
extended I32 w = w

abbrev pub extend : Chunk → Val → Val
extend c Undef = Undef
extend c (Word w) = Word (extended c w)

-- the value of the cells of a chunk
abbrev pub value_of : Chunk → List Cell → Val
value_of c cells = extend c (number_of cells)
