-- Laws of the bytes of a value.
use Rattle.std.proofs.Common.{◌≡◌, ℕ, zero, suc, ◌+◌, ◌*◌, ◌/◌, ◌%◌, ◌^◌, ◌<◌, List, [], ◌∷◌, ◌++◌, take, Some, length, refl, ap, arith}
use Rattle.std.specs.List.{AllByRecursion}
use Rattle.tso_words.specs.declared.value.Val.{Val}
use Rattle.tso_words.specs.declared.value.Val.TheVariants.{Undef, Word}
use Rattle.tso_words.specs.declared.value.Cell.{Cell}
use Rattle.tso_words.specs.declared.value.Cell.TheVariants.{Blank, Byte}
use Rattle.tso_words.specs.declared.value.Chunk.{Chunk}
use Rattle.tso_words.specs.declared.value.Chunk.TheVariants.{I8s, I8u, I16s, I16u, I32}
use Rattle.tso_words.specs.Words.{IsValue, IsCell, chunk_size, byte_of, bytes_from, bytes_of, with_byte, number_of, extend, extend_sign, value_of}
use Rattle.tso_words.specs.Operators.{kept}
use Rattle.tso_words.proofs.OperatorLaws.{extend_sign_8_fits, extend_sign_16_fits}
use Rattle.std.proofs.Math.Nat.{pow-suc}

length-bytes_from : (v : Val) (i n : ℕ) → length (bytes_from v i n) ≡ n
length-bytes_from v i zero = refl
length-bytes_from v i (suc n) = ap suc (length-bytes_from v (suc i) n)

-- as many cells as the chunk has bytes
pub length-bytes_of : (c : Chunk) (v : Val) → length (bytes_of c v) ≡ chunk_size c
length-bytes_of c v = length-bytes_from v 0 (chunk_size c)

-- the code's four cells begin with the bytes of the chunk
pub take-bytes_of : (c : Chunk) (v : Val) (rest : List Cell) → take (chunk_size c) (bytes_of c v ++ rest) ≡ bytes_of c v
take-bytes_of I8s v rest = refl
take-bytes_of I8u v rest = refl
take-bytes_of I16s v rest = refl
take-bytes_of I16u v rest = refl
take-bytes_of I32 v rest = refl

low_byte : (w : ℕ) → w / 1 % 256 + 256 * 0 ≡ w % 2 ^ 8
low_byte w = omega arith

low_half : (w : ℕ) → w / 1 % 256 + 256 * (w / 256 % 256 + 256 * 0) ≡ w % 2 ^ 16
low_half w = omega arith

all_four : (w : ℕ) → w < 2 ^ 32 → w / 1 % 256 + 256 * (w / 256 % 256 + 256 * (w / 65536 % 256 + 256 * (w / 16777216 % 256 + 256 * 0))) ≡ w
all_four w h = omega arith

-- what is read of a value that was written is its cast
pub value_of-bytes_of : (c : Chunk) (v : Val) → IsValue v → Some (value_of c (bytes_of c v)) ≡ kept c v
value_of-bytes_of I8s Undef h = refl
value_of-bytes_of I8u Undef h = refl
value_of-bytes_of I16s Undef h = refl
value_of-bytes_of I16u Undef h = refl
value_of-bytes_of I32 Undef h = refl
value_of-bytes_of I8s (Word w) h = ap (λ x. Some (Word (extend_sign 8 x))) (low_byte w)
value_of-bytes_of I8u (Word w) h = ap (λ x. Some (Word x)) (low_byte w)
value_of-bytes_of I16s (Word w) h = ap (λ x. Some (Word (extend_sign 16 x))) (low_half w)
value_of-bytes_of I16u (Word w) h = ap (λ x. Some (Word x)) (low_half w)
value_of-bytes_of I32 (Word w) h = ap (λ x. Some (Word x)) (all_four w h)

byte_fits : (v : Val) (i : ℕ) → IsCell (byte_of v i)
byte_fits Undef i = tt
byte_fits (Word w) i = omega arith

bytes_from_fit : (v : Val) (i n : ℕ) → AllByRecursion IsCell (bytes_from v i n)
bytes_from_fit v i zero = tt
bytes_from_fit v i (suc n) = (byte_fits v i, bytes_from_fit v (suc i) n)

-- the bytes of a value have 8 bits
pub bytes_of_fit : (c : Chunk) (v : Val) → AllByRecursion IsCell (bytes_of c v)
bytes_of_fit c v = bytes_from_fit v 0 (chunk_size c)

-- what so many bytes can write
abbrev FitsBytes : ℕ → Val → Type 0
FitsBytes n Undef = Unit {0}
FitsBytes n (Word w) = w < 256 ^ n

more_bytes : (b n : ℕ) (v : Val) → b < 2 ^ 8 → FitsBytes n v → FitsBytes (suc n) (with_byte b v)
more_bytes b n Undef h k = tt
more_bytes b n (Word w) h k = omega (arith, pow-suc 256 n)

number_fits : (cs : List Cell) → AllByRecursion IsCell cs → FitsBytes (length cs) (number_of cs)
number_fits [] h = omega arith
number_fits (Blank ∷ cs) h = tt
number_fits (Byte b ∷ cs) h = more_bytes b (length cs) (number_of cs) h.0 (number_fits cs h.1)

extended_fits : (c : Chunk) (v : Val) → FitsBytes (chunk_size c) v → IsValue (extend c v)
extended_fits c Undef h = tt
extended_fits I8s (Word w) h = extend_sign_8_fits w (omega arith)
extended_fits I8u (Word w) h = omega arith
extended_fits I16s (Word w) h = extend_sign_16_fits w (omega arith)
extended_fits I16u (Word w) h = omega arith
extended_fits I32 (Word w) h = omega arith

-- cells of 8 bits mean a value
pub value_of_fits : (c : Chunk) (cells : List Cell) → length cells ≡ chunk_size c → AllByRecursion IsCell cells → IsValue (value_of c cells)
value_of_fits c cells e h = extended_fits c (number_of cells) (rw (← e) (number_fits cells h))
