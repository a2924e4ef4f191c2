-- What the operators of the intermediate languages answer (after CompCert's operations on 32-bit integers; these are modulo 2 ^ 32 over numbers, where the code uses machine operations). None is a wrong operation.
use Rattle.std.specs.Prelude.{ℕ, ◌+◌, ◌-◌, ◌*◌, ◌/◌, ◌%◌, ◌^◌, Bool, true, false, not, ◌&&◌, ◌==◌, nat_lt, nat_le, if◌then◌else◌, List, [], ◌∷◌, Option, Some, None, ℤ, pos, negsuc, ◌-ℤ◌, int_div, int_rem, int_lt, int_le, bit_and, bit_or, bit_xor}
use Rattle.std.specs.Int.{int_div_euclid}
use Rattle.tso_words.specs.declared.value.Val.{Val}
use Rattle.tso_words.specs.declared.value.Val.TheVariants.{Undef, Word}
use Rattle.tso_words.specs.declared.operator.Cond.{Cond}
use Rattle.tso_words.specs.declared.operator.Cond.TheVariants.{Eq, Ne, LtS, LeS, GtS, GeS, LtU, LeU, GtU, GeU}
use Rattle.tso_words.specs.declared.operator.Op.{Op}
use Rattle.tso_words.specs.declared.operator.Op.TheVariants.{Add, Sub, Mul, And, Or, Xor, DivS, ModS, DivU, ModU, Shl, ShrS, ShrU, Neg, Not, Cast8s, Cast8u, Cast16s, Cast16u, Cmp}
use Rattle.tso_words.specs.declared.value.Chunk.{Chunk}
use Rattle.tso_words.specs.declared.value.Chunk.TheVariants.{I8s, I8u, I16s, I16u, I32}
use Rattle.tso_words.specs.Words.{extend_sign}

-- the signed number of a word: from 2 ^ 31 on it is 2 ^ 32 less
abbrev pub signed : ℕ → ℤ
signed a = if nat_lt a (2 ^ 31) then pos a else pos a -ℤ pos (2 ^ 32)

-- the word of a number: what is left of it modulo 2 ^ 32
abbrev pub word_of : ℤ → ℕ
word_of (pos n) = n % 2 ^ 32
word_of (negsuc n) = 2 ^ 32 - 1 - n % 2 ^ 32

-- which comparisons hold of two words
abbrev pub holds : Cond → ℕ → ℕ → Bool
holds Eq a b = a == b
holds Ne a b = not (a == b)
holds LtS a b = int_lt (signed a) (signed b)
holds LeS a b = int_le (signed a) (signed b)
holds GtS a b = int_lt (signed b) (signed a)
holds GeS a b = int_le (signed b) (signed a)
holds LtU a b = nat_lt a b
holds LeU a b = nat_le a b
holds GtU a b = nat_lt b a
holds GeU a b = nat_le b a

-- the comparison that holds of two words exactly where this one does not
abbrev pub negate : Cond → Cond
negate Eq = Ne
negate Ne = Eq
negate LtS = GeS
negate LeS = GtS
negate GtS = LeS
negate GeS = LtS
negate LtU = GeU
negate LeU = GtU
negate GtU = LeU
negate GeU = LtU

-- whether a comparison holds of two values; None where one of them is not known
abbrev pub compare : Cond → Val → Val → Option Bool
compare c Undef b = None
compare c (Word a) Undef = None
compare c (Word a) (Word b) = Some (holds c a b)

-- a comparison as a value: 1 or 0, and Undef where it is not known
abbrev pub truth : Option Bool → Val
truth None = Undef
truth (Some b) = Word (if b then 1 else 0)

-- an operator on words that is never wrong: Undef where an operand is not known
abbrev pub of_one : (ℕ → ℕ) → Val → Option Val
of_one f Undef = Some Undef
of_one f (Word a) = Some (Word (f a))

abbrev pub of_two : (ℕ → ℕ → ℕ) → Val → Val → Option Val
of_two f Undef b = Some Undef
of_two f (Word a) Undef = Some Undef
of_two f (Word a) (Word b) = Some (Word (f a b))

-- a division: both operands have to be known, and the second has to divide the first
abbrev pub of_division : (ℕ → ℕ → Bool) → (ℕ → ℕ → ℕ) → Val → Val → Option Val
of_division may f Undef b = None
of_division may f (Word a) Undef = None
of_division may f (Word a) (Word b) = if may a b then Some (Word (f a b)) else None

-- a shift: the count has to be known, and below 32
abbrev pub of_shift : (ℕ → ℕ → ℕ) → Val → Val → Option Val
of_shift f a Undef = None
of_shift f a (Word n) = if nat_lt n 32 then of_one (λ w. f w n) a else None

-- a word divides every word but 0 does none, and -1 does not divide -2 ^ 31: their quotient is no signed word
abbrev pub divides_unsigned : ℕ → ℕ → Bool
divides_unsigned a b = not (b == 0)

abbrev pub divides_signed : ℕ → ℕ → Bool
divides_signed a b = not (b == 0) && not (a == 2 ^ 31 && b == 2 ^ 32 - 1)

-- the operators of one operand
abbrev pub operate_one : Op → Val → Option Val
operate_one Neg = of_one (λ a. (2 ^ 32 - a) % 2 ^ 32)
operate_one Not = of_one (λ a. 2 ^ 32 - 1 - a)
operate_one Cast8s = of_one (λ a. extend_sign 8 (a % 2 ^ 8))
operate_one Cast8u = of_one (λ a. a % 2 ^ 8)
operate_one Cast16s = of_one (λ a. extend_sign 16 (a % 2 ^ 16))
operate_one Cast16u = of_one (λ a. a % 2 ^ 16)
operate_one _ = λ a. None

-- the operators of two; signed division rounds toward zero, its remainder has the sign of the first, and the signed shift rounds down, which copies the sign bit
abbrev pub operate_two : Op → Val → Val → Option Val
operate_two Add = of_two (λ a b. (a + b) % 2 ^ 32)
operate_two Sub = of_two (λ a b. (a + 2 ^ 32 - b) % 2 ^ 32)
operate_two Mul = of_two (λ a b. (a * b) % 2 ^ 32)
operate_two And = of_two bit_and
operate_two Or = of_two bit_or
operate_two Xor = of_two bit_xor
operate_two DivS = of_division divides_signed (λ a b. word_of (int_div (signed a) (signed b)))
operate_two ModS = of_division divides_signed (λ a b. word_of (int_rem (signed a) (signed b)))
operate_two DivU = of_division divides_unsigned (λ a b. a / b)
operate_two ModU = of_division divides_unsigned (λ a b. a % b)
operate_two Shl = of_shift (λ a n. (a * 2 ^ n) % 2 ^ 32)
operate_two ShrS = of_shift (λ a n. word_of (int_div_euclid (signed a) (pos (2 ^ n))))
operate_two ShrU = of_shift (λ a n. a / 2 ^ n)
operate_two (Cmp c) = of_two (λ a b. if holds c a b then 1 else 0)
operate_two _ = λ a b. None

-- an operator on a list of operands: it has to be as many as the operator takes
abbrev pub operate : Op → List Val → Option Val
operate op [] = None
operate op (a ∷ []) = operate_one op a
operate op (a ∷ b ∷ []) = operate_two op a b
operate op (a ∷ b ∷ c ∷ rest) = None

-- what is left of a value that is written as a chunk and read again: the answer of the chunk's cast, and all of a word
abbrev pub kept : Chunk → Val → Option Val
kept I8s v = operate Cast8s (v ∷ [])
kept I8u v = operate Cast8u (v ∷ [])
kept I16s v = operate Cast16s (v ∷ [])
kept I16u v = operate Cast16u (v ∷ [])
kept I32 v = Some v

-- the operators that keep the low bits
abbrev pub is_cast : Op → Bool
is_cast Cast8s = true
is_cast Cast8u = true
is_cast Cast16s = true
is_cast Cast16u = true
is_cast _ = false
