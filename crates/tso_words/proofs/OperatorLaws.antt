-- Laws of the operators and the comparisons.
use Rattle.std.proofs.Common.{◌≡◌, ◌≢◌, ℕ, ◌%◌, ◌^◌, ◌<◌, Bool, true, false, not, List, [], ◌∷◌, map, Some, None, refl, ap, subst, sym, arith}
use Rattle.std.specs.Prelude.{if◌then◌else◌, ℤ, pos, negsuc, int_lt, int_le, int_div, int_rem, option_map, nat_lt, IfSome}
use Rattle.std.proofs.lemmas.Nat.{and_le_l, or_lt, xor_lt, shr_le}
use Rattle.std.proofs.Math.Nat.{lt_of_le_of_lt, div-le_self, mod-le}
use Rattle.std.specs.Int.{int_div_euclid}
use Rattle.std.specs.List.{AllByRecursion}
use Rattle.tso_words.specs.declared.value.Val.{Val}
use Rattle.tso_words.specs.declared.value.Val.TheVariants.{Undef, Word}
use Rattle.tso_words.specs.declared.operator.Cond.{Cond}
use Rattle.tso_words.specs.declared.operator.Cond.TheVariants.{Eq, Ne, LtS, LeS, GtS, GeS, LtU, LeU, GtU, GeU}
use Rattle.tso_words.specs.declared.operator.Op.{Op}
use Rattle.tso_words.specs.declared.operator.Op.TheVariants.{Add, Sub, Mul, And, Or, Xor, DivS, ModS, DivU, ModU, Shl, ShrS, ShrU, Neg, Not, Cast8s, Cast8u, Cast16s, Cast16u, Cmp}
use Rattle.tso_words.specs.Words.{IsValue, extend_sign}
use Rattle.tso_words.specs.Operators.{signed, word_of, holds, negate, compare, of_one, of_two, of_division, of_shift, divides_signed, divides_unsigned, operate, operate_one, operate_two, truth, is_cast}

-- ---- comparisons

not-not : (b : Bool) → not (not b) ≡ b
not-not true = refl
not-not false = refl

not_lt : (x y : ℤ) → int_le y x ≡ not (int_lt x y)
not_lt (pos a) (pos b) = grind arith
not_lt (pos a) (negsuc b) = refl
not_lt (negsuc a) (pos b) = refl
not_lt (negsuc a) (negsuc b) = grind arith

pub holds-negate : (c : Cond) (a b : ℕ) → holds (negate c) a b ≡ not (holds c a b)
holds-negate Eq a b = refl
holds-negate Ne a b = sym (not-not _)
holds-negate LtS a b = not_lt (signed a) (signed b)
holds-negate LeS a b = grind (arith, not_lt, not-not)
holds-negate GtS a b = grind (arith, not_lt, not-not)
holds-negate GeS a b = grind (arith, not_lt, not-not)
holds-negate LtU a b = grind (arith, not_lt, not-not)
holds-negate LeU a b = grind (arith, not_lt, not-not)
holds-negate GtU a b = grind (arith, not_lt, not-not)
holds-negate GeU a b = grind (arith, not_lt, not-not)

-- the negation holds exactly where the comparison does not, and is known where the comparison is
pub compare-negate : (c : Cond) (a b : Val) → compare (negate c) a b ≡ option_map not (compare c a b)
compare-negate c Undef b = refl
compare-negate c (Word a) Undef = refl
compare-negate c (Word a) (Word b) = ap Some (holds-negate c a b)

pub negate-negate : (c : Cond) → negate (negate c) ≡ c
negate-negate Eq = refl
negate-negate Ne = refl
negate-negate LtS = refl
negate-negate LeS = refl
negate-negate GtS = refl
negate-negate GeS = refl
negate-negate LtU = refl
negate-negate LeU = refl
negate-negate GtU = refl
negate-negate GeU = refl

-- ---- operators on words

known_if : (b : Bool) (x : ℕ) → (if b then Some (Word x) else None) ≡ Some Undef → ⊥
known_if true x e = cc
known_if false x e = cc

one_word : (op : Op) (a : ℕ) → operate_one op (Word a) ≡ Some Undef → ⊥
one_word Neg a e = cc
one_word _ a e = cc

two_words : (op : Op) (a b : ℕ) → operate_two op (Word a) (Word b) ≡ Some Undef → ⊥
two_words DivS a b e = known_if _ _ e
two_words ModS a b e = known_if _ _ e
two_words DivU a b e = known_if _ _ e
two_words ModU a b e = known_if _ _ e
two_words Shl a b e = known_if _ _ e
two_words ShrS a b e = known_if _ _ e
two_words ShrU a b e = known_if _ _ e
two_words _ a b e = cc

-- an operator on words does not answer Undef
pub operate-words : (op : Op) (ws : List ℕ) → operate op (map Word ws) ≢ Some Undef
operate-words op [] = λ e. cc
operate-words op (a ∷ []) = one_word op a
operate-words op (a ∷ b ∷ []) = two_words op a b
operate-words op (a ∷ b ∷ c ∷ rest) = λ e. cc

-- what an operator on words answers, if it is not wrong, is a word
pub answer_of_words : (op : Op) (ws : List ℕ) (v : Val) → operate op (map Word ws) ≡ Some v → (w : ℕ) × (v ≡ Word w)
answer_of_words op ws Undef e = absurd (operate-words op ws e)
answer_of_words op ws (Word w) e = (w, refl)

-- ---- answers are values

pub word_of_fits : (z : ℤ) → word_of z < 2 ^ 32
word_of_fits (pos n) = omega arith
word_of_fits (negsuc n) = omega arith

pub extend_sign_8_fits : (a : ℕ) → a < 2 ^ 8 → extend_sign 8 a < 2 ^ 32
extend_sign_8_fits a h = grind arith

pub extend_sign_16_fits : (a : ℕ) → a < 2 ^ 16 → extend_sign 16 a < 2 ^ 32
extend_sign_16_fits a h = grind arith

value_if : (b : Bool) (x : ℕ) → (b ≡ true → x < 2 ^ 32) → IfSome (if b then Some (Word x) else None) IsValue
value_if true x h = h refl
value_if false x h = tt

one_is_value : (op : Op) (v : Val) → IsValue v → IfSome (operate_one op v) IsValue
one_is_value Neg Undef h = tt
one_is_value Neg (Word a) h = omega arith
one_is_value Not Undef h = tt
one_is_value Not (Word a) h = omega arith
one_is_value Cast8s Undef h = tt
one_is_value Cast8s (Word a) h = extend_sign_8_fits (a % 2 ^ 8) (omega arith)
one_is_value Cast8u Undef h = tt
one_is_value Cast8u (Word a) h = omega arith
one_is_value Cast16s Undef h = tt
one_is_value Cast16s (Word a) h = extend_sign_16_fits (a % 2 ^ 16) (omega arith)
one_is_value Cast16u Undef h = tt
one_is_value Cast16u (Word a) h = omega arith
one_is_value _ v h = tt

two_is_value : (f : ℕ → ℕ → ℕ) → ((a b : ℕ) → a < 2 ^ 32 → b < 2 ^ 32 → f a b < 2 ^ 32) → (v w : Val) → IsValue v → IsValue w → IfSome (of_two f v w) IsValue
two_is_value f fits Undef w h k = tt
two_is_value f fits (Word a) Undef h k = tt
two_is_value f fits (Word a) (Word b) h k = fits a b h k

division_is_value : (may : ℕ → ℕ → Bool) (f : ℕ → ℕ → ℕ) → ((a b : ℕ) → a < 2 ^ 32 → f a b < 2 ^ 32) → (v w : Val) → IsValue v → IfSome (of_division may f v w) IsValue
division_is_value may f fits Undef w h = tt
division_is_value may f fits (Word a) Undef h = tt
division_is_value may f fits (Word a) (Word b) h = value_if (may a b) (f a b) (λ e. fits a b h)

shift_is_value : (f : ℕ → ℕ → ℕ) → ((a n : ℕ) → a < 2 ^ 32 → f a n < 2 ^ 32) → (v w : Val) → IsValue v → IfSome (of_shift f v w) IsValue
shift_is_value f fits v Undef h = tt
shift_is_value f fits Undef (Word n) h = elim (nat_lt n 32) as (λ b. IfSome (if b then Some Undef else None) IsValue) [ true ↦ tt | false ↦ tt ]
shift_is_value f fits (Word a) (Word n) h = value_if (nat_lt n 32) (f a n) (λ e. fits a n h)

truth_fits : (b : Bool) → (if b then 1 else 0) < 2 ^ 32
truth_fits true = omega arith
truth_fits false = omega arith

pair_is_value : (op : Op) (v w : Val) → IsValue v → IsValue w → IfSome (operate_two op v w) IsValue
pair_is_value Add v w h k = two_is_value _ (λ a b p q. omega arith) v w h k
pair_is_value Sub v w h k = two_is_value _ (λ a b p q. omega arith) v w h k
pair_is_value Mul v w h k = two_is_value _ (λ a b p q. omega arith) v w h k
pair_is_value And v w h k = two_is_value _ (λ a b p q. omega (arith, and_le_l a b)) v w h k
pair_is_value Or v w h k = two_is_value _ (λ a b p q. or_lt 32 a b p q) v w h k
pair_is_value Xor v w h k = two_is_value _ (λ a b p q. xor_lt 32 a b p q) v w h k
pair_is_value DivS v w h k = division_is_value divides_signed _ (λ a b p. word_of_fits (int_div (signed a) (signed b))) v w h
pair_is_value ModS v w h k = division_is_value divides_signed _ (λ a b p. word_of_fits (int_rem (signed a) (signed b))) v w h
pair_is_value DivU v w h k = division_is_value divides_unsigned _ (λ a b p. lt_of_le_of_lt (div-le_self a b) p) v w h
pair_is_value ModU v w h k = division_is_value divides_unsigned _ (λ a b p. lt_of_le_of_lt (mod-le a b) p) v w h
pair_is_value Shl v w h k = shift_is_value _ (λ a n p. omega arith) v w h
pair_is_value ShrS v w h k = shift_is_value _ (λ a n p. word_of_fits (int_div_euclid (signed a) (pos (2 ^ n)))) v w h
pair_is_value ShrU v w h k = shift_is_value _ (λ a n p. lt_of_le_of_lt (shr_le a n) p) v w h
pair_is_value (Cmp c) v w h k = two_is_value _ (λ a b p q. truth_fits (holds c a b)) v w h k
pair_is_value _ v w h k = tt

-- the answer to values is a value
pub operate-fits : (op : Op) (vs : List Val) → AllByRecursion IsValue vs → IfSome (operate op vs) IsValue
operate-fits op [] h = tt
operate-fits op (v ∷ []) h = one_is_value op v h.0
operate-fits op (v ∷ w ∷ []) h = pair_is_value op v w h.0 h.1.0
operate-fits op (v ∷ w ∷ x ∷ rest) h = tt

-- ---- casts

again_8s : (a : ℕ) → a < 2 ^ 8 → extend_sign 8 a % 2 ^ 8 ≡ a
again_8s a h = grind arith

again_16s : (a : ℕ) → a < 2 ^ 16 → extend_sign 16 a % 2 ^ 16 ≡ a
again_16s a h = grind arith

one_again : (f : ℕ → ℕ) → ((a : ℕ) → f (f a) ≡ f a) → (v w : Val) → of_one f v ≡ Some w → of_one f w ≡ Some w
one_again f same Undef w e = let P : Val → Type 0 = λ x. of_one f x ≡ Some x in let k : Undef ≡ w = cc in subst P k refl
one_again f same (Word a) w e = let P : Val → Type 0 = λ x. of_one f x ≡ Some x in let k : Word (f a) ≡ w = cc in subst P k (ap (λ x. Some (Word x)) (same a))

-- a cast of what the cast has answered changes nothing
pub cast_again : (op : Op) (v w : Val) → is_cast op ≡ true → operate op (v ∷ []) ≡ Some w → operate op (w ∷ []) ≡ Some w
cast_again Cast8s v w h e = one_again _ (λ a. ap (extend_sign 8) (again_8s (a % 2 ^ 8) (omega arith))) v w e
cast_again Cast8u v w h e = one_again _ (λ a. omega arith) v w e
cast_again Cast16s v w h e = one_again _ (λ a. ap (extend_sign 16) (again_16s (a % 2 ^ 16) (omega arith))) v w e
cast_again Cast16u v w h e = one_again _ (λ a. omega arith) v w e
cast_again _ v w h e = cc

-- ---- a comparison as an operator

-- the operator answers with the comparison's truth
pub operate-Cmp : (c : Cond) (v w : Val) → operate (Cmp c) (v ∷ w ∷ []) ≡ Some (truth (compare c v w))
operate-Cmp c Undef w = refl
operate-Cmp c (Word a) Undef = refl
operate-Cmp c (Word a) (Word b) = refl
