-- The bits and the counts that are found are those of the piece.
use Rattle.std.proofs.Common.{◌≡◌, ℕ, ◌+◌, ◌-◌, ◌%◌, ◌^◌, ◌<◌, ◌≤◌, List, refl, sym, ◌∙◌, subst, Bool, true, false, cond, Option, Some, None, arith, eqb}
use Rattle.std.specs.Prelude.{nat_lt, nat_le, ◌&&◌, not, MatchOption}
use Rattle.std.proofs.lemmas.Bool.{ltb-true, ltb-false, leb-true, leb-false, eqb-true, eqb-false, false≢true}
use Rattle.x86_lines.specs.declared.number.Number.{Number}
use Rattle.x86_lines.specs.Numbers.{IsNumber, InWidth, Positive, Below, IsBits, IsCount, Plain, MinusZero}
use Rattle.x86_lines.specs.Reading.{kept}
use Rattle.x86_lines.specs.Told.{IsTold}
use Rattle.x86_lines.specs.Fitting.{width_in, width_kept, count_kept}
use Rattle.x86_lines.proofs.Sizes.{kept_none}
use Rattle.x86_lines.proofs.NumberRead.{one_number}

abbrev pub Fits : ℕ → List ℕ → Option ℕ → Type 0
Fits half word r = MatchOption r ((n : ℕ) → ¬ IsBits half word n) (λ n. IsBits half word n)

-- no number at all
pub no_bits : (half : ℕ) (word : List ℕ) → ((negative : Bool) (size : ℕ) → ¬ IsNumber word negative size) → (n : ℕ) → ¬ IsBits half word n
no_bits half word h n = λ b. h b.negative b.size b.number

-- the size that was kept
kept_at : (n k : ℕ) (small : Bool) → nat_lt n (2 ^ 128) ≡ small → Some k ≡ cond small (Some n) None → (k ≡ n) × (n < 2 ^ 128)
kept_at n k true e h = (let q : Some k ≡ Some n = h in cc, ltb-true n (2 ^ 128) e)
kept_at n k false e h = absurd (let q : Some k ≡ None = h in cc)

pub kept_some : (n k : ℕ) → Some k ≡ kept n → (k ≡ n) × (n < 2 ^ 128)
kept_some n k h = kept_at n k (nat_lt n (2 ^ 128)) refl h

-- a width has no number of a large size
width_bound : (half : ℕ) (negative : Bool) (size n : ℕ) → InWidth half negative size n → size ≤ half + half
width_bound half negative size n (Positive m h) = omega (arith, h)
width_bound half negative size n (Below m h) = omega (arith, h)

below_at : (half : ℕ) (size n : ℕ) (small : Bool) → nat_lt size (half + half) ≡ small → InWidth half false size n → cond small (Some size) None ≡ Some n
below_at half size n true e (Positive m h) = refl
below_at half size n false e (Positive m h) = absurd (omega (arith, h, ltb-false size (half + half) e))

minus_at : (half : ℕ) (size n : ℕ) (small : Bool) → nat_le size half ≡ small → InWidth half true size n → cond small (Some ((half + half - size) % (half + half))) None ≡ Some n
minus_at half size n true e (Below m h) = refl
minus_at half size n false e (Below m h) = absurd (omega (arith, h, leb-false size half e))

pub width_complete : (half : ℕ) (negative : Bool) (size n : ℕ) → InWidth half negative size n → width_in half negative size ≡ Some n
width_complete half true size n h = minus_at half size n (nat_le size half) refl h
width_complete half false size n h = below_at half size n (nat_lt size (half + half)) refl h

below_sound : (half size n : ℕ) (small : Bool) → nat_lt size (half + half) ≡ small → cond small (Some size) None ≡ Some n → InWidth half false size n
below_sound half size n true e h = let same : size ≡ n = let q : Some size ≡ Some n = h in cc in subst (InWidth half false size) same (Positive size (ltb-true size (half + half) e))
below_sound half size n false e h = absurd (let q : None ≡ Some n = h in cc)

minus_sound : (half size n : ℕ) (small : Bool) → nat_le size half ≡ small → cond small (Some ((half + half - size) % (half + half))) None ≡ Some n → InWidth half true size n
minus_sound half size n true e h = let same : (half + half - size) % (half + half) ≡ n = let q : Some ((half + half - size) % (half + half)) ≡ Some n = h in cc in subst (InWidth half true size) same (Below size (leb-true size half e))
minus_sound half size n false e h = absurd (let q : None ≡ Some n = h in cc)

pub width_sound : (half : ℕ) (negative : Bool) (size n : ℕ) → width_in half negative size ≡ Some n → InWidth half negative size n
width_sound half true size n h = minus_sound half size n (nat_le size half) refl h
width_sound half false size n h = below_sound half size n (nat_lt size (half + half)) refl h

fits_at : (half : ℕ) (word : List ℕ) (negative : Bool) (size : ℕ) (r : Option ℕ) → IsNumber word negative size → width_in half negative size ≡ r → Fits half word r
fits_at half word negative size None is e = λ n b.
    let same = one_number word b.negative negative b.size size b.number is in
    let found : width_in half negative size ≡ Some n = width_complete half negative size n (subst (λ (t : Bool). InWidth half t size n) same.0 (subst (λ (k : ℕ). InWidth half b.negative k n) same.1 b.ranges)) in
    let bad : None ≡ Some n = sym e ∙ found in cc
fits_at half word negative size (Some n) is e = record { negative = negative; size = size; number = is; ranges = width_sound half negative size n e }

fits_kept : (half : ℕ) (word : List ℕ) (number : Number) (size : Option ℕ) (r : Option ℕ) → half ≤ 2147483648 → IsTold word number → number.size ≡ size → r ≡ width_kept half number.negative size → Fits half word r
fits_kept half word number None r small told e h =
    let past : 2 ^ 128 ≤ told.size = kept_none told.size (sym e ∙ told.keeps) in
    subst (Fits half word) (sym h) (λ n b.
    let same = one_number word b.negative number.negative b.size told.size b.number told.number in
    let bound : b.size ≤ half + half = width_bound half b.negative b.size n b.ranges in
    omega (arith, past, bound, same.1, small))
fits_kept half word number (Some k) r small told e h =
    let own = kept_some told.size k (sym e ∙ told.keeps) in
    let is : IsNumber word number.negative k = subst (IsNumber word number.negative) (sym own.0) told.number in
    fits_at half word number.negative k r is (sym h)

pub bits_read : (half : ℕ) (word : List ℕ) (number : Number) (r : Option ℕ) → half ≤ 2147483648 → IsTold word number → r ≡ width_kept half number.negative number.size → Fits half word r
bits_read half word number r small told h = fits_kept half word number number.size r small told refl h

-- counts
abbrev pub Counts : List ℕ → Option ℕ → Type 0
Counts word r = MatchOption r ((n : ℕ) → n < 2 ^ 128 → ¬ IsCount word n) (λ n. IsCount word n × (n < 2 ^ 128))

count_number : (word : List ℕ) (n : ℕ) → IsCount word n → (negative : Bool) × IsNumber word negative n
count_number word n (Plain w m h) = (false, h)
count_number word n (MinusZero w h) = (true, h)

pub no_count : (word : List ℕ) → ((negative : Bool) (size : ℕ) → ¬ IsNumber word negative size) → (n : ℕ) → n < 2 ^ 128 → ¬ IsCount word n
no_count word h n small = λ c. let is = count_number word n c in h is.0 n is.1

-- a '-' before a size that is not 0 is no count
no_minus : (word : List ℕ) (size n : ℕ) → eqb size 0 ≡ false → IsNumber word true size → IsCount word n → ⊥
no_minus word size n e is (Plain w m h) = let same = one_number word false true m size h is in false≢true same.0
no_minus word size n e is (MinusZero w h) = let same = one_number word true true 0 size h is in let zero : size ≡ 0 = sym same.1 in eqb-false size 0 e zero

count_minus : (word : List ℕ) (size : ℕ) (zero : Bool) → eqb size 0 ≡ zero → IsNumber word true size → size < 2 ^ 128 → Counts word (cond (not zero) None (Some size))
count_minus word size true e is small = (subst (IsCount word) (sym (eqb-true size 0 e)) (MinusZero word (subst (IsNumber word true) (eqb-true size 0 e) is)), small)
count_minus word size false e is small = λ n under c. no_minus word size n e is c

count_at : (word : List ℕ) (negative : Bool) (size : ℕ) → IsNumber word negative size → size < 2 ^ 128 → Counts word (cond (negative && not (eqb size 0)) None (Some size))
count_at word false size is small = (Plain word size is, small)
count_at word true size is small = count_minus word size (eqb size 0) refl is small

count_kept_at : (word : List ℕ) (number : Number) (size r : Option ℕ) → IsTold word number → number.size ≡ size → r ≡ count_kept number.negative size → Counts word r
count_kept_at word number None r told e h =
    let past : 2 ^ 128 ≤ told.size = kept_none told.size (sym e ∙ told.keeps) in
    subst (Counts word) (sym h) (λ n under c.
    let is = count_number word n c in
    let same = one_number word is.0 number.negative n told.size is.1 told.number in
    omega (arith, past, under, same.1))
count_kept_at word number (Some k) r told e h =
    let own = kept_some told.size k (sym e ∙ told.keeps) in
    let is : IsNumber word number.negative k = subst (IsNumber word number.negative) (sym own.0) told.number in
    subst (Counts word) (sym h) (count_at word number.negative k is (subst (λ (x : ℕ). x < 2 ^ 128) (sym own.0) own.1))

pub count_read : (word : List ℕ) (number : Number) (r : Option ℕ) → IsTold word number → r ≡ count_kept number.negative number.size → Counts word r
count_read word number r told h = count_kept_at word number number.size r told refl h
