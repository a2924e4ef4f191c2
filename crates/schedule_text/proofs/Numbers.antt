-- The numbers that the reader finds are those that fields write, and it finds each.
use Rattle.std.specs.Prelude.{nat_lt, nat_le, ◌&&◌, option_and_then}
use Rattle.std.proofs.Common.{◌≡◌, ℕ, ◌+◌, ◌*◌, ◌^◌, ◌<◌, ◌≤◌, Bool, true, false, cond, List, [], ◌∷◌, length, Option, Some, None, refl, ap, sym, ◌∙◌, subst, arith}
use Rattle.std.proofs.Math.Nat.{pow-zero, pow-suc, pow-le-pow_right, one-le-pow, le-mul_of_pos_right}
use Rattle.std.proofs.lemmas.Nat.{mul-add-lt}
use Rattle.std.proofs.lemmas.Bool.{ltb-true, lt-ltb, leb-true, le-leb}
use Rattle.schedule_text.specs.Text.{digit_value, value_of, AreDigits, IsNumeral}
use Rattle.schedule_text.specs.Scanning.{digits_from, number_of}

-- a first digit counts for the power of the base that it stands at
shifts : (base n d power rest : ℕ) → (base * n + d) * power + rest ≡ n * (power * base) + (d * power + rest)
shifts base n d power rest = grind arith

place : (base n b : ℕ) (bs : List ℕ) → (base * n + digit_value b) * base ^ length bs + value_of base bs ≡ n * base ^ length (b ∷ bs) + value_of base (b ∷ bs)
place base n b bs = rw (pow-suc base (length bs)) (shifts base n (digit_value b) (base ^ length bs) (value_of base bs))

abbrev Written : (base n : ℕ) → List ℕ → ℕ → Type 0
Written base n bs m = AreDigits base bs × (m ≡ n * base ^ length bs + value_of base bs)

sound_cases : (base n m b : ℕ) (bs : List ℕ) (t u : Bool) → nat_lt (digit_value b) base ≡ t → cond t (cond u (digits_from base (base * n + digit_value b) bs) None) None ≡ Some m → (digits_from base (base * n + digit_value b) bs ≡ Some m → Written base (base * n + digit_value b) bs m) → Written base n (b ∷ bs) m
sound_cases base n m b bs true true is e more =
    let w = more e in
    ((ltb-true _ _ is, w.0), w.1 ∙ place base n b bs)
sound_cases base n m b bs true false is e more = cc
sound_cases base n m b bs false u is e more = cc

digits_sound : (base n m : ℕ) (bs : List ℕ) → digits_from base n bs ≡ Some m → Written base n bs m
digits_sound base n m [] e = let same : n ≡ m = cc in (tt, rw (pow-zero base) (omega arith))
digits_sound base n m (b ∷ bs) e = sound_cases base n m b bs (nat_lt (digit_value b) base) (nat_lt (base * n + digit_value b) (2 ^ 64)) refl e (digits_sound base (base * n + digit_value b) m bs)

-- the number so far is at most the whole
below_whole : (n power rest : ℕ) → 1 ≤ power → n ≤ n * power + rest
below_whole n power rest h = let le : n ≤ n * power = le-mul_of_pos_right n (omega arith) in omega arith

none_more : (n base : ℕ) → n ≡ n * base ^ 0 + 0
none_more n base = rw (pow-zero base) (omega arith)

digits_complete : (base n : ℕ) (bs : List ℕ) → 1 ≤ base → AreDigits base bs → n * base ^ length bs + value_of base bs < 2 ^ 64 → digits_from base n bs ≡ Some (n * base ^ length bs + value_of base bs)
digits_complete base n [] some are below = ap Some (none_more n base)
digits_complete base n (b ∷ bs) some are below =
    let same = place base n b bs in
    let power : 1 ≤ base ^ length bs = one-le-pow (length bs) base (omega arith) in
    let small : base * n + digit_value b ≤ (base * n + digit_value b) * base ^ length bs + value_of base bs = below_whole (base * n + digit_value b) (base ^ length bs) (value_of base bs) power in
    let whole : (base * n + digit_value b) * base ^ length bs + value_of base bs < 2 ^ 64 = subst (λ (v : ℕ). v < 2 ^ 64) (sym same) below in
    ap (λ t. cond t (cond (nat_lt (base * n + digit_value b) (2 ^ 64)) (digits_from base (base * n + digit_value b) bs) None) None) (lt-ltb (digit_value b) base are.0)
    ∙ ap (λ t. cond t (digits_from base (base * n + digit_value b) bs) None) (lt-ltb (base * n + digit_value b) (2 ^ 64) (omega arith))
    ∙ digits_complete base (base * n + digit_value b) bs some are.1 whole
    ∙ ap Some same

-- of whole fields
limited : (limit n m : ℕ) (t : Bool) → nat_le n limit ≡ t → cond t (Some n) None ≡ Some m → (n ≡ m) × (n ≤ limit)
limited limit n m true is e = (cc, leb-true n limit is)
limited limit n m false is e = cc

bound : (limit m : ℕ) (o : Option ℕ) → option_and_then (λ n. cond (nat_le n limit) (Some n) None) o ≡ Some m → (o ≡ Some m) × (m ≤ limit)
bound limit m None e = cc
bound limit m (Some n) e =
    let w = limited limit n m (nat_le n limit) refl e in
    (ap Some w.0, subst (λ (v : ℕ). v ≤ limit) w.0 w.1)

number_cases : (base most limit m : ℕ) (field : List ℕ) (t u : Bool) → nat_le 1 (length field) ≡ t → nat_le (length field) most ≡ u → cond (t && u) (option_and_then (λ n. cond (nat_le n limit) (Some n) None) (digits_from base 0 field)) None ≡ Some m → IsNumeral base most field m × (m ≤ limit)
number_cases base most limit m field true true some few e =
    let w = bound limit m (digits_from base 0 field) e in
    let d = digits_sound base 0 m field w.0 in
    let same : m ≡ value_of base field = omega (arith, d.1) in
    (record { digits = d.0; some = leb-true 1 (length field) some; few = leb-true (length field) most few; value = same }, w.1)
number_cases base most limit m field true false some few e = cc
number_cases base most limit m field false u some few e = cc

pub number_sound : (base most limit m : ℕ) (field : List ℕ) → number_of base most limit field ≡ Some m → IsNumeral base most field m × (m ≤ limit)
number_sound base most limit m field e = number_cases base most limit m field (nat_le 1 (length field)) (nat_le (length field) most) refl refl e

pub number_complete : (base most limit m : ℕ) (field : List ℕ) → 1 ≤ base → limit < 2 ^ 64 → IsNumeral base most field m → m ≤ limit → number_of base most limit field ≡ Some m
number_complete base most limit m field one small h le =
    let below : 0 * base ^ length field + value_of base field < 2 ^ 64 = let v : m ≡ value_of base field = h.value in omega arith in
    let found : digits_from base 0 field ≡ Some m = digits_complete base 0 field one h.digits below ∙ ap Some (let v : m ≡ value_of base field = h.value in let e : 0 * base ^ length field + value_of base field ≡ m = omega arith in e) in
    ap (λ t. cond (t && nat_le (length field) most) (option_and_then (λ n. cond (nat_le n limit) (Some n) None) (digits_from base 0 field)) None) (le-leb 1 (length field) h.some)
    ∙ ap (λ t. cond t (option_and_then (λ n. cond (nat_le n limit) (Some n) None) (digits_from base 0 field)) None) (le-leb (length field) most h.few)
    ∙ ap (option_and_then (λ n. cond (nat_le n limit) (Some n) None)) found
    ∙ ap (λ t. cond t (Some m) None) (le-leb m limit le)

-- digits write a number below the power of the base
value_below : (base : ℕ) (bs : List ℕ) → AreDigits base bs → value_of base bs < base ^ length bs
value_below base [] are = rw (pow-zero base) (omega arith)
value_below base (b ∷ bs) are = rw (pow-suc base (length bs)) (mul-add-lt (digit_value b) (base ^ length bs) (value_of base bs) base are.0 (value_below base bs are.1))

-- eight hexadecimal digits write a word
pub word_below : (field : List ℕ) (n : ℕ) → IsNumeral 16 8 field n → n ≤ 4294967295
word_below field n h =
    let v : n ≡ value_of 16 field = h.value in
    let lt : value_of 16 field < 16 ^ length field = value_below 16 field h.digits in
    let le : 16 ^ length field ≤ 16 ^ 8 = pow-le-pow_right (omega arith) h.few in
    omega arith
