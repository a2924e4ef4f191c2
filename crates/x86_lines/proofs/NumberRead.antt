-- The number that is found is the number of the piece.
use Rattle.std.proofs.Common.{◌≡◌, ℕ, ◌+◌, ◌*◌, ◌<◌, List, [], ◌∷◌, refl, sym, ◌∙◌, ap, subst, Bool, true, false, cond, Option, Some, None, arith, eqb}
use Rattle.std.specs.Prelude.{nat_lt, MatchOption}
use Rattle.std.specs.Option.{option_map}
use Rattle.std.specs.Char.{digit_value}
use Rattle.std.specs.Str.Parse.{IsNumeral, AllDigits, digits_value, digits_value_after}
use Rattle.std.proofs.lemmas.Bool.{and_parts, and_from, false≢true, ltb-true, lt-ltb, eqb-true}
use Rattle.x86_lines.specs.declared.number.Number.{Number}
use Rattle.x86_lines.specs.Told.{told, IsTold}
use Rattle.x86_lines.specs.Numbers.{IsNumber, Decimal, Negative, Hexadecimal}
use Rattle.x86_lines.specs.Reading.{all_digits, is_numeral, value_on, signed_in, hexadecimal_in, marked_in, number_in}

-- digits
digits_hold : (radix : ℕ) (ds : List ℕ) → all_digits radix ds ≡ true → AllDigits radix ds
digits_hold radix [] h = tt
digits_hold radix (b ∷ bs) h = let parts = and_parts (nat_lt (digit_value b) radix) (all_digits radix bs) h in (ltb-true (digit_value b) radix parts.0, digits_hold radix bs parts.1)

digits_pass : (radix : ℕ) (ds : List ℕ) → AllDigits radix ds → all_digits radix ds ≡ true
digits_pass radix [] h = refl
digits_pass radix (b ∷ bs) h = and_from (nat_lt (digit_value b) radix) (all_digits radix bs) (lt-ltb (digit_value b) radix h.0) (digits_pass radix bs h.1)

pub numeral_holds : (radix : ℕ) (ds : List ℕ) → is_numeral radix ds ≡ true → IsNumeral radix ds
numeral_holds radix [] h = absurd (false≢true h)
numeral_holds radix (b ∷ bs) h = (omega arith, digits_hold radix (b ∷ bs) h)

pub numeral_passes : (radix : ℕ) (ds : List ℕ) → IsNumeral radix ds → is_numeral radix ds ≡ true
numeral_passes radix [] h = absurd (let k : 0 < 0 = h.0 in omega arith)
numeral_passes radix (b ∷ bs) h = digits_pass radix (b ∷ bs) h.1

-- values
pub value_same : (radix n : ℕ) (ds : List ℕ) → value_on radix n ds ≡ digits_value_after radix n ds
value_same radix n [] = refl
value_same radix n (b ∷ bs) = value_same radix (n * radix + digit_value b) bs

value_is : (radix : ℕ) (ds : List ℕ) → value_on radix 0 ds ≡ digits_value radix ds
value_is radix ds = value_same radix 0 ds

-- a test that gave something
pub test_some : {X : Type 0} (b : Bool) (x v : X) → cond b (Some x) None ≡ Some v → (b ≡ true) × (x ≡ v)
test_some true x v e = (refl, let k : Some x ≡ Some v = e in cc)
test_some false x v e = absurd (let k : None ≡ Some v = e in cc)

-- what is found is a number
signed_sound : (negative : Bool) (radix : ℕ) (ds : List ℕ) (p : Bool × ℕ) → signed_in negative radix ds ≡ Some p → IsNumeral radix ds × (p ≡ (negative, digits_value radix ds))
signed_sound negative radix ds p e =
    let h = test_some (is_numeral radix ds) (negative, value_on radix 0 ds) p e in
    (numeral_holds radix ds h.0, sym h.1 ∙ ap (λ (n : ℕ). let q : Bool × ℕ = (negative, n) in q) (value_is radix ds))

abbrev IsPair : List ℕ → Bool × ℕ → Type 0
IsPair w p = IsNumber w p.0 p.1

hex_at : (c : ℕ) (cs : List ℕ) (p : Bool × ℕ) (mark : Bool) → eqb c 120 ≡ mark → cond mark (signed_in false 16 cs) None ≡ Some p → IsPair (48 ∷ c ∷ cs) p
hex_at c cs p true e h =
    let found = signed_sound false 16 cs p h in
    subst (IsPair (48 ∷ c ∷ cs)) (sym found.1) (subst (λ (x : ℕ). IsNumber (48 ∷ x ∷ cs) false (digits_value 16 cs)) (sym (eqb-true c 120 e)) (Hexadecimal cs found.0))
hex_at c cs p false e h = absurd (let k : None ≡ Some p = h in cc)

hex_sound : (bs : List ℕ) (p : Bool × ℕ) → hexadecimal_in bs ≡ Some p → IsPair (48 ∷ bs) p
hex_sound [] p h = absurd (let k : None ≡ Some p = h in cc)
hex_sound (c ∷ cs) p h = hex_at c cs p (eqb c 120) refl h

zero_at : (b : ℕ) (bs : List ℕ) (p : Bool × ℕ) (zero : Bool) → eqb b 48 ≡ zero → cond zero (hexadecimal_in bs) None ≡ Some p → IsPair (b ∷ bs) p
zero_at b bs p true e h = subst (λ (x : ℕ). IsPair (x ∷ bs) p) (sym (eqb-true b 48 e)) (hex_sound bs p h)
zero_at b bs p false e h = absurd (let k : None ≡ Some p = h in cc)

minus_at : (b : ℕ) (bs : List ℕ) (p : Bool × ℕ) (minus : Bool) → eqb b 45 ≡ minus → cond minus (signed_in true 10 bs) (cond (eqb b 48) (hexadecimal_in bs) None) ≡ Some p → IsPair (b ∷ bs) p
minus_at b bs p true e h =
    let found = signed_sound true 10 bs p h in
    subst (IsPair (b ∷ bs)) (sym found.1) (subst (λ (x : ℕ). IsNumber (x ∷ bs) true (digits_value 10 bs)) (sym (eqb-true b 45 e)) (Negative bs found.0))
minus_at b bs p false e h = zero_at b bs p (eqb b 48) refl h

marked_sound : (w : List ℕ) (p : Bool × ℕ) → marked_in w ≡ Some p → IsPair w p
marked_sound [] p h = absurd (let k : None ≡ Some p = h in cc)
marked_sound (b ∷ bs) p h = minus_at b bs p (eqb b 45) refl h

decimal_at : (w : List ℕ) (p : Bool × ℕ) (decimal : Bool) → is_numeral 10 w ≡ decimal → cond decimal (Some (false, value_on 10 0 w)) (marked_in w) ≡ Some p → IsPair w p
decimal_at w p true e h =
    let same : (false, value_on 10 0 w) ≡ p = let k : Some (false, value_on 10 0 w) ≡ Some p = h in cc in
    subst (IsPair w) same (subst (IsNumber w false) (sym (value_is 10 w)) (Decimal w (numeral_holds 10 w e)))
decimal_at w p false e h = marked_sound w p h

pub number_sound : (w : List ℕ) (p : Bool × ℕ) → number_in w ≡ Some p → IsPair w p
number_sound w p h = decimal_at w p (is_numeral 10 w) refl h

-- a number is found
signed_complete : (negative : Bool) (radix : ℕ) (ds : List ℕ) → IsNumeral radix ds → signed_in negative radix ds ≡ Some (negative, digits_value radix ds)
signed_complete negative radix ds h = ap (λ (t : Bool). cond t (let q : Option (Bool × ℕ) = Some (negative, value_on radix 0 ds) in q) None) (numeral_passes radix ds h) ∙ ap (λ (n : ℕ). let q : Option (Bool × ℕ) = Some (negative, n) in q) (value_is radix ds)

pub number_complete : (w : List ℕ) (negative : Bool) (n : ℕ) → IsNumber w negative n → number_in w ≡ Some (negative, n)
number_complete w negative n (Decimal ds h) = ap (λ (t : Bool). cond t (let q : Option (Bool × ℕ) = Some (false, value_on 10 0 ds) in q) (marked_in ds)) (numeral_passes 10 ds h) ∙ ap (λ (k : ℕ). let q : Option (Bool × ℕ) = Some (false, k) in q) (value_is 10 ds)
number_complete w negative n (Negative ds h) = signed_complete true 10 ds h
number_complete w negative n (Hexadecimal ds h) = signed_complete false 16 ds h

pub one_number : (w : List ℕ) (negative other : Bool) (n m : ℕ) → IsNumber w negative n → IsNumber w other m → (negative ≡ other) × (n ≡ m)
one_number w negative other n m h k =
    let a = number_complete w negative n h in
    let b = number_complete w other m k in
    let same : (negative, n) ≡ (other, m) = let e : Some (negative, n) ≡ Some (other, m) = sym a ∙ b in cc in
    (ap (λ (p : Bool × ℕ). p.0) same, ap (λ (p : Bool × ℕ). p.1) same)

-- what the code answers
pub told_at : (w : List ℕ) (m : Option (Bool × ℕ)) (r : Option Number) → number_in w ≡ m → r ≡ option_map told m → MatchOption r ((negative : Bool) (size : ℕ) → ¬ IsNumber w negative size) (λ n. IsTold w n)
told_at w None r e h = subst (λ (x : Option Number). MatchOption x ((negative : Bool) (size : ℕ) → ¬ IsNumber w negative size) (λ n. IsTold w n)) (sym h) (λ negative size is. let bad : None ≡ Some (negative, size) = sym e ∙ number_complete w negative size is in cc)
told_at w (Some p) r e h = subst (λ (x : Option Number). MatchOption x ((negative : Bool) (size : ℕ) → ¬ IsNumber w negative size) (λ n. IsTold w n)) (sym h) (record { size = p.1; number = number_sound w p e; keeps = refl })
