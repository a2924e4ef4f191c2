-- The digits of a number are an integer constant that writes it.
use Rattle.std.proofs.Common.{◌≡◌, ℕ, zero, suc, ◌<◌, ◌≤◌, ◌^◌, ◌+◌, ◌-◌, ◌*◌, List, [], ◌∷◌, length, get_or, refl, sym, ◌∙◌, ap, subst, Bool, true, false, cond, inl, inr, ◌⊎◌, arith}
use Rattle.std.specs.Prelude.{decimal, ◌&&◌, nat_le}
use Rattle.std.specs.Int.{IsInRange}
use Rattle.std.proofs.lemmas.Fmt.{decimal_nonempty, first_decimal, digits_decimal, digits_value-decimal, decimal-digits_value}
use Rattle.std.proofs.lemmas.Str.Parse.{IsDigitsTest, FoldsDigits, IsNumeralModel, numerals_by_fold}
use Rattle.std.proofs.lemmas.Bool.{le-leb, leb-true}
use Rattle.c_tokens.specs.Lexemes.{AllOf, is_decimal, is_between, digits_from, IsNumeral, Decimal, Octal}
use Rattle.c_tokens.proofs.Runs.{and_true}

and_holds : (a b : Bool) → a ≡ true → b ≡ true → (a && b) ≡ true
and_holds true b e h = h
and_holds false b e h = absurd (let k : false ≡ true = e in cc)

-- a byte of a range
pub between : (low high b : ℕ) → low ≤ b → b ≤ high → is_between low high b ≡ true
between low high b l h = and_holds (nat_le low b) (nat_le b high) (le-leb low b l) (le-leb b high h)

pub in_range : (low high b : ℕ) → is_between low high b ≡ true → IsInRange low high b
in_range low high b e = let k = and_true (nat_le low b) (nat_le b high) e in (leb-true low b k.0, leb-true b high k.1)

are_decimal_test : IsDigitsTest (AllOf is_decimal)
are_decimal_test = record {
  empty = tt;
  parts = λ c cs d. (in_range 48 57 c d.0, d.1);
  more = λ c cs r d. (between 48 57 c r.0 r.1, d);
}

folds : FoldsDigits (digits_from 10)
folds = record {
  empty = λ n. refl;
  more = λ n c cs r.
      ap (λ (t : Bool). digits_from 10 (10 * n + cond t (c - 48) (cond (is_between 65 70 c) (c - 55) (c - 87))) cs) (between 48 57 c r.0 r.1)
      ∙ ap (λ (m : ℕ). digits_from 10 m cs) (let e : 10 * n + (c - 48) ≡ n * 10 + (c - 48) = omega arith in e);
}

model : IsNumeralModel (AllOf is_decimal) (digits_from 10 0)
model = numerals_by_fold (AllOf is_decimal) are_decimal_test (digits_from 10) folds

-- `0`, or digits without a 0 in front
abbrev pub IsPlain : List ℕ → Type 0
IsPlain ds = (ds ≡ 48 ∷ []) ⊎ ((first : ℕ) × (rest : List ℕ) × (ds ≡ first ∷ rest) × (is_between 49 57 first ≡ true) × AllOf is_decimal rest)

starts_high : (ds : List ℕ) → 0 < length ds → 48 < get_or ds 0 0 → AllOf is_decimal ds → IsPlain ds
starts_high [] some high all = absurd (omega arith)
starts_high (d ∷ ds) some high all = inr (d, ds, refl, between 49 57 d (omega arith) (let r = in_range 48 57 d all.0 in r.1), all.1)

pub plain : (n : ℕ) → n < 2 ^ 64 → IsPlain (decimal n)
plain zero h = inl (decimal-digits_value model (48 ∷ []) (refl, tt) (omega arith) (λ e. refl) (omega arith))
plain (suc n) h = starts_high (decimal (suc n)) (decimal_nonempty (suc n) h) (first_decimal (suc n) (omega arith) h) (digits_decimal model (suc n) h)

numeral_of : (ds : List ℕ) (n : ℕ) → IsPlain ds → digits_from 10 0 ds ≡ n → IsNumeral ds n
numeral_of ds n (inl zero_digit) value =
    let ten : digits_from 10 0 (48 ∷ []) ≡ n = ap (digits_from 10 0) (sym zero_digit) ∙ value in
    let none : 0 ≡ n = ten in
    subst (λ (xs : List ℕ). IsNumeral xs n) (sym zero_digit) (subst (λ (m : ℕ). IsNumeral (48 ∷ []) m) none (Octal [] tt))
numeral_of ds n (inr (first, rest, is, high, all)) value =
    let ten : digits_from 10 0 (first ∷ rest) ≡ n = ap (digits_from 10 0) (sym is) ∙ value in
    subst (λ (xs : List ℕ). IsNumeral xs n) (sym is) (subst (λ (m : ℕ). IsNumeral (first ∷ rest) m) ten (Decimal first rest high all))

pub numeral : (n : ℕ) → n < 2 ^ 64 → IsNumeral (decimal n) n
numeral n h = numeral_of (decimal n) n (plain n h) (digits_value-decimal model n h)
