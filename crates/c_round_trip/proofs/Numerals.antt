-- The digits that are printed of a number are a numeral of it.
use Rattle.std.proofs.Common.{◌≡◌, ℕ, zero, suc, ◌+◌, ◌-◌, ◌*◌, ◌/◌, ◌%◌, ◌^◌, ◌<◌, ◌≤◌, Bool, true, false, cond, not, nat_lt, List, [], ◌∷◌, decimal, get_or, refl, sym, ◌∙◌, ap, subst, arith, inl}
use Rattle.std.specs.Prelude.{nat_le, ◌==◌, ◌||◌}
use Rattle.std.specs.Char.{digit_char}
use Rattle.std.proofs.lemmas.Bool.{leb-true, ltb-true, ltb-false}
use Rattle.std.proofs.lemmas.Bool.Decides.{nat_tests}
use Rattle.std.proofs.lemmas.Fmt.{first_decimal, digits_decimal, digits_value-decimal, decimal_digit}
use Rattle.std.proofs.lemmas.Str.Parse.{IsDigitsTest, FoldsDigits, IsNumeralModel, numerals_by_fold}
use Rattle.c_tokens.specs.Lexemes.{AllOf, is_between, is_decimal, is_hexadecimal, digit_value, digits_from, IsNumeral, Decimal, Octal, Hexadecimal}
use Rattle.c_tokens.specs.Constants.{are_decimal}
use Rattle.c_tokens.proofs.Runs.{and_true}
use Rattle.c_tree.specs.Printing.{hexadecimal}

-- ## Decimal digits

low_digit : (b : ℕ) → is_decimal b ≡ true → 48 ≤ b
low_digit b e = leb-true 48 b (and_true (nat_le 48 b) (nat_le b 57) e).0

high_digit : (b : ℕ) → is_decimal b ≡ true → b ≤ 57
high_digit b e = leb-true b 57 (and_true (nat_le 48 b) (nat_le b 57) e).1

is_digit : (b : ℕ) → 48 ≤ b → b ≤ 57 → is_decimal b ≡ true
is_digit b low high = grind (arith, nat_tests)

not_first : (b : ℕ) → 48 < b → b ≤ 57 → is_between 49 57 b ≡ true
not_first b low high = grind (arith, nat_tests)

no_zero : (b : ℕ) → 48 < b → (b == 48) ≡ false
no_zero b low = grind (arith, nat_tests)

tells_decimal : IsDigitsTest (AllOf is_decimal)
tells_decimal = record {
  empty = tt;
  parts = λ c cs h. ((low_digit c h.0, high_digit c h.0), h.1);
  more = λ c cs r h. (is_digit c r.0 r.1, h);
}

decimal_value : (c : ℕ) → is_decimal c ≡ true → digit_value c ≡ c - 48
decimal_value c e = ap (λ t. cond t (c - 48) (cond (is_between 65 70 c) (c - 55) (c - 87))) e

folds : FoldsDigits (λ n ds. digits_from 10 n ds)
folds = record {
  empty = λ n. refl;
  more = λ n c cs r. ap (λ m. digits_from 10 m cs) (let v = decimal_value c (is_digit c r.0 r.1) in omega (arith, v));
}

digits_model : IsNumeralModel (AllOf is_decimal) (λ ds. digits_from 10 0 ds)
digits_model = numerals_by_fold (AllOf is_decimal) tells_decimal (λ n ds. digits_from 10 n ds) folds

by_first : (ds : List ℕ) (n : ℕ) → AllOf is_decimal ds → digits_from 10 0 ds ≡ n → 48 < get_or ds 0 0 → IsNumeral ds n × (are_decimal ds ≡ true)
by_first [] n all e first = absurd (omega arith)
by_first (c ∷ []) n all e first = (subst (λ m. IsNumeral (c ∷ []) m) e (Decimal c [] (not_first c first (high_digit c all.0)) tt), refl)
by_first (c ∷ d ∷ cs) n all e first = (subst (λ m. IsNumeral (c ∷ d ∷ cs) m) e (Decimal c (d ∷ cs) (not_first c first (high_digit c all.0)) all.1), ap not (no_zero c first))

zero_numeral : (ds : List ℕ) → ds ≡ 48 ∷ [] → IsNumeral ds 0 × (are_decimal ds ≡ true)
zero_numeral ds e = subst (λ xs. IsNumeral xs 0 × (are_decimal xs ≡ true)) (sym e) (Octal [] tt, refl)

pub decimal_numeral : (n : ℕ) → n < 2 ^ 32 → IsNumeral (decimal n) n × (are_decimal (decimal n) ≡ true)
decimal_numeral zero h = zero_numeral (decimal 0) (decimal_digit 0 (omega arith))
decimal_numeral (suc n) h =
    let small : suc n < 2 ^ 64 = omega arith in
    by_first (decimal (suc n)) (suc n) (digits_decimal digits_model (suc n) small) (digits_value-decimal digits_model (suc n) small) (first_decimal (suc n) (omega arith) small)

-- ## Hexadecimal digits

below_ten : (d : ℕ) → d < 10 → is_decimal (48 + d) ≡ true
below_ten d h = grind (arith, nat_tests)

above_nine : (d : ℕ) → 10 ≤ d → d < 16 → is_decimal (87 + d) ≡ false
above_nine d low high = grind (arith, nat_tests)

above_upper : (d : ℕ) → 10 ≤ d → d < 16 → is_between 65 70 (87 + d) ≡ false
above_upper d low high = grind (arith, nat_tests)

lower_letter : (d : ℕ) → 10 ≤ d → d < 16 → is_between 97 102 (87 + d) ≡ true
lower_letter d low high = grind (arith, nat_tests)

value_by : (d : ℕ) (t : Bool) → d < 16 → nat_lt d 10 ≡ t → digit_value (cond t (48 + d) (87 + d)) ≡ d
value_by d true h e = decimal_value (48 + d) (below_ten d (ltb-true d 10 e)) ∙ omega arith
value_by d false h e =
    let low : 10 ≤ d = ltb-false d 10 e in
    ap (λ t. cond t (87 + d - 48) (cond (is_between 65 70 (87 + d)) (87 + d - 55) (87 + d - 87))) (above_nine d low h)
    ∙ ap (λ t. cond t (87 + d - 55) (87 + d - 87)) (above_upper d low h) ∙ omega arith

digit_back : (d : ℕ) → d < 16 → digit_value (digit_char d) ≡ d
digit_back d h = value_by d (nat_lt d 10) h refl

hexadecimal_by : (d : ℕ) (t : Bool) → d < 16 → nat_lt d 10 ≡ t → is_hexadecimal (cond t (48 + d) (87 + d)) ≡ true
hexadecimal_by d true h e = ap (λ t. t || is_between 65 70 (48 + d) || is_between 97 102 (48 + d)) (below_ten d (ltb-true d 10 e))
hexadecimal_by d false h e =
    let low : 10 ≤ d = ltb-false d 10 e in
    ap (λ t. t || is_between 65 70 (87 + d) || is_between 97 102 (87 + d)) (above_nine d low h) ∙ ap (λ t. t || is_between 97 102 (87 + d)) (above_upper d low h) ∙ lower_letter d low h

is_hex_digit : (d : ℕ) → d < 16 → is_hexadecimal (digit_char d) ≡ true
is_hex_digit d h = hexadecimal_by d (nat_lt d 10) h refl

-- one more digit behind those of the number so far
one_digit : (cs : List ℕ) (so_far now d : ℕ) → d < 16 → 16 * so_far + d ≡ now → digits_from 16 so_far (digit_char d ∷ cs) ≡ digits_from 16 now cs
one_digit cs so_far now d h e = ap (λ m. digits_from 16 m cs) (let v = digit_back d h in omega (arith, v, e))

first_step : (n : ℕ) → 16 * 0 + n / 268435456 ≡ n / 268435456
first_step n = omega arith

second_step : (n : ℕ) → 16 * (n / 268435456) + n / 16777216 % 16 ≡ n / 16777216
second_step n = omega arith

third_step : (n : ℕ) → 16 * (n / 16777216) + n / 1048576 % 16 ≡ n / 1048576
third_step n = omega arith

fourth_step : (n : ℕ) → 16 * (n / 1048576) + n / 65536 % 16 ≡ n / 65536
fourth_step n = omega arith

fifth_step : (n : ℕ) → 16 * (n / 65536) + n / 4096 % 16 ≡ n / 4096
fifth_step n = omega arith

sixth_step : (n : ℕ) → 16 * (n / 4096) + n / 256 % 16 ≡ n / 256
sixth_step n = omega arith

seventh_step : (n : ℕ) → 16 * (n / 256) + n / 16 % 16 ≡ n / 16
seventh_step n = omega arith

last_step : (n : ℕ) → 16 * (n / 16) + n % 16 ≡ n
last_step n = omega arith

top_digit : (n : ℕ) → n < 2 ^ 32 → n / 268435456 < 16
top_digit n h = omega arith

low_part : (n : ℕ) → n % 16 < 16
low_part n = omega arith

hexadecimal_value : (n : ℕ) → n < 2 ^ 32
    → digits_from 16 0 (digit_char (n / 268435456) ∷ digit_char (n / 16777216 % 16) ∷ digit_char (n / 1048576 % 16) ∷ digit_char (n / 65536 % 16) ∷ digit_char (n / 4096 % 16) ∷ digit_char (n / 256 % 16) ∷ digit_char (n / 16 % 16) ∷ digit_char (n % 16) ∷ []) ≡ n
hexadecimal_value n h =
    let l7 : List ℕ = [] in
    let l6 : List ℕ = digit_char (n % 16) ∷ l7 in
    let l5 : List ℕ = digit_char (n / 16 % 16) ∷ l6 in
    let l4 : List ℕ = digit_char (n / 256 % 16) ∷ l5 in
    let l3 : List ℕ = digit_char (n / 4096 % 16) ∷ l4 in
    let l2 : List ℕ = digit_char (n / 65536 % 16) ∷ l3 in
    let l1 : List ℕ = digit_char (n / 1048576 % 16) ∷ l2 in
    let l0 : List ℕ = digit_char (n / 16777216 % 16) ∷ l1 in
    one_digit l0 0 (n / 268435456) (n / 268435456) (top_digit n h) (first_step n)
    ∙ one_digit l1 (n / 268435456) (n / 16777216) (n / 16777216 % 16) (low_part (n / 16777216)) (second_step n)
    ∙ one_digit l2 (n / 16777216) (n / 1048576) (n / 1048576 % 16) (low_part (n / 1048576)) (third_step n)
    ∙ one_digit l3 (n / 1048576) (n / 65536) (n / 65536 % 16) (low_part (n / 65536)) (fourth_step n)
    ∙ one_digit l4 (n / 65536) (n / 4096) (n / 4096 % 16) (low_part (n / 4096)) (fifth_step n)
    ∙ one_digit l5 (n / 4096) (n / 256) (n / 256 % 16) (low_part (n / 256)) (sixth_step n)
    ∙ one_digit l6 (n / 256) (n / 16) (n / 16 % 16) (low_part (n / 16)) (seventh_step n)
    ∙ one_digit l7 (n / 16) n (n % 16) (low_part n) (last_step n)

pub hexadecimal_numeral : (n : ℕ) → n < 2 ^ 32 → IsNumeral (hexadecimal n) n × (are_decimal (hexadecimal n) ≡ false)
hexadecimal_numeral n h =
    let all : AllOf is_hexadecimal (digit_char (n / 268435456) ∷ digit_char (n / 16777216 % 16) ∷ digit_char (n / 1048576 % 16) ∷ digit_char (n / 65536 % 16) ∷ digit_char (n / 4096 % 16) ∷ digit_char (n / 256 % 16) ∷ digit_char (n / 16 % 16) ∷ digit_char (n % 16) ∷ []) = (
      is_hex_digit _ (top_digit n h),
      (
        is_hex_digit _ (low_part (n / 16777216)),
        (
          is_hex_digit _ (low_part (n / 1048576)),
          (
            is_hex_digit _ (low_part (n / 65536)),
            (is_hex_digit _ (low_part (n / 4096)), (is_hex_digit _ (low_part (n / 256)), (is_hex_digit _ (low_part (n / 16)), (is_hex_digit _ (low_part n), tt)))),
          ),
        ),
      ),
    ) in
    (subst (λ m. IsNumeral (hexadecimal n) m) (hexadecimal_value n h) (Hexadecimal 120 _ _ (inl refl) all), refl)
