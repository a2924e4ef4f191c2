-- The words of the form are tokens wherever no letter, digit, '_' or '.' goes on behind those that are made of letters or digits.
use Rattle.std.proofs.Common.{◌≡◌, ℕ, ◌-◌, ◌≤◌, List, [], ◌∷◌, ◌++◌, length, take, refl, sym, ◌∙◌, ap, Some, None, Bool, true, false, cond, inl, inr, arith, length-append}
use Rattle.std.specs.Prelude.{◌&&◌, ◌||◌, ◌==◌, nat_le, not}
use Rattle.std.proofs.lemmas.List.{take_at, append-nil}
use Rattle.std.proofs.lemmas.Bool.Decides.{nat_tests}
use Rattle.std.proofs.lemmas.Bool.{le-leb}
use Rattle.c_tokens.specs.declared.token.TokenKind.{TokenKind}
use Rattle.c_tokens.specs.declared.token.TokenKind.TheVariants.{Integer}
use Rattle.c_tokens.specs.Lexemes.{AllOf, is_decimal, is_letter_or_digit, is_octal, is_hexadecimal, IsNumeral}
use Rattle.c_tokens.specs.Tokens.{IsPast, IsLongest, IsToken, goes_on}
use Rattle.c_tokens.specs.Scanning.{begins, behind, behind_piece, behind_lexeme, behind_zero, behind_suffix, behind_digits, behind_one, kind_of, is_token, integer_number}
use Rattle.c_tokens.proofs.Runs.{behind_exact}
use Rattle.c_tokens.proofs.Gaps.{piece_past}
use Rattle.c_tokens.proofs.Constants.{integer_dispatch, no_zero, digit_between}
use Rattle.c_tokens.proofs.Told.{told_here, integer_is}
use Rattle.c_tokens.proofs.Sound.{digit_kind}
use Rattle.first_form.proofs.Digits.{IsPlain, in_range}

-- a word at the front is the next token
pub record Lexes (kind : TokenKind) (word after : List ℕ) : Type 0 where
  pub past : (now : Bool) → IsPast now (word ++ after)
  pub longest : IsLongest (word ++ after) kind word after
  pub is_token : IsToken kind word after

front : (word after : List ℕ) → word ≡ take (length (word ++ after) - length after) (word ++ after)
front word after =
    let h = length-append word after in
    let long : length (word ++ after) - length after ≡ length word = omega arith in
    sym (ap (λ n. take n (word ++ after)) long ∙ take_at word after (length word) refl)

pub lexes : (kind : TokenKind) (word after : List ℕ) → ((now : Bool) → behind_piece now (word ++ after) ≡ None) → behind_lexeme (word ++ after) ≡ Some after → kind_of word ≡ kind → is_token kind word after ≡ true → Lexes kind word after
lexes kind word after past scan is token =
    let told = told_here (word ++ after) after word kind (sym scan) (front word after) (sym is) (sym token) in
    record { past = λ now. piece_past now (word ++ after) (past now); longest = told.0; is_token = told.1 }

-- ## What stops a word

no_word : (b : ℕ) → goes_on b ≡ false → is_letter_or_digit b ≡ false
no_word b e = grind (arith, nat_tests)

no_digit : (b : ℕ) → goes_on b ≡ false → is_decimal b ≡ false
no_digit b e = grind (arith, nat_tests)

no_octal : (b : ℕ) → goes_on b ≡ false → is_octal b ≡ false
no_octal b e = grind (arith, nat_tests)

no_hexadecimal_mark : (b : ℕ) → goes_on b ≡ false → (b == 120 || b == 88) ≡ false
no_hexadecimal_mark b e = grind (arith, nat_tests)

no_unsigned_mark : (b : ℕ) → goes_on b ≡ false → (b == 117 || b == 85) ≡ false
no_unsigned_mark b e = grind (arith, nat_tests)

no_long_mark : (b : ℕ) → goes_on b ≡ false → (b == 108 || b == 76) ≡ false
no_long_mark b e = grind (arith, nat_tests)

pub stops_word : (after : List ℕ) → begins goes_on after ≡ false → begins is_letter_or_digit after ≡ false
stops_word [] e = refl
stops_word (b ∷ bs) e = no_word b e

stops_digit : (after : List ℕ) → begins goes_on after ≡ false → begins is_decimal after ≡ false
stops_digit [] e = refl
stops_digit (b ∷ bs) e = no_digit b e

pub word_scan : (word after : List ℕ) → AllOf is_letter_or_digit word → begins goes_on after ≡ false → Some (behind is_letter_or_digit (word ++ after)) ≡ Some after
word_scan word after all e = ap Some (behind_exact is_letter_or_digit word after all (stops_word after e))

no_suffix : (after : List ℕ) → begins goes_on after ≡ false → behind_suffix after ≡ after
no_suffix [] e = refl
no_suffix (b ∷ bs) e =
    ap (λ t. cond t (behind_one (λ c. c == 108 || c == 76) bs) (cond (b == 108 || b == 76) (behind_one (λ c. c == 117 || c == 85) bs) (b ∷ bs))) (no_unsigned_mark b e)
    ∙ ap (λ t. cond t (behind_one (λ c. c == 117 || c == 85) bs) (b ∷ bs)) (no_long_mark b e)

no_more_digits : (after : List ℕ) → begins goes_on after ≡ false → behind_zero after ≡ after
no_more_digits [] e = refl
no_more_digits (b ∷ bs) e =
    ap (λ t. cond (t && begins is_hexadecimal bs) (behind is_hexadecimal bs) (behind is_octal (b ∷ bs))) (no_hexadecimal_mark b e)
    ∙ ap (λ t. cond t (behind is_octal bs) (b ∷ bs)) (no_octal b e)

digits_end : (digits after : List ℕ) → IsPlain digits → begins goes_on after ≡ false → behind_lexeme (digits ++ after) ≡ Some after
digits_end digits after (inl zero_digit) e =
    ap (λ (xs : List ℕ). behind_lexeme (xs ++ after)) zero_digit ∙ ap (λ (xs : List ℕ). Some (behind_suffix xs)) (no_more_digits after e) ∙ ap Some (no_suffix after e)
digits_end digits after (inr (first, rest, is, high, all)) e =
    let r = in_range 49 57 first high in
    let ten : behind_digits (first ∷ rest ++ after) ≡ after =
    ap (λ t. cond t (behind_zero (rest ++ after)) (behind is_decimal (first ∷ rest ++ after))) (no_zero first r.0)
    ∙ behind_exact is_decimal (first ∷ rest) after (digit_between first r.0 r.1, all) (stops_digit after e) in
    ap (λ (xs : List ℕ). behind_lexeme (xs ++ after)) is ∙ integer_dispatch first (rest ++ after) (digit_between first r.0 r.1) ∙ ap (λ (xs : List ℕ). Some (behind_suffix xs)) ten ∙ ap Some (no_suffix after e)

digit_piece : (now : Bool) (b : ℕ) (bs : List ℕ) → is_decimal b ≡ true → behind_piece now (b ∷ bs) ≡ None
digit_piece now b bs e = grind (arith, nat_tests)

digits_past : (digits after : List ℕ) → IsPlain digits → (now : Bool) → behind_piece now (digits ++ after) ≡ None
digits_past digits after (inl zero_digit) now = ap (λ (xs : List ℕ). behind_piece now (xs ++ after)) zero_digit
digits_past digits after (inr (first, rest, is, high, all)) now =
    let r = in_range 49 57 first high in
    ap (λ (xs : List ℕ). behind_piece now (xs ++ after)) is ∙ digit_piece now first (rest ++ after) (digit_between first r.0 r.1)

pub digits_kind : (digits : List ℕ) → IsPlain digits → kind_of digits ≡ Integer
digits_kind digits (inl zero_digit) = ap kind_of zero_digit
digits_kind digits (inr (first, rest, is, high, all)) =
    let r = in_range 49 57 first high in
    ap kind_of is ∙ sym (digit_kind first rest (digit_between first r.0 r.1))

digits_token : (digits after : List ℕ) (n : ℕ) → IsNumeral digits n → n ≤ 4294967295 → begins goes_on after ≡ false → is_token Integer digits after ≡ true
digits_token digits after n h small e =
    let value : integer_number digits ≡ n = ap integer_number (sym (append-nil digits)) ∙ integer_is digits n h [] (inl refl) in
    ap (λ t. not t && nat_le (integer_number digits) 4294967295) e ∙ ap (λ m. nat_le m 4294967295) value ∙ le-leb n 4294967295 small

-- digits without a 0 in front
pub digits_lex : (digits after : List ℕ) (n : ℕ) → IsPlain digits → IsNumeral digits n → n ≤ 4294967295 → begins goes_on after ≡ false → Lexes Integer digits after
digits_lex digits after n plain h small e = lexes Integer digits after (digits_past digits after plain) (digits_end digits after plain e) (digits_kind digits plain) (digits_token digits after n h small e)
