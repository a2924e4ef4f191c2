-- The form is the ten words of the file's tokens, both ways.
use Rattle.std.proofs.Common.{◌≡◌, ℕ, ◌-◌, ◌≤◌, List, [], ◌∷◌, ◌++◌, length, map, refl, sym, ◌∙◌, ap, None, true, false, inl, inr, arith}
use Rattle.std.proofs.lemmas.List.{append-nil}
use Rattle.std.proofs.lemmas.Bool.Decides.{nat_tests}
use Rattle.c_tokens.proofs.Constants.{no_zero, digit_between}
use Rattle.std.specs.Prelude.{codes, decimal, not}
use Rattle.c_tokens.specs.declared.token.TokenKind.TheVariants.{Identifier, Keyword, Integer, Punctuator}
use Rattle.c_tokens.specs.declared.token.Token.{Token}
use Rattle.c_tokens.specs.declared.constant.IntegerConstant.{IntegerConstant}
use Rattle.c_tokens.specs.Constants.{IsIntegerOf, are_decimal}
use Rattle.c_tokens.specs.Lexemes.{is_letter_or_digit, is_decimal}
use Rattle.c_tokens.specs.Tokens.{Tokens, goes_on}
use Rattle.c_tokens.specs.Scanning.{begins}
use Rattle.c_grammar.specs.Tokens as k
use Rattle.c_reading.specs.Words.{IsKindOf, IsName, IsKeyword, IsPunctuator, IsInteger, number_of}
use Rattle.c_reading.specs.Words as fixed
use Rattle.first_form.specs.Form.{Piece, joined, apart, ten_words, TenTokens, AreTen}
use Rattle.first_form.proofs.Digits.{IsPlain, plain, numeral, in_range}
use Rattle.first_form.proofs.Lexed.{Lexes, lexes, word_scan, digits_lex}
use Rattle.first_form.proofs.Gaps.{next, stops_apart, stops_joined, EndsWith, ends_behind}
use Rattle.first_form.proofs.Listed.{Listed, listed_end, listed_next}
use Rattle.first_form.proofs.Told.{AreLinked, spells}

-- ## The words as tokens

int_lexes : (after : List ℕ) → begins goes_on after ≡ false → Lexes Keyword (codes "int") after
int_lexes after e = lexes Keyword (codes "int") after (λ now. refl) (sym (sym (word_scan (codes "int") after (refl, (refl, (refl, tt))) e))) refl refl

main_lexes : (after : List ℕ) → begins goes_on after ≡ false → Lexes Identifier (codes "main") after
main_lexes after e = lexes Identifier (codes "main") after (λ now. refl) (word_scan (codes "main") after (refl, (refl, (refl, (refl, tt)))) e) refl refl

void_lexes : (after : List ℕ) → begins goes_on after ≡ false → Lexes Keyword (codes "void") after
void_lexes after e = lexes Keyword (codes "void") after (λ now. refl) (word_scan (codes "void") after (refl, (refl, (refl, (refl, tt)))) e) refl refl

return_lexes : (after : List ℕ) → begins goes_on after ≡ false → Lexes Keyword (codes "return") after
return_lexes after e = lexes Keyword (codes "return") after (λ now. refl) (word_scan (codes "return") after (refl, (refl, (refl, (refl, (refl, (refl, tt)))))) e) refl refl

left_paren_lexes : (after : List ℕ) → Lexes Punctuator (codes "(") after
left_paren_lexes after = lexes Punctuator (codes "(") after (λ now. refl) refl refl refl

right_paren_lexes : (after : List ℕ) → Lexes Punctuator (codes ")") after
right_paren_lexes after = lexes Punctuator (codes ")") after (λ now. refl) refl refl refl

left_brace_lexes : (after : List ℕ) → Lexes Punctuator (codes "{") after
left_brace_lexes after = lexes Punctuator (codes "{") after (λ now. refl) refl refl refl

right_brace_lexes : (after : List ℕ) → Lexes Punctuator (codes "}") after
right_brace_lexes after = lexes Punctuator (codes "}") after (λ now. refl) refl refl refl

semicolon_lexes : (after : List ℕ) → Lexes Punctuator (codes ";") after
semicolon_lexes after = lexes Punctuator (codes ";") after (λ now. refl) refl refl refl

digits_lexes : (n : ℕ) (after : List ℕ) → n ≤ 2147483647 → begins goes_on after ≡ false → Lexes Integer (decimal n) after
digits_lexes n after small e = digits_lex (decimal n) after n (plain n (omega arith)) (numeral n (omega arith)) (omega arith) e

-- ## The tokens of the grammar

plain_decimal : (digits : List ℕ) → IsPlain digits → true ≡ are_decimal digits
plain_decimal digits (inl zero_digit) = sym (ap are_decimal zero_digit)
plain_decimal digits (inr (first, [], is, high, all)) = sym (ap are_decimal is)
plain_decimal digits (inr (first, (d ∷ ds), is, high, all)) = sym (ap are_decimal is ∙ ap not (no_zero first (in_range 49 57 first high).0))

abbrev constant_of : ℕ → IntegerConstant
constant_of n = record { value = n; is_decimal = true; is_unsigned = false }

digits_constant : (n : ℕ) → n ≤ 2147483647 → IsIntegerOf (decimal n) (constant_of n)
digits_constant n small = record {
  digits = decimal n;
  suffix = [];
  parts = sym (append-nil (decimal n));
  numeral = numeral n (omega arith);
  ending = inl refl;
  decimal = plain_decimal (decimal n) (plain n (omega arith));
  unsigned = refl;
}

-- the ten tokens of the grammar, each at its place
abbrev pub form_tokens : (n p0 p1 p2 p3 p4 p5 p6 p7 p8 p9 : ℕ) → List k.Token
form_tokens n p0 p1 p2 p3 p4 p5 p6 p7 p8 p9 =
    k.token (k.TypeKeyword k.Int) p0 ∷ k.token (k.Name (codes "main")) p1 ∷ k.token k.LeftParen p2 ∷ k.token (k.TypeKeyword k.Void) p3 ∷ k.token k.RightParen p4 ∷ k.token k.LeftBrace p5
    ∷ k.token k.Return p6 ∷ k.token (k.Constant (k.Decimal n)) p7 ∷ k.token k.Semicolon p8 ∷ k.token k.RightBrace p9 ∷ []

abbrev ten : ℕ → List (List ℕ)
ten n = map (λ piece. piece.word) (ten_words n)

pub record Read (bytes : List ℕ) (n : ℕ) : Type 0 where
  pub p0 : ℕ
  pub p1 : ℕ
  pub p2 : ℕ
  pub p3 : ℕ
  pub p4 : ℕ
  pub p5 : ℕ
  pub p6 : ℕ
  pub p7 : ℕ
  pub p8 : ℕ
  pub p9 : ℕ
  pub listed : Listed bytes true bytes (ten n) (form_tokens n p0 p1 p2 p3 p4 p5 p6 p7 p8 p9)

-- what is left of the words
abbrev back : List Piece
back = joined (codes ";") ∷ joined (codes "}") ∷ []

abbrev from_number : ℕ → List Piece
from_number n = apart (decimal n) ∷ back

abbrev from_return : ℕ → List Piece
from_return n = joined (codes "return") ∷ from_number n

abbrev from_brace : ℕ → List Piece
from_brace n = joined (codes "{") ∷ from_return n

abbrev from_right_paren : ℕ → List Piece
from_right_paren n = joined (codes ")") ∷ from_brace n

abbrev from_void : ℕ → List Piece
from_void n = joined (codes "void") ∷ from_right_paren n

abbrev from_left_paren : ℕ → List Piece
from_left_paren n = joined (codes "(") ∷ from_void n

abbrev from_main : ℕ → List Piece
from_main n = apart (codes "main") ∷ from_left_paren n

pub read : (bytes : List ℕ) (n : ℕ) → TenTokens bytes n → Read bytes n
read bytes n h =
    let n0 = next (joined (codes "int")) (from_main n) true bytes h.spelled in
    let n1 = next (apart (codes "main")) (from_left_paren n) false n0.after n0.more in
    let n2 = next (joined (codes "(")) (from_void n) false n1.after n1.more in
    let n3 = next (joined (codes "void")) (from_right_paren n) false n2.after n2.more in
    let n4 = next (joined (codes ")")) (from_brace n) false n3.after n3.more in
    let n5 = next (joined (codes "{")) (from_return n) false n4.after n4.more in
    let n6 = next (joined (codes "return")) (from_number n) false n5.after n5.more in
    let n7 = next (apart (decimal n)) back false n6.after n6.more in
    let n8 = next (joined (codes ";")) (joined (codes "}") ∷ []) false n7.after n7.more in
    let n9 = next (joined (codes "}")) [] false n8.after n8.more in
    let a0 : EndsWith bytes bytes = ([], refl) in
    let a1 = ends_behind bytes bytes true n0.now (codes "int") n0.after a0 n0.gap in
    let a2 = ends_behind bytes n0.after false n1.now (codes "main") n1.after a1 n1.gap in
    let a3 = ends_behind bytes n1.after false n2.now (codes "(") n2.after a2 n2.gap in
    let a4 = ends_behind bytes n2.after false n3.now (codes "void") n3.after a3 n3.gap in
    let a5 = ends_behind bytes n3.after false n4.now (codes ")") n4.after a4 n4.gap in
    let a6 = ends_behind bytes n4.after false n5.now (codes "{") n5.after a5 n5.gap in
    let a7 = ends_behind bytes n5.after false n6.now (codes "return") n6.after a6 n6.gap in
    let a8 = ends_behind bytes n6.after false n7.now (decimal n) n7.after a7 n7.gap in
    let a9 = ends_behind bytes n7.after false n8.now (codes ";") n8.after a8 n8.gap in
    let l9 = listed_end bytes false n9.more.0 n9.after n9.more.1 in
    let l8 = listed_next bytes false n9.now n8.after Punctuator (codes "}") n9.after _ k.RightBrace _ a9 n9.gap (right_brace_lexes n9.after) (IsPunctuator _ _ fixed.RightBrace) l9 in
    let l7 = listed_next bytes false n8.now n7.after Punctuator (codes ";") n8.after _ k.Semicolon _ a8 n8.gap (semicolon_lexes n8.after) (IsPunctuator _ _ fixed.Semicolon) l8 in
    let l6 = listed_next bytes false n7.now n6.after Integer (decimal n) n7.after _ (k.Constant (k.Decimal n)) _ a7 n7.gap (digits_lexes n n7.after h.small (stops_joined (joined (codes ";")) (joined (codes "}") ∷ []) false n7.after n8 refl)) (IsInteger (decimal n) (constant_of n) (digits_constant n h.small)) l7 in
    let l5 = listed_next bytes false n6.now n5.after Keyword (codes "return") n6.after _ k.Return _ a6 n6.gap (return_lexes n6.after (stops_apart (apart (decimal n)) back false n6.after refl n7)) (IsKeyword _ _ fixed.Return) l6 in
    let l4 = listed_next bytes false n5.now n4.after Punctuator (codes "{") n5.after _ k.LeftBrace _ a5 n5.gap (left_brace_lexes n5.after) (IsPunctuator _ _ fixed.LeftBrace) l5 in
    let l3 = listed_next bytes false n4.now n3.after Punctuator (codes ")") n4.after _ k.RightParen _ a4 n4.gap (right_paren_lexes n4.after) (IsPunctuator _ _ fixed.RightParen) l4 in
    let l2 = listed_next bytes false n3.now n2.after Keyword (codes "void") n3.after _ (k.TypeKeyword k.Void) _ a3 n3.gap (void_lexes n3.after (stops_joined (joined (codes ")")) (from_brace n) false n3.after n4 refl)) (IsKeyword _ _ fixed.Void) l3 in
    let l1 = listed_next bytes false n2.now n1.after Punctuator (codes "(") n2.after _ k.LeftParen _ a2 n2.gap (left_paren_lexes n2.after) (IsPunctuator _ _ fixed.LeftParen) l2 in
    let l0 = listed_next bytes false n1.now n0.after Identifier (codes "main") n1.after _ (k.Name (codes "main")) _ a1 n1.gap (main_lexes n1.after (stops_joined (joined (codes "(")) (from_void n) false n1.after n2 refl)) (IsName (codes "main")) l1 in
    record {
      p0 = length bytes - length (codes "int" ++ n0.after);
      p1 = length bytes - length (codes "main" ++ n1.after);
      p2 = length bytes - length (codes "(" ++ n2.after);
      p3 = length bytes - length (codes "void" ++ n3.after);
      p4 = length bytes - length (codes ")" ++ n4.after);
      p5 = length bytes - length (codes "{" ++ n5.after);
      p6 = length bytes - length (codes "return" ++ n6.after);
      p7 = length bytes - length (decimal n ++ n7.after);
      p8 = length bytes - length (codes ";" ++ n8.after);
      p9 = length bytes - length (codes "}" ++ n9.after);
      listed = listed_next bytes true n0.now bytes Keyword (codes "int") n0.after _ (k.TypeKeyword k.Int) _ a0 n0.gap (int_lexes n0.after (stops_apart (apart (codes "main")) (from_left_paren n) false n0.after refl n1)) (IsKeyword _ _ fixed.Int) l0;
    }

-- ## The other way round

digits_begin : (digits : List ℕ) → IsPlain digits → begins is_letter_or_digit digits ≡ true
digits_begin digits (inl zero_digit) = ap (begins is_letter_or_digit) zero_digit
digits_begin digits (inr (first, rest, is, high, all)) = ap (begins is_letter_or_digit) is ∙ digit_is_of_word first (digit_between first (in_range 49 57 first high).0 (in_range 49 57 first high).1)
  where
    digit_is_of_word : (b : ℕ) → is_decimal b ≡ true → is_letter_or_digit b ≡ true
    digit_is_of_word b e = grind (arith, nat_tests)

linked : (n : ℕ) → n ≤ 2147483647 → AreLinked (codes "int") (from_main n)
linked n small = (
  λ e. ((refl, (refl, (refl, (refl, tt)))), refl),
  (
    λ e. absurd (cc),
    (
      λ e. absurd (cc),
      (
        λ e. absurd (cc),
        (
          λ e. absurd (cc),
          (
            λ e. absurd (cc),
            (
              λ e. ((refl, (refl, (refl, (refl, (refl, (refl, (refl, tt))))))), digits_begin (decimal n) (plain n (omega arith))),
              (λ e. absurd (cc), (λ e. absurd (cc), tt)),
            ),
          ),
        ),
      ),
    ),
  ),
)

pub ten_tokens : (bytes : List ℕ) (tokens : List Token) (n : ℕ) → Tokens bytes tokens None → AreTen bytes tokens n → TenTokens bytes n
ten_tokens bytes tokens n t a = record {
  small = a.small;
  spelled = spells bytes true bytes tokens None t refl ([], refl) (ten_words n) a.words (λ e. absurd (cc)) (linked n a.small);
}
