-- Wherever a constant stands, the scan finds one that ends no earlier; so for every lexeme.
use Rattle.std.proofs.Common.{◌≡◌, ◌≢◌, ◌⊎◌, ℕ, ◌≤◌, List, [], ◌∷◌, ◌++◌, length, refl, sym, ◌∙◌, ap, subst, Option, Some, None, Bool, true, false, cond, inl, inr, arith, append_assoc}
use Rattle.std.specs.Prelude.{not, ◌&&◌, ◌||◌, ◌==◌, nat_le}
use Rattle.std.proofs.lemmas.Bool.Decides.{nat_tests}
use Rattle.std.proofs.lemmas.Bool.{leb-true, eqb-true}
use Rattle.c_tokens.specs.declared.token.TokenKind.{TokenKind}
use Rattle.c_tokens.specs.Lexemes.{Bytes, AllOf, IsAmong, is_between, is_decimal, is_octal, is_hexadecimal, is_letter, is_letter_or_digit, suffixes, IsNumeral, Decimal, Octal, Hexadecimal, IsSimpleEscape, NewLine, Tab, Return, Alert, Backspace, FormFeed, VerticalTab, Backslash, Quote, DoubleQuote, Question, IsCharacterOf, Plain, Simple, OctalEscape, HexadecimalEscape, IsLexeme, IsIdentifier, IsKeyword, IsInteger, IsCharacter, IsPunctuator}
use Rattle.c_tokens.specs.Scanning.{begins, behind, behind_one, behind_byte, chain, behind_first, by_length, behind_zero, behind_digits, behind_suffix, behind_escape, behind_inside, behind_character, behind_lexeme, is_escape, is_plain}
use Rattle.c_tokens.proofs.Runs.{and_true, behind_exact, behind_shorter}
use Rattle.c_tokens.proofs.Complete.{Completes, or_left, behind_passes, one_shorter, digit_no_letter, word_complete, keyword_complete, punctuator_complete}

-- suffixes
suffix_cases : (b : ℕ) (bs : List ℕ) (t u : Bool) → length (cond t (behind_one (λ c. c == 108 || c == 76) bs) (cond u (behind_one (λ c. c == 117 || c == 85) bs) (b ∷ bs))) ≤ length (b ∷ bs)
suffix_cases b bs true u = let h = one_shorter (λ c. c == 108 || c == 76) bs in omega arith
suffix_cases b bs false true = let h = one_shorter (λ c. c == 117 || c == 85) bs in omega arith
suffix_cases b bs false false = omega arith

pub suffix_shorter : (bytes : List ℕ) → length (behind_suffix bytes) ≤ length bytes
suffix_shorter [] = omega arith
suffix_shorter (b ∷ bs) = suffix_cases b bs (b == 117 || b == 85) (b == 108 || b == 76)

-- a scan that gives back what begins with a letter of a suffix
pub record Keeps (f : List ℕ → List ℕ) : Type 0 where
  pub shorter : (bytes : List ℕ) → length (f bytes) ≤ length bytes
  pub small_u : (bytes : List ℕ) → f (117 ∷ bytes) ≡ 117 ∷ bytes
  pub large_u : (bytes : List ℕ) → f (85 ∷ bytes) ≡ 85 ∷ bytes
  pub small_l : (bytes : List ℕ) → f (108 ∷ bytes) ≡ 108 ∷ bytes
  pub large_l : (bytes : List ℕ) → f (76 ∷ bytes) ≡ 76 ∷ bytes

abbrev Ends : (List ℕ → List ℕ) → List ℕ → List ℕ → Type 0
Ends f suffix end = length (behind_suffix (f (suffix ++ end))) ≤ length end

ends_at : (f : List ℕ → List ℕ) (suffix written end : List ℕ) → suffix ≡ written → f (written ++ end) ≡ written ++ end → length (behind_suffix (written ++ end)) ≤ length end → Ends f suffix end
ends_at f suffix written end same keeps le =
    subst (λ (s : List ℕ). Ends f s end) (sym same) (subst (λ (xs : List ℕ). length (behind_suffix xs) ≤ length end) (sym keeps) le)

one_long : (end : List ℕ) → length (behind_one (λ c. c == 108 || c == 76) end) ≤ length end
one_long end = one_shorter (λ c. c == 108 || c == 76) end

one_unsigned : (end : List ℕ) → length (behind_one (λ c. c == 117 || c == 85) end) ≤ length end
one_unsigned end = one_shorter (λ c. c == 117 || c == 85) end

same_length : (end : List ℕ) → length end ≤ length end
same_length end = omega arith

pub suffix_ends : (f : List ℕ → List ℕ) → Keeps f → (suffix end : List ℕ) → IsAmong suffix suffixes → Ends f suffix end
suffix_ends f k suffix end (inl e) = subst (λ (s : List ℕ). Ends f s end) (sym e) (let one = suffix_shorter (f end) in let two = k.shorter end in omega arith)
suffix_ends f k suffix end (inr (inl e)) = ends_at f suffix (117 ∷ []) end e (k.small_u end) (one_long end)
suffix_ends f k suffix end (inr (inr (inl e))) = ends_at f suffix (85 ∷ []) end e (k.large_u end) (one_long end)
suffix_ends f k suffix end (inr (inr (inr (inl e)))) = ends_at f suffix (108 ∷ []) end e (k.small_l end) (one_unsigned end)
suffix_ends f k suffix end (inr (inr (inr (inr (inl e))))) = ends_at f suffix (76 ∷ []) end e (k.large_l end) (one_unsigned end)
suffix_ends f k suffix end (inr (inr (inr (inr (inr (inl e)))))) = ends_at f suffix (117 ∷ 108 ∷ []) end e (k.small_u (108 ∷ end)) (same_length end)
suffix_ends f k suffix end (inr (inr (inr (inr (inr (inr (inl e))))))) = ends_at f suffix (117 ∷ 76 ∷ []) end e (k.small_u (76 ∷ end)) (same_length end)
suffix_ends f k suffix end (inr (inr (inr (inr (inr (inr (inr (inl e)))))))) = ends_at f suffix (85 ∷ 108 ∷ []) end e (k.large_u (108 ∷ end)) (same_length end)
suffix_ends f k suffix end (inr (inr (inr (inr (inr (inr (inr (inr (inl e))))))))) = ends_at f suffix (85 ∷ 76 ∷ []) end e (k.large_u (76 ∷ end)) (same_length end)
suffix_ends f k suffix end (inr (inr (inr (inr (inr (inr (inr (inr (inr (inl e)))))))))) = ends_at f suffix (108 ∷ 117 ∷ []) end e (k.small_l (117 ∷ end)) (same_length end)
suffix_ends f k suffix end (inr (inr (inr (inr (inr (inr (inr (inr (inr (inr (inl e))))))))))) = ends_at f suffix (108 ∷ 85 ∷ []) end e (k.small_l (85 ∷ end)) (same_length end)
suffix_ends f k suffix end (inr (inr (inr (inr (inr (inr (inr (inr (inr (inr (inr (inl e)))))))))))) = ends_at f suffix (76 ∷ 117 ∷ []) end e (k.large_l (117 ∷ end)) (same_length end)
suffix_ends f k suffix end (inr (inr (inr (inr (inr (inr (inr (inr (inr (inr (inr (inr (inl e))))))))))))) = ends_at f suffix (76 ∷ 85 ∷ []) end e (k.large_l (85 ∷ end)) (same_length end)
suffix_ends f k suffix end (inr (inr (inr (inr (inr (inr (inr (inr (inr (inr (inr (inr (inr h))))))))))))) = absurd h

pub decimal_keeps : Keeps (behind is_decimal)
decimal_keeps = record { shorter = behind_shorter is_decimal; small_u = λ bytes. refl; large_u = λ bytes. refl; small_l = λ bytes. refl; large_l = λ bytes. refl }

pub octal_keeps : Keeps (behind is_octal)
octal_keeps = record { shorter = behind_shorter is_octal; small_u = λ bytes. refl; large_u = λ bytes. refl; small_l = λ bytes. refl; large_l = λ bytes. refl }

pub hexadecimal_keeps : Keeps (behind is_hexadecimal)
hexadecimal_keeps = record { shorter = behind_shorter is_hexadecimal; small_u = λ bytes. refl; large_u = λ bytes. refl; small_l = λ bytes. refl; large_l = λ bytes. refl }

zero_cases : (b : ℕ) (bs : List ℕ) (t : Bool) → length (cond t (behind is_hexadecimal bs) (behind is_octal (b ∷ bs))) ≤ length (b ∷ bs)
zero_cases b bs true = let h = behind_shorter is_hexadecimal bs in omega arith
zero_cases b bs false = behind_shorter is_octal (b ∷ bs)

pub zero_shorter : (bytes : List ℕ) → length (behind_zero bytes) ≤ length bytes
zero_shorter [] = omega arith
zero_shorter (b ∷ bs) = zero_cases b bs ((b == 120 || b == 88) && begins is_hexadecimal bs)

pub zero_keeps : Keeps behind_zero
zero_keeps = record { shorter = zero_shorter; small_u = λ bytes. refl; large_u = λ bytes. refl; small_l = λ bytes. refl; large_l = λ bytes. refl }

-- digits
pub digit_between : (b : ℕ) → 49 ≤ b → b ≤ 57 → is_decimal b ≡ true
digit_between b low high = grind (arith, nat_tests)

first_digit : (b : ℕ) → is_between 49 57 b ≡ true → is_decimal b ≡ true
first_digit b e = digit_between b (leb-true 49 b (and_true (nat_le 49 b) (nat_le b 57) e).0) (leb-true b 57 (and_true (nat_le 49 b) (nat_le b 57) e).1)

pub no_zero : (b : ℕ) → 49 ≤ b → (b == 48) ≡ false
no_zero b low = grind (arith, nat_tests)

pub octal_high : (b : ℕ) → is_octal b ≡ true → b ≤ 55
octal_high b e = leb-true b 55 (and_true (nat_le 48 b) (nat_le b 55) e).1

pub octal_low : (b : ℕ) → is_octal b ≡ true → 48 ≤ b
octal_low b e = leb-true 48 b (and_true (nat_le 48 b) (nat_le b 55) e).0

pub no_mark : (b : ℕ) → b ≤ 55 → (b == 120 || b == 88) ≡ false
no_mark b high = grind (arith, nat_tests)

digits_same : (f : List ℕ → List ℕ) (digits suffix end : List ℕ) → Keeps f → IsAmong suffix suffixes → behind_digits (digits ++ (suffix ++ end)) ≡ f (suffix ++ end) → length (behind_suffix (behind_digits ((digits ++ suffix) ++ end))) ≤ length end
digits_same f digits suffix end k h e =
    let whole : behind_digits ((digits ++ suffix) ++ end) ≡ f (suffix ++ end) = ap behind_digits (append_assoc digits suffix end) ∙ e in
    subst (λ (xs : List ℕ). length (behind_suffix xs) ≤ length end) (sym whole) (suffix_ends f k suffix end h)

decimal_behind : (first : ℕ) (rest tail : List ℕ) → is_between 49 57 first ≡ true → AllOf is_decimal rest → behind_digits (first ∷ (rest ++ tail)) ≡ behind is_decimal tail
decimal_behind first rest tail e all =
    ap (λ t. cond t (behind_zero (rest ++ tail)) (behind is_decimal (first ∷ (rest ++ tail)))) (no_zero first (leb-true 49 first (and_true (nat_le 49 first) (nat_le first 57) e).0))
    ∙ behind_passes is_decimal (first ∷ rest) tail (first_digit first e, all)

octal_behind : (r : ℕ) (rs tail : List ℕ) → AllOf is_octal (r ∷ rs) → behind_zero (r ∷ (rs ++ tail)) ≡ behind is_octal tail
octal_behind r rs tail all =
    ap (λ t. cond (t && begins is_hexadecimal (rs ++ tail)) (behind is_hexadecimal (rs ++ tail)) (behind is_octal (r ∷ (rs ++ tail)))) (no_mark r (octal_high r all.0))
    ∙ behind_passes is_octal (r ∷ rs) tail all

pub is_mark : (x : ℕ) → (x ≡ 120) ⊎ (x ≡ 88) → (x == 120 || x == 88) ≡ true
is_mark x (inl e) = ap (λ v. v == 120 || v == 88) e
is_mark x (inr e) = ap (λ v. v == 120 || v == 88) e

hexadecimal_behind : (x first : ℕ) (rest tail : List ℕ) → (x ≡ 120) ⊎ (x ≡ 88) → AllOf is_hexadecimal (first ∷ rest) → behind_zero (x ∷ first ∷ (rest ++ tail)) ≡ behind is_hexadecimal tail
hexadecimal_behind x first rest tail mark all =
    ap (λ t. cond (t && is_hexadecimal first) (behind is_hexadecimal (first ∷ (rest ++ tail))) (behind is_octal (x ∷ first ∷ (rest ++ tail)))) (is_mark x mark)
    ∙ ap (λ t. cond t (behind is_hexadecimal (first ∷ (rest ++ tail))) (behind is_octal (x ∷ first ∷ (rest ++ tail)))) all.0
    ∙ behind_passes is_hexadecimal (first ∷ rest) tail all

numeral_ends : (digits : List ℕ) (n : ℕ) → IsNumeral digits n → (suffix end : List ℕ) → IsAmong suffix suffixes → length (behind_suffix (behind_digits ((digits ++ suffix) ++ end))) ≤ length end
numeral_ends digits n (Decimal first rest e all) suffix end h = digits_same (behind is_decimal) (first ∷ rest) suffix end decimal_keeps h (decimal_behind first rest (suffix ++ end) e all)
numeral_ends digits n (Octal [] all) suffix end h = digits_same behind_zero (48 ∷ []) suffix end zero_keeps h refl
numeral_ends digits n (Octal (r ∷ rs) all) suffix end h = digits_same (behind is_octal) (48 ∷ r ∷ rs) suffix end octal_keeps h (octal_behind r rs (suffix ++ end) all)
numeral_ends digits n (Hexadecimal x first rest mark all) suffix end h = digits_same (behind is_hexadecimal) (48 ∷ x ∷ first ∷ rest) suffix end hexadecimal_keeps h (hexadecimal_behind x first rest (suffix ++ end) mark all)

numeral_first : (digits : List ℕ) (n : ℕ) → IsNumeral digits n → begins is_decimal digits ≡ true
numeral_first digits n (Decimal first rest e all) = first_digit first e
numeral_first digits n (Octal rest all) = refl
numeral_first digits n (Hexadecimal x first rest mark all) = refl

abbrev third : ℕ → List ℕ → Option (List ℕ)
third b bs = cond (b == 39) (behind_character bs) (behind_first by_length (b ∷ bs))

pub integer_dispatch : (b : ℕ) (bs : List ℕ) → is_decimal b ≡ true → behind_lexeme (b ∷ bs) ≡ Some (behind_suffix (behind_digits (b ∷ bs)))
integer_dispatch b bs e =
    ap (λ t. cond t (Some (behind is_letter_or_digit (b ∷ bs))) (cond (is_decimal b) (Some (behind_suffix (behind_digits (b ∷ bs)))) (third b bs))) (digit_no_letter b e)
    ∙ ap (λ t. cond t (Some (behind_suffix (behind_digits (b ∷ bs)))) (third b bs)) e

integer_complete : (digits suffix end : List ℕ) → begins is_decimal digits ≡ true → length (behind_suffix (behind_digits ((digits ++ suffix) ++ end))) ≤ length end → Completes (digits ++ suffix) end
integer_complete [] suffix end first le = absurd (let k : false ≡ true = first in cc)
integer_complete (b ∷ bs) suffix end first le = (behind_suffix (behind_digits (((b ∷ bs) ++ suffix) ++ end)), integer_dispatch b ((bs ++ suffix) ++ end) first, le)

-- characters
octal_no_escape : (b : ℕ) → 48 ≤ b → b ≤ 55 → is_escape b ≡ false
octal_no_escape b low high = grind (arith, nat_tests)

pub octal_no_x : (b : ℕ) → b ≤ 55 → (b == 120) ≡ false
octal_no_x b high = grind (arith, nat_tests)

abbrev hexadecimal_escape : List ℕ → Option (List ℕ)
hexadecimal_escape bs = cond (begins is_hexadecimal bs) (Some (behind is_hexadecimal bs)) None

octal_dispatch : (b : ℕ) (bs : List ℕ) → is_octal b ≡ true → behind_escape (b ∷ bs) ≡ Some (behind_one is_octal (behind_one is_octal bs))
octal_dispatch b bs e =
    ap (λ t. cond t (Some bs) (cond (b == 120) (hexadecimal_escape bs) (cond (is_octal b) (Some (behind_one is_octal (behind_one is_octal bs))) None))) (octal_no_escape b (octal_low b e) (octal_high b e))
    ∙ ap (λ t. cond t (hexadecimal_escape bs) (cond (is_octal b) (Some (behind_one is_octal (behind_one is_octal bs))) None)) (octal_no_x b (octal_high b e))
    ∙ ap (λ t. cond t (Some (behind_one is_octal (behind_one is_octal bs))) None) e

one_more : (set : Bytes) (b : ℕ) (bs : List ℕ) → set b ≡ true → behind_one set (b ∷ bs) ≡ bs
one_more set b bs e = ap (λ t. cond t bs (b ∷ bs)) e

two_behind : (rest end : List ℕ) → AllOf is_octal rest → length rest ≤ 2 → behind_one is_octal (behind_one is_octal (rest ++ 39 ∷ end)) ≡ 39 ∷ end
two_behind [] end all le = refl
two_behind (a ∷ []) end all le = ap (behind_one is_octal) (one_more is_octal a (39 ∷ end) all.0)
two_behind (a ∷ b ∷ []) end all le = ap (behind_one is_octal) (one_more is_octal a (b ∷ 39 ∷ end) all.0) ∙ one_more is_octal b (39 ∷ end) all.1.0
two_behind (a ∷ b ∷ c ∷ cs) end all le = absurd (omega arith)

simple_behind : (b n : ℕ) (bs : List ℕ) → IsSimpleEscape b n → behind_escape (b ∷ bs) ≡ Some bs
simple_behind b n bs NewLine = refl
simple_behind b n bs Tab = refl
simple_behind b n bs Return = refl
simple_behind b n bs Alert = refl
simple_behind b n bs Backspace = refl
simple_behind b n bs FormFeed = refl
simple_behind b n bs VerticalTab = refl
simple_behind b n bs Backslash = refl
simple_behind b n bs Quote = refl
simple_behind b n bs DoubleQuote = refl
simple_behind b n bs Question = refl

pub not_equal : (a b : ℕ) (t : Bool) → (a == b) ≡ t → a ≢ b → t ≡ false
not_equal a b true e h = absurd (h (eqb-true a b e))
not_equal a b false e h = refl

and_three : (a b c : Bool) → a ≡ true → b ≡ false → c ≡ false → (a && not b && not c) ≡ true
and_three a b c e f g = ap (λ x. x && not b && not c) e ∙ ap (λ x. true && not x && not c) f ∙ ap (λ x. true && not false && not x) g

plain_behind : (b : ℕ) (bs : List ℕ) → is_between 32 126 b ≡ true → b ≢ 39 → b ≢ 92 → behind_inside (b ∷ bs) ≡ Some bs
plain_behind b bs e quote slash =
    ap (λ t. cond t (behind_escape bs) (cond (is_plain b) (Some bs) None)) (not_equal b 92 (b == 92) refl slash)
    ∙ ap (λ t. cond t (Some bs) None) (and_three (is_between 32 126 b) (b == 39) (b == 92) e (not_equal b 39 (b == 39) refl quote) (not_equal b 92 (b == 92) refl slash))

inside_behind : (inside : List ℕ) (n : ℕ) → IsCharacterOf inside n → (end : List ℕ) → behind_inside (inside ++ 39 ∷ end) ≡ Some (39 ∷ end)
inside_behind inside n (Plain b e quote slash) end = plain_behind b (39 ∷ end) e quote slash
inside_behind inside n (Simple b m esc) end = simple_behind b m (39 ∷ end) esc
inside_behind inside n (OctalEscape first rest all le) end = octal_dispatch first (rest ++ 39 ∷ end) all.0 ∙ ap Some (two_behind rest end all.1 le)
inside_behind inside n (HexadecimalEscape first rest all) end =
    ap (λ t. cond t (Some (behind is_hexadecimal (first ∷ (rest ++ 39 ∷ end)))) None) all.0
    ∙ ap Some (behind_exact is_hexadecimal (first ∷ rest) (39 ∷ end) all refl)

character_complete : (inside : List ℕ) (n : ℕ) → IsCharacterOf inside n → (end : List ℕ) → Completes (39 ∷ inside ++ 39 ∷ []) end
character_complete inside n h end =
    (end, ap behind_character (append_assoc inside (39 ∷ []) end) ∙ ap (λ o. chain o (behind_byte 39)) (inside_behind inside n h end), omega arith)

-- every lexeme
pub complete : (kind : TokenKind) (s : List ℕ) → IsLexeme kind s → (end : List ℕ) → Completes s end
complete kind s (IsIdentifier first rest e all no_keyword) end = word_complete (first ∷ rest) end e (or_left (is_letter first) (is_decimal first) e, all)
complete kind s (IsKeyword w h) end = keyword_complete w end h
complete kind s (IsInteger digits suffix n numeral h) end = integer_complete digits suffix end (numeral_first digits n numeral) (numeral_ends digits n numeral suffix end h)
complete kind s (IsCharacter inside n h) end = character_complete inside n h end
complete kind s (IsPunctuator w h) end = punctuator_complete w end h
