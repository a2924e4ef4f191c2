-- The words of names and constants.
use Rattle.std.proofs.Common.{◌≡◌, ℕ, ◌+◌, ◌-◌, ◌/◌, ◌%◌, ◌^◌, ◌<◌, ◌≤◌, Bool, true, false, cond, not, List, [], ◌∷◌, ◌++◌, codes, decimal, length, Option, Some, None, refl, sym, ◌∙◌, ap, subst, arith, inl, inr, append_assoc, append-nil}
use Rattle.std.specs.Prelude.{nat_le, ◌==◌, ◌&&◌, ◌||◌}
use Rattle.std.specs.List.{list_any}
use Rattle.std.proofs.lemmas.Bool.{leb-true, le-leb}
use Rattle.std.proofs.lemmas.Bool.Decides.{nat_tests}
use Rattle.c_tokens.specs.declared.token.TokenKind.{TokenKind}
use Rattle.c_tokens.specs.declared.token.TokenKind.TheVariants.{Identifier, Integer, Character}
use Rattle.c_tokens.specs.declared.constant.IntegerConstant.{IntegerConstant}
use Rattle.c_tokens.specs.Lexemes.{AllOf, IsAmong, suffixes, is_between, is_decimal, is_octal, is_hexadecimal, is_letter, is_letter_or_digit, digits_from, digit_value, IsNumeral, Decimal, Octal, Hexadecimal, IsCharacterOf, Plain, OctalEscape, IsLexeme, IsIdentifier, IsInteger}
use Rattle.c_tokens.specs.Tokens.{is_space}
use Rattle.c_tokens.specs.Constants.{IsWord, are_decimal, is_unsigned_mark}
use Rattle.c_tokens.specs.Scanning.{begins, behind, behind_piece, behind_slash, behind_marker, behind_lexeme, behind_digits, behind_zero, behind_suffix, behind_character, behind_inside, behind_escape, behind_byte, behind_one, behind_first, by_length, chain, is_escape, is_plain, integer_number, character_number}
use Rattle.c_tokens.proofs.Runs.{and_true, behind_exact}
use Rattle.c_tokens.proofs.Constants.{integer_dispatch, no_zero, no_mark, octal_high, is_mark, digit_between}
use Rattle.c_tokens.proofs.Told.{lexeme_kind, integer_is, character_is}
use Rattle.c_tokens.proofs.Sound.{numeral_begins, not_true}
use Rattle.c_grammar.specs.Tokens as k
use Rattle.c_reading.specs.Words as w
use Rattle.c_tree.specs.Printing.{hexadecimal, stands_for_itself, number_text}
use Rattle.c_round_trip.specs.RoundTrip.{IsWritten}
use Rattle.c_reading.specs.Words.{IsFixed, number_by, number_of, IsKindOf, Void, IsName}
use Rattle.c_round_trip.proofs.Fixed.{scans}
use Rattle.c_round_trip.proofs.Numerals.{decimal_numeral, hexadecimal_numeral}
use Rattle.c_round_trip.proofs.Written.{Scans, WordOf}

-- ## What a token that is written tells of its word

-- a name or a constant
abbrev is_leaf : k.Kind → Bool
is_leaf (k.Name x) = true
is_leaf (k.Constant n) = true
is_leaf _ = false

fixed_no_leaf : (word : List ℕ) (kind : k.Kind) → w.IsFixed word kind → is_leaf kind ≡ false
fixed_no_leaf _ _ w.Void = refl
fixed_no_leaf _ _ _ = refl

no_leaf : {A : Type 0} (word : List ℕ) (kind : k.Kind) → w.IsFixed word kind → is_leaf kind ≡ true → A
no_leaf word kind f e = absurd (let h = fixed_no_leaf word kind f in let bad : false ≡ true = sym h ∙ e in cc)

name_of_kind : (l : TokenKind) (word : List ℕ) (kind : k.Kind) → w.IsKindOf l word kind → IsWord l word → (x : List ℕ) → kind ≡ k.Name x → IsWord Identifier x
name_of_kind _ _ _ (w.IsName word) h x e = let same : word ≡ x = cc in subst (λ y. IsWord Identifier y) same h
name_of_kind _ _ _ (w.IsKeyword word kind f) h x e = no_leaf word kind f (ap is_leaf e)
name_of_kind _ _ _ (w.IsPunctuator word kind f) h x e = no_leaf word kind f (ap is_leaf e)
name_of_kind _ _ _ (w.IsInteger word given i) h x e = absurd (cc)
name_of_kind _ _ _ (w.IsCharacter word n i) h x e = absurd (cc)

-- the numbers that constants have
abbrev IsInRange : k.Number → Type 0
IsInRange (k.Decimal n) = n < 2 ^ 32
IsInRange (k.Octal_or_hexadecimal n) = n < 2 ^ 32
IsInRange (k.Decimal_unsigned n) = n < 2 ^ 32
IsInRange (k.Other_unsigned n) = n < 2 ^ 32
IsInRange (k.Character n) = n ≤ 255

number_in_range : (decimal unsigned : Bool) (n : ℕ) → n < 2 ^ 32 → IsInRange (w.number_by decimal unsigned n)
number_in_range true true n h = h
number_in_range true false n h = h
number_in_range false true n h = h
number_in_range false false n h = h

constant_of_kind : (l : TokenKind) (word : List ℕ) (kind : k.Kind) → w.IsKindOf l word kind → IsWord l word → (n : k.Number) → kind ≡ k.Constant n → IsInRange n
constant_of_kind _ _ _ (w.IsName word) h n e = absurd (cc)
constant_of_kind _ _ _ (w.IsKeyword word kind f) h n e = no_leaf word kind f (ap is_leaf e)
constant_of_kind _ _ _ (w.IsPunctuator word kind f) h n e = no_leaf word kind f (ap is_leaf e)
constant_of_kind _ _ _ (w.IsInteger word given i) h n e =
    let same : w.number_of given ≡ n = cc in
    subst IsInRange same (number_in_range given.is_decimal given.is_unsigned given.value (h.1.1.1 i.digits i.suffix given.value i.parts i.numeral i.ending))
constant_of_kind _ _ _ (w.IsCharacter word m i) h n e = let same : k.Character m ≡ n = cc in subst IsInRange same (h.1.1 i.inside m i.parts i.character)

-- ## Names

later_no_space : (c : ℕ) → 48 ≤ c → is_space c ≡ false
later_no_space c h = grind (arith, nat_tests)

later_no : (c d : ℕ) → 48 ≤ c → d < 48 → (c == d) ≡ false
later_no c d h l = grind (arith, nat_tests)

-- no gap begins with a letter or a digit
past : (fresh : Bool) (c : ℕ) (bs : List ℕ) → 48 ≤ c → behind_piece fresh (c ∷ bs) ≡ None
past fresh c bs h =
    ap (λ t. cond t (Some bs) (cond (c == 10) (Some bs) (cond (c == 47) (behind_slash bs) (cond (c == 35 && fresh) (behind_marker bs) None)))) (later_no_space c h)
    ∙ ap (λ t. cond t (Some bs) (cond (c == 47) (behind_slash bs) (cond (c == 35 && fresh) (behind_marker bs) None))) (later_no c 10 h (omega arith))
    ∙ ap (λ t. cond t (behind_slash bs) (cond (c == 35 && fresh) (behind_marker bs) None)) (later_no c 47 h (omega arith))
    ∙ ap (λ t. cond (t && fresh) (behind_marker bs) None) (later_no c 35 h (omega arith))

letter_later : (c : ℕ) → is_letter c ≡ true → 48 ≤ c
letter_later c e = grind (arith, nat_tests)

digit_later : (c : ℕ) → is_decimal c ≡ true → 48 ≤ c
digit_later c e = grind (arith, nat_tests)

letter_too : (c : ℕ) → is_letter c ≡ true → is_letter_or_digit c ≡ true
letter_too c e = ap (λ t. t || is_decimal c) e

abbrev others : ℕ → List ℕ → Option (List ℕ)
others c bs = cond (is_decimal c) (Some (behind_suffix (behind_digits (c ∷ bs)))) (cond (c == 39) (behind_character bs) (behind_first by_length (c ∷ bs)))

name_scan : (c : ℕ) (cs tail : List ℕ) → is_letter c ≡ true → AllOf is_letter_or_digit cs → begins is_letter_or_digit tail ≡ false → behind_lexeme ((c ∷ cs) ++ tail) ≡ Some tail
name_scan c cs tail e all stops =
    ap (λ t. cond t (Some (behind is_letter_or_digit ((c ∷ cs) ++ tail))) (others c (cs ++ tail))) e
    ∙ ap (λ x. Some x) (behind_exact is_letter_or_digit (c ∷ cs) tail (letter_too c e, all) stops)

name_scans : (x : List ℕ) → IsLexeme Identifier x → length x ≤ 127 → Scans Identifier x
name_scans _ (IsIdentifier c cs e all apart) short = scans Identifier (c ∷ cs)
    (λ f r. past f c (cs ++ 32 ∷ r) (letter_later c e)) (λ f r. past f c (cs ++ 10 ∷ r) (letter_later c e))
    (λ r. name_scan c cs (32 ∷ r) e all refl) (λ r. name_scan c cs (10 ∷ r) e all refl)
    (lexeme_kind Identifier (c ∷ cs) (IsIdentifier c cs e all apart))
    (λ r. le-leb (length (c ∷ cs)) 127 short) (λ r. le-leb (length (c ∷ cs)) 127 short)

pub name_word : (x : k.Identifier) → IsWritten (k.Name x) → WordOf (k.Name x) x
name_word x h =
    let is : IsWord Identifier x = name_of_kind h.0 h.1 (k.Name x) h.3 h.2 x refl in
    record { lexeme = Identifier; scans = name_scans x is.0 is.1.1; is_kind = w.IsName x }

-- ## Integer constants

-- what may follow the digits of a printed constant
record EndsDigits (tail : List ℕ) : Type 0 where
  no_decimal : begins is_decimal tail ≡ false
  no_octal : begins is_octal tail ≡ false
  no_hexadecimal : begins is_hexadecimal tail ≡ false
  no_zero_digits : behind_zero tail ≡ tail

digits_scan : (digits : List ℕ) (n : ℕ) (tail : List ℕ) → IsNumeral digits n → EndsDigits tail → behind_digits (digits ++ tail) ≡ tail
digits_scan _ _ tail (Decimal c cs e all) t =
    let low : 49 ≤ c = leb-true 49 c (and_true (nat_le 49 c) (nat_le c 57) e).0 in
    let high : c ≤ 57 = leb-true c 57 (and_true (nat_le 49 c) (nat_le c 57) e).1 in
    ap (λ b. cond b (behind_zero (cs ++ tail)) (behind is_decimal (c ∷ (cs ++ tail)))) (no_zero c low)
    ∙ behind_exact is_decimal (c ∷ cs) tail (digit_between c low high, all) t.no_decimal
digits_scan _ _ tail (Octal [] all) t = t.no_zero_digits
digits_scan _ _ tail (Octal (c ∷ cs) all) t =
    ap (λ b. cond (b && begins is_hexadecimal (cs ++ tail)) (behind is_hexadecimal (cs ++ tail)) (behind is_octal (c ∷ (cs ++ tail)))) (no_mark c (octal_high c all.0))
    ∙ behind_exact is_octal (c ∷ cs) tail all t.no_octal
digits_scan _ _ tail (Hexadecimal x c cs mark all) t =
    ap (λ b. cond (b && is_hexadecimal c) (behind is_hexadecimal (c ∷ (cs ++ tail))) (behind is_octal (x ∷ c ∷ (cs ++ tail)))) (is_mark x mark)
    ∙ ap (λ b. cond b (behind is_hexadecimal (c ∷ (cs ++ tail))) (behind is_octal (x ∷ c ∷ (cs ++ tail)))) all.0
    ∙ behind_exact is_hexadecimal (c ∷ cs) tail all t.no_hexadecimal

-- `u` or nothing
abbrev mark_of : Bool → List ℕ
mark_of true = codes "u"
mark_of false = []

marks : (unsigned : Bool) → IsAmong (mark_of unsigned) suffixes
marks true = inr (inl refl)
marks false = inl refl

blank_ends : (unsigned : Bool) (r : List ℕ) → EndsDigits (mark_of unsigned ++ 32 ∷ r)
blank_ends true r = record { no_decimal = refl; no_octal = refl; no_hexadecimal = refl; no_zero_digits = refl }
blank_ends false r = record { no_decimal = refl; no_octal = refl; no_hexadecimal = refl; no_zero_digits = refl }

line_ends : (unsigned : Bool) (r : List ℕ) → EndsDigits (mark_of unsigned ++ 10 ∷ r)
line_ends true r = record { no_decimal = refl; no_octal = refl; no_hexadecimal = refl; no_zero_digits = refl }
line_ends false r = record { no_decimal = refl; no_octal = refl; no_hexadecimal = refl; no_zero_digits = refl }

blank_suffix : (unsigned : Bool) (r : List ℕ) → behind_suffix (mark_of unsigned ++ 32 ∷ r) ≡ 32 ∷ r
blank_suffix true r = refl
blank_suffix false r = refl

line_suffix : (unsigned : Bool) (r : List ℕ) → behind_suffix (mark_of unsigned ++ 10 ∷ r) ≡ 10 ∷ r
line_suffix true r = refl
line_suffix false r = refl

first_digit : (bs : List ℕ) → begins is_decimal bs ≡ true → behind_lexeme bs ≡ Some (behind_suffix (behind_digits bs))
first_digit [] e = absurd (let bad : false ≡ true = e in cc)
first_digit (c ∷ cs) e = integer_dispatch c cs e

first_past : (fresh : Bool) (bs : List ℕ) → begins is_decimal bs ≡ true → behind_piece fresh bs ≡ None
first_past fresh [] e = absurd (let bad : false ≡ true = e in cc)
first_past fresh (c ∷ cs) e = past fresh c cs (digit_later c e)

begins_more : (bs tail : List ℕ) → begins is_decimal bs ≡ true → begins is_decimal (bs ++ tail) ≡ true
begins_more [] tail e = absurd (let bad : false ≡ true = e in cc)
begins_more (c ∷ cs) tail e = e

integer_scan : (digits suffix : List ℕ) (n : ℕ) (tail : List ℕ) → IsNumeral digits n → IsAmong suffix suffixes → EndsDigits (suffix ++ tail) → behind_suffix (suffix ++ tail) ≡ tail
    → behind_lexeme ((digits ++ suffix) ++ tail) ≡ Some tail
integer_scan digits suffix n tail h among ends behind_mark =
    first_digit ((digits ++ suffix) ++ tail) (begins_more (digits ++ suffix) tail (numeral_begins digits n h suffix))
    ∙ ap (λ x. Some (behind_suffix (behind_digits x))) (append_assoc digits suffix tail) ∙ ap (λ x. Some (behind_suffix x)) (digits_scan digits n (suffix ++ tail) h ends)
    ∙ ap (λ x. Some x) behind_mark

integer_scans : (digits : List ℕ) (n : ℕ) (unsigned : Bool) → IsNumeral digits n → n < 2 ^ 32 → Scans Integer (digits ++ mark_of unsigned)
integer_scans digits n unsigned h small =
    let suffix = mark_of unsigned in
    let first = numeral_begins digits n h suffix in
    let held : nat_le (integer_number (digits ++ suffix)) 4294967295 ≡ true =
    ap (λ m. nat_le m 4294967295) (integer_is digits n h suffix (marks unsigned)) ∙ le-leb n 4294967295 (omega arith) in
    scans Integer (digits ++ suffix)
    (λ f r. first_past f ((digits ++ suffix) ++ 32 ∷ r) (begins_more (digits ++ suffix) (32 ∷ r) first)) (λ f r. first_past f ((digits ++ suffix) ++ 10 ∷ r) (begins_more (digits ++ suffix) (10 ∷ r) first))
    (λ r. integer_scan digits suffix n (32 ∷ r) h (marks unsigned) (blank_ends unsigned r) (blank_suffix unsigned r))
    (λ r. integer_scan digits suffix n (10 ∷ r) h (marks unsigned) (line_ends unsigned r) (line_suffix unsigned r))
    (lexeme_kind Integer (digits ++ suffix) (IsInteger digits suffix n h (marks unsigned))) (λ r. held) (λ r. held)

marked : (unsigned : Bool) → unsigned ≡ list_any is_unsigned_mark (mark_of unsigned)
marked true = refl
marked false = refl

integer_word : (digits : List ℕ) (n : ℕ) (decimal unsigned : Bool) → IsNumeral digits n × (are_decimal digits ≡ decimal) → n < 2 ^ 32
    → WordOf (k.Constant (w.number_by decimal unsigned n)) (digits ++ mark_of unsigned)
integer_word digits n decimal unsigned h small =
    let given : IntegerConstant = record { value = n; is_decimal = decimal; is_unsigned = unsigned } in
    record {
      lexeme = Integer;
      scans = integer_scans digits n unsigned h.0 small;
      is_kind = w.IsInteger (digits ++ mark_of unsigned) given (record {
        digits = digits;
        suffix = mark_of unsigned;
        parts = refl;
        numeral = h.0;
        ending = marks unsigned;
        decimal = sym h.1;
        unsigned = marked unsigned;
      });
    }

-- ## Character constants

pub character_scans : (inside : List ℕ) (n : ℕ) → IsCharacterOf inside n → n ≤ 255 → ((tail : List ℕ) → behind_inside (inside ++ 39 ∷ tail) ≡ Some (39 ∷ tail))
    → Scans Character (39 ∷ inside ++ 39 ∷ [])
character_scans inside n h small through =
    let held : nat_le (character_number (39 ∷ inside ++ 39 ∷ [])) 255 ≡ true = ap (λ m. nat_le m 255) (character_is inside n h) ∙ le-leb n 255 small in
    let scan : (tail : List ℕ) → behind_lexeme ((39 ∷ inside ++ 39 ∷ []) ++ tail) ≡ Some tail =
    λ tail. ap behind_character (append_assoc inside (39 ∷ []) tail) ∙ ap (λ o. chain o (behind_byte 39)) (through tail) in
    scans Character (39 ∷ inside ++ 39 ∷ []) (λ f r. refl) (λ f r. refl) (λ r. scan (32 ∷ r)) (λ r. scan (10 ∷ r)) refl (λ r. held) (λ r. held)

character_word_of : (inside : List ℕ) (n : ℕ) → IsCharacterOf inside n → n ≤ 255 → ((tail : List ℕ) → behind_inside (inside ++ 39 ∷ tail) ≡ Some (39 ∷ tail))
    → WordOf (k.Constant (k.Character n)) (39 ∷ inside ++ 39 ∷ [])
character_word_of inside n h small through = record {
  lexeme = Character;
  scans = character_scans inside n h small through;
  is_kind = w.IsCharacter (39 ∷ inside ++ 39 ∷ []) n (record { inside = inside; parts = refl; character = h });
}

-- a byte that stands for itself
both_true : (a b : Bool) → (a && b) ≡ true → (a ≡ true) × (b ≡ true)
both_true a b e = and_true a b e

not_equal : (b c : ℕ) → not (b == c) ≡ true → ¬ (b ≡ c)
not_equal b c e same = let h : (b == c) ≡ false = not_true (b == c) e in grind (arith, nat_tests)

plain_word : (b : ℕ) → stands_for_itself b ≡ true → b ≤ 255 → WordOf (k.Constant (k.Character b)) (39 ∷ b ∷ 39 ∷ [])
plain_word b e small =
    let last = and_true (nat_le 32 b && nat_le b 126 && not (b == 39)) (not (b == 92)) e in
    let third = and_true (nat_le 32 b && nat_le b 126) (not (b == 39)) last.0 in
    character_word_of (b ∷ []) b (Plain b third.0 (not_equal b 39 third.1) (not_equal b 92 last.1)) small
    (λ tail.
    ap (λ t. cond t (behind_escape (39 ∷ tail)) (cond (is_plain b) (Some (39 ∷ tail)) None)) (not_true (b == 92) last.1)
    ∙ ap (λ t. cond t (Some (39 ∷ tail)) None) e)

octal_digit : (d : ℕ) → d < 8 → is_octal (48 + d) ≡ true
octal_digit d h = grind (arith, nat_tests)

octal_no_escape : (d : ℕ) → d < 8 → is_escape (48 + d) ≡ false
octal_no_escape d h = grind (arith, nat_tests)

octal_no_x : (d : ℕ) → d < 8 → (48 + d == 120) ≡ false
octal_no_x d h = grind (arith, nat_tests)

octal_decimal : (d : ℕ) → d < 8 → is_decimal (48 + d) ≡ true
octal_decimal d h = grind (arith, nat_tests)

octal_value : (d : ℕ) → d < 8 → digit_value (48 + d) ≡ d
octal_value d h =
    ap (λ t. cond t (48 + d - 48) (cond (is_between 65 70 (48 + d)) (48 + d - 55) (48 + d - 87))) (octal_decimal d h) ∙ omega arith

octal_word : (b : ℕ) → b ≤ 255 → WordOf (k.Constant (k.Character b)) (39 ∷ 92 ∷ (48 + b / 64) ∷ (48 + b / 8 % 8) ∷ (48 + b % 8) ∷ 39 ∷ [])
octal_word b small =
    let top : b / 64 < 8 = omega arith in
    let middle : b / 8 % 8 < 8 = omega arith in
    let low : b % 8 < 8 = omega arith in
    let all : AllOf is_octal ((48 + b / 64) ∷ (48 + b / 8 % 8) ∷ (48 + b % 8) ∷ []) = (octal_digit _ top, (octal_digit _ middle, (octal_digit _ low, tt))) in
    let value : digits_from 8 0 ((48 + b / 64) ∷ (48 + b / 8 % 8) ∷ (48 + b % 8) ∷ []) ≡ b =
    (let one = octal_value _ top in let two = octal_value _ middle in let three' = octal_value _ low in omega (arith, one, two, three')) in
    let is = subst (λ n. IsCharacterOf (92 ∷ (48 + b / 64) ∷ (48 + b / 8 % 8) ∷ (48 + b % 8) ∷ []) n) value (OctalEscape (48 + b / 64) _ all (omega arith)) in
    character_word_of (92 ∷ (48 + b / 64) ∷ (48 + b / 8 % 8) ∷ (48 + b % 8) ∷ []) b is small
    (λ tail.
    let rest = (48 + b / 8 % 8) ∷ (48 + b % 8) ∷ 39 ∷ tail in
    ap (λ t. cond t (Some rest) (cond (48 + b / 64 == 120) (cond (begins is_hexadecimal rest) (Some (behind is_hexadecimal rest)) None) (cond (is_octal (48 + b / 64)) (Some (behind_one is_octal (behind_one is_octal rest))) None)))
    (octal_no_escape _ top)
    ∙ ap (λ t. cond t (cond (begins is_hexadecimal rest) (Some (behind is_hexadecimal rest)) None) (cond (is_octal (48 + b / 64)) (Some (behind_one is_octal (behind_one is_octal rest))) None)) (octal_no_x _ top)
    ∙ ap (λ t. cond t (Some (behind_one is_octal (behind_one is_octal rest))) None) (octal_digit _ top)
    ∙ ap (λ t. Some (behind_one is_octal (cond t ((48 + b % 8) ∷ 39 ∷ tail) rest))) (octal_digit _ middle)
    ∙ ap (λ t. Some (cond t (39 ∷ tail) ((48 + b % 8) ∷ 39 ∷ tail))) (octal_digit _ low))

character_word : (b : ℕ) (t : Bool) → stands_for_itself b ≡ t → b ≤ 255
    → WordOf (k.Constant (k.Character b)) (cond t (39 ∷ b ∷ 39 ∷ []) (39 ∷ 92 ∷ (48 + b / 64) ∷ (48 + b / 8 % 8) ∷ (48 + b % 8) ∷ 39 ∷ []))
character_word b true e small = plain_word b e small
character_word b false e small = octal_word b small

-- ## Constants

number_word : (n : k.Number) → IsInRange n → WordOf (k.Constant n) (number_text n)
number_word (k.Decimal n) h = subst (λ x. WordOf (k.Constant (k.Decimal n)) x) (append-nil (decimal n)) (integer_word (decimal n) n true false (decimal_numeral n h) h)
number_word (k.Octal_or_hexadecimal n) h =
    subst (λ x. WordOf (k.Constant (k.Octal_or_hexadecimal n)) x) (append-nil (hexadecimal n)) (integer_word (hexadecimal n) n false false (hexadecimal_numeral n h) h)
number_word (k.Decimal_unsigned n) h = integer_word (decimal n) n true true (decimal_numeral n h) h
number_word (k.Other_unsigned n) h = integer_word (hexadecimal n) n false true (hexadecimal_numeral n h) h
number_word (k.Character n) h = character_word n (stands_for_itself n) refl h

pub constant_word : (n : k.Number) → IsWritten (k.Constant n) → WordOf (k.Constant n) (number_text n)
constant_word n h = number_word n (constant_of_kind h.0 h.1 (k.Constant n) h.3 h.2 n refl)
