-- What the code reads of a constant's word is what the word stands for, whichever way its parts are told apart.
use Rattle.std.proofs.Common.{◌≡◌, ◌⊎◌, ℕ, ◌^◌, ◌<◌, ◌≤◌, List, [], ◌∷◌, ◌++◌, refl, sym, ◌∙◌, ap, subst, Option, Some, None, Bool, true, false, cond, arith, rules}
use Rattle.std.specs.Prelude.{not, ◌||◌, ◌==◌, nat_le, MatchOption, IsSome}
use Rattle.std.specs.List.{list_any}
use Rattle.std.proofs.lemmas.Bool.Decides.{nat_tests}
use Rattle.std.proofs.lemmas.Bool.{leb-true}
use Rattle.c_tokens.specs.declared.token.TokenKind.{TokenKind}
use Rattle.c_tokens.specs.declared.token.TokenKind.TheVariants.{Integer, Character}
use Rattle.c_tokens.specs.declared.constant.IntegerConstant.{IntegerConstant}
use Rattle.c_tokens.specs.Lexemes.{Bytes, AllOf, IsAmong, is_between, is_decimal, is_octal, is_hexadecimal, suffixes, IsNumeral, Decimal, Octal, Hexadecimal, IsCharacterOf, IsLexeme, IsInteger, IsCharacter}
use Rattle.c_tokens.specs.Tokens.{IsToken}
use Rattle.c_tokens.specs.Constants.{IsWord, is_unsigned_mark, are_decimal, IsIntegerOf, IsCharacterIn}
use Rattle.c_tokens.specs.Scanning.{begins, is_decimal_word, integer_number, character_number, inside_number}
use Rattle.c_tokens.proofs.Runs.{and_true}
use Rattle.c_tokens.proofs.Tables.{among_pass}
use Rattle.c_tokens.proofs.Constants.{no_zero, is_mark}
use Rattle.c_tokens.proofs.Told.{integer_is, character_is}

-- digits are no 'u'
none_marked : (set : Bytes) → ((b : ℕ) → set b ≡ true → is_unsigned_mark b ≡ false) → (xs ys : List ℕ) → AllOf set xs → list_any is_unsigned_mark (xs ++ ys) ≡ list_any is_unsigned_mark ys
none_marked set unmarked [] ys all = refl
none_marked set unmarked (x ∷ xs) ys all = ap (λ t. t || list_any is_unsigned_mark (xs ++ ys)) (unmarked x all.0) ∙ none_marked set unmarked xs ys all.1

low_no_mark : (b : ℕ) → b ≤ 57 → is_unsigned_mark b ≡ false
low_no_mark b high = grind (arith, nat_tests)

decimal_no_mark : (b : ℕ) → is_decimal b ≡ true → is_unsigned_mark b ≡ false
decimal_no_mark b e = low_no_mark b (leb-true b 57 (and_true (nat_le 48 b) (nat_le b 57) e).1)

octal_no_mark : (b : ℕ) → is_octal b ≡ true → is_unsigned_mark b ≡ false
octal_no_mark b e = let h : b ≤ 55 = leb-true b 55 (and_true (nat_le 48 b) (nat_le b 55) e).1 in low_no_mark b (omega arith)

high_no_mark : (b : ℕ) → 65 ≤ b → b ≤ 70 → is_unsigned_mark b ≡ false
high_no_mark b low high = grind (arith, nat_tests)

small_no_mark : (b : ℕ) → 97 ≤ b → b ≤ 102 → is_unsigned_mark b ≡ false
small_no_mark b low high = grind (arith, nat_tests)

hexadecimal_cases : (b : ℕ) (t u v : Bool) → is_decimal b ≡ t → is_between 65 70 b ≡ u → is_between 97 102 b ≡ v → (t || u || v) ≡ true → is_unsigned_mark b ≡ false
hexadecimal_cases b true u v e f g h = decimal_no_mark b e
hexadecimal_cases b false true v e f g h = high_no_mark b (leb-true 65 b (and_true (nat_le 65 b) (nat_le b 70) f).0) (leb-true b 70 (and_true (nat_le 65 b) (nat_le b 70) f).1)
hexadecimal_cases b false false true e f g h = small_no_mark b (leb-true 97 b (and_true (nat_le 97 b) (nat_le b 102) g).0) (leb-true b 102 (and_true (nat_le 97 b) (nat_le b 102) g).1)
hexadecimal_cases b false false false e f g h = absurd (let k : false ≡ true = h in cc)

hexadecimal_no_mark : (b : ℕ) → is_hexadecimal b ≡ true → is_unsigned_mark b ≡ false
hexadecimal_no_mark b h = hexadecimal_cases b (is_decimal b) (is_between 65 70 b) (is_between 97 102 b) refl refl refl h

first_low : (b : ℕ) → is_between 49 57 b ≡ true → is_unsigned_mark b ≡ false
first_low b e = low_no_mark b (leb-true b 57 (and_true (nat_le 49 b) (nat_le b 57) e).1)

letter_no_mark : (x : ℕ) → (x ≡ 120) ⊎ (x ≡ 88) → is_unsigned_mark x ≡ false
letter_no_mark x h = let e = is_mark x h in x_no_mark x e where
  x_no_mark : (x : ℕ) → (x == 120 || x == 88) ≡ true → is_unsigned_mark x ≡ false
  x_no_mark x e = grind (arith, nat_tests)

pub marked : (digits suffix : List ℕ) (n : ℕ) → IsNumeral digits n → list_any is_unsigned_mark (digits ++ suffix) ≡ list_any is_unsigned_mark suffix
marked digits suffix n (Decimal first rest e all) = ap (λ t. t || list_any is_unsigned_mark (rest ++ suffix)) (first_low first e) ∙ none_marked is_decimal decimal_no_mark rest suffix all
marked digits suffix n (Octal rest all) = none_marked is_octal octal_no_mark rest suffix all
marked digits suffix n (Hexadecimal x first rest mark all) = ap (λ t. t || list_any is_unsigned_mark (first ∷ (rest ++ suffix))) (letter_no_mark x mark) ∙ none_marked is_hexadecimal hexadecimal_no_mark (first ∷ rest) suffix all

-- decimal or not
decimal_digits : (first : ℕ) (rest : List ℕ) → (first == 48) ≡ false → are_decimal (first ∷ rest) ≡ true
decimal_digits first [] e = refl
decimal_digits first (c ∷ cs) e = ap not e

abbrev no_digit : List ℕ → Bool
no_digit s = not (begins (λ c. c == 120 || c == 88) s || begins is_octal s)

or_right : (a b : Bool) → b ≡ true → (a || b) ≡ true
or_right true b e = refl
or_right false b e = e

pub told_decimal : (digits suffix : List ℕ) (n : ℕ) → IsNumeral digits n → IsAmong suffix suffixes → is_decimal_word (digits ++ suffix) ≡ are_decimal digits
told_decimal digits suffix n (Decimal first rest e all) h =
    let no = no_zero first (leb-true 49 first (and_true (nat_le 49 first) (nat_le first 57) e).0) in
    ap (λ t. cond t (no_digit (rest ++ suffix)) true) no ∙ sym (decimal_digits first rest no)
told_decimal digits suffix n (Octal [] all) h = among_pass no_digit suffixes suffix refl h
told_decimal digits suffix n (Octal (r ∷ rs) all) h = ap not (or_right (r == 120 || r == 88) (is_octal r) all.0)
told_decimal digits suffix n (Hexadecimal x first rest mark all) h = ap (λ t. not (t || is_octal x)) (is_mark x mark)

-- the constant of a word is what the code reads
abbrev pub read : List ℕ → IntegerConstant
read word = record { value = integer_number word; is_decimal = is_decimal_word word; is_unsigned = list_any is_unsigned_mark word }

pub integer_read : (digits suffix : List ℕ) (n : ℕ) → IsNumeral digits n → IsAmong suffix suffixes → IsIntegerOf (digits ++ suffix) (read (digits ++ suffix))
integer_read digits suffix n numeral h = record { digits = digits; suffix = suffix; parts = refl; numeral = subst (λ (m : ℕ). IsNumeral digits m) (sym (integer_is digits n numeral suffix h)) numeral; ending = h; decimal = told_decimal digits suffix n numeral h; unsigned = marked digits suffix n numeral }

read_word : (kind : TokenKind) (word : List ℕ) → IsLexeme kind word → kind ≡ Integer → IsIntegerOf word (read word)
read_word kind word (IsInteger digits suffix n numeral h) e = integer_read digits suffix n numeral h
read_word kind word _ e = absurd (cc)

integer_bound : (kind : TokenKind) (word : List ℕ) → IsLexeme kind word → kind ≡ Integer → ((after : List ℕ) × IsToken Integer word after) → integer_number word ≤ 4294967295
integer_bound kind word (IsInteger digits suffix n numeral h) e t =
    let low : n < 2 ^ 32 = t.1.1 digits suffix n refl numeral h in
    let same = integer_is digits n numeral suffix h in
    omega arith
integer_bound kind word _ e t = absurd (cc)

pub some_value : (o : Option ℕ) (n : ℕ) → MatchOption o (4294967295 < n) (λ v. v ≡ n) → n ≤ 4294967295 → IsSome o
some_value None n m le = absurd (omega arith)
some_value (Some v) n m le = search rules

pub integer_some : (word : List ℕ) (o : Option ℕ) → IsWord Integer word → MatchOption o (4294967295 < integer_number word) (λ v. v ≡ integer_number word) → IsSome o
integer_some word o is m = some_value o (integer_number word) m (integer_bound Integer word is.0 refl is.1)

value_is : (o : Option ℕ) (n v : ℕ) → MatchOption o (4294967295 < n) (λ v. v ≡ n) → o ≡ Some v → v ≡ n
value_is None n v m e = absurd (cc)
value_is (Some w) n v m e = let k : w ≡ v = cc in sym k ∙ m

pub integer_told : (word : List ℕ) (o : Option ℕ) (value : ℕ) (decimal unsigned : Bool) → IsWord Integer word → MatchOption o (4294967295 < integer_number word) (λ v. v ≡ integer_number word) → o ≡ Some value → decimal ≡ is_decimal_word word → unsigned ≡ list_any is_unsigned_mark word → IsIntegerOf word (record { value = value; is_decimal = decimal; is_unsigned = unsigned })
integer_told word o value decimal unsigned is m some d u =
    let v = value_is o (integer_number word) value m some in
    let same : read word ≡ record { value = value; is_decimal = decimal; is_unsigned = unsigned } = cc in
    subst (λ (c : IntegerConstant). IsIntegerOf word c) same (read_word Integer word is.0 refl)

character_read : (kind : TokenKind) (word : List ℕ) → IsLexeme kind word → kind ≡ Character → ((after : List ℕ) × IsToken Character word after) → IsCharacterIn word (character_number word) × (character_number word ≤ 255)
character_read kind word (IsCharacter inside n h) e t =
    let same : inside_number (inside ++ 39 ∷ []) ≡ n = character_is inside n h in
    let low : n ≤ 255 = t.1 inside n refl h in
    (record { inside = inside; parts = refl; character = subst (λ (m : ℕ). IsCharacterOf inside m) (sym same) h }, omega arith)
character_read kind word _ e t = absurd (cc)

pub character_some : (word : List ℕ) (o : Option ℕ) → IsWord Character word → MatchOption o (4294967295 < character_number word) (λ v. v ≡ character_number word) → IsSome o
character_some word o is m = let le = (character_read Character word is.0 refl is.1).1 in some_value o (character_number word) m (omega arith)

pub character_told : (word : List ℕ) (o : Option ℕ) (value : ℕ) → IsWord Character word → MatchOption o (4294967295 < character_number word) (λ v. v ≡ character_number word) → o ≡ Some value → IsCharacterIn word value × (value ≤ 255)
character_told word o value is m some =
    let v = value_is o (character_number word) value m some in
    let r = character_read Character word is.0 refl is.1 in
    (subst (λ (n : ℕ). IsCharacterIn word n) (sym v) r.0, let le = r.1 in omega arith)
