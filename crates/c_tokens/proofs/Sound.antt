-- What the scan finds is a lexeme, of the kind that its first byte and the keywords tell; and the longest.
use Rattle.std.proofs.Common.{◌≡◌, ◌≢◌, ◌⊎◌, ℕ, ◌+◌, ◌<◌, ◌≤◌, List, [], ◌∷◌, ◌++◌, length, refl, sym, ◌∙◌, ap, subst, Option, Some, None, Bool, true, false, cond, inl, inr, arith, append_assoc, length-append, eq-eqb}
use Rattle.std.specs.Prelude.{not, ◌&&◌, ◌||◌, ◌==◌, nat_le}
use Rattle.std.proofs.lemmas.Bool.Decides.{nat_tests}
use Rattle.std.proofs.lemmas.Bool.{leb-true, eqb-true}
use Rattle.c_tokens.specs.declared.token.TokenKind.{TokenKind}
use Rattle.c_tokens.specs.declared.token.TokenKind.TheVariants.{Identifier, Keyword, Integer, Character, Punctuator}
use Rattle.c_tokens.specs.Lexemes.{Bytes, AllOf, IsAmong, is_between, is_decimal, is_octal, is_hexadecimal, is_letter, is_letter_or_digit, keywords, punctuators, suffixes, digits_from, IsNumeral, Decimal, Octal, Hexadecimal, IsSimpleEscape, NewLine, Tab, Return, Alert, Backspace, FormFeed, VerticalTab, Backslash, Quote, DoubleQuote, Question, IsCharacterOf, Plain, Simple, OctalEscape, HexadecimalEscape, IsLexeme, IsIdentifier, IsKeyword, IsInteger, IsCharacter, IsPunctuator}
use Rattle.c_tokens.specs.Tokens.{IsLongest}
use Rattle.c_tokens.specs.Scanning.{begins, behind, behind_one, behind_byte, among, behind_first, by_length, behind_zero, behind_digits, behind_suffix, behind_escape, behind_inside, behind_character, behind_lexeme, is_escape, is_plain, kind_of}
use Rattle.c_tokens.proofs.Runs.{chain_some, test_some, and_true, run_of, behind_more}
use Rattle.c_tokens.proofs.Tables.{among_pass, among_sound, among_complete, first_sound}
use Rattle.c_tokens.proofs.Complete.{digit_low, digit_high, digit_no_letter}
use Rattle.c_tokens.proofs.Constants.{complete}

-- what the scan found at the front
pub record Lexed (here after : List ℕ) : Type 0 where
  pub word : List ℕ
  pub whole : here ≡ word ++ after
  pub some : 0 < length word
  pub lexeme : IsLexeme (kind_of word) word

-- words
pub keyword_cases : (b : ℕ) (rest : List ℕ) (t : Bool) → among keywords (b ∷ rest) ≡ t → is_letter b ≡ true → AllOf is_letter_or_digit rest → IsLexeme (cond t Keyword Identifier) (b ∷ rest)
keyword_cases b rest true is e all = IsKeyword (b ∷ rest) (among_sound keywords (b ∷ rest) is)
keyword_cases b rest false is e all = IsIdentifier b rest e all (λ h. let k : among keywords (b ∷ rest) ≡ true = among_complete keywords (b ∷ rest) h in let l : true ≡ false = sym k ∙ is in cc)

abbrev pub constant_kind : ℕ → TokenKind
constant_kind b = cond (is_decimal b) Integer (cond (b == 39) Character Punctuator)

word_lexeme : (b : ℕ) (rest : List ℕ) → is_letter b ≡ true → AllOf is_letter_or_digit rest → IsLexeme (kind_of (b ∷ rest)) (b ∷ rest)
word_lexeme b rest e all =
    let kind : cond (among keywords (b ∷ rest)) Keyword Identifier ≡ kind_of (b ∷ rest) = ap (λ t. cond t (cond (among keywords (b ∷ rest)) Keyword Identifier) (constant_kind b)) (sym e) in
    subst (λ (k : TokenKind). IsLexeme k (b ∷ rest)) kind (keyword_cases b rest (among keywords (b ∷ rest)) refl e all)

letter_goes_on : (a c : Bool) → a ≡ true → (a || c) ≡ true
letter_goes_on true c e = refl
letter_goes_on false c e = absurd (let k : false ≡ true = e in cc)

word_sound : (b : ℕ) (bs after : List ℕ) → is_letter b ≡ true → behind is_letter_or_digit (b ∷ bs) ≡ after → Lexed (b ∷ bs) after
word_sound b bs after e h =
    let r = run_of is_letter_or_digit bs in
    let same : behind is_letter_or_digit bs ≡ after = sym (behind_more is_letter_or_digit b bs (letter_goes_on (is_letter b) (is_decimal b) e)) ∙ h in
    record { word = b ∷ r.run; whole = ap (λ xs. b ∷ xs) (r.whole ∙ ap (λ xs. r.run ++ xs) same); some = omega arith; lexeme = word_lexeme b r.run e r.all }

-- digits
record Digits (bytes behind : List ℕ) : Type 0 where
  digits : List ℕ
  n : ℕ
  numeral : IsNumeral digits n
  whole : bytes ≡ digits ++ behind

decimal_first : (b : ℕ) → 48 ≤ b → b ≤ 57 → (b == 48) ≡ false → is_between 49 57 b ≡ true
decimal_first b low high e = grind (arith, nat_tests)

hexadecimal_zero : (x : ℕ) (bs after : List ℕ) → (x ≡ 120) ⊎ (x ≡ 88) → begins is_hexadecimal bs ≡ true → behind is_hexadecimal bs ≡ after → Digits (48 ∷ x ∷ bs) after
hexadecimal_zero x [] after mark first h = absurd (let k : false ≡ true = first in cc)
hexadecimal_zero x (d ∷ ds) after mark first h =
    let r = run_of is_hexadecimal ds in
    let same : behind is_hexadecimal ds ≡ after = sym (behind_more is_hexadecimal d ds first) ∙ h in
    record { digits = 48 ∷ x ∷ d ∷ r.run; n = digits_from 16 0 (d ∷ r.run); numeral = Hexadecimal x d r.run mark (first, r.all); whole = ap (λ xs. 48 ∷ x ∷ d ∷ xs) (r.whole ∙ ap (λ xs. r.run ++ xs) same) }

pub either : (b p q : ℕ) (t : Bool) → (b == p) ≡ t → (t || b == q) ≡ true → (b ≡ p) ⊎ (b ≡ q)
either b p q true is e = inl (eqb-true b p is)
either b p q false is e = inr (eqb-true b q e)

zero_cases : (x : ℕ) (bs after : List ℕ) (t : Bool) → ((x == 120 || x == 88) && begins is_hexadecimal bs) ≡ t → cond t (behind is_hexadecimal bs) (behind is_octal (x ∷ bs)) ≡ after → Digits (48 ∷ x ∷ bs) after
zero_cases x bs after true is h =
    let both = and_true (x == 120 || x == 88) (begins is_hexadecimal bs) is in
    hexadecimal_zero x bs after (either x 120 88 (x == 120) refl both.0) both.1 h
zero_cases x bs after false is h =
    let r = run_of is_octal (x ∷ bs) in
    record { digits = 48 ∷ r.run; n = digits_from 8 0 r.run; numeral = Octal r.run r.all; whole = ap (λ xs. 48 ∷ xs) (r.whole ∙ ap (λ xs. r.run ++ xs) h) }

zero_sound : (bs after : List ℕ) → behind_zero bs ≡ after → Digits (48 ∷ bs) after
zero_sound [] after h = record { digits = 48 ∷ []; n = 0; numeral = Octal [] tt; whole = ap (λ xs. 48 ∷ xs) h }
zero_sound (x ∷ xs) after h = zero_cases x xs after ((x == 120 || x == 88) && begins is_hexadecimal xs) refl h

digits_cases : (b : ℕ) (bs after : List ℕ) (t : Bool) → (b == 48) ≡ t → is_decimal b ≡ true → cond t (behind_zero bs) (behind is_decimal (b ∷ bs)) ≡ after → Digits (b ∷ bs) after
digits_cases b bs after true is e h = subst (λ (x : ℕ). Digits (x ∷ bs) after) (sym (eqb-true b 48 is)) (zero_sound bs after h)
digits_cases b bs after false is e h =
    let r = run_of is_decimal bs in
    let same : behind is_decimal bs ≡ after = sym (behind_more is_decimal b bs e) ∙ h in
    record { digits = b ∷ r.run; n = digits_from 10 0 (b ∷ r.run); numeral = Decimal b r.run (decimal_first b (digit_low b e) (digit_high b e) is) r.all; whole = ap (λ xs. b ∷ xs) (r.whole ∙ ap (λ xs. r.run ++ xs) same) }

-- suffixes
record Suffixed (bytes behind : List ℕ) : Type 0 where
  suffix : List ℕ
  among_them : IsAmong suffix suffixes
  whole : bytes ≡ suffix ++ behind

abbrev IsOne : ℕ → ℕ → List ℕ → Type 0
IsOne p q head = (head ≡ []) ⊎ ((head ≡ p ∷ []) ⊎ (head ≡ q ∷ []))

one_of : (b p q : ℕ) → (b ≡ p) ⊎ (b ≡ q) → IsOne p q (b ∷ [])
one_of b p q (inl e) = inr (inl (ap (λ x. x ∷ []) e))
one_of b p q (inr e) = inr (inr (ap (λ x. x ∷ []) e))

one_cases : (p q b : ℕ) (bs after : List ℕ) (t : Bool) → (b == p || b == q) ≡ t → cond t bs (b ∷ bs) ≡ after → (head : List ℕ) × IsOne p q head × (b ∷ bs ≡ head ++ after)
one_cases p q b bs after true is h = (b ∷ [], one_of b p q (either b p q (b == p) refl is), ap (λ xs. b ∷ xs) h)
one_cases p q b bs after false is h = ([], inl refl, h)

one_sound : (p q : ℕ) (bytes after : List ℕ) → behind_one (λ c. c == p || c == q) bytes ≡ after → (head : List ℕ) × IsOne p q head × (bytes ≡ head ++ after)
one_sound p q [] after h = ([], inl refl, h)
one_sound p q (b ∷ bs) after h = one_cases p q b bs after (b == p || b == q) refl h

written : (b c : ℕ) (head tail : List ℕ) → b ≡ c → head ≡ tail → among suffixes (c ∷ tail) ≡ true → IsAmong (b ∷ head) suffixes
written b c head tail e f h =
    let same : b ∷ head ≡ c ∷ tail = ap (λ x. x ∷ head) e ∙ ap (λ xs. c ∷ xs) f in
    subst (λ (s : List ℕ). IsAmong s suffixes) (sym same) (among_sound suffixes (c ∷ tail) h)

unsigned_first : (b : ℕ) (head : List ℕ) → (b ≡ 117) ⊎ (b ≡ 85) → IsOne 108 76 head → IsAmong (b ∷ head) suffixes
unsigned_first b head (inl e) (inl f) = written b 117 head [] e f refl
unsigned_first b head (inl e) (inr (inl f)) = written b 117 head (108 ∷ []) e f refl
unsigned_first b head (inl e) (inr (inr f)) = written b 117 head (76 ∷ []) e f refl
unsigned_first b head (inr e) (inl f) = written b 85 head [] e f refl
unsigned_first b head (inr e) (inr (inl f)) = written b 85 head (108 ∷ []) e f refl
unsigned_first b head (inr e) (inr (inr f)) = written b 85 head (76 ∷ []) e f refl

long_first : (b : ℕ) (head : List ℕ) → (b ≡ 108) ⊎ (b ≡ 76) → IsOne 117 85 head → IsAmong (b ∷ head) suffixes
long_first b head (inl e) (inl f) = written b 108 head [] e f refl
long_first b head (inl e) (inr (inl f)) = written b 108 head (117 ∷ []) e f refl
long_first b head (inl e) (inr (inr f)) = written b 108 head (85 ∷ []) e f refl
long_first b head (inr e) (inl f) = written b 76 head [] e f refl
long_first b head (inr e) (inr (inl f)) = written b 76 head (117 ∷ []) e f refl
long_first b head (inr e) (inr (inr f)) = written b 76 head (85 ∷ []) e f refl

long_cases : (b : ℕ) (bs after : List ℕ) (t : Bool) → (b == 108 || b == 76) ≡ t → cond t (behind_one (λ c. c == 117 || c == 85) bs) (b ∷ bs) ≡ after → Suffixed (b ∷ bs) after
long_cases b bs after true is h =
    let o = one_sound 117 85 bs after h in
    record { suffix = b ∷ o.0; among_them = long_first b o.0 (either b 108 76 (b == 108) refl is) o.1; whole = ap (λ xs. b ∷ xs) o.2 }
long_cases b bs after false is h = record { suffix = []; among_them = inl refl; whole = h }

unsigned_cases : (b : ℕ) (bs after : List ℕ) (t : Bool) → (b == 117 || b == 85) ≡ t → cond t (behind_one (λ c. c == 108 || c == 76) bs) (cond (b == 108 || b == 76) (behind_one (λ c. c == 117 || c == 85) bs) (b ∷ bs)) ≡ after → Suffixed (b ∷ bs) after
unsigned_cases b bs after true is h =
    let o = one_sound 108 76 bs after h in
    record { suffix = b ∷ o.0; among_them = unsigned_first b o.0 (either b 117 85 (b == 117) refl is) o.1; whole = ap (λ xs. b ∷ xs) o.2 }
unsigned_cases b bs after false is h = long_cases b bs after (b == 108 || b == 76) refl h

suffix_sound : (bytes after : List ℕ) → behind_suffix bytes ≡ after → Suffixed bytes after
suffix_sound [] after h = record { suffix = []; among_them = inl refl; whole = h }
suffix_sound (b ∷ bs) after h = unsigned_cases b bs after (b == 117 || b == 85) refl h

-- integers
pub digit_kind : (b : ℕ) (rest : List ℕ) → is_decimal b ≡ true → Integer ≡ kind_of (b ∷ rest)
digit_kind b rest e = sym (ap (λ t. cond t (cond (among keywords (b ∷ rest)) Keyword Identifier) (constant_kind b)) (digit_no_letter b e) ∙ ap (λ t. cond t Integer (cond (b == 39) Character Punctuator)) e)

integer_of : (b : ℕ) (bs after word : List ℕ) → is_decimal b ≡ true → b ∷ bs ≡ word ++ after → begins is_decimal word ≡ true → IsLexeme Integer word → Lexed (b ∷ bs) after
integer_of b bs after [] e whole first l = absurd (let k : false ≡ true = first in cc)
integer_of b bs after (c ∷ cs) e whole first l = record { word = c ∷ cs; whole = whole; some = omega arith; lexeme = subst (λ (k : TokenKind). IsLexeme k (c ∷ cs)) (digit_kind c cs first) l }

between_digit : (b : ℕ) → 49 ≤ b → b ≤ 57 → is_decimal b ≡ true
between_digit b low high = grind (arith, nat_tests)

pub numeral_begins : (digits : List ℕ) (n : ℕ) → IsNumeral digits n → (suffix : List ℕ) → begins is_decimal (digits ++ suffix) ≡ true
numeral_begins digits n (Decimal first rest e all) suffix = let both = and_true (nat_le 49 first) (nat_le first 57) e in between_digit first (leb-true 49 first both.0) (leb-true first 57 both.1)
numeral_begins digits n (Octal rest all) suffix = refl
numeral_begins digits n (Hexadecimal x first rest mark all) suffix = refl

integer_sound : (b : ℕ) (bs after : List ℕ) → is_decimal b ≡ true → behind_suffix (behind_digits (b ∷ bs)) ≡ after → Lexed (b ∷ bs) after
integer_sound b bs after e h =
    let d = digits_cases b bs (behind_digits (b ∷ bs)) (b == 48) refl e refl in
    let s = suffix_sound (behind_digits (b ∷ bs)) after h in
    let whole : b ∷ bs ≡ (d.digits ++ s.suffix) ++ after = d.whole ∙ ap (λ xs. d.digits ++ xs) s.whole ∙ sym (append_assoc d.digits s.suffix after) in
    integer_of b bs after (d.digits ++ s.suffix) e whole (numeral_begins d.digits d.n d.numeral s.suffix) (IsInteger d.digits s.suffix d.n d.numeral s.among_them)

-- characters
record Inside (bytes behind : List ℕ) : Type 0 where
  inside : List ℕ
  n : ℕ
  is_inside : IsCharacterOf inside n
  whole : bytes ≡ inside ++ behind

or_split : (a b : Bool) → (a || b) ≡ true → (a ≡ true) ⊎ (b ≡ true)
or_split true b e = inl refl
or_split false b e = inr e

abbrev IsSome : ℕ → Type 0
IsSome b = (n : ℕ) × IsSimpleEscape b n

escape_at : (b v n : ℕ) → IsSimpleEscape v n → (b == v) ≡ true → IsSome b
escape_at b v n s e = (n, subst (λ (x : ℕ). IsSimpleEscape x n) (sym (eqb-true b v e)) s)

or_else : (b v n : ℕ) (rest : Bool) → IsSimpleEscape v n → (rest ≡ true → IsSome b) → (rest || b == v) ≡ true → IsSome b
or_else b v n rest s more e = elim (or_split rest (b == v) e) [ inl h ↦ more h | inr h ↦ escape_at b v n s h ]

escape_of : (b : ℕ) → is_escape b ≡ true → IsSome b
escape_of b =
    or_else b 63 63 _ Question (or_else b 34 34 _ DoubleQuote (or_else b 39 39 _ Quote (or_else b 92 92 _ Backslash (or_else b 118 11 _ VerticalTab (or_else b 102 12 _ FormFeed (or_else b 98 8 _ Backspace (or_else b 97 7 _ Alert (or_else b 114 13 _ Return (or_else b 116 9 _ Tab (escape_at b 110 10 NewLine))))))))))

hexadecimal_sound : (bs after : List ℕ) → begins is_hexadecimal bs ≡ true → behind is_hexadecimal bs ≡ after → Inside (92 ∷ 120 ∷ bs) after
hexadecimal_sound [] after first h = absurd (let k : false ≡ true = first in cc)
hexadecimal_sound (d ∷ ds) after first h =
    let r = run_of is_hexadecimal ds in
    let same : behind is_hexadecimal ds ≡ after = sym (behind_more is_hexadecimal d ds first) ∙ h in
    record { inside = 92 ∷ 120 ∷ d ∷ r.run; n = digits_from 16 0 (d ∷ r.run); is_inside = HexadecimalEscape d r.run (first, r.all); whole = ap (λ xs. 92 ∷ 120 ∷ d ∷ xs) (r.whole ∙ ap (λ xs. r.run ++ xs) same) }

record Upto (set : Bytes) (bytes behind : List ℕ) : Type 0 where
  head : List ℕ
  all : AllOf set head
  short : length head ≤ 1
  whole : bytes ≡ head ++ behind

upto_cases : (set : Bytes) (b : ℕ) (bs after : List ℕ) (t : Bool) → set b ≡ t → cond t bs (b ∷ bs) ≡ after → Upto set (b ∷ bs) after
upto_cases set b bs after true is h = record { head = b ∷ []; all = (is, tt); short = omega arith; whole = ap (λ xs. b ∷ xs) h }
upto_cases set b bs after false is h = record { head = []; all = tt; short = omega arith; whole = h }

upto : (set : Bytes) (bytes after : List ℕ) → behind_one set bytes ≡ after → Upto set bytes after
upto set [] after h = record { head = []; all = tt; short = omega arith; whole = h }
upto set (b ∷ bs) after h = upto_cases set b bs after (set b) refl h

pub all_both : (set : Bytes) (xs ys : List ℕ) → AllOf set xs → AllOf set ys → AllOf set (xs ++ ys)
all_both set [] ys a b = b
all_both set (x ∷ xs) ys a b = (a.0, all_both set xs ys a.1 b)

octal_sound : (b : ℕ) (bs after : List ℕ) → is_octal b ≡ true → behind_one is_octal (behind_one is_octal bs) ≡ after → Inside (92 ∷ b ∷ bs) after
octal_sound b bs after e h =
    let one = upto is_octal bs (behind_one is_octal bs) refl in
    let two = upto is_octal (behind_one is_octal bs) after h in
    let rest = one.head ++ two.head in
    let len : length rest ≡ length one.head + length two.head = length-append one.head two.head in
    let le : length rest ≤ 2 = let p = one.short in let q = two.short in omega arith in
    record { inside = 92 ∷ b ∷ rest; n = digits_from 8 0 (b ∷ rest); is_inside = OctalEscape b rest (e, all_both is_octal one.head two.head one.all two.all) le; whole = ap (λ xs. 92 ∷ b ∷ xs) (one.whole ∙ ap (λ xs. one.head ++ xs) two.whole ∙ sym (append_assoc one.head two.head after)) }

abbrev hexadecimal_escape : List ℕ → Option (List ℕ)
hexadecimal_escape bs = cond (begins is_hexadecimal bs) (Some (behind is_hexadecimal bs)) None

abbrev octal_escape : ℕ → List ℕ → Option (List ℕ)
octal_escape b bs = cond (is_octal b) (Some (behind_one is_octal (behind_one is_octal bs))) None

x_cases : (b : ℕ) (bs after : List ℕ) (t : Bool) → (b == 120) ≡ t → cond t (hexadecimal_escape bs) (octal_escape b bs) ≡ Some after → Inside (92 ∷ b ∷ bs) after
x_cases b bs after true is h =
    let k = test_some (begins is_hexadecimal bs) (Some (behind is_hexadecimal bs)) after h in
    let last : behind is_hexadecimal bs ≡ after = let l = k.1 in cc in
    subst (λ (x : ℕ). Inside (92 ∷ x ∷ bs) after) (sym (eqb-true b 120 is)) (hexadecimal_sound bs after k.0 last)
x_cases b bs after false is h =
    let k = test_some (is_octal b) (Some (behind_one is_octal (behind_one is_octal bs))) after h in
    let last : behind_one is_octal (behind_one is_octal bs) ≡ after = let l = k.1 in cc in
    octal_sound b bs after k.0 last

escape_cases : (b : ℕ) (bs after : List ℕ) (t : Bool) → is_escape b ≡ t → cond t (Some bs) (cond (b == 120) (hexadecimal_escape bs) (octal_escape b bs)) ≡ Some after → Inside (92 ∷ b ∷ bs) after
escape_cases b bs after true is h =
    let s = escape_of b is in
    let same : bs ≡ after = cc in
    record { inside = 92 ∷ b ∷ []; n = s.0; is_inside = Simple b s.0 s.1; whole = ap (λ xs. 92 ∷ b ∷ xs) same }
escape_cases b bs after false is h = x_cases b bs after (b == 120) refl h

escape_sound : (bs after : List ℕ) → behind_escape bs ≡ Some after → Inside (92 ∷ bs) after
escape_sound [] after h = absurd (cc)
escape_sound (b ∷ bs) after h = escape_cases b bs after (is_escape b) refl h

same_number : (v : ℕ) → (v == v) ≡ true
same_number v = eq-eqb v v refl

pub is_not : (b v : ℕ) (t : Bool) → (b == v) ≡ t → not t ≡ true → b ≢ v
is_not b v true e h = absurd (let k : false ≡ true = h in cc)
is_not b v false e h = λ s. let k : (b == v) ≡ (v == v) = ap (λ x. x == v) s in let l : (v == v) ≡ true = same_number v in let m : true ≡ false = sym l ∙ sym k ∙ e in cc

plain_sound : (b : ℕ) (bs after : List ℕ) → is_plain b ≡ true → bs ≡ after → Inside (b ∷ bs) after
plain_sound b bs after e same =
    let one = and_true (is_between 32 126 b && not (b == 39)) (not (b == 92)) e in
    let two = and_true (is_between 32 126 b) (not (b == 39)) one.0 in
    record { inside = b ∷ []; n = b; is_inside = Plain b two.0 (is_not b 39 (b == 39) refl two.1) (is_not b 92 (b == 92) refl one.1); whole = ap (λ xs. b ∷ xs) same }

inside_cases : (b : ℕ) (bs after : List ℕ) (t : Bool) → (b == 92) ≡ t → cond t (behind_escape bs) (cond (is_plain b) (Some bs) None) ≡ Some after → Inside (b ∷ bs) after
inside_cases b bs after true is h = subst (λ (x : ℕ). Inside (x ∷ bs) after) (sym (eqb-true b 92 is)) (escape_sound bs after h)
inside_cases b bs after false is h =
    let k = test_some (is_plain b) (Some bs) after h in
    let last : bs ≡ after = let l = k.1 in cc in
    plain_sound b bs after k.0 last

inside_sound : (bs after : List ℕ) → behind_inside bs ≡ Some after → Inside bs after
inside_sound [] after h = absurd (cc)
inside_sound (b ∷ bs) after h = inside_cases b bs after (b == 92) refl h

quote_cases : (b : ℕ) (bs after : List ℕ) (t : Bool) → (b == 39) ≡ t → cond t (Some bs) None ≡ Some after → b ∷ bs ≡ 39 ∷ after
quote_cases b bs after true is h = let same : bs ≡ after = cc in ap (λ x. x ∷ bs) (eqb-true b 39 is) ∙ ap (λ xs. 39 ∷ xs) same
quote_cases b bs after false is h = absurd (cc)

quote_sound : (bs after : List ℕ) → behind_byte 39 bs ≡ Some after → bs ≡ 39 ∷ after
quote_sound [] after h = absurd (cc)
quote_sound (b ∷ bs) after h = quote_cases b bs after (b == 39) refl h

character_sound : (bs after : List ℕ) → behind_character bs ≡ Some after → Lexed (39 ∷ bs) after
character_sound bs after h =
    let c = chain_some (behind_inside bs) (behind_byte 39) after h in
    let i = inside_sound bs c.0 c.1 in
    let quote = quote_sound c.0 after c.2 in
    record {
      word = 39 ∷ i.inside ++ 39 ∷ [];
      whole = ap (λ xs. 39 ∷ xs) (i.whole ∙ ap (λ xs. i.inside ++ xs) quote ∙ sym (append_assoc i.inside (39 ∷ []) after));
      some = omega arith;
      lexeme = IsCharacter i.inside i.n i.is_inside;
    }

-- punctuators
abbrev pub is_start : Bytes
is_start b = not (is_letter b) && (not (is_decimal b) && not (b == 39))

abbrev pub is_punctuator : List ℕ → Bool
is_punctuator s = begins is_start s && among punctuators s

pub not_true : (t : Bool) → not t ≡ true → t ≡ false
not_true true e = absurd (let k : false ≡ true = e in cc)
not_true false e = refl

pub punctuator_kind : (b : ℕ) (bs : List ℕ) → is_start b ≡ true → Punctuator ≡ kind_of (b ∷ bs)
punctuator_kind b bs e =
    let one = and_true (not (is_letter b)) (not (is_decimal b) && not (b == 39)) e in
    let two = and_true (not (is_decimal b)) (not (b == 39)) one.1 in
    sym (ap (λ t. cond t (cond (among keywords (b ∷ bs)) Keyword Identifier) (constant_kind b)) (not_true (is_letter b) one.0)
    ∙ ap (λ t. cond t Integer (cond (b == 39) Character Punctuator)) (not_true (is_decimal b) two.0)
    ∙ ap (λ t. cond t Character Punctuator) (not_true (b == 39) two.1))

punctuator_of : (here after s : List ℕ) → begins is_start s ≡ true → IsAmong s punctuators → here ≡ s ++ after → Lexed here after
punctuator_of here after [] first h whole = absurd (let k : false ≡ true = first in cc)
punctuator_of here after (b ∷ bs) first h whole = record { word = b ∷ bs; whole = whole; some = omega arith; lexeme = subst (λ (k : TokenKind). IsLexeme k (b ∷ bs)) (punctuator_kind b bs first) (IsPunctuator (b ∷ bs) h) }

punctuator_sound : (here after : List ℕ) → behind_first by_length here ≡ Some after → Lexed here after
punctuator_sound here after h =
    let f = first_sound by_length here after h in
    let both = and_true (begins is_start f.0) (among punctuators f.0) (among_pass is_punctuator by_length f.0 refl f.1) in
    punctuator_of here after f.0 both.0 (among_sound punctuators f.0 both.1) f.2

-- the dispatch
third_cases : (b : ℕ) (bs after : List ℕ) (t : Bool) → (b == 39) ≡ t → cond t (behind_character bs) (behind_first by_length (b ∷ bs)) ≡ Some after → Lexed (b ∷ bs) after
third_cases b bs after true is h = subst (λ (x : ℕ). Lexed (x ∷ bs) after) (sym (eqb-true b 39 is)) (character_sound bs after h)
third_cases b bs after false is h = punctuator_sound (b ∷ bs) after h

second_cases : (b : ℕ) (bs after : List ℕ) (t : Bool) → is_decimal b ≡ t → cond t (Some (behind_suffix (behind_digits (b ∷ bs)))) (cond (b == 39) (behind_character bs) (behind_first by_length (b ∷ bs))) ≡ Some after → Lexed (b ∷ bs) after
second_cases b bs after true is h = integer_sound b bs after is (let k : behind_suffix (behind_digits (b ∷ bs)) ≡ after = cc in k)
second_cases b bs after false is h = third_cases b bs after (b == 39) refl h

first_cases : (b : ℕ) (bs after : List ℕ) (t : Bool) → is_letter b ≡ t → cond t (Some (behind is_letter_or_digit (b ∷ bs))) (cond (is_decimal b) (Some (behind_suffix (behind_digits (b ∷ bs)))) (cond (b == 39) (behind_character bs) (behind_first by_length (b ∷ bs)))) ≡ Some after → Lexed (b ∷ bs) after
first_cases b bs after true is h = word_sound b bs after is (let k : behind is_letter_or_digit (b ∷ bs) ≡ after = cc in k)
first_cases b bs after false is h = second_cases b bs after (is_decimal b) refl h

pub sound : (here after : List ℕ) → behind_lexeme here ≡ Some after → Lexed here after
sound [] after h = absurd (cc)
sound (b ∷ bs) after h = first_cases b bs after (is_letter b) refl h

-- the longest
pub longest : (here after : List ℕ) (h : behind_lexeme here ≡ Some after) → IsLongest here (kind_of (sound here after h).word) (sound here after h).word after
longest here after h =
    let l = sound here after h in
    record {
      parts = l.whole;
      lexeme = l.lexeme;
      longest = λ other longer end whole is.
          let c = complete other longer is end in
          let same : after ≡ c.0 = let k : Some after ≡ Some c.0 = sym h ∙ ap behind_lexeme whole ∙ c.1 in cc in
          let one : length here ≡ length longer + length end = ap length whole ∙ length-append longer end in
          let two : length here ≡ length l.word + length after = ap length l.whole ∙ length-append l.word after in
          let three : length after ≤ length end = subst (λ (xs : List ℕ). length xs ≤ length end) (sym same) c.2 in
          omega arith;
    }

pub lexeme_shorter : (here after : List ℕ) → Some after ≡ behind_lexeme here → length after < length here
lexeme_shorter here after h =
    let l = sound here after (sym h) in
    let two : length here ≡ length l.word + length after = ap length l.whole ∙ length-append l.word after in
    let some = l.some in
    omega arith
