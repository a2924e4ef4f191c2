-- The test of a lexeme tells the tokens, and the longest lexeme is one only.
use Rattle.std.proofs.Common.{◌≡◌, ℕ, ◌+◌, ◌-◌, ◌^◌, ◌<◌, ◌≤◌, List, [], ◌∷◌, ◌++◌, length, take, drop, refl, sym, ◌∙◌, ap, subst, Some, None, Bool, true, false, cond, arith, length-append}
use Rattle.std.specs.Prelude.{not, ◌&&◌, ◌||◌, ◌==◌, nat_le}
use Rattle.std.proofs.lemmas.Bool.Decides.{nat_tests}
use Rattle.std.proofs.lemmas.Bool.{leb-true, le-leb, eqb-true}
use Rattle.std.proofs.lemmas.List.{take_at, drop_at}
use Rattle.c_tokens.specs.declared.token.TokenKind.{TokenKind}
use Rattle.c_tokens.specs.declared.token.TokenKind.TheVariants.{Identifier, Keyword, Integer, Character, Punctuator}
use Rattle.c_tokens.specs.Lexemes.{Bytes, AllOf, IsAmong, is_between, is_decimal, is_octal, is_hexadecimal, is_letter, is_letter_or_digit, keywords, punctuators, suffixes, IsNumeral, Decimal, Octal, Hexadecimal, IsSimpleEscape, NewLine, Tab, Return, Alert, Backspace, FormFeed, VerticalTab, Backslash, Quote, DoubleQuote, Question, IsCharacterOf, Plain, Simple, OctalEscape, HexadecimalEscape, IsLexeme, IsIdentifier, IsKeyword, IsInteger, IsCharacter, IsPunctuator}
use Rattle.c_tokens.specs.Tokens.{IsLongest, IsToken, IsNotNext, goes_on}
use Rattle.c_tokens.specs.Scanning.{begins, among, behind_lexeme, kind_of, is_token, is_only, integer_number, number_behind_zero, number_from, character_number, inside_number, escape_number, simple_number, HasNoToken}
use Rattle.c_tokens.proofs.Runs.{and_true}
use Rattle.c_tokens.proofs.Tables.{among_pass, among_sound, among_complete, all_of}
use Rattle.c_tokens.proofs.Numbers.{number_exact}
use Rattle.c_tokens.proofs.Complete.{is_word}
use Rattle.c_tokens.proofs.Constants.{complete, no_mark, is_mark, octal_no_x, not_equal, no_zero, octal_low, octal_high, digit_between}
use Rattle.c_tokens.proofs.Sound.{sound, longest, constant_kind, digit_kind, numeral_begins, is_start, punctuator_kind}

-- the kind of a lexeme
among_not : (t : Bool) (b : ℕ) (rest : List ℕ) → among keywords (b ∷ rest) ≡ t → ¬ IsAmong (b ∷ rest) keywords → t ≡ false
among_not true b rest e h = absurd (h (among_sound keywords (b ∷ rest) e))
among_not false b rest e h = refl

identifier_kind : (b : ℕ) (rest : List ℕ) → is_letter b ≡ true → ¬ IsAmong (b ∷ rest) keywords → kind_of (b ∷ rest) ≡ Identifier
identifier_kind b rest e h =
    ap (λ t. cond t (cond (among keywords (b ∷ rest)) Keyword Identifier) (constant_kind b)) e
    ∙ ap (λ t. cond t Keyword Identifier) (among_not (among keywords (b ∷ rest)) b rest refl h)

keyword_kind : (s : List ℕ) → begins is_letter s ≡ true → IsAmong s keywords → kind_of s ≡ Keyword
keyword_kind [] first h = absurd (let k : false ≡ true = first in cc)
keyword_kind (b ∷ bs) first h =
    ap (λ t. cond t (cond (among keywords (b ∷ bs)) Keyword Identifier) (constant_kind b)) first
    ∙ ap (λ t. cond t Keyword Identifier) (among_complete keywords (b ∷ bs) h)

integer_kind : (s : List ℕ) → begins is_decimal s ≡ true → kind_of s ≡ Integer
integer_kind [] first = absurd (let k : false ≡ true = first in cc)
integer_kind (b ∷ bs) first = sym (digit_kind b bs first)

other_kind : (s : List ℕ) → begins is_start s ≡ true → kind_of s ≡ Punctuator
other_kind [] first = refl
other_kind (b ∷ bs) first = sym (punctuator_kind b bs first)

abbrev starts_other : List ℕ → Bool
starts_other s = begins is_start s

pub lexeme_kind : (kind : TokenKind) (s : List ℕ) → IsLexeme kind s → kind_of s ≡ kind
lexeme_kind kind s (IsIdentifier first rest e all h) = identifier_kind first rest e h
lexeme_kind kind s (IsKeyword w h) = keyword_kind w (and_true (begins is_letter w) (all_of is_letter_or_digit w) (among_pass is_word keywords w refl h)).0 h
lexeme_kind kind s (IsInteger digits suffix n numeral h) = integer_kind (digits ++ suffix) (numeral_begins digits n numeral suffix)
lexeme_kind kind s (IsCharacter inside n h) = refl
lexeme_kind kind s (IsPunctuator w h) = other_kind w (among_pass starts_other punctuators w refl h)

-- values
weaker : (f g : Bytes) → ((b : ℕ) → f b ≡ true → g b ≡ true) → (s : List ℕ) → AllOf f s → AllOf g s
weaker f g w [] all = tt
weaker f g w (b ∷ bs) all = (w b all.0, weaker f g w bs all.1)

true_or : (a b : Bool) → a ≡ true → (a || b) ≡ true
true_or true b e = refl
true_or false b e = absurd (let k : false ≡ true = e in cc)

decimal_hexadecimal : (b : ℕ) → is_decimal b ≡ true → is_hexadecimal b ≡ true
decimal_hexadecimal b e = true_or (is_decimal b || is_between 65 70 b) (is_between 97 102 b) (true_or (is_decimal b) (is_between 65 70 b) e)

low_decimal : (b : ℕ) → 48 ≤ b → b ≤ 55 → is_decimal b ≡ true
low_decimal b low high = grind (arith, nat_tests)

octal_hexadecimal : (b : ℕ) → is_octal b ≡ true → is_hexadecimal b ≡ true
octal_hexadecimal b e = decimal_hexadecimal b (low_decimal b (octal_low b e) (octal_high b e))

abbrev stops_digits : List ℕ → Bool
stops_digits s = not (begins is_hexadecimal s)

not_true : (t : Bool) → not t ≡ true → t ≡ false
not_true true e = absurd (let k : false ≡ true = e in cc)
not_true false e = refl

suffix_stops : (s : List ℕ) → IsAmong s suffixes → begins is_hexadecimal s ≡ false
suffix_stops s h = not_true (begins is_hexadecimal s) (among_pass stops_digits suffixes s refl h)

abbrev writes_zero : List ℕ → Bool
writes_zero s = number_behind_zero s == 0

first_decimal : (b : ℕ) → is_between 49 57 b ≡ true → is_decimal b ≡ true
first_decimal b e = digit_between b (leb-true 49 b (and_true (nat_le 49 b) (nat_le b 57) e).0) (leb-true b 57 (and_true (nat_le 49 b) (nat_le b 57) e).1)

pub integer_is : (digits : List ℕ) (n : ℕ) → IsNumeral digits n → (suffix : List ℕ) → IsAmong suffix suffixes → integer_number (digits ++ suffix) ≡ n
integer_is digits n (Decimal first rest e all) suffix h =
    ap (λ t. cond t (number_behind_zero (rest ++ suffix)) (number_from 10 0 (first ∷ (rest ++ suffix)))) (no_zero first (leb-true 49 first (and_true (nat_le 49 first) (nat_le first 57) e).0))
    ∙ number_exact 10 0 (first ∷ rest) suffix (decimal_hexadecimal first (first_decimal first e), weaker is_decimal is_hexadecimal decimal_hexadecimal rest all) (suffix_stops suffix h)
integer_is digits n (Octal [] all) suffix h = eqb-true (number_behind_zero suffix) 0 (among_pass writes_zero suffixes suffix refl h)
integer_is digits n (Octal (r ∷ rs) all) suffix h =
    ap (λ t. cond t (number_from 16 0 (rs ++ suffix)) (number_from 8 0 (r ∷ (rs ++ suffix)))) (no_mark r (octal_high r all.0))
    ∙ number_exact 8 0 (r ∷ rs) suffix (weaker is_octal is_hexadecimal octal_hexadecimal (r ∷ rs) all) (suffix_stops suffix h)
integer_is digits n (Hexadecimal x first rest mark all) suffix h =
    ap (λ t. cond t (number_from 16 0 (first ∷ (rest ++ suffix))) (number_from 8 0 (x ∷ first ∷ (rest ++ suffix)))) (is_mark x mark)
    ∙ number_exact 16 0 (first ∷ rest) suffix all (suffix_stops suffix h)

simple_is : (b n : ℕ) → IsSimpleEscape b n → escape_number (b ∷ 39 ∷ []) ≡ n
simple_is b n NewLine = refl
simple_is b n Tab = refl
simple_is b n Return = refl
simple_is b n Alert = refl
simple_is b n Backspace = refl
simple_is b n FormFeed = refl
simple_is b n VerticalTab = refl
simple_is b n Backslash = refl
simple_is b n Quote = refl
simple_is b n DoubleQuote = refl
simple_is b n Question = refl

pub character_is : (inside : List ℕ) (n : ℕ) → IsCharacterOf inside n → inside_number (inside ++ 39 ∷ []) ≡ n
character_is inside n (Plain b e quote slash) = ap (λ t. cond t (escape_number (39 ∷ [])) b) (not_equal b 92 (b == 92) refl slash)
character_is inside n (Simple b m h) = simple_is b m h
character_is inside n (OctalEscape first rest all le) =
    ap (λ t. cond t (number_from 16 0 (rest ++ 39 ∷ [])) (cond (is_octal first) (number_from 8 0 (first ∷ (rest ++ 39 ∷ []))) (simple_number first))) (octal_no_x first (octal_high first all.0))
    ∙ ap (λ t. cond t (number_from 8 0 (first ∷ (rest ++ 39 ∷ []))) (simple_number first)) all.0
    ∙ number_exact 8 0 (first ∷ rest) (39 ∷ []) (weaker is_octal is_hexadecimal octal_hexadecimal (first ∷ rest) all) refl
character_is inside n (HexadecimalEscape first rest all) = number_exact 16 0 (first ∷ rest) (39 ∷ []) all refl

-- what follows
not_next : (set : Bytes) (after : List ℕ) → begins set after ≡ false → IsNotNext set after
not_next set [] e = tt
not_next set (b ∷ bs) e = e

next_not : (set : Bytes) (after : List ℕ) → IsNotNext set after → begins set after ≡ false
next_not set [] h = refl
next_not set (b ∷ bs) h = h

is_false : (t : Bool) → t ≡ false → not t ≡ true
is_false t e = ap not e

only_is : (byte : ℕ) (word : List ℕ) → is_only byte word ≡ true → word ≡ byte ∷ []
only_is byte [] e = absurd (let k : false ≡ true = e in cc)
only_is byte (b ∷ []) e = ap (λ x. x ∷ []) (eqb-true b byte e)
only_is byte (b ∷ c ∷ cs) e = absurd (let k : false ≡ true = e in cc)

-- the test tells the tokens
integer_below : (n : ℕ) → nat_le n 4294967295 ≡ true → n < 2 ^ 32
integer_below n e = let le : n ≤ 4294967295 = leb-true n 4294967295 e in omega arith

below_integer : (n : ℕ) → n < 2 ^ 32 → nat_le n 4294967295 ≡ true
below_integer n h = le-leb n 4294967295 (omega arith)

dot_told : (word after : List ℕ) (t u : Bool) → is_only 46 word ≡ t → is_only 47 word ≡ u → cond t (not (begins is_decimal after)) (cond u (not (begins (λ b. b == 42) after)) true) ≡ true → IsToken Punctuator word after
dot_told word after true u e f h = ((λ same. not_next is_decimal after (not_true (begins is_decimal after) h)), λ same. absurd (let k : 46 ∷ [] ≡ 47 ∷ [] = sym (only_is 46 word e) ∙ same in cc))
dot_told word after false true e f h = ((λ same. absurd (let k : is_only 46 word ≡ true = ap (is_only 46) same in let l : true ≡ false = sym k ∙ e in cc)), λ same. not_next (λ b. b == 42) after (not_true (begins (λ b. b == 42) after) h))
dot_told word after false false e f h = ((λ same. absurd (let k : is_only 46 word ≡ true = ap (is_only 46) same in let l : true ≡ false = sym k ∙ e in cc)), λ same. absurd (let k : is_only 47 word ≡ true = ap (is_only 47) same in let l : true ≡ false = sym k ∙ f in cc))

pub token_sound : (kind : TokenKind) (word after : List ℕ) → is_token kind word after ≡ true → IsToken kind word after
token_sound Identifier word after e = leb-true (length word) 127 e
token_sound Keyword word after e = tt
token_sound Integer word after e =
    let both = and_true (not (begins goes_on after)) (nat_le (integer_number word) 4294967295) e in
    (not_next goes_on after (not_true (begins goes_on after) both.0), λ digits suffix n whole numeral h. subst (λ (m : ℕ). m < 2 ^ 32) (ap integer_number whole ∙ integer_is digits n numeral suffix h) (integer_below (integer_number word) both.1))
token_sound Character word after e = λ inside n whole h. subst (λ (m : ℕ). m ≤ 255) (ap character_number whole ∙ character_is inside n h) (leb-true (character_number word) 255 e)
token_sound Punctuator word after e = dot_told word after (is_only 46 word) (is_only 47 word) refl refl e

both_true : (a b : Bool) → a ≡ true → b ≡ true → (a && b) ≡ true
both_true a b e f = ap (λ x. x && b) e ∙ f

told_dot : (word after : List ℕ) (t u : Bool) → is_only 46 word ≡ t → is_only 47 word ≡ u → IsToken Punctuator word after → cond t (not (begins is_decimal after)) (cond u (not (begins (λ b. b == 42) after)) true) ≡ true
told_dot word after true u e f h = is_false (begins is_decimal after) (next_not is_decimal after (h.0 (only_is 46 word e)))
told_dot word after false true e f h = is_false (begins (λ b. b == 42) after) (next_not (λ b. b == 42) after (h.1 (only_is 47 word f)))
told_dot word after false false e f h = refl

pub token_complete : (kind : TokenKind) (word : List ℕ) → IsLexeme kind word → (after : List ℕ) → IsToken kind word after → is_token kind word after ≡ true
token_complete kind word (IsIdentifier first rest e all h) after t = le-leb (length (first ∷ rest)) 127 t
token_complete kind word (IsKeyword w h) after t = refl
token_complete kind word (IsInteger digits suffix n numeral h) after t =
    both_true (not (begins goes_on after)) (nat_le (integer_number (digits ++ suffix)) 4294967295) (is_false (begins goes_on after) (next_not goes_on after t.0)) (ap (λ m. nat_le m 4294967295) (integer_is digits n numeral suffix h) ∙ below_integer n (t.1 digits suffix n refl numeral h))
token_complete kind word (IsCharacter inside n h) after t = ap (λ m. nat_le m 255) (character_is inside n h) ∙ le-leb n 255 (t inside n refl h)
token_complete kind word (IsPunctuator w h) after t = told_dot w after (is_only 46 w) (is_only 47 w) refl refl t

-- the longest lexeme is one only
same_front : (xs ys ps qs : List ℕ) → xs ++ ps ≡ ys ++ qs → length xs ≡ length ys → xs ≡ ys
same_front xs ys ps qs e l = sym (take_at xs ps (length xs) refl) ∙ ap (take (length xs)) e ∙ take_at ys qs (length xs) (sym l)

same_back : (xs ys ps qs : List ℕ) → xs ++ ps ≡ ys ++ qs → length xs ≡ length ys → ps ≡ qs
same_back xs ys ps qs e l = sym (drop_at xs ps (length xs) refl) ∙ ap (drop (length xs)) e ∙ drop_at ys qs (length xs) (sym l)

pub record Same (here : List ℕ) (kind : TokenKind) (word after other : List ℕ) (k : TokenKind) (end : List ℕ) : Type 0 where
  pub words : other ≡ word
  pub afters : end ≡ after
  pub kinds : k ≡ kind

pub one_longest : (here : List ℕ) (kind : TokenKind) (word after : List ℕ) (k : TokenKind) (other end : List ℕ) → IsLongest here kind word after → IsLongest here k other end → Same here kind word after other k end
one_longest here kind word after k other end a b =
    let one : length other ≤ length word = a.longest k other end b.parts b.lexeme in
    let two : length word ≤ length other = b.longest kind word after a.parts a.lexeme in
    let same : length other ≡ length word = omega arith in
    let whole : other ++ end ≡ word ++ after = sym b.parts ∙ a.parts in
    let w : other ≡ word = same_front other word end after whole same in
    record {
      words = w;
      afters = same_back other word end after whole same;
      kinds = sym (lexeme_kind k other b.lexeme) ∙ ap kind_of w ∙ lexeme_kind kind word a.lexeme;
    }

-- what the scan says of a place
pub none_here : (here : List ℕ) → None ≡ behind_lexeme here → HasNoToken here
none_here here e kind word after l t =
    let c = complete kind word l.lexeme after in
    let k : None ≡ Some c.0 = e ∙ ap behind_lexeme l.parts ∙ c.1 in absurd (cc)

pub scan_longest : (here after : List ℕ) → Some after ≡ behind_lexeme here → (word : List ℕ) × IsLongest here (kind_of word) word after × (word ≡ take (length here - length after) here)
scan_longest here after e =
    let l = longest here after (sym e) in
    let word = (sound here after (sym e)).word in
    let len : length here ≡ length word + length after = ap length l.parts ∙ length-append word after in
    let n : length word ≡ length here - length after = omega arith in
    (word, l, sym (take_at word after (length here - length after) n) ∙ ap (take (length here - length after)) (sym l.parts))

pub told_here : (here after word : List ℕ) (kind : TokenKind) → Some after ≡ behind_lexeme here → word ≡ take (length here - length after) here → kind ≡ kind_of word → true ≡ is_token kind word after → IsLongest here kind word after × IsToken kind word after
told_here here after word kind e w k t =
    let s = scan_longest here after e in
    let same : s.0 ≡ word = s.2 ∙ sym w in
    let kinds : kind_of s.0 ≡ kind = ap kind_of same ∙ sym k in
    let one : IsLongest here kind s.0 after = subst (λ (x : TokenKind). IsLongest here x s.0 after) kinds s.1 in
    (subst (λ (x : List ℕ). IsLongest here kind x after) same one, token_sound kind word after (sym t))

pub refused_here : (here after word : List ℕ) (kind : TokenKind) → Some after ≡ behind_lexeme here → word ≡ take (length here - length after) here → kind ≡ kind_of word → false ≡ is_token kind word after → HasNoToken here
refused_here here after word kind e w k t other longer end l is =
    let s = scan_longest here after e in
    let same : s.0 ≡ word = s.2 ∙ sym w in
    let kinds : kind_of s.0 ≡ kind = ap kind_of same ∙ sym k in
    let one = one_longest here (kind_of s.0) s.0 after other longer end s.1 l in
    let yes : is_token other longer end ≡ true = token_complete other longer l.lexeme end is in
    let moved : is_token other longer end ≡ is_token kind word after = ap (λ x. is_token x longer end) (one.kinds ∙ kinds) ∙ ap (λ x. is_token kind x end) (one.words ∙ same) ∙ ap (is_token kind word) one.afters in
    let bad : false ≡ true = t ∙ sym moved ∙ yes in cc
