-- A file has one list of tokens of the grammar, and words for them.
use Rattle.std.proofs.Common.{◌≡◌, ℕ, suc, List, [], ◌∷◌, Option, Some, None, option_map, codes, refl, sym, ◌∙◌, ap, ap₂, subst, inl, arith}
use Rattle.std.specs.Prelude.{All, slice_range}
use Rattle.std.specs.List.{list_any}
use Rattle.c_tokens.specs.declared.token.TokenKind.{TokenKind}
use Rattle.c_tokens.specs.declared.token.TokenKind.TheVariants.{Identifier, Keyword, Integer, Character, Punctuator}
use Rattle.c_tokens.specs.declared.token.Token as scanned
use Rattle.c_tokens.specs.declared.constant.IntegerConstant.{IntegerConstant}
use Rattle.c_tokens.specs.Lexemes.{IsKeyword}
use Rattle.c_tokens.specs.Constants.{IsIntegerOf, IsCharacterIn, IsWordOf, is_unsigned_mark}
use Rattle.c_tokens.specs.Scanning.{integer_number, character_number, is_decimal_word}
use Rattle.c_tokens.proofs.Told.{integer_is, character_is}
use Rattle.c_tokens.proofs.Values.{told_decimal, marked}
use Rattle.c_tokens.proofs.Unique.{one_list}
use Rattle.c_tokens.proofs.Words.{words_of}
use Rattle.c_grammar.specs.Tokens as k
use Rattle.c_reading.specs.FileTokens.{AreFileTokens}
use Rattle.c_reading.specs.Kinds.{kind_of, look_up, fixed_words}
use Rattle.c_reading.specs.Words as w
use Rattle.c_round_trip.specs.RoundTrip.{IsWritten, AllWritten}
use Rattle.c_reading.specs.Words.{IsFixed, number_by, number_of, IsKindOf, bad_token, AreTokensOf, Void, Auto, IsName, IsPunctuator, IsInteger, IsCharacter, NoMore, OneMore}

-- ## One token for a word

fixed_found : (word : List ℕ) (kind : k.Kind) → w.IsFixed word kind → option_map (kind_of word) (look_up fixed_words word) ≡ Some kind
fixed_found _ _ w.Void = refl
fixed_found _ _ _ = refl

one_fixed : (word : List ℕ) (kind other : k.Kind) → w.IsFixed word kind → w.IsFixed word other → kind ≡ other
one_fixed word kind other f g = let e : Some kind ≡ Some other = sym (fixed_found word kind f) ∙ fixed_found word other g in cc

-- what the digits and the suffix of a word tell
abbrev number_read : List ℕ → k.Number
number_read word = w.number_by (is_decimal_word word) (list_any is_unsigned_mark word) (integer_number word)

integer_read : (word : List ℕ) (c : IntegerConstant) → IsIntegerOf word c → w.number_of c ≡ number_read word
integer_read word c i =
    let value : c.value ≡ integer_number word = sym (ap integer_number i.parts ∙ integer_is i.digits c.value i.numeral i.suffix i.ending) in
    let decimal : c.is_decimal ≡ is_decimal_word word = i.decimal ∙ sym (ap is_decimal_word i.parts ∙ told_decimal i.digits i.suffix c.value i.numeral i.ending) in
    let unsigned : c.is_unsigned ≡ list_any is_unsigned_mark word = i.unsigned ∙ sym (ap (λ x. list_any is_unsigned_mark x) i.parts ∙ marked i.digits i.suffix c.value i.numeral) in
    ap (λ x. w.number_by x c.is_unsigned c.value) decimal ∙ ap₂ (w.number_by (is_decimal_word word)) unsigned value

character_read : (word : List ℕ) (n : ℕ) → IsCharacterIn word n → n ≡ character_number word
character_read word n i = sym (ap character_number i.parts ∙ character_is i.inside n i.character)

-- the token that a word of the kind is
abbrev IsRead : TokenKind → List ℕ → k.Kind → Type 0
IsRead lexeme word kind = (other : k.Kind) → w.IsKindOf lexeme word other → kind ≡ other

read_name : (word : List ℕ) → IsRead Identifier word (k.Name word)
read_name word _ (w.IsName _) = refl

read_keyword : (word : List ℕ) (kind : k.Kind) → w.IsFixed word kind → IsRead Keyword word kind
read_keyword word kind f _ (w.IsKeyword _ other g) = one_fixed word kind other f g

read_punctuator : (word : List ℕ) (kind : k.Kind) → w.IsFixed word kind → IsRead Punctuator word kind
read_punctuator word kind f _ (w.IsPunctuator _ other g) = one_fixed word kind other f g

read_integer : (word : List ℕ) (c : IntegerConstant) → IsIntegerOf word c → IsRead Integer word (k.Constant (w.number_of c))
read_integer word c i _ (w.IsInteger _ d j) = ap k.Constant (integer_read word c i ∙ sym (integer_read word d j))

read_character : (word : List ℕ) (n : ℕ) → IsCharacterIn word n → IsRead Character word (k.Constant (k.Character n))
read_character word n i _ (w.IsCharacter _ m j) = ap (λ x. k.Constant (k.Character x)) (character_read word n i ∙ sym (character_read word m j))

one_kind : (lexeme : TokenKind) (word : List ℕ) (kind : k.Kind) → w.IsKindOf lexeme word kind → IsRead lexeme word kind
one_kind _ _ _ (w.IsName word) = read_name word
one_kind _ _ _ (w.IsKeyword word kind f) = read_keyword word kind f
one_kind _ _ _ (w.IsPunctuator word kind f) = read_punctuator word kind f
one_kind _ _ _ (w.IsInteger word c i) = read_integer word c i
one_kind _ _ _ (w.IsCharacter word n i) = read_character word n i

same_words : (bytes : List ℕ) (bad : Option ℕ) (list : List scanned.Token) (ts us : List k.Token) → w.AreTokensOf bytes bad list ts → w.AreTokensOf bytes bad list us → ts ≡ us
same_words bytes bad _ _ us w.NoMore b = none us b
  where
    none : (us : List k.Token) → w.AreTokensOf bytes bad [] us → w.bad_token bad ≡ us
    none _ w.NoMore = refl
same_words bytes bad _ _ us (w.OneMore t list kind ts is more) b = some us b (λ vs more'. same_words bytes bad list ts vs more more')
  where
    some : (us : List k.Token) → w.AreTokensOf bytes bad (t ∷ list) us → ((vs : List k.Token) → w.AreTokensOf bytes bad list vs → ts ≡ vs) → k.token kind t.from ∷ ts ≡ us
    some _ (w.OneMore _ _ other vs is' more') later = ap₂ (λ x xs. k.token x t.from ∷ xs) (one_kind t.kind (slice_range bytes t.from t.to) kind is other is') (later vs more')

-- the bytes of a file have one list of tokens of the grammar
pub one_tokens : (bytes : List ℕ) (ts us : List k.Token) → AreFileTokens bytes ts → AreFileTokens bytes us → ts ≡ us
one_tokens bytes ts us a b =
    let same = one_list bytes a.scanned b.scanned a.bad b.bad a.exact b.exact in
    let P : List scanned.Token → Type 0 = λ list. w.AreTokensOf bytes b.bad list us in
    let moved : w.AreTokensOf bytes b.bad a.scanned us = subst P (sym same.0) b.each in
    let Q : Option ℕ → Type 0 = λ o. w.AreTokensOf bytes o a.scanned us in
    same_words bytes a.bad a.scanned ts us a.each (subst Q (sym same.1) moved)

-- ## Words for the tokens

-- the bad token is as a keyword that no rule has
refused_written : IsWritten k.Refused
refused_written = (Keyword, codes "auto", (IsKeyword (codes "auto") (inl refl), ([], tt)), w.IsKeyword (codes "auto") k.Refused w.Auto)

bad_written : (bad : Option ℕ) → AllWritten (w.bad_token bad)
bad_written None = tt
bad_written (Some place) = (refused_written, tt)

first_of : (P : scanned.Token → Type 0) (t : scanned.Token) (ts : List scanned.Token) → All P (t ∷ ts) → P t
first_of P t ts all = all 0 t (omega arith)

later_of : (P : scanned.Token → Type 0) (t : scanned.Token) (ts : List scanned.Token) → All P (t ∷ ts) → All P ts
later_of P t ts all = λ i d lt. all (suc i) d (omega arith)

written_by : (bytes : List ℕ) (bad : Option ℕ) (list : List scanned.Token) (ts : List k.Token) → w.AreTokensOf bytes bad list ts → All (IsWordOf bytes) list → AllWritten ts
written_by bytes bad _ _ w.NoMore all = bad_written bad
written_by bytes bad _ _ (w.OneMore t list kind ts is more) all =
    ((t.kind, slice_range bytes t.from t.to, first_of (IsWordOf bytes) t list all, is), written_by bytes bad list ts more (later_of (IsWordOf bytes) t list all))

-- each token of a file is some word
pub all_written : (bytes : List ℕ) (ts : List k.Token) → AreFileTokens bytes ts → AllWritten ts
all_written bytes ts a = written_by bytes a.bad a.scanned ts a.each (words_of bytes a.scanned a.bad a.exact)
