-- Words that are the tokens of a file spell it.
use Rattle.std.proofs.Common.{◌≡◌, ℕ, ◌-◌, List, [], ◌∷◌, ◌++◌, length, map, refl, sym, ◌∙◌, ap, subst, Option, None, Bool, true, false, cond, arith, append_assoc, length-append}
use Rattle.std.specs.Prelude.{◌≢◌}
use Rattle.c_tokens.specs.declared.token.TokenKind.{TokenKind}
use Rattle.c_tokens.specs.declared.token.TokenKind.TheVariants.{Identifier, Keyword}
use Rattle.c_tokens.specs.declared.token.Token.{Token}
use Rattle.c_tokens.specs.Lexemes.{AllOf, is_letter, is_letter_or_digit, IsLexeme, keywords}
use Rattle.c_tokens.specs.Tokens.{Gap, IsLongest, TokensFrom, AtEnd, AtToken, AtBad}
use Rattle.c_tokens.specs.Scanning.{begins, among}
use Rattle.c_tokens.proofs.Sound.{keyword_cases, all_both}
use Rattle.first_form.specs.Form.{Piece, Spells, word_in}
use Rattle.first_form.proofs.Gaps.{EndsWith, ends_behind, word_at}
use Rattle.first_form.proofs.Listed.{word_is}

-- a word of letters and digits that begins with a letter
abbrev pub IsWord : List ℕ → Type 0
IsWord word = (begins is_letter word ≡ true) × AllOf is_letter_or_digit word

longer : (b : ℕ) (bs : List ℕ) (c : ℕ) → is_letter b ≡ true → AllOf is_letter_or_digit (b ∷ bs) → is_letter_or_digit c ≡ true → IsLexeme (cond (among keywords (b ∷ bs ++ c ∷ [])) Keyword Identifier) (b ∷ bs ++ c ∷ [])
longer b bs c first all last = keyword_cases b (bs ++ c ∷ []) (among keywords (b ∷ bs ++ c ∷ [])) refl first (all_both is_letter_or_digit bs (c ∷ []) all.1 (last, tt))

-- behind a word that is a token no letter or digit stands
goes_no_further : (here : List ℕ) (kind : TokenKind) (word after : List ℕ) → IsLongest here kind word after → IsWord word → begins is_letter_or_digit after ≡ true → ⊥
goes_no_further here kind word [] l w e = let k : false ≡ true = e in cc
goes_no_further here kind [] (c ∷ cs) l w e = let k : false ≡ true = w.0 in cc
goes_no_further here kind (b ∷ bs) (c ∷ cs) l w e =
    let whole : here ≡ (b ∷ bs ++ c ∷ []) ++ cs = l.parts ∙ sym (append_assoc (b ∷ bs) (c ∷ []) cs) in
    let short = l.longest _ (b ∷ bs ++ c ∷ []) cs whole (longer b bs c w.0 w.1 e) in
    let long = length-append (b ∷ bs) (c ∷ []) in
    omega arith

-- the first word of a list does not follow another at once, unless it may
abbrev pub IsApart : List ℕ → List Piece → Type 0
IsApart rest [] = Unit {0}
IsApart rest (piece ∷ pieces) = piece.joins ≡ false → (after : List ℕ) → rest ≢ piece.word ++ after

-- each word that stands apart begins with a letter or digit, and so does the one before it
abbrev pub AreLinked : List ℕ → List Piece → Type 0
AreLinked word [] = Unit {0}
AreLinked word (piece ∷ pieces) = (piece.joins ≡ false → IsWord word × (begins is_letter_or_digit piece.word ≡ true)) × AreLinked piece.word pieces

begins_more : (word after : List ℕ) → begins is_letter_or_digit word ≡ true → begins is_letter_or_digit (word ++ after) ≡ true
begins_more [] after e = absurd (let k : false ≡ true = e in cc)
begins_more (b ∷ bs) after e = e

next_apart : (here : List ℕ) (kind : TokenKind) (word after : List ℕ) (pieces : List Piece) → IsLongest here kind word after → AreLinked word pieces → IsApart after pieces
next_apart here kind word after [] l linked = tt
next_apart here kind word after (piece ∷ pieces) l linked = λ e rest same.
    let both = linked.0 e in
    goes_no_further here kind word after l both.0 (ap (begins is_letter_or_digit) same ∙ begins_more piece.word rest both.1)

-- of a whole list
abbrev pub IsLinked : List Piece → Type 0
IsLinked [] = Unit {0}
IsLinked (piece ∷ pieces) = AreLinked piece.word pieces

linked_on : (word : List ℕ) (pieces : List Piece) → AreLinked word pieces → IsLinked pieces
linked_on word [] linked = tt
linked_on word (piece ∷ pieces) linked = linked.1

-- what is left spells the words of its tokens
abbrev words_of : List Piece → List (List ℕ)
words_of pieces = map (λ piece. piece.word) pieces

pub spells : (bytes : List ℕ) (fresh : Bool) (rest : List ℕ) (tokens : List Token) (bad : Option ℕ) → TokensFrom (length bytes) fresh rest tokens bad → bad ≡ None → EndsWith bytes rest → (pieces : List Piece) → map (word_in bytes) tokens ≡ words_of pieces
    → IsApart rest pieces → IsLinked pieces → Spells pieces fresh rest
spells bytes fresh rest tokens bad (AtEnd f n r g) none at [] words apart linked = (n, g)
spells bytes fresh rest tokens bad (AtEnd f n r g) none at (piece ∷ pieces) words apart linked = absurd (cc)
spells bytes fresh rest tokens bad (AtToken f n r here kind word after ts b g p l t more) none at [] words apart linked = absurd (cc)
spells bytes fresh rest tokens bad (AtToken f n r here kind word after ts b g p l t more) none at (piece ∷ pieces) words apart linked =
    let token : Token = record { kind = kind; from = length bytes - length here; to = length bytes - length after } in
    let parts : here ≡ word ++ after = l.parts in
    let at_word : EndsWith bytes (word ++ after) = subst (λ (xs : List ℕ). EndsWith bytes xs) parts (word_at bytes r f n here at g) in
    let read : word_in bytes token ≡ word = ap (λ (xs : List ℕ). word_in bytes (record { kind = kind; from = length bytes - length xs; to = length bytes - length after })) parts ∙ word_is bytes word after at_word in
    let first : word_in bytes token ≡ piece.word = cc in
    let same : word ≡ piece.word = sym read ∙ first in
    let others : map (word_in bytes) ts ≡ words_of pieces = cc in
    let gap : Gap f r n (piece.word ++ after) = subst (λ (xs : List ℕ). Gap f r n xs) (parts ∙ ap (λ (xs : List ℕ). xs ++ after) same) g in
    let link : AreLinked word pieces = subst (λ (xs : List ℕ). AreLinked xs pieces) (sym same) linked in
    (n, after, gap, λ e. apart e after, spells bytes false after ts b more none (ends_behind bytes r f n piece.word after at gap) pieces others (next_apart here kind word after pieces l link) (linked_on word pieces link))
spells bytes fresh rest tokens bad (AtBad f n r here g p some no_token) none at pieces words apart linked = absurd (cc)
