-- A text that is laid out with blanks and line feeds has just those tokens, at their places.
use Rattle.std.proofs.Common.{◌≡◌, ℕ, ◌+◌, ◌-◌, Bool, true, false, List, [], ◌∷◌, ◌++◌, length, take, drop, None, refl, sym, ◌∙◌, ap, subst, append_assoc, length-append, inl, inr, arith}
use Rattle.std.specs.Prelude.{slice_range}
use Rattle.std.proofs.lemmas.List.{take_at, drop_at}
use Rattle.c_tokens.specs.declared.token.TokenKind.{TokenKind}
use Rattle.c_tokens.specs.declared.token.Token as scanned
use Rattle.c_tokens.specs.Tokens.{Gap, NoMore, Space, LineFeed, IsLongest, IsToken, TokensFrom, AtEnd, AtToken, Tokens}
use Rattle.c_tokens.proofs.Gaps.{piece_past}
use Rattle.c_tokens.proofs.Told.{told_here}
use Rattle.c_grammar.specs.Tokens as k
use Rattle.c_reading.specs.Words as w
use Rattle.c_reading.specs.Words.{IsKindOf, AreTokensOf, OneMore}
use Rattle.c_round_trip.proofs.Written.{IsSeparator, Scans, Laid, Written, nothing, laid}

-- the word in the middle of a text
middle : (front word after : List ℕ) (size : ℕ) → size ≡ length (front ++ (word ++ after)) → slice_range (front ++ (word ++ after)) (size - length (word ++ after)) (size - length after) ≡ word
middle front word after size whole =
    let a = length-append front (word ++ after) in
    let b = length-append word after in
    let begins : size - length (word ++ after) ≡ length front = omega arith in
    let long : (size - length after) - (size - length (word ++ after)) ≡ length word = omega arith in
    ap (λ i. take ((size - length after) - (size - length (word ++ after))) (drop i (front ++ (word ++ after)))) begins
    ∙ ap (λ n. take n (drop (length front) (front ++ (word ++ after)))) long ∙ ap (λ xs. take (length word) xs) (drop_at front (word ++ after) (length front) refl)
    ∙ take_at word after (length word) refl

start_of_word : (front here : List ℕ) (size n : ℕ) → size ≡ length (front ++ here) → length front ≡ n → size - length here ≡ n
start_of_word front here size n whole e = let a = length-append front here in omega arith

longest : (word : List ℕ) (b : ℕ) (rest : List ℕ) (kind : TokenKind) → Scans kind word → IsSeparator b → IsLongest (word ++ b ∷ rest) kind word (b ∷ rest) × IsToken kind word (b ∷ rest)
longest word b rest kind s sep =
    let long : length (word ++ b ∷ rest) - length (b ∷ rest) ≡ length word = (let e = length-append word (b ∷ rest) in omega arith) in
    told_here (word ++ b ∷ rest) (b ∷ rest) word kind (sym (s.ends b rest sep)) (sym (ap (λ n. take n (word ++ b ∷ rest)) long ∙ take_at word (b ∷ rest) (length word) refl)) (sym s.is)
    (sym (s.holds b rest sep))

-- a blank or a line feed is a gap
one_gap : (b : ℕ) (rest : List ℕ) → IsSeparator b → (now : Bool) × Gap false (b ∷ rest) now rest
one_gap b rest (inl e) = (false, subst (λ c. Gap false (c ∷ rest) false rest) (sym e) (Space false false 32 rest rest refl (NoMore false rest)))
one_gap b rest (inr e) = (true, subst (λ c. Gap false (c ∷ rest) true rest) (sym e) (LineFeed false true rest rest (NoMore true rest)))

-- the tokens of what is left of a text
record LexedFrom (text : List ℕ) (fresh : Bool) (before : List ℕ) (ts : List k.Token) : Type 0 where
  list : List scanned.Token
  lexed : TokensFrom (length text) fresh before list None
  words : w.AreTokensOf text None list ts

lex : (text : List ℕ) (n : ℕ) (ts : List k.Token) (rest : List ℕ) → Laid n ts rest → (front : List ℕ) → text ≡ front ++ rest → length front ≡ n
    → (fresh now : Bool) (before : List ℕ) → Gap fresh before now rest → LexedFrom text fresh before ts
lex text _ _ _ (nothing n) front e long fresh now before gap = record { list = []; lexed = AtEnd fresh now before gap; words = w.NoMore }
lex text _ _ _ (laid n kind word b ts rest is sep more) front e long fresh now before gap =
    let here = word ++ b ∷ rest in
    let next = one_gap b rest sep in
    let told = longest word b rest is.lexeme is.scans sep in
    let onward : text ≡ (front ++ word ++ b ∷ []) ++ rest =
    e ∙ ap (λ xs. front ++ xs) (sym (append_assoc word (b ∷ []) rest)) ∙ sym (append_assoc front (word ++ b ∷ []) rest) ∙ ap (λ xs. xs ++ rest) (sym (append_assoc front word (b ∷ []))) in
    let longer : length (front ++ word ++ b ∷ []) ≡ n + (length word + 1) =
    (let h = length-append (front ++ word) (b ∷ []) in let i = length-append front word in let j : length (b ∷ []) ≡ 1 = refl in omega arith) in
    let a = lex text (n + (length word + 1)) ts rest more (front ++ word ++ b ∷ []) onward longer false next.0 (b ∷ rest) next.1 in
    let size : length text ≡ length (front ++ here) = ap length e in
    let from : length text - length here ≡ n = start_of_word front here (length text) n size long in
    let same : slice_range text (length text - length here) (length text - length (b ∷ rest)) ≡ word =
    ap (λ xs. slice_range xs (length text - length here) (length text - length (b ∷ rest))) e ∙ middle front word (b ∷ rest) (length text) size in
    let t : scanned.Token = record { kind = is.lexeme; from = length text - length here; to = length text - length (b ∷ rest) } in
    record {
      list = t ∷ a.list;
      lexed = AtToken fresh now before here is.lexeme word (b ∷ rest) a.list None gap (piece_past now here (is.scans.begins now b rest sep)) told.0 told.1 a.lexed;
      words = subst (λ m. w.AreTokensOf text None (t ∷ a.list) (k.token kind m ∷ ts)) from
          (w.OneMore t a.list kind ts (subst (λ s. w.IsKindOf is.lexeme s kind) (sym same) is.is_kind) a.words);
    }

pub record Lexed (text : List ℕ) (ts : List k.Token) : Type 0 where
  pub list : List scanned.Token
  pub exact : Tokens text list None
  pub each : w.AreTokensOf text None list ts

-- the tokens of a printed text
pub lex_whole : (ts : List k.Token) (text : List ℕ) → Written ts [] text → Lexed text ts
lex_whole ts text h =
    let a = lex text 0 ts h.rest h.words [] h.parts refl true true h.rest (NoMore true h.rest) in
    record { list = a.list; exact = subst (λ s. TokensFrom (length text) true s a.list None) (sym h.parts) a.lexed; each = a.words }
