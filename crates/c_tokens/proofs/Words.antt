-- The bytes of each token of a file are a word of its kind.
use Rattle.std.proofs.Common.{◌≡◌, ℕ, zero, suc, ◌-◌, List, [], ◌∷◌, ◌++◌, length, take, drop, refl, sym, ◌∙◌, ap, subst, Option, Bool, true, false, arith, append_assoc, length-append}
use Rattle.std.specs.Prelude.{All, slice_range}
use Rattle.std.proofs.lemmas.List.{take_at, drop_at}
use Rattle.c_tokens.specs.declared.token.Token.{Token}
use Rattle.c_tokens.specs.Tokens.{Gap, NoMore, Space, LineFeed, LineComment, BlockComment, LineMarker, TokensFrom, AtEnd, AtToken, AtBad, Tokens}
use Rattle.c_tokens.specs.Constants.{IsWord, IsWordOf}

abbrev pub Parts : List ℕ → List ℕ → Type 0
Parts rest end = (front : List ℕ) × (rest ≡ front ++ end)

-- a gap is at the front of what is left
pub gap_parts : (fresh : Bool) (rest : List ℕ) (now : Bool) (end : List ℕ) → Gap fresh rest now end → Parts rest end
gap_parts fresh rest now end (NoMore f r) = ([], refl)
gap_parts fresh rest now end (Space f n b r e h g) = let p = gap_parts f r n e g in (b ∷ p.0, ap (λ xs. b ∷ xs) p.1)
gap_parts fresh rest now end (LineFeed f n r e g) = let p = gap_parts true r n e g in (10 ∷ p.0, ap (λ xs. 10 ∷ xs) p.1)
gap_parts fresh rest now end (LineComment f n text r e h i g) =
    let p = gap_parts false r n e g in
    (47 ∷ 47 ∷ text ++ p.0, ap (λ xs. 47 ∷ 47 ∷ text ++ xs) p.1 ∙ ap (λ xs. 47 ∷ 47 ∷ xs) (sym (append_assoc text p.0 e)))
gap_parts fresh rest now end (BlockComment f n text r e h g) =
    let p = gap_parts false r n e g in
    (47 ∷ 42 ∷ text ++ 42 ∷ 47 ∷ p.0, ap (λ xs. 47 ∷ 42 ∷ text ++ 42 ∷ 47 ∷ xs) p.1 ∙ ap (λ xs. 47 ∷ 42 ∷ xs) (sym (append_assoc text (42 ∷ 47 ∷ p.0) e)))
gap_parts fresh rest now end (LineMarker n spaces digit text r e h d i j g) =
    let p = gap_parts false r n e g in
    (35 ∷ spaces ++ digit ∷ text ++ p.0, ap (λ xs. 35 ∷ spaces ++ digit ∷ text ++ xs) p.1 ∙ sym (append_assoc (35 ∷ spaces ++ digit ∷ text) p.0 e))

-- the word in the middle of a file
pub middle : (front word after : List ℕ) (size from to : ℕ) → size ≡ length (front ++ (word ++ after)) → from ≡ size - length (word ++ after) → to ≡ size - length after → slice_range (front ++ (word ++ after)) from to ≡ word
middle front word after size from to whole start end =
    let a = length-append front (word ++ after) in
    let b = length-append word after in
    let begins : from ≡ length front = omega arith in
    let long : to - from ≡ length word = omega arith in
    ap (λ i. take (to - from) (drop i (front ++ (word ++ after)))) begins ∙ ap (λ n. take n (drop (length front) (front ++ (word ++ after)))) long ∙ ap (λ xs. take (length word) xs) (drop_at front (word ++ after) (length front) refl) ∙ take_at word after (length word) refl

all_more : (P : Token → Type 0) (t : Token) (ts : List Token) → P t → All P ts → All P (t ∷ ts)
all_more P t ts h all zero d lt = h
all_more P t ts h all (suc k) d lt = all k d (omega arith)

words_from : (bytes : List ℕ) (fresh : Bool) (rest : List ℕ) (tokens : List Token) (bad : Option ℕ) → TokensFrom (length bytes) fresh rest tokens bad → (front : List ℕ) → bytes ≡ front ++ rest → All (IsWordOf bytes) tokens
words_from bytes fresh rest tokens bad (AtEnd f n r g) front e = λ k d lt. absurd (omega arith)
words_from bytes fresh rest tokens bad (AtToken f n r here kind word after ts b g p l t more) front e =
    let q = gap_parts f r n here g in
    let parts : here ≡ word ++ after = l.parts in
    let at_word : bytes ≡ (front ++ q.0) ++ (word ++ after) = e ∙ ap (λ xs. front ++ xs) q.1 ∙ sym (append_assoc front q.0 here) ∙ ap (λ xs. (front ++ q.0) ++ xs) parts in
    let behind_word : bytes ≡ ((front ++ q.0) ++ word) ++ after = at_word ∙ sym (append_assoc (front ++ q.0) word after) in
    let same : slice_range bytes (length bytes - length here) (length bytes - length after) ≡ word = ap (λ xs. slice_range xs (length bytes - length here) (length bytes - length after)) at_word ∙ middle (front ++ q.0) word after (length bytes) (length bytes - length here) (length bytes - length after) (ap length at_word) (ap (λ xs. length bytes - length xs) parts) refl in
    let is : IsWord kind word = (l.lexeme, (after, t)) in
    all_more (IsWordOf bytes) (record { kind = kind; from = length bytes - length here; to = length bytes - length after }) ts (subst (λ (w : List ℕ). IsWord kind w) (sym same) is) (words_from bytes false after ts b more ((front ++ q.0) ++ word) behind_word)
words_from bytes fresh rest tokens bad (AtBad f n r here g p some none) front e = λ k d lt. absurd (omega arith)

pub words_of : (bytes : List ℕ) (tokens : List Token) (bad : Option ℕ) → Tokens bytes tokens bad → All (IsWordOf bytes) tokens
words_of bytes tokens bad t = words_from bytes true bytes tokens bad t [] refl
