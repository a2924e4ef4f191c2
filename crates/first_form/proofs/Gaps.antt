-- A gap that is not empty begins with no byte that goes on a word.
use Rattle.std.proofs.Common.{◌≡◌, ℕ, List, ◌∷◌, ◌++◌, refl, sym, ◌∙◌, ap, Bool, true, false, inl, inr, ◌⊎◌, arith, append_assoc}
use Rattle.std.specs.Prelude.{◌≢◌}
use Rattle.std.proofs.lemmas.Bool.Decides.{nat_tests}
use Rattle.c_tokens.specs.Tokens.{Gap, NoMore, Space, LineFeed, LineComment, BlockComment, LineMarker, is_space, goes_on}
use Rattle.c_tokens.specs.Scanning.{begins}
use Rattle.c_tokens.proofs.Words.{gap_parts}
use Rattle.first_form.specs.Form.{Piece, Spells}

space_stops : (b : ℕ) → is_space b ≡ true → goes_on b ≡ false
space_stops b e = grind (arith, nat_tests)

gap_stops : (fresh : Bool) (rest : List ℕ) (now : Bool) (end : List ℕ) → Gap fresh rest now end → (rest ≡ end) ⊎ (begins goes_on rest ≡ false)
gap_stops fresh rest now end (NoMore f r) = inl refl
gap_stops fresh rest now end (Space f n b r e h g) = inr (space_stops b h)
gap_stops fresh rest now end (LineFeed f n r e g) = inr refl
gap_stops fresh rest now end (LineComment f n text r e h i g) = inr refl
gap_stops fresh rest now end (BlockComment f n text r e h g) = inr refl
gap_stops fresh rest now end (LineMarker n spaces digit text r e h d i j g) = inr refl

-- the next word of a list, with the gap before it
pub record Next (piece : Piece) (pieces : List Piece) (fresh : Bool) (rest : List ℕ) : Type 0 where
  pub now : Bool
  pub after : List ℕ
  pub gap : Gap fresh rest now (piece.word ++ after)
  pub is_apart : piece.joins ≡ false → rest ≢ piece.word ++ after
  pub more : Spells pieces false after

pub next : (piece : Piece) (pieces : List Piece) (fresh : Bool) (rest : List ℕ) → Spells (piece ∷ pieces) fresh rest → Next piece pieces fresh rest
next piece pieces fresh rest (now, after, gap, is_apart, more) = record { now = now; after = after; gap = gap; is_apart = is_apart; more = more }

-- no word goes on before a word that stands apart, nor before one that begins with another byte
pub stops_apart : (piece : Piece) (pieces : List Piece) (fresh : Bool) (rest : List ℕ) → piece.joins ≡ false → Next piece pieces fresh rest → begins goes_on rest ≡ false
stops_apart piece pieces fresh rest e n = elim (gap_stops fresh rest n.now (piece.word ++ n.after) n.gap) [ inl none ↦ absurd (n.is_apart e none) | inr stops ↦ stops ]

pub stops_joined : (piece : Piece) (pieces : List Piece) (fresh : Bool) (rest : List ℕ) (n : Next piece pieces fresh rest) → begins goes_on (piece.word ++ n.after) ≡ false → begins goes_on rest ≡ false
stops_joined piece pieces fresh rest n e = elim (gap_stops fresh rest n.now (piece.word ++ n.after) n.gap) [ inl none ↦ ap (begins goes_on) none ∙ e | inr stops ↦ stops ]

-- where what is left stands in a file
abbrev pub EndsWith : List ℕ → List ℕ → Type 0
EndsWith bytes rest = (front : List ℕ) × (bytes ≡ front ++ rest)

pub ends_behind : (bytes rest : List ℕ) (fresh now : Bool) (word after : List ℕ) → EndsWith bytes rest → Gap fresh rest now (word ++ after) → EndsWith bytes after
ends_behind bytes rest fresh now word after at gap =
    let q = gap_parts fresh rest now (word ++ after) gap in
    ((at.0 ++ q.0) ++ word, at.1 ∙ ap (λ xs. at.0 ++ xs) q.1 ∙ sym (append_assoc at.0 q.0 (word ++ after)) ∙ sym (append_assoc (at.0 ++ q.0) word after))

pub word_at : (bytes rest : List ℕ) (fresh now : Bool) (here : List ℕ) → EndsWith bytes rest → Gap fresh rest now here → EndsWith bytes here
word_at bytes rest fresh now here at gap =
    let q = gap_parts fresh rest now here gap in
    (at.0 ++ q.0, at.1 ∙ ap (λ xs. at.0 ++ xs) q.1 ∙ sym (append_assoc at.0 q.0 here))
