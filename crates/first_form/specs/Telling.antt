-- What the private functions that tell the form compute. Only their contracts cite this file.
use Rattle.std.specs.Prelude.{ℕ, ◌≤◌, Bool, true, false, List, [], ◌∷◌, map, bytes_eq, if◌then◌else◌, ◌&&◌, leb}
use Rattle.c_tokens.specs.declared.token.Token.{Token}
use Rattle.first_form.specs.Form.{ten_words, word_in}

-- each token lies in a file of so many bytes
abbrev pub AreWithin : ℕ → List Token → Type 0
AreWithin size [] = Unit {0}
AreWithin size (t ∷ ts) = (t.from ≤ t.to) × (t.to ≤ size) × AreWithin size ts

-- whether the tokens are these words
abbrev pub are_words : List ℕ → List Token → List (List ℕ) → Bool
are_words bytes [] [] = true
are_words bytes [] (w ∷ ws) = false
are_words bytes (t ∷ ts) [] = false
are_words bytes (t ∷ ts) (w ∷ ws) = if bytes_eq (word_in bytes t) w then are_words bytes ts ws else false

-- whether the tokens are the ten words with this number
abbrev pub are_ten : List ℕ → List Token → ℕ → Bool
are_ten bytes tokens n = leb n 2147483647 && are_words bytes tokens (map (λ piece. piece.word) (ten_words n))
