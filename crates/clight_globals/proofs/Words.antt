-- The bytes of a word, one by one.
use Rattle.std.proofs.Common.{◌≡◌, ℕ, zero, suc, ◌+◌, ◌-◌, ◌/◌, ◌%◌, ◌<◌, List, [], ◌∷◌, ◌++◌, sym, ap, ◌∙◌, append_assoc, arith}
use Rattle.std.proofs.lemmas.List.{append-nil}
use Rattle.clight_globals.specs.Globals.{word_bytes}

-- no byte is left
pub no_bytes : (bytes all : List ℕ) (w n k : ℕ) → n ≡ k → bytes ++ word_bytes w (n - k) ≡ all → bytes ≡ all
no_bytes bytes all w n k same h =
    let none : n - k ≡ zero = omega arith in
    sym (append-nil bytes) ∙ sym (ap (λ m. bytes ++ word_bytes w m) none) ∙ h

-- one byte more
pub next_byte : (bytes new all : List ℕ) (w n k : ℕ) → k < n → new ≡ bytes ++ w % 256 ∷ [] → bytes ++ word_bytes w (n - k) ≡ all → new ++ word_bytes (w / 256) (n - (k + 1)) ≡ all
next_byte bytes new all w n k within grown h =
    let one : n - k ≡ suc (n - (k + 1)) = omega arith in
    ap (λ bs. bs ++ word_bytes (w / 256) (n - (k + 1))) grown
    ∙ append_assoc bytes (w % 256 ∷ []) (word_bytes (w / 256) (n - (k + 1)))
    ∙ sym (ap (λ m. bytes ++ word_bytes w m) one)
    ∙ h
