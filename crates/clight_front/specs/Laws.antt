-- The law that bytes have one answer.
use Rattle.std.specs.Prelude.{◌≡◌, ℕ, List}
use Rattle.clight_front.specs.Fronts.{Answer, IsFront}

-- no bytes have two answers
abbrev pub AnswersAreAlone : Type 0
AnswersAreAlone = (bytes : List ℕ) (a b : Answer) → IsFront bytes a → IsFront bytes b → a ≡ b
