-- The order in which less is known: Undef may become any word, and a blank cell any byte (after the "less defined" of CompCert's value orders; here a value that is known stays as it is).
use Rattle.std.specs.Prelude.{◌≡◌, List, Option, Some, None}
use Rattle.std.specs.List.{AllZip}
use Rattle.tso_words.specs.declared.value.Val.{Val}
use Rattle.tso_words.specs.declared.value.Val.TheVariants.{Undef, Word}
use Rattle.tso_words.specs.declared.value.Cell.{Cell}
use Rattle.tso_words.specs.declared.value.Cell.TheVariants.{Blank, Byte}

-- the first value is not known, or is the second
abbrev pub ValBelow : Val → Val → Type 0
ValBelow Undef w = Unit {0}
ValBelow (Word a) w = w ≡ Word a

-- the first cell is blank, or is the second
abbrev pub CellBelow : Cell → Cell → Type 0
CellBelow Blank d = Unit {0}
CellBelow (Byte b) d = d ≡ Byte b

-- as many, and each below the one at its place
abbrev pub ValsBelow : List Val → List Val → Type 0
ValsBelow = AllZip ValBelow

abbrev pub CellsBelow : List Cell → List Cell → Type 0
CellsBelow = AllZip CellBelow

-- where the first answers, the second does too, and the answers are so related; a wrong first says nothing of the second
abbrev pub AnswerBelow : {A B : Type 0} → (A → B → Type 0) → Option A → Option B → Type 0
AnswerBelow R None answer = Unit {0}
AnswerBelow R (Some v) None = ⊥
AnswerBelow R (Some v) (Some w) = R v w
