-- The files that a list of names with their bytes stands for. This project's own; the code looks through the list.
use Rattle.std.specs.Prelude.{◌≡◌, ℕ, ◌<◌, List, [], ◌∷◌, map, length, take, get_or, None, String, Vec, string_bytes}
use Rattle.tso_outside.specs.Views.{Files, held}

abbrev pub entry : {Y Z : Type 0} → String Y × Vec ℕ Z → List ℕ × List ℕ
entry file = (string_bytes file.0, file.1.items)

-- each name with its bytes
abbrev pub entries : {Y Z : Type 0} → List (String Y × Vec ℕ Z) → Files
entries files = map entry files

-- the first file with this name stands at this place
pub record IsPlaceOf (files : Files) (name : List ℕ) (place : ℕ) : Type 0 where
  pub within : place < length files
  pub before : held (take place files) name ≡ None
  pub here : (get_or files place ([], [])).0 ≡ name

-- no name stands twice
abbrev pub AreDistinct : Files → Type 0
AreDistinct [] = Unit {0}
AreDistinct (file ∷ files) = (held files file.0 ≡ None) × AreDistinct files
