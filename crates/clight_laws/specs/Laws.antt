-- What a file means, and the laws that it is made well, and one program.
use Rattle.std.specs.Prelude.{◌≡◌, ℕ, List, [], length, Some}
use Rattle.c_tree.specs.Trees.{FileTree}
use Rattle.c_reading.specs.Answers.{tree}
use Rattle.c_reading.specs.FileAnswers.{IsFileAnswer}
use Rattle.c_shapes.specs.Shaped.{IsShaped}
use Rattle.clight_lang.specs.Meaning.{ProgramOf}
use Rattle.clight_lang.specs.WellMade.{IsWellMade}
use Rattle.clight_types.specs.Judged.{value, made_of}
use Rattle.clight_files.specs.Files.{FileMade, file_judged, file_faults}
use Rattle.clight_meaning.specs.Counts.{passed_counts}
use Rattle.clight_meaning.specs.Meaning.{program_meant}

-- the program of a file of so many bytes that has no fault and passes no count
pub record Means (size : ℕ) (file : FileTree) (p : ProgramOf) : Type 0 where
  pub made : FileMade
  pub judged : file_judged size file ≡ value made
  pub counted : passed_counts size file made ≡ []
  pub program : program_meant file made ≡ Some p

-- of a tree as the grammar gives it
abbrev pub MeaningsAreWellMade : Type 0
MeaningsAreWellMade = (size : ℕ) (file : FileTree) (p : ProgramOf) → IsShaped file → Means size file p → IsWellMade p

-- of the bytes of a file
abbrev pub ReadMeaningsAreWellMade : Type 0
ReadMeaningsAreWellMade = (bytes : List ℕ) (file : FileTree) (p : ProgramOf) → IsFileAnswer bytes (tree file) → Means (length bytes) file p → IsWellMade p

-- a file without faults, within the counts, has a meaning
abbrev pub MeaningsAreThere : Type 0
MeaningsAreThere = (size : ℕ) (file : FileTree) → IsShaped file → file_faults size file ≡ [] → passed_counts size file (made_of (file_judged size file)) ≡ [] → (p : ProgramOf) × Means size file p

-- and none has two
abbrev pub MeaningsAreUnique : Type 0
MeaningsAreUnique = (size : ℕ) (file : FileTree) (p q : ProgramOf) → Means size file p → Means size file q → p ≡ q
