-- What the bytes of a C file are: those of a program, or of a file that has none, for one of four causes. This project's own. By the tree that the grammar gives the bytes, and the lists of all its faults and of all counts that it passes; the code stops at the first.
use Rattle.std.specs.Prelude.{◌≡◌, ℕ, List, [], length, Some, Result, Ok, Err, slice_get}
use Rattle.c_tree.specs.Trees.{FileTree}
use Rattle.c_reading.specs.Answers.{tree, syntax_fault, too_deep}
use Rattle.c_reading.specs.FileAnswers.{IsFileAnswer}
use Rattle.clight_lang.specs.declared.program.Program as code
use Rattle.clight_lang.specs.Meaning.{ProgramOf, program_of}
use Rattle.clight_types.specs.declared.rule.Fault.{Fault}
use Rattle.clight_types.specs.Judged.{made_of}
use Rattle.clight_types.specs.Rules.{rule_number}
use Rattle.clight_files.specs.Files.{file_judged, file_faults}
use Rattle.clight_meaning.specs.Counts.{passed_counts}
use Rattle.clight_counts.specs.PassedOf.{first_passed}
use Rattle.clight_laws.specs.Laws.{Means}
use Rattle.clight_front.specs.declared.fronts.FrontRefusal.{FrontRefusal}
use Rattle.clight_front.specs.declared.fronts.FrontRefusal.TheVariants as refusal

-- the bytes are a file that means this program
pub record HasProgram (bytes : List ℕ) (p : ProgramOf) : Type 0 where
  pub file : FileTree
  pub read : IsFileAnswer bytes (tree file)
  pub means : Means (length bytes) file p

-- they are a file whose first fault is of this rule, at this byte
pub record BreaksRule (bytes : List ℕ) (rule at : ℕ) : Type 0 where
  pub file : FileTree
  pub read : IsFileAnswer bytes (tree file)
  pub fault : Fault
  pub first : slice_get (file_faults (length bytes) file) 0 ≡ Some fault
  pub number : rule ≡ rule_number fault.rule
  pub place : at ≡ fault.at

-- they are a file without faults that passes this count first, at this byte
pub record PassesCount (bytes : List ℕ) (count at : ℕ) : Type 0 where
  pub file : FileTree
  pub read : IsFileAnswer bytes (tree file)
  pub faultless : file_faults (length bytes) file ≡ []
  pub first : first_passed (passed_counts (length bytes) file (made_of (file_judged (length bytes) file))) ≡ Some (record { count = count; at = at })

-- what bytes can be
pub data Answer : Type 0 where
  Program : ProgramOf → Answer
  Rule : (rule at : ℕ) → Answer
  Count : (count at : ℕ) → Answer
  Syntax : (at : ℕ) → Answer
  TooDeep : (at : ℕ) → Answer

abbrev pub IsFront : List ℕ → Answer → Type 0
IsFront bytes (Program p) = HasProgram bytes p
IsFront bytes (Rule rule at) = BreaksRule bytes rule at
IsFront bytes (Count count at) = PassesCount bytes count at
IsFront bytes (Syntax at) = IsFileAnswer bytes (syntax_fault at)
IsFront bytes (TooDeep at) = IsFileAnswer bytes (too_deep at)

-- what the front end answers, unless memory lacked
abbrev pub Fronts : List ℕ → Result code.Program FrontRefusal → Type 0
Fronts bytes (Ok p) = IsFront bytes (Program (program_of p))
Fronts bytes (Err (refusal.Syntax at)) = IsFront bytes (Syntax at)
Fronts bytes (Err (refusal.TooDeep at)) = IsFront bytes (TooDeep at)
Fronts bytes (Err (refusal.Types rule at)) = IsFront bytes (Rule rule at)
Fronts bytes (Err (refusal.TooLarge count at)) = IsFront bytes (Count count at)
Fronts bytes (Err refusal.NoMemory) = Unit {0}
