-- What the parts of the front end say of the whole.
use Rattle.std.proofs.Common.{◌≡◌, ℕ, List, length, refl, sym, subst, Result, Ok, Err}
use Rattle.std.specs.Prelude.{IsErrAnd}
use Rattle.c_tree.specs.Trees.{FileTree}
use Rattle.c_reading.specs.Answers.{tree}
use Rattle.c_reading.specs.FileAnswers.{IsFileAnswer}
use Rattle.c_reader.specs.Reading.{Reads}
use Rattle.c_reader.specs.declared.file.ReadFileRefusal.{ReadFileRefusal}
use Rattle.c_reader.specs.declared.file.ReadFileRefusal.TheVariants as reader
use Rattle.clight_lang.specs.declared.program.Program.{Program}
use Rattle.clight_programs.specs.Answers.{Checks}
use Rattle.clight_programs.specs.declared.checks.CheckRefusal.{CheckRefusal}
use Rattle.clight_programs.specs.declared.checks.CheckRefusal.TheVariants as check
use Rattle.clight_front.specs.declared.fronts.FrontRefusal.{FrontRefusal}
use Rattle.clight_front.specs.Fronts.{Fronts}
use Rattle.clight_front.specs.Refusals.{unread, unchecked}

-- what `?` hands on is what the refusal becomes
pub read_refused : (bytes : List ℕ) (e : ReadFileRefusal) (r : Result Program FrontRefusal) → Reads bytes (Err e) → IsErrAnd r (λ y. y ≡ unread e) → Fronts bytes r
read_refused bytes e (Ok p) k h = absurd h
read_refused bytes e (Err y) k h = subst (λ x. Fronts bytes (Err x)) (sym h) (by e k)
  where
    by : (e : ReadFileRefusal) → Reads bytes (Err e) → Fronts bytes (Err (unread e))
    by (reader.Syntax at) k = k
    by (reader.TooDeep at) k = k
    by reader.NoMemory k = tt

pub check_refused : (bytes : List ℕ) (file : FileTree) (e : CheckRefusal) (r : Result Program FrontRefusal) → IsFileAnswer bytes (tree file) → Checks (length bytes) file (Err e) → IsErrAnd r (λ y. y ≡ unchecked e) → Fronts bytes r
check_refused bytes file e (Ok p) read k h = absurd h
check_refused bytes file e (Err y) read k h = subst (λ x. Fronts bytes (Err x)) (sym h) (by e k)
  where
    by : (e : CheckRefusal) → Checks (length bytes) file (Err e) → Fronts bytes (Err (unchecked e))
    by (check.Faulty f) k = record { file = file; read = read; fault = f; first = k; number = refl; place = refl }
    by (check.Passed count at) k = record { file = file; read = read; faultless = k.0; first = k.1 }
    by check.NoMemory k = tt
