-- What the parts of the check say of the whole.
use Rattle.std.proofs.Common.{◌≡◌, ℕ, false, [], Some, refl, sym, ap, ◌∙◌, subst}
use Rattle.std.specs.Prelude.{Result, Ok, Err, IsErrAnd, slice_get}
use Rattle.c_tree.specs.Trees.{FileTree}
use Rattle.c_shapes.specs.Shaped.{IsShaped}
use Rattle.clight_lang.specs.declared.program.Program.{Program}
use Rattle.clight_lang.specs.Meaning.{ProgramOf}
use Rattle.clight_types.specs.declared.rule.Fault.{Fault}
use Rattle.clight_types.specs.Types.{VoidShape, is_scalar, is_scalar_shape}
use Rattle.clight_types.specs.declared.rule.Refusal.{Refusal}
use Rattle.clight_types.specs.declared.rule.Refusal.TheVariants as refusal
use Rattle.clight_types.specs.Judged.{Judged, value, fault, faults_of, made_of, first_of, Judges}
use Rattle.clight_files.specs.Files.{FileMade, file_judged, file_faults}
use Rattle.clight_meaning.specs.Counts.{passed_counts}
use Rattle.clight_counts.specs.declared.sizes.Sizes.{Sizes}
use Rattle.clight_counts.specs.declared.limits.Excess.{Excess}
use Rattle.clight_counts.specs.declared.limits.Excess.TheVariants as excess
use Rattle.clight_counts.specs.CountsOf.{AreSizes}
use Rattle.clight_counts.specs.PassedOf.{first_passed, Keeps}
use Rattle.clight_laws.specs.Laws.{Means}
use Rattle.clight_laws.proofs.TypeTables.{shape_is}
use Rattle.clight_laws.proofs.WholeFiles.{file_finished}
use Rattle.clight_programs.specs.declared.checks.CheckRefusal.{CheckRefusal}
use Rattle.clight_programs.specs.declared.checks.CheckRefusal.TheVariants as check
use Rattle.clight_programs.specs.Answers.{Checks}
use Rattle.clight_programs.specs.ProgramsOf.{IsMeant}
use Rattle.clight_programs.specs.Refusals.{fault_refused, count_refused}

pub first_fault : {A : Type 0} (j : Judged A) (f : Fault) → first_of j ≡ Err f → slice_get (faults_of j) 0 ≡ Some f
first_fault (value a) f h = cc
first_fault (fault r at j) f h = cc

-- ## Refusals

-- what `?` hands on is what the refusal becomes
pub judged_refused : {B : Type 0} (size : ℕ) (file : FileTree) (view : B → FileMade) (e : Refusal) (r : Result Program CheckRefusal) → Judges (file_judged size file) view (Err e) → IsErrAnd r (λ y. y ≡ fault_refused e) → Checks size file r
judged_refused size file view e (Ok p) k h = absurd h
judged_refused size file view e (Err y) k h = subst (λ x. Checks size file (Err x)) (sym h) (by e k)
  where
    by : (e : Refusal) → Judges (file_judged size file) view (Err e) → Checks size file (Err (fault_refused e))
    by (refusal.Faulty f) k = first_fault (file_judged size file) f k
    by refusal.NoMemory k = tt

module _ (size : ℕ) (file : FileTree) (made : FileMade) (j : file_judged size file ≡ value made) where
  excess_refused : (e : Excess) → Keeps {A = Sizes} (passed_counts size file made) (Err e) → Checks size file (Err (count_refused e))
  excess_refused (excess.Passed p) k = (ap faults_of j, ap (λ (j : Judged FileMade). first_passed (passed_counts size file (made_of j))) j ∙ k)
  excess_refused excess.NoMemory k = tt

  pub counts_refused : (e : Excess) (r : Result Program CheckRefusal) → Keeps {A = Sizes} (passed_counts size file made) (Err e) → IsErrAnd r (λ y. y ≡ count_refused e) → Checks size file r
  counts_refused e (Ok p) k h = absurd h
  counts_refused e (Err y) k h = subst (λ x. Checks size file (Err x)) (sym h) (excess_refused e k)

pub short_refused : (size : ℕ) (file : FileTree) (r : Result Program CheckRefusal) → IsErrAnd r (λ y. y ≡ check.NoMemory) → Checks size file r
short_refused size file (Ok p) h = absurd h
short_refused size file (Err y) h = subst (λ x. Checks size file (Err x)) (sym h) tt

-- the first type of a file is `void`
pub first_is_void : (size : ℕ) (file : FileTree) (made : FileMade) → IsShaped file → file_judged size file ≡ value made → is_scalar made.scene.types 0 ≡ false
first_is_void size file made w e =
    let h = file_finished size file made w e in
    ap is_scalar_shape (shape_is made.scene.types 0 VoidShape (h.scene.types.first 0 VoidShape refl))

pub means : (size : ℕ) (file : FileTree) (made : FileMade) (s : Sizes) (p : ProgramOf) → file_judged size file ≡ value made → AreSizes file made s → passed_counts size file made ≡ [] → IsMeant made s p → Means size file p
means size file made s p e sizes counted h = record { made = made; judged = e; counted = counted; program = h file sizes }
