-- What the check answers of a file.
use Rattle.std.specs.Prelude.{◌≡◌, ℕ, [], Result, Ok, Err, Some, slice_get}
use Rattle.c_tree.specs.Trees.{FileTree}
use Rattle.clight_lang.specs.declared.program.Program.{Program}
use Rattle.clight_lang.specs.Meaning.{program_of}
use Rattle.clight_types.specs.Judged.{made_of}
use Rattle.clight_files.specs.Files.{file_judged, file_faults}
use Rattle.clight_meaning.specs.Counts.{passed_counts}
use Rattle.clight_counts.specs.PassedOf.{number_of, first_passed}
use Rattle.clight_laws.specs.Laws.{Means}
use Rattle.clight_programs.specs.declared.checks.CheckRefusal.{CheckRefusal}
use Rattle.clight_programs.specs.declared.checks.CheckRefusal.TheVariants as refusal

-- of a file of a length: its program, its first fault, or the first count that it passes without a fault
abbrev pub Checks : ℕ → FileTree → Result Program CheckRefusal → Type 0
Checks size file (Ok p) = Means size file (program_of p)
Checks size file (Err (refusal.Faulty f)) = slice_get (file_faults size file) 0 ≡ Some f
Checks size file (Err (refusal.Passed count at)) = (file_faults size file ≡ []) × (first_passed (passed_counts size file (made_of (file_judged size file))) ≡ Some (record { count = number_of count; at = at }))
Checks size file (Err refusal.NoMemory) = Unit {0}
