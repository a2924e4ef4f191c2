-- The end of a file: its trees stand below every frame, and one mode stands in the file itself.
use Rattle.std.proofs.Common.{◌≡◌, false, List, [], ◌∷◌, refl}
use Rattle.c_reading.specs.Code as code
use Rattle.c_reading.specs.Parts as part
use Rattle.c_frames.specs.Frames.{stacked}
use Rattle.c_frames.specs.Readers.{mode_of}
use Rattle.c_frames.specs.declared.frame.Entry.{Entry}
use Rattle.c_frames.specs.declared.mode.Mode.{Mode}
use Rattle.c_frames.specs.declared.mode.Mode.TheVariants as mode

pub below_all : (f : part.FilePart) (es : List Entry) → f.trees ≡ code.bottom_trees (stacked f es)
below_all f [] = refl
below_all f (e ∷ es) = below_all f es

pub not_in_file : (m : Mode) → (m ≡ mode.File → ⊥) → code.is_in_file (mode_of m) ≡ false
not_in_file mode.File not = absurd (not refl)
not_in_file m not = refl
