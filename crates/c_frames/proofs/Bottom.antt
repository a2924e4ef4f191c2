-- A stack with no frames stays so with another file.
use Rattle.std.proofs.Common.{◌≡◌, List, [], ◌∷◌, refl}
use Rattle.c_reading.specs.Frames as marks
use Rattle.c_reading.specs.Parts as part
use Rattle.c_frames.specs.Frames.{stacked}
use Rattle.c_frames.specs.declared.frame.Entry.{Entry}

pub still_bottom : (f g h : part.FilePart) (es : List Entry) → stacked f es ≡ marks.bottom g → stacked h es ≡ marks.bottom h
still_bottom f g h [] e = refl
still_bottom f g h (x ∷ xs) e = cc
