-- The law that each tree that is read has what the grammar gives.
use Rattle.std.specs.Prelude.{ℕ, List}
use Rattle.c_tree.specs.Trees.{FileTree}
use Rattle.c_reading.specs.Answers.{tree}
use Rattle.c_reading.specs.FileAnswers.{IsFileAnswer}
use Rattle.c_shapes.specs.Shaped.{IsShaped}

-- of the bytes of a file
abbrev pub TreesAreShaped : Type 0
TreesAreShaped = (bytes : List ℕ) (file : FileTree) → IsFileAnswer bytes (tree file) → IsShaped file
