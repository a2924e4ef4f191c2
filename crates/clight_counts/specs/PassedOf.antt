-- What the code's counts are, and what it means that a file keeps to them.
use Rattle.std.specs.Prelude.{◌≡◌, ℕ, List, [], ◌∷◌, Option, Some, None, Result, Ok, Err}
use Rattle.clight_types.specs.Types.{Types, Spelling}
use Rattle.clight_scopes.specs.Scopes.{Entity, FunctionEntity}
use Rattle.clight_meaning.specs.Counts.{Passed, size_passes}
use Rattle.clight_counts.specs.declared.limits.Count.{Count}
use Rattle.clight_counts.specs.declared.limits.Count.TheVariants as c
use Rattle.clight_counts.specs.declared.limits.Passed as P
use Rattle.clight_counts.specs.declared.limits.Excess.{Excess}
use Rattle.clight_counts.specs.declared.limits.Excess.TheVariants as e
use Rattle.clight_counts.specs.declared.sizes.Sizes as T
use Rattle.clight_counts.specs.CountsOf.{size_in}

-- the number of a count
abbrev pub number_of : Count → ℕ
number_of c.Functions = 1
number_of c.Parameters = 2
number_of c.Bytes = 3
number_of c.Nodes = 4
number_of c.Labels = 5
number_of c.FileNodes = 6
number_of c.GlobalBytes = 7

-- the most that a file may have of it
abbrev pub most_of : Count → ℕ
most_of c.Functions = 4096
most_of c.Parameters = 64
most_of c.Bytes = 65536
most_of c.Nodes = 8000
most_of c.Labels = 1024
most_of c.FileNodes = 80000
most_of c.GlobalBytes = 16777216

abbrev pub passed_of : P.Passed → Passed
passed_of x = record { count = number_of x.count; at = x.at }

-- the first of the counts that are passed
abbrev pub first_passed : List Passed → Option Passed
first_passed [] = None
first_passed (x ∷ xs) = Some x

-- what code that stops at the first passed count answers
abbrev pub Keeps : {A : Type 0} → List Passed → Result A Excess → Type 0
Keeps ps (Ok a) = ps ≡ []
Keeps ps (Err (e.Passed x)) = first_passed ps ≡ Some (passed_of x)
Keeps ps (Err e.NoMemory) = Unit {0}

-- ## What a name of the file stands for

-- the counts that it passes as a function
abbrev pub known_passes : T.Sizes → Types → Spelling → ℕ → Entity → List Passed
known_passes s types name at (FunctionEntity t static defined) = size_passes at (size_in s types name t) []
known_passes s types name at _ = []

-- the nodes that it has as a function
abbrev pub known_nodes : T.Sizes → Types → Spelling → Entity → ℕ
known_nodes s types name (FunctionEntity t static defined) = (size_in s types name t).nodes
known_nodes s types name _ = 0
