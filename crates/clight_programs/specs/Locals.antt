-- Where the parameters and locals of a function are, as the code finds it: each marked, and then numbered in one pass.
use Rattle.std.specs.Prelude.{ℕ, ◌+◌, Bool, true, false, List, [], ◌∷◌, ◌++◌, length, map, unwrap_or, slice_get, slice_set}
use Rattle.clight_lang.specs.declared.function.Local.{Local}
use Rattle.clight_types.specs.Types.{Types, size_at, align_at}
use Rattle.clight_placing.specs.Placing.{Location, InTemp, InMemory, Inner}
use Rattle.clight_files.specs.Files.{FunctionMade}
use Rattle.clight_meaning.specs.Meaning.{below, is_in_memory}

-- of each parameter and local whether it is in memory
abbrev pub marks_of : Types → FunctionMade → List Bool
marks_of types f = map (is_in_memory types f) (below (length f.locals))

-- those whose address is taken are marked too
abbrev pub marked : List Bool → List ℕ → List Bool
marked marks [] = marks
marked marks (n ∷ ns) = marked (slice_set marks n true) ns

-- numbered from so many temporaries and so many in memory on
abbrev pub located : ℕ → ℕ → List Bool → List Location
located temps memory [] = []
located temps memory (true ∷ marks) = InMemory memory ∷ located temps (memory + 1) marks
located temps memory (false ∷ marks) = InTemp temps ∷ located (temps + 1) memory marks

-- the local in memory that one of these is
abbrev pub local_at : Types → ℕ → Location → List Local
local_at types t (InTemp n) = []
local_at types t (InMemory n) = (record { size = size_at types t; align = align_at types t }) ∷ []

abbrev pub locals_at : Inner → List ℕ → List ℕ → List Local
locals_at w ts [] = []
locals_at w ts (n ∷ ns) = local_at w.types (unwrap_or (slice_get ts n) 0) (w.location n) ++ locals_at w ts ns
