-- The names of the programs that the tests play: three functions, and two globals of a word.
use Rattle.std.specs.Prelude.{[], ◌∷◌, codes}
use Rattle.tso_core.specs.Systems.{GlobalsOf}

abbrev pub names_tried : GlobalsOf
names_tried = record { functions = codes "f" ∷ codes "g" ∷ codes "main" ∷ []; objects = (codes "x", 4, 4, []) ∷ (codes "y", 4, 4, []) ∷ [] }
