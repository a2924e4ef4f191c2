-- Where the names of the programs that are tried stand.
use Rattle.std.specs.Prelude.{[], ◌∷◌}
use Rattle.tso_core.specs.Systems.{Places}
use Rattle.toy_machines.specs.Meaning.{x}

abbrev pub x_placed : Places
x_placed = (x, 0x20000000) ∷ []
