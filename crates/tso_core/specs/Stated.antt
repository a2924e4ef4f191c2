-- What the declared globals of a program mean.
use Rattle.std.specs.Prelude.{ℕ, List, map}
use Rattle.tso_core.specs.declared.placement.Global.{Global}
use Rattle.tso_core.specs.declared.placement.Globals.{Globals}
use Rattle.tso_core.specs.Systems.{Names, GlobalsOf}

abbrev pub object_of : Global → Names × ℕ × ℕ × List ℕ
object_of g = (g.name, g.size, g.align, g.start.items)

abbrev pub globals_of : Globals → GlobalsOf
globals_of g = record { functions = g.functions.items; objects = map object_of g.objects.items }
