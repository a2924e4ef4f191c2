use Rattle.std.proofs.Common.{◌≡◌, drop}
use Rattle.c_tree.specs.Shape.{exprs_of}
use Rattle.clight_scopes.specs.SceneOf.{scene_of}
use Rattle.clight_globals.specs.Globals.{items_filled}
use Rattle.clight_globals.specs.GlobalsOf.{filled_of, nothing_filled}
use Rattle.clight_globals.proofs.lists.items_filled.Given as goal

abbrev pub invariant-loop-item : goal.invariant-loop-item
invariant-loop-item l = items_filled (scene_of l.scene) l.t l.fits l.item (filled_of l.filled) (exprs_of (drop l.item l.list)) ≡ items_filled (scene_of l.initial.scene) l.t l.fits 0 nothing_filled (exprs_of l.list)
