use Rattle.std.proofs.Common.{◌≡◌, drop}
use Rattle.c_tree.specs.FileShape.{init_declarators_of}
use Rattle.clight_scopes.specs.SceneOf.{scene_of}
use Rattle.clight_globals.specs.Globals.{names_declared}
use Rattle.clight_globals.specs.GlobalsOf.{storage_given}
use Rattle.clight_globals.proofs.declarators.names_declared.Given as goal

abbrev pub invariant-loop-item : goal.invariant-loop-item
invariant-loop-item l = names_declared (scene_of l.scene) (storage_given l.storage) l.base (init_declarators_of (drop l.item-index l.list)) ≡ names_declared (scene_of l.initial.scene) (storage_given l.storage) l.base (init_declarators_of l.list)
