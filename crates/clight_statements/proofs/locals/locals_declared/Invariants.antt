use Rattle.std.proofs.Common.{◌≡◌, drop}
use Rattle.c_tree.specs.FileShape.{init_declarators_of}
use Rattle.clight_scopes.specs.SceneOf.{scene_of}
use Rattle.clight_typing.specs.Statements.{locals_declared}
use Rattle.clight_made.specs.MadeOf.{made_list}
use Rattle.clight_statements.specs.StatementsOf.{behind}
use Rattle.clight_statements.proofs.locals.locals_declared.Given as goal

abbrev pub invariant-loop-item : goal.invariant-loop-item
invariant-loop-item l = behind (made_list l.made.items) (locals_declared (scene_of l.scene) l.at l.base (init_declarators_of (drop l.item-index l.list))) ≡ locals_declared (scene_of l.initial.scene) l.at l.base (init_declarators_of l.list)
