use Rattle.std.proofs.Common.{◌≡◌, drop}
use Rattle.c_tree.specs.FileShape.{externals_of}
use Rattle.clight_scopes.specs.SceneOf.{scene_of}
use Rattle.clight_files.specs.Files.{externals_judged}
use Rattle.clight_files.specs.FilesOf.{functions_of, functions_behind}
use Rattle.clight_files.proofs.externals.externals_judged.Given as goal

abbrev pub invariant-loop-external : goal.invariant-loop-external
invariant-loop-external l = functions_behind (functions_of l.functions.items) (externals_judged (scene_of l.scene) (externals_of (drop l.external-index l.list))) ≡ externals_judged (scene_of l.initial.scene) (externals_of l.list)
