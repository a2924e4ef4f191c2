use Rattle.std.proofs.Common.{◌≡◌}
use Rattle.clight_scopes.specs.SceneOf.{scene_of}
use Rattle.clight_files.specs.FilesOf.{settled, values_settled}
use Rattle.clight_files.proofs.files.all_settled.Given as goal

abbrev pub invariant-loop-known : goal.invariant-loop-known
invariant-loop-known l = values_settled l.known-iterator ≡ settled (scene_of l.scene)
