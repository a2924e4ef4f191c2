use Rattle.std.proofs.Common.{◌≡◌, drop, map}
use Rattle.clight_types.specs.BuiltOf.{parameter_of}
use Rattle.clight_scopes.specs.SceneOf.{scene_of}
use Rattle.clight_files.specs.Files.{in_body_of}
use Rattle.clight_files.specs.FilesOf.{named_from}
use Rattle.clight_files.proofs.parameters.begin_body.Given as goal

abbrev pub invariant-loop-number : goal.invariant-loop-number
invariant-loop-number l = named_from l.number (map parameter_of (drop l.number l.parameters)) (scene_of l.scene) ≡ in_body_of (scene_of l.fn.scene) (map parameter_of l.parameters)
