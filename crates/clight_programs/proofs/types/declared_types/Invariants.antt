use Rattle.std.proofs.Common.{◌≡◌}
use Rattle.clight_scopes.specs.SceneOf.{file_of}
use Rattle.clight_meaning.specs.Meaning.{declared_types}
use Rattle.clight_programs.proofs.types.declared_types.Given as goal

abbrev pub invariant-loop-known : goal.invariant-loop-known
invariant-loop-known l = declared_types l.types.keys (file_of l.known-iterator) ≡ declared_types l.initial.types.keys (file_of l.scene.file.entries)
