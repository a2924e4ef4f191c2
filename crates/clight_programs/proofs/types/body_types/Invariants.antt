use Rattle.std.proofs.Common.{◌≡◌, drop}
use Rattle.clight_files.specs.FilesOf.{functions_of}
use Rattle.clight_meaning.specs.Meaning.{body_types}
use Rattle.clight_programs.proofs.types.body_types.Given as goal

abbrev pub invariant-loop-function : goal.invariant-loop-function
invariant-loop-function l = body_types l.types.keys (functions_of (drop l.function-index l.functions)) ≡ body_types l.initial.types.keys (functions_of l.functions)
