use Rattle.std.proofs.Common.{◌≡◌}
use Rattle.clight_files.specs.FilesOf.{function_made_of}
use Rattle.clight_placing.specs.InnerOf.{inner_of}
use Rattle.clight_meaning.specs.Meaning.{below, kept_from}
use Rattle.clight_programs.proofs.locals.kept.Given as goal

abbrev pub invariant-loop-argument : goal.invariant-loop-argument
invariant-loop-argument l = l.list.items ≡ kept_from (inner_of l.inner) (function_made_of l.function) (below l.argument)
