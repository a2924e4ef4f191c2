use Rattle.std.proofs.Common.{◌≡◌, drop}
use Rattle.clight_lang.specs.State.{functions_of}
use Rattle.clight_meaning.specs.Meaning.{main_of}
use Rattle.clight_programs.proofs.ordered.main_of.Given as goal

abbrev pub invariant-loop-function : goal.invariant-loop-function
invariant-loop-function l = main_of (functions_of (drop l.function-index l.functions)) ≡ main_of (functions_of l.functions)
