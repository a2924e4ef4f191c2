use Rattle.std.proofs.Common.{◌≡◌}
use Rattle.clight_placing.specs.InnerOf.{inner_of}
use Rattle.clight_meaning.specs.Meaning.{below, taken_from}
use Rattle.clight_programs.proofs.locals.taken.Given as goal

abbrev pub invariant-loop-argument : goal.invariant-loop-argument
invariant-loop-argument l = l.list.items ≡ taken_from (inner_of l.inner) (below l.argument)
