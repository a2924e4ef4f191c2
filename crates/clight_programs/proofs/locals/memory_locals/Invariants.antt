use Rattle.std.proofs.Common.{◌≡◌}
use Rattle.clight_placing.specs.InnerOf.{inner_of}
use Rattle.clight_meaning.specs.Meaning.{below}
use Rattle.clight_programs.specs.Locals.{locals_at}
use Rattle.clight_programs.proofs.locals.memory_locals.Given as goal

abbrev pub invariant-loop-n : goal.invariant-loop-n
invariant-loop-n l = l.list.items ≡ locals_at (inner_of l.inner) l.locals (below l.n)
