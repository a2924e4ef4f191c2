use Rattle.std.proofs.Common.{◌≡◌, drop}
use Rattle.clight_programs.specs.Locals.{marked}
use Rattle.clight_programs.proofs.locations.mark_addressed.Given as goal

abbrev pub invariant-loop-n : goal.invariant-loop-n
invariant-loop-n l = marked l.marks.items (drop l.n-index l.addressed) ≡ marked l.initial.marks.items l.addressed
