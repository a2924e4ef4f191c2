use Rattle.std.proofs.Common.{◌≡◌, ◌++◌, length}
use Rattle.std.specs.Prelude.{map}
use Rattle.x86_text.specs.Printed.{joined, static_text}
use Rattle.x86_text.proofs.printing.put_statics.Given as goal

abbrev pub invariant-loop-rest : goal.invariant-loop-rest
invariant-loop-rest l = l.out.items ++ joined (map static_text l.rest) ≡ l.fn.out.items ++ joined (map static_text l.statics)

abbrev pub decreases-loop-rest : goal.decreases-loop-rest
decreases-loop-rest l = length l.rest
