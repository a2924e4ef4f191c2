use Rattle.std.proofs.Common.{◌≡◌, ◌++◌, length}
use Rattle.std.specs.Prelude.{map}
use Rattle.x86_text.specs.Printed.{joined, extern_text}
use Rattle.x86_text.proofs.printing.put_externs.Given as goal

abbrev pub invariant-loop-rest : goal.invariant-loop-rest
invariant-loop-rest l = l.out.items ++ joined (map extern_text l.rest) ≡ l.fn.out.items ++ joined (map extern_text l.externs)

abbrev pub decreases-loop-rest : goal.decreases-loop-rest
decreases-loop-rest l = length l.rest
