use Rattle.std.proofs.Common.{length}
use Rattle.x86_text.specs.Naming.{look}
use Rattle.x86_text.proofs.Noted.{SoFar}
use Rattle.x86_text.proofs.naming.names_of.Given as goal

abbrev pub invariant-loop-first : goal.invariant-loop-first
invariant-loop-first l = SoFar l.text l.rest l.in_data (look l.table)

abbrev pub decreases-loop-first : goal.decreases-loop-first
decreases-loop-first l = length l.rest
