use Rattle.std.proofs.Common.{length}
use Rattle.c_tokens.proofs.Progress.{Progress}
use Rattle.c_tokens.proofs.list.tokens.Given as goal

abbrev pub invariant-loop-here : goal.invariant-loop-here
invariant-loop-here l = Progress l.bytes l.list.items l.here

abbrev pub decreases-loop-here : goal.decreases-loop-here
decreases-loop-here l = length l.here
