use Rattle.std.proofs.Common.{ℕ, List, Bool, length}
use Rattle.c_tokens.specs.Tokens.{Gap}
use Rattle.c_tokens.proofs.gap.behind_gap.Given as goal

abbrev pub invariant-loop-after : goal.invariant-loop-after
invariant-loop-after l = (now : Bool) (end : List ℕ) → Gap l.is_fresh l.rest now end → Gap l.fresh l.bytes now end

abbrev pub decreases-loop-after : goal.decreases-loop-after
decreases-loop-after l = length l.rest
