use Rattle.std.proofs.Common.{◌≡◌, length, map}
use Rattle.c_tokens.specs.Scanning.{behind_first}
use Rattle.c_tokens.proofs.lexeme.behind_first.Given as goal

abbrev pub invariant-loop-table : goal.invariant-loop-table
invariant-loop-table l = behind_first (map (λ w. w.now) l.table) l.bytes ≡ behind_first (map (λ w. w.now) l.initial.table) l.bytes

abbrev pub decreases-loop-table : goal.decreases-loop-table
decreases-loop-table l = length l.table
