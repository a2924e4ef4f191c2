use Rattle.std.proofs.Common.{◌≡◌, length, map}
use Rattle.c_tokens.specs.Scanning.{among}
use Rattle.c_tokens.proofs.lexeme.is_among.Given as goal

abbrev pub invariant-loop-table : goal.invariant-loop-table
invariant-loop-table l = among (map (λ w. w.now) l.table) l.word ≡ among (map (λ w. w.now) l.initial.table) l.word

abbrev pub decreases-loop-table : goal.decreases-loop-table
decreases-loop-table l = length l.table
