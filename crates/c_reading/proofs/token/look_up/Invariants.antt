use Rattle.std.proofs.Common.{◌≡◌, length, map}
use Rattle.c_reading.specs.Kinds.{entry, look_up}
use Rattle.c_reading.proofs.token.look_up.Given as goal

abbrev pub invariant-loop-table : goal.invariant-loop-table
invariant-loop-table l = look_up (map (λ e. entry e.0.now e.1) l.table) l.word ≡ look_up (map (λ e. entry e.0.now e.1) l.initial.table) l.word

abbrev pub decreases-loop-table : goal.decreases-loop-table
decreases-loop-table l = length l.table
