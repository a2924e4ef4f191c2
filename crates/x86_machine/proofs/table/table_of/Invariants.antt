use Rattle.std.proofs.Common.{◌≡◌, ◌+◌, ◌++◌, length}
use Rattle.x86_machine.specs.Tables.{entries_of}
use Rattle.x86_machine.proofs.table.table_of.Given as goal

abbrev pub invariant-loop-rest : goal.invariant-loop-rest
invariant-loop-rest l = record {
  entries : l.table.items ++ entries_of l.places l.number l.rest ≡ entries_of l.places 0 l.lines;
  count : l.number + length l.rest ≡ length l.lines;
}

abbrev pub decreases-loop-rest : goal.decreases-loop-rest
decreases-loop-rest l = length l.rest
