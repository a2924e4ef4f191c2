use Rattle.std.proofs.Common.{length, ◌+◌, ◌-◌}
use Rattle.tso_files.proofs.Reading.{Read}
use Rattle.tso_files.proofs.whole.read_whole.Given as goal

abbrev pub invariant-loop-count : goal.invariant-loop-count
invariant-loop-count g l = Read (g.S.Store.view l.fn.store) (g.S.Store.view l.store) l.name l.limit l.bytes.items

abbrev pub decreases-loop-count : goal.decreases-loop-count
decreases-loop-count g l = l.limit + 1 - length l.bytes.items
