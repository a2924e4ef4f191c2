use Rattle.std.proofs.Common.{length, ◌-◌}
use Rattle.tso_files.proofs.Writing.{Wrote}
use Rattle.tso_files.proofs.whole.write_whole.Given as goal

abbrev pub invariant-loop-taken : goal.invariant-loop-taken
invariant-loop-taken g l = Wrote (g.S.Store.view l.fn.store) (g.S.Store.view l.store) l.name l.text l.taken

abbrev pub decreases-loop-taken : goal.decreases-loop-taken
decreases-loop-taken g l = length l.text - l.taken
