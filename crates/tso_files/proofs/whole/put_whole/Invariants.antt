use Rattle.std.proofs.Common.{length, ◌-◌}
use Rattle.tso_files.proofs.Writing.{Put}
use Rattle.tso_files.proofs.whole.put_whole.Given as goal

abbrev pub invariant-loop-taken : goal.invariant-loop-taken
invariant-loop-taken g l = Put (g.K.Sink.view l.fn.out) (g.K.Sink.view l.out) l.lines l.taken

abbrev pub decreases-loop-taken : goal.decreases-loop-taken
decreases-loop-taken g l = length l.lines - l.taken
