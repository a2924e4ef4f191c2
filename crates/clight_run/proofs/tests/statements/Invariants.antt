use Rattle.std.proofs.Common.{vec_len}
use Rattle.clight_run.proofs.tests.statements.Given as goal

abbrev pub decreases-loop-s : goal.decreases-loop-s
decreases-loop-s l = vec_len l.list
