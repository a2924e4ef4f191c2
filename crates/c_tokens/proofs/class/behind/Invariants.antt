use Rattle.std.proofs.Common.{◌≡◌, length}
use Rattle.c_tokens.specs.Scanning.{behind, members}
use Rattle.c_tokens.proofs.class.behind.Given as goal

abbrev pub invariant-loop-rest : goal.invariant-loop-rest
invariant-loop-rest l = behind (members l.class) l.rest ≡ behind (members l.class) l.bytes

abbrev pub decreases-loop-rest : goal.decreases-loop-rest
decreases-loop-rest l = length l.rest
