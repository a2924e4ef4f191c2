use Rattle.std.proofs.Common.{length}
use Rattle.c_states.proofs.expr.+on_expression.Given as goal

abbrev pub decreases-on_expression : goal.decreases-on_expression
decreases-on_expression l = length l.context.now.stack.entries
