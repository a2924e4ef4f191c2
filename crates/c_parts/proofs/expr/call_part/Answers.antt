use Rattle.c_tree.proofs.Shapes.{call_shape}
use Rattle.c_parts.proofs.expr.call_part.Goals as goal

pub returns : goal.returns
returns c = cc (call_shape c.args.callee.start c.args.at c.in_ok-boxed.field-0 c.args.arguments.trees, c.deeper.ensures, c.max.ensures, c.in_ok-boxed.ensures)
