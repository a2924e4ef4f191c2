use Rattle.c_tree.proofs.Shapes.{cast_shape}
use Rattle.c_parts.proofs.expr.cast_part.Goals as goal

pub returns : goal.returns
returns c = cc (cast_shape c.args.at c.in_ok-boxed.field-0 c.in_ok-boxed-2.field-0, c.deeper.ensures, c.max.ensures, c.in_ok-boxed.ensures, c.in_ok-boxed-2.ensures)
