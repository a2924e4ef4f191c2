use Rattle.std.proofs.Common.{◌∙◌, ap}
use Rattle.c_reading.specs.Parts.{ExprPart}
use Rattle.c_tree.specs.Trees.{ExprTree, sizeof_type_expr}
use Rattle.c_tree.specs.Shape.{type_of}
use Rattle.c_tree.proofs.Shapes.{sizeof_shape}
use Rattle.c_parts.proofs.expr.sizeof_type_part.Goals as goal

pub returns : goal.returns
returns c =
    let at : ExprTree → ExprPart = λ x. record { tree = x; start = c.args.at; level = 14; height = c.deeper.result } in
    ap at (sizeof_shape c.args.at c.in_ok-boxed.field-0 ∙ ap (λ t. sizeof_type_expr c.args.at (type_of t)) c.in_ok-boxed.ensures)
    ∙ ap (λ h. record { tree = sizeof_type_expr c.args.at (type_of c.args.type_name.tree); start = c.args.at; level = 14; height = h }) c.deeper.ensures
