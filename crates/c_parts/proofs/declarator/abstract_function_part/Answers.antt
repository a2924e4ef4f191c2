use Rattle.std.proofs.Common.{◌≡◌, ◌∙◌}
use Rattle.c_tree.specs.Trees.{function_of}
use Rattle.c_tree.specs.Shape.{parameters_of}
use Rattle.c_tree.proofs.Shapes.{function_shape}
use Rattle.c_parts.specs.Views.{draft_of}
use Rattle.c_parts.proofs.declarator.abstract_function_part.Goals as goal

pub returns : goal.returns
returns c =
    let e : draft_of c.in_ok-suffixed.field-0 ≡ function_of (draft_of c.args.declarator.tree) (parameters_of c.args.parameters.trees.items) = c.in_ok-suffixed.ensures ∙ function_shape (draft_of c.args.declarator.tree) c.args.parameters.trees in
    rw (e, c.max.ensures)
