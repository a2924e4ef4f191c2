use Rattle.std.proofs.Common.{◌≡◌, ◌∙◌, ap}
use Rattle.c_reading.specs.Parts.{add_spec}
use Rattle.c_tree.specs.Trees.{composite_specifier}
use Rattle.c_tree.specs.Shape.{specifiers_of, composite_of, tag_of, members_of}
use Rattle.c_tree.proofs.Shapes.{composite_shape}
use Rattle.c_parts.proofs.Ends.{specifiers_end}
use Rattle.c_parts.proofs.specifiers.add_composite.Goals as goal

pub returns : goal.returns
returns c =
    let e : specifiers_of c.in_ok-extended.field-0.items ≡ add_spec (specifiers_of c.args.specifiers.whole.items) (composite_specifier c.args.at (composite_of c.args.word) (tag_of c.args.tag) c.args.body_at (members_of c.args.members.trees.items)) =
    ap specifiers_of c.in_ok-extended.ensures ∙ specifiers_end c.args.specifiers.whole.items _ ∙ ap (add_spec (specifiers_of c.args.specifiers.whole.items)) (composite_shape c.args.at c.args.word c.args.tag c.args.body_at c.args.members.trees) in
    rw (e, c.max.ensures, c.deeper.ensures)
