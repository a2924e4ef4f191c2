use Rattle.std.proofs.Common.{◌≡◌, ◌∙◌, ap}
use Rattle.c_reading.specs.Parts.{add_spec}
use Rattle.c_tree.specs.Trees.{enum_specifier}
use Rattle.c_tree.specs.Shape.{specifiers_of, tag_of, enumerators_of}
use Rattle.c_tree.proofs.Shapes.{enumeration_shape}
use Rattle.c_parts.proofs.Ends.{specifiers_end}
use Rattle.c_parts.proofs.specifiers.add_enumeration.Goals as goal

pub returns : goal.returns
returns c =
    let e : specifiers_of c.in_ok-extended.field-0.items ≡ add_spec (specifiers_of c.args.specifiers.whole.items) (enum_specifier c.args.at (tag_of c.args.tag) c.args.body_at (enumerators_of c.args.enumerators.trees.items)) =
    ap specifiers_of c.in_ok-extended.ensures ∙ specifiers_end c.args.specifiers.whole.items _ ∙ ap (add_spec (specifiers_of c.args.specifiers.whole.items)) (enumeration_shape c.args.at c.args.tag c.args.body_at c.args.enumerators.trees) in
    rw (e, c.max.ensures)
