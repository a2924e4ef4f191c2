use Rattle.std.proofs.Common.{◌≡◌, drop}
use Rattle.c_tree.specs.Shape.{qualifiers_of}
use Rattle.c_tree.specs.Printing.{put_qualifiers}
use Rattle.c_tree.proofs.spell.write_qualifiers.Given as goal

abbrev pub invariant-loop-qualifier : goal.invariant-loop-qualifier
invariant-loop-qualifier l = put_qualifiers (qualifiers_of (drop l.qualifier-index l.qualifiers)) l.out.items ≡ put_qualifiers (qualifiers_of l.qualifiers) l.initial.out.items
