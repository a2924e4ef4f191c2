use Rattle.std.proofs.Common.{◌≡◌, drop}
use Rattle.c_tree.specs.Writing.{put_pointers}
use Rattle.c_tree.proofs.print_expr.write_pointers.Given as goal

abbrev pub invariant-loop-qualifiers : goal.invariant-loop-qualifiers
invariant-loop-qualifiers l = put_pointers (drop l.qualifiers-index l.pointers) l.out.items ≡ put_pointers l.pointers l.initial.out.items
