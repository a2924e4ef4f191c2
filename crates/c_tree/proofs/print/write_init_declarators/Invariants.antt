use Rattle.std.proofs.Common.{◌≡◌, drop, true}
use Rattle.c_tree.specs.FileShape.{init_declarators_of}
use Rattle.c_tree.specs.Statements.{put_init_declarators}
use Rattle.c_tree.proofs.print.write_init_declarators.Given as goal

abbrev pub invariant-loop-item : goal.invariant-loop-item
invariant-loop-item l = put_init_declarators l.is_first (init_declarators_of (drop l.item-index l.list)) l.out.items ≡ put_init_declarators true (init_declarators_of l.list) l.initial.out.items
