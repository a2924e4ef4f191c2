use Rattle.std.proofs.Common.{◌≡◌, drop}
use Rattle.c_tree.specs.FileShape.{items_of, groups_of}
use Rattle.c_tree.specs.Statements.{put_items, put_groups}
use Rattle.c_tree.proofs.print.+print_stmt.Given as goal

abbrev pub invariant-write_items-loop-item : goal.invariant-write_items-loop-item
invariant-write_items-loop-item l = put_items (items_of (drop l.item-index l.list)) l.out.items ≡ put_items (items_of l.list) l.initial.out.items

abbrev pub invariant-write_groups-loop-group : goal.invariant-write_groups-loop-group
invariant-write_groups-loop-group l = put_groups (groups_of (drop l.group-index l.list)) l.out.items ≡ put_groups (groups_of l.list) l.initial.out.items
