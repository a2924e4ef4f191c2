use Rattle.std.proofs.Common.{rules, arith, ◌≡◌, OnOk, sym, ◌∙◌, ap, subst}
use Rattle.std.proofs.lemmas.Grind.{common_steps}
use Rattle.c_tree.specs.Trees.{StmtTree}
use Rattle.c_tree.specs.FileShape.{stmt_of}
use Rattle.c_tree.specs.Statements.{put_stmt}
use Rattle.c_tree.proofs.Statements.{block_shape, switch_shape, items_next}
use Rattle.c_tree.proofs.print.+print_stmt.Goals as goal

pub write_items-loop-item-preserved : goal.write_items-loop-item-preserved
write_items-loop-item-preserved t c = items_next c.args.list.now c.loop-item.item-index c.item-item.result c.loop-item.out.items c.write_item.new.out.items _ c.loop-item-test.true c.item-item.is c.in_ok-write_item.ensures c.loop-item.invariant

pub write_stmt-returns-in_ok-write_items-in-Block : goal.write_stmt-returns-in_ok-write_items-in-Block
write_stmt-returns-in_ok-write_items-in-Block t c =
    let same = ap stmt_of c.in-Block.is ∙ block_shape c.in-Block.at c.in-Block.items in
    subst (λ (s : StmtTree). OnOk c.write_line-in-Block.result (c.write_line-in-Block.new.out.items ≡ put_stmt s c.args.out.now.items)) (sym same) (first_of (search rules, grind (arith, common_steps)))

pub write_stmt-returns-in_ok-write_groups-in-Switch : goal.write_stmt-returns-in_ok-write_groups-in-Switch
write_stmt-returns-in_ok-write_groups-in-Switch t c =
    let same = ap stmt_of c.in-Switch.is ∙ switch_shape c.in-Switch.at c.in-Switch.selector c.in-Switch.groups in
    subst (λ (s : StmtTree). OnOk c.write_line-in-Switch-2.result (c.write_line-in-Switch-2.new.out.items ≡ put_stmt s c.args.out.now.items)) (sym same) (first_of (search rules, grind (arith, common_steps)))
