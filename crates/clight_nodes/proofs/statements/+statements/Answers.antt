use Rattle.std.proofs.Common.{rules, arith, ◌≡◌, sym, ◌∙◌, ap, subst}
use Rattle.std.proofs.lemmas.Grind.{common_steps}
use Rattle.c_tree.specs.FileShape.{stmt_of}
use Rattle.c_tree.proofs.Statements.{block_shape, switch_shape}
use Rattle.clight_nodes.specs.Nodes.{stmt_nodes}
use Rattle.clight_nodes.specs.Counted.{counted}
use Rattle.clight_nodes.proofs.statements.+statements.Goals as goal

pub count_stmt-returns-in-Block : goal.count_stmt-returns-in-Block
count_stmt-returns-in-Block t c =
    let same = ap (λ s. stmt_nodes (stmt_of s)) c.in-Block.is ∙ ap stmt_nodes (block_shape c.in-Block.at c.in-Block.items) in
    subst (λ n. c.count_items.new.count ≡ counted c.args.count.now n) (sym same) (first_of (search rules, grind (arith, common_steps)))

pub count_stmt-returns-in-Switch : goal.count_stmt-returns-in-Switch
count_stmt-returns-in-Switch t c =
    let same = ap (λ s. stmt_nodes (stmt_of s)) c.in-Switch.is ∙ ap stmt_nodes (switch_shape c.in-Switch.at c.in-Switch.selector c.in-Switch.groups) in
    subst (λ n. c.count_groups.new.count ≡ counted c.args.count.now n) (sym same) (first_of (search rules, grind (arith, common_steps)))
