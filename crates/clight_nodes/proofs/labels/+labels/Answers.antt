use Rattle.std.proofs.Common.{rules, arith, ◌≡◌, sym, ◌∙◌, ap, subst}
use Rattle.std.proofs.lemmas.Grind.{common_steps}
use Rattle.c_tree.specs.FileShape.{stmt_of}
use Rattle.c_tree.proofs.Statements.{block_shape, switch_shape}
use Rattle.clight_nodes.specs.Nodes.{most_labels}
use Rattle.clight_nodes.specs.Counted.{counted}
use Rattle.clight_nodes.proofs.labels.+labels.Goals as goal

pub labels_of_stmt-returns-in-Block : goal.labels_of_stmt-returns-in-Block
labels_of_stmt-returns-in-Block t c =
    let same = ap (λ s. most_labels (stmt_of s)) c.in-Block.is ∙ ap most_labels (block_shape c.in-Block.at c.in-Block.items) in
    subst (λ n. c.most_labels.result ≡ counted 0 n) (sym same) (first_of (search rules, grind (arith, common_steps)))

pub labels_of_stmt-returns-in-Switch : goal.labels_of_stmt-returns-in-Switch
labels_of_stmt-returns-in-Switch t c =
    let same = ap (λ s. most_labels (stmt_of s)) c.in-Switch.is ∙ ap most_labels (switch_shape c.in-Switch.at c.in-Switch.selector c.in-Switch.groups) in
    subst (λ n. c.max-in-Switch.result ≡ counted 0 n) (sym same) (first_of (search rules, grind (arith, common_steps)))
