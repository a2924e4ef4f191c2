use Rattle.c_tree.proofs.Statements.{switch_shape}
use Rattle.c_parts.proofs.statement.switch_part.Goals as goal

pub returns : goal.returns
returns c = let e = switch_shape c.args.at c.args.selector.tree c.args.groups.trees in rw (e, c.deeper.ensures, c.max.ensures)
