use Rattle.c_tree.proofs.Statements.{block_shape}
use Rattle.c_parts.proofs.statement.block_part.Goals as goal

pub returns : goal.returns
returns c = cc (block_shape c.args.at c.args.items.trees, c.deeper.ensures)
