use Rattle.std.proofs.Common.{◌∙◌}
use Rattle.x86_machine.proofs.Lists.{block_placed}
use Rattle.x86_machine.proofs.heap.add_block.Goals as goal

pub returns-in-Ok-clause-ok : goal.returns-in-Ok-clause-ok
returns-in-Ok-clause-ok c = c.in-Ok.ensures.items ∙ (rw (c.count_below-place.ensures.value, c.deref.ensures.value) (block_placed c.args.base c.args.bytes c.args.blocks.now.items))
