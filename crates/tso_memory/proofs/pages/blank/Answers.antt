use Rattle.std.proofs.Common.{arith}
use Rattle.tso_memory.proofs.PageLookups.{blank_none, blank_more}
use Rattle.tso_memory.proofs.pages.blank.Goals as goal

pub loop-k-init : goal.loop-k-init
loop-k-init c = λ k. blank_none c.args.from k _

pub loop-k-preserved : goal.loop-k-preserved
loop-k-preserved c = λ k. blank_more c.loop-k.cells c.args.cells.now c.args.from c.loop-k.k k (omega arith) (omega arith) (c.loop-k.invariant k)
