-- Nothing is in the way where nothing was left out.
use Rattle.std.proofs.Common.{[], arith}
use Rattle.tso_core.specs.Shared.{is_block_allowed}
use Rattle.tso_memory.specs.Buffer.{objects_lifted}
use Rattle.tso_machine.proofs.Least.{found_least, block_unclear, block_clear}
use Rattle.tso_machine.proofs.choices.least_block.Goals as goal

pub returns-then-next-x : goal.returns-then-next-x
returns-then-next-x c =
    let os = c.args.objects.now in
    let at = c.loop-x.invariant in
    found_least 0x30000000 (λ y. objects_lifted y c.args.size [] os) (λ base. is_block_allowed os base c.args.size) (block_unclear os c.args.size) c.loop-x.x at.3 at.0 at.1
    (block_clear os c.args.size c.loop-x.x at.1 at.0 (omega arith) (c.skip_objects-next.ensures.skips.passes c.if-next-x.true))
