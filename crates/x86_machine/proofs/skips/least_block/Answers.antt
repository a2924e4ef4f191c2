use Rattle.std.proofs.Common.{arith, not, sym}
use Rattle.std.specs.List.{list_all}
use Rattle.x86_machine.specs.Target.{meets}
use Rattle.x86_machine.proofs.Least.{found_least, found_none}
use Rattle.x86_machine.proofs.skips.least_block.Goals as goal

pub returns-then-next-x : goal.returns-then-next-x
returns-then-next-x c =
    let at = c.loop-x.invariant in
    found_least 0x30000000 0x60000000 c.args.size (λ y. list_all (λ b. not (meets b.0 b.1 y c.args.size)) c.args.blocks.now) c.loop-x.x at.3 at.0 at.1 (omega arith) (c.skip_blocks-next.ensures.skips.passes c.if-next-x.true)

pub returns : goal.returns
returns c =
    let at = c.loop-x.invariant in
    found_none 0x30000000 0x60000000 c.args.size (λ y. list_all (λ b. not (meets b.0 b.1 y c.args.size)) c.args.blocks.now) c.loop-x.x at.3 (omega arith)
