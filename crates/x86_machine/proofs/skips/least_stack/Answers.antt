use Rattle.std.proofs.Common.{arith, not, sym}
use Rattle.std.specs.List.{list_all}
use Rattle.x86_machine.specs.Kept.{threads_of}
use Rattle.x86_machine.specs.Target.{meets, stack_size}
use Rattle.x86_machine.proofs.Least.{found_least, found_none}
use Rattle.x86_machine.proofs.skips.least_stack.Goals as goal

pub returns-then-next-x : goal.returns-then-next-x
returns-then-next-x c =
    let at = c.loop-x.invariant in
    found_least 0x90000000 0x60000000 1048576 (λ y. list_all (λ t. not (meets t.stack stack_size y stack_size)) (threads_of c.args.threads.now)) c.loop-x.x at.3 at.0 at.1 (omega arith) (c.skip_stacks-next.ensures.skips.passes c.if-next-x.true)

pub returns : goal.returns
returns c =
    let at = c.loop-x.invariant in
    found_none 0x90000000 0x60000000 1048576 (λ y. list_all (λ t. not (meets t.stack stack_size y stack_size)) (threads_of c.args.threads.now)) c.loop-x.x at.3 (omega arith)
