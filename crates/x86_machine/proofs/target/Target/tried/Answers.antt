use Rattle.std.proofs.Common.{◌≡◌, ◌∙◌, sym, false}
use Rattle.x86_steps.specs.Accesses.{loads_stack_pointer}
use Rattle.x86_machine.proofs.target.Target.tried.Goals as goal

pub returns-else-loads_stack_pointer : goal.returns-else-loads_stack_pointer
returns-else-loads_stack_pointer c = λ t e.
    let kept : loads_stack_pointer c.args.instr.now ≡ false = sym c.loads_stack_pointer.ensures ∙ c.if-loads_stack_pointer.false in
    rw (c.in-Some.is, kept) (c.tried_before_access.ensures t e)
