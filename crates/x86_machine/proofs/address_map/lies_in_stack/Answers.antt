use Rattle.std.proofs.Common.{◌∙◌, sym}
use Rattle.x86_machine.specs.Kept.{thread_of}
use Rattle.x86_machine.specs.Target.{lies_in, stack_size}
use Rattle.x86_machine.proofs.Lists.{list_any-map}
use Rattle.x86_machine.proofs.address_map.lies_in_stack.Goals as goal

pub returns : goal.returns
returns c = c.is_some_stack_around.ensures ∙ sym (list_any-map (λ t. lies_in t.stack stack_size c.args.x c.args.n) thread_of c.args.threads.now)
