use Rattle.std.proofs.Common.{◌∙◌, sym, not}
use Rattle.x86_machine.specs.Kept.{thread_of}
use Rattle.x86_machine.specs.Target.{meets, stack_size}
use Rattle.x86_machine.proofs.Lists.{list_all-map}
use Rattle.x86_machine.proofs.address_map.is_apart.Goals as goal

pub returns : goal.returns
returns c = c.is_each_stack_apart.ensures ∙ sym (list_all-map (λ t. not (meets t.stack stack_size c.args.base stack_size)) thread_of c.args.threads.now)
