use Rattle.std.proofs.Common.{◌≡◌, ◌%◌, true, ap, sym, ◌∙◌, subst, rules}
use Rattle.std.specs.List.{list_any}
use Rattle.x86_steps.specs.Accesses.{bytes_of}
use Rattle.x86_machine.specs.Kept.{threads_of}
use Rattle.x86_machine.specs.Target.{lies_in, stack_size}
use Rattle.x86_machine.proofs.Mapped.{stacks_below, on_true}
use Rattle.x86_machine.proofs.address_map.is_right.Goals as goal

pub returns-else-lies_in-2-clause-aligned : goal.returns-else-lies_in-2-clause-aligned
returns-else-lies_in-2-clause-aligned c =
    let n : c.bytes-n.result ≡ bytes_of c.args.size = c.bytes-n.ensures in
    let f : c.from.result ≡ c.bytes-n.result = c.from.ensures in
    let m : c.args.address % c.from.result ≡ 0 = search rules in
    on_true c.lies_in_stack.result _ (λ t.
    let s : list_any (λ u. lies_in u.stack stack_size c.args.address (bytes_of c.args.size)) (threads_of c.args.threads.now) ≡ true = ap (λ k. list_any (λ u. lies_in u.stack stack_size c.args.address k) (threads_of c.args.threads.now)) (sym n) ∙ (sym c.lies_in_stack.ensures ∙ t) in
    (subst (λ k. c.args.address % k ≡ 0) (f ∙ n) m, stacks_below c.args.threads.now c.args.address (bytes_of c.args.size) s))
