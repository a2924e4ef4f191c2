use Rattle.std.proofs.Common.{◌≡◌, ◌∙◌, ◌<◌, sym, ap, arith, length, rules, true}
use Rattle.x86_machine.specs.Kept.{thread_of}
use Rattle.x86_machine.specs.Target.{Thread, is_on_stack}
use Rattle.x86_machine.proofs.States.{thread_here}
use Rattle.x86_machine.proofs.target.Target.tried_behind_access.Goals as goal

pub returns : goal.returns
returns c = λ t e.
    let within : c.args.thread < length c.args.self.now.threads.items = omega (arith, c.args.self.now.threads.ok.0) in
    let here : thread_of c.index.result.now ≡ t = thread_here c.args.self.now.threads.items c.args.thread c.index.result.now t within c.index.ensures e in
    let on : c.is_on_stack.result ≡ true = search rules in
    let stack : is_on_stack t c.args.after.now.registers.esp ≡ true = ap (λ (u : Thread). is_on_stack u c.args.after.now.registers.esp) (sym here) ∙ (sym c.is_on_stack.ensures ∙ on) in
    let access : c.is_access_right.result ≡ true = search rules in
    let right = sym c.is_access_right.ensures.right ∙ access in
    rw (stack, right) (c.went.ensures t e)
