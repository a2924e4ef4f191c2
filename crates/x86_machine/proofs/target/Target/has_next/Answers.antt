use Rattle.std.proofs.Common.{◌≡◌, ◌∙◌, ◌+◌, ◌<◌, ap, arith, length}
use Rattle.x86_lang.specs.Assembly.{assembly_of}
use Rattle.x86_machine.specs.Kept.{thread_of}
use Rattle.x86_machine.specs.Target.{Thread, is_code}
use Rattle.x86_machine.proofs.States.{thread_here}
use Rattle.x86_machine.proofs.target.Target.has_next.Goals as goal

pub returns-clause-value : goal.returns-clause-value
returns-clause-value c = λ t e.
    let within : c.args.thread < length c.args.self.now.threads.items = omega (arith, c.args.self.now.threads.ok.0) in
    let here : thread_of c.index.result.now ≡ t = thread_here c.args.self.now.threads.items c.args.thread c.index.result.now t within c.index.ensures e in
    c.is_code.ensures.value ∙ ap (λ z. is_code (assembly_of c.args.program.now) (z + 1)) (c.from.ensures ∙ ap (λ (u : Thread). u.place) here)
