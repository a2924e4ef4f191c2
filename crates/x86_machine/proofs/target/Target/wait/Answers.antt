use Rattle.std.proofs.Common.{refl, ap, ◌∙◌, arith, ◌<◌, length}
use Rattle.x86_machine.specs.Kept.{state_of}
use Rattle.x86_machine.specs.X86Tso.{waiting}
use Rattle.x86_machine.specs.Target.{Thread}
use Rattle.x86_machine.proofs.States.{changed}
use Rattle.x86_machine.proofs.target.Target.wait.Goals as goal

pub returns : goal.returns
returns c = λ t e.
    let within : c.args.thread < length c.args.self.now.threads.items = omega (arith, c.args.self.now.threads.ok.0) in
    changed (state_of c.args.self.now) c.args.self.now.threads.items c.args.thread c.index_mut.result.now c.wait.new.self t (waiting t) refl within c.index_mut.ensures.value e (λ q. c.wait.ensures ∙ ap (λ (u : Thread). waiting u) q)
