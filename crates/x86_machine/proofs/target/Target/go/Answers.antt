use Rattle.std.proofs.Common.{refl, ap, ◌∙◌, arith, ◌<◌, length}
use Rattle.x86_machine.specs.Kept.{state_of}
use Rattle.x86_machine.specs.X86Tso.{thread_after}
use Rattle.x86_machine.proofs.States.{changed}
use Rattle.x86_machine.proofs.target.Target.go.Goals as goal

pub returns : goal.returns
returns c = λ t e.
    let within : c.args.thread < length c.args.self.now.threads.items = omega (arith, c.args.self.now.threads.ok.0) in
    changed (state_of c.args.self.now) c.args.self.now.threads.items c.args.thread c.index_mut.result.now c.go.new.self t (thread_after t c.args.after.now) refl within c.index_mut.ensures.value e (λ q. c.go.ensures.thread ∙ ap (λ u. thread_after u c.args.after.now) q)
