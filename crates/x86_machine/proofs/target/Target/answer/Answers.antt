use Rattle.std.proofs.Common.{refl, ap, ◌∙◌, arith, ◌<◌, length}
use Rattle.x86_machine.specs.Kept.{state_of, thread_of}
use Rattle.x86_machine.specs.X86Tso.{answered}
use Rattle.x86_machine.specs.Target.{Thread}
use Rattle.x86_machine.proofs.States.{changed, thread_is}
use Rattle.x86_machine.proofs.target.Target.answer.Goals as goal

pub returns : goal.returns
returns c = λ t e.
    let within : c.args.thread < length c.args.self.now.threads.items = omega (arith, c.args.self.now.threads.ok.0) in
    changed (state_of c.args.self.now) c.args.self.now.threads.items c.args.thread c.index_mut.result.now c.answer.new.self t (answered t c.args.word) refl within c.index_mut.ensures.value e (λ q. c.answer.ensures ∙ ap (λ (u : Thread). answered u c.args.word) q)

pub answer-requires : goal.answer-requires
answer-requires c =
    let within : c.args.thread < length c.args.self.now.threads.items = omega (arith, c.args.self.now.threads.ok.0) in
    c.requires.place (thread_of c.index_mut.result.now) (thread_is c.args.self.now.threads.items c.args.thread c.index_mut.result.now within c.index_mut.ensures.value)
