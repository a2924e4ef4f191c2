use Rattle.std.proofs.Common.{refl, sym, ap, ◌∙◌, arith, ◌<◌, List, length}
use Rattle.x86_memory.specs.declared.buffer.Write.{Write}
use Rattle.x86_memory.specs.Bytes.{Bytes, written}
use Rattle.x86_machine.specs.Kept.{state_of, thread_of}
use Rattle.x86_machine.proofs.States.{drained_from, undrained_from, unchanged_from}
use Rattle.x86_machine.proofs.target.Target.drained.Goals as goal

pub returns-in_ok-put-in-Some : goal.returns-in_ok-put-in-Some
returns-in_ok-put-in-Some c =
    let within : c.args.thread < length c.args.self.now.threads.items = omega (arith, c.args.self.now.threads.ok.0) in
    drained_from (state_of c.args.self.now) c.args.self.now.threads.items c.args.thread c.index_mut.result.now _ c.in-Some.write _ refl within c.index_mut.ensures.value c.in-Some.ensures.oldest refl (c.in_ok-put-in-Some.ensures.ok ∙ ap (λ (b : Bytes). written b c.in-Some.write) c.reserve.ensures.same)

pub returns-in-None : goal.returns-in-None
returns-in-None c =
    let within : c.args.thread < length c.args.self.now.threads.items = omega (arith, c.args.self.now.threads.ok.0) in
    let old = c.in-None.ensures.oldest.0 in
    let same = ap (λ (ws : List Write). record (thread_of c.index_mut.result.now) { buffer = ws }) (c.in-None.ensures.oldest.1 ∙ sym old) in (
      undrained_from (state_of c.args.self.now) c.args.self.now.threads.items c.args.thread c.index_mut.result.now within c.index_mut.ensures.value old,
      unchanged_from (state_of c.args.self.now) c.args.self.now.threads.items c.args.thread c.index_mut.result.now _ _ refl within c.index_mut.ensures.value same c.reserve.ensures.same,
    )
