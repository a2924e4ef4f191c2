use Rattle.std.proofs.Common.{refl, arith, ◌<◌, length}
use Rattle.x86_memory.proofs.BytesLaws.{OnOk-map, OnErr-map}
use Rattle.x86_machine.specs.Kept.{state_of}
use Rattle.x86_machine.proofs.States.{stored_from, unstored_from}
use Rattle.x86_machine.proofs.target.Target.store.Goals as goal

pub returns-clause-ok : goal.returns-clause-ok
returns-clause-ok c = λ t e.
    let within : c.args.thread < length c.args.self.now.threads.items = omega (arith, c.args.self.now.threads.ok.0) in
    OnOk-map c.store.result (stored_from (state_of c.args.self.now) c.args.self.now.threads.items c.args.thread c.index_mut.result.now c.store.new.self t c.args.after.now c.args.access.now c.args.after.now.written _ refl within c.index_mut.ensures.value e c.in_ok-store_locked.ensures.ok) c.store.ensures.ok

pub returns-clause-err : goal.returns-clause-err
returns-clause-err c =
    let within : c.args.thread < length c.args.self.now.threads.items = omega (arith, c.args.self.now.threads.ok.0) in
    OnErr-map c.store.result (λ h. unstored_from (state_of c.args.self.now) c.args.self.now.threads.items c.args.thread c.index_mut.result.now c.store.new.self c.args.access.now c.args.after.now.written _ refl within c.index_mut.ensures.value c.in_ok-store_locked.ensures.ok h.0 h.1) c.store.ensures.err
