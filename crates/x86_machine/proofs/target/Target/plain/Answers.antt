use Rattle.std.proofs.Common.{◌≡◌, ◌∙◌, ◌<◌, ap, arith, length}
use Rattle.x86_lang.specs.Assembly.{assembly_of}
use Rattle.x86_machine.specs.Kept.{state_of, thread_of}
use Rattle.x86_machine.specs.Target.{Thread}
use Rattle.x86_machine.proofs.Outcomes.{gives_of, plain_from}
use Rattle.x86_machine.proofs.States.{thread_here, thread_is}
use Rattle.x86_machine.proofs.target.Target.plain.Goals as goal

pub returns : goal.returns
returns c = λ t e.
    let within : c.args.thread < length c.args.self.now.threads.items = omega (arith, c.args.self.now.threads.ok.0) in
    let here : thread_of c.index.result.now ≡ t = thread_here c.args.self.now.threads.items c.args.thread c.index.result.now t within c.index.ensures e in
    let parts = c.executing-place.ensures in
    let r = ap (λ z. z.0) parts ∙ ap (λ (u : Thread). u.registers) here in
    let f = ap (λ z. z.1) parts ∙ ap (λ (u : Thread). u.flags) here in
    let p = ap (λ z. z.2) parts ∙ ap (λ (u : Thread). u.place) here in
    gives_of _ _ _ _ c.tried.result (plain_from (assembly_of c.args.program.now) (state_of c.args.self.now) c.args.thread t c.args.instr.now c.args.label _ _ _ _ _ _ c.requires.label r f p c.access_of-access.ensures (c.loaded-loaded.ensures t e) c.executed-after.ensures) (c.tried.ensures t e)

pub executed-after-requires : goal.executed-after-requires
executed-after-requires c =
    let within : c.args.thread < length c.args.self.now.threads.items = omega (arith, c.args.self.now.threads.ok.0) in
    let room = c.requires.place (thread_of c.index.result.now) (thread_is c.args.self.now.threads.items c.args.thread c.index.result.now within c.index.ensures) in
    rw (ap (λ z. z.2) c.executing-place.ensures) room
