use Rattle.std.proofs.Common.{◌≡◌, ℕ, ◌<◌, ◌≤◌, sym, subst, arith, length, Option, Some, None}
use Rattle.std.proofs.lemmas.List.{length-map}
use Rattle.std.proofs.lemmas.Option.{slice_get_past}
use Rattle.tso_core.specs.declared.Step.TheVariants.{Run}
use Rattle.x86_lang.specs.Assembly.{assembly_of}
use Rattle.x86_machine.specs.declared.choices.Asked.{Asked}
use Rattle.x86_machine.specs.Choices.{IsChosen, IsDefault, Given, Missing, Default}
use Rattle.x86_machine.specs.Kept.{state_of, thread_of, threads_of}
use Rattle.x86_machine.proofs.States.{thread_found}
use Rattle.x86_machine.proofs.target.Target.choice_of.Goals as goal

pub returns-in-Some : goal.returns-in-Some
returns-in-Some c = subst (λ (z : Option ℕ). IsChosen (assembly_of c.args.program.now) (state_of c.args.self.now) (Run c.args.thread z) (Run c.args.thread (Some c.in-Some.word))) (sym c.in-Some.is) Given

pub returns-then-thread-len : goal.returns-then-thread-len
returns-then-thread-len c =
    let ts = c.args.self.now.threads.items in
    let past : length (threads_of ts) ≤ c.args.thread = omega (arith, c.if-thread-len.true, c.len.ensures, c.args.self.now.threads.ok.0, length-map ts thread_of) in
    subst (λ (z : Option ℕ). IsChosen (assembly_of c.args.program.now) (state_of c.args.self.now) (Run c.args.thread z) (Run c.args.thread None)) (sym c.in-None.is) (Missing (slice_get_past (threads_of ts) c.args.thread past))

pub returns-else-thread-len : goal.returns-else-thread-len
returns-else-thread-len c =
    let ts = c.args.self.now.threads.items in
    let within : c.args.thread < length ts = omega (arith, c.if-thread-len.false, c.len.ensures, c.args.self.now.threads.ok.0) in
    let found = thread_found ts c.args.thread within in
    subst (λ (z : Option ℕ). IsChosen (assembly_of c.args.program.now) (state_of c.args.self.now) (Run c.args.thread z) (Run c.args.thread c.default_of.result)) (sym c.in-None.is)
    (Default found.1 (subst (λ (q : Asked). IsDefault (state_of c.args.self.now) q c.default_of.result) (c.asked.ensures found.0 found.1) c.default_of.ensures))
