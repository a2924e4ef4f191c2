use Rattle.std.proofs.Common.{◌≡◌, sym, ap, ◌∙◌, Option}
use Rattle.x86_lang.specs.Assembly.{assembly_of}
use Rattle.x86_machine.specs.declared.services.Service.{Service}
use Rattle.x86_machine.specs.Kept.{state_of}
use Rattle.x86_machine.proofs.Calls.{called_as, called_is}
use Rattle.x86_machine.proofs.Outcomes.{gives_of}
use Rattle.x86_machine.proofs.target.Target.called.Goals as goal

pub returns-in-Some : goal.returns-in-Some
returns-in-Some c = λ t e.
    let a = assembly_of c.args.program.now in
    let m = state_of c.args.self.now in
    let is = called_is a m c.args.thread t c.args.choice c.args.name.now ∙ ap (λ (s : Option Service). called_as a m c.args.thread t c.args.choice c.args.name.now s) (sym c.service_of.ensures ∙ c.in-Some.is) in
    gives_of _ _ _ _ c.served.result (sym is) (c.served.ensures t e)
