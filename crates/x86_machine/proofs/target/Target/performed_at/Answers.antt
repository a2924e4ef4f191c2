use Rattle.std.proofs.Common.{◌≡◌, sym, ap, ◌∙◌, Option, false, rules}
use Rattle.std.specs.Prelude.{is_some}
use Rattle.tso_core.specs.Systems.{Names}
use Rattle.x86_lang.specs.Assembly.{assembly_of}
use Rattle.x86_machine.specs.Kept.{state_of}
use Rattle.x86_machine.proofs.Calls.{performed_as, performed_is, without_choice}
use Rattle.x86_machine.proofs.Outcomes.{gives_of}
use Rattle.x86_machine.proofs.target.Target.performed_at.Goals as goal

pub returns-else-is_some : goal.returns-else-is_some
returns-else-is_some c = λ t e.
    let a = assembly_of c.args.program.now in
    let m = state_of c.args.self.now in
    let none : is_some c.args.choice ≡ false = search rules in
    let is = performed_is a m c.args.thread t c.args.choice c.args.instr.now ∙ (ap (λ (n : Option Names). performed_as a m c.args.thread t c.args.choice c.args.instr.now n) c.in-None.ensures ∙ without_choice c.args.choice _ none) in
    gives_of _ _ _ _ c.instructed.result (sym is) (c.instructed.ensures t e)
