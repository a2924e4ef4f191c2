use Rattle.std.proofs.Common.{sym, subst}
use Rattle.tso_core.specs.declared.Step.{Step}
use Rattle.tso_core.specs.declared.Step.TheVariants.{Drain}
use Rattle.x86_lang.specs.Assembly.{assembly_of}
use Rattle.x86_machine.specs.Choices.{IsChosen, Drained}
use Rattle.x86_machine.specs.Kept.{state_of}
use Rattle.x86_machine.proofs.target.Target.chosen.Goals as goal

pub returns-in-Drain : goal.returns-in-Drain
returns-in-Drain c = subst (λ (z : Step). IsChosen (assembly_of c.args.program.now) (state_of c.args.self.now) z (Drain c.in-Drain.thread)) (sym c.in-Drain.is) Drained
