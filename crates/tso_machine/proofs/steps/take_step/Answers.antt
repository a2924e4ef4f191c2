-- A drain takes no choice.
use Rattle.std.proofs.Common.{sym, subst}
use Rattle.tso_core.specs.declared.Step.TheVariants.{Drain}
use Rattle.tso_machine.specs.State.{core_state}
use Rattle.tso_machine.specs.Choices.{MachineGives, Drained}
use Rattle.tso_machine.proofs.Chosen.{machine_gives}
use Rattle.tso_machine.proofs.steps.take_step.Goals as goal

pub returns-in-Drain : goal.returns-in-Drain
returns-in-Drain g c =
    let l = g.L.ThreadLang.language c.args.p.now in
    let old = core_state g.L.ThreadLang.state_of c.args.at.now c.args.core.now in
    let new = core_state g.L.ThreadLang.state_of c.args.at.now c.drain.new.core in
    subst (λ z. MachineGives l z old new c.drain.result) (sym c.in-Drain.is)
    (machine_gives l (Drain c.in-Drain.thread) old new c.drain.result (record { taken = Drain c.in-Drain.thread; chosen = Drained; gives = c.drain.ensures }))
