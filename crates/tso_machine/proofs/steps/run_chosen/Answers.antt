-- A choice that is given is the one that is taken.
use Rattle.std.proofs.Common.{Some, sym, subst}
use Rattle.tso_core.specs.declared.Step.TheVariants.{Run}
use Rattle.tso_machine.specs.State.{core_state}
use Rattle.tso_machine.specs.Choices.{MachineGives, Given}
use Rattle.tso_machine.proofs.Chosen.{machine_gives}
use Rattle.tso_machine.proofs.steps.run_chosen.Goals as goal

pub returns-in-Some : goal.returns-in-Some
returns-in-Some g c =
    let l = g.L.ThreadLang.language c.args.p.now in
    let old = core_state g.L.ThreadLang.state_of c.args.at.now c.args.core.now in
    let new = core_state g.L.ThreadLang.state_of c.args.at.now c.run.new.core in
    let x = Run c.args.thread (Some c.in-Some.base) in
    subst (λ z. MachineGives l (Run c.args.thread z) old new c.run.result) (sym c.in-Some.is)
    (machine_gives l x old new c.run.result (record { taken = x; chosen = Given; gives = c.run.ensures }))
