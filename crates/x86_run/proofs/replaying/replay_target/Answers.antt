use Rattle.std.proofs.Common.{subst, ap, ◌∙◌}
use Rattle.schedule_text.specs.Plays.{Replays}
use Rattle.x86_lang.specs.Assembly.{Assembly, assembly_of}
use Rattle.x86_machine.specs.Target.{State}
use Rattle.x86_machine.specs.Machines.{machine_state}
use Rattle.x86_run.specs.Target.{Target, TargetGives, end_of_target, opening_of}
use Rattle.x86_run.specs.Standing.{target_of}
use Rattle.x86_run.proofs.replaying.replay_target.Goals as goal

abbrev target_at : Assembly → State → Target
target_at a m = record { assembly = a; machine = m }

pub returns-in-Ok : goal.returns-in-Ok
returns-in-Ok c =
    let end = target_of c.replay.new.machine in
    let program = ap (λ (z : Assembly). target_at z (machine_state c.in-Ok.machine)) c.in-Ok.ensures.of_assembly in
    let state = ap (λ (m : State). target_at (assembly_of c.args.a.now) m) c.in-Ok.ensures.opens in
    (end, subst (λ (s : Target). Replays TargetGives end_of_target c.args.s.now.lines.items s end c.replay.result) (program ∙ state) c.replay.ensures.plays)

pub returns-in-Err : goal.returns-in-Err
returns-in-Err c = (opening_of (assembly_of c.args.a.now), tt)
