-- What the load finds is what the thread goes on with.
use Rattle.std.proofs.Common.{◌≡◌, map, Some, sym, subst}
use Rattle.std.specs.Prelude.{slice_get}
use Rattle.tso_core.specs.Threads.{finished}
use Rattle.tso_core.specs.Machine.{lang_of}
use Rattle.tso_core.specs.Shared.{items_or_none, shared_part}
use Rattle.tso_memory.specs.Buffer.{loaded, view}
use Rattle.tso_memory.specs.Kept.{memory_of}
use Rattle.tso_machine.specs.State.{core_shared, core_state, StepGives}
use Rattle.tso_machine.proofs.Waits.{load_found}
use Rattle.tso_machine.proofs.effects.load.Goals as goal

pub returns-in-Ok : goal.returns-in-Ok
returns-in-Ok g c =
    let l = g.L.ThreadLang.language c.args.p.now in
    let old = core_state g.L.ThreadLang.state_of c.args.at.now c.args.core.now in
    let new = core_state g.L.ThreadLang.state_of c.args.at.now c.go_on_with.new.core in
    let m = memory_of c.args.core.now.memory in
    let found = subst (λ z. loaded (view m (items_or_none (slice_get (map (λ b. b.items) z) c.args.i))) c.args.chunk c.args.addr ≡ Some c.in-Ok.v) c.deref.ensures.value c.in-Ok.ensures.value in
    λ s k. subst (λ z. StepGives (finished shared_part (lang_of l) old c.args.i s z) old new c.go_on_with.result) (sym (load_found c.args.chunk c.args.addr c.in-Ok.v c.args.i c.args.choice (core_shared c.args.core.now) c.if-is_some.ensures found)) (c.go_on_with.ensures s k)
