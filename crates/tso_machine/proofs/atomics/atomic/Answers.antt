-- The buffer of the thread is empty, or the step is refused.
use Rattle.std.proofs.Common.{◌≡◌, length, true, false, refl, sym, ap, subst, ◌∙◌}
use Rattle.std.specs.Prelude.{◌==◌}
use Rattle.tso_core.specs.Threads.{finished}
use Rattle.tso_core.specs.Machine.{lang_of}
use Rattle.tso_core.specs.Shared.{shared_part}
use Rattle.tso_machine.specs.State.{core_shared, core_state, StepGives}
use Rattle.tso_machine.proofs.Waits.{buffer_found, atomic_full, atomic_empty}
use Rattle.tso_machine.proofs.atomics.atomic.Goals as goal

pub returns-then-not-is_empty : goal.returns-then-not-is_empty
returns-then-not-is_empty g c =
    let l = g.L.ThreadLang.language c.args.p.now in
    let old = core_state g.L.ThreadLang.state_of c.args.at.now c.args.core.now in
    let held = buffer_found c.args.core.now.buffers.items c.args.i c.index.result.now c.requires.buffer c.index.ensures ∙ sym c.items.ensures.list in
    let full : (length c.items.result.now == 0) ≡ false = sym c.is_empty.ensures ∙ c.if-not-is_empty.true in
    λ s k. (ap (finished shared_part (lang_of l) old c.args.i s) (atomic_full c.args.kind c.args.addr c.args.expected c.args.desired c.args.i c.args.choice (core_shared c.args.core.now) c.items.result.now c.if-is_some.ensures held full), refl)

pub returns : goal.returns
returns g c =
    let l = g.L.ThreadLang.language c.args.p.now in
    let old = core_state g.L.ThreadLang.state_of c.args.at.now c.args.core.now in
    let new = core_state g.L.ThreadLang.state_of c.args.at.now c.swap.new.core in
    let held = buffer_found c.args.core.now.buffers.items c.args.i c.index.result.now c.requires.buffer c.index.ensures ∙ sym c.items.ensures.list in
    let none : (length c.items.result.now == 0) ≡ true = sym c.is_empty.ensures ∙ c.if-not-is_empty.false in
    λ s k. subst (λ z. StepGives (finished shared_part (lang_of l) old c.args.i s z) old new c.swap.result) (sym (atomic_empty c.args.kind c.args.addr c.args.expected c.args.desired c.args.i c.args.choice (core_shared c.args.core.now) c.items.result.now c.if-is_some.ensures held none)) (c.swap.ensures s k)
