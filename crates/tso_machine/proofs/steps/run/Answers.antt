-- The thread at the place can run and does what it offers, or it cannot.
use Rattle.std.proofs.Common.{◌≡◌, ◌<◌, length, false, Some, refl, sym, ap, subst, arith, ◌∙◌}
use Rattle.std.specs.Prelude.{map, slice_get}
use Rattle.std.proofs.lemmas.Option.{slice_get-get_or}
use Rattle.tso_core.specs.Threads.{acted}
use Rattle.tso_core.specs.Machine.{lang_of, offered}
use Rattle.tso_core.specs.Shared.{shared_part}
use Rattle.tso_machine.specs.State.{core_state, StepGives, CannotRun, flag}
use Rattle.tso_machine.proofs.MapLists.{get_map, map_get}
use Rattle.tso_machine.proofs.Running.{ran_acts, cannot}
use Rattle.tso_machine.proofs.steps.run.Goals as goal

pub returns-then-not-can_run : goal.returns-then-not-can_run
returns-then-not-can_run g c =
    let f = g.L.ThreadLang.state_of in
    let many : length c.args.core.now.ended.items ≡ length c.args.core.now.threads.items = omega arith in
    let why = subst (λ z. CannotRun c.args.core.now.now z c.args.thread) c.deref.ensures.value (c.can_run.ensures.not c.if-not-can_run.true) in
    (cannot (g.L.ThreadLang.language c.args.p.now) (core_state f c.args.at.now c.args.core.now) c.args.thread c.args.choice f c.args.core.now.threads.items c.args.core.now.ended.items c.args.core.now.now many why, refl)

pub act-requires-clause-offers : goal.act-requires-clause-offers
act-requires-clause-offers g c =
    let f = g.L.ThreadLang.state_of in
    let xs = c.args.core.now.threads.items in
    let t = c.index.result.now in
    let lt : c.args.thread < length xs = omega (arith, c.if-not-can_run.ensures.thread refl, ap length c.deref.ensures.value) in
    let found : slice_get xs c.args.thread ≡ Some t = slice_get-get_or xs c.args.thread t lt ∙ ap Some (sym c.index.ensures) in
    λ s k. ap ((g.L.ThreadLang.language c.args.p.now).offer c.args.at.now) (sym (map_get f xs c.args.thread t s found k)) ∙ sym c.in_ok-offer.ensures

pub returns : goal.returns
returns g c =
    let l = g.L.ThreadLang.language c.args.p.now in
    let f = g.L.ThreadLang.state_of in
    let xs = c.args.core.now.threads.items in
    let t = c.index.result.now in
    let lt : c.args.thread < length xs = omega (arith, c.if-not-can_run.ensures.thread refl, ap length c.deref.ensures.value) in
    let found : slice_get xs c.args.thread ≡ Some t = slice_get-get_or xs c.args.thread t lt ∙ ap Some (sym c.index.ensures) in
    let there : slice_get (map f xs) c.args.thread ≡ Some (f t) = get_map f xs c.args.thread t found in
    let live : flag (slice_get c.args.core.now.ended.items c.args.thread) ≡ false = subst (λ z. flag (slice_get z c.args.thread) ≡ false) c.deref.ensures.value (c.if-not-can_run.ensures.live refl) in
    let old = core_state f c.args.at.now c.args.core.now in
    let new = core_state f c.args.at.now c.act.new.core in
    let acts = ran_acts l old c.args.thread c.args.choice c.args.core.now.now (flag (slice_get c.args.core.now.ended.items c.args.thread)) (slice_get (map f xs) c.args.thread) (f t) (c.if-not-can_run.ensures.running refl) live there in
    let same = ap (λ z. acted shared_part (lang_of l) old c.args.thread (f t) (offered z) c.args.choice) (sym c.in_ok-offer.ensures) in
    subst (λ z. StepGives z old new c.act.result) (sym (acts ∙ same)) (c.act.ensures (f t) there)
