-- The next global has a range of its own, and is the next of the fold.
use Rattle.std.proofs.Common.{◌≡◌, ◌<◌, false, length, get_or, take, map, subst, sym, ap, ◌∙◌, refl, arith}
use Rattle.std.specs.List.{list_any, fold}
use Rattle.std.proofs.lemmas.List.{get_or-map, length-map}
use Rattle.std.proofs.lemmas.List.Sums.{fold_more}
use Rattle.tso_core.specs.Placing.{base_of}
use Rattle.tso_core.specs.Runs.{with_global, IsDataPlace}
use Rattle.tso_core.specs.Stated.{object_of}
use Rattle.tso_memory.specs.Kept.{empty}
use Rattle.tso_memory.specs.Memory.{is_met}
use Rattle.tso_machine.proofs.Openings.{placed_sound, next_apart}
use Rattle.tso_machine.proofs.opening.opening_memory.Goals as goal

pub add_global-requires-clause-sound : goal.add_global-requires-clause-sound
add_global-requires-clause-sound c =
    let objs = c.args.globals.now.objects.items in
    let k = c.loop-global.global-index in
    let g = c.global-item.result in
    let there : g ≡ get_or objs k g = c.global-item.is ∙ ap (λ l. get_or l k g) c.deref-global-items.ensures.value in
    let lt : k < length objs = omega (arith, ap length c.deref-global-items.ensures.value) in
    let same : object_of g ≡ get_or (map object_of objs) k (object_of g) = ap object_of there ∙ sym (get_or-map object_of objs k g (object_of g) lt) in
    placed_sound c.args.at.now (object_of g) g.some_size (subst (IsDataPlace c.args.at.now) (sym same) (c.requires.objects_placed k (object_of g) (omega (arith, length-map objs object_of))))

pub add_global-requires-clause-apart : goal.add_global-requires-clause-apart
add_global-requires-clause-apart c =
    let objs = c.args.globals.now.objects.items in
    let k = c.loop-global.global-index in
    let g = c.global-item.result in
    let at = c.args.at.now in
    let there : g ≡ get_or objs k g = c.global-item.is ∙ ap (λ l. get_or l k g) c.deref-global-items.ensures.value in
    let lt : k < length objs = omega (arith, ap length c.deref-global-items.ensures.value) in
    let same : object_of g ≡ get_or (map object_of objs) k (object_of g) = ap object_of there ∙ sym (get_or-map object_of objs k g (object_of g) lt) in
    subst (λ o. list_any (is_met (base_of at o.0) o.1) c.loop-global.memory.objects ≡ false) (sym same)
    (subst (λ m. list_any (is_met (base_of at (get_or (map object_of objs) k (object_of g)).0) (get_or (map object_of objs) k (object_of g)).1) m.objects ≡ false) (sym c.loop-global.invariant)
    (next_apart at empty (map object_of objs) k (object_of g) refl (omega (arith, length-map objs object_of)) c.requires.objects_apart))

pub loop-global-preserved : goal.loop-global-preserved
loop-global-preserved c =
    let objs = c.args.globals.now.objects.items in
    let k = c.loop-global.global-index in
    let g = c.global-item.result in
    let at = c.args.at.now in
    let there : g ≡ get_or objs k g = c.global-item.is ∙ ap (λ l. get_or l k g) c.deref-global-items.ensures.value in
    let lt : k < length objs = omega (arith, ap length c.deref-global-items.ensures.value) in
    let same : object_of g ≡ get_or (map object_of objs) k (object_of g) = ap object_of there ∙ sym (get_or-map object_of objs k g (object_of g) lt) in
    c.in_ok-add_global.ensures
    ∙ (ap (λ m. with_global at m (object_of g)) c.loop-global.invariant
    ∙ (ap (λ o. with_global at (fold (with_global at) empty (take k (map object_of objs))) o) same
    ∙ sym (fold_more (with_global at) empty (map object_of objs) k (object_of g) (omega (arith, length-map objs object_of)))))
