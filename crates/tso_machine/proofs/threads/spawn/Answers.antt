-- A buffer more, of which nothing is known.
use Rattle.std.proofs.Common.{◌≡◌, ◌<◌, true, [], ◌∷◌, ◌++◌, length, map, Some, None, Ok, Err, Result, OnOk, OnErr, refl, sym, ap, subst, arith, ◌∙◌}
use Rattle.std.specs.Prelude.{slice_get, slice_set}
use Rattle.std.specs.Option.{option_map}
use Rattle.std.proofs.lemmas.List.{length-map}
use Rattle.tso_words.specs.declared.value.Val.TheVariants.{Word}
use Rattle.tso_memory.specs.Kept.{memory_of}
use Rattle.tso_core.specs.declared.offer.Answer.TheVariants.{Value}
use Rattle.tso_core.specs.Language.{Takes}
use Rattle.tso_machine.specs.Known.{are_known}
use Rattle.tso_machine.specs.State.{core_state, flag}
use Rattle.tso_machine.proofs.Begun.{flag_more, spawned_gives, more_state}
use Rattle.tso_machine.proofs.KnownItems.{known_more}
use Rattle.tso_machine.proofs.threads.spawn.Goals as goal

more_or_same : {A E : Type 0} {P Q S T R : Type 0} (r : Result A E) → (P → S → R) → (Q → T → R) → OnOk r P → OnOk r S → OnErr r Q → OnErr r T → R
more_or_same (Ok x) f h p s q t = f p s
more_or_same (Err e) f h p s q t = h q t

pub invariant_of-core-2-clause-known_right : goal.invariant_of-core-2-clause-known_right
invariant_of-core-2-clause-known_right g c =
    let os = c.args.core.now.memory.objects in
    let bs = map (λ b. b.items) c.args.core.now.buffers.items in
    let ks = c.args.core.now.known.items in
    let ns = map (λ b. b.items) c.add_thread_at.new.buffers.items in
    let js = c.add_thread_at.new.known.items in
    more_or_same c.add_thread_at.result
    (λ e f. subst (λ z. are_known os z js ≡ true) (sym e) (subst (λ z. are_known os (bs ++ [] ∷ []) z ≡ true) (sym f) (known_more os bs ks c.args.core.now.known_right)))
    (λ e f. subst (λ z. are_known os z js ≡ true) (sym e) (subst (λ z. are_known os bs z ≡ true) (sym f) c.args.core.now.known_right))
    c.add_thread_at.ensures.added c.add_thread_at.ensures.counted c.add_thread_at.ensures.same_buffers c.add_thread_at.ensures.same_known

pub add_thread_at-requires-clause-takes : goal.add_thread_at-requires-clause-takes
add_thread_at-requires-clause-takes g c = λ s k. subst (λ z. Takes z (Value (Word c.len-2.result))) (sym (c.requires.offers s k)) (omega arith)

pub returns : goal.returns
returns g c =
    let l = g.L.ThreadLang.language c.args.p.now in
    let f = g.L.ThreadLang.state_of in
    let at = c.args.at.now in
    let core = c.args.core.now in
    let old = core_state f at core in
    let bs = map (λ b. b.items) core.buffers.items in
    let many : length bs ≡ length core.buffers.items = length-map core.buffers.items (λ b. b.items) in
    let number : length bs ≡ c.len-2.result = omega (arith, many) in
    let room : length bs < 4294967295 = omega (arith, many) in
    let started = sym c.in_ok-further.ensures ∙ ap (option_map f) c.in-Some.is in
    λ s k. (
      spawned_gives l old c.args.i s (f c.in-Some.further) c.args.fun c.args.arg room started
          ∙ ap (λ z. Some (None, z)) (more_state at (memory_of core.memory) core.now (bs ++ [] ∷ []) (map (λ b. b.items) c.add_thread_at.new.buffers.items) (λ j. flag (slice_get core.ended.items j)) (λ j. flag (slice_get c.add_thread_at.new.ended.items j))
          (slice_set (map f core.threads.items) c.args.i (l.resumed at s (Value (Word (length bs)))) ++ f c.in-Some.further ∷ []) (map f c.add_thread_at.new.threads.items)
          (sym c.in_ok-add_thread_at.ensures.added)
          (λ j. sym (ap (λ e. flag (slice_get e j)) c.in_ok-add_thread_at.ensures.begun ∙ flag_more core.ended.items j))
          (ap (λ n. slice_set (map f core.threads.items) c.args.i (l.resumed at s (Value (Word n))) ++ f c.in-Some.further ∷ []) number ∙ sym (c.in_ok-add_thread_at.ensures.resumed s k))),
      refl,
    )
