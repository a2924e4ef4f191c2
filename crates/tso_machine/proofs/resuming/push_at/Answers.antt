-- The thread and the buffer at the place are those that were changed.
use Rattle.std.proofs.Common.{◌≡◌, ℕ, true, List, [], ◌∷◌, ◌++◌, Some, Ok, Err, Result, OnOk, OnErr, sym, ap, subst, ◌∙◌}
use Rattle.std.specs.Prelude.{map, slice_get, slice_set}
use Rattle.std.proofs.lemmas.Option.{slice_get-get_or}
use Rattle.tso_memory.specs.declared.buffer.Item.{Item}
use Rattle.tso_memory.specs.Buffer.{BufferMeaning}
use Rattle.tso_core.specs.Shared.{items_or_none}
use Rattle.tso_machine.specs.Known.{are_known}
use Rattle.tso_machine.proofs.KnownItems.{known_push}
use Rattle.tso_machine.proofs.MapLists.{map_set, get_map, same_map, set_resumed}
use Rattle.tso_machine.proofs.resuming.push_at.Goals as goal

on_ok : {A E : Type 0} {P Q : Type 0} (r : Result A E) → (P → Q) → OnOk r P → OnOk r Q
on_ok (Ok x) f h = f h
on_ok (Err e) f h = tt

on_err : {A E : Type 0} {P Q : Type 0} (r : Result A E) → (P → Q) → OnErr r P → OnErr r Q
on_err (Ok x) f h = tt
on_err (Err e) f h = f h

-- the items of a buffer that is put back with one more
with_item : (bs : List BufferMeaning) (i : ℕ) (b n : BufferMeaning) (item : Item) → slice_get bs i ≡ Some b → n.items ≡ b.items ++ item ∷ [] → map (λ x. x.items) (slice_set bs i n) ≡ slice_set (map (λ x. x.items) bs) i (items_or_none (slice_get (map (λ x. x.items) bs) i) ++ item ∷ [])
with_item bs i b n item e h =
    map_set (λ x. x.items) bs i n
    ∙ ap (slice_set (map (λ x. x.items) bs) i) (h ∙ ap (λ o. items_or_none o ++ item ∷ []) (sym (get_map (λ x. x.items) bs i b e)))

pub returns-clause-resumed : goal.returns-clause-resumed
returns-clause-resumed g c =
    let xs = c.args.threads.now.items in
    let t = c.index_mut-thread.result.now in
    let found : slice_get xs c.args.i ≡ Some t = slice_get-get_or xs c.args.i t c.requires.thread ∙ ap Some (sym c.index_mut-thread.ensures.value) in
    on_ok c.resume_pushing.result (λ h s k. set_resumed g.L.ThreadLang.state_of (λ x. (g.L.ThreadLang.language c.args.p.now).resumed c.args.at.now x c.args.answer) xs c.args.i t c.resume_pushing.new.thread found h s k) c.resume_pushing.ensures.resumed

pub returns-clause-pushed : goal.returns-clause-pushed
returns-clause-pushed g c =
    let bs = c.args.buffers.now.items in
    let b = c.index_mut-buffer.result.now in
    let found : slice_get bs c.args.i ≡ Some b = slice_get-get_or bs c.args.i b c.requires.buffer ∙ ap Some (sym c.index_mut-buffer.ensures.value) in
    on_ok c.resume_pushing.result (λ h. with_item bs c.args.i b c.resume_pushing.new.buffer c.args.item found h) c.resume_pushing.ensures.pushed

pub returns-clause-same_threads : goal.returns-clause-same_threads
returns-clause-same_threads g c =
    let xs = c.args.threads.now.items in
    let t = c.index_mut-thread.result.now in
    let found : slice_get xs c.args.i ≡ Some t = slice_get-get_or xs c.args.i t c.requires.thread ∙ ap Some (sym c.index_mut-thread.ensures.value) in
    on_err c.resume_pushing.result (λ h. same_map g.L.ThreadLang.state_of xs c.args.i t c.resume_pushing.new.thread found h) c.resume_pushing.ensures.same_thread

pub returns-clause-same_buffers : goal.returns-clause-same_buffers
returns-clause-same_buffers g c =
    let bs = c.args.buffers.now.items in
    let b = c.index_mut-buffer.result.now in
    let found : slice_get bs c.args.i ≡ Some b = slice_get-get_or bs c.args.i b c.requires.buffer ∙ ap Some (sym c.index_mut-buffer.ensures.value) in
    on_err c.resume_pushing.result (λ h. same_map (λ x. x.items) bs c.args.i b c.resume_pushing.new.buffer found h) c.resume_pushing.ensures.same_buffer

either : {A E : Type 0} {P Q R : Type 0} (r : Result A E) → (P → R) → (Q → R) → OnOk r P → OnErr r Q → R
either (Ok x) f g p q = f p
either (Err e) f g p q = g q

pub returns-clause-known : goal.returns-clause-known
returns-clause-known g c = λ os ks h.
    let bs = c.args.buffers.now.items in
    let b = c.index_mut-buffer.result.now in
    let n = c.resume_pushing.new.buffer in
    let found : slice_get bs c.args.i ≡ Some b = slice_get-get_or bs c.args.i b c.requires.buffer ∙ ap Some (sym c.index_mut-buffer.ensures.value) in
    either c.resume_pushing.result
    (λ e. subst (λ z. are_known os z ks ≡ true) (sym (with_item bs c.args.i b n c.args.item found e)) (known_push os (map (λ x. x.items) bs) ks c.args.i c.args.item h))
    (λ e. subst (λ z. are_known os z ks ≡ true) (sym (same_map (λ x. x.items) bs c.args.i b n found e)) h)
    c.resume_pushing.ensures.pushed c.resume_pushing.ensures.same_buffer
