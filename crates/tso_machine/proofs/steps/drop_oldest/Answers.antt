-- The buffer at the place is the one whose oldest item is gone.
use Rattle.std.proofs.Common.{◌≡◌, ℕ, true, List, ◌∷◌, length, Some, sym, ap, subst, arith, ◌∙◌}
use Rattle.std.specs.Prelude.{map, slice_get, slice_set}
use Rattle.std.proofs.lemmas.List.{length-map}
use Rattle.std.proofs.lemmas.Option.{slice_get-get_or}
use Rattle.tso_memory.specs.Buffer.{BufferMeaning}
use Rattle.tso_memory.specs.Through.{objects_at}
use Rattle.tso_core.specs.Shared.{items_or_none}
use Rattle.tso_machine.specs.Known.{are_known}
use Rattle.tso_machine.specs.State.{oldest_of, behind}
use Rattle.tso_machine.proofs.KnownItems.{oldest_first}
use Rattle.tso_machine.proofs.MapLists.{map_set, get_map}
use Rattle.tso_machine.proofs.steps.drop_oldest.Goals as goal

without_oldest : (bs : List BufferMeaning) (i : ℕ) (b n : BufferMeaning) → slice_get bs i ≡ Some b → n.items ≡ behind b.items → map (λ x. x.items) (slice_set bs i n) ≡ slice_set (map (λ x. x.items) bs) i (behind (items_or_none (slice_get (map (λ x. x.items) bs) i)))
without_oldest bs i b n e h =
    map_set (λ x. x.items) bs i n
    ∙ ap (slice_set (map (λ x. x.items) bs) i) (h ∙ ap (λ o. behind (items_or_none o)) (sym (get_map (λ x. x.items) bs i b e)))

pub returns-clause-rest : goal.returns-clause-rest
returns-clause-rest c =
    let bs = c.args.buffers.now.items in
    let b = c.index_mut-buffer.result.now in
    without_oldest bs c.args.i b c.drop_first.new.buffer (slice_get-get_or bs c.args.i b c.requires.buffer ∙ ap Some (sym c.index_mut-buffer.ensures.value)) c.drop_first.ensures

pub returns-clause-known : goal.returns-clause-known
returns-clause-known c = λ os h.
    let bs = c.args.buffers.now.items in
    let b = c.index_mut-buffer.result.now in
    let i = c.args.i in
    let item = c.args.item.now in
    let found : slice_get (map (λ x. x.items) bs) i ≡ Some b.items = get_map (λ x. x.items) bs i b (slice_get-get_or bs i b c.requires.buffer ∙ ap Some (sym c.index_mut-buffer.ensures.value)) in
    let first : b.items ≡ item ∷ behind b.items = oldest_first b.items item (c.requires.oldest ∙ ap (λ o. oldest_of (items_or_none o)) found) in
    let many : length c.args.known.now.items ≡ length (map (λ x. x.items) bs) = omega (arith, c.requires.counts, length-map bs (λ x. x.items)) in
    subst (λ z. are_known (objects_at item os) z c.count_drained.new.known.items ≡ true) (sym (map_set (λ x. x.items) bs i c.drop_first.new.buffer ∙ ap (slice_set (map (λ x. x.items) bs) i) c.drop_first.ensures))
    (c.count_drained.ensures.known os (map (λ x. x.items) bs) (behind b.items) many (found ∙ ap Some first) h)
