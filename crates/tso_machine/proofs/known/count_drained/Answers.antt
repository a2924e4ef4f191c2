-- A store leaves the objects; behind any other item nothing is known of the other buffers.
use Rattle.std.proofs.Common.{◌≡◌, true, Some, sym, ap, subst, ◌∙◌}
use Rattle.std.specs.Prelude.{slice_get, slice_set}
use Rattle.std.proofs.lemmas.Option.{slice_get-get_or}
use Rattle.tso_memory.specs.Through.{objects_at}
use Rattle.tso_machine.specs.Known.{are_known}
use Rattle.tso_machine.proofs.KnownItems.{known_drain}
use Rattle.tso_machine.proofs.known.count_drained.Goals as goal

pub returns-in-Put-clause-known : goal.returns-in-Put-clause-known
returns-in-Put-clause-known c = λ os bs rest n b h.
    let item = c.args.item.now in
    let ks = c.args.known.now.items in
    let i = c.args.i in
    let k = c.index.result.now in
    let count : slice_get ks i ≡ Some k = slice_get-get_or ks i k c.requires ∙ ap Some (sym c.index.ensures) in
    let same : os ≡ objects_at item os = ap (λ z. objects_at z os) (sym c.in-Put.is) in
    subst (λ z. are_known (objects_at item os) (slice_set bs i rest) (slice_set ks i z) ≡ true) (sym c.saturating_sub-own.ensures)
    (known_drain os bs ks ks i item rest k b count h (subst (λ z. are_known z bs ks ≡ true) same h))

pub returns-in-Place-clause-known : goal.returns-in-Place-clause-known
returns-in-Place-clause-known c = λ os bs rest n b h.
    let item = c.args.item.now in
    let ks = c.args.known.now.items in
    let i = c.args.i in
    let k = c.index.result.now in
    let count : slice_get ks i ≡ Some k = slice_get-get_or ks i k c.requires ∙ ap Some (sym c.index.ensures) in
    subst (λ z. are_known (objects_at item os) (slice_set bs i rest) (slice_set c.forget.new.known.items i z) ≡ true) (sym c.saturating_sub-own.ensures)
    (known_drain os bs ks c.forget.new.known.items i item rest k b count h (c.forget.ensures.none (objects_at item os) bs n))
