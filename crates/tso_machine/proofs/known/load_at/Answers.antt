-- The items that are not tried are known to be right.
use Rattle.std.proofs.Common.{◌≡◌, length, map, Some, None, MatchResult, sym, ap, subst, ◌∙◌}
use Rattle.std.specs.Prelude.{slice_set}
use Rattle.tso_memory.specs.Buffer.{loaded, view}
use Rattle.tso_memory.specs.Kept.{memory_of}
use Rattle.tso_memory.proofs.Views.{view_refused}
use Rattle.tso_machine.specs.Known.{are_known}
use Rattle.tso_machine.proofs.KnownItems.{known_parts, known_loaded, buffer_there, buffer_known}
use Rattle.tso_machine.proofs.Waits.{buffer_found}
use Rattle.tso_machine.proofs.known.load_at.Goals as goal

pub is_view_right-requires-clause-within : goal.is_view_right-requires-clause-within
is_view_right-requires-clause-within c =
    let os = c.args.memory.now.objects in
    let b = c.index-buffers-i.result in
    (known_parts os b.items c.index.result.now (buffer_known os c.args.buffers.now c.args.known.now.items c.args.i b c.index.result.now c.requires.buffer c.requires.count c.index-buffers-i.is c.index.ensures c.requires.known)).0

pub is_view_right-requires-clause-right : goal.is_view_right-requires-clause-right
is_view_right-requires-clause-right c =
    let os = c.args.memory.now.objects in
    let b = c.index-buffers-i.result in
    (known_parts os b.items c.index.result.now (buffer_known os c.args.buffers.now c.args.known.now.items c.args.i b c.index.result.now c.requires.buffer c.requires.count c.index-buffers-i.is c.index.ensures c.requires.known)).1

pub returns-then-not-is_view_right-clause-value : goal.returns-then-not-is_view_right-clause-value
returns-then-not-is_view_right-clause-value c =
    let m = memory_of c.args.memory.now in
    let b = c.index-buffers-i.result in
    ap (λ z. loaded (view m z) c.args.chunk c.args.addr) (buffer_found c.args.buffers.now c.args.i b c.requires.buffer c.index-buffers-i.is)
    ∙ view_refused b.items m c.args.chunk c.args.addr (sym c.is_view_right.ensures ∙ c.if-not-is_view_right.true)

pub returns-clause-known : goal.returns-clause-known
returns-clause-known c =
    let os = c.args.memory.now.objects in
    let b = c.index-buffers-i.result in
    let bs = map (λ x. x.items) c.args.buffers.now in
    ap (λ z. are_known os bs (slice_set c.args.known.now.items c.args.i (length z))) c.items.ensures.list
    ∙ known_loaded os bs c.args.known.now.items c.args.i b.items (buffer_there c.args.buffers.now c.args.i b c.requires.buffer c.index-buffers-i.is) c.requires.known (sym c.is_view_right.ensures ∙ c.if-not-is_view_right.false)

pub returns-clause-value : goal.returns-clause-value
returns-clause-value c =
    let m = memory_of c.args.memory.now in
    subst (λ z. MatchResult c.load_in_view.result (λ v. loaded (view m z) c.args.chunk c.args.addr ≡ Some v) (λ _. loaded (view m z) c.args.chunk c.args.addr ≡ None))
    (sym (buffer_found c.args.buffers.now c.args.i c.index-buffers-i.result c.requires.buffer c.index-buffers-i.is)) c.load_in_view.ensures
