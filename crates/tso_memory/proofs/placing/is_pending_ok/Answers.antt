use Rattle.std.proofs.Common.{ap, ◌∙◌, []}
use Rattle.tso_memory.specs.Buffer.{places_lifted}
use Rattle.tso_memory.proofs.Items.{pending_front, pending_own, pending_rest}
use Rattle.tso_memory.proofs.placing.is_pending_ok.Goals as goal

pub returns-then-not-are_unplaced : goal.returns-then-not-are_unplaced
returns-then-not-are_unplaced c = pending_front c.args.base c.args.size c.args.thread c.args.buffers.now (record { items = []; spare = 0 }) c.requires c.are_unplaced.result c.are_unplaced.ensures c.if-not-are_unplaced.true

pub returns-then-not-are_places_lifted : goal.returns-then-not-are_places_lifted
returns-then-not-are_places_lifted c =
    pending_own c.args.base c.args.size c.args.thread c.args.buffers.now c.index-buffers-thread.result c.requires c.are_unplaced.result c.are_unplaced.ensures c.are_places_lifted.result c.if-not-are_unplaced.false (c.are_places_lifted.ensures ∙ ap (places_lifted c.args.base c.args.size) (c.items.ensures.list ∙ ap (λ z. z.items) c.index-buffers-thread.is)) c.if-not-are_places_lifted.true

pub returns : goal.returns
returns c =
    pending_rest c.args.base c.args.size c.args.thread c.args.buffers.now c.index-buffers-thread.result c.requires c.are_unplaced.result c.are_unplaced.ensures c.are_places_lifted.result c.are_unplaced-2.result c.if-not-are_unplaced.false (c.are_places_lifted.ensures ∙ ap (places_lifted c.args.base c.args.size) (c.items.ensures.list ∙ ap (λ z. z.items) c.index-buffers-thread.is)) c.if-not-are_places_lifted.false c.are_unplaced-2.ensures
