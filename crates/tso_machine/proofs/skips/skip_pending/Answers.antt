-- The buffers in front, the own one, and those behind it.
use Rattle.std.proofs.Common.{◌+◌, ◌-◌, length, take, drop, ap, ◌∙◌}
use Rattle.std.proofs.lemmas.List.{take_rest}
use Rattle.tso_machine.proofs.Skipped.{skips_pending}
use Rattle.tso_machine.proofs.skips.skip_pending.Goals as goal

pub returns-clause-skips : goal.returns-clause-skips
returns-clause-skips c =
    let bs = c.args.buffers.now in
    let t = c.args.thread in
    skips_pending c.args.size t bs c.index-buffers-thread.result c.items.result.now (take (length bs - (t + 1)) (drop (t + 1) bs)) c.args.x c.skip_others-front.result c.skip_own-own.result c.skip_others.result c.requires.thread
    (c.items.ensures.list ∙ ap (λ z. z.items) c.index-buffers-thread.is)
    (take_rest bs (t + 1))
    c.skip_others-front.ensures.skips c.skip_own-own.ensures.skips c.skip_others.ensures.skips
