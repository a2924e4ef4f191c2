use Rattle.std.proofs.Common.{sym, ◌∙◌, map}
use Rattle.tso_memory.proofs.Items.{allowed_unfit}
use Rattle.tso_memory.proofs.placing.place_ok.Goals as goal

pub returns-then-not-is_fit : goal.returns-then-not-is_fit
returns-then-not-is_fit c = allowed_unfit c.args.m.now.objects (map (λ b. b.items) c.args.buffers.now) c.args.thread c.args.base c.args.size c.args.align (sym c.is_fit.ensures ∙ c.if-not-is_fit.true)
