use Rattle.std.proofs.Common.{sym, ◌∙◌, true, false}
use Rattle.tso_memory.proofs.Items.{places_lifted_step}
use Rattle.tso_memory.proofs.placing.are_places_lifted.Goals as goal

pub loop-k-preserved : goal.loop-k-preserved
loop-k-preserved c = places_lifted_step c.args.base c.args.size c.loop-k.k c.args.items.now _ true c.loop-k-test.true (sym c.if-not-is_lifted_by.false ∙ c.is_lifted_by.ensures) c.loop-k.invariant

pub returns-then-not-is_lifted_by : goal.returns-then-not-is_lifted_by
returns-then-not-is_lifted_by c = places_lifted_step c.args.base c.args.size c.loop-k.k c.args.items.now _ false c.loop-k-test.true (sym c.if-not-is_lifted_by.true ∙ c.is_lifted_by.ensures) c.loop-k.invariant
