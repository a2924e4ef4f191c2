use Rattle.std.proofs.Common.{◌∙◌}
use Rattle.clight_expressions.proofs.Stops.{fails_as}
use Rattle.clight_files.proofs.Ends.{values_first, values_stop, values_next, values_end}
use Rattle.clight_files.proofs.files.all_settled.Goals as goal

pub loop-known-init : goal.loop-known-init
loop-known-init c = values_first c.args.scene.now _ (c.into_iter-known-iterator.ensures.into_iter_gives ∙ c.values-known-items.ensures.rest)

pub returns-in_err-owed : goal.returns-in_err-owed
returns-in_err-owed c = fails_as _ _ c.from_residual.result c.in_err-owed.field-0.0 c.from_residual.ensures.1 (values_stop c.loop-known.known-iterator _ _ _ _ _ c.in-Some.ensures.steps c.is_settled.ensures c.in_err-owed.ensures.err c.loop-known.invariant)

pub loop-known-preserved : goal.loop-known-preserved
loop-known-preserved c = values_next c.loop-known.known-iterator _ _ _ _ c.in-Some.ensures.steps c.is_settled.ensures c.in_ok-owed.ensures.ok c.loop-known.invariant

pub returns : goal.returns
returns c = values_end c.loop-known.known-iterator _ c.in-None.ensures.steps.0 c.loop-known.invariant
