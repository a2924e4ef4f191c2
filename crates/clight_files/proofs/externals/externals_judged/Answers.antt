use Rattle.std.proofs.Common.{ap}
use Rattle.clight_expressions.proofs.Stops.{fails_as}
use Rattle.clight_files.specs.FilesOf.{functions_of}
use Rattle.clight_files.proofs.Functions.{behind_none, externals_stop, externals_next, externals_end}
use Rattle.clight_files.proofs.externals.externals_judged.Goals as goal

pub loop-external-init : goal.loop-external-init
loop-external-init c = behind_none _ _ (ap functions_of c.new-functions.ensures.items)

pub returns-in_err-external_judged : goal.returns-in_err-external_judged
returns-in_err-external_judged c = fails_as _ _ c.from_residual.result c.in_err-external_judged.field-0.0 c.from_residual.ensures.1 (externals_stop _ (functions_of c.loop-external.functions.items) c.args.list.now c.loop-external.external-index c.external-item.result _ _ c.loop-external-test.true c.external-item.is c.in_err-external_judged.ensures c.loop-external.invariant)

pub loop-external-preserved : goal.loop-external-preserved
loop-external-preserved c = externals_next _ _ (functions_of c.loop-external.functions.items) _ c.args.list.now c.loop-external.external-index c.external-item.result _ c.loop-external-test.true c.external-item.is c.in_ok-external_judged.ensures c.loop-external.invariant

pub returns : goal.returns
returns c = externals_end _ (functions_of c.loop-external.functions.items) c.args.list.now c.loop-external.external-index _ c.loop-external-test.false c.loop-external.invariant
