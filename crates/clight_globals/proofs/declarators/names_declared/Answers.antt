use Rattle.clight_expressions.proofs.Stops.{fails_as}
use Rattle.clight_globals.proofs.Names.{names_stop, names_next, names_end}
use Rattle.clight_globals.proofs.declarators.names_declared.Goals as goal

pub returns-in_err-item_declared : goal.returns-in_err-item_declared
returns-in_err-item_declared c = fails_as _ _ c.from_residual.result c.in_err-item_declared.field-0.0 c.from_residual.ensures.1 (names_stop _ _ _ c.args.list.now c.loop-item.item-index c.item-item.result _ _ c.loop-item-test.true c.item-item.is c.in_err-item_declared.ensures c.loop-item.invariant)

pub loop-item-preserved : goal.loop-item-preserved
loop-item-preserved c = names_next _ _ _ _ c.args.list.now c.loop-item.item-index c.item-item.result _ c.loop-item-test.true c.item-item.is c.in_ok-item_declared.ensures c.loop-item.invariant

pub returns : goal.returns
returns c = names_end _ _ _ c.args.list.now c.loop-item.item-index _ c.loop-item-test.false c.loop-item.invariant
