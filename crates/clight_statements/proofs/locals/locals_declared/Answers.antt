use Rattle.clight_expressions.proofs.Stops.{fails_as, fails_short}
use Rattle.clight_made.specs.MadeOf.{made_list}
use Rattle.clight_statements.proofs.Loops.{list_first, locals_stop, locals_next, locals_end}
use Rattle.clight_statements.proofs.locals.locals_declared.Goals as goal

pub loop-item-init : goal.loop-item-init
loop-item-init c = list_first _ _ c.new-made.ensures.items

pub returns-in_err-initialized : goal.returns-in_err-initialized
returns-in_err-initialized c = fails_as _ _ c.from_residual.result c.in_err-initialized.field-0.0 c.from_residual.ensures.1 (locals_stop _ _ _ (made_list c.loop-item.made.items) c.args.list.now c.loop-item.item-index c.item-item.result _ _ c.loop-item-test.true c.item-item.is c.in_err-initialized.ensures c.loop-item.invariant)

pub returns-in_err-add : goal.returns-in_err-add
returns-in_err-add c = fails_short _ _ c.from_residual-in_err-add.result c.from_residual-in_err-add.ensures.1

pub loop-item-preserved : goal.loop-item-preserved
loop-item-preserved c = locals_next _ _ _ _ (made_list c.loop-item.made.items) _ _ c.args.list.now c.loop-item.item-index c.item-item.result _ c.loop-item-test.true c.item-item.is c.in_ok-initialized.ensures c.in_ok-add.ensures c.loop-item.invariant

pub returns : goal.returns
returns c = locals_end _ _ _ (made_list c.loop-item.made.items) c.args.list.now c.loop-item.item-index _ c.loop-item-test.false c.loop-item.invariant
