use Rattle.clight_scopes.specs.SceneOf.{scene_of}
use Rattle.clight_expressions.proofs.Stops.{fails_as}
use Rattle.clight_globals.specs.GlobalsOf.{filled_of}
use Rattle.clight_globals.proofs.Items.{items_stop, items_next}
use Rattle.clight_globals.proofs.lists.items_filled.Goals as goal

pub returns-in_err-item_filled : goal.returns-in_err-item_filled
returns-in_err-item_filled c = fails_as _ _ c.from_residual.result c.in_err-item_filled.field-0.0 c.from_residual.ensures.1 (items_stop (scene_of c.loop-item.scene) c.args.t c.args.fits (filled_of c.loop-item.filled) c.args.list.now c.loop-item.item c.index-list-item.result c.in_err-item_filled.field-0.0 _ c.loop-item-test.true c.index-list-item.is c.in_err-item_filled.ensures c.loop-item.invariant)

pub loop-item-preserved : goal.loop-item-preserved
loop-item-preserved c = items_next (scene_of c.loop-item.scene) (scene_of c.item_filled.new.scene) c.args.t c.args.fits (filled_of c.loop-item.filled) (filled_of c.item_filled.new.filled) c.args.list.now c.loop-item.item c.index-list-item.result _ c.loop-item-test.true c.index-list-item.is c.in_ok-item_filled.ensures c.loop-item.invariant
