use Rattle.c_tree.specs.FileShape.{labels_of as label_trees}
use Rattle.clight_scopes.specs.SceneOf.{scene_of}
use Rattle.clight_statements.specs.StatementsOf.{group_begun}
use Rattle.clight_expressions.proofs.Stops.{fails_as}
use Rattle.clight_statements.proofs.Loops.{labels_first, labels_stop, labels_next, labels_end}
use Rattle.clight_statements.proofs.labels.labels_judged.Goals as goal

pub loop-label-init : goal.loop-label-init
loop-label-init c = labels_first (scene_of c.args.scene.now) (group_begun c.args.seen.now).seen _ (group_begun c.args.seen.now).has_default (label_trees c.args.list.now) c.new.ensures.items

pub returns-in_err-label_judged : goal.returns-in_err-label_judged
returns-in_err-label_judged c = fails_as _ _ c.from_residual.result c.in_err-label_judged.field-0.0 c.from_residual.ensures.1 (labels_stop _ _ c.args.list.now c.loop-label.label-index c.label-item.result _ _ c.loop-label-test.true c.label-item.is c.in_err-label_judged.ensures c.loop-label.invariant)

pub loop-label-preserved : goal.loop-label-preserved
loop-label-preserved c = labels_next _ _ _ _ c.args.list.now c.loop-label.label-index c.label-item.result _ c.loop-label-test.true c.label-item.is c.in_ok-label_judged.ensures c.loop-label.invariant

pub returns : goal.returns
returns c = labels_end _ _ c.args.list.now c.loop-label.label-index _ c.loop-label-test.false c.loop-label.invariant
