use Rattle.c_tree.specs.FileShape.{first_of_for, optional_of}
use Rattle.clight_scopes.specs.SceneOf.{scene_of}
use Rattle.clight_expressions.proofs.Stops.{fails_as, fails_short}
use Rattle.clight_statements.proofs.Chains.{head_stops_first, head_stops_second, head_stops_third, head_made}
use Rattle.clight_statements.proofs.effects.head_judged.Goals as goal

pub returns-in_err-open : goal.returns-in_err-open
returns-in_err-open c = fails_short _ _ c.from_residual.result c.from_residual.ensures.1

pub returns-in_err-first : goal.returns-in_err-first
returns-in_err-first c = fails_as _ _ c.from_residual-in_err-first.result c.in_err-first.field-0.0 c.from_residual-in_err-first.ensures.1 (head_stops_first (scene_of c.args.scene.now) _ (first_of_for c.args.first.now) (optional_of c.args.condition.now) (optional_of c.args.update.now) c.in_err-first.field-0.0 c.in_ok-open.ensures c.in_err-first.ensures)

pub returns-in_err-condition : goal.returns-in_err-condition
returns-in_err-condition c = fails_as _ _ c.from_residual-in_err-condition.result c.in_err-condition.field-0.0 c.from_residual-in_err-condition.ensures.1 (head_stops_second (scene_of c.args.scene.now) _ _ (first_of_for c.args.first.now) (optional_of c.args.condition.now) (optional_of c.args.update.now) _ c.in_err-condition.field-0.0 c.in_ok-open.ensures c.in_ok-first.ensures c.in_err-condition.ensures)

pub returns-in_err-update : goal.returns-in_err-update
returns-in_err-update c = fails_as _ _ c.from_residual-in_err-update.result c.in_err-update.field-0.0 c.from_residual-in_err-update.ensures.1 (head_stops_third (scene_of c.args.scene.now) _ _ _ (first_of_for c.args.first.now) (optional_of c.args.condition.now) (optional_of c.args.update.now) _ _ c.in_err-update.field-0.0 c.in_ok-open.ensures c.in_ok-first.ensures c.in_ok-condition.ensures c.in_err-update.ensures)

pub returns : goal.returns
returns c = head_made (scene_of c.args.scene.now) _ _ _ _ (first_of_for c.args.first.now) (optional_of c.args.condition.now) (optional_of c.args.update.now) _ _ _ c.in_ok-open.ensures c.in_ok-first.ensures c.in_ok-condition.ensures c.in_ok-update.ensures
