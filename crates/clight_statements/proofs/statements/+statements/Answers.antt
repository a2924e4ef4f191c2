use Rattle.std.proofs.Common.{refl, sym, ap, ◌∙◌}
use Rattle.c_tree.specs.FileShape.{groups_of}
use Rattle.clight_scopes.specs.SceneOf.{scene_of}
use Rattle.clight_expressions.proofs.Stops.{stops_on, stops_as, fails_as, fails_short}
use Rattle.clight_made.specs.MadeOf.{made_list, made_groups}
use Rattle.clight_statements.specs.StatementsOf.{around_of, group_begun}
use Rattle.clight_made.proofs.Shapes.{block_shape, switch_shape}
use Rattle.clight_statements.proofs.Joined.{one_more}
use Rattle.clight_statements.proofs.Same.{same_stmt, same_items, same_groups, same_labels}
use Rattle.clight_statements.proofs.Arms.{empty_made, expr_judged, jump_judged, other_judged, no_other, if_stops_second, if_stops_third, if_made, while_stops_second, while_made, do_stops_second, do_made, for_stops_second, for_made, switch_stops_second, switch_made}
use Rattle.clight_statements.proofs.Behind.{one_value, same_value}
use Rattle.clight_statements.proofs.Fronts.{block_front, if_front, while_front, do_front, for_front, switch_front, break_stops, break_made, continue_stops, continue_made, decl_front, stmt_front}
use Rattle.clight_statements.proofs.Loops.{list_first, items_stop, items_next, items_end, groups_first, groups_stop_first, groups_stop_second, groups_next, groups_end}
use Rattle.clight_statements.proofs.statements.+statements.Goals as goal

pub stmt_judged-returns-in_err-open-in-Block : goal.stmt_judged-returns-in_err-open-in-Block
stmt_judged-returns-in_err-open-in-Block t c = fails_short _ _ c.from_residual.result c.from_residual.ensures.1

pub stmt_judged-returns-in_err-list-in-Block : goal.stmt_judged-returns-in_err-list-in-Block
stmt_judged-returns-in_err-list-in-Block t c = fails_as _ _ c.from_residual-in_err-list-in-Block.result c.in_err-list-in-Block.field-0.0 c.from_residual-in_err-list-in-Block.ensures.1 (stops_on _ _ _ _ (block_front _ _ _ _ _ _ c.in_ok-open-in-Block.ensures c.in-Block.is) (stops_as _ _ _ (same_items _ _ _ _ (sym c.deref.ensures.value)) c.in_err-list-in-Block.ensures))

pub stmt_judged-returns-in_ok-list-in-Block : goal.stmt_judged-returns-in_ok-list-in-Block
stmt_judged-returns-in_ok-list-in-Block t c = one_value _ _ _ _ _ (block_front _ _ _ _ _ _ c.in_ok-open-in-Block.ensures c.in-Block.is) ((same_items _ _ _ _ (sym c.deref.ensures.value)) ∙ c.in_ok-list-in-Block.ensures) (same_value _ _ _ _ (sym c.close.ensures) (sym (block_shape _)))

pub stmt_judged-returns-in-Empty : goal.stmt_judged-returns-in-Empty
stmt_judged-returns-in-Empty t c = empty_made (around_of c.args.around) (scene_of c.args.scene.now) _ _ c.in-Empty.is

pub stmt_judged-returns-in-Expr : goal.stmt_judged-returns-in-Expr
stmt_judged-returns-in-Expr t c = expr_judged (around_of c.args.around) (scene_of c.args.scene.now) _ _ _ _ _ c.in-Expr.is c.effect_judged.ensures

pub stmt_judged-returns-in_err-condition-in-If : goal.stmt_judged-returns-in_err-condition-in-If
stmt_judged-returns-in_err-condition-in-If t c = fails_as _ _ c.from_residual-in_err-condition-in-If.result c.in_err-condition-in-If.field-0.0 c.from_residual-in_err-condition-in-If.ensures.1 (stops_on _ _ _ _ (if_front _ _ _ _ _ _ _ c.in-If.is) c.in_err-condition-in-If.ensures)

pub stmt_judged-returns-in_err-a-in-If : goal.stmt_judged-returns-in_err-a-in-If
stmt_judged-returns-in_err-a-in-If t c = fails_as _ _ c.from_residual-in_err-a-in-If.result c.in_err-a-in-If.field-0.0 c.from_residual-in_err-a-in-If.ensures.1 (if_stops_second (around_of c.args.around) (scene_of c.args.scene.now) _ _ _ _ _ _ _ c.in_err-a-in-If.field-0.0 c.in-If.is c.in_ok-condition-in-If.ensures (stops_as _ _ _ (same_stmt _ _ _ _ (sym c.deref-in-If.ensures)) c.in_err-a-in-If.ensures))

pub stmt_judged-returns-in_err-b-in-If : goal.stmt_judged-returns-in_err-b-in-If
stmt_judged-returns-in_err-b-in-If t c = fails_as _ _ c.from_residual-in_err-b-in-If.result c.in_err-b-in-If.field-0.0 c.from_residual-in_err-b-in-If.ensures.1 (if_stops_third (around_of c.args.around) (scene_of c.args.scene.now) _ _ _ _ _ _ _ _ _ c.in_err-b-in-If.field-0.0 c.in-If.is c.in_ok-condition-in-If.ensures ((same_stmt _ _ _ _ (sym c.deref-in-If.ensures)) ∙ c.in_ok-a-in-If.ensures) c.in_err-b-in-If.ensures)

pub stmt_judged-returns-in_err-branch-in-If : goal.stmt_judged-returns-in_err-branch-in-If
stmt_judged-returns-in_err-branch-in-If t c = fails_short _ _ c.from_residual-in_err-branch-in-If.result c.from_residual-in_err-branch-in-If.ensures.1

pub stmt_judged-returns-in_ok-branch-in-If : goal.stmt_judged-returns-in_ok-branch-in-If
stmt_judged-returns-in_ok-branch-in-If t c = if_made (around_of c.args.around) (scene_of c.args.scene.now) _ _ _ _ _ _ _ _ _ _ _ _ c.in-If.is c.in_ok-condition-in-If.ensures ((same_stmt _ _ _ _ (sym c.deref-in-If.ensures)) ∙ c.in_ok-a-in-If.ensures) c.in_ok-b-in-If.ensures c.in_ok-branch-in-If.ensures

pub stmt_judged-returns-in_err-condition-in-While : goal.stmt_judged-returns-in_err-condition-in-While
stmt_judged-returns-in_err-condition-in-While t c = fails_as _ _ c.from_residual-in_err-condition-in-While.result c.in_err-condition-in-While.field-0.0 c.from_residual-in_err-condition-in-While.ensures.1 (stops_on _ _ _ _ (while_front _ _ _ _ _ _ _ refl c.in-While.is) c.in_err-condition-in-While.ensures)

pub stmt_judged-returns-in_err-body-in-While : goal.stmt_judged-returns-in_err-body-in-While
stmt_judged-returns-in_err-body-in-While t c = fails_as _ _ c.from_residual-in_err-body-in-While.result c.in_err-body-in-While.field-0.0 c.from_residual-in_err-body-in-While.ensures.1 (while_stops_second (around_of c.args.around) _ (scene_of c.args.scene.now) _ _ _ _ _ _ c.in_err-body-in-While.field-0.0 c.in_loop.ensures c.in-While.is c.in_ok-condition-in-While.ensures (stops_as _ _ _ (same_stmt _ _ _ _ (sym c.deref-in-While.ensures)) c.in_err-body-in-While.ensures))

pub stmt_judged-returns-in_err-while_loop-in-While : goal.stmt_judged-returns-in_err-while_loop-in-While
stmt_judged-returns-in_err-while_loop-in-While t c = fails_short _ _ c.from_residual-in_err-while_loop-in-While.result c.from_residual-in_err-while_loop-in-While.ensures.1

pub stmt_judged-returns-in_ok-while_loop-in-While : goal.stmt_judged-returns-in_ok-while_loop-in-While
stmt_judged-returns-in_ok-while_loop-in-While t c = while_made (around_of c.args.around) _ (scene_of c.args.scene.now) _ _ _ _ _ _ _ _ _ c.in_loop.ensures c.in-While.is c.in_ok-condition-in-While.ensures ((same_stmt _ _ _ _ (sym c.deref-in-While.ensures)) ∙ c.in_ok-body-in-While.ensures) c.in_ok-while_loop-in-While.ensures

pub stmt_judged-returns-in_err-body-in-Do : goal.stmt_judged-returns-in_err-body-in-Do
stmt_judged-returns-in_err-body-in-Do t c = fails_as _ _ c.from_residual-in_err-body-in-Do.result c.in_err-body-in-Do.field-0.0 c.from_residual-in_err-body-in-Do.ensures.1 (stops_on _ _ _ _ (do_front _ _ _ _ _ _ _ c.in_loop-in-Do.ensures c.in-Do.is) (stops_as _ _ _ (same_stmt _ _ _ _ (sym c.deref-in-Do.ensures)) c.in_err-body-in-Do.ensures))

pub stmt_judged-returns-in_err-condition-in-Do : goal.stmt_judged-returns-in_err-condition-in-Do
stmt_judged-returns-in_err-condition-in-Do t c = fails_as _ _ c.from_residual-in_err-condition-in-Do.result c.in_err-condition-in-Do.field-0.0 c.from_residual-in_err-condition-in-Do.ensures.1 (do_stops_second (around_of c.args.around) _ (scene_of c.args.scene.now) _ _ _ _ _ _ c.in_err-condition-in-Do.field-0.0 c.in_loop-in-Do.ensures c.in-Do.is ((same_stmt _ _ _ _ (sym c.deref-in-Do.ensures)) ∙ c.in_ok-body-in-Do.ensures) c.in_err-condition-in-Do.ensures)

pub stmt_judged-returns-in_err-do_loop-in-Do : goal.stmt_judged-returns-in_err-do_loop-in-Do
stmt_judged-returns-in_err-do_loop-in-Do t c = fails_short _ _ c.from_residual-in_err-do_loop-in-Do.result c.from_residual-in_err-do_loop-in-Do.ensures.1

pub stmt_judged-returns-in_ok-do_loop-in-Do : goal.stmt_judged-returns-in_ok-do_loop-in-Do
stmt_judged-returns-in_ok-do_loop-in-Do t c = do_made (around_of c.args.around) _ (scene_of c.args.scene.now) _ _ _ _ _ _ _ _ _ c.in_loop-in-Do.ensures c.in-Do.is ((same_stmt _ _ _ _ (sym c.deref-in-Do.ensures)) ∙ c.in_ok-body-in-Do.ensures) c.in_ok-condition-in-Do.ensures c.in_ok-do_loop-in-Do.ensures

pub stmt_judged-returns-in_err-head-in-For : goal.stmt_judged-returns-in_err-head-in-For
stmt_judged-returns-in_err-head-in-For t c = fails_as _ _ c.from_residual-in_err-head-in-For.result c.in_err-head-in-For.field-0.0 c.from_residual-in_err-head-in-For.ensures.1 (stops_on _ _ _ _ (for_front _ _ _ _ _ _ _ _ _ refl c.in-For.is) c.in_err-head-in-For.ensures)

pub stmt_judged-returns-in_err-body-in-For : goal.stmt_judged-returns-in_err-body-in-For
stmt_judged-returns-in_err-body-in-For t c = fails_as _ _ c.from_residual-in_err-body-in-For.result c.in_err-body-in-For.field-0.0 c.from_residual-in_err-body-in-For.ensures.1 (for_stops_second (around_of c.args.around) _ (scene_of c.args.scene.now) _ _ _ _ _ _ _ _ c.in_err-body-in-For.field-0.0 c.in_loop-in-For.ensures c.in-For.is c.in_ok-head-in-For.ensures (stops_as _ _ _ (same_stmt _ _ _ _ (sym c.deref-in-For.ensures)) c.in_err-body-in-For.ensures))

pub stmt_judged-returns-in_err-for_loop-in-For : goal.stmt_judged-returns-in_err-for_loop-in-For
stmt_judged-returns-in_err-for_loop-in-For t c = fails_short _ _ c.from_residual-in_err-for_loop-in-For.result c.from_residual-in_err-for_loop-in-For.ensures.1

pub stmt_judged-returns-in_ok-for_loop-in-For : goal.stmt_judged-returns-in_ok-for_loop-in-For
stmt_judged-returns-in_ok-for_loop-in-For t c = for_made (around_of c.args.around) _ (scene_of c.args.scene.now) _ _ _ _ _ _ _ _ _ _ _ _ c.in_loop-in-For.ensures c.in-For.is c.in_ok-head-in-For.ensures ((same_stmt _ _ _ _ (sym c.deref-in-For.ensures)) ∙ c.in_ok-body-in-For.ensures) c.close-in-For.ensures c.in_ok-for_loop-in-For.ensures

pub stmt_judged-returns-in_err-selector-in-Switch : goal.stmt_judged-returns-in_err-selector-in-Switch
stmt_judged-returns-in_err-selector-in-Switch t c = fails_as _ _ c.from_residual-in_err-selector-in-Switch.result c.in_err-selector-in-Switch.field-0.0 c.from_residual-in_err-selector-in-Switch.ensures.1 (stops_on _ _ _ _ (switch_front _ _ _ _ _ _ _ refl c.in-Switch.is) c.in_err-selector-in-Switch.ensures)

pub stmt_judged-returns-in_err-open-in-Switch : goal.stmt_judged-returns-in_err-open-in-Switch
stmt_judged-returns-in_err-open-in-Switch t c = fails_short _ _ c.from_residual-in_err-open-in-Switch.result c.from_residual-in_err-open-in-Switch.ensures.1

pub stmt_judged-returns-in_err-groups-in-Switch : goal.stmt_judged-returns-in_err-groups-in-Switch
stmt_judged-returns-in_err-groups-in-Switch t c = fails_as _ _ c.from_residual-in_err-groups-in-Switch.result c.in_err-groups-in-Switch.field-0.0 c.from_residual-in_err-groups-in-Switch.ensures.1 (switch_stops_second (around_of c.args.around) _ (scene_of c.args.scene.now) _ _ _ _ _ _ c.in_err-groups-in-Switch.field-0.0 c.in_switch.ensures c.in-Switch.is c.in_ok-selector-in-Switch.ensures (stops_as _ _ _ (same_groups _ _ _ _ _ (sym c.in_ok-open-in-Switch.ensures) (sym c.deref-in-Switch.ensures.value)) c.in_err-groups-in-Switch.ensures))

pub stmt_judged-returns-in_ok-groups-in-Switch : goal.stmt_judged-returns-in_ok-groups-in-Switch
stmt_judged-returns-in_ok-groups-in-Switch t c = switch_made (around_of c.args.around) _ (scene_of c.args.scene.now) _ _ _ _ _ _ _ _ _ _ c.in_switch.ensures c.in-Switch.is c.in_ok-selector-in-Switch.ensures ((same_groups _ _ _ _ _ (sym c.in_ok-open-in-Switch.ensures) (sym c.deref-in-Switch.ensures.value)) ∙ c.in_ok-groups-in-Switch.ensures) c.close-in-Switch.ensures (switch_shape _ _)

pub stmt_judged-returns-in_err-owed-in-Break : goal.stmt_judged-returns-in_err-owed-in-Break
stmt_judged-returns-in_err-owed-in-Break t c = fails_as _ _ c.from_residual-in_err-owed-in-Break.result c.in_err-owed-in-Break.field-0.0 c.from_residual-in_err-owed-in-Break.ensures.1 (break_stops _ _ _ _ _ c.in-Break.is c.in_err-owed-in-Break.ensures.err)

pub stmt_judged-returns-in_ok-owed-in-Break : goal.stmt_judged-returns-in_ok-owed-in-Break
stmt_judged-returns-in_ok-owed-in-Break t c = break_made _ _ _ _ c.in-Break.is c.in_ok-owed-in-Break.ensures.ok

pub stmt_judged-returns-in_err-owed-in-Continue : goal.stmt_judged-returns-in_err-owed-in-Continue
stmt_judged-returns-in_err-owed-in-Continue t c = fails_as _ _ c.from_residual-in_err-owed-in-Continue.result c.in_err-owed-in-Continue.field-0.0 c.from_residual-in_err-owed-in-Continue.ensures.1 (continue_stops _ _ _ _ _ c.in-Continue.is c.in_err-owed-in-Continue.ensures.err)

pub stmt_judged-returns-in_ok-owed-in-Continue : goal.stmt_judged-returns-in_ok-owed-in-Continue
stmt_judged-returns-in_ok-owed-in-Continue t c = continue_made _ _ _ _ c.in-Continue.is c.in_ok-owed-in-Continue.ensures.ok

pub stmt_judged-returns-in-Return : goal.stmt_judged-returns-in-Return
stmt_judged-returns-in-Return t c = jump_judged (around_of c.args.around) (scene_of c.args.scene.now) _ _ _ _ _ c.in-Return.is c.return_judged.ensures

pub else_judged-returns-in-Some : goal.else_judged-returns-in-Some
else_judged-returns-in-Some t c = other_judged (around_of c.args.around) (scene_of c.args.scene.now) _ _ _ _ _ c.in-Some.is c.deref.ensures c.stmt_judged.ensures

pub else_judged-returns-in-None : goal.else_judged-returns-in-None
else_judged-returns-in-None t c = no_other (around_of c.args.around) (scene_of c.args.scene.now) _ c.in-None.is

pub item_judged-returns-in_err-locals-in-Decl : goal.item_judged-returns-in_err-locals-in-Decl
item_judged-returns-in_err-locals-in-Decl t c = fails_as _ _ c.from_residual.result c.in_err-locals-in-Decl.field-0.0 c.from_residual.ensures.1 (stops_on _ _ _ _ (decl_front _ _ _ _ _ c.in-Decl.is) c.in_err-locals-in-Decl.ensures)

pub item_judged-returns-in_err-append-in-Decl : goal.item_judged-returns-in_err-append-in-Decl
item_judged-returns-in_err-append-in-Decl t c = fails_short _ _ c.from_residual-in_err-append-in-Decl.result c.from_residual-in_err-append-in-Decl.ensures.1

pub item_judged-returns-in_ok-append-in-Decl : goal.item_judged-returns-in_ok-append-in-Decl
item_judged-returns-in_ok-append-in-Decl t c = one_value _ _ _ _ _ (decl_front _ _ _ _ _ c.in-Decl.is) c.in_ok-locals-in-Decl.ensures (same_value _ _ _ _ refl (sym c.in_ok-append-in-Decl.ensures))

pub item_judged-returns-in_err-statement-in-Stmt : goal.item_judged-returns-in_err-statement-in-Stmt
item_judged-returns-in_err-statement-in-Stmt t c = fails_as _ _ c.from_residual-in_err-statement-in-Stmt.result c.in_err-statement-in-Stmt.field-0.0 c.from_residual-in_err-statement-in-Stmt.ensures.1 (stops_on _ _ _ _ (stmt_front _ _ _ _ _ c.in-Stmt.is) c.in_err-statement-in-Stmt.ensures)

pub item_judged-returns-in_err-push-in-Stmt : goal.item_judged-returns-in_err-push-in-Stmt
item_judged-returns-in_err-push-in-Stmt t c = fails_short _ _ c.from_residual-in_err-push-in-Stmt.result c.from_residual-in_err-push-in-Stmt.ensures.1

pub item_judged-returns-in_ok-push-in-Stmt : goal.item_judged-returns-in_ok-push-in-Stmt
item_judged-returns-in_ok-push-in-Stmt t c = one_value _ _ _ _ _ (stmt_front _ _ _ _ _ c.in-Stmt.is) c.in_ok-statement-in-Stmt.ensures (same_value _ _ _ _ refl (sym (ap made_list c.in_ok-push-in-Stmt.ensures ∙ one_more _ _)))

pub items_judged-loop-item-init : goal.items_judged-loop-item-init
items_judged-loop-item-init t c = list_first _ _ c.new-made.ensures.items

pub items_judged-returns-in_err-item_judged : goal.items_judged-returns-in_err-item_judged
items_judged-returns-in_err-item_judged t c = fails_as _ _ c.from_residual.result c.in_err-item_judged.field-0.0 c.from_residual.ensures.1 (items_stop _ _ (made_list c.loop-item.made.items) c.args.list.now c.loop-item.item-index c.item-item.result _ _ c.loop-item-test.true c.item-item.is c.in_err-item_judged.ensures c.loop-item.invariant)

pub items_judged-loop-item-preserved : goal.items_judged-loop-item-preserved
items_judged-loop-item-preserved t c = items_next _ _ _ (made_list c.loop-item.made.items) _ c.args.list.now c.loop-item.item-index c.item-item.result _ c.loop-item-test.true c.item-item.is c.in_ok-item_judged.ensures c.loop-item.invariant

pub items_judged-returns : goal.items_judged-returns
items_judged-returns t c = items_end _ _ (made_list c.loop-item.made.items) c.args.list.now c.loop-item.item-index _ c.loop-item-test.false c.loop-item.invariant

pub groups_judged-loop-group-init : goal.groups_judged-loop-group-init
groups_judged-loop-group-init t c = groups_first (around_of c.args.around) (scene_of c.args.scene.now) _ _ _ (groups_of c.args.list.now) c.new-made.ensures.items c.nothing_seen-seen.ensures

pub groups_judged-returns-in_err-labels : goal.groups_judged-returns-in_err-labels
groups_judged-returns-in_err-labels t c = fails_as _ _ c.from_residual.result c.in_err-labels.field-0.0 c.from_residual.ensures.1 (groups_stop_first _ _ (group_begun c.loop-group.seen) (made_groups c.loop-group.made.items) c.args.list.now c.loop-group.group-index c.group-item.result _ _ c.loop-group-test.true c.group-item.is refl (stops_as _ _ _ (same_labels _ _ _ _ (sym c.deref.ensures.value)) c.in_err-labels.ensures) c.loop-group.invariant)

pub groups_judged-returns-in_err-statements : goal.groups_judged-returns-in_err-statements
groups_judged-returns-in_err-statements t c = fails_as _ _ c.from_residual-in_err-statements.result c.in_err-statements.field-0.0 c.from_residual-in_err-statements.ensures.1 (groups_stop_second _ _ _ (group_begun c.loop-group.seen) _ (made_groups c.loop-group.made.items) c.args.list.now c.loop-group.group-index c.group-item.result _ _ c.loop-group-test.true c.group-item.is refl ((same_labels _ _ _ _ (sym c.deref.ensures.value)) ∙ c.in_ok-labels.ensures) (stops_as _ _ _ (same_items _ _ _ _ (sym c.deref-in-loop-group.ensures.value)) c.in_err-statements.ensures) c.loop-group.invariant)

pub groups_judged-returns-in_err-push : goal.groups_judged-returns-in_err-push
groups_judged-returns-in_err-push t c = fails_short _ _ c.from_residual-in_err-push.result c.from_residual-in_err-push.ensures.1

pub groups_judged-loop-group-preserved : goal.groups_judged-loop-group-preserved
groups_judged-loop-group-preserved t c = groups_next _ _ _ _ (group_begun c.loop-group.seen) _ _ _ c.loop-group.made.items _ _ c.args.list.now c.loop-group.group-index c.group-item.result _ c.loop-group-test.true c.group-item.is refl refl ((same_labels _ _ _ _ (sym c.deref.ensures.value)) ∙ c.in_ok-labels.ensures) ((same_items _ _ _ _ (sym c.deref-in-loop-group.ensures.value)) ∙ c.in_ok-statements.ensures) refl refl refl c.in_ok-push.ensures c.loop-group.invariant

pub groups_judged-returns : goal.groups_judged-returns
groups_judged-returns t c = groups_end _ _ _ (made_groups c.loop-group.made.items) c.args.list.now c.loop-group.group-index _ c.loop-group-test.false c.loop-group.invariant
