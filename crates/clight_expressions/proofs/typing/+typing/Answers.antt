use Rattle.std.proofs.Common.{◌≡◌, List, None, not, length, map, refl, sym, ap, ◌∙◌, arith}
use Rattle.c_tree.specs.Shape.{expr_of, type_of, exprs_of, maybe_of, words_of, specifier_of, specifiers_of, members_of, declarator_of, declarators_of, enumerators_of, direct_of, parameters_of}
use Rattle.c_tree.proofs.Shapes.{call_shape, sizeof_shape, cast_shape, composite_shape, enumeration_shape}
use Rattle.clight_types.specs.Judged.{value}
use Rattle.clight_types.specs.Types.{nothing_laid}
use Rattle.clight_types.specs.LaidOf.{laid_of}
use Rattle.clight_types.specs.BuiltOf.{parameter_of}
use Rattle.clight_types.specs.declared.declarators.Part as P
use Rattle.clight_scopes.specs.SceneOf.{scene_of}
use Rattle.clight_operands.specs.Shown.{allowed_of, all_typed}
use Rattle.clight_typing.specs.Typing.{is_floating, words_type, typed, typed_name, typed_all, typed_length, typed_value, specifier_judged, specified, members_judged, member_declarators, enumerators_judged, declared, parameters_judged}
use Rattle.clight_specifiers.specs.TypingOf.{parts_of}
use Rattle.clight_expressions.specs.SuffixOf.{suffixes_judged}
use Rattle.clight_expressions.proofs.Stops.{stops_as, fails_as, fails_short}
use Rattle.clight_expressions.proofs.Same.{same_typed, same_list, same_name, same_specified, same_members, same_declarators, same_enumerators, same_parameters, same_declared}
use Rattle.clight_specifiers.proofs.Faults.{judged_as}
use Rattle.clight_expressions.proofs.Rest.{then_value, all_behind, nothing_behind, parameters_behind}
use Rattle.clight_expressions.proofs.Declarators.{array_stops, array_made, function_stops, function_made, nested_judged}
use Rattle.clight_expressions.proofs.Loops.{exprs_stops, exprs_next, exprs_end, specifiers_stop, specifiers_next, specifiers_end, members_stop_first, members_stop_second, members_next, members_end, declarators_stop_first, declarators_stop_second, declarators_next, declarators_end, enumerators_stop_first, enumerators_stop_second, enumerators_next, enumerators_end, suffixes_stop, suffixes_next, suffixes_end, parameters_stop_first, parameters_stop_second, parameters_stop_third, parameters_next, parameters_end}
use Rattle.clight_expressions.proofs.Arms.{index_stops_first, index_stops_second, index_judged, call_stops_first, call_stops_second, call_judged, member_stops, member_judged, after_stops, after_judged, before_stops, before_judged, unary_stops, unary_judged, sizeof_stops, sizeof_judged, sizeof_type_stops, sizeof_type_judged, cast_stops_first, cast_stops_second, cast_judged, binary_stops_first, binary_stops_second, binary_judged, cond_stops_first, cond_stops_second, cond_stops_third, cond_judged, assign_stops_first, assign_stops_second, assign_judged}
use Rattle.clight_expressions.proofs.Leaves.{name_judged, constant_judged, sized_as, right_stops, right_judged}
use Rattle.clight_expressions.proofs.Parts.{length_stops, length_made, value_stops, value_made, type_stops_first, type_stops_second, type_judged, storage_stops, storage_made, words_stop, words_made, typedef_stops, typedef_made, reference_stops, reference_made, enum_reference_stops, enum_reference_made, composite_stops_first, composite_stops_second, composite_stops_third, composite_made, enum_stops_first, enum_stops_second, enum_made, declared_stops_first, declared_stops_second, declared_made}
use Rattle.clight_expressions.proofs.typing.+typing.Goals as goal

pub typed-returns-in-Name : goal.typed-returns-in-Name
typed-returns-in-Name t c =
    name_judged (allowed_of c.args.allowed) c.args.is_called (scene_of c.args.scene.now) _ _ (expr_of c.args.expr.now) c.name_typed.result (ap expr_of c.in-Name.is) c.name_typed.ensures

pub typed-returns-in-Constant : goal.typed-returns-in-Constant
typed-returns-in-Constant t c =
    constant_judged (allowed_of c.args.allowed) c.args.is_called (scene_of c.args.scene.now) _ _ (expr_of c.args.expr.now) c.number_typed.result (ap expr_of c.in-Constant.is) c.number_typed.ensures

pub typed-returns-in_err-a-in-Index : goal.typed-returns-in_err-a-in-Index
typed-returns-in_err-a-in-Index t c =
    fails_as _ _ c.from_residual.result c.in_err-a-in-Index.field-0.0 c.from_residual.ensures.1 (index_stops_first (allowed_of c.args.allowed) c.args.is_called (scene_of c.args.scene.now) _ _ _ _ (expr_of c.args.expr.now) c.in_err-a-in-Index.field-0.0 (ap expr_of c.in-Index.is) (stops_as _ _ _ (same_typed _ _ _ _ _ (sym c.deref.ensures)) c.in_err-a-in-Index.ensures))

pub typed-returns-in_err-b-in-Index : goal.typed-returns-in_err-b-in-Index
typed-returns-in_err-b-in-Index t c =
    fails_as _ _ c.from_residual-in_err-b-in-Index.result c.in_err-b-in-Index.field-0.0 c.from_residual-in_err-b-in-Index.ensures.1 (index_stops_second (allowed_of c.args.allowed) c.args.is_called (scene_of c.args.scene.now) _ _ _ _ (expr_of c.args.expr.now) _ _ c.in_err-b-in-Index.field-0.0 (ap expr_of c.in-Index.is) (same_typed _ _ _ _ _ (sym c.deref.ensures) ∙ c.in_ok-a-in-Index.ensures) (stops_as _ _ _ (same_typed _ _ _ _ _ (sym c.deref-in-Index.ensures)) c.in_err-b-in-Index.ensures))

pub typed-returns-in_ok-b-in-Index : goal.typed-returns-in_ok-b-in-Index
typed-returns-in_ok-b-in-Index t c =
    index_judged (allowed_of c.args.allowed) c.args.is_called (scene_of c.args.scene.now) _ _ _ _ (expr_of c.args.expr.now) _ _ _ _ c.index_typed.result (ap expr_of c.in-Index.is) (same_typed _ _ _ _ _ (sym c.deref.ensures) ∙ c.in_ok-a-in-Index.ensures) (same_typed _ _ _ _ _ (sym c.deref-in-Index.ensures) ∙ c.in_ok-b-in-Index.ensures) c.index_typed.ensures

pub typed-returns-in_err-f-in-Call : goal.typed-returns-in_err-f-in-Call
typed-returns-in_err-f-in-Call t c =
    fails_as _ _ c.from_residual-in_err-f-in-Call.result c.in_err-f-in-Call.field-0.0 c.from_residual-in_err-f-in-Call.ensures.1 (call_stops_first (allowed_of c.args.allowed) c.args.is_called (scene_of c.args.scene.now) _ _ _ _ (expr_of c.args.expr.now) c.in_err-f-in-Call.field-0.0 (ap expr_of c.in-Call.is ∙ call_shape c.in-Call.at c.in-Call.op_at c.in-Call.callee c.in-Call.arguments) (stops_as _ _ _ (same_typed _ _ _ _ _ (sym c.deref-in-Call.ensures)) c.in_err-f-in-Call.ensures))

pub typed-returns-in_err-args-in-Call : goal.typed-returns-in_err-args-in-Call
typed-returns-in_err-args-in-Call t c =
    fails_as _ _ c.from_residual-in_err-args-in-Call.result c.in_err-args-in-Call.field-0.0 c.from_residual-in_err-args-in-Call.ensures.1 (call_stops_second (allowed_of c.args.allowed) c.args.is_called (scene_of c.args.scene.now) _ _ _ _ (expr_of c.args.expr.now) _ _ c.in_err-args-in-Call.field-0.0 (ap expr_of c.in-Call.is ∙ call_shape c.in-Call.at c.in-Call.op_at c.in-Call.callee c.in-Call.arguments) (same_typed _ _ _ _ _ (sym c.deref-in-Call.ensures) ∙ c.in_ok-f-in-Call.ensures) (stops_as _ _ _ (same_list _ _ _ (sym c.deref-in-Call-2.ensures.value)) c.in_err-args-in-Call.ensures))

pub typed-returns-in_ok-args-in-Call : goal.typed-returns-in_ok-args-in-Call
typed-returns-in_ok-args-in-Call t c =
    call_judged (allowed_of c.args.allowed) c.args.is_called (scene_of c.args.scene.now) _ _ _ _ (expr_of c.args.expr.now) _ _ _ _ c.call_typed.result (ap expr_of c.in-Call.is ∙ call_shape c.in-Call.at c.in-Call.op_at c.in-Call.callee c.in-Call.arguments) (same_typed _ _ _ _ _ (sym c.deref-in-Call.ensures) ∙ c.in_ok-f-in-Call.ensures) (same_list _ _ _ (sym c.deref-in-Call-2.ensures.value) ∙ c.in_ok-args-in-Call.ensures) c.call_typed.ensures

pub typed-returns-in_err-a-in-Member : goal.typed-returns-in_err-a-in-Member
typed-returns-in_err-a-in-Member t c =
    fails_as _ _ c.from_residual-in_err-a-in-Member.result c.in_err-a-in-Member.field-0.0 c.from_residual-in_err-a-in-Member.ensures.1 (member_stops (allowed_of c.args.allowed) c.args.is_called (scene_of c.args.scene.now) _ _ _ _ _ _ (expr_of c.args.expr.now) c.in_err-a-in-Member.field-0.0 (ap expr_of c.in-Member.is) (stops_as _ _ _ (same_typed _ _ _ _ _ (sym c.deref-in-Member.ensures)) c.in_err-a-in-Member.ensures))

pub typed-returns-in_ok-a-in-Member : goal.typed-returns-in_ok-a-in-Member
typed-returns-in_ok-a-in-Member t c =
    member_judged (allowed_of c.args.allowed) c.args.is_called (scene_of c.args.scene.now) _ _ _ _ _ _ (expr_of c.args.expr.now) _ _ c.member_typed.result (ap expr_of c.in-Member.is) (same_typed _ _ _ _ _ (sym c.deref-in-Member.ensures) ∙ c.in_ok-a-in-Member.ensures) c.member_typed.ensures

pub typed-returns-in_err-a-in-StepAfter : goal.typed-returns-in_err-a-in-StepAfter
typed-returns-in_err-a-in-StepAfter t c =
    fails_as _ _ c.from_residual-in_err-a-in-StepAfter.result c.in_err-a-in-StepAfter.field-0.0 c.from_residual-in_err-a-in-StepAfter.ensures.1 (after_stops (allowed_of c.args.allowed) c.args.is_called (scene_of c.args.scene.now) _ _ _ _ (expr_of c.args.expr.now) c.in_err-a-in-StepAfter.field-0.0 (ap expr_of c.in-StepAfter.is) (stops_as _ _ _ (same_typed _ _ _ _ _ (sym c.deref-in-StepAfter.ensures)) c.in_err-a-in-StepAfter.ensures))

pub typed-returns-in_ok-a-in-StepAfter : goal.typed-returns-in_ok-a-in-StepAfter
typed-returns-in_ok-a-in-StepAfter t c =
    after_judged (allowed_of c.args.allowed) c.args.is_called (scene_of c.args.scene.now) _ _ _ _ (expr_of c.args.expr.now) _ _ c.step_typed.result (ap expr_of c.in-StepAfter.is) (same_typed _ _ _ _ _ (sym c.deref-in-StepAfter.ensures) ∙ c.in_ok-a-in-StepAfter.ensures) c.step_typed.ensures

pub typed-returns-in_err-a-in-StepBefore : goal.typed-returns-in_err-a-in-StepBefore
typed-returns-in_err-a-in-StepBefore t c =
    fails_as _ _ c.from_residual-in_err-a-in-StepBefore.result c.in_err-a-in-StepBefore.field-0.0 c.from_residual-in_err-a-in-StepBefore.ensures.1 (before_stops (allowed_of c.args.allowed) c.args.is_called (scene_of c.args.scene.now) _ _ _ (expr_of c.args.expr.now) c.in_err-a-in-StepBefore.field-0.0 (ap expr_of c.in-StepBefore.is) (stops_as _ _ _ (same_typed _ _ _ _ _ (sym c.deref-in-StepBefore.ensures)) c.in_err-a-in-StepBefore.ensures))

pub typed-returns-in_ok-a-in-StepBefore : goal.typed-returns-in_ok-a-in-StepBefore
typed-returns-in_ok-a-in-StepBefore t c =
    before_judged (allowed_of c.args.allowed) c.args.is_called (scene_of c.args.scene.now) _ _ _ (expr_of c.args.expr.now) _ _ c.step_typed-in-StepBefore.result (ap expr_of c.in-StepBefore.is) (same_typed _ _ _ _ _ (sym c.deref-in-StepBefore.ensures) ∙ c.in_ok-a-in-StepBefore.ensures) c.step_typed-in-StepBefore.ensures

pub typed-returns-in_err-a-in-Unary : goal.typed-returns-in_err-a-in-Unary
typed-returns-in_err-a-in-Unary t c =
    fails_as _ _ c.from_residual-in_err-a-in-Unary.result c.in_err-a-in-Unary.field-0.0 c.from_residual-in_err-a-in-Unary.ensures.1 (unary_stops (allowed_of c.args.allowed) c.args.is_called (scene_of c.args.scene.now) _ _ _ (expr_of c.args.expr.now) c.in_err-a-in-Unary.field-0.0 (ap expr_of c.in-Unary.is) (stops_as _ _ _ (same_typed _ _ _ _ _ (sym c.deref-in-Unary.ensures)) c.in_err-a-in-Unary.ensures))

pub typed-returns-in_ok-a-in-Unary : goal.typed-returns-in_ok-a-in-Unary
typed-returns-in_ok-a-in-Unary t c =
    unary_judged (allowed_of c.args.allowed) c.args.is_called (scene_of c.args.scene.now) _ _ _ (expr_of c.args.expr.now) _ _ _ c.unary_judged.result (ap expr_of c.in-Unary.is) (same_typed _ _ _ _ _ (sym c.deref-in-Unary.ensures) ∙ c.in_ok-a-in-Unary.ensures) c.unary_judged.ensures

pub typed-returns-in_err-a-in-SizeofExpr : goal.typed-returns-in_err-a-in-SizeofExpr
typed-returns-in_err-a-in-SizeofExpr t c =
    fails_as _ _ c.from_residual-in_err-a-in-SizeofExpr.result c.in_err-a-in-SizeofExpr.field-0.0 c.from_residual-in_err-a-in-SizeofExpr.ensures.1 (sizeof_stops (allowed_of c.args.allowed) c.args.is_called (scene_of c.args.scene.now) _ _ (expr_of c.args.expr.now) c.in_err-a-in-SizeofExpr.field-0.0 (ap expr_of c.in-SizeofExpr.is) (stops_as _ _ _ (same_typed _ _ _ _ _ (sym c.deref-in-SizeofExpr.ensures)) c.in_err-a-in-SizeofExpr.ensures))

pub typed-returns-in_ok-a-in-SizeofExpr : goal.typed-returns-in_ok-a-in-SizeofExpr
typed-returns-in_ok-a-in-SizeofExpr t c =
    sizeof_judged (allowed_of c.args.allowed) c.args.is_called (scene_of c.args.scene.now) _ _ (expr_of c.args.expr.now) _ _ c.sizeof_typed.result (ap expr_of c.in-SizeofExpr.is) (same_typed _ _ _ _ _ (sym c.deref-in-SizeofExpr.ensures) ∙ c.in_ok-a-in-SizeofExpr.ensures) (sized_as _ _ _ _ _ _ c.has_size-is_sized.ensures c.denoted_size.ensures c.sizeof_typed.ensures)

pub typed-returns-in_err-t-in-SizeofType : goal.typed-returns-in_err-t-in-SizeofType
typed-returns-in_err-t-in-SizeofType t c =
    fails_as _ _ c.from_residual-in_err-t-in-SizeofType.result c.in_err-t-in-SizeofType.field-0.0 c.from_residual-in_err-t-in-SizeofType.ensures.1 (sizeof_type_stops (allowed_of c.args.allowed) c.args.is_called (scene_of c.args.scene.now) _ _ (expr_of c.args.expr.now) c.in_err-t-in-SizeofType.field-0.0 (ap expr_of c.in-SizeofType.is ∙ sizeof_shape c.in-SizeofType.at c.in-SizeofType.type_name) (stops_as _ _ _ (same_name _ _ _ (sym c.deref-in-SizeofType.ensures)) c.in_err-t-in-SizeofType.ensures))

pub typed-returns-in_ok-t-in-SizeofType : goal.typed-returns-in_ok-t-in-SizeofType
typed-returns-in_ok-t-in-SizeofType t c =
    sizeof_type_judged (allowed_of c.args.allowed) c.args.is_called (scene_of c.args.scene.now) _ _ (expr_of c.args.expr.now) _ _ c.sizeof_typed-in-SizeofType.result (ap expr_of c.in-SizeofType.is ∙ sizeof_shape c.in-SizeofType.at c.in-SizeofType.type_name) (same_name _ _ _ (sym c.deref-in-SizeofType.ensures) ∙ c.in_ok-t-in-SizeofType.ensures) (sized_as _ _ _ _ _ _ c.is_complete-is_sized.ensures c.size.ensures c.sizeof_typed-in-SizeofType.ensures)

pub typed-returns-in_err-t-in-Cast : goal.typed-returns-in_err-t-in-Cast
typed-returns-in_err-t-in-Cast t c =
    fails_as _ _ c.from_residual-in_err-t-in-Cast.result c.in_err-t-in-Cast.field-0.0 c.from_residual-in_err-t-in-Cast.ensures.1 (cast_stops_first (allowed_of c.args.allowed) c.args.is_called (scene_of c.args.scene.now) _ _ _ (expr_of c.args.expr.now) c.in_err-t-in-Cast.field-0.0 (ap expr_of c.in-Cast.is ∙ cast_shape c.in-Cast.at c.in-Cast.type_name c.in-Cast.operand) (stops_as _ _ _ (same_name _ _ _ (sym c.deref-in-Cast.ensures)) c.in_err-t-in-Cast.ensures))

pub typed-returns-in_err-a-in-Cast : goal.typed-returns-in_err-a-in-Cast
typed-returns-in_err-a-in-Cast t c =
    fails_as _ _ c.from_residual-in_err-a-in-Cast.result c.in_err-a-in-Cast.field-0.0 c.from_residual-in_err-a-in-Cast.ensures.1 (cast_stops_second (allowed_of c.args.allowed) c.args.is_called (scene_of c.args.scene.now) _ _ _ (expr_of c.args.expr.now) _ _ c.in_err-a-in-Cast.field-0.0 (ap expr_of c.in-Cast.is ∙ cast_shape c.in-Cast.at c.in-Cast.type_name c.in-Cast.operand) (same_name _ _ _ (sym c.deref-in-Cast.ensures) ∙ c.in_ok-t-in-Cast.ensures) (stops_as _ _ _ (same_typed _ _ _ _ _ (sym c.deref-in-Cast-2.ensures)) c.in_err-a-in-Cast.ensures))

pub typed-returns-in_ok-a-in-Cast : goal.typed-returns-in_ok-a-in-Cast
typed-returns-in_ok-a-in-Cast t c =
    cast_judged (allowed_of c.args.allowed) c.args.is_called (scene_of c.args.scene.now) _ _ _ (expr_of c.args.expr.now) _ _ _ _ c.cast_typed.result (ap expr_of c.in-Cast.is ∙ cast_shape c.in-Cast.at c.in-Cast.type_name c.in-Cast.operand) (same_name _ _ _ (sym c.deref-in-Cast.ensures) ∙ c.in_ok-t-in-Cast.ensures) (same_typed _ _ _ _ _ (sym c.deref-in-Cast-2.ensures) ∙ c.in_ok-a-in-Cast.ensures) c.cast_typed.ensures

pub typed-returns-in_err-a-in-Binary : goal.typed-returns-in_err-a-in-Binary
typed-returns-in_err-a-in-Binary t c =
    fails_as _ _ c.from_residual-in_err-a-in-Binary.result c.in_err-a-in-Binary.field-0.0 c.from_residual-in_err-a-in-Binary.ensures.1 (binary_stops_first (allowed_of c.args.allowed) c.args.is_called (scene_of c.args.scene.now) _ _ _ _ _ (expr_of c.args.expr.now) c.in_err-a-in-Binary.field-0.0 (ap expr_of c.in-Binary.is) (stops_as _ _ _ (same_typed _ _ _ _ _ (sym c.deref-in-Binary.ensures)) c.in_err-a-in-Binary.ensures))

pub typed-returns-in_err-b-in-Binary : goal.typed-returns-in_err-b-in-Binary
typed-returns-in_err-b-in-Binary t c =
    fails_as _ _ c.from_residual-in_err-b-in-Binary.result c.in_err-b-in-Binary.field-0.0 c.from_residual-in_err-b-in-Binary.ensures.1 (binary_stops_second (allowed_of c.args.allowed) c.args.is_called (scene_of c.args.scene.now) _ _ _ _ _ (expr_of c.args.expr.now) _ _ c.in_err-b-in-Binary.field-0.0 (ap expr_of c.in-Binary.is) (same_typed _ _ _ _ _ (sym c.deref-in-Binary.ensures) ∙ c.in_ok-a-in-Binary.ensures) (stops_as _ _ _ (same_typed _ _ _ _ _ (sym c.deref-in-Binary-2.ensures)) c.in_err-b-in-Binary.ensures))

pub typed-returns-in_ok-b-in-Binary : goal.typed-returns-in_ok-b-in-Binary
typed-returns-in_ok-b-in-Binary t c =
    binary_judged (allowed_of c.args.allowed) c.args.is_called (scene_of c.args.scene.now) _ _ _ _ _ (expr_of c.args.expr.now) _ _ _ _ c.binary_typed.result (ap expr_of c.in-Binary.is) (same_typed _ _ _ _ _ (sym c.deref-in-Binary.ensures) ∙ c.in_ok-a-in-Binary.ensures) (same_typed _ _ _ _ _ (sym c.deref-in-Binary-2.ensures) ∙ c.in_ok-b-in-Binary.ensures) c.binary_typed.ensures

pub typed-returns-in_err-c-in-Cond : goal.typed-returns-in_err-c-in-Cond
typed-returns-in_err-c-in-Cond t c =
    fails_as _ _ c.from_residual-in_err-c-in-Cond.result c.in_err-c-in-Cond.field-0.0 c.from_residual-in_err-c-in-Cond.ensures.1 (cond_stops_first (allowed_of c.args.allowed) c.args.is_called (scene_of c.args.scene.now) _ _ _ _ _ (expr_of c.args.expr.now) c.in_err-c-in-Cond.field-0.0 (ap expr_of c.in-Cond.is) (stops_as _ _ _ (same_typed _ _ _ _ _ (sym c.deref-in-Cond.ensures)) c.in_err-c-in-Cond.ensures))

pub typed-returns-in_err-a-in-Cond : goal.typed-returns-in_err-a-in-Cond
typed-returns-in_err-a-in-Cond t c =
    fails_as _ _ c.from_residual-in_err-a-in-Cond.result c.in_err-a-in-Cond.field-0.0 c.from_residual-in_err-a-in-Cond.ensures.1 (cond_stops_second (allowed_of c.args.allowed) c.args.is_called (scene_of c.args.scene.now) _ _ _ _ _ (expr_of c.args.expr.now) _ _ c.in_err-a-in-Cond.field-0.0 (ap expr_of c.in-Cond.is) (same_typed _ _ _ _ _ (sym c.deref-in-Cond.ensures) ∙ c.in_ok-c-in-Cond.ensures) (stops_as _ _ _ (same_typed _ _ _ _ _ (sym c.deref-in-Cond-2.ensures)) c.in_err-a-in-Cond.ensures))

pub typed-returns-in_err-b-in-Cond : goal.typed-returns-in_err-b-in-Cond
typed-returns-in_err-b-in-Cond t c =
    fails_as _ _ c.from_residual-in_err-b-in-Cond.result c.in_err-b-in-Cond.field-0.0 c.from_residual-in_err-b-in-Cond.ensures.1 (cond_stops_third (allowed_of c.args.allowed) c.args.is_called (scene_of c.args.scene.now) _ _ _ _ _ (expr_of c.args.expr.now) _ _ _ _ c.in_err-b-in-Cond.field-0.0 (ap expr_of c.in-Cond.is) (same_typed _ _ _ _ _ (sym c.deref-in-Cond.ensures) ∙ c.in_ok-c-in-Cond.ensures) (same_typed _ _ _ _ _ (sym c.deref-in-Cond-2.ensures) ∙ c.in_ok-a-in-Cond.ensures) (stops_as _ _ _ (same_typed _ _ _ _ _ (sym c.deref-in-Cond-3.ensures)) c.in_err-b-in-Cond.ensures))

pub typed-returns-in_ok-b-in-Cond : goal.typed-returns-in_ok-b-in-Cond
typed-returns-in_ok-b-in-Cond t c =
    cond_judged (allowed_of c.args.allowed) c.args.is_called (scene_of c.args.scene.now) _ _ _ _ _ (expr_of c.args.expr.now) _ _ _ _ _ _ c.choice_typed.result (ap expr_of c.in-Cond.is) (same_typed _ _ _ _ _ (sym c.deref-in-Cond.ensures) ∙ c.in_ok-c-in-Cond.ensures) (same_typed _ _ _ _ _ (sym c.deref-in-Cond-2.ensures) ∙ c.in_ok-a-in-Cond.ensures) (same_typed _ _ _ _ _ (sym c.deref-in-Cond-3.ensures) ∙ c.in_ok-b-in-Cond.ensures) c.choice_typed.ensures

pub typed-returns-in_err-a-in-Assign : goal.typed-returns-in_err-a-in-Assign
typed-returns-in_err-a-in-Assign t c =
    fails_as _ _ c.from_residual-in_err-a-in-Assign.result c.in_err-a-in-Assign.field-0.0 c.from_residual-in_err-a-in-Assign.ensures.1 (assign_stops_first (allowed_of c.args.allowed) c.args.is_called (scene_of c.args.scene.now) _ _ _ _ _ (expr_of c.args.expr.now) c.in_err-a-in-Assign.field-0.0 (ap expr_of c.in-Assign.is) (stops_as _ _ _ (same_typed _ _ _ _ _ (sym c.deref-in-Assign.ensures)) c.in_err-a-in-Assign.ensures))

pub typed-returns-in_err-b-in-Assign : goal.typed-returns-in_err-b-in-Assign
typed-returns-in_err-b-in-Assign t c =
    fails_as _ _ c.from_residual-in_err-b-in-Assign.result c.in_err-b-in-Assign.field-0.0 c.from_residual-in_err-b-in-Assign.ensures.1 (assign_stops_second (allowed_of c.args.allowed) c.args.is_called (scene_of c.args.scene.now) _ _ _ _ _ (expr_of c.args.expr.now) _ _ c.in_err-b-in-Assign.field-0.0 (ap expr_of c.in-Assign.is) (same_typed _ _ _ _ _ (sym c.deref-in-Assign.ensures) ∙ c.in_ok-a-in-Assign.ensures) (stops_as _ _ _ (same_typed _ _ _ _ _ (sym c.deref-in-Assign-2.ensures)) (right_stops _ _ (scene_of c.typed-in-Assign.new.scene) (expr_of c.deref-in-Assign-2.result.now) _ c.allowed_right.ensures c.in_err-b-in-Assign.ensures)))

pub typed-returns-in_ok-b-in-Assign : goal.typed-returns-in_ok-b-in-Assign
typed-returns-in_ok-b-in-Assign t c =
    assign_judged (allowed_of c.args.allowed) c.args.is_called (scene_of c.args.scene.now) _ _ _ _ _ (expr_of c.args.expr.now) _ _ _ _ c.assigned.result (ap expr_of c.in-Assign.is) (same_typed _ _ _ _ _ (sym c.deref-in-Assign.ensures) ∙ c.in_ok-a-in-Assign.ensures) (same_typed _ _ _ _ _ (sym c.deref-in-Assign-2.ensures) ∙ (right_judged _ _ (scene_of c.typed-in-Assign.new.scene) (expr_of c.deref-in-Assign-2.result.now) _ c.allowed_right.ensures c.in_ok-b-in-Assign.ensures)) c.assigned.ensures

pub typed_all-loop-expr-init : goal.typed_all-loop-expr-init
typed_all-loop-expr-init t c =
    ap (λ m. all_behind (all_typed m) (typed_all (scene_of c.args.scene.now) (exprs_of c.args.list.now))) c.new-made.ensures.items ∙ nothing_behind (typed_all (scene_of c.args.scene.now) (exprs_of c.args.list.now))

pub typed_all-returns-in_err-e : goal.typed_all-returns-in_err-e
typed_all-returns-in_err-e t c =
    fails_as _ _ c.from_residual.result c.in_err-e.field-0.0 c.from_residual.ensures.1 (exprs_stops _ c.loop-expr.made.items c.args.list.now c.loop-expr.expr-index c.expr-item.result c.in_err-e.field-0.0 _ c.loop-expr-test.true c.expr-item.is c.in_err-e.ensures c.loop-expr.invariant)

pub typed_all-returns-in_err-push : goal.typed_all-returns-in_err-push
typed_all-returns-in_err-push t c =
    fails_short _ _ c.from_residual-in_err-push.result c.from_residual-in_err-push.ensures.1

pub typed_all-loop-expr-preserved : goal.typed_all-loop-expr-preserved
typed_all-loop-expr-preserved t c =
    exprs_next _ _ c.loop-expr.made.items _ c.args.list.now c.loop-expr.expr-index c.expr-item.result _ _ c.loop-expr-test.true c.expr-item.is c.in_ok-e.ensures c.in_ok-push.ensures c.loop-expr.invariant

pub typed_all-returns : goal.typed_all-returns
typed_all-returns t c =
    exprs_end _ c.loop-expr.made.items c.args.list.now c.loop-expr.expr-index _ c.loop-expr-test.false c.loop-expr.invariant

pub typed_length-returns-in_err-e-in-Some : goal.typed_length-returns-in_err-e-in-Some
typed_length-returns-in_err-e-in-Some t c =
    fails_as _ _ c.from_residual.result c.in_err-e-in-Some.field-0.0 c.from_residual.ensures.1 (length_stops (scene_of c.args.scene.now) (maybe_of c.args.length.now) _ c.in_err-e-in-Some.field-0.0 (ap maybe_of c.in-Some.is) (stops_as _ _ _ (same_typed _ _ _ _ _ (sym c.deref.ensures)) c.in_err-e-in-Some.ensures))

pub typed_length-returns-in_ok-e-in-Some : goal.typed_length-returns-in_ok-e-in-Some
typed_length-returns-in_ok-e-in-Some t c =
    length_made (scene_of c.args.scene.now) _ (maybe_of c.args.length.now) _ _ _ (ap maybe_of c.in-Some.is) (same_typed _ _ _ _ _ (sym c.deref.ensures) ∙ c.in_ok-e-in-Some.ensures) c.length_of.ensures

pub typed_length-returns-in-None : goal.typed_length-returns-in-None
typed_length-returns-in-None t c =
    ap (λ m. typed_length (scene_of c.args.scene.now) (maybe_of m)) c.in-None.is

pub typed_value-returns-in_err-e-in-Some : goal.typed_value-returns-in_err-e-in-Some
typed_value-returns-in_err-e-in-Some t c =
    fails_as _ _ c.from_residual.result c.in_err-e-in-Some.field-0.0 c.from_residual.ensures.1 (value_stops (scene_of c.args.scene.now) (maybe_of c.args.value.now) _ c.in_err-e-in-Some.field-0.0 (ap maybe_of c.in-Some.is) (stops_as _ _ _ (same_typed _ _ _ _ _ (sym c.deref.ensures)) c.in_err-e-in-Some.ensures))

pub typed_value-returns-in_ok-e-in-Some : goal.typed_value-returns-in_ok-e-in-Some
typed_value-returns-in_ok-e-in-Some t c =
    value_made (scene_of c.args.scene.now) _ (maybe_of c.args.value.now) _ _ (ap maybe_of c.in-Some.is) (same_typed _ _ _ _ _ (sym c.deref.ensures) ∙ c.in_ok-e-in-Some.ensures)

pub typed_value-returns-in-None : goal.typed_value-returns-in-None
typed_value-returns-in-None t c =
    ap (λ m. typed_value (scene_of c.args.scene.now) (maybe_of m)) c.in-None.is

pub typed_name-returns-in_err-base : goal.typed_name-returns-in_err-base
typed_name-returns-in_err-base t c =
    fails_as _ _ c.from_residual.result c.in_err-base.field-0.0 c.from_residual.ensures.1 (type_stops_first (scene_of c.args.scene.now) c.args.type_name.now.at (specifiers_of c.args.type_name.now.specifiers.items) (declarator_of c.args.type_name.now.declarator) c.in_err-base.field-0.0 (stops_as _ _ _ (same_specified _ _ _ (sym c.deref.ensures.value)) c.in_err-base.ensures))

pub typed_name-returns-in_err-parts : goal.typed_name-returns-in_err-parts
typed_name-returns-in_err-parts t c =
    fails_as _ _ c.from_residual-in_err-parts.result c.in_err-parts.field-0.0 c.from_residual-in_err-parts.ensures.1 (type_stops_second (scene_of c.args.scene.now) _ c.args.type_name.now.at (specifiers_of c.args.type_name.now.specifiers.items) (declarator_of c.args.type_name.now.declarator) _ c.in_err-parts.field-0.0 (same_specified _ _ _ (sym c.deref.ensures.value) ∙ c.in_ok-base.ensures) c.in_err-parts.ensures)

pub typed_name-returns : goal.typed_name-returns
typed_name-returns t c =
    type_judged (scene_of c.args.scene.now) _ _ c.args.type_name.now.at (specifiers_of c.args.type_name.now.specifiers.items) (declarator_of c.args.type_name.now.declarator) _ _ _ _ _ c.type_name_built.result (same_specified _ _ _ (sym c.deref.ensures.value) ∙ c.in_ok-base.ensures) c.in_ok-parts.ensures c.base_of.ensures c.declared_at-at.ensures c.type_name_built.ensures

pub specifier_judged-returns-in_err-owed-in-Storage : goal.specifier_judged-returns-in_err-owed-in-Storage
specifier_judged-returns-in_err-owed-in-Storage t c =
    fails_as _ _ c.from_residual.result c.in_err-owed-in-Storage.field-0.0 c.from_residual.ensures.1 (storage_stops (scene_of c.args.scene.now) _ _ (specifier_of c.args.specifier.now) _ c.in_err-owed-in-Storage.field-0.0 (ap specifier_of c.in-Storage.is) refl c.in_err-owed-in-Storage.ensures.err)

pub specifier_judged-returns-in_ok-owed-in-Storage : goal.specifier_judged-returns-in_ok-owed-in-Storage
specifier_judged-returns-in_ok-owed-in-Storage t c =
    storage_made (scene_of c.args.scene.now) _ _ (specifier_of c.args.specifier.now) _ (ap specifier_of c.in-Storage.is) refl c.in_ok-owed-in-Storage.ensures.ok

pub specifier_judged-returns-in-Qualifier : goal.specifier_judged-returns-in-Qualifier
specifier_judged-returns-in-Qualifier t c =
    ap (λ x. specifier_judged (scene_of c.args.scene.now) (specifier_of x)) c.in-Qualifier.is

pub specifier_judged-returns-in-Inline : goal.specifier_judged-returns-in-Inline
specifier_judged-returns-in-Inline t c =
    ap (λ x. specifier_judged (scene_of c.args.scene.now) (specifier_of x)) c.in-Inline.is

pub specifier_judged-returns-in_err-owed-in-Words : goal.specifier_judged-returns-in_err-owed-in-Words
specifier_judged-returns-in_err-owed-in-Words t c =
    fails_as _ _ c.from_residual-in_err-owed-in-Words.result c.in_err-owed-in-Words.field-0.0 c.from_residual-in_err-owed-in-Words.ensures.1 (words_stop (scene_of c.args.scene.now) _ _ (specifier_of c.args.specifier.now) _ c.in_err-owed-in-Words.field-0.0 (ap specifier_of c.in-Words.is) (ap not (c.is_floating.ensures ∙ ap (λ w. is_floating (words_of w)) c.as_slice-words.ensures.value)) c.in_err-owed-in-Words.ensures.err)

pub specifier_judged-returns-in_ok-owed-in-Words : goal.specifier_judged-returns-in_ok-owed-in-Words
specifier_judged-returns-in_ok-owed-in-Words t c =
    words_made (scene_of c.args.scene.now) _ _ (specifier_of c.args.specifier.now) _ _ (ap specifier_of c.in-Words.is) (ap not (c.is_floating.ensures ∙ ap (λ w. is_floating (words_of w)) c.as_slice-words.ensures.value)) c.in_ok-owed-in-Words.ensures.ok (c.words_type.ensures ∙ ap (λ w. words_type (words_of w)) c.as_slice-words.ensures.value)

pub specifier_judged-returns-in_err-typedef_judged-in-Typedef : goal.specifier_judged-returns-in_err-typedef_judged-in-Typedef
specifier_judged-returns-in_err-typedef_judged-in-Typedef t c =
    fails_as _ _ c.from_residual-in_err-typedef_judged-in-Typedef.result c.in_err-typedef_judged-in-Typedef.field-0.0 c.from_residual-in_err-typedef_judged-in-Typedef.ensures.1 (typedef_stops (scene_of c.args.scene.now) _ _ (specifier_of c.args.specifier.now) c.in_err-typedef_judged-in-Typedef.field-0.0 (ap specifier_of c.in-Typedef.is) c.in_err-typedef_judged-in-Typedef.ensures)

pub specifier_judged-returns-in_ok-typedef_judged-in-Typedef : goal.specifier_judged-returns-in_ok-typedef_judged-in-Typedef
specifier_judged-returns-in_ok-typedef_judged-in-Typedef t c =
    typedef_made (scene_of c.args.scene.now) _ _ _ (specifier_of c.args.specifier.now) _ (ap specifier_of c.in-Typedef.is) c.in_ok-typedef_judged-in-Typedef.ensures

pub specifier_judged-returns-in_err-referred-in-CompositeReference : goal.specifier_judged-returns-in_err-referred-in-CompositeReference
specifier_judged-returns-in_err-referred-in-CompositeReference t c =
    fails_as _ _ c.from_residual-in_err-referred-in-CompositeReference.result c.in_err-referred-in-CompositeReference.field-0.0 c.from_residual-in_err-referred-in-CompositeReference.ensures.1 (reference_stops (scene_of c.args.scene.now) _ _ _ _ (specifier_of c.args.specifier.now) c.in_err-referred-in-CompositeReference.field-0.0 (ap specifier_of c.in-CompositeReference.is) c.in_err-referred-in-CompositeReference.ensures)

pub specifier_judged-returns-in_ok-referred-in-CompositeReference : goal.specifier_judged-returns-in_ok-referred-in-CompositeReference
specifier_judged-returns-in_ok-referred-in-CompositeReference t c =
    reference_made (scene_of c.args.scene.now) _ _ _ _ _ (specifier_of c.args.specifier.now) _ (ap specifier_of c.in-CompositeReference.is) c.in_ok-referred-in-CompositeReference.ensures

pub specifier_judged-returns-in_err-n-in-Composite : goal.specifier_judged-returns-in_err-n-in-Composite
specifier_judged-returns-in_err-n-in-Composite t c =
    fails_as _ _ c.from_residual-in_err-n-in-Composite.result c.in_err-n-in-Composite.field-0.0 c.from_residual-in_err-n-in-Composite.ensures.1 (composite_stops_first (scene_of c.args.scene.now) _ _ _ _ _ (specifier_of c.args.specifier.now) c.in_err-n-in-Composite.field-0.0 (ap specifier_of c.in-Composite.is ∙ composite_shape c.in-Composite.at c.in-Composite.word c.in-Composite.tag c.in-Composite.body_at c.in-Composite.members) c.in_err-n-in-Composite.ensures)

pub specifier_judged-returns-in_err-laid-in-Composite : goal.specifier_judged-returns-in_err-laid-in-Composite
specifier_judged-returns-in_err-laid-in-Composite t c =
    fails_as _ _ c.from_residual-in_err-laid-in-Composite.result c.in_err-laid-in-Composite.field-0.0 c.from_residual-in_err-laid-in-Composite.ensures.1 (composite_stops_second (scene_of c.args.scene.now) _ _ _ _ _ _ (specifier_of c.args.specifier.now) _ c.in_err-laid-in-Composite.field-0.0 (ap specifier_of c.in-Composite.is ∙ composite_shape c.in-Composite.at c.in-Composite.word c.in-Composite.tag c.in-Composite.body_at c.in-Composite.members) c.in_ok-n-in-Composite.ensures (stops_as _ _ _ (same_members _ _ _ (sym c.deref.ensures.value)) c.in_err-laid-in-Composite.ensures))

pub specifier_judged-returns-in_err-body_ended-in-Composite : goal.specifier_judged-returns-in_err-body_ended-in-Composite
specifier_judged-returns-in_err-body_ended-in-Composite t c =
    fails_as _ _ c.from_residual-in_err-body_ended-in-Composite.result c.in_err-body_ended-in-Composite.field-0.0 c.from_residual-in_err-body_ended-in-Composite.ensures.1 (composite_stops_third (scene_of c.args.scene.now) _ _ _ _ _ _ _ (specifier_of c.args.specifier.now) _ _ c.in_err-body_ended-in-Composite.field-0.0 (ap specifier_of c.in-Composite.is ∙ composite_shape c.in-Composite.at c.in-Composite.word c.in-Composite.tag c.in-Composite.body_at c.in-Composite.members) c.in_ok-n-in-Composite.ensures (same_members _ _ _ (sym c.deref.ensures.value) ∙ c.in_ok-laid-in-Composite.ensures) c.in_err-body_ended-in-Composite.ensures)

pub specifier_judged-returns-in_ok-body_ended-in-Composite : goal.specifier_judged-returns-in_ok-body_ended-in-Composite
specifier_judged-returns-in_ok-body_ended-in-Composite t c =
    composite_made (scene_of c.args.scene.now) _ _ _ _ _ _ _ _ (specifier_of c.args.specifier.now) _ _ _ (ap specifier_of c.in-Composite.is ∙ composite_shape c.in-Composite.at c.in-Composite.word c.in-Composite.tag c.in-Composite.body_at c.in-Composite.members) c.in_ok-n-in-Composite.ensures (same_members _ _ _ (sym c.deref.ensures.value) ∙ c.in_ok-laid-in-Composite.ensures) c.in_ok-body_ended-in-Composite.ensures

pub specifier_judged-returns-in_err-enum_referred-in-EnumReference : goal.specifier_judged-returns-in_err-enum_referred-in-EnumReference
specifier_judged-returns-in_err-enum_referred-in-EnumReference t c =
    fails_as _ _ c.from_residual-in_err-enum_referred-in-EnumReference.result c.in_err-enum_referred-in-EnumReference.field-0.0 c.from_residual-in_err-enum_referred-in-EnumReference.ensures.1 (enum_reference_stops (scene_of c.args.scene.now) _ _ _ (specifier_of c.args.specifier.now) c.in_err-enum_referred-in-EnumReference.field-0.0 (ap specifier_of c.in-EnumReference.is) c.in_err-enum_referred-in-EnumReference.ensures)

pub specifier_judged-returns-in_ok-enum_referred-in-EnumReference : goal.specifier_judged-returns-in_ok-enum_referred-in-EnumReference
specifier_judged-returns-in_ok-enum_referred-in-EnumReference t c =
    enum_reference_made (scene_of c.args.scene.now) _ _ _ _ (specifier_of c.args.specifier.now) _ (ap specifier_of c.in-EnumReference.is) c.in_ok-enum_referred-in-EnumReference.ensures

pub specifier_judged-returns-in_err-enum_begun-in-Enumeration : goal.specifier_judged-returns-in_err-enum_begun-in-Enumeration
specifier_judged-returns-in_err-enum_begun-in-Enumeration t c =
    fails_as _ _ c.from_residual-in_err-enum_begun-in-Enumeration.result c.in_err-enum_begun-in-Enumeration.field-0.0 c.from_residual-in_err-enum_begun-in-Enumeration.ensures.1 (enum_stops_first (scene_of c.args.scene.now) _ _ _ _ (specifier_of c.args.specifier.now) c.in_err-enum_begun-in-Enumeration.field-0.0 (ap specifier_of c.in-Enumeration.is ∙ enumeration_shape c.in-Enumeration.at c.in-Enumeration.tag c.in-Enumeration.body_at c.in-Enumeration.enumerators) c.in_err-enum_begun-in-Enumeration.ensures)

pub specifier_judged-returns-in_err-enumerators_judged-in-Enumeration : goal.specifier_judged-returns-in_err-enumerators_judged-in-Enumeration
specifier_judged-returns-in_err-enumerators_judged-in-Enumeration t c =
    fails_as _ _ c.from_residual-in_err-enumerators_judged-in-Enumeration.result c.in_err-enumerators_judged-in-Enumeration.field-0.0 c.from_residual-in_err-enumerators_judged-in-Enumeration.ensures.1 (enum_stops_second (scene_of c.args.scene.now) _ _ _ _ _ (specifier_of c.args.specifier.now) c.in_err-enumerators_judged-in-Enumeration.field-0.0 (ap specifier_of c.in-Enumeration.is ∙ enumeration_shape c.in-Enumeration.at c.in-Enumeration.tag c.in-Enumeration.body_at c.in-Enumeration.enumerators) c.in_ok-enum_begun-in-Enumeration.ensures (stops_as _ _ _ (same_enumerators _ _ _ (sym c.deref-in-Enumeration.ensures.value)) c.in_err-enumerators_judged-in-Enumeration.ensures))

pub specifier_judged-returns-in_ok-enumerators_judged-in-Enumeration : goal.specifier_judged-returns-in_ok-enumerators_judged-in-Enumeration
specifier_judged-returns-in_ok-enumerators_judged-in-Enumeration t c =
    enum_made (scene_of c.args.scene.now) _ _ _ _ _ _ (specifier_of c.args.specifier.now) (ap specifier_of c.in-Enumeration.is ∙ enumeration_shape c.in-Enumeration.at c.in-Enumeration.tag c.in-Enumeration.body_at c.in-Enumeration.enumerators) c.in_ok-enum_begun-in-Enumeration.ensures (same_enumerators _ _ _ (sym c.deref-in-Enumeration.ensures.value) ∙ c.in_ok-enumerators_judged-in-Enumeration.ensures)

pub specified-loop-specifier-init : goal.specified-loop-specifier-init
specified-loop-specifier-init t c =
    refl

pub specified-returns-in_err-given : goal.specified-returns-in_err-given
specified-returns-in_err-given t c =
    fails_as _ _ c.from_residual.result c.in_err-given.field-0.0 c.from_residual.ensures.1 (specifiers_stop _ c.loop-specifier.base c.args.list.now c.loop-specifier.specifier-index c.specifier-item.result c.in_err-given.field-0.0 _ c.loop-specifier-test.true c.specifier-item.is c.in_err-given.ensures c.loop-specifier.invariant)

pub specified-loop-specifier-preserved : goal.specified-loop-specifier-preserved
specified-loop-specifier-preserved t c =
    specifiers_next _ _ c.loop-specifier.base _ _ c.args.list.now c.loop-specifier.specifier-index c.specifier-item.result _ c.loop-specifier-test.true c.specifier-item.is c.in_ok-given.ensures c.or-base.ensures c.loop-specifier.invariant

pub specified-returns : goal.specified-returns
specified-returns t c =
    specifiers_end _ c.loop-specifier.base c.args.list.now c.loop-specifier.specifier-index _ c.loop-specifier-test.false c.loop-specifier.invariant

pub members_judged-loop-member-init : goal.members_judged-loop-member-init
members_judged-loop-member-init t c =
    ap (λ l. members_judged (scene_of c.args.scene.now) l (members_of c.args.list.now)) c.nothing_laid-laid.ensures

pub members_judged-returns-in_err-base : goal.members_judged-returns-in_err-base
members_judged-returns-in_err-base t c =
    fails_as _ _ c.from_residual.result c.in_err-base.field-0.0 c.from_residual.ensures.1 (members_stop_first _ (laid_of c.loop-member.laid) c.args.list.now c.loop-member.member-index c.member-item.result c.in_err-base.field-0.0 _ c.loop-member-test.true c.member-item.is (stops_as _ _ _ (same_specified _ _ _ (sym c.deref.ensures.value)) c.in_err-base.ensures) c.loop-member.invariant)

pub members_judged-returns-in_err-laid : goal.members_judged-returns-in_err-laid
members_judged-returns-in_err-laid t c =
    fails_as _ _ c.from_residual-in_err-laid.result c.in_err-laid.field-0.0 c.from_residual-in_err-laid.ensures.1 (members_stop_second _ _ _ _ (laid_of c.loop-member.laid) c.args.list.now c.loop-member.member-index c.member-item.result c.in_err-laid.field-0.0 _ c.loop-member-test.true c.member-item.is (same_specified _ _ _ (sym c.deref.ensures.value) ∙ c.in_ok-base.ensures) c.base_of.ensures (stops_as _ _ _ (same_declarators _ _ _ _ _ (sym c.deref-in-loop-member.ensures.value)) c.in_err-laid.ensures) c.loop-member.invariant)

pub members_judged-loop-member-preserved : goal.members_judged-loop-member-preserved
members_judged-loop-member-preserved t c =
    members_next _ _ _ _ _ (laid_of c.loop-member.laid) _ c.args.list.now c.loop-member.member-index c.member-item.result _ c.loop-member-test.true c.member-item.is (same_specified _ _ _ (sym c.deref.ensures.value) ∙ c.in_ok-base.ensures) c.base_of.ensures (same_declarators _ _ _ _ _ (sym c.deref-in-loop-member.ensures.value) ∙ c.in_ok-laid.ensures) c.loop-member.invariant

pub members_judged-returns : goal.members_judged-returns
members_judged-returns t c =
    members_end _ (laid_of c.loop-member.laid) c.args.list.now c.loop-member.member-index _ c.loop-member-test.false c.loop-member.invariant

pub member_declarators-loop-declarator-init : goal.member_declarators-loop-declarator-init
member_declarators-loop-declarator-init t c =
    refl

pub member_declarators-returns-in_err-parts : goal.member_declarators-returns-in_err-parts
member_declarators-returns-in_err-parts t c =
    fails_as _ _ c.from_residual.result c.in_err-parts.field-0.0 c.from_residual.ensures.1 (declarators_stop_first _ _ (laid_of c.loop-declarator.laid) c.args.list.now c.loop-declarator.declarator-index c.declarator-item.result c.in_err-parts.field-0.0 _ c.loop-declarator-test.true c.declarator-item.is c.in_err-parts.ensures c.loop-declarator.invariant)

pub member_declarators-returns-in_err-name : goal.member_declarators-returns-in_err-name
member_declarators-returns-in_err-name t c =
    fails_short _ _ c.from_residual-in_err-name.result c.from_residual-in_err-name.ensures.1

pub member_declarators-returns-in_err-laid : goal.member_declarators-returns-in_err-laid
member_declarators-returns-in_err-laid t c =
    fails_as _ _ c.from_residual-in_err-laid.result c.in_err-laid.field-0.0 c.from_residual-in_err-laid.ensures.1 (declarators_stop_second _ _ _ _ (laid_of c.loop-declarator.laid) c.args.list.now c.loop-declarator.declarator-index c.declarator-item.result _ _ _ c.in_err-laid.field-0.0 _ c.loop-declarator-test.true c.declarator-item.is c.in_ok-parts.ensures c.declared_at-at.ensures c.in_ok-name.ensures c.declared_name.ensures c.in_err-laid.ensures c.loop-declarator.invariant)

pub member_declarators-loop-declarator-preserved : goal.member_declarators-loop-declarator-preserved
member_declarators-loop-declarator-preserved t c =
    declarators_next _ _ _ _ _ (laid_of c.loop-declarator.laid) _ c.args.list.now c.loop-declarator.declarator-index c.declarator-item.result _ _ _ _ c.loop-declarator-test.true c.declarator-item.is c.in_ok-parts.ensures c.declared_at-at.ensures c.in_ok-name.ensures c.declared_name.ensures c.in_ok-laid.ensures c.loop-declarator.invariant

pub member_declarators-returns : goal.member_declarators-returns
member_declarators-returns t c =
    declarators_end _ _ (laid_of c.loop-declarator.laid) c.args.list.now c.loop-declarator.declarator-index _ c.loop-declarator-test.false c.loop-declarator.invariant

pub enumerators_judged-loop-enumerator-init : goal.enumerators_judged-loop-enumerator-init
enumerators_judged-loop-enumerator-init t c =
    refl

pub enumerators_judged-returns-in_err-value : goal.enumerators_judged-returns-in_err-value
enumerators_judged-returns-in_err-value t c =
    fails_as _ _ c.from_residual.result c.in_err-value.field-0.0 c.from_residual.ensures.1 (enumerators_stop_first _ c.loop-enumerator.next c.args.list.now c.loop-enumerator.enumerator-index c.enumerator-item.result c.in_err-value.field-0.0 _ c.loop-enumerator-test.true c.enumerator-item.is c.in_err-value.ensures c.loop-enumerator.invariant)

pub enumerators_judged-returns-in_err-next : goal.enumerators_judged-returns-in_err-next
enumerators_judged-returns-in_err-next t c =
    fails_as _ _ c.from_residual-in_err-next.result c.in_err-next.field-0.0 c.from_residual-in_err-next.ensures.1 (enumerators_stop_second _ _ c.loop-enumerator.next _ c.args.list.now c.loop-enumerator.enumerator-index c.enumerator-item.result c.in_err-next.field-0.0 _ c.loop-enumerator-test.true c.enumerator-item.is c.in_ok-value.ensures c.in_err-next.ensures c.loop-enumerator.invariant)

pub enumerators_judged-loop-enumerator-preserved : goal.enumerators_judged-loop-enumerator-preserved
enumerators_judged-loop-enumerator-preserved t c =
    enumerators_next _ _ _ c.loop-enumerator.next _ _ c.args.list.now c.loop-enumerator.enumerator-index c.enumerator-item.result _ c.loop-enumerator-test.true c.enumerator-item.is c.in_ok-value.ensures c.in_ok-next.ensures c.loop-enumerator.invariant

pub enumerators_judged-returns : goal.enumerators_judged-returns
enumerators_judged-returns t c =
    enumerators_end _ c.loop-enumerator.next c.args.list.now c.loop-enumerator.enumerator-index _ c.loop-enumerator-test.false c.loop-enumerator.invariant

pub declared-returns-in_err-inside : goal.declared-returns-in_err-inside
declared-returns-in_err-inside t c =
    fails_as _ _ c.from_residual.result c.in_err-inside.field-0.0 c.from_residual.ensures.1 (declared_stops_first (scene_of c.args.scene.now) c.args.is_own c.args.declarator.now c.in_err-inside.field-0.0 c.in_err-inside.ensures)

pub declared-returns-in_err-parts : goal.declared-returns-in_err-parts
declared-returns-in_err-parts t c =
    fails_as _ _ c.from_residual-in_err-parts.result c.in_err-parts.field-0.0 c.from_residual-in_err-parts.ensures.1 (declared_stops_second (scene_of c.args.scene.now) _ c.args.is_own c.args.declarator.now _ _ c.in_err-parts.field-0.0 c.in_ok-inside.ensures c.keeps_own-is_own.ensures (stops_as _ _ _ (ap (suffixes_judged _ _ _) (sym c.deref.ensures.value)) c.in_err-parts.ensures))

pub declared-returns-in_err-with_pointers : goal.declared-returns-in_err-with_pointers
declared-returns-in_err-with_pointers t c =
    fails_short _ _ c.from_residual-in_err-with_pointers.result c.from_residual-in_err-with_pointers.ensures.1

pub declared-returns : goal.declared-returns
declared-returns t c =
    let counted : c.len.result ≡ length c.args.declarator.now.pointers.items = omega (arith, c.args.declarator.now.pointers.ok.0) in
    declared_made (scene_of c.args.scene.now) _ _ c.args.is_own c.args.declarator.now _ _ _ _ c.len.result c.in_ok-inside.ensures c.keeps_own-is_own.ensures (ap (suffixes_judged _ _ _) (sym c.deref.ensures.value) ∙ c.in_ok-parts.ensures) counted c.in_ok-with_pointers.ensures

pub suffixes_declared-loop-suffix-init : goal.suffixes_declared-loop-suffix-init
suffixes_declared-loop-suffix-init t c =
    refl

pub suffixes_declared-returns-in_err-part : goal.suffixes_declared-returns-in_err-part
suffixes_declared-returns-in_err-part t c =
    fails_as _ _ c.from_residual.result c.in_err-part.field-0.0 c.from_residual.ensures.1 (suffixes_stop _ c.loop-suffix.is_own c.loop-suffix.parts.items c.args.suffixes.now c.loop-suffix.suffix-index c.suffix-item.result c.in_err-part.field-0.0 _ c.loop-suffix-test.true c.suffix-item.is c.in_err-part.ensures c.loop-suffix.invariant)

pub suffixes_declared-returns-in_err-push : goal.suffixes_declared-returns-in_err-push
suffixes_declared-returns-in_err-push t c =
    fails_short _ _ c.from_residual-in_err-push.result c.from_residual-in_err-push.ensures.1

pub suffixes_declared-loop-suffix-preserved : goal.suffixes_declared-loop-suffix-preserved
suffixes_declared-loop-suffix-preserved t c =
    suffixes_next _ _ c.loop-suffix.is_own c.loop-suffix.parts.items _ _ c.args.suffixes.now c.loop-suffix.suffix-index c.suffix-item.result _ c.loop-suffix-test.true c.suffix-item.is c.in_ok-part.ensures c.in_ok-push.ensures c.loop-suffix.invariant

pub suffixes_declared-returns : goal.suffixes_declared-returns
suffixes_declared-returns t c =
    suffixes_end _ c.loop-suffix.is_own (parts_of c.loop-suffix.parts.items) c.args.suffixes.now c.loop-suffix.suffix-index _ c.loop-suffix-test.false c.loop-suffix.invariant

pub direct_declared-returns-in-Unnamed : goal.direct_declared-returns-in-Unnamed
direct_declared-returns-in-Unnamed t c =
    ap (λ d. declared (scene_of c.args.scene.now) c.args.is_own (direct_of d)) c.in-Unnamed.is ∙ ap (λ (ps : List P.Part). value ((scene_of c.args.scene.now), parts_of ps)) (sym c.new.ensures.items)

pub direct_declared-returns-in-Named : goal.direct_declared-returns-in-Named
direct_declared-returns-in-Named t c =
    ap (λ d. declared (scene_of c.args.scene.now) c.args.is_own (direct_of d)) c.in-Named.is ∙ ap (λ (ps : List P.Part). value ((scene_of c.args.scene.now), parts_of ps)) (sym c.new-in-Named.ensures.items)

pub direct_declared-returns-in-Nested : goal.direct_declared-returns-in-Nested
direct_declared-returns-in-Nested t c =
    nested_judged (scene_of c.args.scene.now) c.args.is_own c.args.direct.now _ _ c.declared.result c.in-Nested.is (judged_as _ _ _ _ (same_declared _ _ _ _ (sym c.deref.ensures)) c.declared.ensures)

pub suffix_declared-returns-in_err-typed_length-in-Array : goal.suffix_declared-returns-in_err-typed_length-in-Array
suffix_declared-returns-in_err-typed_length-in-Array t c =
    fails_as _ _ c.from_residual.result c.in_err-typed_length-in-Array.field-0.0 c.from_residual.ensures.1 (array_stops (scene_of c.args.scene.now) c.args.is_own c.args.suffix.now _ c.in_err-typed_length-in-Array.field-0.0 c.in-Array.is c.in_err-typed_length-in-Array.ensures)

pub suffix_declared-returns-in_ok-typed_length-in-Array : goal.suffix_declared-returns-in_ok-typed_length-in-Array
suffix_declared-returns-in_ok-typed_length-in-Array t c =
    array_made (scene_of c.args.scene.now) _ c.args.is_own c.args.suffix.now _ _ c.in-Array.is c.in_ok-typed_length-in-Array.ensures

pub suffix_declared-returns-in_err-open-in-Function : goal.suffix_declared-returns-in_err-open-in-Function
suffix_declared-returns-in_err-open-in-Function t c =
    fails_short _ _ c.from_residual-in_err-open-in-Function.result c.from_residual-in_err-open-in-Function.ensures.1

pub suffix_declared-returns-in_err-list-in-Function : goal.suffix_declared-returns-in_err-list-in-Function
suffix_declared-returns-in_err-list-in-Function t c =
    fails_as _ _ c.from_residual-in_err-list-in-Function.result c.in_err-list-in-Function.field-0.0 c.from_residual-in_err-list-in-Function.ensures.1 (function_stops (scene_of c.args.scene.now) _ c.args.is_own c.args.suffix.now _ c.in_err-list-in-Function.field-0.0 c.in-Function.is c.in_ok-open-in-Function.ensures (stops_as _ _ _ (same_parameters _ _ _ _ (sym c.deref.ensures.value)) c.in_err-list-in-Function.ensures))

pub suffix_declared-returns-in_ok-list-in-Function : goal.suffix_declared-returns-in_ok-list-in-Function
suffix_declared-returns-in_ok-list-in-Function t c =
    function_made (scene_of c.args.scene.now) _ _ _ c.args.is_own c.args.suffix.now _ _ c.in-Function.is c.in_ok-open-in-Function.ensures (same_parameters _ _ _ _ (sym c.deref.ensures.value) ∙ c.in_ok-list-in-Function.ensures) c.close.ensures

pub parameters_judged-loop-parameter-init : goal.parameters_judged-loop-parameter-init
parameters_judged-loop-parameter-init t c =
    ap (λ m. parameters_behind (map parameter_of m) (parameters_judged c.args.is_own (scene_of c.args.scene.now) (parameters_of c.args.list.now))) c.new-made.ensures.items ∙ then_value (parameters_judged c.args.is_own (scene_of c.args.scene.now) (parameters_of c.args.list.now))

pub parameters_judged-returns-in_err-base : goal.parameters_judged-returns-in_err-base
parameters_judged-returns-in_err-base t c =
    fails_as _ _ c.from_residual.result c.in_err-base.field-0.0 c.from_residual.ensures.1 (parameters_stop_first _ c.args.is_own c.loop-parameter.made.items c.args.list.now c.loop-parameter.parameter-index c.parameter-item.result c.in_err-base.field-0.0 _ c.loop-parameter-test.true c.parameter-item.is (stops_as _ _ _ (same_specified _ _ _ (sym c.deref.ensures.value)) c.in_err-base.ensures) c.loop-parameter.invariant)

pub parameters_judged-returns-in_err-parts : goal.parameters_judged-returns-in_err-parts
parameters_judged-returns-in_err-parts t c =
    fails_as _ _ c.from_residual-in_err-parts.result c.in_err-parts.field-0.0 c.from_residual-in_err-parts.ensures.1 (parameters_stop_second _ _ c.args.is_own _ c.loop-parameter.made.items c.args.list.now c.loop-parameter.parameter-index c.parameter-item.result c.in_err-parts.field-0.0 _ c.loop-parameter-test.true c.parameter-item.is (same_specified _ _ _ (sym c.deref.ensures.value) ∙ c.in_ok-base.ensures) c.in_err-parts.ensures c.loop-parameter.invariant)

pub parameters_judged-returns-in_err-taken : goal.parameters_judged-returns-in_err-taken
parameters_judged-returns-in_err-taken t c =
    fails_as _ _ c.from_residual-in_err-taken.result c.in_err-taken.field-0.0 c.from_residual-in_err-taken.ensures.1 (parameters_stop_third _ _ _ c.args.is_own _ _ _ c.loop-parameter.made.items c.args.list.now c.loop-parameter.parameter-index c.parameter-item.result _ _ c.in_err-taken.field-0.0 _ c.loop-parameter-test.true c.parameter-item.is (same_specified _ _ _ (sym c.deref.ensures.value) ∙ c.in_ok-base.ensures) c.in_ok-parts.ensures c.base_of-base.ensures c.declared_at-at.ensures c.declared_name-name.ensures c.in_err-taken.ensures c.loop-parameter.invariant)

pub parameters_judged-returns-in_err-push : goal.parameters_judged-returns-in_err-push
parameters_judged-returns-in_err-push t c =
    fails_short _ _ c.from_residual-in_err-push.result c.from_residual-in_err-push.ensures.1

pub parameters_judged-loop-parameter-preserved : goal.parameters_judged-loop-parameter-preserved
parameters_judged-loop-parameter-preserved t c =
    parameters_next _ _ _ _ c.args.is_own _ _ _ c.loop-parameter.made.items _ _ c.args.list.now c.loop-parameter.parameter-index c.parameter-item.result _ _ _ c.loop-parameter-test.true c.parameter-item.is (same_specified _ _ _ (sym c.deref.ensures.value) ∙ c.in_ok-base.ensures) c.in_ok-parts.ensures c.base_of-base.ensures c.declared_at-at.ensures c.declared_name-name.ensures c.in_ok-taken.ensures c.in_ok-push.ensures c.loop-parameter.invariant

pub parameters_judged-returns : goal.parameters_judged-returns
parameters_judged-returns t c =
    parameters_end _ c.args.is_own c.loop-parameter.made.items c.args.list.now c.loop-parameter.parameter-index _ c.loop-parameter-test.false c.loop-parameter.invariant
