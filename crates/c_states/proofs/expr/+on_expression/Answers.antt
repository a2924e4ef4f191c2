use Rattle.std.proofs.Common.{sym, ◌∙◌}
use Rattle.c_frames.specs.Frames.{frame_of, stack_of}
use Rattle.c_frames.specs.Readers.{token_of}
use Rattle.c_parts.specs.Views.{expr_part_of}
use Rattle.c_states.proofs.Operands.{operator_on, whole_on, apart_on}
use Rattle.c_states.proofs.Same.{moves_same, joined_whole, joined_apart, hole_same}
use Rattle.c_states.proofs.expr.+on_expression.Goals as goal

pub returns-then-need-binds : goal.returns-then-need-binds
returns-then-need-binds t c =
    let same = operator_on (expr_part_of c.args.e) (stack_of c.args.context.now.stack) c.args.context.now.names (token_of c.args.token.now) c.need.result c.binds.result (sym c.if-is_bottom.false ∙ c.is_bottom.ensures) c.need.ensures c.binds.ensures c.if-need-binds.true in
    moves_same c.on_operator.result _ _ _ _ same c.on_operator.ensures

pub returns-in-Whole : goal.returns-in-Whole
returns-in-Whole t c =
    let taken = c.in-Some.ensures.taken in
    let made = joined_whole c.in-Some.frame c.args.e c.in-Whole.whole c.in_ok-whole.field-0 c.in_ok-whole.ensures c.in-Whole.is in
    let same = whole_on (frame_of c.in-Some.frame) (expr_part_of c.args.e) (expr_part_of c.in-Whole.whole) taken.0 (stack_of c.pop.new.self) (stack_of c.args.context.now.stack) c.args.context.now.names (token_of c.args.token.now) c.need.result c.binds.result taken.1 c.need.ensures c.binds.ensures c.if-need-binds.false made in
    moves_same c.on_expression.result _ _ _ _ same c.on_expression.ensures

pub returns-in-Apart : goal.returns-in-Apart
returns-in-Apart t c =
    let taken = c.in-Some.ensures.taken in
    let parts = joined_apart c.in-Some.frame c.in-Apart.frame c.args.e c.in-Apart.e c.in_ok-whole.field-0 c.in_ok-whole.ensures c.in-Apart.is in
    let apart = apart_on (frame_of c.in-Some.frame) (expr_part_of c.args.e) taken.0 (stack_of c.pop.new.self) (stack_of c.args.context.now.stack) c.args.context.now.names (token_of c.args.token.now) c.need.result c.binds.result taken.1 c.need.ensures c.binds.ensures c.if-need-binds.false parts.0 in
    let hole = hole_same c.in-Some.frame c.in-Apart.frame c.args.e c.in-Apart.e (stack_of c.pop.new.self) c.args.context.now.names (token_of c.args.token.now) parts.1 parts.2 in
    moves_same c.on_hole.result _ _ _ _ (apart ∙ hole) c.on_hole.ensures
