use Rattle.std.proofs.Common.{rules, arith, ◌≡◌, sym, ◌∙◌, ap, subst}
use Rattle.std.proofs.lemmas.Grind.{common_steps}
use Rattle.c_tree.specs.Shape.{expr_of, specifier_of}
use Rattle.clight_nodes.specs.Nodes.{expr_nodes, specifier_nodes}
use Rattle.clight_nodes.specs.Counted.{counted}
use Rattle.clight_nodes.proofs.Counts.{call_nodes, sizeof_nodes, cast_nodes, composite_nodes, enumeration_nodes, members_next}
use Rattle.clight_nodes.proofs.expressions.+nodes.Goals as goal

pub count_expr-returns-in-Call : goal.count_expr-returns-in-Call
count_expr-returns-in-Call t c =
    let same = ap (λ e. expr_nodes (expr_of e)) c.in-Call.is ∙ call_nodes c.in-Call.at c.in-Call.op_at c.in-Call.callee c.in-Call.arguments in
    subst (λ n. c.count_exprs.new.count ≡ counted c.args.count.now n) (sym same) (first_of (search rules, grind (arith, common_steps)))

pub count_expr-returns-in-SizeofType : goal.count_expr-returns-in-SizeofType
count_expr-returns-in-SizeofType t c =
    let same = ap (λ e. expr_nodes (expr_of e)) c.in-SizeofType.is ∙ sizeof_nodes c.in-SizeofType.at c.in-SizeofType.type_name in
    subst (λ n. c.count_type.new.count ≡ counted c.args.count.now n) (sym same) (first_of (search rules, grind (arith, common_steps)))

pub count_expr-returns-in-Cast : goal.count_expr-returns-in-Cast
count_expr-returns-in-Cast t c =
    let same = ap (λ e. expr_nodes (expr_of e)) c.in-Cast.is ∙ cast_nodes c.in-Cast.at c.in-Cast.type_name c.in-Cast.operand in
    subst (λ n. c.count_expr-in-Cast.new.count ≡ counted c.args.count.now n) (sym same) (first_of (search rules, grind (arith, common_steps)))

pub count_specifier-returns-in-Composite : goal.count_specifier-returns-in-Composite
count_specifier-returns-in-Composite t c =
    let same = ap (λ x. specifier_nodes (specifier_of x)) c.in-Composite.is ∙ composite_nodes c.in-Composite.at c.in-Composite.word c.in-Composite.tag c.in-Composite.body_at c.in-Composite.members in
    subst (λ n. c.count_members.new.count ≡ counted c.args.count.now n) (sym same) (first_of (search rules, grind (arith, common_steps)))

pub count_specifier-returns-in-Enumeration : goal.count_specifier-returns-in-Enumeration
count_specifier-returns-in-Enumeration t c =
    let same = ap (λ x. specifier_nodes (specifier_of x)) c.in-Enumeration.is ∙ enumeration_nodes c.in-Enumeration.at c.in-Enumeration.tag c.in-Enumeration.body_at c.in-Enumeration.enumerators in
    subst (λ n. c.count_enumerators.new.count ≡ counted c.args.count.now n) (sym same) (first_of (search rules, grind (arith, common_steps)))

pub count_members-loop-member-preserved : goal.count_members-loop-member-preserved
count_members-loop-member-preserved t c = members_next c.args.list.now c.loop-member.member-index c.member-item.result c.loop-member.count c.count_member.new.count _ c.loop-member-test.true c.member-item.is c.count_member.ensures c.loop-member.invariant
