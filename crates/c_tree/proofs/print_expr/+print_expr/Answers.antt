use Rattle.std.proofs.Common.{rules, arith, ◌≡◌, OnOk, sym, ◌∙◌, ap, subst}
use Rattle.std.proofs.lemmas.Grind.{common_steps}
use Rattle.c_tree.specs.Trees.{ExprTree, SpecifierTree}
use Rattle.c_tree.specs.Shape.{expr_of, specifier_of}
use Rattle.c_tree.specs.Printing.{Text, put_expr, put_specifier}
use Rattle.c_tree.specs.Writing.{put_suffix}
use Rattle.c_tree.proofs.Shapes.{call_shape, sizeof_shape, cast_shape, composite_shape, enumeration_shape}
use Rattle.c_tree.proofs.Declarators.{function_put}
use Rattle.c_tree.proofs.Puts.{members_next}
use Rattle.c_tree.proofs.print_expr.+print_expr.Goals as goal

pub write_bare-returns-in_ok-write_exprs-in-Call : goal.write_bare-returns-in_ok-write_exprs-in-Call
write_bare-returns-in_ok-write_exprs-in-Call t c =
    let same = ap expr_of c.in-Call.is ∙ call_shape c.in-Call.at c.in-Call.op_at c.in-Call.callee c.in-Call.arguments in
    subst (λ (e : ExprTree). OnOk c.write_word-in-Call-2.result (c.write_word-in-Call-2.new.out.items ≡ put_expr e c.args.out.now.items)) (sym same) (first_of (search rules, grind (arith, common_steps)))

pub write_bare-returns-in_ok-write_declarator-in-SizeofType : goal.write_bare-returns-in_ok-write_declarator-in-SizeofType
write_bare-returns-in_ok-write_declarator-in-SizeofType t c =
    let same = ap expr_of c.in-SizeofType.is ∙ sizeof_shape c.in-SizeofType.at c.in-SizeofType.type_name in
    subst (λ (e : ExprTree). OnOk c.write_word-in-SizeofType-3.result (c.write_word-in-SizeofType-3.new.out.items ≡ put_expr e c.args.out.now.items)) (sym same) (first_of (search rules, grind (arith, common_steps)))

pub write_bare-returns-in_ok-write_word-in-Cast-2 : goal.write_bare-returns-in_ok-write_word-in-Cast-2
write_bare-returns-in_ok-write_word-in-Cast-2 t c =
    let same = ap expr_of c.in-Cast.is ∙ cast_shape c.in-Cast.at c.in-Cast.type_name c.in-Cast.operand in
    subst (λ (e : ExprTree). OnOk c.write_expr-in-Cast.result (c.write_expr-in-Cast.new.out.items ≡ put_expr e c.args.out.now.items)) (sym same) (first_of (search rules, grind (arith, common_steps)))

pub write_specifier-returns-in_ok-write_members-in-Composite : goal.write_specifier-returns-in_ok-write_members-in-Composite
write_specifier-returns-in_ok-write_members-in-Composite t c =
    let same = ap specifier_of c.in-Composite.is ∙ composite_shape c.in-Composite.at c.in-Composite.word c.in-Composite.tag c.in-Composite.body_at c.in-Composite.members in
    subst (λ (e : SpecifierTree). OnOk c.write_word-in-Composite-2.result (c.write_word-in-Composite-2.new.out.items ≡ put_specifier e c.args.out.now.items)) (sym same) (first_of (search rules, grind (arith, common_steps)))

pub write_specifier-returns-in_ok-write_enumerators-in-Enumeration : goal.write_specifier-returns-in_ok-write_enumerators-in-Enumeration
write_specifier-returns-in_ok-write_enumerators-in-Enumeration t c =
    let same = ap specifier_of c.in-Enumeration.is ∙ enumeration_shape c.in-Enumeration.at c.in-Enumeration.tag c.in-Enumeration.body_at c.in-Enumeration.enumerators in
    subst (λ (e : SpecifierTree). OnOk c.write_word-in-Enumeration-3.result (c.write_word-in-Enumeration-3.new.out.items ≡ put_specifier e c.args.out.now.items)) (sym same) (first_of (search rules, grind (arith, common_steps)))

pub write_suffix-returns-in_ok-write_parameters-in-Function : goal.write_suffix-returns-in_ok-write_parameters-in-Function
write_suffix-returns-in_ok-write_parameters-in-Function t c =
    let same = ap (λ x. put_suffix x c.args.out.now.items) c.in-Function.is ∙ function_put c.in-Function.parameters c.args.out.now.items in
    subst (λ (text : Text). OnOk c.write_word-in-Function-2.result (c.write_word-in-Function-2.new.out.items ≡ text)) (sym same) (first_of (search rules, grind (arith, common_steps)))

pub write_members-loop-member-preserved : goal.write_members-loop-member-preserved
write_members-loop-member-preserved t c = members_next c.args.list.now c.loop-member.member-index c.member-item.result c.loop-member.out.items c.write_member.new.out.items _ c.loop-member-test.true c.member-item.is c.in_ok-write_member.ensures c.loop-member.invariant
