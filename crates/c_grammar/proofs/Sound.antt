-- What is read, the grammar spells.
use Rattle.std.proofs.Common.{◌≡◌, ◌≤◌, false, nat_le, List, [], ◌∷◌, ◌++◌, Option, Some, None, refl, ◌∙◌, ap, arith, lit≤}
use Rattle.std.proofs.lemmas.Bool.{leb-true}
use Rattle.c_grammar.specs.Tokens.{Place, Access, Name, Constant, Op, Assignment, Step, Member, JumpWord, Sizeof, If, Else, While, Do, For, Switch, Case, Default, Return, LeftBrace, RightBrace, LeftParen, RightParen, LeftBracket, RightBracket, Semicolon, Comma, Question, Colon, Token, token}
use Rattle.c_grammar.specs.Derivations.{Trailing, no_comma, Expression, Arguments, no_arguments, argument, no_specifiers, enumerator_value, no_length, length_of, initializer, initializer_list, init_declarator, ForFirst, Label, case_label, default_label, Labels, Statement, if_statement, if_else, while_statement, for_statement, Items, no_items, declaration_item, statement_item, Groups, no_groups, group}
use Rattle.c_grammar.specs.Yield.{trailing_yield, expression_yield, arguments_yield, optional_yield, for_first_yield, label_yield, statement_yield, items_yield, groups_yield}
use Rattle.c_grammar.specs.Spelling.{is_typedef, items_names, groups_names, precedence, is_unary, level, ExpressionOk, ArgumentsOk, ForFirstOk, LabelOk, StatementOk, ItemsOk, GroupsOk}
use Rattle.c_grammar.specs.Contexts.{StatementContext, then_of, else_of, while_body, do_body, for_body, item_of, ItemsContext, block_of, function_body, group_of, GroupsContext, switch_of, LabelContext, new_group, another_label, in_file, in_items, in_for_head, InitializerContext, initializer_of, StatementHole, of_statement, of_return, of_if, of_while, of_do, of_switch, of_for_first, of_for_test, of_for_step, of_case, of_initializer, of_list, sizeof_frame, ExpressionContext, operand, whole, Hole, in_parentheses, in_index, in_argument, in_middle, in_length, in_enumerator, in_statement, Suffixed, in_declaration, in_type_name, in_cast, in_sizeof, statement_context_names, items_context_names, groups_context_names, label_context_names, initializer_context_names, statement_hole_names, expression_context_names, hole_names, complete, frame_need, statement_hole_need, hole_need, need}
use Rattle.c_grammar.specs.Machine.{Head, if_head, while_head, switch_head, State, at_file, at_items, at_statement, after_statement, at_labels, after_default, at_condition, at_do_condition, after_do, at_for, at_for_first, at_for_test, at_for_step, at_switch_body, at_jump, at_return, at_initializer, at_list_comma, after_list, at_specifiers, at_composite, at_enum, at_members, at_enumerator, after_enumerator, after_enumerator_comma, at_declarator, after_declarator, at_abstract, at_opened, after_abstract, at_length, at_parameters, at_expression, after_postfix, after_sizeof, at_open, at_sizeof, at_sizeof_open, at_arguments, at_access, begins_type, begins_declaration, binds, close_groups, close_items, label_context, labelled, condition_hole, on_operator, on_initialized, on_after_list, on_statement_hole, on_hole, kind_of, on_expression, on_postfix, on_operand, on_length, on_open, on_sizeof, on_sizeof_open, on_arguments, on_access, on_initializer, on_list_comma, on_statement, on_case, on_default, on_item, on_items, on_then, on_do_while, on_after, on_labels, on_after_default, on_condition, on_for_item, on_for_first, on_for_test, on_for_step, on_return, feed, go, start}
use Rattle.c_grammar.proofs.Valid.{statement_before, items_before, groups_before, label_before, initializer_before, statement_hole_before, expression_before, hole_before, suffixed_before, head_kind, state_before, StatementContextOk, ItemsContextOk, GroupsContextOk, LabelContextOk, InitializerContextOk, StatementHoleOk, ExpressionContextOk, HoleOk, SuffixedOk, StateOk, Has}
use Rattle.c_grammar.proofs.SoundParts.{cond_has, has_same, storable_start, need_small, level_complete, complete_ok, complete_before, array_has, enumeration_has, on_specifiers_has, on_composite_has, on_enum_has, on_members_has, on_enumerator_has, on_after_enumerator_has, on_enumerator_comma_has, on_init_declarator_has, on_direct_has, on_direct_abstract_has, on_starred_has, on_starred_abstract_has, on_opened_has, on_parameters_has}
use Rattle.c_grammar.proofs.Complete.{is_else, EndsBefore, no_else}

-- ## Labels and groups

labelled_has : (k : LabelContext) (l : Label) → LabelContextOk k → LabelOk (label_context_names k) l
    → Has (λ r. label_before k (label_yield l r)) (Some (labelled k l))
labelled_has (new_group gs k) l kok ok = (((kok.0, kok.1, kok.2, ok), tt), λ r. refl)
labelled_has (another_label gs ls k) l kok ok = (((kok.0, kok.1, kok.2, (kok.3, ok)), tt), λ r. refl)

label_context_ok : (is : Items) (gs : Groups) (ls : Labels) (k : GroupsContext) → ItemsContextOk (group_of gs ls k)
    → ItemsOk (groups_names gs (groups_context_names k)) is → LabelContextOk (label_context is gs ls k)
label_context_ok no_items gs ls k kok ok = kok
label_context_ok (declaration_item is d) gs ls k kok ok = (kok.0, (kok.1, kok.2, kok.3, ok), refl)
label_context_ok (statement_item is s) gs ls k kok ok = (kok.0, (kok.1, kok.2, kok.3, ok), refl)

label_context_before : (is : Items) (gs : Groups) (ls : Labels) (k : GroupsContext) (r : List Token)
    → items_before (group_of gs ls k) (items_yield is r) ≡ label_before (label_context is gs ls k) r
label_context_before no_items gs ls k r = refl
label_context_before (declaration_item is d) gs ls k r = refl
label_context_before (statement_item is s) gs ls k r = refl

groups_has : (k : GroupsContext) (gs : Groups) (n : Place) → GroupsContextOk k → GroupsOk (groups_context_names k) gs
    → Has (λ r. groups_before k (groups_yield gs (token RightBrace n ∷ r))) (Some (close_groups k gs n))
groups_has (switch_of p q e l m k) gs n kok ok = ((kok.0, (kok.1, ok), refl), λ r. refl)

-- ## Expressions

on_operator_has : (e : Expression) (k : ExpressionContext) (t : Token) → ExpressionContextOk k → ExpressionOk (expression_context_names k) e
    → need k ≤ binds (kind_of t) → Has (λ r. expression_before k (expression_yield e (t ∷ r))) (on_operator e k t)
on_operator_has e k (token (Op o) p) kok ok h =
    cond_has _ (nat_le 3 (precedence o)) _ _
    (λ a. cond_has _ (nat_le (precedence o) (level e)) _ _
    (λ b. ((kok, (leb-true 3 (precedence o) a, ok, leb-true (precedence o) (level e) b), h), λ r. refl)) (λ b. tt)) (λ a. tt)
on_operator_has e k (token (Assignment o) p) kok ok h =
    cond_has _ (nat_le 14 (level e)) _ _ (λ b. ((kok, (ok, leb-true 14 (level e) b), h), λ r. refl)) (λ b. tt)
on_operator_has e k (token Question p) kok ok h =
    cond_has _ (nat_le 3 (level e)) _ _ (λ b. ((kok, ok, leb-true 3 (level e) b, h), λ r. refl)) (λ b. tt)
on_operator_has e k _ kok ok h = tt

on_initialized_has : (k : InitializerContext) (e : Expression) (t : Token) → InitializerContextOk k → ExpressionOk (initializer_context_names k) e
    → Has (λ r. initializer_before k (expression_yield e (t ∷ r))) (on_initialized k e t)
on_initialized_has (initializer_of s ds d p k) e t kok ok =
    on_init_declarator_has s ds k (init_declarator d (initializer p e)) t kok.0 (kok.1, ok)

on_after_list_has : (k : InitializerContext) (q : Place) (xs : Arguments) (e : Expression) (c : Trailing) (l : Place) (t : Token) → InitializerContextOk k
    → ArgumentsOk (initializer_context_names k) xs → ExpressionOk (initializer_context_names k) e
    → Has (λ r. initializer_before k (token LeftBrace q ∷ arguments_yield xs (expression_yield e (trailing_yield c (token RightBrace l ∷ t ∷ r)))))
    (on_after_list k q xs e c l t)
on_after_list_has (initializer_of s ds d p k) q xs e c l t kok xok ok =
    on_init_declarator_has s ds k (init_declarator d (initializer_list p q xs e c l)) t kok.0 (kok.1, (xok, ok))

on_statement_hole_has : (h : StatementHole) (e : Expression) (t : Token) → StatementHoleOk h → ExpressionOk (statement_hole_names h) e
    → statement_hole_need h ≤ level e → Has (λ r. statement_hole_before h (expression_yield e (t ∷ r))) (on_statement_hole h e t)
on_statement_hole_has (of_statement k) e (token Semicolon p) kok ok n = ((kok, ok, refl), λ r. refl)
on_statement_hole_has (of_return p k) e (token Semicolon q) kok ok n = ((kok, ok, refl), λ r. refl)
on_statement_hole_has (of_if p q k) e (token RightParen l) kok ok n = ((kok, ok), λ r. refl)
on_statement_hole_has (of_while p q k) e (token RightParen l) kok ok n = ((kok, ok), λ r. refl)
on_statement_hole_has (of_do p s w q k) e (token RightParen l) kok ok n = ((kok.0, kok.1, ok), λ r. refl)
on_statement_hole_has (of_switch p q k) e (token RightParen l) kok ok n = ((kok, ok), λ r. refl)
on_statement_hole_has (of_for_first p q k) e (token Semicolon l) kok ok n = ((kok, ok), λ r. refl)
on_statement_hole_has (of_for_test p q f k) e (token Semicolon m) kok ok n = ((kok.0, kok.1, ok), λ r. refl)
on_statement_hole_has (of_for_step p q f c m k) e (token RightParen l) kok ok n = ((kok.0, kok.1, kok.2, ok), λ r. refl)
on_statement_hole_has (of_case k p) e (token Colon q) kok ok n = labelled_has k (case_label p e q) kok (ok, n)
on_statement_hole_has (of_initializer k) e t kok ok n = on_initialized_has k e t kok ok
on_statement_hole_has (of_list k p xs) e (token Comma q) kok ok n = ((kok.0, kok.1, ok), λ r. refl)
on_statement_hole_has (of_list k p xs) e (token RightBrace q) kok ok n = ((kok.0, kok.1, ok), λ r. refl)
on_statement_hole_has _ e _ kok ok n = tt

on_hole_has : (h : Hole) (e : Expression) (t : Token) → HoleOk h → ExpressionOk (hole_names h) e → hole_need h ≤ level e
    → Has (λ r. hole_before h (expression_yield e (t ∷ r))) (on_hole h e t)
on_hole_has (in_parentheses p k) e (token RightParen q) kok ok n = ((kok, ok, lit≤ tt), λ r. refl)
on_hole_has (in_index a p k) e (token RightBracket q) kok ok n = ((kok.0, (kok.1, kok.2, ok), lit≤ tt), λ r. refl)
on_hole_has (in_argument f p xs k) e (token Comma q) kok ok n = ((kok.0, kok.1, kok.2, (kok.3, ok)), λ r. refl)
on_hole_has (in_argument f p xs k) e (token RightParen q) kok ok n = ((kok.0, (kok.1, kok.2, kok.3, ok), lit≤ tt), λ r. refl)
on_hole_has (in_middle c p k) e (token Colon q) kok ok n = ((kok.0, (kok.1, kok.2, ok), kok.3), λ r. refl)
on_hole_has (in_length k p) e (token RightBracket q) kok ok n = array_has k p (length_of e) q kok (ok, n)
on_hole_has (in_enumerator es p x q k) e (token Comma l) kok ok n = ((kok.0, kok.1, (kok.2, ok, n)), λ r. refl)
on_hole_has (in_enumerator es p x q k) e (token RightBrace l) kok ok n =
    enumeration_has k es (enumerator_value p x q e) no_comma l kok.0 kok.1 (kok.2, ok, n)
on_hole_has (in_statement h) e t kok ok n = on_statement_hole_has h e t kok ok n
on_hole_has _ e _ kok ok n = tt

on_expression_has : (k : ExpressionContext) (e : Expression) (t : Token) → ExpressionContextOk k → ExpressionOk (expression_context_names k) e
    → need k ≤ level e → Has (λ r. expression_before k (expression_yield e (t ∷ r))) (on_expression e k t)
on_expression_has (operand f k) e t kok ok n =
    cond_has _ (nat_le (frame_need f) (binds (kind_of t))) _ _
    (λ b. on_operator_has e (operand f k) t kok ok (leb-true (frame_need f) (binds (kind_of t)) b))
    (λ b. has_same _ (λ r. expression_before k (expression_yield (complete f e) (t ∷ r))) (on_expression (complete f e) k t)
    (λ r. ap (expression_before k) (complete_before f e (t ∷ r)))
    (on_expression_has k (complete f e) t kok.0 (complete_ok (expression_context_names k) f e kok.1 ok n) (omega (arith, kok.2, level_complete f e))))
on_expression_has (whole h) e t kok ok n =
    cond_has _ (nat_le (hole_need h) (binds (kind_of t))) _ _
    (λ b. on_operator_has e (whole h) t kok ok (leb-true (hole_need h) (binds (kind_of t)) b)) (λ b. on_hole_has h e t kok ok n)

on_postfix_has : (e : Expression) (k : ExpressionContext) (t : Token) → ExpressionContextOk k → ExpressionOk (expression_context_names k) e → 15 ≤ level e
    → Has (λ r. expression_before k (expression_yield e (t ∷ r))) (on_postfix e k t)
on_postfix_has e k (token LeftBracket p) kok ok h = ((kok, ok, h), λ r. refl)
on_postfix_has e k (token LeftParen p) kok ok h = ((kok, ok, h), λ r. refl)
on_postfix_has e k (token (Member o) p) kok ok h = ((kok, ok, h), λ r. refl)
on_postfix_has e k (token (Step o) p) kok ok h = ((kok, (ok, h), lit≤ tt), λ r. refl)
on_postfix_has e k t kok ok h = on_expression_has k e t kok ok (omega (arith, h, need_small k))

on_operand_has : (k : ExpressionContext) (t : Token) → ExpressionContextOk k → Has (λ r. expression_before k (t ∷ r)) (on_operand k t)
on_operand_has k (token (Name x) p) kok = cond_has _ (is_typedef (expression_context_names k) x) _ _ (λ b. tt) (λ b. ((kok, b, lit≤ tt), λ r. refl))
on_operand_has k (token (Constant n) p) kok = ((kok, tt, lit≤ tt), λ r. refl)
on_operand_has k (token (Op o) p) kok = cond_has _ (is_unary o) _ _ (λ b. ((kok, b, need_small k), λ r. refl)) (λ b. tt)
on_operand_has k (token (Step o) p) kok = ((kok, tt, need_small k), λ r. refl)
on_operand_has k (token Sizeof p) kok = (kok, λ r. refl)
on_operand_has k (token LeftParen p) kok = (kok, λ r. refl)
on_operand_has k _ kok = tt

on_length_has : (k : Suffixed) (p : Place) (t : Token) → SuffixedOk k → Has (λ r. suffixed_before k (token LeftBracket p ∷ t ∷ r)) (on_length k p t)
on_length_has k p (token RightBracket q) kok = array_has k p no_length q kok tt
on_length_has k p t kok = on_operand_has (whole (in_length k p)) t kok

on_open_has : (p : Place) (k : ExpressionContext) (t : Token) → ExpressionContextOk k → Has (λ r. expression_before k (token LeftParen p ∷ t ∷ r)) (on_open p k t)
on_open_has p k t kok =
    cond_has _ (begins_type (expression_context_names k) (kind_of t)) _ _
    (λ a. cond_has _ (nat_le (need k) 13) _ _
    (λ b. on_specifiers_has no_specifiers (in_type_name (in_cast p k)) t (kok, leb-true (need k) 13 b) tt (storable_start (in_type_name (in_cast p k)))) (λ b. tt))
    (λ a. on_operand_has (whole (in_parentheses p k)) t kok)

on_sizeof_has : (p : Place) (k : ExpressionContext) (t : Token) → ExpressionContextOk k → Has (λ r. expression_before k (token Sizeof p ∷ t ∷ r)) (on_sizeof p k t)
on_sizeof_has p k (token LeftParen q) kok = (kok, λ r. refl)
on_sizeof_has p k t kok = on_operand_has (operand (sizeof_frame p) k) t (kok, tt, need_small k)

on_sizeof_open_has : (p q : Place) (k : ExpressionContext) (t : Token) → ExpressionContextOk k
    → Has (λ r. expression_before k (token Sizeof p ∷ token LeftParen q ∷ t ∷ r)) (on_sizeof_open p q k t)
on_sizeof_open_has p q k t kok =
    cond_has _ (begins_type (expression_context_names k) (kind_of t)) _ _
    (λ a. on_specifiers_has no_specifiers (in_type_name (in_sizeof p q k)) t kok tt (storable_start (in_type_name (in_sizeof p q k))))
    (λ a. on_operand_has (whole (in_parentheses q (operand (sizeof_frame p) k))) t (kok, tt, need_small k))

on_arguments_has : (f : Expression) (p : Place) (k : ExpressionContext) (t : Token) → ExpressionContextOk k → ExpressionOk (expression_context_names k) f
    → 15 ≤ level f → Has (λ r. expression_before k (expression_yield f (token LeftParen p ∷ t ∷ r))) (on_arguments f p k t)
on_arguments_has f p k (token RightParen q) kok ok h = ((kok, (ok, h), lit≤ tt), λ r. refl)
on_arguments_has f p k t kok ok h = on_operand_has (whole (in_argument f p no_arguments k)) t (kok, ok, h, tt)

on_access_has : (e : Expression) (p : Place) (o : Access) (k : ExpressionContext) (t : Token) → ExpressionContextOk k
    → ExpressionOk (expression_context_names k) e → 15 ≤ level e
    → Has (λ r. expression_before k (expression_yield e (token (Member o) p ∷ t ∷ r))) (on_access e p o k t)
on_access_has e p o k (token (Name x) q) kok ok h = ((kok, (ok, h), lit≤ tt), λ r. refl)
on_access_has e p o k _ kok ok h = tt

-- ## Initializers

on_initializer_has : (k : InitializerContext) (t : Token) → InitializerContextOk k → Has (λ r. initializer_before k (t ∷ r)) (on_initializer k t)
on_initializer_has k (token LeftBrace q) kok = ((kok, tt), λ r. refl)
on_initializer_has k t kok = on_operand_has (whole (in_statement (of_initializer k))) t kok

on_list_comma_has : (k : InitializerContext) (p : Place) (xs : Arguments) (e : Expression) (q : Place) (t : Token) → InitializerContextOk k
    → ArgumentsOk (initializer_context_names k) xs → ExpressionOk (initializer_context_names k) e
    → Has (λ r. initializer_before k (token LeftBrace p ∷ arguments_yield xs (expression_yield e (token Comma q ∷ t ∷ r)))) (on_list_comma k p xs e q t)
on_list_comma_has k p xs e q (token RightBrace l) kok xok ok = ((kok, xok, ok), λ r. refl)
on_list_comma_has k p xs e q t kok xok ok = on_operand_has (whole (in_statement (of_list k p (argument xs e q)))) t (kok, (xok, ok))

-- ## Statements

on_statement_has : (k : StatementContext) (t : Token) → StatementContextOk k → Has (λ r. statement_before k (t ∷ r)) (on_statement k t)
on_statement_has k (token LeftBrace p) kok = ((kok, tt), λ r. refl)
on_statement_has k (token Semicolon p) kok = ((kok, tt, refl), λ r. refl)
on_statement_has k (token If p) kok = (kok, λ r. refl)
on_statement_has k (token While p) kok = (kok, λ r. refl)
on_statement_has k (token Switch p) kok = (kok, λ r. refl)
on_statement_has k (token Do p) kok = (kok, λ r. refl)
on_statement_has k (token For p) kok = (kok, λ r. refl)
on_statement_has k (token (JumpWord j) p) kok = (kok, λ r. refl)
on_statement_has k (token Return p) kok = (kok, λ r. refl)
on_statement_has k t kok = on_operand_has (whole (in_statement (of_statement k))) t kok

close_items_has : (is : Items) (k : ItemsContext) (q : Place) → ItemsContextOk k → ItemsOk (items_context_names k) is
    → Has (λ r. items_before k (items_yield is (token RightBrace q ∷ r))) (Some (close_items is k q))
close_items_has is (block_of p k) q kok ok = ((kok, ok, refl), λ r. refl)
close_items_has is (function_body f s d p) q kok ok = ((kok.0, kok.1, kok.2, kok.3, kok.4, kok.5, ok), λ r. refl)
close_items_has is (group_of gs ls k) q kok ok = groups_has k (group gs ls is) q kok.0 (kok.1, kok.2, kok.3, ok)

on_case_has : (is : Items) (k : ItemsContext) (p : Place) → ItemsContextOk k → ItemsOk (items_context_names k) is
    → Has (λ r. items_before k (items_yield is (token Case p ∷ r))) (on_case is k p)
on_case_has is (group_of gs ls k) p kok ok = (label_context_ok is gs ls k kok ok, λ r. label_context_before is gs ls k (token Case p ∷ r))
on_case_has is (block_of q k) p kok ok = tt
on_case_has is (function_body f s d q) p kok ok = tt

on_default_has : (is : Items) (k : ItemsContext) (p : Place) → ItemsContextOk k → ItemsOk (items_context_names k) is
    → Has (λ r. items_before k (items_yield is (token Default p ∷ r))) (on_default is k p)
on_default_has is (group_of gs ls k) p kok ok = (label_context_ok is gs ls k kok ok, λ r. label_context_before is gs ls k (token Default p ∷ r))
on_default_has is (block_of q k) p kok ok = tt
on_default_has is (function_body f s d q) p kok ok = tt

on_item_has : (is : Items) (k : ItemsContext) (t : Token) → ItemsContextOk k → ItemsOk (items_context_names k) is
    → Has (λ r. items_before k (items_yield is (t ∷ r))) (on_item is k t)
on_item_has is k t kok ok =
    cond_has _ (begins_declaration (items_names is (items_context_names k)) (kind_of t)) _ _
    (λ b. on_specifiers_has no_specifiers (in_declaration (in_items is k)) t (kok, ok) tt (storable_start (in_declaration (in_items is k))))
    (λ b. on_statement_has (item_of is k) t (kok, ok))

on_items_has : (is : Items) (k : ItemsContext) (t : Token) → ItemsContextOk k → ItemsOk (items_context_names k) is
    → Has (λ r. items_before k (items_yield is (t ∷ r))) (on_items is k t)
on_items_has is k (token RightBrace p) kok ok = close_items_has is k p kok ok
on_items_has is k (token Case p) kok ok = on_case_has is k p kok ok
on_items_has is k (token Default p) kok ok = on_default_has is k p kok ok
on_items_has is k t kok ok = on_item_has is k t kok ok

on_then_has : (p q : Place) (e : Expression) (l : Place) (s : Statement) (k : StatementContext) (o : Option State) (t : Token)
    → StatementContextOk (then_of p q e l k) → StatementOk (statement_context_names k) s → EndsBefore s t
    → (is_else (kind_of t) ≡ false → Has (λ r. statement_before k (statement_yield (if_statement p q e l s) (t ∷ r))) o)
    → Has (λ r. statement_before k (statement_yield (if_statement p q e l s) (t ∷ r))) (on_then p q e l s k o t)
on_then_has p q e l s k o (token Else m) kok ok h more = ((kok.0, kok.1, ok, h refl), λ r. refl)
on_then_has p q e l s k o (token _ m) kok ok h more = more refl

on_do_while_has : (p : Place) (s : Statement) (k : StatementContext) (t : Token) → StatementContextOk k → StatementOk (statement_context_names k) s
    → Has (λ r. statement_before k (token Do p ∷ statement_yield s (t ∷ r))) (on_do_while p s k t)
on_do_while_has p s k (token While w) kok ok = ((kok, ok), λ r. refl)
on_do_while_has p s k _ kok ok = tt

on_after_has : (k : StatementContext) (s : Statement) (t : Token) → StatementContextOk k → StatementOk (statement_context_names k) s → EndsBefore s t
    → Has (λ r. statement_before k (statement_yield s (t ∷ r))) (on_after s k t)
on_after_has (then_of p q e l k) s t kok ok h =
    on_then_has p q e l s k _ t kok ok h (λ n. on_after_has k (if_statement p q e l s) t kok.0 (kok.1, ok) (no_else (if_statement p q e l s) t n))
on_after_has (else_of p q e l a m k) s t kok ok h = on_after_has k (if_else p q e l a m s) t kok.0 (kok.1, kok.2, kok.3, ok) h
on_after_has (while_body p q e l k) s t kok ok h = on_after_has k (while_statement p q e l s) t kok.0 (kok.1, ok) h
on_after_has (do_body p k) s t kok ok h = on_do_while_has p s k t kok ok
on_after_has (for_body p q f c m u l k) s t kok ok h = on_after_has k (for_statement p q f c m u l s) t kok.0 (kok.1, kok.2, kok.3, ok) h
on_after_has (item_of is k) s t kok ok h = on_items_has (statement_item is s) k t kok.0 (kok.1, ok)

on_labels_has : (k : GroupsContext) (t : Token) → GroupsContextOk k → Has (λ r. groups_before k (t ∷ r)) (on_labels k t)
on_labels_has k (token RightBrace p) kok = groups_has k no_groups p kok tt
on_labels_has k (token Case p) kok = ((kok, tt, refl), λ r. refl)
on_labels_has k (token Default p) kok = ((kok, tt, refl), λ r. refl)
on_labels_has k _ kok = tt

on_after_default_has : (k : LabelContext) (p : Place) (t : Token) → LabelContextOk k → Has (λ r. label_before k (token Default p ∷ t ∷ r)) (on_after_default k p t)
on_after_default_has k p (token Colon q) kok = labelled_has k (default_label p q) kok tt
on_after_default_has k p _ kok = tt

condition_hole_has : (h : Head) (p q : Place) (k : StatementContext) → StatementContextOk k
    → Has (λ r. statement_before k (token (head_kind h) p ∷ token LeftParen q ∷ r)) (Some (at_expression (whole (in_statement (condition_hole h p q k)))))
condition_hole_has if_head p q k kok = (kok, λ r. refl)
condition_hole_has while_head p q k kok = (kok, λ r. refl)
condition_hole_has switch_head p q k kok = (kok, λ r. refl)

on_condition_has : (h : Head) (p : Place) (k : StatementContext) (t : Token) → StatementContextOk k
    → Has (λ r. statement_before k (token (head_kind h) p ∷ t ∷ r)) (on_condition h p k t)
on_condition_has h p k (token LeftParen q) kok = condition_hole_has h p q k kok
on_condition_has h p k _ kok = tt

on_for_item_has : (p q : Place) (k : StatementContext) (t : Token) → StatementContextOk k
    → Has (λ r. statement_before k (token For p ∷ token LeftParen q ∷ t ∷ r)) (on_for_item p q k t)
on_for_item_has p q k t kok =
    cond_has _ (begins_declaration (statement_context_names k) (kind_of t)) _ _
    (λ b. on_specifiers_has no_specifiers (in_declaration (in_for_head p q k)) t kok tt (storable_start (in_declaration (in_for_head p q k))))
    (λ b. on_operand_has (whole (in_statement (of_for_first p q k))) t kok)

on_for_first_has : (p q : Place) (k : StatementContext) (t : Token) → StatementContextOk k
    → Has (λ r. statement_before k (token For p ∷ token LeftParen q ∷ t ∷ r)) (on_for_first p q k t)
on_for_first_has p q k (token Semicolon l) kok = ((kok, tt), λ r. refl)
on_for_first_has p q k t kok = on_for_item_has p q k t kok

on_for_test_has : (p q : Place) (f : ForFirst) (k : StatementContext) (t : Token) → StatementContextOk k → ForFirstOk (statement_context_names k) f
    → Has (λ r. statement_before k (token For p ∷ token LeftParen q ∷ for_first_yield f (t ∷ r))) (on_for_test p q f k t)
on_for_test_has p q f k (token Semicolon m) kok ok = ((kok, ok, tt), λ r. refl)
on_for_test_has p q f k t kok ok = on_operand_has (whole (in_statement (of_for_test p q f k))) t (kok, ok)

on_for_step_has : (p q : Place) (f : ForFirst) (c : Option Expression) (m : Place) (k : StatementContext) (t : Token)
    → StateOk (at_for_step p q f c m k)
    → Has (λ r. statement_before k (token For p ∷ token LeftParen q ∷ for_first_yield f (optional_yield c (token Semicolon m ∷ t ∷ r)))) (on_for_step p q f c m k t)
on_for_step_has p q f c m k (token RightParen l) kok = ((kok.0, kok.1, kok.2, tt), λ r. refl)
on_for_step_has p q f c m k t kok = on_operand_has (whole (in_statement (of_for_step p q f c m k))) t kok

on_return_has : (p : Place) (k : StatementContext) (t : Token) → StatementContextOk k → Has (λ r. statement_before k (token Return p ∷ t ∷ r)) (on_return p k t)
on_return_has p k (token Semicolon q) kok = ((kok, tt, refl), λ r. refl)
on_return_has p k t kok = on_operand_has (whole (in_statement (of_return p k))) t kok

-- ## One token, and many

pub feed_has : (s : State) (t : Token) → StateOk s → Has (λ r. state_before s (t ∷ r)) (feed s t)
unfolding feed
feed_has (at_file f) t ok = on_specifiers_has no_specifiers (in_declaration (in_file f)) t ok tt (storable_start (in_declaration (in_file f)))
feed_has (at_items is k) t ok = on_items_has is k t ok.0 ok.1
feed_has (at_statement k) t ok = on_statement_has k t ok
feed_has (after_statement s k) t ok = on_after_has k s t ok.0 ok.1 (λ _. ok.2)
feed_has (at_labels k) t ok = on_labels_has k t ok
feed_has (after_default k p) t ok = on_after_default_has k p t ok
feed_has (at_condition h p k) t ok = on_condition_has h p k t ok
feed_has (at_do_condition p s w k) (token LeftParen q) ok = (ok, λ r. refl)
feed_has (at_do_condition p s w k) _ ok = tt
feed_has (after_do p s w q e l k) (token Semicolon m) ok = ((ok.0, (ok.1, ok.2), refl), λ r. refl)
feed_has (after_do p s w q e l k) _ ok = tt
feed_has (at_for p k) (token LeftParen q) ok = (ok, λ r. refl)
feed_has (at_for p k) _ ok = tt
feed_has (at_for_first p q k) t ok = on_for_first_has p q k t ok
feed_has (at_for_test p q f k) t ok = on_for_test_has p q f k t ok.0 ok.1
feed_has (at_for_step p q f c m k) t ok = on_for_step_has p q f c m k t ok
feed_has (at_switch_body p q e l k) (token LeftBrace m) ok = (ok, λ r. refl)
feed_has (at_switch_body p q e l k) _ ok = tt
feed_has (at_jump p j k) (token Semicolon q) ok = ((ok, tt, refl), λ r. refl)
feed_has (at_jump p j k) _ ok = tt
feed_has (at_return p k) t ok = on_return_has p k t ok
feed_has (at_initializer k) t ok = on_initializer_has k t ok
feed_has (at_list_comma k p xs e q) t ok = on_list_comma_has k p xs e q t ok.0 ok.1 ok.2
feed_has (after_list k p xs e c l) t ok = on_after_list_has k p xs e c l t ok.0 ok.1 ok.2
feed_has (at_specifiers s k) t ok = on_specifiers_has s k t ok.0 ok.1 ok.2
feed_has (at_composite s p w k) t ok = on_composite_has s p w k t ok.0 ok.1 ok.2 ok.3
feed_has (at_enum s p k) t ok = on_enum_has s p k t ok.0 ok.1 ok.2 ok.3
feed_has (at_members ms k) t ok = on_members_has ms k t ok.0 ok.1
feed_has (at_enumerator k) t ok = on_enumerator_has k t ok
feed_has (after_enumerator es p x k) t ok = on_after_enumerator_has es p x k t ok.0 ok.1 ok.2
feed_has (after_enumerator_comma es e p k) t ok = on_enumerator_comma_has es e p k t ok.0 ok.1 ok.2
feed_has (at_declarator c k) t ok = on_starred_has c k t ok
feed_has (after_declarator d c k) t ok = on_direct_has d c k t ok.0 ok.1 ok.2
feed_has (at_abstract c k) t ok = on_starred_abstract_has c k t ok
feed_has (at_opened c p k) t ok = on_opened_has c p k t ok
feed_has (after_abstract a c k) t ok = on_direct_abstract_has a c k t ok.0 ok.1 ok.2
feed_has (at_length k p) t ok = on_length_has k p t ok
feed_has (at_parameters k p) t ok = on_parameters_has k p t ok
feed_has (at_expression k) t ok = on_operand_has k t ok
feed_has (after_postfix e k) t ok = on_postfix_has e k t ok.0 ok.1 ok.2
feed_has (after_sizeof e k) t ok = on_expression_has k e t ok.0 ok.1 (omega (arith, ok.2, need_small k))
feed_has (at_open p k) t ok = on_open_has p k t ok
feed_has (at_sizeof p k) t ok = on_sizeof_has p k t ok
feed_has (at_sizeof_open p q k) t ok = on_sizeof_open_has p q k t ok
feed_has (at_arguments f p k) t ok = on_arguments_has f p k t ok.0 ok.1 ok.2
feed_has (at_access e p o k) t ok = on_access_has e p o k t ok.0 ok.1 ok.2

go_has : (f : List Token → List Token) (o : Option State) (ts : List Token) → Has f o → Has (λ r. f (ts ++ r)) (go o ts)
unfolding go
go_has f None ts h = tt
go_has f (Some s) [] h = h
go_has f (Some s) (t ∷ ts) h = more (go (feed s t) ts) (go_has (λ r. state_before s (t ∷ r)) (feed s t) ts (feed_has s t h.0))
  where
    more : (o : Option State) → Has (λ r. state_before s (t ∷ (ts ++ r))) o → Has (λ r. f (t ∷ (ts ++ r))) o
    more None k = tt
    more (Some s') k = (k.0, λ r. h.1 (t ∷ (ts ++ r)) ∙ k.1 r)

-- What the machine has read is of the grammar, and spells the tokens.
pub read_has : (ts : List Token) → Has (λ r. ts ++ r) (go (Some start) ts)
read_has ts = go_has (λ r. r) (Some start) ts (tt, λ r. refl)
