-- Each token keeps what was read at least as deep.
use Rattle.std.proofs.Common.{◌≡◌, ℕ, cond, nat_le, List, [], ◌∷◌, Option, Some, None, refl, subst, arith, suc}
use Rattle.c_grammar.specs.Tokens.{Identifier, Place, Equals, Access, TypeWord, CompositeWord, Name, Constant, Op, Assignment, Step, Member, TypeKeyword, Qualify, Storage, Composite, JumpWord, Inline, Enum, Sizeof, If, Else, While, Do, For, Switch, Case, Default, Return, LeftBrace, RightBrace, LeftParen, RightParen, LeftBracket, RightBracket, Semicolon, Comma, Question, Colon, Token, token}
use Rattle.c_grammar.specs.Derivations.{first_word, next_word, Trailing, no_comma, comma, Expression, Arguments, no_arguments, argument, Specifiers, no_specifiers, type_words, composite_reference, enum_reference, Members, no_declarators, Enumerator, enumerator, enumerator_value, Enumerators, no_enumerators, enumerators, no_length, length_of, no_declarator, no_parameters, no_earlier, initializer, initializer_list, init_declarator, no_init_declarators, specifiers_alone, ForFirst, Label, case_label, default_label, Labels, Statement, if_statement, if_else, while_statement, for_statement, Items, no_items, declaration_item, statement_item, Groups, no_groups, group}
use Rattle.c_grammar.specs.Spelling.{is_typedef, items_names, names_type, has_type, has_storage, has_members, precedence, is_unary, level}
use Rattle.c_grammar.specs.Contexts.{StatementContext, then_of, else_of, while_body, do_body, for_body, item_of, ItemsContext, block_of, function_body, group_of, GroupsContext, switch_of, LabelContext, new_group, another_label, DeclarationContext, in_file, in_items, in_for_head, InitializerContext, initializer_of, StatementHole, of_statement, of_return, of_if, of_while, of_do, of_switch, of_for_first, of_for_test, of_for_step, of_case, of_initializer, of_list, Frame, step_frame, unary_frame, sizeof_frame, cast_frame, binary_frame, conditional_frame, assignment_frame, Chain, top, opened, ExpressionContext, operand, whole, Hole, in_parentheses, in_index, in_argument, in_middle, in_length, in_enumerator, in_statement, Suffixed, of_abstract, SpecifiersContext, in_declaration, in_member, in_parameter, in_type_name, in_cast, in_sizeof, CompositeContext, in_composite, EnumContext, in_enumeration, init_context, member_context, AbstractContext, parameter_abstract, type_name_abstract, statement_context_names, items_context_names, expression_context_names, specifiers_context_names, enum_context_names, abstract_context_names, complete, frame_need, hole_need, need}
use Rattle.c_grammar.specs.Machine.{Head, if_head, while_head, switch_head, State, at_file, at_items, at_statement, after_statement, at_labels, after_default, at_condition, at_do_condition, after_do, at_for, at_for_first, at_for_test, at_for_step, at_switch_body, at_jump, at_return, at_initializer, at_list_comma, after_list, at_specifiers, at_composite, at_enum, at_members, at_enumerator, after_enumerator, after_enumerator_comma, at_declarator, after_declarator, at_abstract, at_opened, after_abstract, at_length, at_parameters, at_expression, after_postfix, after_sizeof, at_open, at_sizeof, at_sizeof_open, at_arguments, at_access, begins_type, begins_declaration, binds, declared_alone, close_composite, close_enumeration, close_groups, close_items, label_context, labelled, condition_hole, on_operator, on_initialized, on_after_list, on_statement_hole, on_hole, kind_of, on_expression, on_postfix, on_operand, takes_storage, on_word, on_body, on_declarator, on_declarators, after_specifiers, on_specifiers, on_composite, on_enum, on_members, on_constant_name, on_enumerator, on_after_enumerator, on_enumerator_comma, on_length, on_parameters, on_opened_next, on_opened, on_open, on_sizeof, on_sizeof_open, on_arguments, on_access, on_initializer, on_list_comma, on_statement, on_case, on_default, on_item, on_items, on_then, on_do_while, on_after, on_labels, on_after_default, on_condition, on_for_item, on_for_first, on_for_test, on_for_step, on_return, feed, go}
use Rattle.c_grammar.specs.Nesting.{trailing_nest, expression_nest, specifiers_nest, members_nest, enumerator_nest, enumerators_nest, label_nest, statement_nest, items_nest, groups_nest}
use Rattle.c_grammar.proofs.Endings.{may_head}
use Rattle.c_grammar.proofs.Valid.{state_before, StateOk, Has}
use Rattle.c_grammar.proofs.Sound.{feed_has}
use Rattle.c_grammar.proofs.Nests.{statement_depth, items_depth, groups_depth, label_depth, declaration_depth, initializer_depth, statement_hole_depth, expression_depth, hole_depth, array_depth, function_depth, specifiers_depth, composite_depth, enum_depth, abstract_depth, statement_nests, items_nests, groups_nests, label_nests, declaration_nests, initializer_nests, statement_hole_nests, frame_nest, expression_nests, hole_nests, array_nests, function_nests, specifiers_nests, composite_nests, enum_nests, at_declarator_nests, at_abstract_nests, state_nest}
use Rattle.c_grammar.proofs.Below.{Le, le_nil, le_list, statement_les, label_les, abstract_chain_le, expression_les, enum_les, abstract_les, le_trans, rising}
use Rattle.c_grammar.proofs.Rises.{Rises, cond_rises, rises_from, function_rises, array_rises, le_cond_both, on_init_declarator_rises, on_direct_rises, on_declarator_rises, on_starred_rises, on_abstract_rises, on_starred_abstract_rises, on_direct_abstract_rises, none_opened}

-- ## Specifiers

on_first_word_rises : (s : Specifiers) (k : SpecifiersContext) (w : TypeWord) (p : Place)
    → Rises (specifiers_nests k (specifiers_nest s (specifiers_depth k) [])) (cond (has_type s) None (Some (at_specifiers (type_words s (first_word p w)) k)))
on_first_word_rises s k w p = cond_rises _ (has_type s) _ _ (λ b. tt) (λ b. search (rising, arith))

on_word_rises : (s : Specifiers) (k : SpecifiersContext) (w : TypeWord) (p : Place)
    → Rises (specifiers_nests k (specifiers_nest s (specifiers_depth k) [])) (on_word s k w p)
on_word_rises (type_words s ws) k w p = cond_rises _ (names_type (next_word ws p w)) _ _ (λ b. search (rising, arith)) (λ b. tt)
on_word_rises s k w p = on_first_word_rises s k w p

on_body_rises : (s : Specifiers) (k : SpecifiersContext) (l : Place) → Rises (specifiers_nests k (specifiers_nest s (specifiers_depth k) [])) (on_body s k l)
on_body_rises (composite_reference s p w q x) k l = search (rising, arith)
on_body_rises (enum_reference s p q x) k l = search (rising, arith)
on_body_rises _ k l = tt

declared_alone_rises : (k : DeclarationContext) (s : Specifiers) (p : Place)
    → Rises (declaration_nests k (specifiers_nest s (declaration_depth k) [])) (declared_alone k (specifiers_alone s p))
declared_alone_rises (in_file f) s p = search (rising, arith)
declared_alone_rises (in_items is k) s p = search (rising, arith)
declared_alone_rises (in_for_head q l k) s p = tt

first_declarator_rises : (s : Specifiers) (k : DeclarationContext) (t : Token)
    → Rises (declaration_nests k (specifiers_nest s (declaration_depth k) [])) (on_declarator top (init_context s no_init_declarators k) t)
first_declarator_rises s k t =
    rises_from (declaration_nests k (specifiers_nest s (declaration_depth k) [])) (at_declarator_nests top (init_context s no_init_declarators k) [])
    (on_declarator top (init_context s no_init_declarators k) t)
    (le_cond_both (may_head top (init_context s no_init_declarators k)) _ _ _ (le_list _) (le_list _))
    (on_declarator_rises top (init_context s no_init_declarators k) t)

on_declarators_rises : (s : Specifiers) (k : DeclarationContext) (t : Token)
    → Rises (declaration_nests k (specifiers_nest s (declaration_depth k) [])) (on_declarators s k t)
on_declarators_rises s k (token Semicolon p) = declared_alone_rises k s p
on_declarators_rises s k t = first_declarator_rises s k t

after_specifiers_rises : (s : Specifiers) (k : SpecifiersContext) (t : Token)
    → Rises (specifiers_nests k (specifiers_nest s (specifiers_depth k) [])) (after_specifiers s k t)
after_specifiers_rises s (in_declaration k) t = on_declarators_rises s k t
after_specifiers_rises s (in_member ms k) t = on_declarator_rises top (member_context ms s no_declarators k) t
after_specifiers_rises s (in_parameter ps k p) t = on_abstract_rises top (parameter_abstract ps s k p) t
after_specifiers_rises s (in_type_name k) t = on_abstract_rises top (type_name_abstract s k) t

specifiers_or_none_rises : (s : Specifiers) (k : SpecifiersContext) (t : Token)
    → Rises (specifiers_nests k (specifiers_nest s (specifiers_depth k) [])) (cond (has_type s) (after_specifiers s k t) None)
specifiers_or_none_rises s k t = cond_rises _ (has_type s) _ _ (λ b. after_specifiers_rises s k t) (λ b. tt)

one_specifier : (s : Specifiers) (k : SpecifiersContext)
    → Le (specifiers_nests k (specifiers_nest s (specifiers_depth k) [])) (specifiers_nests k (specifiers_nest s (specifiers_depth k) (specifiers_depth k ∷ [])))
one_specifier s k = search (rising, arith)

on_specifiers_rises : (s : Specifiers) (k : SpecifiersContext) (t : Token)
    → Rises (specifiers_nests k (specifiers_nest s (specifiers_depth k) [])) (on_specifiers s k t)
on_specifiers_rises s k (token (Name x) p) =
    cond_rises _ (has_type s) _ _ (λ b. after_specifiers_rises s k (token (Name x) p))
    (λ b. cond_rises _ (is_typedef (specifiers_context_names k) x) _ _ (λ h. one_specifier s k) (λ h. tt))
on_specifiers_rises s k (token (TypeKeyword w) p) = on_word_rises s k w p
on_specifiers_rises s k (token (Qualify q) p) = one_specifier s k
on_specifiers_rises s k (token (Storage w) p) =
    cond_rises _ (takes_storage k) _ _ (λ a. cond_rises _ (has_storage s) _ _ (λ b. tt) (λ b. one_specifier s k)) (λ a. tt)
on_specifiers_rises s k (token Inline p) = cond_rises _ (takes_storage k) _ _ (λ a. one_specifier s k) (λ a. tt)
on_specifiers_rises s k (token (Composite w) p) = cond_rises _ (has_type s) _ _ (λ b. tt) (λ b. one_specifier s k)
on_specifiers_rises s k (token Enum p) = cond_rises _ (has_type s) _ _ (λ b. tt) (λ b. one_specifier s k)
on_specifiers_rises s k (token LeftBrace p) = on_body_rises s k p
on_specifiers_rises s k t = specifiers_or_none_rises s k t

on_composite_rises : (s : Specifiers) (p : Place) (w : CompositeWord) (k : SpecifiersContext) (t : Token)
    → Rises (state_nest (at_composite s p w k) []) (on_composite s p w k t)
on_composite_rises s p w k (token (Name x) q) = search (rising, arith)
on_composite_rises s p w k (token LeftBrace q) = search (rising, arith)
on_composite_rises s p w k _ = tt

on_enum_rises : (s : Specifiers) (p : Place) (k : SpecifiersContext) (t : Token) → Rises (state_nest (at_enum s p k) []) (on_enum s p k t)
on_enum_rises s p k (token (Name x) q) = search (rising, arith)
on_enum_rises s p k (token LeftBrace q) = search (rising, arith)
on_enum_rises s p k _ = tt

close_composite_rises : (k : CompositeContext) (ms : Members) (l : Place)
    → Le (composite_nests k (members_nest ms (composite_depth k) [])) (state_nest (close_composite k ms l) [])
close_composite_rises (in_composite s p w t q k) ms l = search (rising, arith)

on_members_rises : (ms : Members) (k : CompositeContext) (t : Token) → Rises (state_nest (at_members ms k) []) (on_members ms k t)
on_members_rises ms k (token RightBrace q) = cond_rises _ (has_members ms) _ _ (λ b. close_composite_rises k ms q) (λ b. tt)
on_members_rises ms k t = on_specifiers_rises no_specifiers (in_member ms k) t

close_enumeration_rises : (k : EnumContext) (es : Enumerators) (e : Enumerator) (c : Trailing) (l : Place) (xs : List ℕ)
    → Le xs (enumerators_nest es (enum_depth k) (enumerator_nest e (enum_depth k) (trailing_nest c (enum_depth k) (enum_depth k ∷ []))))
    → Le (enum_nests k xs) (state_nest (close_enumeration k es e c l) [])
close_enumeration_rises (in_enumeration s p t q k) es e c l xs h = enum_les (in_enumeration s p t q k) _ _ h

on_constant_name_rises : (es : Enumerators) (k : EnumContext) (x : Identifier) (p : Place)
    → Rises (enum_nests k (enumerators_nest es (enum_depth k) [])) (on_constant_name es k x p)
on_constant_name_rises es k x p = cond_rises _ (is_typedef (enum_context_names k) x) _ _ (λ b. tt) (λ b. search (rising, arith))

on_enumerator_rises : (k : EnumContext) (t : Token) → Rises (enum_nests k []) (on_enumerator k t)
on_enumerator_rises k (token (Name x) p) = on_constant_name_rises no_enumerators k x p
on_enumerator_rises k _ = tt

on_after_enumerator_rises : (es : Enumerators) (p : Place) (x : Identifier) (k : EnumContext) (t : Token)
    → Rises (state_nest (after_enumerator es p x k) []) (on_after_enumerator es p x k t)
on_after_enumerator_rises es p x k (token (Assignment Equals) q) = search (rising, arith)
on_after_enumerator_rises es p x k (token Comma q) = search (rising, arith)
on_after_enumerator_rises es p x k (token RightBrace q) = close_enumeration_rises k es (enumerator p x) no_comma q _ (search (rising, arith))
on_after_enumerator_rises es p x k _ = tt

on_enumerator_comma_rises : (es : Enumerators) (e : Enumerator) (p : Place) (k : EnumContext) (t : Token)
    → Rises (state_nest (after_enumerator_comma es e p k) []) (on_enumerator_comma es e p k t)
on_enumerator_comma_rises es e p k (token (Name x) q) = on_constant_name_rises (enumerators es e p) k x q
on_enumerator_comma_rises es e p k (token RightBrace q) = close_enumeration_rises k es e (comma p) q _ (search (rising, arith))
on_enumerator_comma_rises es e p k _ = tt

on_opened_next_rises : (c : Chain) (p : Place) (k : AbstractContext) (t : Token) → Rises (at_abstract_nests k (opened p c) []) (on_opened_next c p k t)
on_opened_next_rises c p k t =
    cond_rises _ (begins_type (abstract_context_names k) (kind_of t)) _ _
    (λ b. rises_from _ _ (on_specifiers no_specifiers (in_parameter no_earlier (of_abstract no_declarator c k) p) t) (none_opened c p k)
    (on_specifiers_rises no_specifiers (in_parameter no_earlier (of_abstract no_declarator c k) p) t)) (λ b. on_abstract_rises (opened p c) k t)

on_opened_rises : (c : Chain) (p : Place) (k : AbstractContext) (t : Token) → Rises (at_abstract_nests k (opened p c) []) (on_opened c p k t)
on_opened_rises c p k (token RightParen q) =
    le_trans _ _ _ (none_opened c p k) (abstract_les k _ _ (abstract_chain_le c (abstract_depth k) _ _ (search (rising, arith))))
on_opened_rises c p k t = on_opened_next_rises c p k t

on_parameters_rises : (k : Suffixed) (p : Place) (t : Token) → Rises (function_nests k (function_depth k ∷ [])) (on_parameters k p t)
on_parameters_rises k p (token RightParen q) = function_rises k p no_parameters q [] (le_nil _)
on_parameters_rises k p t = on_specifiers_rises no_specifiers (in_parameter no_earlier k p) t

-- ## Expressions

on_operator_rises : (e : Expression) (k : ExpressionContext) (t : Token)
    → Rises (expression_nests k (expression_nest e (expression_depth k) [])) (on_operator e k t)
on_operator_rises e k (token (Op o) p) =
    cond_rises _ (nat_le 3 (precedence o)) _ _ (λ a. cond_rises _ (nat_le (precedence o) (level e)) _ _ (λ b. search (rising, arith)) (λ b. tt)) (λ a. tt)
on_operator_rises e k (token (Assignment o) p) = cond_rises _ (nat_le 14 (level e)) _ _ (λ b. search (rising, arith)) (λ b. tt)
on_operator_rises e k (token Question p) = cond_rises _ (nat_le 3 (level e)) _ _ (λ b. search (rising, arith)) (λ b. tt)
on_operator_rises e k _ = tt

labelled_rises : (k : LabelContext) (l : Label) → Le (label_nests k (label_nest l (label_depth k) [])) (state_nest (labelled k l) [])
labelled_rises (new_group gs k) l = le_list _
labelled_rises (another_label gs ls k) l = le_list _

on_initialized_rises : (k : InitializerContext) (e : Expression) (t : Token)
    → Rises (initializer_nests k (expression_nest e (initializer_depth k) [])) (on_initialized k e t)
on_initialized_rises (initializer_of s ds d p k) e t = on_init_declarator_rises s ds k (init_declarator d (initializer p e)) t

on_after_list_rises : (k : InitializerContext) (q : Place) (xs : Arguments) (e : Expression) (c : Trailing) (l : Place) (t : Token)
    → Rises (state_nest (after_list k q xs e c l) []) (on_after_list k q xs e c l t)
on_after_list_rises (initializer_of s ds d p k) q xs e c l t = on_init_declarator_rises s ds k (init_declarator d (initializer_list p q xs e c l)) t

on_statement_hole_rises : (h : StatementHole) (e : Expression) (t : Token)
    → Rises (statement_hole_nests h (expression_nest e (statement_hole_depth h) [])) (on_statement_hole h e t)
on_statement_hole_rises (of_statement k) e (token Semicolon p) = search (rising, arith)
on_statement_hole_rises (of_return p k) e (token Semicolon q) = search (rising, arith)
on_statement_hole_rises (of_if p q k) e (token RightParen l) = search (rising, arith)
on_statement_hole_rises (of_while p q k) e (token RightParen l) = search (rising, arith)
on_statement_hole_rises (of_do p s w q k) e (token RightParen l) = search (rising, arith)
on_statement_hole_rises (of_switch p q k) e (token RightParen l) = search (rising, arith)
on_statement_hole_rises (of_for_first p q k) e (token Semicolon l) = search (rising, arith)
on_statement_hole_rises (of_for_test p q f k) e (token Semicolon m) = search (rising, arith)
on_statement_hole_rises (of_for_step p q f c m k) e (token RightParen l) = search (rising, arith)
on_statement_hole_rises (of_case k p) e (token Colon q) =
    le_trans _ _ _ (label_les k (label_depth k ∷ expression_nest e (label_depth k) []) (label_depth k ∷ expression_nest e (label_depth k) (label_depth k ∷ [])) (search (rising, arith)))
    (labelled_rises k (case_label p e q))
on_statement_hole_rises (of_initializer k) e t = on_initialized_rises k e t
on_statement_hole_rises (of_list k p xs) e (token Comma q) = search (rising, arith)
on_statement_hole_rises (of_list k p xs) e (token RightBrace q) = search (rising, arith)
on_statement_hole_rises _ e _ = tt

on_hole_rises : (h : Hole) (e : Expression) (t : Token) → Rises (hole_nests h (expression_nest e (hole_depth h) [])) (on_hole h e t)
on_hole_rises (in_parentheses p k) e (token RightParen q) = search (rising, arith)
on_hole_rises (in_index a p k) e (token RightBracket q) = search (rising, arith)
on_hole_rises (in_argument f p xs k) e (token Comma q) = search (rising, arith)
on_hole_rises (in_argument f p xs k) e (token RightParen q) = search (rising, arith)
on_hole_rises (in_middle c p k) e (token Colon q) = search (rising, arith)
on_hole_rises (in_length k p) e (token RightBracket q) = array_rises k p (length_of e) q _ (search (rising, arith))
on_hole_rises (in_enumerator es p x q k) e (token Comma l) = search (rising, arith)
on_hole_rises (in_enumerator es p x q k) e (token RightBrace l) =
    close_enumeration_rises k es (enumerator_value p x q e) no_comma l _ (search (rising, arith))
on_hole_rises (in_statement h) e t = on_statement_hole_rises h e t
on_hole_rises _ e _ = tt

complete_nest : (f : Frame) (e : Expression) (n : ℕ) (r : List ℕ) → frame_nest f (suc n) (expression_nest e (suc n) r) ≡ expression_nest (complete f e) n r
complete_nest (step_frame p o) e n r = refl
complete_nest (unary_frame p o) e n r = refl
complete_nest (sizeof_frame p) e n r = refl
complete_nest (cast_frame p t q) e n r = refl
complete_nest (binary_frame a p o) e n r = refl
complete_nest (conditional_frame c p a q) e n r = refl
complete_nest (assignment_frame a p o) e n r = refl

complete_rises : (f : Frame) (e : Expression) (k : ExpressionContext)
    → Le (expression_nests (operand f k) (expression_nest e (suc (expression_depth k)) [])) (expression_nests k (expression_nest (complete f e) (expression_depth k) []))
complete_rises f e k =
    let P : List ℕ → Type 0 = λ xs. Le (expression_nests k (frame_nest f (suc (expression_depth k)) (expression_nest e (suc (expression_depth k)) []))) (expression_nests k xs) in
    subst P (complete_nest f e (expression_depth k) []) (le_list _)

on_expression_rises : (k : ExpressionContext) (e : Expression) (t : Token)
    → Rises (expression_nests k (expression_nest e (expression_depth k) [])) (on_expression e k t)
on_expression_rises (operand f k) e t =
    cond_rises _ (nat_le (frame_need f) (binds (kind_of t))) _ _ (λ b. on_operator_rises e (operand f k) t)
    (λ b. rises_from _ _ (on_expression (complete f e) k t) (complete_rises f e k) (on_expression_rises k (complete f e) t))
on_expression_rises (whole h) e t =
    cond_rises _ (nat_le (hole_need h) (binds (kind_of t))) _ _ (λ b. on_operator_rises e (whole h) t) (λ b. on_hole_rises h e t)

on_postfix_rises : (e : Expression) (k : ExpressionContext) (t : Token)
    → Rises (expression_nests k (expression_nest e (expression_depth k) [])) (on_postfix e k t)
on_postfix_rises e k (token LeftBracket p) = search (rising, arith)
on_postfix_rises e k (token LeftParen p) = search (rising, arith)
on_postfix_rises e k (token (Member o) p) = search (rising, arith)
on_postfix_rises e k (token (Step o) p) = search (rising, arith)
on_postfix_rises e k t = on_expression_rises k e t

more_expression : (k : ExpressionContext) (r : List ℕ) → Le (expression_nests k []) (expression_nests k r)
more_expression k r = expression_les k [] r (le_nil r)

on_operand_rises : (k : ExpressionContext) (t : Token) → Rises (expression_nests k []) (on_operand k t)
on_operand_rises k (token (Name x) p) = cond_rises _ (is_typedef (expression_context_names k) x) _ _ (λ b. tt) (λ b. more_expression k _)
on_operand_rises k (token (Constant n) p) = more_expression k _
on_operand_rises k (token (Op o) p) = cond_rises _ (is_unary o) _ _ (λ b. more_expression k _) (λ b. tt)
on_operand_rises k (token (Step o) p) = more_expression k _
on_operand_rises k (token Sizeof p) = more_expression k _
on_operand_rises k (token LeftParen p) = more_expression k _
on_operand_rises k _ = tt

on_length_rises : (k : Suffixed) (p : Place) (t : Token) → Rises (array_nests k (array_depth k ∷ [])) (on_length k p t)
on_length_rises k p (token RightBracket q) = array_rises k p no_length q [] (le_nil _)
on_length_rises k p t = on_operand_rises (whole (in_length k p)) t

on_open_rises : (p : Place) (k : ExpressionContext) (t : Token) → Rises (state_nest (at_open p k) []) (on_open p k t)
on_open_rises p k t =
    cond_rises _ (begins_type (expression_context_names k) (kind_of t)) _ _
    (λ a. cond_rises _ (nat_le (need k) 13) _ _ (λ b. on_specifiers_rises no_specifiers (in_type_name (in_cast p k)) t) (λ b. tt))
    (λ a. on_operand_rises (whole (in_parentheses p k)) t)

on_sizeof_rises : (p : Place) (k : ExpressionContext) (t : Token) → Rises (state_nest (at_sizeof p k) []) (on_sizeof p k t)
on_sizeof_rises p k (token LeftParen q) = search (rising, arith)
on_sizeof_rises p k t = on_operand_rises (operand (sizeof_frame p) k) t

on_sizeof_open_rises : (p q : Place) (k : ExpressionContext) (t : Token) → Rises (state_nest (at_sizeof_open p q k) []) (on_sizeof_open p q k t)
on_sizeof_open_rises p q k t =
    cond_rises _ (begins_type (expression_context_names k) (kind_of t)) _ _
    (λ a. on_specifiers_rises no_specifiers (in_type_name (in_sizeof p q k)) t)
    (λ a. rises_from _ _ (on_operand (whole (in_parentheses q (operand (sizeof_frame p) k))) t) (search (rising, arith))
    (on_operand_rises (whole (in_parentheses q (operand (sizeof_frame p) k))) t))

on_arguments_rises : (f : Expression) (p : Place) (k : ExpressionContext) (t : Token) → Rises (state_nest (at_arguments f p k) []) (on_arguments f p k t)
on_arguments_rises f p k (token RightParen q) = search (rising, arith)
on_arguments_rises f p k t = on_operand_rises (whole (in_argument f p no_arguments k)) t

on_access_rises : (e : Expression) (p : Place) (o : Access) (k : ExpressionContext) (t : Token) → Rises (state_nest (at_access e p o k) []) (on_access e p o k t)
on_access_rises e p o k (token (Name x) q) = search (rising, arith)
on_access_rises e p o k _ = tt

on_initializer_rises : (k : InitializerContext) (t : Token) → Rises (initializer_nests k []) (on_initializer k t)
on_initializer_rises k (token LeftBrace q) = search (rising, arith)
on_initializer_rises k t = on_operand_rises (whole (in_statement (of_initializer k))) t

on_list_comma_rises : (k : InitializerContext) (p : Place) (xs : Arguments) (e : Expression) (q : Place) (t : Token)
    → Rises (state_nest (at_list_comma k p xs e q) []) (on_list_comma k p xs e q t)
on_list_comma_rises k p xs e q (token RightBrace l) = search (rising, arith)
on_list_comma_rises k p xs e q t = on_operand_rises (whole (in_statement (of_list k p (argument xs e q)))) t

-- ## Statements

more_statement : (k : StatementContext) (r : List ℕ) → Le (statement_nests k []) (statement_nests k r)
more_statement k r = statement_les k [] r (le_nil r)

on_statement_rises : (k : StatementContext) (t : Token) → Rises (statement_nests k []) (on_statement k t)
on_statement_rises k (token LeftBrace p) = more_statement k _
on_statement_rises k (token Semicolon p) = more_statement k _
on_statement_rises k (token If p) = more_statement k _
on_statement_rises k (token While p) = more_statement k _
on_statement_rises k (token Switch p) = more_statement k _
on_statement_rises k (token Do p) = more_statement k _
on_statement_rises k (token For p) = more_statement k _
on_statement_rises k (token (JumpWord j) p) = more_statement k _
on_statement_rises k (token Return p) = more_statement k _
on_statement_rises k t = on_operand_rises (whole (in_statement (of_statement k))) t

close_groups_rises : (k : GroupsContext) (gs : Groups) (n : Place) → Le (groups_nests k (groups_nest gs (groups_depth k) [])) (state_nest (close_groups k gs n) [])
close_groups_rises (switch_of p q e l m k) gs n = search (rising, arith)

close_items_rises : (is : Items) (k : ItemsContext) (q : Place) → Le (items_nests k (items_nest is (items_depth k) [])) (state_nest (close_items is k q) [])
close_items_rises is (block_of p k) q = search (rising, arith)
close_items_rises is (function_body f s d p) q = search (rising, arith)
close_items_rises is (group_of gs ls k) q = close_groups_rises k (group gs ls is) q

label_context_rises : (is : Items) (gs : Groups) (ls : Labels) (k : GroupsContext) (r : List ℕ)
    → Le (items_nests (group_of gs ls k) (items_nest is (groups_depth k) [])) (label_nests (label_context is gs ls k) (label_depth (label_context is gs ls k) ∷ r))
label_context_rises no_items gs ls k r = search (rising, arith)
label_context_rises (declaration_item is d) gs ls k r = search (rising, arith)
label_context_rises (statement_item is s) gs ls k r = search (rising, arith)

on_case_rises : (is : Items) (k : ItemsContext) (p : Place) → Rises (items_nests k (items_nest is (items_depth k) [])) (on_case is k p)
on_case_rises is (group_of gs ls k) p = label_context_rises is gs ls k []
on_case_rises is (block_of q k) p = tt
on_case_rises is (function_body f s d q) p = tt

on_default_rises : (is : Items) (k : ItemsContext) (p : Place) → Rises (items_nests k (items_nest is (items_depth k) [])) (on_default is k p)
on_default_rises is (group_of gs ls k) p = label_context_rises is gs ls k []
on_default_rises is (block_of q k) p = tt
on_default_rises is (function_body f s d q) p = tt

on_item_rises : (is : Items) (k : ItemsContext) (t : Token) → Rises (items_nests k (items_nest is (items_depth k) [])) (on_item is k t)
on_item_rises is k t =
    cond_rises _ (begins_declaration (items_names is (items_context_names k)) (kind_of t)) _ _
    (λ b. on_specifiers_rises no_specifiers (in_declaration (in_items is k)) t) (λ b. on_statement_rises (item_of is k) t)

on_items_rises : (is : Items) (k : ItemsContext) (t : Token) → Rises (items_nests k (items_nest is (items_depth k) [])) (on_items is k t)
on_items_rises is k (token RightBrace p) = close_items_rises is k p
on_items_rises is k (token Case p) = on_case_rises is k p
on_items_rises is k (token Default p) = on_default_rises is k p
on_items_rises is k t = on_item_rises is k t

on_then_rises : (p q : Place) (e : Expression) (l : Place) (s : Statement) (k : StatementContext) (o : Option State) (t : Token)
    → Rises (statement_nests (then_of p q e l k) (statement_nest s (suc (statement_depth k)) [])) o
    → Rises (statement_nests (then_of p q e l k) (statement_nest s (suc (statement_depth k)) [])) (on_then p q e l s k o t)
on_then_rises p q e l s k o (token Else m) h = search (rising, arith)
on_then_rises p q e l s k o (token _ m) h = h

on_do_while_rises : (p : Place) (s : Statement) (k : StatementContext) (t : Token)
    → Rises (statement_nests (do_body p k) (statement_nest s (suc (statement_depth k)) [])) (on_do_while p s k t)
on_do_while_rises p s k (token While w) = search (rising, arith)
on_do_while_rises p s k _ = tt

on_after_rises : (k : StatementContext) (s : Statement) (t : Token) → Rises (statement_nests k (statement_nest s (statement_depth k) [])) (on_after s k t)
on_after_rises (then_of p q e l k) s t = on_then_rises p q e l s k _ t (on_after_rises k (if_statement p q e l s) t)
on_after_rises (else_of p q e l a m k) s t = on_after_rises k (if_else p q e l a m s) t
on_after_rises (while_body p q e l k) s t = on_after_rises k (while_statement p q e l s) t
on_after_rises (do_body p k) s t = on_do_while_rises p s k t
on_after_rises (for_body p q f c m u l k) s t = on_after_rises k (for_statement p q f c m u l s) t
on_after_rises (item_of is k) s t = on_items_rises (statement_item is s) k t

on_labels_rises : (k : GroupsContext) (t : Token) → Rises (groups_nests k []) (on_labels k t)
on_labels_rises k (token RightBrace p) = close_groups_rises k no_groups p
on_labels_rises k (token Case p) = search (rising, arith)
on_labels_rises k (token Default p) = search (rising, arith)
on_labels_rises k _ = tt

on_after_default_rises : (k : LabelContext) (p : Place) (t : Token) → Rises (state_nest (after_default k p) []) (on_after_default k p t)
on_after_default_rises k p (token Colon q) =
    le_trans _ _ _ (label_les k (label_depth k ∷ []) (label_depth k ∷ label_depth k ∷ []) (search (rising, arith))) (labelled_rises k (default_label p q))
on_after_default_rises k p _ = tt

condition_rises : (h : Head) (p q : Place) (k : StatementContext)
    → Le (statement_nests k (suc (statement_depth k) ∷ [])) (state_nest (at_expression (whole (in_statement (condition_hole h p q k)))) [])
condition_rises if_head p q k = search (rising, arith)
condition_rises while_head p q k = search (rising, arith)
condition_rises switch_head p q k = search (rising, arith)

on_condition_rises : (h : Head) (p : Place) (k : StatementContext) (t : Token) → Rises (state_nest (at_condition h p k) []) (on_condition h p k t)
on_condition_rises h p k (token LeftParen q) = condition_rises h p q k
on_condition_rises h p k _ = tt

on_for_item_rises : (p q : Place) (k : StatementContext) (t : Token) → Rises (state_nest (at_for_first p q k) []) (on_for_item p q k t)
on_for_item_rises p q k t =
    cond_rises _ (begins_declaration (statement_context_names k) (kind_of t)) _ _
    (λ b. on_specifiers_rises no_specifiers (in_declaration (in_for_head p q k)) t) (λ b. on_operand_rises (whole (in_statement (of_for_first p q k))) t)

on_for_first_rises : (p q : Place) (k : StatementContext) (t : Token) → Rises (state_nest (at_for_first p q k) []) (on_for_first p q k t)
on_for_first_rises p q k (token Semicolon l) = search (rising, arith)
on_for_first_rises p q k t = on_for_item_rises p q k t

on_for_test_rises : (p q : Place) (f : ForFirst) (k : StatementContext) (t : Token) → Rises (state_nest (at_for_test p q f k) []) (on_for_test p q f k t)
on_for_test_rises p q f k (token Semicolon m) = search (rising, arith)
on_for_test_rises p q f k t = on_operand_rises (whole (in_statement (of_for_test p q f k))) t

on_for_step_rises : (p q : Place) (f : ForFirst) (c : Option Expression) (m : Place) (k : StatementContext) (t : Token)
    → Rises (state_nest (at_for_step p q f c m k) []) (on_for_step p q f c m k t)
on_for_step_rises p q f c m k (token RightParen l) = search (rising, arith)
on_for_step_rises p q f c m k t = on_operand_rises (whole (in_statement (of_for_step p q f c m k))) t

on_return_rises : (p : Place) (k : StatementContext) (t : Token) → Rises (state_nest (at_return p k) []) (on_return p k t)
on_return_rises p k (token Semicolon q) = search (rising, arith)
on_return_rises p k t = on_operand_rises (whole (in_statement (of_return p k))) t

-- ## One token, and many

pub feed_rises : (s : State) (t : Token) → StateOk s → Rises (state_nest s []) (feed s t)
unfolding feed
feed_rises (at_file f) t ok = on_specifiers_rises no_specifiers (in_declaration (in_file f)) t
feed_rises (at_items is k) t ok = on_items_rises is k t
feed_rises (at_statement k) t ok = on_statement_rises k t
feed_rises (after_statement s k) t ok = on_after_rises k s t
feed_rises (at_labels k) t ok = on_labels_rises k t
feed_rises (after_default k p) t ok = on_after_default_rises k p t
feed_rises (at_condition h p k) t ok = on_condition_rises h p k t
feed_rises (at_do_condition p s w k) (token LeftParen q) ok = search (rising, arith)
feed_rises (at_do_condition p s w k) _ ok = tt
feed_rises (after_do p s w q e l k) (token Semicolon m) ok = search (rising, arith)
feed_rises (after_do p s w q e l k) _ ok = tt
feed_rises (at_for p k) (token LeftParen q) ok = search (rising, arith)
feed_rises (at_for p k) _ ok = tt
feed_rises (at_for_first p q k) t ok = on_for_first_rises p q k t
feed_rises (at_for_test p q f k) t ok = on_for_test_rises p q f k t
feed_rises (at_for_step p q f c m k) t ok = on_for_step_rises p q f c m k t
feed_rises (at_switch_body p q e l k) (token LeftBrace m) ok = search (rising, arith)
feed_rises (at_switch_body p q e l k) _ ok = tt
feed_rises (at_jump p j k) (token Semicolon q) ok = search (rising, arith)
feed_rises (at_jump p j k) _ ok = tt
feed_rises (at_return p k) t ok = on_return_rises p k t
feed_rises (at_initializer k) t ok = on_initializer_rises k t
feed_rises (at_list_comma k p xs e q) t ok = on_list_comma_rises k p xs e q t
feed_rises (after_list k p xs e c l) t ok = on_after_list_rises k p xs e c l t
feed_rises (at_specifiers s k) t ok = on_specifiers_rises s k t
feed_rises (at_composite s p w k) t ok = on_composite_rises s p w k t
feed_rises (at_enum s p k) t ok = on_enum_rises s p k t
feed_rises (at_members ms k) t ok = on_members_rises ms k t
feed_rises (at_enumerator k) t ok = on_enumerator_rises k t
feed_rises (after_enumerator es p x k) t ok = on_after_enumerator_rises es p x k t
feed_rises (after_enumerator_comma es e p k) t ok = on_enumerator_comma_rises es e p k t
feed_rises (at_declarator c k) t ok = on_starred_rises c k t
feed_rises (after_declarator d c k) t ok = on_direct_rises d c k t ok.2
feed_rises (at_abstract c k) t ok = on_starred_abstract_rises c k t
feed_rises (at_opened c p k) t ok = on_opened_rises c p k t
feed_rises (after_abstract a c k) t ok = on_direct_abstract_rises a c k t
feed_rises (at_length k p) t ok = on_length_rises k p t
feed_rises (at_parameters k p) t ok = on_parameters_rises k p t
feed_rises (at_expression k) t ok = on_operand_rises k t
feed_rises (after_postfix e k) t ok = on_postfix_rises e k t
feed_rises (after_sizeof e k) t ok = on_expression_rises k e t
feed_rises (at_open p k) t ok = on_open_rises p k t
feed_rises (at_sizeof p k) t ok = on_sizeof_rises p k t
feed_rises (at_sizeof_open p q k) t ok = on_sizeof_open_rises p q k t
feed_rises (at_arguments f p k) t ok = on_arguments_rises f p k t
feed_rises (at_access e p o k) t ok = on_access_rises e p o k t

-- the state there is of the grammar
abbrev pub OptionOk : Option State → Type 0
OptionOk None = Unit {0}
OptionOk (Some s) = StateOk s

has_ok : (f : List Token → List Token) (o : Option State) → Has f o → OptionOk o
has_ok f None h = tt
has_ok f (Some s) h = h.0

pub go_rises : (ns : List ℕ) (o : Option State) (ts : List Token) → OptionOk o → Rises ns o → Rises ns (go o ts)
unfolding go
go_rises ns None ts ok h = tt
go_rises ns (Some s) [] ok h = h
go_rises ns (Some s) (t ∷ ts) ok h =
    go_rises ns (feed s t) ts (has_ok (λ r. state_before s (t ∷ r)) (feed s t) (feed_has s t ok)) (rises_from ns (state_nest s []) (feed s t) h (feed_rises s t ok))
