-- Each state has an ending.
use Rattle.std.proofs.Common.{◌≡◌, true, false, cond, List, [], ◌∷◌, Some, None, refl, sym, ◌∙◌, ap, arith, lit<, not}
use Rattle.c_grammar.specs.Tokens.{Identifier, Place, Decimal, Access, Int, CompositeWord, Jump, Name, TypeKeyword, LeftBrace, RightBrace, LeftParen, RightParen, LeftBracket, RightBracket, Semicolon, Colon, Token, token}
use Rattle.c_grammar.specs.Derivations.{Qualifiers, first_word, no_comma, comma, Expression, constant, call_without, member, Arguments, type_name, Specifiers, no_specifiers, type_words, composite_reference, enum_reference, Members, Enumerator, enumerator, Enumerators, no_enumerators, Declarator, declared_name, pointer, parenthesized_declarator, array, function, no_length, AbstractDeclarator, no_declarator, abstract_pointer, parenthesized_abstract, abstract_array, abstract_function, no_parameters, EarlierParameters, no_init_declarators, for_nothing, default_label, Statement, do_statement, jump_statement, return_statement, no_groups}
use Rattle.c_grammar.specs.Spelling.{has_type, has_members}
use Rattle.c_grammar.specs.Contexts.{StatementContext, then_of, while_body, in_file, InitializerContext, of_if, of_while, of_do, of_switch, of_initializer, sizeof_frame, Chain, top, starred, opened, ExpressionContext, operand, whole, in_parentheses, in_statement, Suffixed, of_declarator, of_abstract, SpecifiersContext, in_member, in_type_name, in_sizeof, CompositeContext, EnumContext, DeclaratorContext, init_context, parameter_context, AbstractContext, parameter_abstract, type_name_abstract, suffixed_names, enum_context_names, declarator_context_names, abstract_context_names}
use Rattle.c_grammar.specs.Machine.{Head, if_head, while_head, switch_head, State, at_file, at_items, at_statement, after_statement, at_labels, after_default, at_condition, at_do_condition, after_do, at_for, at_for_first, at_for_test, at_for_step, at_switch_body, at_jump, at_return, at_initializer, at_list_comma, after_list, at_specifiers, at_composite, at_enum, at_members, at_enumerator, after_enumerator, after_enumerator_comma, at_declarator, after_declarator, at_abstract, at_opened, after_abstract, at_length, at_parameters, at_expression, after_postfix, after_sizeof, at_open, at_sizeof, at_sizeof_open, at_arguments, at_access, array_of, function_of, type_named, close_composite, close_enumeration, close_groups, labelled, go}
use Rattle.c_grammar.proofs.Steps.{same_feed, one}
use Rattle.c_grammar.proofs.Starts.{open_start, sizeof_start, opened_declarator, initializer_start}
use Rattle.c_grammar.proofs.OneToken.{then_go, else_go, read_labels, read_after_default, read_condition, read_do_condition, read_after_do, read_for, read_for_first, read_jump, read_return, read_list_comma, read_specifiers, read_composite, read_enum, read_members, read_enumerator, read_after_enumerator, read_enumerator_comma, read_direct, read_abstract, read_opened, read_direct_abstract, read_length, read_parameters, read_sizeof_open, read_arguments, read_access}
use Rattle.c_grammar.proofs.Parts.{feed_abstract, feed_direct_abstract, feed_name, feed_parameter_name, first_type_word}
use Rattle.c_grammar.proofs.Below.{pre_list, kept}
use Rattle.c_grammar.proofs.Endings.{fresh, fresh_new, mark, zero_token, fresh_token, statement_ending, groups_ending, label_ending, initializer_ending, chain_ending, may_define, expression_ending, array_ending, function_ending, specifiers_ending, type_name_ending, composite_ending, enum_ending, declarator_ending, abstract_ending, definition_ending, may_head, after_declarator_ending, after_abstract_ending, at_abstract_ending, at_opened_ending, at_specifiers_ending, condition_ending, ending}
use Rattle.c_grammar.proofs.Close.{Ends, from, go_nil, cond_ends, zero_closed, ends_statement, ends_groups, ends_items, ends_labelled, ends_empty, ends_for_step, ends_for_test, ends_switch, ends_list, closes, postfix_closed, zero_whole, ends_chain, ClosesAbstract, abstract_chain_closes, ends_abstract_chain, cond_pre_false, ends_body, declarator_closes, abstract_closes, with_nests, ends_expression, ends_array, ends_function, ends_typed, ends_type_name, ends_composite, ends_enum, ends_declarator, ends_abstract}

ends_condition : (h : Head) (p : Place) (k : StatementContext) → Ends (at_condition h p k) (mark LeftParen ∷ zero_token ∷ mark RightParen ∷ condition_ending h k)
ends_condition if_head p k =
    from _ (mark LeftParen ∷ zero_token ∷ mark RightParen ∷ condition_ending if_head k) (at_statement (then_of p 0 (constant 0 (Decimal 0)) 0 k))
    (mark Semicolon ∷ statement_ending k) (read_condition if_head p k _ _ ∙ zero_closed (in_statement (of_if p 0 k)) (mark RightParen) _ refl (lit< tt))
    (search (kept, arith)) (ends_empty (then_of p 0 (constant 0 (Decimal 0)) 0 k))
ends_condition while_head p k =
    from _ (mark LeftParen ∷ zero_token ∷ mark RightParen ∷ condition_ending while_head k) (at_statement (while_body p 0 (constant 0 (Decimal 0)) 0 k))
    (mark Semicolon ∷ statement_ending k) (read_condition while_head p k _ _ ∙ zero_closed (in_statement (of_while p 0 k)) (mark RightParen) _ refl (lit< tt))
    (search (kept, arith)) (ends_empty (while_body p 0 (constant 0 (Decimal 0)) 0 k))
ends_condition switch_head p k =
    from _ (mark LeftParen ∷ zero_token ∷ mark RightParen ∷ condition_ending switch_head k) (at_switch_body p 0 (constant 0 (Decimal 0)) 0 k)
    (mark LeftBrace ∷ mark RightBrace ∷ statement_ending k)
    (read_condition switch_head p k _ _ ∙ zero_closed (in_statement (of_switch p 0 k)) (mark RightParen) _ refl (lit< tt))
    (search (kept, arith)) (ends_switch p 0 (constant 0 (Decimal 0)) 0 k)

ends_for_first : (p q : Place) (k : StatementContext)
    → Ends (at_for_first p q k) (mark Semicolon ∷ mark Semicolon ∷ mark RightParen ∷ mark Semicolon ∷ statement_ending k)
ends_for_first p q k =
    from _ (mark Semicolon ∷ mark Semicolon ∷ mark RightParen ∷ mark Semicolon ∷ statement_ending k) (at_for_test p q (for_nothing 0) k)
    (mark Semicolon ∷ mark RightParen ∷ mark Semicolon ∷ statement_ending k) (read_for_first p q k _ _) (search (kept, arith)) (ends_for_test p q (for_nothing 0) k)

-- the constant where an expression is wanted
ends_zero : (k : ExpressionContext) → Ends (at_expression k) (zero_token ∷ expression_ending k)
ends_zero k =
    from _ (zero_token ∷ expression_ending k) (after_sizeof (constant 0 (Decimal 0)) k) (expression_ending k) (zero_whole k _ (closes k))
    (search (kept, arith)) (ends_expression k (constant 0 (Decimal 0)))

ends_postfix : (e : Expression) (k : ExpressionContext) → Ends (after_postfix e k) (expression_ending k)
ends_postfix e k = from _ (expression_ending k) (after_sizeof e k) (expression_ending k) (postfix_closed e k _ (closes k)) (search (kept, arith)) (ends_expression k e)

-- the word `int` where no type stands yet
int_step : (s : Specifiers) (k : SpecifiersContext) (ts : List Token) → has_type s ≡ false
    → go (Some (at_specifiers s k)) (mark (TypeKeyword Int) ∷ ts) ≡ go (Some (at_specifiers (type_words s (first_word 0 Int)) k)) ts
int_step s k ts h = read_specifiers s k _ ts ∙ ap (λ o. go o ts) (first_type_word s k Int 0 h)

ends_specifiers_state : (s : Specifiers) (k : SpecifiersContext) → Ends (at_specifiers s k) (at_specifiers_ending s k)
ends_specifiers_state s k =
    cond_ends (at_specifiers s k) (has_type s) _ _ (λ h. ends_typed k s h)
    (λ h. from _ (mark (TypeKeyword Int) ∷ specifiers_ending k) (at_specifiers (type_words s (first_word 0 Int)) k) (specifiers_ending k) (int_step s k _ h)
    (search (kept, arith)) (ends_typed k (type_words s (first_word 0 Int)) refl))

ends_members : (ms : Members) (k : CompositeContext) → Ends (at_members ms k) (ending (at_members ms k))
unfolding ending
ends_members ms k =
    cond_ends (at_members ms k) (has_members ms) _ _
    (λ h. from _ (mark RightBrace ∷ composite_ending k) (close_composite k ms 0) (composite_ending k) (read_members ms k _ _ ∙ then_go _ _ _ _ h) (search (kept, arith)) (ends_composite k ms))
    (λ h. from _ (mark (TypeKeyword Int) ∷ specifiers_ending (in_member ms k)) (at_specifiers (type_words no_specifiers (first_word 0 Int)) (in_member ms k))
    (specifiers_ending (in_member ms k)) (read_members ms k _ _) (search (kept, arith)) (ends_typed (in_member ms k) (type_words no_specifiers (first_word 0 Int)) refl))

enumerator_closed : (es : Enumerators) (p : Place) (x : Identifier) (k : EnumContext) → Ends (after_enumerator es p x k) (mark RightBrace ∷ enum_ending k)
enumerator_closed es p x k =
    from _ (mark RightBrace ∷ enum_ending k) (close_enumeration k es (enumerator p x) no_comma 0) (enum_ending k) (read_after_enumerator es p x k _ _)
    (search (kept, arith)) (ends_enum k es (enumerator p x) no_comma)

head_defines : (p : Place) (x : Identifier) (c : Chain) (k : DeclaratorContext) → may_head c k ≡ true → may_define (declared_name p x) c k ≡ true
head_defines p x c (init_context s no_init_declarators (in_file f)) h = h
head_defines p x c _ h = let bad : false ≡ true = h in cc

ends_name : (p : Place) (x : Identifier) (c : Chain) (k : DeclaratorContext)
    → Ends (after_declarator (declared_name p x) c k) (cond (may_head c k) definition_ending (chain_ending c (declarator_ending k)))
ends_name p x c k =
    cond_ends _ (may_head c k) _ _
    (λ h. from _ definition_ending (after_declarator (function (declared_name p x) 0 no_parameters 0) c k) (mark LeftBrace ∷ mark RightBrace ∷ [])
    (read_direct (declared_name p x) c k (mark LeftParen) _ ∙ read_parameters (of_declarator (declared_name p x) c k) 0 (mark RightParen) _)
    (search (kept, arith)) (ends_body (declared_name p x) c k 0 no_parameters 0 (head_defines p x c k h)))
    (λ h. with_nests _ _ _ _ (cond_pre_false (may_head c k) _ _ _ h (pre_list _)) (ends_chain k (declarator_ending k) (declarator_closes k) (ends_declarator k) c (declared_name p x)))

ends_declarator_state : (c : Chain) (k : DeclaratorContext)
    → Ends (at_declarator c k) (fresh_token (declarator_context_names k) ∷ cond (may_head c k) definition_ending (chain_ending c (declarator_ending k)))
ends_declarator_state c k =
    let ts : List Token = cond (may_head c k) definition_ending (chain_ending c (declarator_ending k)) in
    from _ (fresh_token (declarator_context_names k) ∷ ts) (after_declarator (declared_name 0 (fresh (declarator_context_names k))) c k) ts
    (one _ _ _ _ (feed_name c k 0 (fresh (declarator_context_names k)) (fresh_new (declarator_context_names k))))
    (search (kept, arith)) (ends_name 0 (fresh (declarator_context_names k)) c k)

ends_after_declarator : (d : Declarator) (c : Chain) (k : DeclaratorContext) → Ends (after_declarator d c k) (after_declarator_ending d c k)
ends_after_declarator (function d p ps q) c k = ends_function (of_declarator d c k) p ps q
ends_after_declarator (declared_name p x) c k = ends_name p x c k
ends_after_declarator (pointer p qs d) c k = ends_chain k (declarator_ending k) (declarator_closes k) (ends_declarator k) c (pointer p qs d)
ends_after_declarator (parenthesized_declarator p d q) c k =
    ends_chain k (declarator_ending k) (declarator_closes k) (ends_declarator k) c (parenthesized_declarator p d q)
ends_after_declarator (array d p n q) c k = ends_chain k (declarator_ending k) (declarator_closes k) (ends_declarator k) c (array d p n q)

-- a parameter's name
ends_parameter_name : (c : Chain) (ps : EarlierParameters) (s : Specifiers) (k : Suffixed) (p : Place)
    → Ends (at_abstract c (parameter_abstract ps s k p)) (fresh_token (suffixed_names k) ∷ chain_ending c (mark RightParen ∷ function_ending k))
ends_parameter_name c ps s k p =
    let d : Declarator = declared_name 0 (fresh (suffixed_names k)) in
    from _ (fresh_token (suffixed_names k) ∷ chain_ending c (mark RightParen ∷ function_ending k)) (after_declarator d c (parameter_context ps s k p))
    (chain_ending c (mark RightParen ∷ function_ending k))
    (one _ _ _ _ (feed_parameter_name c ps s k p 0 (fresh (suffixed_names k)) (fresh_new (suffixed_names k))))
    (search (kept, arith)) (ends_chain (parameter_context ps s k p) (mark RightParen ∷ function_ending k) refl (ends_declarator (parameter_context ps s k p)) c d)

-- the stars of an abstract declarator with nothing inside
star_closed : (p : Place) (qs : Qualifiers) (c : Chain) (k : AbstractContext) (ts : List Token) → ClosesAbstract ts
    → go (Some (at_abstract (starred p qs c) k)) ts ≡ go (Some (after_abstract (abstract_pointer p qs no_declarator) c k)) ts
star_closed p qs c k [] h = absurd h
star_closed p qs c k (t ∷ ts) h =
    same_feed _ _ t ts (feed_abstract (starred p qs c) k t h ∙ sym (feed_direct_abstract (abstract_pointer p qs no_declarator) c k t h))

ends_abstract_state : (c : Chain) (k : AbstractContext) → Ends (at_abstract c k) (at_abstract_ending c k)
ends_abstract_state c (parameter_abstract ps s k p) = ends_parameter_name c ps s k p
ends_abstract_state top (type_name_abstract s k) =
    from _ (mark RightParen ∷ type_name_ending k) (type_named k (type_name s no_declarator) 0) (type_name_ending k) (read_abstract top (type_name_abstract s k) _ _)
    (search (kept, arith)) (ends_type_name k (type_name s no_declarator))
ends_abstract_state (starred p qs c) (type_name_abstract s k) =
    let ts : List Token = mark RightParen ∷ type_name_ending k in
    from _ (chain_ending c ts) (after_abstract (abstract_pointer p qs no_declarator) c (type_name_abstract s k)) (chain_ending c ts)
    (star_closed p qs c (type_name_abstract s k) _ (abstract_chain_closes c ts refl))
    (search (kept, arith)) (ends_abstract_chain (type_name_abstract s k) ts refl (ends_abstract (type_name_abstract s k)) c (abstract_pointer p qs no_declarator) refl)
ends_abstract_state (opened p c) (type_name_abstract s k) =
    let ts : List Token = mark RightParen ∷ type_name_ending k in
    let a : AbstractDeclarator = abstract_array no_declarator 0 no_length 0 in
    from _ (mark LeftBracket ∷ mark RightBracket ∷ mark RightParen ∷ chain_ending c ts) (after_abstract a (opened p c) (type_name_abstract s k))
    (mark RightParen ∷ chain_ending c ts)
    (read_abstract (opened p c) (type_name_abstract s k) _ _ ∙ read_length (of_abstract no_declarator (opened p c) (type_name_abstract s k)) 0 _ _)
    (search (kept, arith)) (ends_abstract_chain (type_name_abstract s k) ts refl (ends_abstract (type_name_abstract s k)) (opened p c) a refl)

name_opened : (c : Chain) (p : Place) (k : AbstractContext) (ts : List Token)
    → go (Some (at_opened c p k)) (fresh_token (abstract_context_names k) ∷ ts) ≡ go (Some (at_abstract (opened p c) k)) (fresh_token (abstract_context_names k) ∷ ts)
name_opened c p k ts = same_feed _ _ _ ts (opened_declarator c p k (fresh_token (abstract_context_names k)) (ap not (fresh_new (abstract_context_names k))))

ends_opened : (c : Chain) (p : Place) (k : AbstractContext) → Ends (at_opened c p k) (at_opened_ending c k)
ends_opened c l (parameter_abstract ps s k p) =
    let ts : List Token = fresh_token (suffixed_names k) ∷ mark RightParen ∷ chain_ending c (mark RightParen ∷ function_ending k) in
    from _ ts (at_abstract (opened l c) (parameter_abstract ps s k p)) ts (name_opened c l (parameter_abstract ps s k p) _)
    (search (kept, arith)) (ends_parameter_name (opened l c) ps s k p)
ends_opened c l (type_name_abstract s k) =
    let ts : List Token = mark RightParen ∷ type_name_ending k in
    let a : AbstractDeclarator = abstract_function no_declarator l no_parameters 0 in
    from _ (mark RightParen ∷ chain_ending c ts) (after_abstract a c (type_name_abstract s k)) (chain_ending c ts) (read_opened c l (type_name_abstract s k) _ _)
    (search (kept, arith)) (ends_abstract_chain (type_name_abstract s k) ts refl (ends_abstract (type_name_abstract s k)) c a refl)

ends_after_abstract : (a : AbstractDeclarator) (c : Chain) (k : AbstractContext) → Ends (after_abstract a c k) (after_abstract_ending a c k)
ends_after_abstract no_declarator c k =
    let a : AbstractDeclarator = abstract_array no_declarator 0 no_length 0 in
    from _ (mark LeftBracket ∷ mark RightBracket ∷ chain_ending c (abstract_ending k)) (after_abstract a c k) (chain_ending c (abstract_ending k))
    (read_direct_abstract no_declarator c k _ _ ∙ read_length (of_abstract no_declarator c k) 0 _ _)
    (search (kept, arith)) (ends_abstract_chain k (abstract_ending k) (abstract_closes k) (ends_abstract k) c a refl)
ends_after_abstract (abstract_pointer p qs a) c k = ends_abstract_chain k (abstract_ending k) (abstract_closes k) (ends_abstract k) c (abstract_pointer p qs a) refl
ends_after_abstract (parenthesized_abstract p a q) c k =
    ends_abstract_chain k (abstract_ending k) (abstract_closes k) (ends_abstract k) c (parenthesized_abstract p a q) refl
ends_after_abstract (abstract_array a p n q) c k = ends_abstract_chain k (abstract_ending k) (abstract_closes k) (ends_abstract k) c (abstract_array a p n q) refl
ends_after_abstract (abstract_function a p ps q) c k = ends_abstract_chain k (abstract_ending k) (abstract_closes k) (ends_abstract k) c (abstract_function a p ps q) refl

ends_do_condition : (p : Place) (s : Statement) (w : Place) (k : StatementContext)
    → Ends (at_do_condition p s w k) (mark LeftParen ∷ zero_token ∷ mark RightParen ∷ mark Semicolon ∷ statement_ending k)
ends_do_condition p s w k =
    from _ (mark LeftParen ∷ zero_token ∷ mark RightParen ∷ mark Semicolon ∷ statement_ending k)
    (after_statement (do_statement p s w 0 (constant 0 (Decimal 0)) 0 0) k) (statement_ending k)
    (read_do_condition p s w k _ _ ∙ zero_closed (in_statement (of_do p s w 0 k)) (mark RightParen) _ refl (lit< tt)
    ∙ read_after_do p s w 0 (constant 0 (Decimal 0)) 0 k _ _) (search (kept, arith)) (ends_statement k (do_statement p s w 0 (constant 0 (Decimal 0)) 0 0))

ends_after_do : (p : Place) (s : Statement) (w q : Place) (e : Expression) (l : Place) (k : StatementContext)
    → Ends (after_do p s w q e l k) (mark Semicolon ∷ statement_ending k)
ends_after_do p s w q e l k =
    from _ (mark Semicolon ∷ statement_ending k) (after_statement (do_statement p s w q e l 0) k) (statement_ending k) (read_after_do p s w q e l k _ _)
    (search (kept, arith)) (ends_statement k (do_statement p s w q e l 0))

ends_for : (p : Place) (k : StatementContext)
    → Ends (at_for p k) (mark LeftParen ∷ mark Semicolon ∷ mark Semicolon ∷ mark RightParen ∷ mark Semicolon ∷ statement_ending k)
ends_for p k =
    from _ (mark LeftParen ∷ mark Semicolon ∷ mark Semicolon ∷ mark RightParen ∷ mark Semicolon ∷ statement_ending k) (at_for_first p 0 k)
    (mark Semicolon ∷ mark Semicolon ∷ mark RightParen ∷ mark Semicolon ∷ statement_ending k) (read_for p k _ _) (search (kept, arith)) (ends_for_first p 0 k)

ends_jump : (p : Place) (j : Jump) (k : StatementContext) → Ends (at_jump p j k) (mark Semicolon ∷ statement_ending k)
ends_jump p j k =
    from _ (mark Semicolon ∷ statement_ending k) (after_statement (jump_statement p j 0) k) (statement_ending k) (read_jump p j k _ _)
    (search (kept, arith)) (ends_statement k (jump_statement p j 0))

ends_return : (p : Place) (k : StatementContext) → Ends (at_return p k) (mark Semicolon ∷ statement_ending k)
ends_return p k =
    from _ (mark Semicolon ∷ statement_ending k) (after_statement (return_statement p None 0) k) (statement_ending k) (read_return p k _ _)
    (search (kept, arith)) (ends_statement k (return_statement p None 0))

ends_initializer : (k : InitializerContext) → Ends (at_initializer k) (zero_token ∷ initializer_ending k)
ends_initializer k =
    let ts : List Token = zero_token ∷ initializer_ending k in
    from _ ts (at_expression (whole (in_statement (of_initializer k)))) ts (same_feed _ _ _ _ (initializer_start k zero_token refl))
    (search (kept, arith)) (ends_zero (whole (in_statement (of_initializer k))))

ends_list_comma : (k : InitializerContext) (p : Place) (xs : Arguments) (e : Expression) (q : Place)
    → Ends (at_list_comma k p xs e q) (mark RightBrace ∷ initializer_ending k)
ends_list_comma k p xs e q =
    from _ (mark RightBrace ∷ initializer_ending k) (after_list k p xs e (comma q) 0) (initializer_ending k) (read_list_comma k p xs e q _ _)
    (search (kept, arith)) (ends_list k p xs e (comma q) 0)

ends_composite_state : (s : Specifiers) (p : Place) (w : CompositeWord) (k : SpecifiersContext)
    → Ends (at_composite s p w k) (token (Name (120 ∷ [])) 0 ∷ specifiers_ending k)
ends_composite_state s p w k =
    from _ (token (Name (120 ∷ [])) 0 ∷ specifiers_ending k) (at_specifiers (composite_reference s p w 0 (120 ∷ [])) k) (specifiers_ending k)
    (read_composite s p w k _ _) (search (kept, arith)) (ends_typed k (composite_reference s p w 0 (120 ∷ [])) refl)

ends_enum_state : (s : Specifiers) (p : Place) (k : SpecifiersContext) → Ends (at_enum s p k) (token (Name (120 ∷ [])) 0 ∷ specifiers_ending k)
ends_enum_state s p k =
    from _ (token (Name (120 ∷ [])) 0 ∷ specifiers_ending k) (at_specifiers (enum_reference s p 0 (120 ∷ [])) k) (specifiers_ending k)
    (read_enum s p k _ _) (search (kept, arith)) (ends_typed k (enum_reference s p 0 (120 ∷ [])) refl)

ends_enumerator : (k : EnumContext) → Ends (at_enumerator k) (fresh_token (enum_context_names k) ∷ mark RightBrace ∷ enum_ending k)
ends_enumerator k =
    from _ (fresh_token (enum_context_names k) ∷ mark RightBrace ∷ enum_ending k) (after_enumerator no_enumerators 0 (fresh (enum_context_names k)) k)
    (mark RightBrace ∷ enum_ending k) (read_enumerator k _ _ ∙ else_go _ _ _ _ (fresh_new (enum_context_names k)))
    (search (kept, arith)) (enumerator_closed no_enumerators 0 (fresh (enum_context_names k)) k)

ends_enumerator_comma : (es : Enumerators) (e : Enumerator) (p : Place) (k : EnumContext)
    → Ends (after_enumerator_comma es e p k) (mark RightBrace ∷ enum_ending k)
ends_enumerator_comma es e p k =
    from _ (mark RightBrace ∷ enum_ending k) (close_enumeration k es e (comma p) 0) (enum_ending k) (read_enumerator_comma es e p k _ _)
    (search (kept, arith)) (ends_enum k es e (comma p))

ends_length : (k : Suffixed) (p : Place) → Ends (at_length k p) (mark RightBracket ∷ array_ending k)
ends_length k p =
    from _ (mark RightBracket ∷ array_ending k) (array_of k p no_length 0) (array_ending k) (read_length k p _ _) (search (kept, arith)) (ends_array k p no_length 0)

ends_parameters : (k : Suffixed) (p : Place) → Ends (at_parameters k p) (mark RightParen ∷ function_ending k)
ends_parameters k p =
    from _ (mark RightParen ∷ function_ending k) (function_of k p no_parameters 0) (function_ending k) (read_parameters k p _ _)
    (search (kept, arith)) (ends_function k p no_parameters 0)

ends_open : (p : Place) (k : ExpressionContext) → Ends (at_open p k) (zero_token ∷ mark RightParen ∷ expression_ending k)
ends_open p k =
    let ts : List Token = zero_token ∷ mark RightParen ∷ expression_ending k in
    from _ ts (at_expression (whole (in_parentheses p k))) ts (same_feed _ _ _ _ (open_start p k zero_token refl)) (search (kept, arith)) (ends_zero (whole (in_parentheses p k)))

ends_sizeof : (p : Place) (k : ExpressionContext) → Ends (at_sizeof p k) (zero_token ∷ expression_ending k)
ends_sizeof p k =
    let ts : List Token = zero_token ∷ expression_ending k in
    from _ ts (at_expression (operand (sizeof_frame p) k)) ts (sizeof_start p k ts refl) (search (kept, arith)) (ends_zero (operand (sizeof_frame p) k))

ends_sizeof_open : (p q : Place) (k : ExpressionContext) → Ends (at_sizeof_open p q k) (mark (TypeKeyword Int) ∷ mark RightParen ∷ expression_ending k)
ends_sizeof_open p q k =
    let s : Specifiers = type_words no_specifiers (first_word 0 Int) in
    from _ (mark (TypeKeyword Int) ∷ mark RightParen ∷ expression_ending k) (at_specifiers s (in_type_name (in_sizeof p q k))) (mark RightParen ∷ expression_ending k)
    (read_sizeof_open p q k _ _) (search (kept, arith)) (ends_typed (in_type_name (in_sizeof p q k)) s refl)

ends_arguments : (f : Expression) (p : Place) (k : ExpressionContext) → Ends (at_arguments f p k) (mark RightParen ∷ expression_ending k)
ends_arguments f p k =
    from _ (mark RightParen ∷ expression_ending k) (after_postfix (call_without f p 0) k) (expression_ending k) (read_arguments f p k _ _)
    (search (kept, arith)) (ends_postfix (call_without f p 0) k)

ends_access : (e : Expression) (p : Place) (o : Access) (k : ExpressionContext) → Ends (at_access e p o k) (token (Name (120 ∷ [])) 0 ∷ expression_ending k)
ends_access e p o k =
    from _ (token (Name (120 ∷ [])) 0 ∷ expression_ending k) (after_postfix (member e p o 0 (120 ∷ [])) k) (expression_ending k) (read_access e p o k _ _)
    (search (kept, arith)) (ends_postfix (member e p o 0 (120 ∷ [])) k)

-- What was read begins a file.
pub ends : (s : State) → Ends s (ending s)
unfolding ending
ends (at_file f) = (f, go_nil _, pre_list _)
ends (at_items is k) = ends_items is k
ends (at_statement k) = ends_empty k
ends (after_statement s k) = ends_statement k s
ends (at_labels k) = from _ (mark RightBrace ∷ groups_ending k) (close_groups k no_groups 0) (groups_ending k) (read_labels k (mark RightBrace) (groups_ending k)) (search (kept, arith)) (ends_groups k no_groups)
ends (after_default k p) =
    from _ (mark Colon ∷ label_ending k) (labelled k (default_label p 0)) (label_ending k) (read_after_default k p (mark Colon) (label_ending k)) (search (kept, arith)) (ends_labelled k (default_label p 0))
ends (at_condition h p k) = ends_condition h p k
ends (at_do_condition p s w k) = ends_do_condition p s w k
ends (after_do p s w q e l k) = ends_after_do p s w q e l k
ends (at_for p k) = ends_for p k
ends (at_for_first p q k) = ends_for_first p q k
ends (at_for_test p q f k) = ends_for_test p q f k
ends (at_for_step p q f c m k) = ends_for_step p q f c m k
ends (at_switch_body p q e l k) = ends_switch p q e l k
ends (at_jump p j k) = ends_jump p j k
ends (at_return p k) = ends_return p k
ends (at_initializer k) = ends_initializer k
ends (at_list_comma k p xs e q) = ends_list_comma k p xs e q
ends (after_list k p xs e c l) = ends_list k p xs e c l
ends (at_specifiers s k) = ends_specifiers_state s k
ends (at_composite s p w k) = ends_composite_state s p w k
ends (at_enum s p k) = ends_enum_state s p k
ends (at_members ms k) = ends_members ms k
ends (at_enumerator k) = ends_enumerator k
ends (after_enumerator es p x k) = enumerator_closed es p x k
ends (after_enumerator_comma es e p k) = ends_enumerator_comma es e p k
ends (at_declarator c k) = ends_declarator_state c k
ends (after_declarator d c k) = ends_after_declarator d c k
ends (at_abstract c k) = ends_abstract_state c k
ends (at_opened c p k) = ends_opened c p k
ends (after_abstract a c k) = ends_after_abstract a c k
ends (at_length k p) = ends_length k p
ends (at_parameters k p) = ends_parameters k p
ends (at_expression k) = ends_zero k
ends (after_postfix e k) = ends_postfix e k
ends (after_sizeof e k) = ends_expression k e
ends (at_open p k) = ends_open p k
ends (at_sizeof p k) = ends_sizeof p k
ends (at_sizeof_open p q k) = ends_sizeof_open p q k
ends (at_arguments f p k) = ends_arguments f p k
ends (at_access e p o k) = ends_access e p o k
