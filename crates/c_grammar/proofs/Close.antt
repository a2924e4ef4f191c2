-- Whatever was read, its ending makes it a file.
use Rattle.std.proofs.Common.{◌≡◌, ℕ, ◌<◌, Bool, true, false, cond, List, [], ◌∷◌, Option, Some, None, refl, sym, ◌∙◌, ap, subst, arith, lit<, suc, not}
use Rattle.std.proofs.lemmas.Bool.{lt-leb}
use Rattle.c_grammar.specs.Tokens.{Place, Decimal, Void, LeftBrace, RightBrace, RightParen, RightBracket, Semicolon, Colon, Token}
use Rattle.c_grammar.specs.Derivations.{Qualifiers, first_word, Trailing, no_comma, Expression, constant, parenthesized, index, call, sizeof_type, cast, conditional, Arguments, TypeName, type_name, Specifiers, no_specifiers, type_words, composite, enumeration, Members, members, no_declarators, Enumerator, enumerator_value, Enumerators, Declarator, declared_name, pointer, parenthesized_declarator, array, function, Length, length_of, AbstractDeclarator, no_declarator, abstract_pointer, parenthesized_abstract, abstract_array, abstract_function, Parameters, EarlierParameters, no_earlier, Parameter, named_parameter, unnamed_parameter, no_initializer, initializer, initializer_list, InitDeclarator, init_declarator, InitDeclarators, no_init_declarators, Declaration, specifiers_alone, declaration, ForFirst, for_expression, for_declaration, Label, case_label, first_label, next_label, Statement, block, empty_statement, expression_statement, if_statement, if_else, while_statement, do_statement, for_statement, switch_statement, return_statement, Items, no_items, declaration_item, statement_item, Groups, no_groups, group, File, external_declaration, function_definition}
use Rattle.c_grammar.specs.Spelling.{declares_types, has_type, is_some_declarator, is_function_head}
use Rattle.c_grammar.specs.Contexts.{StatementContext, then_of, else_of, while_body, do_body, for_body, item_of, ItemsContext, block_of, function_body, group_of, GroupsContext, switch_of, LabelContext, new_group, another_label, DeclarationContext, in_file, in_items, in_for_head, InitializerContext, initializer_of, StatementHole, of_statement, of_return, of_if, of_while, of_do, of_switch, of_for_first, of_for_test, of_for_step, of_case, of_initializer, of_list, Frame, cast_frame, binary_frame, conditional_frame, Chain, top, starred, opened, ExpressionContext, operand, whole, Hole, in_parentheses, in_index, in_argument, in_middle, in_length, in_enumerator, in_statement, Suffixed, of_declarator, of_abstract, SpecifiersContext, in_declaration, in_member, in_parameter, in_type_name, TypeNameContext, in_cast, in_sizeof, CompositeContext, in_composite, EnumContext, in_enumeration, DeclaratorContext, init_context, member_context, parameter_context, AbstractContext, parameter_abstract, type_name_abstract, statement_context_names, composite_context_names, complete, frame_need, hole_need}
use Rattle.c_grammar.specs.Machine.{State, at_file, at_items, at_statement, after_statement, at_for_test, at_for_step, at_switch_body, after_list, at_specifiers, after_declarator, after_abstract, at_expression, after_postfix, after_sizeof, binds, declared, declared_alone, array_of, function_of, lone_list, list_of, type_named, close_composite, close_enumeration, close_groups, close_items, labelled, on_hole, kind_of, climb, on_after, go}
use Rattle.c_grammar.proofs.Steps.{cond_true, cond_false, not_false, same_feed, one}
use Rattle.c_grammar.proofs.OneToken.{then_go, else_go, read_items, read_statement, read_after, read_labels, read_do_condition, read_after_do, read_for_test, read_for_step, read_switch_body, read_after_list, read_specifiers, read_members, read_direct, read_direct_abstract, read_expression, read_after_sizeof}
use Rattle.c_grammar.proofs.Parts.{is_postfix, reduce, feed_postfix, is_suffix, feed_direct, closes_abstract, feed_direct_abstract}
use Rattle.c_grammar.proofs.Complete.{is_else, after_then}
use Rattle.c_grammar.specs.Nesting.{type_name_nest, specifiers_nest, members_nest, declarator_nest, inner_nest, abstract_nest, direct_nest, parameters_nest, earlier_nest, parameter_nest, init_declarator_nest, init_declarators_nest, file_nest}
use Rattle.c_grammar.proofs.Nests.{declaration_depth, chain_in, function_depth, type_name_depth, composite_depth, declarator_depth, abstract_depth, declaration_nests, chain_nest, head_nest, array_nests, function_nests, type_name_nests, composite_nests, declarator_nests, abstract_nests, after_declarator_nests, state_nest}
use Rattle.c_grammar.proofs.Below.{Pre, pre_nil, pre_cons, pre_list, specifiers_pre, declarator_pre, inner_pre, earlier_pre, parameter_pre, file_pre, chain_pre, function_pres, declarator_pres, abstract_pres, pre_trans, kept}
use Rattle.c_grammar.proofs.Rises.{whole_nest}
use Rattle.c_grammar.proofs.Endings.{fresh, fresh_new, mark, zero_token, statement_ending, items_ending, groups_ending, label_ending, declaration_ending, alone_ending, initializer_ending, statement_hole_ending, chain_ending, only_stars, may_define, expression_ending, hole_ending, array_ending, function_ending, specifiers_ending, type_name_ending, composite_ending, enum_ending, declarator_ending, abstract_ending}

-- The tokens end the state as a file, which begins with these nestings.
abbrev pub EndsWith : List ℕ → State → List Token → Type 0
EndsWith xs s ts = (f : File) × (go (Some s) ts ≡ Some (at_file f)) × Pre xs (file_nest f [])

-- The tokens end the state as a file, and nest nothing that was read deeper.
abbrev pub Ends : State → List Token → Type 0
Ends s ts = EndsWith (state_nest s []) s ts

-- a state that goes on as another one
pub from : (s : State) (ts : List Token) (s' : State) (ts' : List Token) → go (Some s) ts ≡ go (Some s') ts'
    → Pre (state_nest s []) (state_nest s' []) → Ends s' ts' → Ends s ts
from s ts s' ts' e p h = (h.0, e ∙ h.1, pre_trans (state_nest s []) (state_nest s' []) (file_nest h.0 []) p h.2)

pub from_with : (xs : List ℕ) (s : State) (ts : List Token) (ys : List ℕ) (s' : State) (ts' : List Token) → go (Some s) ts ≡ go (Some s') ts'
    → Pre xs ys → EndsWith ys s' ts' → EndsWith xs s ts
from_with xs s ts ys s' ts' e p h = (h.0, e ∙ h.1, pre_trans xs ys (file_nest h.0 []) p h.2)

pub go_nil : (s : State) → go (Some s) [] ≡ Some s
unfolding go
go_nil s = refl

pub cond_ends : (s : State) (b : Bool) (ts us : List Token) → (b ≡ true → Ends s ts) → (b ≡ false → Ends s us) → Ends s (cond b ts us)
cond_ends s true ts us h g = h refl
cond_ends s false ts us h g = g refl

-- ## Statements

-- the first token is no `else`
abbrev pub NoElse : List Token → Type 0
NoElse [] = ⊥
NoElse (t ∷ ts) = is_else (kind_of t) ≡ false

pub no_else_ending : (k : StatementContext) → NoElse (statement_ending k)
no_else_ending (then_of p q e l k) = no_else_ending k
no_else_ending (else_of p q e l a m k) = no_else_ending k
no_else_ending (while_body p q e l k) = no_else_ending k
no_else_ending (do_body p k) = refl
no_else_ending (for_body p q f c m u l k) = no_else_ending k
no_else_ending (item_of is k) = refl

pub then_step : (p q : Place) (e : Expression) (l : Place) (s : Statement) (k : StatementContext) (ts : List Token) → NoElse ts
    → go (Some (after_statement s (then_of p q e l k))) ts ≡ go (Some (after_statement (if_statement p q e l s) k)) ts
then_step p q e l s k [] h = absurd h
then_step p q e l s k (t ∷ ts) h =
    read_after s (then_of p q e l k) t ts ∙ ap (λ o. go o ts) (after_then p q e l s k (on_after (if_statement p q e l s) k t) t h)
    ∙ sym (read_after (if_statement p q e l s) k t ts)

-- a context that ends with its statement
pub step_out : (s s' : Statement) (k k' : StatementContext) (ts : List Token) → ((t : Token) → on_after s k t ≡ on_after s' k' t) → NoElse ts
    → go (Some (after_statement s k)) ts ≡ go (Some (after_statement s' k')) ts
step_out s s' k k' [] f h = absurd h
step_out s s' k k' (t ∷ ts) f h = read_after s k t ts ∙ ap (λ o. go o ts) (f t) ∙ sym (read_after s' k' t ts)

pub zero_step : (k : ExpressionContext) (ts : List Token) → go (Some (at_expression k)) (zero_token ∷ ts) ≡ go (Some (after_postfix (constant 0 (Decimal 0)) k)) ts
zero_step k ts = read_expression k zero_token ts

-- the constant in a context that the next token ends
pub zero_closed : (h : Hole) (t : Token) (ts : List Token) → is_postfix (kind_of t) ≡ false → binds (kind_of t) < hole_need h
    → go (Some (at_expression (whole h))) (zero_token ∷ t ∷ ts) ≡ go (on_hole h (constant 0 (Decimal 0)) t) ts
zero_closed h t ts np b =
    zero_step (whole h) _ ∙ one _ t _ ts (feed_postfix (constant 0 (Decimal 0)) (whole h) t np)
    ∙ else_go _ _ _ ts (lt-leb (hole_need h) (binds (kind_of t)) b)

mutual
  pub ends_statement : (k : StatementContext) (s : Statement) → Ends (after_statement s k) (statement_ending k)
  ends_statement (then_of p q e l k) s =
      from _ (statement_ending k) (after_statement (if_statement p q e l s) k) (statement_ending k) (then_step p q e l s k _ (no_else_ending k))
      (search (kept, arith)) (ends_statement k (if_statement p q e l s))
  ends_statement (else_of p q e l a m k) s =
      from _ (statement_ending k) (after_statement (if_else p q e l a m s) k) (statement_ending k)
      (step_out s (if_else p q e l a m s) (else_of p q e l a m k) k _ (λ t. refl) (no_else_ending k)) (search (kept, arith)) (ends_statement k (if_else p q e l a m s))
  ends_statement (while_body p q e l k) s =
      from _ (statement_ending k) (after_statement (while_statement p q e l s) k) (statement_ending k)
      (step_out s (while_statement p q e l s) (while_body p q e l k) k _ (λ t. refl) (no_else_ending k)) (search (kept, arith)) (ends_statement k (while_statement p q e l s))
  ends_statement (do_body p k) s =
      from _ (statement_ending (do_body p k)) (after_statement (do_statement p s 0 0 (constant 0 (Decimal 0)) 0 0) k) (statement_ending k)
      (read_after s (do_body p k) _ _ ∙ read_do_condition p s 0 k _ _ ∙ zero_closed (in_statement (of_do p s 0 0 k)) (mark RightParen) _ refl (lit< tt)
      ∙ read_after_do p s 0 0 (constant 0 (Decimal 0)) 0 k _ _) (search (kept, arith)) (ends_statement k (do_statement p s 0 0 (constant 0 (Decimal 0)) 0 0))
  ends_statement (for_body p q f c m u l k) s =
      from _ (statement_ending k) (after_statement (for_statement p q f c m u l s) k) (statement_ending k)
      (step_out s (for_statement p q f c m u l s) (for_body p q f c m u l k) k _ (λ t. refl) (no_else_ending k)) (search (kept, arith)) (ends_statement k (for_statement p q f c m u l s))
  ends_statement (item_of is k) s =
      from _ (mark RightBrace ∷ items_ending k) (close_items (statement_item is s) k 0) (items_ending k) (read_after s (item_of is k) _ _)
      (search (kept, arith)) (ends_closed k (statement_item is s))

  -- behind the brace that closes items
  pub ends_closed : (k : ItemsContext) (is : Items) → Ends (close_items is k 0) (items_ending k)
  ends_closed (block_of p k) is = ends_statement k (block p is 0)
  ends_closed (function_body f s d p) is = (function_definition f s d p is 0, go_nil _, pre_list _)
  ends_closed (group_of gs ls k) is = ends_groups k (group gs ls is)

  pub ends_groups : (k : GroupsContext) (gs : Groups) → Ends (close_groups k gs 0) (groups_ending k)
  ends_groups (switch_of p q e l m k) gs = ends_statement k (switch_statement p q e l m gs 0)

pub ends_items : (is : Items) (k : ItemsContext) → Ends (at_items is k) (mark RightBrace ∷ items_ending k)
ends_items is k = from _ (mark RightBrace ∷ items_ending k) (close_items is k 0) (items_ending k) (read_items is k _ _) (search (kept, arith)) (ends_closed k is)

pub ends_labelled : (k : LabelContext) (l : Label) → Ends (labelled k l) (label_ending k)
ends_labelled (new_group gs k) l = ends_items no_items (group_of gs (first_label l) k)
ends_labelled (another_label gs ls k) l = ends_items no_items (group_of gs (next_label ls l) k)

-- the empty statement in a context
pub ends_empty : (k : StatementContext) → Ends (at_statement k) (mark Semicolon ∷ statement_ending k)
ends_empty k =
    from _ (mark Semicolon ∷ statement_ending k) (after_statement (empty_statement 0) k) (statement_ending k) (read_statement k _ _) (search (kept, arith)) (ends_statement k (empty_statement 0))

pub ends_for_step : (p q : Place) (f : ForFirst) (c : Option Expression) (m : Place) (k : StatementContext)
    → Ends (at_for_step p q f c m k) (mark RightParen ∷ mark Semicolon ∷ statement_ending k)
ends_for_step p q f c m k =
    from _ (mark RightParen ∷ mark Semicolon ∷ statement_ending k) (at_statement (for_body p q f c m None 0 k)) (mark Semicolon ∷ statement_ending k)
    (read_for_step p q f c m k _ _) (search (kept, arith)) (ends_empty (for_body p q f c m None 0 k))

pub ends_for_test : (p q : Place) (f : ForFirst) (k : StatementContext)
    → Ends (at_for_test p q f k) (mark Semicolon ∷ mark RightParen ∷ mark Semicolon ∷ statement_ending k)
ends_for_test p q f k =
    from _ (mark Semicolon ∷ mark RightParen ∷ mark Semicolon ∷ statement_ending k) (at_for_step p q f None 0 k)
    (mark RightParen ∷ mark Semicolon ∷ statement_ending k) (read_for_test p q f k _ _) (search (kept, arith)) (ends_for_step p q f None 0 k)

pub ends_switch : (p q : Place) (e : Expression) (l : Place) (k : StatementContext)
    → Ends (at_switch_body p q e l k) (mark LeftBrace ∷ mark RightBrace ∷ statement_ending k)
ends_switch p q e l k =
    from _ (mark LeftBrace ∷ mark RightBrace ∷ statement_ending k) (close_groups (switch_of p q e l 0 k) no_groups 0) (statement_ending k)
    (read_switch_body p q e l k _ _ ∙ read_labels (switch_of p q e l 0 k) _ _) (search (kept, arith)) (ends_groups (switch_of p q e l 0 k) no_groups)

-- ## Declarations

pub ends_declared : (k : DeclarationContext) (d : Declaration) → Ends (declared k d) (declaration_ending k)
ends_declared (in_file f) d = (external_declaration f d, go_nil _, pre_list _)
ends_declared (in_items is k) d = ends_items (declaration_item is d) k
ends_declared (in_for_head p q k) d = ends_for_test p q (for_declaration d) k

-- behind a list of an initializer
pub ends_list : (k : InitializerContext) (q : Place) (xs : Arguments) (e : Expression) (c : Trailing) (l : Place) → Ends (after_list k q xs e c l) (initializer_ending k)
ends_list (initializer_of s ds d p k) q xs e c l =
    from _ (mark Semicolon ∷ declaration_ending k) (declared k (declaration s ds (init_declarator d (initializer_list p q xs e c l)) 0)) (declaration_ending k)
    (read_after_list (initializer_of s ds d p k) q xs e c l _ _) (search (kept, arith)) (ends_declared k (declaration s ds (init_declarator d (initializer_list p q xs e c l)) 0))

-- ## Behind a whole expression

-- the first token ends an expression
abbrev pub Closes : List Token → Type 0
Closes [] = ⊥
Closes (t ∷ ts) = (is_postfix (kind_of t) ≡ false) × (binds (kind_of t) ≡ 0)

pub initializer_closes : (k : InitializerContext) → Closes (initializer_ending k)
initializer_closes (initializer_of s ds d p k) = (refl, refl)

pub statement_hole_closes : (h : StatementHole) → Closes (statement_hole_ending h)
statement_hole_closes (of_initializer k) = initializer_closes k
statement_hole_closes _ = (refl, refl)

pub hole_closes : (h : Hole) → Closes (hole_ending h)
hole_closes (in_statement h) = statement_hole_closes h
hole_closes _ = (refl, refl)

pub closes : (k : ExpressionContext) → Closes (expression_ending k)
closes (operand f k) = closes k
closes (whole h) = hole_closes h

pub frame_need_positive : (f : Frame) → 0 < frame_need f
frame_need_positive (binary_frame a p o) = omega arith
frame_need_positive _ = lit< tt

pub postfix_closed : (e : Expression) (k : ExpressionContext) (ts : List Token) → Closes ts → go (Some (after_postfix e k)) ts ≡ go (Some (after_sizeof e k)) ts
postfix_closed e k [] h = absurd h
postfix_closed e k (t ∷ ts) h = one _ t _ ts (feed_postfix e k t h.0) ∙ sym (read_after_sizeof e k t ts)

pub operand_closed : (f : Frame) (e : Expression) (k : ExpressionContext) (ts : List Token) → Closes ts
    → go (Some (after_sizeof e (operand f k))) ts ≡ go (Some (after_sizeof (complete f e) k)) ts
operand_closed f e k [] h = absurd h
operand_closed f e k (t ∷ ts) h =
    read_after_sizeof e (operand f k) t ts ∙ ap (λ o. go o ts) (reduce f e k t (omega (arith, h.1, frame_need_positive f)))
    ∙ sym (read_after_sizeof (complete f e) k t ts)

pub hole_closed : (h : Hole) (e : Expression) (t : Token) (ts : List Token) → binds (kind_of t) < hole_need h
    → go (Some (after_sizeof e (whole h))) (t ∷ ts) ≡ go (on_hole h e t) ts
hole_closed h e t ts b = read_after_sizeof e (whole h) t ts ∙ else_go _ _ _ ts (lt-leb (hole_need h) (binds (kind_of t)) b)

pub zero_operand : (f : Frame) (k : ExpressionContext) (ts : List Token) → Closes ts
    → go (Some (at_expression (operand f k))) (zero_token ∷ ts) ≡ go (Some (after_sizeof (complete f (constant 0 (Decimal 0))) k)) ts
zero_operand f k ts h = zero_step (operand f k) ts ∙ postfix_closed (constant 0 (Decimal 0)) (operand f k) ts h ∙ operand_closed f (constant 0 (Decimal 0)) k ts h

pub zero_whole : (k : ExpressionContext) (ts : List Token) → Closes ts
    → go (Some (at_expression k)) (zero_token ∷ ts) ≡ go (Some (after_sizeof (constant 0 (Decimal 0)) k)) ts
zero_whole k ts h = zero_step k ts ∙ postfix_closed (constant 0 (Decimal 0)) k ts h

pub ends_statement_hole : (h : StatementHole) (e : Expression) → Ends (after_sizeof e (whole (in_statement h))) (statement_hole_ending h)
ends_statement_hole (of_statement k) e =
    from _ (statement_hole_ending (of_statement k)) (after_statement (expression_statement e 0) k) (statement_ending k)
    (hole_closed (in_statement (of_statement k)) e _ _ (lit< tt)) (search (kept, arith)) (ends_statement k (expression_statement e 0))
ends_statement_hole (of_return p k) e =
    from _ (statement_hole_ending (of_return p k)) (after_statement (return_statement p (Some e) 0) k) (statement_ending k)
    (hole_closed (in_statement (of_return p k)) e _ _ (lit< tt)) (search (kept, arith)) (ends_statement k (return_statement p (Some e) 0))
ends_statement_hole (of_if p q k) e =
    from _ (statement_hole_ending (of_if p q k)) (at_statement (then_of p q e 0 k)) (mark Semicolon ∷ statement_ending k)
    (hole_closed (in_statement (of_if p q k)) e _ _ (lit< tt)) (search (kept, arith)) (ends_empty (then_of p q e 0 k))
ends_statement_hole (of_while p q k) e =
    from _ (statement_hole_ending (of_while p q k)) (at_statement (while_body p q e 0 k)) (mark Semicolon ∷ statement_ending k)
    (hole_closed (in_statement (of_while p q k)) e _ _ (lit< tt)) (search (kept, arith)) (ends_empty (while_body p q e 0 k))
ends_statement_hole (of_do p s w q k) e =
    from _ (statement_hole_ending (of_do p s w q k)) (after_statement (do_statement p s w q e 0 0) k) (statement_ending k)
    (hole_closed (in_statement (of_do p s w q k)) e _ _ (lit< tt) ∙ read_after_do p s w q e 0 k _ _) (search (kept, arith)) (ends_statement k (do_statement p s w q e 0 0))
ends_statement_hole (of_switch p q k) e =
    from _ (statement_hole_ending (of_switch p q k)) (at_switch_body p q e 0 k) (mark LeftBrace ∷ mark RightBrace ∷ statement_ending k)
    (hole_closed (in_statement (of_switch p q k)) e _ _ (lit< tt)) (search (kept, arith)) (ends_switch p q e 0 k)
ends_statement_hole (of_for_first p q k) e =
    from _ (statement_hole_ending (of_for_first p q k)) (at_for_test p q (for_expression e 0) k) (mark Semicolon ∷ mark RightParen ∷ mark Semicolon ∷ statement_ending k)
    (hole_closed (in_statement (of_for_first p q k)) e _ _ (lit< tt)) (search (kept, arith)) (ends_for_test p q (for_expression e 0) k)
ends_statement_hole (of_for_test p q f k) e =
    from _ (statement_hole_ending (of_for_test p q f k)) (at_for_step p q f (Some e) 0 k) (mark RightParen ∷ mark Semicolon ∷ statement_ending k)
    (hole_closed (in_statement (of_for_test p q f k)) e _ _ (lit< tt)) (search (kept, arith)) (ends_for_step p q f (Some e) 0 k)
ends_statement_hole (of_for_step p q f c m k) e =
    from _ (statement_hole_ending (of_for_step p q f c m k)) (at_statement (for_body p q f c m (Some e) 0 k)) (mark Semicolon ∷ statement_ending k)
    (hole_closed (in_statement (of_for_step p q f c m k)) e _ _ (lit< tt)) (search (kept, arith)) (ends_empty (for_body p q f c m (Some e) 0 k))
ends_statement_hole (of_case k p) e =
    from _ (statement_hole_ending (of_case k p)) (labelled k (case_label p e 0)) (label_ending k)
    (hole_closed (in_statement (of_case k p)) e _ _ (lit< tt)) (search (kept, arith)) (ends_labelled k (case_label p e 0))
ends_statement_hole (of_initializer (initializer_of s ds d p k)) e =
    from _ (mark Semicolon ∷ declaration_ending k) (declared k (declaration s ds (init_declarator d (initializer p e)) 0)) (declaration_ending k)
    (hole_closed (in_statement (of_initializer (initializer_of s ds d p k))) e _ _ (lit< tt)) (search (kept, arith)) (ends_declared k (declaration s ds (init_declarator d (initializer p e)) 0))
ends_statement_hole (of_list k p xs) e =
    from _ (statement_hole_ending (of_list k p xs)) (after_list k p xs e no_comma 0) (initializer_ending k)
    (hole_closed (in_statement (of_list k p xs)) e _ _ (lit< tt)) (search (kept, arith)) (ends_list k p xs e no_comma 0)

-- ## Behind a whole declarator

-- the first token goes on no declarator
abbrev pub ClosesDeclarator : List Token → Type 0
ClosesDeclarator [] = ⊥
ClosesDeclarator (t ∷ ts) = (is_suffix (kind_of t) ≡ false)

pub chain_closes : (c : Chain) (ts : List Token) → ClosesDeclarator ts → ClosesDeclarator (chain_ending c ts)
chain_closes top ts h = h
chain_closes (starred p qs c) ts h = chain_closes c ts h
chain_closes (opened p c) ts h = refl

pub star_out : (d : Declarator) (p : Place) (qs : Qualifiers) (c : Chain) (k : DeclaratorContext) (ts : List Token) → ClosesDeclarator ts
    → go (Some (after_declarator d (starred p qs c) k)) ts ≡ go (Some (after_declarator (pointer p qs d) c k)) ts
star_out d p qs c k [] h = absurd h
star_out d p qs c k (t ∷ ts) h = same_feed _ _ t ts (feed_direct d (starred p qs c) k t h ∙ sym (feed_direct (pointer p qs d) c k t h))

-- a whole declarator in a chain, as no head of a function
abbrev pub chained_nests : Declarator → Chain → DeclaratorContext → List ℕ
chained_nests d c k = declarator_nests k (chain_nest c (declarator_depth k) (whole_nest d c (declarator_depth k) []))

pub star_chained : (d : Declarator) (p : Place) (qs : Qualifiers) (c : Chain) (k : DeclaratorContext)
    → Pre (chained_nests d (starred p qs c) k) (chained_nests (pointer p qs d) c k)
star_chained (declared_name q x) p qs c k = pre_list _
star_chained (pointer q rs d) p qs c k = pre_list _
star_chained (parenthesized_declarator q d l) p qs c k = pre_list _
star_chained (array d q m l) p qs c k = pre_list _
star_chained (function d q ps l) p qs c k = pre_list _

pub opened_whole : (d : Declarator) (p : Place) (c : Chain) (n : ℕ) (r r' : List ℕ) → Pre r r' → Pre (whole_nest d (opened p c) n r) (declarator_nest d (chain_in c n) r')
opened_whole (declared_name q x) p c n r r' k = declarator_pre (declared_name q x) (chain_in c n) (chain_in c n) r r' refl k
opened_whole (pointer q qs d) p c n r r' k = declarator_pre (pointer q qs d) (chain_in c n) (chain_in c n) r r' refl k
opened_whole (parenthesized_declarator q d l) p c n r r' k = declarator_pre (parenthesized_declarator q d l) (chain_in c n) (chain_in c n) r r' refl k
opened_whole (array d q m l) p c n r r' k = declarator_pre (array d q m l) (chain_in c n) (chain_in c n) r r' refl k
opened_whole (function d q ps l) p c n r r' k = declarator_pre (function d q ps l) (chain_in c n) (chain_in c n) r r' refl k

pub top_whole : (d : Declarator) (n : ℕ) (r r' : List ℕ) → Pre r r' → Pre (whole_nest d top n r) (declarator_nest d n r')
top_whole (declared_name q x) n r r' k = declarator_pre (declared_name q x) n n r r' refl k
top_whole (pointer q qs d) n r r' k = declarator_pre (pointer q qs d) n n r r' refl k
top_whole (parenthesized_declarator q d l) n r r' k = declarator_pre (parenthesized_declarator q d l) n n r r' refl k
top_whole (array d q m l) n r r' k = declarator_pre (array d q m l) n n r r' refl k
top_whole (function d q ps l) n r r' k = declarator_pre (function d q ps l) n n r r' refl k

pub ends_chain : (k : DeclaratorContext) (ts : List Token) → ClosesDeclarator ts
    → ((d : Declarator) → EndsWith (chained_nests d top k) (after_declarator d top k) ts) → (c : Chain) (d : Declarator)
    → EndsWith (chained_nests d c k) (after_declarator d c k) (chain_ending c ts)
ends_chain k ts h base top d = base d
ends_chain k ts h base (starred p qs c) d =
    from_with _ _ (chain_ending c ts) (chained_nests (pointer p qs d) c k) (after_declarator (pointer p qs d) c k) (chain_ending c ts)
    (star_out d p qs c k _ (chain_closes c ts h)) (star_chained d p qs c k) (ends_chain k ts h base c (pointer p qs d))
ends_chain k ts h base (opened p c) d =
    let n : ℕ = declarator_depth k in
    let m : ℕ = chain_in c n in
    from_with _ _ (mark RightParen ∷ chain_ending c ts) (chained_nests (parenthesized_declarator p d 0) c k) (after_declarator (parenthesized_declarator p d 0) c k)
    (chain_ending c ts) (read_direct d (opened p c) k _ _)
    (declarator_pres k _ _ (chain_pre c n (m ∷ whole_nest d (opened p c) n []) (m ∷ declarator_nest d m (m ∷ [])) (pre_cons m m _ _ refl (opened_whole d p c n [] (m ∷ []) (pre_nil _)))))
    (ends_chain k ts h base c (parenthesized_declarator p d 0))

-- the first token ends an abstract declarator
abbrev pub ClosesAbstract : List Token → Type 0
ClosesAbstract [] = ⊥
ClosesAbstract (t ∷ ts) = (closes_abstract (kind_of t) ≡ true)

pub abstract_chain_closes : (c : Chain) (ts : List Token) → ClosesAbstract ts → ClosesAbstract (chain_ending c ts)
abstract_chain_closes top ts h = h
abstract_chain_closes (starred p qs c) ts h = abstract_chain_closes c ts h
abstract_chain_closes (opened p c) ts h = refl

pub abstract_star_out : (a : AbstractDeclarator) (p : Place) (qs : Qualifiers) (c : Chain) (k : AbstractContext) (ts : List Token) → ClosesAbstract ts
    → go (Some (after_abstract a (starred p qs c) k)) ts ≡ go (Some (after_abstract (abstract_pointer p qs a) c k)) ts
abstract_star_out a p qs c k [] h = absurd h
abstract_star_out a p qs c k (t ∷ ts) h =
    same_feed _ _ t ts (feed_direct_abstract a (starred p qs c) k t h ∙ sym (feed_direct_abstract (abstract_pointer p qs a) c k t h))

pub ends_abstract_chain : (k : AbstractContext) (ts : List Token) → ClosesAbstract ts → ((a : AbstractDeclarator) → Ends (after_abstract a top k) ts) → (c : Chain)
    (a : AbstractDeclarator) → is_some_declarator a ≡ true → Ends (after_abstract a c k) (chain_ending c ts)
ends_abstract_chain k ts h base top a s = base a
ends_abstract_chain k ts h base (starred p qs c) a s =
    from _ (chain_ending c ts) (after_abstract (abstract_pointer p qs a) c k) (chain_ending c ts) (abstract_star_out a p qs c k _ (abstract_chain_closes c ts h))
    (search (kept, arith)) (ends_abstract_chain k ts h base c (abstract_pointer p qs a) refl)
ends_abstract_chain k ts h base (opened p c) a s =
    from _ (mark RightParen ∷ chain_ending c ts) (after_abstract (parenthesized_abstract p a 0) c k) (chain_ending c ts)
    (read_direct_abstract a (opened p c) k _ _ ∙ then_go _ _ _ _ s) (search (kept, arith)) (ends_abstract_chain k ts h base c (parenthesized_abstract p a 0) refl)

-- the body of a function behind its head
pub body_climbs : (c : Chain) (d : Declarator) (s : Specifiers) (f : File) → only_stars c ≡ true → is_function_head d ≡ true → declares_types s ≡ false
    → (d' : Declarator) × (climb d c (init_context s no_init_declarators (in_file f)) (mark LeftBrace) ≡ Some (at_items no_items (function_body f s d' 0)))
    × ((r : List ℕ) → head_nest c (inner_nest d 0 r) ≡ inner_nest d' 0 r)
body_climbs top d s f c h n = (d, cond_true _ _ _ h ∙ cond_false _ _ _ n, λ r. refl)
body_climbs (starred p qs c) d s f o h n = body_climbs c (pointer p qs d) s f o h n
body_climbs (opened p c) d s f o h n = let bad : false ≡ true = o in cc

pub both_true : (a b : Bool) → cond a b false ≡ true → (a ≡ true) × (b ≡ true)
both_true true b h = (refl, h)
both_true false b h = let bad : false ≡ true = h in cc

pub cond_pre : (b : Bool) (x y z : List ℕ) → b ≡ true → Pre x z → Pre (cond b x y) z
cond_pre true x y z e h = h
cond_pre false x y z e h = let bad : false ≡ true = e in cc

pub cond_pre_false : (b : Bool) (x y z : List ℕ) → b ≡ false → Pre y z → Pre (cond b x y) z
cond_pre_false false x y z e h = h
cond_pre_false true x y z e h = let bad : true ≡ false = e in cc

-- the nestings of a parameter list that may be that of a definition
pub picked_true : (b : Bool) (f g : ℕ → List ℕ) (m : ℕ) → b ≡ true → Pre (cond b (f (cond b 0 m)) (g (cond b 0 m))) (f 0)
picked_true true f g m e = pre_list _
picked_true false f g m e = let bad : false ≡ true = e in cc

pub picked_false : (b : Bool) (f g : ℕ → List ℕ) (m : ℕ) → b ≡ false → Pre (cond b (f (cond b 0 m)) (g (cond b 0 m))) (g m)
picked_false false f g m e = pre_list _
picked_false true f g m e = let bad : true ≡ false = e in cc

pub defined_nests : (d : Declarator) (c : Chain) (k : DeclaratorContext) (p : Place) (ps : Parameters) (q : Place) → may_define d c k ≡ true
    → Pre (after_declarator_nests (function d p ps q) c k []) (declarator_nests k (head_nest c (inner_nest (function d p ps q) 0 [])))
defined_nests d c k p ps q h =
    picked_true (may_define d c k) (λ i. declarator_nests k (head_nest c (inner_nest d 0 (i ∷ parameters_nest ps i (i ∷ [])))))
    (λ i. declarator_nests k (chain_nest c (declarator_depth k) (inner_nest d (chain_in c (declarator_depth k)) (i ∷ parameters_nest ps i (i ∷ [])))))
    (chain_in c (declarator_depth k)) h

pub undefined_nests : (d : Declarator) (c : Chain) (k : DeclaratorContext) (p : Place) (ps : Parameters) (q : Place) → may_define d c k ≡ false
    → Pre (after_declarator_nests (function d p ps q) c k []) (chained_nests (function d p ps q) c k)
undefined_nests d c k p ps q h =
    picked_false (may_define d c k) (λ i. declarator_nests k (head_nest c (inner_nest d 0 (i ∷ parameters_nest ps i (i ∷ [])))))
    (λ i. declarator_nests k (chain_nest c (declarator_depth k) (inner_nest d (chain_in c (declarator_depth k)) (i ∷ parameters_nest ps i (i ∷ [])))))
    (chain_in c (declarator_depth k)) h

pub head_body : (f : File) (s : Specifiers) (xs : List ℕ) (d' : Declarator) → xs ≡ inner_nest d' 0 []
    → Pre (file_nest f (specifiers_nest s 0 xs)) (file_nest f (specifiers_nest s 0 (inner_nest d' 0 (1 ∷ []))))
head_body f s xs d' e =
    let P : List ℕ → Type 0 = λ ys. Pre (file_nest f (specifiers_nest s 0 ys)) (file_nest f (specifiers_nest s 0 (inner_nest d' 0 (1 ∷ [])))) in
    subst P (sym e) (file_pre f _ _ (specifiers_pre s 0 0 _ _ refl (inner_pre d' 0 0 [] (1 ∷ []) refl (pre_nil _))))

pub ends_body : (d : Declarator) (c : Chain) (k : DeclaratorContext) (p : Place) (ps : Parameters) (q : Place) → may_define d c k ≡ true
    → Ends (after_declarator (function d p ps q) c k) (mark LeftBrace ∷ mark RightBrace ∷ [])
ends_body (declared_name l x) c (init_context s no_init_declarators (in_file f)) p ps q h =
    let both : (only_stars c ≡ true) × (not (declares_types s) ≡ true) = both_true (only_stars c) (not (declares_types s)) h in
    let D : Declarator = function (declared_name l x) p ps q in
    let b : (d' : Declarator) × (climb D c (init_context s no_init_declarators (in_file f)) (mark LeftBrace) ≡ Some (at_items no_items (function_body f s d' 0)))
    × ((r : List ℕ) → head_nest c (inner_nest D 0 r) ≡ inner_nest d' 0 r) =
    body_climbs c D s f both.0 refl (not_false (declares_types s) both.1) in
    from _ (mark LeftBrace ∷ mark RightBrace ∷ []) (at_items no_items (function_body f s b.0 0)) (mark RightBrace ∷ [])
    (read_direct D c (init_context s no_init_declarators (in_file f)) (mark LeftBrace) _ ∙ ap (λ o. go o (mark RightBrace ∷ [])) b.1)
    (pre_trans _ _ _ (defined_nests (declared_name l x) c (init_context s no_init_declarators (in_file f)) p ps q h)
    (head_body f s (head_nest c (inner_nest D 0 [])) b.0 (b.2 [])))
    (ends_items no_items (function_body f s b.0 0))
ends_body _ c _ p ps q h = let bad : false ≡ true = h in cc

-- specifiers alone
pub alone_step : (s : Specifiers) (k : DeclarationContext) (ts : List Token) → has_type s ≡ true
    → go (Some (at_specifiers s (in_declaration k))) (mark Semicolon ∷ ts) ≡ go (declared_alone k (specifiers_alone s 0)) ts
alone_step s k ts h = read_specifiers s (in_declaration k) _ ts ∙ then_go _ _ _ ts h

pub ends_alone : (k : DeclarationContext) (s : Specifiers) → has_type s ≡ true → Ends (at_specifiers s (in_declaration k)) (alone_ending k)
ends_alone (in_file f) s h = (external_declaration f (specifiers_alone s 0), alone_step s (in_file f) [] h ∙ go_nil _, search (kept, arith))
ends_alone (in_items is k) s h =
    from _ (mark Semicolon ∷ mark RightBrace ∷ items_ending k) (at_items (declaration_item is (specifiers_alone s 0)) k) (mark RightBrace ∷ items_ending k)
    (alone_step s (in_items is k) _ h) (search (kept, arith)) (ends_items (declaration_item is (specifiers_alone s 0)) k)
ends_alone (in_for_head p q k) s h =
    let d : InitDeclarator = init_declarator (declared_name 0 (fresh (statement_context_names k))) no_initializer in
    from _ (alone_ending (in_for_head p q k)) (declared (in_for_head p q k) (declaration s no_init_declarators d 0)) (declaration_ending (in_for_head p q k))
    (read_specifiers s (in_declaration (in_for_head p q k)) _ _ ∙ then_go _ _ _ _ h ∙ else_go _ _ _ _ (fresh_new (statement_context_names k))
    ∙ read_direct (declared_name 0 (fresh (statement_context_names k))) top (init_context s no_init_declarators (in_for_head p q k)) _ _)
    (search (kept, arith)) (ends_declared (in_for_head p q k) (declaration s no_init_declarators d 0))

pub declarator_closes : (k : DeclaratorContext) → ClosesDeclarator (declarator_ending k)
declarator_closes (init_context s ds k) = refl
declarator_closes (member_context ms s ds k) = refl
declarator_closes (parameter_context ps s k p) = refl

pub abstract_closes : (k : AbstractContext) → ClosesAbstract (abstract_ending k)
abstract_closes (parameter_abstract ps s k p) = refl
abstract_closes (type_name_abstract s k) = refl

-- the same tokens behind nestings that begin so
pub with_nests : (xs ys : List ℕ) (s : State) (ts : List Token) → Pre xs ys → EndsWith ys s ts → EndsWith xs s ts
with_nests xs ys s ts p h = (h.0, h.1, pre_trans xs ys (file_nest h.0 []) p h.2)

pub declared_pre : (k : DeclarationContext) (s : Specifiers) (ds : InitDeclarators) (d : InitDeclarator) (p : Place)
    → Pre (declaration_nests k (specifiers_nest s (declaration_depth k) (init_declarators_nest ds (declaration_depth k) (init_declarator_nest d (declaration_depth k) []))))
    (state_nest (declared k (declaration s ds d p)) [])
declared_pre (in_file f) s ds d p = search (kept, arith)
declared_pre (in_items is k) s ds d p = search (kept, arith)
declared_pre (in_for_head q l k) s ds d p = search (kept, arith)

pub closed_composite : (k : CompositeContext) (ms : Members) (l : Place)
    → Pre (composite_nests k (members_nest ms (composite_depth k) [])) (state_nest (close_composite k ms l) [])
closed_composite (in_composite s p w t q k) ms l = search (kept, arith)

pub lone_list_pre : (s : Specifiers) (n : ℕ) (r r' : List ℕ) → Pre r r' → Pre (specifiers_nest s n r) (parameters_nest (lone_list s) n r')
lone_list_pre (type_words no_specifiers (first_word p Void)) n r r' h = pre_cons n n r r' refl h
lone_list_pre s n r r' h = specifiers_pre s n n r r' refl h

pub lists_pre : (ps : EarlierParameters) (x : Parameter) (n : ℕ) (r r' : List ℕ) → Pre r r'
    → Pre (earlier_nest ps n (parameter_nest x n r)) (parameters_nest (list_of ps x) n r')
lists_pre no_earlier (unnamed_parameter s no_declarator) n r r' h = lone_list_pre s n r r' h
lists_pre ps x n r r' h = earlier_pre ps n n _ _ refl (parameter_pre x n n r r' refl h)

pub function_pre_of : (k : Suffixed) (p : Place) (ps : Parameters) (q : Place) (xs : List ℕ)
    → Pre xs (parameters_nest ps (function_depth k) (function_depth k ∷ [])) → Pre (function_nests k (function_depth k ∷ xs)) (state_nest (function_of k p ps q) [])
function_pre_of (of_declarator d c k) p ps q xs h = function_pres (of_declarator d c k) _ _ (pre_cons _ _ _ _ refl h)
function_pre_of (of_abstract a c k) p ps q xs h = function_pres (of_abstract a c k) _ _ (pre_cons _ _ _ _ refl h)

pub listed_pre : (ps : EarlierParameters) (x : Parameter) (k : Suffixed) (p q : Place)
    → Pre (function_nests k (function_depth k ∷ earlier_nest ps (function_depth k) (parameter_nest x (function_depth k) [])))
    (state_nest (function_of k p (list_of ps x) q) [])
listed_pre ps x k p q = function_pre_of k p (list_of ps x) q _ (lists_pre ps x (function_depth k) [] _ (pre_nil _))

pub named_pre : (k : TypeNameContext) (n : TypeName) (q : Place)
    → Pre (type_name_nests k (type_name_nest n (type_name_depth k) [])) (state_nest (type_named k n q) [])
named_pre (in_cast p k) n q = search (kept, arith)
named_pre (in_sizeof p l k) n q = search (kept, arith)

pub direct_abstract : (a : AbstractDeclarator) (n : ℕ) (r : List ℕ) → Pre (direct_nest a (suc n) r) (abstract_nest a n r)
direct_abstract no_declarator n r = pre_list _
direct_abstract (abstract_pointer p qs a) n r = pre_list _
direct_abstract (parenthesized_abstract p a q) n r = pre_list _
direct_abstract (abstract_array a p l q) n r = pre_list _
direct_abstract (abstract_function a p ps q) n r = pre_list _

pub array_whole : (a : AbstractDeclarator) (k : AbstractContext)
    → Pre (array_nests (of_abstract a top k) []) (abstract_nests k (abstract_nest a (abstract_depth k) []))
array_whole a k = abstract_pres k _ _ (direct_abstract a (abstract_depth k) [])

-- ## Behind whole parts

mutual
  pub ends_expression : (k : ExpressionContext) (e : Expression) → Ends (after_sizeof e k) (expression_ending k)
  ends_expression (operand f k) e =
      from _ (expression_ending k) (after_sizeof (complete f e) k) (expression_ending k) (operand_closed f e k _ (closes k)) (search (kept, arith)) (ends_expression k (complete f e))
  ends_expression (whole h) e = ends_hole h e

  ends_hole : (h : Hole) (e : Expression) → Ends (after_sizeof e (whole h)) (hole_ending h)
  ends_hole (in_parentheses p k) e =
      from _ (mark RightParen ∷ expression_ending k) (after_sizeof (parenthesized p e 0) k) (expression_ending k)
      (hole_closed (in_parentheses p k) e _ _ (lit< tt) ∙ postfix_closed (parenthesized p e 0) k _ (closes k)) (search (kept, arith)) (ends_expression k (parenthesized p e 0))
  ends_hole (in_index a p k) e =
      from _ (mark RightBracket ∷ expression_ending k) (after_sizeof (index a p e 0) k) (expression_ending k)
      (hole_closed (in_index a p k) e _ _ (lit< tt) ∙ postfix_closed (index a p e 0) k _ (closes k)) (search (kept, arith)) (ends_expression k (index a p e 0))
  ends_hole (in_argument f p xs k) e =
      from _ (mark RightParen ∷ expression_ending k) (after_sizeof (call f p xs e 0) k) (expression_ending k)
      (hole_closed (in_argument f p xs k) e _ _ (lit< tt) ∙ postfix_closed (call f p xs e 0) k _ (closes k)) (search (kept, arith)) (ends_expression k (call f p xs e 0))
  ends_hole (in_middle c p k) e =
      from _ (mark Colon ∷ zero_token ∷ expression_ending k) (after_sizeof (conditional c p e 0 (constant 0 (Decimal 0))) k) (expression_ending k)
      (hole_closed (in_middle c p k) e _ _ (lit< tt) ∙ zero_operand (conditional_frame c p e 0) k _ (closes k))
      (search (kept, arith)) (ends_expression k (conditional c p e 0 (constant 0 (Decimal 0))))
  ends_hole (in_length k p) e =
      from _ (mark RightBracket ∷ array_ending k) (array_of k p (length_of e) 0) (array_ending k) (hole_closed (in_length k p) e _ _ (lit< tt))
      (search (kept, arith)) (ends_array k p (length_of e) 0)
  ends_hole (in_enumerator es p x q k) e =
      from _ (mark RightBrace ∷ enum_ending k) (close_enumeration k es (enumerator_value p x q e) no_comma 0) (enum_ending k)
      (hole_closed (in_enumerator es p x q k) e _ _ (lit< tt)) (search (kept, arith)) (ends_enum k es (enumerator_value p x q e) no_comma)
  ends_hole (in_statement h) e = ends_statement_hole h e

  pub ends_array : (k : Suffixed) (p : Place) (n : Length) (q : Place) → Ends (array_of k p n q) (array_ending k)
  ends_array (of_declarator d c k) p n q = ends_chain k (declarator_ending k) (declarator_closes k) (λ x. ends_declarator k x) c (array d p n q)
  ends_array (of_abstract a c k) p n q =
      ends_abstract_chain k (abstract_ending k) (abstract_closes k) (λ x. ends_abstract k x) c (abstract_array a p n q) refl

  pub ends_function : (k : Suffixed) (p : Place) (ps : Parameters) (q : Place) → Ends (function_of k p ps q) (function_ending k)
  ends_function (of_declarator d c k) p ps q =
      cond_ends _ (may_define d c k) _ _ (λ h. ends_body d c k p ps q h)
      (λ h. with_nests _ _ _ _ (undefined_nests d c k p ps q h) (ends_chain k (declarator_ending k) (declarator_closes k) (λ x. ends_declarator k x) c (function d p ps q)))
  ends_function (of_abstract a c k) p ps q =
      ends_abstract_chain k (abstract_ending k) (abstract_closes k) (λ x. ends_abstract k x) c (abstract_function a p ps q) refl

  pub ends_typed : (k : SpecifiersContext) (s : Specifiers) → has_type s ≡ true → Ends (at_specifiers s k) (specifiers_ending k)
  ends_typed (in_declaration k) s h = ends_alone k s h
  ends_typed (in_member ms k) s h =
      let d : Declarator = declared_name 0 (fresh (composite_context_names k)) in
      from _ (specifiers_ending (in_member ms k)) (close_composite k (members ms s no_declarators d 0) 0) (composite_ending k)
      (read_specifiers s (in_member ms k) _ _ ∙ then_go _ _ _ _ h ∙ else_go _ _ _ _ (fresh_new (composite_context_names k))
      ∙ read_direct d top (member_context ms s no_declarators k) _ _ ∙ read_members (members ms s no_declarators d 0) k _ _)
      (search (kept, arith)) (ends_composite k (members ms s no_declarators d 0))
  ends_typed (in_parameter ps k p) s h =
      from _ (mark RightParen ∷ function_ending k) (function_of k p (list_of ps (unnamed_parameter s no_declarator)) 0) (function_ending k)
      (read_specifiers s (in_parameter ps k p) _ _ ∙ then_go _ _ _ _ h) (listed_pre ps (unnamed_parameter s no_declarator) k p 0) (ends_function k p (list_of ps (unnamed_parameter s no_declarator)) 0)
  ends_typed (in_type_name k) s h =
      from _ (mark RightParen ∷ type_name_ending k) (type_named k (type_name s no_declarator) 0) (type_name_ending k)
      (read_specifiers s (in_type_name k) _ _ ∙ then_go _ _ _ _ h) (search (kept, arith)) (ends_type_name k (type_name s no_declarator))

  pub ends_type_name : (k : TypeNameContext) (t : TypeName) → Ends (type_named k t 0) (type_name_ending k)
  ends_type_name (in_cast p k) t =
      from _ (zero_token ∷ expression_ending k) (after_sizeof (cast p t 0 (constant 0 (Decimal 0))) k) (expression_ending k)
      (zero_operand (cast_frame p t 0) k _ (closes k)) (search (kept, arith)) (ends_expression k (cast p t 0 (constant 0 (Decimal 0))))
  ends_type_name (in_sizeof p q k) t = ends_expression k (sizeof_type p q t 0)

  pub ends_composite : (k : CompositeContext) (ms : Members) → Ends (close_composite k ms 0) (composite_ending k)
  ends_composite (in_composite s p w t q k) ms = ends_typed k (composite s p w t q ms 0) refl

  pub ends_enum : (k : EnumContext) (es : Enumerators) (e : Enumerator) (c : Trailing) → Ends (close_enumeration k es e c 0) (enum_ending k)
  ends_enum (in_enumeration s p t q k) es e c = ends_typed k (enumeration s p t q es e c 0) refl

  pub ends_declarator : (k : DeclaratorContext) (d : Declarator) → EndsWith (chained_nests d top k) (after_declarator d top k) (declarator_ending k)
  ends_declarator (init_context s ds k) d =
      from_with _ _ (mark Semicolon ∷ declaration_ending k) (state_nest (declared k (declaration s ds (init_declarator d no_initializer) 0)) [])
      (declared k (declaration s ds (init_declarator d no_initializer) 0)) (declaration_ending k) (read_direct d top (init_context s ds k) _ _)
      (pre_trans _ _ _ (declarator_pres (init_context s ds k) _ _ (top_whole d (declaration_depth k) [] [] (pre_nil _))) (declared_pre k s ds (init_declarator d no_initializer) 0))
      (ends_declared k (declaration s ds (init_declarator d no_initializer) 0))
  ends_declarator (member_context ms s ds k) d =
      from_with _ _ (mark Semicolon ∷ mark RightBrace ∷ composite_ending k) (state_nest (close_composite k (members ms s ds d 0) 0) [])
      (close_composite k (members ms s ds d 0) 0) (composite_ending k) (read_direct d top (member_context ms s ds k) _ _ ∙ read_members (members ms s ds d 0) k _ _)
      (pre_trans _ _ _ (declarator_pres (member_context ms s ds k) _ _ (top_whole d (composite_depth k) [] (composite_depth k ∷ []) (pre_nil _)))
      (closed_composite k (members ms s ds d 0) 0)) (ends_composite k (members ms s ds d 0))
  ends_declarator (parameter_context ps s k p) d =
      from_with _ _ (mark RightParen ∷ function_ending k) (state_nest (function_of k p (list_of ps (named_parameter s d)) 0) [])
      (function_of k p (list_of ps (named_parameter s d)) 0) (function_ending k) (read_direct d top (parameter_context ps s k p) _ _)
      (pre_trans _ _ _ (declarator_pres (parameter_context ps s k p) _ _ (top_whole d (function_depth k) [] [] (pre_nil _)))
      (listed_pre ps (named_parameter s d) k p 0)) (ends_function k p (list_of ps (named_parameter s d)) 0)

  pub ends_abstract : (k : AbstractContext) (a : AbstractDeclarator) → Ends (after_abstract a top k) (abstract_ending k)
  ends_abstract (parameter_abstract ps s k p) a =
      from _ (mark RightParen ∷ function_ending k) (function_of k p (list_of ps (unnamed_parameter s a)) 0) (function_ending k)
      (read_direct_abstract a top (parameter_abstract ps s k p) _ _) (pre_trans _ _ _ (array_whole a (parameter_abstract ps s k p)) (listed_pre ps (unnamed_parameter s a) k p 0)) (ends_function k p (list_of ps (unnamed_parameter s a)) 0)
  ends_abstract (type_name_abstract s k) a =
      from _ (mark RightParen ∷ type_name_ending k) (type_named k (type_name s a) 0) (type_name_ending k)
      (read_direct_abstract a top (type_name_abstract s k) _ _) (pre_trans _ _ _ (array_whole a (type_name_abstract s k)) (named_pre k (type_name s a) 0)) (ends_type_name k (type_name s a))
