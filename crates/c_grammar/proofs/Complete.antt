-- What the grammar spells is read.
use Rattle.std.proofs.Common.{◌≡◌, Bool, true, false, List, [], ◌∷◌, Option, Some, None, refl, sym, ◌∙◌, ap}
use Rattle.c_grammar.specs.Tokens.{Identifier, Place, Star, Equals, Kind, Name, Op, Assignment, JumpWord, If, Else, While, Do, For, Switch, Case, Default, Return, LeftBrace, RightBrace, LeftParen, RightParen, Semicolon, Comma, Colon, Token, token}
use Rattle.c_grammar.specs.Derivations.{Trailing, no_comma, comma, Expression, Arguments, no_arguments, argument, Specifiers, no_specifiers, Declarator, no_initializer, initializer, initializer_list, InitDeclarator, init_declarator, InitDeclarators, no_init_declarators, init_declarators, Declaration, specifiers_alone, declaration, ForFirst, for_nothing, for_expression, for_declaration, Label, case_label, default_label, Labels, first_label, next_label, Statement, block, empty_statement, expression_statement, if_statement, if_else, while_statement, do_statement, for_statement, switch_statement, jump_statement, return_statement, Items, no_items, declaration_item, statement_item, Groups, no_groups, group, File, empty_file, external_declaration, function_definition}
use Rattle.c_grammar.specs.Yield.{trailing_yield, expression_yield, arguments_yield, init_declarator_yield, init_declarators_yield, declaration_yield, optional_yield, for_first_yield, label_yield, labels_yield, statement_yield, items_yield, groups_yield, file_yield}
use Rattle.c_grammar.specs.Spelling.{declares_types, init_declarators_names, for_first_names, items_names, groups_names, file_names, has_type, ExpressionOk, ArgumentsOk, InitDeclaratorOk, InitDeclaratorsOk, DeclarationOk, has_declarators, OptionalOk, ForFirstOk, LabelOk, LabelsOk, takes_else, ends_with_items, StatementOk, ItemsOk, GroupsOk, FileOk}
use Rattle.c_grammar.specs.Contexts.{StatementContext, then_of, else_of, while_body, do_body, for_body, item_of, ItemsContext, block_of, function_body, group_of, GroupsContext, switch_of, LabelContext, new_group, another_label, DeclarationContext, in_file, in_items, in_for_head, InitializerContext, initializer_of, of_statement, of_return, of_if, of_while, of_do, of_switch, of_for_first, of_for_test, of_for_step, of_case, of_initializer, of_list, top, whole, in_statement, in_declaration, init_context, statement_context_names, items_context_names, groups_context_names, label_context_names, declaration_context_names, init_context_names, initializer_context_names}
use Rattle.c_grammar.specs.Machine.{Head, if_head, while_head, switch_head, State, at_file, at_items, at_statement, after_statement, at_labels, after_default, at_condition, at_for_first, at_for_test, at_for_step, at_return, after_list, at_specifiers, at_declarator, at_expression, begins_declaration, declared, declared_alone, close_groups, labelled, after_condition, on_init_declarator, on_initialized, kind_of, on_items, on_then, on_after, feed, go, start}
use Rattle.c_grammar.proofs.Steps.{tail_positive, level_positive, cond_true, FirstIs, begins_operand, begins_declarator, declarator_first, expression_first, declaration_first, one}
use Rattle.c_grammar.proofs.Starts.{starts, initializer_start, list_start, for_first_start, for_first_declaration, for_test_start, for_step_start, return_start, statement_start, begins_statement, item_statement, item_declaration}
use Rattle.c_grammar.proofs.OneToken.{then_go, else_go, read_statement, read_labels, read_after_default, read_condition, read_do_condition, read_after_do, read_for, read_for_first, read_for_test, read_for_step, read_switch_body, read_jump, read_return, read_initializer, read_list_comma, read_after_list, read_specifiers}
use Rattle.c_grammar.proofs.Parts.{end_expression, next_expression, end_declarator, next_declarator}
use Rattle.c_grammar.proofs.PartsRead.{run_expression, run_specifiers, run_declarator, run_to}

-- ## Declarations

-- specifiers alone are no first part of a `for`
abbrev pub TakesAlone : DeclarationContext → Declaration → Type 0
TakesAlone (in_for_head p q k) d = has_declarators d ≡ true
TakesAlone _ d = Unit {0}

alone_declared : (k : DeclarationContext) (s : Specifiers) (p : Place) → TakesAlone k (specifiers_alone s p)
    → declared_alone k (specifiers_alone s p) ≡ Some (declared k (specifiers_alone s p))
alone_declared (in_file f) s p h = refl
alone_declared (in_items is k) s p h = refl
alone_declared (in_for_head q l k) s p h = let bad : false ≡ true = h in cc

declarators_start : (ns : List Identifier) (s : Specifiers) (k : DeclarationContext) (t : Token) → has_type s ≡ true → begins_declarator ns (kind_of t) ≡ true
    → feed (at_specifiers s (in_declaration k)) t ≡ feed (at_declarator top (init_context s no_init_declarators k)) t
unfolding feed
declarators_start ns s k (token (Name x) p) h b = cond_true _ _ _ h
declarators_start ns s k (token (Op Star) p) h b = cond_true _ _ _ h
declarators_start ns s k (token LeftParen p) h b = cond_true _ _ _ h
declarators_start ns s k _ h b = let bad : false ≡ true = b in cc

init_first : (ns : List Identifier) (b : Bool) (d : InitDeclarator) (r : List Token) → InitDeclaratorOk b ns d → FirstIs (begins_declarator ns) (init_declarator_yield d r)
init_first ns b (init_declarator d i) r ok = declarator_first ns d _ ok.0

abbrev first_names : Bool → InitDeclarators → List Identifier → List Identifier
first_names b ds ns = ns

inits_first : (ns : List Identifier) (b : Bool) (ds : InitDeclarators) (d : InitDeclarator) (r : List Token) → InitDeclaratorsOk b ns ds
    → InitDeclaratorOk b (init_declarators_names b ds ns) d → FirstIs (begins_declarator ns) (init_declarators_yield ds (init_declarator_yield d r))
inits_first ns b no_init_declarators d r dok ok = init_first ns b d r ok
inits_first ns b (init_declarators ds x p) d r dok ok = inits_first ns b ds x _ dok.0 dok.1

run_list : (xs : Arguments) (k : InitializerContext) (p : Place) (e : Expression) (r : List Token) → ArgumentsOk (initializer_context_names k) xs
    → ExpressionOk (initializer_context_names k) e
    → go (Some (at_expression (whole (in_statement (of_list k p no_arguments))))) (arguments_yield xs (expression_yield e r))
    ≡ go (Some (end_expression e (whole (in_statement (of_list k p xs))))) r
run_list no_arguments k p e r xok ok = run_expression e (whole (in_statement (of_list k p no_arguments))) r ok (level_positive _ e ok)
run_list (argument xs x q) k p e r xok ok =
    run_list xs k p x _ xok.0 xok.1 ∙ next_expression _ x (whole (in_statement (of_list k p xs))) (token Comma q) _ xok.1 refl (tail_positive x)
    ∙ starts _ _ _ (list_start k p xs x q) _ (expression_first _ e r ok)
    ∙ run_expression e (whole (in_statement (of_list k p (argument xs x q)))) r ok (level_positive _ e ok)

close_list : (xs : Arguments) (k : InitializerContext) (p : Place) (e : Expression) (c : Trailing) (l : Place) (r : List Token)
    → ExpressionOk (initializer_context_names k) e
    → go (Some (end_expression e (whole (in_statement (of_list k p xs))))) (trailing_yield c (token RightBrace l ∷ r)) ≡ go (Some (after_list k p xs e c l)) r
close_list xs k p e no_comma l r ok = next_expression _ e (whole (in_statement (of_list k p xs))) (token RightBrace l) r ok refl (tail_positive e)
close_list xs k p e (comma q) l r ok =
    next_expression _ e (whole (in_statement (of_list k p xs))) (token Comma q) _ ok refl (tail_positive e) ∙ read_list_comma k p xs e q _ r

-- what stands behind a declarator with its initializer
abbrev EndsInit : Token → Type 0
EndsInit (token Comma p) = Unit {0}
EndsInit (token Semicolon p) = Unit {0}
EndsInit _ = ⊥

no_initializer_end : (d : Declarator) (s : Specifiers) (ds : InitDeclarators) (k : DeclarationContext) (t : Token) (r : List Token) → EndsInit t
    → go (Some (end_declarator d top (init_context s ds k))) (t ∷ r) ≡ go (on_init_declarator s ds k (init_declarator d no_initializer) t) r
no_initializer_end d s ds k (token Comma p) r h = next_declarator d top (init_context s ds k) (token Comma p) r refl
no_initializer_end d s ds k (token Semicolon p) r h = next_declarator d top (init_context s ds k) (token Semicolon p) r refl
no_initializer_end d s ds k _ r h = absurd h

initializer_end : (e : Expression) (k : InitializerContext) (t : Token) (r : List Token) → ExpressionOk (initializer_context_names k) e → EndsInit t
    → go (Some (at_expression (whole (in_statement (of_initializer k))))) (expression_yield e (t ∷ r)) ≡ go (on_initialized k e t) r
initializer_end e k (token Comma p) r ok h = run_to e (whole (in_statement (of_initializer k))) (token Comma p) r ok (level_positive _ e ok) refl (tail_positive e)
initializer_end e k (token Semicolon p) r ok h =
    run_to e (whole (in_statement (of_initializer k))) (token Semicolon p) r ok (level_positive _ e ok) refl (tail_positive e)
initializer_end e k _ r ok h = absurd h

run_init_declarator : (d : InitDeclarator) (s : Specifiers) (ds : InitDeclarators) (k : DeclarationContext) (t : Token) (r : List Token)
    → InitDeclaratorOk (declares_types s) (init_context_names s ds k) d → EndsInit t
    → go (Some (at_declarator top (init_context s ds k))) (init_declarator_yield d (t ∷ r)) ≡ go (on_init_declarator s ds k d t) r
run_init_declarator (init_declarator d no_initializer) s ds k t r ok h =
    run_declarator d top (init_context s ds k) _ ok.0 ∙ no_initializer_end d s ds k t r h
run_init_declarator (init_declarator d (initializer p e)) s ds k t r ok h =
    run_declarator d top (init_context s ds k) _ ok.0 ∙ next_declarator d top (init_context s ds k) (token (Assignment Equals) p) _ refl
    ∙ starts _ _ _ (initializer_start (initializer_of s ds d p k)) _ (expression_first _ e _ ok.1) ∙ initializer_end e (initializer_of s ds d p k) t r ok.1 h
run_init_declarator (init_declarator d (initializer_list p q xs e c l)) s ds k t r ok h =
    run_declarator d top (init_context s ds k) _ ok.0 ∙ next_declarator d top (init_context s ds k) (token (Assignment Equals) p) _ refl
    ∙ read_initializer (initializer_of s ds d p k) _ _ ∙ run_list xs (initializer_of s ds d p k) q e _ ok.1.0 ok.1.1
    ∙ close_list xs (initializer_of s ds d p k) q e c l (t ∷ r) ok.1.1 ∙ read_after_list (initializer_of s ds d p k) q xs e c l t r

run_init_declarators : (ds : InitDeclarators) (s : Specifiers) (k : DeclarationContext) (r : List Token)
    → InitDeclaratorsOk (declares_types s) (declaration_context_names k) ds
    → go (Some (at_declarator top (init_context s no_init_declarators k))) (init_declarators_yield ds r) ≡ go (Some (at_declarator top (init_context s ds k))) r
run_init_declarators no_init_declarators s k r ok = refl
run_init_declarators (init_declarators ds d p) s k r ok =
    run_init_declarators ds s k _ ok.0 ∙ run_init_declarator d s ds k (token Comma p) r ok.1 tt

pub run_declaration : (d : Declaration) (k : DeclarationContext) (r : List Token) → DeclarationOk (declaration_context_names k) d → TakesAlone k d
    → go (Some (at_specifiers no_specifiers (in_declaration k))) (declaration_yield d r) ≡ go (Some (declared k d)) r
run_declaration (specifiers_alone s p) k r ok h =
    run_specifiers s (in_declaration k) _ ok.0 (λ _. refl) ∙ read_specifiers s (in_declaration k) _ r ∙ then_go _ _ _ r ok.1
    ∙ ap (λ o. go o r) (alone_declared k s p h)
run_declaration (declaration s ds d p) k r ok h =
    run_specifiers s (in_declaration k) _ ok.0 (λ _. refl)
    ∙ starts (begins_declarator (declaration_context_names k)) _ _ (λ t b. declarators_start (declaration_context_names k) s k t ok.1 b) _
    (inits_first (declaration_context_names k) (declares_types s) ds d _ ok.2 ok.3) ∙ run_init_declarators ds s k _ ok.2
    ∙ run_init_declarator d s ds k (token Semicolon p) r ok.3 tt

pub declaration_begins : (ns : List Identifier) (d : Declaration) (r : List Token) → DeclarationOk ns d → FirstIs (begins_declaration ns) (declaration_yield d r)
declaration_begins ns (specifiers_alone s p) r ok = declaration_first ns s _ ok.0 ok.1
declaration_begins ns (declaration s ds d p) r ok = declaration_first ns s _ ok.0 ok.1

-- ## Behind a whole statement

abbrev pub end_statement : Statement → StatementContext → State
end_statement (if_statement p q e l s) k = end_statement s (then_of p q e l k)
end_statement (if_else p q e l a m b) k = end_statement b (else_of p q e l a m k)
end_statement (while_statement p q e l s) k = end_statement s (while_body p q e l k)
end_statement (for_statement p q f c m u l s) k = end_statement s (for_body p q f c m u l k)
end_statement s k = after_statement s k

abbrev pub is_else : Kind → Bool
is_else Else = true
is_else _ = false

-- the statement may end before the token
abbrev pub EndsBefore : Statement → Token → Type 0
EndsBefore s t = is_else (kind_of t) ≡ true → takes_else s ≡ false

pub no_else : (s : Statement) (t : Token) → is_else (kind_of t) ≡ false → EndsBefore s t
no_else s t h e = let bad : true ≡ false = sym e ∙ h in cc

pub after_then : (p q : Place) (e : Expression) (l : Place) (s : Statement) (k : StatementContext) (o : Option State) (t : Token)
    → is_else (kind_of t) ≡ false → on_then p q e l s k o t ≡ o
after_then p q e l s k o (token Else m) h = let bad : true ≡ false = h in cc
after_then p q e l s k o (token _ m) h = refl

pub if_ends : (b : Bool) → (b ≡ true → true ≡ false) → b ≡ false
if_ends true h = let bad : true ≡ false = h refl in cc
if_ends false h = refl

feed_after : (s : Statement) (k : StatementContext) (t : Token) → feed (after_statement s k) t ≡ on_after s k t
unfolding feed
feed_after s k t = refl

-- A whole statement goes on as its last part does.
weak_statement : (s : Statement) (k : StatementContext) (t : Token) → EndsBefore s t → feed (end_statement s k) t ≡ on_after s k t
weak_statement (if_statement p q e l s) k t h =
    let n : is_else (kind_of t) ≡ false = if_ends (is_else (kind_of t)) h in
    weak_statement s (then_of p q e l k) t (no_else s t n) ∙ after_then p q e l s k _ t n
weak_statement (if_else p q e l a m b) k t h = weak_statement b (else_of p q e l a m k) t h
weak_statement (while_statement p q e l s) k t h = weak_statement s (while_body p q e l k) t h
weak_statement (for_statement p q f c m u l s) k t h = weak_statement s (for_body p q f c m u l k) t h
weak_statement (block p is q) k t h = feed_after _ k t
weak_statement (empty_statement p) k t h = feed_after _ k t
weak_statement (expression_statement e p) k t h = feed_after _ k t
weak_statement (do_statement p s w q e l m) k t h = feed_after _ k t
weak_statement (switch_statement p q e l m gs n) k t h = feed_after _ k t
weak_statement (jump_statement p j q) k t h = feed_after _ k t
weak_statement (return_statement p e q) k t h = feed_after _ k t

next_statement : (s : Statement) (k : StatementContext) (t : Token) (ts : List Token) → EndsBefore s t
    → go (Some (end_statement s k)) (t ∷ ts) ≡ go (on_after s k t) ts
next_statement s k t ts h = one _ t _ ts (weak_statement s k t h)

abbrev pub end_items : Items → ItemsContext → State
end_items no_items k = at_items no_items k
end_items (declaration_item is d) k = at_items (declaration_item is d) k
end_items (statement_item is s) k = end_statement s (item_of is k)

feed_items : (is : Items) (k : ItemsContext) (t : Token) → feed (at_items is k) t ≡ on_items is k t
unfolding feed
feed_items is k t = refl

weak_items : (is : Items) (k : ItemsContext) (t : Token) → is_else (kind_of t) ≡ false → feed (end_items is k) t ≡ on_items is k t
weak_items no_items k t h = feed_items no_items k t
weak_items (declaration_item is d) k t h = feed_items (declaration_item is d) k t
weak_items (statement_item is s) k t h = weak_statement s (item_of is k) t (no_else s t h)

next_items : (is : Items) (k : ItemsContext) (t : Token) (ts : List Token) → is_else (kind_of t) ≡ false
    → go (Some (end_items is k)) (t ∷ ts) ≡ go (on_items is k t) ts
next_items is k t ts h = one _ t _ ts (weak_items is k t h)

abbrev pub end_groups : Groups → GroupsContext → State
end_groups no_groups k = at_labels k
end_groups (group gs ls is) k = end_items is (group_of gs ls k)

-- ## First tokens of statements

begins_no_else : (ns : List Identifier) (t : Kind) → begins_declaration ns t ≡ true → is_else t ≡ false
begins_no_else ns Else h = sym h
begins_no_else ns _ h = refl

statement_no_else : (ns : List Identifier) (t : Kind) → begins_statement ns t ≡ true → is_else t ≡ false
statement_no_else ns Else h = sym h
statement_no_else ns _ h = refl

operand_statement : (ns : List Identifier) (t : Kind) → begins_operand ns t ≡ true → begins_statement ns t ≡ true
operand_statement ns LeftBrace h = refl
operand_statement ns Semicolon h = refl
operand_statement ns If h = refl
operand_statement ns While h = refl
operand_statement ns Switch h = refl
operand_statement ns Do h = refl
operand_statement ns For h = refl
operand_statement ns (JumpWord j) h = refl
operand_statement ns Return h = refl
operand_statement ns _ h = h

first_more : (a b : Kind → Bool) → ((t : Kind) → a t ≡ true → b t ≡ true) → (ts : List Token) → FirstIs a ts → FirstIs b ts
first_more a b f [] h = h
first_more a b f (token t p ∷ ts) h = f t h

statement_begins : (ns : List Identifier) (s : Statement) (r : List Token) → StatementOk ns s → FirstIs (begins_statement ns) (statement_yield s r)
statement_begins ns (expression_statement e p) r ok = first_more _ _ (operand_statement ns) _ (expression_first ns e _ ok)
statement_begins ns (block p is q) r ok = refl
statement_begins ns (empty_statement p) r ok = refl
statement_begins ns (if_statement p q e l s) r ok = refl
statement_begins ns (if_else p q e l a m b) r ok = refl
statement_begins ns (while_statement p q e l s) r ok = refl
statement_begins ns (do_statement p s w q e l m) r ok = refl
statement_begins ns (for_statement p q f c m u l s) r ok = refl
statement_begins ns (switch_statement p q e l m gs n) r ok = refl
statement_begins ns (jump_statement p j q) r ok = refl
statement_begins ns (return_statement p e q) r ok = refl

item_statement_start : (is : Items) (k : ItemsContext) (t : Token) → begins_statement (items_names is (items_context_names k)) (kind_of t) ≡ true
    → feed (end_items is k) t ≡ feed (at_statement (item_of is k)) t
item_statement_start is k t h = weak_items is k t (statement_no_else (items_names is (items_context_names k)) (kind_of t) h) ∙ item_statement is k t h

item_declaration_start : (is : Items) (k : ItemsContext) (t : Token) → begins_declaration (items_names is (items_context_names k)) (kind_of t) ≡ true
    → feed (end_items is k) t ≡ feed (at_specifiers no_specifiers (in_declaration (in_items is k))) t
item_declaration_start is k t h = weak_items is k t (begins_no_else (items_names is (items_context_names k)) (kind_of t) h) ∙ item_declaration is k t h

-- ## The parts of statements

run_for_first : (f : ForFirst) (p q : Place) (k : StatementContext) (r : List Token) → ForFirstOk (statement_context_names k) f
    → go (Some (at_for_first p q k)) (for_first_yield f r) ≡ go (Some (at_for_test p q f k)) r
run_for_first (for_nothing l) p q k r ok = read_for_first p q k _ r
run_for_first (for_expression e l) p q k r ok =
    starts _ _ _ (for_first_start p q k) _ (expression_first _ e _ ok)
    ∙ run_to e (whole (in_statement (of_for_first p q k))) (token Semicolon l) r ok (level_positive _ e ok) refl (tail_positive e)
run_for_first (for_declaration d) p q k r ok =
    starts _ _ _ (for_first_declaration p q k) _ (declaration_begins _ d r ok.0) ∙ run_declaration d (in_for_head p q k) r ok.0 ok.1

run_for_test : (c : Option Expression) (p q : Place) (f : ForFirst) (m : Place) (k : StatementContext) (r : List Token)
    → OptionalOk (for_first_names f (statement_context_names k)) c
    → go (Some (at_for_test p q f k)) (optional_yield c (token Semicolon m ∷ r)) ≡ go (Some (at_for_step p q f c m k)) r
run_for_test None p q f m k r ok = read_for_test p q f k _ r
run_for_test (Some e) p q f m k r ok =
    starts _ _ _ (for_test_start p q f k) _ (expression_first _ e _ ok)
    ∙ run_to e (whole (in_statement (of_for_test p q f k))) (token Semicolon m) r ok (level_positive _ e ok) refl (tail_positive e)

run_for_step : (u : Option Expression) (p q : Place) (f : ForFirst) (c : Option Expression) (m l : Place) (k : StatementContext) (r : List Token)
    → OptionalOk (for_first_names f (statement_context_names k)) u
    → go (Some (at_for_step p q f c m k)) (optional_yield u (token RightParen l ∷ r)) ≡ go (Some (at_statement (for_body p q f c m u l k))) r
run_for_step None p q f c m l k r ok = read_for_step p q f c m k _ r
run_for_step (Some e) p q f c m l k r ok =
    starts _ _ _ (for_step_start p q f c m k) _ (expression_first _ e _ ok)
    ∙ run_to e (whole (in_statement (of_for_step p q f c m k))) (token RightParen l) r ok (level_positive _ e ok) refl (tail_positive e)

run_return : (e : Option Expression) (p q : Place) (k : StatementContext) (r : List Token) → OptionalOk (statement_context_names k) e
    → go (Some (at_return p k)) (optional_yield e (token Semicolon q ∷ r)) ≡ go (Some (after_statement (return_statement p e q) k)) r
run_return None p q k r ok = read_return p k _ r
run_return (Some e) p q k r ok =
    starts _ _ _ (return_start p k) _ (expression_first _ e _ ok)
    ∙ run_to e (whole (in_statement (of_return p k))) (token Semicolon q) r ok (level_positive _ e ok) refl (tail_positive e)

run_label : (l : Label) (s : State) (k : LabelContext) (r : List Token) → LabelOk (label_context_names k) l
    → ((p : Place) → feed s (token Case p) ≡ Some (at_expression (whole (in_statement (of_case k p)))))
    → ((p : Place) → feed s (token Default p) ≡ Some (after_default k p)) → go (Some s) (label_yield l r) ≡ go (Some (labelled k l)) r
run_label (case_label p e q) s k r ok c d =
    one _ _ _ _ (c p) ∙ run_to e (whole (in_statement (of_case k p))) (token Colon q) r ok.0 ok.1 refl (tail_positive e)
run_label (default_label p q) s k r ok c d = one _ _ _ _ (d p) ∙ read_after_default k p _ r

first_case : (gs : Groups) (k : GroupsContext) (p : Place) → ends_with_items gs ≡ true
    → feed (end_groups gs k) (token Case p) ≡ Some (at_expression (whole (in_statement (of_case (new_group gs k) p))))
unfolding feed
first_case no_groups k p h = refl
first_case (group gs ls no_items) k p h = let bad : false ≡ true = h in cc
first_case (group gs ls (declaration_item is d)) k p h = refl
first_case (group gs ls (statement_item is s)) k p h = weak_items (statement_item is s) (group_of gs ls k) (token Case p) refl

first_default : (gs : Groups) (k : GroupsContext) (p : Place) → ends_with_items gs ≡ true
    → feed (end_groups gs k) (token Default p) ≡ Some (after_default (new_group gs k) p)
unfolding feed
first_default no_groups k p h = refl
first_default (group gs ls no_items) k p h = let bad : false ≡ true = h in cc
first_default (group gs ls (declaration_item is d)) k p h = refl
first_default (group gs ls (statement_item is s)) k p h = weak_items (statement_item is s) (group_of gs ls k) (token Default p) refl

next_case : (gs : Groups) (ls : Labels) (k : GroupsContext) (p : Place)
    → feed (at_items no_items (group_of gs ls k)) (token Case p) ≡ Some (at_expression (whole (in_statement (of_case (another_label gs ls k) p))))
unfolding feed
next_case gs ls k p = refl

next_default : (gs : Groups) (ls : Labels) (k : GroupsContext) (p : Place)
    → feed (at_items no_items (group_of gs ls k)) (token Default p) ≡ Some (after_default (another_label gs ls k) p)
unfolding feed
next_default gs ls k p = refl

run_labels : (ls : Labels) (gs : Groups) (k : GroupsContext) (r : List Token) → LabelsOk (groups_names gs (groups_context_names k)) ls
    → ends_with_items gs ≡ true → go (Some (end_groups gs k)) (labels_yield ls r) ≡ go (Some (at_items no_items (group_of gs ls k))) r
run_labels (first_label l) gs k r ok h = run_label l (end_groups gs k) (new_group gs k) r ok (λ p. first_case gs k p h) (λ p. first_default gs k p h)
run_labels (next_label ls l) gs k r ok h =
    run_labels ls gs k _ ok.0 h
    ∙ run_label l (at_items no_items (group_of gs ls k)) (another_label gs ls k) r ok.1 (next_case gs ls k) (next_default gs ls k)

-- the end of a switch
groups_end : (gs : Groups) (k : GroupsContext) (q : Place) (r : List Token)
    → go (Some (end_groups gs k)) (token RightBrace q ∷ r) ≡ go (Some (close_groups k gs q)) r
groups_end no_groups k q r = read_labels k _ r
groups_end (group gs ls is) k q r = next_items is (group_of gs ls k) (token RightBrace q) r refl

run_condition : (h : Head) (e : Expression) (p q l : Place) (k : StatementContext) (r : List Token) → ExpressionOk (statement_context_names k) e
    → go (Some (at_condition h p k)) (token LeftParen q ∷ expression_yield e (token RightParen l ∷ r)) ≡ go (Some (after_condition h p q e l k)) r
run_condition if_head e p q l k r ok =
    read_condition if_head p k _ _ ∙ run_to e (whole (in_statement (of_if p q k))) (token RightParen l) r ok (level_positive _ e ok) refl (tail_positive e)
run_condition while_head e p q l k r ok =
    read_condition while_head p k _ _
    ∙ run_to e (whole (in_statement (of_while p q k))) (token RightParen l) r ok (level_positive _ e ok) refl (tail_positive e)
run_condition switch_head e p q l k r ok =
    read_condition switch_head p k _ _
    ∙ run_to e (whole (in_statement (of_switch p q k))) (token RightParen l) r ok (level_positive _ e ok) refl (tail_positive e)

-- ## Statements

mutual
  pub run_statement : (s : Statement) (k : StatementContext) (r : List Token) → StatementOk (statement_context_names k) s
      → go (Some (at_statement k)) (statement_yield s r) ≡ go (Some (end_statement s k)) r
  run_statement (block p is q) k r ok =
      read_statement k _ _ ∙ run_items is (block_of p k) _ ok ∙ next_items is (block_of p k) (token RightBrace q) r refl
  run_statement (empty_statement p) k r ok = read_statement k _ r
  run_statement (expression_statement e p) k r ok =
      starts _ _ _ (statement_start k) _ (expression_first _ e _ ok)
      ∙ run_to e (whole (in_statement (of_statement k))) (token Semicolon p) r ok (level_positive _ e ok) refl (tail_positive e)
  run_statement (if_statement p q e l s) k r ok =
      read_statement k _ _ ∙ run_condition if_head e p q l k _ ok.0 ∙ run_statement s (then_of p q e l k) r ok.1
  run_statement (if_else p q e l a m b) k r ok =
      read_statement k _ _ ∙ run_condition if_head e p q l k _ ok.0 ∙ run_statement a (then_of p q e l k) _ ok.1
      ∙ next_statement a (then_of p q e l k) (token Else m) _ (λ _. ok.2) ∙ run_statement b (else_of p q e l a m k) r ok.3
  run_statement (while_statement p q e l s) k r ok =
      read_statement k _ _ ∙ run_condition while_head e p q l k _ ok.0 ∙ run_statement s (while_body p q e l k) r ok.1
  run_statement (do_statement p s w q e l m) k r ok =
      read_statement k _ _ ∙ run_statement s (do_body p k) _ ok.0 ∙ next_statement s (do_body p k) (token While w) _ (no_else s (token While w) refl)
      ∙ read_do_condition p s w k _ _ ∙ run_to e (whole (in_statement (of_do p s w q k))) (token RightParen l) _ ok.1 (level_positive _ e ok.1) refl (tail_positive e)
      ∙ read_after_do p s w q e l k _ r
  run_statement (for_statement p q f c m u l s) k r ok =
      read_statement k _ _ ∙ read_for p k _ _ ∙ run_for_first f p q k _ ok.0 ∙ run_for_test c p q f m k _ ok.1 ∙ run_for_step u p q f c m l k _ ok.2
      ∙ run_statement s (for_body p q f c m u l k) r ok.3
  run_statement (switch_statement p q e l m gs n) k r ok =
      read_statement k _ _ ∙ run_condition switch_head e p q l k _ ok.0 ∙ read_switch_body p q e l k _ _
      ∙ run_groups gs (switch_of p q e l m k) _ ok.1 ∙ groups_end gs (switch_of p q e l m k) n r
  run_statement (jump_statement p j q) k r ok = read_statement k _ _ ∙ read_jump p j k _ r
  run_statement (return_statement p e q) k r ok = read_statement k _ _ ∙ run_return e p q k r ok

  pub run_items : (is : Items) (k : ItemsContext) (r : List Token) → ItemsOk (items_context_names k) is
      → go (Some (at_items no_items k)) (items_yield is r) ≡ go (Some (end_items is k)) r
  run_items no_items k r ok = refl
  run_items (declaration_item is d) k r ok =
      run_items is k _ ok.0 ∙ starts _ _ _ (item_declaration_start is k) _ (declaration_begins _ d r ok.1) ∙ run_declaration d (in_items is k) r ok.1 tt
  run_items (statement_item is s) k r ok =
      run_items is k _ ok.0 ∙ starts _ _ _ (item_statement_start is k) _ (statement_begins _ s r ok.1) ∙ run_statement s (item_of is k) r ok.1

  pub run_groups : (gs : Groups) (k : GroupsContext) (r : List Token) → GroupsOk (groups_context_names k) gs
      → go (Some (at_labels k)) (groups_yield gs r) ≡ go (Some (end_groups gs k)) r
  run_groups no_groups k r ok = refl
  run_groups (group gs ls is) k r ok = run_groups gs k _ ok.0 ∙ run_labels ls gs k _ ok.2 ok.1 ∙ run_items is (group_of gs ls k) r ok.3

-- ## Files

file_start : (f : File) (t : Token) → begins_declaration (file_names f) (kind_of t) ≡ true
    → feed (at_file f) t ≡ feed (at_specifiers no_specifiers (in_declaration (in_file f))) t
unfolding feed
file_start f t h = refl

-- Reading the tokens of a file gives the file.
pub run_file : (f : File) (r : List Token) → FileOk f → go (Some start) (file_yield f r) ≡ go (Some (at_file f)) r
run_file empty_file r ok = refl
run_file (external_declaration f d) r ok =
    run_file f _ ok.0 ∙ starts _ _ _ (file_start f) _ (declaration_begins _ d r ok.1) ∙ run_declaration d (in_file f) r ok.1 tt
run_file (function_definition f s d p is q) r ok =
    run_file f _ ok.0 ∙ starts _ _ _ (file_start f) _ (declaration_first _ s _ ok.1 ok.2) ∙ run_specifiers s (in_declaration (in_file f)) _ ok.1 (λ _. refl)
    ∙ starts (begins_declarator (file_names f)) _ _ (λ t b. declarators_start (file_names f) s (in_file f) t ok.2 b) _ (declarator_first (file_names f) d _ ok.4)
    ∙ run_declarator d top (init_context s no_init_declarators (in_file f)) _ ok.4
    ∙ next_declarator d top (init_context s no_init_declarators (in_file f)) (token LeftBrace p) _ refl ∙ then_go _ _ _ _ ok.5 ∙ else_go _ _ _ _ ok.3
    ∙ run_items is (function_body f s d p) _ ok.6 ∙ next_items is (function_body f s d p) (token RightBrace q) r refl
