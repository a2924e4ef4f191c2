-- A state in which an expression may begin goes on as one in which it is wanted.
use Rattle.std.proofs.Common.{◌≡◌, ◌≢◌, ◌≤◌, Bool, true, false, List, [], ◌∷◌, Option, Some, refl, sym, ◌∙◌}
use Rattle.std.proofs.lemmas.Bool.{le-leb}
use Rattle.c_grammar.specs.Tokens.{Identifier, Place, Star, Kind, Name, Op, JumpWord, If, While, Do, For, Switch, Case, Default, Return, LeftBrace, RightBrace, LeftParen, RightParen, LeftBracket, RightBracket, Semicolon, Comma, Token, token}
use Rattle.c_grammar.specs.Derivations.{Expression, Arguments, no_arguments, argument, Specifiers, no_specifiers, Members, no_declarators, no_declarator, EarlierParameters, no_earlier, ForFirst, Items}
use Rattle.c_grammar.specs.Spelling.{is_typedef, for_first_names, items_names, has_type}
use Rattle.c_grammar.specs.Contexts.{StatementContext, item_of, ItemsContext, in_items, in_for_head, InitializerContext, of_statement, of_return, of_for_first, of_for_test, of_for_step, of_initializer, of_list, sizeof_frame, Chain, top, opened, ExpressionContext, operand, whole, in_parentheses, in_argument, in_length, in_statement, Suffixed, of_abstract, SpecifiersContext, in_declaration, in_member, in_parameter, in_type_name, TypeNameContext, in_cast, in_sizeof, CompositeContext, member_context, AbstractContext, parameter_abstract, type_name_abstract, statement_context_names, items_context_names, initializer_context_names, expression_context_names, suffixed_names, composite_context_names, abstract_context_names, need}
use Rattle.c_grammar.specs.Machine.{State, at_statement, at_for_first, at_for_test, at_for_step, at_return, at_initializer, at_list_comma, at_specifiers, at_members, at_declarator, at_abstract, at_opened, at_length, at_parameters, at_expression, at_open, at_sizeof, at_sizeof_open, at_arguments, begins_type, begins_declaration, kind_of, on_operand, on_abstract, after_specifiers, on_specifiers, on_opened_next, on_statement, on_item, on_items, on_for_item, feed, go}
use Rattle.c_grammar.proofs.Steps.{cond_true, cond_false, not_false, FirstIs, begins_operand, operand_no_type, operand_no_declaration, ends_specifiers, begins_declarator, begins_abstract, FirstOfUnary, same_feed}

-- the first token decides
pub starts : (b : Kind → Bool) (s s' : State) → ((t : Token) → b (kind_of t) ≡ true → feed s t ≡ feed s' t) → (ts : List Token) → FirstIs b ts
    → go (Some s) ts ≡ go (Some s') ts
starts b s s' f [] h = absurd h
starts b s s' f (token t p ∷ ts) h = same_feed s s' (token t p) ts (f (token t p) h)

pub open_start : (p : Place) (k : ExpressionContext) (t : Token) → begins_operand (expression_context_names k) (kind_of t) ≡ true
    → feed (at_open p k) t ≡ feed (at_expression (whole (in_parentheses p k))) t
unfolding feed
open_start p k (token t q) h = cond_false _ _ _ (operand_no_type _ t h)

pub open_type : (p : Place) (k : ExpressionContext) (t : Token) → need k ≤ 13 → begins_type (expression_context_names k) (kind_of t) ≡ true
    → feed (at_open p k) t ≡ feed (at_specifiers no_specifiers (in_type_name (in_cast p k))) t
unfolding feed
open_type p k (token t q) n h = cond_true _ _ _ h ∙ cond_true _ _ _ (le-leb (need k) 13 n)

pub sizeof_open_start : (p q : Place) (k : ExpressionContext) (t : Token) → begins_operand (expression_context_names k) (kind_of t) ≡ true
    → feed (at_sizeof_open p q k) t ≡ feed (at_open q (operand (sizeof_frame p) k)) t
unfolding feed
sizeof_open_start p q k (token t l) h = cond_false _ _ _ (operand_no_type _ t h) ∙ sym (cond_false _ _ _ (operand_no_type _ t h))

pub sizeof_open_type : (p q : Place) (k : ExpressionContext) (t : Token) → begins_type (expression_context_names k) (kind_of t) ≡ true
    → feed (at_sizeof_open p q k) t ≡ feed (at_specifiers no_specifiers (in_type_name (in_sizeof p q k))) t
unfolding feed
sizeof_open_type p q k (token t l) h = cond_true _ _ _ h

sizeof_else : (p : Place) (k : ExpressionContext) (t : Token) → begins_operand (expression_context_names k) (kind_of t) ≡ true → (kind_of t ≢ LeftParen)
    → feed (at_sizeof p k) t ≡ feed (at_expression (operand (sizeof_frame p) k)) t
unfolding feed
sizeof_else p k (token LeftParen q) h n = absurd (n refl)
sizeof_else p k (token _ q) h n = refl

-- behind `sizeof` a unary expression is read as behind any operator
pub sizeof_start : (p : Place) (k : ExpressionContext) (ts : List Token) → FirstOfUnary (expression_context_names k) ts
    → go (Some (at_sizeof p k)) ts ≡ go (Some (at_expression (operand (sizeof_frame p) k))) ts
unfolding go feed
sizeof_start p k [] h = absurd h
sizeof_start p k (token LeftParen q ∷ ts) h =
    starts (begins_operand (expression_context_names k)) (at_sizeof_open p q k) (at_open q (operand (sizeof_frame p) k)) (sizeof_open_start p q k) ts h
sizeof_start p k (token _ q ∷ ts) h = refl

pub arguments_start : (f : Expression) (p : Place) (k : ExpressionContext) (t : Token) → begins_operand (expression_context_names k) (kind_of t) ≡ true
    → feed (at_arguments f p k) t ≡ feed (at_expression (whole (in_argument f p no_arguments k))) t
unfolding feed
arguments_start f p k (token RightParen q) h = let bad : false ≡ true = h in cc
arguments_start f p k (token _ q) h = refl

pub length_start : (k : Suffixed) (p : Place) (t : Token) → begins_operand (suffixed_names k) (kind_of t) ≡ true
    → feed (at_length k p) t ≡ feed (at_expression (whole (in_length k p))) t
unfolding feed
length_start k p (token RightBracket q) h = let bad : false ≡ true = h in cc
length_start k p (token _ q) h = refl

pub parameters_start : (k : Suffixed) (p : Place) (t : Token) → begins_type (suffixed_names k) (kind_of t) ≡ true
    → feed (at_parameters k p) t ≡ feed (at_specifiers no_specifiers (in_parameter no_earlier k p)) t
unfolding feed
parameters_start k p (token RightParen q) h = let bad : false ≡ true = h in cc
parameters_start k p (token _ q) h = refl

opened_next_parameters : (c : Chain) (p : Place) (k : AbstractContext) (t : Token) → begins_type (abstract_context_names k) (kind_of t) ≡ true
    → on_opened_next c p k t ≡ on_specifiers no_specifiers (in_parameter no_earlier (of_abstract no_declarator c k) p) t
opened_next_parameters c p k t h = cond_true _ _ _ h

opened_next_abstract : (c : Chain) (p : Place) (k : AbstractContext) (t : Token) → begins_type (abstract_context_names k) (kind_of t) ≡ false
    → on_opened_next c p k t ≡ on_abstract (opened p c) k t
opened_next_abstract c p k t h = cond_false _ _ _ h

pub opened_parameters : (c : Chain) (p : Place) (k : AbstractContext) (t : Token) → begins_type (abstract_context_names k) (kind_of t) ≡ true
    → feed (at_opened c p k) t ≡ feed (at_specifiers no_specifiers (in_parameter no_earlier (of_abstract no_declarator c k) p)) t
unfolding feed
opened_parameters c p k (token RightParen q) h = let bad : false ≡ true = h in cc
opened_parameters c p k (token t q) h = opened_next_parameters c p k (token t q) h

pub opened_abstract : (c : Chain) (p : Place) (k : AbstractContext) (t : Token) → begins_abstract (kind_of t) ≡ true
    → feed (at_opened c p k) t ≡ feed (at_abstract (opened p c) k) t
unfolding feed
opened_abstract c p k (token LeftParen q) h = refl
opened_abstract c p k (token LeftBracket q) h = refl
opened_abstract c p k (token (Op Star) q) h = refl
opened_abstract c p k _ h = let bad : false ≡ true = h in cc

pub opened_declarator : (c : Chain) (p : Place) (k : AbstractContext) (t : Token) → begins_declarator (abstract_context_names k) (kind_of t) ≡ true
    → feed (at_opened c p k) t ≡ feed (at_abstract (opened p c) k) t
unfolding feed
opened_declarator c p k (token LeftParen q) h = refl
opened_declarator c p k (token (Op Star) q) h = refl
opened_declarator c p k (token (Name x) q) h = opened_next_abstract c p k (token (Name x) q) (not_false (is_typedef (abstract_context_names k) x) h)
opened_declarator c p k _ h = let bad : false ≡ true = h in cc

pub members_start : (ms : Members) (k : CompositeContext) (t : Token) → begins_type (composite_context_names k) (kind_of t) ≡ true
    → feed (at_members ms k) t ≡ feed (at_specifiers no_specifiers (in_member ms k)) t
unfolding feed
members_start ms k (token RightBrace q) h = let bad : false ≡ true = h in cc
members_start ms k (token _ q) h = refl

-- behind whole specifiers
pub specifiers_end : (s : Specifiers) (k : SpecifiersContext) (t : Token) → has_type s ≡ true → ends_specifiers (kind_of t) ≡ true
    → on_specifiers s k t ≡ after_specifiers s k t
specifiers_end s k (token (Name x) p) h e = cond_true _ _ _ h
specifiers_end s k (token (Op o) p) h e = cond_true _ _ _ h
specifiers_end s k (token LeftParen p) h e = cond_true _ _ _ h
specifiers_end s k (token LeftBracket p) h e = cond_true _ _ _ h
specifiers_end s k (token RightParen p) h e = cond_true _ _ _ h
specifiers_end s k (token Comma p) h e = cond_true _ _ _ h
specifiers_end s k (token Semicolon p) h e = cond_true _ _ _ h
specifiers_end s k _ h e = let bad : false ≡ true = e in cc

pub abstract_start : (s : Specifiers) (k : TypeNameContext) (t : Token) → has_type s ≡ true → ends_specifiers (kind_of t) ≡ true
    → feed (at_specifiers s (in_type_name k)) t ≡ feed (at_abstract top (type_name_abstract s k)) t
unfolding feed
abstract_start s k t h e = specifiers_end s (in_type_name k) t h e

pub parameter_start : (ps : EarlierParameters) (s : Specifiers) (k : Suffixed) (p : Place) (t : Token) → has_type s ≡ true → ends_specifiers (kind_of t) ≡ true
    → feed (at_specifiers s (in_parameter ps k p)) t ≡ feed (at_abstract top (parameter_abstract ps s k p)) t
unfolding feed
parameter_start ps s k p t h e = specifiers_end s (in_parameter ps k p) t h e

pub member_start : (ms : Members) (s : Specifiers) (k : CompositeContext) (t : Token) → has_type s ≡ true → ends_specifiers (kind_of t) ≡ true
    → feed (at_specifiers s (in_member ms k)) t ≡ feed (at_declarator top (member_context ms s no_declarators k)) t
unfolding feed
member_start ms s k t h e = specifiers_end s (in_member ms k) t h e

pub initializer_start : (k : InitializerContext) (t : Token) → begins_operand (initializer_context_names k) (kind_of t) ≡ true
    → feed (at_initializer k) t ≡ feed (at_expression (whole (in_statement (of_initializer k)))) t
unfolding feed
initializer_start k (token LeftBrace q) h = let bad : false ≡ true = h in cc
initializer_start k (token _ q) h = refl

pub list_start : (k : InitializerContext) (p : Place) (xs : Arguments) (e : Expression) (q : Place) (t : Token)
    → begins_operand (initializer_context_names k) (kind_of t) ≡ true
    → feed (at_list_comma k p xs e q) t ≡ feed (at_expression (whole (in_statement (of_list k p (argument xs e q))))) t
unfolding feed
list_start k p xs e q (token RightBrace l) h = let bad : false ≡ true = h in cc
list_start k p xs e q (token _ l) h = refl

for_item_start : (p q : Place) (k : StatementContext) (t : Token) → begins_declaration (statement_context_names k) (kind_of t) ≡ false
    → on_for_item p q k t ≡ on_operand (whole (in_statement (of_for_first p q k))) t
for_item_start p q k t h = cond_false _ _ _ h

for_item_declaration : (p q : Place) (k : StatementContext) (t : Token) → begins_declaration (statement_context_names k) (kind_of t) ≡ true
    → on_for_item p q k t ≡ on_specifiers no_specifiers (in_declaration (in_for_head p q k)) t
for_item_declaration p q k t h = cond_true _ _ _ h

pub for_first_start : (p q : Place) (k : StatementContext) (t : Token) → begins_operand (statement_context_names k) (kind_of t) ≡ true
    → feed (at_for_first p q k) t ≡ feed (at_expression (whole (in_statement (of_for_first p q k)))) t
unfolding feed
for_first_start p q k (token Semicolon l) h = let bad : false ≡ true = h in cc
for_first_start p q k (token t l) h = for_item_start p q k (token t l) (operand_no_declaration (statement_context_names k) t h)

pub for_first_declaration : (p q : Place) (k : StatementContext) (t : Token) → begins_declaration (statement_context_names k) (kind_of t) ≡ true
    → feed (at_for_first p q k) t ≡ feed (at_specifiers no_specifiers (in_declaration (in_for_head p q k))) t
unfolding feed
for_first_declaration p q k (token Semicolon l) h = let bad : false ≡ true = h in cc
for_first_declaration p q k (token t l) h = for_item_declaration p q k (token t l) h

pub for_test_start : (p q : Place) (f : ForFirst) (k : StatementContext) (t : Token)
    → begins_operand (for_first_names f (statement_context_names k)) (kind_of t) ≡ true
    → feed (at_for_test p q f k) t ≡ feed (at_expression (whole (in_statement (of_for_test p q f k)))) t
unfolding feed
for_test_start p q f k (token Semicolon l) h = let bad : false ≡ true = h in cc
for_test_start p q f k (token _ l) h = refl

pub for_step_start : (p q : Place) (f : ForFirst) (c : Option Expression) (m : Place) (k : StatementContext) (t : Token)
    → begins_operand (for_first_names f (statement_context_names k)) (kind_of t) ≡ true
    → feed (at_for_step p q f c m k) t ≡ feed (at_expression (whole (in_statement (of_for_step p q f c m k)))) t
unfolding feed
for_step_start p q f c m k (token RightParen l) h = let bad : false ≡ true = h in cc
for_step_start p q f c m k (token _ l) h = refl

pub return_start : (p : Place) (k : StatementContext) (t : Token) → begins_operand (statement_context_names k) (kind_of t) ≡ true
    → feed (at_return p k) t ≡ feed (at_expression (whole (in_statement (of_return p k)))) t
unfolding feed
return_start p k (token Semicolon l) h = let bad : false ≡ true = h in cc
return_start p k (token _ l) h = refl

pub statement_start : (k : StatementContext) (t : Token) → begins_operand (statement_context_names k) (kind_of t) ≡ true
    → feed (at_statement k) t ≡ feed (at_expression (whole (in_statement (of_statement k)))) t
unfolding feed
statement_start k (token LeftBrace p) h = let bad : false ≡ true = h in cc
statement_start k (token Semicolon p) h = let bad : false ≡ true = h in cc
statement_start k (token If p) h = let bad : false ≡ true = h in cc
statement_start k (token While p) h = let bad : false ≡ true = h in cc
statement_start k (token Switch p) h = let bad : false ≡ true = h in cc
statement_start k (token Do p) h = let bad : false ≡ true = h in cc
statement_start k (token For p) h = let bad : false ≡ true = h in cc
statement_start k (token (JumpWord j) p) h = let bad : false ≡ true = h in cc
statement_start k (token Return p) h = let bad : false ≡ true = h in cc
statement_start k (token _ p) h = refl

-- the kinds of tokens that begin a statement
abbrev pub begins_statement : List Identifier → Kind → Bool
begins_statement ns LeftBrace = true
begins_statement ns Semicolon = true
begins_statement ns If = true
begins_statement ns While = true
begins_statement ns Switch = true
begins_statement ns Do = true
begins_statement ns For = true
begins_statement ns (JumpWord j) = true
begins_statement ns Return = true
begins_statement ns t = begins_operand ns t

pub statement_no_declaration : (ns : List Identifier) (t : Kind) → begins_statement ns t ≡ true → begins_declaration ns t ≡ false
statement_no_declaration ns LeftBrace h = refl
statement_no_declaration ns Semicolon h = refl
statement_no_declaration ns If h = refl
statement_no_declaration ns While h = refl
statement_no_declaration ns Switch h = refl
statement_no_declaration ns Do h = refl
statement_no_declaration ns For h = refl
statement_no_declaration ns (JumpWord j) h = refl
statement_no_declaration ns Return h = refl
statement_no_declaration ns t h = operand_no_declaration ns t h

on_item_statement : (is : Items) (k : ItemsContext) (t : Token) → begins_declaration (items_names is (items_context_names k)) (kind_of t) ≡ false
    → on_item is k t ≡ on_statement (item_of is k) t
on_item_statement is k t h = cond_false _ _ _ h

on_item_declaration : (is : Items) (k : ItemsContext) (t : Token) → begins_declaration (items_names is (items_context_names k)) (kind_of t) ≡ true
    → on_item is k t ≡ on_specifiers no_specifiers (in_declaration (in_items is k)) t
on_item_declaration is k t h = cond_true _ _ _ h

-- where an item of a block begins: a statement, or a declaration
pub item_statement : (is : Items) (k : ItemsContext) (t : Token) → begins_statement (items_names is (items_context_names k)) (kind_of t) ≡ true
    → on_items is k t ≡ feed (at_statement (item_of is k)) t
unfolding feed
item_statement is k (token RightBrace p) h = let bad : false ≡ true = h in cc
item_statement is k (token Case p) h = let bad : false ≡ true = h in cc
item_statement is k (token Default p) h = let bad : false ≡ true = h in cc
item_statement is k (token t p) h = on_item_statement is k (token t p) (statement_no_declaration (items_names is (items_context_names k)) t h)

pub item_declaration : (is : Items) (k : ItemsContext) (t : Token) → begins_declaration (items_names is (items_context_names k)) (kind_of t) ≡ true
    → on_items is k t ≡ feed (at_specifiers no_specifiers (in_declaration (in_items is k))) t
unfolding feed
item_declaration is k (token RightBrace p) h = let bad : false ≡ true = h in cc
item_declaration is k (token Case p) h = let bad : false ≡ true = h in cc
item_declaration is k (token Default p) h = let bad : false ≡ true = h in cc
item_declaration is k (token t p) h = on_item_declaration is k (token t p) h
