-- One token: the reader goes where the machine of the grammar goes.
use Rattle.std.proofs.Common.{◌≡◌, cond, nat_le, List, [], ◌∷◌, Option, Some, None, ◌&&◌, refl, sym, ◌∙◌, ap}
use Rattle.c_reading.proofs.Simulation.{parameters_code, enumeration_code, groups_code, items_code, labelled_code, init_code, expression_code, postfix_code, operand_code, declarator_code, parameter_code, climb_abstract_code, abstract_code, specifiers_code}
use Rattle.c_reading.proofs.Erase.{expr_part, arguments_part, specs_part, members_part, declarators_part, with_enumerator, enumerators_part, decl_part, abstract_part, init_part, inits_part, decl_of, optional_part, for_first_part, labels_part, stmt_part, items_part, groups_part, file_part, statement_stack, items_stack, groups_stack, label_stack, declaration_stack, initializer_stack, chain_stack, expression_stack, hole_stack, length_stack, parameters_stack, specifiers_stack, composite_stack, enum_stack, declarator_stack, abstract_stack, reader_of, coded}
use Rattle.c_reading.proofs.Tests.{coded-cond, coded-test, declares_same, members_some, decl_some, stmt_some, list_some, list_named, head_same, declared_names}
use Rattle.c_grammar.specs.Derivations.{Trailing, no_comma, comma, Expression, Arguments, no_arguments, argument, Specifiers, no_specifiers, composite, Members, no_members, members, Declarators, Enumerator, enumerator, Enumerators, no_enumerators, enumerators, Declarator, pointer, AbstractDeclarator, no_declarator, no_parameters, no_earlier, named_parameter, no_initializer, initializer_list, init_declarator, InitDeclarators, no_init_declarators, init_declarators, ForFirst, default_label, Labels, Statement, if_statement, if_else, while_statement, for_statement, Items, no_items, declaration_item, statement_item, Groups, no_groups, group, File}
use Rattle.c_reading.specs.Parts.{add_argument, SpecifiersPart, specifier_trees, start_place, no_specifier, is_head, DeclaratorPart, no_abstract, add_declarator, no_parameter, no_initializer_part, add_init, no_label, no_item}
use Rattle.c_reading.specs.Frames.{suffixed_abstract, for_first_frame, case_frame, list_frame, else_frame, function_frame, label_frame, for_head_frame, parameters_frame, parameter_frame, open_frame, Stack, bottom, push}
use Rattle.c_reading.specs.Code.{Reader}
use Rattle.c_tree.specs.Trees.{init_tree}
use Rattle.c_grammar.specs.Spelling.{is_typedef, declares_types, for_first_names, statement_names, items_names, groups_names, file_names, has_members, is_function_head}
use Rattle.c_grammar.specs.Contexts.{StatementContext, then_of, else_of, while_body, do_body, for_body, item_of, ItemsContext, block_of, function_body, group_of, GroupsContext, LabelContext, DeclarationContext, in_file, in_items, in_for_head, InitializerContext, initializer_of, of_statement, of_return, of_if, of_while, of_do, of_switch, of_for_first, of_for_test, of_for_step, of_case, of_initializer, of_list, Chain, top, starred, opened, ExpressionContext, operand, whole, Hole, in_parentheses, in_index, in_argument, in_middle, in_length, in_enumerator, in_statement, Suffixed, of_declarator, of_abstract, SpecifiersContext, in_declaration, in_member, in_parameter, in_type_name, in_cast, in_sizeof, CompositeContext, in_composite, EnumContext, DeclaratorContext, init_context, member_context, parameter_context, AbstractContext, parameter_abstract, type_name_abstract, statement_context_names, items_context_names, groups_context_names, label_context_names, init_context_names, initializer_context_names, expression_context_names, suffixed_names, specifiers_context_names, composite_context_names, enum_context_names, declarator_context_names, abstract_context_names}
use Rattle.c_grammar.specs.Machine.{Head, if_head, while_head, switch_head, State, begins_type, begins_declaration, kind_of}
use Rattle.c_grammar.specs.Tokens.{Identifier, Place, Equals, Access, CompositeWord, Jump, Name, Assignment, Qualify, JumpWord, If, Else, While, Do, For, Switch, Case, Default, Return, LeftBrace, RightBrace, LeftParen, RightParen, LeftBracket, RightBracket, Semicolon, Comma, Colon, Token, token}
use Rattle.c_grammar.specs.Machine as M
use Rattle.c_reading.specs.Code as C
use Rattle.c_grammar.specs.Contexts as before

-- ## Bodies of structs, unions and enums

composite_code : (s : Specifiers) (p : Place) (w : CompositeWord) (k : SpecifiersContext) (t : Token)
    → coded (M.on_composite s p w k t) ≡ C.on_composite (specs_part s) p w (specifiers_stack k) (specifiers_context_names k) t
composite_code s p w k (token (Name x) q) = refl
composite_code s p w k (token LeftBrace q) = refl
composite_code s p w k (token _ q) = refl

enum_code : (s : Specifiers) (p : Place) (k : SpecifiersContext) (t : Token)
    → coded (M.on_enum s p k t) ≡ C.on_enum (specs_part s) p (specifiers_stack k) (specifiers_context_names k) t
enum_code s p k (token (Name x) q) = refl
enum_code s p k (token LeftBrace q) = refl
enum_code s p k (token _ q) = refl

members_end_code : (ms : Members) (k : CompositeContext) (q : Place)
    → coded (cond (has_members ms) (Some (M.close_composite k ms q)) None) ≡ C.members_end (composite_stack (members_part ms) k) (composite_context_names k)
members_end_code no_members (in_composite s p w t q k) l = refl
members_end_code (members ms x ds d m) (in_composite s p w t q k) l =
    ap (λ b. cond b None (C.goes (C.in_specifiers (specs_part (composite s p w t q (members ms x ds d m) l))) (specifiers_stack k) (specifiers_context_names k)))
    (sym (members_some (members_part ms).trees (start_place (specs_part x)) (specifier_trees (specs_part x)) (add_declarator (declarators_part ds) (decl_part d)).trees))

-- members, one more or their end
more_members_code : (ms : Members) (k : CompositeContext) (t : Token)
    → coded (M.on_specifiers no_specifiers (in_member ms k) t) ≡ C.on_specifiers no_specifier (composite_stack (members_part ms) k) (composite_context_names k) t
more_members_code ms k t = specifiers_code no_specifiers (in_member ms k) t

members_code : (ms : Members) (k : CompositeContext) (t : Token)
    → coded (M.on_members ms k t) ≡ C.on_members (composite_stack (members_part ms) k) (composite_context_names k) t
members_code ms k (token RightBrace q) = members_end_code ms k q
members_code ms k (token x q) = more_members_code ms k (token x q)

constant_code : (es : Enumerators) (k : EnumContext) (x : Identifier) (p : Place)
    → coded (M.on_constant_name es k x p) ≡ C.on_constant_name (enumerators_part es) x p (enum_stack k) (enum_context_names k)
constant_code es k x p = coded-cond (is_typedef (enum_context_names k) x) _ _ _ _ refl refl

enumerator_start_code : (k : EnumContext) (t : Token) → coded (M.on_enumerator k t) ≡ C.on_enumerator (enum_stack k) (enum_context_names k) t
enumerator_start_code k (token (Name x) p) = constant_code no_enumerators k x p
enumerator_start_code k (token _ p) = refl

after_enumerator_code : (es : Enumerators) (p : Place) (x : Identifier) (k : EnumContext) (t : Token)
    → coded (M.on_after_enumerator es p x k t) ≡ C.on_after_enumerator (enumerators_part es) p x (enum_stack k) (enum_context_names k) t
after_enumerator_code es p x k (token (Assignment Equals) q) = refl
after_enumerator_code es p x k (token (Assignment _) q) = refl
after_enumerator_code es p x k (token Comma q) = refl
after_enumerator_code es p x k (token RightBrace q) = enumeration_code k es (enumerator p x) no_comma q
after_enumerator_code es p x k (token _ q) = refl

enumerator_comma_code : (es : Enumerators) (e : Enumerator) (p : Place) (k : EnumContext) (t : Token)
    → coded (M.on_enumerator_comma es e p k t) ≡ C.on_enumerator_comma (with_enumerator (enumerators_part es) e) (enum_stack k) (enum_context_names k) t
enumerator_comma_code es e p k (token (Name x) q) = constant_code (enumerators es e p) k x q
enumerator_comma_code es e p k (token RightBrace q) = enumeration_code k es e (comma p) q
enumerator_comma_code es e p k (token _ q) = refl

-- ## Declarators

starred_code : (c : Chain) (k : DeclaratorContext) (t : Token)
    → coded (M.on_starred c k t) ≡ C.on_starred (chain_stack c (declarator_stack k)) (declarator_context_names k) t
starred_code (starred p qs c) k (token (Qualify q) l) = refl
starred_code top (init_context s ds k) (token (Qualify q) l) = refl
starred_code top (member_context ms s ds k) (token (Qualify q) l) = refl
starred_code top (parameter_context ps s k p) (token (Qualify q) l) = refl
starred_code (opened p c) k (token (Qualify q) l) = refl
starred_code c k (token x l) = declarator_code c k (token x l)

starred_abstract_code : (c : Chain) (k : AbstractContext) (t : Token)
    → coded (M.on_starred_abstract c k t) ≡ C.on_starred_abstract (chain_stack c (abstract_stack k)) (abstract_context_names k) t
starred_abstract_code (starred p qs c) k (token (Qualify q) l) = refl
starred_abstract_code top (parameter_abstract ps s k p) (token (Qualify q) l) = abstract_code top (parameter_abstract ps s k p) (token (Qualify q) l)
starred_abstract_code top (type_name_abstract s k) (token (Qualify q) l) = abstract_code top (type_name_abstract s k) (token (Qualify q) l)
starred_abstract_code (opened p c) k (token (Qualify q) l) = abstract_code (opened p c) k (token (Qualify q) l)
starred_abstract_code c k (token x l) = abstract_code c k (token x l)

-- the brace of a function's body
abbrev body_to : DeclaratorPart → SpecifiersPart → File → Place → Option Reader
body_to d s f p = C.goes C.in_items (push (function_frame s d p no_item) (bottom (file_part f))) (file_names f)

function_body_code : (d : Declarator) (s : Specifiers) (ds : InitDeclarators) (k : DeclarationContext) (p : Place)
    → coded (M.on_function_body d s ds k p) ≡ C.on_function_body (decl_part d) (specs_part s) (inits_part ds) p (declaration_stack k) (init_context_names s ds k)
function_body_code d s no_init_declarators (in_file f) p =
    coded-test (is_function_head d) _ _ _ _ _ (head_same d) (coded-test (declares_types s) _ _ _ _ _ (declares_same s) refl refl) refl
function_body_code d s no_init_declarators (in_items is (block_of q k)) p = refl
function_body_code d s no_init_declarators (in_items is (function_body f x y q)) p = refl
function_body_code d s no_init_declarators (in_items is (group_of gs ls k)) p = refl
function_body_code d s no_init_declarators (in_for_head q l k) p = refl
function_body_code d s (init_declarators ds (init_declarator x i) q) k p =
    ap (λ b. cond (b && C.is_bottom (declaration_stack k)) (cond (is_head (decl_part d).shape) (cond (specs_part s).declares_types None (C.goes C.in_items (push (function_frame (specs_part s) (decl_part d) p no_item) (declaration_stack k)) (init_context_names s (init_declarators ds (init_declarator x i) q) k))) None) None)
    (sym (list_some (inits_part ds).trees (init_tree (decl_part x).tree (init_part i).tree)))

abbrev declared_on : Declarator → Specifiers → InitDeclarators → DeclarationContext → Token → List Identifier → Option Reader
declared_on d s ds k t ns = C.on_init_declarator (specs_part s) (add_init (inits_part ds) (decl_part d) no_initializer_part) (declaration_stack k) ns t

-- a token behind a declarator that is neither `=` nor `{`
plain_code : (d : Declarator) (s : Specifiers) (ds : InitDeclarators) (k : DeclarationContext) (t : Token)
    → coded (M.on_init_declarator s ds k (init_declarator d no_initializer) t) ≡ declared_on d s ds k t (C.names_with (specs_part s).declares_types (decl_part d).name (init_context_names s ds k))
plain_code d s ds k t =
    init_code s ds k (init_declarator d no_initializer) t
    ∙ ap (λ ns. declared_on d s ds k t ns) (declared_names (declares_types s) (specs_part s).declares_types d (init_context_names s ds k) (declares_same s))

declared_end_code : (d : Declarator) (s : Specifiers) (ds : InitDeclarators) (k : DeclarationContext) (t : Token)
    → coded (M.on_declared d s ds k t) ≡ C.on_declared (decl_part d) (specs_part s) (inits_part ds) (declaration_stack k) (init_context_names s ds k) t
declared_end_code d s ds k (token (Assignment Equals) p) =
    ap (λ ns. C.goes C.in_initializer (initializer_stack (initializer_of s ds d p k)) ns)
    (declared_names (declares_types s) (specs_part s).declares_types d (init_context_names s ds k) (declares_same s))
declared_end_code d s ds k (token LeftBrace p) = function_body_code d s ds k p
declared_end_code d s ds k (token (Assignment o) p) = plain_code d s ds k (token (Assignment o) p)
declared_end_code d s ds k (token x p) = plain_code d s ds k (token x p)

member_code : (d : Declarator) (ms : Members) (s : Specifiers) (ds : Declarators) (k : CompositeContext) (t : Token)
    → coded (M.on_member d ms s ds k t) ≡ C.on_member (specs_part s) (add_declarator (declarators_part ds) (decl_part d)) (composite_stack (members_part ms) k) (composite_context_names k) t
member_code d ms s ds k (token Comma p) = refl
member_code d ms s ds (in_composite x p w y q k) (token Semicolon l) = refl
member_code d ms s ds k (token _ p) = refl

declarator_end_code : (d : Declarator) (k : DeclaratorContext) (t : Token)
    → coded (M.on_declarator_end d k t) ≡ C.climb (decl_part d) (declarator_stack k) (declarator_context_names k) t
declarator_end_code d (init_context s ds k) t = declared_end_code d s ds k t
declarator_end_code d (member_context ms s ds k) t = member_code d ms s ds k t
declarator_end_code d (parameter_context ps s k p) t = parameter_code ps k p (named_parameter s d) _ t (list_named ps s d)

close_code : (d : Declarator) (p : Place) (c : Chain) (k : DeclaratorContext) (t : Token)
    → coded (M.close_declarator d p c k t) ≡ C.climb (decl_part d) (chain_stack (opened p c) (declarator_stack k)) (declarator_context_names k) t
close_code d p c k (token RightParen q) = refl
close_code d p c k (token _ q) = refl

climb_code : (c : Chain) (d : Declarator) (k : DeclaratorContext) (t : Token)
    → coded (M.climb d c k t) ≡ C.climb (decl_part d) (chain_stack c (declarator_stack k)) (declarator_context_names k) t
climb_code top d k t = declarator_end_code d k t
climb_code (starred p qs c) d k t = climb_code c (pointer p qs d) k t
climb_code (opened p c) d k t = close_code d p c k t

direct_code : (d : Declarator) (c : Chain) (k : DeclaratorContext) (t : Token)
    → coded (M.on_direct d c k t) ≡ C.on_direct (decl_part d) (chain_stack c (declarator_stack k)) (declarator_context_names k) t
direct_code d c k (token LeftBracket p) = refl
direct_code d c k (token LeftParen p) = refl
direct_code d c k (token x p) = climb_code c d k (token x p)

direct_abstract_code : (a : AbstractDeclarator) (c : Chain) (k : AbstractContext) (t : Token)
    → coded (M.on_direct_abstract a c k t) ≡ C.on_direct_abstract (abstract_part a) (chain_stack c (abstract_stack k)) (abstract_context_names k) t
direct_abstract_code a c k (token LeftBracket p) = refl
direct_abstract_code a c k (token LeftParen p) = refl
direct_abstract_code a c k (token x p) = climb_abstract_code c a k (token x p)

length_start_code : (k : Suffixed) (p : Place) (t : Token) → coded (M.on_length k p t) ≡ C.on_length (length_stack k) (suffixed_names k) t
length_start_code (of_declarator d c k) p (token RightBracket q) = refl
length_start_code (of_abstract a c k) p (token RightBracket q) = refl
length_start_code k p (token x q) = operand_code (whole (in_length k p)) (token x q)

parameters_start_code : (k : Suffixed) (p : Place) (t : Token) → coded (M.on_parameters k p t) ≡ C.on_parameters (parameters_stack k) (suffixed_names k) t
parameters_start_code k p (token RightParen q) = parameters_code k p no_parameters q no_parameter refl
parameters_start_code k p (token x q) = specifiers_code no_specifiers (in_parameter no_earlier k p) (token x q)

opened_next_code : (c : Chain) (p : Place) (k : AbstractContext) (t : Token)
    → coded (M.on_opened_next c p k t)
    ≡ cond (begins_type (abstract_context_names k) (kind_of t)) (C.on_specifiers no_specifier (push (parameter_frame no_parameter) (push (parameters_frame (suffixed_abstract no_abstract)) (chain_stack c (abstract_stack k)))) (abstract_context_names k) t)
    (C.on_abstract (push open_frame (chain_stack c (abstract_stack k))) (abstract_context_names k) t)
opened_next_code c p k t =
    coded-cond (begins_type (abstract_context_names k) (kind_of t)) _ _ _ _ (specifiers_code no_specifiers (in_parameter no_earlier (of_abstract no_declarator c k) p) t) (abstract_code (opened p c) k t)

opened_code : (c : Chain) (p : Place) (k : AbstractContext) (t : Token)
    → coded (M.on_opened c p k t) ≡ C.on_opened (chain_stack c (abstract_stack k)) (abstract_context_names k) t
opened_code c p k (token RightParen q) = refl
opened_code c p k (token x q) = opened_next_code c p k (token x q)

-- ## Parentheses before an operand

hole_need_code : (h : Hole) → before.hole_need h ≡ C.need_of (hole_stack h)
hole_need_code (in_parentheses p k) = refl
hole_need_code (in_index e p k) = refl
hole_need_code (in_argument f p xs k) = refl
hole_need_code (in_middle c p k) = refl
hole_need_code (in_length (of_declarator d c k) p) = refl
hole_need_code (in_length (of_abstract a c k) p) = refl
hole_need_code (in_enumerator es p x q k) = refl
hole_need_code (in_statement (of_statement k)) = refl
hole_need_code (in_statement (of_return p k)) = refl
hole_need_code (in_statement (of_if p q k)) = refl
hole_need_code (in_statement (of_while p q k)) = refl
hole_need_code (in_statement (of_do p s w q k)) = refl
hole_need_code (in_statement (of_switch p q k)) = refl
hole_need_code (in_statement (of_for_first p q k)) = refl
hole_need_code (in_statement (of_for_test p q f k)) = refl
hole_need_code (in_statement (of_for_step p q f c m k)) = refl
hole_need_code (in_statement (of_case k p)) = refl
hole_need_code (in_statement (of_initializer (initializer_of s ds d p k))) = refl
hole_need_code (in_statement (of_list k p xs)) = refl

need_code : (k : ExpressionContext) → before.need k ≡ C.need_of (expression_stack k)
need_code (operand (before.step_frame p o) k) = refl
need_code (operand (before.unary_frame p o) k) = refl
need_code (operand (before.sizeof_frame p) k) = refl
need_code (operand (before.cast_frame p t q) k) = refl
need_code (operand (before.binary_frame a p o) k) = refl
need_code (operand (before.conditional_frame c p a q) k) = refl
need_code (operand (before.assignment_frame a p o) k) = refl
need_code (whole h) = hole_need_code h

open_code : (p : Place) (k : ExpressionContext) (t : Token) → coded (M.on_open p k t) ≡ C.on_open p (expression_stack k) (expression_context_names k) t
open_code p k t =
    coded-cond (begins_type (expression_context_names k) (kind_of t)) _ _ _ _
    (coded-test (nat_le (before.need k) 13) _ _ _ _ _ (ap (λ n. nat_le n 13) (need_code k)) (specifiers_code no_specifiers (in_type_name (in_cast p k)) t) refl)
    (operand_code (whole (in_parentheses p k)) t)

sizeof_code : (p : Place) (k : ExpressionContext) (t : Token) → coded (M.on_sizeof p k t) ≡ C.on_sizeof p (expression_stack k) (expression_context_names k) t
sizeof_code p k (token LeftParen q) = refl
sizeof_code p k (token x q) = operand_code (operand (before.sizeof_frame p) k) (token x q)

sizeof_open_code : (p q : Place) (k : ExpressionContext) (t : Token)
    → coded (M.on_sizeof_open p q k t) ≡ C.on_sizeof_open p q (expression_stack k) (expression_context_names k) t
sizeof_open_code p q k t =
    coded-cond (begins_type (expression_context_names k) (kind_of t)) _ _ _ _ (specifiers_code no_specifiers (in_type_name (in_sizeof p q k)) t)
    (operand_code (whole (in_parentheses q (operand (before.sizeof_frame p) k))) t)

arguments_code : (f : Expression) (p : Place) (k : ExpressionContext) (t : Token)
    → coded (M.on_arguments f p k t) ≡ C.on_arguments (expr_part f) p (expression_stack k) (expression_context_names k) t
arguments_code f p k (token RightParen q) = refl
arguments_code f p k (token x q) = operand_code (whole (in_argument f p no_arguments k)) (token x q)

access_code : (e : Expression) (p : Place) (o : Access) (k : ExpressionContext) (t : Token)
    → coded (M.on_access e p o k t) ≡ C.on_access (expr_part e) p o (expression_stack k) (expression_context_names k) t
access_code e p o k (token (Name x) q) = refl
access_code e p o k (token _ q) = refl

-- ## Initializers

-- where the value of an initializer is wanted
value_code : (k : InitializerContext) (t : Token)
    → coded (M.on_operand (whole (in_statement (of_initializer k))) t) ≡ C.on_operand (initializer_stack k) (initializer_context_names k) t
value_code k t = operand_code (whole (in_statement (of_initializer k))) t

initializer_code : (k : InitializerContext) (t : Token) → coded (M.on_initializer k t) ≡ C.on_initializer (initializer_stack k) (initializer_context_names k) t
initializer_code k (token LeftBrace q) = refl
initializer_code k (token x q) = value_code k (token x q)

list_comma_code : (k : InitializerContext) (p : Place) (xs : Arguments) (e : Expression) (q : Place) (t : Token)
    → coded (M.on_list_comma k p xs e q t) ≡ C.on_list_comma (expr_part e) (push (list_frame p (arguments_part xs)) (initializer_stack k)) (initializer_context_names k) t
list_comma_code k p xs e q (token RightBrace l) = refl
list_comma_code k p xs e q (token x l) = operand_code (whole (in_statement (of_list k p (argument xs e q)))) (token x l)

after_list_code : (k : InitializerContext) (p : Place) (xs : Arguments) (e : Expression) (c : Trailing) (l : Place) (t : Token)
    → coded (M.on_after_list k p xs e c l t) ≡ C.on_after_list p (add_argument (arguments_part xs) (expr_part e)) (initializer_stack k) (initializer_context_names k) t
after_list_code (initializer_of s ds d p k) q xs e c l t = init_code s ds k (init_declarator d (initializer_list p q xs e c l)) t

-- ## Statements

statement_code : (k : StatementContext) (t : Token) → coded (M.on_statement k t) ≡ C.on_statement (statement_stack k) (statement_context_names k) t
statement_code k (token LeftBrace p) = refl
statement_code k (token Semicolon p) = refl
statement_code k (token If p) = refl
statement_code k (token While p) = refl
statement_code k (token Switch p) = refl
statement_code k (token Do p) = refl
statement_code k (token For p) = refl
statement_code k (token (JumpWord j) p) = refl
statement_code k (token Return p) = refl
statement_code k (token x p) = operand_code (whole (in_statement (of_statement k))) (token x p)

-- the frame of a label behind items of a group
label_code : (is : Items) (gs : Groups) (ls : Labels) (k : GroupsContext)
    → label_stack (M.label_context is gs ls k) ≡ push (C.label_behind (groups_part gs) (labels_part ls) (items_part is)) (groups_stack k)
label_code no_items gs ls k = refl
label_code (declaration_item is d) gs ls k =
    ap (λ b. push (cond b (label_frame (groups_part gs) (labels_part ls)) (label_frame (groups_part (group gs ls (declaration_item is d))) no_label)) (groups_stack k))
    (sym (decl_some (items_part is).trees (decl_of d).tree))
label_code (statement_item is s) gs ls k =
    ap (λ b. push (cond b (label_frame (groups_part gs) (labels_part ls)) (label_frame (groups_part (group gs ls (statement_item is s))) no_label)) (groups_stack k))
    (sym (stmt_some (items_part is).trees (stmt_part s).tree))

label_names_code : (is : Items) (gs : Groups) (ls : Labels) (k : GroupsContext) → label_context_names (M.label_context is gs ls k) ≡ items_names is (groups_names gs (groups_context_names k))
label_names_code no_items gs ls k = refl
label_names_code (declaration_item is d) gs ls k = refl
label_names_code (statement_item is s) gs ls k = refl

made_same : (m : C.Mode) (k k' : Stack) (ns ns' : List Identifier) → k ≡ k' → ns ≡ ns' → C.goes m k ns ≡ C.goes m k' ns'
made_same m k k' ns ns' e h = cc

case_code : (is : Items) (k : ItemsContext) (p : Place)
    → coded (M.on_case is k p) ≡ C.on_case p (items_stack (items_part is) k) (items_names is (items_context_names k))
case_code is (group_of gs ls k) p = made_same C.in_expression _ _ _ _ (ap (λ s. push (case_frame p) s) (label_code is gs ls k)) (label_names_code is gs ls k)
case_code is (block_of q k) p = refl
case_code is (function_body f s d q) p = refl

default_code : (is : Items) (k : ItemsContext) (p : Place)
    → coded (M.on_default is k p) ≡ C.on_default p (items_stack (items_part is) k) (items_names is (items_context_names k))
default_code is (group_of gs ls k) p = made_same (C.after_default p) _ _ _ _ (label_code is gs ls k) (label_names_code is gs ls k)
default_code is (block_of q k) p = refl
default_code is (function_body f s d q) p = refl

item_code : (is : Items) (k : ItemsContext) (t : Token)
    → coded (M.on_item is k t) ≡ C.on_item (items_stack (items_part is) k) (items_names is (items_context_names k)) t
item_code is k t =
    coded-cond (begins_declaration (items_names is (items_context_names k)) (kind_of t)) _ _ _ _ (specifiers_code no_specifiers (in_declaration (in_items is k)) t) (statement_code (item_of is k) t)

on_items_code : (is : Items) (k : ItemsContext) (t : Token)
    → coded (M.on_items is k t) ≡ C.on_items (items_stack (items_part is) k) (items_names is (items_context_names k)) t
on_items_code is k (token RightBrace p) = items_code is k p
on_items_code is k (token Case p) = case_code is k p
on_items_code is k (token Default p) = default_code is k p
on_items_code is k (token x p) = item_code is k (token x p)

then_code : (p q : Place) (e : Expression) (l : Place) (s : Statement) (k : StatementContext) (t : Token) (other : Option State) (other' : Option Reader) → coded other ≡ other'
    → coded (M.on_then p q e l s k other t)
    ≡ cond (C.is_else t) (C.goes C.in_statement (push (else_frame p (expr_part e) (stmt_part s)) (statement_stack k)) (statement_names s (statement_context_names k))) other'
then_code p q e l s k (token Else m) other other' h = refl
then_code p q e l s k (token _ m) other other' h = h

do_while_code : (p : Place) (s : Statement) (k : StatementContext) (t : Token)
    → coded (M.on_do_while p s k t) ≡ C.end_if (C.is_while t) (C.in_do_condition p (stmt_part s)) (statement_stack k) (statement_names s (statement_context_names k))
do_while_code p s k (token While w) = refl
do_while_code p s k (token _ w) = refl

after_code : (k : StatementContext) (s : Statement) (t : Token)
    → coded (M.on_after s k t) ≡ C.on_after (stmt_part s) (statement_stack k) (statement_names s (statement_context_names k)) t
after_code (then_of p q e l k) s t = then_code p q e l s k t _ _ (after_code k (if_statement p q e l s) t)
after_code (else_of p q e l a m k) s t = after_code k (if_else p q e l a m s) t
after_code (while_body p q e l k) s t = after_code k (while_statement p q e l s) t
after_code (do_body p k) s t = do_while_code p s k t
after_code (for_body p q f c m u l k) s t = after_code k (for_statement p q f c m u l s) t
after_code (item_of is (block_of p k)) s t = on_items_code (statement_item is s) (block_of p k) t
after_code (item_of is (function_body f x d p)) s t = on_items_code (statement_item is s) (function_body f x d p) t
after_code (item_of is (group_of gs ls k)) s t = on_items_code (statement_item is s) (group_of gs ls k) t

labels_code : (k : GroupsContext) (t : Token) → coded (M.on_labels k t) ≡ C.on_labels (groups_stack k) (groups_context_names k) t
labels_code k (token RightBrace p) = groups_code k no_groups p
labels_code k (token Case p) = refl
labels_code k (token Default p) = refl
labels_code k (token _ p) = refl

after_default_code : (k : LabelContext) (p : Place) (t : Token)
    → coded (M.on_after_default k p t) ≡ C.on_after_default p (label_stack k) (label_context_names k) t
after_default_code k p (token Colon q) = labelled_code k (default_label p q)
after_default_code k p (token _ q) = refl

condition_code : (h : Head) (p : Place) (k : StatementContext) (t : Token)
    → coded (M.on_condition h p k t) ≡ C.on_condition h p (statement_stack k) (statement_context_names k) t
condition_code if_head p k (token LeftParen q) = refl
condition_code while_head p k (token LeftParen q) = refl
condition_code switch_head p k (token LeftParen q) = refl
condition_code h p k (token _ q) = refl

do_condition_code : (p : Place) (s : Statement) (w : Place) (k : StatementContext) (t : Token)
    → coded (M.on_do_condition p s w k t) ≡ C.on_do_condition p (stmt_part s) (statement_stack k) (statement_names s (statement_context_names k)) t
do_condition_code p s w k (token LeftParen q) = refl
do_condition_code p s w k (token _ q) = refl

after_do_code : (p : Place) (s : Statement) (w q : Place) (e : Expression) (l : Place) (k : StatementContext) (t : Token)
    → coded (M.on_after_do p s w q e l k t) ≡ C.on_after_do p (stmt_part s) (expr_part e) (statement_stack k) (statement_names s (statement_context_names k)) t
after_do_code p s w q e l k (token Semicolon m) = refl
after_do_code p s w q e l k (token _ m) = refl

for_code : (p : Place) (k : StatementContext) (t : Token) → coded (M.on_for p k t) ≡ C.on_for p (statement_stack k) (statement_context_names k) t
for_code p k (token LeftParen q) = refl
for_code p k (token _ q) = refl

for_item_code : (p q : Place) (k : StatementContext) (t : Token)
    → coded (M.on_for_item p q k t)
    ≡ cond (begins_declaration (statement_context_names k) (kind_of t)) (C.on_specifiers no_specifier (push (for_head_frame p) (statement_stack k)) (statement_context_names k) t)
    (C.on_operand (push (for_first_frame p) (statement_stack k)) (statement_context_names k) t)
for_item_code p q k t =
    coded-cond (begins_declaration (statement_context_names k) (kind_of t)) _ _ _ _ (specifiers_code no_specifiers (in_declaration (in_for_head p q k)) t)
    (operand_code (whole (in_statement (of_for_first p q k))) t)

for_first_code : (p q : Place) (k : StatementContext) (t : Token)
    → coded (M.on_for_first p q k t) ≡ C.on_for_first p (statement_stack k) (statement_context_names k) t
for_first_code p q k (token Semicolon l) = refl
for_first_code p q k (token x l) = for_item_code p q k (token x l)

for_test_code : (p q : Place) (f : ForFirst) (k : StatementContext) (t : Token)
    → coded (M.on_for_test p q f k t) ≡ C.on_for_test p (for_first_part f) (statement_stack k) (for_first_names f (statement_context_names k)) t
for_test_code p q f k (token Semicolon m) = refl
for_test_code p q f k (token x m) = operand_code (whole (in_statement (of_for_test p q f k))) (token x m)

for_step_code : (p q : Place) (f : ForFirst) (c : Option Expression) (m : Place) (k : StatementContext) (t : Token)
    → coded (M.on_for_step p q f c m k t) ≡ C.on_for_step p (for_first_part f) (optional_part c) (statement_stack k) (for_first_names f (statement_context_names k)) t
for_step_code p q f c m k (token RightParen l) = refl
for_step_code p q f c m k (token x l) = operand_code (whole (in_statement (of_for_step p q f c m k))) (token x l)

switch_code : (p q : Place) (e : Expression) (l : Place) (k : StatementContext) (t : Token)
    → coded (M.on_switch_body p q e l k t) ≡ C.on_switch_body p (expr_part e) (statement_stack k) (statement_context_names k) t
switch_code p q e l k (token LeftBrace m) = refl
switch_code p q e l k (token _ m) = refl

jump_code : (p : Place) (j : Jump) (k : StatementContext) (t : Token) → coded (M.on_jump p j k t) ≡ C.on_jump p j (statement_stack k) (statement_context_names k) t
jump_code p j k (token Semicolon q) = refl
jump_code p j k (token _ q) = refl

return_code : (p : Place) (k : StatementContext) (t : Token) → coded (M.on_return p k t) ≡ C.on_return p (statement_stack k) (statement_context_names k) t
return_code p k (token Semicolon q) = refl
return_code p k (token x q) = operand_code (whole (in_statement (of_return p k))) (token x q)

-- ## One token

pub feed_code : (s : State) (t : Token) → coded (M.feed s t) ≡ C.feed_code (reader_of s) t
unfolding M.feed C.feed_in
feed_code (M.at_file f) t = specifiers_code no_specifiers (in_declaration (in_file f)) t
feed_code (M.at_items is k) t = on_items_code is k t
feed_code (M.at_statement k) t = statement_code k t
feed_code (M.after_statement s k) t = after_code k s t
feed_code (M.at_labels k) t = labels_code k t
feed_code (M.after_default k p) t = after_default_code k p t
feed_code (M.at_condition h p k) t = condition_code h p k t
feed_code (M.at_do_condition p s w k) t = do_condition_code p s w k t
feed_code (M.after_do p s w q e l k) t = after_do_code p s w q e l k t
feed_code (M.at_for p k) t = for_code p k t
feed_code (M.at_for_first p q k) t = for_first_code p q k t
feed_code (M.at_for_test p q f k) t = for_test_code p q f k t
feed_code (M.at_for_step p q f c m k) t = for_step_code p q f c m k t
feed_code (M.at_switch_body p q e l k) t = switch_code p q e l k t
feed_code (M.at_jump p j k) t = jump_code p j k t
feed_code (M.at_return p k) t = return_code p k t
feed_code (M.at_initializer k) t = initializer_code k t
feed_code (M.at_list_comma k p xs e q) t = list_comma_code k p xs e q t
feed_code (M.after_list k p xs e c l) t = after_list_code k p xs e c l t
feed_code (M.at_specifiers s k) t = specifiers_code s k t
feed_code (M.at_composite s p w k) t = composite_code s p w k t
feed_code (M.at_enum s p k) t = enum_code s p k t
feed_code (M.at_members ms k) t = members_code ms k t
feed_code (M.at_enumerator k) t = enumerator_start_code k t
feed_code (M.after_enumerator es p x k) t = after_enumerator_code es p x k t
feed_code (M.after_enumerator_comma es e p k) t = enumerator_comma_code es e p k t
feed_code (M.at_declarator c k) t = starred_code c k t
feed_code (M.after_declarator d c k) t = direct_code d c k t
feed_code (M.at_abstract c k) t = starred_abstract_code c k t
feed_code (M.at_opened c p k) t = opened_code c p k t
feed_code (M.after_abstract a c k) t = direct_abstract_code a c k t
feed_code (M.at_length k p) t = length_start_code k p t
feed_code (M.at_parameters k p) t = parameters_start_code k p t
feed_code (M.at_expression k) t = operand_code k t
feed_code (M.after_postfix e k) t = postfix_code e k t
feed_code (M.after_sizeof e k) t = expression_code k e t
feed_code (M.at_open p k) t = open_code p k t
feed_code (M.at_sizeof p k) t = sizeof_code p k t
feed_code (M.at_sizeof_open p q k) t = sizeof_open_code p q k t
feed_code (M.at_arguments f p k) t = arguments_code f p k t
feed_code (M.at_access e p o k) t = access_code e p o k t

-- many tokens
pub read_code : (o : Option State) (ts : List Token) → coded (M.go o ts) ≡ C.read_on (coded o) ts
unfolding M.go C.read_on
read_code None [] = refl
read_code None (t ∷ ts) = refl
read_code (Some s) [] = refl
read_code (Some s) (t ∷ ts) = read_code (M.feed s t) ts ∙ ap (λ o. C.read_on o ts) (feed_code s t)

pub start_same : reader_of M.start ≡ C.start_code
start_same = refl
