-- The reader does what the machine of the grammar does: token by token, it has the parts and the frames of the machine's state.
use Rattle.std.proofs.Common.{◌≡◌, cond, nat_le, Option, Some, None, suc, refl, sym, ◌∙◌, ap}
use Rattle.c_reading.proofs.Erase.{expr_part, arguments_part, type_name_part, specs_part, with_enumerator, enumerators_part, decl_part, abstract_part, parameters_part, earlier_part, with_parameter, with_init, inits_part, decl_of, optional_part, for_first_part, label_part, stmt_part, items_part, groups_part, statement_stack, items_stack, groups_stack, label_stack, declaration_stack, initializer_stack, chain_stack, expression_stack, hole_stack, parameters_stack, specifiers_stack, type_name_stack, enum_stack, declarator_stack, abstract_stack, coded}
use Rattle.c_reading.proofs.Tests.{coded-cond, coded-test, level_same, words_last, type_same, storage_same, names_same, list_unnamed, some_same}
use Rattle.c_grammar.specs.Derivations.{first_word, next_word, Trailing, no_comma, Expression, Arguments, TypeName, type_name, Specifiers, no_specifiers, storage_class, qualifier, inlined, type_words, typedef_name, composite_reference, composite, enum_reference, enumeration, no_declarators, Enumerator, enumerator_value, Enumerators, Declarator, AbstractDeclarator, no_declarator, abstract_pointer, Parameters, EarlierParameters, Parameter, unnamed_parameter, initializer, InitDeclarator, init_declarator, InitDeclarators, no_init_declarators, specifiers_alone, declaration, ForFirst, Label, case_label, Statement, Items, Groups, group}
use Rattle.c_reading.specs.Parts.{add_first_word, ParametersPart, declared_part, no_inits, declaration_part}
use Rattle.c_reading.specs.Frames.{suffixed, suffixed_abstract, parentheses_frame, index_frame, argument_frame, middle_frame, length_frame, enumerator_frame, expression_frame, return_frame, if_frame, while_frame, do_frame, switch_frame, for_first_frame, for_test_frame, for_step_frame, case_frame, list_frame, nest_of}
use Rattle.c_reading.specs.Code.{Reader}
use Rattle.c_grammar.specs.Spelling.{is_typedef, declares_types, init_declarator_names, declaration_names, items_names, groups_names, names_type, has_type, has_storage, is_some_declarator, precedence, is_unary, level}
use Rattle.c_grammar.specs.Contexts.{StatementContext, ItemsContext, block_of, function_body, group_of, GroupsContext, switch_of, LabelContext, new_group, another_label, DeclarationContext, in_file, in_items, in_for_head, InitializerContext, initializer_of, of_statement, of_return, of_if, of_while, of_do, of_switch, of_for_first, of_for_test, of_for_step, of_case, of_initializer, of_list, Chain, top, starred, opened, ExpressionContext, operand, whole, Hole, in_parentheses, in_index, in_argument, in_middle, in_length, in_enumerator, in_statement, Suffixed, of_declarator, of_abstract, SpecifiersContext, in_declaration, in_member, in_parameter, in_type_name, TypeNameContext, in_cast, in_sizeof, in_composite, EnumContext, in_enumeration, DeclaratorContext, init_context, member_context, AbstractContext, parameter_abstract, type_name_abstract, items_context_names, groups_context_names, label_context_names, declaration_context_names, init_context_names, initializer_context_names, statement_hole_names, expression_context_names, hole_names, suffixed_names, specifiers_context_names, type_name_context_names, enum_context_names, declarator_context_names, abstract_context_names}
use Rattle.c_grammar.specs.Tokens.{Identifier, Place, Star, TypeWord, Name, Constant, Op, Assignment, Step, Member, TypeKeyword, Qualify, Storage, Composite, Inline, Enum, Sizeof, LeftBrace, RightBrace, LeftParen, RightParen, LeftBracket, RightBracket, Semicolon, Comma, Question, Colon, Token, token}
use Rattle.c_grammar.specs.Machine as M
use Rattle.c_reading.specs.Code as C
use Rattle.c_grammar.specs.Contexts as before

-- ## What a whole part is put into

declared_code : (k : DeclarationContext) (s : Specifiers) (ds : InitDeclarators) (d : InitDeclarator) (p : Place)
    → coded (Some (M.declared k (declaration s ds d p))) ≡ C.declared (decl_of (declaration s ds d p)) (declaration_stack k) (declaration_names (declaration s ds d p) (declaration_context_names k))
declared_code (in_file f) s ds d p = refl
declared_code (in_items is (block_of q k)) s ds d p = refl
declared_code (in_items is (function_body f x y q)) s ds d p = refl
declared_code (in_items is (group_of gs ls k)) s ds d p = refl
declared_code (in_for_head q l k) s ds d p = refl

alone_code : (k : DeclarationContext) (s : Specifiers) (p : Place)
    → coded (M.declared_alone k (specifiers_alone s p)) ≡ C.declared_alone (declaration_part (specs_part s) no_inits) (declaration_stack k) (declaration_context_names k)
alone_code (in_file f) s p = refl
alone_code (in_items is (block_of q k)) s p = refl
alone_code (in_items is (function_body f x y q)) s p = refl
alone_code (in_items is (group_of gs ls k)) s p = refl
alone_code (in_for_head q l k) s p = refl

-- behind the parenthesis that ends parameters
pub parameters_code : (k : Suffixed) (p : Place) (ps : Parameters) (q : Place) (last : ParametersPart) → parameters_part ps ≡ last
    → coded (Some (M.function_of k p ps q)) ≡ C.parameters_end last (parameters_stack k) (suffixed_names k)
parameters_code (of_declarator d c k) p ps q last e = ap (λ x. C.parameters_end x (parameters_stack (of_declarator d c k)) (declarator_context_names k)) e
parameters_code (of_abstract a c k) p ps q last e = ap (λ x. C.parameters_end x (parameters_stack (of_abstract a c k)) (abstract_context_names k)) e

pub enumeration_code : (k : EnumContext) (es : Enumerators) (e : Enumerator) (c : Trailing) (l : Place)
    → coded (Some (M.close_enumeration k es e c l)) ≡ C.enumeration_end (with_enumerator (enumerators_part es) e) (enum_stack k) (enum_context_names k)
enumeration_code (in_enumeration s p t q k) es e c l = refl

pub groups_code : (k : GroupsContext) (gs : Groups) (n : Place)
    → coded (Some (M.close_groups k gs n)) ≡ C.groups_end (groups_part gs) (groups_stack k) (groups_names gs (groups_context_names k))
groups_code (switch_of p q e l m k) gs n = refl

pub items_code : (is : Items) (k : ItemsContext) (q : Place) → coded (Some (M.close_items is k q)) ≡ C.items_end (items_stack (items_part is) k) (items_names is (items_context_names k))
items_code is (block_of p k) q = refl
items_code is (function_body f s d p) q = refl
items_code is (group_of gs ls k) q = groups_code k (group gs ls is) q

pub labelled_code : (k : LabelContext) (l : Label) → coded (Some (M.labelled k l)) ≡ C.labelled (label_part l) (label_stack k) (label_context_names k)
labelled_code (new_group gs k) l = refl
labelled_code (another_label gs ls k) l = refl

-- ## Expressions

operator_code : (e : Expression) (k : ExpressionContext) (t : Token)
    → coded (M.on_operator e k t) ≡ C.on_operator (expr_part e) (expression_stack k) (expression_context_names k) t
operator_code e k (token (Op o) p) =
    coded-cond (nat_le 3 (precedence o)) _ _ _ _ (coded-test (nat_le (precedence o) (level e)) _ _ _ _ _ (ap (λ n. nat_le (precedence o) n) (level_same e)) refl refl) refl
operator_code e k (token (Assignment o) p) = coded-test (nat_le 14 (level e)) _ _ _ _ _ (ap (λ n. nat_le 14 n) (level_same e)) refl refl
operator_code e k (token Question p) = coded-test (nat_le 3 (level e)) _ _ _ _ _ (ap (λ n. nat_le 3 n) (level_same e)) refl refl
operator_code e k (token _ p) = refl

pub init_code : (s : Specifiers) (ds : InitDeclarators) (k : DeclarationContext) (d : InitDeclarator) (t : Token)
    → coded (M.on_init_declarator s ds k d t) ≡ C.on_init_declarator (specs_part s) (with_init (inits_part ds) d) (declaration_stack k) (init_declarator_names (declares_types s) d (init_context_names s ds k)) t
init_code s ds k d (token Semicolon p) = declared_code k s ds d p
init_code s ds k (init_declarator d i) (token Comma p) = refl
init_code s ds k d (token _ p) = refl

-- an expression that a frame ends
abbrev ends_in : Hole → Expression → Token → Option Reader → Type 0
ends_in h e t x = coded (M.on_expression e (whole h) t) ≡ cond (nat_le (before.hole_need h) (C.binds_of t)) (C.on_operator (expr_part e) (hole_stack h) (hole_names h) t) x

ended : (h : Hole) (e : Expression) (t : Token) (x : Option Reader) → coded (M.on_hole h e t) ≡ x → ends_in h e t x
ended h e t x g = coded-cond (nat_le (before.hole_need h) (C.binds_of t)) _ _ _ _ (operator_code e (whole h) t) g

parentheses_code : (p : Place) (k : ExpressionContext) (e : Expression) (t : Token)
    → coded (M.on_hole (in_parentheses p k) e t) ≡ C.on_hole (parentheses_frame p) (expr_part e) (expression_stack k) (expression_context_names k) t
parentheses_code p k e (token RightParen q) = refl
parentheses_code p k e (token _ q) = refl

index_code : (a : Expression) (p : Place) (k : ExpressionContext) (e : Expression) (t : Token)
    → coded (M.on_hole (in_index a p k) e t) ≡ C.on_hole (index_frame (expr_part a) p) (expr_part e) (expression_stack k) (expression_context_names k) t
index_code a p k e (token RightBracket q) = refl
index_code a p k e (token _ q) = refl

argument_code : (f : Expression) (p : Place) (xs : Arguments) (k : ExpressionContext) (e : Expression) (t : Token)
    → coded (M.on_hole (in_argument f p xs k) e t) ≡ C.on_hole (argument_frame (expr_part f) p (arguments_part xs)) (expr_part e) (expression_stack k) (expression_context_names k) t
argument_code f p xs k e (token Comma q) = refl
argument_code f p xs k e (token RightParen q) = refl
argument_code f p xs k e (token _ q) = refl

middle_code : (c : Expression) (p : Place) (k : ExpressionContext) (e : Expression) (t : Token)
    → coded (M.on_hole (in_middle c p k) e t) ≡ C.on_hole (middle_frame (expr_part c) p) (expr_part e) (expression_stack k) (expression_context_names k) t
middle_code c p k e (token Colon q) = refl
middle_code c p k e (token _ q) = refl

length_code : (d : Declarator) (c : Chain) (k : DeclaratorContext) (p : Place) (e : Expression) (t : Token)
    → coded (M.on_hole (in_length (of_declarator d c k) p) e t) ≡ C.on_hole (length_frame (suffixed (decl_part d))) (expr_part e) (chain_stack c (declarator_stack k)) (declarator_context_names k) t
length_code d c k p e (token RightBracket q) = refl
length_code d c k p e (token _ q) = refl

abstract_length_code : (a : AbstractDeclarator) (c : Chain) (k : AbstractContext) (p : Place) (e : Expression) (t : Token)
    → coded (M.on_hole (in_length (of_abstract a c k) p) e t) ≡ C.on_hole (length_frame (suffixed_abstract (abstract_part a))) (expr_part e) (chain_stack c (abstract_stack k)) (abstract_context_names k) t
abstract_length_code a c k p e (token RightBracket q) = refl
abstract_length_code a c k p e (token _ q) = refl

enumerator_code : (es : Enumerators) (p : Place) (x : Identifier) (q : Place) (k : EnumContext) (e : Expression) (t : Token)
    → coded (M.on_hole (in_enumerator es p x q k) e t) ≡ C.on_hole (enumerator_frame (enumerators_part es) p x) (expr_part e) (enum_stack k) (enum_context_names k) t
enumerator_code es p x q k e (token Comma l) = refl
enumerator_code es p x q k e (token RightBrace l) = enumeration_code k es (enumerator_value p x q e) no_comma l
enumerator_code es p x q k e (token _ l) = refl

statement_hole_code : (k : StatementContext) (e : Expression) (t : Token)
    → coded (M.on_statement_hole (of_statement k) e t) ≡ C.on_hole expression_frame (expr_part e) (statement_stack k) (statement_hole_names (of_statement k)) t
statement_hole_code k e (token Semicolon z) = refl
statement_hole_code k e (token _ z) = refl

return_hole_code : (p : Place) (k : StatementContext) (e : Expression) (t : Token)
    → coded (M.on_statement_hole (of_return p k) e t) ≡ C.on_hole (return_frame p) (expr_part e) (statement_stack k) (statement_hole_names (of_return p k)) t
return_hole_code p k e (token Semicolon z) = refl
return_hole_code p k e (token _ z) = refl

if_hole_code : (p q : Place) (k : StatementContext) (e : Expression) (t : Token)
    → coded (M.on_statement_hole (of_if p q k) e t) ≡ C.on_hole (if_frame p) (expr_part e) (statement_stack k) (statement_hole_names (of_if p q k)) t
if_hole_code p q k e (token RightParen z) = refl
if_hole_code p q k e (token _ z) = refl

while_hole_code : (p q : Place) (k : StatementContext) (e : Expression) (t : Token)
    → coded (M.on_statement_hole (of_while p q k) e t) ≡ C.on_hole (while_frame p) (expr_part e) (statement_stack k) (statement_hole_names (of_while p q k)) t
while_hole_code p q k e (token RightParen z) = refl
while_hole_code p q k e (token _ z) = refl

do_hole_code : (p : Place) (s : Statement) (w q : Place) (k : StatementContext) (e : Expression) (t : Token)
    → coded (M.on_statement_hole (of_do p s w q k) e t) ≡ C.on_hole (do_frame p (stmt_part s)) (expr_part e) (statement_stack k) (statement_hole_names (of_do p s w q k)) t
do_hole_code p s w q k e (token RightParen z) = refl
do_hole_code p s w q k e (token _ z) = refl

switch_hole_code : (p q : Place) (k : StatementContext) (e : Expression) (t : Token)
    → coded (M.on_statement_hole (of_switch p q k) e t) ≡ C.on_hole (switch_frame p) (expr_part e) (statement_stack k) (statement_hole_names (of_switch p q k)) t
switch_hole_code p q k e (token RightParen z) = refl
switch_hole_code p q k e (token _ z) = refl

for_first_hole_code : (p q : Place) (k : StatementContext) (e : Expression) (t : Token)
    → coded (M.on_statement_hole (of_for_first p q k) e t) ≡ C.on_hole (for_first_frame p) (expr_part e) (statement_stack k) (statement_hole_names (of_for_first p q k)) t
for_first_hole_code p q k e (token Semicolon z) = refl
for_first_hole_code p q k e (token _ z) = refl

for_test_hole_code : (p q : Place) (f : ForFirst) (k : StatementContext) (e : Expression) (t : Token)
    → coded (M.on_statement_hole (of_for_test p q f k) e t) ≡ C.on_hole (for_test_frame p (for_first_part f)) (expr_part e) (statement_stack k) (statement_hole_names (of_for_test p q f k)) t
for_test_hole_code p q f k e (token Semicolon z) = refl
for_test_hole_code p q f k e (token _ z) = refl

for_step_hole_code : (p q : Place) (f : ForFirst) (c : Option Expression) (m : Place) (k : StatementContext) (e : Expression) (t : Token)
    → coded (M.on_statement_hole (of_for_step p q f c m k) e t) ≡ C.on_hole (for_step_frame p (for_first_part f) (optional_part c)) (expr_part e) (statement_stack k) (statement_hole_names (of_for_step p q f c m k)) t
for_step_hole_code p q f c m k e (token RightParen z) = refl
for_step_hole_code p q f c m k e (token _ z) = refl

case_hole_code : (k : LabelContext) (p : Place) (e : Expression) (t : Token)
    → coded (M.on_statement_hole (of_case k p) e t) ≡ C.on_hole (case_frame p) (expr_part e) (label_stack k) (label_context_names k) t
case_hole_code k p e (token Colon q) = labelled_code k (case_label p e q)
case_hole_code k p e (token _ q) = refl

list_hole_code : (k : InitializerContext) (p : Place) (xs : Arguments) (e : Expression) (t : Token)
    → coded (M.on_statement_hole (of_list k p xs) e t) ≡ C.on_hole (list_frame p (arguments_part xs)) (expr_part e) (initializer_stack k) (initializer_context_names k) t
list_hole_code k p xs e (token Comma q) = refl
list_hole_code k p xs e (token RightBrace q) = refl
list_hole_code k p xs e (token _ q) = refl

-- behind an expression: what stands before it takes it, or a frame ends it
pub expression_code : (k : ExpressionContext) (e : Expression) (t : Token)
    → coded (M.on_expression e k t) ≡ C.on_expression (expr_part e) (expression_stack k) (expression_context_names k) t
expression_code (operand (before.step_frame p o) k) e t =
    coded-cond (nat_le 14 (C.binds_of t)) _ _ _ _ (operator_code e (operand (before.step_frame p o) k) t) (expression_code k (before.complete (before.step_frame p o) e) t)
expression_code (operand (before.unary_frame p o) k) e t =
    coded-cond (nat_le 13 (C.binds_of t)) _ _ _ _ (operator_code e (operand (before.unary_frame p o) k) t) (expression_code k (before.complete (before.unary_frame p o) e) t)
expression_code (operand (before.sizeof_frame p) k) e t =
    coded-cond (nat_le 14 (C.binds_of t)) _ _ _ _ (operator_code e (operand (before.sizeof_frame p) k) t) (expression_code k (before.complete (before.sizeof_frame p) e) t)
expression_code (operand (before.cast_frame p x q) k) e t =
    coded-cond (nat_le 13 (C.binds_of t)) _ _ _ _ (operator_code e (operand (before.cast_frame p x q) k) t) (expression_code k (before.complete (before.cast_frame p x q) e) t)
expression_code (operand (before.binary_frame a p o) k) e t =
    coded-cond (nat_le (suc (precedence o)) (C.binds_of t)) _ _ _ _ (operator_code e (operand (before.binary_frame a p o) k) t) (expression_code k (before.complete (before.binary_frame a p o) e) t)
expression_code (operand (before.conditional_frame c p a q) k) e t =
    coded-cond (nat_le 2 (C.binds_of t)) _ _ _ _ (operator_code e (operand (before.conditional_frame c p a q) k) t) (expression_code k (before.complete (before.conditional_frame c p a q) e) t)
expression_code (operand (before.assignment_frame a p o) k) e t =
    coded-cond (nat_le 1 (C.binds_of t)) _ _ _ _ (operator_code e (operand (before.assignment_frame a p o) k) t) (expression_code k (before.complete (before.assignment_frame a p o) e) t)
expression_code (whole (in_parentheses p k)) e t = ended (in_parentheses p k) e t _ (parentheses_code p k e t)
expression_code (whole (in_index a p k)) e t = ended (in_index a p k) e t _ (index_code a p k e t)
expression_code (whole (in_argument f p xs k)) e t = ended (in_argument f p xs k) e t _ (argument_code f p xs k e t)
expression_code (whole (in_middle c p k)) e t = ended (in_middle c p k) e t _ (middle_code c p k e t)
expression_code (whole (in_length (of_declarator d c k) p)) e t = ended (in_length (of_declarator d c k) p) e t _ (length_code d c k p e t)
expression_code (whole (in_length (of_abstract a c k) p)) e t = ended (in_length (of_abstract a c k) p) e t _ (abstract_length_code a c k p e t)
expression_code (whole (in_enumerator es p x q k)) e t = ended (in_enumerator es p x q k) e t _ (enumerator_code es p x q k e t)
expression_code (whole (in_statement (of_statement k))) e t = ended (in_statement (of_statement k)) e t _ (statement_hole_code k e t)
expression_code (whole (in_statement (of_return p k))) e t = ended (in_statement (of_return p k)) e t _ (return_hole_code p k e t)
expression_code (whole (in_statement (of_if p q k))) e t = ended (in_statement (of_if p q k)) e t _ (if_hole_code p q k e t)
expression_code (whole (in_statement (of_while p q k))) e t = ended (in_statement (of_while p q k)) e t _ (while_hole_code p q k e t)
expression_code (whole (in_statement (of_do p s w q k))) e t = ended (in_statement (of_do p s w q k)) e t _ (do_hole_code p s w q k e t)
expression_code (whole (in_statement (of_switch p q k))) e t = ended (in_statement (of_switch p q k)) e t _ (switch_hole_code p q k e t)
expression_code (whole (in_statement (of_for_first p q k))) e t = ended (in_statement (of_for_first p q k)) e t _ (for_first_hole_code p q k e t)
expression_code (whole (in_statement (of_for_test p q f k))) e t = ended (in_statement (of_for_test p q f k)) e t _ (for_test_hole_code p q f k e t)
expression_code (whole (in_statement (of_for_step p q f c m k))) e t = ended (in_statement (of_for_step p q f c m k)) e t _ (for_step_hole_code p q f c m k e t)
expression_code (whole (in_statement (of_case k p))) e t = ended (in_statement (of_case k p)) e t _ (case_hole_code k p e t)
expression_code (whole (in_statement (of_initializer (initializer_of s ds d p k)))) e t = ended (in_statement (of_initializer (initializer_of s ds d p k))) e t _ (init_code s ds k (init_declarator d (initializer p e)) t)
expression_code (whole (in_statement (of_list k p xs))) e t = ended (in_statement (of_list k p xs)) e t _ (list_hole_code k p xs e t)

pub postfix_code : (e : Expression) (k : ExpressionContext) (t : Token)
    → coded (M.on_postfix e k t) ≡ C.on_postfix (expr_part e) (expression_stack k) (expression_context_names k) t
postfix_code e k (token LeftBracket p) = refl
postfix_code e k (token LeftParen p) = refl
postfix_code e k (token (Member o) p) = refl
postfix_code e k (token (Step o) p) = refl
postfix_code e k (token x p) = expression_code k e (token x p)

pub operand_code : (k : ExpressionContext) (t : Token) → coded (M.on_operand k t) ≡ C.on_operand (expression_stack k) (expression_context_names k) t
operand_code k (token (Name x) p) = coded-cond (is_typedef (expression_context_names k) x) _ _ _ _ refl refl
operand_code k (token (Constant n) p) = refl
operand_code k (token (Op o) p) = coded-cond (is_unary o) _ _ _ _ refl refl
operand_code k (token (Step o) p) = refl
operand_code k (token Sizeof p) = refl
operand_code k (token LeftParen p) = refl
operand_code k (token _ p) = refl

-- ## Declarators

pub declarator_code : (c : Chain) (k : DeclaratorContext) (t : Token)
    → coded (M.on_declarator c k t) ≡ C.on_declarator (chain_stack c (declarator_stack k)) (declarator_context_names k) t
declarator_code c k (token (Name x) p) = coded-cond (is_typedef (declarator_context_names k) x) _ _ _ _ refl refl
declarator_code c k (token (Op Star) p) = refl
declarator_code c k (token LeftParen p) = refl
declarator_code c k (token (Op _) p) = refl
declarator_code c k (token _ p) = refl

-- behind a parameter
pub parameter_code : (ps : EarlierParameters) (k : Suffixed) (p : Place) (x : Parameter) (last : ParametersPart) (t : Token) → parameters_part (M.list_of ps x) ≡ last
    → coded (M.on_parameter ps k p x t) ≡ C.on_parameter (with_parameter (earlier_part ps) x) last (parameters_stack k) (suffixed_names k) t
parameter_code ps k p x last (token Comma q) e = refl
parameter_code ps k p x last (token RightParen q) e = parameters_code k p (M.list_of ps x) q last e
parameter_code ps k p x last (token _ q) e = refl

type_named_code : (k : TypeNameContext) (n : TypeName) (t : Token)
    → coded (M.on_type_named k n t) ≡ cond (C.is_right_paren t) (C.type_named (type_name_part n) (type_name_stack k) (type_name_context_names k)) None
type_named_code (in_cast p k) n (token RightParen q) = refl
type_named_code (in_sizeof p l k) n (token RightParen q) = refl
type_named_code k n (token _ q) = refl

abstract_end_code : (a : AbstractDeclarator) (k : AbstractContext) (t : Token)
    → coded (M.on_abstract_end a k t) ≡ C.climb_abstract (abstract_part a) (abstract_stack k) (abstract_context_names k) t
abstract_end_code a (parameter_abstract ps s k p) t = parameter_code ps k p (unnamed_parameter s a) _ t (list_unnamed ps s a)
abstract_end_code a (type_name_abstract s k) t = type_named_code k (type_name s a) t

close_abstract_code : (a : AbstractDeclarator) (p : Place) (c : Chain) (k : AbstractContext) (t : Token)
    → coded (M.close_abstract a p c k t) ≡ C.climb_abstract (abstract_part a) (chain_stack (opened p c) (abstract_stack k)) (abstract_context_names k) t
close_abstract_code a p c k (token RightParen q) = coded-test (is_some_declarator a) _ _ _ _ _ (some_same a) refl refl
close_abstract_code a p c k (token _ q) = refl

pub climb_abstract_code : (c : Chain) (a : AbstractDeclarator) (k : AbstractContext) (t : Token)
    → coded (M.climb_abstract a c k t) ≡ C.climb_abstract (abstract_part a) (chain_stack c (abstract_stack k)) (abstract_context_names k) t
climb_abstract_code top a k t = abstract_end_code a k t
climb_abstract_code (starred p qs c) a k t = climb_abstract_code c (abstract_pointer p qs a) k t
climb_abstract_code (opened p c) a k t = close_abstract_code a p c k t

-- whether a name may stand there
pub takes_name_code : (c : Chain) (k : AbstractContext) → (nest_of (chain_stack c (abstract_stack k))).takes_name ≡ (nest_of (abstract_stack k)).takes_name
takes_name_code top k = refl
takes_name_code (starred p qs c) k = takes_name_code c k
takes_name_code (opened p c) k = takes_name_code c k

name_code : (c : Chain) (k : AbstractContext) (x : Identifier) (p : Place)
    → coded (M.on_parameter_name c k x p) ≡ C.on_abstract (chain_stack c (abstract_stack k)) (abstract_context_names k) (token (Name x) p)
name_code c (parameter_abstract ps s k l) x p =
    coded-cond (is_typedef (suffixed_names k) x) _ _ _ _ refl refl
    ∙ ap (λ b. cond b (cond (is_typedef (suffixed_names k) x) None (C.goes (C.after_declarator (declared_part p x)) (chain_stack c (abstract_stack (parameter_abstract ps s k l))) (suffixed_names k))) None)
    (sym (takes_name_code c (parameter_abstract ps s k l)))
name_code c (type_name_abstract s k) x p =
    ap (λ b. cond b (cond (is_typedef (type_name_context_names k) x) None (C.goes (C.after_declarator (declared_part p x)) (chain_stack c (abstract_stack (type_name_abstract s k))) (type_name_context_names k))) None)
    (sym (takes_name_code c (type_name_abstract s k)))

pub abstract_code : (c : Chain) (k : AbstractContext) (t : Token)
    → coded (M.on_abstract c k t) ≡ C.on_abstract (chain_stack c (abstract_stack k)) (abstract_context_names k) t
abstract_code c k (token (Name x) p) = name_code c k x p
abstract_code c k (token (Op Star) p) = refl
abstract_code c k (token LeftParen p) = refl
abstract_code c k (token LeftBracket p) = refl
abstract_code c k (token (Op o) p) = climb_abstract_code c no_declarator k (token (Op o) p)
abstract_code c k (token x p) = climb_abstract_code c no_declarator k (token x p)

-- ## Specifiers

place_code : (k : SpecifiersContext) → M.takes_storage k ≡ C.takes_storage (C.specifiers_place (specifiers_stack k))
place_code (in_declaration (in_file f)) = refl
place_code (in_declaration (in_items is (block_of p k))) = refl
place_code (in_declaration (in_items is (function_body f s d p))) = refl
place_code (in_declaration (in_items is (group_of gs ls k))) = refl
place_code (in_declaration (in_for_head p q k)) = refl
place_code (in_member ms (in_composite s p w t q k)) = refl
place_code (in_parameter ps k p) = refl
place_code (in_type_name (in_cast p k)) = refl
place_code (in_type_name (in_sizeof p q k)) = refl

declarators_code : (s : Specifiers) (k : DeclarationContext) (t : Token)
    → coded (M.on_declarators s k t) ≡ C.after_specifiers C.of_declaration (specs_part s) (declaration_stack k) (declaration_context_names k) t
declarators_code s k (token Semicolon p) = alone_code k s p
declarators_code s k (token x p) = declarator_code top (init_context s no_init_declarators k) (token x p)

typed_code : (s : Specifiers) (k : SpecifiersContext) (t : Token)
    → coded (M.after_specifiers s k t) ≡ C.on_typed (specs_part s) (specifiers_stack k) (specifiers_context_names k) t
typed_code s (in_declaration (in_file f)) t = declarators_code s (in_file f) t
typed_code s (in_declaration (in_items is (block_of p k))) t = declarators_code s (in_items is (block_of p k)) t
typed_code s (in_declaration (in_items is (function_body f x d p))) t = declarators_code s (in_items is (function_body f x d p)) t
typed_code s (in_declaration (in_items is (group_of gs ls k))) t = declarators_code s (in_items is (group_of gs ls k)) t
typed_code s (in_declaration (in_for_head p q k)) t = declarators_code s (in_for_head p q k) t
typed_code s (in_member ms (in_composite x p w y q k)) t = declarator_code top (member_context ms s no_declarators (in_composite x p w y q k)) t
typed_code s (in_parameter ps k p) t = abstract_code top (parameter_abstract ps s k p) t
typed_code s (in_type_name (in_cast p k)) t = abstract_code top (type_name_abstract s (in_cast p k)) t
typed_code s (in_type_name (in_sizeof p q k)) t = abstract_code top (type_name_abstract s (in_sizeof p q k)) t

first_word_code : (s : Specifiers) (k : SpecifiersContext) (w : TypeWord) (p : Place)
    → coded (cond (has_type s) None (Some (M.at_specifiers (type_words s (first_word p w)) k)))
    ≡ cond (specs_part s).has_type None (C.goes (C.in_specifiers (add_first_word (specs_part s) p w)) (specifiers_stack k) (specifiers_context_names k))
first_word_code s k w p = coded-test (has_type s) _ _ _ _ _ (type_same s) refl refl

word_code : (s : Specifiers) (k : SpecifiersContext) (w : TypeWord) (p : Place)
    → coded (M.on_word s k w p) ≡ C.on_word_behind (specs_part s).last (specs_part s) (specifiers_stack k) (specifiers_context_names k) w p
word_code (type_words s ws) k w p =
    coded-test (names_type (next_word ws p w)) _ _ _ _ _ (names_same (next_word ws p w)) refl refl
    ∙ ap (λ l. C.on_word_behind l (specs_part (type_words s ws)) (specifiers_stack k) (specifiers_context_names k) w p) (sym (words_last (specs_part s) ws))
word_code no_specifiers k w p = first_word_code no_specifiers k w p
word_code (storage_class s q x) k w p = first_word_code (storage_class s q x) k w p
word_code (qualifier s q x) k w p = first_word_code (qualifier s q x) k w p
word_code (inlined s q) k w p = first_word_code (inlined s q) k w p
word_code (typedef_name s q x) k w p = first_word_code (typedef_name s q x) k w p
word_code (composite_reference s q x l y) k w p = first_word_code (composite_reference s q x l y) k w p
word_code (composite s q x t l ms m) k w p = first_word_code (composite s q x t l ms m) k w p
word_code (enum_reference s q l x) k w p = first_word_code (enum_reference s q l x) k w p
word_code (enumeration s q t l es e c m) k w p = first_word_code (enumeration s q t l es e c m) k w p

body_code : (s : Specifiers) (k : SpecifiersContext) (l : Place)
    → coded (M.on_body s k l) ≡ C.on_body_behind (specs_part s).last (specs_part s) l (specifiers_stack k) (specifiers_context_names k)
body_code no_specifiers k l = refl
body_code (storage_class s q x) k l = refl
body_code (qualifier s q x) k l = refl
body_code (inlined s q) k l = refl
body_code (type_words s ws) k l =
    ap (λ x. C.on_body_behind x (specs_part (type_words s ws)) l (specifiers_stack k) (specifiers_context_names k)) (sym (words_last (specs_part s) ws))
body_code (typedef_name s q x) k l = refl
body_code (composite_reference s q w m x) k l = refl
body_code (composite s q x t m ms n) k l = refl
body_code (enum_reference s q m x) k l = refl
body_code (enumeration s q t m es e c n) k l = refl

-- behind specifiers, where a token that begins no specifier stands
other_code : (s : Specifiers) (k : SpecifiersContext) (t : Token)
    → coded (cond (has_type s) (M.after_specifiers s k t) None) ≡ cond (specs_part s).has_type (C.on_typed (specs_part s) (specifiers_stack k) (specifiers_context_names k) t) None
other_code s k t = coded-test (has_type s) _ _ _ _ _ (type_same s) (typed_code s k t) refl

pub specifiers_code : (s : Specifiers) (k : SpecifiersContext) (t : Token)
    → coded (M.on_specifiers s k t) ≡ C.on_specifiers (specs_part s) (specifiers_stack k) (specifiers_context_names k) t
specifiers_code s k (token (Name x) p) =
    coded-test (has_type s) _ _ _ _ _ (type_same s) (typed_code s k (token (Name x) p)) (coded-cond (is_typedef (specifiers_context_names k) x) _ _ _ _ refl refl)
specifiers_code s k (token (TypeKeyword w) p) = word_code s k w p
specifiers_code s k (token (Qualify q) p) = refl
specifiers_code s k (token (Storage w) p) =
    coded-test (M.takes_storage k) _ _ _ _ _ (place_code k) (coded-test (has_storage s) _ _ _ _ _ (storage_same s) refl refl) refl
specifiers_code s k (token Inline p) = coded-test (M.takes_storage k) _ _ _ _ _ (place_code k) refl refl
specifiers_code s k (token (Composite w) p) = coded-test (has_type s) _ _ _ _ _ (type_same s) refl refl
specifiers_code s k (token Enum p) = coded-test (has_type s) _ _ _ _ _ (type_same s) refl refl
specifiers_code s k (token LeftBrace p) = body_code s k p
specifiers_code s k (token x p) = other_code s k (token x p)
