-- A machine that reads token by token. A state is what was read: whole parts, and the contexts in which they stand.
use Rattle.std.specs.Prelude.{ℕ, Bool, true, false, cond, nat_le, List, [], ◌∷◌, Option, Some, None}
use Rattle.c_grammar.specs.Tokens.{Identifier, Place, Star, Equals, Access, TypeWord, Void, CompositeWord, Jump, Kind, Name, Constant, Op, Assignment, Step, Member, TypeKeyword, Qualify, Storage, Composite, JumpWord, Inline, Enum, Sizeof, If, Else, While, Do, For, Switch, Case, Default, Return, LeftBrace, RightBrace, LeftParen, RightParen, LeftBracket, RightBracket, Semicolon, Comma, Question, Colon, Token, token}
use Rattle.c_grammar.specs.Derivations.{no_qualifiers, qualified, first_word, next_word, no_tag, tag, Trailing, no_comma, comma, Expression, identifier, constant, parenthesized, index, call_without, call, member, step_after, sizeof_type, Arguments, no_arguments, argument, TypeName, type_name, Specifiers, no_specifiers, storage_class, qualifier, inlined, type_words, typedef_name, composite_reference, composite, enum_reference, enumeration, Members, no_members, members, Declarators, no_declarators, declarators, Enumerator, enumerator, enumerator_value, Enumerators, no_enumerators, enumerators, Declarator, declared_name, pointer, parenthesized_declarator, array, function, Length, no_length, length_of, AbstractDeclarator, no_declarator, abstract_pointer, parenthesized_abstract, abstract_array, abstract_function, Parameters, no_parameters, void_parameter, parameters, EarlierParameters, no_earlier, earlier, Parameter, named_parameter, unnamed_parameter, no_initializer, initializer, initializer_list, InitDeclarator, init_declarator, InitDeclarators, no_init_declarators, init_declarators, Declaration, specifiers_alone, declaration, ForFirst, for_nothing, for_expression, for_declaration, Label, case_label, default_label, Labels, first_label, next_label, Statement, block, empty_statement, expression_statement, if_statement, if_else, while_statement, do_statement, for_statement, switch_statement, jump_statement, return_statement, Items, no_items, declaration_item, statement_item, Groups, no_groups, group, File, empty_file, external_declaration, function_definition}
use Rattle.c_grammar.specs.Spelling.{is_typedef, declares_types, items_names, names_type, has_type, has_storage, has_members, is_some_declarator, is_function_head, precedence, is_unary, level}
use Rattle.c_grammar.specs.Contexts.{StatementContext, then_of, else_of, while_body, do_body, for_body, item_of, ItemsContext, block_of, function_body, group_of, GroupsContext, switch_of, LabelContext, new_group, another_label, DeclarationContext, in_file, in_items, in_for_head, InitializerContext, initializer_of, StatementHole, of_statement, of_return, of_if, of_while, of_do, of_switch, of_for_first, of_for_test, of_for_step, of_case, of_initializer, of_list, step_frame, unary_frame, sizeof_frame, cast_frame, binary_frame, conditional_frame, assignment_frame, Chain, top, starred, opened, ExpressionContext, operand, whole, Hole, in_parentheses, in_index, in_argument, in_middle, in_length, in_enumerator, in_statement, Suffixed, of_declarator, of_abstract, SpecifiersContext, in_declaration, in_member, in_parameter, in_type_name, TypeNameContext, in_cast, in_sizeof, CompositeContext, in_composite, EnumContext, in_enumeration, DeclaratorContext, init_context, member_context, parameter_context, AbstractContext, parameter_abstract, type_name_abstract, statement_context_names, items_context_names, expression_context_names, suffixed_names, specifiers_context_names, enum_context_names, declarator_context_names, abstract_context_names, complete, frame_need, hole_need, need}

-- the statements that begin with a word and an expression in parentheses
pub data Head : Type 0 where
  if_head while_head switch_head : Head

pub data State : Type 0 where
  -- behind external declarations
  at_file : File → State
  -- where an item of a block, or its end, is wanted
  at_items : Items → ItemsContext → State
  at_statement : StatementContext → State
  after_statement : Statement → StatementContext → State
  -- behind the `{` of a switch
  at_labels : GroupsContext → State
  after_default : LabelContext → Place → State
  -- behind the words that begin a statement
  at_condition : Head → Place → StatementContext → State
  at_do_condition : Place → Statement → Place → StatementContext → State
  after_do : Place → Statement → Place → Place → Expression → Place → StatementContext → State
  at_for : Place → StatementContext → State
  at_for_first : Place → Place → StatementContext → State
  at_for_test : Place → Place → ForFirst → StatementContext → State
  at_for_step : Place → Place → ForFirst → Option Expression → Place → StatementContext → State
  at_switch_body : Place → Place → Expression → Place → StatementContext → State
  at_jump : Place → Jump → StatementContext → State
  at_return : Place → StatementContext → State
  -- initializers
  at_initializer : InitializerContext → State
  at_list_comma : InitializerContext → Place → Arguments → Expression → Place → State
  after_list : InitializerContext → Place → Arguments → Expression → Trailing → Place → State
  -- specifiers
  at_specifiers : Specifiers → SpecifiersContext → State
  at_composite : Specifiers → Place → CompositeWord → SpecifiersContext → State
  at_enum : Specifiers → Place → SpecifiersContext → State
  at_members : Members → CompositeContext → State
  at_enumerator : EnumContext → State
  after_enumerator : Enumerators → Place → Identifier → EnumContext → State
  after_enumerator_comma : Enumerators → Enumerator → Place → EnumContext → State
  -- declarators
  at_declarator : Chain → DeclaratorContext → State
  after_declarator : Declarator → Chain → DeclaratorContext → State
  at_abstract : Chain → AbstractContext → State
  at_opened : Chain → Place → AbstractContext → State
  after_abstract : AbstractDeclarator → Chain → AbstractContext → State
  at_length : Suffixed → Place → State
  at_parameters : Suffixed → Place → State
  -- expressions
  at_expression : ExpressionContext → State
  after_postfix : Expression → ExpressionContext → State
  after_sizeof : Expression → ExpressionContext → State
  at_open : Place → ExpressionContext → State
  at_sizeof : Place → ExpressionContext → State
  at_sizeof_open : Place → Place → ExpressionContext → State
  at_arguments : Expression → Place → ExpressionContext → State
  at_access : Expression → Place → Access → ExpressionContext → State

-- ## Which tokens begin what

-- a specifier of a type name
abbrev pub begins_type : List Identifier → Kind → Bool
begins_type ns (Name x) = is_typedef ns x
begins_type ns (TypeKeyword w) = true
begins_type ns (Qualify q) = true
begins_type ns (Composite w) = true
begins_type ns Enum = true
begins_type ns _ = false

-- a specifier of a declaration
abbrev pub begins_declaration : List Identifier → Kind → Bool
begins_declaration ns (Storage w) = true
begins_declaration ns Inline = true
begins_declaration ns t = begins_type ns t

-- the level of what an operator behind an operand makes, or 0 where the token is none
abbrev pub binds : Kind → ℕ
binds (Op o) = precedence o
binds (Assignment o) = 1
binds Question = 2
binds _ = 0

-- ## What a whole part is put into

abbrev pub declared : DeclarationContext → Declaration → State
declared (in_file f) d = at_file (external_declaration f d)
declared (in_items is k) d = at_items (declaration_item is d) k
declared (in_for_head p q k) d = at_for_test p q (for_declaration d) k

-- specifiers with no declarators, which a `for` does not take
abbrev pub declared_alone : DeclarationContext → Declaration → Option State
declared_alone (in_file f) d = Some (at_file (external_declaration f d))
declared_alone (in_items is k) d = Some (at_items (declaration_item is d) k)
declared_alone (in_for_head p q k) d = None

abbrev pub array_of : Suffixed → Place → Length → Place → State
array_of (of_declarator d c k) p n q = after_declarator (array d p n q) c k
array_of (of_abstract a c k) p n q = after_abstract (abstract_array a p n q) c k

abbrev pub function_of : Suffixed → Place → Parameters → Place → State
function_of (of_declarator d c k) p ps q = after_declarator (function d p ps q) c k
function_of (of_abstract a c k) p ps q = after_abstract (abstract_function a p ps q) c k

-- a parameter list: the lone word `void` has no parameters
abbrev pub lone_list : Specifiers → Parameters
lone_list (type_words no_specifiers (first_word p Void)) = void_parameter p
lone_list s = parameters no_earlier (unnamed_parameter s no_declarator)

abbrev pub list_of : EarlierParameters → Parameter → Parameters
list_of no_earlier (unnamed_parameter s no_declarator) = lone_list s
list_of ps x = parameters ps x

abbrev pub type_named : TypeNameContext → TypeName → Place → State
type_named (in_cast p k) t q = at_expression (operand (cast_frame p t q) k)
type_named (in_sizeof p l k) t q = after_sizeof (sizeof_type p l t q) k

abbrev pub close_composite : CompositeContext → Members → Place → State
close_composite (in_composite s p w t q k) ms l = at_specifiers (composite s p w t q ms l) k

abbrev pub close_enumeration : EnumContext → Enumerators → Enumerator → Trailing → Place → State
close_enumeration (in_enumeration s p t q k) es e c l = at_specifiers (enumeration s p t q es e c l) k

abbrev pub close_groups : GroupsContext → Groups → Place → State
close_groups (switch_of p q e l m k) gs n = after_statement (switch_statement p q e l m gs n) k

abbrev pub close_items : Items → ItemsContext → Place → State
close_items is (block_of p k) q = after_statement (block p is q) k
close_items is (function_body f s d p) q = at_file (function_definition f s d p is q)
close_items is (group_of gs ls k) q = close_groups k (group gs ls is) q

-- a label behind these items: of the same group where there are none
abbrev pub label_context : Items → Groups → Labels → GroupsContext → LabelContext
label_context no_items gs ls k = another_label gs ls k
label_context (declaration_item is d) gs ls k = new_group (group gs ls (declaration_item is d)) k
label_context (statement_item is s) gs ls k = new_group (group gs ls (statement_item is s)) k

abbrev pub labelled : LabelContext → Label → State
labelled (new_group gs k) l = at_items no_items (group_of gs (first_label l) k)
labelled (another_label gs ls k) l = at_items no_items (group_of gs (next_label ls l) k)

abbrev pub after_condition : Head → Place → Place → Expression → Place → StatementContext → State
after_condition if_head p q e l k = at_statement (then_of p q e l k)
after_condition while_head p q e l k = at_statement (while_body p q e l k)
after_condition switch_head p q e l k = at_switch_body p q e l k

abbrev pub condition_hole : Head → Place → Place → StatementContext → StatementHole
condition_hole if_head p q k = of_if p q k
condition_hole while_head p q k = of_while p q k
condition_hole switch_head p q k = of_switch p q k

-- ## Expressions

-- an operator behind an operand that it takes
abbrev pub on_operator : Expression → ExpressionContext → Token → Option State
on_operator e k (token (Op o) p) = cond (nat_le 3 (precedence o)) (cond (nat_le (precedence o) (level e)) (Some (at_expression (operand (binary_frame e p o) k))) None) None
on_operator e k (token (Assignment o) p) = cond (nat_le 14 (level e)) (Some (at_expression (operand (assignment_frame e p o) k))) None
on_operator e k (token Question p) = cond (nat_le 3 (level e)) (Some (at_expression (whole (in_middle e p k)))) None
on_operator e k _ = None

-- behind a declarator with its initializer
abbrev pub on_init_declarator : Specifiers → InitDeclarators → DeclarationContext → InitDeclarator → Token → Option State
on_init_declarator s ds k d (token Semicolon p) = Some (declared k (declaration s ds d p))
on_init_declarator s ds k d (token Comma p) = Some (at_declarator top (init_context s (init_declarators ds d p) k))
on_init_declarator s ds k d _ = None

abbrev pub on_initialized : InitializerContext → Expression → Token → Option State
on_initialized (initializer_of s ds d p k) e t = on_init_declarator s ds k (init_declarator d (initializer p e)) t

abbrev pub on_after_list : InitializerContext → Place → Arguments → Expression → Trailing → Place → Token → Option State
on_after_list (initializer_of s ds d p k) q xs e c l t = on_init_declarator s ds k (init_declarator d (initializer_list p q xs e c l)) t

abbrev pub on_statement_hole : StatementHole → Expression → Token → Option State
on_statement_hole (of_statement k) e (token Semicolon p) = Some (after_statement (expression_statement e p) k)
on_statement_hole (of_return p k) e (token Semicolon q) = Some (after_statement (return_statement p (Some e) q) k)
on_statement_hole (of_if p q k) e (token RightParen l) = Some (at_statement (then_of p q e l k))
on_statement_hole (of_while p q k) e (token RightParen l) = Some (at_statement (while_body p q e l k))
on_statement_hole (of_do p s w q k) e (token RightParen l) = Some (after_do p s w q e l k)
on_statement_hole (of_switch p q k) e (token RightParen l) = Some (at_switch_body p q e l k)
on_statement_hole (of_for_first p q k) e (token Semicolon l) = Some (at_for_test p q (for_expression e l) k)
on_statement_hole (of_for_test p q f k) e (token Semicolon m) = Some (at_for_step p q f (Some e) m k)
on_statement_hole (of_for_step p q f c m k) e (token RightParen l) = Some (at_statement (for_body p q f c m (Some e) l k))
on_statement_hole (of_case k p) e (token Colon q) = Some (labelled k (case_label p e q))
on_statement_hole (of_initializer k) e t = on_initialized k e t
on_statement_hole (of_list k p xs) e (token Comma q) = Some (at_list_comma k p xs e q)
on_statement_hole (of_list k p xs) e (token RightBrace q) = Some (after_list k p xs e no_comma q)
on_statement_hole _ e _ = None

-- behind a whole expression
abbrev pub on_hole : Hole → Expression → Token → Option State
on_hole (in_parentheses p k) e (token RightParen q) = Some (after_postfix (parenthesized p e q) k)
on_hole (in_index a p k) e (token RightBracket q) = Some (after_postfix (index a p e q) k)
on_hole (in_argument f p xs k) e (token Comma q) = Some (at_expression (whole (in_argument f p (argument xs e q) k)))
on_hole (in_argument f p xs k) e (token RightParen q) = Some (after_postfix (call f p xs e q) k)
on_hole (in_middle c p k) e (token Colon q) = Some (at_expression (operand (conditional_frame c p e q) k))
on_hole (in_length k p) e (token RightBracket q) = Some (array_of k p (length_of e) q)
on_hole (in_enumerator es p x q k) e (token Comma l) = Some (after_enumerator_comma es (enumerator_value p x q e) l k)
on_hole (in_enumerator es p x q k) e (token RightBrace l) = Some (close_enumeration k es (enumerator_value p x q e) no_comma l)
on_hole (in_statement h) e t = on_statement_hole h e t
on_hole _ e _ = None

abbrev pub kind_of : Token → Kind
kind_of (token t p) = t

-- behind an expression that may be an operand
abbrev pub on_expression : Expression → ExpressionContext → Token → Option State
on_expression e (operand f k) t = cond (nat_le (frame_need f) (binds (kind_of t))) (on_operator e (operand f k) t) (on_expression (complete f e) k t)
on_expression e (whole h) t = cond (nat_le (hole_need h) (binds (kind_of t))) (on_operator e (whole h) t) (on_hole h e t)

-- behind a postfix expression
abbrev pub on_postfix : Expression → ExpressionContext → Token → Option State
on_postfix e k (token LeftBracket p) = Some (at_expression (whole (in_index e p k)))
on_postfix e k (token LeftParen p) = Some (at_arguments e p k)
on_postfix e k (token (Member o) p) = Some (at_access e p o k)
on_postfix e k (token (Step o) p) = Some (after_postfix (step_after e p o) k)
on_postfix e k t = on_expression e k t

-- where an operand is wanted
abbrev pub on_operand : ExpressionContext → Token → Option State
on_operand k (token (Name x) p) = cond (is_typedef (expression_context_names k) x) None (Some (after_postfix (identifier p x) k))
on_operand k (token (Constant n) p) = Some (after_postfix (constant p n) k)
on_operand k (token (Op o) p) = cond (is_unary o) (Some (at_expression (operand (unary_frame p o) k))) None
on_operand k (token (Step o) p) = Some (at_expression (operand (step_frame p o) k))
on_operand k (token Sizeof p) = Some (at_sizeof p k)
on_operand k (token LeftParen p) = Some (at_open p k)
on_operand k _ = None

-- ## Specifiers

abbrev pub takes_storage : SpecifiersContext → Bool
takes_storage (in_declaration k) = true
takes_storage (in_member ms k) = false
takes_storage (in_parameter ps k p) = false
takes_storage (in_type_name k) = false

-- one more word of a type
abbrev pub on_word : Specifiers → SpecifiersContext → TypeWord → Place → Option State
on_word (type_words s ws) k w p = cond (names_type (next_word ws p w)) (Some (at_specifiers (type_words s (next_word ws p w)) k)) None
on_word s k w p = cond (has_type s) None (Some (at_specifiers (type_words s (first_word p w)) k))

-- the brace of a body behind its tag
abbrev pub on_body : Specifiers → SpecifiersContext → Place → Option State
on_body (composite_reference s p w q x) k l = Some (at_members no_members (in_composite s p w (tag q x) l k))
on_body (enum_reference s p q x) k l = Some (at_enumerator (in_enumeration s p (tag q x) l k))
on_body _ k l = None

abbrev pub on_declarator : Chain → DeclaratorContext → Token → Option State
on_declarator c k (token (Name x) p) = cond (is_typedef (declarator_context_names k) x) None (Some (after_declarator (declared_name p x) c k))
on_declarator c k (token (Op Star) p) = Some (at_declarator (starred p no_qualifiers c) k)
on_declarator c k (token LeftParen p) = Some (at_declarator (opened p c) k)
on_declarator c k _ = None

-- behind the last parameter, or behind one with more to come
abbrev pub on_parameter : EarlierParameters → Suffixed → Place → Parameter → Token → Option State
on_parameter ps k p x (token Comma q) = Some (at_specifiers no_specifiers (in_parameter (earlier ps x q) k p))
on_parameter ps k p x (token RightParen q) = Some (function_of k p (list_of ps x) q)
on_parameter ps k p x _ = None

abbrev pub on_type_named : TypeNameContext → TypeName → Token → Option State
on_type_named k n (token RightParen q) = Some (type_named k n q)
on_type_named k n _ = None

-- behind an abstract declarator, or where there is none, with nothing round it
abbrev pub on_abstract_end : AbstractDeclarator → AbstractContext → Token → Option State
on_abstract_end a (parameter_abstract ps s k p) t = on_parameter ps k p (unnamed_parameter s a) t
on_abstract_end a (type_name_abstract s k) t = on_type_named k (type_name s a) t

abbrev pub close_abstract : AbstractDeclarator → Place → Chain → AbstractContext → Token → Option State
close_abstract a p c k (token RightParen q) = cond (is_some_declarator a) (Some (after_abstract (parenthesized_abstract p a q) c k)) None
close_abstract a p c k _ = None

-- behind an abstract declarator, or where there is none
abbrev pub climb_abstract : AbstractDeclarator → Chain → AbstractContext → Token → Option State
climb_abstract a top k t = on_abstract_end a k t
climb_abstract a (starred p qs c) k t = climb_abstract (abstract_pointer p qs a) c k t
climb_abstract a (opened p c) k t = close_abstract a p c k t

-- a name where a declarator of either kind may stand
abbrev pub on_parameter_name : Chain → AbstractContext → Identifier → Place → Option State
on_parameter_name c (parameter_abstract ps s k l) x p = cond (is_typedef (suffixed_names k) x) None (Some (after_declarator (declared_name p x) c (parameter_context ps s k l)))
on_parameter_name c (type_name_abstract s k) x p = None

-- where an abstract declarator or none may stand
abbrev pub on_abstract : Chain → AbstractContext → Token → Option State
on_abstract c k (token (Name x) p) = on_parameter_name c k x p
on_abstract c k (token (Op Star) p) = Some (at_abstract (starred p no_qualifiers c) k)
on_abstract c k (token LeftParen p) = Some (at_opened c p k)
on_abstract c k (token LeftBracket p) = Some (at_length (of_abstract no_declarator c k) p)
on_abstract c k t = climb_abstract no_declarator c k t

-- where the declarators of a declaration, or its end, are wanted
abbrev pub on_declarators : Specifiers → DeclarationContext → Token → Option State
on_declarators s k (token Semicolon p) = declared_alone k (specifiers_alone s p)
on_declarators s k t = on_declarator top (init_context s no_init_declarators k) t

-- behind whole specifiers
abbrev pub after_specifiers : Specifiers → SpecifiersContext → Token → Option State
after_specifiers s (in_declaration k) t = on_declarators s k t
after_specifiers s (in_member ms k) t = on_declarator top (member_context ms s no_declarators k) t
after_specifiers s (in_parameter ps k p) t = on_abstract top (parameter_abstract ps s k p) t
after_specifiers s (in_type_name k) t = on_abstract top (type_name_abstract s k) t

abbrev pub on_specifiers : Specifiers → SpecifiersContext → Token → Option State
on_specifiers s k (token (Name x) p) =
    cond (has_type s) (after_specifiers s k (token (Name x) p))
    (cond (is_typedef (specifiers_context_names k) x) (Some (at_specifiers (typedef_name s p x) k)) None)
on_specifiers s k (token (TypeKeyword w) p) = on_word s k w p
on_specifiers s k (token (Qualify q) p) = Some (at_specifiers (qualifier s p q) k)
on_specifiers s k (token (Storage w) p) = cond (takes_storage k) (cond (has_storage s) None (Some (at_specifiers (storage_class s p w) k))) None
on_specifiers s k (token Inline p) = cond (takes_storage k) (Some (at_specifiers (inlined s p) k)) None
on_specifiers s k (token (Composite w) p) = cond (has_type s) None (Some (at_composite s p w k))
on_specifiers s k (token Enum p) = cond (has_type s) None (Some (at_enum s p k))
on_specifiers s k (token LeftBrace p) = on_body s k p
on_specifiers s k t = cond (has_type s) (after_specifiers s k t) None

abbrev pub on_composite : Specifiers → Place → CompositeWord → SpecifiersContext → Token → Option State
on_composite s p w k (token (Name x) q) = Some (at_specifiers (composite_reference s p w q x) k)
on_composite s p w k (token LeftBrace q) = Some (at_members no_members (in_composite s p w no_tag q k))
on_composite s p w k _ = None

abbrev pub on_enum : Specifiers → Place → SpecifiersContext → Token → Option State
on_enum s p k (token (Name x) q) = Some (at_specifiers (enum_reference s p q x) k)
on_enum s p k (token LeftBrace q) = Some (at_enumerator (in_enumeration s p no_tag q k))
on_enum s p k _ = None

abbrev pub on_members : Members → CompositeContext → Token → Option State
on_members ms k (token RightBrace q) = cond (has_members ms) (Some (close_composite k ms q)) None
on_members ms k t = on_specifiers no_specifiers (in_member ms k) t

-- a name of an enumeration constant
abbrev pub on_constant_name : Enumerators → EnumContext → Identifier → Place → Option State
on_constant_name es k x p = cond (is_typedef (enum_context_names k) x) None (Some (after_enumerator es p x k))

abbrev pub on_enumerator : EnumContext → Token → Option State
on_enumerator k (token (Name x) p) = on_constant_name no_enumerators k x p
on_enumerator k _ = None

abbrev pub on_after_enumerator : Enumerators → Place → Identifier → EnumContext → Token → Option State
on_after_enumerator es p x k (token (Assignment Equals) q) = Some (at_expression (whole (in_enumerator es p x q k)))
on_after_enumerator es p x k (token Comma q) = Some (after_enumerator_comma es (enumerator p x) q k)
on_after_enumerator es p x k (token RightBrace q) = Some (close_enumeration k es (enumerator p x) no_comma q)
on_after_enumerator es p x k _ = None

abbrev pub on_enumerator_comma : Enumerators → Enumerator → Place → EnumContext → Token → Option State
on_enumerator_comma es e p k (token (Name x) q) = on_constant_name (enumerators es e p) k x q
on_enumerator_comma es e p k (token RightBrace q) = Some (close_enumeration k es e (comma p) q)
on_enumerator_comma es e p k _ = None

-- ## Declarators

-- one more qualifier behind the last star, or a declarator
abbrev pub on_starred : Chain → DeclaratorContext → Token → Option State
on_starred (starred p qs c) k (token (Qualify q) l) = Some (at_declarator (starred p (qualified qs l q) c) k)
on_starred c k t = on_declarator c k t

abbrev pub on_starred_abstract : Chain → AbstractContext → Token → Option State
on_starred_abstract (starred p qs c) k (token (Qualify q) l) = Some (at_abstract (starred p (qualified qs l q) c) k)
on_starred_abstract c k t = on_abstract c k t

-- the brace of a function's body
abbrev pub on_function_body : Declarator → Specifiers → InitDeclarators → DeclarationContext → Place → Option State
on_function_body d s no_init_declarators (in_file f) p =
    cond (is_function_head d) (cond (declares_types s) None (Some (at_items no_items (function_body f s d p)))) None
on_function_body d s _ _ p = None

-- behind a declarator of a declaration with nothing round it
abbrev pub on_declared : Declarator → Specifiers → InitDeclarators → DeclarationContext → Token → Option State
on_declared d s ds k (token (Assignment Equals) p) = Some (at_initializer (initializer_of s ds d p k))
on_declared d s ds k (token LeftBrace p) = on_function_body d s ds k p
on_declared d s ds k t = on_init_declarator s ds k (init_declarator d no_initializer) t

abbrev pub on_member : Declarator → Members → Specifiers → Declarators → CompositeContext → Token → Option State
on_member d ms s ds k (token Comma p) = Some (at_declarator top (member_context ms s (declarators ds d p) k))
on_member d ms s ds k (token Semicolon p) = Some (at_members (members ms s ds d p) k)
on_member d ms s ds k _ = None

abbrev pub on_declarator_end : Declarator → DeclaratorContext → Token → Option State
on_declarator_end d (init_context s ds k) t = on_declared d s ds k t
on_declarator_end d (member_context ms s ds k) t = on_member d ms s ds k t
on_declarator_end d (parameter_context ps s k p) t = on_parameter ps k p (named_parameter s d) t

abbrev pub close_declarator : Declarator → Place → Chain → DeclaratorContext → Token → Option State
close_declarator d p c k (token RightParen q) = Some (after_declarator (parenthesized_declarator p d q) c k)
close_declarator d p c k _ = None

-- behind a whole declarator
abbrev pub climb : Declarator → Chain → DeclaratorContext → Token → Option State
climb d top k t = on_declarator_end d k t
climb d (starred p qs c) k t = climb (pointer p qs d) c k t
climb d (opened p c) k t = close_declarator d p c k t

-- behind a direct declarator
abbrev pub on_direct : Declarator → Chain → DeclaratorContext → Token → Option State
on_direct d c k (token LeftBracket p) = Some (at_length (of_declarator d c k) p)
on_direct d c k (token LeftParen p) = Some (at_parameters (of_declarator d c k) p)
on_direct d c k t = climb d c k t

abbrev pub on_direct_abstract : AbstractDeclarator → Chain → AbstractContext → Token → Option State
on_direct_abstract a c k (token LeftBracket p) = Some (at_length (of_abstract a c k) p)
on_direct_abstract a c k (token LeftParen p) = Some (at_parameters (of_abstract a c k) p)
on_direct_abstract a c k t = climb_abstract a c k t

abbrev pub on_length : Suffixed → Place → Token → Option State
on_length k p (token RightBracket q) = Some (array_of k p no_length q)
on_length k p t = on_operand (whole (in_length k p)) t

abbrev pub on_parameters : Suffixed → Place → Token → Option State
on_parameters k p (token RightParen q) = Some (function_of k p no_parameters q)
on_parameters k p t = on_specifiers no_specifiers (in_parameter no_earlier k p) t

-- behind a parenthesis where an abstract declarator may stand: parameters, or a declarator of either kind
abbrev pub on_opened_next : Chain → Place → AbstractContext → Token → Option State
on_opened_next c p k t =
    cond (begins_type (abstract_context_names k) (kind_of t)) (on_specifiers no_specifiers (in_parameter no_earlier (of_abstract no_declarator c k) p) t)
    (on_abstract (opened p c) k t)

abbrev pub on_opened : Chain → Place → AbstractContext → Token → Option State
on_opened c p k (token RightParen q) = Some (after_abstract (abstract_function no_declarator p no_parameters q) c k)
on_opened c p k t = on_opened_next c p k t

-- ## Parentheses before an operand

abbrev pub on_open : Place → ExpressionContext → Token → Option State
on_open p k t =
    cond (begins_type (expression_context_names k) (kind_of t))
    (cond (nat_le (need k) 13) (on_specifiers no_specifiers (in_type_name (in_cast p k)) t) None) (on_operand (whole (in_parentheses p k)) t)

abbrev pub on_sizeof : Place → ExpressionContext → Token → Option State
on_sizeof p k (token LeftParen q) = Some (at_sizeof_open p q k)
on_sizeof p k t = on_operand (operand (sizeof_frame p) k) t

abbrev pub on_sizeof_open : Place → Place → ExpressionContext → Token → Option State
on_sizeof_open p q k t =
    cond (begins_type (expression_context_names k) (kind_of t)) (on_specifiers no_specifiers (in_type_name (in_sizeof p q k)) t)
    (on_operand (whole (in_parentheses q (operand (sizeof_frame p) k))) t)

abbrev pub on_arguments : Expression → Place → ExpressionContext → Token → Option State
on_arguments f p k (token RightParen q) = Some (after_postfix (call_without f p q) k)
on_arguments f p k t = on_operand (whole (in_argument f p no_arguments k)) t

abbrev pub on_access : Expression → Place → Access → ExpressionContext → Token → Option State
on_access e p o k (token (Name x) q) = Some (after_postfix (member e p o q x) k)
on_access e p o k _ = None

-- ## Initializers

abbrev pub on_initializer : InitializerContext → Token → Option State
on_initializer k (token LeftBrace q) = Some (at_expression (whole (in_statement (of_list k q no_arguments))))
on_initializer k t = on_operand (whole (in_statement (of_initializer k))) t

abbrev pub on_list_comma : InitializerContext → Place → Arguments → Expression → Place → Token → Option State
on_list_comma k p xs e q (token RightBrace l) = Some (after_list k p xs e (comma q) l)
on_list_comma k p xs e q t = on_operand (whole (in_statement (of_list k p (argument xs e q)))) t

-- ## Statements

abbrev pub on_statement : StatementContext → Token → Option State
on_statement k (token LeftBrace p) = Some (at_items no_items (block_of p k))
on_statement k (token Semicolon p) = Some (after_statement (empty_statement p) k)
on_statement k (token If p) = Some (at_condition if_head p k)
on_statement k (token While p) = Some (at_condition while_head p k)
on_statement k (token Switch p) = Some (at_condition switch_head p k)
on_statement k (token Do p) = Some (at_statement (do_body p k))
on_statement k (token For p) = Some (at_for p k)
on_statement k (token (JumpWord j) p) = Some (at_jump p j k)
on_statement k (token Return p) = Some (at_return p k)
on_statement k t = on_operand (whole (in_statement (of_statement k))) t

-- a label among items: only those of a switch take one
abbrev pub on_case : Items → ItemsContext → Place → Option State
on_case is (group_of gs ls k) p = Some (at_expression (whole (in_statement (of_case (label_context is gs ls k) p))))
on_case is (block_of q k) p = None
on_case is (function_body f s d q) p = None

abbrev pub on_default : Items → ItemsContext → Place → Option State
on_default is (group_of gs ls k) p = Some (after_default (label_context is gs ls k) p)
on_default is (block_of q k) p = None
on_default is (function_body f s d q) p = None

-- a declaration or a statement
abbrev pub on_item : Items → ItemsContext → Token → Option State
on_item is k t =
    cond (begins_declaration (items_names is (items_context_names k)) (kind_of t)) (on_specifiers no_specifiers (in_declaration (in_items is k)) t) (on_statement (item_of is k) t)

abbrev pub on_items : Items → ItemsContext → Token → Option State
on_items is k (token RightBrace p) = Some (close_items is k p)
on_items is k (token Case p) = on_case is k p
on_items is k (token Default p) = on_default is k p
on_items is k t = on_item is k t

abbrev pub on_then : Place → Place → Expression → Place → Statement → StatementContext → Option State → Token → Option State
on_then p q e l s k other (token Else m) = Some (at_statement (else_of p q e l s m k))
on_then p q e l s k other _ = other

abbrev pub on_do_while : Place → Statement → StatementContext → Token → Option State
on_do_while p s k (token While w) = Some (at_do_condition p s w k)
on_do_while p s k _ = None

-- behind a statement
abbrev pub on_after : Statement → StatementContext → Token → Option State
on_after s (then_of p q e l k) t = on_then p q e l s k (on_after (if_statement p q e l s) k t) t
on_after s (else_of p q e l a m k) t = on_after (if_else p q e l a m s) k t
on_after s (while_body p q e l k) t = on_after (while_statement p q e l s) k t
on_after s (do_body p k) t = on_do_while p s k t
on_after s (for_body p q f c m u l k) t = on_after (for_statement p q f c m u l s) k t
on_after s (item_of is k) t = on_items (statement_item is s) k t

abbrev pub on_labels : GroupsContext → Token → Option State
on_labels k (token RightBrace p) = Some (close_groups k no_groups p)
on_labels k (token Case p) = Some (at_expression (whole (in_statement (of_case (new_group no_groups k) p))))
on_labels k (token Default p) = Some (after_default (new_group no_groups k) p)
on_labels k _ = None

abbrev pub on_after_default : LabelContext → Place → Token → Option State
on_after_default k p (token Colon q) = Some (labelled k (default_label p q))
on_after_default k p _ = None

abbrev pub on_condition : Head → Place → StatementContext → Token → Option State
on_condition h p k (token LeftParen q) = Some (at_expression (whole (in_statement (condition_hole h p q k))))
on_condition h p k _ = None

abbrev pub on_do_condition : Place → Statement → Place → StatementContext → Token → Option State
on_do_condition p s w k (token LeftParen q) = Some (at_expression (whole (in_statement (of_do p s w q k))))
on_do_condition p s w k _ = None

abbrev pub on_after_do : Place → Statement → Place → Place → Expression → Place → StatementContext → Token → Option State
on_after_do p s w q e l k (token Semicolon m) = Some (after_statement (do_statement p s w q e l m) k)
on_after_do p s w q e l k _ = None

abbrev pub on_for : Place → StatementContext → Token → Option State
on_for p k (token LeftParen q) = Some (at_for_first p q k)
on_for p k _ = None

abbrev pub on_for_item : Place → Place → StatementContext → Token → Option State
on_for_item p q k t =
    cond (begins_declaration (statement_context_names k) (kind_of t)) (on_specifiers no_specifiers (in_declaration (in_for_head p q k)) t)
    (on_operand (whole (in_statement (of_for_first p q k))) t)

abbrev pub on_for_first : Place → Place → StatementContext → Token → Option State
on_for_first p q k (token Semicolon l) = Some (at_for_test p q (for_nothing l) k)
on_for_first p q k t = on_for_item p q k t

abbrev pub on_for_test : Place → Place → ForFirst → StatementContext → Token → Option State
on_for_test p q f k (token Semicolon m) = Some (at_for_step p q f None m k)
on_for_test p q f k t = on_operand (whole (in_statement (of_for_test p q f k))) t

abbrev pub on_for_step : Place → Place → ForFirst → Option Expression → Place → StatementContext → Token → Option State
on_for_step p q f c m k (token RightParen l) = Some (at_statement (for_body p q f c m None l k))
on_for_step p q f c m k t = on_operand (whole (in_statement (of_for_step p q f c m k))) t

abbrev pub on_switch_body : Place → Place → Expression → Place → StatementContext → Token → Option State
on_switch_body p q e l k (token LeftBrace m) = Some (at_labels (switch_of p q e l m k))
on_switch_body p q e l k _ = None

abbrev pub on_jump : Place → Jump → StatementContext → Token → Option State
on_jump p j k (token Semicolon q) = Some (after_statement (jump_statement p j q) k)
on_jump p j k _ = None

abbrev pub on_return : Place → StatementContext → Token → Option State
on_return p k (token Semicolon q) = Some (after_statement (return_statement p None q) k)
on_return p k t = on_operand (whole (in_statement (of_return p k))) t

abbrev pub on_file : File → Token → Option State
on_file f t = on_specifiers no_specifiers (in_declaration (in_file f)) t

-- ## Reading

-- the state behind one more token, or nothing where no file goes on so
unfoldable pub feed : State → Token → Option State
feed (at_file f) t = on_file f t
feed (at_items is k) t = on_items is k t
feed (at_statement k) t = on_statement k t
feed (after_statement s k) t = on_after s k t
feed (at_labels k) t = on_labels k t
feed (after_default k p) t = on_after_default k p t
feed (at_condition h p k) t = on_condition h p k t
feed (at_do_condition p s w k) t = on_do_condition p s w k t
feed (after_do p s w q e l k) t = on_after_do p s w q e l k t
feed (at_for p k) t = on_for p k t
feed (at_for_first p q k) t = on_for_first p q k t
feed (at_for_test p q f k) t = on_for_test p q f k t
feed (at_for_step p q f c m k) t = on_for_step p q f c m k t
feed (at_switch_body p q e l k) t = on_switch_body p q e l k t
feed (at_jump p j k) t = on_jump p j k t
feed (at_return p k) t = on_return p k t
feed (at_initializer k) t = on_initializer k t
feed (at_list_comma k p xs e q) t = on_list_comma k p xs e q t
feed (after_list k p xs e c l) t = on_after_list k p xs e c l t
feed (at_specifiers s k) t = on_specifiers s k t
feed (at_composite s p w k) t = on_composite s p w k t
feed (at_enum s p k) t = on_enum s p k t
feed (at_members ms k) t = on_members ms k t
feed (at_enumerator k) t = on_enumerator k t
feed (after_enumerator es p x k) t = on_after_enumerator es p x k t
feed (after_enumerator_comma es e p k) t = on_enumerator_comma es e p k t
feed (at_declarator c k) t = on_starred c k t
feed (after_declarator d c k) t = on_direct d c k t
feed (at_abstract c k) t = on_starred_abstract c k t
feed (at_opened c p k) t = on_opened c p k t
feed (after_abstract a c k) t = on_direct_abstract a c k t
feed (at_length k p) t = on_length k p t
feed (at_parameters k p) t = on_parameters k p t
feed (at_expression k) t = on_operand k t
feed (after_postfix e k) t = on_postfix e k t
feed (after_sizeof e k) t = on_expression e k t
feed (at_open p k) t = on_open p k t
feed (at_sizeof p k) t = on_sizeof p k t
feed (at_sizeof_open p q k) t = on_sizeof_open p q k t
feed (at_arguments f p k) t = on_arguments f p k t
feed (at_access e p o k) t = on_access e p o k t

unfoldable pub go : Option State → List Token → Option State
go None ts = None
go (Some s) [] = Some s
go (Some s) (t ∷ ts) = go (feed s t) ts

-- the state before any token
abbrev pub start : State
start = at_file empty_file

-- whether the tokens read are a whole file
abbrev pub is_done : State → Bool
is_done (at_file f) = true
is_done _ = false
