-- The reader token by token over trees and a stack of frames, as the code runs it; the machine of the grammar is the same over derivations.
use Rattle.std.specs.Prelude.{ℕ, Bool, true, false, cond, nat_le, List, [], ◌∷◌, ◌++◌, Option, Some, None, suc, max, ◌&&◌, ◌||◌}
use Rattle.c_reading.specs.Parts.{deeper, over, ExprPart, ArgumentsPart, TypePart, name_part, constant_part, parentheses_part, index_part, no_argument, add_argument, call_part, member_part, step_after_part, step_before_part, unary_part, sizeof_part, sizeof_type_part, cast_part, binary_part, conditional_part, assignment_part, MaybePart, left_out_part, stated_part, LastSpecifier, last_words, last_composite, last_enum, SpecifiersPart, no_specifier, add_storage, add_qualifier, add_inline, add_first_word, add_next_word, add_typedef, add_reference, add_enum_reference, are_type, no_member, are_no_members, EnumeratorsPart, no_enumerator, add_enumerator, before_body, without_reference, add_composite, add_enumeration, is_bare, is_named_function, is_head, DeclaratorPart, DeclaratorsPart, AbstractPart, ParametersPart, declared_part, pointer_part, parenthesized_part, array_part, function_part, no_abstract, abstract_pointer_part, abstract_parenthesized_part, abstract_array_part, abstract_function_part, type_part, no_declarator_part, add_declarator, add_members, no_parameter, add_parameter, add_abstract, last_abstract, no_initializer_part, value_part, list_part, InitsPart, no_inits, is_empty, add_init, DeclarationPart, declaration_part, OptionalPart, no_expression, some_expression, ForFirstPart, nothing_part, first_expression_part, first_declaration_part, LabelPart, case_part, default_part, LabelsPart, no_label, add_label, StatementPart, ItemsPart, GroupsPart, no_item, are_no_items, add_declaration, add_statement, no_group, add_group, block_part, empty_part, expression_part, if_part, if_else_part, while_part, do_part, for_part, switch_part, jump_part, return_part, no_file, add_external_declaration, add_function}
use Rattle.c_reading.specs.Frames.{SuffixedPart, suffixed, suffixed_abstract, Frame, step_frame, unary_frame, sizeof_frame, cast_frame, binary_frame, conditional_frame, assignment_frame, parentheses_frame, index_frame, argument_frame, middle_frame, length_frame, enumerator_frame, expression_frame, return_frame, if_frame, while_frame, do_frame, switch_frame, for_first_frame, for_test_frame, for_step_frame, case_frame, initializer_frame, list_frame, then_frame, else_frame, while_body_frame, do_body_frame, for_body_frame, block_frame, function_frame, group_frame, groups_frame, label_frame, for_head_frame, members_frame, enum_frame, parameters_frame, parameter_frame, cast_type_frame, sizeof_type_frame, init_frame, member_frame, parameter_of_frame, type_name_frame, star_frame, open_frame, Nest, Stack, bottom, above, nest_of, push}
use Rattle.c_tree.specs.Trees.{untagged, tagged, FileTree}
use Rattle.c_grammar.specs.Spelling.{is_typedef, precedence, is_unary}
use Rattle.c_grammar.specs.Machine.{Head, if_head, while_head, switch_head, begins_type, begins_declaration, binds, kind_of}
use Rattle.c_grammar.specs.Tokens.{Identifier, Place, Star, Equals, Access, TypeWord, Qualifier, StorageClass, CompositeWord, Jump, Name, Constant, Op, Assignment, Step, Member, TypeKeyword, Qualify, Storage, Composite, JumpWord, Inline, Enum, Sizeof, If, Else, While, Do, For, Switch, Case, Default, Return, LeftBrace, RightBrace, LeftParen, RightParen, LeftBracket, RightBracket, Semicolon, Comma, Question, Colon, Token, token}

-- what is wanted, or was just read
pub data Mode : Type 0 where
  in_file : Mode
  in_items : Mode
  in_statement : Mode
  after_statement : StatementPart → Mode
  in_labels : Mode
  after_default : Place → Mode
  in_condition : Head → Place → Mode
  in_do_condition : Place → StatementPart → Mode
  after_do : Place → StatementPart → ExprPart → Mode
  in_for : Place → Mode
  in_for_first : Place → Mode
  in_for_test : Place → ForFirstPart → Mode
  in_for_step : Place → ForFirstPart → OptionalPart → Mode
  in_switch_body : Place → ExprPart → Mode
  in_jump : Place → Jump → Mode
  in_return : Place → Mode
  in_initializer : Mode
  after_list_comma : ExprPart → Mode
  after_list : Place → ArgumentsPart → Mode
  in_specifiers : SpecifiersPart → Mode
  in_composite : SpecifiersPart → Place → CompositeWord → Mode
  in_enum : SpecifiersPart → Place → Mode
  in_members : Mode
  in_enumerator : Mode
  after_enumerator : EnumeratorsPart → Place → Identifier → Mode
  after_enumerator_comma : EnumeratorsPart → Mode
  in_declarator : Mode
  after_declarator : DeclaratorPart → Mode
  in_abstract : Mode
  in_opened : Mode
  after_abstract : AbstractPart → Mode
  in_length : Mode
  in_parameters : Mode
  in_expression : Mode
  after_postfix : ExprPart → Mode
  after_sizeof : ExprPart → Mode
  in_open : Place → Mode
  in_sizeof : Place → Mode
  in_sizeof_open : Place → Place → Mode
  in_arguments : ExprPart → Place → Mode
  in_access : ExprPart → Place → Access → Mode

-- a state of the reader, with the typedef names so far, the last first
pub record Reader : Type 0 where
  pub mode : Mode
  pub stack : Stack
  pub names : List Identifier

abbrev pub made : Mode → Stack → List Identifier → Reader
made m k ns = record { mode = m; stack = k; names = ns }

abbrev pub goes : Mode → Stack → List Identifier → Option Reader
goes m k ns = Some (made m k ns)

-- ## Tokens

abbrev pub place_of : Token → Place
place_of (token t p) = p

abbrev pub is_semicolon : Token → Bool
is_semicolon (token Semicolon p) = true
is_semicolon _ = false

abbrev pub is_comma : Token → Bool
is_comma (token Comma p) = true
is_comma _ = false

abbrev pub is_colon : Token → Bool
is_colon (token Colon p) = true
is_colon _ = false

abbrev pub is_left_paren : Token → Bool
is_left_paren (token LeftParen p) = true
is_left_paren _ = false

abbrev pub is_right_paren : Token → Bool
is_right_paren (token RightParen p) = true
is_right_paren _ = false

abbrev pub is_left_brace : Token → Bool
is_left_brace (token LeftBrace p) = true
is_left_brace _ = false

abbrev pub is_right_brace : Token → Bool
is_right_brace (token RightBrace p) = true
is_right_brace _ = false

abbrev pub is_left_bracket : Token → Bool
is_left_bracket (token LeftBracket p) = true
is_left_bracket _ = false

abbrev pub is_right_bracket : Token → Bool
is_right_bracket (token RightBracket p) = true
is_right_bracket _ = false

abbrev pub is_equals : Token → Bool
is_equals (token (Assignment Equals) p) = true
is_equals _ = false

abbrev pub is_else : Token → Bool
is_else (token Else p) = true
is_else _ = false

abbrev pub is_while : Token → Bool
is_while (token While p) = true
is_while _ = false

abbrev pub is_case : Token → Bool
is_case (token Case p) = true
is_case _ = false

abbrev pub is_default : Token → Bool
is_default (token Default p) = true
is_default _ = false

-- the identifier that a token is
abbrev pub name_word : Token → Option Identifier
name_word (token (Name x) p) = Some x
name_word _ = None

-- the qualifier that a token is
abbrev pub qualifier_word : Token → Option Qualifier
qualifier_word (token (Qualify q) p) = Some q
qualifier_word _ = None

abbrev pub binds_of : Token → ℕ
binds_of t = binds (kind_of t)

-- ## Frames

-- the least level of an expression there
abbrev pub frame_need : Frame → ℕ
frame_need (step_frame p o) = 14
frame_need (unary_frame p o) = 13
frame_need (sizeof_frame p) = 14
frame_need (cast_frame p t) = 13
frame_need (binary_frame a p o) = suc (precedence o)
frame_need (conditional_frame c p a) = 2
frame_need (assignment_frame a p o) = 1
frame_need (length_frame x) = 2
frame_need (enumerator_frame es p x) = 2
frame_need (case_frame p) = 2
frame_need _ = 1

abbrev pub need_of : Stack → ℕ
need_of (bottom f) = 1
need_of (above f n k) = frame_need f

-- ## What a whole part is put into

-- behind a declaration
abbrev pub declared : DeclarationPart → Stack → List Identifier → Option Reader
declared d (bottom f) ns = goes in_file (bottom (add_external_declaration f d)) ns
declared d (above (block_frame p is) n k) ns = goes in_items (push (block_frame p (add_declaration is d)) k) ns
declared d (above (function_frame s x p is) n k) ns = goes in_items (push (function_frame s x p (add_declaration is d)) k) ns
declared d (above (group_frame gs ls is) n k) ns = goes in_items (push (group_frame gs ls (add_declaration is d)) k) ns
declared d (above (for_head_frame p) n k) ns = goes (in_for_test p (first_declaration_part d)) k ns
declared d (above _ n k) ns = None

-- specifiers with no declarators, which a `for` does not take
abbrev pub is_for_head : Stack → Bool
is_for_head (above (for_head_frame p) n k) = true
is_for_head _ = false

abbrev pub declared_alone : DeclarationPart → Stack → List Identifier → Option Reader
declared_alone d k ns = cond (is_for_head k) None (declared d k ns)

abbrev pub array_end : SuffixedPart → MaybePart → Stack → List Identifier → Option Reader
array_end (suffixed d) l k ns = goes (after_declarator (array_part d l)) k ns
array_end (suffixed_abstract a) l k ns = goes (after_abstract (abstract_array_part a l)) k ns

abbrev pub function_end : SuffixedPart → ParametersPart → Stack → List Identifier → Option Reader
function_end (suffixed d) ps k ns = goes (after_declarator (function_part d ps)) k ns
function_end (suffixed_abstract a) ps k ns = goes (after_abstract (abstract_function_part a ps)) k ns

-- behind the parenthesis that ends parameters
abbrev pub parameters_end : ParametersPart → Stack → List Identifier → Option Reader
parameters_end ps (above (parameters_frame x) n k) ns = function_end x ps k ns
parameters_end ps _ ns = None

abbrev pub enumeration_end : EnumeratorsPart → Stack → List Identifier → Option Reader
enumeration_end es (above (enum_frame s p t q) n k) ns = goes (in_specifiers (add_enumeration s p t q es)) k ns
enumeration_end es _ ns = None

abbrev pub groups_end : GroupsPart → Stack → List Identifier → Option Reader
groups_end gs (above (groups_frame p e) n k) ns = goes (after_statement (switch_part p e gs)) k ns
groups_end gs _ ns = None

-- behind the brace that ends items
abbrev pub items_end : Stack → List Identifier → Option Reader
items_end (above (block_frame p is) n k) ns = goes (after_statement (block_part p is)) k ns
items_end (above (function_frame s d p is) n (bottom f)) ns = goes in_file (bottom (add_function f s d p is)) ns
items_end (above (group_frame gs ls is) n k) ns = groups_end (add_group gs ls is) k ns
items_end _ ns = None

abbrev pub labelled : LabelPart → Stack → List Identifier → Option Reader
labelled l (above (label_frame gs ls) n k) ns = goes in_items (push (group_frame gs (add_label ls l) no_item) k) ns
labelled l _ ns = None

abbrev pub condition_frame : Head → Place → Frame
condition_frame if_head p = if_frame p
condition_frame while_head p = while_frame p
condition_frame switch_head p = switch_frame p

-- ## Expressions

abbrev pub operand_on : Frame → Stack → List Identifier → Option Reader
operand_on f k ns = goes in_expression (push f k) ns

-- an operator behind an operand that it takes
abbrev pub on_operator : ExprPart → Stack → List Identifier → Token → Option Reader
on_operator e k ns (token (Op o) p) = cond (nat_le 3 (precedence o)) (cond (nat_le (precedence o) e.level) (operand_on (binary_frame e p o) k ns) None) None
on_operator e k ns (token (Assignment o) p) = cond (nat_le 14 e.level) (operand_on (assignment_frame e p o) k ns) None
on_operator e k ns (token Question p) = cond (nat_le 3 e.level) (operand_on (middle_frame e p) k ns) None
on_operator e k ns _ = None

-- behind a declarator with its initializer
abbrev pub on_init_declarator : SpecifiersPart → InitsPart → Stack → List Identifier → Token → Option Reader
on_init_declarator s ds k ns t =
    cond (is_semicolon t) (declared (declaration_part s ds) k ns)
    (cond (is_comma t) (goes in_declarator (push (init_frame s ds) k) ns) None)

abbrev pub end_if : Bool → Mode → Stack → List Identifier → Option Reader
end_if b m k ns = cond b (goes m k ns) None

abbrev pub on_argument : ExprPart → Place → ArgumentsPart → Stack → List Identifier → Token → Option Reader
on_argument f p xs k ns t =
    cond (is_comma t) (operand_on (argument_frame f p xs) k ns) (end_if (is_right_paren t) (after_postfix (call_part f p xs)) k ns)

abbrev pub on_list_item : Place → ArgumentsPart → ExprPart → Stack → List Identifier → Token → Option Reader
on_list_item p xs e k ns t =
    cond (is_comma t) (goes (after_list_comma e) (push (list_frame p xs) k) ns) (end_if (is_right_brace t) (after_list p (add_argument xs e)) k ns)

abbrev pub on_enumerator_value : EnumeratorsPart → Stack → List Identifier → Token → Option Reader
on_enumerator_value es k ns t =
    cond (is_comma t) (goes (after_enumerator_comma es) k ns) (cond (is_right_brace t) (enumeration_end es k ns) None)

-- behind a whole expression, the frame being taken off
abbrev pub on_hole : Frame → ExprPart → Stack → List Identifier → Token → Option Reader
on_hole (parentheses_frame p) e k ns t = end_if (is_right_paren t) (after_postfix (parentheses_part p e)) k ns
on_hole (index_frame a p) e k ns t = end_if (is_right_bracket t) (after_postfix (index_part a p e)) k ns
on_hole (argument_frame f p xs) e k ns t = on_argument f p (add_argument xs e) k ns t
on_hole (middle_frame c p) e k ns t = cond (is_colon t) (operand_on (conditional_frame c p e) k ns) None
on_hole (length_frame x) e k ns t = cond (is_right_bracket t) (array_end x (stated_part e) k ns) None
on_hole (enumerator_frame es p x) e k ns t = on_enumerator_value (add_enumerator es p x (stated_part e)) k ns t
on_hole expression_frame e k ns t = end_if (is_semicolon t) (after_statement (expression_part e)) k ns
on_hole (return_frame p) e k ns t = end_if (is_semicolon t) (after_statement (return_part p (some_expression e))) k ns
on_hole (if_frame p) e k ns t = end_if (is_right_paren t) in_statement (push (then_frame p e) k) ns
on_hole (while_frame p) e k ns t = end_if (is_right_paren t) in_statement (push (while_body_frame p e) k) ns
on_hole (do_frame p s) e k ns t = end_if (is_right_paren t) (after_do p s e) k ns
on_hole (switch_frame p) e k ns t = end_if (is_right_paren t) (in_switch_body p e) k ns
on_hole (for_first_frame p) e k ns t = end_if (is_semicolon t) (in_for_test p (first_expression_part e)) k ns
on_hole (for_test_frame p f) e k ns t = end_if (is_semicolon t) (in_for_step p f (some_expression e)) k ns
on_hole (for_step_frame p f c) e k ns t = end_if (is_right_paren t) in_statement (push (for_body_frame p f c (some_expression e)) k) ns
on_hole (case_frame p) e k ns t = cond (is_colon t) (labelled (case_part p e) k ns) None
on_hole (initializer_frame s ds d) e k ns t = on_init_declarator s (add_init ds d (value_part e)) k ns t
on_hole (list_frame p xs) e k ns t = on_list_item p xs e k ns t
on_hole _ e k ns t = None

-- behind an expression that may be an operand: what stands before takes it unless the token binds tighter
abbrev pub on_expression : ExprPart → Stack → List Identifier → Token → Option Reader
on_expression e (bottom f) ns t = None
on_expression e (above (step_frame p o) n k) ns t =
    cond (nat_le 14 (binds_of t)) (on_operator e (above (step_frame p o) n k) ns t) (on_expression (step_before_part p o e) k ns t)
on_expression e (above (unary_frame p o) n k) ns t =
    cond (nat_le 13 (binds_of t)) (on_operator e (above (unary_frame p o) n k) ns t) (on_expression (unary_part p o e) k ns t)
on_expression e (above (sizeof_frame p) n k) ns t =
    cond (nat_le 14 (binds_of t)) (on_operator e (above (sizeof_frame p) n k) ns t) (on_expression (sizeof_part p e) k ns t)
on_expression e (above (cast_frame p x) n k) ns t =
    cond (nat_le 13 (binds_of t)) (on_operator e (above (cast_frame p x) n k) ns t) (on_expression (cast_part p x e) k ns t)
on_expression e (above (binary_frame a p o) n k) ns t =
    cond (nat_le (suc (precedence o)) (binds_of t)) (on_operator e (above (binary_frame a p o) n k) ns t) (on_expression (binary_part a p o e) k ns t)
on_expression e (above (conditional_frame c p a) n k) ns t =
    cond (nat_le 2 (binds_of t)) (on_operator e (above (conditional_frame c p a) n k) ns t) (on_expression (conditional_part c p a e) k ns t)
on_expression e (above (assignment_frame a p o) n k) ns t =
    cond (nat_le 1 (binds_of t)) (on_operator e (above (assignment_frame a p o) n k) ns t) (on_expression (assignment_part a p o e) k ns t)
on_expression e (above f n k) ns t = cond (nat_le (frame_need f) (binds_of t)) (on_operator e (above f n k) ns t) (on_hole f e k ns t)

-- behind a postfix expression
abbrev pub on_postfix : ExprPart → Stack → List Identifier → Token → Option Reader
on_postfix e k ns (token LeftBracket p) = operand_on (index_frame e p) k ns
on_postfix e k ns (token LeftParen p) = goes (in_arguments e p) k ns
on_postfix e k ns (token (Member o) p) = goes (in_access e p o) k ns
on_postfix e k ns (token (Step o) p) = goes (after_postfix (step_after_part e p o)) k ns
on_postfix e k ns t = on_expression e k ns t

-- where an operand is wanted
abbrev pub on_operand : Stack → List Identifier → Token → Option Reader
on_operand k ns (token (Name x) p) = cond (is_typedef ns x) None (goes (after_postfix (name_part p x)) k ns)
on_operand k ns (token (Constant n) p) = goes (after_postfix (constant_part p n)) k ns
on_operand k ns (token (Op o) p) = cond (is_unary o) (operand_on (unary_frame p o) k ns) None
on_operand k ns (token (Step o) p) = operand_on (step_frame p o) k ns
on_operand k ns (token Sizeof p) = goes (in_sizeof p) k ns
on_operand k ns (token LeftParen p) = goes (in_open p) k ns
on_operand k ns _ = None

-- ## Declarators and specifiers

-- where the specifiers on top of a stack stand
pub data SpecifiersPlace : Type 0 where
  of_declaration of_member of_parameter of_type_name : SpecifiersPlace

abbrev pub frame_place : Frame → SpecifiersPlace
frame_place (members_frame s p w t q ms) = of_member
frame_place (parameter_frame ps) = of_parameter
frame_place (cast_type_frame p) = of_type_name
frame_place (sizeof_type_frame p) = of_type_name
frame_place _ = of_declaration

abbrev pub specifiers_place : Stack → SpecifiersPlace
specifiers_place (bottom f) = of_declaration
specifiers_place (above f n k) = frame_place f

abbrev pub takes_storage : SpecifiersPlace → Bool
takes_storage of_declaration = true
takes_storage of_member = false
takes_storage of_parameter = false
takes_storage of_type_name = false

-- one more word of a type
abbrev pub on_word_behind : LastSpecifier → SpecifiersPart → Stack → List Identifier → TypeWord → Place → Option Reader
on_word_behind (last_words q ws) s k ns w p = cond (are_type (ws ++ w ∷ [])) (goes (in_specifiers (add_next_word s q ws w)) k ns) None
on_word_behind _ s k ns w p = cond s.has_type None (goes (in_specifiers (add_first_word s p w)) k ns)

-- where a declarator is wanted
abbrev pub on_declarator : Stack → List Identifier → Token → Option Reader
on_declarator k ns (token (Name x) p) = cond (is_typedef ns x) None (goes (after_declarator (declared_part p x)) k ns)
on_declarator k ns (token (Op Star) p) = goes in_declarator (push (star_frame []) k) ns
on_declarator k ns (token LeftParen p) = goes in_declarator (push open_frame k) ns
on_declarator k ns _ = None

-- behind a parameter, which is the last of these or has more to come
abbrev pub on_parameter : ParametersPart → ParametersPart → Stack → List Identifier → Token → Option Reader
on_parameter more last k ns t =
    cond (is_comma t) (goes (in_specifiers no_specifier) (push (parameter_frame more) k) ns) (cond (is_right_paren t) (parameters_end last k ns) None)

-- behind the type name in parentheses
abbrev pub type_named : TypePart → Stack → List Identifier → Option Reader
type_named t (above (cast_type_frame p) n k) ns = operand_on (cast_frame p t) k ns
type_named t (above (sizeof_type_frame p) n k) ns = goes (after_sizeof (sizeof_type_part p t)) k ns
type_named t _ ns = None

-- behind an abstract declarator of a parameter, or where there is none
abbrev pub on_abstract_parameter : SpecifiersPart → AbstractPart → Stack → List Identifier → Token → Option Reader
on_abstract_parameter s a (above (parameter_frame ps) n k) ns t = on_parameter (add_abstract ps s a) (last_abstract ps s a) k ns t
on_abstract_parameter s a _ ns t = None

-- behind an abstract declarator, or where there is none
abbrev pub climb_abstract : AbstractPart → Stack → List Identifier → Token → Option Reader
climb_abstract a (above (parameter_of_frame s) n k) ns t = on_abstract_parameter s a k ns t
climb_abstract a (above (type_name_frame s) n k) ns t = cond (is_right_paren t) (type_named (type_part s a) k ns) None
climb_abstract a (above (star_frame qs) n k) ns t = climb_abstract (abstract_pointer_part qs a) k ns t
climb_abstract a (above open_frame n k) ns t = cond (is_right_paren t) (end_if a.is_some (after_abstract (abstract_parenthesized_part a)) k ns) None
climb_abstract a _ ns t = None

-- where an abstract declarator or none may stand
abbrev pub on_abstract : Stack → List Identifier → Token → Option Reader
on_abstract k ns (token (Name x) p) = cond (nest_of k).takes_name (cond (is_typedef ns x) None (goes (after_declarator (declared_part p x)) k ns)) None
on_abstract k ns (token (Op Star) p) = goes in_abstract (push (star_frame []) k) ns
on_abstract k ns (token LeftParen p) = goes in_opened k ns
on_abstract k ns (token LeftBracket p) = goes in_length (push (length_frame (suffixed_abstract no_abstract)) k) ns
on_abstract k ns t = climb_abstract no_abstract k ns t

abbrev pub after_specifiers : SpecifiersPlace → SpecifiersPart → Stack → List Identifier → Token → Option Reader
after_specifiers of_declaration s k ns t = cond (is_semicolon t) (declared_alone (declaration_part s no_inits) k ns) (on_declarator (push (init_frame s no_inits) k) ns t)
after_specifiers of_member s k ns t = on_declarator (push (member_frame s no_declarator_part) k) ns t
after_specifiers of_parameter s k ns t = on_abstract (push (parameter_of_frame s) k) ns t
after_specifiers of_type_name s k ns t = on_abstract (push (type_name_frame s) k) ns t

-- behind specifiers with a type
abbrev pub on_typed : SpecifiersPart → Stack → List Identifier → Token → Option Reader
on_typed s k ns t = after_specifiers (specifiers_place k) s k ns t

abbrev pub on_body_behind : LastSpecifier → SpecifiersPart → Place → Stack → List Identifier → Option Reader
on_body_behind (last_composite p w q x) s l k ns = goes in_members (push (members_frame (without_reference s) p w (tagged q x) l no_member) k) ns
on_body_behind (last_enum p q x) s l k ns = goes in_enumerator (push (enum_frame (without_reference s) p (tagged q x) l) k) ns
on_body_behind _ s l k ns = None

abbrev pub on_name : SpecifiersPart → Identifier → Place → Stack → List Identifier → Option Reader
on_name s x p k ns = end_if (is_typedef ns x) (in_specifiers (add_typedef s p x)) k ns

abbrev pub on_storage : SpecifiersPart → Place → StorageClass → Stack → List Identifier → Option Reader
on_storage s p w k ns = cond (takes_storage (specifiers_place k)) (cond s.has_storage None (goes (in_specifiers (add_storage s p w)) k ns)) None

abbrev pub on_specifiers : SpecifiersPart → Stack → List Identifier → Token → Option Reader
on_specifiers s k ns (token (Name x) p) = cond s.has_type (on_typed s k ns (token (Name x) p)) (on_name s x p k ns)
on_specifiers s k ns (token (TypeKeyword w) p) = on_word_behind s.last s k ns w p
on_specifiers s k ns (token (Qualify q) p) = goes (in_specifiers (add_qualifier s p q)) k ns
on_specifiers s k ns (token (Storage w) p) = on_storage s p w k ns
on_specifiers s k ns (token Inline p) = end_if (takes_storage (specifiers_place k)) (in_specifiers (add_inline s p)) k ns
on_specifiers s k ns (token (Composite w) p) = cond s.has_type None (goes (in_composite s p w) k ns)
on_specifiers s k ns (token Enum p) = cond s.has_type None (goes (in_enum s p) k ns)
on_specifiers s k ns (token LeftBrace p) = on_body_behind s.last s p k ns
on_specifiers s k ns t = cond s.has_type (on_typed s k ns t) None

abbrev pub on_composite : SpecifiersPart → Place → CompositeWord → Stack → List Identifier → Token → Option Reader
on_composite s p w k ns (token (Name x) q) = goes (in_specifiers (add_reference s p w q x)) k ns
on_composite s p w k ns (token LeftBrace q) = goes in_members (push (members_frame (before_body s p) p w untagged q no_member) k) ns
on_composite s p w k ns _ = None

abbrev pub on_enum : SpecifiersPart → Place → Stack → List Identifier → Token → Option Reader
on_enum s p k ns (token (Name x) q) = goes (in_specifiers (add_enum_reference s p q x)) k ns
on_enum s p k ns (token LeftBrace q) = goes in_enumerator (push (enum_frame (before_body s p) p untagged q) k) ns
on_enum s p k ns _ = None

-- behind the brace that ends members
abbrev pub members_end : Stack → List Identifier → Option Reader
members_end (above (members_frame s p w t q ms) n k) ns = cond (are_no_members ms.trees) None (goes (in_specifiers (add_composite s p w t q ms)) k ns)
members_end _ ns = None

abbrev pub on_members : Stack → List Identifier → Token → Option Reader
on_members k ns t = cond (is_right_brace t) (members_end k ns) (on_specifiers no_specifier k ns t)

-- a name of an enumeration constant
abbrev pub on_constant_name : EnumeratorsPart → Identifier → Place → Stack → List Identifier → Option Reader
on_constant_name es x p k ns = cond (is_typedef ns x) None (goes (after_enumerator es p x) k ns)

abbrev pub on_enumerator : Stack → List Identifier → Token → Option Reader
on_enumerator k ns (token (Name x) p) = on_constant_name no_enumerator x p k ns
on_enumerator k ns _ = None

abbrev pub on_after_enumerator : EnumeratorsPart → Place → Identifier → Stack → List Identifier → Token → Option Reader
on_after_enumerator es p x k ns t =
    cond (is_equals t) (operand_on (enumerator_frame es p x) k ns) (on_enumerator_value (add_enumerator es p x left_out_part) k ns t)

abbrev pub on_enumerator_comma : EnumeratorsPart → Stack → List Identifier → Token → Option Reader
on_enumerator_comma es k ns (token (Name x) p) = on_constant_name es x p k ns
on_enumerator_comma es k ns (token RightBrace p) = enumeration_end es k ns
on_enumerator_comma es k ns _ = None

-- ## Declarators

abbrev pub on_starred_by : Option Qualifier → Stack → List Identifier → Token → Option Reader
on_starred_by (Some q) (above (star_frame qs) n k) ns t = goes in_declarator (push (star_frame (qs ++ q ∷ [])) k) ns
on_starred_by (Some q) k ns t = on_declarator k ns t
on_starred_by None k ns t = on_declarator k ns t

-- one more qualifier behind the last star, or a declarator
abbrev pub on_starred : Stack → List Identifier → Token → Option Reader
on_starred k ns t = on_starred_by (qualifier_word t) k ns t

abbrev pub on_starred_abstract_by : Option Qualifier → Stack → List Identifier → Token → Option Reader
on_starred_abstract_by (Some q) (above (star_frame qs) n k) ns t = goes in_abstract (push (star_frame (qs ++ q ∷ [])) k) ns
on_starred_abstract_by (Some q) k ns t = on_abstract k ns t
on_starred_abstract_by None k ns t = on_abstract k ns t

abbrev pub on_starred_abstract : Stack → List Identifier → Token → Option Reader
on_starred_abstract k ns t = on_starred_abstract_by (qualifier_word t) k ns t

-- the typedef names behind a declarator of a declaration
abbrev pub names_with : Bool → Identifier → List Identifier → List Identifier
names_with true x ns = x ∷ ns
names_with false x ns = ns

abbrev pub is_bottom : Stack → Bool
is_bottom (bottom f) = true
is_bottom (above f n k) = false

-- the brace of a function's body
abbrev pub on_function_body : DeclaratorPart → SpecifiersPart → InitsPart → Place → Stack → List Identifier → Option Reader
on_function_body d s ds p k ns =
    cond (is_empty ds.trees && is_bottom k) (cond (is_head d.shape) (cond s.declares_types None (goes in_items (push (function_frame s d p no_item) k) ns)) None) None

-- behind a declarator of a declaration with nothing round it
abbrev pub on_declared : DeclaratorPart → SpecifiersPart → InitsPart → Stack → List Identifier → Token → Option Reader
on_declared d s ds k ns t =
    cond (is_left_brace t) (on_function_body d s ds (place_of t) k ns)
    (cond (is_equals t) (goes in_initializer (push (initializer_frame s ds d) k) (names_with s.declares_types d.name ns))
    (on_init_declarator s (add_init ds d no_initializer_part) k (names_with s.declares_types d.name ns) t))

-- behind a declarator of members, of those that the frame below has
abbrev pub members_more : SpecifiersPart → DeclaratorsPart → Stack → List Identifier → Option Reader
members_more s ds (above (members_frame x p w t q ms) n k) ns = goes in_members (push (members_frame x p w t q (add_members ms s ds)) k) ns
members_more s ds _ ns = None

abbrev pub on_member : SpecifiersPart → DeclaratorsPart → Stack → List Identifier → Token → Option Reader
on_member s ds k ns t = cond (is_comma t) (goes in_declarator (push (member_frame s ds) k) ns) (cond (is_semicolon t) (members_more s ds k ns) None)

abbrev pub on_named_parameter : SpecifiersPart → DeclaratorPart → Stack → List Identifier → Token → Option Reader
on_named_parameter s d (above (parameter_frame ps) n k) ns t = on_parameter (add_parameter ps s d) (add_parameter ps s d) k ns t
on_named_parameter s d _ ns t = None

-- behind a whole declarator
abbrev pub climb : DeclaratorPart → Stack → List Identifier → Token → Option Reader
climb d (above (init_frame s ds) n k) ns t = on_declared d s ds k ns t
climb d (above (member_frame s ds) n k) ns t = on_member s (add_declarator ds d) k ns t
climb d (above (parameter_of_frame s) n k) ns t = on_named_parameter s d k ns t
climb d (above (star_frame qs) n k) ns t = climb (pointer_part qs d) k ns t
climb d (above open_frame n k) ns t = end_if (is_right_paren t) (after_declarator (parenthesized_part d)) k ns
climb d _ ns t = None

-- behind a direct declarator
abbrev pub on_suffix : SuffixedPart → Stack → List Identifier → Token → Option Reader → Option Reader
on_suffix x k ns t other =
    cond (is_left_bracket t) (goes in_length (push (length_frame x) k) ns) (cond (is_left_paren t) (goes in_parameters (push (parameters_frame x) k) ns) other)

abbrev pub on_direct : DeclaratorPart → Stack → List Identifier → Token → Option Reader
on_direct d k ns t = on_suffix (suffixed d) k ns t (climb d k ns t)

abbrev pub on_direct_abstract : AbstractPart → Stack → List Identifier → Token → Option Reader
on_direct_abstract a k ns t = on_suffix (suffixed_abstract a) k ns t (climb_abstract a k ns t)

abbrev pub no_length_end : Stack → List Identifier → Option Reader
no_length_end (above (length_frame x) n k) ns = array_end x left_out_part k ns
no_length_end _ ns = None

abbrev pub on_length : Stack → List Identifier → Token → Option Reader
on_length k ns t = cond (is_right_bracket t) (no_length_end k ns) (on_operand k ns t)

abbrev pub on_parameters : Stack → List Identifier → Token → Option Reader
on_parameters k ns t = cond (is_right_paren t) (parameters_end no_parameter k ns) (on_specifiers no_specifier (push (parameter_frame no_parameter) k) ns t)

-- behind a parenthesis where an abstract declarator may stand: parameters, or a declarator of either kind
abbrev pub on_opened : Stack → List Identifier → Token → Option Reader
on_opened k ns t =
    cond (is_right_paren t) (goes (after_abstract (abstract_function_part no_abstract no_parameter)) k ns)
    (cond (begins_type ns (kind_of t)) (on_specifiers no_specifier (push (parameter_frame no_parameter) (push (parameters_frame (suffixed_abstract no_abstract)) k)) ns t)
    (on_abstract (push open_frame k) ns t))

-- ## Parentheses before an operand

abbrev pub on_open : Place → Stack → List Identifier → Token → Option Reader
on_open p k ns t =
    cond (begins_type ns (kind_of t)) (cond (nat_le (need_of k) 13) (on_specifiers no_specifier (push (cast_type_frame p) k) ns t) None)
    (on_operand (push (parentheses_frame p) k) ns t)

abbrev pub on_sizeof : Place → Stack → List Identifier → Token → Option Reader
on_sizeof p k ns t = cond (is_left_paren t) (goes (in_sizeof_open p (place_of t)) k ns) (on_operand (push (sizeof_frame p) k) ns t)

abbrev pub on_sizeof_open : Place → Place → Stack → List Identifier → Token → Option Reader
on_sizeof_open p q k ns t =
    cond (begins_type ns (kind_of t)) (on_specifiers no_specifier (push (sizeof_type_frame p) k) ns t)
    (on_operand (push (parentheses_frame q) (push (sizeof_frame p) k)) ns t)

abbrev pub on_arguments : ExprPart → Place → Stack → List Identifier → Token → Option Reader
on_arguments f p k ns t = cond (is_right_paren t) (goes (after_postfix (call_part f p no_argument)) k ns) (on_operand (push (argument_frame f p no_argument) k) ns t)

abbrev pub on_access : ExprPart → Place → Access → Stack → List Identifier → Token → Option Reader
on_access e p o k ns (token (Name x) q) = goes (after_postfix (member_part e p o q x)) k ns
on_access e p o k ns _ = None

-- ## Initializers

abbrev pub on_initializer : Stack → List Identifier → Token → Option Reader
on_initializer k ns t = cond (is_left_brace t) (operand_on (list_frame (place_of t) no_argument) k ns) (on_operand k ns t)

-- behind a comma of a list, whose last item this is
abbrev pub on_list_comma : ExprPart → Stack → List Identifier → Token → Option Reader
on_list_comma e (above (list_frame p xs) n k) ns t =
    cond (is_right_brace t) (goes (after_list p (add_argument xs e)) k ns) (on_operand (push (list_frame p (add_argument xs e)) k) ns t)
on_list_comma e _ ns t = None

abbrev pub on_after_list : Place → ArgumentsPart → Stack → List Identifier → Token → Option Reader
on_after_list p xs (above (initializer_frame s ds d) n k) ns t = on_init_declarator s (add_init ds d (list_part p xs)) k ns t
on_after_list p xs _ ns t = None

-- ## Statements

abbrev pub on_statement : Stack → List Identifier → Token → Option Reader
on_statement k ns (token LeftBrace p) = goes in_items (push (block_frame p no_item) k) ns
on_statement k ns (token Semicolon p) = goes (after_statement (empty_part p)) k ns
on_statement k ns (token If p) = goes (in_condition if_head p) k ns
on_statement k ns (token While p) = goes (in_condition while_head p) k ns
on_statement k ns (token Switch p) = goes (in_condition switch_head p) k ns
on_statement k ns (token Do p) = goes in_statement (push (do_body_frame p) k) ns
on_statement k ns (token For p) = goes (in_for p) k ns
on_statement k ns (token (JumpWord j) p) = goes (in_jump p j) k ns
on_statement k ns (token Return p) = goes (in_return p) k ns
on_statement k ns t = on_operand (push expression_frame k) ns t

-- the frame of a label behind these items: of the same group where there are none
abbrev pub label_behind : GroupsPart → LabelsPart → ItemsPart → Frame
label_behind gs ls is = cond (are_no_items is.trees) (label_frame gs ls) (label_frame (add_group gs ls is) no_label)

-- a label among items: only those of a switch take one
abbrev pub on_case : Place → Stack → List Identifier → Option Reader
on_case p (above (group_frame gs ls is) n k) ns = operand_on (case_frame p) (push (label_behind gs ls is) k) ns
on_case p _ ns = None

abbrev pub on_default : Place → Stack → List Identifier → Option Reader
on_default p (above (group_frame gs ls is) n k) ns = goes (after_default p) (push (label_behind gs ls is) k) ns
on_default p _ ns = None

-- a declaration or a statement
abbrev pub on_item : Stack → List Identifier → Token → Option Reader
on_item k ns t = cond (begins_declaration ns (kind_of t)) (on_specifiers no_specifier k ns t) (on_statement k ns t)

abbrev pub on_items : Stack → List Identifier → Token → Option Reader
on_items k ns t =
    cond (is_right_brace t) (items_end k ns) (cond (is_case t) (on_case (place_of t) k ns) (cond (is_default t) (on_default (place_of t) k ns) (on_item k ns t)))

-- behind a statement
abbrev pub on_after : StatementPart → Stack → List Identifier → Token → Option Reader
on_after s (above (then_frame p e) n k) ns t = cond (is_else t) (goes in_statement (push (else_frame p e s) k) ns) (on_after (if_part p e s) k ns t)
on_after s (above (else_frame p e a) n k) ns t = on_after (if_else_part p e a s) k ns t
on_after s (above (while_body_frame p e) n k) ns t = on_after (while_part p e s) k ns t
on_after s (above (do_body_frame p) n k) ns t = end_if (is_while t) (in_do_condition p s) k ns
on_after s (above (for_body_frame p f c u) n k) ns t = on_after (for_part p f c u s) k ns t
on_after s (above (block_frame p is) n k) ns t = on_items (push (block_frame p (add_statement is s)) k) ns t
on_after s (above (function_frame x d p is) n k) ns t = on_items (push (function_frame x d p (add_statement is s)) k) ns t
on_after s (above (group_frame gs ls is) n k) ns t = on_items (push (group_frame gs ls (add_statement is s)) k) ns t
on_after s _ ns t = None

abbrev pub on_labels : Stack → List Identifier → Token → Option Reader
on_labels k ns t =
    cond (is_right_brace t) (groups_end no_group k ns)
    (cond (is_case t) (operand_on (case_frame (place_of t)) (push (label_frame no_group no_label) k) ns)
    (cond (is_default t) (goes (after_default (place_of t)) (push (label_frame no_group no_label) k) ns) None))

abbrev pub on_after_default : Place → Stack → List Identifier → Token → Option Reader
on_after_default p k ns t = cond (is_colon t) (labelled (default_part p) k ns) None

abbrev pub on_condition : Head → Place → Stack → List Identifier → Token → Option Reader
on_condition h p k ns t = cond (is_left_paren t) (operand_on (condition_frame h p) k ns) None

abbrev pub on_do_condition : Place → StatementPart → Stack → List Identifier → Token → Option Reader
on_do_condition p s k ns t = cond (is_left_paren t) (operand_on (do_frame p s) k ns) None

abbrev pub on_after_do : Place → StatementPart → ExprPart → Stack → List Identifier → Token → Option Reader
on_after_do p s e k ns t = end_if (is_semicolon t) (after_statement (do_part p s e)) k ns

abbrev pub on_for : Place → Stack → List Identifier → Token → Option Reader
on_for p k ns t = end_if (is_left_paren t) (in_for_first p) k ns

abbrev pub on_for_first : Place → Stack → List Identifier → Token → Option Reader
on_for_first p k ns t =
    cond (is_semicolon t) (goes (in_for_test p nothing_part) k ns)
    (cond (begins_declaration ns (kind_of t)) (on_specifiers no_specifier (push (for_head_frame p) k) ns t) (on_operand (push (for_first_frame p) k) ns t))

abbrev pub on_for_test : Place → ForFirstPart → Stack → List Identifier → Token → Option Reader
on_for_test p f k ns t = cond (is_semicolon t) (goes (in_for_step p f no_expression) k ns) (on_operand (push (for_test_frame p f) k) ns t)

abbrev pub on_for_step : Place → ForFirstPart → OptionalPart → Stack → List Identifier → Token → Option Reader
on_for_step p f c k ns t =
    cond (is_right_paren t) (goes in_statement (push (for_body_frame p f c no_expression) k) ns) (on_operand (push (for_step_frame p f c) k) ns t)

abbrev pub on_switch_body : Place → ExprPart → Stack → List Identifier → Token → Option Reader
on_switch_body p e k ns t = cond (is_left_brace t) (goes in_labels (push (groups_frame p e) k) ns) None

abbrev pub on_jump : Place → Jump → Stack → List Identifier → Token → Option Reader
on_jump p j k ns t = end_if (is_semicolon t) (after_statement (jump_part p j)) k ns

abbrev pub on_return : Place → Stack → List Identifier → Token → Option Reader
on_return p k ns t = cond (is_semicolon t) (goes (after_statement (return_part p no_expression)) k ns) (on_operand (push (return_frame p) k) ns t)

-- ## Reading

-- the state behind one more token, or nothing where no file goes on so
unfoldable pub feed_in : Mode → Stack → List Identifier → Token → Option Reader
feed_in in_file k ns t = on_specifiers no_specifier k ns t
feed_in in_items k ns t = on_items k ns t
feed_in in_statement k ns t = on_statement k ns t
feed_in (after_statement s) k ns t = on_after s k ns t
feed_in in_labels k ns t = on_labels k ns t
feed_in (after_default p) k ns t = on_after_default p k ns t
feed_in (in_condition h p) k ns t = on_condition h p k ns t
feed_in (in_do_condition p s) k ns t = on_do_condition p s k ns t
feed_in (after_do p s e) k ns t = on_after_do p s e k ns t
feed_in (in_for p) k ns t = on_for p k ns t
feed_in (in_for_first p) k ns t = on_for_first p k ns t
feed_in (in_for_test p f) k ns t = on_for_test p f k ns t
feed_in (in_for_step p f c) k ns t = on_for_step p f c k ns t
feed_in (in_switch_body p e) k ns t = on_switch_body p e k ns t
feed_in (in_jump p j) k ns t = on_jump p j k ns t
feed_in (in_return p) k ns t = on_return p k ns t
feed_in in_initializer k ns t = on_initializer k ns t
feed_in (after_list_comma e) k ns t = on_list_comma e k ns t
feed_in (after_list p xs) k ns t = on_after_list p xs k ns t
feed_in (in_specifiers s) k ns t = on_specifiers s k ns t
feed_in (in_composite s p w) k ns t = on_composite s p w k ns t
feed_in (in_enum s p) k ns t = on_enum s p k ns t
feed_in in_members k ns t = on_members k ns t
feed_in in_enumerator k ns t = on_enumerator k ns t
feed_in (after_enumerator es p x) k ns t = on_after_enumerator es p x k ns t
feed_in (after_enumerator_comma es) k ns t = on_enumerator_comma es k ns t
feed_in in_declarator k ns t = on_starred k ns t
feed_in (after_declarator d) k ns t = on_direct d k ns t
feed_in in_abstract k ns t = on_starred_abstract k ns t
feed_in in_opened k ns t = on_opened k ns t
feed_in (after_abstract a) k ns t = on_direct_abstract a k ns t
feed_in in_length k ns t = on_length k ns t
feed_in in_parameters k ns t = on_parameters k ns t
feed_in in_expression k ns t = on_operand k ns t
feed_in (after_postfix e) k ns t = on_postfix e k ns t
feed_in (after_sizeof e) k ns t = on_expression e k ns t
feed_in (in_open p) k ns t = on_open p k ns t
feed_in (in_sizeof p) k ns t = on_sizeof p k ns t
feed_in (in_sizeof_open p q) k ns t = on_sizeof_open p q k ns t
feed_in (in_arguments f p) k ns t = on_arguments f p k ns t
feed_in (in_access e p o) k ns t = on_access e p o k ns t

abbrev pub feed_code : Reader → Token → Option Reader
feed_code r t = feed_in r.mode r.stack r.names t

-- many tokens
unfoldable pub read_on : Option Reader → List Token → Option Reader
read_on None ts = None
read_on (Some r) [] = Some r
read_on (Some r) (t ∷ ts) = read_on (feed_code r t) ts

abbrev pub start_code : Reader
start_code = made in_file (bottom no_file) []

-- ## The nesting of the deepest token read

-- a name, a declarator and an abstract one behind what is on top
abbrev pub declarator_deepest : DeclaratorPart → Nest → ℕ
declarator_deepest d n =
    cond ((is_bare d.shape || is_named_function d.shape) && n.may_head) (max n.deepest (over 0 d.inner))
    (max n.deepest (cond (is_bare d.shape) n.depth (over n.inner d.inner)))

-- what stands here, of this height
abbrev pub with_part : Nest → ℕ → ℕ
with_part n height = max n.deepest (over n.depth height)

-- what stands here below one mark more
abbrev pub with_marked : Nest → ℕ → ℕ
with_marked n height = max n.deepest (over (deeper n.depth) height)

abbrev pub mode_deepest : Mode → Nest → ℕ
mode_deepest (after_statement s) n = with_part n s.height
mode_deepest (after_default p) n = with_part n 0
mode_deepest (in_condition h p) n = with_marked n 0
mode_deepest (in_do_condition p s) n = with_marked n s.height
mode_deepest (after_do p s e) n = with_marked n (max s.height e.height)
mode_deepest (in_for p) n = with_marked n 0
mode_deepest (in_for_first p) n = with_marked n 0
mode_deepest (in_for_test p f) n = with_marked n f.height
mode_deepest (in_for_step p f c) n = with_marked n (max f.height c.height)
mode_deepest (in_switch_body p e) n = with_marked n e.height
mode_deepest (in_jump p j) n = with_marked n 0
mode_deepest (in_return p) n = with_marked n 0
mode_deepest (after_list_comma e) n = with_part n e.height
mode_deepest (after_list p xs) n = with_marked n xs.height
mode_deepest (in_specifiers s) n = with_part n s.height
mode_deepest (in_composite s p w) n = with_part n s.height
mode_deepest (in_enum s p) n = with_part n s.height
mode_deepest (after_enumerator es p x) n = with_part n es.height
mode_deepest (after_enumerator_comma es) n = with_part n es.height
mode_deepest in_declarator n = cond n.may_head n.deepest (max n.deepest n.depth)
mode_deepest (after_declarator d) n = declarator_deepest d n
mode_deepest in_abstract n = max n.deepest (cond n.takes_name n.depth n.star_depth)
mode_deepest in_opened n = max n.deepest (cond n.takes_name n.inner n.star_inner)
mode_deepest (after_abstract a) n = max n.deepest (cond a.is_some (over n.star_inner a.inner) n.star_depth)
mode_deepest (after_postfix e) n = with_part n e.height
mode_deepest (after_sizeof e) n = with_part n e.height
mode_deepest (in_open p) n = with_marked n 0
mode_deepest (in_sizeof p) n = with_marked n 0
mode_deepest (in_sizeof_open p q) n = with_marked n 0
mode_deepest (in_arguments f p) n = with_marked n f.height
mode_deepest (in_access e p o) n = with_marked n e.height
mode_deepest _ n = n.deepest

-- the nesting of the deepest token read
abbrev pub deepest : Reader → ℕ
deepest r = mode_deepest r.mode (nest_of r.stack)

-- whether the tokens read are a whole file
abbrev pub is_in_file : Mode → Bool
is_in_file in_file = true
is_in_file _ = false

-- what stands in the file, as far as it is whole
abbrev pub bottom_trees : Stack → FileTree
bottom_trees (bottom f) = f.trees
bottom_trees (above f n k) = bottom_trees k

abbrev pub file_trees : Reader → FileTree
file_trees r = bottom_trees r.stack
