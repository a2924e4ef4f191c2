-- The reader's state of a state of the grammar's machine: the parts of its derivations, and its contexts as frames.
use Rattle.std.proofs.Common.{List, [], ◌∷◌, ◌++◌, Option, Some, None}
use Rattle.c_grammar.specs.Derivations.{Qualifiers, no_qualifiers, qualified, TypeWords, first_word, next_word, Expression, identifier, constant, parenthesized, index, call_without, call, member, step_after, step_before, unary, sizeof_expression, sizeof_type, cast, binary, conditional, assignment, Arguments, no_arguments, argument, TypeName, type_name, Specifiers, no_specifiers, storage_class, qualifier, inlined, type_words, typedef_name, composite_reference, composite, enum_reference, enumeration, Members, no_members, members, Declarators, no_declarators, declarators, Enumerator, enumerator, enumerator_value, Enumerators, no_enumerators, enumerators, Declarator, declared_name, pointer, parenthesized_declarator, array, function, Length, no_length, length_of, AbstractDeclarator, no_declarator, abstract_pointer, parenthesized_abstract, abstract_array, abstract_function, Parameters, no_parameters, void_parameter, parameters, EarlierParameters, no_earlier, earlier, Parameter, named_parameter, unnamed_parameter, Initializer, no_initializer, initializer, initializer_list, InitDeclarator, init_declarator, InitDeclarators, no_init_declarators, init_declarators, Declaration, specifiers_alone, declaration, ForFirst, for_nothing, for_expression, for_declaration, Label, case_label, default_label, Labels, first_label, next_label, Statement, block, empty_statement, expression_statement, if_statement, if_else, while_statement, do_statement, for_statement, switch_statement, jump_statement, return_statement, Items, no_items, declaration_item, statement_item, Groups, no_groups, group, File, empty_file, external_declaration, function_definition}
use Rattle.c_reading.specs.Parts.{ExprPart, ArgumentsPart, TypePart, name_part, constant_part, parentheses_part, index_part, no_argument, add_argument, call_part, member_part, step_after_part, step_before_part, unary_part, sizeof_part, sizeof_type_part, cast_part, binary_part, conditional_part, assignment_part, MaybePart, left_out_part, stated_part, SpecifiersPart, no_specifier, add_storage, add_qualifier, add_inline, add_first_word, add_next_word, add_typedef, add_reference, add_enum_reference, MembersPart, no_member, EnumeratorsPart, no_enumerator, add_enumerator, before_body, add_composite, add_enumeration, DeclaratorPart, DeclaratorsPart, AbstractPart, ParametersPart, declared_part, pointer_part, parenthesized_part, array_part, function_part, no_abstract, abstract_pointer_part, abstract_parenthesized_part, abstract_array_part, abstract_function_part, type_part, no_declarator_part, add_declarator, add_members, no_parameter, add_parameter, add_abstract, InitializerPart, no_initializer_part, value_part, list_part, InitsPart, no_inits, add_init, DeclarationPart, declaration_part, OptionalPart, no_expression, some_expression, ForFirstPart, nothing_part, first_expression_part, first_declaration_part, LabelPart, case_part, default_part, LabelsPart, no_label, add_label, StatementPart, ItemsPart, GroupsPart, no_item, add_declaration, add_statement, no_group, add_group, block_part, empty_part, expression_part, if_part, if_else_part, while_part, do_part, for_part, switch_part, jump_part, return_part, FilePart, no_file, add_external_declaration, add_function}
use Rattle.c_reading.specs.Frames.{suffixed, suffixed_abstract, Frame, step_frame, unary_frame, sizeof_frame, cast_frame, binary_frame, conditional_frame, assignment_frame, parentheses_frame, index_frame, argument_frame, middle_frame, length_frame, enumerator_frame, expression_frame, return_frame, if_frame, while_frame, do_frame, switch_frame, for_first_frame, for_test_frame, for_step_frame, case_frame, initializer_frame, list_frame, then_frame, else_frame, while_body_frame, do_body_frame, for_body_frame, block_frame, function_frame, group_frame, groups_frame, label_frame, for_head_frame, members_frame, enum_frame, parameters_frame, parameter_frame, cast_type_frame, sizeof_type_frame, init_frame, member_frame, parameter_of_frame, type_name_frame, star_frame, open_frame, Stack, bottom, push}
use Rattle.c_reading.specs.Code.{Reader, made}
use Rattle.c_grammar.specs.Contexts.{StatementContext, then_of, else_of, while_body, do_body, for_body, item_of, ItemsContext, block_of, function_body, group_of, GroupsContext, switch_of, LabelContext, new_group, another_label, DeclarationContext, in_file, in_items, in_for_head, InitializerContext, initializer_of, StatementHole, of_statement, of_return, of_if, of_while, of_do, of_switch, of_for_first, of_for_test, of_for_step, of_case, of_initializer, of_list, Chain, top, starred, opened, ExpressionContext, operand, whole, Hole, in_parentheses, in_index, in_argument, in_middle, in_length, in_enumerator, in_statement, Suffixed, of_declarator, of_abstract, SpecifiersContext, in_declaration, in_member, in_parameter, in_type_name, TypeNameContext, in_cast, in_sizeof, CompositeContext, in_composite, EnumContext, in_enumeration, DeclaratorContext, init_context, member_context, parameter_context, AbstractContext, parameter_abstract, type_name_abstract, statement_context_names, items_context_names, groups_context_names, label_context_names, initializer_context_names, expression_context_names, suffixed_names, specifiers_context_names, composite_context_names, enum_context_names, declarator_context_names, abstract_context_names}
use Rattle.c_tree.specs.Reading.{words_start, tag_tree}
use Rattle.c_grammar.specs.Spelling.{for_first_names, statement_names, items_names, file_names}
use Rattle.c_grammar.specs.Machine.{State, at_file, at_items, at_statement, after_statement, at_labels, after_default, at_condition, at_do_condition, after_do, at_for, at_for_first, at_for_test, at_for_step, at_switch_body, at_jump, at_return, at_initializer, at_list_comma, after_list, at_specifiers, at_composite, at_enum, at_members, at_enumerator, after_enumerator, after_enumerator_comma, at_declarator, after_declarator, at_abstract, at_opened, after_abstract, at_length, at_parameters, at_expression, after_postfix, after_sizeof, at_open, at_sizeof, at_sizeof_open, at_arguments, at_access}
use Rattle.c_grammar.specs.Tokens.{TypeWord, Qualifier}
use Rattle.c_grammar.specs.Contexts as before
use Rattle.c_reading.specs.Code as mode

abbrev pub words_list : TypeWords → List TypeWord
words_list (first_word p w) = w ∷ []
words_list (next_word ws p w) = words_list ws ++ w ∷ []

abbrev pub qualifiers_list : Qualifiers → List Qualifier
qualifiers_list no_qualifiers = []
qualifiers_list (qualified qs p q) = qualifiers_list qs ++ q ∷ []

-- specifiers with a type of these words
abbrev pub add_words : SpecifiersPart → TypeWords → SpecifiersPart
add_words s (first_word p w) = add_first_word s p w
add_words s (next_word ws p w) = add_next_word (add_words s ws) (words_start ws) (words_list ws) w

abbrev mutual
  pub expr_part : Expression → ExprPart
  expr_part (identifier p x) = name_part p x
  expr_part (constant p n) = constant_part p n
  expr_part (parenthesized p e q) = parentheses_part p (expr_part e)
  expr_part (index e p i q) = index_part (expr_part e) p (expr_part i)
  expr_part (call_without f p q) = call_part (expr_part f) p no_argument
  expr_part (call f p xs e q) = call_part (expr_part f) p (add_argument (arguments_part xs) (expr_part e))
  expr_part (member e p o q x) = member_part (expr_part e) p o q x
  expr_part (step_after e p o) = step_after_part (expr_part e) p o
  expr_part (step_before p o e) = step_before_part p o (expr_part e)
  expr_part (unary p o e) = unary_part p o (expr_part e)
  expr_part (sizeof_expression p e) = sizeof_part p (expr_part e)
  expr_part (sizeof_type p q t l) = sizeof_type_part p (type_name_part t)
  expr_part (cast p t q e) = cast_part p (type_name_part t) (expr_part e)
  expr_part (binary a p o b) = binary_part (expr_part a) p o (expr_part b)
  expr_part (conditional c p a q b) = conditional_part (expr_part c) p (expr_part a) (expr_part b)
  expr_part (assignment a p o b) = assignment_part (expr_part a) p o (expr_part b)

  pub arguments_part : Arguments → ArgumentsPart
  arguments_part no_arguments = no_argument
  arguments_part (argument xs e p) = add_argument (arguments_part xs) (expr_part e)

  pub type_name_part : TypeName → TypePart
  type_name_part (type_name s a) = type_part (specs_part s) (abstract_part a)

  pub specs_part : Specifiers → SpecifiersPart
  specs_part no_specifiers = no_specifier
  specs_part (storage_class s p w) = add_storage (specs_part s) p w
  specs_part (qualifier s p q) = add_qualifier (specs_part s) p q
  specs_part (inlined s p) = add_inline (specs_part s) p
  specs_part (type_words s ws) = add_words (specs_part s) ws
  specs_part (typedef_name s p x) = add_typedef (specs_part s) p x
  specs_part (composite_reference s p w q x) = add_reference (specs_part s) p w q x
  specs_part (composite s p w t q ms l) = add_composite (before_body (specs_part s) p) p w (tag_tree t) q (members_part ms)
  specs_part (enum_reference s p q x) = add_enum_reference (specs_part s) p q x
  specs_part (enumeration s p t q es e c l) = add_enumeration (before_body (specs_part s) p) p (tag_tree t) q (with_enumerator (enumerators_part es) e)

  pub members_part : Members → MembersPart
  members_part no_members = no_member
  members_part (members ms s ds d p) = add_members (members_part ms) (specs_part s) (add_declarator (declarators_part ds) (decl_part d))

  pub declarators_part : Declarators → DeclaratorsPart
  declarators_part no_declarators = no_declarator_part
  declarators_part (declarators ds d p) = add_declarator (declarators_part ds) (decl_part d)

  pub with_enumerator : EnumeratorsPart → Enumerator → EnumeratorsPart
  with_enumerator es (enumerator p x) = add_enumerator es p x left_out_part
  with_enumerator es (enumerator_value p x q e) = add_enumerator es p x (stated_part (expr_part e))

  pub enumerators_part : Enumerators → EnumeratorsPart
  enumerators_part no_enumerators = no_enumerator
  enumerators_part (enumerators es e p) = with_enumerator (enumerators_part es) e

  pub decl_part : Declarator → DeclaratorPart
  decl_part (declared_name p x) = declared_part p x
  decl_part (pointer p qs d) = pointer_part (qualifiers_list qs) (decl_part d)
  decl_part (parenthesized_declarator p d q) = parenthesized_part (decl_part d)
  decl_part (array d p n q) = array_part (decl_part d) (length_part n)
  decl_part (function d p ps q) = function_part (decl_part d) (parameters_part ps)

  pub length_part : Length → MaybePart
  length_part no_length = left_out_part
  length_part (length_of e) = stated_part (expr_part e)

  pub abstract_part : AbstractDeclarator → AbstractPart
  abstract_part no_declarator = no_abstract
  abstract_part (abstract_pointer p qs a) = abstract_pointer_part (qualifiers_list qs) (abstract_part a)
  abstract_part (parenthesized_abstract p a q) = abstract_parenthesized_part (abstract_part a)
  abstract_part (abstract_array a p n q) = abstract_array_part (abstract_part a) (length_part n)
  abstract_part (abstract_function a p ps q) = abstract_function_part (abstract_part a) (parameters_part ps)

  pub parameters_part : Parameters → ParametersPart
  parameters_part no_parameters = no_parameter
  parameters_part (void_parameter p) = no_parameter
  parameters_part (parameters ps x) = with_parameter (earlier_part ps) x

  pub earlier_part : EarlierParameters → ParametersPart
  earlier_part no_earlier = no_parameter
  earlier_part (earlier ps x p) = with_parameter (earlier_part ps) x

  pub with_parameter : ParametersPart → Parameter → ParametersPart
  with_parameter ps (named_parameter s d) = add_parameter ps (specs_part s) (decl_part d)
  with_parameter ps (unnamed_parameter s a) = add_abstract ps (specs_part s) (abstract_part a)

abbrev pub init_part : Initializer → InitializerPart
init_part no_initializer = no_initializer_part
init_part (initializer p e) = value_part (expr_part e)
init_part (initializer_list p q xs e c l) = list_part q (add_argument (arguments_part xs) (expr_part e))

abbrev pub with_init : InitsPart → InitDeclarator → InitsPart
with_init ds (init_declarator d i) = add_init ds (decl_part d) (init_part i)

abbrev pub inits_part : InitDeclarators → InitsPart
inits_part no_init_declarators = no_inits
inits_part (init_declarators ds d p) = with_init (inits_part ds) d

abbrev pub decl_of : Declaration → DeclarationPart
decl_of (specifiers_alone s p) = declaration_part (specs_part s) no_inits
decl_of (declaration s ds d p) = declaration_part (specs_part s) (with_init (inits_part ds) d)

abbrev pub optional_part : Option Expression → OptionalPart
optional_part None = no_expression
optional_part (Some e) = some_expression (expr_part e)

abbrev pub for_first_part : ForFirst → ForFirstPart
for_first_part (for_nothing p) = nothing_part
for_first_part (for_expression e p) = first_expression_part (expr_part e)
for_first_part (for_declaration d) = first_declaration_part (decl_of d)

abbrev pub label_part : Label → LabelPart
label_part (case_label p e q) = case_part p (expr_part e)
label_part (default_label p q) = default_part p

abbrev pub labels_part : Labels → LabelsPart
labels_part (first_label l) = add_label no_label (label_part l)
labels_part (next_label ls l) = add_label (labels_part ls) (label_part l)

abbrev mutual
  pub stmt_part : Statement → StatementPart
  stmt_part (block p is q) = block_part p (items_part is)
  stmt_part (empty_statement p) = empty_part p
  stmt_part (expression_statement e p) = expression_part (expr_part e)
  stmt_part (if_statement p q e l s) = if_part p (expr_part e) (stmt_part s)
  stmt_part (if_else p q e l a m b) = if_else_part p (expr_part e) (stmt_part a) (stmt_part b)
  stmt_part (while_statement p q e l s) = while_part p (expr_part e) (stmt_part s)
  stmt_part (do_statement p s w q e l m) = do_part p (stmt_part s) (expr_part e)
  stmt_part (for_statement p q f c m u l s) = for_part p (for_first_part f) (optional_part c) (optional_part u) (stmt_part s)
  stmt_part (switch_statement p q e l m gs n) = switch_part p (expr_part e) (groups_part gs)
  stmt_part (jump_statement p j q) = jump_part p j
  stmt_part (return_statement p e q) = return_part p (optional_part e)

  pub items_part : Items → ItemsPart
  items_part no_items = no_item
  items_part (declaration_item is d) = add_declaration (items_part is) (decl_of d)
  items_part (statement_item is s) = add_statement (items_part is) (stmt_part s)

  pub groups_part : Groups → GroupsPart
  groups_part no_groups = no_group
  groups_part (group gs ls is) = add_group (groups_part gs) (labels_part ls) (items_part is)

abbrev pub file_part : File → FilePart
file_part empty_file = no_file
file_part (external_declaration f d) = add_external_declaration (file_part f) (decl_of d)
file_part (function_definition f s d p is q) = add_function (file_part f) (specs_part s) (decl_part d) p (items_part is)

-- ## Contexts

abbrev mutual
  pub statement_stack : StatementContext → Stack
  statement_stack (then_of p q e l k) = push (then_frame p (expr_part e)) (statement_stack k)
  statement_stack (else_of p q e l a m k) = push (else_frame p (expr_part e) (stmt_part a)) (statement_stack k)
  statement_stack (while_body p q e l k) = push (while_body_frame p (expr_part e)) (statement_stack k)
  statement_stack (do_body p k) = push (do_body_frame p) (statement_stack k)
  statement_stack (for_body p q f c m u l k) = push (for_body_frame p (for_first_part f) (optional_part c) (optional_part u)) (statement_stack k)
  statement_stack (item_of is k) = items_stack (items_part is) k

  -- with the items so far
  pub items_stack : ItemsPart → ItemsContext → Stack
  items_stack is (block_of p k) = push (block_frame p is) (statement_stack k)
  items_stack is (function_body f s d p) = push (function_frame (specs_part s) (decl_part d) p is) (bottom (file_part f))
  items_stack is (group_of gs ls k) = push (group_frame (groups_part gs) (labels_part ls) is) (groups_stack k)

  pub groups_stack : GroupsContext → Stack
  groups_stack (switch_of p q e l m k) = push (groups_frame p (expr_part e)) (statement_stack k)

abbrev pub label_stack : LabelContext → Stack
label_stack (new_group gs k) = push (label_frame (groups_part gs) no_label) (groups_stack k)
label_stack (another_label gs ls k) = push (label_frame (groups_part gs) (labels_part ls)) (groups_stack k)

abbrev pub declaration_stack : DeclarationContext → Stack
declaration_stack (in_file f) = bottom (file_part f)
declaration_stack (in_items is k) = items_stack (items_part is) k
declaration_stack (in_for_head p q k) = push (for_head_frame p) (statement_stack k)

abbrev pub initializer_stack : InitializerContext → Stack
initializer_stack (initializer_of s ds d p k) = push (initializer_frame (specs_part s) (inits_part ds) (decl_part d)) (declaration_stack k)

abbrev pub statement_hole_stack : StatementHole → Stack
statement_hole_stack (of_statement k) = push expression_frame (statement_stack k)
statement_hole_stack (of_return p k) = push (return_frame p) (statement_stack k)
statement_hole_stack (of_if p q k) = push (if_frame p) (statement_stack k)
statement_hole_stack (of_while p q k) = push (while_frame p) (statement_stack k)
statement_hole_stack (of_do p s w q k) = push (do_frame p (stmt_part s)) (statement_stack k)
statement_hole_stack (of_switch p q k) = push (switch_frame p) (statement_stack k)
statement_hole_stack (of_for_first p q k) = push (for_first_frame p) (statement_stack k)
statement_hole_stack (of_for_test p q f k) = push (for_test_frame p (for_first_part f)) (statement_stack k)
statement_hole_stack (of_for_step p q f c m k) = push (for_step_frame p (for_first_part f) (optional_part c)) (statement_stack k)
statement_hole_stack (of_case k p) = push (case_frame p) (label_stack k)
statement_hole_stack (of_initializer k) = initializer_stack k
statement_hole_stack (of_list k p xs) = push (list_frame p (arguments_part xs)) (initializer_stack k)

abbrev pub operand_frame : before.Frame → Frame
operand_frame (before.step_frame p o) = step_frame p o
operand_frame (before.unary_frame p o) = unary_frame p o
operand_frame (before.sizeof_frame p) = sizeof_frame p
operand_frame (before.cast_frame p t q) = cast_frame p (type_name_part t)
operand_frame (before.binary_frame a p o) = binary_frame (expr_part a) p o
operand_frame (before.conditional_frame c p a q) = conditional_frame (expr_part c) p (expr_part a)
operand_frame (before.assignment_frame a p o) = assignment_frame (expr_part a) p o

abbrev pub chain_stack : Chain → Stack → Stack
chain_stack top k = k
chain_stack (starred p qs c) k = push (star_frame (qualifiers_list qs)) (chain_stack c k)
chain_stack (opened p c) k = push open_frame (chain_stack c k)

abbrev mutual
  pub expression_stack : ExpressionContext → Stack
  expression_stack (operand f k) = push (operand_frame f) (expression_stack k)
  expression_stack (whole h) = hole_stack h

  pub hole_stack : Hole → Stack
  hole_stack (in_parentheses p k) = push (parentheses_frame p) (expression_stack k)
  hole_stack (in_index e p k) = push (index_frame (expr_part e) p) (expression_stack k)
  hole_stack (in_argument f p xs k) = push (argument_frame (expr_part f) p (arguments_part xs)) (expression_stack k)
  hole_stack (in_middle c p k) = push (middle_frame (expr_part c) p) (expression_stack k)
  hole_stack (in_length k p) = length_stack k
  hole_stack (in_enumerator es p x q k) = push (enumerator_frame (enumerators_part es) p x) (enum_stack k)
  hole_stack (in_statement h) = statement_hole_stack h

  pub length_stack : Suffixed → Stack
  length_stack (of_declarator d c k) = push (length_frame (suffixed (decl_part d))) (chain_stack c (declarator_stack k))
  length_stack (of_abstract a c k) = push (length_frame (suffixed_abstract (abstract_part a))) (chain_stack c (abstract_stack k))

  pub parameters_stack : Suffixed → Stack
  parameters_stack (of_declarator d c k) = push (parameters_frame (suffixed (decl_part d))) (chain_stack c (declarator_stack k))
  parameters_stack (of_abstract a c k) = push (parameters_frame (suffixed_abstract (abstract_part a))) (chain_stack c (abstract_stack k))

  pub specifiers_stack : SpecifiersContext → Stack
  specifiers_stack (in_declaration k) = declaration_stack k
  specifiers_stack (in_member ms k) = composite_stack (members_part ms) k
  specifiers_stack (in_parameter ps k p) = push (parameter_frame (earlier_part ps)) (parameters_stack k)
  specifiers_stack (in_type_name k) = type_name_stack k

  pub type_name_stack : TypeNameContext → Stack
  type_name_stack (in_cast p k) = push (cast_type_frame p) (expression_stack k)
  type_name_stack (in_sizeof p q k) = push (sizeof_type_frame p) (expression_stack k)

  -- with the members so far
  pub composite_stack : MembersPart → CompositeContext → Stack
  composite_stack ms (in_composite s p w t q k) = push (members_frame (before_body (specs_part s) p) p w (tag_tree t) q ms) (specifiers_stack k)

  pub enum_stack : EnumContext → Stack
  enum_stack (in_enumeration s p t q k) = push (enum_frame (before_body (specs_part s) p) p (tag_tree t) q) (specifiers_stack k)

  pub declarator_stack : DeclaratorContext → Stack
  declarator_stack (init_context s ds k) = push (init_frame (specs_part s) (inits_part ds)) (declaration_stack k)
  declarator_stack (member_context ms s ds k) = push (member_frame (specs_part s) (declarators_part ds)) (composite_stack (members_part ms) k)
  declarator_stack (parameter_context ps s k p) = push (parameter_of_frame (specs_part s)) (push (parameter_frame (earlier_part ps)) (parameters_stack k))

  pub abstract_stack : AbstractContext → Stack
  abstract_stack (parameter_abstract ps s k p) = push (parameter_of_frame (specs_part s)) (push (parameter_frame (earlier_part ps)) (parameters_stack k))
  abstract_stack (type_name_abstract s k) = push (type_name_frame (specs_part s)) (type_name_stack k)

-- ## States

abbrev pub reader_of : State → Reader
reader_of (at_file f) = made mode.in_file (bottom (file_part f)) (file_names f)
reader_of (at_items is k) = made mode.in_items (items_stack (items_part is) k) (items_names is (items_context_names k))
reader_of (at_statement k) = made mode.in_statement (statement_stack k) (statement_context_names k)
reader_of (after_statement s k) = made (mode.after_statement (stmt_part s)) (statement_stack k) (statement_names s (statement_context_names k))
reader_of (at_labels k) = made mode.in_labels (groups_stack k) (groups_context_names k)
reader_of (after_default k p) = made (mode.after_default p) (label_stack k) (label_context_names k)
reader_of (at_condition h p k) = made (mode.in_condition h p) (statement_stack k) (statement_context_names k)
reader_of (at_do_condition p s w k) = made (mode.in_do_condition p (stmt_part s)) (statement_stack k) (statement_names s (statement_context_names k))
reader_of (after_do p s w q e l k) = made (mode.after_do p (stmt_part s) (expr_part e)) (statement_stack k) (statement_names s (statement_context_names k))
reader_of (at_for p k) = made (mode.in_for p) (statement_stack k) (statement_context_names k)
reader_of (at_for_first p q k) = made (mode.in_for_first p) (statement_stack k) (statement_context_names k)
reader_of (at_for_test p q f k) = made (mode.in_for_test p (for_first_part f)) (statement_stack k) (for_first_names f (statement_context_names k))
reader_of (at_for_step p q f c m k) = made (mode.in_for_step p (for_first_part f) (optional_part c)) (statement_stack k) (for_first_names f (statement_context_names k))
reader_of (at_switch_body p q e l k) = made (mode.in_switch_body p (expr_part e)) (statement_stack k) (statement_context_names k)
reader_of (at_jump p j k) = made (mode.in_jump p j) (statement_stack k) (statement_context_names k)
reader_of (at_return p k) = made (mode.in_return p) (statement_stack k) (statement_context_names k)
reader_of (at_initializer k) = made mode.in_initializer (initializer_stack k) (initializer_context_names k)
reader_of (at_list_comma k p xs e q) = made (mode.after_list_comma (expr_part e)) (push (list_frame p (arguments_part xs)) (initializer_stack k)) (initializer_context_names k)
reader_of (after_list k p xs e c l) = made (mode.after_list p (add_argument (arguments_part xs) (expr_part e))) (initializer_stack k) (initializer_context_names k)
reader_of (at_specifiers s k) = made (mode.in_specifiers (specs_part s)) (specifiers_stack k) (specifiers_context_names k)
reader_of (at_composite s p w k) = made (mode.in_composite (specs_part s) p w) (specifiers_stack k) (specifiers_context_names k)
reader_of (at_enum s p k) = made (mode.in_enum (specs_part s) p) (specifiers_stack k) (specifiers_context_names k)
reader_of (at_members ms k) = made mode.in_members (composite_stack (members_part ms) k) (composite_context_names k)
reader_of (at_enumerator k) = made mode.in_enumerator (enum_stack k) (enum_context_names k)
reader_of (after_enumerator es p x k) = made (mode.after_enumerator (enumerators_part es) p x) (enum_stack k) (enum_context_names k)
reader_of (after_enumerator_comma es e p k) = made (mode.after_enumerator_comma (with_enumerator (enumerators_part es) e)) (enum_stack k) (enum_context_names k)
reader_of (at_declarator c k) = made mode.in_declarator (chain_stack c (declarator_stack k)) (declarator_context_names k)
reader_of (after_declarator d c k) = made (mode.after_declarator (decl_part d)) (chain_stack c (declarator_stack k)) (declarator_context_names k)
reader_of (at_abstract c k) = made mode.in_abstract (chain_stack c (abstract_stack k)) (abstract_context_names k)
reader_of (at_opened c p k) = made mode.in_opened (chain_stack c (abstract_stack k)) (abstract_context_names k)
reader_of (after_abstract a c k) = made (mode.after_abstract (abstract_part a)) (chain_stack c (abstract_stack k)) (abstract_context_names k)
reader_of (at_length k p) = made mode.in_length (length_stack k) (suffixed_names k)
reader_of (at_parameters k p) = made mode.in_parameters (parameters_stack k) (suffixed_names k)
reader_of (at_expression k) = made mode.in_expression (expression_stack k) (expression_context_names k)
reader_of (after_postfix e k) = made (mode.after_postfix (expr_part e)) (expression_stack k) (expression_context_names k)
reader_of (after_sizeof e k) = made (mode.after_sizeof (expr_part e)) (expression_stack k) (expression_context_names k)
reader_of (at_open p k) = made (mode.in_open p) (expression_stack k) (expression_context_names k)
reader_of (at_sizeof p k) = made (mode.in_sizeof p) (expression_stack k) (expression_context_names k)
reader_of (at_sizeof_open p q k) = made (mode.in_sizeof_open p q) (expression_stack k) (expression_context_names k)
reader_of (at_arguments f p k) = made (mode.in_arguments (expr_part f) p) (expression_stack k) (expression_context_names k)
reader_of (at_access e p o k) = made (mode.in_access (expr_part e) p o) (expression_stack k) (expression_context_names k)

abbrev pub coded : Option State → Option Reader
coded None = None
coded (Some s) = Some (reader_of s)
