-- The tree of a derivation: parentheses are no node, an empty parameter list is one with or without `void`, and a comma behind the last item says nothing.
use Rattle.std.specs.Prelude.{List, [], ◌∷◌, Option, Some, None}
use Rattle.c_grammar.specs.Tokens.{Place, Qualifier, TypeWord}
use Rattle.c_grammar.specs.Derivations.{Qualifiers, no_qualifiers, qualified, TypeWords, first_word, next_word, Tag, no_tag, tag, Expression, identifier, constant, parenthesized, index, call_without, call, member, step_after, step_before, unary, sizeof_expression, sizeof_type, cast, binary, conditional, assignment, Arguments, no_arguments, argument, TypeName, type_name, Specifiers, no_specifiers, storage_class, qualifier, inlined, type_words, typedef_name, composite_reference, composite, enum_reference, enumeration, Members, no_members, members, Declarators, no_declarators, declarators, Enumerator, enumerator, enumerator_value, Enumerators, no_enumerators, enumerators, Declarator, declared_name, pointer, parenthesized_declarator, array, function, Length, no_length, length_of, AbstractDeclarator, no_declarator, abstract_pointer, parenthesized_abstract, abstract_array, abstract_function, Parameters, no_parameters, void_parameter, parameters, EarlierParameters, no_earlier, earlier, Parameter, named_parameter, unnamed_parameter, Initializer, no_initializer, initializer, initializer_list, InitDeclarator, init_declarator, InitDeclarators, no_init_declarators, init_declarators, Declaration, specifiers_alone, declaration, ForFirst, for_nothing, for_expression, for_declaration, Label, case_label, default_label, Labels, first_label, next_label, Statement, block, empty_statement, expression_statement, if_statement, if_else, while_statement, do_statement, for_statement, switch_statement, jump_statement, return_statement, Items, no_items, declaration_item, statement_item, Groups, no_groups, group, File, empty_file, external_declaration, function_definition}
use Rattle.c_tree.specs.Trees.{TagTree, untagged, tagged, ExprTree, name_expr, constant_expr, index_expr, call_expr, member_expr, step_after_expr, step_before_expr, unary_expr, sizeof_expr, sizeof_type_expr, cast_expr, binary_expr, cond_expr, assign_expr, ExprTrees, no_exprs, exprs, MaybeTree, left_out, stated, TypeTree, type_tree, storage_specifier, qualifier_specifier, inline_specifier, words_specifier, typedef_specifier, reference_specifier, composite_specifier, enum_reference_specifier, enum_specifier, SpecifierTrees, no_specs, specs, MemberTrees, no_member_trees, member_trees, EnumeratorTrees, no_enumerator_trees, enumerator_trees, DeclaratorTree, unnamed, named, pointer_to, array_of, function_of, DeclaratorTrees, no_declarator_trees, declarator_trees, ParameterTrees, no_parameter_trees, parameter_trees, InitializerTree, no_init, value_init, list_init, InitDeclaratorTree, init_tree, DeclTree, decl_tree, ForFirstTree, first_nothing, first_expr, first_decl, LabelTree, case_tree, default_tree, StmtTree, block_stmt, empty_stmt, expr_stmt, if_stmt, if_else_stmt, while_stmt, do_stmt, for_stmt, switch_stmt, jump_stmt, return_stmt, ItemTrees, no_item_trees, decl_item, stmt_item, GroupTrees, no_group_trees, group_trees, decl_external, function_external, FileTree}

-- ## The place of the first token

abbrev pub expression_start : Expression → Place
expression_start (identifier p x) = p
expression_start (constant p n) = p
expression_start (parenthesized p e q) = p
expression_start (index e p i q) = expression_start e
expression_start (call_without f p q) = expression_start f
expression_start (call f p xs e q) = expression_start f
expression_start (member e p o q x) = expression_start e
expression_start (step_after e p o) = expression_start e
expression_start (step_before p o e) = p
expression_start (unary p o e) = p
expression_start (sizeof_expression p e) = p
expression_start (sizeof_type p q t l) = p
expression_start (cast p t q e) = p
expression_start (binary a p o b) = expression_start a
expression_start (conditional c p a q b) = expression_start c
expression_start (assignment a p o b) = expression_start a

abbrev pub words_start : TypeWords → Place
words_start (first_word p w) = p
words_start (next_word ws p w) = words_start ws

-- where specifiers begin, with the place of what follows them
abbrev pub specifiers_start : Specifiers → Place → Place
specifiers_start no_specifiers r = r
specifiers_start (storage_class s p w) r = specifiers_start s p
specifiers_start (qualifier s p q) r = specifiers_start s p
specifiers_start (inlined s p) r = specifiers_start s p
specifiers_start (type_words s ws) r = specifiers_start s (words_start ws)
specifiers_start (typedef_name s p x) r = specifiers_start s p
specifiers_start (composite_reference s p w q x) r = specifiers_start s p
specifiers_start (composite s p w t q ms l) r = specifiers_start s p
specifiers_start (enum_reference s p q x) r = specifiers_start s p
specifiers_start (enumeration s p t q es e c l) r = specifiers_start s p

-- of specifiers of the grammar, which are not empty
abbrev pub start_of : Specifiers → Place
start_of s = specifiers_start s 0

-- ## The parts, in order

abbrev pub qualifiers_onto : Qualifiers → List Qualifier → List Qualifier
qualifiers_onto no_qualifiers r = r
qualifiers_onto (qualified qs p q) r = qualifiers_onto qs (q ∷ r)

abbrev pub words_onto : TypeWords → List TypeWord → List TypeWord
words_onto (first_word p w) r = w ∷ r
words_onto (next_word ws p w) r = words_onto ws (w ∷ r)

abbrev pub tag_tree : Tag → TagTree
tag_tree no_tag = untagged
tag_tree (tag p x) = tagged p x

abbrev mutual
  pub expression_tree : Expression → ExprTree
  expression_tree (identifier p x) = name_expr p x
  expression_tree (constant p n) = constant_expr p n
  expression_tree (parenthesized p e q) = expression_tree e
  expression_tree (index e p i q) = index_expr (expression_start e) p (expression_tree e) (expression_tree i)
  expression_tree (call_without f p q) = call_expr (expression_start f) p (expression_tree f) no_exprs
  expression_tree (call f p xs e q) = call_expr (expression_start f) p (expression_tree f) (arguments_onto xs (exprs (expression_tree e) no_exprs))
  expression_tree (member e p o q x) = member_expr (expression_start e) p (expression_tree e) o q x
  expression_tree (step_after e p o) = step_after_expr (expression_start e) p (expression_tree e) o
  expression_tree (step_before p o e) = step_before_expr p o (expression_tree e)
  expression_tree (unary p o e) = unary_expr p o (expression_tree e)
  expression_tree (sizeof_expression p e) = sizeof_expr p (expression_tree e)
  expression_tree (sizeof_type p q t l) = sizeof_type_expr p (type_name_tree t)
  expression_tree (cast p t q e) = cast_expr p (type_name_tree t) (expression_tree e)
  expression_tree (binary a p o b) = binary_expr (expression_start a) p o (expression_tree a) (expression_tree b)
  expression_tree (conditional c p a q b) = cond_expr (expression_start c) p (expression_tree c) (expression_tree a) (expression_tree b)
  expression_tree (assignment a p o b) = assign_expr (expression_start a) p o (expression_tree a) (expression_tree b)

  pub arguments_onto : Arguments → ExprTrees → ExprTrees
  arguments_onto no_arguments r = r
  arguments_onto (argument xs e p) r = arguments_onto xs (exprs (expression_tree e) r)

  pub type_name_tree : TypeName → TypeTree
  type_name_tree (type_name s a) = type_tree (start_of s) (specifiers_onto s no_specs) (abstract_tree a)

  pub specifiers_onto : Specifiers → SpecifierTrees → SpecifierTrees
  specifiers_onto no_specifiers r = r
  specifiers_onto (storage_class s p w) r = specifiers_onto s (specs (storage_specifier p w) r)
  specifiers_onto (qualifier s p q) r = specifiers_onto s (specs (qualifier_specifier p q) r)
  specifiers_onto (inlined s p) r = specifiers_onto s (specs (inline_specifier p) r)
  specifiers_onto (type_words s ws) r = specifiers_onto s (specs (words_specifier (words_start ws) (words_onto ws [])) r)
  specifiers_onto (typedef_name s p x) r = specifiers_onto s (specs (typedef_specifier p x) r)
  specifiers_onto (composite_reference s p w q x) r = specifiers_onto s (specs (reference_specifier p w q x) r)
  specifiers_onto (composite s p w t q ms l) r = specifiers_onto s (specs (composite_specifier p w (tag_tree t) q (members_onto ms no_member_trees)) r)
  specifiers_onto (enum_reference s p q x) r = specifiers_onto s (specs (enum_reference_specifier p q x) r)
  specifiers_onto (enumeration s p t q es e c l) r =
      specifiers_onto s (specs (enum_specifier p (tag_tree t) q (enumerators_onto es (enumerator_onto e no_enumerator_trees))) r)

  pub members_onto : Members → MemberTrees → MemberTrees
  members_onto no_members r = r
  members_onto (members ms s ds d p) r =
      members_onto ms (member_trees (start_of s) (specifiers_onto s no_specs) (declarators_onto ds (declarator_trees (declarator_tree d) no_declarator_trees)) r)

  pub declarators_onto : Declarators → DeclaratorTrees → DeclaratorTrees
  declarators_onto no_declarators r = r
  declarators_onto (declarators ds d p) r = declarators_onto ds (declarator_trees (declarator_tree d) r)

  pub enumerator_onto : Enumerator → EnumeratorTrees → EnumeratorTrees
  enumerator_onto (enumerator p x) r = enumerator_trees p x left_out r
  enumerator_onto (enumerator_value p x q e) r = enumerator_trees p x (stated (expression_tree e)) r

  pub enumerators_onto : Enumerators → EnumeratorTrees → EnumeratorTrees
  enumerators_onto no_enumerators r = r
  enumerators_onto (enumerators es e p) r = enumerators_onto es (enumerator_onto e r)

  pub declarator_tree : Declarator → DeclaratorTree
  declarator_tree (declared_name p x) = named p x
  declarator_tree (pointer p qs d) = pointer_to (qualifiers_onto qs []) (declarator_tree d)
  declarator_tree (parenthesized_declarator p d q) = declarator_tree d
  declarator_tree (array d p n q) = array_of (declarator_tree d) (length_tree n)
  declarator_tree (function d p ps q) = function_of (declarator_tree d) (parameters_tree ps)

  pub length_tree : Length → MaybeTree
  length_tree no_length = left_out
  length_tree (length_of e) = stated (expression_tree e)

  pub abstract_tree : AbstractDeclarator → DeclaratorTree
  abstract_tree no_declarator = unnamed
  abstract_tree (abstract_pointer p qs a) = pointer_to (qualifiers_onto qs []) (abstract_tree a)
  abstract_tree (parenthesized_abstract p a q) = abstract_tree a
  abstract_tree (abstract_array a p n q) = array_of (abstract_tree a) (length_tree n)
  abstract_tree (abstract_function a p ps q) = function_of (abstract_tree a) (parameters_tree ps)

  pub parameters_tree : Parameters → ParameterTrees
  parameters_tree no_parameters = no_parameter_trees
  parameters_tree (void_parameter p) = no_parameter_trees
  parameters_tree (parameters ps x) = earlier_onto ps (parameter_onto x no_parameter_trees)

  pub earlier_onto : EarlierParameters → ParameterTrees → ParameterTrees
  earlier_onto no_earlier r = r
  earlier_onto (earlier ps x p) r = earlier_onto ps (parameter_onto x r)

  pub parameter_onto : Parameter → ParameterTrees → ParameterTrees
  parameter_onto (named_parameter s d) r = parameter_trees (start_of s) (specifiers_onto s no_specs) (declarator_tree d) r
  parameter_onto (unnamed_parameter s a) r = parameter_trees (start_of s) (specifiers_onto s no_specs) (abstract_tree a) r

-- ## Declarations

abbrev pub initializer_tree : Initializer → InitializerTree
initializer_tree no_initializer = no_init
initializer_tree (initializer p e) = value_init (expression_tree e)
initializer_tree (initializer_list p q xs e c l) = list_init q (arguments_onto xs (exprs (expression_tree e) no_exprs))

abbrev pub init_declarator_tree : InitDeclarator → InitDeclaratorTree
init_declarator_tree (init_declarator d i) = init_tree (declarator_tree d) (initializer_tree i)

abbrev pub init_declarators_onto : InitDeclarators → List InitDeclaratorTree → List InitDeclaratorTree
init_declarators_onto no_init_declarators r = r
init_declarators_onto (init_declarators ds d p) r = init_declarators_onto ds (init_declarator_tree d ∷ r)

abbrev pub declaration_tree : Declaration → DeclTree
declaration_tree (specifiers_alone s p) = decl_tree (start_of s) (specifiers_onto s no_specs) []
declaration_tree (declaration s ds d p) = decl_tree (start_of s) (specifiers_onto s no_specs) (init_declarators_onto ds (init_declarator_tree d ∷ []))

-- ## Statements

abbrev pub optional_tree : Option Expression → Option ExprTree
optional_tree None = None
optional_tree (Some e) = Some (expression_tree e)

abbrev pub for_first_tree : ForFirst → ForFirstTree
for_first_tree (for_nothing p) = first_nothing
for_first_tree (for_expression e p) = first_expr (expression_tree e)
for_first_tree (for_declaration d) = first_decl (declaration_tree d)

abbrev pub label_tree : Label → LabelTree
label_tree (case_label p e q) = case_tree p (expression_tree e)
label_tree (default_label p q) = default_tree p

abbrev pub labels_onto : Labels → List LabelTree → List LabelTree
labels_onto (first_label l) r = label_tree l ∷ r
labels_onto (next_label ls l) r = labels_onto ls (label_tree l ∷ r)

abbrev mutual
  pub statement_tree : Statement → StmtTree
  statement_tree (block p is q) = block_stmt p (items_onto is no_item_trees)
  statement_tree (empty_statement p) = empty_stmt p
  statement_tree (expression_statement e p) = expr_stmt (expression_start e) (expression_tree e)
  statement_tree (if_statement p q e l s) = if_stmt p (expression_tree e) (statement_tree s)
  statement_tree (if_else p q e l a m b) = if_else_stmt p (expression_tree e) (statement_tree a) (statement_tree b)
  statement_tree (while_statement p q e l s) = while_stmt p (expression_tree e) (statement_tree s)
  statement_tree (do_statement p s w q e l m) = do_stmt p (statement_tree s) (expression_tree e)
  statement_tree (for_statement p q f c m u l s) = for_stmt p (for_first_tree f) (optional_tree c) (optional_tree u) (statement_tree s)
  statement_tree (switch_statement p q e l m gs n) = switch_stmt p (expression_tree e) (groups_onto gs no_group_trees)
  statement_tree (jump_statement p j q) = jump_stmt p j
  statement_tree (return_statement p e q) = return_stmt p (optional_tree e)

  pub items_onto : Items → ItemTrees → ItemTrees
  items_onto no_items r = r
  items_onto (declaration_item is d) r = items_onto is (decl_item (declaration_tree d) r)
  items_onto (statement_item is s) r = items_onto is (stmt_item (statement_tree s) r)

  pub groups_onto : Groups → GroupTrees → GroupTrees
  groups_onto no_groups r = r
  groups_onto (group gs ls is) r = groups_onto gs (group_trees (labels_onto ls []) (items_onto is no_item_trees) r)

-- ## Files

abbrev pub file_onto : File → FileTree → FileTree
file_onto empty_file r = r
file_onto (external_declaration f d) r = file_onto f (decl_external (declaration_tree d) ∷ r)
file_onto (function_definition f s d p is q) r =
    file_onto f (function_external (start_of s) (specifiers_onto s no_specs) (declarator_tree d) p (items_onto is no_item_trees) ∷ r)

-- the tree of a file's derivation
abbrev pub file_tree : File → FileTree
file_tree f = file_onto f []
