-- The nodes of a part of a C file: its statements, its expressions (each operator, call, member, index, cast, sizeof, name and constant, also those that stand in types) and its declared locals; parentheses and types are no nodes. And the labels of each switch. (The unit of the limits of a file; a rule of this project.)
use Rattle.std.specs.Prelude.{ℕ, ◌+◌, List, [], ◌∷◌, length, max, Option, Some, None}
use Rattle.c_tree.specs.Trees.{ExprTree, name_expr, constant_expr, index_expr, call_expr, member_expr, step_after_expr, step_before_expr, unary_expr, sizeof_expr, sizeof_type_expr, cast_expr, binary_expr, cond_expr, assign_expr, ExprTrees, no_exprs, exprs, MaybeTree, left_out, stated, TypeTree, type_tree, SpecifierTree, storage_specifier, qualifier_specifier, inline_specifier, words_specifier, typedef_specifier, reference_specifier, composite_specifier, enum_reference_specifier, enum_specifier, SpecifierTrees, no_specs, specs, MemberTrees, no_member_trees, member_trees, EnumeratorTrees, no_enumerator_trees, enumerator_trees, DeclaratorTree, unnamed, named, pointer_to, array_of, function_of, DeclaratorTrees, no_declarator_trees, declarator_trees, ParameterTrees, no_parameter_trees, parameter_trees, InitializerTree, no_init, value_init, list_init, InitDeclaratorTree, init_tree, DeclTree, decl_tree, ForFirstTree, first_nothing, first_expr, first_decl, LabelTree, case_tree, default_tree, StmtTree, block_stmt, empty_stmt, expr_stmt, if_stmt, if_else_stmt, while_stmt, do_stmt, for_stmt, switch_stmt, jump_stmt, return_stmt, ItemTrees, no_item_trees, decl_item, stmt_item, GroupTrees, no_group_trees, group_trees}

abbrev mutual
  pub expr_nodes : ExprTree → ℕ
  expr_nodes (name_expr at name) = 1
  expr_nodes (constant_expr at n) = 1
  expr_nodes (index_expr at op_at a b) = 1 + (expr_nodes a + expr_nodes b)
  expr_nodes (call_expr at op_at f xs) = 1 + (expr_nodes f + exprs_nodes xs)
  expr_nodes (member_expr at op_at e access name_at name) = 1 + expr_nodes e
  expr_nodes (step_after_expr at op_at e step) = 1 + expr_nodes e
  expr_nodes (step_before_expr at step e) = 1 + expr_nodes e
  expr_nodes (unary_expr at o e) = 1 + expr_nodes e
  expr_nodes (sizeof_expr at e) = 1 + expr_nodes e
  expr_nodes (sizeof_type_expr at t) = 1 + type_nodes t
  expr_nodes (cast_expr at t e) = 1 + (type_nodes t + expr_nodes e)
  expr_nodes (binary_expr at op_at o a b) = 1 + (expr_nodes a + expr_nodes b)
  expr_nodes (cond_expr at op_at c a b) = 1 + (expr_nodes c + (expr_nodes a + expr_nodes b))
  expr_nodes (assign_expr at op_at o a b) = 1 + (expr_nodes a + expr_nodes b)

  pub exprs_nodes : ExprTrees → ℕ
  exprs_nodes no_exprs = 0
  exprs_nodes (exprs e es) = expr_nodes e + exprs_nodes es

  pub maybe_nodes : MaybeTree → ℕ
  maybe_nodes left_out = 0
  maybe_nodes (stated e) = expr_nodes e

  pub type_nodes : TypeTree → ℕ
  type_nodes (type_tree at ss d) = specifiers_nodes ss + declarator_nodes d

  pub specifier_nodes : SpecifierTree → ℕ
  specifier_nodes (storage_specifier at w) = 0
  specifier_nodes (qualifier_specifier at q) = 0
  specifier_nodes (inline_specifier at) = 0
  specifier_nodes (words_specifier at ws) = 0
  specifier_nodes (typedef_specifier at name) = 0
  specifier_nodes (reference_specifier at w tag_at name) = 0
  specifier_nodes (composite_specifier at w tag body_at ms) = members_nodes ms
  specifier_nodes (enum_reference_specifier at tag_at name) = 0
  specifier_nodes (enum_specifier at tag body_at es) = enumerators_nodes es

  pub specifiers_nodes : SpecifierTrees → ℕ
  specifiers_nodes no_specs = 0
  specifiers_nodes (specs x xs) = specifier_nodes x + specifiers_nodes xs

  pub members_nodes : MemberTrees → ℕ
  members_nodes no_member_trees = 0
  members_nodes (member_trees at ss ds ms) = specifiers_nodes ss + (declarators_nodes ds + members_nodes ms)

  pub enumerators_nodes : EnumeratorTrees → ℕ
  enumerators_nodes no_enumerator_trees = 0
  enumerators_nodes (enumerator_trees at name x es) = maybe_nodes x + enumerators_nodes es

  pub declarator_nodes : DeclaratorTree → ℕ
  declarator_nodes unnamed = 0
  declarator_nodes (named at name) = 0
  declarator_nodes (pointer_to qs d) = declarator_nodes d
  declarator_nodes (array_of d n) = declarator_nodes d + maybe_nodes n
  declarator_nodes (function_of d ps) = declarator_nodes d + parameters_nodes ps

  pub declarators_nodes : DeclaratorTrees → ℕ
  declarators_nodes no_declarator_trees = 0
  declarators_nodes (declarator_trees d ds) = declarator_nodes d + declarators_nodes ds

  pub parameters_nodes : ParameterTrees → ℕ
  parameters_nodes no_parameter_trees = 0
  parameters_nodes (parameter_trees at ss d ps) = specifiers_nodes ss + (declarator_nodes d + parameters_nodes ps)

abbrev pub initializer_nodes : InitializerTree → ℕ
initializer_nodes no_init = 0
initializer_nodes (value_init e) = expr_nodes e
initializer_nodes (list_init at es) = exprs_nodes es

abbrev pub inits_nodes : List InitDeclaratorTree → ℕ
inits_nodes [] = 0
inits_nodes (init_tree d x ∷ ds) = declarator_nodes d + (initializer_nodes x + inits_nodes ds)

abbrev pub decl_nodes : DeclTree → ℕ
decl_nodes (decl_tree at ss ds) = specifiers_nodes ss + inits_nodes ds

-- a declaration in a block counts its locals too
abbrev pub local_nodes : DeclTree → ℕ
local_nodes (decl_tree at ss ds) = length ds + (specifiers_nodes ss + inits_nodes ds)

abbrev pub optional_nodes : Option ExprTree → ℕ
optional_nodes None = 0
optional_nodes (Some e) = expr_nodes e

abbrev pub first_nodes : ForFirstTree → ℕ
first_nodes first_nothing = 0
first_nodes (first_expr e) = expr_nodes e
first_nodes (first_decl d) = local_nodes d

abbrev pub labels_nodes : List LabelTree → ℕ
labels_nodes [] = 0
labels_nodes (case_tree at e ∷ ls) = expr_nodes e + labels_nodes ls
labels_nodes (default_tree at ∷ ls) = labels_nodes ls

abbrev mutual
  pub stmt_nodes : StmtTree → ℕ
  stmt_nodes (block_stmt at is) = 1 + items_nodes is
  stmt_nodes (empty_stmt at) = 1
  stmt_nodes (expr_stmt at e) = 1 + expr_nodes e
  stmt_nodes (if_stmt at e x) = 1 + (expr_nodes e + stmt_nodes x)
  stmt_nodes (if_else_stmt at e x y) = 1 + (expr_nodes e + (stmt_nodes x + stmt_nodes y))
  stmt_nodes (while_stmt at e x) = 1 + (expr_nodes e + stmt_nodes x)
  stmt_nodes (do_stmt at x e) = 1 + (stmt_nodes x + expr_nodes e)
  stmt_nodes (for_stmt at f c u x) = 1 + (first_nodes f + (optional_nodes c + (optional_nodes u + stmt_nodes x)))
  stmt_nodes (switch_stmt at e gs) = 1 + (expr_nodes e + groups_nodes gs)
  stmt_nodes (jump_stmt at j) = 1
  stmt_nodes (return_stmt at e) = 1 + optional_nodes e

  pub items_nodes : ItemTrees → ℕ
  items_nodes no_item_trees = 0
  items_nodes (decl_item d is) = local_nodes d + items_nodes is
  items_nodes (stmt_item x is) = stmt_nodes x + items_nodes is

  pub groups_nodes : GroupTrees → ℕ
  groups_nodes no_group_trees = 0
  groups_nodes (group_trees ls is gs) = labels_nodes ls + (items_nodes is + groups_nodes gs)

-- ## Labels of one switch

abbrev pub group_labels : GroupTrees → ℕ
group_labels no_group_trees = 0
group_labels (group_trees ls is gs) = length ls + group_labels gs

-- the greatest number of labels that a switch inside has
abbrev mutual
  pub most_labels : StmtTree → ℕ
  most_labels (block_stmt at is) = items_labels is
  most_labels (empty_stmt at) = 0
  most_labels (expr_stmt at e) = 0
  most_labels (if_stmt at e x) = most_labels x
  most_labels (if_else_stmt at e x y) = max (most_labels x) (most_labels y)
  most_labels (while_stmt at e x) = most_labels x
  most_labels (do_stmt at x e) = most_labels x
  most_labels (for_stmt at f c u x) = most_labels x
  most_labels (switch_stmt at e gs) = max (group_labels gs) (groups_labels gs)
  most_labels (jump_stmt at j) = 0
  most_labels (return_stmt at e) = 0

  pub items_labels : ItemTrees → ℕ
  items_labels no_item_trees = 0
  items_labels (decl_item d is) = items_labels is
  items_labels (stmt_item x is) = max (most_labels x) (items_labels is)

  pub groups_labels : GroupTrees → ℕ
  groups_labels no_group_trees = 0
  groups_labels (group_trees ls is gs) = max (items_labels is) (groups_labels gs)
