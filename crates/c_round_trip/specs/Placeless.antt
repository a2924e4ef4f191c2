-- The tree, places aside: each place is 0.
use Rattle.std.specs.Prelude.{List, [], ◌∷◌, Option, Some, None}
use Rattle.c_tree.specs.Trees.{TagTree, untagged, tagged, ExprTree, name_expr, constant_expr, index_expr, call_expr, member_expr, step_after_expr, step_before_expr, unary_expr, sizeof_expr, sizeof_type_expr, cast_expr, binary_expr, cond_expr, assign_expr, ExprTrees, no_exprs, exprs, MaybeTree, left_out, stated, TypeTree, type_tree, SpecifierTree, storage_specifier, qualifier_specifier, inline_specifier, words_specifier, typedef_specifier, reference_specifier, composite_specifier, enum_reference_specifier, enum_specifier, SpecifierTrees, no_specs, specs, MemberTrees, no_member_trees, member_trees, EnumeratorTrees, no_enumerator_trees, enumerator_trees, DeclaratorTree, unnamed, named, pointer_to, array_of, function_of, DeclaratorTrees, no_declarator_trees, declarator_trees, ParameterTrees, no_parameter_trees, parameter_trees, InitializerTree, no_init, value_init, list_init, InitDeclaratorTree, init_tree, DeclTree, decl_tree, ForFirstTree, first_nothing, first_expr, first_decl, LabelTree, case_tree, default_tree, StmtTree, block_stmt, empty_stmt, expr_stmt, if_stmt, if_else_stmt, while_stmt, do_stmt, for_stmt, switch_stmt, jump_stmt, return_stmt, ItemTrees, no_item_trees, decl_item, stmt_item, GroupTrees, no_group_trees, group_trees, ExternalTree, decl_external, function_external, FileTree}

abbrev pub placeless_tag : TagTree → TagTree
placeless_tag untagged = untagged
placeless_tag (tagged at x) = tagged 0 x

abbrev mutual
  pub placeless_expr : ExprTree → ExprTree
  placeless_expr (name_expr at x) = name_expr 0 x
  placeless_expr (constant_expr at n) = constant_expr 0 n
  placeless_expr (index_expr at op a i) = index_expr 0 0 (placeless_expr a) (placeless_expr i)
  placeless_expr (call_expr at op f xs) = call_expr 0 0 (placeless_expr f) (placeless_exprs xs)
  placeless_expr (member_expr at op e o q x) = member_expr 0 0 (placeless_expr e) o 0 x
  placeless_expr (step_after_expr at op e o) = step_after_expr 0 0 (placeless_expr e) o
  placeless_expr (step_before_expr at o e) = step_before_expr 0 o (placeless_expr e)
  placeless_expr (unary_expr at o e) = unary_expr 0 o (placeless_expr e)
  placeless_expr (sizeof_expr at e) = sizeof_expr 0 (placeless_expr e)
  placeless_expr (sizeof_type_expr at ty) = sizeof_type_expr 0 (placeless_type ty)
  placeless_expr (cast_expr at ty e) = cast_expr 0 (placeless_type ty) (placeless_expr e)
  placeless_expr (binary_expr at op o a b) = binary_expr 0 0 o (placeless_expr a) (placeless_expr b)
  placeless_expr (cond_expr at op c a b) = cond_expr 0 0 (placeless_expr c) (placeless_expr a) (placeless_expr b)
  placeless_expr (assign_expr at op o a b) = assign_expr 0 0 o (placeless_expr a) (placeless_expr b)

  pub placeless_exprs : ExprTrees → ExprTrees
  placeless_exprs no_exprs = no_exprs
  placeless_exprs (exprs e es) = exprs (placeless_expr e) (placeless_exprs es)

  pub placeless_maybe : MaybeTree → MaybeTree
  placeless_maybe left_out = left_out
  placeless_maybe (stated e) = stated (placeless_expr e)

  pub placeless_type : TypeTree → TypeTree
  placeless_type (type_tree at s d) = type_tree 0 (placeless_specifiers s) (placeless_declarator d)

  pub placeless_specifier : SpecifierTree → SpecifierTree
  placeless_specifier (storage_specifier at w) = storage_specifier 0 w
  placeless_specifier (qualifier_specifier at w) = qualifier_specifier 0 w
  placeless_specifier (inline_specifier at) = inline_specifier 0
  placeless_specifier (words_specifier at ws) = words_specifier 0 ws
  placeless_specifier (typedef_specifier at x) = typedef_specifier 0 x
  placeless_specifier (reference_specifier at w q x) = reference_specifier 0 w 0 x
  placeless_specifier (composite_specifier at w t q ms) = composite_specifier 0 w (placeless_tag t) 0 (placeless_members ms)
  placeless_specifier (enum_reference_specifier at q x) = enum_reference_specifier 0 0 x
  placeless_specifier (enum_specifier at t q es) = enum_specifier 0 (placeless_tag t) 0 (placeless_enumerators es)

  pub placeless_specifiers : SpecifierTrees → SpecifierTrees
  placeless_specifiers no_specs = no_specs
  placeless_specifiers (specs s ss) = specs (placeless_specifier s) (placeless_specifiers ss)

  pub placeless_members : MemberTrees → MemberTrees
  placeless_members no_member_trees = no_member_trees
  placeless_members (member_trees at s ds ms) = member_trees 0 (placeless_specifiers s) (placeless_declarators ds) (placeless_members ms)

  pub placeless_enumerators : EnumeratorTrees → EnumeratorTrees
  placeless_enumerators no_enumerator_trees = no_enumerator_trees
  placeless_enumerators (enumerator_trees at x v es) = enumerator_trees 0 x (placeless_maybe v) (placeless_enumerators es)

  pub placeless_declarator : DeclaratorTree → DeclaratorTree
  placeless_declarator unnamed = unnamed
  placeless_declarator (named at x) = named 0 x
  placeless_declarator (pointer_to qs d) = pointer_to qs (placeless_declarator d)
  placeless_declarator (array_of d n) = array_of (placeless_declarator d) (placeless_maybe n)
  placeless_declarator (function_of d ps) = function_of (placeless_declarator d) (placeless_parameters ps)

  pub placeless_declarators : DeclaratorTrees → DeclaratorTrees
  placeless_declarators no_declarator_trees = no_declarator_trees
  placeless_declarators (declarator_trees d ds) = declarator_trees (placeless_declarator d) (placeless_declarators ds)

  pub placeless_parameters : ParameterTrees → ParameterTrees
  placeless_parameters no_parameter_trees = no_parameter_trees
  placeless_parameters (parameter_trees at s d ps) = parameter_trees 0 (placeless_specifiers s) (placeless_declarator d) (placeless_parameters ps)

abbrev pub placeless_initializer : InitializerTree → InitializerTree
placeless_initializer no_init = no_init
placeless_initializer (value_init e) = value_init (placeless_expr e)
placeless_initializer (list_init at es) = list_init 0 (placeless_exprs es)

abbrev pub placeless_init : InitDeclaratorTree → InitDeclaratorTree
placeless_init (init_tree d i) = init_tree (placeless_declarator d) (placeless_initializer i)

abbrev pub placeless_inits : List InitDeclaratorTree → List InitDeclaratorTree
placeless_inits [] = []
placeless_inits (d ∷ ds) = placeless_init d ∷ placeless_inits ds

abbrev pub placeless_decl : DeclTree → DeclTree
placeless_decl (decl_tree at s ds) = decl_tree 0 (placeless_specifiers s) (placeless_inits ds)

abbrev pub placeless_first : ForFirstTree → ForFirstTree
placeless_first first_nothing = first_nothing
placeless_first (first_expr e) = first_expr (placeless_expr e)
placeless_first (first_decl d) = first_decl (placeless_decl d)

abbrev pub placeless_optional : Option ExprTree → Option ExprTree
placeless_optional None = None
placeless_optional (Some e) = Some (placeless_expr e)

abbrev pub placeless_label : LabelTree → LabelTree
placeless_label (case_tree at e) = case_tree 0 (placeless_expr e)
placeless_label (default_tree at) = default_tree 0

abbrev pub placeless_labels : List LabelTree → List LabelTree
placeless_labels [] = []
placeless_labels (l ∷ ls) = placeless_label l ∷ placeless_labels ls

abbrev mutual
  pub placeless_stmt : StmtTree → StmtTree
  placeless_stmt (block_stmt at is) = block_stmt 0 (placeless_items is)
  placeless_stmt (empty_stmt at) = empty_stmt 0
  placeless_stmt (expr_stmt at e) = expr_stmt 0 (placeless_expr e)
  placeless_stmt (if_stmt at e a) = if_stmt 0 (placeless_expr e) (placeless_stmt a)
  placeless_stmt (if_else_stmt at e a b) = if_else_stmt 0 (placeless_expr e) (placeless_stmt a) (placeless_stmt b)
  placeless_stmt (while_stmt at e a) = while_stmt 0 (placeless_expr e) (placeless_stmt a)
  placeless_stmt (do_stmt at a e) = do_stmt 0 (placeless_stmt a) (placeless_expr e)
  placeless_stmt (for_stmt at f c u a) = for_stmt 0 (placeless_first f) (placeless_optional c) (placeless_optional u) (placeless_stmt a)
  placeless_stmt (switch_stmt at e gs) = switch_stmt 0 (placeless_expr e) (placeless_groups gs)
  placeless_stmt (jump_stmt at j) = jump_stmt 0 j
  placeless_stmt (return_stmt at e) = return_stmt 0 (placeless_optional e)

  pub placeless_items : ItemTrees → ItemTrees
  placeless_items no_item_trees = no_item_trees
  placeless_items (decl_item d is) = decl_item (placeless_decl d) (placeless_items is)
  placeless_items (stmt_item s is) = stmt_item (placeless_stmt s) (placeless_items is)

  pub placeless_groups : GroupTrees → GroupTrees
  placeless_groups no_group_trees = no_group_trees
  placeless_groups (group_trees ls is gs) = group_trees (placeless_labels ls) (placeless_items is) (placeless_groups gs)

abbrev pub placeless_external : ExternalTree → ExternalTree
placeless_external (decl_external d) = decl_external (placeless_decl d)
placeless_external (function_external at s d body is) = function_external 0 (placeless_specifiers s) (placeless_declarator d) 0 (placeless_items is)

-- a file's tree, places aside
abbrev pub placeless : FileTree → FileTree
placeless [] = []
placeless (x ∷ xs) = placeless_external x ∷ placeless xs
