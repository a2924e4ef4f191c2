-- What the grammar gives of a tree, as far as the meaning of a file rests on it (ISO C99 6.7.2.1 and 6.9.1): the body of a struct has a member, the declarator of a function that is defined is a name with parameters, behind stars, and names are short.
use Rattle.std.specs.Prelude.{◌≤◌, List, [], ◌∷◌, length, Option, Some, None}
use Rattle.c_tree.specs.Trees.{ExprTree, name_expr, constant_expr, index_expr, call_expr, member_expr, step_after_expr, step_before_expr, unary_expr, sizeof_expr, sizeof_type_expr, cast_expr, binary_expr, cond_expr, assign_expr, ExprTrees, no_exprs, exprs, MaybeTree, left_out, stated, TypeTree, type_tree, SpecifierTree, storage_specifier, qualifier_specifier, inline_specifier, words_specifier, typedef_specifier, reference_specifier, composite_specifier, enum_reference_specifier, enum_specifier, SpecifierTrees, no_specs, specs, MemberTrees, no_member_trees, member_trees, EnumeratorTrees, no_enumerator_trees, enumerator_trees, DeclaratorTree, unnamed, named, pointer_to, array_of, function_of, DeclaratorTrees, no_declarator_trees, declarator_trees, ParameterTrees, no_parameter_trees, parameter_trees, InitializerTree, no_init, value_init, list_init, InitDeclaratorTree, init_tree, DeclTree, decl_tree, ForFirstTree, first_nothing, first_expr, first_decl, LabelTree, case_tree, default_tree, StmtTree, block_stmt, empty_stmt, expr_stmt, if_stmt, if_else_stmt, while_stmt, do_stmt, for_stmt, switch_stmt, jump_stmt, return_stmt, ItemTrees, no_item_trees, decl_item, stmt_item, GroupTrees, no_group_trees, group_trees, ExternalTree, decl_external, function_external, FileTree}

abbrev pub HasDeclarators : DeclaratorTrees → Type 0
HasDeclarators no_declarator_trees = ⊥
HasDeclarators (declarator_trees d ds) = Unit {0}

abbrev pub HasMembers : MemberTrees → Type 0
HasMembers no_member_trees = ⊥
HasMembers (member_trees at ss ds ms) = HasDeclarators ds

abbrev mutual
  pub IsExpr : ExprTree → Type 0
  IsExpr (name_expr at name) = Unit {0}
  IsExpr (constant_expr at n) = Unit {0}
  IsExpr (index_expr at op_at a b) = IsExpr a × IsExpr b
  IsExpr (call_expr at op_at f xs) = IsExpr f × AreExprs xs
  IsExpr (member_expr at op_at e access name_at name) = IsExpr e
  IsExpr (step_after_expr at op_at e step) = IsExpr e
  IsExpr (step_before_expr at step e) = IsExpr e
  IsExpr (unary_expr at o e) = IsExpr e
  IsExpr (sizeof_expr at e) = IsExpr e
  IsExpr (sizeof_type_expr at t) = IsTypeName t
  IsExpr (cast_expr at t e) = IsTypeName t × IsExpr e
  IsExpr (binary_expr at op_at o a b) = IsExpr a × IsExpr b
  IsExpr (cond_expr at op_at c a b) = IsExpr c × (IsExpr a × IsExpr b)
  IsExpr (assign_expr at op_at o a b) = IsExpr a × IsExpr b

  pub AreExprs : ExprTrees → Type 0
  AreExprs no_exprs = Unit {0}
  AreExprs (exprs e es) = IsExpr e × AreExprs es

  pub IsMaybe : MaybeTree → Type 0
  IsMaybe left_out = Unit {0}
  IsMaybe (stated e) = IsExpr e

  pub IsTypeName : TypeTree → Type 0
  IsTypeName (type_tree at ss d) = AreSpecifiers ss × IsDeclarator d

  pub IsSpecifier : SpecifierTree → Type 0
  IsSpecifier (storage_specifier at w) = Unit {0}
  IsSpecifier (qualifier_specifier at q) = Unit {0}
  IsSpecifier (inline_specifier at) = Unit {0}
  IsSpecifier (words_specifier at ws) = Unit {0}
  IsSpecifier (typedef_specifier at name) = Unit {0}
  IsSpecifier (reference_specifier at w tag_at name) = Unit {0}
  IsSpecifier (composite_specifier at w tag body_at ms) = HasMembers ms × AreMembers ms
  IsSpecifier (enum_reference_specifier at tag_at name) = Unit {0}
  IsSpecifier (enum_specifier at tag body_at es) = AreEnumerators es

  pub AreSpecifiers : SpecifierTrees → Type 0
  AreSpecifiers no_specs = Unit {0}
  AreSpecifiers (specs x xs) = IsSpecifier x × AreSpecifiers xs

  pub AreMembers : MemberTrees → Type 0
  AreMembers no_member_trees = Unit {0}
  AreMembers (member_trees at ss ds ms) = AreSpecifiers ss × (AreDeclarators ds × AreMembers ms)

  pub AreEnumerators : EnumeratorTrees → Type 0
  AreEnumerators no_enumerator_trees = Unit {0}
  AreEnumerators (enumerator_trees at name x es) = IsMaybe x × AreEnumerators es

  pub IsDeclarator : DeclaratorTree → Type 0
  IsDeclarator unnamed = Unit {0}
  IsDeclarator (named at name) = Unit {0}
  IsDeclarator (pointer_to qs d) = IsDeclarator d
  IsDeclarator (array_of d n) = IsDeclarator d × IsMaybe n
  IsDeclarator (function_of d ps) = IsDeclarator d × AreParameters ps

  pub AreDeclarators : DeclaratorTrees → Type 0
  AreDeclarators no_declarator_trees = Unit {0}
  AreDeclarators (declarator_trees d ds) = IsDeclarator d × AreDeclarators ds

  pub AreParameters : ParameterTrees → Type 0
  AreParameters no_parameter_trees = Unit {0}
  AreParameters (parameter_trees at ss d ps) = AreSpecifiers ss × (IsDeclarator d × AreParameters ps)

abbrev pub IsInitializer : InitializerTree → Type 0
IsInitializer no_init = Unit {0}
IsInitializer (value_init e) = IsExpr e
IsInitializer (list_init at es) = AreExprs es

abbrev pub AreInits : List InitDeclaratorTree → Type 0
AreInits [] = Unit {0}
AreInits (init_tree d x ∷ ds) = IsDeclarator d × (IsInitializer x × AreInits ds)

abbrev pub IsDecl : DeclTree → Type 0
IsDecl (decl_tree at ss ds) = AreSpecifiers ss × AreInits ds

abbrev pub IsOptional : Option ExprTree → Type 0
IsOptional None = Unit {0}
IsOptional (Some e) = IsExpr e

abbrev pub IsFirst : ForFirstTree → Type 0
IsFirst first_nothing = Unit {0}
IsFirst (first_expr e) = IsExpr e
IsFirst (first_decl d) = IsDecl d

abbrev pub AreLabels : List LabelTree → Type 0
AreLabels [] = Unit {0}
AreLabels (case_tree at e ∷ ls) = IsExpr e × AreLabels ls
AreLabels (default_tree at ∷ ls) = AreLabels ls

abbrev mutual
  pub IsStmt : StmtTree → Type 0
  IsStmt (block_stmt at is) = AreItems is
  IsStmt (empty_stmt at) = Unit {0}
  IsStmt (expr_stmt at e) = IsExpr e
  IsStmt (if_stmt at e x) = IsExpr e × IsStmt x
  IsStmt (if_else_stmt at e x y) = IsExpr e × (IsStmt x × IsStmt y)
  IsStmt (while_stmt at e x) = IsExpr e × IsStmt x
  IsStmt (do_stmt at x e) = IsStmt x × IsExpr e
  IsStmt (for_stmt at f c u x) = IsFirst f × (IsOptional c × (IsOptional u × IsStmt x))
  IsStmt (switch_stmt at e gs) = IsExpr e × AreGroups gs
  IsStmt (jump_stmt at j) = Unit {0}
  IsStmt (return_stmt at e) = IsOptional e

  pub AreItems : ItemTrees → Type 0
  AreItems no_item_trees = Unit {0}
  AreItems (decl_item d is) = IsDecl d × AreItems is
  AreItems (stmt_item x is) = IsStmt x × AreItems is

  pub AreGroups : GroupTrees → Type 0
  AreGroups no_group_trees = Unit {0}
  AreGroups (group_trees ls is gs) = AreLabels ls × (AreItems is × AreGroups gs)

-- the declarator of a function that is defined: its parameters have the parts above, and its name stands alone inside
abbrev pub IsDefinition : DeclaratorTree → Type 0
IsDefinition (pointer_to qs d) = IsDefinition d
IsDefinition (function_of (named at name) ps) = AreParameters ps
IsDefinition _ = ⊥

-- names have at most 127 bytes
abbrev pub IsShort : DeclaratorTree → Type 0
IsShort unnamed = Unit {0}
IsShort (named at name) = length name ≤ 127
IsShort (pointer_to qs d) = IsShort d
IsShort (array_of d n) = IsShort d
IsShort (function_of d ps) = IsShort d

abbrev pub AreShort : List InitDeclaratorTree → Type 0
AreShort [] = Unit {0}
AreShort (init_tree d x ∷ ds) = IsShort d × AreShort ds

abbrev pub IsExternal : ExternalTree → Type 0
IsExternal (decl_external (decl_tree at ss ds)) = AreShort ds × IsDecl (decl_tree at ss ds)
IsExternal (function_external at ss d body_at is) = IsShort d × (AreSpecifiers ss × (IsDefinition d × AreItems is))

-- the tree of a file
abbrev pub IsShaped : FileTree → Type 0
IsShaped [] = Unit {0}
IsShaped (x ∷ xs) = IsExternal x × IsShaped xs
