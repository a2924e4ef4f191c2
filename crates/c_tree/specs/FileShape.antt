-- Which tree a statement, a declaration or a file of the code's types is.
use Rattle.std.specs.Prelude.{List, [], ◌∷◌, Option, Some, None, Box}
use Rattle.std.specs.declared.alloc.Global.{Global}
use Rattle.c_grammar.specs.Tokens.{Place, Break, Continue}
use Rattle.c_tree.specs.declared.expr.Expr.{Expr}
use Rattle.c_tree.specs.declared.file.Decl.{Decl}
use Rattle.c_tree.specs.declared.file.InitDeclarator.{InitDeclarator}
use Rattle.c_tree.specs.declared.file.Initializer.{Initializer}
use Rattle.c_tree.specs.declared.file.Initializer.TheVariants as init
use Rattle.c_tree.specs.declared.file.External.{External}
use Rattle.c_tree.specs.declared.file.External.TheVariants as external
use Rattle.c_tree.specs.declared.file.File.{File}
use Rattle.c_tree.specs.declared.stmt.ForFirst.{ForFirst}
use Rattle.c_tree.specs.declared.stmt.ForFirst.TheVariants as first
use Rattle.c_tree.specs.declared.stmt.Label.{Label}
use Rattle.c_tree.specs.declared.stmt.Label.TheVariants as label
use Rattle.c_tree.specs.declared.stmt.Item.{Item}
use Rattle.c_tree.specs.declared.stmt.Item.TheVariants as item
use Rattle.c_tree.specs.declared.stmt.Stmt.{Stmt, Row_of-Group, end_of-Group, more_of-Group, Held-Stmt-If-3, None', Some'}
use Rattle.c_tree.specs.declared.stmt.Stmt.TheVariants as s
use Rattle.c_tree.specs.declared.stmt.Group.{Group, Row_of-Item, end_of-Item, more_of-Item}
use Rattle.c_tree.specs.Trees.{ExprTree, InitializerTree, no_init, value_init, list_init, InitDeclaratorTree, init_tree, DeclTree, decl_tree, ForFirstTree, first_nothing, first_expr, first_decl, LabelTree, case_tree, default_tree, StmtTree, block_stmt, empty_stmt, expr_stmt, if_stmt, if_else_stmt, while_stmt, do_stmt, for_stmt, switch_stmt, jump_stmt, return_stmt, ItemTrees, no_item_trees, decl_item, stmt_item, GroupTrees, no_group_trees, group_trees, ExternalTree, decl_external, function_external, FileTree}
use Rattle.c_tree.specs.Shape.{expr_of, exprs_of, specifiers_of, declarator_of}

abbrev pub initializer_of : Option Initializer → InitializerTree
initializer_of None = no_init
initializer_of (Some (init.Value e)) = value_init (expr_of e)
initializer_of (Some (init.List at es)) = list_init at (exprs_of es.items)

abbrev pub init_declarator_of : InitDeclarator → InitDeclaratorTree
init_declarator_of d = init_tree (declarator_of d.declarator) (initializer_of d.initializer)

abbrev pub init_declarators_of : List InitDeclarator → List InitDeclaratorTree
init_declarators_of [] = []
init_declarators_of (d ∷ ds) = init_declarator_of d ∷ init_declarators_of ds

abbrev pub decl_of : Decl → DeclTree
decl_of d = decl_tree d.at (specifiers_of d.specifiers.items) (init_declarators_of d.declarators.items)

abbrev pub first_of_for : ForFirst → ForFirstTree
first_of_for first.Nothing = first_nothing
first_of_for (first.Expr e) = first_expr (expr_of e)
first_of_for (first.Decl d) = first_decl (decl_of d)

abbrev pub label_of : Label → LabelTree
label_of (label.Case at e) = case_tree at (expr_of e)
label_of (label.Default at) = default_tree at

abbrev pub labels_of : List Label → List LabelTree
labels_of [] = []
labels_of (l ∷ ls) = label_of l ∷ labels_of ls

abbrev pub optional_of : Option Expr → Option ExprTree
optional_of None = None
optional_of (Some e) = Some (expr_of e)

abbrev mutual
  pub stmt_of : Stmt → StmtTree
  stmt_of (s.Block' at shape is) = block_stmt at (items_row is)
  stmt_of (s.Empty at) = empty_stmt at
  stmt_of (s.Expr at e) = expr_stmt at (expr_of e)
  stmt_of (s.If' at e p a b) = branches at (expr_of e) (stmt_of a) b
  stmt_of (s.While' at e p a) = while_stmt at (expr_of e) (stmt_of a)
  stmt_of (s.Do' at p a e) = do_stmt at (stmt_of a) (expr_of e)
  stmt_of (s.For' at f c u p a) = for_stmt at (first_of_for f) (optional_of c) (optional_of u) (stmt_of a)
  stmt_of (s.Switch' at e shape gs) = switch_stmt at (expr_of e) (groups_row gs)
  stmt_of (s.Break at) = jump_stmt at Break
  stmt_of (s.Continue at) = jump_stmt at Continue
  stmt_of (s.Return at e) = return_stmt at (optional_of e)

  pub branches : Place → ExprTree → StmtTree → Held-Stmt-If-3 → StmtTree
  branches at e a None' = if_stmt at e a
  branches at e a (Some' p b) = if_else_stmt at e a (stmt_of b)

  pub item_onto : Item → ItemTrees → ItemTrees
  item_onto (item.Decl d) r = decl_item (decl_of d) r
  item_onto (item.Stmt a) r = stmt_item (stmt_of a) r

  pub items_row : {m : _} → Row_of-Item m → ItemTrees
  items_row end_of-Item = no_item_trees
  items_row (more_of-Item i is) = item_onto i (items_row is)

  pub groups_row : {m : _} → Row_of-Group m → GroupTrees
  groups_row end_of-Group = no_group_trees
  groups_row (more_of-Group ls shape is gs) = group_trees (labels_of ls.items) (items_row is) (groups_row gs)

abbrev pub items_of : List Item → ItemTrees
items_of [] = no_item_trees
items_of (i ∷ is) = item_onto i (items_of is)

abbrev pub groups_of : List Group → GroupTrees
groups_of [] = no_group_trees
groups_of (g ∷ gs) = group_trees (labels_of g.labels.items) (items_of g.items.items) (groups_of gs)

abbrev pub external_of : External → ExternalTree
external_of (external.Decl d) = decl_external (decl_of d)
external_of (external.Function f) = function_external f.at (specifiers_of f.specifiers.items) (declarator_of f.declarator) f.body_at (items_of f.body.items)

abbrev pub externals_of : List External → FileTree
externals_of [] = []
externals_of (x ∷ xs) = external_of x ∷ externals_of xs

-- the tree of a file
abbrev pub file_of : File → FileTree
file_of f = externals_of f.externals.items

-- the other branch of an `if`, if there is one
abbrev pub else_of : Option (Box Stmt Global) → Option StmtTree
else_of None = None
else_of (Some s) = Some (stmt_of s.value)
