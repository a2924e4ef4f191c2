-- The text of declarations, statements and files, part by part.
use Rattle.std.specs.Prelude.{ℕ, Bool, true, false, List, [], ◌∷◌, Option, Some, None, codes}
use Rattle.c_grammar.specs.Tokens.{Jump, Break, Continue}
use Rattle.c_tree.specs.Trees.{ExprTree, InitializerTree, no_init, value_init, list_init, InitDeclaratorTree, init_tree, DeclTree, decl_tree, ForFirstTree, first_nothing, first_expr, first_decl, LabelTree, case_tree, default_tree, StmtTree, block_stmt, empty_stmt, expr_stmt, if_stmt, if_else_stmt, while_stmt, do_stmt, for_stmt, switch_stmt, jump_stmt, return_stmt, ItemTrees, no_item_trees, decl_item, stmt_item, GroupTrees, no_group_trees, group_trees, ExternalTree, decl_external, function_external, FileTree}
use Rattle.c_tree.specs.Printing.{Text, put_word, put_line, separated, is_looser, opened, closed, put_expr, put_exprs, put_specifiers, put_declarator}

abbrev pub put_initializer : InitializerTree → Text → Text
put_initializer no_init t = t
put_initializer (value_init e) t = put_expr e (put_word (codes "=") t)
put_initializer (list_init at es) t = put_word (codes "}") (put_exprs true es (put_word (codes "{") (put_word (codes "=") t)))

abbrev pub put_init_declarators : Bool → List InitDeclaratorTree → Text → Text
put_init_declarators first [] t = t
put_init_declarators first (init_tree d i ∷ ds) t = put_init_declarators false ds (put_initializer i (put_declarator d (separated first t)))

-- a declaration with its `;`
abbrev pub put_decl : DeclTree → Text → Text
put_decl (decl_tree at s ds) t = put_line (codes ";") (put_init_declarators true ds (put_specifiers s t))

abbrev pub put_optional : Option ExprTree → Text → Text
put_optional None t = t
put_optional (Some e) t = put_expr e t

-- the first part of a `for`, with its `;`
abbrev pub put_first : ForFirstTree → Text → Text
put_first first_nothing t = put_word (codes ";") t
put_first (first_expr e) t = put_word (codes ";") (put_expr e t)
put_first (first_decl d) t = put_decl d t

abbrev pub put_label : LabelTree → Text → Text
put_label (case_tree at e) t = put_line (codes ":") (closed (is_looser e 2) (put_expr e (opened (is_looser e 2) (put_word (codes "case") t))))
put_label (default_tree at) t = put_line (codes ":") (put_word (codes "default") t)

abbrev pub put_labels : List LabelTree → Text → Text
put_labels [] t = t
put_labels (l ∷ ls) t = put_labels ls (put_label l t)

-- a word and an expression in parentheses
abbrev pub put_head : List ℕ → ExprTree → Text → Text
put_head word e t = put_word (codes ")") (put_expr e (put_word (codes "(") (put_word word t)))

abbrev pub put_for : ForFirstTree → Option ExprTree → Option ExprTree → Text → Text
put_for f c u t = put_word (codes ")") (put_optional u (put_word (codes ";") (put_optional c (put_first f (put_word (codes "(") (put_word (codes "for") t))))))

abbrev pub put_jump : List ℕ → Text → Text
put_jump word t = put_line (codes ";") (put_word word t)

abbrev pub jump_text : Jump → List ℕ
jump_text Break = codes "break"
jump_text Continue = codes "continue"

abbrev pub put_return : Option ExprTree → Text → Text
put_return e t = put_line (codes ";") (put_optional e (put_word (codes "return") t))

abbrev mutual
  pub put_stmt : StmtTree → Text → Text
  put_stmt (block_stmt at is) t = put_line (codes "}") (put_items is (put_line (codes "{") t))
  put_stmt (empty_stmt at) t = put_line (codes ";") t
  put_stmt (expr_stmt at e) t = put_line (codes ";") (put_expr e t)
  put_stmt (if_stmt at e a) t = put_stmt a (put_head (codes "if") e t)
  put_stmt (if_else_stmt at e a b) t = put_stmt b (put_word (codes "else") (put_stmt a (put_head (codes "if") e t)))
  put_stmt (while_stmt at e a) t = put_stmt a (put_head (codes "while") e t)
  put_stmt (do_stmt at a e) t = put_line (codes ";") (put_head (codes "while") e (put_stmt a (put_word (codes "do") t)))
  put_stmt (for_stmt at f c u a) t = put_stmt a (put_for f c u t)
  put_stmt (switch_stmt at e gs) t = put_line (codes "}") (put_groups gs (put_line (codes "{") (put_head (codes "switch") e t)))
  put_stmt (jump_stmt at j) t = put_jump (jump_text j) t
  put_stmt (return_stmt at e) t = put_return e t

  pub put_items : ItemTrees → Text → Text
  put_items no_item_trees t = t
  put_items (decl_item d is) t = put_items is (put_decl d t)
  put_items (stmt_item s is) t = put_items is (put_stmt s t)

  pub put_groups : GroupTrees → Text → Text
  put_groups no_group_trees t = t
  put_groups (group_trees ls is gs) t = put_groups gs (put_items is (put_labels ls t))

-- the rest of an `if`
abbrev pub put_else : Option StmtTree → Text → Text
put_else None t = t
put_else (Some s) t = put_stmt s (put_word (codes "else") t)

abbrev pub put_external : ExternalTree → Text → Text
put_external (decl_external d) t = put_decl d t
put_external (function_external at s d body is) t = put_line (codes "}") (put_items is (put_line (codes "{") (put_declarator d (put_specifiers s t))))

abbrev pub put_externals : FileTree → Text → Text
put_externals [] t = t
put_externals (x ∷ xs) t = put_externals xs (put_external x t)

-- the text of a file
abbrev pub file_text : FileTree → List ℕ
file_text f = put_externals f []
