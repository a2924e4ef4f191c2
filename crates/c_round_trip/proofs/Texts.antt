-- The text of a tree says nothing of its places.
use Rattle.std.proofs.Common.{◌≡◌, ℕ, ◌+◌, Bool, true, false, List, [], ◌∷◌, Option, Some, None, nat_lt, codes, refl, sym, ◌∙◌, ap}
use Rattle.c_grammar.specs.Spelling.{precedence}
use Rattle.c_tree.specs.Trees.{TagTree, ExprTree, ExprTrees, MaybeTree, TypeTree, SpecifierTree, SpecifierTrees, MemberTrees, EnumeratorTrees, DeclaratorTree, DeclaratorTrees, ParameterTrees, InitializerTree, InitDeclaratorTree, DeclTree, ForFirstTree, LabelTree, StmtTree, ItemTrees, GroupTrees, ExternalTree, FileTree, untagged, tagged, name_expr, constant_expr, index_expr, call_expr, member_expr, step_after_expr, step_before_expr, unary_expr, sizeof_expr, sizeof_type_expr, cast_expr, binary_expr, cond_expr, assign_expr, no_exprs, exprs, left_out, stated, type_tree, storage_specifier, qualifier_specifier, inline_specifier, words_specifier, typedef_specifier, reference_specifier, composite_specifier, enum_reference_specifier, enum_specifier, no_specs, specs, no_member_trees, member_trees, no_enumerator_trees, enumerator_trees, unnamed, named, pointer_to, array_of, function_of, no_declarator_trees, declarator_trees, no_parameter_trees, parameter_trees, no_init, value_init, list_init, init_tree, decl_tree, first_nothing, first_expr, first_decl, case_tree, default_tree, block_stmt, empty_stmt, expr_stmt, if_stmt, if_else_stmt, while_stmt, do_stmt, for_stmt, switch_stmt, jump_stmt, return_stmt, no_item_trees, decl_item, stmt_item, no_group_trees, group_trees, decl_external, function_external}
use Rattle.c_tree.specs.Printing.{Text, put_word, put_line, opened, closed, separated, operator_text, assignment_text, step_text, access_text, composite_text, put_qualifiers, put_tag, binding, is_looser, is_pointer, is_empty_list, put_void, put_expr, put_exprs, put_maybe, put_type, put_specifier, put_specifiers, put_members, put_enumerators, put_value, put_declarator, put_declarators, put_parameters}
use Rattle.c_tree.specs.Statements.{put_initializer, put_init_declarators, put_decl, put_optional, put_first, put_label, put_labels, put_head, put_for, put_stmt, put_items, put_groups, put_external, put_externals, file_text}
use Rattle.c_round_trip.specs.Placeless.{placeless_tag, placeless_expr, placeless_exprs, placeless_maybe, placeless_type, placeless_specifier, placeless_specifiers, placeless_members, placeless_enumerators, placeless_declarator, placeless_declarators, placeless_parameters, placeless_initializer, placeless_inits, placeless_decl, placeless_first, placeless_optional, placeless_label, placeless_labels, placeless_stmt, placeless_items, placeless_groups, placeless_external, placeless}
use Rattle.c_round_trip.proofs.Lists.{put_list}

same_binding : (e : ExprTree) → binding (placeless_expr e) ≡ binding e
same_binding (name_expr at x) = refl
same_binding (constant_expr at n) = refl
same_binding (index_expr at op a i) = refl
same_binding (call_expr at op f xs) = refl
same_binding (member_expr at op e o q x) = refl
same_binding (step_after_expr at op e o) = refl
same_binding (step_before_expr at o e) = refl
same_binding (unary_expr at o e) = refl
same_binding (sizeof_expr at e) = refl
same_binding (sizeof_type_expr at ty) = refl
same_binding (cast_expr at ty e) = refl
same_binding (binary_expr at op o a b) = refl
same_binding (cond_expr at op c a b) = refl
same_binding (assign_expr at op o a b) = refl

same_pointer : (d : DeclaratorTree) → is_pointer (placeless_declarator d) ≡ is_pointer d
same_pointer unnamed = refl
same_pointer (named at x) = refl
same_pointer (pointer_to qs d) = refl
same_pointer (array_of d n) = refl
same_pointer (function_of d ps) = refl

same_empty : (ps : ParameterTrees) → is_empty_list (placeless_parameters ps) ≡ is_empty_list ps
same_empty no_parameter_trees = refl
same_empty (parameter_trees at s d ps) = refl

same_tag : (g : TagTree) (t : Text) → put_tag (placeless_tag g) t ≡ put_tag g t
same_tag untagged t = refl
same_tag (tagged at x) t = refl

-- an expression in the parentheses that it needs
abbrev put_within : ExprTree → ℕ → Text → Text
put_within e n t = closed (is_looser e n) (put_expr e (opened (is_looser e n) t))

within : (e : ExprTree) (n : ℕ) (t : Text) → ((u : Text) → put_expr (placeless_expr e) u ≡ put_expr e u) → put_within (placeless_expr e) n t ≡ put_within e n t
within e n t same =
    ap (λ m. closed (nat_lt m n) (put_expr (placeless_expr e) (opened (nat_lt m n) t))) (same_binding e) ∙ ap (closed (is_looser e n)) (same (opened (is_looser e n) t))

abbrev put_before : DeclaratorTree → Text → Text
put_before d t = closed (is_pointer d) (put_declarator d (opened (is_pointer d) t))

before : (d : DeclaratorTree) (t : Text) → ((u : Text) → put_declarator (placeless_declarator d) u ≡ put_declarator d u) → put_before (placeless_declarator d) t ≡ put_before d t
before d t same =
    ap (λ b. closed b (put_declarator (placeless_declarator d) (opened b t))) (same_pointer d) ∙ ap (closed (is_pointer d)) (same (opened (is_pointer d) t))

mutual
  same_expr : (e : ExprTree) (t : Text) → put_expr (placeless_expr e) t ≡ put_expr e t
  same_expr (name_expr at x) t = refl
  same_expr (constant_expr at n) t = refl
  same_expr (index_expr at op a i) t =
      ap (λ u. put_word (codes "]") (put_expr (placeless_expr i) (put_word (codes "[") u))) (within a 15 t (λ u. same_expr a u))
      ∙ ap (put_word (codes "]")) (same_expr i (put_word (codes "[") (put_within a 15 t)))
  same_expr (call_expr at op f xs) t =
      ap (λ u. put_word (codes ")") (put_exprs true (placeless_exprs xs) (put_word (codes "(") u))) (within f 15 t (λ u. same_expr f u))
      ∙ ap (put_word (codes ")")) (same_exprs true xs (put_word (codes "(") (put_within f 15 t)))
  same_expr (member_expr at op e o q x) t = ap (λ u. put_word x (put_word (access_text o) u)) (within e 15 t (λ u. same_expr e u))
  same_expr (step_after_expr at op e o) t = ap (put_word (step_text o)) (within e 15 t (λ u. same_expr e u))
  same_expr (step_before_expr at o e) t = within e 14 (put_word (step_text o) t) (λ u. same_expr e u)
  same_expr (unary_expr at o e) t = within e 13 (put_word (operator_text o) t) (λ u. same_expr e u)
  same_expr (sizeof_expr at e) t = within e 14 (put_word (codes "sizeof") t) (λ u. same_expr e u)
  same_expr (sizeof_type_expr at ty) t = ap (put_word (codes ")")) (same_type ty (put_word (codes "(") (put_word (codes "sizeof") t)))
  same_expr (cast_expr at ty e) t =
      ap (λ u. put_within (placeless_expr e) 13 (put_word (codes ")") u)) (same_type ty (put_word (codes "(") t))
      ∙ within e 13 (put_word (codes ")") (put_type ty (put_word (codes "(") t))) (λ u. same_expr e u)
  same_expr (binary_expr at op o a b) t =
      ap (λ u. put_within (placeless_expr b) (precedence o + 1) (put_word (operator_text o) u)) (within a (precedence o) t (λ u. same_expr a u))
      ∙ within b (precedence o + 1) (put_word (operator_text o) (put_within a (precedence o) t)) (λ u. same_expr b u)
  same_expr (cond_expr at op c a b) t =
      ap (λ u. put_within (placeless_expr b) 2 (put_word (codes ":") (put_expr (placeless_expr a) (put_word (codes "?") u)))) (within c 3 t (λ u. same_expr c u))
      ∙ ap (λ u. put_within (placeless_expr b) 2 (put_word (codes ":") u)) (same_expr a (put_word (codes "?") (put_within c 3 t)))
      ∙ within b 2 (put_word (codes ":") (put_expr a (put_word (codes "?") (put_within c 3 t)))) (λ u. same_expr b u)
  same_expr (assign_expr at op o a b) t =
      ap (λ u. put_expr (placeless_expr b) (put_word (assignment_text o) u)) (within a 14 t (λ u. same_expr a u)) ∙ same_expr b (put_word (assignment_text o) (put_within a 14 t))

  same_exprs : (first : Bool) (es : ExprTrees) (t : Text) → put_exprs first (placeless_exprs es) t ≡ put_exprs first es t
  same_exprs first no_exprs t = refl
  same_exprs first (exprs e es) t =
      ap (put_exprs false (placeless_exprs es)) (same_expr e (separated first t)) ∙ same_exprs false es (put_expr e (separated first t))

  same_maybe : (m : MaybeTree) (t : Text) → put_maybe (placeless_maybe m) t ≡ put_maybe m t
  same_maybe left_out t = refl
  same_maybe (stated e) t = within e 2 t (λ u. same_expr e u)

  same_type : (ty : TypeTree) (t : Text) → put_type (placeless_type ty) t ≡ put_type ty t
  same_type (type_tree at s d) t = ap (put_declarator (placeless_declarator d)) (same_specifiers s t) ∙ same_declarator d (put_specifiers s t)

  same_specifier : (s : SpecifierTree) (t : Text) → put_specifier (placeless_specifier s) t ≡ put_specifier s t
  same_specifier (storage_specifier at w) t = refl
  same_specifier (qualifier_specifier at w) t = refl
  same_specifier (inline_specifier at) t = refl
  same_specifier (words_specifier at ws) t = refl
  same_specifier (typedef_specifier at x) t = refl
  same_specifier (reference_specifier at w q x) t = refl
  same_specifier (composite_specifier at w g q ms) t =
      ap (λ u. put_word (codes "}") (put_members (placeless_members ms) (put_line (codes "{") u))) (same_tag g (put_word (composite_text w) t))
      ∙ ap (put_word (codes "}")) (same_members ms (put_line (codes "{") (put_tag g (put_word (composite_text w) t))))
  same_specifier (enum_reference_specifier at q x) t = refl
  same_specifier (enum_specifier at g q es) t =
      ap (λ u. put_word (codes "}") (put_enumerators true (placeless_enumerators es) (put_word (codes "{") u))) (same_tag g (put_word (codes "enum") t))
      ∙ ap (put_word (codes "}")) (same_enumerators true es (put_word (codes "{") (put_tag g (put_word (codes "enum") t))))

  same_specifiers : (ss : SpecifierTrees) (t : Text) → put_specifiers (placeless_specifiers ss) t ≡ put_specifiers ss t
  same_specifiers no_specs t = refl
  same_specifiers (specs s ss) t = ap (put_specifiers (placeless_specifiers ss)) (same_specifier s t) ∙ same_specifiers ss (put_specifier s t)

  same_members : (ms : MemberTrees) (t : Text) → put_members (placeless_members ms) t ≡ put_members ms t
  same_members no_member_trees t = refl
  same_members (member_trees at s ds ms) t =
      ap (λ u. put_members (placeless_members ms) (put_line (codes ";") (put_declarators true (placeless_declarators ds) u))) (same_specifiers s t)
      ∙ ap (λ u. put_members (placeless_members ms) (put_line (codes ";") u)) (same_declarators true ds (put_specifiers s t))
      ∙ same_members ms (put_line (codes ";") (put_declarators true ds (put_specifiers s t)))

  same_enumerators : (first : Bool) (es : EnumeratorTrees) (t : Text) → put_enumerators first (placeless_enumerators es) t ≡ put_enumerators first es t
  same_enumerators first no_enumerator_trees t = refl
  same_enumerators first (enumerator_trees at x v es) t =
      ap (put_enumerators false (placeless_enumerators es)) (same_value v (put_word x (separated first t))) ∙ same_enumerators false es (put_value v (put_word x (separated first t)))

  same_value : (m : MaybeTree) (t : Text) → put_value (placeless_maybe m) t ≡ put_value m t
  same_value left_out t = refl
  same_value (stated e) t = within e 2 (put_word (codes "=") t) (λ u. same_expr e u)

  same_declarator : (d : DeclaratorTree) (t : Text) → put_declarator (placeless_declarator d) t ≡ put_declarator d t
  same_declarator unnamed t = refl
  same_declarator (named at x) t = refl
  same_declarator (pointer_to qs d) t = same_declarator d (put_qualifiers qs (put_word (codes "*") t))
  same_declarator (array_of d n) t =
      ap (λ u. put_word (codes "]") (put_maybe (placeless_maybe n) (put_word (codes "[") u))) (before d t (λ u. same_declarator d u))
      ∙ ap (put_word (codes "]")) (same_maybe n (put_word (codes "[") (put_before d t)))
  same_declarator (function_of d ps) t =
      ap (λ u. put_word (codes ")") (put_list (placeless_parameters ps) (put_word (codes "(") u))) (before d t (λ u. same_declarator d u))
      ∙ ap (λ b. put_word (codes ")") (put_parameters true (placeless_parameters ps) (put_void b (put_word (codes "(") (put_before d t))))) (same_empty ps)
      ∙ ap (put_word (codes ")")) (same_parameters true ps (put_void (is_empty_list ps) (put_word (codes "(") (put_before d t))))

  same_declarators : (first : Bool) (ds : DeclaratorTrees) (t : Text) → put_declarators first (placeless_declarators ds) t ≡ put_declarators first ds t
  same_declarators first no_declarator_trees t = refl
  same_declarators first (declarator_trees d ds) t =
      ap (put_declarators false (placeless_declarators ds)) (same_declarator d (separated first t)) ∙ same_declarators false ds (put_declarator d (separated first t))

  same_parameters : (first : Bool) (ps : ParameterTrees) (t : Text) → put_parameters first (placeless_parameters ps) t ≡ put_parameters first ps t
  same_parameters first no_parameter_trees t = refl
  same_parameters first (parameter_trees at s d ps) t =
      ap (λ u. put_parameters false (placeless_parameters ps) (put_declarator (placeless_declarator d) u)) (same_specifiers s (separated first t))
      ∙ ap (put_parameters false (placeless_parameters ps)) (same_declarator d (put_specifiers s (separated first t)))
      ∙ same_parameters false ps (put_declarator d (put_specifiers s (separated first t)))

-- ## Declarations and statements

same_initializer : (i : InitializerTree) (t : Text) → put_initializer (placeless_initializer i) t ≡ put_initializer i t
same_initializer no_init t = refl
same_initializer (value_init e) t = same_expr e (put_word (codes "=") t)
same_initializer (list_init at es) t = ap (put_word (codes "}")) (same_exprs true es (put_word (codes "{") (put_word (codes "=") t)))

same_inits : (first : Bool) (ds : List InitDeclaratorTree) (t : Text) → put_init_declarators first (placeless_inits ds) t ≡ put_init_declarators first ds t
same_inits first [] t = refl
same_inits first (init_tree d i ∷ ds) t =
    ap (λ u. put_init_declarators false (placeless_inits ds) (put_initializer (placeless_initializer i) u)) (same_declarator d (separated first t))
    ∙ ap (put_init_declarators false (placeless_inits ds)) (same_initializer i (put_declarator d (separated first t)))
    ∙ same_inits false ds (put_initializer i (put_declarator d (separated first t)))

same_decl : (d : DeclTree) (t : Text) → put_decl (placeless_decl d) t ≡ put_decl d t
same_decl (decl_tree at s ds) t =
    ap (λ u. put_line (codes ";") (put_init_declarators true (placeless_inits ds) u)) (same_specifiers s t) ∙ ap (put_line (codes ";")) (same_inits true ds (put_specifiers s t))

same_optional : (e : Option ExprTree) (t : Text) → put_optional (placeless_optional e) t ≡ put_optional e t
same_optional None t = refl
same_optional (Some e) t = same_expr e t

same_first : (f : ForFirstTree) (t : Text) → put_first (placeless_first f) t ≡ put_first f t
same_first first_nothing t = refl
same_first (first_expr e) t = ap (put_word (codes ";")) (same_expr e t)
same_first (first_decl d) t = same_decl d t

same_label : (l : LabelTree) (t : Text) → put_label (placeless_label l) t ≡ put_label l t
same_label (case_tree at e) t = ap (put_line (codes ":")) (within e 2 (put_word (codes "case") t) (λ u. same_expr e u))
same_label (default_tree at) t = refl

same_labels : (ls : List LabelTree) (t : Text) → put_labels (placeless_labels ls) t ≡ put_labels ls t
same_labels [] t = refl
same_labels (l ∷ ls) t = ap (put_labels (placeless_labels ls)) (same_label l t) ∙ same_labels ls (put_label l t)

same_head : (word : List ℕ) (e : ExprTree) (t : Text) → put_head word (placeless_expr e) t ≡ put_head word e t
same_head word e t = ap (put_word (codes ")")) (same_expr e (put_word (codes "(") (put_word word t)))

same_for : (f : ForFirstTree) (c u : Option ExprTree) (t : Text) → put_for (placeless_first f) (placeless_optional c) (placeless_optional u) t ≡ put_for f c u t
same_for f c u t =
    let t1 = put_word (codes "(") (put_word (codes "for") t) in
    ap (λ v. put_word (codes ")") (put_optional (placeless_optional u) (put_word (codes ";") (put_optional (placeless_optional c) v)))) (same_first f t1)
    ∙ ap (λ v. put_word (codes ")") (put_optional (placeless_optional u) (put_word (codes ";") v))) (same_optional c (put_first f t1))
    ∙ ap (put_word (codes ")")) (same_optional u (put_word (codes ";") (put_optional c (put_first f t1))))

mutual
  same_stmt : (s : StmtTree) (t : Text) → put_stmt (placeless_stmt s) t ≡ put_stmt s t
  same_stmt (block_stmt at is) t = ap (put_line (codes "}")) (same_items is (put_line (codes "{") t))
  same_stmt (empty_stmt at) t = refl
  same_stmt (expr_stmt at e) t = ap (put_line (codes ";")) (same_expr e t)
  same_stmt (if_stmt at e a) t = ap (put_stmt (placeless_stmt a)) (same_head (codes "if") e t) ∙ same_stmt a (put_head (codes "if") e t)
  same_stmt (if_else_stmt at e a b) t =
      ap (λ u. put_stmt (placeless_stmt b) (put_word (codes "else") (put_stmt (placeless_stmt a) u))) (same_head (codes "if") e t)
      ∙ ap (λ u. put_stmt (placeless_stmt b) (put_word (codes "else") u)) (same_stmt a (put_head (codes "if") e t))
      ∙ same_stmt b (put_word (codes "else") (put_stmt a (put_head (codes "if") e t)))
  same_stmt (while_stmt at e a) t = ap (put_stmt (placeless_stmt a)) (same_head (codes "while") e t) ∙ same_stmt a (put_head (codes "while") e t)
  same_stmt (do_stmt at a e) t =
      ap (λ u. put_line (codes ";") (put_head (codes "while") (placeless_expr e) u)) (same_stmt a (put_word (codes "do") t))
      ∙ ap (put_line (codes ";")) (same_head (codes "while") e (put_stmt a (put_word (codes "do") t)))
  same_stmt (for_stmt at f c u a) t = ap (put_stmt (placeless_stmt a)) (same_for f c u t) ∙ same_stmt a (put_for f c u t)
  same_stmt (switch_stmt at e gs) t =
      ap (λ u. put_line (codes "}") (put_groups (placeless_groups gs) (put_line (codes "{") u))) (same_head (codes "switch") e t)
      ∙ ap (put_line (codes "}")) (same_groups gs (put_line (codes "{") (put_head (codes "switch") e t)))
  same_stmt (jump_stmt at j) t = refl
  same_stmt (return_stmt at e) t = ap (put_line (codes ";")) (same_optional e (put_word (codes "return") t))

  same_items : (is : ItemTrees) (t : Text) → put_items (placeless_items is) t ≡ put_items is t
  same_items no_item_trees t = refl
  same_items (decl_item d is) t = ap (put_items (placeless_items is)) (same_decl d t) ∙ same_items is (put_decl d t)
  same_items (stmt_item s is) t = ap (put_items (placeless_items is)) (same_stmt s t) ∙ same_items is (put_stmt s t)

  same_groups : (gs : GroupTrees) (t : Text) → put_groups (placeless_groups gs) t ≡ put_groups gs t
  same_groups no_group_trees t = refl
  same_groups (group_trees ls is gs) t =
      ap (λ u. put_groups (placeless_groups gs) (put_items (placeless_items is) u)) (same_labels ls t)
      ∙ ap (put_groups (placeless_groups gs)) (same_items is (put_labels ls t)) ∙ same_groups gs (put_items is (put_labels ls t))

same_external : (x : ExternalTree) (t : Text) → put_external (placeless_external x) t ≡ put_external x t
same_external (decl_external d) t = same_decl d t
same_external (function_external at s d body is) t =
    ap (λ u. put_line (codes "}") (put_items (placeless_items is) (put_line (codes "{") (put_declarator (placeless_declarator d) u)))) (same_specifiers s t)
    ∙ ap (λ u. put_line (codes "}") (put_items (placeless_items is) (put_line (codes "{") u))) (same_declarator d (put_specifiers s t))
    ∙ ap (put_line (codes "}")) (same_items is (put_line (codes "{") (put_declarator d (put_specifiers s t))))

same_externals : (xs : FileTree) (t : Text) → put_externals (placeless xs) t ≡ put_externals xs t
same_externals [] t = refl
same_externals (x ∷ xs) t = ap (put_externals (placeless xs)) (same_external x t) ∙ same_externals xs (put_external x t)

-- trees that are the same, places aside, have the same text
pub same_text : (x y : FileTree) → placeless x ≡ placeless y → file_text x ≡ file_text y
same_text x y e = sym (same_externals x []) ∙ ap (λ z. put_externals z []) e ∙ same_externals y []
