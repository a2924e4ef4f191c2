-- Worked files: the first fault of each, and the programs of some without faults.
use Rattle.std.specs.Prelude.{◌≡◌, ℕ, List, [], ◌∷◌, Option, Some, None, codes, refl, map}
use Rattle.c_grammar.specs.Tokens as k
use Rattle.c_tree.specs.Trees.{tagged, name_expr, constant_expr, index_expr, call_expr, member_expr, step_after_expr, unary_expr, binary_expr, assign_expr, no_exprs, exprs, left_out, stated, storage_specifier, words_specifier, reference_specifier, composite_specifier, enum_specifier, no_specs, specs, no_member_trees, member_trees, no_enumerator_trees, enumerator_trees, unnamed, named, pointer_to, array_of, function_of, no_declarator_trees, declarator_trees, no_parameter_trees, parameter_trees, no_init, value_init, list_init, init_tree, decl_tree, first_decl, case_tree, empty_stmt, expr_stmt, if_stmt, for_stmt, switch_stmt, return_stmt, no_item_trees, decl_item, stmt_item, no_group_trees, group_trees, decl_external, function_external, FileTree}
use Rattle.clight_types.specs.declared.rule.Fault.{Fault}
use Rattle.clight_types.specs.Rules.{rule_number}
use Rattle.tso_words.specs.declared.value.Chunk.TheVariants as chunk
use Rattle.tso_words.specs.declared.operator.Op.TheVariants as op
use Rattle.tso_words.specs.declared.operator.Cond.TheVariants as cond
use Rattle.clight_lang.specs.Syntax.{Const, Temp, LocalAddr, GlobalAddr, Read, Binary, Statements, Nil, Cons, Skip, Set, Store, External, Block, If, Loop, Break, Return}
use Rattle.clight_lang.specs.Meaning.{ProgramOf}
use Rattle.clight_lang.specs.MainAlone.{returned}
use Rattle.clight_types.specs.Judged.{made_of}
use Rattle.clight_files.specs.Files.{file_judged, file_faults}
use Rattle.clight_meaning.specs.Meaning.{program_meant}

-- the number and the place of the first fault
abbrev first_fault : List Fault → Option (ℕ × ℕ)
first_fault [] = None
first_fault (f ∷ fs) = Some (rule_number f.rule, f.at)

-- what is shown of a program: its functions with their types, parameters, temporaries, nodes, locals, places of parameters and bodies; its globals; the parameters of its function types; its external functions
abbrev Shown : Type 0
Shown = List (List ℕ × ℕ × ℕ × ℕ × ℕ × List (ℕ × ℕ) × List (ℕ × ℕ) × List (ℕ × ℕ) × Statements) × List (List ℕ × ℕ × ℕ × List ℕ) × List ℕ × List (List ℕ × ℕ)

abbrev shown : Option ProgramOf → Option Shown
shown None = None
shown (Some p) = Some (map (λ f. (f.name, f.function_type, f.parameters, f.temps, f.room.nodes, map (λ l. (l.size, l.align)) f.locals, map (λ t. (t.argument, t.temp)) f.taken, map (λ t. (t.argument, t.local)) f.kept, f.body)) p.functions, p.globals.objects, p.types, map (λ x. (x.name, x.function_type)) p.externals)

abbrev program_in : ℕ → FileTree → Option Shown
program_in n f = shown (program_meant f (made_of (file_judged n f)))

-- int main(void) { return x; }
undeclared : first_fault (file_faults 28 (function_external 0 (specs (words_specifier 0 (k.Int ∷ [])) no_specs) (function_of (named 4 (codes "main")) no_parameter_trees) 15 (stmt_item (return_stmt 17 (Some (name_expr 24 (codes "x")))) no_item_trees) ∷ [])) ≡ Some (4, 24)
undeclared = refl

-- int x; int x; int main(void) { return 0; }
defined_twice : first_fault (file_faults 42 (decl_external (decl_tree 0 (specs (words_specifier 0 (k.Int ∷ [])) no_specs) (init_tree (named 4 (codes "x")) no_init ∷ [])) ∷ decl_external (decl_tree 7 (specs (words_specifier 7 (k.Int ∷ [])) no_specs) (init_tree (named 11 (codes "x")) no_init ∷ [])) ∷ function_external 14 (specs (words_specifier 14 (k.Int ∷ [])) no_specs) (function_of (named 18 (codes "main")) no_parameter_trees) 29 (stmt_item (return_stmt 31 (Some (constant_expr 38 (k.Decimal 0)))) no_item_trees) ∷ [])) ≡ Some (5, 11)
defined_twice = refl

-- int x; extern char x; int main(void) { return 0; }
types_differ : first_fault (file_faults 50 (decl_external (decl_tree 0 (specs (words_specifier 0 (k.Int ∷ [])) no_specs) (init_tree (named 4 (codes "x")) no_init ∷ [])) ∷ decl_external (decl_tree 7 (specs (storage_specifier 7 k.Extern) (specs (words_specifier 14 (k.Char ∷ [])) no_specs)) (init_tree (named 19 (codes "x")) no_init ∷ [])) ∷ function_external 22 (specs (words_specifier 22 (k.Int ∷ [])) no_specs) (function_of (named 26 (codes "main")) no_parameter_trees) 37 (stmt_item (return_stmt 39 (Some (constant_expr 46 (k.Decimal 0)))) no_item_trees) ∷ [])) ≡ Some (6, 19)
types_differ = refl

-- struct s { struct s t; }; int main(void) { return 0; }
incomplete_member : first_fault (file_faults 54 (decl_external (decl_tree 0 (specs (composite_specifier 0 k.Struct (tagged 7 (codes "s")) 9 (member_trees 11 (specs (reference_specifier 11 k.Struct 18 (codes "s")) no_specs) (declarator_trees (named 20 (codes "t")) no_declarator_trees) no_member_trees)) no_specs) ([])) ∷ function_external 26 (specs (words_specifier 26 (k.Int ∷ [])) no_specs) (function_of (named 30 (codes "main")) no_parameter_trees) 41 (stmt_item (return_stmt 43 (Some (constant_expr 50 (k.Decimal 0)))) no_item_trees) ∷ [])) ≡ Some (7, 20)
incomplete_member = refl

-- struct s { int a; }; enum s { A }; int main(void) { return 0; }
tag_twice : first_fault (file_faults 63 (decl_external (decl_tree 0 (specs (composite_specifier 0 k.Struct (tagged 7 (codes "s")) 9 (member_trees 11 (specs (words_specifier 11 (k.Int ∷ [])) no_specs) (declarator_trees (named 15 (codes "a")) no_declarator_trees) no_member_trees)) no_specs) ([])) ∷ decl_external (decl_tree 21 (specs (enum_specifier 21 (tagged 26 (codes "s")) 28 (enumerator_trees 30 (codes "A") left_out no_enumerator_trees)) no_specs) ([])) ∷ function_external 35 (specs (words_specifier 35 (k.Int ∷ [])) no_specs) (function_of (named 39 (codes "main")) no_parameter_trees) 50 (stmt_item (return_stmt 52 (Some (constant_expr 59 (k.Decimal 0)))) no_item_trees) ∷ [])) ≡ Some (8, 26)
tag_twice = refl

-- int a[2][0]; int main(void) { return 0; }
no_length : first_fault (file_faults 41 (decl_external (decl_tree 0 (specs (words_specifier 0 (k.Int ∷ [])) no_specs) (init_tree (array_of (array_of (named 4 (codes "a")) (stated (constant_expr 6 (k.Decimal 2)))) (stated (constant_expr 9 (k.Decimal 0)))) no_init ∷ [])) ∷ function_external 13 (specs (words_specifier 13 (k.Int ∷ [])) no_specs) (function_of (named 17 (codes "main")) no_parameter_trees) 28 (stmt_item (return_stmt 30 (Some (constant_expr 37 (k.Decimal 0)))) no_item_trees) ∷ [])) ≡ Some (9, 4)
no_length = refl

-- int a[8][1000000]; int main(void) { return 0; }
too_large : first_fault (file_faults 47 (decl_external (decl_tree 0 (specs (words_specifier 0 (k.Int ∷ [])) no_specs) (init_tree (array_of (array_of (named 4 (codes "a")) (stated (constant_expr 6 (k.Decimal 8)))) (stated (constant_expr 9 (k.Decimal 1000000)))) no_init ∷ [])) ∷ function_external 19 (specs (words_specifier 19 (k.Int ∷ [])) no_specs) (function_of (named 23 (codes "main")) no_parameter_trees) 34 (stmt_item (return_stmt 36 (Some (constant_expr 43 (k.Decimal 0)))) no_item_trees) ∷ [])) ≡ Some (10, 4)
too_large = refl

-- struct s { int a; } g; int f(struct s p); int main(void) { return 0; }
struct_passed : first_fault (file_faults 70 (decl_external (decl_tree 0 (specs (composite_specifier 0 k.Struct (tagged 7 (codes "s")) 9 (member_trees 11 (specs (words_specifier 11 (k.Int ∷ [])) no_specs) (declarator_trees (named 15 (codes "a")) no_declarator_trees) no_member_trees)) no_specs) (init_tree (named 20 (codes "g")) no_init ∷ [])) ∷ decl_external (decl_tree 23 (specs (words_specifier 23 (k.Int ∷ [])) no_specs) (init_tree (function_of (named 27 (codes "f")) (parameter_trees 29 (specs (reference_specifier 29 k.Struct 36 (codes "s")) no_specs) (named 38 (codes "p")) no_parameter_trees)) no_init ∷ [])) ∷ function_external 42 (specs (words_specifier 42 (k.Int ∷ [])) no_specs) (function_of (named 46 (codes "main")) no_parameter_trees) 57 (stmt_item (return_stmt 59 (Some (constant_expr 66 (k.Decimal 0)))) no_item_trees) ∷ [])) ≡ Some (11, 38)
struct_passed = refl

-- int x; int y = x + 1; int main(void) { return 0; }
not_constant : first_fault (file_faults 50 (decl_external (decl_tree 0 (specs (words_specifier 0 (k.Int ∷ [])) no_specs) (init_tree (named 4 (codes "x")) no_init ∷ [])) ∷ decl_external (decl_tree 7 (specs (words_specifier 7 (k.Int ∷ [])) no_specs) (init_tree (named 11 (codes "y")) (value_init (binary_expr 15 17 k.Plus (name_expr 15 (codes "x")) (constant_expr 19 (k.Decimal 1)))) ∷ [])) ∷ function_external 22 (specs (words_specifier 22 (k.Int ∷ [])) no_specs) (function_of (named 26 (codes "main")) no_parameter_trees) 37 (stmt_item (return_stmt 39 (Some (constant_expr 46 (k.Decimal 0)))) no_item_trees) ∷ [])) ≡ Some (13, 15)
not_constant = refl

-- int f(void) { return 1; }
no_main : first_fault (file_faults 25 (function_external 0 (specs (words_specifier 0 (k.Int ∷ [])) no_specs) (function_of (named 4 (codes "f")) no_parameter_trees) 12 (stmt_item (return_stmt 14 (Some (constant_expr 21 (k.Decimal 1)))) no_item_trees) ∷ [])) ≡ Some (14, 25)
no_main = refl

-- int main(void) { int *p; p = 0; return p * 2; }
operands : first_fault (file_faults 47 (function_external 0 (specs (words_specifier 0 (k.Int ∷ [])) no_specs) (function_of (named 4 (codes "main")) no_parameter_trees) 15 (decl_item (decl_tree 17 (specs (words_specifier 17 (k.Int ∷ [])) no_specs) (init_tree (pointer_to [] (named 22 (codes "p"))) no_init ∷ [])) (stmt_item (expr_stmt 25 (assign_expr 25 27 k.Equals (name_expr 25 (codes "p")) (constant_expr 29 (k.Decimal 0)))) (stmt_item (return_stmt 32 (Some (binary_expr 39 41 k.Star (name_expr 39 (codes "p")) (constant_expr 43 (k.Decimal 2))))) no_item_trees))) ∷ [])) ≡ Some (15, 41)
operands = refl

-- int main(void) { 3 = 4; return 0; }
not_assignable : first_fault (file_faults 35 (function_external 0 (specs (words_specifier 0 (k.Int ∷ [])) no_specs) (function_of (named 4 (codes "main")) no_parameter_trees) 15 (stmt_item (expr_stmt 17 (assign_expr 17 19 k.Equals (constant_expr 17 (k.Decimal 3)) (constant_expr 21 (k.Decimal 4)))) (stmt_item (return_stmt 24 (Some (constant_expr 31 (k.Decimal 0)))) no_item_trees)) ∷ [])) ≡ Some (16, 19)
not_assignable = refl

-- int main(void) { char *p; int *q; p = 0; q = p; return 0; }
needs_cast : first_fault (file_faults 59 (function_external 0 (specs (words_specifier 0 (k.Int ∷ [])) no_specs) (function_of (named 4 (codes "main")) no_parameter_trees) 15 (decl_item (decl_tree 17 (specs (words_specifier 17 (k.Char ∷ [])) no_specs) (init_tree (pointer_to [] (named 23 (codes "p"))) no_init ∷ [])) (decl_item (decl_tree 26 (specs (words_specifier 26 (k.Int ∷ [])) no_specs) (init_tree (pointer_to [] (named 31 (codes "q"))) no_init ∷ [])) (stmt_item (expr_stmt 34 (assign_expr 34 36 k.Equals (name_expr 34 (codes "p")) (constant_expr 38 (k.Decimal 0)))) (stmt_item (expr_stmt 41 (assign_expr 41 43 k.Equals (name_expr 41 (codes "q")) (name_expr 45 (codes "p")))) (stmt_item (return_stmt 48 (Some (constant_expr 55 (k.Decimal 0)))) no_item_trees))))) ∷ [])) ≡ Some (17, 45)
needs_cast = refl

-- int f(int a) { return a; } int main(void) { return f(1, 2); }
two_arguments : first_fault (file_faults 61 (function_external 0 (specs (words_specifier 0 (k.Int ∷ [])) no_specs) (function_of (named 4 (codes "f")) (parameter_trees 6 (specs (words_specifier 6 (k.Int ∷ [])) no_specs) (named 10 (codes "a")) no_parameter_trees)) 13 (stmt_item (return_stmt 15 (Some (name_expr 22 (codes "a")))) no_item_trees) ∷ function_external 27 (specs (words_specifier 27 (k.Int ∷ [])) no_specs) (function_of (named 31 (codes "main")) no_parameter_trees) 42 (stmt_item (return_stmt 44 (Some (call_expr 51 52 (name_expr 51 (codes "f")) (exprs (constant_expr 53 (k.Decimal 1)) (exprs (constant_expr 56 (k.Decimal 2)) no_exprs))))) no_item_trees) ∷ [])) ≡ Some (18, 51)
two_arguments = refl

-- int main(void) { switch (3) { case 1 + 2: case 3: ; } return 0; }
label_twice : first_fault (file_faults 65 (function_external 0 (specs (words_specifier 0 (k.Int ∷ [])) no_specs) (function_of (named 4 (codes "main")) no_parameter_trees) 15 (stmt_item (switch_stmt 17 (constant_expr 25 (k.Decimal 3)) (group_trees (case_tree 30 (binary_expr 35 37 k.Plus (constant_expr 35 (k.Decimal 1)) (constant_expr 39 (k.Decimal 2))) ∷ case_tree 42 (constant_expr 47 (k.Decimal 3)) ∷ []) (stmt_item (empty_stmt 50) no_item_trees) no_group_trees)) (stmt_item (return_stmt 54 (Some (constant_expr 61 (k.Decimal 0)))) no_item_trees)) ∷ [])) ≡ Some (19, 42)
label_twice = refl

-- int main(void) { int x = 1; if (x = 2) ; return x; }
misplaced : first_fault (file_faults 52 (function_external 0 (specs (words_specifier 0 (k.Int ∷ [])) no_specs) (function_of (named 4 (codes "main")) no_parameter_trees) 15 (decl_item (decl_tree 17 (specs (words_specifier 17 (k.Int ∷ [])) no_specs) (init_tree (named 21 (codes "x")) (value_init (constant_expr 25 (k.Decimal 1))) ∷ [])) (stmt_item (if_stmt 28 (assign_expr 32 34 k.Equals (name_expr 32 (codes "x")) (constant_expr 36 (k.Decimal 2))) (empty_stmt 39)) (stmt_item (return_stmt 41 (Some (name_expr 48 (codes "x")))) no_item_trees))) ∷ [])) ≡ Some (23, 34)
misplaced = refl

-- static int f(void); int main(void) { return 0; }
never_defined : first_fault (file_faults 48 (decl_external (decl_tree 0 (specs (storage_specifier 0 k.Static) (specs (words_specifier 7 (k.Int ∷ [])) no_specs)) (init_tree (function_of (named 11 (codes "f")) no_parameter_trees) no_init ∷ [])) ∷ function_external 20 (specs (words_specifier 20 (k.Int ∷ [])) no_specs) (function_of (named 24 (codes "main")) no_parameter_trees) 35 (stmt_item (return_stmt 37 (Some (constant_expr 44 (k.Decimal 0)))) no_item_trees) ∷ [])) ≡ Some (29, 11)
never_defined = refl

-- int main(void) { float x; return y; }
two_faults : first_fault (file_faults 37 (function_external 0 (specs (words_specifier 0 (k.Int ∷ [])) no_specs) (function_of (named 4 (codes "main")) no_parameter_trees) 15 (decl_item (decl_tree 17 (specs (words_specifier 17 (k.Float ∷ [])) no_specs) (init_tree (named 23 (codes "x")) no_init ∷ [])) (stmt_item (return_stmt 26 (Some (name_expr 33 (codes "y")))) no_item_trees)) ∷ [])) ≡ Some (1, 17)
two_faults = refl

-- int main(void) { return 7; }
abbrev seven : FileTree
seven = function_external 0 (specs (words_specifier 0 (k.Int ∷ [])) no_specs) (function_of (named 4 (codes "main")) no_parameter_trees) 15 (stmt_item (return_stmt 17 (Some (constant_expr 24 (k.Decimal 7)))) no_item_trees) ∷ []

-- int f(int n) { return f(n); } int main(void) { return f(0); }
abbrev recursive : FileTree
recursive =
    function_external 0 (specs (words_specifier 0 (k.Int ∷ [])) no_specs) (function_of (named 4 (codes "f")) (parameter_trees 6 (specs (words_specifier 6 (k.Int ∷ [])) no_specs) (named 10 (codes "n")) no_parameter_trees)) 13 (stmt_item (return_stmt 15 (Some (call_expr 22 23 (name_expr 22 (codes "f")) (exprs (name_expr 24 (codes "n")) no_exprs)))) no_item_trees)
    ∷ function_external 30 (specs (words_specifier 30 (k.Int ∷ [])) no_specs) (function_of (named 34 (codes "main")) no_parameter_trees) 45 (stmt_item (return_stmt 47 (Some (call_expr 54 55 (name_expr 54 (codes "f")) (exprs (constant_expr 56 (k.Decimal 0)) no_exprs)))) no_item_trees) ∷ []

-- int main(void) { return 7; }
gives_seven : program_meant seven (made_of (file_judged 28 seven)) ≡ Some (returned 7)
gives_seven = refl

-- the frame that each function of a program states, and the bytes that it needs
abbrev rooms : Option ProgramOf → List (ℕ × ℕ × ℕ)
rooms None = []
rooms (Some p) = map (λ f. (f.room.nodes, f.room.stated, f.room.needed)) p.functions

-- int f(int n) { return f(n); } int main(void) { return f(0); }
calls_itself : rooms (program_meant recursive (made_of (file_judged 61 recursive))) ≡ (6, 444, 8) ∷ (5, 376, 4) ∷ []
calls_itself = refl

-- int x; int main(void) { int y; y = x + 1; x = y; return y; }
adds_one : program_in 60 (decl_external (decl_tree 0 (specs (words_specifier 0 (k.Int ∷ [])) no_specs) (init_tree (named 4 (codes "x")) no_init ∷ [])) ∷ function_external 7 (specs (words_specifier 7 (k.Int ∷ [])) no_specs) (function_of (named 11 (codes "main")) no_parameter_trees) 22 (decl_item (decl_tree 24 (specs (words_specifier 24 (k.Int ∷ [])) no_specs) (init_tree (named 28 (codes "y")) no_init ∷ [])) (stmt_item (expr_stmt 31 (assign_expr 31 33 k.Equals (name_expr 31 (codes "y")) (binary_expr 35 37 k.Plus (name_expr 35 (codes "x")) (constant_expr 39 (k.Decimal 1))))) (stmt_item (expr_stmt 42 (assign_expr 42 44 k.Equals (name_expr 42 (codes "x")) (name_expr 46 (codes "y")))) (stmt_item (return_stmt 49 (Some (name_expr 56 (codes "y")))) no_item_trees)))) ∷ []) ≡ Some ((((codes "main"), 0, 0, 1, 14, ([]), ([]), ([]), (Cons (Set 0 (Binary op.Add (Read chunk.I32 (GlobalAddr (codes "x"))) (Const 1))) (Cons (Store chunk.I32 (GlobalAddr (codes "x")) (Temp 0)) (Cons (Return (Some (Temp 0))) Nil)))) ∷ []), (((codes "x"), 4, 4, ([])) ∷ []), (0 ∷ []), ([]))
adds_one = refl

-- int a[3] = { 1, 2 }; int main(void) { int *p = a; for (int i = 0; i < 2; i++) p[i] += a[i + 1]; return *(p + 1); }
scales_and_loops : program_in 114 (decl_external (decl_tree 0 (specs (words_specifier 0 (k.Int ∷ [])) no_specs) (init_tree (array_of (named 4 (codes "a")) (stated (constant_expr 6 (k.Decimal 3)))) (list_init 11 (exprs (constant_expr 13 (k.Decimal 1)) (exprs (constant_expr 16 (k.Decimal 2)) no_exprs))) ∷ [])) ∷ function_external 21 (specs (words_specifier 21 (k.Int ∷ [])) no_specs) (function_of (named 25 (codes "main")) no_parameter_trees) 36 (decl_item (decl_tree 38 (specs (words_specifier 38 (k.Int ∷ [])) no_specs) (init_tree (pointer_to [] (named 43 (codes "p"))) (value_init (name_expr 47 (codes "a"))) ∷ [])) (stmt_item (for_stmt 50 (first_decl (decl_tree 55 (specs (words_specifier 55 (k.Int ∷ [])) no_specs) (init_tree (named 59 (codes "i")) (value_init (constant_expr 63 (k.Decimal 0))) ∷ []))) (Some (binary_expr 66 68 k.Less (name_expr 66 (codes "i")) (constant_expr 70 (k.Decimal 2)))) (Some (step_after_expr 73 74 (name_expr 73 (codes "i")) k.Increase)) (expr_stmt 78 (assign_expr 78 83 k.PlusEquals (index_expr 78 79 (name_expr 78 (codes "p")) (name_expr 80 (codes "i"))) (index_expr 86 87 (name_expr 86 (codes "a")) (binary_expr 88 90 k.Plus (name_expr 88 (codes "i")) (constant_expr 92 (k.Decimal 1))))))) (stmt_item (return_stmt 96 (Some (unary_expr 103 k.Star (binary_expr 105 107 k.Plus (name_expr 105 (codes "p")) (constant_expr 109 (k.Decimal 1)))))) no_item_trees))) ∷ []) ≡ Some ((((codes "main"), 0, 0, 3, 26, ([]), ([]), ([]), (Cons (Set 0 (GlobalAddr (codes "a"))) (Cons (Block (Cons (Set 1 (Const 0)) (Cons (Loop (Block (Cons (If (Binary (op.Cmp cond.LtS) (Temp 1) (Const 2)) Skip Break) (Cons (Block (Cons (Set 2 (Binary op.Add (Temp 0) (Binary op.Mul (Temp 1) (Const 4)))) (Cons (Store chunk.I32 (Temp 2) (Binary op.Add (Read chunk.I32 (Temp 2)) (Read chunk.I32 (Binary op.Add (GlobalAddr (codes "a")) (Binary op.Mul (Binary op.Add (Temp 1) (Const 1)) (Const 4)))))) Nil))) Nil))) (Set 1 (Binary op.Add (Temp 1) (Const 1)))) Nil))) (Cons (Return (Some (Read chunk.I32 (Binary op.Add (Temp 0) (Binary op.Mul (Const 1) (Const 4)))))) Nil)))) ∷ []), (((codes "a"), 12, 4, (1 ∷ 0 ∷ 0 ∷ 0 ∷ 2 ∷ 0 ∷ 0 ∷ 0 ∷ [])) ∷ []), (0 ∷ []), ([]))
scales_and_loops = refl

-- void print(int); struct s { char c; int n; } g; int main(void) { int x = 5; int *p = &x; g.n = *p; print(g.n); return 0; }
keeps_in_memory : program_in 122 (decl_external (decl_tree 0 (specs (words_specifier 0 (k.Void ∷ [])) no_specs) (init_tree (function_of (named 5 (codes "print")) (parameter_trees 11 (specs (words_specifier 11 (k.Int ∷ [])) no_specs) unnamed no_parameter_trees)) no_init ∷ [])) ∷ decl_external (decl_tree 17 (specs (composite_specifier 17 k.Struct (tagged 24 (codes "s")) 26 (member_trees 28 (specs (words_specifier 28 (k.Char ∷ [])) no_specs) (declarator_trees (named 33 (codes "c")) no_declarator_trees) (member_trees 36 (specs (words_specifier 36 (k.Int ∷ [])) no_specs) (declarator_trees (named 40 (codes "n")) no_declarator_trees) no_member_trees))) no_specs) (init_tree (named 45 (codes "g")) no_init ∷ [])) ∷ function_external 48 (specs (words_specifier 48 (k.Int ∷ [])) no_specs) (function_of (named 52 (codes "main")) no_parameter_trees) 63 (decl_item (decl_tree 65 (specs (words_specifier 65 (k.Int ∷ [])) no_specs) (init_tree (named 69 (codes "x")) (value_init (constant_expr 73 (k.Decimal 5))) ∷ [])) (decl_item (decl_tree 76 (specs (words_specifier 76 (k.Int ∷ [])) no_specs) (init_tree (pointer_to [] (named 81 (codes "p"))) (value_init (unary_expr 85 k.Ampersand (name_expr 86 (codes "x")))) ∷ [])) (stmt_item (expr_stmt 89 (assign_expr 89 93 k.Equals (member_expr 89 90 (name_expr 89 (codes "g")) k.Dot 91 (codes "n")) (unary_expr 95 k.Star (name_expr 96 (codes "p"))))) (stmt_item (expr_stmt 99 (call_expr 99 104 (name_expr 99 (codes "print")) (exprs (member_expr 105 106 (name_expr 105 (codes "g")) k.Dot 107 (codes "n")) no_exprs))) (stmt_item (return_stmt 111 (Some (constant_expr 118 (k.Decimal 0)))) no_item_trees))))) ∷ []) ≡ Some ((((codes "main"), 1, 0, 2, 19, ((4, 4) ∷ []), ([]), ([]), (Cons (Store chunk.I32 (LocalAddr 0) (Const 5)) (Cons (Set 0 (LocalAddr 0)) (Cons (Store chunk.I32 (Binary op.Add (GlobalAddr (codes "g")) (Const 4)) (Read chunk.I32 (Temp 0))) (Cons (External 1 (codes "print") 0 ((Read chunk.I32 (Binary op.Add (GlobalAddr (codes "g")) (Const 4))) ∷ [])) (Cons (Return (Some (Const 0))) Nil)))))) ∷ []), (((codes "g"), 8, 4, ([])) ∷ []), (1 ∷ 0 ∷ []), (((codes "print"), 0) ∷ []))
keeps_in_memory = refl
