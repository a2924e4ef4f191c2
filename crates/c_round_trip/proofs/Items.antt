-- Lists of declarators with initializers, of labels, of items, of groups and of what stands in a file; and what the printed text of each part of a statement owes.
use Rattle.std.proofs.Common.{◌≡◌, ℕ, Bool, true, false, List, [], ◌∷◌, Option, codes, refl}
use Rattle.c_grammar.specs.Tokens as k
use Rattle.c_grammar.specs.Derivations.{Expression, Initializer, InitDeclarator, InitDeclarators, Declaration, ForFirst, Label, Labels, Statement, Items, Groups, File, init_declarator, no_init_declarators, init_declarators, first_label, next_label, no_items, declaration_item, statement_item, no_groups, group, empty_file, external_declaration, function_definition}
use Rattle.c_grammar.specs.Yield.{initializer_yield, init_declarator_yield, init_declarators_yield, declaration_yield, optional_yield, for_first_yield, label_yield, labels_yield, statement_yield, items_yield, groups_yield, file_yield}
use Rattle.c_grammar.specs.Spelling.{init_declarator_names, init_declarators_names, declaration_names, for_first_names, statement_names, items_names, groups_names, file_names, InitializerOk, InitDeclaratorOk, InitDeclaratorsOk, DeclarationOk, has_declarators, OptionalOk, ForFirstOk, LabelOk, LabelsOk, takes_else, has_items, ends_with_items, StatementOk, ItemsOk, GroupsOk, FileOk}
use Rattle.c_grammar.specs.Nesting.{initializer_nest, init_declarator_nest, init_declarators_nest, declaration_nest, optional_nest, for_first_nest, label_nest, labels_nest, statement_nest, items_nest, groups_nest, file_nest}
use Rattle.c_tree.specs.Trees.{InitDeclaratorTree, LabelTree, ItemTrees, GroupTrees, FileTree, no_specs, init_tree, no_item_trees, decl_item, stmt_item, group_trees, decl_external, function_external}
use Rattle.c_tree.specs.Printing.{Text, put_word, put_declarator}
use Rattle.c_tree.specs.Statements.{put_initializer, put_init_declarators, put_decl, put_optional, put_first, put_label, put_labels, put_stmt, put_items, put_groups, put_external, put_externals}
use Rattle.c_tree.specs.Reading.{start_of, specifiers_onto, declarator_tree, initializer_tree, init_declarator_tree, init_declarators_onto, declaration_tree, optional_tree, for_first_tree, label_tree, labels_onto, statement_tree, items_onto, groups_onto, file_onto}
use Rattle.c_round_trip.specs.Placeless.{placeless_initializer, placeless_init, placeless_inits, placeless_decl, placeless_first, placeless_optional, placeless_label, placeless_labels, placeless_stmt, placeless_items, placeless_groups, placeless}
use Rattle.c_round_trip.proofs.Prints.{Prints, Low, Nests, Opens}

abbrev pub after_init : InitDeclarator → Text → Text
after_init (init_declarator d i) t = put_initializer (initializer_tree i) (put_declarator (declarator_tree d) t)

-- behind declarators, each with its comma
abbrev pub after_inits : InitDeclarators → Text → Text
after_inits no_init_declarators t = t
after_inits (init_declarators ds d p) t = put_word (codes ",") (after_init d (after_inits ds t))

pub inits_text : (ds : InitDeclarators) (d : InitDeclarator) (r : List InitDeclaratorTree) (t : Text)
    → put_init_declarators true (init_declarators_onto ds (init_declarator_tree d ∷ r)) t ≡ put_init_declarators false r (after_init d (after_inits ds t))
inits_text no_init_declarators (init_declarator d i) r t = refl
inits_text (init_declarators ds e p) (init_declarator d i) r t = inits_text ds e (init_tree (declarator_tree d) (initializer_tree i) ∷ r) t

abbrev pub after_labels : Labels → Text → Text
after_labels (first_label l) t = put_label (label_tree l) t
after_labels (next_label ls l) t = put_label (label_tree l) (after_labels ls t)

pub labels_text : (ls : Labels) (r : List LabelTree) (t : Text) → put_labels (labels_onto ls r) t ≡ put_labels r (after_labels ls t)
labels_text (first_label l) r t = refl
labels_text (next_label ls l) r t = labels_text ls (label_tree l ∷ r) t

abbrev pub after_items : Items → Text → Text
after_items no_items t = t
after_items (declaration_item is d) t = put_decl (declaration_tree d) (after_items is t)
after_items (statement_item is s) t = put_stmt (statement_tree s) (after_items is t)

pub items_text : (is : Items) (r : ItemTrees) (t : Text) → put_items (items_onto is r) t ≡ put_items r (after_items is t)
items_text no_items r t = refl
items_text (declaration_item is d) r t = items_text is (decl_item (declaration_tree d) r) t
items_text (statement_item is s) r t = items_text is (stmt_item (statement_tree s) r) t

abbrev pub after_groups : Groups → Text → Text
after_groups no_groups t = t
after_groups (group gs ls is) t = put_items (items_onto is no_item_trees) (put_labels (labels_onto ls []) (after_groups gs t))

pub groups_text : (gs : Groups) (r : GroupTrees) (t : Text) → put_groups (groups_onto gs r) t ≡ put_groups r (after_groups gs t)
groups_text no_groups r t = refl
groups_text (group gs ls is) r t = groups_text gs (group_trees (labels_onto ls []) (items_onto is no_item_trees) r) t

abbrev pub after_file : File → Text → Text
after_file empty_file t = t
after_file (external_declaration f d) t = put_decl (declaration_tree d) (after_file f t)
after_file (function_definition f s d p is q) t =
    put_external (function_external (start_of s) (specifiers_onto s no_specs) (declarator_tree d) p (items_onto is no_item_trees)) (after_file f t)

pub externals_text : (f : File) (r : FileTree) (t : Text) → put_externals (file_onto f r) t ≡ put_externals r (after_file f t)
externals_text empty_file r t = refl
externals_text (external_declaration f d) r t = externals_text f (decl_external (declaration_tree d) ∷ r) t
externals_text (function_definition f s d p is q) r t =
    externals_text f (function_external (start_of s) (specifiers_onto s no_specs) (declarator_tree d) p (items_onto is no_item_trees) ∷ r) t

-- ## Declarations

pub record PrintedInitializer (ns : List k.Identifier) (i : Initializer) (t : Text) : Type 0 where
  pub now : Initializer
  pub ok : InitializerOk ns now
  pub same : placeless_initializer (initializer_tree now) ≡ placeless_initializer (initializer_tree i)
  pub prints : Prints (initializer_yield i) (initializer_yield now) t (put_initializer (initializer_tree i) t)
  pub fewer : Opens (λ n. n) (initializer_yield i) (initializer_yield now)
  pub nests : Nests (initializer_nest i) (initializer_nest now) 0

pub record PrintedInit (b : Bool) (ns : List k.Identifier) (d : InitDeclarator) (t : Text) : Type 0 where
  pub now : InitDeclarator
  pub ok : InitDeclaratorOk b ns now
  pub names : (ms : List k.Identifier) → init_declarator_names b now ms ≡ init_declarator_names b d ms
  pub same : placeless_init (init_declarator_tree now) ≡ placeless_init (init_declarator_tree d)
  pub prints : Prints (init_declarator_yield d) (init_declarator_yield now) t (after_init d t)
  pub fewer : Opens (λ n. n) (init_declarator_yield d) (init_declarator_yield now)
  pub nests : Nests (init_declarator_nest d) (init_declarator_nest now) 0

pub record PrintedInits (b : Bool) (ns : List k.Identifier) (ds : InitDeclarators) (t : Text) : Type 0 where
  pub now : InitDeclarators
  pub ok : InitDeclaratorsOk b ns now
  pub names : (ms : List k.Identifier) → init_declarators_names b now ms ≡ init_declarators_names b ds ms
  pub same : (r r' : List InitDeclaratorTree) → placeless_inits r' ≡ placeless_inits r → placeless_inits (init_declarators_onto now r') ≡ placeless_inits (init_declarators_onto ds r)
  pub prints : Prints (init_declarators_yield ds) (init_declarators_yield now) t (after_inits ds t)
  pub fewer : Opens (λ n. n) (init_declarators_yield ds) (init_declarators_yield now)
  pub nests : Nests (init_declarators_nest ds) (init_declarators_nest now) 0

pub record PrintedDeclaration (ns : List k.Identifier) (d : Declaration) (t : Text) : Type 0 where
  pub now : Declaration
  pub ok : DeclarationOk ns now
  pub names : (ms : List k.Identifier) → declaration_names now ms ≡ declaration_names d ms
  pub has : has_declarators now ≡ has_declarators d
  pub same : placeless_decl (declaration_tree now) ≡ placeless_decl (declaration_tree d)
  pub prints : Prints (declaration_yield d) (declaration_yield now) t (put_decl (declaration_tree d) t)
  pub fewer : Opens (λ n. n) (declaration_yield d) (declaration_yield now)
  pub nests : Nests (declaration_nest d) (declaration_nest now) 0

-- ## Parts of statements

pub record PrintedOptional (ns : List k.Identifier) (e : Option Expression) (t : Text) : Type 0 where
  pub now : Option Expression
  pub ok : OptionalOk ns now
  pub same : placeless_optional (optional_tree now) ≡ placeless_optional (optional_tree e)
  pub prints : Prints (optional_yield e) (optional_yield now) t (put_optional (optional_tree e) t)
  pub fewer : Opens (λ n. n) (optional_yield e) (optional_yield now)
  pub nests : Nests (optional_nest e) (optional_nest now) 0

pub record PrintedFirst (ns : List k.Identifier) (f : ForFirst) (t : Text) : Type 0 where
  pub now : ForFirst
  pub ok : ForFirstOk ns now
  pub names : (ms : List k.Identifier) → for_first_names now ms ≡ for_first_names f ms
  pub same : placeless_first (for_first_tree now) ≡ placeless_first (for_first_tree f)
  pub prints : Prints (for_first_yield f) (for_first_yield now) t (put_first (for_first_tree f) t)
  pub fewer : Opens (λ n. n) (for_first_yield f) (for_first_yield now)
  pub nests : Nests (for_first_nest f) (for_first_nest now) 0

pub record PrintedLabel (ns : List k.Identifier) (l : Label) (t : Text) : Type 0 where
  pub now : Label
  pub ok : LabelOk ns now
  pub same : placeless_label (label_tree now) ≡ placeless_label (label_tree l)
  pub prints : Prints (label_yield l) (label_yield now) t (put_label (label_tree l) t)
  pub fewer : Opens (λ n. n) (label_yield l) (label_yield now)
  pub nests : Nests (label_nest l) (label_nest now) 0

pub record PrintedLabels (ns : List k.Identifier) (ls : Labels) (t : Text) : Type 0 where
  pub now : Labels
  pub ok : LabelsOk ns now
  pub same : (r r' : List LabelTree) → placeless_labels r' ≡ placeless_labels r → placeless_labels (labels_onto now r') ≡ placeless_labels (labels_onto ls r)
  pub prints : Prints (labels_yield ls) (labels_yield now) t (after_labels ls t)
  pub fewer : Opens (λ n. n) (labels_yield ls) (labels_yield now)
  pub nests : Nests (labels_nest ls) (labels_nest now) 0

-- ## Statements

pub record PrintedStatement (ns : List k.Identifier) (s : Statement) (t : Text) : Type 0 where
  pub now : Statement
  pub ok : StatementOk ns now
  pub names : (ms : List k.Identifier) → statement_names now ms ≡ statement_names s ms
  pub takes : takes_else now ≡ takes_else s
  pub same : placeless_stmt (statement_tree now) ≡ placeless_stmt (statement_tree s)
  pub prints : Prints (statement_yield s) (statement_yield now) t (put_stmt (statement_tree s) t)
  pub fewer : Opens (λ n. n) (statement_yield s) (statement_yield now)
  pub nests : Nests (statement_nest s) (statement_nest now) 0

pub record PrintedItems (ns : List k.Identifier) (is : Items) (t : Text) : Type 0 where
  pub now : Items
  pub ok : ItemsOk ns now
  pub names : (ms : List k.Identifier) → items_names now ms ≡ items_names is ms
  pub has : has_items now ≡ has_items is
  pub same : (r r' : ItemTrees) → placeless_items r' ≡ placeless_items r → placeless_items (items_onto now r') ≡ placeless_items (items_onto is r)
  pub prints : Prints (items_yield is) (items_yield now) t (after_items is t)
  pub fewer : Opens (λ n. n) (items_yield is) (items_yield now)
  pub nests : Nests (items_nest is) (items_nest now) 0

pub record PrintedGroups (ns : List k.Identifier) (gs : Groups) (t : Text) : Type 0 where
  pub now : Groups
  pub ok : GroupsOk ns now
  pub names : (ms : List k.Identifier) → groups_names now ms ≡ groups_names gs ms
  pub ends : ends_with_items now ≡ ends_with_items gs
  pub same : (r r' : GroupTrees) → placeless_groups r' ≡ placeless_groups r → placeless_groups (groups_onto now r') ≡ placeless_groups (groups_onto gs r)
  pub prints : Prints (groups_yield gs) (groups_yield now) t (after_groups gs t)
  pub fewer : Opens (λ n. n) (groups_yield gs) (groups_yield now)
  pub nests : Nests (groups_nest gs) (groups_nest now) 0

pub record PrintedFile (f : File) (t : Text) : Type 0 where
  pub now : File
  pub ok : FileOk now
  pub names : file_names now ≡ file_names f
  pub same : (r r' : FileTree) → placeless r' ≡ placeless r → placeless (file_onto now r') ≡ placeless (file_onto f r)
  pub prints : Prints (file_yield f) (file_yield now) t (after_file f t)
  pub fewer : Opens (λ n. n) (file_yield f) (file_yield now)
  pub nests : (most : ℕ) (r0 r : List ℕ) → (Low most r0 → Low most r) → Low most (file_nest f r0) → Low most (file_nest now r)
