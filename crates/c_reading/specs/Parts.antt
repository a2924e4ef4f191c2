-- Whole parts of a file as the reader holds them: the tree, and what is asked of a part without looking into it. A height is the number of marked symbols above a part's deepest token, counted from the part on, and at most 255.
use Rattle.std.specs.Prelude.{ℕ, ◌+◌, Bool, true, false, cond, not, nat_eq, nat_le, List, [], ◌∷◌, ◌++◌, Option, Some, None, length, suc, min, max, ◌&&◌, ◌||◌}
use Rattle.c_tree.specs.Trees.{TagTree, ExprTree, name_expr, constant_expr, index_expr, call_expr, member_expr, step_after_expr, step_before_expr, unary_expr, sizeof_expr, sizeof_type_expr, cast_expr, binary_expr, cond_expr, assign_expr, ExprTrees, no_exprs, exprs, MaybeTree, left_out, stated, TypeTree, type_tree, SpecifierTree, storage_specifier, qualifier_specifier, inline_specifier, words_specifier, typedef_specifier, reference_specifier, composite_specifier, enum_reference_specifier, enum_specifier, SpecifierTrees, no_specs, specs, MemberTrees, no_member_trees, member_trees, EnumeratorTrees, no_enumerator_trees, enumerator_trees, DeclaratorTree, unnamed, named, pointer_to, array_of, function_of, DeclaratorTrees, no_declarator_trees, declarator_trees, ParameterTrees, no_parameter_trees, parameter_trees, InitializerTree, no_init, value_init, list_init, InitDeclaratorTree, init_tree, DeclTree, decl_tree, ForFirstTree, first_nothing, first_expr, first_decl, LabelTree, case_tree, default_tree, StmtTree, block_stmt, empty_stmt, expr_stmt, if_stmt, if_else_stmt, while_stmt, do_stmt, for_stmt, switch_stmt, jump_stmt, return_stmt, ItemTrees, no_item_trees, decl_item, stmt_item, GroupTrees, no_group_trees, group_trees, decl_external, function_external, FileTree}
use Rattle.c_grammar.specs.Spelling.{is_typedef_word, same_word, precedence}
use Rattle.c_grammar.specs.Tokens.{Identifier, Place, Number, Operator, AssignmentOperator, Increment, Access, TypeWord, Void, Char, Short, Int, Long, Double, Signed, Unsigned, Qualifier, StorageClass, CompositeWord, Jump}

-- one mark more
abbrev pub deeper : ℕ → ℕ
deeper n = min (suc n) 255

-- the nesting of the deepest token of a part of this height below so many marks
abbrev pub over : ℕ → ℕ → ℕ
over n height = min (n + height) 255

-- ## Lists, with one more item at the end

abbrev pub add_expr : ExprTrees → ExprTree → ExprTrees
add_expr no_exprs e = exprs e no_exprs
add_expr (exprs x xs) e = exprs x (add_expr xs e)

abbrev pub add_spec : SpecifierTrees → SpecifierTree → SpecifierTrees
add_spec no_specs s = specs s no_specs
add_spec (specs x xs) s = specs x (add_spec xs s)

abbrev pub add_member_tree : MemberTrees → Place → SpecifierTrees → DeclaratorTrees → MemberTrees
add_member_tree no_member_trees p s ds = member_trees p s ds no_member_trees
add_member_tree (member_trees at x y xs) p s ds = member_trees at x y (add_member_tree xs p s ds)

abbrev pub add_enumerator_tree : EnumeratorTrees → Place → Identifier → MaybeTree → EnumeratorTrees
add_enumerator_tree no_enumerator_trees p x v = enumerator_trees p x v no_enumerator_trees
add_enumerator_tree (enumerator_trees at y u xs) p x v = enumerator_trees at y u (add_enumerator_tree xs p x v)

abbrev pub add_declarator_tree : DeclaratorTrees → DeclaratorTree → DeclaratorTrees
add_declarator_tree no_declarator_trees d = declarator_trees d no_declarator_trees
add_declarator_tree (declarator_trees x xs) d = declarator_trees x (add_declarator_tree xs d)

abbrev pub add_parameter_tree : ParameterTrees → Place → SpecifierTrees → DeclaratorTree → ParameterTrees
add_parameter_tree no_parameter_trees p s d = parameter_trees p s d no_parameter_trees
add_parameter_tree (parameter_trees at x y xs) p s d = parameter_trees at x y (add_parameter_tree xs p s d)

abbrev pub add_decl_item : ItemTrees → DeclTree → ItemTrees
add_decl_item no_item_trees d = decl_item d no_item_trees
add_decl_item (decl_item x xs) d = decl_item x (add_decl_item xs d)
add_decl_item (stmt_item x xs) d = stmt_item x (add_decl_item xs d)

abbrev pub add_stmt_item : ItemTrees → StmtTree → ItemTrees
add_stmt_item no_item_trees s = stmt_item s no_item_trees
add_stmt_item (decl_item x xs) s = decl_item x (add_stmt_item xs s)
add_stmt_item (stmt_item x xs) s = stmt_item x (add_stmt_item xs s)

abbrev pub add_group_tree : GroupTrees → List LabelTree → ItemTrees → GroupTrees
add_group_tree no_group_trees ls is = group_trees ls is no_group_trees
add_group_tree (group_trees x y xs) ls is = group_trees x y (add_group_tree xs ls is)

-- ## Expressions

-- an expression: its tree, the place of its first token, how tightly it binds
pub record ExprPart : Type 0 where
  pub tree : ExprTree
  pub start : Place
  pub level : ℕ
  pub height : ℕ

pub record ArgumentsPart : Type 0 where
  pub trees : ExprTrees
  pub height : ℕ

pub record TypePart : Type 0 where
  pub tree : TypeTree
  pub height : ℕ

abbrev pub name_part : Place → Identifier → ExprPart
name_part p x = record { tree = name_expr p x; start = p; level = 15; height = 0 }

abbrev pub constant_part : Place → Number → ExprPart
constant_part p n = record { tree = constant_expr p n; start = p; level = 15; height = 0 }

abbrev pub parentheses_part : Place → ExprPart → ExprPart
parentheses_part p e = record { tree = e.tree; start = p; level = 15; height = deeper e.height }

abbrev pub index_part : ExprPart → Place → ExprPart → ExprPart
index_part e p i = record { tree = index_expr e.start p e.tree i.tree; start = e.start; level = 15; height = deeper (max e.height i.height) }

abbrev pub no_argument : ArgumentsPart
no_argument = record { trees = no_exprs; height = 0 }

abbrev pub add_argument : ArgumentsPart → ExprPart → ArgumentsPart
add_argument xs e = record { trees = add_expr xs.trees e.tree; height = max xs.height e.height }

abbrev pub call_part : ExprPart → Place → ArgumentsPart → ExprPart
call_part f p xs = record { tree = call_expr f.start p f.tree xs.trees; start = f.start; level = 15; height = deeper (max f.height xs.height) }

abbrev pub member_part : ExprPart → Place → Access → Place → Identifier → ExprPart
member_part e p o q x = record { tree = member_expr e.start p e.tree o q x; start = e.start; level = 15; height = deeper e.height }

abbrev pub step_after_part : ExprPart → Place → Increment → ExprPart
step_after_part e p o = record { tree = step_after_expr e.start p e.tree o; start = e.start; level = 15; height = deeper e.height }

abbrev pub step_before_part : Place → Increment → ExprPart → ExprPart
step_before_part p o e = record { tree = step_before_expr p o e.tree; start = p; level = 14; height = deeper e.height }

abbrev pub unary_part : Place → Operator → ExprPart → ExprPart
unary_part p o e = record { tree = unary_expr p o e.tree; start = p; level = 14; height = deeper e.height }

abbrev pub sizeof_part : Place → ExprPart → ExprPart
sizeof_part p e = record { tree = sizeof_expr p e.tree; start = p; level = 14; height = deeper e.height }

abbrev pub sizeof_type_part : Place → TypePart → ExprPart
sizeof_type_part p t = record { tree = sizeof_type_expr p t.tree; start = p; level = 14; height = deeper t.height }

abbrev pub cast_part : Place → TypePart → ExprPart → ExprPart
cast_part p t e = record { tree = cast_expr p t.tree e.tree; start = p; level = 13; height = deeper (max t.height e.height) }

abbrev pub binary_part : ExprPart → Place → Operator → ExprPart → ExprPart
binary_part a p o b = record { tree = binary_expr a.start p o a.tree b.tree; start = a.start; level = precedence o; height = deeper (max a.height b.height) }

abbrev pub conditional_part : ExprPart → Place → ExprPart → ExprPart → ExprPart
conditional_part c p a b = record { tree = cond_expr c.start p c.tree a.tree b.tree; start = c.start; level = 2; height = deeper (max c.height (max a.height b.height)) }

abbrev pub assignment_part : ExprPart → Place → AssignmentOperator → ExprPart → ExprPart
assignment_part a p o b = record { tree = assign_expr a.start p o a.tree b.tree; start = a.start; level = 1; height = deeper (max a.height b.height) }

-- an expression that may be left out
pub record MaybePart : Type 0 where
  pub tree : MaybeTree
  pub height : ℕ

abbrev pub left_out_part : MaybePart
left_out_part = record { tree = left_out; height = 0 }

abbrev pub stated_part : ExprPart → MaybePart
stated_part e = record { tree = stated e.tree; height = e.height }

-- ## Specifiers

-- the last specifier as far as what follows may still change it
pub data LastSpecifier : Type 0 where
  no_last : LastSpecifier
  last_words : Place → List TypeWord → LastSpecifier
  last_composite : Place → CompositeWord → Place → Identifier → LastSpecifier
  last_enum : Place → Place → Identifier → LastSpecifier

-- specifiers: those that are whole, the last one, the place of the first token, and which stand there
pub record SpecifiersPart : Type 0 where
  pub whole : SpecifierTrees
  pub last : LastSpecifier
  pub start : Option Place
  pub has_type : Bool
  pub has_storage : Bool
  pub declares_types : Bool
  pub height : ℕ

abbrev pub with_last : SpecifierTrees → LastSpecifier → SpecifierTrees
with_last xs no_last = xs
with_last xs (last_words p ws) = add_spec xs (words_specifier p ws)
with_last xs (last_composite p w q x) = add_spec xs (reference_specifier p w q x)
with_last xs (last_enum p q x) = add_spec xs (enum_reference_specifier p q x)

-- all of them
abbrev pub specifier_trees : SpecifiersPart → SpecifierTrees
specifier_trees s = with_last s.whole s.last

-- the place of the first token, with the place of what follows them
abbrev pub start_or : Option Place → Place → Place
start_or None p = p
start_or (Some q) p = q

abbrev pub start_place : SpecifiersPart → Place
start_place s = start_or s.start 0

abbrev pub no_specifier : SpecifiersPart
no_specifier = record { whole = no_specs; last = no_last; start = None; has_type = false; has_storage = false; declares_types = false; height = 0 }

abbrev pub add_storage : SpecifiersPart → Place → StorageClass → SpecifiersPart
add_storage s p w = record s { whole = add_spec (specifier_trees s) (storage_specifier p w); last = no_last; start = Some (start_or s.start p); has_storage = true; declares_types = cond (is_typedef_word w) true s.declares_types }

abbrev pub add_qualifier : SpecifiersPart → Place → Qualifier → SpecifiersPart
add_qualifier s p q = record s { whole = add_spec (specifier_trees s) (qualifier_specifier p q); last = no_last; start = Some (start_or s.start p) }

abbrev pub add_inline : SpecifiersPart → Place → SpecifiersPart
add_inline s p = record s { whole = add_spec (specifier_trees s) (inline_specifier p); last = no_last; start = Some (start_or s.start p) }

abbrev pub add_first_word : SpecifiersPart → Place → TypeWord → SpecifiersPart
add_first_word s p w = record s { whole = specifier_trees s; last = last_words p (w ∷ []); start = Some (start_or s.start p); has_type = true }

-- one word more of the last specifier, whose words are these
abbrev pub add_next_word : SpecifiersPart → Place → List TypeWord → TypeWord → SpecifiersPart
add_next_word s p ws w = record s { last = last_words p (ws ++ w ∷ []) }

abbrev pub add_typedef : SpecifiersPart → Place → Identifier → SpecifiersPart
add_typedef s p x = record s { whole = add_spec (specifier_trees s) (typedef_specifier p x); last = no_last; start = Some (start_or s.start p); has_type = true }

abbrev pub add_reference : SpecifiersPart → Place → CompositeWord → Place → Identifier → SpecifiersPart
add_reference s p w q x = record s { whole = specifier_trees s; last = last_composite p w q x; start = Some (start_or s.start p); has_type = true }

abbrev pub add_enum_reference : SpecifiersPart → Place → Place → Identifier → SpecifiersPart
add_enum_reference s p q x = record s { whole = specifier_trees s; last = last_enum p q x; start = Some (start_or s.start p); has_type = true }

-- how often a word stands among words
abbrev pub words_count : TypeWord → List TypeWord → ℕ
words_count w [] = 0
words_count w (v ∷ vs) = same_word w v + words_count w vs

-- whether the words, in any order, name a type: the test of the grammar on a list
abbrev pub are_type : List TypeWord → Bool
are_type ws =
    (nat_eq (length ws) 1)
    || ((nat_eq (words_count Char ws) 1) && (nat_le (words_count Signed ws + words_count Unsigned ws) 1) && (nat_eq (length ws) (1 + (words_count Signed ws + words_count Unsigned ws))))
    || ((nat_eq (words_count Short ws) 1) && (nat_le (words_count Int ws) 1) && (nat_le (words_count Signed ws + words_count Unsigned ws) 1) && (nat_eq (length ws) (1 + words_count Int ws + (words_count Signed ws + words_count Unsigned ws))))
    || ((nat_le (words_count Long ws) 2) && (nat_le (words_count Int ws) 1) && (nat_le (words_count Signed ws + words_count Unsigned ws) 1) && (nat_eq (length ws) (words_count Long ws + words_count Int ws + (words_count Signed ws + words_count Unsigned ws))))
    || ((nat_eq (words_count Long ws) 1) && (nat_eq (words_count Double ws) 1) && (nat_eq (length ws) 2))

-- ## Members, enumerators

pub record MembersPart : Type 0 where
  pub trees : MemberTrees
  pub height : ℕ

abbrev pub no_member : MembersPart
no_member = record { trees = no_member_trees; height = 0 }

abbrev pub are_no_members : MemberTrees → Bool
are_no_members no_member_trees = true
are_no_members (member_trees p s ds ms) = false

pub record EnumeratorsPart : Type 0 where
  pub trees : EnumeratorTrees
  pub height : ℕ

abbrev pub no_enumerator : EnumeratorsPart
no_enumerator = record { trees = no_enumerator_trees; height = 0 }

abbrev pub add_enumerator : EnumeratorsPart → Place → Identifier → MaybePart → EnumeratorsPart
add_enumerator es p x v = record { trees = add_enumerator_tree es.trees p x v.tree; height = max es.height v.height }

-- those before the body of a struct, union or enum that begins at the place
abbrev pub before_body : SpecifiersPart → Place → SpecifiersPart
before_body s p = record s { whole = specifier_trees s; last = no_last; start = Some (start_or s.start p); has_type = true }

-- the same where the tag was taken for a reference
abbrev pub without_reference : SpecifiersPart → SpecifiersPart
without_reference s = record s { last = no_last }

-- behind the body
abbrev pub add_composite : SpecifiersPart → Place → CompositeWord → TagTree → Place → MembersPart → SpecifiersPart
add_composite s p w t q ms = record s { whole = add_spec s.whole (composite_specifier p w t q ms.trees); height = max s.height (deeper ms.height) }

abbrev pub add_enumeration : SpecifiersPart → Place → TagTree → Place → EnumeratorsPart → SpecifiersPart
add_enumeration s p t q es = record s { whole = add_spec s.whole (enum_specifier p t q es.trees); height = max s.height es.height }

-- ## Declarators

-- what a declarator is, as far as a function's head asks for it: a name, a name and its parameters, those behind `*`, or another
pub data DeclaratorShape : Type 0 where
  bare named_function pointed_function other_shape : DeclaratorShape

abbrev pub pointed_shape : DeclaratorShape → DeclaratorShape
pointed_shape named_function = pointed_function
pointed_shape pointed_function = pointed_function
pointed_shape bare = other_shape
pointed_shape other_shape = other_shape

abbrev pub function_shape : DeclaratorShape → DeclaratorShape
function_shape bare = named_function
function_shape named_function = other_shape
function_shape pointed_function = other_shape
function_shape other_shape = other_shape

abbrev pub is_bare : DeclaratorShape → Bool
is_bare bare = true
is_bare named_function = false
is_bare pointed_function = false
is_bare other_shape = false

abbrev pub is_named_function : DeclaratorShape → Bool
is_named_function bare = false
is_named_function named_function = true
is_named_function pointed_function = false
is_named_function other_shape = false

abbrev pub is_head : DeclaratorShape → Bool
is_head bare = false
is_head named_function = true
is_head pointed_function = true
is_head other_shape = false

-- a declarator: its tree, the name that it declares, and its height as an inner part of another, which isn't counted
pub record DeclaratorPart : Type 0 where
  pub tree : DeclaratorTree
  pub name : Identifier
  pub shape : DeclaratorShape
  pub inner : ℕ

-- its height as a whole: a bare name is not marked
abbrev pub declarator_height : DeclaratorPart → ℕ
declarator_height d = cond (is_bare d.shape) 0 (deeper d.inner)

pub record DeclaratorsPart : Type 0 where
  pub trees : DeclaratorTrees
  pub height : ℕ

-- an abstract declarator, or none
pub record AbstractPart : Type 0 where
  pub tree : DeclaratorTree
  pub is_some : Bool
  pub inner : ℕ

abbrev pub abstract_height : AbstractPart → ℕ
abstract_height a = cond a.is_some (deeper a.inner) 0

pub record ParametersPart : Type 0 where
  pub trees : ParameterTrees
  pub height : ℕ

abbrev pub declared_part : Place → Identifier → DeclaratorPart
declared_part p x = record { tree = named p x; name = x; shape = bare; inner = 0 }

abbrev pub pointer_part : List Qualifier → DeclaratorPart → DeclaratorPart
pointer_part qs d = record { tree = pointer_to qs d.tree; name = d.name; shape = pointed_shape d.shape; inner = d.inner }

abbrev pub parenthesized_part : DeclaratorPart → DeclaratorPart
parenthesized_part d = record { tree = d.tree; name = d.name; shape = other_shape; inner = declarator_height d }

abbrev pub array_part : DeclaratorPart → MaybePart → DeclaratorPart
array_part d n = record { tree = array_of d.tree n.tree; name = d.name; shape = other_shape; inner = max d.inner n.height }

abbrev pub function_part : DeclaratorPart → ParametersPart → DeclaratorPart
function_part d ps = record { tree = function_of d.tree ps.trees; name = d.name; shape = function_shape d.shape; inner = max d.inner ps.height }

abbrev pub no_abstract : AbstractPart
no_abstract = record { tree = unnamed; is_some = false; inner = 0 }

abbrev pub abstract_pointer_part : List Qualifier → AbstractPart → AbstractPart
abstract_pointer_part qs a = record { tree = pointer_to qs a.tree; is_some = true; inner = abstract_height a }

abbrev pub abstract_parenthesized_part : AbstractPart → AbstractPart
abstract_parenthesized_part a = record { tree = a.tree; is_some = true; inner = abstract_height a }

abbrev pub abstract_array_part : AbstractPart → MaybePart → AbstractPart
abstract_array_part a n = record { tree = array_of a.tree n.tree; is_some = true; inner = max a.inner n.height }

abbrev pub abstract_function_part : AbstractPart → ParametersPart → AbstractPart
abstract_function_part a ps = record { tree = function_of a.tree ps.trees; is_some = true; inner = max a.inner ps.height }

abbrev pub type_part : SpecifiersPart → AbstractPart → TypePart
type_part s a = record { tree = type_tree (start_place s) (specifier_trees s) a.tree; height = max s.height (abstract_height a) }

abbrev pub no_declarator_part : DeclaratorsPart
no_declarator_part = record { trees = no_declarator_trees; height = 0 }

abbrev pub add_declarator : DeclaratorsPart → DeclaratorPart → DeclaratorsPart
add_declarator ds d = record { trees = add_declarator_tree ds.trees d.tree; height = max ds.height (declarator_height d) }

abbrev pub add_members : MembersPart → SpecifiersPart → DeclaratorsPart → MembersPart
add_members ms s ds = record { trees = add_member_tree ms.trees (start_place s) (specifier_trees s) ds.trees; height = max ms.height (max s.height ds.height) }

abbrev pub no_parameter : ParametersPart
no_parameter = record { trees = no_parameter_trees; height = 0 }

abbrev pub are_no_parameters : ParameterTrees → Bool
are_no_parameters no_parameter_trees = true
are_no_parameters (parameter_trees p s d ps) = false

abbrev pub add_parameter : ParametersPart → SpecifiersPart → DeclaratorPart → ParametersPart
add_parameter ps s d = record { trees = add_parameter_tree ps.trees (start_place s) (specifier_trees s) d.tree; height = max ps.height (max s.height (declarator_height d)) }

abbrev pub add_abstract : ParametersPart → SpecifiersPart → AbstractPart → ParametersPart
add_abstract ps s a = record { trees = add_parameter_tree ps.trees (start_place s) (specifier_trees s) a.tree; height = max ps.height (max s.height (abstract_height a)) }

abbrev pub are_no_specs : SpecifierTrees → Bool
are_no_specs no_specs = true
are_no_specs (specs s ss) = false

abbrev pub is_void_list : List TypeWord → Bool
is_void_list (Void ∷ []) = true
is_void_list _ = false

abbrev pub is_void_last : LastSpecifier → Bool
is_void_last (last_words p ws) = is_void_list ws
is_void_last no_last = false
is_void_last (last_composite p w q x) = false
is_void_last (last_enum p q x) = false

-- whether the specifiers are the word `void` alone
abbrev pub are_void : SpecifiersPart → Bool
are_void s = is_void_last s.last && are_no_specs s.whole

-- the parameters with a last unnamed one: the lone word `void` has none
abbrev pub last_abstract : ParametersPart → SpecifiersPart → AbstractPart → ParametersPart
last_abstract ps s a = cond (not a.is_some && are_no_parameters ps.trees && are_void s) no_parameter (add_abstract ps s a)

-- ## Declarations

pub record InitializerPart : Type 0 where
  pub tree : InitializerTree
  pub height : ℕ

abbrev pub no_initializer_part : InitializerPart
no_initializer_part = record { tree = no_init; height = 0 }

abbrev pub value_part : ExprPart → InitializerPart
value_part e = record { tree = value_init e.tree; height = e.height }

abbrev pub list_part : Place → ArgumentsPart → InitializerPart
list_part p xs = record { tree = list_init p xs.trees; height = deeper xs.height }

-- declarators with their initializers
pub record InitsPart : Type 0 where
  pub trees : List InitDeclaratorTree
  pub height : ℕ

abbrev pub no_inits : InitsPart
no_inits = record { trees = []; height = 0 }

abbrev pub is_empty : {A : Type 0} → List A → Bool
is_empty [] = true
is_empty (x ∷ xs) = false

abbrev pub add_init : InitsPart → DeclaratorPart → InitializerPart → InitsPart
add_init ds d i = record { trees = ds.trees ++ init_tree d.tree i.tree ∷ []; height = max ds.height (max (declarator_height d) i.height) }

pub record DeclarationPart : Type 0 where
  pub tree : DeclTree
  pub height : ℕ

abbrev pub declaration_part : SpecifiersPart → InitsPart → DeclarationPart
declaration_part s ds = record { tree = decl_tree (start_place s) (specifier_trees s) ds.trees; height = max s.height ds.height }

-- ## Statements

pub record OptionalPart : Type 0 where
  pub tree : Option ExprTree
  pub height : ℕ

abbrev pub no_expression : OptionalPart
no_expression = record { tree = None; height = 0 }

abbrev pub some_expression : ExprPart → OptionalPart
some_expression e = record { tree = Some e.tree; height = e.height }

pub record ForFirstPart : Type 0 where
  pub tree : ForFirstTree
  pub height : ℕ

abbrev pub nothing_part : ForFirstPart
nothing_part = record { tree = first_nothing; height = 0 }

abbrev pub first_expression_part : ExprPart → ForFirstPart
first_expression_part e = record { tree = first_expr e.tree; height = e.height }

abbrev pub first_declaration_part : DeclarationPart → ForFirstPart
first_declaration_part d = record { tree = first_decl d.tree; height = d.height }

pub record LabelPart : Type 0 where
  pub tree : LabelTree
  pub height : ℕ

abbrev pub case_part : Place → ExprPart → LabelPart
case_part p e = record { tree = case_tree p e.tree; height = e.height }

abbrev pub default_part : Place → LabelPart
default_part p = record { tree = default_tree p; height = 0 }

pub record LabelsPart : Type 0 where
  pub trees : List LabelTree
  pub height : ℕ

abbrev pub no_label : LabelsPart
no_label = record { trees = []; height = 0 }

abbrev pub add_label : LabelsPart → LabelPart → LabelsPart
add_label ls l = record { trees = ls.trees ++ l.tree ∷ []; height = max ls.height l.height }

pub record StatementPart : Type 0 where
  pub tree : StmtTree
  pub height : ℕ

pub record ItemsPart : Type 0 where
  pub trees : ItemTrees
  pub height : ℕ

pub record GroupsPart : Type 0 where
  pub trees : GroupTrees
  pub height : ℕ

abbrev pub no_item : ItemsPart
no_item = record { trees = no_item_trees; height = 0 }

abbrev pub are_no_items : ItemTrees → Bool
are_no_items no_item_trees = true
are_no_items (decl_item d is) = false
are_no_items (stmt_item s is) = false

abbrev pub add_declaration : ItemsPart → DeclarationPart → ItemsPart
add_declaration is d = record { trees = add_decl_item is.trees d.tree; height = max is.height d.height }

abbrev pub add_statement : ItemsPart → StatementPart → ItemsPart
add_statement is s = record { trees = add_stmt_item is.trees s.tree; height = max is.height s.height }

abbrev pub no_group : GroupsPart
no_group = record { trees = no_group_trees; height = 0 }

abbrev pub add_group : GroupsPart → LabelsPart → ItemsPart → GroupsPart
add_group gs ls is = record { trees = add_group_tree gs.trees ls.trees is.trees; height = max gs.height (max ls.height is.height) }

abbrev pub block_part : Place → ItemsPart → StatementPart
block_part p is = record { tree = block_stmt p is.trees; height = deeper is.height }

abbrev pub empty_part : Place → StatementPart
empty_part p = record { tree = empty_stmt p; height = deeper 0 }

abbrev pub expression_part : ExprPart → StatementPart
expression_part e = record { tree = expr_stmt e.start e.tree; height = deeper e.height }

abbrev pub if_part : Place → ExprPart → StatementPart → StatementPart
if_part p e s = record { tree = if_stmt p e.tree s.tree; height = deeper (max e.height s.height) }

abbrev pub if_else_part : Place → ExprPart → StatementPart → StatementPart → StatementPart
if_else_part p e a b = record { tree = if_else_stmt p e.tree a.tree b.tree; height = deeper (max e.height (max a.height b.height)) }

abbrev pub while_part : Place → ExprPart → StatementPart → StatementPart
while_part p e s = record { tree = while_stmt p e.tree s.tree; height = deeper (max e.height s.height) }

abbrev pub do_part : Place → StatementPart → ExprPart → StatementPart
do_part p s e = record { tree = do_stmt p s.tree e.tree; height = deeper (max s.height e.height) }

abbrev pub for_part : Place → ForFirstPart → OptionalPart → OptionalPart → StatementPart → StatementPart
for_part p f c u s = record { tree = for_stmt p f.tree c.tree u.tree s.tree; height = deeper (max (max f.height (max c.height u.height)) s.height) }

abbrev pub switch_part : Place → ExprPart → GroupsPart → StatementPart
switch_part p e gs = record { tree = switch_stmt p e.tree gs.trees; height = deeper (max e.height gs.height) }

abbrev pub jump_part : Place → Jump → StatementPart
jump_part p j = record { tree = jump_stmt p j; height = deeper 0 }

abbrev pub return_part : Place → OptionalPart → StatementPart
return_part p e = record { tree = return_stmt p e.tree; height = deeper e.height }

-- ## Files

-- what stands in the file, and the nesting of its deepest token
pub record FilePart : Type 0 where
  pub trees : FileTree
  pub deepest : ℕ

abbrev pub no_file : FilePart
no_file = record { trees = []; deepest = 0 }

abbrev pub add_external_declaration : FilePart → DeclarationPart → FilePart
add_external_declaration f d = record { trees = f.trees ++ decl_external d.tree ∷ []; deepest = max f.deepest (over 0 d.height) }

-- a function's head is no declarator, and its body is a statement
abbrev pub add_function : FilePart → SpecifiersPart → DeclaratorPart → Place → ItemsPart → FilePart
add_function f s d p is = record { trees = f.trees ++ function_external (start_place s) (specifier_trees s) d.tree p is.trees ∷ []; deepest = max f.deepest (max (over 0 s.height) (max (over 0 d.inner) (over 1 is.height))) }
