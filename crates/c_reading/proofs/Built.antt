-- The parts that the reader builds are the trees of the derivations.
use Rattle.std.proofs.Common.{◌≡◌, List, [], ◌∷◌, ◌++◌, Option, Some, None, refl, sym, ◌∙◌, ap}
use Rattle.c_reading.proofs.Erase.{words_list, qualifiers_list, add_words, expr_part, arguments_part, type_name_part, specs_part, members_part, declarators_part, with_enumerator, enumerators_part, decl_part, length_part, abstract_part, parameters_part, earlier_part, with_parameter, init_part, with_init, inits_part, decl_of, optional_part, for_first_part, label_part, labels_part, stmt_part, items_part, groups_part, file_part}
use Rattle.c_reading.proofs.Tests.{words_last, words_whole}
use Rattle.c_grammar.specs.Derivations.{Qualifiers, no_qualifiers, qualified, TypeWords, first_word, next_word, Expression, identifier, constant, parenthesized, index, call_without, call, member, step_after, step_before, unary, sizeof_expression, sizeof_type, cast, binary, conditional, assignment, Arguments, no_arguments, argument, TypeName, type_name, Specifiers, no_specifiers, storage_class, qualifier, inlined, type_words, typedef_name, composite_reference, composite, enum_reference, enumeration, Members, no_members, members, Declarators, no_declarators, declarators, Enumerator, enumerator, enumerator_value, Enumerators, no_enumerators, enumerators, Declarator, declared_name, pointer, parenthesized_declarator, array, function, Length, no_length, length_of, AbstractDeclarator, no_declarator, abstract_pointer, parenthesized_abstract, abstract_array, abstract_function, Parameters, no_parameters, void_parameter, parameters, EarlierParameters, no_earlier, earlier, Parameter, named_parameter, unnamed_parameter, Initializer, no_initializer, initializer, initializer_list, InitDeclarator, init_declarator, InitDeclarators, no_init_declarators, init_declarators, Declaration, specifiers_alone, declaration, ForFirst, for_nothing, for_expression, for_declaration, Label, case_label, default_label, Labels, first_label, next_label, Statement, block, empty_statement, expression_statement, if_statement, if_else, while_statement, do_statement, for_statement, switch_statement, jump_statement, return_statement, Items, no_items, declaration_item, statement_item, Groups, no_groups, group, File, empty_file, external_declaration, function_definition}
use Rattle.c_reading.specs.Parts.{add_expr, add_spec, add_member_tree, add_enumerator_tree, add_declarator_tree, add_parameter_tree, add_decl_item, add_stmt_item, add_group_tree, add_argument, SpecifiersPart, with_last, specifier_trees, start_or, start_place, EnumeratorsPart, ParametersPart, InitsPart}
use Rattle.c_tree.specs.Trees.{ExprTree, ExprTrees, no_exprs, exprs, MaybeTree, left_out, stated, SpecifierTree, storage_specifier, qualifier_specifier, inline_specifier, words_specifier, typedef_specifier, reference_specifier, composite_specifier, enum_reference_specifier, enum_specifier, SpecifierTrees, no_specs, specs, MemberTrees, no_member_trees, member_trees, EnumeratorTrees, no_enumerator_trees, enumerator_trees, DeclaratorTree, DeclaratorTrees, no_declarator_trees, declarator_trees, ParameterTrees, no_parameter_trees, parameter_trees, InitDeclaratorTree, init_tree, DeclTree, LabelTree, StmtTree, ItemTrees, no_item_trees, decl_item, stmt_item, GroupTrees, no_group_trees, group_trees, decl_external, function_external, FileTree}
use Rattle.c_tree.specs.Reading.{expression_start, words_start, specifiers_start, start_of, qualifiers_onto, words_onto, tag_tree, expression_tree, arguments_onto, type_name_tree, specifiers_onto, members_onto, declarators_onto, enumerator_onto, enumerators_onto, declarator_tree, length_tree, abstract_tree, parameters_tree, earlier_onto, parameter_onto, initializer_tree, init_declarator_tree, init_declarators_onto, declaration_tree, optional_tree, for_first_tree, label_tree, labels_onto, statement_tree, items_onto, groups_onto, file_onto, file_tree}
use Rattle.c_grammar.specs.Tokens.{Identifier, Place, TypeWord, Qualifier}

abbrev expr_join : ExprTrees → ExprTrees → ExprTrees
expr_join no_exprs r = r
expr_join (exprs x0 xs) r = exprs x0 (expr_join xs r)

expr_nil : (xs : ExprTrees) → expr_join xs no_exprs ≡ xs
expr_nil no_exprs = refl
expr_nil (exprs x0 xs) = ap (λ z. exprs x0 z) (expr_nil xs)

expr_end : (xs : ExprTrees) (y0 : ExprTree) (r : ExprTrees) → expr_join xs (exprs y0 r) ≡ expr_join (add_expr xs y0) r
expr_end no_exprs y0 r = refl
expr_end (exprs x0 xs) y0 r = ap (λ z. exprs x0 z) (expr_end xs y0 r)

abbrev spec_join : SpecifierTrees → SpecifierTrees → SpecifierTrees
spec_join no_specs r = r
spec_join (specs x0 xs) r = specs x0 (spec_join xs r)

spec_nil : (xs : SpecifierTrees) → spec_join xs no_specs ≡ xs
spec_nil no_specs = refl
spec_nil (specs x0 xs) = ap (λ z. specs x0 z) (spec_nil xs)

spec_end : (xs : SpecifierTrees) (y0 : SpecifierTree) (r : SpecifierTrees) → spec_join xs (specs y0 r) ≡ spec_join (add_spec xs y0) r
spec_end no_specs y0 r = refl
spec_end (specs x0 xs) y0 r = ap (λ z. specs x0 z) (spec_end xs y0 r)

abbrev declarator_join : DeclaratorTrees → DeclaratorTrees → DeclaratorTrees
declarator_join no_declarator_trees r = r
declarator_join (declarator_trees x0 xs) r = declarator_trees x0 (declarator_join xs r)

declarator_nil : (xs : DeclaratorTrees) → declarator_join xs no_declarator_trees ≡ xs
declarator_nil no_declarator_trees = refl
declarator_nil (declarator_trees x0 xs) = ap (λ z. declarator_trees x0 z) (declarator_nil xs)

declarator_end : (xs : DeclaratorTrees) (y0 : DeclaratorTree) (r : DeclaratorTrees) → declarator_join xs (declarator_trees y0 r) ≡ declarator_join (add_declarator_tree xs y0) r
declarator_end no_declarator_trees y0 r = refl
declarator_end (declarator_trees x0 xs) y0 r = ap (λ z. declarator_trees x0 z) (declarator_end xs y0 r)

abbrev member_join : MemberTrees → MemberTrees → MemberTrees
member_join no_member_trees r = r
member_join (member_trees x0 x1 x2 xs) r = member_trees x0 x1 x2 (member_join xs r)

member_nil : (xs : MemberTrees) → member_join xs no_member_trees ≡ xs
member_nil no_member_trees = refl
member_nil (member_trees x0 x1 x2 xs) = ap (λ z. member_trees x0 x1 x2 z) (member_nil xs)

member_end : (xs : MemberTrees) (y0 : Place) (y1 : SpecifierTrees) (y2 : DeclaratorTrees) (r : MemberTrees) → member_join xs (member_trees y0 y1 y2 r) ≡ member_join (add_member_tree xs y0 y1 y2) r
member_end no_member_trees y0 y1 y2 r = refl
member_end (member_trees x0 x1 x2 xs) y0 y1 y2 r = ap (λ z. member_trees x0 x1 x2 z) (member_end xs y0 y1 y2 r)

abbrev enumerator_join : EnumeratorTrees → EnumeratorTrees → EnumeratorTrees
enumerator_join no_enumerator_trees r = r
enumerator_join (enumerator_trees x0 x1 x2 xs) r = enumerator_trees x0 x1 x2 (enumerator_join xs r)

enumerator_nil : (xs : EnumeratorTrees) → enumerator_join xs no_enumerator_trees ≡ xs
enumerator_nil no_enumerator_trees = refl
enumerator_nil (enumerator_trees x0 x1 x2 xs) = ap (λ z. enumerator_trees x0 x1 x2 z) (enumerator_nil xs)

enumerator_end : (xs : EnumeratorTrees) (y0 : Place) (y1 : Identifier) (y2 : MaybeTree) (r : EnumeratorTrees) → enumerator_join xs (enumerator_trees y0 y1 y2 r) ≡ enumerator_join (add_enumerator_tree xs y0 y1 y2) r
enumerator_end no_enumerator_trees y0 y1 y2 r = refl
enumerator_end (enumerator_trees x0 x1 x2 xs) y0 y1 y2 r = ap (λ z. enumerator_trees x0 x1 x2 z) (enumerator_end xs y0 y1 y2 r)

abbrev parameter_join : ParameterTrees → ParameterTrees → ParameterTrees
parameter_join no_parameter_trees r = r
parameter_join (parameter_trees x0 x1 x2 xs) r = parameter_trees x0 x1 x2 (parameter_join xs r)

parameter_nil : (xs : ParameterTrees) → parameter_join xs no_parameter_trees ≡ xs
parameter_nil no_parameter_trees = refl
parameter_nil (parameter_trees x0 x1 x2 xs) = ap (λ z. parameter_trees x0 x1 x2 z) (parameter_nil xs)

parameter_end : (xs : ParameterTrees) (y0 : Place) (y1 : SpecifierTrees) (y2 : DeclaratorTree) (r : ParameterTrees) → parameter_join xs (parameter_trees y0 y1 y2 r) ≡ parameter_join (add_parameter_tree xs y0 y1 y2) r
parameter_end no_parameter_trees y0 y1 y2 r = refl
parameter_end (parameter_trees x0 x1 x2 xs) y0 y1 y2 r = ap (λ z. parameter_trees x0 x1 x2 z) (parameter_end xs y0 y1 y2 r)

abbrev group_join : GroupTrees → GroupTrees → GroupTrees
group_join no_group_trees r = r
group_join (group_trees x0 x1 xs) r = group_trees x0 x1 (group_join xs r)

group_nil : (xs : GroupTrees) → group_join xs no_group_trees ≡ xs
group_nil no_group_trees = refl
group_nil (group_trees x0 x1 xs) = ap (λ z. group_trees x0 x1 z) (group_nil xs)

group_end : (xs : GroupTrees) (y0 : List LabelTree) (y1 : ItemTrees) (r : GroupTrees) → group_join xs (group_trees y0 y1 r) ≡ group_join (add_group_tree xs y0 y1) r
group_end no_group_trees y0 y1 r = refl
group_end (group_trees x0 x1 xs) y0 y1 r = ap (λ z. group_trees x0 x1 z) (group_end xs y0 y1 r)

abbrev item_join : ItemTrees → ItemTrees → ItemTrees
item_join no_item_trees r = r
item_join (decl_item x xs) r = decl_item x (item_join xs r)
item_join (stmt_item x xs) r = stmt_item x (item_join xs r)

item_nil : (xs : ItemTrees) → item_join xs no_item_trees ≡ xs
item_nil no_item_trees = refl
item_nil (decl_item x xs) = ap (λ z. decl_item x z) (item_nil xs)
item_nil (stmt_item x xs) = ap (λ z. stmt_item x z) (item_nil xs)

decl_end : (xs : ItemTrees) (y : DeclTree) (r : ItemTrees) → item_join xs (decl_item y r) ≡ item_join (add_decl_item xs y) r
decl_end no_item_trees y r = refl
decl_end (decl_item x xs) y r = ap (λ z. decl_item x z) (decl_end xs y r)
decl_end (stmt_item x xs) y r = ap (λ z. stmt_item x z) (decl_end xs y r)

stmt_end : (xs : ItemTrees) (y : StmtTree) (r : ItemTrees) → item_join xs (stmt_item y r) ≡ item_join (add_stmt_item xs y) r
stmt_end no_item_trees y r = refl
stmt_end (decl_item x xs) y r = ap (λ z. decl_item x z) (stmt_end xs y r)
stmt_end (stmt_item x xs) y r = ap (λ z. stmt_item x z) (stmt_end xs y r)

list_end : {A : Type 0} → (xs : List A) (y : A) (r : List A) → xs ++ (y ∷ r) ≡ (xs ++ y ∷ []) ++ r
list_end [] y r = refl
list_end (x ∷ xs) y r = ap (λ z. x ∷ z) (list_end xs y r)

list_nil : {A : Type 0} → (xs : List A) → xs ++ [] ≡ xs
list_nil [] = refl
list_nil (x ∷ xs) = ap (λ z. x ∷ z) (list_nil xs)

-- ## Places and words

expr_start : (e : Expression) → (expr_part e).start ≡ expression_start e
expr_start (identifier p x) = refl
expr_start (constant p n) = refl
expr_start (parenthesized p e q) = refl
expr_start (index e p i q) = expr_start e
expr_start (call_without f p q) = expr_start f
expr_start (call f p xs e q) = expr_start f
expr_start (member e p o q x) = expr_start e
expr_start (step_after e p o) = expr_start e
expr_start (step_before p o e) = refl
expr_start (unary p o e) = refl
expr_start (sizeof_expression p e) = refl
expr_start (sizeof_type p q t l) = refl
expr_start (cast p t q e) = refl
expr_start (binary a p o b) = expr_start a
expr_start (conditional c p a q b) = expr_start c
expr_start (assignment a p o b) = expr_start a

words_at : (s : SpecifiersPart) (ws : TypeWords) → (add_words s ws).start ≡ Some (start_or s.start (words_start ws))
words_at s (first_word p w) = refl
words_at s (next_word ws p w) = words_at s ws

specs_start : (s : Specifiers) (r : Place) → start_or (specs_part s).start r ≡ specifiers_start s r
specs_start no_specifiers r = refl
specs_start (storage_class s p w) r = specs_start s p
specs_start (qualifier s p q) r = specs_start s p
specs_start (inlined s p) r = specs_start s p
specs_start (type_words s ws) r = ap (λ o. start_or o r) (words_at (specs_part s) ws) ∙ specs_start s (words_start ws)
specs_start (typedef_name s p x) r = specs_start s p
specs_start (composite_reference s p w q x) r = specs_start s p
specs_start (composite s p w t q ms l) r = specs_start s p
specs_start (enum_reference s p q x) r = specs_start s p
specs_start (enumeration s p t q es e c l) r = specs_start s p

words_same : (ws : TypeWords) (r : List TypeWord) → words_onto ws r ≡ words_list ws ++ r
words_same (first_word p w) r = refl
words_same (next_word ws p w) r = words_same ws (w ∷ r) ∙ list_end (words_list ws) w r

qualifiers_same : (qs : Qualifiers) (r : List Qualifier) → qualifiers_onto qs r ≡ qualifiers_list qs ++ r
qualifiers_same no_qualifiers r = refl
qualifiers_same (qualified qs p q) r = qualifiers_same qs (q ∷ r) ∙ list_end (qualifiers_list qs) q r

words_all : (ws : TypeWords) → words_onto ws [] ≡ words_list ws
words_all ws = words_same ws [] ∙ list_nil (words_list ws)

qualifiers_all : (qs : Qualifiers) → qualifiers_onto qs [] ≡ qualifiers_list qs
qualifiers_all qs = qualifiers_same qs [] ∙ list_nil (qualifiers_list qs)

words_trees : (s : SpecifiersPart) (ws : TypeWords) → specifier_trees (add_words s ws) ≡ add_spec (specifier_trees s) (words_specifier (words_start ws) (words_list ws))
words_trees s ws = ap (λ l. with_last (add_words s ws).whole l) (words_last s ws) ∙ ap (λ x. add_spec x (words_specifier (words_start ws) (words_list ws))) (words_whole s ws)

argument_by : (xs : ExprTrees) (x y : ExprTree) (z : ExprTrees) → x ≡ y → expr_join xs (exprs y no_exprs) ≡ z → add_expr xs x ≡ z
argument_by xs x y z e h = sym (expr_nil (add_expr xs x)) ∙ sym (expr_end xs x no_exprs) ∙ ap (λ w. expr_join xs (exprs w no_exprs)) e ∙ h

specs_by : (x z : SpecifierTrees) → spec_join x no_specs ≡ z → x ≡ z
specs_by x z h = sym (spec_nil x) ∙ h

declarator_by : (xs : DeclaratorTrees) (x y : DeclaratorTree) (z : DeclaratorTrees) → x ≡ y → declarator_join xs (declarator_trees y no_declarator_trees) ≡ z → add_declarator_tree xs x ≡ z
declarator_by xs x y z e h = sym (declarator_nil (add_declarator_tree xs x)) ∙ sym (declarator_end xs x no_declarator_trees) ∙ ap (λ w. declarator_join xs (declarator_trees w no_declarator_trees)) e ∙ h

member_by : (p p' : Place) (s s' : SpecifierTrees) (ds ds' : DeclaratorTrees) (r : MemberTrees) → p ≡ p' → s ≡ s' → ds ≡ ds' → member_trees p s ds r ≡ member_trees p' s' ds' r
member_by p p' s s' ds ds' r h g f = cc

parameter_by : (p p' : Place) (s s' : SpecifierTrees) (d d' : DeclaratorTree) (r : ParameterTrees) → p ≡ p' → s ≡ s' → d ≡ d' → parameter_trees p s d r ≡ parameter_trees p' s' d' r
parameter_by p p' s s' d d' r h g f = cc

items_by : (x z : ItemTrees) → item_join x no_item_trees ≡ z → x ≡ z
items_by x z h = sym (item_nil x) ∙ h

groups_by : (x z : GroupTrees) → group_join x no_group_trees ≡ z → x ≡ z
groups_by x z h = sym (group_nil x) ∙ h

-- ## Expressions, types and declarators

mutual
  pub expr_tree : (e : Expression) → (expr_part e).tree ≡ expression_tree e
  expr_tree (identifier p x) = refl
  expr_tree (constant p n) = refl
  expr_tree (parenthesized p e q) = expr_tree e
  expr_tree (index e p i q) = let h = expr_tree e in let g = expr_tree i in let s = expr_start e in cc
  expr_tree (call_without f p q) = let h = expr_tree f in let s = expr_start f in cc
  expr_tree (call f p xs e q) = let h = expr_tree f in let s = expr_start f in let g = (argument_by (arguments_part xs).trees (expr_part e).tree (expression_tree e) (arguments_onto xs (exprs (expression_tree e) no_exprs)) (expr_tree e) (arguments_same xs (exprs (expression_tree e) no_exprs))) in cc
  expr_tree (member e p o q x) = let h = expr_tree e in let s = expr_start e in cc
  expr_tree (step_after e p o) = let h = expr_tree e in let s = expr_start e in cc
  expr_tree (step_before p o e) = let h = expr_tree e in cc
  expr_tree (unary p o e) = let h = expr_tree e in cc
  expr_tree (sizeof_expression p e) = let h = expr_tree e in cc
  expr_tree (sizeof_type p q t l) = let h = type_tree_same t in cc
  expr_tree (cast p t q e) = let h = type_tree_same t in let g = expr_tree e in cc
  expr_tree (binary a p o b) = let h = expr_tree a in let g = expr_tree b in let s = expr_start a in cc
  expr_tree (conditional c p a q b) = let h = expr_tree c in let g = expr_tree a in let f = expr_tree b in let s = expr_start c in cc
  expr_tree (assignment a p o b) = let h = expr_tree a in let g = expr_tree b in let s = expr_start a in cc

  arguments_same : (xs : Arguments) (r : ExprTrees) → expr_join (arguments_part xs).trees r ≡ arguments_onto xs r
  arguments_same no_arguments r = refl
  arguments_same (argument xs e p) r =
      sym (expr_end (arguments_part xs).trees (expr_part e).tree r) ∙ ap (λ x. expr_join (arguments_part xs).trees (exprs x r)) (expr_tree e) ∙ arguments_same xs (exprs (expression_tree e) r)

  type_tree_same : (t : TypeName) → (type_name_part t).tree ≡ type_name_tree t
  type_tree_same (type_name s a) = let h = (specs_by (specifier_trees (specs_part s)) (specifiers_onto s no_specs) (specs_same s no_specs)) in let g = abstract_same a in let p = specs_start s 0 in cc

  specs_same : (s : Specifiers) (r : SpecifierTrees) → spec_join (specifier_trees (specs_part s)) r ≡ specifiers_onto s r
  specs_same no_specifiers r = refl
  specs_same (storage_class s p w) r = sym (spec_end (specifier_trees (specs_part s)) (storage_specifier p w) r) ∙ specs_same s (specs (storage_specifier p w) r)
  specs_same (qualifier s p q) r = sym (spec_end (specifier_trees (specs_part s)) (qualifier_specifier p q) r) ∙ specs_same s (specs (qualifier_specifier p q) r)
  specs_same (inlined s p) r = sym (spec_end (specifier_trees (specs_part s)) (inline_specifier p) r) ∙ specs_same s (specs (inline_specifier p) r)
  specs_same (type_words s ws) r =
      ap (λ x. spec_join x r) (words_trees (specs_part s) ws) ∙ sym (spec_end (specifier_trees (specs_part s)) (words_specifier (words_start ws) (words_list ws)) r)
      ∙ specs_same s (specs (words_specifier (words_start ws) (words_list ws)) r) ∙ ap (λ x. specifiers_onto s (specs (words_specifier (words_start ws) x) r)) (sym (words_all ws))
  specs_same (typedef_name s p x) r = sym (spec_end (specifier_trees (specs_part s)) (typedef_specifier p x) r) ∙ specs_same s (specs (typedef_specifier p x) r)
  specs_same (composite_reference s p w q x) r = sym (spec_end (specifier_trees (specs_part s)) (reference_specifier p w q x) r) ∙ specs_same s (specs (reference_specifier p w q x) r)
  specs_same (composite s p w t q ms l) r =
      sym (spec_end (specifier_trees (specs_part s)) (composite_specifier p w (tag_tree t) q (members_part ms).trees) r)
      ∙ specs_same s (specs (composite_specifier p w (tag_tree t) q (members_part ms).trees) r)
      ∙ ap (λ x. specifiers_onto s (specs (composite_specifier p w (tag_tree t) q x) r)) (sym (member_nil (members_part ms).trees) ∙ members_same ms no_member_trees)
  specs_same (enum_reference s p q x) r = sym (spec_end (specifier_trees (specs_part s)) (enum_reference_specifier p q x) r) ∙ specs_same s (specs (enum_reference_specifier p q x) r)
  specs_same (enumeration s p t q es e c l) r =
      sym (spec_end (specifier_trees (specs_part s)) (enum_specifier p (tag_tree t) q (with_enumerator (enumerators_part es) e).trees) r)
      ∙ specs_same s (specs (enum_specifier p (tag_tree t) q (with_enumerator (enumerators_part es) e).trees) r)
      ∙ ap (λ x. specifiers_onto s (specs (enum_specifier p (tag_tree t) q x) r))
      (sym (enumerator_nil (with_enumerator (enumerators_part es) e).trees) ∙ enumerator_same e (enumerators_part es) no_enumerator_trees ∙ enumerators_same es (enumerator_onto e no_enumerator_trees))

  members_same : (ms : Members) (r : MemberTrees) → member_join (members_part ms).trees r ≡ members_onto ms r
  members_same no_members r = refl
  members_same (members ms s ds d p) r =
      sym (member_end (members_part ms).trees (start_place (specs_part s)) (specifier_trees (specs_part s)) (add_declarator_tree (declarators_part ds).trees (decl_part d).tree) r)
      ∙ ap (λ x. member_join (members_part ms).trees x) (member_by _ _ _ _ _ _ r (specs_start s 0) (specs_by (specifier_trees (specs_part s)) (specifiers_onto s no_specs) (specs_same s no_specs)) (declarator_by (declarators_part ds).trees (decl_part d).tree (declarator_tree d) (declarators_onto ds (declarator_trees (declarator_tree d) no_declarator_trees)) (decl_same d) (declarators_same ds (declarator_trees (declarator_tree d) no_declarator_trees))))
      ∙ members_same ms (member_trees (start_of s) (specifiers_onto s no_specs) (declarators_onto ds (declarator_trees (declarator_tree d) no_declarator_trees)) r)

  declarators_same : (ds : Declarators) (r : DeclaratorTrees) → declarator_join (declarators_part ds).trees r ≡ declarators_onto ds r
  declarators_same no_declarators r = refl
  declarators_same (declarators ds d p) r =
      sym (declarator_end (declarators_part ds).trees (decl_part d).tree r) ∙ ap (λ x. declarator_join (declarators_part ds).trees (declarator_trees x r)) (decl_same d)
      ∙ declarators_same ds (declarator_trees (declarator_tree d) r)

  enumerator_same : (e : Enumerator) (es : EnumeratorsPart) (r : EnumeratorTrees) → enumerator_join (with_enumerator es e).trees r ≡ enumerator_join es.trees (enumerator_onto e r)
  enumerator_same (enumerator p x) es r = sym (enumerator_end es.trees p x left_out r)
  enumerator_same (enumerator_value p x q e) es r =
      sym (enumerator_end es.trees p x (stated (expr_part e).tree) r) ∙ ap (λ y. enumerator_join es.trees (enumerator_trees p x (stated y) r)) (expr_tree e)

  enumerators_same : (es : Enumerators) (r : EnumeratorTrees) → enumerator_join (enumerators_part es).trees r ≡ enumerators_onto es r
  enumerators_same no_enumerators r = refl
  enumerators_same (enumerators es e p) r = enumerator_same e (enumerators_part es) r ∙ enumerators_same es (enumerator_onto e r)

  pub decl_same : (d : Declarator) → (decl_part d).tree ≡ declarator_tree d
  decl_same (declared_name p x) = refl
  decl_same (pointer p qs d) = let h = decl_same d in let g = qualifiers_all qs in cc
  decl_same (parenthesized_declarator p d q) = decl_same d
  decl_same (array d p n q) = let h = decl_same d in let g = length_same n in cc
  decl_same (function d p ps q) = let h = decl_same d in let g = parameters_same ps in cc

  length_same : (n : Length) → (length_part n).tree ≡ length_tree n
  length_same no_length = refl
  length_same (length_of e) = let h = expr_tree e in cc

  abstract_same : (a : AbstractDeclarator) → (abstract_part a).tree ≡ abstract_tree a
  abstract_same no_declarator = refl
  abstract_same (abstract_pointer p qs a) = let h = abstract_same a in let g = qualifiers_all qs in cc
  abstract_same (parenthesized_abstract p a q) = abstract_same a
  abstract_same (abstract_array a p n q) = let h = abstract_same a in let g = length_same n in cc
  abstract_same (abstract_function a p ps q) = let h = abstract_same a in let g = parameters_same ps in cc

  parameters_same : (ps : Parameters) → (parameters_part ps).trees ≡ parameters_tree ps
  parameters_same no_parameters = refl
  parameters_same (void_parameter p) = refl
  parameters_same (parameters ps x) = sym (parameter_nil (with_parameter (earlier_part ps) x).trees) ∙ parameter_same x (earlier_part ps) no_parameter_trees ∙ earlier_same ps (parameter_onto x no_parameter_trees)

  earlier_same : (ps : EarlierParameters) (r : ParameterTrees) → parameter_join (earlier_part ps).trees r ≡ earlier_onto ps r
  earlier_same no_earlier r = refl
  earlier_same (earlier ps x p) r = parameter_same x (earlier_part ps) r ∙ earlier_same ps (parameter_onto x r)

  parameter_same : (x : Parameter) (ps : ParametersPart) (r : ParameterTrees) → parameter_join (with_parameter ps x).trees r ≡ parameter_join ps.trees (parameter_onto x r)
  parameter_same (named_parameter s d) ps r =
      sym (parameter_end ps.trees (start_place (specs_part s)) (specifier_trees (specs_part s)) (decl_part d).tree r)
      ∙ ap (λ x. parameter_join ps.trees x) (parameter_by _ _ _ _ _ _ r (specs_start s 0) (specs_by (specifier_trees (specs_part s)) (specifiers_onto s no_specs) (specs_same s no_specs)) (decl_same d))
  parameter_same (unnamed_parameter s a) ps r =
      sym (parameter_end ps.trees (start_place (specs_part s)) (specifier_trees (specs_part s)) (abstract_part a).tree r)
      ∙ ap (λ x. parameter_join ps.trees x) (parameter_by _ _ _ _ _ _ r (specs_start s 0) (specs_by (specifier_trees (specs_part s)) (specifiers_onto s no_specs) (specs_same s no_specs)) (abstract_same a))

pub specs_all : (s : Specifiers) → specifier_trees (specs_part s) ≡ specifiers_onto s no_specs
specs_all s = specs_by (specifier_trees (specs_part s)) (specifiers_onto s no_specs) (specs_same s no_specs)

last_argument : (xs : Arguments) (e : Expression) → (add_argument (arguments_part xs) (expr_part e)).trees ≡ arguments_onto xs (exprs (expression_tree e) no_exprs)
last_argument xs e = argument_by (arguments_part xs).trees (expr_part e).tree (expression_tree e) (arguments_onto xs (exprs (expression_tree e) no_exprs)) (expr_tree e) (arguments_same xs (exprs (expression_tree e) no_exprs))

-- ## Declarations

init_same : (i : Initializer) → (init_part i).tree ≡ initializer_tree i
init_same no_initializer = refl
init_same (initializer p e) = let h = expr_tree e in cc
init_same (initializer_list p q xs e c l) = let h = last_argument xs e in cc

one_init : (ds : InitsPart) (d : InitDeclarator) → (with_init ds d).trees ≡ ds.trees ++ init_declarator_tree d ∷ []
one_init ds (init_declarator d i) = let h = decl_same d in let g = init_same i in let e : init_tree (decl_part d).tree (init_part i).tree ≡ init_tree (declarator_tree d) (initializer_tree i) = cc in
    ap (λ x. ds.trees ++ x ∷ []) e

inits_same : (ds : InitDeclarators) (r : List InitDeclaratorTree) → (inits_part ds).trees ++ r ≡ init_declarators_onto ds r
inits_same no_init_declarators r = refl
inits_same (init_declarators ds d p) r =
    ap (λ xs. xs ++ r) (one_init (inits_part ds) d) ∙ sym (list_end (inits_part ds).trees (init_declarator_tree d) r) ∙ inits_same ds (init_declarator_tree d ∷ r)

pub decl_tree_same : (d : Declaration) → (decl_of d).tree ≡ declaration_tree d
decl_tree_same (specifiers_alone s p) = let h = specs_start s 0 in let g = specs_all s in cc
decl_tree_same (declaration s ds d p) =
    let h = specs_start s 0 in let g = specs_all s in
    let f : (with_init (inits_part ds) d).trees ≡ init_declarators_onto ds (init_declarator_tree d ∷ []) = one_init (inits_part ds) d ∙ inits_same ds (init_declarator_tree d ∷ []) in cc

-- ## Statements

optional_same : (e : Option Expression) → (optional_part e).tree ≡ optional_tree e
optional_same None = refl
optional_same (Some e) = let h = expr_tree e in cc

first_same : (f : ForFirst) → (for_first_part f).tree ≡ for_first_tree f
first_same (for_nothing p) = refl
first_same (for_expression e p) = let h = expr_tree e in cc
first_same (for_declaration d) = let h = decl_tree_same d in cc

label_same : (l : Label) → (label_part l).tree ≡ label_tree l
label_same (case_label p e q) = let h = expr_tree e in cc
label_same (default_label p q) = refl

labels_same : (ls : Labels) (r : List LabelTree) → (labels_part ls).trees ++ r ≡ labels_onto ls r
labels_same (first_label l) r = ap (λ x. x ∷ r) (label_same l)
labels_same (next_label ls l) r =
    sym (list_end (labels_part ls).trees (label_part l).tree r) ∙ ap (λ x. (labels_part ls).trees ++ (x ∷ r)) (label_same l) ∙ labels_same ls (label_tree l ∷ r)

labels_all : (ls : Labels) → (labels_part ls).trees ≡ labels_onto ls []
labels_all ls = sym (list_nil (labels_part ls).trees) ∙ labels_same ls []

mutual
  pub stmt_same : (s : Statement) → (stmt_part s).tree ≡ statement_tree s
  stmt_same (block p is q) = let h = (items_by (items_part is).trees (items_onto is no_item_trees) (items_same is no_item_trees)) in cc
  stmt_same (empty_statement p) = refl
  stmt_same (expression_statement e p) = let h = expr_tree e in let g = expr_start e in cc
  stmt_same (if_statement p q e l s) = let h = expr_tree e in let g = stmt_same s in cc
  stmt_same (if_else p q e l a m b) = let h = expr_tree e in let g = stmt_same a in let f = stmt_same b in cc
  stmt_same (while_statement p q e l s) = let h = expr_tree e in let g = stmt_same s in cc
  stmt_same (do_statement p s w q e l m) = let h = expr_tree e in let g = stmt_same s in cc
  stmt_same (for_statement p q f c m u l s) = let h = first_same f in let g = optional_same c in let i = optional_same u in let j = stmt_same s in cc
  stmt_same (switch_statement p q e l m gs n) = let h = expr_tree e in let g = (groups_by (groups_part gs).trees (groups_onto gs no_group_trees) (groups_same gs no_group_trees)) in cc
  stmt_same (jump_statement p j q) = refl
  stmt_same (return_statement p e q) = let h = optional_same e in cc

  items_same : (is : Items) (r : ItemTrees) → item_join (items_part is).trees r ≡ items_onto is r
  items_same no_items r = refl
  items_same (declaration_item is d) r =
      sym (decl_end (items_part is).trees (decl_of d).tree r) ∙ ap (λ x. item_join (items_part is).trees (decl_item x r)) (decl_tree_same d) ∙ items_same is (decl_item (declaration_tree d) r)
  items_same (statement_item is s) r =
      sym (stmt_end (items_part is).trees (stmt_part s).tree r) ∙ ap (λ x. item_join (items_part is).trees (stmt_item x r)) (stmt_same s) ∙ items_same is (stmt_item (statement_tree s) r)

  groups_same : (gs : Groups) (r : GroupTrees) → group_join (groups_part gs).trees r ≡ groups_onto gs r
  groups_same no_groups r = refl
  groups_same (group gs ls is) r =
      sym (group_end (groups_part gs).trees (labels_part ls).trees (items_part is).trees r)
      ∙ ap (λ x. group_join (groups_part gs).trees (group_trees x (items_part is).trees r)) (labels_all ls)
      ∙ ap (λ x. group_join (groups_part gs).trees (group_trees (labels_onto ls []) x r)) ((items_by (items_part is).trees (items_onto is no_item_trees) (items_same is no_item_trees)))
      ∙ groups_same gs (group_trees (labels_onto ls []) (items_onto is no_item_trees) r)

pub items_all : (is : Items) → (items_part is).trees ≡ items_onto is no_item_trees
items_all is = items_by (items_part is).trees (items_onto is no_item_trees) (items_same is no_item_trees)

-- ## Files

function_same : (s : Specifiers) (d : Declarator) (p : Place) (is : Items)
    → function_external (start_place (specs_part s)) (specifier_trees (specs_part s)) (decl_part d).tree p (items_part is).trees
    ≡ function_external (start_of s) (specifiers_onto s no_specs) (declarator_tree d) p (items_onto is no_item_trees)
function_same s d p is = let h = specs_start s 0 in let g = specs_all s in let f = decl_same d in let i = items_all is in cc

file_same : (f : File) (r : FileTree) → (file_part f).trees ++ r ≡ file_onto f r
file_same empty_file r = refl
file_same (external_declaration f d) r =
    sym (list_end (file_part f).trees (decl_external (decl_of d).tree) r) ∙ ap (λ x. (file_part f).trees ++ (decl_external x ∷ r)) (decl_tree_same d)
    ∙ file_same f (decl_external (declaration_tree d) ∷ r)
file_same (function_definition f s d p is q) r =
    sym (list_end (file_part f).trees (function_external (start_place (specs_part s)) (specifier_trees (specs_part s)) (decl_part d).tree p (items_part is).trees) r)
    ∙ ap (λ x. (file_part f).trees ++ (x ∷ r)) (function_same s d p is)
    ∙ file_same f (function_external (start_of s) (specifiers_onto s no_specs) (declarator_tree d) p (items_onto is no_item_trees) ∷ r)

-- The reader's file is the tree of the derivation.
pub file_trees : (f : File) → (file_part f).trees ≡ file_tree f
file_trees f = sym (list_nil (file_part f).trees) ∙ file_same f []
