-- The trees of what is of the grammar are shaped.
use Rattle.std.proofs.Common.{◌≡◌, Bool, true, true≢false, List, [], ◌∷◌, Option, Some, None, sym}
use Rattle.c_grammar.specs.Tokens.{Identifier}
use Rattle.c_grammar.specs.Derivations.{Expression, identifier, constant, parenthesized, index, call_without, call, member, step_after, step_before, unary, sizeof_expression, sizeof_type, cast, binary, conditional, assignment, Arguments, no_arguments, argument, TypeName, type_name, Specifiers, no_specifiers, storage_class, qualifier, inlined, type_words, typedef_name, composite_reference, composite, enum_reference, enumeration, Members, no_members, members, Declarators, no_declarators, declarators, Enumerator, enumerator, enumerator_value, Enumerators, no_enumerators, enumerators, Declarator, declared_name, pointer, parenthesized_declarator, array, function, Length, no_length, length_of, AbstractDeclarator, no_declarator, abstract_pointer, parenthesized_abstract, abstract_array, abstract_function, Parameters, no_parameters, void_parameter, parameters, EarlierParameters, no_earlier, earlier, Parameter, named_parameter, unnamed_parameter, Initializer, no_initializer, initializer, initializer_list, InitDeclarator, init_declarator, InitDeclarators, no_init_declarators, init_declarators, Declaration, specifiers_alone, declaration, ForFirst, for_nothing, for_expression, for_declaration, Label, case_label, default_label, Labels, first_label, next_label, Statement, block, empty_statement, expression_statement, if_statement, if_else, while_statement, do_statement, for_statement, switch_statement, jump_statement, return_statement, Items, no_items, declaration_item, statement_item, Groups, no_groups, group}
use Rattle.c_grammar.specs.Spelling.{has_members, is_function_head, declarator_names, init_declarators_names, declares_types, for_first_names, statement_names, items_names, groups_names, ExpressionOk, ArgumentsOk, TypeNameOk, SpecifiersOk, MembersOk, DeclaratorsOk, EnumeratorOk, EnumeratorsOk, DeclaratorOk, LengthOk, AbstractOk, ParametersOk, EarlierOk, ParameterOk, InitializerOk, InitDeclaratorOk, InitDeclaratorsOk, DeclarationOk, OptionalOk, ForFirstOk, LabelOk, LabelsOk, StatementOk, ItemsOk, GroupsOk}
use Rattle.c_tree.specs.Trees.{ExprTrees, SpecifierTrees, no_specs, MemberTrees, no_member_trees, EnumeratorTrees, no_enumerator_trees, DeclaratorTrees, ParameterTrees, no_parameter_trees, InitDeclaratorTree, LabelTree, ItemTrees, no_item_trees, GroupTrees, no_group_trees}
use Rattle.c_tree.specs.Reading.{expression_tree, arguments_onto, type_name_tree, specifiers_onto, members_onto, declarators_onto, enumerator_onto, enumerators_onto, declarator_tree, length_tree, abstract_tree, parameters_tree, earlier_onto, parameter_onto, initializer_tree, init_declarator_tree, init_declarators_onto, declaration_tree, optional_tree, for_first_tree, label_tree, labels_onto, statement_tree, items_onto, groups_onto}
use Rattle.c_shapes.specs.Shaped.{HasDeclarators, HasMembers, IsExpr, AreExprs, IsMaybe, IsTypeName, AreSpecifiers, AreMembers, AreEnumerators, IsDeclarator, AreDeclarators, AreParameters, IsInitializer, AreInits, IsDecl, IsOptional, IsFirst, AreLabels, IsStmt, AreItems, AreGroups, IsDefinition}

-- ## Bodies have a member

declarators_there : (ds : Declarators) (r : DeclaratorTrees) → HasDeclarators r → HasDeclarators (declarators_onto ds r)
declarators_there no_declarators r h = h
declarators_there (declarators ds d p) r h = declarators_there ds _ tt

members_more : (ms : Members) (r : MemberTrees) → HasMembers r → HasMembers (members_onto ms r)
members_more no_members r h = h
members_more (members ms s ds d p) r h = members_more ms _ (declarators_there ds _ tt)

members_there : (ms : Members) (r : MemberTrees) → has_members ms ≡ true → HasMembers (members_onto ms r)
members_there no_members r e = absurd (true≢false (sym e))
members_there (members ms s ds d p) r e = members_more ms _ (declarators_there ds _ tt)

-- ## Expressions, types and declarators

mutual
  pub expression_shaped : (ns : List Identifier) (e : Expression) → ExpressionOk ns e → IsExpr (expression_tree e)
  expression_shaped ns (identifier p x) h = tt
  expression_shaped ns (constant p n) h = tt
  expression_shaped ns (parenthesized p e q) h = expression_shaped ns e h
  expression_shaped ns (index e p i q) h = (expression_shaped ns e h.0, expression_shaped ns i h.2)
  expression_shaped ns (call_without f p q) h = (expression_shaped ns f h.0, tt)
  expression_shaped ns (call f p xs e q) h = (expression_shaped ns f h.0, arguments_shaped ns xs _ h.2 (expression_shaped ns e h.3, tt))
  expression_shaped ns (member e p o q x) h = expression_shaped ns e h.0
  expression_shaped ns (step_after e p o) h = expression_shaped ns e h.0
  expression_shaped ns (step_before p o e) h = expression_shaped ns e h.0
  expression_shaped ns (unary p o e) h = expression_shaped ns e h.1
  expression_shaped ns (sizeof_expression p e) h = expression_shaped ns e h.0
  expression_shaped ns (sizeof_type p q t l) h = type_shaped ns t h
  expression_shaped ns (cast p t q e) h = (type_shaped ns t h.0, expression_shaped ns e h.1)
  expression_shaped ns (binary a p o b) h = (expression_shaped ns a h.1, expression_shaped ns b h.3)
  expression_shaped ns (conditional c p a q b) h = (expression_shaped ns c h.0, (expression_shaped ns a h.2, expression_shaped ns b h.3))
  expression_shaped ns (assignment a p o b) h = (expression_shaped ns a h.0, expression_shaped ns b h.2)

  pub arguments_shaped : (ns : List Identifier) (xs : Arguments) (r : ExprTrees) → ArgumentsOk ns xs → AreExprs r → AreExprs (arguments_onto xs r)
  arguments_shaped ns no_arguments r h g = g
  arguments_shaped ns (argument xs e p) r h g = arguments_shaped ns xs _ h.0 (expression_shaped ns e h.1, g)

  type_shaped : (ns : List Identifier) (t : TypeName) → TypeNameOk ns t → IsTypeName (type_name_tree t)
  type_shaped ns (type_name s a) h = (specifiers_shaped ns s no_specs h.0 tt, abstract_shaped ns a h.3)

  pub specifiers_shaped : (ns : List Identifier) (s : Specifiers) (r : SpecifierTrees) → SpecifiersOk ns s → AreSpecifiers r → AreSpecifiers (specifiers_onto s r)
  specifiers_shaped ns no_specifiers r h g = g
  specifiers_shaped ns (storage_class s p w) r h g = specifiers_shaped ns s _ h.0 (tt, g)
  specifiers_shaped ns (qualifier s p q) r h g = specifiers_shaped ns s _ h (tt, g)
  specifiers_shaped ns (inlined s p) r h g = specifiers_shaped ns s _ h (tt, g)
  specifiers_shaped ns (type_words s ws) r h g = specifiers_shaped ns s _ h.0 (tt, g)
  specifiers_shaped ns (typedef_name s p x) r h g = specifiers_shaped ns s _ h.0 (tt, g)
  specifiers_shaped ns (composite_reference s p w q x) r h g = specifiers_shaped ns s _ h.0 (tt, g)
  specifiers_shaped ns (composite s p w t q ms l) r h g = specifiers_shaped ns s _ h.0 ((members_there ms no_member_trees h.3, members_shaped ns ms no_member_trees h.2 tt), g)
  specifiers_shaped ns (enum_reference s p q x) r h g = specifiers_shaped ns s _ h.0 (tt, g)
  specifiers_shaped ns (enumeration s p t q es e c l) r h g = specifiers_shaped ns s _ h.0 (enumerators_shaped ns es _ h.2 (enumerator_shaped ns e no_enumerator_trees h.3 tt), g)

  members_shaped : (ns : List Identifier) (ms : Members) (r : MemberTrees) → MembersOk ns ms → AreMembers r → AreMembers (members_onto ms r)
  members_shaped ns no_members r h g = g
  members_shaped ns (members ms s ds d p) r h g = members_shaped ns ms _ h.0 (specifiers_shaped ns s no_specs h.1 tt, (declarators_shaped ns ds _ h.4 (declarator_shaped ns d h.5, tt), g))

  declarators_shaped : (ns : List Identifier) (ds : Declarators) (r : DeclaratorTrees) → DeclaratorsOk ns ds → AreDeclarators r → AreDeclarators (declarators_onto ds r)
  declarators_shaped ns no_declarators r h g = g
  declarators_shaped ns (declarators ds d p) r h g = declarators_shaped ns ds _ h.0 (declarator_shaped ns d h.1, g)

  enumerator_shaped : (ns : List Identifier) (e : Enumerator) (r : EnumeratorTrees) → EnumeratorOk ns e → AreEnumerators r → AreEnumerators (enumerator_onto e r)
  enumerator_shaped ns (enumerator p x) r h g = (tt, g)
  enumerator_shaped ns (enumerator_value p x q e) r h g = (expression_shaped ns e h.1, g)

  enumerators_shaped : (ns : List Identifier) (es : Enumerators) (r : EnumeratorTrees) → EnumeratorsOk ns es → AreEnumerators r → AreEnumerators (enumerators_onto es r)
  enumerators_shaped ns no_enumerators r h g = g
  enumerators_shaped ns (enumerators es e p) r h g = enumerators_shaped ns es _ h.0 (enumerator_shaped ns e r h.1 g)

  pub declarator_shaped : (ns : List Identifier) (d : Declarator) → DeclaratorOk ns d → IsDeclarator (declarator_tree d)
  declarator_shaped ns (declared_name p x) h = tt
  declarator_shaped ns (pointer p qs d) h = declarator_shaped ns d h
  declarator_shaped ns (parenthesized_declarator p d q) h = declarator_shaped ns d h
  declarator_shaped ns (array d p n q) h = (declarator_shaped ns d h.0, length_shaped ns n h.2)
  declarator_shaped ns (function d p ps q) h = (declarator_shaped ns d h.0, parameters_shaped ns ps h.2)

  length_shaped : (ns : List Identifier) (n : Length) → LengthOk ns n → IsMaybe (length_tree n)
  length_shaped ns no_length h = tt
  length_shaped ns (length_of e) h = expression_shaped ns e h.0

  abstract_shaped : (ns : List Identifier) (a : AbstractDeclarator) → AbstractOk ns a → IsDeclarator (abstract_tree a)
  abstract_shaped ns no_declarator h = tt
  abstract_shaped ns (abstract_pointer p qs a) h = abstract_shaped ns a h
  abstract_shaped ns (parenthesized_abstract p a q) h = abstract_shaped ns a h.0
  abstract_shaped ns (abstract_array a p n q) h = (abstract_shaped ns a h.0, length_shaped ns n h.2)
  abstract_shaped ns (abstract_function a p ps q) h = (abstract_shaped ns a h.0, parameters_shaped ns ps h.2)

  pub parameters_shaped : (ns : List Identifier) (ps : Parameters) → ParametersOk ns ps → AreParameters (parameters_tree ps)
  parameters_shaped ns no_parameters h = tt
  parameters_shaped ns (void_parameter p) h = tt
  parameters_shaped ns (parameters ps x) h = earlier_shaped ns ps _ h.0 (parameter_shaped ns x no_parameter_trees h.1 tt)

  earlier_shaped : (ns : List Identifier) (ps : EarlierParameters) (r : ParameterTrees) → EarlierOk ns ps → AreParameters r → AreParameters (earlier_onto ps r)
  earlier_shaped ns no_earlier r h g = g
  earlier_shaped ns (earlier ps x p) r h g = earlier_shaped ns ps _ h.0 (parameter_shaped ns x r h.1 g)

  parameter_shaped : (ns : List Identifier) (x : Parameter) (r : ParameterTrees) → ParameterOk ns x → AreParameters r → AreParameters (parameter_onto x r)
  parameter_shaped ns (named_parameter s d) r h g = (specifiers_shaped ns s no_specs h.0 tt, (declarator_shaped ns d h.3, g))
  parameter_shaped ns (unnamed_parameter s a) r h g = (specifiers_shaped ns s no_specs h.0 tt, (abstract_shaped ns a h.3, g))

-- the head of a definition
pub head_shaped : (ns : List Identifier) (d : Declarator) → DeclaratorOk ns d → is_function_head d ≡ true → IsDefinition (declarator_tree d)
head_shaped ns (declared_name p x) h e = absurd (true≢false (sym e))
head_shaped ns (pointer p qs d) h e = head_shaped ns d h e
head_shaped ns (parenthesized_declarator p d q) h e = absurd (true≢false (sym e))
head_shaped ns (array d p n q) h e = absurd (true≢false (sym e))
head_shaped ns (function (declared_name p x) q ps l) h e = parameters_shaped ns ps h.2
head_shaped ns (function (pointer p qs d) q ps l) h e = absurd (true≢false (sym e))
head_shaped ns (function (parenthesized_declarator p d m) q ps l) h e = absurd (true≢false (sym e))
head_shaped ns (function (array d p n m) q ps l) h e = absurd (true≢false (sym e))
head_shaped ns (function (function d p qs m) q ps l) h e = absurd (true≢false (sym e))

-- ## Declarations

initializer_shaped : (ns : List Identifier) (i : Initializer) → InitializerOk ns i → IsInitializer (initializer_tree i)
initializer_shaped ns no_initializer h = tt
initializer_shaped ns (initializer p e) h = expression_shaped ns e h
initializer_shaped ns (initializer_list p q xs e c l) h = arguments_shaped ns xs _ h.0 (expression_shaped ns e h.1, tt)

init_shaped : (b : Bool) (ns : List Identifier) (d : InitDeclarator) (r : List InitDeclaratorTree) → InitDeclaratorOk b ns d → AreInits r → AreInits (init_declarator_tree d ∷ r)
init_shaped b ns (init_declarator d i) r h g = (declarator_shaped ns d h.0, (initializer_shaped (declarator_names b d ns) i h.1, g))

inits_shaped : (b : Bool) (ns : List Identifier) (ds : InitDeclarators) (r : List InitDeclaratorTree) → InitDeclaratorsOk b ns ds → AreInits r → AreInits (init_declarators_onto ds r)
inits_shaped b ns no_init_declarators r h g = g
inits_shaped b ns (init_declarators ds d p) r h g = inits_shaped b ns ds _ h.0 (init_shaped b (init_declarators_names b ds ns) d r h.1 g)

pub declaration_shaped : (ns : List Identifier) (d : Declaration) → DeclarationOk ns d → IsDecl (declaration_tree d)
declaration_shaped ns (specifiers_alone s p) h = (specifiers_shaped ns s no_specs h.0 tt, tt)
declaration_shaped ns (declaration s ds d p) h = (specifiers_shaped ns s no_specs h.0 tt, inits_shaped (declares_types s) ns ds _ h.2 (init_shaped (declares_types s) (init_declarators_names (declares_types s) ds ns) d [] h.3 tt))

-- ## Statements

optional_shaped : (ns : List Identifier) (o : Option Expression) → OptionalOk ns o → IsOptional (optional_tree o)
optional_shaped ns None h = tt
optional_shaped ns (Some e) h = expression_shaped ns e h

first_shaped : (ns : List Identifier) (f : ForFirst) → ForFirstOk ns f → IsFirst (for_first_tree f)
first_shaped ns (for_nothing p) h = tt
first_shaped ns (for_expression e p) h = expression_shaped ns e h
first_shaped ns (for_declaration d) h = declaration_shaped ns d h.0

label_shaped : (ns : List Identifier) (l : Label) (r : List LabelTree) → LabelOk ns l → AreLabels r → AreLabels (label_tree l ∷ r)
label_shaped ns (case_label p e q) r h g = (expression_shaped ns e h.0, g)
label_shaped ns (default_label p q) r h g = g

labels_shaped : (ns : List Identifier) (ls : Labels) (r : List LabelTree) → LabelsOk ns ls → AreLabels r → AreLabels (labels_onto ls r)
labels_shaped ns (first_label l) r h g = label_shaped ns l r h g
labels_shaped ns (next_label ls l) r h g = labels_shaped ns ls _ h.0 (label_shaped ns l r h.1 g)

mutual
  statement_shaped : (ns : List Identifier) (s : Statement) → StatementOk ns s → IsStmt (statement_tree s)
  statement_shaped ns (block p is q) h = items_shaped ns is no_item_trees h tt
  statement_shaped ns (empty_statement p) h = tt
  statement_shaped ns (expression_statement e p) h = expression_shaped ns e h
  statement_shaped ns (if_statement p q e l s) h = (expression_shaped ns e h.0, statement_shaped ns s h.1)
  statement_shaped ns (if_else p q e l a m b) h = (expression_shaped ns e h.0, (statement_shaped ns a h.1, statement_shaped (statement_names a ns) b h.3))
  statement_shaped ns (while_statement p q e l s) h = (expression_shaped ns e h.0, statement_shaped ns s h.1)
  statement_shaped ns (do_statement p s w q e l m) h = (statement_shaped ns s h.0, expression_shaped (statement_names s ns) e h.1)
  statement_shaped ns (for_statement p q f c m u l s) h = (first_shaped ns f h.0, (optional_shaped (for_first_names f ns) c h.1, (optional_shaped (for_first_names f ns) u h.2, statement_shaped (for_first_names f ns) s h.3)))
  statement_shaped ns (switch_statement p q e l m gs n) h = (expression_shaped ns e h.0, groups_shaped ns gs no_group_trees h.1 tt)
  statement_shaped ns (jump_statement p j q) h = tt
  statement_shaped ns (return_statement p e q) h = optional_shaped ns e h

  pub items_shaped : (ns : List Identifier) (is : Items) (r : ItemTrees) → ItemsOk ns is → AreItems r → AreItems (items_onto is r)
  items_shaped ns no_items r h g = g
  items_shaped ns (declaration_item is d) r h g = items_shaped ns is _ h.0 (declaration_shaped (items_names is ns) d h.1, g)
  items_shaped ns (statement_item is s) r h g = items_shaped ns is _ h.0 (statement_shaped (items_names is ns) s h.1, g)

  groups_shaped : (ns : List Identifier) (gs : Groups) (r : GroupTrees) → GroupsOk ns gs → AreGroups r → AreGroups (groups_onto gs r)
  groups_shaped ns no_groups r h g = g
  groups_shaped ns (group gs ls is) r h g = groups_shaped ns gs _ h.0 (labels_shaped (groups_names gs ns) ls [] h.2 tt, (items_shaped (groups_names gs ns) is no_item_trees h.3 tt, g))
