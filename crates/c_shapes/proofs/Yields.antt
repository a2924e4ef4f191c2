-- Declared names are tokens: where each name among the tokens is short, so is each that is declared.
use Rattle.std.proofs.Common.{◌≤◌, List, [], ◌∷◌, length, Option, Some, None}
use Rattle.c_grammar.specs.Tokens.{Kind, Name, Token, token}
use Rattle.c_grammar.specs.Derivations.{Qualifiers, no_qualifiers, qualified, TypeWords, first_word, next_word, Tag, no_tag, tag, Trailing, no_comma, comma, Expression, identifier, constant, parenthesized, index, call_without, call, member, step_after, step_before, unary, sizeof_expression, sizeof_type, cast, binary, conditional, assignment, Arguments, no_arguments, argument, TypeName, type_name, Specifiers, no_specifiers, storage_class, qualifier, inlined, type_words, typedef_name, composite_reference, composite, enum_reference, enumeration, Members, no_members, members, Declarators, no_declarators, declarators, Enumerator, enumerator, enumerator_value, Enumerators, no_enumerators, enumerators, Declarator, declared_name, pointer, parenthesized_declarator, array, function, Length, no_length, length_of, AbstractDeclarator, no_declarator, abstract_pointer, parenthesized_abstract, abstract_array, abstract_function, Parameters, no_parameters, void_parameter, parameters, EarlierParameters, no_earlier, earlier, Parameter, named_parameter, unnamed_parameter, Initializer, no_initializer, initializer, initializer_list, InitDeclarator, init_declarator, InitDeclarators, no_init_declarators, init_declarators, Declaration, specifiers_alone, declaration, ForFirst, for_nothing, for_expression, for_declaration, Label, case_label, default_label, Labels, first_label, next_label, Statement, block, empty_statement, expression_statement, if_statement, if_else, while_statement, do_statement, for_statement, switch_statement, jump_statement, return_statement, Items, no_items, declaration_item, statement_item, Groups, no_groups, group}
use Rattle.c_grammar.specs.Yield.{qualifiers_yield, words_yield, tag_yield, trailing_yield, expression_yield, arguments_yield, type_name_yield, specifiers_yield, members_yield, declarators_yield, enumerator_yield, enumerators_yield, declarator_yield, length_yield, abstract_yield, parameters_yield, earlier_yield, parameter_yield, initializer_yield, init_declarator_yield, init_declarators_yield, declaration_yield, optional_yield, for_first_yield, label_yield, labels_yield, statement_yield, items_yield, groups_yield}
use Rattle.c_tree.specs.Trees.{InitDeclaratorTree}
use Rattle.c_tree.specs.Reading.{declarator_tree, init_declarator_tree, init_declarators_onto}
use Rattle.c_shapes.specs.Shaped.{IsShort, AreShort}

abbrev pub IsShortKind : Kind → Type 0
IsShortKind (Name x) = length x ≤ 127
IsShortKind _ = Unit {0}

abbrev pub AreShortTokens : List Token → Type 0
AreShortTokens [] = Unit {0}
AreShortTokens (token kind place ∷ ts) = IsShortKind kind × AreShortTokens ts

-- ## What stands behind a part

qualifiers_rest : (qs : Qualifiers) (r : List Token) → AreShortTokens (qualifiers_yield qs r) → AreShortTokens r
qualifiers_rest no_qualifiers r h = h
qualifiers_rest (qualified qs p q) r h = (qualifiers_rest qs _ h).1

words_rest : (ws : TypeWords) (r : List Token) → AreShortTokens (words_yield ws r) → AreShortTokens r
words_rest (first_word p w) r h = h.1
words_rest (next_word ws p w) r h = (words_rest ws _ h).1

tag_rest : (t : Tag) (r : List Token) → AreShortTokens (tag_yield t r) → AreShortTokens r
tag_rest no_tag r h = h
tag_rest (tag p x) r h = h.1

trailing_rest : (c : Trailing) (r : List Token) → AreShortTokens (trailing_yield c r) → AreShortTokens r
trailing_rest no_comma r h = h
trailing_rest (comma p) r h = h.1

mutual
  expression_rest : (e : Expression) (r : List Token) → AreShortTokens (expression_yield e r) → AreShortTokens r
  expression_rest (identifier p x) r h = h.1
  expression_rest (constant p n) r h = h.1
  expression_rest (parenthesized p e q) r h = (expression_rest e _ h.1).1
  expression_rest (index e p i q) r h = (expression_rest i _ (expression_rest e _ h).1).1
  expression_rest (call_without f p q) r h = (expression_rest f _ h).1.1
  expression_rest (call f p xs e q) r h = (expression_rest e _ (arguments_rest xs _ (expression_rest f _ h).1)).1
  expression_rest (member e p o q x) r h = (expression_rest e _ h).1.1
  expression_rest (step_after e p o) r h = (expression_rest e _ h).1
  expression_rest (step_before p o e) r h = expression_rest e r h.1
  expression_rest (unary p o e) r h = expression_rest e r h.1
  expression_rest (sizeof_expression p e) r h = expression_rest e r h.1
  expression_rest (sizeof_type p q t l) r h = (type_rest t _ h.1.1).1
  expression_rest (cast p t q e) r h = expression_rest e r (type_rest t _ h.1).1
  expression_rest (binary a p o b) r h = expression_rest b r (expression_rest a _ h).1
  expression_rest (conditional c p a q b) r h = expression_rest b r (expression_rest a _ (expression_rest c _ h).1).1
  expression_rest (assignment a p o b) r h = expression_rest b r (expression_rest a _ h).1

  arguments_rest : (xs : Arguments) (r : List Token) → AreShortTokens (arguments_yield xs r) → AreShortTokens r
  arguments_rest no_arguments r h = h
  arguments_rest (argument xs e p) r h = (expression_rest e _ (arguments_rest xs _ h)).1

  type_rest : (t : TypeName) (r : List Token) → AreShortTokens (type_name_yield t r) → AreShortTokens r
  type_rest (type_name s a) r h = abstract_rest a r (specifiers_rest s _ h)

  pub specifiers_rest : (s : Specifiers) (r : List Token) → AreShortTokens (specifiers_yield s r) → AreShortTokens r
  specifiers_rest no_specifiers r h = h
  specifiers_rest (storage_class s p w) r h = (specifiers_rest s _ h).1
  specifiers_rest (qualifier s p q) r h = (specifiers_rest s _ h).1
  specifiers_rest (inlined s p) r h = (specifiers_rest s _ h).1
  specifiers_rest (type_words s ws) r h = words_rest ws r (specifiers_rest s _ h)
  specifiers_rest (typedef_name s p x) r h = (specifiers_rest s _ h).1
  specifiers_rest (composite_reference s p w q x) r h = (specifiers_rest s _ h).1.1
  specifiers_rest (composite s p w t q ms l) r h = (members_rest ms _ (tag_rest t _ (specifiers_rest s _ h).1).1).1
  specifiers_rest (enum_reference s p q x) r h = (specifiers_rest s _ h).1.1
  specifiers_rest (enumeration s p t q es e c l) r h = (trailing_rest c _ (enumerator_rest e _ (enumerators_rest es _ (tag_rest t _ (specifiers_rest s _ h).1).1))).1

  members_rest : (ms : Members) (r : List Token) → AreShortTokens (members_yield ms r) → AreShortTokens r
  members_rest no_members r h = h
  members_rest (members ms s ds d p) r h = (declarator_rest d _ (declarators_rest ds _ (specifiers_rest s _ (members_rest ms _ h)))).1

  declarators_rest : (ds : Declarators) (r : List Token) → AreShortTokens (declarators_yield ds r) → AreShortTokens r
  declarators_rest no_declarators r h = h
  declarators_rest (declarators ds d p) r h = (declarator_rest d _ (declarators_rest ds _ h)).1

  enumerator_rest : (e : Enumerator) (r : List Token) → AreShortTokens (enumerator_yield e r) → AreShortTokens r
  enumerator_rest (enumerator p x) r h = h.1
  enumerator_rest (enumerator_value p x q e) r h = expression_rest e r h.1.1

  enumerators_rest : (es : Enumerators) (r : List Token) → AreShortTokens (enumerators_yield es r) → AreShortTokens r
  enumerators_rest no_enumerators r h = h
  enumerators_rest (enumerators es e p) r h = (enumerator_rest e _ (enumerators_rest es _ h)).1

  pub declarator_rest : (d : Declarator) (r : List Token) → AreShortTokens (declarator_yield d r) → AreShortTokens r
  declarator_rest (declared_name p x) r h = h.1
  declarator_rest (pointer p qs d) r h = declarator_rest d r (qualifiers_rest qs _ h.1)
  declarator_rest (parenthesized_declarator p d q) r h = (declarator_rest d _ h.1).1
  declarator_rest (array d p n q) r h = (length_rest n _ (declarator_rest d _ h).1).1
  declarator_rest (function d p ps q) r h = (parameters_rest ps _ (declarator_rest d _ h).1).1

  length_rest : (n : Length) (r : List Token) → AreShortTokens (length_yield n r) → AreShortTokens r
  length_rest no_length r h = h
  length_rest (length_of e) r h = expression_rest e r h

  abstract_rest : (a : AbstractDeclarator) (r : List Token) → AreShortTokens (abstract_yield a r) → AreShortTokens r
  abstract_rest no_declarator r h = h
  abstract_rest (abstract_pointer p qs a) r h = abstract_rest a r (qualifiers_rest qs _ h.1)
  abstract_rest (parenthesized_abstract p a q) r h = (abstract_rest a _ h.1).1
  abstract_rest (abstract_array a p n q) r h = (length_rest n _ (abstract_rest a _ h).1).1
  abstract_rest (abstract_function a p ps q) r h = (parameters_rest ps _ (abstract_rest a _ h).1).1

  parameters_rest : (ps : Parameters) (r : List Token) → AreShortTokens (parameters_yield ps r) → AreShortTokens r
  parameters_rest no_parameters r h = h
  parameters_rest (void_parameter p) r h = h.1
  parameters_rest (parameters ps x) r h = parameter_rest x r (earlier_rest ps _ h)

  earlier_rest : (ps : EarlierParameters) (r : List Token) → AreShortTokens (earlier_yield ps r) → AreShortTokens r
  earlier_rest no_earlier r h = h
  earlier_rest (earlier ps x p) r h = (parameter_rest x _ (earlier_rest ps _ h)).1

  parameter_rest : (x : Parameter) (r : List Token) → AreShortTokens (parameter_yield x r) → AreShortTokens r
  parameter_rest (named_parameter s d) r h = declarator_rest d r (specifiers_rest s _ h)
  parameter_rest (unnamed_parameter s a) r h = abstract_rest a r (specifiers_rest s _ h)

initializer_rest : (i : Initializer) (r : List Token) → AreShortTokens (initializer_yield i r) → AreShortTokens r
initializer_rest no_initializer r h = h
initializer_rest (initializer p e) r h = expression_rest e r h.1
initializer_rest (initializer_list p q xs e c l) r h = (trailing_rest c _ (expression_rest e _ (arguments_rest xs _ h.1.1))).1

init_rest : (d : InitDeclarator) (r : List Token) → AreShortTokens (init_declarator_yield d r) → AreShortTokens r
init_rest (init_declarator d i) r h = initializer_rest i r (declarator_rest d _ h)

inits_rest : (ds : InitDeclarators) (r : List Token) → AreShortTokens (init_declarators_yield ds r) → AreShortTokens r
inits_rest no_init_declarators r h = h
inits_rest (init_declarators ds d p) r h = (init_rest d _ (inits_rest ds _ h)).1

pub declaration_rest : (d : Declaration) (r : List Token) → AreShortTokens (declaration_yield d r) → AreShortTokens r
declaration_rest (specifiers_alone s p) r h = (specifiers_rest s _ h).1
declaration_rest (declaration s ds d p) r h = (init_rest d _ (inits_rest ds _ (specifiers_rest s _ h))).1

optional_rest : (o : Option Expression) (r : List Token) → AreShortTokens (optional_yield o r) → AreShortTokens r
optional_rest None r h = h
optional_rest (Some e) r h = expression_rest e r h

first_rest : (f : ForFirst) (r : List Token) → AreShortTokens (for_first_yield f r) → AreShortTokens r
first_rest (for_nothing p) r h = h.1
first_rest (for_expression e p) r h = (expression_rest e _ h).1
first_rest (for_declaration d) r h = declaration_rest d r h

label_rest : (l : Label) (r : List Token) → AreShortTokens (label_yield l r) → AreShortTokens r
label_rest (case_label p e q) r h = (expression_rest e _ h.1).1
label_rest (default_label p q) r h = h.1.1

labels_rest : (ls : Labels) (r : List Token) → AreShortTokens (labels_yield ls r) → AreShortTokens r
labels_rest (first_label l) r h = label_rest l r h
labels_rest (next_label ls l) r h = label_rest l r (labels_rest ls _ h)

mutual
  statement_rest : (s : Statement) (r : List Token) → AreShortTokens (statement_yield s r) → AreShortTokens r
  statement_rest (block p is q) r h = (items_rest is _ h.1).1
  statement_rest (empty_statement p) r h = h.1
  statement_rest (expression_statement e p) r h = (expression_rest e _ h).1
  statement_rest (if_statement p q e l s) r h = statement_rest s r (expression_rest e _ h.1.1).1
  statement_rest (if_else p q e l a m b) r h = statement_rest b r (statement_rest a _ (expression_rest e _ h.1.1).1).1
  statement_rest (while_statement p q e l s) r h = statement_rest s r (expression_rest e _ h.1.1).1
  statement_rest (do_statement p s w q e l m) r h = (expression_rest e _ (statement_rest s _ h.1).1.1).1.1
  statement_rest (for_statement p q f c m u l s) r h = statement_rest s r (optional_rest u _ (optional_rest c _ (first_rest f _ h.1.1)).1).1
  statement_rest (switch_statement p q e l m gs n) r h = (groups_rest gs _ (expression_rest e _ h.1.1).1.1).1
  statement_rest (jump_statement p j q) r h = h.1.1
  statement_rest (return_statement p e q) r h = (optional_rest e _ h.1).1

  pub items_rest : (is : Items) (r : List Token) → AreShortTokens (items_yield is r) → AreShortTokens r
  items_rest no_items r h = h
  items_rest (declaration_item is d) r h = declaration_rest d r (items_rest is _ h)
  items_rest (statement_item is s) r h = statement_rest s r (items_rest is _ h)

  groups_rest : (gs : Groups) (r : List Token) → AreShortTokens (groups_yield gs r) → AreShortTokens r
  groups_rest no_groups r h = h
  groups_rest (group gs ls is) r h = items_rest is r (labels_rest ls _ (groups_rest gs _ h))

-- ## Declared names

pub declarator_short : (d : Declarator) (r : List Token) → AreShortTokens (declarator_yield d r) → IsShort (declarator_tree d)
declarator_short (declared_name p x) r h = h.0
declarator_short (pointer p qs d) r h = declarator_short d r (qualifiers_rest qs _ h.1)
declarator_short (parenthesized_declarator p d q) r h = declarator_short d _ h.1
declarator_short (array d p n q) r h = declarator_short d _ h
declarator_short (function d p ps q) r h = declarator_short d _ h

init_short : (d : InitDeclarator) (r : List Token) (ts : List InitDeclaratorTree) → AreShortTokens (init_declarator_yield d r) → AreShort ts → AreShort (init_declarator_tree d ∷ ts)
init_short (init_declarator d i) r ts h g = (declarator_short d _ h, g)

inits_short : (ds : InitDeclarators) (r : List Token) (ts : List InitDeclaratorTree) → AreShortTokens (init_declarators_yield ds r) → AreShort ts → AreShort (init_declarators_onto ds ts)
inits_short no_init_declarators r ts h g = g
inits_short (init_declarators ds d p) r ts h g = inits_short ds _ _ h (init_short d _ ts (inits_rest ds _ h) g)

-- the declarators of a declaration
pub declaration_short : (s : Specifiers) (ds : InitDeclarators) (d : InitDeclarator) (r : List Token) → AreShortTokens (specifiers_yield s (init_declarators_yield ds (init_declarator_yield d r))) → AreShort (init_declarators_onto ds (init_declarator_tree d ∷ []))
declaration_short s ds d r h = inits_short ds _ _ (specifiers_rest s _ h) (init_short d _ [] (inits_rest ds _ (specifiers_rest s _ h)) tt)
