-- How many marked symbols stand above each token of a derivation; `n` is their number above the whole. Marked are each statement, each expression that an operator, a call, an index, a member, a cast or `sizeof` makes, each pair of parentheses round an expression, each declarator and each abstract declarator with `*`, brackets or parentheses, each body of a struct or union, and each list of an initializer.
use Rattle.std.specs.Prelude.{ℕ, ◌<◌, ◌≤◌, List, [], ◌∷◌, ◌++◌, Option, Some, None, length, take, slice_index, suc}
use Rattle.c_grammar.specs.Tokens.{Token}
use Rattle.c_grammar.specs.Derivations.{Qualifiers, no_qualifiers, qualified, TypeWords, first_word, next_word, Tag, no_tag, tag, Trailing, no_comma, comma, Expression, identifier, constant, parenthesized, index, call_without, call, member, step_after, step_before, unary, sizeof_expression, sizeof_type, cast, binary, conditional, assignment, Arguments, no_arguments, argument, TypeName, type_name, Specifiers, no_specifiers, storage_class, qualifier, inlined, type_words, typedef_name, composite_reference, composite, enum_reference, enumeration, Members, no_members, members, Declarators, no_declarators, declarators, Enumerator, enumerator, enumerator_value, Enumerators, no_enumerators, enumerators, Declarator, declared_name, pointer, parenthesized_declarator, array, function, Length, no_length, length_of, AbstractDeclarator, no_declarator, abstract_pointer, parenthesized_abstract, abstract_array, abstract_function, Parameters, no_parameters, void_parameter, parameters, EarlierParameters, no_earlier, earlier, Parameter, named_parameter, unnamed_parameter, Initializer, no_initializer, initializer, initializer_list, InitDeclarator, init_declarator, InitDeclarators, no_init_declarators, init_declarators, Declaration, specifiers_alone, declaration, ForFirst, for_nothing, for_expression, for_declaration, Label, case_label, default_label, Labels, first_label, next_label, Statement, block, empty_statement, expression_statement, if_statement, if_else, while_statement, do_statement, for_statement, switch_statement, jump_statement, return_statement, Items, no_items, declaration_item, statement_item, Groups, no_groups, group, File, empty_file, external_declaration, function_definition}
use Rattle.c_grammar.specs.Spelling.{Spells, Begins}

abbrev pub qualifiers_nest : Qualifiers → ℕ → List ℕ → List ℕ
qualifiers_nest no_qualifiers n r = r
qualifiers_nest (qualified qs p q) n r = qualifiers_nest qs n (n ∷ r)

abbrev pub words_nest : TypeWords → ℕ → List ℕ → List ℕ
words_nest (first_word p w) n r = n ∷ r
words_nest (next_word ws p w) n r = words_nest ws n (n ∷ r)

abbrev pub tag_nest : Tag → ℕ → List ℕ → List ℕ
tag_nest no_tag n r = r
tag_nest (tag p x) n r = n ∷ r

abbrev pub trailing_nest : Trailing → ℕ → List ℕ → List ℕ
trailing_nest no_comma n r = r
trailing_nest (comma p) n r = n ∷ r

abbrev mutual
  pub expression_nest : Expression → ℕ → List ℕ → List ℕ
  expression_nest (identifier p x) n r = n ∷ r
  expression_nest (constant p c) n r = n ∷ r
  expression_nest (parenthesized p e q) n r = suc n ∷ expression_nest e (suc n) (suc n ∷ r)
  expression_nest (index e p i q) n r = expression_nest e (suc n) (suc n ∷ expression_nest i (suc n) (suc n ∷ r))
  expression_nest (call_without f p q) n r = expression_nest f (suc n) (suc n ∷ suc n ∷ r)
  expression_nest (call f p xs e q) n r = expression_nest f (suc n) (suc n ∷ arguments_nest xs (suc n) (expression_nest e (suc n) (suc n ∷ r)))
  expression_nest (member e p o q x) n r = expression_nest e (suc n) (suc n ∷ suc n ∷ r)
  expression_nest (step_after e p o) n r = expression_nest e (suc n) (suc n ∷ r)
  expression_nest (step_before p o e) n r = suc n ∷ expression_nest e (suc n) r
  expression_nest (unary p o e) n r = suc n ∷ expression_nest e (suc n) r
  expression_nest (sizeof_expression p e) n r = suc n ∷ expression_nest e (suc n) r
  expression_nest (sizeof_type p q t l) n r = suc n ∷ suc n ∷ type_name_nest t (suc n) (suc n ∷ r)
  expression_nest (cast p t q e) n r = suc n ∷ type_name_nest t (suc n) (suc n ∷ expression_nest e (suc n) r)
  expression_nest (binary a p o b) n r = expression_nest a (suc n) (suc n ∷ expression_nest b (suc n) r)
  expression_nest (conditional c p a q b) n r = expression_nest c (suc n) (suc n ∷ expression_nest a (suc n) (suc n ∷ expression_nest b (suc n) r))
  expression_nest (assignment a p o b) n r = expression_nest a (suc n) (suc n ∷ expression_nest b (suc n) r)

  pub arguments_nest : Arguments → ℕ → List ℕ → List ℕ
  arguments_nest no_arguments n r = r
  arguments_nest (argument xs e p) n r = arguments_nest xs n (expression_nest e n (n ∷ r))

  pub type_name_nest : TypeName → ℕ → List ℕ → List ℕ
  type_name_nest (type_name s a) n r = specifiers_nest s n (abstract_nest a n r)

  pub specifiers_nest : Specifiers → ℕ → List ℕ → List ℕ
  specifiers_nest no_specifiers n r = r
  specifiers_nest (storage_class s p w) n r = specifiers_nest s n (n ∷ r)
  specifiers_nest (qualifier s p q) n r = specifiers_nest s n (n ∷ r)
  specifiers_nest (inlined s p) n r = specifiers_nest s n (n ∷ r)
  specifiers_nest (type_words s ws) n r = specifiers_nest s n (words_nest ws n r)
  specifiers_nest (typedef_name s p x) n r = specifiers_nest s n (n ∷ r)
  specifiers_nest (composite_reference s p w q x) n r = specifiers_nest s n (n ∷ n ∷ r)
  specifiers_nest (composite s p w t q ms l) n r = specifiers_nest s n (n ∷ tag_nest t n (suc n ∷ members_nest ms (suc n) (suc n ∷ r)))
  specifiers_nest (enum_reference s p q x) n r = specifiers_nest s n (n ∷ n ∷ r)
  specifiers_nest (enumeration s p t q es e c l) n r =
      specifiers_nest s n (n ∷ tag_nest t n (n ∷ enumerators_nest es n (enumerator_nest e n (trailing_nest c n (n ∷ r)))))

  pub members_nest : Members → ℕ → List ℕ → List ℕ
  members_nest no_members n r = r
  members_nest (members ms s ds d p) n r = members_nest ms n (specifiers_nest s n (declarators_nest ds n (declarator_nest d n (n ∷ r))))

  pub declarators_nest : Declarators → ℕ → List ℕ → List ℕ
  declarators_nest no_declarators n r = r
  declarators_nest (declarators ds d p) n r = declarators_nest ds n (declarator_nest d n (n ∷ r))

  pub enumerator_nest : Enumerator → ℕ → List ℕ → List ℕ
  enumerator_nest (enumerator p x) n r = n ∷ r
  enumerator_nest (enumerator_value p x q e) n r = n ∷ n ∷ expression_nest e n r

  pub enumerators_nest : Enumerators → ℕ → List ℕ → List ℕ
  enumerators_nest no_enumerators n r = r
  enumerators_nest (enumerators es e p) n r = enumerators_nest es n (enumerator_nest e n (n ∷ r))

  -- a declarator: a bare name is not marked
  pub declarator_nest : Declarator → ℕ → List ℕ → List ℕ
  declarator_nest (declared_name p x) n r = n ∷ r
  declarator_nest (pointer p qs d) n r = suc n ∷ qualifiers_nest qs (suc n) (inner_nest d (suc n) r)
  declarator_nest (parenthesized_declarator p d q) n r = suc n ∷ declarator_nest d (suc n) (suc n ∷ r)
  declarator_nest (array d p l q) n r = inner_nest d (suc n) (suc n ∷ length_nest l (suc n) (suc n ∷ r))
  declarator_nest (function d p ps q) n r = inner_nest d (suc n) (suc n ∷ parameters_nest ps (suc n) (suc n ∷ r))

  -- a part of one declarator that is counted
  pub inner_nest : Declarator → ℕ → List ℕ → List ℕ
  inner_nest (declared_name p x) n r = n ∷ r
  inner_nest (pointer p qs d) n r = n ∷ qualifiers_nest qs n (inner_nest d n r)
  inner_nest (parenthesized_declarator p d q) n r = n ∷ declarator_nest d n (n ∷ r)
  inner_nest (array d p l q) n r = inner_nest d n (n ∷ length_nest l n (n ∷ r))
  inner_nest (function d p ps q) n r = inner_nest d n (n ∷ parameters_nest ps n (n ∷ r))

  pub length_nest : Length → ℕ → List ℕ → List ℕ
  length_nest no_length n r = r
  length_nest (length_of e) n r = expression_nest e n r

  -- an abstract declarator: each star begins one of its own
  pub abstract_nest : AbstractDeclarator → ℕ → List ℕ → List ℕ
  abstract_nest no_declarator n r = r
  abstract_nest (abstract_pointer p qs a) n r = suc n ∷ qualifiers_nest qs (suc n) (abstract_nest a (suc n) r)
  abstract_nest (parenthesized_abstract p a q) n r = suc n ∷ abstract_nest a (suc n) (suc n ∷ r)
  abstract_nest (abstract_array a p l q) n r = direct_nest a (suc n) (suc n ∷ length_nest l (suc n) (suc n ∷ r))
  abstract_nest (abstract_function a p ps q) n r = direct_nest a (suc n) (suc n ∷ parameters_nest ps (suc n) (suc n ∷ r))

  -- a part of one abstract declarator that is counted
  pub direct_nest : AbstractDeclarator → ℕ → List ℕ → List ℕ
  direct_nest no_declarator n r = r
  direct_nest (abstract_pointer p qs a) n r = n ∷ qualifiers_nest qs n (abstract_nest a n r)
  direct_nest (parenthesized_abstract p a q) n r = n ∷ abstract_nest a n (n ∷ r)
  direct_nest (abstract_array a p l q) n r = direct_nest a n (n ∷ length_nest l n (n ∷ r))
  direct_nest (abstract_function a p ps q) n r = direct_nest a n (n ∷ parameters_nest ps n (n ∷ r))

  pub parameters_nest : Parameters → ℕ → List ℕ → List ℕ
  parameters_nest no_parameters n r = r
  parameters_nest (void_parameter p) n r = n ∷ r
  parameters_nest (parameters ps x) n r = earlier_nest ps n (parameter_nest x n r)

  pub earlier_nest : EarlierParameters → ℕ → List ℕ → List ℕ
  earlier_nest no_earlier n r = r
  earlier_nest (earlier ps x p) n r = earlier_nest ps n (parameter_nest x n (n ∷ r))

  pub parameter_nest : Parameter → ℕ → List ℕ → List ℕ
  parameter_nest (named_parameter s d) n r = specifiers_nest s n (declarator_nest d n r)
  parameter_nest (unnamed_parameter s a) n r = specifiers_nest s n (abstract_nest a n r)

abbrev pub initializer_nest : Initializer → ℕ → List ℕ → List ℕ
initializer_nest no_initializer n r = r
initializer_nest (initializer p e) n r = n ∷ expression_nest e n r
initializer_nest (initializer_list p q xs e c l) n r =
    n ∷ suc n ∷ arguments_nest xs (suc n) (expression_nest e (suc n) (trailing_nest c (suc n) (suc n ∷ r)))

abbrev pub init_declarator_nest : InitDeclarator → ℕ → List ℕ → List ℕ
init_declarator_nest (init_declarator d i) n r = declarator_nest d n (initializer_nest i n r)

abbrev pub init_declarators_nest : InitDeclarators → ℕ → List ℕ → List ℕ
init_declarators_nest no_init_declarators n r = r
init_declarators_nest (init_declarators ds d p) n r = init_declarators_nest ds n (init_declarator_nest d n (n ∷ r))

abbrev pub declaration_nest : Declaration → ℕ → List ℕ → List ℕ
declaration_nest (specifiers_alone s p) n r = specifiers_nest s n (n ∷ r)
declaration_nest (declaration s ds d p) n r = specifiers_nest s n (init_declarators_nest ds n (init_declarator_nest d n (n ∷ r)))

abbrev pub optional_nest : Option Expression → ℕ → List ℕ → List ℕ
optional_nest None n r = r
optional_nest (Some e) n r = expression_nest e n r

abbrev pub for_first_nest : ForFirst → ℕ → List ℕ → List ℕ
for_first_nest (for_nothing p) n r = n ∷ r
for_first_nest (for_expression e p) n r = expression_nest e n (n ∷ r)
for_first_nest (for_declaration d) n r = declaration_nest d n r

abbrev pub label_nest : Label → ℕ → List ℕ → List ℕ
label_nest (case_label p e q) n r = n ∷ expression_nest e n (n ∷ r)
label_nest (default_label p q) n r = n ∷ n ∷ r

abbrev pub labels_nest : Labels → ℕ → List ℕ → List ℕ
labels_nest (first_label l) n r = label_nest l n r
labels_nest (next_label ls l) n r = labels_nest ls n (label_nest l n r)

abbrev mutual
  pub statement_nest : Statement → ℕ → List ℕ → List ℕ
  statement_nest (block p is q) n r = suc n ∷ items_nest is (suc n) (suc n ∷ r)
  statement_nest (empty_statement p) n r = suc n ∷ r
  statement_nest (expression_statement e p) n r = expression_nest e (suc n) (suc n ∷ r)
  statement_nest (if_statement p q e l s) n r = suc n ∷ suc n ∷ expression_nest e (suc n) (suc n ∷ statement_nest s (suc n) r)
  statement_nest (if_else p q e l a m b) n r =
      suc n ∷ suc n ∷ expression_nest e (suc n) (suc n ∷ statement_nest a (suc n) (suc n ∷ statement_nest b (suc n) r))
  statement_nest (while_statement p q e l s) n r = suc n ∷ suc n ∷ expression_nest e (suc n) (suc n ∷ statement_nest s (suc n) r)
  statement_nest (do_statement p s w q e l m) n r =
      suc n ∷ statement_nest s (suc n) (suc n ∷ suc n ∷ expression_nest e (suc n) (suc n ∷ suc n ∷ r))
  statement_nest (for_statement p q f c m u l s) n r =
      suc n ∷ suc n ∷ for_first_nest f (suc n) (optional_nest c (suc n) (suc n ∷ optional_nest u (suc n) (suc n ∷ statement_nest s (suc n) r)))
  statement_nest (switch_statement p q e l m gs k) n r =
      suc n ∷ suc n ∷ expression_nest e (suc n) (suc n ∷ suc n ∷ groups_nest gs (suc n) (suc n ∷ r))
  statement_nest (jump_statement p j q) n r = suc n ∷ suc n ∷ r
  statement_nest (return_statement p e q) n r = suc n ∷ optional_nest e (suc n) (suc n ∷ r)

  pub items_nest : Items → ℕ → List ℕ → List ℕ
  items_nest no_items n r = r
  items_nest (declaration_item is d) n r = items_nest is n (declaration_nest d n r)
  items_nest (statement_item is s) n r = items_nest is n (statement_nest s n r)

  pub groups_nest : Groups → ℕ → List ℕ → List ℕ
  groups_nest no_groups n r = r
  groups_nest (group gs ls is) n r = groups_nest gs n (labels_nest ls n (items_nest is n r))

-- a function's head is no declarator, and its body is a statement
abbrev pub file_nest : File → List ℕ → List ℕ
file_nest empty_file r = r
file_nest (external_declaration f d) r = file_nest f (declaration_nest d 0 r)
file_nest (function_definition f s d p is q) r = file_nest f (specifiers_nest s 0 (inner_nest d 0 (1 ∷ items_nest is 1 (1 ∷ r))))

abbrev pub limit : ℕ
limit = 200

-- one of the first n tokens is nested too deep
abbrev pub IsDeep : ℕ → List ℕ → Type 0
IsDeep n nests = (i : ℕ) × (i < n) × (limit < slice_index nests i)

-- The tokens begin a file, and each file that they begin nests one of them too deep.
abbrev pub TooDeep : List Token → Type 0
TooDeep ts = Begins ts × ((f : File) (more : List Token) → Spells f (ts ++ more) → IsDeep (length ts) (file_nest f []))

-- One of the files that the tokens begin nests each of them least.
abbrev pub Least : List Token → Type 0
Least ts =
    (f : File) × (more : List Token) × Spells f (ts ++ more)
    × ((g : File) (rest : List Token) → Spells g (ts ++ rest) → (i : ℕ) → i < length ts → slice_index (file_nest f []) i ≤ slice_index (file_nest g []) i)

-- The place of the token that nests too deep, as the number of tokens before it: with it the tokens are too deep, and fewer are not.
pub record TooDeepAt (ts : List Token) (n : ℕ) : Type 0 where
  pub within : n < length ts
  pub deep : TooDeep (take (suc n) ts)
  pub shortest : (m : ℕ) → m ≤ n → TooDeep (take m ts) → ⊥
