-- The yield of a derivation: its tokens, put before those that follow.
use Rattle.std.specs.Prelude.{List, ◌∷◌, Option, Some, None}
use Rattle.c_grammar.specs.Tokens.{Star, Equals, Void, Name, Constant, Op, Assignment, Step, Member, TypeKeyword, Qualify, Storage, Composite, JumpWord, Inline, Enum, Sizeof, If, Else, While, Do, For, Switch, Case, Default, Return, LeftBrace, RightBrace, LeftParen, RightParen, LeftBracket, RightBracket, Semicolon, Comma, Question, Colon, Token, token}
use Rattle.c_grammar.specs.Derivations.{Qualifiers, no_qualifiers, qualified, TypeWords, first_word, next_word, Tag, no_tag, tag, Trailing, no_comma, comma, Expression, identifier, constant, parenthesized, index, call_without, call, member, step_after, step_before, unary, sizeof_expression, sizeof_type, cast, binary, conditional, assignment, Arguments, no_arguments, argument, TypeName, type_name, Specifiers, no_specifiers, storage_class, qualifier, inlined, type_words, typedef_name, composite_reference, composite, enum_reference, enumeration, Members, no_members, members, Declarators, no_declarators, declarators, Enumerator, enumerator, enumerator_value, Enumerators, no_enumerators, enumerators, Declarator, declared_name, pointer, parenthesized_declarator, array, function, Length, no_length, length_of, AbstractDeclarator, no_declarator, abstract_pointer, parenthesized_abstract, abstract_array, abstract_function, Parameters, no_parameters, void_parameter, parameters, EarlierParameters, no_earlier, earlier, Parameter, named_parameter, unnamed_parameter, Initializer, no_initializer, initializer, initializer_list, InitDeclarator, init_declarator, InitDeclarators, no_init_declarators, init_declarators, Declaration, specifiers_alone, declaration, ForFirst, for_nothing, for_expression, for_declaration, Label, case_label, default_label, Labels, first_label, next_label, Statement, block, empty_statement, expression_statement, if_statement, if_else, while_statement, do_statement, for_statement, switch_statement, jump_statement, return_statement, Items, no_items, declaration_item, statement_item, Groups, no_groups, group, File, empty_file, external_declaration, function_definition}

abbrev pub qualifiers_yield : Qualifiers → List Token → List Token
qualifiers_yield no_qualifiers r = r
qualifiers_yield (qualified qs p q) r = qualifiers_yield qs (token (Qualify q) p ∷ r)

abbrev pub words_yield : TypeWords → List Token → List Token
words_yield (first_word p w) r = token (TypeKeyword w) p ∷ r
words_yield (next_word ws p w) r = words_yield ws (token (TypeKeyword w) p ∷ r)

abbrev pub tag_yield : Tag → List Token → List Token
tag_yield no_tag r = r
tag_yield (tag p x) r = token (Name x) p ∷ r

abbrev pub trailing_yield : Trailing → List Token → List Token
trailing_yield no_comma r = r
trailing_yield (comma p) r = token Comma p ∷ r

abbrev mutual
  pub expression_yield : Expression → List Token → List Token
  expression_yield (identifier p x) r = token (Name x) p ∷ r
  expression_yield (constant p n) r = token (Constant n) p ∷ r
  expression_yield (parenthesized p e q) r = token LeftParen p ∷ expression_yield e (token RightParen q ∷ r)
  expression_yield (index e p i q) r = expression_yield e (token LeftBracket p ∷ expression_yield i (token RightBracket q ∷ r))
  expression_yield (call_without f p q) r = expression_yield f (token LeftParen p ∷ token RightParen q ∷ r)
  expression_yield (call f p xs e q) r = expression_yield f (token LeftParen p ∷ arguments_yield xs (expression_yield e (token RightParen q ∷ r)))
  expression_yield (member e p o q x) r = expression_yield e (token (Member o) p ∷ token (Name x) q ∷ r)
  expression_yield (step_after e p o) r = expression_yield e (token (Step o) p ∷ r)
  expression_yield (step_before p o e) r = token (Step o) p ∷ expression_yield e r
  expression_yield (unary p o e) r = token (Op o) p ∷ expression_yield e r
  expression_yield (sizeof_expression p e) r = token Sizeof p ∷ expression_yield e r
  expression_yield (sizeof_type p q t s) r = token Sizeof p ∷ token LeftParen q ∷ type_name_yield t (token RightParen s ∷ r)
  expression_yield (cast p t q e) r = token LeftParen p ∷ type_name_yield t (token RightParen q ∷ expression_yield e r)
  expression_yield (binary a p o b) r = expression_yield a (token (Op o) p ∷ expression_yield b r)
  expression_yield (conditional c p a q b) r = expression_yield c (token Question p ∷ expression_yield a (token Colon q ∷ expression_yield b r))
  expression_yield (assignment a p o b) r = expression_yield a (token (Assignment o) p ∷ expression_yield b r)

  pub arguments_yield : Arguments → List Token → List Token
  arguments_yield no_arguments r = r
  arguments_yield (argument xs e p) r = arguments_yield xs (expression_yield e (token Comma p ∷ r))

  pub type_name_yield : TypeName → List Token → List Token
  type_name_yield (type_name s a) r = specifiers_yield s (abstract_yield a r)

  pub specifiers_yield : Specifiers → List Token → List Token
  specifiers_yield no_specifiers r = r
  specifiers_yield (storage_class s p w) r = specifiers_yield s (token (Storage w) p ∷ r)
  specifiers_yield (qualifier s p q) r = specifiers_yield s (token (Qualify q) p ∷ r)
  specifiers_yield (inlined s p) r = specifiers_yield s (token Inline p ∷ r)
  specifiers_yield (type_words s ws) r = specifiers_yield s (words_yield ws r)
  specifiers_yield (typedef_name s p x) r = specifiers_yield s (token (Name x) p ∷ r)
  specifiers_yield (composite_reference s p w q x) r = specifiers_yield s (token (Composite w) p ∷ token (Name x) q ∷ r)
  specifiers_yield (composite s p w t q ms l) r =
      specifiers_yield s (token (Composite w) p ∷ tag_yield t (token LeftBrace q ∷ members_yield ms (token RightBrace l ∷ r)))
  specifiers_yield (enum_reference s p q x) r = specifiers_yield s (token Enum p ∷ token (Name x) q ∷ r)
  specifiers_yield (enumeration s p t q es e c l) r =
      specifiers_yield s (token Enum p ∷ tag_yield t (token LeftBrace q ∷ enumerators_yield es (enumerator_yield e (trailing_yield c (token RightBrace l ∷ r)))))

  pub members_yield : Members → List Token → List Token
  members_yield no_members r = r
  members_yield (members ms s ds d p) r = members_yield ms (specifiers_yield s (declarators_yield ds (declarator_yield d (token Semicolon p ∷ r))))

  pub declarators_yield : Declarators → List Token → List Token
  declarators_yield no_declarators r = r
  declarators_yield (declarators ds d p) r = declarators_yield ds (declarator_yield d (token Comma p ∷ r))

  pub enumerator_yield : Enumerator → List Token → List Token
  enumerator_yield (enumerator p x) r = token (Name x) p ∷ r
  enumerator_yield (enumerator_value p x q e) r = token (Name x) p ∷ token (Assignment Equals) q ∷ expression_yield e r

  pub enumerators_yield : Enumerators → List Token → List Token
  enumerators_yield no_enumerators r = r
  enumerators_yield (enumerators es e p) r = enumerators_yield es (enumerator_yield e (token Comma p ∷ r))

  pub declarator_yield : Declarator → List Token → List Token
  declarator_yield (declared_name p x) r = token (Name x) p ∷ r
  declarator_yield (pointer p qs d) r = token (Op Star) p ∷ qualifiers_yield qs (declarator_yield d r)
  declarator_yield (parenthesized_declarator p d q) r = token LeftParen p ∷ declarator_yield d (token RightParen q ∷ r)
  declarator_yield (array d p n q) r = declarator_yield d (token LeftBracket p ∷ length_yield n (token RightBracket q ∷ r))
  declarator_yield (function d p ps q) r = declarator_yield d (token LeftParen p ∷ parameters_yield ps (token RightParen q ∷ r))

  pub length_yield : Length → List Token → List Token
  length_yield no_length r = r
  length_yield (length_of e) r = expression_yield e r

  pub abstract_yield : AbstractDeclarator → List Token → List Token
  abstract_yield no_declarator r = r
  abstract_yield (abstract_pointer p qs a) r = token (Op Star) p ∷ qualifiers_yield qs (abstract_yield a r)
  abstract_yield (parenthesized_abstract p a q) r = token LeftParen p ∷ abstract_yield a (token RightParen q ∷ r)
  abstract_yield (abstract_array a p n q) r = abstract_yield a (token LeftBracket p ∷ length_yield n (token RightBracket q ∷ r))
  abstract_yield (abstract_function a p ps q) r = abstract_yield a (token LeftParen p ∷ parameters_yield ps (token RightParen q ∷ r))

  pub parameters_yield : Parameters → List Token → List Token
  parameters_yield no_parameters r = r
  parameters_yield (void_parameter p) r = token (TypeKeyword Void) p ∷ r
  parameters_yield (parameters ps x) r = earlier_yield ps (parameter_yield x r)

  pub earlier_yield : EarlierParameters → List Token → List Token
  earlier_yield no_earlier r = r
  earlier_yield (earlier ps x p) r = earlier_yield ps (parameter_yield x (token Comma p ∷ r))

  pub parameter_yield : Parameter → List Token → List Token
  parameter_yield (named_parameter s d) r = specifiers_yield s (declarator_yield d r)
  parameter_yield (unnamed_parameter s a) r = specifiers_yield s (abstract_yield a r)

abbrev pub initializer_yield : Initializer → List Token → List Token
initializer_yield no_initializer r = r
initializer_yield (initializer p e) r = token (Assignment Equals) p ∷ expression_yield e r
initializer_yield (initializer_list p q xs e c l) r =
    token (Assignment Equals) p ∷ token LeftBrace q ∷ arguments_yield xs (expression_yield e (trailing_yield c (token RightBrace l ∷ r)))

abbrev pub init_declarator_yield : InitDeclarator → List Token → List Token
init_declarator_yield (init_declarator d i) r = declarator_yield d (initializer_yield i r)

abbrev pub init_declarators_yield : InitDeclarators → List Token → List Token
init_declarators_yield no_init_declarators r = r
init_declarators_yield (init_declarators ds d p) r = init_declarators_yield ds (init_declarator_yield d (token Comma p ∷ r))

abbrev pub declaration_yield : Declaration → List Token → List Token
declaration_yield (specifiers_alone s p) r = specifiers_yield s (token Semicolon p ∷ r)
declaration_yield (declaration s ds d p) r = specifiers_yield s (init_declarators_yield ds (init_declarator_yield d (token Semicolon p ∷ r)))

abbrev pub optional_yield : Option Expression → List Token → List Token
optional_yield None r = r
optional_yield (Some e) r = expression_yield e r

abbrev pub for_first_yield : ForFirst → List Token → List Token
for_first_yield (for_nothing p) r = token Semicolon p ∷ r
for_first_yield (for_expression e p) r = expression_yield e (token Semicolon p ∷ r)
for_first_yield (for_declaration d) r = declaration_yield d r

abbrev pub label_yield : Label → List Token → List Token
label_yield (case_label p e q) r = token Case p ∷ expression_yield e (token Colon q ∷ r)
label_yield (default_label p q) r = token Default p ∷ token Colon q ∷ r

abbrev pub labels_yield : Labels → List Token → List Token
labels_yield (first_label l) r = label_yield l r
labels_yield (next_label ls l) r = labels_yield ls (label_yield l r)

abbrev mutual
  pub statement_yield : Statement → List Token → List Token
  statement_yield (block p is q) r = token LeftBrace p ∷ items_yield is (token RightBrace q ∷ r)
  statement_yield (empty_statement p) r = token Semicolon p ∷ r
  statement_yield (expression_statement e p) r = expression_yield e (token Semicolon p ∷ r)
  statement_yield (if_statement p q e l s) r = token If p ∷ token LeftParen q ∷ expression_yield e (token RightParen l ∷ statement_yield s r)
  statement_yield (if_else p q e l a m b) r =
      token If p ∷ token LeftParen q ∷ expression_yield e (token RightParen l ∷ statement_yield a (token Else m ∷ statement_yield b r))
  statement_yield (while_statement p q e l s) r = token While p ∷ token LeftParen q ∷ expression_yield e (token RightParen l ∷ statement_yield s r)
  statement_yield (do_statement p s w q e l m) r =
      token Do p ∷ statement_yield s (token While w ∷ token LeftParen q ∷ expression_yield e (token RightParen l ∷ token Semicolon m ∷ r))
  statement_yield (for_statement p q f c m u l s) r =
      token For p ∷ token LeftParen q ∷ for_first_yield f (optional_yield c (token Semicolon m ∷ optional_yield u (token RightParen l ∷ statement_yield s r)))
  statement_yield (switch_statement p q e l m gs n) r =
      token Switch p ∷ token LeftParen q ∷ expression_yield e (token RightParen l ∷ token LeftBrace m ∷ groups_yield gs (token RightBrace n ∷ r))
  statement_yield (jump_statement p j q) r = token (JumpWord j) p ∷ token Semicolon q ∷ r
  statement_yield (return_statement p e q) r = token Return p ∷ optional_yield e (token Semicolon q ∷ r)

  pub items_yield : Items → List Token → List Token
  items_yield no_items r = r
  items_yield (declaration_item is d) r = items_yield is (declaration_yield d r)
  items_yield (statement_item is s) r = items_yield is (statement_yield s r)

  pub groups_yield : Groups → List Token → List Token
  groups_yield no_groups r = r
  groups_yield (group gs ls is) r = groups_yield gs (labels_yield ls (items_yield is r))

abbrev pub file_yield : File → List Token → List Token
file_yield empty_file r = r
file_yield (external_declaration f d) r = file_yield f (declaration_yield d r)
file_yield (function_definition f s d p is q) r =
    file_yield f (specifiers_yield s (declarator_yield d (token LeftBrace p ∷ items_yield is (token RightBrace q ∷ r))))
