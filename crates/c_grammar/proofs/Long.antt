-- Each token has its nesting: there are as many of both. (The clauses follow those of the nestings.)
use Rattle.std.proofs.Common.{◌≡◌, ℕ, Bool, true, false, cond, List, ◌∷◌, Option, Some, None, ap, length, suc}
use Rattle.c_grammar.specs.Tokens.{Star, Equals, Name, Op, Assignment, Step, Member, TypeKeyword, Qualify, Storage, Composite, JumpWord, Inline, Enum, Sizeof, If, Else, While, Do, For, Switch, Case, Default, Return, LeftBrace, RightBrace, LeftParen, RightParen, LeftBracket, RightBracket, Semicolon, Comma, Question, Colon, Token, token}
use Rattle.c_grammar.specs.Derivations.{Qualifiers, no_qualifiers, qualified, TypeWords, first_word, next_word, Tag, no_tag, tag, Trailing, no_comma, comma, Expression, identifier, constant, parenthesized, index, call_without, call, member, step_after, step_before, unary, sizeof_expression, sizeof_type, cast, binary, conditional, assignment, Arguments, no_arguments, argument, TypeName, type_name, Specifiers, no_specifiers, storage_class, qualifier, inlined, type_words, typedef_name, composite_reference, composite, enum_reference, enumeration, Members, no_members, members, Declarators, no_declarators, declarators, Enumerator, enumerator, enumerator_value, Enumerators, no_enumerators, enumerators, Declarator, declared_name, pointer, parenthesized_declarator, array, function, Length, no_length, length_of, AbstractDeclarator, no_declarator, abstract_pointer, parenthesized_abstract, abstract_array, abstract_function, Parameters, no_parameters, void_parameter, parameters, EarlierParameters, no_earlier, earlier, Parameter, named_parameter, unnamed_parameter, Initializer, no_initializer, initializer, initializer_list, InitDeclarator, init_declarator, InitDeclarators, no_init_declarators, init_declarators, Declaration, specifiers_alone, declaration, ForFirst, for_nothing, for_expression, for_declaration, Label, case_label, default_label, Labels, first_label, next_label, Statement, block, empty_statement, expression_statement, if_statement, if_else, while_statement, do_statement, for_statement, switch_statement, jump_statement, return_statement, Items, no_items, declaration_item, statement_item, Groups, no_groups, group, File, empty_file, external_declaration, function_definition}
use Rattle.c_grammar.specs.Yield.{qualifiers_yield, words_yield, tag_yield, trailing_yield, expression_yield, arguments_yield, type_name_yield, specifiers_yield, members_yield, declarators_yield, enumerator_yield, enumerators_yield, declarator_yield, length_yield, abstract_yield, parameters_yield, earlier_yield, parameter_yield, initializer_yield, init_declarator_yield, init_declarators_yield, declaration_yield, optional_yield, for_first_yield, label_yield, labels_yield, statement_yield, items_yield, groups_yield, file_yield}
use Rattle.c_grammar.specs.Contexts.{StatementContext, then_of, else_of, while_body, do_body, for_body, item_of, ItemsContext, block_of, function_body, group_of, GroupsContext, switch_of, LabelContext, new_group, another_label, DeclarationContext, in_file, in_items, in_for_head, InitializerContext, initializer_of, StatementHole, of_statement, of_return, of_if, of_while, of_do, of_switch, of_for_first, of_for_test, of_for_step, of_case, of_initializer, of_list, Frame, step_frame, unary_frame, sizeof_frame, cast_frame, binary_frame, conditional_frame, assignment_frame, Chain, top, starred, opened, ExpressionContext, operand, whole, Hole, in_parentheses, in_index, in_argument, in_middle, in_length, in_enumerator, in_statement, Suffixed, of_declarator, of_abstract, SpecifiersContext, in_declaration, in_member, in_parameter, in_type_name, TypeNameContext, in_cast, in_sizeof, CompositeContext, in_composite, EnumContext, in_enumeration, DeclaratorContext, init_context, member_context, parameter_context, AbstractContext, parameter_abstract, type_name_abstract}
use Rattle.c_grammar.specs.Machine.{State, at_file, at_items, at_statement, after_statement, at_labels, after_default, at_condition, at_do_condition, after_do, at_for, at_for_first, at_for_test, at_for_step, at_switch_body, at_jump, at_return, at_initializer, at_list_comma, after_list, at_specifiers, at_composite, at_enum, at_members, at_enumerator, after_enumerator, after_enumerator_comma, at_declarator, after_declarator, at_abstract, at_opened, after_abstract, at_length, at_parameters, at_expression, after_postfix, after_sizeof, at_open, at_sizeof, at_sizeof_open, at_arguments, at_access}
use Rattle.c_grammar.specs.Nesting.{qualifiers_nest, words_nest, tag_nest, trailing_nest, expression_nest, arguments_nest, type_name_nest, specifiers_nest, members_nest, declarators_nest, enumerator_nest, enumerators_nest, declarator_nest, inner_nest, length_nest, abstract_nest, direct_nest, parameters_nest, earlier_nest, parameter_nest, initializer_nest, init_declarator_nest, init_declarators_nest, declaration_nest, optional_nest, for_first_nest, label_nest, labels_nest, statement_nest, items_nest, groups_nest, file_nest}
use Rattle.c_grammar.proofs.Endings.{may_define, may_head}
use Rattle.c_grammar.proofs.Valid.{statement_before, items_before, groups_before, label_before, declaration_before, initializer_before, statement_hole_before, frame_before, chain_before, expression_before, hole_before, suffixed_before, specifiers_before, type_name_before, composite_before, enum_before, declarator_before, abstract_before, head_kind, state_before}
use Rattle.c_grammar.proofs.Nests.{statement_depth, items_depth, groups_depth, label_depth, declaration_depth, initializer_depth, chain_in, abstract_in, name_in, expression_depth, array_depth, function_depth, specifiers_depth, type_name_depth, composite_depth, enum_depth, declarator_depth, abstract_depth, statement_nests, items_nests, groups_nests, label_nests, declaration_nests, initializer_nests, statement_hole_nests, frame_nest, chain_nest, abstract_chain_nest, head_nest, expression_nests, hole_nests, array_nests, function_nests, specifiers_nests, type_name_nests, composite_nests, enum_nests, declarator_nests, abstract_nests, at_declarator_nests, after_declarator_nests, at_abstract_nests, state_nest}

abbrev pub Long : List ℕ → List Token → Type 0
Long ns ts = length ns ≡ length ts

cond_long : (b : Bool) (x y : List ℕ) (ts : List Token) → Long x ts → Long y ts → Long (cond b x y) ts
cond_long true x y ts h k = h
cond_long false x y ts h k = k

pub qualifiers_long : (x0 : Qualifiers) (n : ℕ) (r : List ℕ) (ts : List Token) → Long r ts → Long (qualifiers_nest x0 n r) (qualifiers_yield x0 ts)
qualifiers_long no_qualifiers n r ts hr = hr
qualifiers_long (qualified qs p q) n r ts hr = qualifiers_long qs n (n ∷ r) (token (Qualify q) p ∷ ts) (ap suc (hr))

pub words_long : (x0 : TypeWords) (n : ℕ) (r : List ℕ) (ts : List Token) → Long r ts → Long (words_nest x0 n r) (words_yield x0 ts)
words_long (first_word p w) n r ts hr = ap suc (hr)
words_long (next_word ws p w) n r ts hr = words_long ws n (n ∷ r) (token (TypeKeyword w) p ∷ ts) (ap suc (hr))

pub tag_long : (x0 : Tag) (n : ℕ) (r : List ℕ) (ts : List Token) → Long r ts → Long (tag_nest x0 n r) (tag_yield x0 ts)
tag_long no_tag n r ts hr = hr
tag_long (tag p x) n r ts hr = ap suc (hr)

pub trailing_long : (x0 : Trailing) (n : ℕ) (r : List ℕ) (ts : List Token) → Long r ts → Long (trailing_nest x0 n r) (trailing_yield x0 ts)
trailing_long no_comma n r ts hr = hr
trailing_long (comma p) n r ts hr = ap suc (hr)

mutual
  pub expression_long : (x0 : Expression) (n : ℕ) (r : List ℕ) (ts : List Token) → Long r ts → Long (expression_nest x0 n r) (expression_yield x0 ts)
  expression_long (identifier p x) n r ts hr = ap suc (hr)
  expression_long (constant p c) n r ts hr = ap suc (hr)
  expression_long (parenthesized p e q) n r ts hr = ap suc (expression_long e (suc n) (suc n ∷ r) (token RightParen q ∷ ts) (ap suc (hr)))
  expression_long (index e p i q) n r ts hr = expression_long e (suc n) (suc n ∷ expression_nest i (suc n) (suc n ∷ r)) (token LeftBracket p ∷ expression_yield i (token RightBracket q ∷ ts)) (ap suc (expression_long i (suc n) (suc n ∷ r) (token RightBracket q ∷ ts) (ap suc (hr))))
  expression_long (call_without f p q) n r ts hr = expression_long f (suc n) (suc n ∷ suc n ∷ r) (token LeftParen p ∷ token RightParen q ∷ ts) (ap suc (ap suc (hr)))
  expression_long (call f p xs e q) n r ts hr = expression_long f (suc n) (suc n ∷ arguments_nest xs (suc n) (expression_nest e (suc n) (suc n ∷ r))) (token LeftParen p ∷ arguments_yield xs (expression_yield e (token RightParen q ∷ ts))) (ap suc (arguments_long xs (suc n) (expression_nest e (suc n) (suc n ∷ r)) (expression_yield e (token RightParen q ∷ ts)) (expression_long e (suc n) (suc n ∷ r) (token RightParen q ∷ ts) (ap suc (hr)))))
  expression_long (member e p o q x) n r ts hr = expression_long e (suc n) (suc n ∷ suc n ∷ r) (token (Member o) p ∷ token (Name x) q ∷ ts) (ap suc (ap suc (hr)))
  expression_long (step_after e p o) n r ts hr = expression_long e (suc n) (suc n ∷ r) (token (Step o) p ∷ ts) (ap suc (hr))
  expression_long (step_before p o e) n r ts hr = ap suc (expression_long e (suc n) r ts (hr))
  expression_long (unary p o e) n r ts hr = ap suc (expression_long e (suc n) r ts (hr))
  expression_long (sizeof_expression p e) n r ts hr = ap suc (expression_long e (suc n) r ts (hr))
  expression_long (sizeof_type p q t l) n r ts hr = ap suc (ap suc (type_name_long t (suc n) (suc n ∷ r) (token RightParen l ∷ ts) (ap suc (hr))))
  expression_long (cast p t q e) n r ts hr = ap suc (type_name_long t (suc n) (suc n ∷ expression_nest e (suc n) r) (token RightParen q ∷ expression_yield e ts) (ap suc (expression_long e (suc n) r ts (hr))))
  expression_long (binary a p o b) n r ts hr = expression_long a (suc n) (suc n ∷ expression_nest b (suc n) r) (token (Op o) p ∷ expression_yield b ts) (ap suc (expression_long b (suc n) r ts (hr)))
  expression_long (conditional c p a q b) n r ts hr = expression_long c (suc n) (suc n ∷ expression_nest a (suc n) (suc n ∷ expression_nest b (suc n) r)) (token Question p ∷ expression_yield a (token Colon q ∷ expression_yield b ts)) (ap suc (expression_long a (suc n) (suc n ∷ expression_nest b (suc n) r) (token Colon q ∷ expression_yield b ts) (ap suc (expression_long b (suc n) r ts (hr)))))
  expression_long (assignment a p o b) n r ts hr = expression_long a (suc n) (suc n ∷ expression_nest b (suc n) r) (token (Assignment o) p ∷ expression_yield b ts) (ap suc (expression_long b (suc n) r ts (hr)))

  pub arguments_long : (x0 : Arguments) (n : ℕ) (r : List ℕ) (ts : List Token) → Long r ts → Long (arguments_nest x0 n r) (arguments_yield x0 ts)
  arguments_long no_arguments n r ts hr = hr
  arguments_long (argument xs e p) n r ts hr = arguments_long xs n (expression_nest e n (n ∷ r)) (expression_yield e (token Comma p ∷ ts)) (expression_long e n (n ∷ r) (token Comma p ∷ ts) (ap suc (hr)))

  pub type_name_long : (x0 : TypeName) (n : ℕ) (r : List ℕ) (ts : List Token) → Long r ts → Long (type_name_nest x0 n r) (type_name_yield x0 ts)
  type_name_long (type_name s a) n r ts hr = specifiers_long s n (abstract_nest a n r) (abstract_yield a ts) (abstract_long a n r ts (hr))

  pub specifiers_long : (x0 : Specifiers) (n : ℕ) (r : List ℕ) (ts : List Token) → Long r ts → Long (specifiers_nest x0 n r) (specifiers_yield x0 ts)
  specifiers_long no_specifiers n r ts hr = hr
  specifiers_long (storage_class s p w) n r ts hr = specifiers_long s n (n ∷ r) (token (Storage w) p ∷ ts) (ap suc (hr))
  specifiers_long (qualifier s p q) n r ts hr = specifiers_long s n (n ∷ r) (token (Qualify q) p ∷ ts) (ap suc (hr))
  specifiers_long (inlined s p) n r ts hr = specifiers_long s n (n ∷ r) (token Inline p ∷ ts) (ap suc (hr))
  specifiers_long (type_words s ws) n r ts hr = specifiers_long s n (words_nest ws n r) (words_yield ws ts) (words_long ws n r ts (hr))
  specifiers_long (typedef_name s p x) n r ts hr = specifiers_long s n (n ∷ r) (token (Name x) p ∷ ts) (ap suc (hr))
  specifiers_long (composite_reference s p w q x) n r ts hr = specifiers_long s n (n ∷ n ∷ r) (token (Composite w) p ∷ token (Name x) q ∷ ts) (ap suc (ap suc (hr)))
  specifiers_long (composite s p w t q ms l) n r ts hr = specifiers_long s n (n ∷ tag_nest t n (suc n ∷ members_nest ms (suc n) (suc n ∷ r))) (token (Composite w) p ∷ tag_yield t (token LeftBrace q ∷ members_yield ms (token RightBrace l ∷ ts))) (ap suc (tag_long t n (suc n ∷ members_nest ms (suc n) (suc n ∷ r)) (token LeftBrace q ∷ members_yield ms (token RightBrace l ∷ ts)) (ap suc (members_long ms (suc n) (suc n ∷ r) (token RightBrace l ∷ ts) (ap suc (hr))))))
  specifiers_long (enum_reference s p q x) n r ts hr = specifiers_long s n (n ∷ n ∷ r) (token Enum p ∷ token (Name x) q ∷ ts) (ap suc (ap suc (hr)))
  specifiers_long (enumeration s p t q es e c l) n r ts hr = specifiers_long s n (n ∷ tag_nest t n (n ∷ enumerators_nest es n (enumerator_nest e n (trailing_nest c n (n ∷ r))))) (token Enum p ∷ tag_yield t (token LeftBrace q ∷ enumerators_yield es (enumerator_yield e (trailing_yield c (token RightBrace l ∷ ts))))) (ap suc (tag_long t n (n ∷ enumerators_nest es n (enumerator_nest e n (trailing_nest c n (n ∷ r)))) (token LeftBrace q ∷ enumerators_yield es (enumerator_yield e (trailing_yield c (token RightBrace l ∷ ts)))) (ap suc (enumerators_long es n (enumerator_nest e n (trailing_nest c n (n ∷ r))) (enumerator_yield e (trailing_yield c (token RightBrace l ∷ ts))) (enumerator_long e n (trailing_nest c n (n ∷ r)) (trailing_yield c (token RightBrace l ∷ ts)) (trailing_long c n (n ∷ r) (token RightBrace l ∷ ts) (ap suc (hr))))))))

  pub members_long : (x0 : Members) (n : ℕ) (r : List ℕ) (ts : List Token) → Long r ts → Long (members_nest x0 n r) (members_yield x0 ts)
  members_long no_members n r ts hr = hr
  members_long (members ms s ds d p) n r ts hr = members_long ms n (specifiers_nest s n (declarators_nest ds n (declarator_nest d n (n ∷ r)))) (specifiers_yield s (declarators_yield ds (declarator_yield d (token Semicolon p ∷ ts)))) (specifiers_long s n (declarators_nest ds n (declarator_nest d n (n ∷ r))) (declarators_yield ds (declarator_yield d (token Semicolon p ∷ ts))) (declarators_long ds n (declarator_nest d n (n ∷ r)) (declarator_yield d (token Semicolon p ∷ ts)) (declarator_long d n (n ∷ r) (token Semicolon p ∷ ts) (ap suc (hr)))))

  pub declarators_long : (x0 : Declarators) (n : ℕ) (r : List ℕ) (ts : List Token) → Long r ts → Long (declarators_nest x0 n r) (declarators_yield x0 ts)
  declarators_long no_declarators n r ts hr = hr
  declarators_long (declarators ds d p) n r ts hr = declarators_long ds n (declarator_nest d n (n ∷ r)) (declarator_yield d (token Comma p ∷ ts)) (declarator_long d n (n ∷ r) (token Comma p ∷ ts) (ap suc (hr)))

  pub enumerator_long : (x0 : Enumerator) (n : ℕ) (r : List ℕ) (ts : List Token) → Long r ts → Long (enumerator_nest x0 n r) (enumerator_yield x0 ts)
  enumerator_long (enumerator p x) n r ts hr = ap suc (hr)
  enumerator_long (enumerator_value p x q e) n r ts hr = ap suc (ap suc (expression_long e n r ts (hr)))

  pub enumerators_long : (x0 : Enumerators) (n : ℕ) (r : List ℕ) (ts : List Token) → Long r ts → Long (enumerators_nest x0 n r) (enumerators_yield x0 ts)
  enumerators_long no_enumerators n r ts hr = hr
  enumerators_long (enumerators es e p) n r ts hr = enumerators_long es n (enumerator_nest e n (n ∷ r)) (enumerator_yield e (token Comma p ∷ ts)) (enumerator_long e n (n ∷ r) (token Comma p ∷ ts) (ap suc (hr)))

  pub declarator_long : (x0 : Declarator) (n : ℕ) (r : List ℕ) (ts : List Token) → Long r ts → Long (declarator_nest x0 n r) (declarator_yield x0 ts)
  declarator_long (declared_name p x) n r ts hr = ap suc (hr)
  declarator_long (pointer p qs d) n r ts hr = ap suc (qualifiers_long qs (suc n) (inner_nest d (suc n) r) (declarator_yield d ts) (inner_long d (suc n) r ts (hr)))
  declarator_long (parenthesized_declarator p d q) n r ts hr = ap suc (declarator_long d (suc n) (suc n ∷ r) (token RightParen q ∷ ts) (ap suc (hr)))
  declarator_long (array d p l q) n r ts hr = inner_long d (suc n) (suc n ∷ length_nest l (suc n) (suc n ∷ r)) (token LeftBracket p ∷ length_yield l (token RightBracket q ∷ ts)) (ap suc (length_long l (suc n) (suc n ∷ r) (token RightBracket q ∷ ts) (ap suc (hr))))
  declarator_long (function d p ps q) n r ts hr = inner_long d (suc n) (suc n ∷ parameters_nest ps (suc n) (suc n ∷ r)) (token LeftParen p ∷ parameters_yield ps (token RightParen q ∷ ts)) (ap suc (parameters_long ps (suc n) (suc n ∷ r) (token RightParen q ∷ ts) (ap suc (hr))))

  pub inner_long : (x0 : Declarator) (n : ℕ) (r : List ℕ) (ts : List Token) → Long r ts → Long (inner_nest x0 n r) (declarator_yield x0 ts)
  inner_long (declared_name p x) n r ts hr = ap suc (hr)
  inner_long (pointer p qs d) n r ts hr = ap suc (qualifiers_long qs n (inner_nest d n r) (declarator_yield d ts) (inner_long d n r ts (hr)))
  inner_long (parenthesized_declarator p d q) n r ts hr = ap suc (declarator_long d n (n ∷ r) (token RightParen q ∷ ts) (ap suc (hr)))
  inner_long (array d p l q) n r ts hr = inner_long d n (n ∷ length_nest l n (n ∷ r)) (token LeftBracket p ∷ length_yield l (token RightBracket q ∷ ts)) (ap suc (length_long l n (n ∷ r) (token RightBracket q ∷ ts) (ap suc (hr))))
  inner_long (function d p ps q) n r ts hr = inner_long d n (n ∷ parameters_nest ps n (n ∷ r)) (token LeftParen p ∷ parameters_yield ps (token RightParen q ∷ ts)) (ap suc (parameters_long ps n (n ∷ r) (token RightParen q ∷ ts) (ap suc (hr))))

  pub length_long : (x0 : Length) (n : ℕ) (r : List ℕ) (ts : List Token) → Long r ts → Long (length_nest x0 n r) (length_yield x0 ts)
  length_long no_length n r ts hr = hr
  length_long (length_of e) n r ts hr = expression_long e n r ts (hr)

  pub abstract_long : (x0 : AbstractDeclarator) (n : ℕ) (r : List ℕ) (ts : List Token) → Long r ts → Long (abstract_nest x0 n r) (abstract_yield x0 ts)
  abstract_long no_declarator n r ts hr = hr
  abstract_long (abstract_pointer p qs a) n r ts hr = ap suc (qualifiers_long qs (suc n) (abstract_nest a (suc n) r) (abstract_yield a ts) (abstract_long a (suc n) r ts (hr)))
  abstract_long (parenthesized_abstract p a q) n r ts hr = ap suc (abstract_long a (suc n) (suc n ∷ r) (token RightParen q ∷ ts) (ap suc (hr)))
  abstract_long (abstract_array a p l q) n r ts hr = direct_long a (suc n) (suc n ∷ length_nest l (suc n) (suc n ∷ r)) (token LeftBracket p ∷ length_yield l (token RightBracket q ∷ ts)) (ap suc (length_long l (suc n) (suc n ∷ r) (token RightBracket q ∷ ts) (ap suc (hr))))
  abstract_long (abstract_function a p ps q) n r ts hr = direct_long a (suc n) (suc n ∷ parameters_nest ps (suc n) (suc n ∷ r)) (token LeftParen p ∷ parameters_yield ps (token RightParen q ∷ ts)) (ap suc (parameters_long ps (suc n) (suc n ∷ r) (token RightParen q ∷ ts) (ap suc (hr))))

  pub direct_long : (x0 : AbstractDeclarator) (n : ℕ) (r : List ℕ) (ts : List Token) → Long r ts → Long (direct_nest x0 n r) (abstract_yield x0 ts)
  direct_long no_declarator n r ts hr = hr
  direct_long (abstract_pointer p qs a) n r ts hr = ap suc (qualifiers_long qs n (abstract_nest a n r) (abstract_yield a ts) (abstract_long a n r ts (hr)))
  direct_long (parenthesized_abstract p a q) n r ts hr = ap suc (abstract_long a n (n ∷ r) (token RightParen q ∷ ts) (ap suc (hr)))
  direct_long (abstract_array a p l q) n r ts hr = direct_long a n (n ∷ length_nest l n (n ∷ r)) (token LeftBracket p ∷ length_yield l (token RightBracket q ∷ ts)) (ap suc (length_long l n (n ∷ r) (token RightBracket q ∷ ts) (ap suc (hr))))
  direct_long (abstract_function a p ps q) n r ts hr = direct_long a n (n ∷ parameters_nest ps n (n ∷ r)) (token LeftParen p ∷ parameters_yield ps (token RightParen q ∷ ts)) (ap suc (parameters_long ps n (n ∷ r) (token RightParen q ∷ ts) (ap suc (hr))))

  pub parameters_long : (x0 : Parameters) (n : ℕ) (r : List ℕ) (ts : List Token) → Long r ts → Long (parameters_nest x0 n r) (parameters_yield x0 ts)
  parameters_long no_parameters n r ts hr = hr
  parameters_long (void_parameter p) n r ts hr = ap suc (hr)
  parameters_long (parameters ps x) n r ts hr = earlier_long ps n (parameter_nest x n r) (parameter_yield x ts) (parameter_long x n r ts (hr))

  pub earlier_long : (x0 : EarlierParameters) (n : ℕ) (r : List ℕ) (ts : List Token) → Long r ts → Long (earlier_nest x0 n r) (earlier_yield x0 ts)
  earlier_long no_earlier n r ts hr = hr
  earlier_long (earlier ps x p) n r ts hr = earlier_long ps n (parameter_nest x n (n ∷ r)) (parameter_yield x (token Comma p ∷ ts)) (parameter_long x n (n ∷ r) (token Comma p ∷ ts) (ap suc (hr)))

  pub parameter_long : (x0 : Parameter) (n : ℕ) (r : List ℕ) (ts : List Token) → Long r ts → Long (parameter_nest x0 n r) (parameter_yield x0 ts)
  parameter_long (named_parameter s d) n r ts hr = specifiers_long s n (declarator_nest d n r) (declarator_yield d ts) (declarator_long d n r ts (hr))
  parameter_long (unnamed_parameter s a) n r ts hr = specifiers_long s n (abstract_nest a n r) (abstract_yield a ts) (abstract_long a n r ts (hr))

pub initializer_long : (x0 : Initializer) (n : ℕ) (r : List ℕ) (ts : List Token) → Long r ts → Long (initializer_nest x0 n r) (initializer_yield x0 ts)
initializer_long no_initializer n r ts hr = hr
initializer_long (initializer p e) n r ts hr = ap suc (expression_long e n r ts (hr))
initializer_long (initializer_list p q xs e c l) n r ts hr = ap suc (ap suc (arguments_long xs (suc n) (expression_nest e (suc n) (trailing_nest c (suc n) (suc n ∷ r))) (expression_yield e (trailing_yield c (token RightBrace l ∷ ts))) (expression_long e (suc n) (trailing_nest c (suc n) (suc n ∷ r)) (trailing_yield c (token RightBrace l ∷ ts)) (trailing_long c (suc n) (suc n ∷ r) (token RightBrace l ∷ ts) (ap suc (hr))))))

pub init_declarator_long : (x0 : InitDeclarator) (n : ℕ) (r : List ℕ) (ts : List Token) → Long r ts → Long (init_declarator_nest x0 n r) (init_declarator_yield x0 ts)
init_declarator_long (init_declarator d i) n r ts hr = declarator_long d n (initializer_nest i n r) (initializer_yield i ts) (initializer_long i n r ts (hr))

pub init_declarators_long : (x0 : InitDeclarators) (n : ℕ) (r : List ℕ) (ts : List Token) → Long r ts → Long (init_declarators_nest x0 n r) (init_declarators_yield x0 ts)
init_declarators_long no_init_declarators n r ts hr = hr
init_declarators_long (init_declarators ds d p) n r ts hr = init_declarators_long ds n (init_declarator_nest d n (n ∷ r)) (init_declarator_yield d (token Comma p ∷ ts)) (init_declarator_long d n (n ∷ r) (token Comma p ∷ ts) (ap suc (hr)))

pub declaration_long : (x0 : Declaration) (n : ℕ) (r : List ℕ) (ts : List Token) → Long r ts → Long (declaration_nest x0 n r) (declaration_yield x0 ts)
declaration_long (specifiers_alone s p) n r ts hr = specifiers_long s n (n ∷ r) (token Semicolon p ∷ ts) (ap suc (hr))
declaration_long (declaration s ds d p) n r ts hr = specifiers_long s n (init_declarators_nest ds n (init_declarator_nest d n (n ∷ r))) (init_declarators_yield ds (init_declarator_yield d (token Semicolon p ∷ ts))) (init_declarators_long ds n (init_declarator_nest d n (n ∷ r)) (init_declarator_yield d (token Semicolon p ∷ ts)) (init_declarator_long d n (n ∷ r) (token Semicolon p ∷ ts) (ap suc (hr))))

pub optional_long : (x0 : Option Expression) (n : ℕ) (r : List ℕ) (ts : List Token) → Long r ts → Long (optional_nest x0 n r) (optional_yield x0 ts)
optional_long None n r ts hr = hr
optional_long (Some e) n r ts hr = expression_long e n r ts (hr)

pub for_first_long : (x0 : ForFirst) (n : ℕ) (r : List ℕ) (ts : List Token) → Long r ts → Long (for_first_nest x0 n r) (for_first_yield x0 ts)
for_first_long (for_nothing p) n r ts hr = ap suc (hr)
for_first_long (for_expression e p) n r ts hr = expression_long e n (n ∷ r) (token Semicolon p ∷ ts) (ap suc (hr))
for_first_long (for_declaration d) n r ts hr = declaration_long d n r ts (hr)

pub label_long : (x0 : Label) (n : ℕ) (r : List ℕ) (ts : List Token) → Long r ts → Long (label_nest x0 n r) (label_yield x0 ts)
label_long (case_label p e q) n r ts hr = ap suc (expression_long e n (n ∷ r) (token Colon q ∷ ts) (ap suc (hr)))
label_long (default_label p q) n r ts hr = ap suc (ap suc (hr))

pub labels_long : (x0 : Labels) (n : ℕ) (r : List ℕ) (ts : List Token) → Long r ts → Long (labels_nest x0 n r) (labels_yield x0 ts)
labels_long (first_label l) n r ts hr = label_long l n r ts (hr)
labels_long (next_label ls l) n r ts hr = labels_long ls n (label_nest l n r) (label_yield l ts) (label_long l n r ts (hr))

mutual
  pub statement_long : (x0 : Statement) (n : ℕ) (r : List ℕ) (ts : List Token) → Long r ts → Long (statement_nest x0 n r) (statement_yield x0 ts)
  statement_long (block p is q) n r ts hr = ap suc (items_long is (suc n) (suc n ∷ r) (token RightBrace q ∷ ts) (ap suc (hr)))
  statement_long (empty_statement p) n r ts hr = ap suc (hr)
  statement_long (expression_statement e p) n r ts hr = expression_long e (suc n) (suc n ∷ r) (token Semicolon p ∷ ts) (ap suc (hr))
  statement_long (if_statement p q e l s) n r ts hr = ap suc (ap suc (expression_long e (suc n) (suc n ∷ statement_nest s (suc n) r) (token RightParen l ∷ statement_yield s ts) (ap suc (statement_long s (suc n) r ts (hr)))))
  statement_long (if_else p q e l a m b) n r ts hr = ap suc (ap suc (expression_long e (suc n) (suc n ∷ statement_nest a (suc n) (suc n ∷ statement_nest b (suc n) r)) (token RightParen l ∷ statement_yield a (token Else m ∷ statement_yield b ts)) (ap suc (statement_long a (suc n) (suc n ∷ statement_nest b (suc n) r) (token Else m ∷ statement_yield b ts) (ap suc (statement_long b (suc n) r ts (hr)))))))
  statement_long (while_statement p q e l s) n r ts hr = ap suc (ap suc (expression_long e (suc n) (suc n ∷ statement_nest s (suc n) r) (token RightParen l ∷ statement_yield s ts) (ap suc (statement_long s (suc n) r ts (hr)))))
  statement_long (do_statement p s w q e l m) n r ts hr = ap suc (statement_long s (suc n) (suc n ∷ suc n ∷ expression_nest e (suc n) (suc n ∷ suc n ∷ r)) (token While w ∷ token LeftParen q ∷ expression_yield e (token RightParen l ∷ token Semicolon m ∷ ts)) (ap suc (ap suc (expression_long e (suc n) (suc n ∷ suc n ∷ r) (token RightParen l ∷ token Semicolon m ∷ ts) (ap suc (ap suc (hr)))))))
  statement_long (for_statement p q f c m u l s) n r ts hr = ap suc (ap suc (for_first_long f (suc n) (optional_nest c (suc n) (suc n ∷ optional_nest u (suc n) (suc n ∷ statement_nest s (suc n) r))) (optional_yield c (token Semicolon m ∷ optional_yield u (token RightParen l ∷ statement_yield s ts))) (optional_long c (suc n) (suc n ∷ optional_nest u (suc n) (suc n ∷ statement_nest s (suc n) r)) (token Semicolon m ∷ optional_yield u (token RightParen l ∷ statement_yield s ts)) (ap suc (optional_long u (suc n) (suc n ∷ statement_nest s (suc n) r) (token RightParen l ∷ statement_yield s ts) (ap suc (statement_long s (suc n) r ts (hr))))))))
  statement_long (switch_statement p q e l m gs k) n r ts hr = ap suc (ap suc (expression_long e (suc n) (suc n ∷ suc n ∷ groups_nest gs (suc n) (suc n ∷ r)) (token RightParen l ∷ token LeftBrace m ∷ groups_yield gs (token RightBrace k ∷ ts)) (ap suc (ap suc (groups_long gs (suc n) (suc n ∷ r) (token RightBrace k ∷ ts) (ap suc (hr)))))))
  statement_long (jump_statement p j q) n r ts hr = ap suc (ap suc (hr))
  statement_long (return_statement p e q) n r ts hr = ap suc (optional_long e (suc n) (suc n ∷ r) (token Semicolon q ∷ ts) (ap suc (hr)))

  pub items_long : (x0 : Items) (n : ℕ) (r : List ℕ) (ts : List Token) → Long r ts → Long (items_nest x0 n r) (items_yield x0 ts)
  items_long no_items n r ts hr = hr
  items_long (declaration_item is d) n r ts hr = items_long is n (declaration_nest d n r) (declaration_yield d ts) (declaration_long d n r ts (hr))
  items_long (statement_item is s) n r ts hr = items_long is n (statement_nest s n r) (statement_yield s ts) (statement_long s n r ts (hr))

  pub groups_long : (x0 : Groups) (n : ℕ) (r : List ℕ) (ts : List Token) → Long r ts → Long (groups_nest x0 n r) (groups_yield x0 ts)
  groups_long no_groups n r ts hr = hr
  groups_long (group gs ls is) n r ts hr = groups_long gs n (labels_nest ls n (items_nest is n r)) (labels_yield ls (items_yield is ts)) (labels_long ls n (items_nest is n r) (items_yield is ts) (items_long is n r ts (hr)))

pub file_long : (x0 : File) (r : List ℕ) (ts : List Token) → Long r ts → Long (file_nest x0 r) (file_yield x0 ts)
file_long empty_file r ts hr = hr
file_long (external_declaration f d) r ts hr = file_long f (declaration_nest d 0 r) (declaration_yield d ts) (declaration_long d 0 r ts (hr))
file_long (function_definition f s d p is q) r ts hr = file_long f (specifiers_nest s 0 (inner_nest d 0 (1 ∷ items_nest is 1 (1 ∷ r)))) (specifiers_yield s (declarator_yield d (token LeftBrace p ∷ items_yield is (token RightBrace q ∷ ts)))) (specifiers_long s 0 (inner_nest d 0 (1 ∷ items_nest is 1 (1 ∷ r))) (declarator_yield d (token LeftBrace p ∷ items_yield is (token RightBrace q ∷ ts))) (inner_long d 0 (1 ∷ items_nest is 1 (1 ∷ r)) (token LeftBrace p ∷ items_yield is (token RightBrace q ∷ ts)) (ap suc (items_long is 1 (1 ∷ r) (token RightBrace q ∷ ts) (ap suc (hr))))))

mutual
  pub statement_longs : (x0 : StatementContext) (r : List ℕ) (ts : List Token) → Long r ts → Long (statement_nests x0 r) (statement_before x0 ts)
  statement_longs (then_of p q e l k) r ts hr = statement_longs k (suc (statement_depth k) ∷ suc (statement_depth k) ∷ expression_nest e (suc (statement_depth k)) (suc (statement_depth k) ∷ r)) (token If p ∷ token LeftParen q ∷ expression_yield e (token RightParen l ∷ ts)) (ap suc (ap suc (expression_long e (suc (statement_depth k)) (suc (statement_depth k) ∷ r) (token RightParen l ∷ ts) (ap suc (hr)))))
  statement_longs (else_of p q e l a m k) r ts hr = statement_longs k (suc (statement_depth k) ∷ suc (statement_depth k) ∷ expression_nest e (suc (statement_depth k)) (suc (statement_depth k) ∷ statement_nest a (suc (statement_depth k)) (suc (statement_depth k) ∷ r))) (token If p ∷ token LeftParen q ∷ expression_yield e (token RightParen l ∷ statement_yield a (token Else m ∷ ts))) (ap suc (ap suc (expression_long e (suc (statement_depth k)) (suc (statement_depth k) ∷ statement_nest a (suc (statement_depth k)) (suc (statement_depth k) ∷ r)) (token RightParen l ∷ statement_yield a (token Else m ∷ ts)) (ap suc (statement_long a (suc (statement_depth k)) (suc (statement_depth k) ∷ r) (token Else m ∷ ts) (ap suc (hr)))))))
  statement_longs (while_body p q e l k) r ts hr = statement_longs k (suc (statement_depth k) ∷ suc (statement_depth k) ∷ expression_nest e (suc (statement_depth k)) (suc (statement_depth k) ∷ r)) (token While p ∷ token LeftParen q ∷ expression_yield e (token RightParen l ∷ ts)) (ap suc (ap suc (expression_long e (suc (statement_depth k)) (suc (statement_depth k) ∷ r) (token RightParen l ∷ ts) (ap suc (hr)))))
  statement_longs (do_body p k) r ts hr = statement_longs k (suc (statement_depth k) ∷ r) (token Do p ∷ ts) (ap suc (hr))
  statement_longs (for_body p q f c m u l k) r ts hr = statement_longs k (suc (statement_depth k) ∷ suc (statement_depth k) ∷ for_first_nest f (suc (statement_depth k)) (optional_nest c (suc (statement_depth k)) (suc (statement_depth k) ∷ optional_nest u (suc (statement_depth k)) (suc (statement_depth k) ∷ r)))) (token For p ∷ token LeftParen q ∷ for_first_yield f (optional_yield c (token Semicolon m ∷ optional_yield u (token RightParen l ∷ ts)))) (ap suc (ap suc (for_first_long f (suc (statement_depth k)) (optional_nest c (suc (statement_depth k)) (suc (statement_depth k) ∷ optional_nest u (suc (statement_depth k)) (suc (statement_depth k) ∷ r))) (optional_yield c (token Semicolon m ∷ optional_yield u (token RightParen l ∷ ts))) (optional_long c (suc (statement_depth k)) (suc (statement_depth k) ∷ optional_nest u (suc (statement_depth k)) (suc (statement_depth k) ∷ r)) (token Semicolon m ∷ optional_yield u (token RightParen l ∷ ts)) (ap suc (optional_long u (suc (statement_depth k)) (suc (statement_depth k) ∷ r) (token RightParen l ∷ ts) (ap suc (hr))))))))
  statement_longs (item_of is k) r ts hr = items_longs k (items_nest is (items_depth k) r) (items_yield is ts) (items_long is (items_depth k) r ts (hr))

  pub items_longs : (x0 : ItemsContext) (r : List ℕ) (ts : List Token) → Long r ts → Long (items_nests x0 r) (items_before x0 ts)
  items_longs (block_of p k) r ts hr = statement_longs k (suc (statement_depth k) ∷ r) (token LeftBrace p ∷ ts) (ap suc (hr))
  items_longs (function_body f s d p) r ts hr = file_long f (specifiers_nest s 0 (inner_nest d 0 (1 ∷ r))) (specifiers_yield s (declarator_yield d (token LeftBrace p ∷ ts))) (specifiers_long s 0 (inner_nest d 0 (1 ∷ r)) (declarator_yield d (token LeftBrace p ∷ ts)) (inner_long d 0 (1 ∷ r) (token LeftBrace p ∷ ts) (ap suc (hr))))
  items_longs (group_of gs ls k) r ts hr = groups_longs k (groups_nest gs (groups_depth k) (labels_nest ls (groups_depth k) r)) (groups_yield gs (labels_yield ls ts)) (groups_long gs (groups_depth k) (labels_nest ls (groups_depth k) r) (labels_yield ls ts) (labels_long ls (groups_depth k) r ts (hr)))

  pub groups_longs : (x0 : GroupsContext) (r : List ℕ) (ts : List Token) → Long r ts → Long (groups_nests x0 r) (groups_before x0 ts)
  groups_longs (switch_of p q e l m k) r ts hr = statement_longs k (suc (statement_depth k) ∷ suc (statement_depth k) ∷ expression_nest e (suc (statement_depth k)) (suc (statement_depth k) ∷ suc (statement_depth k) ∷ r)) (token Switch p ∷ token LeftParen q ∷ expression_yield e (token RightParen l ∷ token LeftBrace m ∷ ts)) (ap suc (ap suc (expression_long e (suc (statement_depth k)) (suc (statement_depth k) ∷ suc (statement_depth k) ∷ r) (token RightParen l ∷ token LeftBrace m ∷ ts) (ap suc (ap suc (hr))))))

pub label_longs : (x0 : LabelContext) (r : List ℕ) (ts : List Token) → Long r ts → Long (label_nests x0 r) (label_before x0 ts)
label_longs (new_group gs k) r ts hr = groups_longs k (groups_nest gs (groups_depth k) r) (groups_yield gs ts) (groups_long gs (groups_depth k) r ts (hr))
label_longs (another_label gs ls k) r ts hr = groups_longs k (groups_nest gs (groups_depth k) (labels_nest ls (groups_depth k) r)) (groups_yield gs (labels_yield ls ts)) (groups_long gs (groups_depth k) (labels_nest ls (groups_depth k) r) (labels_yield ls ts) (labels_long ls (groups_depth k) r ts (hr)))

pub declaration_longs : (x0 : DeclarationContext) (r : List ℕ) (ts : List Token) → Long r ts → Long (declaration_nests x0 r) (declaration_before x0 ts)
declaration_longs (in_file f) r ts hr = file_long f r ts (hr)
declaration_longs (in_items is k) r ts hr = items_longs k (items_nest is (items_depth k) r) (items_yield is ts) (items_long is (items_depth k) r ts (hr))
declaration_longs (in_for_head p q k) r ts hr = statement_longs k (suc (statement_depth k) ∷ suc (statement_depth k) ∷ r) (token For p ∷ token LeftParen q ∷ ts) (ap suc (ap suc (hr)))

pub initializer_longs : (x0 : InitializerContext) (r : List ℕ) (ts : List Token) → Long r ts → Long (initializer_nests x0 r) (initializer_before x0 ts)
initializer_longs (initializer_of s ds d p k) r ts hr = declaration_longs k (specifiers_nest s (declaration_depth k) (init_declarators_nest ds (declaration_depth k) (declarator_nest d (declaration_depth k) (declaration_depth k ∷ r)))) (specifiers_yield s (init_declarators_yield ds (declarator_yield d (token (Assignment Equals) p ∷ ts)))) (specifiers_long s (declaration_depth k) (init_declarators_nest ds (declaration_depth k) (declarator_nest d (declaration_depth k) (declaration_depth k ∷ r))) (init_declarators_yield ds (declarator_yield d (token (Assignment Equals) p ∷ ts))) (init_declarators_long ds (declaration_depth k) (declarator_nest d (declaration_depth k) (declaration_depth k ∷ r)) (declarator_yield d (token (Assignment Equals) p ∷ ts)) (declarator_long d (declaration_depth k) (declaration_depth k ∷ r) (token (Assignment Equals) p ∷ ts) (ap suc (hr)))))

pub statement_hole_longs : (x0 : StatementHole) (r : List ℕ) (ts : List Token) → Long r ts → Long (statement_hole_nests x0 r) (statement_hole_before x0 ts)
statement_hole_longs (of_statement k) r ts hr = statement_longs k r ts (hr)
statement_hole_longs (of_return p k) r ts hr = statement_longs k (suc (statement_depth k) ∷ r) (token Return p ∷ ts) (ap suc (hr))
statement_hole_longs (of_if p q k) r ts hr = statement_longs k (suc (statement_depth k) ∷ suc (statement_depth k) ∷ r) (token If p ∷ token LeftParen q ∷ ts) (ap suc (ap suc (hr)))
statement_hole_longs (of_while p q k) r ts hr = statement_longs k (suc (statement_depth k) ∷ suc (statement_depth k) ∷ r) (token While p ∷ token LeftParen q ∷ ts) (ap suc (ap suc (hr)))
statement_hole_longs (of_do p s w q k) r ts hr = statement_longs k (suc (statement_depth k) ∷ statement_nest s (suc (statement_depth k)) (suc (statement_depth k) ∷ suc (statement_depth k) ∷ r)) (token Do p ∷ statement_yield s (token While w ∷ token LeftParen q ∷ ts)) (ap suc (statement_long s (suc (statement_depth k)) (suc (statement_depth k) ∷ suc (statement_depth k) ∷ r) (token While w ∷ token LeftParen q ∷ ts) (ap suc (ap suc (hr)))))
statement_hole_longs (of_switch p q k) r ts hr = statement_longs k (suc (statement_depth k) ∷ suc (statement_depth k) ∷ r) (token Switch p ∷ token LeftParen q ∷ ts) (ap suc (ap suc (hr)))
statement_hole_longs (of_for_first p q k) r ts hr = statement_longs k (suc (statement_depth k) ∷ suc (statement_depth k) ∷ r) (token For p ∷ token LeftParen q ∷ ts) (ap suc (ap suc (hr)))
statement_hole_longs (of_for_test p q f k) r ts hr = statement_longs k (suc (statement_depth k) ∷ suc (statement_depth k) ∷ for_first_nest f (suc (statement_depth k)) r) (token For p ∷ token LeftParen q ∷ for_first_yield f ts) (ap suc (ap suc (for_first_long f (suc (statement_depth k)) r ts (hr))))
statement_hole_longs (of_for_step p q f c m k) r ts hr = statement_longs k (suc (statement_depth k) ∷ suc (statement_depth k) ∷ for_first_nest f (suc (statement_depth k)) (optional_nest c (suc (statement_depth k)) (suc (statement_depth k) ∷ r))) (token For p ∷ token LeftParen q ∷ for_first_yield f (optional_yield c (token Semicolon m ∷ ts))) (ap suc (ap suc (for_first_long f (suc (statement_depth k)) (optional_nest c (suc (statement_depth k)) (suc (statement_depth k) ∷ r)) (optional_yield c (token Semicolon m ∷ ts)) (optional_long c (suc (statement_depth k)) (suc (statement_depth k) ∷ r) (token Semicolon m ∷ ts) (ap suc (hr))))))
statement_hole_longs (of_case k p) r ts hr = label_longs k (label_depth k ∷ r) (token Case p ∷ ts) (ap suc (hr))
statement_hole_longs (of_initializer k) r ts hr = initializer_longs k r ts (hr)
statement_hole_longs (of_list k p xs) r ts hr = initializer_longs k (suc (initializer_depth k) ∷ arguments_nest xs (suc (initializer_depth k)) r) (token LeftBrace p ∷ arguments_yield xs ts) (ap suc (arguments_long xs (suc (initializer_depth k)) r ts (hr)))

pub frame_long : (x0 : Frame) (n : ℕ) (r : List ℕ) (ts : List Token) → Long r ts → Long (frame_nest x0 n r) (frame_before x0 ts)
frame_long (step_frame p o) n r ts hr = ap suc (hr)
frame_long (unary_frame p o) n r ts hr = ap suc (hr)
frame_long (sizeof_frame p) n r ts hr = ap suc (hr)
frame_long (cast_frame p t q) n r ts hr = ap suc (type_name_long t n (n ∷ r) (token RightParen q ∷ ts) (ap suc (hr)))
frame_long (binary_frame a p o) n r ts hr = expression_long a n (n ∷ r) (token (Op o) p ∷ ts) (ap suc (hr))
frame_long (conditional_frame c p a q) n r ts hr = expression_long c n (n ∷ expression_nest a n (n ∷ r)) (token Question p ∷ expression_yield a (token Colon q ∷ ts)) (ap suc (expression_long a n (n ∷ r) (token Colon q ∷ ts) (ap suc (hr))))
frame_long (assignment_frame a p o) n r ts hr = expression_long a n (n ∷ r) (token (Assignment o) p ∷ ts) (ap suc (hr))

pub chain_long : (x0 : Chain) (n : ℕ) (r : List ℕ) (ts : List Token) → Long r ts → Long (chain_nest x0 n r) (chain_before x0 ts)
chain_long top n r ts hr = hr
chain_long (starred p qs c) n r ts hr = chain_long c n (chain_in c n ∷ qualifiers_nest qs (chain_in c n) r) (token (Op Star) p ∷ qualifiers_yield qs ts) (ap suc (qualifiers_long qs (chain_in c n) r ts (hr)))
chain_long (opened p c) n r ts hr = chain_long c n (chain_in c n ∷ r) (token LeftParen p ∷ ts) (ap suc (hr))

pub abstract_chain_long : (x0 : Chain) (n : ℕ) (r : List ℕ) (ts : List Token) → Long r ts → Long (abstract_chain_nest x0 n r) (chain_before x0 ts)
abstract_chain_long top n r ts hr = hr
abstract_chain_long (starred p qs c) n r ts hr = abstract_chain_long c n (abstract_in c n ∷ qualifiers_nest qs (abstract_in c n) r) (token (Op Star) p ∷ qualifiers_yield qs ts) (ap suc (qualifiers_long qs (abstract_in c n) r ts (hr)))
abstract_chain_long (opened p c) n r ts hr = abstract_chain_long c n (abstract_in c n ∷ r) (token LeftParen p ∷ ts) (ap suc (hr))

pub head_long : (x0 : Chain) (r : List ℕ) (ts : List Token) → Long r ts → Long (head_nest x0 r) (chain_before x0 ts)
head_long top r ts hr = hr
head_long (starred p qs c) r ts hr = head_long c (0 ∷ qualifiers_nest qs 0 r) (token (Op Star) p ∷ qualifiers_yield qs ts) (ap suc (qualifiers_long qs 0 r ts (hr)))
head_long (opened p c) r ts hr = head_long c (0 ∷ r) (token LeftParen p ∷ ts) (ap suc (hr))

mutual
  pub expression_longs : (x0 : ExpressionContext) (r : List ℕ) (ts : List Token) → Long r ts → Long (expression_nests x0 r) (expression_before x0 ts)
  expression_longs (operand f k) r ts hr = expression_longs k (frame_nest f (suc (expression_depth k)) r) (frame_before f ts) (frame_long f (suc (expression_depth k)) r ts (hr))
  expression_longs (whole h) r ts hr = hole_longs h r ts (hr)

  pub hole_longs : (x0 : Hole) (r : List ℕ) (ts : List Token) → Long r ts → Long (hole_nests x0 r) (hole_before x0 ts)
  hole_longs (in_parentheses p k) r ts hr = expression_longs k (suc (expression_depth k) ∷ r) (token LeftParen p ∷ ts) (ap suc (hr))
  hole_longs (in_index e p k) r ts hr = expression_longs k (expression_nest e (suc (expression_depth k)) (suc (expression_depth k) ∷ r)) (expression_yield e (token LeftBracket p ∷ ts)) (expression_long e (suc (expression_depth k)) (suc (expression_depth k) ∷ r) (token LeftBracket p ∷ ts) (ap suc (hr)))
  hole_longs (in_argument f p xs k) r ts hr = expression_longs k (expression_nest f (suc (expression_depth k)) (suc (expression_depth k) ∷ arguments_nest xs (suc (expression_depth k)) r)) (expression_yield f (token LeftParen p ∷ arguments_yield xs ts)) (expression_long f (suc (expression_depth k)) (suc (expression_depth k) ∷ arguments_nest xs (suc (expression_depth k)) r) (token LeftParen p ∷ arguments_yield xs ts) (ap suc (arguments_long xs (suc (expression_depth k)) r ts (hr))))
  hole_longs (in_middle c p k) r ts hr = expression_longs k (expression_nest c (suc (expression_depth k)) (suc (expression_depth k) ∷ r)) (expression_yield c (token Question p ∷ ts)) (expression_long c (suc (expression_depth k)) (suc (expression_depth k) ∷ r) (token Question p ∷ ts) (ap suc (hr)))
  hole_longs (in_length k p) r ts hr = array_longs k (array_depth k ∷ r) (token LeftBracket p ∷ ts) (ap suc (hr))
  hole_longs (in_enumerator es p x q k) r ts hr = enum_longs k (enumerators_nest es (enum_depth k) (enum_depth k ∷ enum_depth k ∷ r)) (enumerators_yield es (token (Name x) p ∷ token (Assignment Equals) q ∷ ts)) (enumerators_long es (enum_depth k) (enum_depth k ∷ enum_depth k ∷ r) (token (Name x) p ∷ token (Assignment Equals) q ∷ ts) (ap suc (ap suc (hr))))
  hole_longs (in_statement h) r ts hr = statement_hole_longs h r ts (hr)

  pub array_longs : (x0 : Suffixed) (r : List ℕ) (ts : List Token) → Long r ts → Long (array_nests x0 r) (suffixed_before x0 ts)
  array_longs (of_declarator d c k) r ts hr = declarator_longs k (chain_nest c (declarator_depth k) (inner_nest d (chain_in c (declarator_depth k)) r)) (chain_before c (declarator_yield d ts)) (chain_long c (declarator_depth k) (inner_nest d (chain_in c (declarator_depth k)) r) (declarator_yield d ts) (inner_long d (chain_in c (declarator_depth k)) r ts (hr)))
  array_longs (of_abstract a c k) r ts hr = abstract_longs k (abstract_chain_nest c (abstract_depth k) (direct_nest a (abstract_in c (abstract_depth k)) r)) (chain_before c (abstract_yield a ts)) (abstract_chain_long c (abstract_depth k) (direct_nest a (abstract_in c (abstract_depth k)) r) (abstract_yield a ts) (direct_long a (abstract_in c (abstract_depth k)) r ts (hr)))

  pub function_longs : (x0 : Suffixed) (r : List ℕ) (ts : List Token) → Long r ts → Long (function_nests x0 r) (suffixed_before x0 ts)
  function_longs (of_declarator d c k) r ts hr = cond_long (may_define d c k) (declarator_nests k (head_nest c (inner_nest d 0 r))) (declarator_nests k (chain_nest c (declarator_depth k) (inner_nest d (chain_in c (declarator_depth k)) r))) (declarator_before k (chain_before c (declarator_yield d ts))) (declarator_longs k (head_nest c (inner_nest d 0 r)) (chain_before c (declarator_yield d ts)) (head_long c (inner_nest d 0 r) (declarator_yield d ts) (inner_long d 0 r ts (hr)))) (declarator_longs k (chain_nest c (declarator_depth k) (inner_nest d (chain_in c (declarator_depth k)) r)) (chain_before c (declarator_yield d ts)) (chain_long c (declarator_depth k) (inner_nest d (chain_in c (declarator_depth k)) r) (declarator_yield d ts) (inner_long d (chain_in c (declarator_depth k)) r ts (hr))))
  function_longs (of_abstract a c k) r ts hr = abstract_longs k (abstract_chain_nest c (abstract_depth k) (direct_nest a (abstract_in c (abstract_depth k)) r)) (chain_before c (abstract_yield a ts)) (abstract_chain_long c (abstract_depth k) (direct_nest a (abstract_in c (abstract_depth k)) r) (abstract_yield a ts) (direct_long a (abstract_in c (abstract_depth k)) r ts (hr)))

  pub specifiers_longs : (x0 : SpecifiersContext) (r : List ℕ) (ts : List Token) → Long r ts → Long (specifiers_nests x0 r) (specifiers_before x0 ts)
  specifiers_longs (in_declaration k) r ts hr = declaration_longs k r ts (hr)
  specifiers_longs (in_member ms k) r ts hr = composite_longs k (members_nest ms (composite_depth k) r) (members_yield ms ts) (members_long ms (composite_depth k) r ts (hr))
  specifiers_longs (in_parameter ps k p) r ts hr = function_longs k (function_depth k ∷ earlier_nest ps (function_depth k) r) (token LeftParen p ∷ earlier_yield ps ts) (ap suc (earlier_long ps (function_depth k) r ts (hr)))
  specifiers_longs (in_type_name k) r ts hr = type_name_longs k r ts (hr)

  pub type_name_longs : (x0 : TypeNameContext) (r : List ℕ) (ts : List Token) → Long r ts → Long (type_name_nests x0 r) (type_name_before x0 ts)
  type_name_longs (in_cast p k) r ts hr = expression_longs k (suc (expression_depth k) ∷ r) (token LeftParen p ∷ ts) (ap suc (hr))
  type_name_longs (in_sizeof p q k) r ts hr = expression_longs k (suc (expression_depth k) ∷ suc (expression_depth k) ∷ r) (token Sizeof p ∷ token LeftParen q ∷ ts) (ap suc (ap suc (hr)))

  pub composite_longs : (x0 : CompositeContext) (r : List ℕ) (ts : List Token) → Long r ts → Long (composite_nests x0 r) (composite_before x0 ts)
  composite_longs (in_composite s p w t q k) r ts hr = specifiers_longs k (specifiers_nest s (specifiers_depth k) (specifiers_depth k ∷ tag_nest t (specifiers_depth k) (suc (specifiers_depth k) ∷ r))) (specifiers_yield s (token (Composite w) p ∷ tag_yield t (token LeftBrace q ∷ ts))) (specifiers_long s (specifiers_depth k) (specifiers_depth k ∷ tag_nest t (specifiers_depth k) (suc (specifiers_depth k) ∷ r)) (token (Composite w) p ∷ tag_yield t (token LeftBrace q ∷ ts)) (ap suc (tag_long t (specifiers_depth k) (suc (specifiers_depth k) ∷ r) (token LeftBrace q ∷ ts) (ap suc (hr)))))

  pub enum_longs : (x0 : EnumContext) (r : List ℕ) (ts : List Token) → Long r ts → Long (enum_nests x0 r) (enum_before x0 ts)
  enum_longs (in_enumeration s p t q k) r ts hr = specifiers_longs k (specifiers_nest s (specifiers_depth k) (specifiers_depth k ∷ tag_nest t (specifiers_depth k) (specifiers_depth k ∷ r))) (specifiers_yield s (token Enum p ∷ tag_yield t (token LeftBrace q ∷ ts))) (specifiers_long s (specifiers_depth k) (specifiers_depth k ∷ tag_nest t (specifiers_depth k) (specifiers_depth k ∷ r)) (token Enum p ∷ tag_yield t (token LeftBrace q ∷ ts)) (ap suc (tag_long t (specifiers_depth k) (specifiers_depth k ∷ r) (token LeftBrace q ∷ ts) (ap suc (hr)))))

  pub declarator_longs : (x0 : DeclaratorContext) (r : List ℕ) (ts : List Token) → Long r ts → Long (declarator_nests x0 r) (declarator_before x0 ts)
  declarator_longs (init_context s ds k) r ts hr = declaration_longs k (specifiers_nest s (declaration_depth k) (init_declarators_nest ds (declaration_depth k) r)) (specifiers_yield s (init_declarators_yield ds ts)) (specifiers_long s (declaration_depth k) (init_declarators_nest ds (declaration_depth k) r) (init_declarators_yield ds ts) (init_declarators_long ds (declaration_depth k) r ts (hr)))
  declarator_longs (member_context ms s ds k) r ts hr = composite_longs k (members_nest ms (composite_depth k) (specifiers_nest s (composite_depth k) (declarators_nest ds (composite_depth k) r))) (members_yield ms (specifiers_yield s (declarators_yield ds ts))) (members_long ms (composite_depth k) (specifiers_nest s (composite_depth k) (declarators_nest ds (composite_depth k) r)) (specifiers_yield s (declarators_yield ds ts)) (specifiers_long s (composite_depth k) (declarators_nest ds (composite_depth k) r) (declarators_yield ds ts) (declarators_long ds (composite_depth k) r ts (hr))))
  declarator_longs (parameter_context ps s k p) r ts hr = function_longs k (function_depth k ∷ earlier_nest ps (function_depth k) (specifiers_nest s (function_depth k) r)) (token LeftParen p ∷ earlier_yield ps (specifiers_yield s ts)) (ap suc (earlier_long ps (function_depth k) (specifiers_nest s (function_depth k) r) (specifiers_yield s ts) (specifiers_long s (function_depth k) r ts (hr))))

  pub abstract_longs : (x0 : AbstractContext) (r : List ℕ) (ts : List Token) → Long r ts → Long (abstract_nests x0 r) (abstract_before x0 ts)
  abstract_longs (parameter_abstract ps s k p) r ts hr = function_longs k (function_depth k ∷ earlier_nest ps (function_depth k) (specifiers_nest s (function_depth k) r)) (token LeftParen p ∷ earlier_yield ps (specifiers_yield s ts)) (ap suc (earlier_long ps (function_depth k) (specifiers_nest s (function_depth k) r) (specifiers_yield s ts) (specifiers_long s (function_depth k) r ts (hr))))
  abstract_longs (type_name_abstract s k) r ts hr = type_name_longs k (specifiers_nest s (type_name_depth k) r) (specifiers_yield s ts) (specifiers_long s (type_name_depth k) r ts (hr))

at_declarator_longs : (c : Chain) (k : DeclaratorContext) (r : List ℕ) (ts : List Token) → Long r ts → Long (at_declarator_nests c k r) (declarator_before k (chain_before c ts))
at_declarator_longs c k r ts hr =
    cond_long (may_head c k) (declarator_nests k (head_nest c r)) (declarator_nests k (chain_nest c (declarator_depth k) r)) (declarator_before k (chain_before c ts))
    (declarator_longs k (head_nest c r) (chain_before c ts) (head_long c r ts hr))
    (declarator_longs k (chain_nest c (declarator_depth k) r) (chain_before c ts) (chain_long c (declarator_depth k) r ts hr))

after_declarator_longs : (d : Declarator) (c : Chain) (k : DeclaratorContext) (r : List ℕ) (ts : List Token) → Long r ts
    → Long (after_declarator_nests d c k r) (declarator_before k (chain_before c (declarator_yield d ts)))
after_declarator_longs (declared_name p x) c k r ts hr =
    cond_long (may_head c k) (declarator_nests k (head_nest c (0 ∷ r)))
    (declarator_nests k (chain_nest c (declarator_depth k) (name_in c (declarator_depth k) ∷ r))) (declarator_before k (chain_before c (token (Name x) p ∷ ts)))
    (declarator_longs k (head_nest c (0 ∷ r)) (chain_before c (token (Name x) p ∷ ts)) (head_long c (0 ∷ r) (token (Name x) p ∷ ts) (ap suc hr)))
    (declarator_longs k (chain_nest c (declarator_depth k) (name_in c (declarator_depth k) ∷ r)) (chain_before c (token (Name x) p ∷ ts))
    (chain_long c (declarator_depth k) (name_in c (declarator_depth k) ∷ r) (token (Name x) p ∷ ts) (ap suc hr)))
after_declarator_longs (pointer p qs d) c k r ts hr = array_longs (of_declarator (pointer p qs d) c k) r ts hr
after_declarator_longs (parenthesized_declarator p d q) c k r ts hr = array_longs (of_declarator (parenthesized_declarator p d q) c k) r ts hr
after_declarator_longs (array d p l q) c k r ts hr = array_longs (of_declarator (array d p l q) c k) r ts hr
after_declarator_longs (function d p ps q) c k r ts hr =
    let m : ℕ = function_depth (of_declarator d c k) in
    function_longs (of_declarator d c k) (m ∷ parameters_nest ps m (m ∷ r)) (token LeftParen p ∷ parameters_yield ps (token RightParen q ∷ ts))
    (ap suc (parameters_long ps m (m ∷ r) (token RightParen q ∷ ts) (ap suc hr)))

at_abstract_longs : (k : AbstractContext) (c : Chain) (r : List ℕ) (ts : List Token) → Long r ts → Long (at_abstract_nests k c r) (abstract_before k (chain_before c ts))
at_abstract_longs (parameter_abstract ps s k p) c r ts hr =
    abstract_longs (parameter_abstract ps s k p) (chain_nest c (function_depth k) r) (chain_before c ts) (chain_long c (function_depth k) r ts hr)
at_abstract_longs (type_name_abstract s k) c r ts hr =
    abstract_longs (type_name_abstract s k) (abstract_chain_nest c (type_name_depth k) r) (chain_before c ts) (abstract_chain_long c (type_name_depth k) r ts hr)

pub state_long : (x0 : State) (r : List ℕ) (ts : List Token) → Long r ts → Long (state_nest x0 r) (state_before x0 ts)
state_long (at_file f) r ts hr = file_long f r ts (hr)
state_long (at_items is k) r ts hr = items_longs k (items_nest is (items_depth k) r) (items_yield is ts) (items_long is (items_depth k) r ts (hr))
state_long (at_statement k) r ts hr = statement_longs k r ts (hr)
state_long (after_statement s k) r ts hr = statement_longs k (statement_nest s (statement_depth k) r) (statement_yield s ts) (statement_long s (statement_depth k) r ts (hr))
state_long (at_labels k) r ts hr = groups_longs k r ts (hr)
state_long (after_default k p) r ts hr = label_longs k (label_depth k ∷ r) (token Default p ∷ ts) (ap suc (hr))
state_long (at_condition h p k) r ts hr = statement_longs k (suc (statement_depth k) ∷ r) (token (head_kind h) p ∷ ts) (ap suc (hr))
state_long (at_do_condition p s w k) r ts hr = statement_longs k (suc (statement_depth k) ∷ statement_nest s (suc (statement_depth k)) (suc (statement_depth k) ∷ r)) (token Do p ∷ statement_yield s (token While w ∷ ts)) (ap suc (statement_long s (suc (statement_depth k)) (suc (statement_depth k) ∷ r) (token While w ∷ ts) (ap suc (hr))))
state_long (after_do p s w q e l k) r ts hr = statement_longs k (suc (statement_depth k) ∷ statement_nest s (suc (statement_depth k)) (suc (statement_depth k) ∷ suc (statement_depth k) ∷ expression_nest e (suc (statement_depth k)) (suc (statement_depth k) ∷ r))) (token Do p ∷ statement_yield s (token While w ∷ token LeftParen q ∷ expression_yield e (token RightParen l ∷ ts))) (ap suc (statement_long s (suc (statement_depth k)) (suc (statement_depth k) ∷ suc (statement_depth k) ∷ expression_nest e (suc (statement_depth k)) (suc (statement_depth k) ∷ r)) (token While w ∷ token LeftParen q ∷ expression_yield e (token RightParen l ∷ ts)) (ap suc (ap suc (expression_long e (suc (statement_depth k)) (suc (statement_depth k) ∷ r) (token RightParen l ∷ ts) (ap suc (hr)))))))
state_long (at_for p k) r ts hr = statement_longs k (suc (statement_depth k) ∷ r) (token For p ∷ ts) (ap suc (hr))
state_long (at_for_first p q k) r ts hr = statement_longs k (suc (statement_depth k) ∷ suc (statement_depth k) ∷ r) (token For p ∷ token LeftParen q ∷ ts) (ap suc (ap suc (hr)))
state_long (at_for_test p q f k) r ts hr = statement_longs k (suc (statement_depth k) ∷ suc (statement_depth k) ∷ for_first_nest f (suc (statement_depth k)) r) (token For p ∷ token LeftParen q ∷ for_first_yield f ts) (ap suc (ap suc (for_first_long f (suc (statement_depth k)) r ts (hr))))
state_long (at_for_step p q f c m k) r ts hr = statement_longs k (suc (statement_depth k) ∷ suc (statement_depth k) ∷ for_first_nest f (suc (statement_depth k)) (optional_nest c (suc (statement_depth k)) (suc (statement_depth k) ∷ r))) (token For p ∷ token LeftParen q ∷ for_first_yield f (optional_yield c (token Semicolon m ∷ ts))) (ap suc (ap suc (for_first_long f (suc (statement_depth k)) (optional_nest c (suc (statement_depth k)) (suc (statement_depth k) ∷ r)) (optional_yield c (token Semicolon m ∷ ts)) (optional_long c (suc (statement_depth k)) (suc (statement_depth k) ∷ r) (token Semicolon m ∷ ts) (ap suc (hr))))))
state_long (at_switch_body p q e l k) r ts hr = statement_longs k (suc (statement_depth k) ∷ suc (statement_depth k) ∷ expression_nest e (suc (statement_depth k)) (suc (statement_depth k) ∷ r)) (token Switch p ∷ token LeftParen q ∷ expression_yield e (token RightParen l ∷ ts)) (ap suc (ap suc (expression_long e (suc (statement_depth k)) (suc (statement_depth k) ∷ r) (token RightParen l ∷ ts) (ap suc (hr)))))
state_long (at_jump p j k) r ts hr = statement_longs k (suc (statement_depth k) ∷ r) (token (JumpWord j) p ∷ ts) (ap suc (hr))
state_long (at_return p k) r ts hr = statement_longs k (suc (statement_depth k) ∷ r) (token Return p ∷ ts) (ap suc (hr))
state_long (at_initializer k) r ts hr = initializer_longs k r ts (hr)
state_long (at_list_comma k p xs e q) r ts hr = initializer_longs k (suc (initializer_depth k) ∷ arguments_nest xs (suc (initializer_depth k)) (expression_nest e (suc (initializer_depth k)) (suc (initializer_depth k) ∷ r))) (token LeftBrace p ∷ arguments_yield xs (expression_yield e (token Comma q ∷ ts))) (ap suc (arguments_long xs (suc (initializer_depth k)) (expression_nest e (suc (initializer_depth k)) (suc (initializer_depth k) ∷ r)) (expression_yield e (token Comma q ∷ ts)) (expression_long e (suc (initializer_depth k)) (suc (initializer_depth k) ∷ r) (token Comma q ∷ ts) (ap suc (hr)))))
state_long (after_list k p xs e c l) r ts hr = initializer_longs k (suc (initializer_depth k) ∷ arguments_nest xs (suc (initializer_depth k)) (expression_nest e (suc (initializer_depth k)) (trailing_nest c (suc (initializer_depth k)) (suc (initializer_depth k) ∷ r)))) (token LeftBrace p ∷ arguments_yield xs (expression_yield e (trailing_yield c (token RightBrace l ∷ ts)))) (ap suc (arguments_long xs (suc (initializer_depth k)) (expression_nest e (suc (initializer_depth k)) (trailing_nest c (suc (initializer_depth k)) (suc (initializer_depth k) ∷ r))) (expression_yield e (trailing_yield c (token RightBrace l ∷ ts))) (expression_long e (suc (initializer_depth k)) (trailing_nest c (suc (initializer_depth k)) (suc (initializer_depth k) ∷ r)) (trailing_yield c (token RightBrace l ∷ ts)) (trailing_long c (suc (initializer_depth k)) (suc (initializer_depth k) ∷ r) (token RightBrace l ∷ ts) (ap suc (hr))))))
state_long (at_specifiers s k) r ts hr = specifiers_longs k (specifiers_nest s (specifiers_depth k) r) (specifiers_yield s ts) (specifiers_long s (specifiers_depth k) r ts (hr))
state_long (at_composite s p w k) r ts hr = specifiers_longs k (specifiers_nest s (specifiers_depth k) (specifiers_depth k ∷ r)) (specifiers_yield s (token (Composite w) p ∷ ts)) (specifiers_long s (specifiers_depth k) (specifiers_depth k ∷ r) (token (Composite w) p ∷ ts) (ap suc (hr)))
state_long (at_enum s p k) r ts hr = specifiers_longs k (specifiers_nest s (specifiers_depth k) (specifiers_depth k ∷ r)) (specifiers_yield s (token Enum p ∷ ts)) (specifiers_long s (specifiers_depth k) (specifiers_depth k ∷ r) (token Enum p ∷ ts) (ap suc (hr)))
state_long (at_members ms k) r ts hr = composite_longs k (members_nest ms (composite_depth k) r) (members_yield ms ts) (members_long ms (composite_depth k) r ts (hr))
state_long (at_enumerator k) r ts hr = enum_longs k r ts (hr)
state_long (after_enumerator es p x k) r ts hr = enum_longs k (enumerators_nest es (enum_depth k) (enum_depth k ∷ r)) (enumerators_yield es (token (Name x) p ∷ ts)) (enumerators_long es (enum_depth k) (enum_depth k ∷ r) (token (Name x) p ∷ ts) (ap suc (hr)))
state_long (after_enumerator_comma es e p k) r ts hr = enum_longs k (enumerators_nest es (enum_depth k) (enumerator_nest e (enum_depth k) (enum_depth k ∷ r))) (enumerators_yield es (enumerator_yield e (token Comma p ∷ ts))) (enumerators_long es (enum_depth k) (enumerator_nest e (enum_depth k) (enum_depth k ∷ r)) (enumerator_yield e (token Comma p ∷ ts)) (enumerator_long e (enum_depth k) (enum_depth k ∷ r) (token Comma p ∷ ts) (ap suc (hr))))
state_long (at_declarator c k) r ts hr = at_declarator_longs c k r ts hr
state_long (after_declarator d c k) r ts hr = after_declarator_longs d c k r ts hr
state_long (at_abstract c k) r ts hr = at_abstract_longs k c r ts hr
state_long (at_opened c p k) r ts hr = at_abstract_longs k (opened p c) r ts hr
state_long (after_abstract a c k) r ts hr = array_longs (of_abstract a c k) r ts hr
state_long (at_length k p) r ts hr = array_longs k (array_depth k ∷ r) (token LeftBracket p ∷ ts) (ap suc (hr))
state_long (at_parameters k p) r ts hr = function_longs k (function_depth k ∷ r) (token LeftParen p ∷ ts) (ap suc (hr))
state_long (at_expression k) r ts hr = expression_longs k r ts (hr)
state_long (after_postfix e k) r ts hr = expression_longs k (expression_nest e (expression_depth k) r) (expression_yield e ts) (expression_long e (expression_depth k) r ts (hr))
state_long (after_sizeof e k) r ts hr = expression_longs k (expression_nest e (expression_depth k) r) (expression_yield e ts) (expression_long e (expression_depth k) r ts (hr))
state_long (at_open p k) r ts hr = expression_longs k (suc (expression_depth k) ∷ r) (token LeftParen p ∷ ts) (ap suc (hr))
state_long (at_sizeof p k) r ts hr = expression_longs k (suc (expression_depth k) ∷ r) (token Sizeof p ∷ ts) (ap suc (hr))
state_long (at_sizeof_open p q k) r ts hr = expression_longs k (suc (expression_depth k) ∷ suc (expression_depth k) ∷ r) (token Sizeof p ∷ token LeftParen q ∷ ts) (ap suc (ap suc (hr)))
state_long (at_arguments f p k) r ts hr = expression_longs k (expression_nest f (suc (expression_depth k)) (suc (expression_depth k) ∷ r)) (expression_yield f (token LeftParen p ∷ ts)) (expression_long f (suc (expression_depth k)) (suc (expression_depth k) ∷ r) (token LeftParen p ∷ ts) (ap suc (hr)))
state_long (at_access e p o k) r ts hr = expression_longs k (expression_nest e (suc (expression_depth k)) (suc (expression_depth k) ∷ r)) (expression_yield e (token (Member o) p ∷ ts)) (expression_long e (suc (expression_depth k)) (suc (expression_depth k) ∷ r) (token (Member o) p ∷ ts) (ap suc (hr)))
