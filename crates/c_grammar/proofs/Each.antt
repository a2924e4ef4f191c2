-- Nestings of the same parts, in two places, are related as the places are, token by token. (The clauses follow those of the nestings.)
use Rattle.std.proofs.Common.{ℕ, Bool, true, false, cond, List, [], ◌∷◌, Option, Some, None, suc}
use Rattle.c_grammar.specs.Derivations.{Qualifiers, no_qualifiers, qualified, TypeWords, first_word, next_word, Tag, no_tag, tag, Trailing, no_comma, comma, Expression, identifier, constant, parenthesized, index, call_without, call, member, step_after, step_before, unary, sizeof_expression, sizeof_type, cast, binary, conditional, assignment, Arguments, no_arguments, argument, TypeName, type_name, Specifiers, no_specifiers, storage_class, qualifier, inlined, type_words, typedef_name, composite_reference, composite, enum_reference, enumeration, Members, no_members, members, Declarators, no_declarators, declarators, Enumerator, enumerator, enumerator_value, Enumerators, no_enumerators, enumerators, Declarator, declared_name, pointer, parenthesized_declarator, array, function, Length, no_length, length_of, AbstractDeclarator, no_declarator, abstract_pointer, parenthesized_abstract, abstract_array, abstract_function, Parameters, no_parameters, void_parameter, parameters, EarlierParameters, no_earlier, earlier, Parameter, named_parameter, unnamed_parameter, Initializer, no_initializer, initializer, initializer_list, InitDeclarator, init_declarator, InitDeclarators, no_init_declarators, init_declarators, Declaration, specifiers_alone, declaration, ForFirst, for_nothing, for_expression, for_declaration, Label, case_label, default_label, Labels, first_label, next_label, Statement, block, empty_statement, expression_statement, if_statement, if_else, while_statement, do_statement, for_statement, switch_statement, jump_statement, return_statement, Items, no_items, declaration_item, statement_item, Groups, no_groups, group, File, empty_file, external_declaration, function_definition}
use Rattle.c_grammar.specs.Contexts.{StatementContext, then_of, else_of, while_body, do_body, for_body, item_of, ItemsContext, block_of, function_body, group_of, GroupsContext, switch_of, LabelContext, new_group, another_label, DeclarationContext, in_file, in_items, in_for_head, InitializerContext, initializer_of, StatementHole, of_statement, of_return, of_if, of_while, of_do, of_switch, of_for_first, of_for_test, of_for_step, of_case, of_initializer, of_list, Frame, step_frame, unary_frame, sizeof_frame, cast_frame, binary_frame, conditional_frame, assignment_frame, Chain, top, starred, opened, ExpressionContext, operand, whole, Hole, in_parentheses, in_index, in_argument, in_middle, in_length, in_enumerator, in_statement, Suffixed, of_declarator, of_abstract, SpecifiersContext, in_declaration, in_member, in_parameter, in_type_name, TypeNameContext, in_cast, in_sizeof, CompositeContext, in_composite, EnumContext, in_enumeration, DeclaratorContext, init_context, member_context, parameter_context, AbstractContext, parameter_abstract, type_name_abstract}
use Rattle.c_grammar.specs.Machine.{State, at_file, at_items, at_statement, after_statement, at_labels, after_default, at_condition, at_do_condition, after_do, at_for, at_for_first, at_for_test, at_for_step, at_switch_body, at_jump, at_return, at_initializer, at_list_comma, after_list, at_specifiers, at_composite, at_enum, at_members, at_enumerator, after_enumerator, after_enumerator_comma, at_declarator, after_declarator, at_abstract, at_opened, after_abstract, at_length, at_parameters, at_expression, after_postfix, after_sizeof, at_open, at_sizeof, at_sizeof_open, at_arguments, at_access}
use Rattle.c_grammar.specs.Nesting.{qualifiers_nest, words_nest, tag_nest, trailing_nest, expression_nest, arguments_nest, type_name_nest, specifiers_nest, members_nest, declarators_nest, enumerator_nest, enumerators_nest, declarator_nest, inner_nest, length_nest, abstract_nest, direct_nest, parameters_nest, earlier_nest, parameter_nest, initializer_nest, init_declarator_nest, init_declarators_nest, declaration_nest, optional_nest, for_first_nest, label_nest, labels_nest, statement_nest, items_nest, groups_nest, file_nest}
use Rattle.c_grammar.proofs.Endings.{may_define, may_head}
use Rattle.c_grammar.proofs.Nests.{statement_depth, items_depth, groups_depth, label_depth, declaration_depth, initializer_depth, chain_in, abstract_in, name_in, expression_depth, array_depth, function_depth, specifiers_depth, type_name_depth, composite_depth, enum_depth, declarator_depth, abstract_depth, statement_nests, items_nests, groups_nests, label_nests, declaration_nests, initializer_nests, statement_hole_nests, frame_nest, chain_nest, abstract_chain_nest, head_nest, expression_nests, hole_nests, array_nests, function_nests, specifiers_nests, type_name_nests, composite_nests, enum_nests, declarator_nests, abstract_nests, at_declarator_nests, after_name_nests, after_declarator_nests, at_abstract_nests, state_nest}

module _ (R : ℕ → ℕ → Type 0) (same : (n : ℕ) → R n n) (up : (m n : ℕ) → R m n → R (suc m) (suc n)) where
  -- a relation of two lists, as far as the first goes
  abbrev pub Each : List ℕ → List ℕ → Type 0
  Each [] ys = Unit {0}
  Each (x ∷ xs) [] = ⊥
  Each (x ∷ xs) (y ∷ ys) = R x y × Each xs ys

  pub each_refl : (xs : List ℕ) → Each xs xs
  each_refl [] = tt
  each_refl (x ∷ xs) = (same x, each_refl xs)

  pub each_cond : (b : Bool) (x x' y y' : List ℕ) → Each x x' → Each y y' → Each (cond b x y) (cond b x' y')
  each_cond true x x' y y' h k = h
  each_cond false x x' y y' h k = k

  pub qualifiers_each : (x0 : Qualifiers) (n n' : ℕ) (r r' : List ℕ) → R n n' → Each r r' → Each (qualifiers_nest x0 n r) (qualifiers_nest x0 n' r')
  qualifiers_each no_qualifiers n n' r r' hn hr = hr
  qualifiers_each (qualified qs p q) n n' r r' hn hr = qualifiers_each qs n n' (n ∷ r) (n' ∷ r') hn ((hn, hr))

  pub words_each : (x0 : TypeWords) (n n' : ℕ) (r r' : List ℕ) → R n n' → Each r r' → Each (words_nest x0 n r) (words_nest x0 n' r')
  words_each (first_word p w) n n' r r' hn hr = (hn, hr)
  words_each (next_word ws p w) n n' r r' hn hr = words_each ws n n' (n ∷ r) (n' ∷ r') hn ((hn, hr))

  pub tag_each : (x0 : Tag) (n n' : ℕ) (r r' : List ℕ) → R n n' → Each r r' → Each (tag_nest x0 n r) (tag_nest x0 n' r')
  tag_each no_tag n n' r r' hn hr = hr
  tag_each (tag p x) n n' r r' hn hr = (hn, hr)

  pub trailing_each : (x0 : Trailing) (n n' : ℕ) (r r' : List ℕ) → R n n' → Each r r' → Each (trailing_nest x0 n r) (trailing_nest x0 n' r')
  trailing_each no_comma n n' r r' hn hr = hr
  trailing_each (comma p) n n' r r' hn hr = (hn, hr)

  mutual
    pub expression_each : (x0 : Expression) (n n' : ℕ) (r r' : List ℕ) → R n n' → Each r r' → Each (expression_nest x0 n r) (expression_nest x0 n' r')
    expression_each (identifier p x) n n' r r' hn hr = (hn, hr)
    expression_each (constant p c) n n' r r' hn hr = (hn, hr)
    expression_each (parenthesized p e q) n n' r r' hn hr = ((up n n' hn), expression_each e (suc n) (suc n') (suc n ∷ r) (suc n' ∷ r') (up n n' hn) (((up n n' hn), hr)))
    expression_each (index e p i q) n n' r r' hn hr = expression_each e (suc n) (suc n') (suc n ∷ expression_nest i (suc n) (suc n ∷ r)) (suc n' ∷ expression_nest i (suc n') (suc n' ∷ r')) (up n n' hn) (((up n n' hn), expression_each i (suc n) (suc n') (suc n ∷ r) (suc n' ∷ r') (up n n' hn) (((up n n' hn), hr))))
    expression_each (call_without f p q) n n' r r' hn hr = expression_each f (suc n) (suc n') (suc n ∷ suc n ∷ r) (suc n' ∷ suc n' ∷ r') (up n n' hn) (((up n n' hn), ((up n n' hn), hr)))
    expression_each (call f p xs e q) n n' r r' hn hr = expression_each f (suc n) (suc n') (suc n ∷ arguments_nest xs (suc n) (expression_nest e (suc n) (suc n ∷ r))) (suc n' ∷ arguments_nest xs (suc n') (expression_nest e (suc n') (suc n' ∷ r'))) (up n n' hn) (((up n n' hn), arguments_each xs (suc n) (suc n') (expression_nest e (suc n) (suc n ∷ r)) (expression_nest e (suc n') (suc n' ∷ r')) (up n n' hn) (expression_each e (suc n) (suc n') (suc n ∷ r) (suc n' ∷ r') (up n n' hn) (((up n n' hn), hr)))))
    expression_each (member e p o q x) n n' r r' hn hr = expression_each e (suc n) (suc n') (suc n ∷ suc n ∷ r) (suc n' ∷ suc n' ∷ r') (up n n' hn) (((up n n' hn), ((up n n' hn), hr)))
    expression_each (step_after e p o) n n' r r' hn hr = expression_each e (suc n) (suc n') (suc n ∷ r) (suc n' ∷ r') (up n n' hn) (((up n n' hn), hr))
    expression_each (step_before p o e) n n' r r' hn hr = ((up n n' hn), expression_each e (suc n) (suc n') r r' (up n n' hn) (hr))
    expression_each (unary p o e) n n' r r' hn hr = ((up n n' hn), expression_each e (suc n) (suc n') r r' (up n n' hn) (hr))
    expression_each (sizeof_expression p e) n n' r r' hn hr = ((up n n' hn), expression_each e (suc n) (suc n') r r' (up n n' hn) (hr))
    expression_each (sizeof_type p q t l) n n' r r' hn hr = ((up n n' hn), ((up n n' hn), type_name_each t (suc n) (suc n') (suc n ∷ r) (suc n' ∷ r') (up n n' hn) (((up n n' hn), hr))))
    expression_each (cast p t q e) n n' r r' hn hr = ((up n n' hn), type_name_each t (suc n) (suc n') (suc n ∷ expression_nest e (suc n) r) (suc n' ∷ expression_nest e (suc n') r') (up n n' hn) (((up n n' hn), expression_each e (suc n) (suc n') r r' (up n n' hn) (hr))))
    expression_each (binary a p o b) n n' r r' hn hr = expression_each a (suc n) (suc n') (suc n ∷ expression_nest b (suc n) r) (suc n' ∷ expression_nest b (suc n') r') (up n n' hn) (((up n n' hn), expression_each b (suc n) (suc n') r r' (up n n' hn) (hr)))
    expression_each (conditional c p a q b) n n' r r' hn hr = expression_each c (suc n) (suc n') (suc n ∷ expression_nest a (suc n) (suc n ∷ expression_nest b (suc n) r)) (suc n' ∷ expression_nest a (suc n') (suc n' ∷ expression_nest b (suc n') r')) (up n n' hn) (((up n n' hn), expression_each a (suc n) (suc n') (suc n ∷ expression_nest b (suc n) r) (suc n' ∷ expression_nest b (suc n') r') (up n n' hn) (((up n n' hn), expression_each b (suc n) (suc n') r r' (up n n' hn) (hr)))))
    expression_each (assignment a p o b) n n' r r' hn hr = expression_each a (suc n) (suc n') (suc n ∷ expression_nest b (suc n) r) (suc n' ∷ expression_nest b (suc n') r') (up n n' hn) (((up n n' hn), expression_each b (suc n) (suc n') r r' (up n n' hn) (hr)))

    pub arguments_each : (x0 : Arguments) (n n' : ℕ) (r r' : List ℕ) → R n n' → Each r r' → Each (arguments_nest x0 n r) (arguments_nest x0 n' r')
    arguments_each no_arguments n n' r r' hn hr = hr
    arguments_each (argument xs e p) n n' r r' hn hr = arguments_each xs n n' (expression_nest e n (n ∷ r)) (expression_nest e n' (n' ∷ r')) hn (expression_each e n n' (n ∷ r) (n' ∷ r') hn ((hn, hr)))

    pub type_name_each : (x0 : TypeName) (n n' : ℕ) (r r' : List ℕ) → R n n' → Each r r' → Each (type_name_nest x0 n r) (type_name_nest x0 n' r')
    type_name_each (type_name s a) n n' r r' hn hr = specifiers_each s n n' (abstract_nest a n r) (abstract_nest a n' r') hn (abstract_each a n n' r r' hn (hr))

    pub specifiers_each : (x0 : Specifiers) (n n' : ℕ) (r r' : List ℕ) → R n n' → Each r r' → Each (specifiers_nest x0 n r) (specifiers_nest x0 n' r')
    specifiers_each no_specifiers n n' r r' hn hr = hr
    specifiers_each (storage_class s p w) n n' r r' hn hr = specifiers_each s n n' (n ∷ r) (n' ∷ r') hn ((hn, hr))
    specifiers_each (qualifier s p q) n n' r r' hn hr = specifiers_each s n n' (n ∷ r) (n' ∷ r') hn ((hn, hr))
    specifiers_each (inlined s p) n n' r r' hn hr = specifiers_each s n n' (n ∷ r) (n' ∷ r') hn ((hn, hr))
    specifiers_each (type_words s ws) n n' r r' hn hr = specifiers_each s n n' (words_nest ws n r) (words_nest ws n' r') hn (words_each ws n n' r r' hn (hr))
    specifiers_each (typedef_name s p x) n n' r r' hn hr = specifiers_each s n n' (n ∷ r) (n' ∷ r') hn ((hn, hr))
    specifiers_each (composite_reference s p w q x) n n' r r' hn hr = specifiers_each s n n' (n ∷ n ∷ r) (n' ∷ n' ∷ r') hn ((hn, (hn, hr)))
    specifiers_each (composite s p w t q ms l) n n' r r' hn hr = specifiers_each s n n' (n ∷ tag_nest t n (suc n ∷ members_nest ms (suc n) (suc n ∷ r))) (n' ∷ tag_nest t n' (suc n' ∷ members_nest ms (suc n') (suc n' ∷ r'))) hn ((hn, tag_each t n n' (suc n ∷ members_nest ms (suc n) (suc n ∷ r)) (suc n' ∷ members_nest ms (suc n') (suc n' ∷ r')) hn (((up n n' hn), members_each ms (suc n) (suc n') (suc n ∷ r) (suc n' ∷ r') (up n n' hn) (((up n n' hn), hr))))))
    specifiers_each (enum_reference s p q x) n n' r r' hn hr = specifiers_each s n n' (n ∷ n ∷ r) (n' ∷ n' ∷ r') hn ((hn, (hn, hr)))
    specifiers_each (enumeration s p t q es e c l) n n' r r' hn hr = specifiers_each s n n' (n ∷ tag_nest t n (n ∷ enumerators_nest es n (enumerator_nest e n (trailing_nest c n (n ∷ r))))) (n' ∷ tag_nest t n' (n' ∷ enumerators_nest es n' (enumerator_nest e n' (trailing_nest c n' (n' ∷ r'))))) hn ((hn, tag_each t n n' (n ∷ enumerators_nest es n (enumerator_nest e n (trailing_nest c n (n ∷ r)))) (n' ∷ enumerators_nest es n' (enumerator_nest e n' (trailing_nest c n' (n' ∷ r')))) hn ((hn, enumerators_each es n n' (enumerator_nest e n (trailing_nest c n (n ∷ r))) (enumerator_nest e n' (trailing_nest c n' (n' ∷ r'))) hn (enumerator_each e n n' (trailing_nest c n (n ∷ r)) (trailing_nest c n' (n' ∷ r')) hn (trailing_each c n n' (n ∷ r) (n' ∷ r') hn ((hn, hr))))))))

    pub members_each : (x0 : Members) (n n' : ℕ) (r r' : List ℕ) → R n n' → Each r r' → Each (members_nest x0 n r) (members_nest x0 n' r')
    members_each no_members n n' r r' hn hr = hr
    members_each (members ms s ds d p) n n' r r' hn hr = members_each ms n n' (specifiers_nest s n (declarators_nest ds n (declarator_nest d n (n ∷ r)))) (specifiers_nest s n' (declarators_nest ds n' (declarator_nest d n' (n' ∷ r')))) hn (specifiers_each s n n' (declarators_nest ds n (declarator_nest d n (n ∷ r))) (declarators_nest ds n' (declarator_nest d n' (n' ∷ r'))) hn (declarators_each ds n n' (declarator_nest d n (n ∷ r)) (declarator_nest d n' (n' ∷ r')) hn (declarator_each d n n' (n ∷ r) (n' ∷ r') hn ((hn, hr)))))

    pub declarators_each : (x0 : Declarators) (n n' : ℕ) (r r' : List ℕ) → R n n' → Each r r' → Each (declarators_nest x0 n r) (declarators_nest x0 n' r')
    declarators_each no_declarators n n' r r' hn hr = hr
    declarators_each (declarators ds d p) n n' r r' hn hr = declarators_each ds n n' (declarator_nest d n (n ∷ r)) (declarator_nest d n' (n' ∷ r')) hn (declarator_each d n n' (n ∷ r) (n' ∷ r') hn ((hn, hr)))

    pub enumerator_each : (x0 : Enumerator) (n n' : ℕ) (r r' : List ℕ) → R n n' → Each r r' → Each (enumerator_nest x0 n r) (enumerator_nest x0 n' r')
    enumerator_each (enumerator p x) n n' r r' hn hr = (hn, hr)
    enumerator_each (enumerator_value p x q e) n n' r r' hn hr = (hn, (hn, expression_each e n n' r r' hn (hr)))

    pub enumerators_each : (x0 : Enumerators) (n n' : ℕ) (r r' : List ℕ) → R n n' → Each r r' → Each (enumerators_nest x0 n r) (enumerators_nest x0 n' r')
    enumerators_each no_enumerators n n' r r' hn hr = hr
    enumerators_each (enumerators es e p) n n' r r' hn hr = enumerators_each es n n' (enumerator_nest e n (n ∷ r)) (enumerator_nest e n' (n' ∷ r')) hn (enumerator_each e n n' (n ∷ r) (n' ∷ r') hn ((hn, hr)))

    pub declarator_each : (x0 : Declarator) (n n' : ℕ) (r r' : List ℕ) → R n n' → Each r r' → Each (declarator_nest x0 n r) (declarator_nest x0 n' r')
    declarator_each (declared_name p x) n n' r r' hn hr = (hn, hr)
    declarator_each (pointer p qs d) n n' r r' hn hr = ((up n n' hn), qualifiers_each qs (suc n) (suc n') (inner_nest d (suc n) r) (inner_nest d (suc n') r') (up n n' hn) (inner_each d (suc n) (suc n') r r' (up n n' hn) (hr)))
    declarator_each (parenthesized_declarator p d q) n n' r r' hn hr = ((up n n' hn), declarator_each d (suc n) (suc n') (suc n ∷ r) (suc n' ∷ r') (up n n' hn) (((up n n' hn), hr)))
    declarator_each (array d p l q) n n' r r' hn hr = inner_each d (suc n) (suc n') (suc n ∷ length_nest l (suc n) (suc n ∷ r)) (suc n' ∷ length_nest l (suc n') (suc n' ∷ r')) (up n n' hn) (((up n n' hn), length_each l (suc n) (suc n') (suc n ∷ r) (suc n' ∷ r') (up n n' hn) (((up n n' hn), hr))))
    declarator_each (function d p ps q) n n' r r' hn hr = inner_each d (suc n) (suc n') (suc n ∷ parameters_nest ps (suc n) (suc n ∷ r)) (suc n' ∷ parameters_nest ps (suc n') (suc n' ∷ r')) (up n n' hn) (((up n n' hn), parameters_each ps (suc n) (suc n') (suc n ∷ r) (suc n' ∷ r') (up n n' hn) (((up n n' hn), hr))))

    pub inner_each : (x0 : Declarator) (n n' : ℕ) (r r' : List ℕ) → R n n' → Each r r' → Each (inner_nest x0 n r) (inner_nest x0 n' r')
    inner_each (declared_name p x) n n' r r' hn hr = (hn, hr)
    inner_each (pointer p qs d) n n' r r' hn hr = (hn, qualifiers_each qs n n' (inner_nest d n r) (inner_nest d n' r') hn (inner_each d n n' r r' hn (hr)))
    inner_each (parenthesized_declarator p d q) n n' r r' hn hr = (hn, declarator_each d n n' (n ∷ r) (n' ∷ r') hn ((hn, hr)))
    inner_each (array d p l q) n n' r r' hn hr = inner_each d n n' (n ∷ length_nest l n (n ∷ r)) (n' ∷ length_nest l n' (n' ∷ r')) hn ((hn, length_each l n n' (n ∷ r) (n' ∷ r') hn ((hn, hr))))
    inner_each (function d p ps q) n n' r r' hn hr = inner_each d n n' (n ∷ parameters_nest ps n (n ∷ r)) (n' ∷ parameters_nest ps n' (n' ∷ r')) hn ((hn, parameters_each ps n n' (n ∷ r) (n' ∷ r') hn ((hn, hr))))

    pub length_each : (x0 : Length) (n n' : ℕ) (r r' : List ℕ) → R n n' → Each r r' → Each (length_nest x0 n r) (length_nest x0 n' r')
    length_each no_length n n' r r' hn hr = hr
    length_each (length_of e) n n' r r' hn hr = expression_each e n n' r r' hn (hr)

    pub abstract_each : (x0 : AbstractDeclarator) (n n' : ℕ) (r r' : List ℕ) → R n n' → Each r r' → Each (abstract_nest x0 n r) (abstract_nest x0 n' r')
    abstract_each no_declarator n n' r r' hn hr = hr
    abstract_each (abstract_pointer p qs a) n n' r r' hn hr = ((up n n' hn), qualifiers_each qs (suc n) (suc n') (abstract_nest a (suc n) r) (abstract_nest a (suc n') r') (up n n' hn) (abstract_each a (suc n) (suc n') r r' (up n n' hn) (hr)))
    abstract_each (parenthesized_abstract p a q) n n' r r' hn hr = ((up n n' hn), abstract_each a (suc n) (suc n') (suc n ∷ r) (suc n' ∷ r') (up n n' hn) (((up n n' hn), hr)))
    abstract_each (abstract_array a p l q) n n' r r' hn hr = direct_each a (suc n) (suc n') (suc n ∷ length_nest l (suc n) (suc n ∷ r)) (suc n' ∷ length_nest l (suc n') (suc n' ∷ r')) (up n n' hn) (((up n n' hn), length_each l (suc n) (suc n') (suc n ∷ r) (suc n' ∷ r') (up n n' hn) (((up n n' hn), hr))))
    abstract_each (abstract_function a p ps q) n n' r r' hn hr = direct_each a (suc n) (suc n') (suc n ∷ parameters_nest ps (suc n) (suc n ∷ r)) (suc n' ∷ parameters_nest ps (suc n') (suc n' ∷ r')) (up n n' hn) (((up n n' hn), parameters_each ps (suc n) (suc n') (suc n ∷ r) (suc n' ∷ r') (up n n' hn) (((up n n' hn), hr))))

    pub direct_each : (x0 : AbstractDeclarator) (n n' : ℕ) (r r' : List ℕ) → R n n' → Each r r' → Each (direct_nest x0 n r) (direct_nest x0 n' r')
    direct_each no_declarator n n' r r' hn hr = hr
    direct_each (abstract_pointer p qs a) n n' r r' hn hr = (hn, qualifiers_each qs n n' (abstract_nest a n r) (abstract_nest a n' r') hn (abstract_each a n n' r r' hn (hr)))
    direct_each (parenthesized_abstract p a q) n n' r r' hn hr = (hn, abstract_each a n n' (n ∷ r) (n' ∷ r') hn ((hn, hr)))
    direct_each (abstract_array a p l q) n n' r r' hn hr = direct_each a n n' (n ∷ length_nest l n (n ∷ r)) (n' ∷ length_nest l n' (n' ∷ r')) hn ((hn, length_each l n n' (n ∷ r) (n' ∷ r') hn ((hn, hr))))
    direct_each (abstract_function a p ps q) n n' r r' hn hr = direct_each a n n' (n ∷ parameters_nest ps n (n ∷ r)) (n' ∷ parameters_nest ps n' (n' ∷ r')) hn ((hn, parameters_each ps n n' (n ∷ r) (n' ∷ r') hn ((hn, hr))))

    pub parameters_each : (x0 : Parameters) (n n' : ℕ) (r r' : List ℕ) → R n n' → Each r r' → Each (parameters_nest x0 n r) (parameters_nest x0 n' r')
    parameters_each no_parameters n n' r r' hn hr = hr
    parameters_each (void_parameter p) n n' r r' hn hr = (hn, hr)
    parameters_each (parameters ps x) n n' r r' hn hr = earlier_each ps n n' (parameter_nest x n r) (parameter_nest x n' r') hn (parameter_each x n n' r r' hn (hr))

    pub earlier_each : (x0 : EarlierParameters) (n n' : ℕ) (r r' : List ℕ) → R n n' → Each r r' → Each (earlier_nest x0 n r) (earlier_nest x0 n' r')
    earlier_each no_earlier n n' r r' hn hr = hr
    earlier_each (earlier ps x p) n n' r r' hn hr = earlier_each ps n n' (parameter_nest x n (n ∷ r)) (parameter_nest x n' (n' ∷ r')) hn (parameter_each x n n' (n ∷ r) (n' ∷ r') hn ((hn, hr)))

    pub parameter_each : (x0 : Parameter) (n n' : ℕ) (r r' : List ℕ) → R n n' → Each r r' → Each (parameter_nest x0 n r) (parameter_nest x0 n' r')
    parameter_each (named_parameter s d) n n' r r' hn hr = specifiers_each s n n' (declarator_nest d n r) (declarator_nest d n' r') hn (declarator_each d n n' r r' hn (hr))
    parameter_each (unnamed_parameter s a) n n' r r' hn hr = specifiers_each s n n' (abstract_nest a n r) (abstract_nest a n' r') hn (abstract_each a n n' r r' hn (hr))

  pub initializer_each : (x0 : Initializer) (n n' : ℕ) (r r' : List ℕ) → R n n' → Each r r' → Each (initializer_nest x0 n r) (initializer_nest x0 n' r')
  initializer_each no_initializer n n' r r' hn hr = hr
  initializer_each (initializer p e) n n' r r' hn hr = (hn, expression_each e n n' r r' hn (hr))
  initializer_each (initializer_list p q xs e c l) n n' r r' hn hr = (hn, ((up n n' hn), arguments_each xs (suc n) (suc n') (expression_nest e (suc n) (trailing_nest c (suc n) (suc n ∷ r))) (expression_nest e (suc n') (trailing_nest c (suc n') (suc n' ∷ r'))) (up n n' hn) (expression_each e (suc n) (suc n') (trailing_nest c (suc n) (suc n ∷ r)) (trailing_nest c (suc n') (suc n' ∷ r')) (up n n' hn) (trailing_each c (suc n) (suc n') (suc n ∷ r) (suc n' ∷ r') (up n n' hn) (((up n n' hn), hr))))))

  pub init_declarator_each : (x0 : InitDeclarator) (n n' : ℕ) (r r' : List ℕ) → R n n' → Each r r' → Each (init_declarator_nest x0 n r) (init_declarator_nest x0 n' r')
  init_declarator_each (init_declarator d i) n n' r r' hn hr = declarator_each d n n' (initializer_nest i n r) (initializer_nest i n' r') hn (initializer_each i n n' r r' hn (hr))

  pub init_declarators_each : (x0 : InitDeclarators) (n n' : ℕ) (r r' : List ℕ) → R n n' → Each r r' → Each (init_declarators_nest x0 n r) (init_declarators_nest x0 n' r')
  init_declarators_each no_init_declarators n n' r r' hn hr = hr
  init_declarators_each (init_declarators ds d p) n n' r r' hn hr = init_declarators_each ds n n' (init_declarator_nest d n (n ∷ r)) (init_declarator_nest d n' (n' ∷ r')) hn (init_declarator_each d n n' (n ∷ r) (n' ∷ r') hn ((hn, hr)))

  pub declaration_each : (x0 : Declaration) (n n' : ℕ) (r r' : List ℕ) → R n n' → Each r r' → Each (declaration_nest x0 n r) (declaration_nest x0 n' r')
  declaration_each (specifiers_alone s p) n n' r r' hn hr = specifiers_each s n n' (n ∷ r) (n' ∷ r') hn ((hn, hr))
  declaration_each (declaration s ds d p) n n' r r' hn hr = specifiers_each s n n' (init_declarators_nest ds n (init_declarator_nest d n (n ∷ r))) (init_declarators_nest ds n' (init_declarator_nest d n' (n' ∷ r'))) hn (init_declarators_each ds n n' (init_declarator_nest d n (n ∷ r)) (init_declarator_nest d n' (n' ∷ r')) hn (init_declarator_each d n n' (n ∷ r) (n' ∷ r') hn ((hn, hr))))

  pub optional_each : (x0 : Option Expression) (n n' : ℕ) (r r' : List ℕ) → R n n' → Each r r' → Each (optional_nest x0 n r) (optional_nest x0 n' r')
  optional_each None n n' r r' hn hr = hr
  optional_each (Some e) n n' r r' hn hr = expression_each e n n' r r' hn (hr)

  pub for_first_each : (x0 : ForFirst) (n n' : ℕ) (r r' : List ℕ) → R n n' → Each r r' → Each (for_first_nest x0 n r) (for_first_nest x0 n' r')
  for_first_each (for_nothing p) n n' r r' hn hr = (hn, hr)
  for_first_each (for_expression e p) n n' r r' hn hr = expression_each e n n' (n ∷ r) (n' ∷ r') hn ((hn, hr))
  for_first_each (for_declaration d) n n' r r' hn hr = declaration_each d n n' r r' hn (hr)

  pub label_each : (x0 : Label) (n n' : ℕ) (r r' : List ℕ) → R n n' → Each r r' → Each (label_nest x0 n r) (label_nest x0 n' r')
  label_each (case_label p e q) n n' r r' hn hr = (hn, expression_each e n n' (n ∷ r) (n' ∷ r') hn ((hn, hr)))
  label_each (default_label p q) n n' r r' hn hr = (hn, (hn, hr))

  pub labels_each : (x0 : Labels) (n n' : ℕ) (r r' : List ℕ) → R n n' → Each r r' → Each (labels_nest x0 n r) (labels_nest x0 n' r')
  labels_each (first_label l) n n' r r' hn hr = label_each l n n' r r' hn (hr)
  labels_each (next_label ls l) n n' r r' hn hr = labels_each ls n n' (label_nest l n r) (label_nest l n' r') hn (label_each l n n' r r' hn (hr))

  mutual
    pub statement_each : (x0 : Statement) (n n' : ℕ) (r r' : List ℕ) → R n n' → Each r r' → Each (statement_nest x0 n r) (statement_nest x0 n' r')
    statement_each (block p is q) n n' r r' hn hr = ((up n n' hn), items_each is (suc n) (suc n') (suc n ∷ r) (suc n' ∷ r') (up n n' hn) (((up n n' hn), hr)))
    statement_each (empty_statement p) n n' r r' hn hr = ((up n n' hn), hr)
    statement_each (expression_statement e p) n n' r r' hn hr = expression_each e (suc n) (suc n') (suc n ∷ r) (suc n' ∷ r') (up n n' hn) (((up n n' hn), hr))
    statement_each (if_statement p q e l s) n n' r r' hn hr = ((up n n' hn), ((up n n' hn), expression_each e (suc n) (suc n') (suc n ∷ statement_nest s (suc n) r) (suc n' ∷ statement_nest s (suc n') r') (up n n' hn) (((up n n' hn), statement_each s (suc n) (suc n') r r' (up n n' hn) (hr)))))
    statement_each (if_else p q e l a m b) n n' r r' hn hr = ((up n n' hn), ((up n n' hn), expression_each e (suc n) (suc n') (suc n ∷ statement_nest a (suc n) (suc n ∷ statement_nest b (suc n) r)) (suc n' ∷ statement_nest a (suc n') (suc n' ∷ statement_nest b (suc n') r')) (up n n' hn) (((up n n' hn), statement_each a (suc n) (suc n') (suc n ∷ statement_nest b (suc n) r) (suc n' ∷ statement_nest b (suc n') r') (up n n' hn) (((up n n' hn), statement_each b (suc n) (suc n') r r' (up n n' hn) (hr)))))))
    statement_each (while_statement p q e l s) n n' r r' hn hr = ((up n n' hn), ((up n n' hn), expression_each e (suc n) (suc n') (suc n ∷ statement_nest s (suc n) r) (suc n' ∷ statement_nest s (suc n') r') (up n n' hn) (((up n n' hn), statement_each s (suc n) (suc n') r r' (up n n' hn) (hr)))))
    statement_each (do_statement p s w q e l m) n n' r r' hn hr = ((up n n' hn), statement_each s (suc n) (suc n') (suc n ∷ suc n ∷ expression_nest e (suc n) (suc n ∷ suc n ∷ r)) (suc n' ∷ suc n' ∷ expression_nest e (suc n') (suc n' ∷ suc n' ∷ r')) (up n n' hn) (((up n n' hn), ((up n n' hn), expression_each e (suc n) (suc n') (suc n ∷ suc n ∷ r) (suc n' ∷ suc n' ∷ r') (up n n' hn) (((up n n' hn), ((up n n' hn), hr)))))))
    statement_each (for_statement p q f c m u l s) n n' r r' hn hr = ((up n n' hn), ((up n n' hn), for_first_each f (suc n) (suc n') (optional_nest c (suc n) (suc n ∷ optional_nest u (suc n) (suc n ∷ statement_nest s (suc n) r))) (optional_nest c (suc n') (suc n' ∷ optional_nest u (suc n') (suc n' ∷ statement_nest s (suc n') r'))) (up n n' hn) (optional_each c (suc n) (suc n') (suc n ∷ optional_nest u (suc n) (suc n ∷ statement_nest s (suc n) r)) (suc n' ∷ optional_nest u (suc n') (suc n' ∷ statement_nest s (suc n') r')) (up n n' hn) (((up n n' hn), optional_each u (suc n) (suc n') (suc n ∷ statement_nest s (suc n) r) (suc n' ∷ statement_nest s (suc n') r') (up n n' hn) (((up n n' hn), statement_each s (suc n) (suc n') r r' (up n n' hn) (hr))))))))
    statement_each (switch_statement p q e l m gs k) n n' r r' hn hr = ((up n n' hn), ((up n n' hn), expression_each e (suc n) (suc n') (suc n ∷ suc n ∷ groups_nest gs (suc n) (suc n ∷ r)) (suc n' ∷ suc n' ∷ groups_nest gs (suc n') (suc n' ∷ r')) (up n n' hn) (((up n n' hn), ((up n n' hn), groups_each gs (suc n) (suc n') (suc n ∷ r) (suc n' ∷ r') (up n n' hn) (((up n n' hn), hr)))))))
    statement_each (jump_statement p j q) n n' r r' hn hr = ((up n n' hn), ((up n n' hn), hr))
    statement_each (return_statement p e q) n n' r r' hn hr = ((up n n' hn), optional_each e (suc n) (suc n') (suc n ∷ r) (suc n' ∷ r') (up n n' hn) (((up n n' hn), hr)))

    pub items_each : (x0 : Items) (n n' : ℕ) (r r' : List ℕ) → R n n' → Each r r' → Each (items_nest x0 n r) (items_nest x0 n' r')
    items_each no_items n n' r r' hn hr = hr
    items_each (declaration_item is d) n n' r r' hn hr = items_each is n n' (declaration_nest d n r) (declaration_nest d n' r') hn (declaration_each d n n' r r' hn (hr))
    items_each (statement_item is s) n n' r r' hn hr = items_each is n n' (statement_nest s n r) (statement_nest s n' r') hn (statement_each s n n' r r' hn (hr))

    pub groups_each : (x0 : Groups) (n n' : ℕ) (r r' : List ℕ) → R n n' → Each r r' → Each (groups_nest x0 n r) (groups_nest x0 n' r')
    groups_each no_groups n n' r r' hn hr = hr
    groups_each (group gs ls is) n n' r r' hn hr = groups_each gs n n' (labels_nest ls n (items_nest is n r)) (labels_nest ls n' (items_nest is n' r')) hn (labels_each ls n n' (items_nest is n r) (items_nest is n' r') hn (items_each is n n' r r' hn (hr)))

  pub file_each : (x0 : File) (r r' : List ℕ) → Each r r' → Each (file_nest x0 r) (file_nest x0 r')
  file_each empty_file r r' hr = hr
  file_each (external_declaration f d) r r' hr = file_each f (declaration_nest d 0 r) (declaration_nest d 0 r') (declaration_each d 0 0 r r' (same 0) (hr))
  file_each (function_definition f s d p is q) r r' hr = file_each f (specifiers_nest s 0 (inner_nest d 0 (1 ∷ items_nest is 1 (1 ∷ r)))) (specifiers_nest s 0 (inner_nest d 0 (1 ∷ items_nest is 1 (1 ∷ r')))) (specifiers_each s 0 0 (inner_nest d 0 (1 ∷ items_nest is 1 (1 ∷ r))) (inner_nest d 0 (1 ∷ items_nest is 1 (1 ∷ r'))) (same 0) (inner_each d 0 0 (1 ∷ items_nest is 1 (1 ∷ r)) (1 ∷ items_nest is 1 (1 ∷ r')) (same 0) (((same 1), items_each is 1 1 (1 ∷ r) (1 ∷ r') (same 1) (((same 1), hr))))))

  mutual
    pub statement_eachs : (x0 : StatementContext) (r r' : List ℕ) → Each r r' → Each (statement_nests x0 r) (statement_nests x0 r')
    statement_eachs (then_of p q e l k) r r' hr = statement_eachs k (suc (statement_depth k) ∷ suc (statement_depth k) ∷ expression_nest e (suc (statement_depth k)) (suc (statement_depth k) ∷ r)) (suc (statement_depth k) ∷ suc (statement_depth k) ∷ expression_nest e (suc (statement_depth k)) (suc (statement_depth k) ∷ r')) (((same (suc (statement_depth k))), ((same (suc (statement_depth k))), expression_each e (suc (statement_depth k)) (suc (statement_depth k)) (suc (statement_depth k) ∷ r) (suc (statement_depth k) ∷ r') (same (suc (statement_depth k))) (((same (suc (statement_depth k))), hr)))))
    statement_eachs (else_of p q e l a m k) r r' hr = statement_eachs k (suc (statement_depth k) ∷ suc (statement_depth k) ∷ expression_nest e (suc (statement_depth k)) (suc (statement_depth k) ∷ statement_nest a (suc (statement_depth k)) (suc (statement_depth k) ∷ r))) (suc (statement_depth k) ∷ suc (statement_depth k) ∷ expression_nest e (suc (statement_depth k)) (suc (statement_depth k) ∷ statement_nest a (suc (statement_depth k)) (suc (statement_depth k) ∷ r'))) (((same (suc (statement_depth k))), ((same (suc (statement_depth k))), expression_each e (suc (statement_depth k)) (suc (statement_depth k)) (suc (statement_depth k) ∷ statement_nest a (suc (statement_depth k)) (suc (statement_depth k) ∷ r)) (suc (statement_depth k) ∷ statement_nest a (suc (statement_depth k)) (suc (statement_depth k) ∷ r')) (same (suc (statement_depth k))) (((same (suc (statement_depth k))), statement_each a (suc (statement_depth k)) (suc (statement_depth k)) (suc (statement_depth k) ∷ r) (suc (statement_depth k) ∷ r') (same (suc (statement_depth k))) (((same (suc (statement_depth k))), hr)))))))
    statement_eachs (while_body p q e l k) r r' hr = statement_eachs k (suc (statement_depth k) ∷ suc (statement_depth k) ∷ expression_nest e (suc (statement_depth k)) (suc (statement_depth k) ∷ r)) (suc (statement_depth k) ∷ suc (statement_depth k) ∷ expression_nest e (suc (statement_depth k)) (suc (statement_depth k) ∷ r')) (((same (suc (statement_depth k))), ((same (suc (statement_depth k))), expression_each e (suc (statement_depth k)) (suc (statement_depth k)) (suc (statement_depth k) ∷ r) (suc (statement_depth k) ∷ r') (same (suc (statement_depth k))) (((same (suc (statement_depth k))), hr)))))
    statement_eachs (do_body p k) r r' hr = statement_eachs k (suc (statement_depth k) ∷ r) (suc (statement_depth k) ∷ r') (((same (suc (statement_depth k))), hr))
    statement_eachs (for_body p q f c m u l k) r r' hr = statement_eachs k (suc (statement_depth k) ∷ suc (statement_depth k) ∷ for_first_nest f (suc (statement_depth k)) (optional_nest c (suc (statement_depth k)) (suc (statement_depth k) ∷ optional_nest u (suc (statement_depth k)) (suc (statement_depth k) ∷ r)))) (suc (statement_depth k) ∷ suc (statement_depth k) ∷ for_first_nest f (suc (statement_depth k)) (optional_nest c (suc (statement_depth k)) (suc (statement_depth k) ∷ optional_nest u (suc (statement_depth k)) (suc (statement_depth k) ∷ r')))) (((same (suc (statement_depth k))), ((same (suc (statement_depth k))), for_first_each f (suc (statement_depth k)) (suc (statement_depth k)) (optional_nest c (suc (statement_depth k)) (suc (statement_depth k) ∷ optional_nest u (suc (statement_depth k)) (suc (statement_depth k) ∷ r))) (optional_nest c (suc (statement_depth k)) (suc (statement_depth k) ∷ optional_nest u (suc (statement_depth k)) (suc (statement_depth k) ∷ r'))) (same (suc (statement_depth k))) (optional_each c (suc (statement_depth k)) (suc (statement_depth k)) (suc (statement_depth k) ∷ optional_nest u (suc (statement_depth k)) (suc (statement_depth k) ∷ r)) (suc (statement_depth k) ∷ optional_nest u (suc (statement_depth k)) (suc (statement_depth k) ∷ r')) (same (suc (statement_depth k))) (((same (suc (statement_depth k))), optional_each u (suc (statement_depth k)) (suc (statement_depth k)) (suc (statement_depth k) ∷ r) (suc (statement_depth k) ∷ r') (same (suc (statement_depth k))) (((same (suc (statement_depth k))), hr))))))))
    statement_eachs (item_of is k) r r' hr = items_eachs k (items_nest is (items_depth k) r) (items_nest is (items_depth k) r') (items_each is (items_depth k) (items_depth k) r r' (same (items_depth k)) (hr))

    pub items_eachs : (x0 : ItemsContext) (r r' : List ℕ) → Each r r' → Each (items_nests x0 r) (items_nests x0 r')
    items_eachs (block_of p k) r r' hr = statement_eachs k (suc (statement_depth k) ∷ r) (suc (statement_depth k) ∷ r') (((same (suc (statement_depth k))), hr))
    items_eachs (function_body f s d p) r r' hr = file_each f (specifiers_nest s 0 (inner_nest d 0 (1 ∷ r))) (specifiers_nest s 0 (inner_nest d 0 (1 ∷ r'))) (specifiers_each s 0 0 (inner_nest d 0 (1 ∷ r)) (inner_nest d 0 (1 ∷ r')) (same 0) (inner_each d 0 0 (1 ∷ r) (1 ∷ r') (same 0) (((same 1), hr))))
    items_eachs (group_of gs ls k) r r' hr = groups_eachs k (groups_nest gs (groups_depth k) (labels_nest ls (groups_depth k) r)) (groups_nest gs (groups_depth k) (labels_nest ls (groups_depth k) r')) (groups_each gs (groups_depth k) (groups_depth k) (labels_nest ls (groups_depth k) r) (labels_nest ls (groups_depth k) r') (same (groups_depth k)) (labels_each ls (groups_depth k) (groups_depth k) r r' (same (groups_depth k)) (hr)))

    pub groups_eachs : (x0 : GroupsContext) (r r' : List ℕ) → Each r r' → Each (groups_nests x0 r) (groups_nests x0 r')
    groups_eachs (switch_of p q e l m k) r r' hr = statement_eachs k (suc (statement_depth k) ∷ suc (statement_depth k) ∷ expression_nest e (suc (statement_depth k)) (suc (statement_depth k) ∷ suc (statement_depth k) ∷ r)) (suc (statement_depth k) ∷ suc (statement_depth k) ∷ expression_nest e (suc (statement_depth k)) (suc (statement_depth k) ∷ suc (statement_depth k) ∷ r')) (((same (suc (statement_depth k))), ((same (suc (statement_depth k))), expression_each e (suc (statement_depth k)) (suc (statement_depth k)) (suc (statement_depth k) ∷ suc (statement_depth k) ∷ r) (suc (statement_depth k) ∷ suc (statement_depth k) ∷ r') (same (suc (statement_depth k))) (((same (suc (statement_depth k))), ((same (suc (statement_depth k))), hr))))))

  pub label_eachs : (x0 : LabelContext) (r r' : List ℕ) → Each r r' → Each (label_nests x0 r) (label_nests x0 r')
  label_eachs (new_group gs k) r r' hr = groups_eachs k (groups_nest gs (groups_depth k) r) (groups_nest gs (groups_depth k) r') (groups_each gs (groups_depth k) (groups_depth k) r r' (same (groups_depth k)) (hr))
  label_eachs (another_label gs ls k) r r' hr = groups_eachs k (groups_nest gs (groups_depth k) (labels_nest ls (groups_depth k) r)) (groups_nest gs (groups_depth k) (labels_nest ls (groups_depth k) r')) (groups_each gs (groups_depth k) (groups_depth k) (labels_nest ls (groups_depth k) r) (labels_nest ls (groups_depth k) r') (same (groups_depth k)) (labels_each ls (groups_depth k) (groups_depth k) r r' (same (groups_depth k)) (hr)))

  pub declaration_eachs : (x0 : DeclarationContext) (r r' : List ℕ) → Each r r' → Each (declaration_nests x0 r) (declaration_nests x0 r')
  declaration_eachs (in_file f) r r' hr = file_each f r r' (hr)
  declaration_eachs (in_items is k) r r' hr = items_eachs k (items_nest is (items_depth k) r) (items_nest is (items_depth k) r') (items_each is (items_depth k) (items_depth k) r r' (same (items_depth k)) (hr))
  declaration_eachs (in_for_head p q k) r r' hr = statement_eachs k (suc (statement_depth k) ∷ suc (statement_depth k) ∷ r) (suc (statement_depth k) ∷ suc (statement_depth k) ∷ r') (((same (suc (statement_depth k))), ((same (suc (statement_depth k))), hr)))

  pub initializer_eachs : (x0 : InitializerContext) (r r' : List ℕ) → Each r r' → Each (initializer_nests x0 r) (initializer_nests x0 r')
  initializer_eachs (initializer_of s ds d p k) r r' hr = declaration_eachs k (specifiers_nest s (declaration_depth k) (init_declarators_nest ds (declaration_depth k) (declarator_nest d (declaration_depth k) (declaration_depth k ∷ r)))) (specifiers_nest s (declaration_depth k) (init_declarators_nest ds (declaration_depth k) (declarator_nest d (declaration_depth k) (declaration_depth k ∷ r')))) (specifiers_each s (declaration_depth k) (declaration_depth k) (init_declarators_nest ds (declaration_depth k) (declarator_nest d (declaration_depth k) (declaration_depth k ∷ r))) (init_declarators_nest ds (declaration_depth k) (declarator_nest d (declaration_depth k) (declaration_depth k ∷ r'))) (same (declaration_depth k)) (init_declarators_each ds (declaration_depth k) (declaration_depth k) (declarator_nest d (declaration_depth k) (declaration_depth k ∷ r)) (declarator_nest d (declaration_depth k) (declaration_depth k ∷ r')) (same (declaration_depth k)) (declarator_each d (declaration_depth k) (declaration_depth k) (declaration_depth k ∷ r) (declaration_depth k ∷ r') (same (declaration_depth k)) (((same (declaration_depth k)), hr)))))

  pub statement_hole_eachs : (x0 : StatementHole) (r r' : List ℕ) → Each r r' → Each (statement_hole_nests x0 r) (statement_hole_nests x0 r')
  statement_hole_eachs (of_statement k) r r' hr = statement_eachs k r r' (hr)
  statement_hole_eachs (of_return p k) r r' hr = statement_eachs k (suc (statement_depth k) ∷ r) (suc (statement_depth k) ∷ r') (((same (suc (statement_depth k))), hr))
  statement_hole_eachs (of_if p q k) r r' hr = statement_eachs k (suc (statement_depth k) ∷ suc (statement_depth k) ∷ r) (suc (statement_depth k) ∷ suc (statement_depth k) ∷ r') (((same (suc (statement_depth k))), ((same (suc (statement_depth k))), hr)))
  statement_hole_eachs (of_while p q k) r r' hr = statement_eachs k (suc (statement_depth k) ∷ suc (statement_depth k) ∷ r) (suc (statement_depth k) ∷ suc (statement_depth k) ∷ r') (((same (suc (statement_depth k))), ((same (suc (statement_depth k))), hr)))
  statement_hole_eachs (of_do p s w q k) r r' hr = statement_eachs k (suc (statement_depth k) ∷ statement_nest s (suc (statement_depth k)) (suc (statement_depth k) ∷ suc (statement_depth k) ∷ r)) (suc (statement_depth k) ∷ statement_nest s (suc (statement_depth k)) (suc (statement_depth k) ∷ suc (statement_depth k) ∷ r')) (((same (suc (statement_depth k))), statement_each s (suc (statement_depth k)) (suc (statement_depth k)) (suc (statement_depth k) ∷ suc (statement_depth k) ∷ r) (suc (statement_depth k) ∷ suc (statement_depth k) ∷ r') (same (suc (statement_depth k))) (((same (suc (statement_depth k))), ((same (suc (statement_depth k))), hr)))))
  statement_hole_eachs (of_switch p q k) r r' hr = statement_eachs k (suc (statement_depth k) ∷ suc (statement_depth k) ∷ r) (suc (statement_depth k) ∷ suc (statement_depth k) ∷ r') (((same (suc (statement_depth k))), ((same (suc (statement_depth k))), hr)))
  statement_hole_eachs (of_for_first p q k) r r' hr = statement_eachs k (suc (statement_depth k) ∷ suc (statement_depth k) ∷ r) (suc (statement_depth k) ∷ suc (statement_depth k) ∷ r') (((same (suc (statement_depth k))), ((same (suc (statement_depth k))), hr)))
  statement_hole_eachs (of_for_test p q f k) r r' hr = statement_eachs k (suc (statement_depth k) ∷ suc (statement_depth k) ∷ for_first_nest f (suc (statement_depth k)) r) (suc (statement_depth k) ∷ suc (statement_depth k) ∷ for_first_nest f (suc (statement_depth k)) r') (((same (suc (statement_depth k))), ((same (suc (statement_depth k))), for_first_each f (suc (statement_depth k)) (suc (statement_depth k)) r r' (same (suc (statement_depth k))) (hr))))
  statement_hole_eachs (of_for_step p q f c m k) r r' hr = statement_eachs k (suc (statement_depth k) ∷ suc (statement_depth k) ∷ for_first_nest f (suc (statement_depth k)) (optional_nest c (suc (statement_depth k)) (suc (statement_depth k) ∷ r))) (suc (statement_depth k) ∷ suc (statement_depth k) ∷ for_first_nest f (suc (statement_depth k)) (optional_nest c (suc (statement_depth k)) (suc (statement_depth k) ∷ r'))) (((same (suc (statement_depth k))), ((same (suc (statement_depth k))), for_first_each f (suc (statement_depth k)) (suc (statement_depth k)) (optional_nest c (suc (statement_depth k)) (suc (statement_depth k) ∷ r)) (optional_nest c (suc (statement_depth k)) (suc (statement_depth k) ∷ r')) (same (suc (statement_depth k))) (optional_each c (suc (statement_depth k)) (suc (statement_depth k)) (suc (statement_depth k) ∷ r) (suc (statement_depth k) ∷ r') (same (suc (statement_depth k))) (((same (suc (statement_depth k))), hr))))))
  statement_hole_eachs (of_case k p) r r' hr = label_eachs k (label_depth k ∷ r) (label_depth k ∷ r') (((same (label_depth k)), hr))
  statement_hole_eachs (of_initializer k) r r' hr = initializer_eachs k r r' (hr)
  statement_hole_eachs (of_list k p xs) r r' hr = initializer_eachs k (suc (initializer_depth k) ∷ arguments_nest xs (suc (initializer_depth k)) r) (suc (initializer_depth k) ∷ arguments_nest xs (suc (initializer_depth k)) r') (((same (suc (initializer_depth k))), arguments_each xs (suc (initializer_depth k)) (suc (initializer_depth k)) r r' (same (suc (initializer_depth k))) (hr)))

  pub frame_each : (x0 : Frame) (n n' : ℕ) (r r' : List ℕ) → R n n' → Each r r' → Each (frame_nest x0 n r) (frame_nest x0 n' r')
  frame_each (step_frame p o) n n' r r' hn hr = (hn, hr)
  frame_each (unary_frame p o) n n' r r' hn hr = (hn, hr)
  frame_each (sizeof_frame p) n n' r r' hn hr = (hn, hr)
  frame_each (cast_frame p t q) n n' r r' hn hr = (hn, type_name_each t n n' (n ∷ r) (n' ∷ r') hn ((hn, hr)))
  frame_each (binary_frame a p o) n n' r r' hn hr = expression_each a n n' (n ∷ r) (n' ∷ r') hn ((hn, hr))
  frame_each (conditional_frame c p a q) n n' r r' hn hr = expression_each c n n' (n ∷ expression_nest a n (n ∷ r)) (n' ∷ expression_nest a n' (n' ∷ r')) hn ((hn, expression_each a n n' (n ∷ r) (n' ∷ r') hn ((hn, hr))))
  frame_each (assignment_frame a p o) n n' r r' hn hr = expression_each a n n' (n ∷ r) (n' ∷ r') hn ((hn, hr))

  pub chain_each : (x0 : Chain) (n : ℕ) (r r' : List ℕ) → Each r r' → Each (chain_nest x0 n r) (chain_nest x0 n r')
  chain_each top n r r' hr = hr
  chain_each (starred p qs c) n r r' hr = chain_each c n (chain_in c n ∷ qualifiers_nest qs (chain_in c n) r) (chain_in c n ∷ qualifiers_nest qs (chain_in c n) r') (((same (chain_in c n)), qualifiers_each qs (chain_in c n) (chain_in c n) r r' (same (chain_in c n)) (hr)))
  chain_each (opened p c) n r r' hr = chain_each c n (chain_in c n ∷ r) (chain_in c n ∷ r') (((same (chain_in c n)), hr))

  pub abstract_chain_each : (x0 : Chain) (n : ℕ) (r r' : List ℕ) → Each r r' → Each (abstract_chain_nest x0 n r) (abstract_chain_nest x0 n r')
  abstract_chain_each top n r r' hr = hr
  abstract_chain_each (starred p qs c) n r r' hr = abstract_chain_each c n (abstract_in c n ∷ qualifiers_nest qs (abstract_in c n) r) (abstract_in c n ∷ qualifiers_nest qs (abstract_in c n) r') (((same (abstract_in c n)), qualifiers_each qs (abstract_in c n) (abstract_in c n) r r' (same (abstract_in c n)) (hr)))
  abstract_chain_each (opened p c) n r r' hr = abstract_chain_each c n (abstract_in c n ∷ r) (abstract_in c n ∷ r') (((same (abstract_in c n)), hr))

  pub head_each : (x0 : Chain) (r r' : List ℕ) → Each r r' → Each (head_nest x0 r) (head_nest x0 r')
  head_each top r r' hr = hr
  head_each (starred p qs c) r r' hr = head_each c (0 ∷ qualifiers_nest qs 0 r) (0 ∷ qualifiers_nest qs 0 r') (((same 0), qualifiers_each qs 0 0 r r' (same 0) (hr)))
  head_each (opened p c) r r' hr = head_each c (0 ∷ r) (0 ∷ r') (((same 0), hr))

  mutual
    pub expression_eachs : (x0 : ExpressionContext) (r r' : List ℕ) → Each r r' → Each (expression_nests x0 r) (expression_nests x0 r')
    expression_eachs (operand f k) r r' hr = expression_eachs k (frame_nest f (suc (expression_depth k)) r) (frame_nest f (suc (expression_depth k)) r') (frame_each f (suc (expression_depth k)) (suc (expression_depth k)) r r' (same (suc (expression_depth k))) (hr))
    expression_eachs (whole h) r r' hr = hole_eachs h r r' (hr)

    pub hole_eachs : (x0 : Hole) (r r' : List ℕ) → Each r r' → Each (hole_nests x0 r) (hole_nests x0 r')
    hole_eachs (in_parentheses p k) r r' hr = expression_eachs k (suc (expression_depth k) ∷ r) (suc (expression_depth k) ∷ r') (((same (suc (expression_depth k))), hr))
    hole_eachs (in_index e p k) r r' hr = expression_eachs k (expression_nest e (suc (expression_depth k)) (suc (expression_depth k) ∷ r)) (expression_nest e (suc (expression_depth k)) (suc (expression_depth k) ∷ r')) (expression_each e (suc (expression_depth k)) (suc (expression_depth k)) (suc (expression_depth k) ∷ r) (suc (expression_depth k) ∷ r') (same (suc (expression_depth k))) (((same (suc (expression_depth k))), hr)))
    hole_eachs (in_argument f p xs k) r r' hr = expression_eachs k (expression_nest f (suc (expression_depth k)) (suc (expression_depth k) ∷ arguments_nest xs (suc (expression_depth k)) r)) (expression_nest f (suc (expression_depth k)) (suc (expression_depth k) ∷ arguments_nest xs (suc (expression_depth k)) r')) (expression_each f (suc (expression_depth k)) (suc (expression_depth k)) (suc (expression_depth k) ∷ arguments_nest xs (suc (expression_depth k)) r) (suc (expression_depth k) ∷ arguments_nest xs (suc (expression_depth k)) r') (same (suc (expression_depth k))) (((same (suc (expression_depth k))), arguments_each xs (suc (expression_depth k)) (suc (expression_depth k)) r r' (same (suc (expression_depth k))) (hr))))
    hole_eachs (in_middle c p k) r r' hr = expression_eachs k (expression_nest c (suc (expression_depth k)) (suc (expression_depth k) ∷ r)) (expression_nest c (suc (expression_depth k)) (suc (expression_depth k) ∷ r')) (expression_each c (suc (expression_depth k)) (suc (expression_depth k)) (suc (expression_depth k) ∷ r) (suc (expression_depth k) ∷ r') (same (suc (expression_depth k))) (((same (suc (expression_depth k))), hr)))
    hole_eachs (in_length k p) r r' hr = array_eachs k (array_depth k ∷ r) (array_depth k ∷ r') (((same (array_depth k)), hr))
    hole_eachs (in_enumerator es p x q k) r r' hr = enum_eachs k (enumerators_nest es (enum_depth k) (enum_depth k ∷ enum_depth k ∷ r)) (enumerators_nest es (enum_depth k) (enum_depth k ∷ enum_depth k ∷ r')) (enumerators_each es (enum_depth k) (enum_depth k) (enum_depth k ∷ enum_depth k ∷ r) (enum_depth k ∷ enum_depth k ∷ r') (same (enum_depth k)) (((same (enum_depth k)), ((same (enum_depth k)), hr))))
    hole_eachs (in_statement h) r r' hr = statement_hole_eachs h r r' (hr)

    pub array_eachs : (x0 : Suffixed) (r r' : List ℕ) → Each r r' → Each (array_nests x0 r) (array_nests x0 r')
    array_eachs (of_declarator d c k) r r' hr = declarator_eachs k (chain_nest c (declarator_depth k) (inner_nest d (chain_in c (declarator_depth k)) r)) (chain_nest c (declarator_depth k) (inner_nest d (chain_in c (declarator_depth k)) r')) (chain_each c (declarator_depth k) (inner_nest d (chain_in c (declarator_depth k)) r) (inner_nest d (chain_in c (declarator_depth k)) r') (inner_each d (chain_in c (declarator_depth k)) (chain_in c (declarator_depth k)) r r' (same (chain_in c (declarator_depth k))) (hr)))
    array_eachs (of_abstract a c k) r r' hr = abstract_eachs k (abstract_chain_nest c (abstract_depth k) (direct_nest a (abstract_in c (abstract_depth k)) r)) (abstract_chain_nest c (abstract_depth k) (direct_nest a (abstract_in c (abstract_depth k)) r')) (abstract_chain_each c (abstract_depth k) (direct_nest a (abstract_in c (abstract_depth k)) r) (direct_nest a (abstract_in c (abstract_depth k)) r') (direct_each a (abstract_in c (abstract_depth k)) (abstract_in c (abstract_depth k)) r r' (same (abstract_in c (abstract_depth k))) (hr)))

    pub function_eachs : (x0 : Suffixed) (r r' : List ℕ) → Each r r' → Each (function_nests x0 r) (function_nests x0 r')
    function_eachs (of_declarator d c k) r r' hr = each_cond (may_define d c k) (declarator_nests k (head_nest c (inner_nest d 0 r))) (declarator_nests k (head_nest c (inner_nest d 0 r'))) (declarator_nests k (chain_nest c (declarator_depth k) (inner_nest d (chain_in c (declarator_depth k)) r))) (declarator_nests k (chain_nest c (declarator_depth k) (inner_nest d (chain_in c (declarator_depth k)) r'))) (declarator_eachs k (head_nest c (inner_nest d 0 r)) (head_nest c (inner_nest d 0 r')) (head_each c (inner_nest d 0 r) (inner_nest d 0 r') (inner_each d 0 0 r r' (same 0) (hr)))) (declarator_eachs k (chain_nest c (declarator_depth k) (inner_nest d (chain_in c (declarator_depth k)) r)) (chain_nest c (declarator_depth k) (inner_nest d (chain_in c (declarator_depth k)) r')) (chain_each c (declarator_depth k) (inner_nest d (chain_in c (declarator_depth k)) r) (inner_nest d (chain_in c (declarator_depth k)) r') (inner_each d (chain_in c (declarator_depth k)) (chain_in c (declarator_depth k)) r r' (same (chain_in c (declarator_depth k))) (hr))))
    function_eachs (of_abstract a c k) r r' hr = abstract_eachs k (abstract_chain_nest c (abstract_depth k) (direct_nest a (abstract_in c (abstract_depth k)) r)) (abstract_chain_nest c (abstract_depth k) (direct_nest a (abstract_in c (abstract_depth k)) r')) (abstract_chain_each c (abstract_depth k) (direct_nest a (abstract_in c (abstract_depth k)) r) (direct_nest a (abstract_in c (abstract_depth k)) r') (direct_each a (abstract_in c (abstract_depth k)) (abstract_in c (abstract_depth k)) r r' (same (abstract_in c (abstract_depth k))) (hr)))

    pub specifiers_eachs : (x0 : SpecifiersContext) (r r' : List ℕ) → Each r r' → Each (specifiers_nests x0 r) (specifiers_nests x0 r')
    specifiers_eachs (in_declaration k) r r' hr = declaration_eachs k r r' (hr)
    specifiers_eachs (in_member ms k) r r' hr = composite_eachs k (members_nest ms (composite_depth k) r) (members_nest ms (composite_depth k) r') (members_each ms (composite_depth k) (composite_depth k) r r' (same (composite_depth k)) (hr))
    specifiers_eachs (in_parameter ps k p) r r' hr = function_eachs k (function_depth k ∷ earlier_nest ps (function_depth k) r) (function_depth k ∷ earlier_nest ps (function_depth k) r') (((same (function_depth k)), earlier_each ps (function_depth k) (function_depth k) r r' (same (function_depth k)) (hr)))
    specifiers_eachs (in_type_name k) r r' hr = type_name_eachs k r r' (hr)

    pub type_name_eachs : (x0 : TypeNameContext) (r r' : List ℕ) → Each r r' → Each (type_name_nests x0 r) (type_name_nests x0 r')
    type_name_eachs (in_cast p k) r r' hr = expression_eachs k (suc (expression_depth k) ∷ r) (suc (expression_depth k) ∷ r') (((same (suc (expression_depth k))), hr))
    type_name_eachs (in_sizeof p q k) r r' hr = expression_eachs k (suc (expression_depth k) ∷ suc (expression_depth k) ∷ r) (suc (expression_depth k) ∷ suc (expression_depth k) ∷ r') (((same (suc (expression_depth k))), ((same (suc (expression_depth k))), hr)))

    pub composite_eachs : (x0 : CompositeContext) (r r' : List ℕ) → Each r r' → Each (composite_nests x0 r) (composite_nests x0 r')
    composite_eachs (in_composite s p w t q k) r r' hr = specifiers_eachs k (specifiers_nest s (specifiers_depth k) (specifiers_depth k ∷ tag_nest t (specifiers_depth k) (suc (specifiers_depth k) ∷ r))) (specifiers_nest s (specifiers_depth k) (specifiers_depth k ∷ tag_nest t (specifiers_depth k) (suc (specifiers_depth k) ∷ r'))) (specifiers_each s (specifiers_depth k) (specifiers_depth k) (specifiers_depth k ∷ tag_nest t (specifiers_depth k) (suc (specifiers_depth k) ∷ r)) (specifiers_depth k ∷ tag_nest t (specifiers_depth k) (suc (specifiers_depth k) ∷ r')) (same (specifiers_depth k)) (((same (specifiers_depth k)), tag_each t (specifiers_depth k) (specifiers_depth k) (suc (specifiers_depth k) ∷ r) (suc (specifiers_depth k) ∷ r') (same (specifiers_depth k)) (((same (suc (specifiers_depth k))), hr)))))

    pub enum_eachs : (x0 : EnumContext) (r r' : List ℕ) → Each r r' → Each (enum_nests x0 r) (enum_nests x0 r')
    enum_eachs (in_enumeration s p t q k) r r' hr = specifiers_eachs k (specifiers_nest s (specifiers_depth k) (specifiers_depth k ∷ tag_nest t (specifiers_depth k) (specifiers_depth k ∷ r))) (specifiers_nest s (specifiers_depth k) (specifiers_depth k ∷ tag_nest t (specifiers_depth k) (specifiers_depth k ∷ r'))) (specifiers_each s (specifiers_depth k) (specifiers_depth k) (specifiers_depth k ∷ tag_nest t (specifiers_depth k) (specifiers_depth k ∷ r)) (specifiers_depth k ∷ tag_nest t (specifiers_depth k) (specifiers_depth k ∷ r')) (same (specifiers_depth k)) (((same (specifiers_depth k)), tag_each t (specifiers_depth k) (specifiers_depth k) (specifiers_depth k ∷ r) (specifiers_depth k ∷ r') (same (specifiers_depth k)) (((same (specifiers_depth k)), hr)))))

    pub declarator_eachs : (x0 : DeclaratorContext) (r r' : List ℕ) → Each r r' → Each (declarator_nests x0 r) (declarator_nests x0 r')
    declarator_eachs (init_context s ds k) r r' hr = declaration_eachs k (specifiers_nest s (declaration_depth k) (init_declarators_nest ds (declaration_depth k) r)) (specifiers_nest s (declaration_depth k) (init_declarators_nest ds (declaration_depth k) r')) (specifiers_each s (declaration_depth k) (declaration_depth k) (init_declarators_nest ds (declaration_depth k) r) (init_declarators_nest ds (declaration_depth k) r') (same (declaration_depth k)) (init_declarators_each ds (declaration_depth k) (declaration_depth k) r r' (same (declaration_depth k)) (hr)))
    declarator_eachs (member_context ms s ds k) r r' hr = composite_eachs k (members_nest ms (composite_depth k) (specifiers_nest s (composite_depth k) (declarators_nest ds (composite_depth k) r))) (members_nest ms (composite_depth k) (specifiers_nest s (composite_depth k) (declarators_nest ds (composite_depth k) r'))) (members_each ms (composite_depth k) (composite_depth k) (specifiers_nest s (composite_depth k) (declarators_nest ds (composite_depth k) r)) (specifiers_nest s (composite_depth k) (declarators_nest ds (composite_depth k) r')) (same (composite_depth k)) (specifiers_each s (composite_depth k) (composite_depth k) (declarators_nest ds (composite_depth k) r) (declarators_nest ds (composite_depth k) r') (same (composite_depth k)) (declarators_each ds (composite_depth k) (composite_depth k) r r' (same (composite_depth k)) (hr))))
    declarator_eachs (parameter_context ps s k p) r r' hr = function_eachs k (function_depth k ∷ earlier_nest ps (function_depth k) (specifiers_nest s (function_depth k) r)) (function_depth k ∷ earlier_nest ps (function_depth k) (specifiers_nest s (function_depth k) r')) (((same (function_depth k)), earlier_each ps (function_depth k) (function_depth k) (specifiers_nest s (function_depth k) r) (specifiers_nest s (function_depth k) r') (same (function_depth k)) (specifiers_each s (function_depth k) (function_depth k) r r' (same (function_depth k)) (hr))))

    pub abstract_eachs : (x0 : AbstractContext) (r r' : List ℕ) → Each r r' → Each (abstract_nests x0 r) (abstract_nests x0 r')
    abstract_eachs (parameter_abstract ps s k p) r r' hr = function_eachs k (function_depth k ∷ earlier_nest ps (function_depth k) (specifiers_nest s (function_depth k) r)) (function_depth k ∷ earlier_nest ps (function_depth k) (specifiers_nest s (function_depth k) r')) (((same (function_depth k)), earlier_each ps (function_depth k) (function_depth k) (specifiers_nest s (function_depth k) r) (specifiers_nest s (function_depth k) r') (same (function_depth k)) (specifiers_each s (function_depth k) (function_depth k) r r' (same (function_depth k)) (hr))))
    abstract_eachs (type_name_abstract s k) r r' hr = type_name_eachs k (specifiers_nest s (type_name_depth k) r) (specifiers_nest s (type_name_depth k) r') (specifiers_each s (type_name_depth k) (type_name_depth k) r r' (same (type_name_depth k)) (hr))

  pub at_declarator_eachs : (x0 : Chain) (x1 : DeclaratorContext) (r r' : List ℕ) → Each r r' → Each (at_declarator_nests x0 x1 r) (at_declarator_nests x0 x1 r')
  at_declarator_eachs c k r r' hr = each_cond (may_head c k) (declarator_nests k (head_nest c r)) (declarator_nests k (head_nest c r')) (declarator_nests k (chain_nest c (declarator_depth k) r)) (declarator_nests k (chain_nest c (declarator_depth k) r')) (declarator_eachs k (head_nest c r) (head_nest c r') (head_each c r r' (hr))) (declarator_eachs k (chain_nest c (declarator_depth k) r) (chain_nest c (declarator_depth k) r') (chain_each c (declarator_depth k) r r' (hr)))

  pub after_name_eachs : (x0 : Chain) (x1 : DeclaratorContext) (r r' : List ℕ) → Each r r' → Each (after_name_nests x0 x1 r) (after_name_nests x0 x1 r')
  after_name_eachs c k r r' hr = each_cond (may_head c k) (declarator_nests k (head_nest c (0 ∷ r))) (declarator_nests k (head_nest c (0 ∷ r'))) (declarator_nests k (chain_nest c (declarator_depth k) (name_in c (declarator_depth k) ∷ r))) (declarator_nests k (chain_nest c (declarator_depth k) (name_in c (declarator_depth k) ∷ r'))) (declarator_eachs k (head_nest c (0 ∷ r)) (head_nest c (0 ∷ r')) (head_each c (0 ∷ r) (0 ∷ r') (((same 0), hr)))) (declarator_eachs k (chain_nest c (declarator_depth k) (name_in c (declarator_depth k) ∷ r)) (chain_nest c (declarator_depth k) (name_in c (declarator_depth k) ∷ r')) (chain_each c (declarator_depth k) (name_in c (declarator_depth k) ∷ r) (name_in c (declarator_depth k) ∷ r') (((same (name_in c (declarator_depth k))), hr))))

  pub after_declarator_eachs : (x0 : Declarator) (x1 : Chain) (x2 : DeclaratorContext) (r r' : List ℕ) → Each r r' → Each (after_declarator_nests x0 x1 x2 r) (after_declarator_nests x0 x1 x2 r')
  after_declarator_eachs (declared_name p x) c k r r' hr = after_name_eachs c k r r' (hr)
  after_declarator_eachs (pointer p qs d) c k r r' hr = array_eachs (of_declarator (pointer p qs d) c k) r r' (hr)
  after_declarator_eachs (parenthesized_declarator p d q) c k r r' hr = array_eachs (of_declarator (parenthesized_declarator p d q) c k) r r' (hr)
  after_declarator_eachs (array d p l q) c k r r' hr = array_eachs (of_declarator (array d p l q) c k) r r' (hr)
  after_declarator_eachs (function d p ps q) c k r r' hr = function_eachs (of_declarator d c k) (function_depth (of_declarator d c k) ∷ parameters_nest ps (function_depth (of_declarator d c k)) (function_depth (of_declarator d c k) ∷ r)) (function_depth (of_declarator d c k) ∷ parameters_nest ps (function_depth (of_declarator d c k)) (function_depth (of_declarator d c k) ∷ r')) (((same (function_depth (of_declarator d c k))), parameters_each ps (function_depth (of_declarator d c k)) (function_depth (of_declarator d c k)) (function_depth (of_declarator d c k) ∷ r) (function_depth (of_declarator d c k) ∷ r') (same (function_depth (of_declarator d c k))) (((same (function_depth (of_declarator d c k))), hr))))

  pub at_abstract_eachs : (x0 : AbstractContext) (x1 : Chain) (r r' : List ℕ) → Each r r' → Each (at_abstract_nests x0 x1 r) (at_abstract_nests x0 x1 r')
  at_abstract_eachs (parameter_abstract ps s k p) c r r' hr = abstract_eachs (parameter_abstract ps s k p) (chain_nest c (function_depth k) r) (chain_nest c (function_depth k) r') (chain_each c (function_depth k) r r' (hr))
  at_abstract_eachs (type_name_abstract s k) c r r' hr = abstract_eachs (type_name_abstract s k) (abstract_chain_nest c (type_name_depth k) r) (abstract_chain_nest c (type_name_depth k) r') (abstract_chain_each c (type_name_depth k) r r' (hr))

  pub state_each : (x0 : State) (r r' : List ℕ) → Each r r' → Each (state_nest x0 r) (state_nest x0 r')
  state_each (at_file f) r r' hr = file_each f r r' (hr)
  state_each (at_items is k) r r' hr = items_eachs k (items_nest is (items_depth k) r) (items_nest is (items_depth k) r') (items_each is (items_depth k) (items_depth k) r r' (same (items_depth k)) (hr))
  state_each (at_statement k) r r' hr = statement_eachs k r r' (hr)
  state_each (after_statement s k) r r' hr = statement_eachs k (statement_nest s (statement_depth k) r) (statement_nest s (statement_depth k) r') (statement_each s (statement_depth k) (statement_depth k) r r' (same (statement_depth k)) (hr))
  state_each (at_labels k) r r' hr = groups_eachs k r r' (hr)
  state_each (after_default k p) r r' hr = label_eachs k (label_depth k ∷ r) (label_depth k ∷ r') (((same (label_depth k)), hr))
  state_each (at_condition h p k) r r' hr = statement_eachs k (suc (statement_depth k) ∷ r) (suc (statement_depth k) ∷ r') (((same (suc (statement_depth k))), hr))
  state_each (at_do_condition p s w k) r r' hr = statement_eachs k (suc (statement_depth k) ∷ statement_nest s (suc (statement_depth k)) (suc (statement_depth k) ∷ r)) (suc (statement_depth k) ∷ statement_nest s (suc (statement_depth k)) (suc (statement_depth k) ∷ r')) (((same (suc (statement_depth k))), statement_each s (suc (statement_depth k)) (suc (statement_depth k)) (suc (statement_depth k) ∷ r) (suc (statement_depth k) ∷ r') (same (suc (statement_depth k))) (((same (suc (statement_depth k))), hr))))
  state_each (after_do p s w q e l k) r r' hr = statement_eachs k (suc (statement_depth k) ∷ statement_nest s (suc (statement_depth k)) (suc (statement_depth k) ∷ suc (statement_depth k) ∷ expression_nest e (suc (statement_depth k)) (suc (statement_depth k) ∷ r))) (suc (statement_depth k) ∷ statement_nest s (suc (statement_depth k)) (suc (statement_depth k) ∷ suc (statement_depth k) ∷ expression_nest e (suc (statement_depth k)) (suc (statement_depth k) ∷ r'))) (((same (suc (statement_depth k))), statement_each s (suc (statement_depth k)) (suc (statement_depth k)) (suc (statement_depth k) ∷ suc (statement_depth k) ∷ expression_nest e (suc (statement_depth k)) (suc (statement_depth k) ∷ r)) (suc (statement_depth k) ∷ suc (statement_depth k) ∷ expression_nest e (suc (statement_depth k)) (suc (statement_depth k) ∷ r')) (same (suc (statement_depth k))) (((same (suc (statement_depth k))), ((same (suc (statement_depth k))), expression_each e (suc (statement_depth k)) (suc (statement_depth k)) (suc (statement_depth k) ∷ r) (suc (statement_depth k) ∷ r') (same (suc (statement_depth k))) (((same (suc (statement_depth k))), hr)))))))
  state_each (at_for p k) r r' hr = statement_eachs k (suc (statement_depth k) ∷ r) (suc (statement_depth k) ∷ r') (((same (suc (statement_depth k))), hr))
  state_each (at_for_first p q k) r r' hr = statement_eachs k (suc (statement_depth k) ∷ suc (statement_depth k) ∷ r) (suc (statement_depth k) ∷ suc (statement_depth k) ∷ r') (((same (suc (statement_depth k))), ((same (suc (statement_depth k))), hr)))
  state_each (at_for_test p q f k) r r' hr = statement_eachs k (suc (statement_depth k) ∷ suc (statement_depth k) ∷ for_first_nest f (suc (statement_depth k)) r) (suc (statement_depth k) ∷ suc (statement_depth k) ∷ for_first_nest f (suc (statement_depth k)) r') (((same (suc (statement_depth k))), ((same (suc (statement_depth k))), for_first_each f (suc (statement_depth k)) (suc (statement_depth k)) r r' (same (suc (statement_depth k))) (hr))))
  state_each (at_for_step p q f c m k) r r' hr = statement_eachs k (suc (statement_depth k) ∷ suc (statement_depth k) ∷ for_first_nest f (suc (statement_depth k)) (optional_nest c (suc (statement_depth k)) (suc (statement_depth k) ∷ r))) (suc (statement_depth k) ∷ suc (statement_depth k) ∷ for_first_nest f (suc (statement_depth k)) (optional_nest c (suc (statement_depth k)) (suc (statement_depth k) ∷ r'))) (((same (suc (statement_depth k))), ((same (suc (statement_depth k))), for_first_each f (suc (statement_depth k)) (suc (statement_depth k)) (optional_nest c (suc (statement_depth k)) (suc (statement_depth k) ∷ r)) (optional_nest c (suc (statement_depth k)) (suc (statement_depth k) ∷ r')) (same (suc (statement_depth k))) (optional_each c (suc (statement_depth k)) (suc (statement_depth k)) (suc (statement_depth k) ∷ r) (suc (statement_depth k) ∷ r') (same (suc (statement_depth k))) (((same (suc (statement_depth k))), hr))))))
  state_each (at_switch_body p q e l k) r r' hr = statement_eachs k (suc (statement_depth k) ∷ suc (statement_depth k) ∷ expression_nest e (suc (statement_depth k)) (suc (statement_depth k) ∷ r)) (suc (statement_depth k) ∷ suc (statement_depth k) ∷ expression_nest e (suc (statement_depth k)) (suc (statement_depth k) ∷ r')) (((same (suc (statement_depth k))), ((same (suc (statement_depth k))), expression_each e (suc (statement_depth k)) (suc (statement_depth k)) (suc (statement_depth k) ∷ r) (suc (statement_depth k) ∷ r') (same (suc (statement_depth k))) (((same (suc (statement_depth k))), hr)))))
  state_each (at_jump p j k) r r' hr = statement_eachs k (suc (statement_depth k) ∷ r) (suc (statement_depth k) ∷ r') (((same (suc (statement_depth k))), hr))
  state_each (at_return p k) r r' hr = statement_eachs k (suc (statement_depth k) ∷ r) (suc (statement_depth k) ∷ r') (((same (suc (statement_depth k))), hr))
  state_each (at_initializer k) r r' hr = initializer_eachs k r r' (hr)
  state_each (at_list_comma k p xs e q) r r' hr = initializer_eachs k (suc (initializer_depth k) ∷ arguments_nest xs (suc (initializer_depth k)) (expression_nest e (suc (initializer_depth k)) (suc (initializer_depth k) ∷ r))) (suc (initializer_depth k) ∷ arguments_nest xs (suc (initializer_depth k)) (expression_nest e (suc (initializer_depth k)) (suc (initializer_depth k) ∷ r'))) (((same (suc (initializer_depth k))), arguments_each xs (suc (initializer_depth k)) (suc (initializer_depth k)) (expression_nest e (suc (initializer_depth k)) (suc (initializer_depth k) ∷ r)) (expression_nest e (suc (initializer_depth k)) (suc (initializer_depth k) ∷ r')) (same (suc (initializer_depth k))) (expression_each e (suc (initializer_depth k)) (suc (initializer_depth k)) (suc (initializer_depth k) ∷ r) (suc (initializer_depth k) ∷ r') (same (suc (initializer_depth k))) (((same (suc (initializer_depth k))), hr)))))
  state_each (after_list k p xs e c l) r r' hr = initializer_eachs k (suc (initializer_depth k) ∷ arguments_nest xs (suc (initializer_depth k)) (expression_nest e (suc (initializer_depth k)) (trailing_nest c (suc (initializer_depth k)) (suc (initializer_depth k) ∷ r)))) (suc (initializer_depth k) ∷ arguments_nest xs (suc (initializer_depth k)) (expression_nest e (suc (initializer_depth k)) (trailing_nest c (suc (initializer_depth k)) (suc (initializer_depth k) ∷ r')))) (((same (suc (initializer_depth k))), arguments_each xs (suc (initializer_depth k)) (suc (initializer_depth k)) (expression_nest e (suc (initializer_depth k)) (trailing_nest c (suc (initializer_depth k)) (suc (initializer_depth k) ∷ r))) (expression_nest e (suc (initializer_depth k)) (trailing_nest c (suc (initializer_depth k)) (suc (initializer_depth k) ∷ r'))) (same (suc (initializer_depth k))) (expression_each e (suc (initializer_depth k)) (suc (initializer_depth k)) (trailing_nest c (suc (initializer_depth k)) (suc (initializer_depth k) ∷ r)) (trailing_nest c (suc (initializer_depth k)) (suc (initializer_depth k) ∷ r')) (same (suc (initializer_depth k))) (trailing_each c (suc (initializer_depth k)) (suc (initializer_depth k)) (suc (initializer_depth k) ∷ r) (suc (initializer_depth k) ∷ r') (same (suc (initializer_depth k))) (((same (suc (initializer_depth k))), hr))))))
  state_each (at_specifiers s k) r r' hr = specifiers_eachs k (specifiers_nest s (specifiers_depth k) r) (specifiers_nest s (specifiers_depth k) r') (specifiers_each s (specifiers_depth k) (specifiers_depth k) r r' (same (specifiers_depth k)) (hr))
  state_each (at_composite s p w k) r r' hr = specifiers_eachs k (specifiers_nest s (specifiers_depth k) (specifiers_depth k ∷ r)) (specifiers_nest s (specifiers_depth k) (specifiers_depth k ∷ r')) (specifiers_each s (specifiers_depth k) (specifiers_depth k) (specifiers_depth k ∷ r) (specifiers_depth k ∷ r') (same (specifiers_depth k)) (((same (specifiers_depth k)), hr)))
  state_each (at_enum s p k) r r' hr = specifiers_eachs k (specifiers_nest s (specifiers_depth k) (specifiers_depth k ∷ r)) (specifiers_nest s (specifiers_depth k) (specifiers_depth k ∷ r')) (specifiers_each s (specifiers_depth k) (specifiers_depth k) (specifiers_depth k ∷ r) (specifiers_depth k ∷ r') (same (specifiers_depth k)) (((same (specifiers_depth k)), hr)))
  state_each (at_members ms k) r r' hr = composite_eachs k (members_nest ms (composite_depth k) r) (members_nest ms (composite_depth k) r') (members_each ms (composite_depth k) (composite_depth k) r r' (same (composite_depth k)) (hr))
  state_each (at_enumerator k) r r' hr = enum_eachs k r r' (hr)
  state_each (after_enumerator es p x k) r r' hr = enum_eachs k (enumerators_nest es (enum_depth k) (enum_depth k ∷ r)) (enumerators_nest es (enum_depth k) (enum_depth k ∷ r')) (enumerators_each es (enum_depth k) (enum_depth k) (enum_depth k ∷ r) (enum_depth k ∷ r') (same (enum_depth k)) (((same (enum_depth k)), hr)))
  state_each (after_enumerator_comma es e p k) r r' hr = enum_eachs k (enumerators_nest es (enum_depth k) (enumerator_nest e (enum_depth k) (enum_depth k ∷ r))) (enumerators_nest es (enum_depth k) (enumerator_nest e (enum_depth k) (enum_depth k ∷ r'))) (enumerators_each es (enum_depth k) (enum_depth k) (enumerator_nest e (enum_depth k) (enum_depth k ∷ r)) (enumerator_nest e (enum_depth k) (enum_depth k ∷ r')) (same (enum_depth k)) (enumerator_each e (enum_depth k) (enum_depth k) (enum_depth k ∷ r) (enum_depth k ∷ r') (same (enum_depth k)) (((same (enum_depth k)), hr))))
  state_each (at_declarator c k) r r' hr = at_declarator_eachs c k r r' (hr)
  state_each (after_declarator d c k) r r' hr = after_declarator_eachs d c k r r' (hr)
  state_each (at_abstract c k) r r' hr = at_abstract_eachs k c r r' (hr)
  state_each (at_opened c p k) r r' hr = at_abstract_eachs k (opened p c) r r' (hr)
  state_each (after_abstract a c k) r r' hr = array_eachs (of_abstract a c k) r r' (hr)
  state_each (at_length k p) r r' hr = array_eachs k (array_depth k ∷ r) (array_depth k ∷ r') (((same (array_depth k)), hr))
  state_each (at_parameters k p) r r' hr = function_eachs k (function_depth k ∷ r) (function_depth k ∷ r') (((same (function_depth k)), hr))
  state_each (at_expression k) r r' hr = expression_eachs k r r' (hr)
  state_each (after_postfix e k) r r' hr = expression_eachs k (expression_nest e (expression_depth k) r) (expression_nest e (expression_depth k) r') (expression_each e (expression_depth k) (expression_depth k) r r' (same (expression_depth k)) (hr))
  state_each (after_sizeof e k) r r' hr = expression_eachs k (expression_nest e (expression_depth k) r) (expression_nest e (expression_depth k) r') (expression_each e (expression_depth k) (expression_depth k) r r' (same (expression_depth k)) (hr))
  state_each (at_open p k) r r' hr = expression_eachs k (suc (expression_depth k) ∷ r) (suc (expression_depth k) ∷ r') (((same (suc (expression_depth k))), hr))
  state_each (at_sizeof p k) r r' hr = expression_eachs k (suc (expression_depth k) ∷ r) (suc (expression_depth k) ∷ r') (((same (suc (expression_depth k))), hr))
  state_each (at_sizeof_open p q k) r r' hr = expression_eachs k (suc (expression_depth k) ∷ suc (expression_depth k) ∷ r) (suc (expression_depth k) ∷ suc (expression_depth k) ∷ r') (((same (suc (expression_depth k))), ((same (suc (expression_depth k))), hr)))
  state_each (at_arguments f p k) r r' hr = expression_eachs k (expression_nest f (suc (expression_depth k)) (suc (expression_depth k) ∷ r)) (expression_nest f (suc (expression_depth k)) (suc (expression_depth k) ∷ r')) (expression_each f (suc (expression_depth k)) (suc (expression_depth k)) (suc (expression_depth k) ∷ r) (suc (expression_depth k) ∷ r') (same (suc (expression_depth k))) (((same (suc (expression_depth k))), hr)))
  state_each (at_access e p o k) r r' hr = expression_eachs k (expression_nest e (suc (expression_depth k)) (suc (expression_depth k) ∷ r)) (expression_nest e (suc (expression_depth k)) (suc (expression_depth k) ∷ r')) (expression_each e (suc (expression_depth k)) (suc (expression_depth k)) (suc (expression_depth k) ∷ r) (suc (expression_depth k) ∷ r') (same (suc (expression_depth k))) (((same (suc (expression_depth k))), hr)))
