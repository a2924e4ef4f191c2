-- Expressions, specifiers and declarators that the grammar spells are read, whatever follows.
use Rattle.std.proofs.Common.{◌≡◌, ◌<◌, ◌≤◌, true, false, List, ◌∷◌, Some, refl, ◌∙◌, ap, arith, lit≤}
use Rattle.c_grammar.specs.Tokens.{Identifier, Place, Void, Op, Assignment, TypeKeyword, RightParen, RightBracket, Semicolon, Comma, Question, Colon, Token, token}
use Rattle.c_grammar.specs.Derivations.{Expression, identifier, constant, parenthesized, index, call_without, call, member, step_after, step_before, unary, sizeof_expression, sizeof_type, cast, binary, conditional, assignment, Arguments, no_arguments, argument, TypeName, type_name, Specifiers, no_specifiers, storage_class, qualifier, inlined, type_words, typedef_name, composite_reference, composite, enum_reference, enumeration, Members, no_members, members, Declarators, no_declarators, declarators, Enumerator, enumerator, enumerator_value, Enumerators, no_enumerators, enumerators, Declarator, declared_name, pointer, parenthesized_declarator, array, function, Length, no_length, length_of, AbstractDeclarator, no_declarator, abstract_pointer, parenthesized_abstract, abstract_array, abstract_function, Parameters, no_parameters, void_parameter, parameters, EarlierParameters, no_earlier, earlier, Parameter, named_parameter, unnamed_parameter}
use Rattle.c_grammar.specs.Yield.{expression_yield, arguments_yield, type_name_yield, specifiers_yield, members_yield, declarators_yield, enumerator_yield, enumerators_yield, declarator_yield, length_yield, abstract_yield, parameters_yield, earlier_yield, parameter_yield}
use Rattle.c_grammar.specs.Spelling.{level, ExpressionOk, ArgumentsOk, TypeNameOk, SpecifiersOk, MembersOk, DeclaratorsOk, EnumeratorOk, EnumeratorsOk, DeclaratorOk, LengthOk, AbstractOk, ParametersOk, EarlierOk, ParameterOk}
use Rattle.c_grammar.specs.Contexts.{step_frame, unary_frame, sizeof_frame, cast_frame, binary_frame, conditional_frame, assignment_frame, Chain, top, starred, opened, ExpressionContext, operand, whole, in_parentheses, in_index, in_argument, in_middle, in_length, in_enumerator, Suffixed, of_declarator, of_abstract, SpecifiersContext, in_member, in_parameter, in_type_name, TypeNameContext, in_cast, in_sizeof, CompositeContext, in_composite, EnumContext, in_enumeration, DeclaratorContext, member_context, parameter_context, AbstractContext, parameter_abstract, type_name_abstract, expression_context_names, suffixed_names, specifiers_context_names, type_name_context_names, composite_context_names, enum_context_names, declarator_context_names, abstract_context_names, need}
use Rattle.c_grammar.specs.Machine.{State, at_specifiers, at_members, at_enumerator, at_declarator, at_abstract, at_length, at_parameters, at_expression, begins_type, binds, array_of, function_of, type_named, kind_of, on_expression, on_parameter, feed, go}
use Rattle.c_grammar.proofs.Steps.{tail_need, tail_positive, tail_big, tail_operator, level_positive, FirstIs, ends_specifiers, declarator_first, abstract_first, abstract_ends, declarator_ends, expression_first, arguments_first, unary_first, type_first, one}
use Rattle.c_grammar.proofs.Valid.{Storable}
use Rattle.c_grammar.proofs.Starts.{starts, open_start, open_type, sizeof_open_type, sizeof_start, arguments_start, length_start, parameters_start, opened_abstract, opened_declarator, members_start, abstract_start, parameter_start, member_start}
use Rattle.c_grammar.proofs.OneToken.{then_go, else_go, read_specifiers, read_composite, read_enum, read_members, read_after_enumerator, read_direct, read_length, read_parameters, read_expression, read_postfix, read_sizeof, read_arguments, read_access}
use Rattle.c_grammar.proofs.Parts.{end_expression, is_postfix, next_expression, push_binary, push_assignment, push_question, postfix_step, end_declarator, end_abstract, is_suffix, next_declarator, direct_step, closes_abstract, next_abstract, abstract_bracket, at_function, feed_paren, abstract_paren, function_none, function_parameters, run_qualifiers, run_abstract_qualifiers, feed_name, feed_star, feed_declarator_paren, feed_parameter_name, feed_abstract_star, run_words, composite_tag, enum_tag, plain_storable, end_enumerators, enumerator_name, end_enumerator, enumerator_comma, enumerator_close, list_of_parameters}

-- what stands behind a parameter
abbrev pub EndsParameter : Token → Type 0
EndsParameter (token Comma p) = Unit {0}
EndsParameter (token RightParen p) = Unit {0}
EndsParameter _ = ⊥

ends_closes : (t : Token) → EndsParameter t → closes_abstract (kind_of t) ≡ true
ends_closes (token Comma p) h = refl
ends_closes (token RightParen p) h = refl
ends_closes _ h = absurd h

ends_no_suffix : (t : Token) → EndsParameter t → is_suffix (kind_of t) ≡ false
ends_no_suffix (token Comma p) h = refl
ends_no_suffix (token RightParen p) h = refl
ends_no_suffix _ h = absurd h

ends_first : (t : Token) (ts : List Token) → EndsParameter t → FirstIs ends_specifiers (t ∷ ts)
ends_first (token Comma p) ts h = refl
ends_first (token RightParen p) ts h = refl
ends_first _ ts h = absurd h

parameter_first : (ns : List Identifier) (x : Parameter) (r : List Token) → ParameterOk ns x → FirstIs (begins_type ns) (parameter_yield x r)
parameter_first ns (named_parameter s d) r ok = type_first ns s _ ok.0 ok.1 ok.2
parameter_first ns (unnamed_parameter s a) r ok = type_first ns s _ ok.0 ok.1 ok.2

earlier_first : (ns : List Identifier) (ps : EarlierParameters) (x : Parameter) (r : List Token) → EarlierOk ns ps → ParameterOk ns x
    → FirstIs (begins_type ns) (earlier_yield ps (parameter_yield x r))
earlier_first ns no_earlier x r pok ok = parameter_first ns x r ok
earlier_first ns (earlier ps y p) x r pok ok = earlier_first ns ps y _ pok.0 pok.1

type_name_first : (ns : List Identifier) (t : TypeName) (r : List Token) → TypeNameOk ns t → FirstIs (begins_type ns) (type_name_yield t r)
type_name_first ns (type_name s a) r ok = type_first ns s _ ok.0 ok.1 ok.2

declarators_ends : (ds : Declarators) (d : Declarator) (r : List Token) → FirstIs ends_specifiers (declarators_yield ds (declarator_yield d r))
declarators_ends no_declarators d r = declarator_ends d r
declarators_ends (declarators ds x p) d r = declarators_ends ds x _

mutual
  pub run_expression : (e : Expression) (k : ExpressionContext) (r : List Token) → ExpressionOk (expression_context_names k) e → need k ≤ level e
      → go (Some (at_expression k)) (expression_yield e r) ≡ go (Some (end_expression e k)) r
  run_expression (identifier p x) k r ok fits = read_expression k _ r ∙ else_go _ _ _ r ok
  run_expression (constant p n) k r ok fits = read_expression k _ r
  run_expression (parenthesized p e q) k r ok fits =
      read_expression k _ _ ∙ starts _ _ _ (open_start p k) _ (expression_first _ e _ ok)
      ∙ run_expression e (whole (in_parentheses p k)) _ ok (level_positive _ e ok) ∙ next_expression _ e (whole (in_parentheses p k)) (token RightParen q) r ok refl (tail_positive e)
  run_expression (index e p i q) k r ok fits =
      run_expression e k _ ok.0 (omega (arith, fits, ok.1)) ∙ postfix_step e k _ ok.1 ∙ read_postfix e k _ _
      ∙ run_expression i (whole (in_index e p k)) _ ok.2 (level_positive _ i ok.2) ∙ next_expression _ i (whole (in_index e p k)) (token RightBracket q) r ok.2 refl (tail_positive i)
  run_expression (call_without f p q) k r ok fits =
      run_expression f k _ ok.0 (omega (arith, fits, ok.1)) ∙ postfix_step f k _ ok.1 ∙ read_postfix f k _ _ ∙ read_arguments f p k _ r
  run_expression (call f p xs e q) k r ok fits =
      run_expression f k _ ok.0 (omega (arith, fits, ok.1)) ∙ postfix_step f k _ ok.1 ∙ read_postfix f k _ _
      ∙ starts _ _ _ (arguments_start f p k) _ (arguments_first _ xs e _ ok.2 ok.3) ∙ run_arguments xs f p k _ ok.2
      ∙ run_expression e (whole (in_argument f p xs k)) _ ok.3 (level_positive _ e ok.3) ∙ next_expression _ e (whole (in_argument f p xs k)) (token RightParen q) r ok.3 refl (tail_positive e)
  run_expression (member e p o q x) k r ok fits =
      run_expression e k _ ok.0 (omega (arith, fits, ok.1)) ∙ postfix_step e k _ ok.1 ∙ read_postfix e k _ _ ∙ read_access e p o k _ r
  run_expression (step_after e p o) k r ok fits =
      run_expression e k _ ok.0 (omega (arith, fits, ok.1)) ∙ postfix_step e k _ ok.1 ∙ read_postfix e k _ r
  run_expression (step_before p o e) k r ok fits = read_expression k _ _ ∙ run_expression e (operand (step_frame p o) k) r ok.0 ok.1
  run_expression (unary p o e) k r ok fits =
      read_expression k _ _ ∙ then_go _ _ _ _ ok.0 ∙ run_expression e (operand (unary_frame p o) k) r ok.1 ok.2
  run_expression (sizeof_expression p e) k r ok fits =
      read_expression k _ _ ∙ sizeof_start p k _ (unary_first _ e _ ok.0 ok.1) ∙ run_expression e (operand (sizeof_frame p) k) r ok.0 ok.1
  run_expression (sizeof_type p q t l) k r ok fits =
      read_expression k _ _ ∙ read_sizeof p k _ _ ∙ starts _ _ _ (sizeof_open_type p q k) _ (type_name_first _ t _ ok) ∙ run_type_name t (in_sizeof p q k) l r ok
  run_expression (cast p t q e) k r ok fits =
      read_expression k _ _ ∙ starts _ _ _ (λ x h. open_type p k x fits h) _ (type_name_first _ t _ ok.0) ∙ run_type_name t (in_cast p k) q _ ok.0
      ∙ run_expression e (operand (cast_frame p t q) k) r ok.1 ok.2
  run_expression (binary a p o b) k r ok fits =
      run_expression a k _ ok.1 (omega (arith, fits, ok.2)) ∙ next_expression _ a k (token (Op o) p) _ ok.1 refl (tail_operator o a ok.0 ok.2)
      ∙ ap (λ s. go s (expression_yield b r)) (push_binary o a k p ok.0 ok.2 fits) ∙ run_expression b (operand (binary_frame a p o) k) r ok.3 ok.4
  run_expression (conditional c p a q b) k r ok fits =
      run_expression c k _ ok.0 (omega (arith, fits, ok.1)) ∙ next_expression _ c k (token Question p) _ ok.0 refl (tail_big 3 c ok.1 (lit≤ tt))
      ∙ ap (λ s. go s (expression_yield a (token Colon q ∷ expression_yield b r))) (push_question c k p ok.1 fits)
      ∙ run_expression a (whole (in_middle c p k)) _ ok.2 (level_positive _ a ok.2) ∙ next_expression _ a (whole (in_middle c p k)) (token Colon q) _ ok.2 refl (tail_positive a)
      ∙ run_expression b (operand (conditional_frame c p a q) k) r ok.3 ok.4
  run_expression (assignment a p o b) k r ok fits =
      run_expression a k _ ok.0 (omega (arith, fits, ok.1)) ∙ next_expression _ a k (token (Assignment o) p) _ ok.0 refl (tail_big 2 a (omega (arith, ok.1)) (lit≤ tt))
      ∙ ap (λ s. go s (expression_yield b r)) (push_assignment o a k p ok.1 fits)
      ∙ run_expression b (operand (assignment_frame a p o) k) r ok.2 (level_positive _ b ok.2)

  run_arguments : (xs : Arguments) (f : Expression) (p : Place) (k : ExpressionContext) (r : List Token) → ArgumentsOk (expression_context_names k) xs
      → go (Some (at_expression (whole (in_argument f p no_arguments k)))) (arguments_yield xs r) ≡ go (Some (at_expression (whole (in_argument f p xs k)))) r
  run_arguments no_arguments f p k r ok = refl
  run_arguments (argument xs e q) f p k r ok =
      run_arguments xs f p k _ ok.0 ∙ run_expression e (whole (in_argument f p xs k)) _ ok.1 (level_positive _ e ok.1) ∙ next_expression _ e (whole (in_argument f p xs k)) (token Comma q) r ok.1 refl (tail_positive e)

  run_type_name : (t : TypeName) (k : TypeNameContext) (q : Place) (r : List Token) → TypeNameOk (type_name_context_names k) t
      → go (Some (at_specifiers no_specifiers (in_type_name k))) (type_name_yield t (token RightParen q ∷ r)) ≡ go (Some (type_named k t q)) r
  run_type_name (type_name s a) k q r ok =
      run_specifiers s (in_type_name k) _ ok.0 (plain_storable s (in_type_name k) ok.2)
      ∙ starts ends_specifiers _ _ (λ t h. abstract_start s k t ok.1 h) _ (abstract_ends a (token RightParen q ∷ r) refl)
      ∙ run_abstract a top (type_name_abstract s k) _ ok.3 ∙ next_abstract a top (type_name_abstract s k) (token RightParen q) r refl

  pub run_specifiers : (s : Specifiers) (k : SpecifiersContext) (r : List Token) → SpecifiersOk (specifiers_context_names k) s → Storable s k
      → go (Some (at_specifiers no_specifiers k)) (specifiers_yield s r) ≡ go (Some (at_specifiers s k)) r
  run_specifiers no_specifiers k r ok st = refl
  run_specifiers (storage_class s p w) k r ok st =
      run_specifiers s k _ ok.0 (λ h. st refl) ∙ read_specifiers s k _ r ∙ then_go _ _ _ r (st refl) ∙ else_go _ _ _ r ok.1
  run_specifiers (qualifier s p q) k r ok st = run_specifiers s k _ ok st ∙ read_specifiers s k _ r
  run_specifiers (inlined s p) k r ok st = run_specifiers s k _ ok (λ h. st refl) ∙ read_specifiers s k _ r ∙ then_go _ _ _ r (st refl)
  run_specifiers (type_words s ws) k r ok st = run_specifiers s k _ ok.0 st ∙ run_words ws s k r ok.1 ok.2
  run_specifiers (typedef_name s p x) k r ok st =
      run_specifiers s k _ ok.0 st ∙ read_specifiers s k _ r ∙ else_go _ _ _ r ok.1 ∙ then_go _ _ _ r ok.2
  run_specifiers (composite_reference s p w q x) k r ok st =
      run_specifiers s k _ ok.0 st ∙ read_specifiers s k _ _ ∙ else_go _ _ _ _ ok.1 ∙ read_composite s p w k _ r
  run_specifiers (composite s p w t q ms l) k r ok st =
      run_specifiers s k _ ok.0 st ∙ read_specifiers s k _ _ ∙ else_go _ _ _ _ ok.1 ∙ composite_tag t s p w q k _
      ∙ run_members ms (in_composite s p w t q k) _ ok.2 ∙ read_members ms (in_composite s p w t q k) _ r ∙ then_go _ _ _ r ok.3
  run_specifiers (enum_reference s p q x) k r ok st =
      run_specifiers s k _ ok.0 st ∙ read_specifiers s k _ _ ∙ else_go _ _ _ _ ok.1 ∙ read_enum s p k _ r
  run_specifiers (enumeration s p t q es e c l) k r ok st =
      run_specifiers s k _ ok.0 st ∙ read_specifiers s k _ _ ∙ else_go _ _ _ _ ok.1 ∙ enum_tag t s p q k _
      ∙ run_enumerators es (in_enumeration s p t q k) _ ok.2 ∙ run_enumerator e es (in_enumeration s p t q k) _ ok.3
      ∙ enumerator_close (specifiers_context_names k) e es c (in_enumeration s p t q k) l r ok.3

  run_members : (ms : Members) (k : CompositeContext) (r : List Token) → MembersOk (composite_context_names k) ms
      → go (Some (at_members no_members k)) (members_yield ms r) ≡ go (Some (at_members ms k)) r
  run_members no_members k r ok = refl
  run_members (members ms s ds d p) k r ok =
      run_members ms k _ ok.0 ∙ starts _ _ _ (members_start ms k) _ (type_first _ s _ ok.1 ok.2 ok.3)
      ∙ run_specifiers s (in_member ms k) _ ok.1 (plain_storable s (in_member ms k) ok.3)
      ∙ starts ends_specifiers _ _ (λ t h. member_start ms s k t ok.2 h) _ (declarators_ends ds d _) ∙ run_declarators ds ms s k _ ok.4
      ∙ run_declarator d top (member_context ms s ds k) _ ok.5 ∙ next_declarator d top (member_context ms s ds k) (token Semicolon p) r refl

  run_declarators : (ds : Declarators) (ms : Members) (s : Specifiers) (k : CompositeContext) (r : List Token) → DeclaratorsOk (composite_context_names k) ds
      → go (Some (at_declarator top (member_context ms s no_declarators k))) (declarators_yield ds r) ≡ go (Some (at_declarator top (member_context ms s ds k))) r
  run_declarators no_declarators ms s k r ok = refl
  run_declarators (declarators ds d p) ms s k r ok =
      run_declarators ds ms s k _ ok.0 ∙ run_declarator d top (member_context ms s ds k) _ ok.1
      ∙ next_declarator d top (member_context ms s ds k) (token Comma p) r refl

  run_enumerators : (es : Enumerators) (k : EnumContext) (r : List Token) → EnumeratorsOk (enum_context_names k) es
      → go (Some (at_enumerator k)) (enumerators_yield es r) ≡ go (Some (end_enumerators es k)) r
  run_enumerators no_enumerators k r ok = refl
  run_enumerators (enumerators es e p) k r ok =
      run_enumerators es k _ ok.0 ∙ run_enumerator e es k _ ok.1 ∙ enumerator_comma (enum_context_names k) e es k p r ok.1

  run_enumerator : (e : Enumerator) (es : Enumerators) (k : EnumContext) (r : List Token) → EnumeratorOk (enum_context_names k) e
      → go (Some (end_enumerators es k)) (enumerator_yield e r) ≡ go (Some (end_enumerator e es k)) r
  run_enumerator (enumerator p x) es k r ok = one _ _ _ r (enumerator_name es k x p ok)
  run_enumerator (enumerator_value p x q e) es k r ok =
      one _ _ _ _ (enumerator_name es k x p ok.0) ∙ read_after_enumerator es p x k _ _ ∙ run_expression e (whole (in_enumerator es p x q k)) r ok.1 ok.2

  pub run_declarator : (d : Declarator) (c : Chain) (k : DeclaratorContext) (r : List Token) → DeclaratorOk (declarator_context_names k) d
      → go (Some (at_declarator c k)) (declarator_yield d r) ≡ go (Some (end_declarator d c k)) r
  run_declarator (declared_name p x) c k r ok = one _ _ _ r (feed_name c k p x ok)
  run_declarator (pointer p qs d) c k r ok =
      one _ _ _ _ (feed_star c k p) ∙ run_qualifiers qs p c k _ ∙ run_declarator d (starred p qs c) k r ok
  run_declarator (parenthesized_declarator p d q) c k r ok =
      one _ _ _ _ (feed_declarator_paren c k p) ∙ run_declarator d (opened p c) k _ ok ∙ next_declarator d (opened p c) k (token RightParen q) r refl
  run_declarator (array d p n q) c k r ok =
      run_declarator d c k _ ok.0 ∙ direct_step d c k _ ok.1 ∙ read_direct d c k _ _ ∙ run_length n (of_declarator d c k) p q r ok.2
  run_declarator (function d p ps q) c k r ok =
      run_declarator d c k _ ok.0 ∙ direct_step d c k _ ok.1 ∙ read_direct d c k _ _
      ∙ run_parameters ps (at_parameters (of_declarator d c k) p) (of_declarator d c k) p q r ok.2
      (λ l ts. read_parameters (of_declarator d c k) p (token RightParen l) ts) (parameters_start (of_declarator d c k) p)

  -- the declarator of a parameter, while it may still be an abstract one
  run_parameter_declarator : (d : Declarator) (c : Chain) (ps : EarlierParameters) (s : Specifiers) (k : Suffixed) (l : Place) (r : List Token)
      → DeclaratorOk (suffixed_names k) d
      → go (Some (at_abstract c (parameter_abstract ps s k l))) (declarator_yield d r) ≡ go (Some (end_declarator d c (parameter_context ps s k l))) r
  run_parameter_declarator (declared_name p x) c ps s k l r ok = one _ _ _ r (feed_parameter_name c ps s k l p x ok)
  run_parameter_declarator (pointer p qs d) c ps s k l r ok =
      one _ _ _ _ (feed_abstract_star c (parameter_abstract ps s k l) p) ∙ run_abstract_qualifiers qs p c (parameter_abstract ps s k l) _
      ∙ run_parameter_declarator d (starred p qs c) ps s k l r ok
  run_parameter_declarator (parenthesized_declarator p d q) c ps s k l r ok =
      one _ _ _ _ (feed_paren c (parameter_abstract ps s k l) p)
      ∙ starts _ _ _ (opened_declarator c p (parameter_abstract ps s k l)) _ (declarator_first (suffixed_names k) d _ ok)
      ∙ run_parameter_declarator d (opened p c) ps s k l _ ok ∙ next_declarator d (opened p c) (parameter_context ps s k l) (token RightParen q) r refl
  run_parameter_declarator (array d p n q) c ps s k l r ok =
      run_parameter_declarator d c ps s k l _ ok.0 ∙ direct_step d c (parameter_context ps s k l) _ ok.1 ∙ read_direct d c (parameter_context ps s k l) _ _
      ∙ run_length n (of_declarator d c (parameter_context ps s k l)) p q r ok.2
  run_parameter_declarator (function d p qs q) c ps s k l r ok =
      run_parameter_declarator d c ps s k l _ ok.0 ∙ direct_step d c (parameter_context ps s k l) _ ok.1 ∙ read_direct d c (parameter_context ps s k l) _ _
      ∙ run_parameters qs (at_parameters (of_declarator d c (parameter_context ps s k l)) p) (of_declarator d c (parameter_context ps s k l)) p q r ok.2
      (λ m ts. read_parameters (of_declarator d c (parameter_context ps s k l)) p (token RightParen m) ts)
      (parameters_start (of_declarator d c (parameter_context ps s k l)) p)

  run_length : (n : Length) (k : Suffixed) (p q : Place) (r : List Token) → LengthOk (suffixed_names k) n
      → go (Some (at_length k p)) (length_yield n (token RightBracket q ∷ r)) ≡ go (Some (array_of k p n q)) r
  run_length no_length k p q r ok = read_length k p _ r
  run_length (length_of e) k p q r ok =
      starts _ _ _ (length_start k p) _ (expression_first _ e _ ok.0)
      ∙ run_expression e (whole (in_length k p)) _ ok.0 ok.1 ∙ next_expression _ e (whole (in_length k p)) (token RightBracket q) r ok.0 refl (tail_positive e)

  run_abstract : (a : AbstractDeclarator) (c : Chain) (k : AbstractContext) (r : List Token) → AbstractOk (abstract_context_names k) a
      → go (Some (at_abstract c k)) (abstract_yield a r) ≡ go (Some (end_abstract a c k)) r
  run_abstract no_declarator c k r ok = refl
  run_abstract (abstract_pointer p qs a) c k r ok =
      one _ _ _ _ (feed_abstract_star c k p) ∙ run_abstract_qualifiers qs p c k _ ∙ run_abstract a (starred p qs c) k r ok
  run_abstract (parenthesized_abstract p a q) c k r ok =
      one _ _ _ _ (feed_paren c k p) ∙ starts _ _ _ (opened_abstract c p k) _ (abstract_first a _ ok.1) ∙ run_abstract a (opened p c) k _ ok.0
      ∙ next_abstract a (opened p c) k (token RightParen q) r refl ∙ then_go _ _ _ r ok.1
  run_abstract (abstract_array a p n q) c k r ok =
      run_abstract a c k _ ok.0 ∙ abstract_bracket a c k p _ ok.1 ∙ run_length n (of_abstract a c k) p q r ok.2
  run_abstract (abstract_function a p ps q) c k r ok =
      run_abstract a c k _ ok.0 ∙ abstract_paren a c k p _ ok.1
      ∙ run_parameters ps (at_function a c k p) (of_abstract a c k) p q r ok.2 (λ l ts. function_none a c k p l ts) (function_parameters a c k p)

  run_parameters : (ps : Parameters) (s : State) (k : Suffixed) (p q : Place) (r : List Token) → ParametersOk (suffixed_names k) ps
      → ((l : Place) (ts : List Token) → go (Some s) (token RightParen l ∷ ts) ≡ go (Some (function_of k p no_parameters l)) ts)
      → ((t : Token) → begins_type (suffixed_names k) (kind_of t) ≡ true → feed s t ≡ feed (at_specifiers no_specifiers (in_parameter no_earlier k p)) t)
      → go (Some s) (parameters_yield ps (token RightParen q ∷ r)) ≡ go (Some (function_of k p ps q)) r
  run_parameters no_parameters s k p q r ok none some = none q r
  run_parameters (void_parameter l) s k p q r ok none some =
      starts (begins_type (suffixed_names k)) s _ some (token (TypeKeyword Void) l ∷ token RightParen q ∷ r) refl
      ∙ read_specifiers no_specifiers (in_parameter no_earlier k p) _ _ ∙ read_specifiers _ (in_parameter no_earlier k p) _ r
  run_parameters (parameters ps x) s k p q r ok none some =
      starts (begins_type (suffixed_names k)) s _ some _ (earlier_first _ ps x _ ok.0 ok.1) ∙ run_earlier ps k p _ ok.0
      ∙ run_parameter x ps k p (token RightParen q) r ok.1 tt ∙ ap (λ xs. go (Some (function_of k p xs q)) r) (list_of_parameters ps x ok.2)

  run_earlier : (ps : EarlierParameters) (k : Suffixed) (p : Place) (r : List Token) → EarlierOk (suffixed_names k) ps
      → go (Some (at_specifiers no_specifiers (in_parameter no_earlier k p))) (earlier_yield ps r) ≡ go (Some (at_specifiers no_specifiers (in_parameter ps k p))) r
  run_earlier no_earlier k p r ok = refl
  run_earlier (earlier ps x q) k p r ok = run_earlier ps k p _ ok.0 ∙ run_parameter x ps k p (token Comma q) r ok.1 tt

  run_parameter : (x : Parameter) (ps : EarlierParameters) (k : Suffixed) (p : Place) (t : Token) (r : List Token) → ParameterOk (suffixed_names k) x
      → EndsParameter t → go (Some (at_specifiers no_specifiers (in_parameter ps k p))) (parameter_yield x (t ∷ r)) ≡ go (on_parameter ps k p x t) r
  run_parameter (named_parameter s d) ps k p t r ok e =
      run_specifiers s (in_parameter ps k p) _ ok.0 (plain_storable s (in_parameter ps k p) ok.2)
      ∙ starts ends_specifiers _ _ (λ u h. parameter_start ps s k p u ok.1 h) _ (declarator_ends d _)
      ∙ run_parameter_declarator d top ps s k p _ ok.3 ∙ next_declarator d top (parameter_context ps s k p) t r (ends_no_suffix t e)
  run_parameter (unnamed_parameter s a) ps k p t r ok e =
      run_specifiers s (in_parameter ps k p) _ ok.0 (plain_storable s (in_parameter ps k p) ok.2)
      ∙ starts ends_specifiers _ _ (λ u h. parameter_start ps s k p u ok.1 h) _ (abstract_ends a (t ∷ r) (ends_first t r e))
      ∙ run_abstract a top (parameter_abstract ps s k p) _ ok.3 ∙ next_abstract a top (parameter_abstract ps s k p) t r (ends_closes t e)

-- a whole expression and the token behind it
pub run_to : (e : Expression) (k : ExpressionContext) (t : Token) (r : List Token) → ExpressionOk (expression_context_names k) e → need k ≤ level e
    → is_postfix (kind_of t) ≡ false → binds (kind_of t) < tail_need e → go (Some (at_expression k)) (expression_yield e (t ∷ r)) ≡ go (on_expression e k t) r
run_to e k t r ok fits np h = run_expression e k (t ∷ r) ok fits ∙ next_expression _ e k t r ok np h
