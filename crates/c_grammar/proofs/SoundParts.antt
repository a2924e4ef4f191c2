-- One token of an expression, of specifiers or of a declarator: what is read is of the grammar, and spells the tokens.
use Rattle.std.proofs.Common.{◌≡◌, ◌≤◌, Bool, true, false, cond, List, ◌∷◌, Option, Some, None, refl, sym, ◌∙◌, ap, arith, lit≤}
use Rattle.c_grammar.specs.Tokens.{Identifier, Place, Star, Equals, TypeWord, Void, CompositeWord, Name, Op, Assignment, TypeKeyword, Qualify, Storage, Composite, Inline, Enum, LeftBrace, RightBrace, LeftParen, RightParen, LeftBracket, RightBracket, Semicolon, Comma, Token, token}
use Rattle.c_grammar.specs.Derivations.{first_word, next_word, Trailing, no_comma, comma, Expression, TypeName, type_name, Specifiers, no_specifiers, type_words, composite_reference, enum_reference, Members, Declarators, no_declarators, Enumerator, enumerator, Enumerators, no_enumerators, enumerators, Declarator, pointer, Length, AbstractDeclarator, no_declarator, abstract_pointer, Parameters, no_parameters, EarlierParameters, no_earlier, earlier, Parameter, named_parameter, unnamed_parameter, no_initializer, InitDeclarator, init_declarator, InitDeclarators, no_init_declarators, specifiers_alone, declaration}
use Rattle.c_grammar.specs.Yield.{trailing_yield, expression_yield, type_name_yield, specifiers_yield, members_yield, declarators_yield, enumerator_yield, enumerators_yield, declarator_yield, length_yield, abstract_yield, parameters_yield, earlier_yield, parameter_yield, init_declarator_yield}
use Rattle.c_grammar.specs.Spelling.{is_typedef, declares_types, names_type, has_type, has_storage, is_plain, has_members, is_direct, is_direct_abstract, is_some_declarator, is_function_head, level, ExpressionOk, TypeNameOk, SpecifiersOk, MembersOk, EnumeratorOk, EnumeratorsOk, DeclaratorOk, LengthOk, AbstractOk, ParametersOk, EarlierOk, ParameterOk, InitDeclaratorOk}
use Rattle.c_grammar.specs.Contexts.{DeclarationContext, in_file, in_items, in_for_head, StatementHole, of_case, Frame, step_frame, unary_frame, sizeof_frame, cast_frame, binary_frame, conditional_frame, assignment_frame, Chain, top, starred, opened, ExpressionContext, operand, whole, Hole, in_statement, Suffixed, of_declarator, of_abstract, SpecifiersContext, in_declaration, in_member, in_parameter, in_type_name, TypeNameContext, in_cast, in_sizeof, CompositeContext, in_composite, EnumContext, in_enumeration, DeclaratorContext, init_context, member_context, parameter_context, AbstractContext, parameter_abstract, type_name_abstract, declaration_context_names, init_context_names, suffixed_names, specifiers_context_names, type_name_context_names, composite_context_names, enum_context_names, declarator_context_names, abstract_context_names, complete, frame_need, statement_hole_need, hole_need, need}
use Rattle.c_grammar.specs.Machine.{State, at_specifiers, begins_type, declared, declared_alone, array_of, function_of, lone_list, list_of, type_named, close_composite, close_enumeration, on_init_declarator, kind_of, takes_storage, on_word, on_body, on_declarator, on_parameter, on_type_named, on_abstract_end, close_abstract, climb_abstract, on_parameter_name, on_abstract, on_declarators, after_specifiers, on_specifiers, on_composite, on_enum, on_members, on_constant_name, on_enumerator, on_after_enumerator, on_enumerator_comma, on_starred, on_starred_abstract, on_function_body, on_declared, on_member, on_declarator_end, close_declarator, climb, on_direct, on_direct_abstract, on_parameters, on_opened_next, on_opened}
use Rattle.c_grammar.proofs.Steps.{precedence-small}
use Rattle.c_grammar.proofs.Valid.{declaration_before, init_before, frame_before, chain_before, suffixed_before, specifiers_before, type_name_before, composite_before, enum_before, declarator_before, abstract_before, DeclarationContextOk, InitContextOk, FrameOk, frame_level, Storable, SuffixedOk, SpecifiersContextOk, TypeNameContextOk, CompositeContextOk, EnumContextOk, DeclaratorContextOk, AbstractContextOk, Has}

pub cond_has : (f : List Token → List Token) (b : Bool) (x y : Option State) → (b ≡ true → Has f x) → (b ≡ false → Has f y) → Has f (cond b x y)
cond_has f true x y h g = h refl
cond_has f false x y h g = g refl

-- the same tokens, told otherwise
pub has_same : (f g : List Token → List Token) (o : Option State) → ((r : List Token) → f r ≡ g r) → Has g o → Has f o
has_same f g None e h = tt
has_same f g (Some s) e h = (h.0, λ r. e r ∙ h.1 r)

pub storable_start : (k : SpecifiersContext) → Storable no_specifiers k
storable_start k h = let bad : true ≡ false = h in cc

pub storable_plain : (s : Specifiers) (k : SpecifiersContext) → takes_storage k ≡ false → Storable s k → is_plain s ≡ true
storable_plain s k h st = plain_is (is_plain s) (λ e. let bad : true ≡ false = sym (st e) ∙ h in cc)
  where
    plain_is : (b : Bool) → (b ≡ false → ⊥) → b ≡ true
    plain_is true n = refl
    plain_is false n = absurd (n refl)

-- ## Levels

frame_need_small : (f : Frame) → frame_need f ≤ 14
frame_need_small (step_frame p o) = lit≤ tt
frame_need_small (unary_frame p o) = lit≤ tt
frame_need_small (sizeof_frame p) = lit≤ tt
frame_need_small (cast_frame p t q) = lit≤ tt
frame_need_small (binary_frame a p o) = omega (arith, precedence-small o)
frame_need_small (conditional_frame c p a q) = lit≤ tt
frame_need_small (assignment_frame a p o) = lit≤ tt

statement_need_small : (h : StatementHole) → statement_hole_need h ≤ 14
statement_need_small (of_case k p) = lit≤ tt
statement_need_small _ = lit≤ tt

hole_need_small : (h : Hole) → hole_need h ≤ 14
hole_need_small (in_statement h) = statement_need_small h
hole_need_small _ = lit≤ tt

pub need_small : (k : ExpressionContext) → need k ≤ 14
need_small (operand f k) = frame_need_small f
need_small (whole h) = hole_need_small h

pub level_complete : (f : Frame) (e : Expression) → level (complete f e) ≡ frame_level f
level_complete (step_frame p o) e = refl
level_complete (unary_frame p o) e = refl
level_complete (sizeof_frame p) e = refl
level_complete (cast_frame p t q) e = refl
level_complete (binary_frame a p o) e = refl
level_complete (conditional_frame c p a q) e = refl
level_complete (assignment_frame a p o) e = refl

pub complete_ok : (ns : List Identifier) (f : Frame) (e : Expression) → FrameOk ns f → ExpressionOk ns e → frame_need f ≤ level e → ExpressionOk ns (complete f e)
complete_ok ns (step_frame p o) e fok ok h = (ok, h)
complete_ok ns (unary_frame p o) e fok ok h = (fok, ok, h)
complete_ok ns (sizeof_frame p) e fok ok h = (ok, h)
complete_ok ns (cast_frame p t q) e fok ok h = (fok, ok, h)
complete_ok ns (binary_frame a p o) e fok ok h = (fok.0, fok.1, fok.2, ok, omega (arith, h))
complete_ok ns (conditional_frame c p a q) e fok ok h = (fok.0, fok.1, fok.2, ok, h)
complete_ok ns (assignment_frame a p o) e fok ok h = (fok.0, fok.1, ok)

pub complete_before : (f : Frame) (e : Expression) (r : List Token) → frame_before f (expression_yield e r) ≡ expression_yield (complete f e) r
complete_before (step_frame p o) e r = refl
complete_before (unary_frame p o) e r = refl
complete_before (sizeof_frame p) e r = refl
complete_before (cast_frame p t q) e r = refl
complete_before (binary_frame a p o) e r = refl
complete_before (conditional_frame c p a q) e r = refl
complete_before (assignment_frame a p o) e r = refl

-- ## Whole parts

pub array_has : (k : Suffixed) (p : Place) (n : Length) (q : Place) → SuffixedOk k → LengthOk (suffixed_names k) n
    → Has (λ r. suffixed_before k (token LeftBracket p ∷ length_yield n (token RightBracket q ∷ r))) (Some (array_of k p n q))
array_has (of_declarator d c k) p n q kok ok = ((kok.0, (kok.1, kok.2, ok), refl), λ r. refl)
array_has (of_abstract a c k) p n q kok ok = ((kok.0, (kok.1, kok.2, ok), refl), λ r. refl)

pub function_has : (k : Suffixed) (p : Place) (ps : Parameters) (q : Place) → SuffixedOk k → ParametersOk (suffixed_names k) ps
    → Has (λ r. suffixed_before k (token LeftParen p ∷ parameters_yield ps (token RightParen q ∷ r))) (Some (function_of k p ps q))
function_has (of_declarator d c k) p ps q kok ok = ((kok.0, (kok.1, kok.2, ok), refl), λ r. refl)
function_has (of_abstract a c k) p ps q kok ok = ((kok.0, (kok.1, kok.2, ok), refl), λ r. refl)

lone_list_yield : (s : Specifiers) (r : List Token) → specifiers_yield s r ≡ parameters_yield (lone_list s) r
lone_list_yield (type_words no_specifiers (first_word p Void)) r = refl
lone_list_yield _ r = refl

list_of_yield : (ps : EarlierParameters) (x : Parameter) (r : List Token) → earlier_yield ps (parameter_yield x r) ≡ parameters_yield (list_of ps x) r
list_of_yield no_earlier (unnamed_parameter s no_declarator) r = lone_list_yield s r
list_of_yield _ _ r = refl

lone_list_ok : (ns : List Identifier) (s : Specifiers) → ParameterOk ns (unnamed_parameter s no_declarator) → ParametersOk ns (lone_list s)
lone_list_ok ns (type_words no_specifiers (first_word p Void)) ok = tt
lone_list_ok ns _ ok = (tt, ok, refl)

list_of_ok : (ns : List Identifier) (ps : EarlierParameters) (x : Parameter) → EarlierOk ns ps → ParameterOk ns x → ParametersOk ns (list_of ps x)
list_of_ok ns no_earlier (unnamed_parameter s no_declarator) pok ok = lone_list_ok ns s ok
list_of_ok ns _ _ pok ok = (pok, ok, refl)

pub type_named_has : (k : TypeNameContext) (t : TypeName) (q : Place) → TypeNameContextOk k → TypeNameOk (type_name_context_names k) t
    → Has (λ r. type_name_before k (type_name_yield t (token RightParen q ∷ r))) (Some (type_named k t q))
type_named_has (in_cast p k) t q kok ok = ((kok.0, ok, kok.1), λ r. refl)
type_named_has (in_sizeof p l k) t q kok ok = ((kok, ok, lit≤ tt), λ r. refl)

pub composite_has : (k : CompositeContext) (ms : Members) (l : Place) → CompositeContextOk k → MembersOk (composite_context_names k) ms → has_members ms ≡ true
    → Has (λ r. composite_before k (members_yield ms (token RightBrace l ∷ r))) (Some (close_composite k ms l))
composite_has (in_composite s p w t q k) ms l kok ok h = ((kok.0, (kok.1, kok.2, ok, h), kok.3), λ r. refl)

pub enumeration_has : (k : EnumContext) (es : Enumerators) (e : Enumerator) (c : Trailing) (l : Place) → EnumContextOk k
    → EnumeratorsOk (enum_context_names k) es → EnumeratorOk (enum_context_names k) e
    → Has (λ r. enum_before k (enumerators_yield es (enumerator_yield e (trailing_yield c (token RightBrace l ∷ r))))) (Some (close_enumeration k es e c l))
enumeration_has (in_enumeration s p t q k) es e c l kok esok ok = ((kok.0, (kok.1, kok.2, esok, ok), kok.3), λ r. refl)

-- ## Declarators

pub on_declarator_has : (c : Chain) (k : DeclaratorContext) (t : Token) → DeclaratorContextOk k
    → Has (λ r. declarator_before k (chain_before c (t ∷ r))) (on_declarator c k t)
on_declarator_has c k (token (Name x) p) kok = cond_has _ (is_typedef (declarator_context_names k) x) _ _ (λ b. tt) (λ b. ((kok, b, refl), λ r. refl))
on_declarator_has c k (token (Op Star) p) kok = (kok, λ r. refl)
on_declarator_has c k (token LeftParen p) kok = (kok, λ r. refl)
on_declarator_has c k _ kok = tt

pub on_parameter_has : (ps : EarlierParameters) (k : Suffixed) (p : Place) (x : Parameter) (t : Token) → SuffixedOk k → EarlierOk (suffixed_names k) ps
    → ParameterOk (suffixed_names k) x
    → Has (λ r. suffixed_before k (token LeftParen p ∷ earlier_yield ps (parameter_yield x (t ∷ r)))) (on_parameter ps k p x t)
on_parameter_has ps k p x (token Comma q) kok pok ok = (((kok, (pok, ok)), tt, storable_start (in_parameter (earlier ps x q) k p)), λ r. refl)
on_parameter_has ps k p x (token RightParen q) kok pok ok =
    has_same _ (λ r. suffixed_before k (token LeftParen p ∷ parameters_yield (list_of ps x) (token RightParen q ∷ r))) (Some (function_of k p (list_of ps x) q))
    (λ r. ap (λ ts. suffixed_before k (token LeftParen p ∷ ts)) (list_of_yield ps x (token RightParen q ∷ r)))
    (function_has k p (list_of ps x) q kok (list_of_ok (suffixed_names k) ps x pok ok))
on_parameter_has ps k p x _ kok pok ok = tt

on_type_named_has : (k : TypeNameContext) (n : TypeName) (t : Token) → TypeNameContextOk k → TypeNameOk (type_name_context_names k) n
    → Has (λ r. type_name_before k (type_name_yield n (t ∷ r))) (on_type_named k n t)
on_type_named_has k n (token RightParen q) kok ok = type_named_has k n q kok ok
on_type_named_has k n _ kok ok = tt

on_abstract_end_has : (a : AbstractDeclarator) (k : AbstractContext) (t : Token) → AbstractContextOk k → AbstractOk (abstract_context_names k) a
    → Has (λ r. abstract_before k (abstract_yield a (t ∷ r))) (on_abstract_end a k t)
on_abstract_end_has a (parameter_abstract ps s k p) t kok ok =
    on_parameter_has ps k p (unnamed_parameter s a) t kok.0 kok.1 (kok.2, kok.3, kok.4, ok)
on_abstract_end_has a (type_name_abstract s k) t kok ok = on_type_named_has k (type_name s a) t kok.0 (kok.1, kok.2, kok.3, ok)

close_abstract_has : (a : AbstractDeclarator) (p : Place) (c : Chain) (k : AbstractContext) (t : Token) → AbstractContextOk k
    → AbstractOk (abstract_context_names k) a
    → Has (λ r. abstract_before k (chain_before c (token LeftParen p ∷ abstract_yield a (t ∷ r)))) (close_abstract a p c k t)
close_abstract_has a p c k (token RightParen q) kok ok =
    cond_has _ (is_some_declarator a) _ _ (λ b. ((kok, (ok, b), refl), λ r. refl)) (λ b. tt)
close_abstract_has a p c k _ kok ok = tt

pub climb_abstract_has : (a : AbstractDeclarator) (c : Chain) (k : AbstractContext) (t : Token) → AbstractContextOk k → AbstractOk (abstract_context_names k) a
    → Has (λ r. abstract_before k (chain_before c (abstract_yield a (t ∷ r)))) (climb_abstract a c k t)
climb_abstract_has a top k t kok ok = on_abstract_end_has a k t kok ok
climb_abstract_has a (starred p qs c) k t kok ok = climb_abstract_has (abstract_pointer p qs a) c k t kok ok
climb_abstract_has a (opened p c) k t kok ok = close_abstract_has a p c k t kok ok

on_parameter_name_has : (c : Chain) (k : AbstractContext) (x : Identifier) (p : Place) → AbstractContextOk k
    → Has (λ r. abstract_before k (chain_before c (token (Name x) p ∷ r))) (on_parameter_name c k x p)
on_parameter_name_has c (parameter_abstract ps s k l) x p kok = cond_has _ (is_typedef (suffixed_names k) x) _ _ (λ b. tt) (λ b. ((kok, b, refl), λ r. refl))
on_parameter_name_has c (type_name_abstract s k) x p kok = tt

pub on_abstract_has : (c : Chain) (k : AbstractContext) (t : Token) → AbstractContextOk k
    → Has (λ r. abstract_before k (chain_before c (t ∷ r))) (on_abstract c k t)
on_abstract_has c k (token (Name x) p) kok = on_parameter_name_has c k x p kok
on_abstract_has c k (token (Op Star) p) kok = (kok, λ r. refl)
on_abstract_has c k (token LeftParen p) kok = (kok, λ r. refl)
on_abstract_has c k (token LeftBracket p) kok = ((kok, tt, refl), λ r. refl)
on_abstract_has c k t kok = climb_abstract_has no_declarator c k t kok tt

-- ## Specifiers

declared_alone_has : (k : DeclarationContext) (s : Specifiers) (p : Place) → DeclarationContextOk k → SpecifiersOk (declaration_context_names k) s → has_type s ≡ true
    → Has (λ r. declaration_before k (specifiers_yield s (token Semicolon p ∷ r))) (declared_alone k (specifiers_alone s p))
declared_alone_has (in_file f) s p kok ok h = ((kok, (ok, h)), λ r. refl)
declared_alone_has (in_items is k) s p kok ok h = ((kok.0, (kok.1, (ok, h))), λ r. refl)
declared_alone_has (in_for_head q l k) s p kok ok h = tt

on_declarators_has : (s : Specifiers) (k : DeclarationContext) (t : Token) → DeclarationContextOk k → SpecifiersOk (declaration_context_names k) s
    → has_type s ≡ true → Has (λ r. declaration_before k (specifiers_yield s (t ∷ r))) (on_declarators s k t)
on_declarators_has s k (token Semicolon p) kok ok h = declared_alone_has k s p kok ok h
on_declarators_has s k t kok ok h = on_declarator_has top (init_context s no_init_declarators k) t (kok, ok, h, tt)

pub after_specifiers_has : (s : Specifiers) (k : SpecifiersContext) (t : Token) → SpecifiersContextOk k → SpecifiersOk (specifiers_context_names k) s
    → Storable s k → has_type s ≡ true → Has (λ r. specifiers_before k (specifiers_yield s (t ∷ r))) (after_specifiers s k t)
after_specifiers_has s (in_declaration k) t kok ok st h = on_declarators_has s k t kok ok h
after_specifiers_has s (in_member ms k) t kok ok st h =
    on_declarator_has top (member_context ms s no_declarators k) t (kok.0, kok.1, ok, h, storable_plain s (in_member ms k) refl st, tt)
after_specifiers_has s (in_parameter ps k p) t kok ok st h =
    on_abstract_has top (parameter_abstract ps s k p) t (kok.0, kok.1, ok, h, storable_plain s (in_parameter ps k p) refl st)
after_specifiers_has s (in_type_name k) t kok ok st h =
    on_abstract_has top (type_name_abstract s k) t (kok, ok, h, storable_plain s (in_type_name k) refl st)

on_first_word_has : (s : Specifiers) (k : SpecifiersContext) (w : TypeWord) (p : Place) → SpecifiersContextOk k → SpecifiersOk (specifiers_context_names k) s
    → Storable s k → Has (λ r. specifiers_before k (specifiers_yield s (token (TypeKeyword w) p ∷ r))) (cond (has_type s) None (Some (at_specifiers (type_words s (first_word p w)) k)))
on_first_word_has s k w p kok ok st = cond_has _ (has_type s) _ _ (λ b. tt) (λ b. ((kok, (ok, b, refl), st), λ r. refl))

on_word_has : (s : Specifiers) (k : SpecifiersContext) (w : TypeWord) (p : Place) → SpecifiersContextOk k → SpecifiersOk (specifiers_context_names k) s → Storable s k
    → Has (λ r. specifiers_before k (specifiers_yield s (token (TypeKeyword w) p ∷ r))) (on_word s k w p)
on_word_has (type_words s ws) k w p kok ok st = cond_has _ (names_type (next_word ws p w)) _ _ (λ b. ((kok, (ok.0, ok.1, b), st), λ r. refl)) (λ b. tt)
on_word_has s k w p kok ok st = on_first_word_has s k w p kok ok st

on_body_has : (s : Specifiers) (k : SpecifiersContext) (l : Place) → SpecifiersContextOk k → SpecifiersOk (specifiers_context_names k) s → Storable s k
    → Has (λ r. specifiers_before k (specifiers_yield s (token LeftBrace l ∷ r))) (on_body s k l)
on_body_has (composite_reference s p w q x) k l kok ok st = (((kok, ok.0, ok.1, st), tt), λ r. refl)
on_body_has (enum_reference s p q x) k l kok ok st = ((kok, ok.0, ok.1, st), λ r. refl)
on_body_has _ k l kok ok st = tt

specifiers_or_none : (s : Specifiers) (k : SpecifiersContext) (t : Token) → SpecifiersContextOk k → SpecifiersOk (specifiers_context_names k) s → Storable s k
    → Has (λ r. specifiers_before k (specifiers_yield s (t ∷ r))) (cond (has_type s) (after_specifiers s k t) None)
specifiers_or_none s k t kok ok st = cond_has _ (has_type s) _ _ (λ b. after_specifiers_has s k t kok ok st b) (λ b. tt)

pub on_specifiers_has : (s : Specifiers) (k : SpecifiersContext) (t : Token) → SpecifiersContextOk k → SpecifiersOk (specifiers_context_names k) s → Storable s k
    → Has (λ r. specifiers_before k (specifiers_yield s (t ∷ r))) (on_specifiers s k t)
on_specifiers_has s k (token (Name x) p) kok ok st =
    cond_has _ (has_type s) _ _ (λ b. after_specifiers_has s k (token (Name x) p) kok ok st b)
    (λ b. cond_has _ (is_typedef (specifiers_context_names k) x) _ _ (λ h. ((kok, (ok, b, h), st), λ r. refl)) (λ h. tt))
on_specifiers_has s k (token (TypeKeyword w) p) kok ok st = on_word_has s k w p kok ok st
on_specifiers_has s k (token (Qualify q) p) kok ok st = ((kok, ok, st), λ r. refl)
on_specifiers_has s k (token (Storage w) p) kok ok st =
    cond_has _ (takes_storage k) _ _ (λ a. cond_has _ (has_storage s) _ _ (λ b. tt) (λ b. ((kok, (ok, b), λ _. a), λ r. refl))) (λ a. tt)
on_specifiers_has s k (token Inline p) kok ok st = cond_has _ (takes_storage k) _ _ (λ a. ((kok, ok, λ _. a), λ r. refl)) (λ a. tt)
on_specifiers_has s k (token (Composite w) p) kok ok st = cond_has _ (has_type s) _ _ (λ b. tt) (λ b. ((kok, ok, b, st), λ r. refl))
on_specifiers_has s k (token Enum p) kok ok st = cond_has _ (has_type s) _ _ (λ b. tt) (λ b. ((kok, ok, b, st), λ r. refl))
on_specifiers_has s k (token LeftBrace p) kok ok st = on_body_has s k p kok ok st
on_specifiers_has s k t kok ok st = specifiers_or_none s k t kok ok st

pub on_composite_has : (s : Specifiers) (p : Place) (w : CompositeWord) (k : SpecifiersContext) (t : Token) → SpecifiersContextOk k
    → SpecifiersOk (specifiers_context_names k) s → has_type s ≡ false → Storable s k
    → Has (λ r. specifiers_before k (specifiers_yield s (token (Composite w) p ∷ t ∷ r))) (on_composite s p w k t)
on_composite_has s p w k (token (Name x) q) kok ok h st = ((kok, (ok, h), st), λ r. refl)
on_composite_has s p w k (token LeftBrace q) kok ok h st = (((kok, ok, h, st), tt), λ r. refl)
on_composite_has s p w k _ kok ok h st = tt

pub on_enum_has : (s : Specifiers) (p : Place) (k : SpecifiersContext) (t : Token) → SpecifiersContextOk k → SpecifiersOk (specifiers_context_names k) s
    → has_type s ≡ false → Storable s k → Has (λ r. specifiers_before k (specifiers_yield s (token Enum p ∷ t ∷ r))) (on_enum s p k t)
on_enum_has s p k (token (Name x) q) kok ok h st = ((kok, (ok, h), st), λ r. refl)
on_enum_has s p k (token LeftBrace q) kok ok h st = ((kok, ok, h, st), λ r. refl)
on_enum_has s p k _ kok ok h st = tt

pub on_members_has : (ms : Members) (k : CompositeContext) (t : Token) → CompositeContextOk k → MembersOk (composite_context_names k) ms
    → Has (λ r. composite_before k (members_yield ms (t ∷ r))) (on_members ms k t)
on_members_has ms k (token RightBrace q) kok ok = cond_has _ (has_members ms) _ _ (λ b. composite_has k ms q kok ok b) (λ b. tt)
on_members_has ms k t kok ok = on_specifiers_has no_specifiers (in_member ms k) t (kok, ok) tt (storable_start (in_member ms k))

on_constant_name_has : (es : Enumerators) (k : EnumContext) (x : Identifier) (p : Place) → EnumContextOk k → EnumeratorsOk (enum_context_names k) es
    → Has (λ r. enum_before k (enumerators_yield es (token (Name x) p ∷ r))) (on_constant_name es k x p)
on_constant_name_has es k x p kok ok = cond_has _ (is_typedef (enum_context_names k) x) _ _ (λ b. tt) (λ b. ((kok, ok, b), λ r. refl))

pub on_enumerator_has : (k : EnumContext) (t : Token) → EnumContextOk k → Has (λ r. enum_before k (t ∷ r)) (on_enumerator k t)
on_enumerator_has k (token (Name x) p) kok = on_constant_name_has no_enumerators k x p kok tt
on_enumerator_has k _ kok = tt

pub on_after_enumerator_has : (es : Enumerators) (p : Place) (x : Identifier) (k : EnumContext) (t : Token) → EnumContextOk k
    → EnumeratorsOk (enum_context_names k) es → is_typedef (enum_context_names k) x ≡ false
    → Has (λ r. enum_before k (enumerators_yield es (token (Name x) p ∷ t ∷ r))) (on_after_enumerator es p x k t)
on_after_enumerator_has es p x k (token (Assignment Equals) q) kok ok h = ((kok, ok, h), λ r. refl)
on_after_enumerator_has es p x k (token Comma q) kok ok h = ((kok, ok, h), λ r. refl)
on_after_enumerator_has es p x k (token RightBrace q) kok ok h = enumeration_has k es (enumerator p x) no_comma q kok ok h
on_after_enumerator_has es p x k _ kok ok h = tt

pub on_enumerator_comma_has : (es : Enumerators) (e : Enumerator) (p : Place) (k : EnumContext) (t : Token) → EnumContextOk k
    → EnumeratorsOk (enum_context_names k) es → EnumeratorOk (enum_context_names k) e
    → Has (λ r. enum_before k (enumerators_yield es (enumerator_yield e (token Comma p ∷ t ∷ r)))) (on_enumerator_comma es e p k t)
on_enumerator_comma_has es e p k (token (Name x) q) kok esok ok = on_constant_name_has (enumerators es e p) k x q kok (esok, ok)
on_enumerator_comma_has es e p k (token RightBrace q) kok esok ok = enumeration_has k es e (comma p) q kok esok ok
on_enumerator_comma_has es e p k _ kok esok ok = tt

-- ## Behind declarators

declared_has : (k : DeclarationContext) (s : Specifiers) (ds : InitDeclarators) (d : InitDeclarator) (p : Place) → InitContextOk s ds k
    → InitDeclaratorOk (declares_types s) (init_context_names s ds k) d
    → Has (λ r. init_before s ds k (init_declarator_yield d (token Semicolon p ∷ r))) (Some (declared k (declaration s ds d p)))
declared_has (in_file f) s ds d p kok ok = ((kok.0, (kok.1, kok.2, kok.3, ok)), λ r. refl)
declared_has (in_items is k) s ds d p kok ok = ((kok.0.0, (kok.0.1, (kok.1, kok.2, kok.3, ok))), λ r. refl)
declared_has (in_for_head q l k) s ds d p kok ok = ((kok.0, ((kok.1, kok.2, kok.3, ok), refl)), λ r. refl)

pub on_init_declarator_has : (s : Specifiers) (ds : InitDeclarators) (k : DeclarationContext) (d : InitDeclarator) (t : Token) → InitContextOk s ds k
    → InitDeclaratorOk (declares_types s) (init_context_names s ds k) d
    → Has (λ r. init_before s ds k (init_declarator_yield d (t ∷ r))) (on_init_declarator s ds k d t)
on_init_declarator_has s ds k d (token Semicolon p) kok ok = declared_has k s ds d p kok ok
on_init_declarator_has s ds k d (token Comma p) kok ok = ((kok.0, kok.1, kok.2, (kok.3, ok)), λ r. refl)
on_init_declarator_has s ds k d _ kok ok = tt

on_function_body_has : (d : Declarator) (s : Specifiers) (ds : InitDeclarators) (k : DeclarationContext) (p : Place) → InitContextOk s ds k
    → DeclaratorOk (init_context_names s ds k) d
    → Has (λ r. init_before s ds k (declarator_yield d (token LeftBrace p ∷ r))) (on_function_body d s ds k p)
on_function_body_has d s no_init_declarators (in_file f) p kok ok =
    cond_has _ (is_function_head d) _ _
    (λ a. cond_has _ (declares_types s) _ _ (λ b. tt) (λ b. (((kok.0, kok.1, kok.2, b, ok, a), tt), λ r. refl))) (λ a. tt)
on_function_body_has d s _ _ p kok ok = tt

on_declared_has : (d : Declarator) (s : Specifiers) (ds : InitDeclarators) (k : DeclarationContext) (t : Token) → InitContextOk s ds k
    → DeclaratorOk (init_context_names s ds k) d → Has (λ r. init_before s ds k (declarator_yield d (t ∷ r))) (on_declared d s ds k t)
on_declared_has d s ds k (token (Assignment Equals) p) kok ok = ((kok, ok), λ r. refl)
on_declared_has d s ds k (token LeftBrace p) kok ok = on_function_body_has d s ds k p kok ok
on_declared_has d s ds k t kok ok = on_init_declarator_has s ds k (init_declarator d no_initializer) t kok (ok, tt)

on_member_has : (d : Declarator) (ms : Members) (s : Specifiers) (ds : Declarators) (k : CompositeContext) (t : Token)
    → DeclaratorContextOk (member_context ms s ds k) → DeclaratorOk (composite_context_names k) d
    → Has (λ r. composite_before k (members_yield ms (specifiers_yield s (declarators_yield ds (declarator_yield d (t ∷ r)))))) (on_member d ms s ds k t)
on_member_has d ms s ds k (token Comma p) kok ok = ((kok.0, kok.1, kok.2, kok.3, kok.4, (kok.5, ok)), λ r. refl)
on_member_has d ms s ds k (token Semicolon p) kok ok = ((kok.0, (kok.1, kok.2, kok.3, kok.4, kok.5, ok)), λ r. refl)
on_member_has d ms s ds k _ kok ok = tt

on_declarator_end_has : (d : Declarator) (k : DeclaratorContext) (t : Token) → DeclaratorContextOk k → DeclaratorOk (declarator_context_names k) d
    → Has (λ r. declarator_before k (declarator_yield d (t ∷ r))) (on_declarator_end d k t)
on_declarator_end_has d (init_context s ds k) t kok ok = on_declared_has d s ds k t kok ok
on_declarator_end_has d (member_context ms s ds k) t kok ok = on_member_has d ms s ds k t kok ok
on_declarator_end_has d (parameter_context ps s k p) t kok ok = on_parameter_has ps k p (named_parameter s d) t kok.0 kok.1 (kok.2, kok.3, kok.4, ok)

close_declarator_has : (d : Declarator) (p : Place) (c : Chain) (k : DeclaratorContext) (t : Token) → DeclaratorContextOk k
    → DeclaratorOk (declarator_context_names k) d
    → Has (λ r. declarator_before k (chain_before c (token LeftParen p ∷ declarator_yield d (t ∷ r)))) (close_declarator d p c k t)
close_declarator_has d p c k (token RightParen q) kok ok = ((kok, ok, refl), λ r. refl)
close_declarator_has d p c k _ kok ok = tt

climb_has : (d : Declarator) (c : Chain) (k : DeclaratorContext) (t : Token) → DeclaratorContextOk k → DeclaratorOk (declarator_context_names k) d
    → Has (λ r. declarator_before k (chain_before c (declarator_yield d (t ∷ r)))) (climb d c k t)
climb_has d top k t kok ok = on_declarator_end_has d k t kok ok
climb_has d (starred p qs c) k t kok ok = climb_has (pointer p qs d) c k t kok ok
climb_has d (opened p c) k t kok ok = close_declarator_has d p c k t kok ok

pub on_direct_has : (d : Declarator) (c : Chain) (k : DeclaratorContext) (t : Token) → DeclaratorContextOk k → DeclaratorOk (declarator_context_names k) d
    → is_direct d ≡ true → Has (λ r. declarator_before k (chain_before c (declarator_yield d (t ∷ r)))) (on_direct d c k t)
on_direct_has d c k (token LeftBracket p) kok ok h = ((kok, ok, h), λ r. refl)
on_direct_has d c k (token LeftParen p) kok ok h = ((kok, ok, h), λ r. refl)
on_direct_has d c k t kok ok h = climb_has d c k t kok ok

pub on_direct_abstract_has : (a : AbstractDeclarator) (c : Chain) (k : AbstractContext) (t : Token) → AbstractContextOk k
    → AbstractOk (abstract_context_names k) a → is_direct_abstract a ≡ true
    → Has (λ r. abstract_before k (chain_before c (abstract_yield a (t ∷ r)))) (on_direct_abstract a c k t)
on_direct_abstract_has a c k (token LeftBracket p) kok ok h = ((kok, ok, h), λ r. refl)
on_direct_abstract_has a c k (token LeftParen p) kok ok h = ((kok, ok, h), λ r. refl)
on_direct_abstract_has a c k t kok ok h = climb_abstract_has a c k t kok ok

pub on_starred_has : (c : Chain) (k : DeclaratorContext) (t : Token) → DeclaratorContextOk k
    → Has (λ r. declarator_before k (chain_before c (t ∷ r))) (on_starred c k t)
on_starred_has (starred p qs c) k (token (Qualify q) l) kok = (kok, λ r. refl)
on_starred_has c k t kok = on_declarator_has c k t kok

pub on_starred_abstract_has : (c : Chain) (k : AbstractContext) (t : Token) → AbstractContextOk k
    → Has (λ r. abstract_before k (chain_before c (t ∷ r))) (on_starred_abstract c k t)
on_starred_abstract_has (starred p qs c) k (token (Qualify q) l) kok = (kok, λ r. refl)
on_starred_abstract_has c k t kok = on_abstract_has c k t kok

on_opened_next_has : (c : Chain) (p : Place) (k : AbstractContext) (t : Token) → AbstractContextOk k
    → Has (λ r. abstract_before k (chain_before c (token LeftParen p ∷ t ∷ r))) (on_opened_next c p k t)
on_opened_next_has c p k t kok =
    cond_has _ (begins_type (abstract_context_names k) (kind_of t)) _ _
    (λ b. on_specifiers_has no_specifiers (in_parameter no_earlier (of_abstract no_declarator c k) p) t ((kok, tt, refl), tt) tt
    (storable_start (in_parameter no_earlier (of_abstract no_declarator c k) p))) (λ b. on_abstract_has (opened p c) k t kok)

pub on_opened_has : (c : Chain) (p : Place) (k : AbstractContext) (t : Token) → AbstractContextOk k
    → Has (λ r. abstract_before k (chain_before c (token LeftParen p ∷ t ∷ r))) (on_opened c p k t)
on_opened_has c p k (token RightParen q) kok = ((kok, (tt, refl, tt), refl), λ r. refl)
on_opened_has c p k t kok = on_opened_next_has c p k t kok

pub on_parameters_has : (k : Suffixed) (p : Place) (t : Token) → SuffixedOk k → Has (λ r. suffixed_before k (token LeftParen p ∷ t ∷ r)) (on_parameters k p t)
on_parameters_has k p (token RightParen q) kok = function_has k p no_parameters q kok tt
on_parameters_has k p t kok = on_specifiers_has no_specifiers (in_parameter no_earlier k p) t (kok, tt) tt (storable_start (in_parameter no_earlier k p))
