-- Expressions, specifiers and declarators that the grammar spells are read.
use Rattle.std.proofs.Common.{◌≡◌, ◌<◌, ◌≤◌, Bool, true, false, List, ◌∷◌, Some, refl, sym, ◌∙◌, ap, arith, lit≤, suc}
use Rattle.std.proofs.lemmas.Bool.{le-leb, lt-leb}
use Rattle.c_grammar.specs.Tokens.{Identifier, Place, Operator, Star, AssignmentOperator, TypeWord, Void, CompositeWord, Kind, Name, Op, Assignment, Step, Member, TypeKeyword, Qualify, LeftBrace, RightBrace, LeftParen, RightParen, LeftBracket, Comma, Question, Token, token}
use Rattle.c_grammar.specs.Derivations.{Qualifiers, no_qualifiers, qualified, TypeWords, first_word, next_word, Tag, no_tag, tag, Trailing, no_comma, comma, Expression, identifier, constant, parenthesized, index, call_without, call, member, step_after, step_before, unary, sizeof_expression, sizeof_type, cast, binary, conditional, assignment, Specifiers, no_specifiers, storage_class, qualifier, inlined, type_words, typedef_name, composite_reference, composite, enum_reference, enumeration, no_members, Enumerator, enumerator, enumerator_value, Enumerators, no_enumerators, enumerators, Declarator, declared_name, pointer, parenthesized_declarator, array, function, AbstractDeclarator, no_declarator, abstract_pointer, parenthesized_abstract, abstract_array, abstract_function, no_parameters, parameters, EarlierParameters, no_earlier, Parameter, unnamed_parameter}
use Rattle.c_grammar.specs.Yield.{qualifiers_yield, words_yield, tag_yield, trailing_yield}
use Rattle.c_grammar.specs.Spelling.{is_typedef, names_type, has_type, is_plain, is_direct, is_direct_abstract, is_void, is_lone_void, precedence, level, ExpressionOk, EnumeratorOk}
use Rattle.c_grammar.specs.Contexts.{Frame, step_frame, unary_frame, sizeof_frame, cast_frame, binary_frame, conditional_frame, assignment_frame, Chain, top, starred, opened, ExpressionContext, operand, whole, in_middle, in_enumerator, Suffixed, of_abstract, SpecifiersContext, in_parameter, in_composite, EnumContext, in_enumeration, DeclaratorContext, parameter_context, AbstractContext, parameter_abstract, suffixed_names, enum_context_names, declarator_context_names, abstract_context_names, complete, frame_need, hole_need, need}
use Rattle.c_grammar.specs.Machine.{State, at_specifiers, at_composite, at_enum, at_members, at_enumerator, after_enumerator, after_enumerator_comma, at_declarator, after_declarator, at_abstract, at_opened, after_abstract, at_length, at_parameters, at_expression, after_postfix, after_sizeof, begins_type, binds, function_of, lone_list, list_of, close_enumeration, on_operator, kind_of, on_expression, on_word, climb_abstract, climb, feed, go}
use Rattle.c_grammar.proofs.Steps.{precedence-small, tail_need, tail_positive, tail_big, cond_true, cond_false, one}
use Rattle.c_grammar.proofs.Valid.{Storable}
use Rattle.c_grammar.proofs.Words.{beginning_names_type}
use Rattle.c_grammar.proofs.Starts.{parameters_start, opened_parameters}

-- ## Behind a whole expression

abbrev pub end_expression : Expression → ExpressionContext → State
end_expression (step_before p o e) k = end_expression e (operand (step_frame p o) k)
end_expression (unary p o e) k = end_expression e (operand (unary_frame p o) k)
end_expression (sizeof_expression p e) k = end_expression e (operand (sizeof_frame p) k)
end_expression (sizeof_type p q t l) k = after_sizeof (sizeof_type p q t l) k
end_expression (cast p t q e) k = end_expression e (operand (cast_frame p t q) k)
end_expression (binary a p o b) k = end_expression b (operand (binary_frame a p o) k)
end_expression (conditional c p a q b) k = end_expression b (operand (conditional_frame c p a q) k)
end_expression (assignment a p o b) k = end_expression b (operand (assignment_frame a p o) k)
end_expression e k = after_postfix e k

-- the tokens that go on a postfix expression
abbrev pub is_postfix : Kind → Bool
is_postfix LeftBracket = true
is_postfix LeftParen = true
is_postfix (Member o) = true
is_postfix (Step o) = true
is_postfix _ = false

pub reduce : (f : Frame) (e : Expression) (k : ExpressionContext) (t : Token) → binds (kind_of t) < frame_need f
    → on_expression e (operand f k) t ≡ on_expression (complete f e) k t
reduce f e k t h = cond_false _ _ _ (lt-leb (frame_need f) (binds (kind_of t)) h)

pub feed_postfix : (e : Expression) (k : ExpressionContext) (t : Token) → is_postfix (kind_of t) ≡ false → feed (after_postfix e k) t ≡ on_expression e k t
unfolding feed
feed_postfix e k (token LeftBracket p) h = let bad : true ≡ false = h in cc
feed_postfix e k (token LeftParen p) h = let bad : true ≡ false = h in cc
feed_postfix e k (token (Member o) p) h = let bad : true ≡ false = h in cc
feed_postfix e k (token (Step o) p) h = let bad : true ≡ false = h in cc
feed_postfix e k (token _ p) h = refl

pub feed_sizeof : (e : Expression) (k : ExpressionContext) (t : Token) → feed (after_sizeof e k) t ≡ on_expression e k t
unfolding feed
feed_sizeof e k t = refl

-- A whole expression goes on as its last operand does.
pub weak_expression : (ns : List Identifier) (e : Expression) (k : ExpressionContext) (t : Token) → ExpressionOk ns e → is_postfix (kind_of t) ≡ false
    → binds (kind_of t) < tail_need e → feed (end_expression e k) t ≡ on_expression e k t
weak_expression ns (identifier p x) k t ok np h = feed_postfix _ k t np
weak_expression ns (constant p n) k t ok np h = feed_postfix _ k t np
weak_expression ns (parenthesized p e q) k t ok np h = feed_postfix _ k t np
weak_expression ns (index e p i q) k t ok np h = feed_postfix _ k t np
weak_expression ns (call_without f p q) k t ok np h = feed_postfix _ k t np
weak_expression ns (call f p xs e q) k t ok np h = feed_postfix _ k t np
weak_expression ns (member e p o q x) k t ok np h = feed_postfix _ k t np
weak_expression ns (step_after e p o) k t ok np h = feed_postfix _ k t np
weak_expression ns (sizeof_type p q n l) k t ok np h = feed_sizeof _ k t
weak_expression ns (step_before p o e) k t ok np h =
    weak_expression ns e (operand (step_frame p o) k) t ok.0 np (omega (arith, h, tail_big 13 e (omega (arith, ok.1)) (lit≤ tt)))
    ∙ reduce (step_frame p o) e k t (omega (arith, h))
weak_expression ns (unary p o e) k t ok np h =
    weak_expression ns e (operand (unary_frame p o) k) t ok.1 np (omega (arith, h, tail_big 13 e (omega (arith, ok.2)) (lit≤ tt)))
    ∙ reduce (unary_frame p o) e k t (omega (arith, h))
weak_expression ns (sizeof_expression p e) k t ok np h =
    weak_expression ns e (operand (sizeof_frame p) k) t ok.0 np (omega (arith, h, tail_big 13 e (omega (arith, ok.1)) (lit≤ tt)))
    ∙ reduce (sizeof_frame p) e k t (omega (arith, h))
weak_expression ns (cast p n q e) k t ok np h =
    weak_expression ns e (operand (cast_frame p n q) k) t ok.1 np (omega (arith, h, tail_big 13 e (omega (arith, ok.2)) (lit≤ tt)))
    ∙ reduce (cast_frame p n q) e k t (omega (arith, h))
weak_expression ns (binary a p o b) k t ok np h =
    weak_expression ns b (operand (binary_frame a p o) k) t ok.3 np
    (omega (arith, h, tail_big (suc (precedence o)) b (omega (arith, ok.4)) (omega (arith, precedence-small o)))) ∙ reduce (binary_frame a p o) b k t h
weak_expression ns (conditional c p a q b) k t ok np h =
    weak_expression ns b (operand (conditional_frame c p a q) k) t ok.3 np (omega (arith, h, tail_big 2 b ok.4 (lit≤ tt)))
    ∙ reduce (conditional_frame c p a q) b k t h
weak_expression ns (assignment a p o b) k t ok np h =
    weak_expression ns b (operand (assignment_frame a p o) k) t ok.2 np (omega (arith, h, tail_positive b)) ∙ reduce (assignment_frame a p o) b k t h

-- a token behind a whole expression
pub next_expression : (ns : List Identifier) (e : Expression) (k : ExpressionContext) (t : Token) (ts : List Token) → ExpressionOk ns e
    → is_postfix (kind_of t) ≡ false → binds (kind_of t) < tail_need e → go (Some (end_expression e k)) (t ∷ ts) ≡ go (on_expression e k t) ts
next_expression ns e k t ts ok np h = one _ t _ ts (weak_expression ns e k t ok np h)

-- operators that the expression and its context take
pub push_binary : (o : Operator) (e : Expression) (k : ExpressionContext) (p : Place) → 3 ≤ precedence o → precedence o ≤ level e → need k ≤ precedence o
    → on_expression e k (token (Op o) p) ≡ Some (at_expression (operand (binary_frame e p o) k))
push_binary o e k p h l n = to_operator k n ∙ taken k
  where
    taken : (k : ExpressionContext) → on_operator e k (token (Op o) p) ≡ Some (at_expression (operand (binary_frame e p o) k))
    taken k = cond_true _ _ _ (le-leb 3 (precedence o) h) ∙ cond_true _ _ _ (le-leb (precedence o) (level e) l)

    to_operator : (k : ExpressionContext) → need k ≤ precedence o → on_expression e k (token (Op o) p) ≡ on_operator e k (token (Op o) p)
    to_operator (operand f k) n = cond_true _ _ _ (le-leb (frame_need f) (precedence o) n)
    to_operator (whole g) n = cond_true _ _ _ (le-leb (hole_need g) (precedence o) n)

pub push_assignment : (o : AssignmentOperator) (e : Expression) (k : ExpressionContext) (p : Place) → 14 ≤ level e → need k ≤ 1
    → on_expression e k (token (Assignment o) p) ≡ Some (at_expression (operand (assignment_frame e p o) k))
push_assignment o e k p l n = to_operator k n ∙ cond_true _ _ _ (le-leb 14 (level e) l)
  where
    to_operator : (k : ExpressionContext) → need k ≤ 1 → on_expression e k (token (Assignment o) p) ≡ on_operator e k (token (Assignment o) p)
    to_operator (operand f k) n = cond_true _ _ _ (le-leb (frame_need f) 1 n)
    to_operator (whole g) n = cond_true _ _ _ (le-leb (hole_need g) 1 n)

pub push_question : (e : Expression) (k : ExpressionContext) (p : Place) → 3 ≤ level e → need k ≤ 2
    → on_expression e k (token Question p) ≡ Some (at_expression (whole (in_middle e p k)))
push_question e k p l n = to_operator k n ∙ cond_true _ _ _ (le-leb 3 (level e) l)
  where
    to_operator : (k : ExpressionContext) → need k ≤ 2 → on_expression e k (token Question p) ≡ on_operator e k (token Question p)
    to_operator (operand f k) n = cond_true _ _ _ (le-leb (frame_need f) 2 n)
    to_operator (whole g) n = cond_true _ _ _ (le-leb (hole_need g) 2 n)

pub end_postfix : (e : Expression) (k : ExpressionContext) → 15 ≤ level e → end_expression e k ≡ after_postfix e k
end_postfix (identifier p x) k h = refl
end_postfix (constant p n) k h = refl
end_postfix (parenthesized p e q) k h = refl
end_postfix (index e p i q) k h = refl
end_postfix (call_without f p q) k h = refl
end_postfix (call f p xs e q) k h = refl
end_postfix (member e p o q x) k h = refl
end_postfix (step_after e p o) k h = refl
end_postfix (step_before p o e) k h = absurd (omega arith)
end_postfix (unary p o e) k h = absurd (omega arith)
end_postfix (sizeof_expression p e) k h = absurd (omega arith)
end_postfix (sizeof_type p q t l) k h = absurd (omega arith)
end_postfix (cast p t q e) k h = absurd (omega arith)
end_postfix (binary a p o b) k h = absurd (omega (arith, precedence-small o))
end_postfix (conditional c p a q b) k h = absurd (omega arith)
end_postfix (assignment a p o b) k h = absurd (omega arith)

-- a token behind a postfix expression
pub postfix_step : (e : Expression) (k : ExpressionContext) (ts : List Token) → 15 ≤ level e → go (Some (end_expression e k)) ts ≡ go (Some (after_postfix e k)) ts
postfix_step e k ts h = ap (λ s. go (Some s) ts) (end_postfix e k h)

-- ## Behind a whole declarator

abbrev pub end_declarator : Declarator → Chain → DeclaratorContext → State
end_declarator (pointer p qs d) c k = end_declarator d (starred p qs c) k
end_declarator d c k = after_declarator d c k

abbrev pub end_abstract : AbstractDeclarator → Chain → AbstractContext → State
end_abstract no_declarator c k = at_abstract c k
end_abstract (abstract_pointer p qs a) c k = end_abstract a (starred p qs c) k
end_abstract a c k = after_abstract a c k

-- the tokens that go on a direct declarator
abbrev pub is_suffix : Kind → Bool
is_suffix LeftBracket = true
is_suffix LeftParen = true
is_suffix _ = false

pub feed_direct : (d : Declarator) (c : Chain) (k : DeclaratorContext) (t : Token) → is_suffix (kind_of t) ≡ false → feed (after_declarator d c k) t ≡ climb d c k t
unfolding feed
feed_direct d c k (token LeftBracket p) h = let bad : true ≡ false = h in cc
feed_direct d c k (token LeftParen p) h = let bad : true ≡ false = h in cc
feed_direct d c k (token _ p) h = refl

pub weak_declarator : (d : Declarator) (c : Chain) (k : DeclaratorContext) (t : Token) → is_suffix (kind_of t) ≡ false → feed (end_declarator d c k) t ≡ climb d c k t
weak_declarator (pointer p qs d) c k t h = weak_declarator d (starred p qs c) k t h
weak_declarator (declared_name p x) c k t h = feed_direct _ c k t h
weak_declarator (parenthesized_declarator p d q) c k t h = feed_direct _ c k t h
weak_declarator (array d p n q) c k t h = feed_direct _ c k t h
weak_declarator (function d p ps q) c k t h = feed_direct _ c k t h

pub next_declarator : (d : Declarator) (c : Chain) (k : DeclaratorContext) (t : Token) (ts : List Token) → is_suffix (kind_of t) ≡ false
    → go (Some (end_declarator d c k)) (t ∷ ts) ≡ go (climb d c k t) ts
next_declarator d c k t ts h = one _ t _ ts (weak_declarator d c k t h)

pub end_direct : (d : Declarator) (c : Chain) (k : DeclaratorContext) → is_direct d ≡ true → end_declarator d c k ≡ after_declarator d c k
end_direct (pointer p qs d) c k h = let bad : false ≡ true = h in cc
end_direct (declared_name p x) c k h = refl
end_direct (parenthesized_declarator p d q) c k h = refl
end_direct (array d p n q) c k h = refl
end_direct (function d p ps q) c k h = refl

pub direct_step : (d : Declarator) (c : Chain) (k : DeclaratorContext) (ts : List Token) → is_direct d ≡ true
    → go (Some (end_declarator d c k)) ts ≡ go (Some (after_declarator d c k)) ts
direct_step d c k ts h = ap (λ s. go (Some s) ts) (end_direct d c k h)

-- the tokens that may stand behind a whole abstract declarator
abbrev pub closes_abstract : Kind → Bool
closes_abstract Comma = true
closes_abstract RightParen = true
closes_abstract _ = false

pub feed_abstract : (c : Chain) (k : AbstractContext) (t : Token) → closes_abstract (kind_of t) ≡ true → feed (at_abstract c k) t ≡ climb_abstract no_declarator c k t
unfolding feed
feed_abstract top k (token Comma p) h = refl
feed_abstract top k (token RightParen p) h = refl
feed_abstract top k (token _ p) h = let bad : false ≡ true = h in cc
feed_abstract (starred q qs c) k (token Comma p) h = refl
feed_abstract (starred q qs c) k (token RightParen p) h = refl
feed_abstract (starred q qs c) k (token _ p) h = let bad : false ≡ true = h in cc
feed_abstract (opened q c) k (token Comma p) h = refl
feed_abstract (opened q c) k (token RightParen p) h = refl
feed_abstract (opened q c) k (token _ p) h = let bad : false ≡ true = h in cc

pub feed_direct_abstract : (a : AbstractDeclarator) (c : Chain) (k : AbstractContext) (t : Token) → closes_abstract (kind_of t) ≡ true
    → feed (after_abstract a c k) t ≡ climb_abstract a c k t
unfolding feed
feed_direct_abstract a c k (token Comma p) h = refl
feed_direct_abstract a c k (token RightParen p) h = refl
feed_direct_abstract a c k (token _ p) h = let bad : false ≡ true = h in cc

pub weak_abstract : (a : AbstractDeclarator) (c : Chain) (k : AbstractContext) (t : Token) → closes_abstract (kind_of t) ≡ true
    → feed (end_abstract a c k) t ≡ climb_abstract a c k t
weak_abstract no_declarator c k t h = feed_abstract c k t h
weak_abstract (abstract_pointer p qs a) c k t h = weak_abstract a (starred p qs c) k t h
weak_abstract (parenthesized_abstract p a q) c k t h = feed_direct_abstract _ c k t h
weak_abstract (abstract_array a p n q) c k t h = feed_direct_abstract _ c k t h
weak_abstract (abstract_function a p ps q) c k t h = feed_direct_abstract _ c k t h

pub next_abstract : (a : AbstractDeclarator) (c : Chain) (k : AbstractContext) (t : Token) (ts : List Token) → closes_abstract (kind_of t) ≡ true
    → go (Some (end_abstract a c k)) (t ∷ ts) ≡ go (climb_abstract a c k t) ts
next_abstract a c k t ts h = one _ t _ ts (weak_abstract a c k t h)

-- a bracket behind a direct abstract declarator, or behind none
pub feed_bracket : (c : Chain) (k : AbstractContext) (p : Place) → feed (at_abstract c k) (token LeftBracket p) ≡ Some (at_length (of_abstract no_declarator c k) p)
unfolding feed
feed_bracket top k p = refl
feed_bracket (starred q qs c) k p = refl
feed_bracket (opened q c) k p = refl

pub abstract_bracket : (a : AbstractDeclarator) (c : Chain) (k : AbstractContext) (p : Place) (ts : List Token) → is_direct_abstract a ≡ true
    → go (Some (end_abstract a c k)) (token LeftBracket p ∷ ts) ≡ go (Some (at_length (of_abstract a c k) p)) ts
unfolding go feed
abstract_bracket no_declarator c k p ts h = one (at_abstract c k) (token LeftBracket p) _ ts (feed_bracket c k p)
abstract_bracket (abstract_pointer q qs a) c k p ts h = let bad : false ≡ true = h in cc
abstract_bracket (parenthesized_abstract q a l) c k p ts h = refl
abstract_bracket (abstract_array a q n l) c k p ts h = refl
abstract_bracket (abstract_function a q ps l) c k p ts h = refl

-- where the parameters of a function stand, behind their parenthesis
abbrev pub at_function : AbstractDeclarator → Chain → AbstractContext → Place → State
at_function no_declarator c k p = at_opened c p k
at_function a c k p = at_parameters (of_abstract a c k) p

pub feed_paren : (c : Chain) (k : AbstractContext) (p : Place) → feed (at_abstract c k) (token LeftParen p) ≡ Some (at_opened c p k)
unfolding feed
feed_paren top k p = refl
feed_paren (starred q qs c) k p = refl
feed_paren (opened q c) k p = refl

pub abstract_paren : (a : AbstractDeclarator) (c : Chain) (k : AbstractContext) (p : Place) (ts : List Token) → is_direct_abstract a ≡ true
    → go (Some (end_abstract a c k)) (token LeftParen p ∷ ts) ≡ go (Some (at_function a c k p)) ts
unfolding go feed
abstract_paren no_declarator c k p ts h = one (at_abstract c k) (token LeftParen p) _ ts (feed_paren c k p)
abstract_paren (abstract_pointer q qs a) c k p ts h = let bad : false ≡ true = h in cc
abstract_paren (parenthesized_abstract q a l) c k p ts h = refl
abstract_paren (abstract_array a q n l) c k p ts h = refl
abstract_paren (abstract_function a q ps l) c k p ts h = refl

pub function_none : (a : AbstractDeclarator) (c : Chain) (k : AbstractContext) (p q : Place) (ts : List Token)
    → go (Some (at_function a c k p)) (token RightParen q ∷ ts) ≡ go (Some (function_of (of_abstract a c k) p no_parameters q)) ts
unfolding go feed
function_none no_declarator c k p q ts = refl
function_none (abstract_pointer l qs a) c k p q ts = refl
function_none (parenthesized_abstract l a m) c k p q ts = refl
function_none (abstract_array a l n m) c k p q ts = refl
function_none (abstract_function a l ps m) c k p q ts = refl

pub function_parameters : (a : AbstractDeclarator) (c : Chain) (k : AbstractContext) (p : Place) (t : Token) → begins_type (abstract_context_names k) (kind_of t) ≡ true
    → feed (at_function a c k p) t ≡ feed (at_specifiers no_specifiers (in_parameter no_earlier (of_abstract a c k) p)) t
function_parameters no_declarator c k p t h = opened_parameters c p k t h
function_parameters (abstract_pointer l qs a) c k p t h = parameters_start (of_abstract (abstract_pointer l qs a) c k) p t h
function_parameters (parenthesized_abstract l a m) c k p t h = parameters_start (of_abstract (parenthesized_abstract l a m) c k) p t h
function_parameters (abstract_array a l n m) c k p t h = parameters_start (of_abstract (abstract_array a l n m) c k) p t h
function_parameters (abstract_function a l ps m) c k p t h = parameters_start (of_abstract (abstract_function a l ps m) c k) p t h

-- ## Qualifiers, words, tags, names

pub run_qualifiers : (qs : Qualifiers) (p : Place) (c : Chain) (k : DeclaratorContext) (r : List Token)
    → go (Some (at_declarator (starred p no_qualifiers c) k)) (qualifiers_yield qs r) ≡ go (Some (at_declarator (starred p qs c) k)) r
unfolding go feed
run_qualifiers no_qualifiers p c k r = refl
run_qualifiers (qualified qs l q) p c k r = run_qualifiers qs p c k (token (Qualify q) l ∷ r)

pub run_abstract_qualifiers : (qs : Qualifiers) (p : Place) (c : Chain) (k : AbstractContext) (r : List Token)
    → go (Some (at_abstract (starred p no_qualifiers c) k)) (qualifiers_yield qs r) ≡ go (Some (at_abstract (starred p qs c) k)) r
unfolding go feed
run_abstract_qualifiers no_qualifiers p c k r = refl
run_abstract_qualifiers (qualified qs l q) p c k r = run_abstract_qualifiers qs p c k (token (Qualify q) l ∷ r)

pub feed_name : (c : Chain) (k : DeclaratorContext) (p : Place) (x : Identifier) → is_typedef (declarator_context_names k) x ≡ false
    → feed (at_declarator c k) (token (Name x) p) ≡ Some (after_declarator (declared_name p x) c k)
unfolding feed
feed_name top k p x h = cond_false _ _ _ h
feed_name (starred q qs c) k p x h = cond_false _ _ _ h
feed_name (opened q c) k p x h = cond_false _ _ _ h

pub feed_star : (c : Chain) (k : DeclaratorContext) (p : Place) → feed (at_declarator c k) (token (Op Star) p) ≡ Some (at_declarator (starred p no_qualifiers c) k)
unfolding feed
feed_star top k p = refl
feed_star (starred q qs c) k p = refl
feed_star (opened q c) k p = refl

pub feed_declarator_paren : (c : Chain) (k : DeclaratorContext) (p : Place) → feed (at_declarator c k) (token LeftParen p) ≡ Some (at_declarator (opened p c) k)
unfolding feed
feed_declarator_paren top k p = refl
feed_declarator_paren (starred q qs c) k p = refl
feed_declarator_paren (opened q c) k p = refl

pub feed_parameter_name : (c : Chain) (ps : EarlierParameters) (s : Specifiers) (k : Suffixed) (l p : Place) (x : Identifier) → is_typedef (suffixed_names k) x ≡ false
    → feed (at_abstract c (parameter_abstract ps s k l)) (token (Name x) p) ≡ Some (after_declarator (declared_name p x) c (parameter_context ps s k l))
unfolding feed
feed_parameter_name top ps s k l p x h = cond_false _ _ _ h
feed_parameter_name (starred q qs c) ps s k l p x h = cond_false _ _ _ h
feed_parameter_name (opened q c) ps s k l p x h = cond_false _ _ _ h

pub feed_abstract_star : (c : Chain) (k : AbstractContext) (p : Place) → feed (at_abstract c k) (token (Op Star) p) ≡ Some (at_abstract (starred p no_qualifiers c) k)
unfolding feed
feed_abstract_star top k p = refl
feed_abstract_star (starred q qs c) k p = refl
feed_abstract_star (opened q c) k p = refl

pub first_type_word : (s : Specifiers) (k : SpecifiersContext) (w : TypeWord) (p : Place) → has_type s ≡ false
    → on_word s k w p ≡ Some (at_specifiers (type_words s (first_word p w)) k)
first_type_word (type_words s ws) k w p h = let bad : true ≡ false = h in cc
first_type_word no_specifiers k w p h = refl
first_type_word (storage_class s q v) k w p h = cond_false _ _ _ h
first_type_word (qualifier s q v) k w p h = cond_false _ _ _ h
first_type_word (inlined s q) k w p h = cond_false _ _ _ h
first_type_word (typedef_name s q x) k w p h = let bad : true ≡ false = h in cc
first_type_word (composite_reference s q v l x) k w p h = let bad : true ≡ false = h in cc
first_type_word (composite s q v t l ms m) k w p h = let bad : true ≡ false = h in cc
first_type_word (enum_reference s q l x) k w p h = let bad : true ≡ false = h in cc
first_type_word (enumeration s q t l es e c m) k w p h = let bad : true ≡ false = h in cc

pub run_words : (ws : TypeWords) (s : Specifiers) (k : SpecifiersContext) (r : List Token) → has_type s ≡ false → names_type ws ≡ true
    → go (Some (at_specifiers s k)) (words_yield ws r) ≡ go (Some (at_specifiers (type_words s ws) k)) r
unfolding go feed
run_words (first_word p w) s k r h ok = one (at_specifiers s k) (token (TypeKeyword w) p) _ r (first_type_word s k w p h)
run_words (next_word ws p w) s k r h ok = run_words ws s k (token (TypeKeyword w) p ∷ r) h (beginning_names_type ws p w ok)
    ∙ one (at_specifiers (type_words s ws) k) (token (TypeKeyword w) p) _ r (cond_true _ _ _ ok)

pub composite_tag : (t : Tag) (s : Specifiers) (p : Place) (w : CompositeWord) (q : Place) (k : SpecifiersContext) (ts : List Token)
    → go (Some (at_composite s p w k)) (tag_yield t (token LeftBrace q ∷ ts)) ≡ go (Some (at_members no_members (in_composite s p w t q k))) ts
unfolding go feed
composite_tag no_tag s p w q k ts = refl
composite_tag (tag l x) s p w q k ts = refl

pub enum_tag : (t : Tag) (s : Specifiers) (p q : Place) (k : SpecifiersContext) (ts : List Token)
    → go (Some (at_enum s p k)) (tag_yield t (token LeftBrace q ∷ ts)) ≡ go (Some (at_enumerator (in_enumeration s p t q k))) ts
unfolding go feed
enum_tag no_tag s p q k ts = refl
enum_tag (tag l x) s p q k ts = refl

pub plain_storable : (s : Specifiers) (k : SpecifiersContext) → is_plain s ≡ true → Storable s k
plain_storable s k h g = let bad : true ≡ false = sym h ∙ g in cc

abbrev pub end_enumerators : Enumerators → EnumContext → State
end_enumerators no_enumerators k = at_enumerator k
end_enumerators (enumerators es e p) k = after_enumerator_comma es e p k

pub enumerator_name : (es : Enumerators) (k : EnumContext) (x : Identifier) (p : Place) → is_typedef (enum_context_names k) x ≡ false
    → feed (end_enumerators es k) (token (Name x) p) ≡ Some (after_enumerator es p x k)
unfolding feed
enumerator_name no_enumerators k x p h = cond_false _ _ _ h
enumerator_name (enumerators es e q) k x p h = cond_false _ _ _ h

abbrev pub end_enumerator : Enumerator → Enumerators → EnumContext → State
end_enumerator (enumerator p x) es k = after_enumerator es p x k
end_enumerator (enumerator_value p x q e) es k = end_expression e (whole (in_enumerator es p x q k))

pub enumerator_comma : (ns : List Identifier) (e : Enumerator) (es : Enumerators) (k : EnumContext) (p : Place) (ts : List Token) → EnumeratorOk ns e
    → go (Some (end_enumerator e es k)) (token Comma p ∷ ts) ≡ go (Some (after_enumerator_comma es e p k)) ts
unfolding go feed
enumerator_comma ns (enumerator q x) es k p ts ok = refl
enumerator_comma ns (enumerator_value q x l e) es k p ts ok = next_expression ns e (whole (in_enumerator es q x l k)) _ ts ok.1 refl (tail_positive e)

pub enumerator_close : (ns : List Identifier) (e : Enumerator) (es : Enumerators) (c : Trailing) (k : EnumContext) (p : Place) (ts : List Token) → EnumeratorOk ns e
    → go (Some (end_enumerator e es k)) (trailing_yield c (token RightBrace p ∷ ts)) ≡ go (Some (close_enumeration k es e c p)) ts
unfolding go feed
enumerator_close ns (enumerator q x) es no_comma k p ts ok = refl
enumerator_close ns (enumerator_value q x l e) es no_comma k p ts ok =
    next_expression ns e (whole (in_enumerator es q x l k)) _ ts ok.1 refl (tail_positive e)
enumerator_close ns e es (comma q) k p ts ok = enumerator_comma ns e es k q (token RightBrace p ∷ ts) ok

-- the lone `void`
pub lone_list_parameters : (s : Specifiers) → is_void s ≡ false → lone_list s ≡ parameters no_earlier (unnamed_parameter s no_declarator)
lone_list_parameters (type_words no_specifiers (first_word p Void)) h = let bad : true ≡ false = h in cc
lone_list_parameters _ h = refl

pub list_of_parameters : (ps : EarlierParameters) (x : Parameter) → is_lone_void ps x ≡ false → list_of ps x ≡ parameters ps x
list_of_parameters no_earlier (unnamed_parameter s no_declarator) h = lone_list_parameters s h
list_of_parameters _ _ h = refl
