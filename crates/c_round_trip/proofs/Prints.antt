-- What a derivation of the printed text owes to the derivation that was printed, part by part.
use Rattle.std.proofs.Common.{◌≡◌, ap₂, ℕ, suc, ◌+◌, ◌≤◌, Bool, true, false, not, cond, List, [], ◌∷◌, ◌∙◌, ap, arith}
use Rattle.c_grammar.specs.Tokens as k
use Rattle.c_grammar.specs.Derivations.{Trailing, Expression, Arguments, TypeName, Specifiers, Members, Declarators, Enumerator, Enumerators, Declarator, Length, AbstractDeclarator, Parameters, EarlierParameters, Parameter, no_comma, comma, parenthesized, no_specifiers, declared_name, parenthesized_declarator, parenthesized_abstract, no_earlier, earlier, named_parameter, unnamed_parameter}
use Rattle.c_grammar.specs.Yield.{trailing_yield, expression_yield, arguments_yield, type_name_yield, specifiers_yield, members_yield, declarators_yield, enumerator_yield, enumerators_yield, declarator_yield, length_yield, abstract_yield, parameters_yield, earlier_yield, parameter_yield}
use Rattle.c_grammar.specs.Spelling.{name_of, declares_types, has_type, has_storage, is_plain, has_members, is_direct, is_direct_abstract, is_some_declarator, is_function_head, is_void, level, ExpressionOk, ArgumentsOk, TypeNameOk, SpecifiersOk, MembersOk, DeclaratorsOk, EnumeratorOk, EnumeratorsOk, DeclaratorOk, LengthOk, AbstractOk, ParametersOk, EarlierOk, ParameterOk}
use Rattle.c_grammar.specs.Nesting.{expression_nest, arguments_nest, type_name_nest, specifiers_nest, members_nest, declarators_nest, enumerator_nest, enumerators_nest, declarator_nest, inner_nest, length_nest, abstract_nest, direct_nest, parameters_nest, earlier_nest, parameter_nest}
use Rattle.c_tree.specs.Trees.{ExprTrees, SpecifierTrees, MemberTrees, EnumeratorTrees, DeclaratorTrees, ParameterTrees}
use Rattle.c_tree.specs.Printing.{Text, opened, closed, binding, is_looser, is_pointer, put_expr, put_maybe, put_type, put_declarator}
use Rattle.c_tree.specs.Reading.{expression_tree, arguments_onto, type_name_tree, specifiers_onto, members_onto, declarators_onto, enumerator_onto, enumerators_onto, declarator_tree, length_tree, abstract_tree, parameters_tree, earlier_onto, parameter_onto}
use Rattle.c_round_trip.specs.Placeless.{placeless_expr, placeless_exprs, placeless_maybe, placeless_type, placeless_specifiers, placeless_members, placeless_enumerators, placeless_declarator, placeless_declarators, placeless_parameters}
use Rattle.c_round_trip.specs.RoundTrip.{AllWritten, opens}
use Rattle.c_round_trip.proofs.Lists.{after_arguments, after_specifiers, after_declarators, after_members, after_enumerator, after_enumerators, after_parameter, after_earlier, put_list}
use Rattle.c_round_trip.proofs.Written.{Written}

-- the derivation of the printed text spells it: what stands behind both is printed
abbrev pub Prints : (List k.Token → List k.Token) → (List k.Token → List k.Token) → Text → Text → Type 0
Prints yield printed t end =
    (r0 r : List k.Token) (whole : Text) → (AllWritten r0 → Written r end whole) → AllWritten (yield r0) → Written (printed r) t whole

-- no number of the list is greater
abbrev pub Low : ℕ → List ℕ → Type 0
Low most [] = Unit {0}
Low most (n ∷ ns) = (n ≤ most) × Low most ns

-- what is printed nests no deeper; a part in parentheses may stand so much deeper itself
abbrev pub Nests : (ℕ → List ℕ → List ℕ) → (ℕ → List ℕ → List ℕ) → ℕ → Type 0
Nests nest printed outer =
    (m n most : ℕ) (r0 r : List ℕ) → n ≤ m + outer → (Low most r0 → Low most r) → Low most (nest m r0) → Low most (printed n r)

-- what is printed has no more `(`, with those round the part itself
abbrev pub Opens : (ℕ → ℕ) → (List k.Token → List k.Token) → (List k.Token → List k.Token) → Type 0
Opens beside yield printed = (r0 r : List k.Token) → opens r ≤ opens r0 → beside (opens (printed r)) ≤ opens (yield r0)

pub up : (m n : ℕ) → m ≤ n → suc m ≤ suc n
up m n h = omega arith

pub before_comma : (c : Trailing) (l : k.Place) (r0 r : List k.Token) → opens r ≤ opens r0 → opens r ≤ opens (trailing_yield c (k.token k.RightBrace l ∷ r0))
before_comma no_comma l r0 r h = h
before_comma (comma p) l r0 r h = h

pub three : {A B C D : Type 0} (f : A → B → C → D) (a a' : A) (b b' : B) (c c' : C) → a ≡ a' → b ≡ b' → c ≡ c' → f a b c ≡ f a' b' c'
three f a a' b b' c c' p q r = ap (λ x. f x b c) p ∙ ap₂ (f a') q r

pub under : (m n outer : ℕ) → n ≤ m + 0 → suc n ≤ suc m + outer
under m n outer h = omega arith

pub flat : (m n outer : ℕ) → n ≤ m + 0 → n ≤ m + outer
flat m n outer h = omega arith

pub deeper : (m n outer : ℕ) → n ≤ m + 0 → n ≤ suc m + outer
deeper m n outer h = omega arith

pub lower : (m n most : ℕ) → n ≤ m + 0 → suc m ≤ most → suc n ≤ most
lower m n most h l = omega arith

pub low : (m n most : ℕ) → n ≤ m + 0 → m ≤ most → n ≤ most
low m n most h l = omega arith

-- ## Expressions

-- 1 for an expression in parentheses
abbrev pub parentheses : Expression → ℕ
parentheses (parenthesized p e q) = 1
parentheses _ = 0

-- with the parentheses round an expression, a declarator or an abstract declarator
abbrev pub beside : Expression → ℕ → ℕ
beside (parenthesized p e q) n = suc n
beside _ n = n

abbrev pub beside_declarator : Declarator → ℕ → ℕ
beside_declarator (parenthesized_declarator p d q) n = suc n
beside_declarator _ n = n

abbrev pub beside_abstract : AbstractDeclarator → ℕ → ℕ
beside_abstract (parenthesized_abstract p d q) n = suc n
beside_abstract _ n = n

pub record PrintedExpression (ns : List k.Identifier) (e : Expression) (t : Text) : Type 0 where
  pub now : Expression
  pub ok : ExpressionOk ns now
  pub binds : level now ≡ binding (expression_tree e)
  pub same : placeless_expr (expression_tree now) ≡ placeless_expr (expression_tree e)
  pub prints : Prints (expression_yield e) (expression_yield now) t (put_expr (expression_tree e) t)
  pub fewer : Opens (beside e) (expression_yield e) (expression_yield now)
  pub nests : Nests (expression_nest e) (expression_nest now) (parentheses e)

pub record PrintedArguments (ns : List k.Identifier) (xs : Arguments) (t : Text) : Type 0 where
  pub now : Arguments
  pub ok : ArgumentsOk ns now
  pub same : (r r' : ExprTrees) → placeless_exprs r' ≡ placeless_exprs r → placeless_exprs (arguments_onto now r') ≡ placeless_exprs (arguments_onto xs r)
  pub prints : Prints (arguments_yield xs) (arguments_yield now) t (after_arguments xs t)
  pub fewer : Opens (λ n. n) (arguments_yield xs) (arguments_yield now)
  pub nests : Nests (arguments_nest xs) (arguments_nest now) 0

-- the text of an operand where an expression has to bind so tightly
abbrev pub operand_text : Expression → ℕ → Text → Text
operand_text e least t = closed (is_looser (expression_tree e) least) (put_expr (expression_tree e) (opened (is_looser (expression_tree e) least) t))

pub record PrintedOperand (ns : List k.Identifier) (e : Expression) (least : ℕ) (b : Bool) (t : Text) : Type 0 where
  pub now : Expression
  pub ok : ExpressionOk ns now
  pub tight : least ≤ level now
  pub same : placeless_expr (expression_tree now) ≡ placeless_expr (expression_tree e)
  pub prints : Prints (expression_yield e) (expression_yield now) t (closed b (put_expr (expression_tree e) (opened b t)))
  pub fewer : Opens (λ n. n) (expression_yield e) (expression_yield now)
  pub nests : Nests (expression_nest e) (expression_nest now) 0

-- ## Types and declarators

pub record PrintedTypeName (ns : List k.Identifier) (x : TypeName) (t : Text) : Type 0 where
  pub now : TypeName
  pub ok : TypeNameOk ns now
  pub same : placeless_type (type_name_tree now) ≡ placeless_type (type_name_tree x)
  pub prints : Prints (type_name_yield x) (type_name_yield now) t (put_type (type_name_tree x) t)
  pub fewer : Opens (λ n. n) (type_name_yield x) (type_name_yield now)
  pub nests : Nests (type_name_nest x) (type_name_nest now) 0

abbrev pub is_nothing : Specifiers → Bool
is_nothing no_specifiers = true
is_nothing _ = false

-- the two have the same specifiers, bodies aside
pub record AreAlike (s now : Specifiers) : Type 0 where
  pub types : has_type now ≡ has_type s
  pub storage : has_storage now ≡ has_storage s
  pub plain : is_plain now ≡ is_plain s
  pub declares : declares_types now ≡ declares_types s
  pub nothing : is_nothing now ≡ is_nothing s
  pub void : is_void now ≡ is_void s

pub record PrintedSpecifiers (ns : List k.Identifier) (s : Specifiers) (t : Text) : Type 0 where
  pub now : Specifiers
  pub ok : SpecifiersOk ns now
  pub alike : AreAlike s now
  pub same : (r r' : SpecifierTrees) → placeless_specifiers r' ≡ placeless_specifiers r → placeless_specifiers (specifiers_onto now r') ≡ placeless_specifiers (specifiers_onto s r)
  pub prints : Prints (specifiers_yield s) (specifiers_yield now) t (after_specifiers s t)
  pub fewer : Opens (λ n. n) (specifiers_yield s) (specifiers_yield now)
  pub nests : Nests (specifiers_nest s) (specifiers_nest now) 0

pub record PrintedMembers (ns : List k.Identifier) (ms : Members) (t : Text) : Type 0 where
  pub now : Members
  pub ok : MembersOk ns now
  pub has : has_members now ≡ has_members ms
  pub same : (r r' : MemberTrees) → placeless_members r' ≡ placeless_members r → placeless_members (members_onto now r') ≡ placeless_members (members_onto ms r)
  pub prints : Prints (members_yield ms) (members_yield now) t (after_members ms t)
  pub fewer : Opens (λ n. n) (members_yield ms) (members_yield now)
  pub nests : Nests (members_nest ms) (members_nest now) 0

pub record PrintedDeclarators (ns : List k.Identifier) (ds : Declarators) (t : Text) : Type 0 where
  pub now : Declarators
  pub ok : DeclaratorsOk ns now
  pub same : (r r' : DeclaratorTrees) → placeless_declarators r' ≡ placeless_declarators r → placeless_declarators (declarators_onto now r') ≡ placeless_declarators (declarators_onto ds r)
  pub prints : Prints (declarators_yield ds) (declarators_yield now) t (after_declarators ds t)
  pub fewer : Opens (λ n. n) (declarators_yield ds) (declarators_yield now)
  pub nests : Nests (declarators_nest ds) (declarators_nest now) 0

pub record PrintedEnumerator (ns : List k.Identifier) (e : Enumerator) (t : Text) : Type 0 where
  pub now : Enumerator
  pub ok : EnumeratorOk ns now
  pub same : (r r' : EnumeratorTrees) → placeless_enumerators r' ≡ placeless_enumerators r → placeless_enumerators (enumerator_onto now r') ≡ placeless_enumerators (enumerator_onto e r)
  pub prints : Prints (enumerator_yield e) (enumerator_yield now) t (after_enumerator e t)
  pub fewer : Opens (λ n. n) (enumerator_yield e) (enumerator_yield now)
  pub nests : Nests (enumerator_nest e) (enumerator_nest now) 0

pub record PrintedEnumerators (ns : List k.Identifier) (es : Enumerators) (t : Text) : Type 0 where
  pub now : Enumerators
  pub ok : EnumeratorsOk ns now
  pub same : (r r' : EnumeratorTrees) → placeless_enumerators r' ≡ placeless_enumerators r → placeless_enumerators (enumerators_onto now r') ≡ placeless_enumerators (enumerators_onto es r)
  pub prints : Prints (enumerators_yield es) (enumerators_yield now) t (after_enumerators es t)
  pub fewer : Opens (λ n. n) (enumerators_yield es) (enumerators_yield now)
  pub nests : Nests (enumerators_nest es) (enumerators_nest now) 0

-- a name alone
abbrev pub is_bare : Declarator → Bool
is_bare (declared_name p x) = true
is_bare _ = false

abbrev pub is_enclosed : Declarator → Bool
is_enclosed (parenthesized_declarator p d q) = true
is_enclosed _ = false

pub record PrintedDeclarator (ns : List k.Identifier) (d : Declarator) (t : Text) : Type 0 where
  pub now : Declarator
  pub ok : DeclaratorOk ns now
  pub direct : is_direct now ≡ not (is_pointer (declarator_tree d))
  pub named : name_of now ≡ name_of d
  pub bare : is_bare d ≡ true → is_bare now ≡ true
  pub head : is_function_head d ≡ true → is_function_head now ≡ true
  pub same : placeless_declarator (declarator_tree now) ≡ placeless_declarator (declarator_tree d)
  pub prints : Prints (declarator_yield d) (declarator_yield now) t (put_declarator (declarator_tree d) t)
  pub fewer : Opens (beside_declarator d) (declarator_yield d) (declarator_yield now)
  pub whole : Nests (declarator_nest d) (declarator_nest now) 0
  pub inner : Nests (inner_nest d) (inner_nest now) 0
  pub loose : Nests (declarator_nest d) (inner_nest now) 0
  pub inside : is_enclosed d ≡ true → Nests (inner_nest d) (declarator_nest now) 0

-- a declarator before brackets or parameters
pub record PrintedDirect (ns : List k.Identifier) (d : Declarator) (b : Bool) (t : Text) : Type 0 where
  pub now : Declarator
  pub ok : DeclaratorOk ns now
  pub direct : is_direct now ≡ true
  pub named : name_of now ≡ name_of d
  pub bare : is_bare d ≡ true → is_bare now ≡ true
  pub same : placeless_declarator (declarator_tree now) ≡ placeless_declarator (declarator_tree d)
  pub prints : Prints (declarator_yield d) (declarator_yield now) t (closed b (put_declarator (declarator_tree d) (opened b t)))
  pub fewer : Opens (λ n. n) (declarator_yield d) (declarator_yield now)
  pub inner : Nests (inner_nest d) (inner_nest now) 0

pub record PrintedLength (ns : List k.Identifier) (n : Length) (t : Text) : Type 0 where
  pub now : Length
  pub ok : LengthOk ns now
  pub same : placeless_maybe (length_tree now) ≡ placeless_maybe (length_tree n)
  pub prints : Prints (length_yield n) (length_yield now) t (put_maybe (length_tree n) t)
  pub fewer : Opens (λ n. n) (length_yield n) (length_yield now)
  pub nests : Nests (length_nest n) (length_nest now) 0

abbrev pub is_closed : AbstractDeclarator → Bool
is_closed (parenthesized_abstract p d q) = true
is_closed _ = false

pub record PrintedAbstract (ns : List k.Identifier) (a : AbstractDeclarator) (t : Text) : Type 0 where
  pub now : AbstractDeclarator
  pub ok : AbstractOk ns now
  pub direct : is_direct_abstract now ≡ not (is_pointer (abstract_tree a))
  pub some : is_some_declarator now ≡ is_some_declarator a
  pub same : placeless_declarator (abstract_tree now) ≡ placeless_declarator (abstract_tree a)
  pub prints : Prints (abstract_yield a) (abstract_yield now) t (put_declarator (abstract_tree a) t)
  pub fewer : Opens (beside_abstract a) (abstract_yield a) (abstract_yield now)
  pub whole : Nests (abstract_nest a) (abstract_nest now) 0
  pub inner : Nests (direct_nest a) (direct_nest now) 0
  pub loose : Nests (abstract_nest a) (direct_nest now) 0
  pub inside : is_closed a ≡ true → Nests (direct_nest a) (abstract_nest now) 0

pub record PrintedDirectAbstract (ns : List k.Identifier) (a : AbstractDeclarator) (b : Bool) (t : Text) : Type 0 where
  pub now : AbstractDeclarator
  pub ok : AbstractOk ns now
  pub direct : is_direct_abstract now ≡ true
  pub same : placeless_declarator (abstract_tree now) ≡ placeless_declarator (abstract_tree a)
  pub prints : Prints (abstract_yield a) (abstract_yield now) t (closed b (put_declarator (abstract_tree a) (opened b t)))
  pub fewer : Opens (λ n. n) (abstract_yield a) (abstract_yield now)
  pub inner : Nests (direct_nest a) (direct_nest now) 0

pub record PrintedParameters (ns : List k.Identifier) (ps : Parameters) (t : Text) : Type 0 where
  pub now : Parameters
  pub ok : ParametersOk ns now
  pub same : placeless_parameters (parameters_tree now) ≡ placeless_parameters (parameters_tree ps)
  pub prints : Prints (parameters_yield ps) (parameters_yield now) t (put_list (parameters_tree ps) t)
  pub fewer : Opens (λ n. n) (parameters_yield ps) (parameters_yield now)
  pub nests : (m n most : ℕ) (r0 r : List ℕ) → n ≤ m + 0 → m ≤ most → (Low most r0 → Low most r) → Low most (parameters_nest ps m r0) → Low most (parameters_nest now n r)

abbrev pub is_first : EarlierParameters → Bool
is_first no_earlier = true
is_first (earlier ps x p) = false

-- the word `void` alone
abbrev pub is_lone : Parameter → Bool
is_lone (named_parameter s d) = false
is_lone (unnamed_parameter s a) = cond (is_some_declarator a) false (is_void s)

pub record PrintedEarlier (ns : List k.Identifier) (ps : EarlierParameters) (t : Text) : Type 0 where
  pub now : EarlierParameters
  pub ok : EarlierOk ns now
  pub first : is_first now ≡ is_first ps
  pub same : (r r' : ParameterTrees) → placeless_parameters r' ≡ placeless_parameters r → placeless_parameters (earlier_onto now r') ≡ placeless_parameters (earlier_onto ps r)
  pub prints : Prints (earlier_yield ps) (earlier_yield now) t (after_earlier ps t)
  pub fewer : Opens (λ n. n) (earlier_yield ps) (earlier_yield now)
  pub nests : Nests (earlier_nest ps) (earlier_nest now) 0

pub record PrintedParameter (ns : List k.Identifier) (x : Parameter) (t : Text) : Type 0 where
  pub now : Parameter
  pub ok : ParameterOk ns now
  pub lone : is_lone now ≡ is_lone x
  pub same : (r r' : ParameterTrees) → placeless_parameters r' ≡ placeless_parameters r → placeless_parameters (parameter_onto now r') ≡ placeless_parameters (parameter_onto x r)
  pub prints : Prints (parameter_yield x) (parameter_yield now) t (after_parameter x t)
  pub fewer : Opens (λ n. n) (parameter_yield x) (parameter_yield now)
  pub nests : Nests (parameter_nest x) (parameter_nest now) 0

-- ## Parentheses round a part left out

pub few : {ns : List k.Identifier} {t : Text} (e : Expression) (a : PrintedExpression ns e t) → Opens (λ n. n) (expression_yield e) (expression_yield a.now)
few {ns} {t} e a r0 r h = drop e (opens (expression_yield a.now r)) (opens (expression_yield e r0)) (a.fewer r0 r h)
  where
    drop : (e : Expression) (m n : ℕ) → beside e m ≤ n → m ≤ n
    drop (parenthesized p e q) m n h = omega arith
    drop _ m n h = h

pub few_declarator : {ns : List k.Identifier} {t : Text} (d : Declarator) (a : PrintedDeclarator ns d t) → Opens (λ n. n) (declarator_yield d) (declarator_yield a.now)
few_declarator {ns} {t} d a r0 r h = drop d (opens (declarator_yield a.now r)) (opens (declarator_yield d r0)) (a.fewer r0 r h)
  where
    drop : (d : Declarator) (m n : ℕ) → beside_declarator d m ≤ n → m ≤ n
    drop (parenthesized_declarator p d q) m n h = omega arith
    drop _ m n h = h

pub few_abstract : {ns : List k.Identifier} {t : Text} (d : AbstractDeclarator) (a : PrintedAbstract ns d t) → Opens (λ n. n) (abstract_yield d) (abstract_yield a.now)
few_abstract {ns} {t} d a r0 r h = drop d (opens (abstract_yield a.now r)) (opens (abstract_yield d r0)) (a.fewer r0 r h)
  where
    drop : (d : AbstractDeclarator) (m n : ℕ) → beside_abstract d m ≤ n → m ≤ n
    drop (parenthesized_abstract p d q) m n h = omega arith
    drop _ m n h = h
