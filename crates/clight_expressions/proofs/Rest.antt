-- What the loops over lists of parts still have to judge, behind what they have gone through.
use Rattle.std.proofs.Common.{◌≡◌, ℕ, suc, ◌+◌, ◌<◌, Bool, false, List, [], ◌∷◌, ◌++◌, Option, None, length, get_or, drop, refl, sym, ap, ◌∙◌, append_assoc, arith}
use Rattle.std.proofs.Math.Seq.{drop-cons}
use Rattle.c_tree.specs.declared.expr.Expr.{Expr}
use Rattle.c_tree.specs.declared.expr.Specifier.{Specifier}
use Rattle.c_tree.specs.declared.expr.Member.{Member, out-Member}
use Rattle.c_tree.specs.declared.expr.Enumerator.{Enumerator}
use Rattle.c_tree.specs.declared.expr.Declarator.{Declarator}
use Rattle.c_tree.specs.declared.expr.Suffix.{Suffix}
use Rattle.c_tree.specs.declared.expr.Parameter.{Parameter}
use Rattle.c_tree.specs.Shape.{expr_of, exprs_of, maybe_of, specifier_of, specifiers_of, members_of, declarator_of, declarators_of, enumerators_of, parameters_of}
use Rattle.c_tree.proofs.Shapes.{member_shape}
use Rattle.clight_types.specs.Judged.{Judged, value, fault, and_then}
use Rattle.clight_types.specs.Types.{Laid}
use Rattle.clight_types.specs.Declarators.{Part, ParameterOf, built_type, built_parameter}
use Rattle.clight_scopes.specs.Scopes.{Scene, or_else}
use Rattle.clight_operands.specs.Operands.{NoEffect, Typed}
use Rattle.clight_typing.specs.Typing.{typed, typed_all, typed_value, specifier_judged, specified, members_judged, member_declarators, member_judged, enumerators_judged, enumerator_judged, declared, declared_at, declared_name, name_or_empty, base_of, parameters_judged, parameter_judged}
use Rattle.clight_expressions.specs.SuffixOf.{suffix_judged, suffixes_judged}

-- ## One part behind another

pub then_assoc : {A B C : Type 0} (j : Judged A) (f : A → Judged B) (g : B → Judged C) → and_then (and_then j f) g ≡ and_then j (λ a. and_then (f a) g)
then_assoc (value a) f g = refl
then_assoc (fault r at j) f g = ap (fault r at) (then_assoc j f g)

pub then_value : {A : Type 0} (j : Judged A) → and_then j (λ a. value a) ≡ j
then_value (value a) = refl
then_value (fault r at j) = ap (fault r at) (then_value j)

pub then_same : {A B : Type 0} (j : Judged A) (f g : A → Judged B) → ((a : A) → f a ≡ g a) → and_then j f ≡ and_then j g
then_same (value a) f g h = h a
then_same (fault r at j) f g h = ap (fault r at) (then_same j f g h)

-- what goes on behind a part without faults
pub then_on : {A B : Type 0} (j : Judged A) (a : A) (next : A → Judged B) → j ≡ value a → and_then j next ≡ next a
then_on j a next h = ap (λ i. and_then i next) h

-- ## The elements of a list, one by one

pub at_front : {A : Type 0} (list : List A) (i : ℕ) (x : A) → i < length list → x ≡ get_or list i x → drop i list ≡ x ∷ drop (i + 1) list
at_front list i x within is =
    let next : suc i ≡ i + 1 = omega arith in
    drop-cons list i x within ∙ ap (λ y. y ∷ drop (suc i) list) (sym is) ∙ ap (λ k. x ∷ drop k list) next

-- the expressions that are still to come, behind those that have been gone through
abbrev pub all_behind : List Typed → Judged (Scene × List Typed) → Judged (Scene × List Typed)
all_behind made j = and_then j (λ q. value (q.0, made ++ q.1))

pub nothing_behind : (j : Judged (Scene × List Typed)) → all_behind [] j ≡ j
nothing_behind j = then_value j

pub exprs_at : (s : Scene) (made : List Typed) (list : List Expr) (i : ℕ) (x : Expr) → i < length list → x ≡ get_or list i x
    → all_behind made (typed_all s (exprs_of (drop i list))) ≡ and_then (typed NoEffect false s (expr_of x)) (λ r. all_behind (made ++ r.1 ∷ []) (typed_all r.0 (exprs_of (drop (i + 1) list))))
exprs_at s made list i x within is =
    ap (λ xs. all_behind made (typed_all s (exprs_of xs))) (at_front list i x within is)
    ∙ then_assoc {B = Scene × List Typed} {C = Scene × List Typed} (typed NoEffect false s (expr_of x)) (λ r. and_then (typed_all r.0 (exprs_of (drop (i + 1) list))) (λ q. value (q.0, r.1 ∷ q.1))) (λ q. value (q.0, made ++ q.1))
    ∙ then_same {B = Scene × List Typed} (typed NoEffect false s (expr_of x)) _ _ (λ r.
    then_assoc {B = Scene × List Typed} {C = Scene × List Typed} (typed_all r.0 (exprs_of (drop (i + 1) list))) (λ q. value (q.0, r.1 ∷ q.1)) (λ q. value (q.0, made ++ q.1))
    ∙ then_same {B = Scene × List Typed} (typed_all r.0 (exprs_of (drop (i + 1) list))) _ _ (λ q. ap (λ (l : List Typed). value (q.0, l)) (sym (append_assoc made (r.1 ∷ []) q.1))))

pub specifiers_at : (s : Scene) (t : Option ℕ) (list : List Specifier) (i : ℕ) (x : Specifier) → i < length list → x ≡ get_or list i x
    → specified s t (specifiers_of (drop i list)) ≡ and_then (specifier_judged s (specifier_of x)) (λ r. specified r.0 (or_else r.1 t) (specifiers_of (drop (i + 1) list)))
specifiers_at s t list i x within is = ap (λ xs. specified s t (specifiers_of xs)) (at_front list i x within is)

pub members_at : (s : Scene) (laid : Laid) (list : List Member) (i : ℕ) (x : Member) → i < length list → x ≡ get_or list i x
    → members_judged s laid (members_of (drop i list)) ≡ and_then (specified s None (specifiers_of (out-Member x).specifiers.items)) (λ r. and_then (member_declarators r.0 (base_of r.1) laid (declarators_of (out-Member x).declarators.items)) (λ q. members_judged q.0 q.1 (members_of (drop (i + 1) list))))
members_at s laid list i x within is =
    ap (λ xs. members_judged s laid (members_of xs)) (at_front list i x within is)
    ∙ ap (λ ms. members_judged s laid ms) (member_shape x (members_of (drop (i + 1) list)))

pub declarators_at : (s : Scene) (base : ℕ) (laid : Laid) (list : List Declarator) (i : ℕ) (x : Declarator) → i < length list → x ≡ get_or list i x
    → member_declarators s base laid (declarators_of (drop i list)) ≡ and_then (declared s false (declarator_of x)) (λ r. and_then (member_judged r.0 laid (declared_at (declarator_of x) 0) (name_or_empty (declared_name (declarator_of x))) (built_type r.0.types base r.1)) (λ q. member_declarators q.0 base q.1 (declarators_of (drop (i + 1) list))))
declarators_at s base laid list i x within is = ap (λ xs. member_declarators s base laid (declarators_of xs)) (at_front list i x within is)

pub enumerators_at : (s : Scene) (next : ℕ) (list : List Enumerator) (i : ℕ) (x : Enumerator) → i < length list → x ≡ get_or list i x
    → enumerators_judged s next (enumerators_of (drop i list)) ≡ and_then (typed_value s (maybe_of x.value)) (λ r. and_then (enumerator_judged r.0 x.at x.name next r.1) (λ q. enumerators_judged q.0 q.1 (enumerators_of (drop (i + 1) list))))
enumerators_at s next list i x within is = ap (λ xs. enumerators_judged s next (enumerators_of xs)) (at_front list i x within is)

pub suffixes_at : (s : Scene) (own : Bool) (parts : List Part) (list : List Suffix) (i : ℕ) (x : Suffix) → i < length list → x ≡ get_or list i x
    → suffixes_judged s own parts (drop i list) ≡ and_then (suffix_judged s own x) (λ q. suffixes_judged q.0 false (q.1 ∷ parts) (drop (i + 1) list))
suffixes_at s own parts list i x within is = ap (suffixes_judged s own parts) (at_front list i x within is)

-- the parameters that are still to come, behind those that have been gone through
abbrev pub parameters_behind : List ParameterOf → Judged (Scene × List ParameterOf) → Judged (Scene × List ParameterOf)
parameters_behind made j = and_then j (λ q. value (q.0, made ++ q.1))

pub parameters_at : (s : Scene) (own : Bool) (made : List ParameterOf) (list : List Parameter) (i : ℕ) (x : Parameter) → i < length list → x ≡ get_or list i x
    → parameters_behind made (parameters_judged own s (parameters_of (drop i list))) ≡ and_then (specified s None (specifiers_of x.specifiers.items)) (λ r. and_then (declared r.0 false (declarator_of x.declarator)) (λ q.
    and_then (parameter_judged own q.0 x.at (declared_at (declarator_of x.declarator) x.at) (declared_name (declarator_of x.declarator)) (built_parameter q.0.types (base_of r.1) q.1)) (λ p.
    parameters_behind (made ++ p.1 ∷ []) (parameters_judged own p.0 (parameters_of (drop (i + 1) list))))))
parameters_at s own made list i x within is =
    ap (λ xs. parameters_behind made (parameters_judged own s (parameters_of xs))) (at_front list i x within is)
    ∙ then_assoc {B = Scene × List ParameterOf} {C = Scene × List ParameterOf} (specified s None (specifiers_of x.specifiers.items)) _ (λ q. value (q.0, made ++ q.1))
    ∙ then_same {B = Scene × List ParameterOf} (specified s None (specifiers_of x.specifiers.items)) _ _ (λ r.
    then_assoc {B = Scene × List ParameterOf} {C = Scene × List ParameterOf} (declared r.0 false (declarator_of x.declarator)) _ (λ q. value (q.0, made ++ q.1))
    ∙ then_same {B = Scene × List ParameterOf} (declared r.0 false (declarator_of x.declarator)) _ _ (λ q.
    then_assoc {B = Scene × List ParameterOf} {C = Scene × List ParameterOf} (parameter_judged own q.0 x.at (declared_at (declarator_of x.declarator) x.at) (declared_name (declarator_of x.declarator)) (built_parameter q.0.types (base_of r.1) q.1)) _ (λ q. value (q.0, made ++ q.1))
    ∙ then_same {B = Scene × List ParameterOf} (parameter_judged own q.0 x.at (declared_at (declarator_of x.declarator) x.at) (declared_name (declarator_of x.declarator)) (built_parameter q.0.types (base_of r.1) q.1)) _ _ (λ p.
    then_assoc {B = Scene × List ParameterOf} {C = Scene × List ParameterOf} (parameters_judged own p.0 (parameters_of (drop (i + 1) list))) (λ o. value (o.0, p.1 ∷ o.1)) (λ q. value (q.0, made ++ q.1))
    ∙ then_same {B = Scene × List ParameterOf} (parameters_judged own p.0 (parameters_of (drop (i + 1) list))) _ _ (λ o. ap (λ (l : List ParameterOf). value (o.0, l)) (sym (append_assoc made (p.1 ∷ []) o.1))))))
