-- The loops over lists of parts: what stands at a fault of the next element, behind one element more, and behind the last one.
use Rattle.std.proofs.Common.{◌≡◌, ℕ, zero, suc, ◌+◌, ◌<◌, ◌≤◌, Bool, false, List, [], ◌∷◌, ◌++◌, Option, None, Some, length, map, get_or, drop, refl, sym, ap, ◌∙◌, arith}
use Rattle.std.specs.Option.{option_or}
use Rattle.std.proofs.Math.Seq.{drop-nil}
use Rattle.std.proofs.lemmas.List.{append-nil}
use Rattle.c_tree.specs.declared.expr.Expr.{Expr}
use Rattle.c_tree.specs.declared.expr.Specifier.{Specifier}
use Rattle.c_tree.specs.declared.expr.Member.{Member, out-Member}
use Rattle.c_tree.specs.declared.expr.Enumerator.{Enumerator}
use Rattle.c_tree.specs.declared.expr.Declarator.{Declarator}
use Rattle.c_tree.specs.declared.expr.Suffix.{Suffix}
use Rattle.c_tree.specs.declared.expr.Parameter.{Parameter}
use Rattle.c_tree.specs.Shape.{expr_of, exprs_of, maybe_of, specifier_of, specifiers_of, members_of, declarator_of, declarators_of, enumerators_of, parameters_of}
use Rattle.clight_types.specs.declared.rule.Refusal.{Refusal}
use Rattle.clight_types.specs.declared.declarators.Part as P
use Rattle.clight_types.specs.declared.declarators.Parameter as T
use Rattle.clight_types.specs.BuiltOf.{part_of, parameter_of}
use Rattle.clight_types.specs.Judged.{Judged, value, and_then}
use Rattle.clight_types.specs.Types.{Spelling, Laid}
use Rattle.clight_types.specs.Declarators.{Part, ParameterOf, built_type, built_parameter}
use Rattle.clight_scopes.specs.Scopes.{Scene, or_else}
use Rattle.clight_operands.specs.declared.typed.Typed as C
use Rattle.clight_operands.specs.Operands.{NoEffect, Typed}
use Rattle.clight_operands.specs.Shown.{typed_of, all_typed}
use Rattle.clight_typing.specs.Typing.{EnumValue, typed, typed_all, typed_value, specifier_judged, specified, members_judged, member_declarators, member_judged, enumerators_judged, enumerator_judged, declared, declared_at, declared_name, name_or_empty, base_of, parameters_judged, parameter_judged}
use Rattle.clight_specifiers.specs.TypingOf.{parts_of}
use Rattle.clight_expressions.specs.SuffixOf.{suffix_judged, suffixes_judged}
use Rattle.clight_specifiers.proofs.PartsOf.{parts_pushed}
use Rattle.clight_expressions.proofs.Stops.{Stops, stops_as, stops_on}
use Rattle.clight_expressions.proofs.Rest.{then_on, all_behind, parameters_behind, exprs_at, specifiers_at, members_at, declarators_at, enumerators_at, suffixes_at, parameters_at}

-- behind the last element nothing is left
past_end : {A : Type 0} (list : List A) (i : ℕ) → length list ≤ i → drop i list ≡ []
past_end [] i h = drop-nil i
past_end (x ∷ xs) zero h = absurd (omega arith)
past_end (x ∷ xs) (suc i) h = past_end xs i (omega arith)

map_push : {A B : Type 0} (f : A → B) (xs : List A) (x : A) → map f (xs ++ x ∷ []) ≡ map f xs ++ f x ∷ []
map_push f [] x = refl
map_push f (y ∷ ys) x = ap (λ r. f y ∷ r) (map_push f ys x)

-- ## Expressions

pub exprs_stops : (s : Scene) (made : List C.Typed) (list : List Expr) (i : ℕ) (x : Expr) (e : Refusal) (all : Judged (Scene × List Typed)) → i < length list → x ≡ get_or list i x → Stops (typed NoEffect false s (expr_of x)) e → all_behind (all_typed made) (typed_all s (exprs_of (drop i list))) ≡ all → Stops all e
exprs_stops s made list i x e all within is p known =
    stops_on all (typed NoEffect false s (expr_of x)) (λ r. all_behind (all_typed made ++ r.1 ∷ []) (typed_all r.0 (exprs_of (drop (i + 1) list)))) e (sym known ∙ exprs_at s (all_typed made) list i x within is) p

pub exprs_next : (s t : Scene) (made new : List C.Typed) (list : List Expr) (i : ℕ) (x : Expr) (e : C.Typed) (all : Judged (Scene × List Typed)) → i < length list → x ≡ get_or list i x → typed NoEffect false s (expr_of x) ≡ value (t, typed_of e) → new ≡ made ++ e ∷ [] → all_behind (all_typed made) (typed_all s (exprs_of (drop i list))) ≡ all → all_behind (all_typed new) (typed_all t (exprs_of (drop (i + 1) list))) ≡ all
exprs_next s t made new list i x e all within is step grown known =
    ap (λ m. all_behind m (typed_all t (exprs_of (drop (i + 1) list)))) (ap (map typed_of) grown ∙ map_push typed_of made e)
    ∙ sym (exprs_at s (all_typed made) list i x within is ∙ then_on (typed NoEffect false s (expr_of x)) (t, typed_of e) (λ r. all_behind (all_typed made ++ r.1 ∷ []) (typed_all r.0 (exprs_of (drop (i + 1) list)))) step)
    ∙ known

pub exprs_end : (s : Scene) (made : List C.Typed) (list : List Expr) (i : ℕ) (all : Judged (Scene × List Typed)) → length list ≤ i → all_behind (all_typed made) (typed_all s (exprs_of (drop i list))) ≡ all → all ≡ value (s, all_typed made)
exprs_end s made list i all past known =
    sym known
    ∙ ap (λ xs. all_behind (all_typed made) (typed_all s (exprs_of xs))) (past_end list i past)
    ∙ ap (λ (m : List Typed). value (s, m)) (append-nil (all_typed made))

-- ## Specifiers

or_same : (a b : Option ℕ) → option_or a b ≡ or_else a b
or_same None b = refl
or_same (Some x) b = refl

pub specifiers_stop : (s : Scene) (base : Option ℕ) (list : List Specifier) (i : ℕ) (x : Specifier) (e : Refusal) (all : Judged (Scene × Option ℕ)) → i < length list → x ≡ get_or list i x → Stops (specifier_judged s (specifier_of x)) e → specified s base (specifiers_of (drop i list)) ≡ all → Stops all e
specifiers_stop s base list i x e all within is p known =
    stops_on all (specifier_judged s (specifier_of x)) (λ r. specified r.0 (or_else r.1 base) (specifiers_of (drop (i + 1) list))) e (sym known ∙ specifiers_at s base list i x within is) p

pub specifiers_next : (s t : Scene) (base given later : Option ℕ) (list : List Specifier) (i : ℕ) (x : Specifier) (all : Judged (Scene × Option ℕ)) → i < length list → x ≡ get_or list i x → specifier_judged s (specifier_of x) ≡ value (t, given) → later ≡ option_or given base → specified s base (specifiers_of (drop i list)) ≡ all → specified t later (specifiers_of (drop (i + 1) list)) ≡ all
specifiers_next s t base given later list i x all within is step chosen known =
    ap (λ k. specified t k (specifiers_of (drop (i + 1) list))) (chosen ∙ or_same given base)
    ∙ sym (specifiers_at s base list i x within is ∙ then_on (specifier_judged s (specifier_of x)) (t, given) (λ r. specified r.0 (or_else r.1 base) (specifiers_of (drop (i + 1) list))) step)
    ∙ known

pub specifiers_end : (s : Scene) (base : Option ℕ) (list : List Specifier) (i : ℕ) (all : Judged (Scene × Option ℕ)) → length list ≤ i → specified s base (specifiers_of (drop i list)) ≡ all → all ≡ value (s, base)
specifiers_end s base list i all past known = sym known ∙ ap (λ xs. specified s base (specifiers_of xs)) (past_end list i past)

-- ## Members

pub members_stop_first : (s : Scene) (laid : Laid) (list : List Member) (i : ℕ) (x : Member) (e : Refusal) (all : Judged (Scene × Laid)) → i < length list → x ≡ get_or list i x → Stops (specified s None (specifiers_of (out-Member x).specifiers.items)) e → members_judged s laid (members_of (drop i list)) ≡ all → Stops all e
members_stop_first s laid list i x e all within is p known =
    stops_on all (specified s None (specifiers_of (out-Member x).specifiers.items)) (λ r. and_then (member_declarators r.0 (base_of r.1) laid (declarators_of (out-Member x).declarators.items)) (λ q. members_judged q.0 q.1 (members_of (drop (i + 1) list)))) e (sym known ∙ members_at s laid list i x within is) p

pub members_stop_second : (s t : Scene) (given : Option ℕ) (base : ℕ) (laid : Laid) (list : List Member) (i : ℕ) (x : Member) (e : Refusal) (all : Judged (Scene × Laid)) → i < length list → x ≡ get_or list i x → specified s None (specifiers_of (out-Member x).specifiers.items) ≡ value (t, given) → base ≡ base_of given → Stops (member_declarators t base laid (declarators_of (out-Member x).declarators.items)) e → members_judged s laid (members_of (drop i list)) ≡ all → Stops all e
members_stop_second s t given base laid list i x e all within is first based p known =
    stops_on all (member_declarators t base laid (declarators_of (out-Member x).declarators.items)) (λ q. members_judged q.0 q.1 (members_of (drop (i + 1) list))) e
    (sym known ∙ members_at s laid list i x within is
    ∙ then_on (specified s None (specifiers_of (out-Member x).specifiers.items)) (t, given) (λ r. and_then (member_declarators r.0 (base_of r.1) laid (declarators_of (out-Member x).declarators.items)) (λ q. members_judged q.0 q.1 (members_of (drop (i + 1) list)))) first
    ∙ ap (λ k. and_then (member_declarators t k laid (declarators_of (out-Member x).declarators.items)) (λ q. members_judged q.0 q.1 (members_of (drop (i + 1) list)))) (sym based)) p

pub members_next : (s t u : Scene) (given : Option ℕ) (base : ℕ) (laid wider : Laid) (list : List Member) (i : ℕ) (x : Member) (all : Judged (Scene × Laid)) → i < length list → x ≡ get_or list i x → specified s None (specifiers_of (out-Member x).specifiers.items) ≡ value (t, given) → base ≡ base_of given → member_declarators t base laid (declarators_of (out-Member x).declarators.items) ≡ value (u, wider) → members_judged s laid (members_of (drop i list)) ≡ all → members_judged u wider (members_of (drop (i + 1) list)) ≡ all
members_next s t u given base laid wider list i x all within is first based second known =
    sym (members_at s laid list i x within is
    ∙ then_on (specified s None (specifiers_of (out-Member x).specifiers.items)) (t, given) (λ r. and_then (member_declarators r.0 (base_of r.1) laid (declarators_of (out-Member x).declarators.items)) (λ q. members_judged q.0 q.1 (members_of (drop (i + 1) list)))) first
    ∙ ap (λ k. and_then (member_declarators t k laid (declarators_of (out-Member x).declarators.items)) (λ q. members_judged q.0 q.1 (members_of (drop (i + 1) list)))) (sym based)
    ∙ then_on (member_declarators t base laid (declarators_of (out-Member x).declarators.items)) (u, wider) (λ q. members_judged q.0 q.1 (members_of (drop (i + 1) list))) second)
    ∙ known

pub members_end : (s : Scene) (laid : Laid) (list : List Member) (i : ℕ) (all : Judged (Scene × Laid)) → length list ≤ i → members_judged s laid (members_of (drop i list)) ≡ all → all ≡ value (s, laid)
members_end s laid list i all past known = sym known ∙ ap (λ xs. members_judged s laid (members_of xs)) (past_end list i past)

-- a member by the name and the place that the code has found in its declarator
member_as : (t : Scene) (base : ℕ) (parts : List Part) (laid : Laid) (x : Declarator) (place : ℕ) (name : Spelling) (said : Option Spelling) → place ≡ declared_at (declarator_of x) 0 → name ≡ name_or_empty said → said ≡ declared_name (declarator_of x) → member_judged t laid (declared_at (declarator_of x) 0) (name_or_empty (declared_name (declarator_of x))) (built_type t.types base parts) ≡ member_judged t laid place name (built_type t.types base parts)
member_as t base parts laid x place name said placed called told =
    ap (λ k. member_judged t laid k (name_or_empty (declared_name (declarator_of x))) (built_type t.types base parts)) (sym placed)
    ∙ ap (λ n. member_judged t laid place n (built_type t.types base parts)) (ap name_or_empty (sym told) ∙ sym called)

pub declarators_stop_first : (s : Scene) (base : ℕ) (laid : Laid) (list : List Declarator) (i : ℕ) (x : Declarator) (e : Refusal) (all : Judged (Scene × Laid)) → i < length list → x ≡ get_or list i x → Stops (declared s false (declarator_of x)) e → member_declarators s base laid (declarators_of (drop i list)) ≡ all → Stops all e
declarators_stop_first s base laid list i x e all within is p known =
    stops_on all (declared s false (declarator_of x)) (λ r. and_then (member_judged r.0 laid (declared_at (declarator_of x) 0) (name_or_empty (declared_name (declarator_of x))) (built_type r.0.types base r.1)) (λ q. member_declarators q.0 base q.1 (declarators_of (drop (i + 1) list)))) e (sym known ∙ declarators_at s base laid list i x within is) p

pub declarators_stop_second : (s t : Scene) (base : ℕ) (parts : List Part) (laid : Laid) (list : List Declarator) (i : ℕ) (x : Declarator) (place : ℕ) (name : Spelling) (said : Option Spelling) (e : Refusal) (all : Judged (Scene × Laid)) → i < length list → x ≡ get_or list i x → declared s false (declarator_of x) ≡ value (t, parts) → place ≡ declared_at (declarator_of x) 0 → name ≡ name_or_empty said → said ≡ declared_name (declarator_of x) → Stops (member_judged t laid place name (built_type t.types base parts)) e → member_declarators s base laid (declarators_of (drop i list)) ≡ all → Stops all e
declarators_stop_second s t base parts laid list i x place name said e all within is first placed called told p known =
    stops_on all (member_judged t laid (declared_at (declarator_of x) 0) (name_or_empty (declared_name (declarator_of x))) (built_type t.types base parts)) (λ q. member_declarators q.0 base q.1 (declarators_of (drop (i + 1) list))) e
    (sym known ∙ declarators_at s base laid list i x within is ∙ then_on (declared s false (declarator_of x)) (t, parts) (λ r. and_then (member_judged r.0 laid (declared_at (declarator_of x) 0) (name_or_empty (declared_name (declarator_of x))) (built_type r.0.types base r.1)) (λ q. member_declarators q.0 base q.1 (declarators_of (drop (i + 1) list)))) first)
    (stops_as (member_judged t laid (declared_at (declarator_of x) 0) (name_or_empty (declared_name (declarator_of x))) (built_type t.types base parts)) (member_judged t laid place name (built_type t.types base parts)) e (member_as t base parts laid x place name said placed called told) p)

pub declarators_next : (s t u : Scene) (base : ℕ) (parts : List Part) (laid wider : Laid) (list : List Declarator) (i : ℕ) (x : Declarator) (place : ℕ) (name : Spelling) (said : Option Spelling) (all : Judged (Scene × Laid)) → i < length list → x ≡ get_or list i x → declared s false (declarator_of x) ≡ value (t, parts) → place ≡ declared_at (declarator_of x) 0 → name ≡ name_or_empty said → said ≡ declared_name (declarator_of x) → member_judged t laid place name (built_type t.types base parts) ≡ value (u, wider) → member_declarators s base laid (declarators_of (drop i list)) ≡ all → member_declarators u base wider (declarators_of (drop (i + 1) list)) ≡ all
declarators_next s t u base parts laid wider list i x place name said all within is first placed called told second known =
    sym (declarators_at s base laid list i x within is
    ∙ then_on (declared s false (declarator_of x)) (t, parts) (λ r. and_then (member_judged r.0 laid (declared_at (declarator_of x) 0) (name_or_empty (declared_name (declarator_of x))) (built_type r.0.types base r.1)) (λ q. member_declarators q.0 base q.1 (declarators_of (drop (i + 1) list)))) first
    ∙ then_on (member_judged t laid (declared_at (declarator_of x) 0) (name_or_empty (declared_name (declarator_of x))) (built_type t.types base parts)) (u, wider) (λ q. member_declarators q.0 base q.1 (declarators_of (drop (i + 1) list))) (member_as t base parts laid x place name said placed called told ∙ second))
    ∙ known

pub declarators_end : (s : Scene) (base : ℕ) (laid : Laid) (list : List Declarator) (i : ℕ) (all : Judged (Scene × Laid)) → length list ≤ i → member_declarators s base laid (declarators_of (drop i list)) ≡ all → all ≡ value (s, laid)
declarators_end s base laid list i all past known = sym known ∙ ap (λ xs. member_declarators s base laid (declarators_of xs)) (past_end list i past)

-- ## Enumerators

pub enumerators_stop_first : (s : Scene) (next : ℕ) (list : List Enumerator) (i : ℕ) (x : Enumerator) (e : Refusal) (all : Judged Scene) → i < length list → x ≡ get_or list i x → Stops (typed_value s (maybe_of x.value)) e → enumerators_judged s next (enumerators_of (drop i list)) ≡ all → Stops all e
enumerators_stop_first s next list i x e all within is p known =
    stops_on all (typed_value s (maybe_of x.value)) (λ r. and_then (enumerator_judged r.0 x.at x.name next r.1) (λ q. enumerators_judged q.0 q.1 (enumerators_of (drop (i + 1) list)))) e (sym known ∙ enumerators_at s next list i x within is) p

pub enumerators_stop_second : (s t : Scene) (next : ℕ) (v : EnumValue) (list : List Enumerator) (i : ℕ) (x : Enumerator) (e : Refusal) (all : Judged Scene) → i < length list → x ≡ get_or list i x → typed_value s (maybe_of x.value) ≡ value (t, v) → Stops (enumerator_judged t x.at x.name next v) e → enumerators_judged s next (enumerators_of (drop i list)) ≡ all → Stops all e
enumerators_stop_second s t next v list i x e all within is first p known =
    stops_on all (enumerator_judged t x.at x.name next v) (λ q. enumerators_judged q.0 q.1 (enumerators_of (drop (i + 1) list))) e
    (sym known ∙ enumerators_at s next list i x within is ∙ then_on (typed_value s (maybe_of x.value)) (t, v) (λ r. and_then (enumerator_judged r.0 x.at x.name next r.1) (λ q. enumerators_judged q.0 q.1 (enumerators_of (drop (i + 1) list)))) first) p

pub enumerators_next : (s t u : Scene) (next after : ℕ) (v : EnumValue) (list : List Enumerator) (i : ℕ) (x : Enumerator) (all : Judged Scene) → i < length list → x ≡ get_or list i x → typed_value s (maybe_of x.value) ≡ value (t, v) → enumerator_judged t x.at x.name next v ≡ value (u, after) → enumerators_judged s next (enumerators_of (drop i list)) ≡ all → enumerators_judged u after (enumerators_of (drop (i + 1) list)) ≡ all
enumerators_next s t u next after v list i x all within is first second known =
    sym (enumerators_at s next list i x within is
    ∙ then_on (typed_value s (maybe_of x.value)) (t, v) (λ r. and_then (enumerator_judged r.0 x.at x.name next r.1) (λ q. enumerators_judged q.0 q.1 (enumerators_of (drop (i + 1) list)))) first
    ∙ then_on (enumerator_judged t x.at x.name next v) (u, after) (λ q. enumerators_judged q.0 q.1 (enumerators_of (drop (i + 1) list))) second)
    ∙ known

pub enumerators_end : (s : Scene) (next : ℕ) (list : List Enumerator) (i : ℕ) (all : Judged Scene) → length list ≤ i → enumerators_judged s next (enumerators_of (drop i list)) ≡ all → all ≡ value s
enumerators_end s next list i all past known = sym known ∙ ap (λ xs. enumerators_judged s next (enumerators_of xs)) (past_end list i past)

-- ## Brackets and parameters behind the inside of a declarator

pub suffixes_stop : (s : Scene) (own : Bool) (parts : List P.Part) (list : List Suffix) (i : ℕ) (x : Suffix) (e : Refusal) (all : Judged (Scene × List Part)) → i < length list → x ≡ get_or list i x → Stops (suffix_judged s own x) e → suffixes_judged s own (parts_of parts) (drop i list) ≡ all → Stops all e
suffixes_stop s own parts list i x e all within is p known =
    stops_on all (suffix_judged s own x) (λ q. suffixes_judged q.0 false (q.1 ∷ parts_of parts) (drop (i + 1) list)) e (sym known ∙ suffixes_at s own (parts_of parts) list i x within is) p

pub suffixes_next : (s t : Scene) (own : Bool) (parts new : List P.Part) (p : P.Part) (list : List Suffix) (i : ℕ) (x : Suffix) (all : Judged (Scene × List Part)) → i < length list → x ≡ get_or list i x → suffix_judged s own x ≡ value (t, part_of p) → new ≡ parts ++ p ∷ [] → suffixes_judged s own (parts_of parts) (drop i list) ≡ all → suffixes_judged t false (parts_of new) (drop (i + 1) list) ≡ all
suffixes_next s t own parts new p list i x all within is step grown known =
    ap (λ ps. suffixes_judged t false ps (drop (i + 1) list)) (ap parts_of grown ∙ parts_pushed parts p)
    ∙ sym (suffixes_at s own (parts_of parts) list i x within is ∙ then_on (suffix_judged s own x) (t, part_of p) (λ q. suffixes_judged q.0 false (q.1 ∷ parts_of parts) (drop (i + 1) list)) step)
    ∙ known

pub suffixes_end : (s : Scene) (own : Bool) (parts : List Part) (list : List Suffix) (i : ℕ) (all : Judged (Scene × List Part)) → length list ≤ i → suffixes_judged s own parts (drop i list) ≡ all → all ≡ value (s, parts)
suffixes_end s own parts list i all past known = sym known ∙ ap (suffixes_judged s own parts) (past_end list i past)

-- ## Parameters

-- a parameter by the base, the name and the place that the code has found
parameter_as : (u : Scene) (own : Bool) (given : Option ℕ) (base : ℕ) (parts : List Part) (x : Parameter) (place : ℕ) (said : Option Spelling) → base ≡ base_of given → place ≡ declared_at (declarator_of x.declarator) x.at → said ≡ declared_name (declarator_of x.declarator) → parameter_judged own u x.at (declared_at (declarator_of x.declarator) x.at) (declared_name (declarator_of x.declarator)) (built_parameter u.types (base_of given) parts) ≡ parameter_judged own u x.at place said (built_parameter u.types base parts)
parameter_as u own given base parts x place said based placed told =
    ap (λ k. parameter_judged own u x.at (declared_at (declarator_of x.declarator) x.at) (declared_name (declarator_of x.declarator)) (built_parameter u.types k parts)) (sym based)
    ∙ ap (λ k. parameter_judged own u x.at k (declared_name (declarator_of x.declarator)) (built_parameter u.types base parts)) (sym placed)
    ∙ ap (λ n. parameter_judged own u x.at place n (built_parameter u.types base parts)) (sym told)

pub parameters_stop_first : (s : Scene) (own : Bool) (made : List T.Parameter) (list : List Parameter) (i : ℕ) (x : Parameter) (e : Refusal) (all : Judged (Scene × List ParameterOf)) → i < length list → x ≡ get_or list i x → Stops (specified s None (specifiers_of x.specifiers.items)) e → parameters_behind (map parameter_of made) (parameters_judged own s (parameters_of (drop i list))) ≡ all → Stops all e
parameters_stop_first s own made list i x e all within is p known =
    stops_on all (specified s None (specifiers_of x.specifiers.items)) (λ r. and_then (declared r.0 false (declarator_of x.declarator)) (λ q. and_then (parameter_judged own q.0 x.at (declared_at (declarator_of x.declarator) x.at) (declared_name (declarator_of x.declarator)) (built_parameter q.0.types (base_of r.1) q.1)) (λ p. parameters_behind (map parameter_of made ++ p.1 ∷ []) (parameters_judged own p.0 (parameters_of (drop (i + 1) list)))))) e (sym known ∙ parameters_at s own (map parameter_of made) list i x within is) p

pub parameters_stop_second : (s t : Scene) (own : Bool) (given : Option ℕ) (made : List T.Parameter) (list : List Parameter) (i : ℕ) (x : Parameter) (e : Refusal) (all : Judged (Scene × List ParameterOf)) → i < length list → x ≡ get_or list i x → specified s None (specifiers_of x.specifiers.items) ≡ value (t, given) → Stops (declared t false (declarator_of x.declarator)) e → parameters_behind (map parameter_of made) (parameters_judged own s (parameters_of (drop i list))) ≡ all → Stops all e
parameters_stop_second s t own given made list i x e all within is first p known =
    stops_on all (declared t false (declarator_of x.declarator)) (λ q. and_then (parameter_judged own q.0 x.at (declared_at (declarator_of x.declarator) x.at) (declared_name (declarator_of x.declarator)) (built_parameter q.0.types (base_of given) q.1)) (λ p. parameters_behind (map parameter_of made ++ p.1 ∷ []) (parameters_judged own p.0 (parameters_of (drop (i + 1) list))))) e
    (sym known ∙ parameters_at s own (map parameter_of made) list i x within is ∙ then_on (specified s None (specifiers_of x.specifiers.items)) (t, given) (λ r. and_then (declared r.0 false (declarator_of x.declarator)) (λ q. and_then (parameter_judged own q.0 x.at (declared_at (declarator_of x.declarator) x.at) (declared_name (declarator_of x.declarator)) (built_parameter q.0.types (base_of r.1) q.1)) (λ p. parameters_behind (map parameter_of made ++ p.1 ∷ []) (parameters_judged own p.0 (parameters_of (drop (i + 1) list)))))) first) p

pub parameters_stop_third : (s t u : Scene) (own : Bool) (given : Option ℕ) (base : ℕ) (parts : List Part) (made : List T.Parameter) (list : List Parameter) (i : ℕ) (x : Parameter) (place : ℕ) (said : Option Spelling) (e : Refusal) (all : Judged (Scene × List ParameterOf)) → i < length list → x ≡ get_or list i x → specified s None (specifiers_of x.specifiers.items) ≡ value (t, given) → declared t false (declarator_of x.declarator) ≡ value (u, parts) → base ≡ base_of given → place ≡ declared_at (declarator_of x.declarator) x.at → said ≡ declared_name (declarator_of x.declarator) → Stops (parameter_judged own u x.at place said (built_parameter u.types base parts)) e → parameters_behind (map parameter_of made) (parameters_judged own s (parameters_of (drop i list))) ≡ all → Stops all e
parameters_stop_third s t u own given base parts made list i x place said e all within is first second based placed told p known =
    stops_on all (parameter_judged own u x.at (declared_at (declarator_of x.declarator) x.at) (declared_name (declarator_of x.declarator)) (built_parameter u.types (base_of given) parts)) (λ p. parameters_behind (map parameter_of made ++ p.1 ∷ []) (parameters_judged own p.0 (parameters_of (drop (i + 1) list)))) e
    (sym known ∙ parameters_at s own (map parameter_of made) list i x within is ∙ then_on (specified s None (specifiers_of x.specifiers.items)) (t, given) (λ r. and_then (declared r.0 false (declarator_of x.declarator)) (λ q. and_then (parameter_judged own q.0 x.at (declared_at (declarator_of x.declarator) x.at) (declared_name (declarator_of x.declarator)) (built_parameter q.0.types (base_of r.1) q.1)) (λ p. parameters_behind (map parameter_of made ++ p.1 ∷ []) (parameters_judged own p.0 (parameters_of (drop (i + 1) list)))))) first
    ∙ then_on (declared t false (declarator_of x.declarator)) (u, parts) (λ q. and_then (parameter_judged own q.0 x.at (declared_at (declarator_of x.declarator) x.at) (declared_name (declarator_of x.declarator)) (built_parameter q.0.types (base_of given) q.1)) (λ p. parameters_behind (map parameter_of made ++ p.1 ∷ []) (parameters_judged own p.0 (parameters_of (drop (i + 1) list))))) second)
    (stops_as (parameter_judged own u x.at (declared_at (declarator_of x.declarator) x.at) (declared_name (declarator_of x.declarator)) (built_parameter u.types (base_of given) parts)) (parameter_judged own u x.at place said (built_parameter u.types base parts)) e (parameter_as u own given base parts x place said based placed told) p)

pub parameters_next : (s t u w : Scene) (own : Bool) (given : Option ℕ) (base : ℕ) (parts : List Part) (made new : List T.Parameter) (taken : T.Parameter) (list : List Parameter) (i : ℕ) (x : Parameter) (place : ℕ) (said : Option Spelling) (all : Judged (Scene × List ParameterOf)) → i < length list → x ≡ get_or list i x → specified s None (specifiers_of x.specifiers.items) ≡ value (t, given) → declared t false (declarator_of x.declarator) ≡ value (u, parts) → base ≡ base_of given → place ≡ declared_at (declarator_of x.declarator) x.at → said ≡ declared_name (declarator_of x.declarator) → parameter_judged own u x.at place said (built_parameter u.types base parts) ≡ value (w, parameter_of taken) → new ≡ made ++ taken ∷ [] → parameters_behind (map parameter_of made) (parameters_judged own s (parameters_of (drop i list))) ≡ all → parameters_behind (map parameter_of new) (parameters_judged own w (parameters_of (drop (i + 1) list))) ≡ all
parameters_next s t u w own given base parts made new taken list i x place said all within is first second based placed told third grown known =
    ap (λ m. parameters_behind m (parameters_judged own w (parameters_of (drop (i + 1) list)))) (ap (map parameter_of) grown ∙ map_push parameter_of made taken)
    ∙ sym (parameters_at s own (map parameter_of made) list i x within is
    ∙ then_on (specified s None (specifiers_of x.specifiers.items)) (t, given) (λ r. and_then (declared r.0 false (declarator_of x.declarator)) (λ q. and_then (parameter_judged own q.0 x.at (declared_at (declarator_of x.declarator) x.at) (declared_name (declarator_of x.declarator)) (built_parameter q.0.types (base_of r.1) q.1)) (λ p. parameters_behind (map parameter_of made ++ p.1 ∷ []) (parameters_judged own p.0 (parameters_of (drop (i + 1) list)))))) first
    ∙ then_on (declared t false (declarator_of x.declarator)) (u, parts) (λ q. and_then (parameter_judged own q.0 x.at (declared_at (declarator_of x.declarator) x.at) (declared_name (declarator_of x.declarator)) (built_parameter q.0.types (base_of given) q.1)) (λ p. parameters_behind (map parameter_of made ++ p.1 ∷ []) (parameters_judged own p.0 (parameters_of (drop (i + 1) list))))) second
    ∙ then_on (parameter_judged own u x.at (declared_at (declarator_of x.declarator) x.at) (declared_name (declarator_of x.declarator)) (built_parameter u.types (base_of given) parts)) (w, parameter_of taken) (λ p. parameters_behind (map parameter_of made ++ p.1 ∷ []) (parameters_judged own p.0 (parameters_of (drop (i + 1) list)))) (parameter_as u own given base parts x place said based placed told ∙ third))
    ∙ known

pub parameters_end : (s : Scene) (own : Bool) (made : List T.Parameter) (list : List Parameter) (i : ℕ) (all : Judged (Scene × List ParameterOf)) → length list ≤ i → parameters_behind (map parameter_of made) (parameters_judged own s (parameters_of (drop i list))) ≡ all → all ≡ value (s, map parameter_of made)
parameters_end s own made list i all past known =
    sym known
    ∙ ap (λ xs. parameters_behind (map parameter_of made) (parameters_judged own s (parameters_of xs))) (past_end list i past)
    ∙ ap (λ (m : List ParameterOf). value (s, m)) (append-nil (map parameter_of made))
