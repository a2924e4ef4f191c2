-- Type names, specifiers, and what may be left out: what stands where a part has a fault, and where all are without.
use Rattle.std.proofs.Common.{◌≡◌, ℕ, Bool, true, false, not, List, Option, Some, None, refl, sym, ap, ◌∙◌}
use Rattle.std.specs.Prelude.{◌&&◌, ◌++◌, length, replicate, Result}
use Rattle.c_grammar.specs.Tokens as k
use Rattle.c_tree.specs.declared.expr.Declarator.{Declarator}
use Rattle.c_tree.specs.Shape.{declarator_of, direct_of}
use Rattle.c_tree.specs.Trees.{TagTree, ExprTree, MaybeTree, stated, type_tree, SpecifierTree, storage_specifier, words_specifier, typedef_specifier, reference_specifier, composite_specifier, enum_reference_specifier, enum_specifier, SpecifierTrees, MemberTrees, EnumeratorTrees, DeclaratorTree}
use Rattle.clight_types.specs.declared.rule.Rule.TheVariants as rule
use Rattle.clight_types.specs.declared.rule.Refusal.{Refusal}
use Rattle.clight_types.specs.Judged.{Judged, value, and_then, unless, Judges, IsOwed}
use Rattle.clight_types.specs.Types.{Spelling, Laid, nothing_laid}
use Rattle.clight_types.specs.Declarators.{Length, Part, PointerPart, built_type}
use Rattle.clight_scopes.specs.Scopes.{Scene}
use Rattle.clight_operands.specs.Operands.{NoEffect, Typed}
use Rattle.clight_typing.specs.Typing.{StatedValue, is_floating, words_type, length_of, typedef_of, entity_of, typedef_judged, referred, tag_kind, body_begun, body_ended, enum_referred, enum_begun, typed, typed_length, typed_value, typed_name, type_name_judged, specifier_judged, specified, members_judged, enumerators_judged, declared, declared_at, is_name, base_of}
use Rattle.clight_specifiers.proofs.Faults.{judged_as}
use Rattle.clight_expressions.specs.SuffixOf.{suffixes_judged}
use Rattle.clight_expressions.proofs.Declarators.{declarator_judged}
use Rattle.clight_expressions.proofs.Rest.{then_on}
use Rattle.clight_expressions.proofs.Stops.{Stops, stops_on, stops_as, stops_unless}

-- ## What may be left out

pub length_stops : (s : Scene) (m : MaybeTree) (x : ExprTree) (e : Refusal) → m ≡ stated x → Stops (typed NoEffect false s x) e → Stops (typed_length s m) e
length_stops s m x e is p = stops_on (typed_length s m) (typed NoEffect false s x) (λ r. value (r.0, length_of r.1.constant)) e (ap (typed_length s) is) p

pub length_made : (s t : Scene) (m : MaybeTree) (x : ExprTree) (v : Typed) (n : Length) → m ≡ stated x → typed NoEffect false s x ≡ value (t, v) → n ≡ length_of v.constant → typed_length s m ≡ value (t, n)
length_made s t m x v n is h told = ap (typed_length s) is ∙ then_on (typed NoEffect false s x) (t, v) (λ r. value (r.0, length_of r.1.constant)) h ∙ ap (λ (l : Length). value (t, l)) (sym told)

pub value_stops : (s : Scene) (m : MaybeTree) (x : ExprTree) (e : Refusal) → m ≡ stated x → Stops (typed NoEffect false s x) e → Stops (typed_value s m) e
value_stops s m x e is p = stops_on (typed_value s m) (typed NoEffect false s x) (λ r. value (r.0, StatedValue r.1.constant)) e (ap (typed_value s) is) p

pub value_made : (s t : Scene) (m : MaybeTree) (x : ExprTree) (v : Typed) → m ≡ stated x → typed NoEffect false s x ≡ value (t, v) → typed_value s m ≡ value (t, StatedValue v.constant)
value_made s t m x v is h = ap (typed_value s) is ∙ then_on (typed NoEffect false s x) (t, v) (λ r. value (r.0, StatedValue r.1.constant)) h

-- ## Type names

pub type_stops_first : (s : Scene) (at : ℕ) (ss : SpecifierTrees) (d : DeclaratorTree) (e : Refusal) → Stops (specified s None ss) e → Stops (typed_name s (type_tree at ss d)) e
type_stops_first s at ss d e p = stops_on (typed_name s (type_tree at ss d)) (specified s None ss) (λ r. and_then (declared r.0 false d) (λ q. type_name_judged q.0 (declared_at d at) (built_type q.0.types (base_of r.1) q.1))) e refl p

pub type_stops_second : (s t : Scene) (at : ℕ) (ss : SpecifierTrees) (d : DeclaratorTree) (b : Option ℕ) (e : Refusal) → specified s None ss ≡ value (t, b) → Stops (declared t false d) e → Stops (typed_name s (type_tree at ss d)) e
type_stops_second s t at ss d b e h p = stops_on (typed_name s (type_tree at ss d)) (declared t false d) (λ q. type_name_judged q.0 (declared_at d at) (built_type q.0.types (base_of b) q.1)) e (then_on (specified s None ss) (t, b) (λ r. and_then (declared r.0 false d) (λ q. type_name_judged q.0 (declared_at d at) (built_type q.0.types (base_of r.1) q.1))) h) p

pub type_judged : {A : Type 0} (s t u : Scene) (at : ℕ) (ss : SpecifierTrees) (d : DeclaratorTree) (b : Option ℕ) (ps : List Part) (base place : ℕ) (view : A → Scene × ℕ) (r : Result A Refusal) → specified s None ss ≡ value (t, b) → declared t false d ≡ value (u, ps) → base ≡ base_of b → place ≡ declared_at d at → Judges (type_name_judged u place (built_type u.types base ps)) view r → Judges (typed_name s (type_tree at ss d)) view r
type_judged s t u at ss d b ps base place view r first second based placed p =
    judged_as (typed_name s (type_tree at ss d)) (type_name_judged u place (built_type u.types base ps)) view r
    (then_on (specified s None ss) (t, b) (λ r. and_then (declared r.0 false d) (λ q. type_name_judged q.0 (declared_at d at) (built_type q.0.types (base_of r.1) q.1))) first
    ∙ then_on (declared t false d) (u, ps) (λ q. type_name_judged q.0 (declared_at d at) (built_type q.0.types (base_of b) q.1)) second
    ∙ ap (λ k. type_name_judged u k (built_type u.types (base_of b) ps)) (sym placed)
    ∙ ap (λ k. type_name_judged u place (built_type u.types k ps)) (sym based)) p

-- ## Specifiers

pub storage_stops : (s : Scene) (at : ℕ) (w : k.StorageClass) (x : SpecifierTree) (ok : Bool) (e : Refusal) → x ≡ storage_specifier at w → ok ≡ not s.in_body → IsOwed ok rule.InBlock at e → Stops (specifier_judged s x) e
storage_stops s at w x ok e is tested p = stops_as (specifier_judged s x) (unless ok rule.InBlock at (value (s, None))) e (ap (specifier_judged s) is ∙ ap (λ b. unless b rule.InBlock at (value (s, None))) (sym tested)) (stops_unless ok rule.InBlock at (value (s, None)) e p)

pub storage_made : (s : Scene) (at : ℕ) (w : k.StorageClass) (x : SpecifierTree) (ok : Bool) → x ≡ storage_specifier at w → ok ≡ not s.in_body → ok ≡ true → specifier_judged s x ≡ value (s, None)
storage_made s at w x ok is tested p = ap (specifier_judged s) is ∙ ap (λ b. unless b rule.InBlock at (value (s, None))) (sym tested ∙ p)

pub words_stop : (s : Scene) (at : ℕ) (ws : List k.TypeWord) (x : SpecifierTree) (ok : Bool) (e : Refusal) → x ≡ words_specifier at ws → ok ≡ not (is_floating ws) → IsOwed ok rule.Floating at e → Stops (specifier_judged s x) e
words_stop s at ws x ok e is tested p = stops_as (specifier_judged s x) (unless ok rule.Floating at (value (s, Some (words_type ws)))) e (ap (specifier_judged s) is ∙ ap (λ b. unless b rule.Floating at (value (s, Some (words_type ws)))) (sym tested)) (stops_unless ok rule.Floating at (value (s, Some (words_type ws))) e p)

pub words_made : (s : Scene) (at : ℕ) (ws : List k.TypeWord) (x : SpecifierTree) (ok : Bool) (t : ℕ) → x ≡ words_specifier at ws → ok ≡ not (is_floating ws) → ok ≡ true → t ≡ words_type ws → specifier_judged s x ≡ value (s, Some t)
words_made s at ws x ok t is tested p told = ap (specifier_judged s) is ∙ ap (λ b. unless b rule.Floating at (value (s, Some (words_type ws)))) (sym tested ∙ p) ∙ ap (λ (n : ℕ). value (s, Some n)) (sym told)

pub typedef_stops : (s : Scene) (at : ℕ) (name : Spelling) (x : SpecifierTree) (e : Refusal) → x ≡ typedef_specifier at name → Stops (typedef_judged s at (typedef_of (entity_of s name))) e → Stops (specifier_judged s x) e
typedef_stops s at name x e is p = stops_on (specifier_judged s x) (typedef_judged s at (typedef_of (entity_of s name))) (λ r. value (r.0, Some r.1)) e (ap (specifier_judged s) is) p

pub typedef_made : (s t : Scene) (at : ℕ) (name : Spelling) (x : SpecifierTree) (n : ℕ) → x ≡ typedef_specifier at name → typedef_judged s at (typedef_of (entity_of s name)) ≡ value (t, n) → specifier_judged s x ≡ value (t, Some n)
typedef_made s t at name x n is h = ap (specifier_judged s) is ∙ then_on (typedef_judged s at (typedef_of (entity_of s name))) (t, n) (λ r. value (r.0, Some r.1)) h

pub reference_stops : (s : Scene) (at : ℕ) (w : k.CompositeWord) (tag_at : ℕ) (name : Spelling) (x : SpecifierTree) (e : Refusal) → x ≡ reference_specifier at w tag_at name → Stops (referred s w at tag_at name) e → Stops (specifier_judged s x) e
reference_stops s at w tag_at name x e is p = stops_on (specifier_judged s x) (referred s w at tag_at name) (λ r. value (r.0, Some r.1)) e (ap (specifier_judged s) is) p

pub reference_made : (s t : Scene) (at : ℕ) (w : k.CompositeWord) (tag_at : ℕ) (name : Spelling) (x : SpecifierTree) (n : ℕ) → x ≡ reference_specifier at w tag_at name → referred s w at tag_at name ≡ value (t, n) → specifier_judged s x ≡ value (t, Some n)
reference_made s t at w tag_at name x n is h = ap (specifier_judged s) is ∙ then_on (referred s w at tag_at name) (t, n) (λ r. value (r.0, Some r.1)) h

pub enum_reference_stops : (s : Scene) (at tag_at : ℕ) (name : Spelling) (x : SpecifierTree) (e : Refusal) → x ≡ enum_reference_specifier at tag_at name → Stops (enum_referred s tag_at (tag_kind s name)) e → Stops (specifier_judged s x) e
enum_reference_stops s at tag_at name x e is p = stops_on (specifier_judged s x) (enum_referred s tag_at (tag_kind s name)) (λ r. value (r.0, Some r.1)) e (ap (specifier_judged s) is) p

pub enum_reference_made : (s t : Scene) (at tag_at : ℕ) (name : Spelling) (x : SpecifierTree) (n : ℕ) → x ≡ enum_reference_specifier at tag_at name → enum_referred s tag_at (tag_kind s name) ≡ value (t, n) → specifier_judged s x ≡ value (t, Some n)
enum_reference_made s t at tag_at name x n is h = ap (specifier_judged s) is ∙ then_on (enum_referred s tag_at (tag_kind s name)) (t, n) (λ r. value (r.0, Some r.1)) h

-- what stands behind the body of a struct, and behind its beginning
abbrev body_behind : ℕ → Scene × Laid → Judged (Scene × Option ℕ)
body_behind n r = and_then (body_ended r.0 n r.1) (λ q. value (q.0, Some q.1))

abbrev members_behind : MemberTrees → Scene × ℕ → Judged (Scene × Option ℕ)
members_behind ms p = and_then (members_judged p.0 nothing_laid ms) (λ r. and_then (body_ended r.0 p.1 r.1) (λ q. value (q.0, Some q.1)))

pub composite_stops_first : (s : Scene) (at : ℕ) (w : k.CompositeWord) (tag : TagTree) (body_at : ℕ) (ms : MemberTrees) (x : SpecifierTree) (e : Refusal) → x ≡ composite_specifier at w tag body_at ms → Stops (body_begun s w at tag body_at) e → Stops (specifier_judged s x) e
composite_stops_first s at w tag body_at ms x e is p = stops_on (specifier_judged s x) (body_begun s w at tag body_at) (members_behind ms) e (ap (specifier_judged s) is) p

pub composite_stops_second : (s t : Scene) (at : ℕ) (w : k.CompositeWord) (tag : TagTree) (body_at : ℕ) (ms : MemberTrees) (x : SpecifierTree) (n : ℕ) (e : Refusal) → x ≡ composite_specifier at w tag body_at ms → body_begun s w at tag body_at ≡ value (t, n) → Stops (members_judged t nothing_laid ms) e → Stops (specifier_judged s x) e
composite_stops_second s t at w tag body_at ms x n e is first p = stops_on (specifier_judged s x) (members_judged t nothing_laid ms) (body_behind n) e (ap (specifier_judged s) is ∙ then_on (body_begun s w at tag body_at) (t, n) (members_behind ms) first) p

pub composite_stops_third : (s t u : Scene) (at : ℕ) (w : k.CompositeWord) (tag : TagTree) (body_at : ℕ) (ms : MemberTrees) (x : SpecifierTree) (n : ℕ) (laid : Laid) (e : Refusal) → x ≡ composite_specifier at w tag body_at ms → body_begun s w at tag body_at ≡ value (t, n) → members_judged t nothing_laid ms ≡ value (u, laid) → Stops (body_ended u n laid) e → Stops (specifier_judged s x) e
composite_stops_third s t u at w tag body_at ms x n laid e is first second p = stops_on (specifier_judged s x) (body_ended u n laid) (λ q. value (q.0, Some q.1)) e (ap (specifier_judged s) is ∙ then_on (body_begun s w at tag body_at) (t, n) (members_behind ms) first ∙ then_on (members_judged t nothing_laid ms) (u, laid) (body_behind n) second) p

pub composite_made : (s t u v : Scene) (at : ℕ) (w : k.CompositeWord) (tag : TagTree) (body_at : ℕ) (ms : MemberTrees) (x : SpecifierTree) (n : ℕ) (laid : Laid) (m : ℕ) → x ≡ composite_specifier at w tag body_at ms → body_begun s w at tag body_at ≡ value (t, n) → members_judged t nothing_laid ms ≡ value (u, laid) → body_ended u n laid ≡ value (v, m) → specifier_judged s x ≡ value (v, Some m)
composite_made s t u v at w tag body_at ms x n laid m is first second third =
    ap (specifier_judged s) is ∙ then_on (body_begun s w at tag body_at) (t, n) (members_behind ms) first ∙ then_on (members_judged t nothing_laid ms) (u, laid) (body_behind n) second ∙ then_on (body_ended u n laid) (v, m) (λ q. value (q.0, Some q.1)) third

-- an enum is the type `int`, behind its enumerators
abbrev enumerators_behind : EnumeratorTrees → ℕ → Scene → Judged (Scene × Option ℕ)
enumerators_behind es n p = and_then (enumerators_judged p 0 es) (λ r. value (r, Some n))

pub enum_stops_first : (s : Scene) (at : ℕ) (tag : TagTree) (body_at : ℕ) (es : EnumeratorTrees) (x : SpecifierTree) (e : Refusal) → x ≡ enum_specifier at tag body_at es → Stops (enum_begun s tag body_at) e → Stops (specifier_judged s x) e
enum_stops_first s at tag body_at es x e is p = stops_on (specifier_judged s x) (enum_begun s tag body_at) (enumerators_behind es 5) e (ap (specifier_judged s) is) p

pub enum_stops_second : (s t : Scene) (at : ℕ) (tag : TagTree) (body_at : ℕ) (es : EnumeratorTrees) (x : SpecifierTree) (e : Refusal) → x ≡ enum_specifier at tag body_at es → enum_begun s tag body_at ≡ value t → Stops (enumerators_judged t 0 es) e → Stops (specifier_judged s x) e
enum_stops_second s t at tag body_at es x e is first p = stops_on (specifier_judged s x) (enumerators_judged t 0 es) (λ r. value (r, Some 5)) e (ap (specifier_judged s) is ∙ then_on (enum_begun s tag body_at) t (enumerators_behind es 5) first) p

pub enum_made : (s t u : Scene) (at : ℕ) (tag : TagTree) (body_at : ℕ) (es : EnumeratorTrees) (x : SpecifierTree) → x ≡ enum_specifier at tag body_at es → enum_begun s tag body_at ≡ value t → enumerators_judged t 0 es ≡ value u → specifier_judged s x ≡ value (u, Some 5)
enum_made s t u at tag body_at es x is first second = ap (specifier_judged s) is ∙ then_on (enum_begun s tag body_at) t (enumerators_behind es 5) first ∙ then_on (enumerators_judged t 0 es) u (λ r. value (r, Some 5)) second

-- ## Declarators

pub declared_stops_first : (s : Scene) (own : Bool) (d : Declarator) (e : Refusal) → Stops (declared s own (direct_of d.direct)) e → Stops (declared s own (declarator_of d)) e
declared_stops_first s own d e p = stops_on (declared s own (declarator_of d)) (declared s own (direct_of d.direct)) (λ r. and_then (suffixes_judged r.0 (own && is_name (direct_of d.direct)) r.1 d.suffixes.items) (λ q. value (q.0, replicate (length d.pointers.items) PointerPart ++ q.1))) e (declarator_judged s own d) p

pub declared_stops_second : (s t : Scene) (own : Bool) (d : Declarator) (ps : List Part) (keeps : Bool) (e : Refusal) → declared s own (direct_of d.direct) ≡ value (t, ps) → keeps ≡ (own && is_name (direct_of d.direct)) → Stops (suffixes_judged t keeps ps d.suffixes.items) e → Stops (declared s own (declarator_of d)) e
declared_stops_second s t own d ps keeps e first kept p =
    stops_on (declared s own (declarator_of d)) (suffixes_judged t keeps ps d.suffixes.items) (λ q. value (q.0, replicate (length d.pointers.items) PointerPart ++ q.1)) e
    (declarator_judged s own d
    ∙ then_on (declared s own (direct_of d.direct)) (t, ps) (λ r. and_then (suffixes_judged r.0 (own && is_name (direct_of d.direct)) r.1 d.suffixes.items) (λ q. value (q.0, replicate (length d.pointers.items) PointerPart ++ q.1))) first
    ∙ ap (λ b. and_then (suffixes_judged t b ps d.suffixes.items) (λ q. value (q.0, replicate (length d.pointers.items) PointerPart ++ q.1))) (sym kept)) p

pub declared_made : (s t u : Scene) (own : Bool) (d : Declarator) (ps qs all : List Part) (keeps : Bool) (count : ℕ) → declared s own (direct_of d.direct) ≡ value (t, ps) → keeps ≡ (own && is_name (direct_of d.direct)) → suffixes_judged t keeps ps d.suffixes.items ≡ value (u, qs) → count ≡ length d.pointers.items → all ≡ replicate count PointerPart ++ qs → declared s own (declarator_of d) ≡ value (u, all)
declared_made s t u own d ps qs all keeps count first kept second counted pointed =
    declarator_judged s own d
    ∙ then_on (declared s own (direct_of d.direct)) (t, ps) (λ r. and_then (suffixes_judged r.0 (own && is_name (direct_of d.direct)) r.1 d.suffixes.items) (λ q. value (q.0, replicate (length d.pointers.items) PointerPart ++ q.1))) first
    ∙ ap (λ b. and_then (suffixes_judged t b ps d.suffixes.items) (λ q. value (q.0, replicate (length d.pointers.items) PointerPart ++ q.1))) (sym kept)
    ∙ then_on (suffixes_judged t keeps ps d.suffixes.items) (u, qs) (λ q. value (q.0, replicate (length d.pointers.items) PointerPart ++ q.1)) second
    ∙ ap (λ n. value (u, replicate n PointerPart ++ qs)) (sym counted)
    ∙ ap (λ (l : List Part). value (u, l)) (sym pointed)
