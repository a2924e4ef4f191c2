-- The parts of a declarator: those of its inside, then those behind it, and its pointers outside all of them.
use Rattle.std.proofs.Common.{◌≡◌, Bool, true, false, List, [], ◌∷◌, ◌++◌, Option, Some, None, length, replicate, refl, sym, ap, ◌∙◌, rules}
use Rattle.std.specs.Prelude.{◌&&◌, Vec, Box, Result}
use Rattle.std.specs.declared.alloc.Global.{Global}
use Rattle.c_tree.specs.declared.word.Qualifier.{Qualifier}
use Rattle.c_tree.specs.declared.expr.Expr.{Expr}
use Rattle.c_tree.specs.declared.expr.Declarator.{Declarator}
use Rattle.c_tree.specs.declared.expr.Suffix.{Suffix}
use Rattle.c_tree.specs.declared.expr.Suffix.TheVariants.{Array', Function', Array, Function}
use Rattle.c_tree.specs.declared.expr.Parameter.{Parameter}
use Rattle.c_tree.specs.declared.expr.Direct.{Direct}
use Rattle.c_tree.specs.declared.expr.Direct.TheVariants.{Nested}
use Rattle.c_tree.specs.declared.expr.Direct.TheViews.{the_lemmas}
use Rattle.c_tree.specs.Trees.{DeclaratorTree}
use Rattle.c_tree.specs.Shape.{pointed, maybe_held, maybe_of, parameters_row, parameters_of, suffix_of, suffixes_of, declarator_of, direct_of}
use Rattle.c_tree.proofs.Rows.{parameters_same}
use Rattle.c_tree.proofs.Shapes.{nested_shape}
use Rattle.clight_types.specs.declared.rule.Refusal.{Refusal}
use Rattle.clight_types.specs.Judged.{value, and_then, Judges}
use Rattle.clight_types.specs.Declarators.{Length, ParameterOf, Part, PointerPart, ArrayPart, FunctionPart}
use Rattle.clight_scopes.specs.Scopes.{Scene, opened, closed}
use Rattle.clight_typing.specs.Typing.{declared, is_name, typed_length, parameters_judged}
use Rattle.clight_expressions.specs.SuffixOf.{suffix_judged, suffixes_judged}
use Rattle.clight_specifiers.proofs.Faults.{judged_as}
use Rattle.clight_expressions.proofs.Stops.{Stops, stops_on}
use Rattle.clight_expressions.proofs.Rest.{then_assoc, then_value, then_same, then_on}

-- ## A declarator, part by part

declared_pointed : (s : Scene) (own : Bool) (qs : List (Vec Qualifier Global)) (d : DeclaratorTree) → declared s own (pointed qs d) ≡ and_then (declared s own d) (λ r. value (r.0, replicate (length qs) PointerPart ++ r.1))
declared_pointed s own [] d = sym (then_value (declared s own d))
declared_pointed s own (q ∷ qs) d =
    ap (λ j. and_then j (λ (r : Scene × List Part). value (r.0, PointerPart ∷ r.1))) (declared_pointed s own qs d)
    ∙ then_assoc {B = Scene × List Part} {C = Scene × List Part} (declared s own d) (λ r. value (r.0, replicate (length qs) PointerPart ++ r.1)) (λ r. value (r.0, PointerPart ∷ r.1))

declared_suffix : (s : Scene) (own : Bool) (d : DeclaratorTree) (x : Suffix) → declared s own (suffix_of d x) ≡ and_then (declared s own d) (λ r. and_then (suffix_judged r.0 (own && is_name d) x) (λ q. value (q.0, q.1 ∷ r.1)))
declared_suffix s own d (Array' n) = then_same {B = Scene × List Part} (declared s own d) _ _ (λ r. sym (then_assoc {B = Scene × Part} {C = Scene × List Part} (typed_length r.0 (maybe_held n)) (λ q. value (q.0, ArrayPart q.1)) (λ q. value (q.0, q.1 ∷ r.1))))
declared_suffix s own d (Function' shape ps) = then_same {B = Scene × List Part} (declared s own d) _ _ (λ r. sym (then_assoc {B = Scene × Part} {C = Scene × List Part} (parameters_judged (own && is_name d) (opened r.0) (parameters_row ps)) (λ q. value (closed q.0, FunctionPart q.1)) (λ q. value (q.0, q.1 ∷ r.1))))

suffix_no_name : (d : DeclaratorTree) (x : Suffix) → is_name (suffix_of d x) ≡ false
suffix_no_name d (Array' n) = refl
suffix_no_name d (Function' shape ps) = refl

and_false : (b : Bool) → (b && false) ≡ false
and_false true = refl
and_false false = refl

declared_suffixes : (s : Scene) (own : Bool) (xs : List Suffix) (d : DeclaratorTree) → declared s own (suffixes_of d xs) ≡ and_then (declared s own d) (λ r. suffixes_judged r.0 (own && is_name d) r.1 xs)
declared_suffixes s own [] d = sym (then_value (declared s own d))
declared_suffixes s own (x ∷ xs) d =
    declared_suffixes s own xs (suffix_of d x)
    ∙ ap (λ b. and_then (declared s own (suffix_of d x)) (λ r. suffixes_judged r.0 b r.1 xs)) (ap (λ b. own && b) (suffix_no_name d x) ∙ and_false own)
    ∙ ap (λ j. and_then j (λ (r : Scene × List Part). suffixes_judged r.0 false r.1 xs)) (declared_suffix s own d x)
    ∙ then_assoc {B = Scene × List Part} {C = Scene × List Part} (declared s own d) (λ r. and_then (suffix_judged r.0 (own && is_name d) x) (λ q. value (q.0, q.1 ∷ r.1))) (λ r. suffixes_judged r.0 false r.1 xs)
    ∙ then_same {B = Scene × List Part} (declared s own d) _ _ (λ r. then_assoc {B = Scene × List Part} {C = Scene × List Part} (suffix_judged r.0 (own && is_name d) x) (λ q. value (q.0, q.1 ∷ r.1)) (λ q. suffixes_judged q.0 false q.1 xs))

pub declarator_judged : (s : Scene) (own : Bool) (d : Declarator) → declared s own (declarator_of d) ≡ and_then (declared s own (direct_of d.direct)) (λ r. and_then (suffixes_judged r.0 (own && is_name (direct_of d.direct)) r.1 d.suffixes.items) (λ q. value (q.0, replicate (length d.pointers.items) PointerPart ++ q.1)))
declarator_judged s own d =
    declared_pointed s own d.pointers.items (suffixes_of (direct_of d.direct) d.suffixes.items)
    ∙ ap (λ j. and_then j (λ (r : Scene × List Part). value (r.0, replicate (length d.pointers.items) PointerPart ++ r.1))) (declared_suffixes s own d.suffixes.items (direct_of d.direct))
    ∙ then_assoc {B = Scene × List Part} {C = Scene × List Part} (declared s own (direct_of d.direct)) (λ r. suffixes_judged r.0 (own && is_name (direct_of d.direct)) r.1 d.suffixes.items) (λ q. value (q.0, replicate (length d.pointers.items) PointerPart ++ q.1))

-- ## One suffix, by what the code sees of it

pub array_judged : (s : Scene) (own : Bool) (n : Option (Box Expr Global)) → suffix_judged s own (Array n) ≡ and_then (typed_length s (maybe_of n)) (λ q. value (q.0, ArrayPart q.1))
array_judged s own None = refl
array_judged s own (Some e) = refl

pub function_judged : (s : Scene) (own : Bool) (ps : Vec Parameter Global) → suffix_judged s own (Function ps) ≡ and_then (parameters_judged own (opened s) (parameters_of ps.items)) (λ q. value (closed q.0, FunctionPart q.1))
function_judged s own ps = search (rules, the_lemmas, parameters_same)

pub array_stops : (s : Scene) (own : Bool) (x : Suffix) (n : Option (Box Expr Global)) (e : Refusal) → x ≡ Array n → Stops (typed_length s (maybe_of n)) e → Stops (suffix_judged s own x) e
array_stops s own x n e is p = stops_on (suffix_judged s own x) (typed_length s (maybe_of n)) (λ q. value (q.0, ArrayPart q.1)) e (ap (suffix_judged s own) is ∙ array_judged s own n) p

pub array_made : (s t : Scene) (own : Bool) (x : Suffix) (n : Option (Box Expr Global)) (l : Length) → x ≡ Array n → typed_length s (maybe_of n) ≡ value (t, l) → suffix_judged s own x ≡ value (t, ArrayPart l)
array_made s t own x n l is h = ap (suffix_judged s own) is ∙ array_judged s own n ∙ then_on (typed_length s (maybe_of n)) (t, l) (λ q. value (q.0, ArrayPart q.1)) h

-- the parameters stand in a scope of their own
function_as : (s t : Scene) (own : Bool) (x : Suffix) (ps : Vec Parameter Global) → x ≡ Function ps → t ≡ opened s → suffix_judged s own x ≡ and_then (parameters_judged own t (parameters_of ps.items)) (λ q. value (closed q.0, FunctionPart q.1))
function_as s t own x ps is opens = ap (suffix_judged s own) is ∙ function_judged s own ps ∙ ap (λ k. and_then (parameters_judged own k (parameters_of ps.items)) (λ q. value (closed q.0, FunctionPart q.1))) (sym opens)

pub function_stops : (s t : Scene) (own : Bool) (x : Suffix) (ps : Vec Parameter Global) (e : Refusal) → x ≡ Function ps → t ≡ opened s → Stops (parameters_judged own t (parameters_of ps.items)) e → Stops (suffix_judged s own x) e
function_stops s t own x ps e is opens p = stops_on (suffix_judged s own x) (parameters_judged own t (parameters_of ps.items)) (λ q. value (closed q.0, FunctionPart q.1)) e (function_as s t own x ps is opens) p

pub function_made : (s t u v : Scene) (own : Bool) (x : Suffix) (ps : Vec Parameter Global) (made : List ParameterOf) → x ≡ Function ps → t ≡ opened s → parameters_judged own t (parameters_of ps.items) ≡ value (u, made) → v ≡ closed u → suffix_judged s own x ≡ value (v, FunctionPart made)
function_made s t u v own x ps made is opens h closes = function_as s t own x ps is opens ∙ then_on (parameters_judged own t (parameters_of ps.items)) (u, made) (λ q. value (closed q.0, FunctionPart q.1)) h ∙ ap (λ (k : Scene). value (k, FunctionPart made)) (sym closes)

pub nested_judged : {A : Type 0} (s : Scene) (own : Bool) (x : Direct) (d : Box Declarator Global) (view : A → Scene × List Part) (r : Result A Refusal) → x ≡ Nested d → Judges (declared s own (declarator_of d.value)) view r → Judges (declared s own (direct_of x)) view r
nested_judged s own x d view r is p = judged_as (declared s own (direct_of x)) (declared s own (declarator_of d.value)) view r (ap (λ k. declared s own (direct_of k)) is ∙ ap (declared s own) (nested_shape d)) p
