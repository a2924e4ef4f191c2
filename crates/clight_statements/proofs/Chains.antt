-- Which parts of a local, of the parentheses of a `for`, of a label and of a `return` are judged one behind another.
use Rattle.std.proofs.Common.{◌≡◌, ℕ, Bool, true, false, List, Option, Some, None, refl, sym, ap, ◌∙◌}
use Rattle.c_tree.specs.Trees.{ExprTree, case_tree, DeclaratorTree, InitializerTree, ForFirstTree}
use Rattle.c_tree.specs.Shape.{expr_of, specifiers_of}
use Rattle.c_tree.specs.FileShape.{label_of, optional_of, decl_of, init_declarators_of}
use Rattle.c_tree.specs.declared.expr.Expr.{Expr}
use Rattle.c_tree.specs.declared.file.Decl.{Decl}
use Rattle.c_tree.specs.declared.file.InitDeclarator.{InitDeclarator}
use Rattle.c_tree.specs.declared.stmt.Label.{Label}
use Rattle.c_tree.specs.declared.stmt.Label.TheVariants as label
use Rattle.clight_lang.specs.Syntax.{Expression}
use Rattle.clight_types.specs.declared.rule.Refusal.{Refusal}
use Rattle.clight_types.specs.declared.rule.Rule.{Rule}
use Rattle.clight_types.specs.declared.rule.Rule.TheVariants as rule
use Rattle.clight_types.specs.Judged.{Judged, value, and_then, unless, Judges}
use Rattle.clight_types.specs.Types.{Types, Spelling}
use Rattle.clight_types.specs.Declarators.{Part, Built, built_type}
use Rattle.clight_scopes.specs.Scopes.{Scene, opened, with_types}
use Rattle.clight_operands.specs.Operands.{NoEffect, CallAllowed, Typed}
use Rattle.clight_typing.specs.Typing.{typed, specified, base_of, declared, declared_at, declared_name, name_or_empty}
use Rattle.clight_typing.specs.Statements.{Made, MadeList, Labels, is_new, with_number, label_judged, local_type, local_judged, local_initialized, local_declared, locals_declared, decl_judged, first_judged, optional_condition, optional_effect, value_returned, return_judged}
use Rattle.std.specs.Prelude.{Result}
use Rattle.clight_specifiers.proofs.Faults.{judged_as}
use Rattle.clight_expressions.proofs.Rest.{then_assoc, then_same}
use Rattle.clight_expressions.proofs.Stops.{Stops, stops_on}
use Rattle.clight_statements.specs.StatementsOf.{local_built, HeadMade, head_judged, number_judged}
use Rattle.clight_statements.proofs.Behind.{then_on, stops_second, stops_third, two_values, three_values}

-- a local is judged in the scene in which its type has been built
pub built_front : (s r : Scene) (types : Types) (first_at at : ℕ) (name : Spelling) (b c : Built) → b ≡ c → r ≡ with_types s types → local_built s first_at at name b ≡ and_then (local_judged r first_at at name c) (λ q. value (q.0, (local_type c, q.1)))
built_front s r types first_at at name b c same grown = ap (local_built s first_at at name) same ∙ sym (ap (λ z. local_built z first_at at name c) grown)

pub local_front : (s : Scene) (first_at base : ℕ) (d : DeclaratorTree) (x : InitializerTree) (at : ℕ) (name : Spelling) → at ≡ declared_at d first_at → name ≡ name_or_empty (declared_name d) → local_declared s first_at base d x ≡ and_then (declared s false d) (λ r. and_then (local_built r.0 first_at at name (built_type r.0.types base r.1)) (λ q. local_initialized q.0 q.1.0 q.1.1 x))
local_front s first_at base d x at name place named =
    then_same {B = Scene × MadeList} (declared s false d) _ _ (λ r.
    sym (then_assoc {B = Scene × (ℕ × ℕ)} {C = Scene × MadeList} (local_judged r.0 first_at (declared_at d first_at) (name_or_empty (declared_name d)) (built_type r.0.types base r.1)) (λ q. value (q.0, (local_type (built_type r.0.types base r.1), q.1))) (λ q. local_initialized q.0 q.1.0 q.1.1 x))
    ∙ ap (λ (p : ℕ). and_then {B = Scene × MadeList} (local_built r.0 first_at p (name_or_empty (declared_name d)) (built_type r.0.types base r.1)) (λ q. local_initialized q.0 q.1.0 q.1.1 x)) (sym place)
    ∙ ap (λ (n : Spelling). and_then {B = Scene × MadeList} (local_built r.0 first_at at n (built_type r.0.types base r.1)) (λ q. local_initialized q.0 q.1.0 q.1.1 x)) (sym named))

pub local_stops_first : (s : Scene) (first_at base : ℕ) (d : DeclaratorTree) (x : InitializerTree) (r : Refusal) → Stops (declared s false d) r → Stops (local_declared s first_at base d x) r
local_stops_first s first_at base d x r h =
    stops_on (local_declared s first_at base d x) (declared s false d) (λ q. and_then (local_judged q.0 first_at (declared_at d first_at) (name_or_empty (declared_name d)) (built_type q.0.types base q.1)) (λ p. local_initialized p.0 (local_type (built_type q.0.types base q.1)) p.1 x)) r refl h

pub local_stops_second : (s t : Scene) (first_at base : ℕ) (d : DeclaratorTree) (x : InitializerTree) (at : ℕ) (name : Spelling) (parts : List Part) (r : Refusal) → at ≡ declared_at d first_at → name ≡ name_or_empty (declared_name d) → declared s false d ≡ value (t, parts) → Stops (local_built t first_at at name (built_type t.types base parts)) r → Stops (local_declared s first_at base d x) r
local_stops_second s t first_at base d x at name parts r place named first h =
    stops_second (local_declared s first_at base d x) (declared s false d) (t, parts) (λ q. local_built q.0 first_at at name (built_type q.0.types base q.1)) (λ q p. local_initialized p.0 p.1.0 p.1.1 x) r (local_front s first_at base d x at name place named) first h

pub local_made : {A : Type 0} (s t u : Scene) (first_at base : ℕ) (d : DeclaratorTree) (x : InitializerTree) (at : ℕ) (name : Spelling) (parts : List Part) (type number : ℕ) (view : A → Scene × MadeList) (r : Result A Refusal) → at ≡ declared_at d first_at → name ≡ name_or_empty (declared_name d) → declared s false d ≡ value (t, parts) → local_built t first_at at name (built_type t.types base parts) ≡ value (u, (type, number)) → Judges (local_initialized u type number x) view r → Judges (local_declared s first_at base d x) view r
local_made s t u first_at base d x at name parts type number view r place named first second h =
    judged_as (local_declared s first_at base d x) (local_initialized u type number x) view r
    (local_front s first_at base d x at name place named
    ∙ then_on (declared s false d) (t, parts) (λ q. and_then (local_built q.0 first_at at name (built_type q.0.types base q.1)) (λ p. local_initialized p.0 p.1.0 p.1.1 x)) first
    ∙ then_on (local_built t first_at at name (built_type t.types base parts)) (u, (type, number)) (λ p. local_initialized p.0 p.1.0 p.1.1 x) second) h

pub head_front : (s t : Scene) (f : ForFirstTree) (c u : Option ExprTree) → t ≡ opened s → head_judged s f c u ≡ and_then (first_judged t f) (λ p. and_then (optional_condition p.0 c) (λ q. and_then (optional_effect q.0 u) (λ r. value (r.0, record { first = p.1; condition = q.1; update = r.1 }))))
head_front s t f c u begun = ap (λ (z : Scene). and_then {B = Scene × HeadMade} (first_judged z f) (λ p. and_then {B = Scene × HeadMade} (optional_condition p.0 c) (λ q. and_then {B = Scene × HeadMade} (optional_effect q.0 u) (λ r. value (r.0, record { first = p.1; condition = q.1; update = r.1 }))))) (sym begun)

pub head_stops_first : (s t : Scene) (f : ForFirstTree) (c u : Option ExprTree) (r : Refusal) → t ≡ opened s → Stops (first_judged t f) r → Stops (head_judged s f c u) r
head_stops_first s t f c u r begun h =
    stops_on (head_judged s f c u) (first_judged t f) (λ p. and_then (optional_condition p.0 c) (λ q. and_then (optional_effect q.0 u) (λ o. value (o.0, record { first = p.1; condition = q.1; update = o.1 })))) r (head_front s t f c u begun) h

pub head_stops_second : (s t v : Scene) (f : ForFirstTree) (c u : Option ExprTree) (ms : MadeList) (r : Refusal) → t ≡ opened s → first_judged t f ≡ value (v, ms) → Stops (optional_condition v c) r → Stops (head_judged s f c u) r
head_stops_second s t v f c u ms r begun first h =
    stops_second (head_judged s f c u) (first_judged t f) (v, ms) (λ p. optional_condition p.0 c) (λ p q. and_then (optional_effect q.0 u) (λ o. value (o.0, record { first = p.1; condition = q.1; update = o.1 }))) r (head_front s t f c u begun) first h

pub head_stops_third : (s t v w : Scene) (f : ForFirstTree) (c u : Option ExprTree) (ms : MadeList) (e : Option Expression) (r : Refusal) → t ≡ opened s → first_judged t f ≡ value (v, ms) → optional_condition v c ≡ value (w, e) → Stops (optional_effect w u) r → Stops (head_judged s f c u) r
head_stops_third s t v w f c u ms e r begun first second h =
    stops_third (head_judged s f c u) (first_judged t f) (v, ms) (λ p. optional_condition p.0 c) (w, e) (λ p q. optional_effect q.0 u) (λ p q o. value (o.0, record { first = p.1; condition = q.1; update = o.1 })) r (head_front s t f c u begun) first second h

pub head_made : (s t v w z : Scene) (f : ForFirstTree) (c u : Option ExprTree) (ms : MadeList) (e : Option Expression) (m : Made) → t ≡ opened s → first_judged t f ≡ value (v, ms) → optional_condition v c ≡ value (w, e) → optional_effect w u ≡ value (z, m) → head_judged s f c u ≡ value (z, record { first = ms; condition = e; update = m })
head_made s t v w z f c u ms e m begun first second third =
    three_values (head_judged s f c u) (value (z, record { first = ms; condition = e; update = m })) (first_judged t f) (v, ms) (λ p. optional_condition p.0 c) (w, e) (λ p q. optional_effect q.0 u) (z, m) (λ p q o. value (o.0, record { first = p.1; condition = q.1; update = o.1 })) (head_front s t f c u begun) first second third refl

abbrev pub local_at : Scene → ℕ → ℕ → Judged (Scene × (ℕ × ℕ))
local_at s t n = value (s, (t, n))

-- the same local, of the same type
pub local_value : (s : Scene) (t u n : ℕ) → u ≡ t → local_at s t n ≡ local_at s u n
local_value s t u n same = ap (λ x. local_at s x n) (sym same)

unless_then : (s : Scene) (ok : Bool) (r : Rule) (at : ℕ) (m : Labels) → unless {A = Scene × Labels} ok r at (value (s, m)) ≡ and_then {B = Scene × Labels} (unless {A = Labels} ok r at (value m)) (λ y. value (s, y))
unless_then s true r at m = refl
unless_then s false r at m = refl

case_parts : (s : Scene) (l : Labels) (at : ℕ) (e : ExprTree) → label_judged s l (case_tree at e) ≡ and_then (typed NoEffect false s e) (λ r. and_then (number_judged l at r.1.constant) (λ m. value (r.0, m)))
case_parts s l at e = then_same {B = Scene × Labels} (typed NoEffect false s e) _ _ (λ r. unless_then r.0 (is_new l.seen r.1.constant) rule.Label at (with_number l r.1.constant))

pub case_front : (s : Scene) (l : Labels) (x : Label) (at : ℕ) (e : Expr) → x ≡ label.Case at e → label_judged s l (label_of x) ≡ and_then (typed NoEffect false s (expr_of e)) (λ r. and_then (number_judged l at r.1.constant) (λ m. value (r.0, m)))
case_front s l x at e is = ap (λ y. label_judged s l (label_of y)) is ∙ case_parts s l at (expr_of e)

pub return_front : (s : Scene) (at result : ℕ) (x : Option Expr) (e : Expr) → x ≡ Some e → return_judged s at result (optional_of x) ≡ and_then (typed CallAllowed false s (expr_of e)) (λ r. and_then (value_returned r.0.types at result r.1) (λ m. value (r.0, m)))
return_front s at result x e is = ap (λ y. return_judged s at result (optional_of y)) is

pub case_stops : (s t : Scene) (l : Labels) (x : Label) (at : ℕ) (e : Expr) (y : Typed) (r : Refusal) → x ≡ label.Case at e → typed NoEffect false s (expr_of e) ≡ value (t, y) → Stops (number_judged l at y.constant) r → Stops (label_judged s l (label_of x)) r
case_stops s t l x at e y r is first h =
    stops_second (label_judged s l (label_of x)) (typed NoEffect false s (expr_of e)) (t, y) (λ q. number_judged l at q.1.constant) (λ q m. value (q.0, m)) r (case_front s l x at e is) first h

pub case_made : (s t : Scene) (l m : Labels) (x : Label) (at : ℕ) (e : Expr) (y : Typed) → x ≡ label.Case at e → typed NoEffect false s (expr_of e) ≡ value (t, y) → number_judged l at y.constant ≡ value m → label_judged s l (label_of x) ≡ value (t, m)
case_made s t l m x at e y is first second =
    two_values (label_judged s l (label_of x)) (value (t, m)) (typed NoEffect false s (expr_of e)) (t, y) (λ q. number_judged l at q.1.constant) m (λ q k. value (q.0, k)) (case_front s l x at e is) first second refl

pub return_stops : (s t : Scene) (at result : ℕ) (x : Option Expr) (e : Expr) (y : Typed) (r : Refusal) → x ≡ Some e → typed CallAllowed false s (expr_of e) ≡ value (t, y) → Stops (value_returned t.types at result y) r → Stops (return_judged s at result (optional_of x)) r
return_stops s t at result x e y r is first h =
    stops_second (return_judged s at result (optional_of x)) (typed CallAllowed false s (expr_of e)) (t, y) (λ q. value_returned q.0.types at result q.1) (λ q m. value (q.0, m)) r (return_front s at result x e is) first h

pub returned : (s t : Scene) (at result : ℕ) (x : Option Expr) (e : Expr) (y : Typed) (m : Made) → x ≡ Some e → typed CallAllowed false s (expr_of e) ≡ value (t, y) → value_returned t.types at result y ≡ value m → return_judged s at result (optional_of x) ≡ value (t, m)
returned s t at result x e y m is first second =
    two_values (return_judged s at result (optional_of x)) (value (t, m)) (typed CallAllowed false s (expr_of e)) (t, y) (λ q. value_returned q.0.types at result q.1) m (λ q k. value (q.0, k)) (return_front s at result x e is) first second refl

pub decl_stops : (s : Scene) (d : Decl) (e : Refusal) → Stops (specified s None (specifiers_of d.specifiers.items)) e → Stops (decl_judged s (decl_of d)) e
decl_stops s d e h = stops_on (decl_judged s (decl_of d)) (specified s None (specifiers_of d.specifiers.items)) (λ r. locals_declared r.0 d.at (base_of r.1) (init_declarators_of d.declarators.items)) e refl h

pub decl_made : {A : Type 0} (s t : Scene) (d : Decl) (given : Option ℕ) (base : ℕ) (ds : List InitDeclarator) (view : A → Scene × MadeList) (r : Result A Refusal) → specified s None (specifiers_of d.specifiers.items) ≡ value (t, given) → base ≡ base_of given → ds ≡ d.declarators.items → Judges (locals_declared t d.at base (init_declarators_of ds)) view r → Judges (decl_judged s (decl_of d)) view r
decl_made s t d given base ds view r first based same h =
    judged_as (decl_judged s (decl_of d)) (locals_declared t d.at base (init_declarators_of ds)) view r
    (then_on (specified s None (specifiers_of d.specifiers.items)) (t, given) (λ q. locals_declared q.0 d.at (base_of q.1) (init_declarators_of d.declarators.items)) first
    ∙ ap (λ (b : ℕ). locals_declared t d.at b (init_declarators_of d.declarators.items)) (sym based)
    ∙ ap (λ (xs : List InitDeclarator). locals_declared t d.at base (init_declarators_of xs)) (sym same)) h
