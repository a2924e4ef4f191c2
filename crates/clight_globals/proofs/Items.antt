-- The loop over the items of a list in braces.
use Rattle.std.proofs.Common.{◌≡◌, ℕ, zero, suc, ◌+◌, ◌<◌, ◌≤◌, Bool, false, List, [], ◌∷◌, length, get_or, drop, sym, ap, ◌∙◌, arith}
use Rattle.std.proofs.Math.Seq.{drop-nil}
use Rattle.c_tree.specs.Shape.{expr_of, exprs_of}
use Rattle.c_tree.specs.declared.expr.Expr.{Expr}
use Rattle.clight_types.specs.declared.rule.Refusal.{Refusal}
use Rattle.clight_types.specs.Judged.{Judged, value, and_then}
use Rattle.clight_scopes.specs.Scopes.{Scene}
use Rattle.clight_operands.specs.Operands.{NoEffect}
use Rattle.clight_typing.specs.Typing.{typed}
use Rattle.clight_expressions.proofs.Rest.{at_front, then_assoc, then_same, then_on}
use Rattle.clight_expressions.proofs.Stops.{Stops, stops_on}
use Rattle.clight_globals.specs.Globals.{Filled, item_judged, slot_of, items_filled}
use Rattle.clight_globals.specs.GlobalsOf.{item_filled}

-- behind the last element nothing is left
pub past_end : {A : Type 0} (list : List A) (i : ℕ) → length list ≤ i → drop i list ≡ []
past_end [] i h = drop-nil i
past_end (x ∷ xs) zero h = absurd (omega arith)
past_end (x ∷ xs) (suc i) h = past_end xs i (omega arith)

-- the next item and then the others
pub items_at : (s : Scene) (t : ℕ) (fits : Bool) (f : Filled) (list : List Expr) (i : ℕ) (x : Expr) → i < length list → x ≡ get_or list i x
    → items_filled s t fits i f (exprs_of (drop i list)) ≡ and_then (item_filled s t fits i f (expr_of x)) (λ q. items_filled q.0 t fits (i + 1) q.1 (exprs_of (drop (i + 1) list)))
items_at s t fits f list i x within is =
    ap (λ xs. items_filled s t fits i f (exprs_of xs)) (at_front list i x within is)
    ∙ sym (then_assoc {B = Scene × Filled} {C = Scene × Filled} (typed NoEffect false s (expr_of x)) (λ r. and_then {B = Scene × Filled} (item_judged r.0.types f r.1 (slot_of r.0.types t fits i)) (λ h. value (r.0, h))) (λ q. items_filled q.0 t fits (i + 1) q.1 (exprs_of (drop (i + 1) list)))
    ∙ then_same {B = Scene × Filled} (typed NoEffect false s (expr_of x)) _ _ (λ r.
    then_assoc {B = Scene × Filled} {C = Scene × Filled} (item_judged r.0.types f r.1 (slot_of r.0.types t fits i)) (λ h. value (r.0, h)) (λ q. items_filled q.0 t fits (i + 1) q.1 (exprs_of (drop (i + 1) list)))))

pub items_stop : (s : Scene) (t : ℕ) (fits : Bool) (f : Filled) (list : List Expr) (i : ℕ) (x : Expr) (e : Refusal) (all : Judged (Scene × Filled)) → i < length list → x ≡ get_or list i x → Stops (item_filled s t fits i f (expr_of x)) e → items_filled s t fits i f (exprs_of (drop i list)) ≡ all → Stops all e
items_stop s t fits f list i x e all within is h known =
    stops_on all (item_filled s t fits i f (expr_of x)) (λ q. items_filled q.0 t fits (i + 1) q.1 (exprs_of (drop (i + 1) list))) e (sym known ∙ items_at s t fits f list i x within is) h

pub items_next : (s u : Scene) (t : ℕ) (fits : Bool) (f g : Filled) (list : List Expr) (i : ℕ) (x : Expr) (all : Judged (Scene × Filled)) → i < length list → x ≡ get_or list i x → item_filled s t fits i f (expr_of x) ≡ value (u, g) → items_filled s t fits i f (exprs_of (drop i list)) ≡ all → items_filled u t fits (i + 1) g (exprs_of (drop (i + 1) list)) ≡ all
items_next s u t fits f g list i x all within is step known =
    sym (items_at s t fits f list i x within is ∙ then_on (item_filled s t fits i f (expr_of x)) (u, g) (λ q. items_filled q.0 t fits (i + 1) q.1 (exprs_of (drop (i + 1) list))) step)
    ∙ known

pub items_end : (s : Scene) (t : ℕ) (fits : Bool) (f : Filled) (list : List Expr) (i : ℕ) (all : Judged (Scene × Filled)) → length list ≤ i → items_filled s t fits i f (exprs_of (drop i list)) ≡ all → all ≡ value (s, f)
items_end s t fits f list i all past known = sym known ∙ ap (λ xs. items_filled s t fits i f (exprs_of xs)) (past_end list i past)
