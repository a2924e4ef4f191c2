-- Expressions without operands, and those whose operator looks at more than its operands.
use Rattle.std.proofs.Common.{◌≡◌, ℕ, Bool, false, sym, ap, ◌∙◌, subst}
use Rattle.std.specs.Prelude.{Result}
use Rattle.c_grammar.specs.Tokens as k
use Rattle.c_tree.specs.Trees.{ExprTree, name_expr, constant_expr}
use Rattle.clight_types.specs.declared.rule.Refusal.{Refusal}
use Rattle.clight_types.specs.Judged.{value, Judges}
use Rattle.clight_types.specs.Types.{Spelling}
use Rattle.clight_scopes.specs.Scopes.{Scene}
use Rattle.clight_operands.specs.declared.typed.Typed as C
use Rattle.clight_operands.specs.Operands.{Allowed, Typed, number_typed, sizeof_typed, allowed_right}
use Rattle.clight_operands.specs.Shown.{typed_of}
use Rattle.clight_calls.specs.Names.{name_typed}
use Rattle.clight_typing.specs.Typing.{beside, typed}
use Rattle.clight_specifiers.proofs.Faults.{judged_beside, judged_as}
use Rattle.clight_expressions.proofs.Stops.{Stops}

pub name_judged : (allowed : Allowed) (called : Bool) (s : Scene) (at : ℕ) (name : Spelling) (x : ExprTree) (r : Result C.Typed Refusal) → x ≡ name_expr at name → Judges (name_typed s called at name) typed_of r → Judges (typed allowed called s x) (λ y. (s, typed_of y)) r
name_judged allowed called s at name x r is p = judged_as (typed allowed called s x) (beside s (name_typed s called at name)) (λ y. (s, typed_of y)) r (ap (typed allowed called s) is) (judged_beside s (name_typed s called at name) typed_of r p)

pub constant_judged : (allowed : Allowed) (called : Bool) (s : Scene) (at : ℕ) (n : k.Number) (x : ExprTree) (r : Result C.Typed Refusal) → x ≡ constant_expr at n → Judges (number_typed at n) typed_of r → Judges (typed allowed called s x) (λ y. (s, typed_of y)) r
constant_judged allowed called s at n x r is p = judged_as (typed allowed called s x) (beside s (number_typed at n)) (λ y. (s, typed_of y)) r (ap (typed allowed called s) is) (judged_beside s (number_typed at n) typed_of r p)

-- a size by the test and the number that the code has computed
pub sized_as : (at : ℕ) (b c : Bool) (n m : ℕ) (r : Result C.Typed Refusal) → b ≡ c → n ≡ m → Judges (sizeof_typed at b n) typed_of r → Judges (sizeof_typed at c m) typed_of r
sized_as at b c n m r tested measured p = judged_as (sizeof_typed at c m) (sizeof_typed at b n) typed_of r (sym (ap (λ v. sizeof_typed at v n) tested ∙ ap (λ v. sizeof_typed at c v) measured)) p

-- the right side of an assignment, by the effects that the code allows in it
pub right_stops : (al : Allowed) (o : k.AssignmentOperator) (s : Scene) (b : ExprTree) (e : Refusal) → al ≡ allowed_right o → Stops (typed al false s b) e → Stops (typed (allowed_right o) false s b) e
right_stops al o s b e same p = subst (λ v. Stops (typed v false s b) e) same p

pub right_judged : (al : Allowed) (o : k.AssignmentOperator) (s : Scene) (b : ExprTree) (q : Scene × Typed) → al ≡ allowed_right o → typed al false s b ≡ value q → typed (allowed_right o) false s b ≡ value q
right_judged al o s b q same p = ap (λ v. typed v false s b) (sym same) ∙ p
