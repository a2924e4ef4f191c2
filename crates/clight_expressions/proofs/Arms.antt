-- Each operator's operands from left to right: what stands where one of them has a fault, and where all are without.
use Rattle.std.proofs.Common.{◌≡◌, ℕ, Bool, false, true, List, ap, ◌∙◌}
use Rattle.std.specs.Prelude.{Result}
use Rattle.c_grammar.specs.Tokens as k
use Rattle.c_tree.specs.Trees.{ExprTree, ExprTrees, TypeTree, index_expr, call_expr, member_expr, step_after_expr, step_before_expr, unary_expr, sizeof_expr, sizeof_type_expr, cast_expr, binary_expr, cond_expr, assign_expr}
use Rattle.clight_types.specs.declared.rule.Refusal.{Refusal}
use Rattle.clight_types.specs.Judged.{value, and_then, Judges}
use Rattle.clight_types.specs.Types.{Spelling, is_complete, size_at}
use Rattle.clight_scopes.specs.Scopes.{Scene}
use Rattle.clight_operands.specs.declared.typed.Typed as C
use Rattle.clight_operands.specs.Operands.{Allowed, NoEffect, Typed, unary_typed, sizeof_typed, has_size, denoted_size, cast_typed, binary_typed, choice_typed, index_typed, step_typed, assigned_by, assignment_operator, allowed_right}
use Rattle.clight_operands.specs.Shown.{typed_of}
use Rattle.clight_calls.specs.Names.{scene_behind}
use Rattle.clight_calls.specs.Members.{member_typed}
use Rattle.clight_calls.specs.Calls.{call_typed}
use Rattle.clight_typing.specs.Typing.{beside, typed, typed_all, typed_name}
use Rattle.clight_specifiers.proofs.Faults.{judged_beside, judged_as}
use Rattle.clight_expressions.proofs.Rest.{then_on}
use Rattle.clight_expressions.proofs.Stops.{Stops, stops_on}

-- ### index_expr at op_at a b

pub index_stops_first : (allowed : Allowed) (called : Bool) (s : Scene) (at op_at : ℕ) (a b : ExprTree) (x : ExprTree) (e : Refusal) → x ≡ index_expr at op_at a b → Stops (typed NoEffect false s a) e → Stops (typed allowed called s x) e
index_stops_first allowed called s at op_at a b x e is p = stops_on (typed allowed called s x) (typed NoEffect false s a) (λ r1. and_then (typed NoEffect false r1.0 b) (λ r2. beside r2.0 (index_typed r2.0.types at op_at r1.1 r2.1))) e (ap (typed allowed called s) is) p

pub index_stops_second : (allowed : Allowed) (called : Bool) (s : Scene) (at op_at : ℕ) (a b : ExprTree) (x : ExprTree) (t1 : Scene) (v1 : Typed) (e : Refusal) → x ≡ index_expr at op_at a b → typed NoEffect false s a ≡ value (t1, v1) → Stops (typed NoEffect false t1 b) e → Stops (typed allowed called s x) e
index_stops_second allowed called s at op_at a b x t1 v1 e is h1 p = stops_on (typed allowed called s x) (typed NoEffect false t1 b) (λ r2. beside r2.0 (index_typed r2.0.types at op_at v1 r2.1)) e (ap (typed allowed called s) is ∙ then_on (typed NoEffect false s a) (t1, v1) (λ r1. and_then (typed NoEffect false r1.0 b) (λ r2. beside r2.0 (index_typed r2.0.types at op_at r1.1 r2.1))) h1) p

pub index_judged : (allowed : Allowed) (called : Bool) (s : Scene) (at op_at : ℕ) (a b : ExprTree) (x : ExprTree) (t1 : Scene) (v1 : Typed) (t2 : Scene) (v2 : Typed) (r : Result C.Typed Refusal) → x ≡ index_expr at op_at a b → typed NoEffect false s a ≡ value (t1, v1) → typed NoEffect false t1 b ≡ value (t2, v2) → Judges (index_typed t2.types at op_at v1 v2) typed_of r → Judges (typed allowed called s x) (λ y. (t2, typed_of y)) r
index_judged allowed called s at op_at a b x t1 v1 t2 v2 r is h1 h2 p = judged_as (typed allowed called s x) (beside t2 (index_typed t2.types at op_at v1 v2)) (λ y. (t2, typed_of y)) r (ap (typed allowed called s) is ∙ then_on (typed NoEffect false s a) (t1, v1) (λ r1. and_then (typed NoEffect false r1.0 b) (λ r2. beside r2.0 (index_typed r2.0.types at op_at r1.1 r2.1))) h1 ∙ then_on (typed NoEffect false t1 b) (t2, v2) (λ r2. beside r2.0 (index_typed r2.0.types at op_at v1 r2.1)) h2) (judged_beside t2 (index_typed t2.types at op_at v1 v2) typed_of r p)

-- ### call_expr at op_at f xs

pub call_stops_first : (allowed : Allowed) (called : Bool) (s : Scene) (at op_at : ℕ) (f : ExprTree) (xs : ExprTrees) (x : ExprTree) (e : Refusal) → x ≡ call_expr at op_at f xs → Stops (typed NoEffect true s f) e → Stops (typed allowed called s x) e
call_stops_first allowed called s at op_at f xs x e is p = stops_on (typed allowed called s x) (typed NoEffect true s f) (λ r1. and_then (typed_all r1.0 xs) (λ r2. beside r2.0 (call_typed r2.0.types allowed at op_at r1.1 r2.1))) e (ap (typed allowed called s) is) p

pub call_stops_second : (allowed : Allowed) (called : Bool) (s : Scene) (at op_at : ℕ) (f : ExprTree) (xs : ExprTrees) (x : ExprTree) (t1 : Scene) (v1 : Typed) (e : Refusal) → x ≡ call_expr at op_at f xs → typed NoEffect true s f ≡ value (t1, v1) → Stops (typed_all t1 xs) e → Stops (typed allowed called s x) e
call_stops_second allowed called s at op_at f xs x t1 v1 e is h1 p = stops_on (typed allowed called s x) (typed_all t1 xs) (λ r2. beside r2.0 (call_typed r2.0.types allowed at op_at v1 r2.1)) e (ap (typed allowed called s) is ∙ then_on (typed NoEffect true s f) (t1, v1) (λ r1. and_then (typed_all r1.0 xs) (λ r2. beside r2.0 (call_typed r2.0.types allowed at op_at r1.1 r2.1))) h1) p

pub call_judged : (allowed : Allowed) (called : Bool) (s : Scene) (at op_at : ℕ) (f : ExprTree) (xs : ExprTrees) (x : ExprTree) (t1 : Scene) (v1 : Typed) (t2 : Scene) (v2 : List Typed) (r : Result C.Typed Refusal) → x ≡ call_expr at op_at f xs → typed NoEffect true s f ≡ value (t1, v1) → typed_all t1 xs ≡ value (t2, v2) → Judges (call_typed t2.types allowed at op_at v1 v2) typed_of r → Judges (typed allowed called s x) (λ y. (t2, typed_of y)) r
call_judged allowed called s at op_at f xs x t1 v1 t2 v2 r is h1 h2 p = judged_as (typed allowed called s x) (beside t2 (call_typed t2.types allowed at op_at v1 v2)) (λ y. (t2, typed_of y)) r (ap (typed allowed called s) is ∙ then_on (typed NoEffect true s f) (t1, v1) (λ r1. and_then (typed_all r1.0 xs) (λ r2. beside r2.0 (call_typed r2.0.types allowed at op_at r1.1 r2.1))) h1 ∙ then_on (typed_all t1 xs) (t2, v2) (λ r2. beside r2.0 (call_typed r2.0.types allowed at op_at v1 r2.1)) h2) (judged_beside t2 (call_typed t2.types allowed at op_at v1 v2) typed_of r p)

-- ### member_expr at op_at a access name_at name

pub member_stops : (allowed : Allowed) (called : Bool) (s : Scene) (at op_at : ℕ) (a : ExprTree) (access : k.Access) (name_at : ℕ) (name : Spelling) (x : ExprTree) (e : Refusal) → x ≡ member_expr at op_at a access name_at name → Stops (typed NoEffect false s a) e → Stops (typed allowed called s x) e
member_stops allowed called s at op_at a access name_at name x e is p = stops_on (typed allowed called s x) (typed NoEffect false s a) (λ r1. beside r1.0 (member_typed r1.0.types at access name_at name r1.1)) e (ap (typed allowed called s) is) p

pub member_judged : (allowed : Allowed) (called : Bool) (s : Scene) (at op_at : ℕ) (a : ExprTree) (access : k.Access) (name_at : ℕ) (name : Spelling) (x : ExprTree) (t1 : Scene) (v1 : Typed) (r : Result C.Typed Refusal) → x ≡ member_expr at op_at a access name_at name → typed NoEffect false s a ≡ value (t1, v1) → Judges (member_typed t1.types at access name_at name v1) typed_of r → Judges (typed allowed called s x) (λ y. (t1, typed_of y)) r
member_judged allowed called s at op_at a access name_at name x t1 v1 r is h1 p = judged_as (typed allowed called s x) (beside t1 (member_typed t1.types at access name_at name v1)) (λ y. (t1, typed_of y)) r (ap (typed allowed called s) is ∙ then_on (typed NoEffect false s a) (t1, v1) (λ r1. beside r1.0 (member_typed r1.0.types at access name_at name r1.1)) h1) (judged_beside t1 (member_typed t1.types at access name_at name v1) typed_of r p)

-- ### step_after_expr at op_at a step

pub after_stops : (allowed : Allowed) (called : Bool) (s : Scene) (at op_at : ℕ) (a : ExprTree) (step : k.Increment) (x : ExprTree) (e : Refusal) → x ≡ step_after_expr at op_at a step → Stops (typed NoEffect false s a) e → Stops (typed allowed called s x) e
after_stops allowed called s at op_at a step x e is p = stops_on (typed allowed called s x) (typed NoEffect false s a) (λ r1. beside r1.0 (step_typed r1.0.types allowed at op_at step r1.1)) e (ap (typed allowed called s) is) p

pub after_judged : (allowed : Allowed) (called : Bool) (s : Scene) (at op_at : ℕ) (a : ExprTree) (step : k.Increment) (x : ExprTree) (t1 : Scene) (v1 : Typed) (r : Result C.Typed Refusal) → x ≡ step_after_expr at op_at a step → typed NoEffect false s a ≡ value (t1, v1) → Judges (step_typed t1.types allowed at op_at step v1) typed_of r → Judges (typed allowed called s x) (λ y. (t1, typed_of y)) r
after_judged allowed called s at op_at a step x t1 v1 r is h1 p = judged_as (typed allowed called s x) (beside t1 (step_typed t1.types allowed at op_at step v1)) (λ y. (t1, typed_of y)) r (ap (typed allowed called s) is ∙ then_on (typed NoEffect false s a) (t1, v1) (λ r1. beside r1.0 (step_typed r1.0.types allowed at op_at step r1.1)) h1) (judged_beside t1 (step_typed t1.types allowed at op_at step v1) typed_of r p)

-- ### step_before_expr at step a

pub before_stops : (allowed : Allowed) (called : Bool) (s : Scene) (at : ℕ) (step : k.Increment) (a : ExprTree) (x : ExprTree) (e : Refusal) → x ≡ step_before_expr at step a → Stops (typed NoEffect false s a) e → Stops (typed allowed called s x) e
before_stops allowed called s at step a x e is p = stops_on (typed allowed called s x) (typed NoEffect false s a) (λ r1. beside r1.0 (step_typed r1.0.types allowed at at step r1.1)) e (ap (typed allowed called s) is) p

pub before_judged : (allowed : Allowed) (called : Bool) (s : Scene) (at : ℕ) (step : k.Increment) (a : ExprTree) (x : ExprTree) (t1 : Scene) (v1 : Typed) (r : Result C.Typed Refusal) → x ≡ step_before_expr at step a → typed NoEffect false s a ≡ value (t1, v1) → Judges (step_typed t1.types allowed at at step v1) typed_of r → Judges (typed allowed called s x) (λ y. (t1, typed_of y)) r
before_judged allowed called s at step a x t1 v1 r is h1 p = judged_as (typed allowed called s x) (beside t1 (step_typed t1.types allowed at at step v1)) (λ y. (t1, typed_of y)) r (ap (typed allowed called s) is ∙ then_on (typed NoEffect false s a) (t1, v1) (λ r1. beside r1.0 (step_typed r1.0.types allowed at at step r1.1)) h1) (judged_beside t1 (step_typed t1.types allowed at at step v1) typed_of r p)

-- ### unary_expr at o a

pub unary_stops : (allowed : Allowed) (called : Bool) (s : Scene) (at : ℕ) (o : k.Operator) (a : ExprTree) (x : ExprTree) (e : Refusal) → x ≡ unary_expr at o a → Stops (typed NoEffect false s a) e → Stops (typed allowed called s x) e
unary_stops allowed called s at o a x e is p = stops_on (typed allowed called s x) (typed NoEffect false s a) (λ r1. beside (scene_behind r1.0 o r1.1) (unary_typed r1.0.types at o r1.1)) e (ap (typed allowed called s) is) p

pub unary_judged : (allowed : Allowed) (called : Bool) (s : Scene) (at : ℕ) (o : k.Operator) (a : ExprTree) (x : ExprTree) (t1 : Scene) (v1 : Typed) (t : Scene) (r : Result C.Typed Refusal) → x ≡ unary_expr at o a → typed NoEffect false s a ≡ value (t1, v1) → Judges (beside (scene_behind t1 o v1) (unary_typed t1.types at o v1)) (λ y. (t, typed_of y)) r → Judges (typed allowed called s x) (λ y. (t, typed_of y)) r
unary_judged allowed called s at o a x t1 v1 t r is h1 p = judged_as (typed allowed called s x) (beside (scene_behind t1 o v1) (unary_typed t1.types at o v1)) (λ y. (t, typed_of y)) r (ap (typed allowed called s) is ∙ then_on (typed NoEffect false s a) (t1, v1) (λ r1. beside (scene_behind r1.0 o r1.1) (unary_typed r1.0.types at o r1.1)) h1) p

-- ### sizeof_expr at a

pub sizeof_stops : (allowed : Allowed) (called : Bool) (s : Scene) (at : ℕ) (a : ExprTree) (x : ExprTree) (e : Refusal) → x ≡ sizeof_expr at a → Stops (typed NoEffect false s a) e → Stops (typed allowed called s x) e
sizeof_stops allowed called s at a x e is p = stops_on (typed allowed called s x) (typed NoEffect false s a) (λ r1. beside r1.0 (sizeof_typed at (has_size r1.0.types r1.1.denoted) (denoted_size r1.0.types r1.1.denoted))) e (ap (typed allowed called s) is) p

pub sizeof_judged : (allowed : Allowed) (called : Bool) (s : Scene) (at : ℕ) (a : ExprTree) (x : ExprTree) (t1 : Scene) (v1 : Typed) (r : Result C.Typed Refusal) → x ≡ sizeof_expr at a → typed NoEffect false s a ≡ value (t1, v1) → Judges (sizeof_typed at (has_size t1.types v1.denoted) (denoted_size t1.types v1.denoted)) typed_of r → Judges (typed allowed called s x) (λ y. (t1, typed_of y)) r
sizeof_judged allowed called s at a x t1 v1 r is h1 p = judged_as (typed allowed called s x) (beside t1 (sizeof_typed at (has_size t1.types v1.denoted) (denoted_size t1.types v1.denoted))) (λ y. (t1, typed_of y)) r (ap (typed allowed called s) is ∙ then_on (typed NoEffect false s a) (t1, v1) (λ r1. beside r1.0 (sizeof_typed at (has_size r1.0.types r1.1.denoted) (denoted_size r1.0.types r1.1.denoted))) h1) (judged_beside t1 (sizeof_typed at (has_size t1.types v1.denoted) (denoted_size t1.types v1.denoted)) typed_of r p)

-- ### sizeof_type_expr at n

pub sizeof_type_stops : (allowed : Allowed) (called : Bool) (s : Scene) (at : ℕ) (n : TypeTree) (x : ExprTree) (e : Refusal) → x ≡ sizeof_type_expr at n → Stops (typed_name s n) e → Stops (typed allowed called s x) e
sizeof_type_stops allowed called s at n x e is p = stops_on (typed allowed called s x) (typed_name s n) (λ r1. beside r1.0 (sizeof_typed at (is_complete r1.0.types r1.1) (size_at r1.0.types r1.1))) e (ap (typed allowed called s) is) p

pub sizeof_type_judged : (allowed : Allowed) (called : Bool) (s : Scene) (at : ℕ) (n : TypeTree) (x : ExprTree) (t1 : Scene) (v1 : ℕ) (r : Result C.Typed Refusal) → x ≡ sizeof_type_expr at n → typed_name s n ≡ value (t1, v1) → Judges (sizeof_typed at (is_complete t1.types v1) (size_at t1.types v1)) typed_of r → Judges (typed allowed called s x) (λ y. (t1, typed_of y)) r
sizeof_type_judged allowed called s at n x t1 v1 r is h1 p = judged_as (typed allowed called s x) (beside t1 (sizeof_typed at (is_complete t1.types v1) (size_at t1.types v1))) (λ y. (t1, typed_of y)) r (ap (typed allowed called s) is ∙ then_on (typed_name s n) (t1, v1) (λ r1. beside r1.0 (sizeof_typed at (is_complete r1.0.types r1.1) (size_at r1.0.types r1.1))) h1) (judged_beside t1 (sizeof_typed at (is_complete t1.types v1) (size_at t1.types v1)) typed_of r p)

-- ### cast_expr at n a

pub cast_stops_first : (allowed : Allowed) (called : Bool) (s : Scene) (at : ℕ) (n : TypeTree) (a : ExprTree) (x : ExprTree) (e : Refusal) → x ≡ cast_expr at n a → Stops (typed_name s n) e → Stops (typed allowed called s x) e
cast_stops_first allowed called s at n a x e is p = stops_on (typed allowed called s x) (typed_name s n) (λ r1. and_then (typed NoEffect false r1.0 a) (λ r2. beside r2.0 (cast_typed r2.0.types at r1.1 r2.1))) e (ap (typed allowed called s) is) p

pub cast_stops_second : (allowed : Allowed) (called : Bool) (s : Scene) (at : ℕ) (n : TypeTree) (a : ExprTree) (x : ExprTree) (t1 : Scene) (v1 : ℕ) (e : Refusal) → x ≡ cast_expr at n a → typed_name s n ≡ value (t1, v1) → Stops (typed NoEffect false t1 a) e → Stops (typed allowed called s x) e
cast_stops_second allowed called s at n a x t1 v1 e is h1 p = stops_on (typed allowed called s x) (typed NoEffect false t1 a) (λ r2. beside r2.0 (cast_typed r2.0.types at v1 r2.1)) e (ap (typed allowed called s) is ∙ then_on (typed_name s n) (t1, v1) (λ r1. and_then (typed NoEffect false r1.0 a) (λ r2. beside r2.0 (cast_typed r2.0.types at r1.1 r2.1))) h1) p

pub cast_judged : (allowed : Allowed) (called : Bool) (s : Scene) (at : ℕ) (n : TypeTree) (a : ExprTree) (x : ExprTree) (t1 : Scene) (v1 : ℕ) (t2 : Scene) (v2 : Typed) (r : Result C.Typed Refusal) → x ≡ cast_expr at n a → typed_name s n ≡ value (t1, v1) → typed NoEffect false t1 a ≡ value (t2, v2) → Judges (cast_typed t2.types at v1 v2) typed_of r → Judges (typed allowed called s x) (λ y. (t2, typed_of y)) r
cast_judged allowed called s at n a x t1 v1 t2 v2 r is h1 h2 p = judged_as (typed allowed called s x) (beside t2 (cast_typed t2.types at v1 v2)) (λ y. (t2, typed_of y)) r (ap (typed allowed called s) is ∙ then_on (typed_name s n) (t1, v1) (λ r1. and_then (typed NoEffect false r1.0 a) (λ r2. beside r2.0 (cast_typed r2.0.types at r1.1 r2.1))) h1 ∙ then_on (typed NoEffect false t1 a) (t2, v2) (λ r2. beside r2.0 (cast_typed r2.0.types at v1 r2.1)) h2) (judged_beside t2 (cast_typed t2.types at v1 v2) typed_of r p)

-- ### binary_expr at op_at o a b

pub binary_stops_first : (allowed : Allowed) (called : Bool) (s : Scene) (at op_at : ℕ) (o : k.Operator) (a b : ExprTree) (x : ExprTree) (e : Refusal) → x ≡ binary_expr at op_at o a b → Stops (typed NoEffect false s a) e → Stops (typed allowed called s x) e
binary_stops_first allowed called s at op_at o a b x e is p = stops_on (typed allowed called s x) (typed NoEffect false s a) (λ r1. and_then (typed NoEffect false r1.0 b) (λ r2. beside r2.0 (binary_typed r2.0.types at op_at o r1.1 r2.1))) e (ap (typed allowed called s) is) p

pub binary_stops_second : (allowed : Allowed) (called : Bool) (s : Scene) (at op_at : ℕ) (o : k.Operator) (a b : ExprTree) (x : ExprTree) (t1 : Scene) (v1 : Typed) (e : Refusal) → x ≡ binary_expr at op_at o a b → typed NoEffect false s a ≡ value (t1, v1) → Stops (typed NoEffect false t1 b) e → Stops (typed allowed called s x) e
binary_stops_second allowed called s at op_at o a b x t1 v1 e is h1 p = stops_on (typed allowed called s x) (typed NoEffect false t1 b) (λ r2. beside r2.0 (binary_typed r2.0.types at op_at o v1 r2.1)) e (ap (typed allowed called s) is ∙ then_on (typed NoEffect false s a) (t1, v1) (λ r1. and_then (typed NoEffect false r1.0 b) (λ r2. beside r2.0 (binary_typed r2.0.types at op_at o r1.1 r2.1))) h1) p

pub binary_judged : (allowed : Allowed) (called : Bool) (s : Scene) (at op_at : ℕ) (o : k.Operator) (a b : ExprTree) (x : ExprTree) (t1 : Scene) (v1 : Typed) (t2 : Scene) (v2 : Typed) (r : Result C.Typed Refusal) → x ≡ binary_expr at op_at o a b → typed NoEffect false s a ≡ value (t1, v1) → typed NoEffect false t1 b ≡ value (t2, v2) → Judges (binary_typed t2.types at op_at o v1 v2) typed_of r → Judges (typed allowed called s x) (λ y. (t2, typed_of y)) r
binary_judged allowed called s at op_at o a b x t1 v1 t2 v2 r is h1 h2 p = judged_as (typed allowed called s x) (beside t2 (binary_typed t2.types at op_at o v1 v2)) (λ y. (t2, typed_of y)) r (ap (typed allowed called s) is ∙ then_on (typed NoEffect false s a) (t1, v1) (λ r1. and_then (typed NoEffect false r1.0 b) (λ r2. beside r2.0 (binary_typed r2.0.types at op_at o r1.1 r2.1))) h1 ∙ then_on (typed NoEffect false t1 b) (t2, v2) (λ r2. beside r2.0 (binary_typed r2.0.types at op_at o v1 r2.1)) h2) (judged_beside t2 (binary_typed t2.types at op_at o v1 v2) typed_of r p)

-- ### cond_expr at op_at a b c

pub cond_stops_first : (allowed : Allowed) (called : Bool) (s : Scene) (at op_at : ℕ) (a b c : ExprTree) (x : ExprTree) (e : Refusal) → x ≡ cond_expr at op_at a b c → Stops (typed NoEffect false s a) e → Stops (typed allowed called s x) e
cond_stops_first allowed called s at op_at a b c x e is p = stops_on (typed allowed called s x) (typed NoEffect false s a) (λ r1. and_then (typed NoEffect false r1.0 b) (λ r2. and_then (typed NoEffect false r2.0 c) (λ r3. beside r3.0 (choice_typed r3.0.types at op_at r1.1 r2.1 r3.1)))) e (ap (typed allowed called s) is) p

pub cond_stops_second : (allowed : Allowed) (called : Bool) (s : Scene) (at op_at : ℕ) (a b c : ExprTree) (x : ExprTree) (t1 : Scene) (v1 : Typed) (e : Refusal) → x ≡ cond_expr at op_at a b c → typed NoEffect false s a ≡ value (t1, v1) → Stops (typed NoEffect false t1 b) e → Stops (typed allowed called s x) e
cond_stops_second allowed called s at op_at a b c x t1 v1 e is h1 p = stops_on (typed allowed called s x) (typed NoEffect false t1 b) (λ r2. and_then (typed NoEffect false r2.0 c) (λ r3. beside r3.0 (choice_typed r3.0.types at op_at v1 r2.1 r3.1))) e (ap (typed allowed called s) is ∙ then_on (typed NoEffect false s a) (t1, v1) (λ r1. and_then (typed NoEffect false r1.0 b) (λ r2. and_then (typed NoEffect false r2.0 c) (λ r3. beside r3.0 (choice_typed r3.0.types at op_at r1.1 r2.1 r3.1)))) h1) p

pub cond_stops_third : (allowed : Allowed) (called : Bool) (s : Scene) (at op_at : ℕ) (a b c : ExprTree) (x : ExprTree) (t1 : Scene) (v1 : Typed) (t2 : Scene) (v2 : Typed) (e : Refusal) → x ≡ cond_expr at op_at a b c → typed NoEffect false s a ≡ value (t1, v1) → typed NoEffect false t1 b ≡ value (t2, v2) → Stops (typed NoEffect false t2 c) e → Stops (typed allowed called s x) e
cond_stops_third allowed called s at op_at a b c x t1 v1 t2 v2 e is h1 h2 p = stops_on (typed allowed called s x) (typed NoEffect false t2 c) (λ r3. beside r3.0 (choice_typed r3.0.types at op_at v1 v2 r3.1)) e (ap (typed allowed called s) is ∙ then_on (typed NoEffect false s a) (t1, v1) (λ r1. and_then (typed NoEffect false r1.0 b) (λ r2. and_then (typed NoEffect false r2.0 c) (λ r3. beside r3.0 (choice_typed r3.0.types at op_at r1.1 r2.1 r3.1)))) h1 ∙ then_on (typed NoEffect false t1 b) (t2, v2) (λ r2. and_then (typed NoEffect false r2.0 c) (λ r3. beside r3.0 (choice_typed r3.0.types at op_at v1 r2.1 r3.1))) h2) p

pub cond_judged : (allowed : Allowed) (called : Bool) (s : Scene) (at op_at : ℕ) (a b c : ExprTree) (x : ExprTree) (t1 : Scene) (v1 : Typed) (t2 : Scene) (v2 : Typed) (t3 : Scene) (v3 : Typed) (r : Result C.Typed Refusal) → x ≡ cond_expr at op_at a b c → typed NoEffect false s a ≡ value (t1, v1) → typed NoEffect false t1 b ≡ value (t2, v2) → typed NoEffect false t2 c ≡ value (t3, v3) → Judges (choice_typed t3.types at op_at v1 v2 v3) typed_of r → Judges (typed allowed called s x) (λ y. (t3, typed_of y)) r
cond_judged allowed called s at op_at a b c x t1 v1 t2 v2 t3 v3 r is h1 h2 h3 p = judged_as (typed allowed called s x) (beside t3 (choice_typed t3.types at op_at v1 v2 v3)) (λ y. (t3, typed_of y)) r (ap (typed allowed called s) is ∙ then_on (typed NoEffect false s a) (t1, v1) (λ r1. and_then (typed NoEffect false r1.0 b) (λ r2. and_then (typed NoEffect false r2.0 c) (λ r3. beside r3.0 (choice_typed r3.0.types at op_at r1.1 r2.1 r3.1)))) h1 ∙ then_on (typed NoEffect false t1 b) (t2, v2) (λ r2. and_then (typed NoEffect false r2.0 c) (λ r3. beside r3.0 (choice_typed r3.0.types at op_at v1 r2.1 r3.1))) h2 ∙ then_on (typed NoEffect false t2 c) (t3, v3) (λ r3. beside r3.0 (choice_typed r3.0.types at op_at v1 v2 r3.1)) h3) (judged_beside t3 (choice_typed t3.types at op_at v1 v2 v3) typed_of r p)

-- ### assign_expr at op_at o a b

pub assign_stops_first : (allowed : Allowed) (called : Bool) (s : Scene) (at op_at : ℕ) (o : k.AssignmentOperator) (a b : ExprTree) (x : ExprTree) (e : Refusal) → x ≡ assign_expr at op_at o a b → Stops (typed NoEffect false s a) e → Stops (typed allowed called s x) e
assign_stops_first allowed called s at op_at o a b x e is p = stops_on (typed allowed called s x) (typed NoEffect false s a) (λ r1. and_then (typed (allowed_right o) false r1.0 b) (λ r2. beside r2.0 (assigned_by r2.0.types allowed at op_at (assignment_operator o) r1.1 r2.1))) e (ap (typed allowed called s) is) p

pub assign_stops_second : (allowed : Allowed) (called : Bool) (s : Scene) (at op_at : ℕ) (o : k.AssignmentOperator) (a b : ExprTree) (x : ExprTree) (t1 : Scene) (v1 : Typed) (e : Refusal) → x ≡ assign_expr at op_at o a b → typed NoEffect false s a ≡ value (t1, v1) → Stops (typed (allowed_right o) false t1 b) e → Stops (typed allowed called s x) e
assign_stops_second allowed called s at op_at o a b x t1 v1 e is h1 p = stops_on (typed allowed called s x) (typed (allowed_right o) false t1 b) (λ r2. beside r2.0 (assigned_by r2.0.types allowed at op_at (assignment_operator o) v1 r2.1)) e (ap (typed allowed called s) is ∙ then_on (typed NoEffect false s a) (t1, v1) (λ r1. and_then (typed (allowed_right o) false r1.0 b) (λ r2. beside r2.0 (assigned_by r2.0.types allowed at op_at (assignment_operator o) r1.1 r2.1))) h1) p

pub assign_judged : (allowed : Allowed) (called : Bool) (s : Scene) (at op_at : ℕ) (o : k.AssignmentOperator) (a b : ExprTree) (x : ExprTree) (t1 : Scene) (v1 : Typed) (t2 : Scene) (v2 : Typed) (r : Result C.Typed Refusal) → x ≡ assign_expr at op_at o a b → typed NoEffect false s a ≡ value (t1, v1) → typed (allowed_right o) false t1 b ≡ value (t2, v2) → Judges (assigned_by t2.types allowed at op_at (assignment_operator o) v1 v2) typed_of r → Judges (typed allowed called s x) (λ y. (t2, typed_of y)) r
assign_judged allowed called s at op_at o a b x t1 v1 t2 v2 r is h1 h2 p = judged_as (typed allowed called s x) (beside t2 (assigned_by t2.types allowed at op_at (assignment_operator o) v1 v2)) (λ y. (t2, typed_of y)) r (ap (typed allowed called s) is ∙ then_on (typed NoEffect false s a) (t1, v1) (λ r1. and_then (typed (allowed_right o) false r1.0 b) (λ r2. beside r2.0 (assigned_by r2.0.types allowed at op_at (assignment_operator o) r1.1 r2.1))) h1 ∙ then_on (typed (allowed_right o) false t1 b) (t2, v2) (λ r2. beside r2.0 (assigned_by r2.0.types allowed at op_at (assignment_operator o) v1 r2.1)) h2) (judged_beside t2 (assigned_by t2.types allowed at op_at (assignment_operator o) v1 v2) typed_of r p)
