-- What is judged of each statement, by what is judged of its parts: a fault of a later part where the parts before it have none, and what is made where none has.
use Rattle.std.proofs.Common.{◌≡◌, ℕ, refl, sym, ap, ◌∙◌, Option, Some, None}
use Rattle.std.specs.Prelude.{Vec, Box, Result}
use Rattle.std.specs.declared.alloc.Global.{Global}
use Rattle.c_tree.specs.Shape.{expr_of}
use Rattle.c_tree.specs.FileShape.{stmt_of, first_of_for, optional_of, groups_of, else_of}
use Rattle.c_tree.specs.declared.expr.Expr.{Expr}
use Rattle.c_tree.specs.declared.stmt.ForFirst.{ForFirst}
use Rattle.c_tree.specs.declared.stmt.Group.{Group}
use Rattle.c_tree.specs.declared.stmt.Stmt.{Stmt}
use Rattle.c_tree.specs.declared.stmt.Stmt.TheVariants as stmt
use Rattle.clight_lang.specs.Syntax.{Expression}
use Rattle.clight_types.specs.declared.rule.Refusal.{Refusal}
use Rattle.clight_types.specs.Judged.{Judged, value, and_then, Judges}
use Rattle.clight_scopes.specs.Scopes.{Scene, opened, closed}
use Rattle.clight_specifiers.proofs.Faults.{judged_as}
use Rattle.clight_typing.specs.Statements.{Made, NothingMade, BranchMade, WhileMade, DoMade, ForMade, SwitchMade, MadeGroups, Around, in_loop, in_switch, no_labels, condition_judged, selector_judged, effect_judged, return_judged, stmt_judged, groups_judged}
use Rattle.clight_expressions.proofs.Stops.{Stops}
use Rattle.clight_statements.specs.StatementsOf.{HeadMade, head_judged, else_judged}
use Rattle.clight_statements.proofs.Behind.{stops_second, stops_third, two_values, three_values, same_value}
use Rattle.clight_statements.proofs.Fronts.{if_front, while_front, do_front, for_front, switch_front}

-- ## Statements of one part

pub empty_made : (a : Around) (s : Scene) (x : Stmt) (at : ℕ) → x ≡ stmt.Empty at → stmt_judged a s (stmt_of x) ≡ value (s, NothingMade)
empty_made a s x at is = ap (λ y. stmt_judged a s (stmt_of y)) is

pub expr_judged : {A : Type 0} (a : Around) (s : Scene) (x : Stmt) (at : ℕ) (e : Expr) (view : A → Scene × Made) (r : Result A Refusal) → x ≡ stmt.Expr at e → Judges (effect_judged s (expr_of e)) view r → Judges (stmt_judged a s (stmt_of x)) view r
expr_judged a s x at e view r is h = judged_as (stmt_judged a s (stmt_of x)) (effect_judged s (expr_of e)) view r (ap (λ y. stmt_judged a s (stmt_of y)) is) h

pub jump_judged : {A : Type 0} (a : Around) (s : Scene) (x : Stmt) (at : ℕ) (e : Option Expr) (view : A → Scene × Made) (r : Result A Refusal) → x ≡ stmt.Return at e → Judges (return_judged s at a.result (optional_of e)) view r → Judges (stmt_judged a s (stmt_of x)) view r
jump_judged a s x at e view r is h = judged_as (stmt_judged a s (stmt_of x)) (return_judged s at a.result (optional_of e)) view r (ap (λ y. stmt_judged a s (stmt_of y)) is) h

pub other_judged : {A : Type 0} (a : Around) (s : Scene) (x : Option (Box Stmt Global)) (b : Box Stmt Global) (y : Stmt) (view : A → Scene × Made) (r : Result A Refusal) → x ≡ Some b → y ≡ b.value → Judges (stmt_judged a s (stmt_of y)) view r → Judges (else_judged a s (else_of x)) view r
other_judged a s x b y view r is same h = judged_as (else_judged a s (else_of x)) (stmt_judged a s (stmt_of y)) view r (ap (λ z. else_judged a s (else_of z)) is ∙ sym (ap (λ z. stmt_judged a s (stmt_of z)) same)) h

pub no_other : (a : Around) (s : Scene) (x : Option (Box Stmt Global)) → x ≡ None → else_judged a s (else_of x) ≡ value (s, NothingMade)
no_other a s x is = ap (λ z. else_judged a s (else_of z)) is

-- ## `if`

pub if_stops_second : (a : Around) (s t : Scene) (x : Stmt) (at : ℕ) (e : Expr) (y : Box Stmt Global) (z : Option (Box Stmt Global)) (c : Expression) (r : Refusal) → x ≡ stmt.If at e y z → condition_judged s (expr_of e) ≡ value (t, c) → Stops (stmt_judged a t (stmt_of y.value)) r → Stops (stmt_judged a s (stmt_of x)) r
if_stops_second a s t x at e y z c r is first h =
    stops_second (stmt_judged a s (stmt_of x)) (condition_judged s (expr_of e)) (t, c) (λ q. stmt_judged a q.0 (stmt_of y.value)) (λ q p. and_then (else_judged a p.0 (else_of z)) (λ o. value (o.0, BranchMade q.1 p.1 o.1))) r (if_front a s x at e y z is) first h

pub if_stops_third : (a : Around) (s t u : Scene) (x : Stmt) (at : ℕ) (e : Expr) (y : Box Stmt Global) (z : Option (Box Stmt Global)) (c : Expression) (m : Made) (r : Refusal) → x ≡ stmt.If at e y z → condition_judged s (expr_of e) ≡ value (t, c) → stmt_judged a t (stmt_of y.value) ≡ value (u, m) → Stops (else_judged a u (else_of z)) r → Stops (stmt_judged a s (stmt_of x)) r
if_stops_third a s t u x at e y z c m r is first second h =
    stops_third (stmt_judged a s (stmt_of x)) (condition_judged s (expr_of e)) (t, c) (λ q. stmt_judged a q.0 (stmt_of y.value)) (u, m) (λ q p. else_judged a p.0 (else_of z)) (λ q p o. value (o.0, BranchMade q.1 p.1 o.1)) r (if_front a s x at e y z is) first second h

pub if_made : (a : Around) (s t u v : Scene) (x : Stmt) (at : ℕ) (e : Expr) (y : Box Stmt Global) (z : Option (Box Stmt Global)) (c : Expression) (m n o : Made) → x ≡ stmt.If at e y z → condition_judged s (expr_of e) ≡ value (t, c) → stmt_judged a t (stmt_of y.value) ≡ value (u, m) → else_judged a u (else_of z) ≡ value (v, n) → o ≡ BranchMade c m n → stmt_judged a s (stmt_of x) ≡ value (v, o)
if_made a s t u v x at e y z c m n o is first second third made =
    three_values (stmt_judged a s (stmt_of x)) (value (v, o)) (condition_judged s (expr_of e)) (t, c) (λ q. stmt_judged a q.0 (stmt_of y.value)) (u, m) (λ q p. else_judged a p.0 (else_of z)) (v, n) (λ q p o. value (o.0, BranchMade q.1 p.1 o.1)) (if_front a s x at e y z is) first second third (same_value v v (BranchMade c m n) o refl (sym made))

-- ## Loops

pub while_stops_second : (a b : Around) (s t : Scene) (x : Stmt) (at : ℕ) (e : Expr) (y : Box Stmt Global) (c : Expression) (r : Refusal) → b ≡ in_loop a → x ≡ stmt.While at e y → condition_judged s (expr_of e) ≡ value (t, c) → Stops (stmt_judged b t (stmt_of y.value)) r → Stops (stmt_judged a s (stmt_of x)) r
while_stops_second a b s t x at e y c r inside is first h =
    stops_second (stmt_judged a s (stmt_of x)) (condition_judged s (expr_of e)) (t, c) (λ q. stmt_judged b q.0 (stmt_of y.value)) (λ q p. value (p.0, WhileMade q.1 p.1)) r (while_front a b s x at e y inside is) first h

pub while_made : (a b : Around) (s t u : Scene) (x : Stmt) (at : ℕ) (e : Expr) (y : Box Stmt Global) (c : Expression) (m o : Made) → b ≡ in_loop a → x ≡ stmt.While at e y → condition_judged s (expr_of e) ≡ value (t, c) → stmt_judged b t (stmt_of y.value) ≡ value (u, m) → o ≡ WhileMade c m → stmt_judged a s (stmt_of x) ≡ value (u, o)
while_made a b s t u x at e y c m o inside is first second made =
    two_values (stmt_judged a s (stmt_of x)) (value (u, o)) (condition_judged s (expr_of e)) (t, c) (λ q. stmt_judged b q.0 (stmt_of y.value)) (u, m) (λ q p. value (p.0, WhileMade q.1 p.1)) (while_front a b s x at e y inside is) first second (same_value u u (WhileMade c m) o refl (sym made))

pub do_stops_second : (a b : Around) (s t : Scene) (x : Stmt) (at : ℕ) (y : Box Stmt Global) (e : Expr) (m : Made) (r : Refusal) → b ≡ in_loop a → x ≡ stmt.Do at y e → stmt_judged b s (stmt_of y.value) ≡ value (t, m) → Stops (condition_judged t (expr_of e)) r → Stops (stmt_judged a s (stmt_of x)) r
do_stops_second a b s t x at y e m r inside is first h =
    stops_second (stmt_judged a s (stmt_of x)) (stmt_judged b s (stmt_of y.value)) (t, m) (λ q. condition_judged q.0 (expr_of e)) (λ q p. value (p.0, DoMade q.1 p.1)) r (do_front a b s x at y e inside is) first h

pub do_made : (a b : Around) (s t u : Scene) (x : Stmt) (at : ℕ) (y : Box Stmt Global) (e : Expr) (m : Made) (c : Expression) (o : Made) → b ≡ in_loop a → x ≡ stmt.Do at y e → stmt_judged b s (stmt_of y.value) ≡ value (t, m) → condition_judged t (expr_of e) ≡ value (u, c) → o ≡ DoMade m c → stmt_judged a s (stmt_of x) ≡ value (u, o)
do_made a b s t u x at y e m c o inside is first second made =
    two_values (stmt_judged a s (stmt_of x)) (value (u, o)) (stmt_judged b s (stmt_of y.value)) (t, m) (λ q. condition_judged q.0 (expr_of e)) (u, c) (λ q p. value (p.0, DoMade q.1 p.1)) (do_front a b s x at y e inside is) first second (same_value u u (DoMade m c) o refl (sym made))

pub for_stops_second : (a b : Around) (s t : Scene) (x : Stmt) (at : ℕ) (f : ForFirst) (c u : Option Expr) (y : Box Stmt Global) (h : HeadMade) (r : Refusal) → b ≡ in_loop a → x ≡ stmt.For at f c u y → head_judged s (first_of_for f) (optional_of c) (optional_of u) ≡ value (t, h) → Stops (stmt_judged b t (stmt_of y.value)) r → Stops (stmt_judged a s (stmt_of x)) r
for_stops_second a b s t x at f c u y h r inside is first p =
    stops_second (stmt_judged a s (stmt_of x)) (head_judged s (first_of_for f) (optional_of c) (optional_of u)) (t, h) (λ q. stmt_judged b q.0 (stmt_of y.value)) (λ q o. value (closed o.0, ForMade q.1.first q.1.condition q.1.update o.1)) r (for_front a b s x at f c u y inside is) first p

pub for_made : (a b : Around) (s t v w : Scene) (x : Stmt) (at : ℕ) (f : ForFirst) (c u : Option Expr) (y : Box Stmt Global) (h : HeadMade) (m o : Made) → b ≡ in_loop a → x ≡ stmt.For at f c u y → head_judged s (first_of_for f) (optional_of c) (optional_of u) ≡ value (t, h) → stmt_judged b t (stmt_of y.value) ≡ value (v, m) → w ≡ closed v → o ≡ ForMade h.first h.condition h.update m → stmt_judged a s (stmt_of x) ≡ value (w, o)
for_made a b s t v w x at f c u y h m o inside is first second ended made =
    two_values (stmt_judged a s (stmt_of x)) (value (w, o)) (head_judged s (first_of_for f) (optional_of c) (optional_of u)) (t, h) (λ q. stmt_judged b q.0 (stmt_of y.value)) (v, m) (λ q p. value (closed p.0, ForMade q.1.first q.1.condition q.1.update p.1)) (for_front a b s x at f c u y inside is) first second (same_value (closed v) w (ForMade h.first h.condition h.update m) o (sym ended) (sym made))

-- ## `switch`

pub switch_stops_second : (a b : Around) (s t : Scene) (x : Stmt) (at : ℕ) (e : Expr) (gs : Vec Group Global) (c : Expression) (r : Refusal) → b ≡ in_switch a → x ≡ stmt.Switch at e gs → selector_judged s (expr_of e) ≡ value (t, c) → Stops (groups_judged b (opened t) no_labels (groups_of gs.items)) r → Stops (stmt_judged a s (stmt_of x)) r
switch_stops_second a b s t x at e gs c r inside is first h =
    stops_second (stmt_judged a s (stmt_of x)) (selector_judged s (expr_of e)) (t, c) (λ q. groups_judged b (opened q.0) no_labels (groups_of gs.items)) (λ q p. value (closed p.0, SwitchMade q.1 p.1)) r (switch_front a b s x at e gs inside is) first h

pub switch_made : (a b : Around) (s t u v : Scene) (x : Stmt) (at : ℕ) (e : Expr) (gs : Vec Group Global) (c : Expression) (ms : MadeGroups) (o : Made) → b ≡ in_switch a → x ≡ stmt.Switch at e gs → selector_judged s (expr_of e) ≡ value (t, c) → groups_judged b (opened t) no_labels (groups_of gs.items) ≡ value (u, ms) → v ≡ closed u → o ≡ SwitchMade c ms → stmt_judged a s (stmt_of x) ≡ value (v, o)
switch_made a b s t u v x at e gs c ms o inside is first second ended made =
    two_values (stmt_judged a s (stmt_of x)) (value (v, o)) (selector_judged s (expr_of e)) (t, c) (λ q. groups_judged b (opened q.0) no_labels (groups_of gs.items)) (u, ms) (λ q p. value (closed p.0, SwitchMade q.1 p.1)) (switch_front a b s x at e gs inside is) first second (same_value (closed u) v (SwitchMade c ms) o (sym ended) (sym made))
