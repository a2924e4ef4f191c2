-- Which parts of a statement are judged one behind another, by what the code sees of it.
use Rattle.std.proofs.Common.{◌≡◌, ℕ, true, refl, ap, sym, ◌∙◌, Option, Some, None}
use Rattle.std.specs.Prelude.{Vec, Box}
use Rattle.std.specs.declared.alloc.Global.{Global}
use Rattle.c_tree.specs.Trees.{ItemTrees, GroupTrees, no_group_trees, group_trees, block_stmt, switch_stmt}
use Rattle.c_tree.specs.Shape.{expr_of}
use Rattle.c_tree.specs.FileShape.{stmt_of, decl_of, first_of_for, optional_of, item_onto, items_of, groups_of, else_of}
use Rattle.c_tree.specs.declared.expr.Expr.{Expr}
use Rattle.c_tree.specs.declared.file.Decl.{Decl}
use Rattle.c_tree.specs.declared.stmt.ForFirst.{ForFirst}
use Rattle.c_tree.specs.declared.stmt.Item.{Item}
use Rattle.c_tree.specs.declared.stmt.Item.TheVariants as item
use Rattle.c_tree.specs.declared.stmt.Group.{Group}
use Rattle.c_tree.specs.declared.stmt.Stmt.{Stmt}
use Rattle.c_tree.specs.declared.stmt.Stmt.TheVariants.{Block, If, While, Do, For, Switch, Break, Continue}
use Rattle.c_tree.proofs.Statements.{block_shape, switch_shape}
use Rattle.clight_types.specs.declared.rule.Refusal.{Refusal}
use Rattle.clight_types.specs.declared.rule.Rule.TheVariants as rule
use Rattle.clight_types.specs.Judged.{Judged, value, fault, and_then, unless, IsOwed}
use Rattle.clight_scopes.specs.Scopes.{Scene, opened, closed}
use Rattle.clight_typing.specs.Statements.{Made, BlockMade, BranchMade, WhileMade, DoMade, ForMade, SwitchMade, BreakMade, ContinueMade, MadeList, AndMade, Around, Labels, in_loop, in_switch, alone, joined, new_group, decl_judged, no_labels, condition_judged, selector_judged, first_judged, optional_condition, optional_effect, stmt_judged, items_judged, groups_judged}
use Rattle.clight_expressions.proofs.Rest.{then_assoc, then_same}
use Rattle.clight_expressions.proofs.Stops.{Stops, stops_on, stops_unless}
use Rattle.clight_statements.specs.StatementsOf.{behind, HeadMade, head_judged, else_judged, item_judged}

pub block_front : (a : Around) (s t : Scene) (x : Stmt) (at : ℕ) (is : Vec Item Global) → t ≡ opened s → x ≡ Block at is → stmt_judged a s (stmt_of x) ≡ and_then (items_judged a t (items_of is.items)) (λ r. value (closed r.0, BlockMade r.1))
block_front a s t x at is begun e =
    ap (λ y. stmt_judged a s (stmt_of y)) e
    ∙ ap (stmt_judged a s) (block_shape at is)
    ∙ ap (λ (u : Scene). and_then {B = Scene × Made} (items_judged a u (items_of is.items)) (λ r. value (closed r.0, BlockMade r.1))) (sym begun)

pub if_front : (a : Around) (s : Scene) (x : Stmt) (at : ℕ) (e : Expr) (y : Box Stmt Global) (z : Option (Box Stmt Global)) → x ≡ If at e y z → stmt_judged a s (stmt_of x) ≡ and_then (condition_judged s (expr_of e)) (λ r. and_then (stmt_judged a r.0 (stmt_of y.value)) (λ q. and_then (else_judged a q.0 (else_of z)) (λ p. value (p.0, BranchMade r.1 q.1 p.1))))
if_front a s x at e y None is = ap (λ w. stmt_judged a s (stmt_of w)) is
if_front a s x at e y (Some z) is = ap (λ w. stmt_judged a s (stmt_of w)) is

pub while_front : (a b : Around) (s : Scene) (x : Stmt) (at : ℕ) (e : Expr) (y : Box Stmt Global) → b ≡ in_loop a → x ≡ While at e y → stmt_judged a s (stmt_of x) ≡ and_then (condition_judged s (expr_of e)) (λ r. and_then (stmt_judged b r.0 (stmt_of y.value)) (λ q. value (q.0, WhileMade r.1 q.1)))
while_front a b s x at e y inside is =
    ap (λ w. stmt_judged a s (stmt_of w)) is
    ∙ ap (λ (z : Around). and_then {B = Scene × Made} (condition_judged s (expr_of e)) (λ r. and_then {B = Scene × Made} (stmt_judged z r.0 (stmt_of y.value)) (λ q. value (q.0, WhileMade r.1 q.1)))) (sym inside)

pub do_front : (a b : Around) (s : Scene) (x : Stmt) (at : ℕ) (y : Box Stmt Global) (e : Expr) → b ≡ in_loop a → x ≡ Do at y e → stmt_judged a s (stmt_of x) ≡ and_then (stmt_judged b s (stmt_of y.value)) (λ q. and_then (condition_judged q.0 (expr_of e)) (λ r. value (r.0, DoMade q.1 r.1)))
do_front a b s x at y e inside is =
    ap (λ w. stmt_judged a s (stmt_of w)) is
    ∙ ap (λ (z : Around). and_then {B = Scene × Made} (stmt_judged z s (stmt_of y.value)) (λ q. and_then {B = Scene × Made} (condition_judged q.0 (expr_of e)) (λ r. value (r.0, DoMade q.1 r.1)))) (sym inside)

pub for_front : (a b : Around) (s : Scene) (x : Stmt) (at : ℕ) (f : ForFirst) (c u : Option Expr) (y : Box Stmt Global) → b ≡ in_loop a → x ≡ For at f c u y → stmt_judged a s (stmt_of x) ≡ and_then (head_judged s (first_of_for f) (optional_of c) (optional_of u)) (λ h. and_then (stmt_judged b h.0 (stmt_of y.value)) (λ o. value (closed o.0, ForMade h.1.first h.1.condition h.1.update o.1)))
for_front a b s x at f c u y inside is =
    let all : Around → Scene × HeadMade → Judged (Scene × Made) = λ z h. and_then {B = Scene × Made} (stmt_judged z h.0 (stmt_of y.value)) (λ o. value (closed o.0, ForMade h.1.first h.1.condition h.1.update o.1)) in
    ap (λ w. stmt_judged a s (stmt_of w)) is
    ∙ sym (then_assoc {B = Scene × HeadMade} {C = Scene × Made} (first_judged (opened s) (first_of_for f)) _ (all (in_loop a))
    ∙ then_same {B = Scene × Made} (first_judged (opened s) (first_of_for f)) _ _ (λ p.
    then_assoc {B = Scene × HeadMade} {C = Scene × Made} (optional_condition p.0 (optional_of c)) _ (all (in_loop a))
    ∙ then_same {B = Scene × Made} (optional_condition p.0 (optional_of c)) _ _ (λ q.
    then_assoc {B = Scene × HeadMade} {C = Scene × Made} (optional_effect q.0 (optional_of u)) _ (all (in_loop a)))))
    ∙ ap (λ (z : Around). and_then (head_judged s (first_of_for f) (optional_of c) (optional_of u)) (all z)) (sym inside)

pub switch_front : (a b : Around) (s : Scene) (x : Stmt) (at : ℕ) (e : Expr) (gs : Vec Group Global) → b ≡ in_switch a → x ≡ Switch at e gs → stmt_judged a s (stmt_of x) ≡ and_then (selector_judged s (expr_of e)) (λ r. and_then (groups_judged b (opened r.0) no_labels (groups_of gs.items)) (λ q. value (closed q.0, SwitchMade r.1 q.1)))
switch_front a b s x at e gs inside is =
    ap (λ y. stmt_judged a s (stmt_of y)) is
    ∙ ap (stmt_judged a s) (switch_shape at e gs)
    ∙ ap (λ (z : Around). and_then {B = Scene × Made} (selector_judged s (expr_of e)) (λ r. and_then {B = Scene × Made} (groups_judged z (opened r.0) no_labels (groups_of gs.items)) (λ q. value (closed q.0, SwitchMade r.1 q.1)))) (sym inside)

pub break_stops : (a : Around) (s : Scene) (x : Stmt) (at : ℕ) (e : Refusal) → x ≡ Break at → IsOwed a.breaks rule.Jump at e → Stops (stmt_judged a s (stmt_of x)) e
break_stops a s x at e is p = stops_on (stmt_judged a s (stmt_of x)) (unless a.breaks rule.Jump at (value BreakMade)) (λ m. value (s, m)) e (ap (λ y. stmt_judged a s (stmt_of y)) is) (stops_unless a.breaks rule.Jump at (value BreakMade) e p)

pub break_made : (a : Around) (s : Scene) (x : Stmt) (at : ℕ) → x ≡ Break at → a.breaks ≡ true → stmt_judged a s (stmt_of x) ≡ value (s, BreakMade)
break_made a s x at is p = ap (λ y. stmt_judged a s (stmt_of y)) is ∙ ap (λ b. and_then {B = Scene × Made} (unless b rule.Jump at (value BreakMade)) (λ m. value (s, m))) p

pub continue_stops : (a : Around) (s : Scene) (x : Stmt) (at : ℕ) (e : Refusal) → x ≡ Continue at → IsOwed a.continues rule.Jump at e → Stops (stmt_judged a s (stmt_of x)) e
continue_stops a s x at e is p = stops_on (stmt_judged a s (stmt_of x)) (unless a.continues rule.Jump at (value ContinueMade)) (λ m. value (s, m)) e (ap (λ y. stmt_judged a s (stmt_of y)) is) (stops_unless a.continues rule.Jump at (value ContinueMade) e p)

pub continue_made : (a : Around) (s : Scene) (x : Stmt) (at : ℕ) → x ≡ Continue at → a.continues ≡ true → stmt_judged a s (stmt_of x) ≡ value (s, ContinueMade)
continue_made a s x at is p = ap (λ y. stmt_judged a s (stmt_of y)) is ∙ ap (λ b. and_then {B = Scene × Made} (unless b rule.Jump at (value ContinueMade)) (λ m. value (s, m))) p

-- ## Items and groups

stmt_item_front : (j : Judged (Scene × Made)) (rest : Scene → Judged (Scene × MadeList)) → and_then {B = Scene × MadeList} j (λ r. and_then {B = Scene × MadeList} (rest r.0) (λ q. value (q.0, AndMade r.1 q.1))) ≡ and_then {B = Scene × MadeList} (and_then {B = Scene × MadeList} j (λ r. value (r.0, alone r.1))) (λ r. behind r.1 (rest r.0))
stmt_item_front (value r) rest = refl
stmt_item_front (fault r at j) rest = ap (fault r at) (stmt_item_front j rest)

-- one item behind others
pub decl_front : (a : Around) (s : Scene) (made : MadeList) (x : Item) (d : Decl) → x ≡ item.Decl d → behind made (item_judged a s x) ≡ and_then (decl_judged s (decl_of d)) (λ q. value (q.0, joined made q.1))
decl_front a s made x d is = ap (λ y. behind made (item_judged a s y)) is

pub stmt_front : (a : Around) (s : Scene) (made : MadeList) (x : Item) (y : Stmt) → x ≡ item.Stmt y → behind made (item_judged a s x) ≡ and_then (stmt_judged a s (stmt_of y)) (λ r. value (r.0, joined made (alone r.1)))
stmt_front a s made x y is = ap (λ z. behind made (item_judged a s z)) is ∙ then_assoc {B = Scene × MadeList} {C = Scene × MadeList} (stmt_judged a s (stmt_of y)) (λ r. value (r.0, alone r.1)) (λ q. value (q.0, joined made q.1))

-- one item and then the others
pub item_front : (a : Around) (s : Scene) (x : Item) (is : ItemTrees) → items_judged a s (item_onto x is) ≡ and_then (item_judged a s x) (λ r. behind r.1 (items_judged a r.0 is))
item_front a s (item.Decl d) is = refl
item_front a s (item.Stmt x) is = stmt_item_front (stmt_judged a s (stmt_of x)) (λ q. items_judged a q is)

-- a group begins with no labels of its own
pub group_front : (a : Around) (s : Scene) (l : Labels) (gs : GroupTrees) → groups_judged a s l gs ≡ groups_judged a s (new_group l) gs
group_front a s l no_group_trees = refl
group_front a s l (group_trees ls is gs) = refl
