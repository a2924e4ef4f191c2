-- Statements: what each does is made well.
use Rattle.std.proofs.Common.{◌≡◌, ℕ, ◌+◌, ◌*◌, ◌≤◌, ◌==◌, Bool, true, false, ◌||◌, not, true≢false, List, [], ◌∷◌, ◌++◌, length, refl, sym, ap, ◌∙◌, subst, arith, append_assoc}
use Rattle.std.specs.List.{list_any}
use Rattle.std.proofs.lemmas.Bool.Decides.{Decides-eqb}
use Rattle.c_grammar.specs.Tokens as k
use Rattle.c_tree.specs.Trees.{LabelTree, case_tree, default_tree, StmtTree, block_stmt, empty_stmt, expr_stmt, if_stmt, if_else_stmt, while_stmt, do_stmt, for_stmt, switch_stmt, jump_stmt, return_stmt, ItemTrees, no_item_trees, decl_item, stmt_item, GroupTrees, no_group_trees, group_trees}
use Rattle.clight_lang.specs.Syntax.{Expression}
use Rattle.clight_lang.specs.WellMade.{expression_weight}
use Rattle.clight_types.specs.declared.kind.Constant.{Constant}
use Rattle.clight_types.specs.declared.kind.Constant.TheVariants as constant
use Rattle.clight_scopes.specs.Scopes.{Scene, opened, closed}
use Rattle.clight_operands.specs.Operands.{NoEffect}
use Rattle.clight_typing.specs.Typing.{typed}
use Rattle.clight_typing.specs.Statements.{MadeGroups, Around, in_loop, in_switch, decl_judged, condition_judged, optional_condition, optional_effect, first_judged, selector_judged, Labels, new_group, is_new, with_number, with_default, label_judged, labels_judged, no_labels, jump_judged, stmt_judged, items_judged, groups_judged}
use Rattle.clight_nodes.specs.Nodes.{expr_nodes, local_nodes, optional_nodes, first_nodes, labels_nodes, stmt_nodes, items_nodes, groups_nodes}
use Rattle.c_shapes.specs.Shaped.{AreLabels, IsStmt, AreItems, AreGroups}
use Rattle.clight_laws.proofs.Holding.{Holds, of_value, of_then, of_unless, holds_more, not_true, not_both}
use Rattle.clight_laws.proofs.Scenes.{IsScene, IsGood, good_none, good_twice, good_more, opened_good, closed_good}
use Rattle.clight_laws.proofs.Expressions.{IsMeaning, meaning_later}
use Rattle.clight_laws.proofs.TypedTrees.{MakesTyped, typed_good}
use Rattle.clight_laws.proofs.Made.{IsMade, AreMade, AreGroupsMade, group_numbers, group_defaults, one_if, IsAbsent, AreDistinct, effect_later, condition_later, made_later, first_later, list_later, groups_later, joined_made, effect_made}
use Rattle.clight_laws.proofs.StatementTrees.{MakesList, MakesEffect, MakesValue, MakesCondition, MakesFirst, MakesOne, decl_good, effect_good, condition_good, selector_good, optional_condition_good, optional_effect_good, first_good, return_good}

-- ## Labels

absent_end : (n : ℕ) (xs : List ℕ) (w : ℕ) → IsAbsent n xs → (n ≡ w → ⊥) → IsAbsent n (xs ++ w ∷ [])
absent_end n [] w h f = (f, tt)
absent_end n (x ∷ xs) w h f = (h.0, absent_end n xs w h.1 f)

test_false : (a b : ℕ) → (a == b) ≡ false → a ≡ b → ⊥
test_false a b e q = not_both (a == b) ((Decides-eqb a b).1 q) e

distinct_end : (xs : List ℕ) (w : ℕ) → AreDistinct xs → list_any (λ x. x == w) xs ≡ false → AreDistinct (xs ++ w ∷ [])
distinct_end [] w h e = (tt, tt)
distinct_end (x ∷ xs) w h e = by (x == w) refl (list_any (λ x. x == w) xs) refl e (λ q. distinct_end xs w h.1 q)
  where
    by : (b : Bool) → (x == w) ≡ b → (c : Bool) → list_any (λ x. x == w) xs ≡ c → (b || c) ≡ false → (list_any (λ x. x == w) xs ≡ false → AreDistinct (xs ++ w ∷ [])) → IsAbsent x (xs ++ w ∷ []) × AreDistinct (xs ++ w ∷ [])
    by true p c q e rest = absurd (true≢false e)
    by false p true q e rest = absurd (true≢false e)
    by false p false q e rest = (absent_end x xs w h.0 (test_false x w p), rest q)

pub record AddsLabels (s : Scene) (l : Labels) (n : ℕ) (r : Scene × Labels) : Type 0 where
  pub good : IsGood 0 s r.0
  pub new : List ℕ
  pub seen : r.1.seen ≡ l.seen ++ new
  pub numbers : r.1.numbers ≡ l.numbers ++ new
  pub few : length new ≤ n
  pub distinct : AreDistinct l.seen → AreDistinct r.1.seen
  pub defaults : one_if r.1.is_default + one_if l.has_default ≤ one_if r.1.has_default + one_if l.is_default

append_none : {A : Type 0} (xs : List A) → xs ≡ xs ++ []
append_none [] = refl
append_none (x ∷ xs) = ap (λ l. x ∷ l) (append_none xs)

number_added : (s t : Scene) (l : Labels) (n : ℕ) (c : Constant) → 1 ≤ n → IsGood 0 s t → is_new l.seen c ≡ true → AddsLabels s l n (t, with_number l c)
number_added s t l n constant.No p g e = absurd (true≢false (sym e))
number_added s t l n constant.WithoutValue p g e = absurd (true≢false (sym e))
number_added s t l n (constant.Known w) p g e = record { good = g; new = w ∷ []; seen = refl; numbers = refl; few = p; distinct = λ d. distinct_end l.seen w d (not_true (list_any (λ x. x == w) l.seen) e); defaults = omega arith }

default_added : (s : Scene) (l : Labels) (n : ℕ) → IsScene s → not l.has_default ≡ true → AddsLabels s l n (s, with_default l)
default_added s l n h e = by l.has_default refl e
  where
    by : (b : Bool) → l.has_default ≡ b → not b ≡ true → AddsLabels s l n (s, with_default l)
    by true q e = absurd (true≢false (sym e))
    by false q e = record { good = good_none s h; new = []; seen = append_none l.seen; numbers = append_none l.numbers; few = omega arith; distinct = λ d. d; defaults = (let p : one_if l.has_default ≡ 0 = ap one_if q in omega arith) }

one_label : (s : Scene) (l : Labels) (x : LabelTree) (n : ℕ) → AreLabels (x ∷ []) → IsScene s → labels_nodes (x ∷ []) ≤ n → Holds (label_judged s l x) (AddsLabels s l n)
one_label s l (case_tree at e) n w h q =
    of_then (typed NoEffect false s e) _ (MakesTyped s false (expr_nodes e)) _ (typed_good NoEffect false s e w.0 h) (λ r g.
    of_unless (is_new l.seen r.1.constant) _ _ _ _ (λ e1. of_value _ _ (number_added s r.0 l n r.1.constant (let p : 1 ≤ expr_nodes e = g.given.typed.some in omega arith) g.good e1)))
one_label s l (default_tree at) n w h q = of_unless (not l.has_default) _ _ _ _ (λ e1. of_value _ _ (default_added s l n h e1))

labels_twice : (s t u : Scene) (l m : Labels) (k n p : ℕ) (z : Labels) → AddsLabels s l k (t, m) → AddsLabels t m n (u, z) → k + n ≤ p → AddsLabels s l p (u, z)
labels_twice s t u l m k n p z g h q =
    record {
      good = good_twice 0 0 0 s t u g.good h.good (omega arith);
      new = g.new ++ h.new;
      seen = h.seen ∙ ap (λ x. x ++ h.new) g.seen ∙ append_assoc l.seen g.new h.new;
      numbers = h.numbers ∙ ap (λ x. x ++ h.new) g.numbers ∙ append_assoc l.numbers g.new h.new;
      few = (let e : length (g.new ++ h.new) ≡ length g.new + length h.new = length_both g.new h.new in let a : length g.new ≤ k = g.few in let b : length h.new ≤ n = h.few in omega arith);
      distinct = λ d. h.distinct (g.distinct d);
      defaults = (let a : one_if m.is_default + one_if l.has_default ≤ one_if m.has_default + one_if l.is_default = g.defaults in let b : one_if z.is_default + one_if m.has_default ≤ one_if z.has_default + one_if m.is_default = h.defaults in omega arith);
    }
  where
    length_both : (xs ys : List ℕ) → length (xs ++ ys) ≡ length xs + length ys
    length_both [] ys = (let e : length ys ≡ 0 + length ys = omega arith in e)
    length_both (x ∷ xs) ys = (let e : length (xs ++ ys) ≡ length xs + length ys = length_both xs ys in omega arith)

all_labels : (s : Scene) (l : Labels) (xs : List LabelTree) → AreLabels xs → IsScene s → Holds (labels_judged s l xs) (AddsLabels s l (labels_nodes xs))
all_labels s l [] w h = of_value _ _ (record { good = good_none s h; new = []; seen = append_none l.seen; numbers = append_none l.numbers; few = omega arith; distinct = λ d. d; defaults = omega arith })
all_labels s l (case_tree at e ∷ xs) w h =
    of_then (label_judged s l (case_tree at e)) _ (AddsLabels s l (expr_nodes e)) _ (one_label s l (case_tree at e) (expr_nodes e) (w.0, tt) h (omega arith)) (λ r g.
    holds_more _ _ (AddsLabels s l (expr_nodes e + labels_nodes xs)) (λ q f. labels_twice s r.0 q.0 l r.1 (expr_nodes e) (labels_nodes xs) (expr_nodes e + labels_nodes xs) q.1 g f (omega arith)) (all_labels r.0 r.1 xs w.1 g.good.scene))
all_labels s l (default_tree at ∷ xs) w h =
    of_then (label_judged s l (default_tree at)) _ (AddsLabels s l 0) _ (one_label s l (default_tree at) 0 tt h (omega arith)) (λ r g.
    holds_more _ _ (AddsLabels s l (labels_nodes xs)) (λ q f. labels_twice s r.0 q.0 l r.1 0 (labels_nodes xs) (labels_nodes xs) q.1 g f (omega arith)) (all_labels r.0 r.1 xs w g.good.scene))

-- ## Statements

pub record MakesGroups (s : Scene) (l : Labels) (c : Bool) (n : ℕ) (r : Scene × MadeGroups) : Type 0 where
  pub good : IsGood n s r.0
  pub made : AreGroupsMade r.0 c n r.1
  pub distinct : AreDistinct l.seen → AreDistinct (l.seen ++ group_numbers r.1)
  pub defaults : group_defaults r.1 + one_if l.has_default ≤ 1

one_at_most : (b : Bool) → one_if b ≤ 1
one_at_most true = omega arith
one_at_most false = omega arith

jump_good : (s : Scene) (a : Around) (j : k.Jump) (at : ℕ) → Holds (jump_judged a j at) (IsMade s a.breaks a.continues 1)
jump_good s a k.Break at = of_unless a.breaks _ _ _ _ (λ e. of_value _ _ (e, omega arith))
jump_good s a k.Continue at = of_unless a.continues _ _ _ _ (λ e. of_value _ _ (e, omega arith))

some_nodes : (s : Scene) (n : ℕ) (e : Expression) → IsMeaning s 1 n e → 1 ≤ n
some_nodes s n e h = (let w : expression_weight e + 1 ≤ 3 * n = h.weight in omega arith)

mutual
  pub stmt_good : (a : Around) (s : Scene) (x : StmtTree) → IsStmt x → IsScene s → Holds (stmt_judged a s x) (MakesOne s a.breaks a.continues (stmt_nodes x))
  stmt_good a s (block_stmt at is) w h =
      (let o = opened_good s h in
      of_then (items_judged a (opened s) is) _ (MakesList (opened s) a.breaks a.continues (items_nodes is) (items_nodes is)) _ (items_good a (opened s) is w o.scene) (λ r g.
      (let c = closed_good r.0 g.good.scene in
      of_value _ _ (record {
        good = good_twice 0 (items_nodes is) (1 + items_nodes is) s (opened s) (closed r.0) o (good_twice (items_nodes is) 0 (items_nodes is) (opened s) r.0 (closed r.0) g.good c (omega arith)) (omega arith);
        made = (items_nodes is, list_later 0 r.0 (closed r.0) c.later a.breaks a.continues (items_nodes is) r.1 g.made, omega arith);
      }))))
  stmt_good a s (empty_stmt at) w h = of_value _ _ (record { good = good_more 0 1 s s (good_none s h) (omega arith); made = omega arith })
  stmt_good a s (expr_stmt at e) w h =
      holds_more _ _ (MakesOne s a.breaks a.continues (1 + expr_nodes e)) (λ r g. record { good = good_more 0 (1 + expr_nodes e) s r.0 g.good (omega arith); made = effect_made r.0 a.breaks a.continues (expr_nodes e) r.1 g.made }) (effect_good s e w h)
  stmt_good a s (if_stmt at e x) w h =
      of_then (condition_judged s e) _ (MakesValue s (expr_nodes e)) _ (condition_good s e w.0 h) (λ r g.
      of_then (stmt_judged a r.0 x) _ (MakesOne r.0 a.breaks a.continues (stmt_nodes x)) _ (stmt_good a r.0 x w.1 g.good.scene) (λ q f.
      (let m = meaning_later (stmt_nodes x) r.0 q.0 f.good.later 1 (expr_nodes e) r.1 g.meaning in
      let l : 1 ≤ expr_nodes e = some_nodes q.0 (expr_nodes e) r.1 m in
      of_value _ _ (record {
        good = good_twice 0 (stmt_nodes x) (1 + (expr_nodes e + stmt_nodes x)) s r.0 q.0 g.good f.good (omega arith);
        made = (expr_nodes e, stmt_nodes x, 1, m, f.made, omega arith, omega arith, omega arith, omega arith);
      }))))
  stmt_good a s (if_else_stmt at e x y) w h =
      of_then (condition_judged s e) _ (MakesValue s (expr_nodes e)) _ (condition_good s e w.0 h) (λ r g.
      of_then (stmt_judged a r.0 x) _ (MakesOne r.0 a.breaks a.continues (stmt_nodes x)) _ (stmt_good a r.0 x w.1.0 g.good.scene) (λ q f.
      of_then (stmt_judged a q.0 y) _ (MakesOne q.0 a.breaks a.continues (stmt_nodes y)) _ (stmt_good a q.0 y w.1.1 f.good.scene) (λ p k.
      of_value _ _ (record {
        good = good_twice 0 (stmt_nodes x + stmt_nodes y) (1 + (expr_nodes e + (stmt_nodes x + stmt_nodes y))) s r.0 p.0 g.good (good_twice (stmt_nodes x) (stmt_nodes y) (stmt_nodes x + stmt_nodes y) r.0 q.0 p.0 f.good k.good (omega arith)) (omega arith);
        made = (expr_nodes e, stmt_nodes x, stmt_nodes y, meaning_later (stmt_nodes y) q.0 p.0 k.good.later 1 (expr_nodes e) r.1 (meaning_later (stmt_nodes x) r.0 q.0 f.good.later 1 (expr_nodes e) r.1 g.meaning), made_later (stmt_nodes y) q.0 p.0 k.good.later a.breaks a.continues (stmt_nodes x) q.1 f.made, k.made, omega arith, omega arith, omega arith);
      }))))
  stmt_good a s (while_stmt at e x) w h =
      of_then (condition_judged s e) _ (MakesValue s (expr_nodes e)) _ (condition_good s e w.0 h) (λ r g.
      of_then (stmt_judged (in_loop a) r.0 x) _ (MakesOne r.0 true true (stmt_nodes x)) _ (stmt_good (in_loop a) r.0 x w.1 g.good.scene) (λ q f.
      of_value _ _ (record {
        good = good_twice 0 (stmt_nodes x) (1 + (expr_nodes e + stmt_nodes x)) s r.0 q.0 g.good f.good (omega arith);
        made = (expr_nodes e, stmt_nodes x, meaning_later (stmt_nodes x) r.0 q.0 f.good.later 1 (expr_nodes e) r.1 g.meaning, f.made, omega arith);
      })))
  stmt_good a s (do_stmt at x e) w h =
      of_then (stmt_judged (in_loop a) s x) _ (MakesOne s true true (stmt_nodes x)) _ (stmt_good (in_loop a) s x w.0 h) (λ q f.
      of_then (condition_judged q.0 e) _ (MakesValue q.0 (expr_nodes e)) _ (condition_good q.0 e w.1 f.good.scene) (λ r g.
      of_value _ _ (record {
        good = good_twice (stmt_nodes x) 0 (1 + (stmt_nodes x + expr_nodes e)) s q.0 r.0 f.good g.good (omega arith);
        made = (expr_nodes e, stmt_nodes x, g.meaning, made_later 0 q.0 r.0 g.good.later true true (stmt_nodes x) q.1 f.made, omega arith);
      })))
  stmt_good a s (for_stmt at f c u x) w h =
      (let o = opened_good s h in
      of_then (first_judged (opened s) f) _ (MakesFirst (opened s) a.breaks a.continues (first_nodes f)) _ (first_good (opened s) a.breaks a.continues f w.0 o.scene) (λ p g1.
      of_then (optional_condition p.0 c) _ (MakesCondition p.0 (optional_nodes c)) _ (optional_condition_good p.0 c w.1.0 g1.good.scene) (λ q g2.
      of_then (optional_effect q.0 u) _ (MakesEffect q.0 (optional_nodes u)) _ (optional_effect_good q.0 u w.1.1.0 g2.good.scene) (λ r g3.
      of_then (stmt_judged (in_loop a) r.0 x) _ (MakesOne r.0 true true (stmt_nodes x)) _ (stmt_good (in_loop a) r.0 x w.1.1.1 g3.good.scene) (λ z g4.
      (let e = closed_good z.0 g4.good.scene in
      let l34 = good_twice (stmt_nodes x) 0 (stmt_nodes x) r.0 z.0 (closed z.0) g4.good e (omega arith) in
      let l24 = good_twice 0 (stmt_nodes x) (stmt_nodes x) q.0 r.0 (closed z.0) g3.good l34 (omega arith) in
      let l14 = good_twice 0 (stmt_nodes x) (stmt_nodes x) p.0 q.0 (closed z.0) g2.good l24 (omega arith) in
      of_value _ _ (record {
        good = good_twice 0 (first_nodes f + stmt_nodes x) (1 + (first_nodes f + (optional_nodes c + (optional_nodes u + stmt_nodes x)))) s (opened s) (closed z.0) o (good_twice (first_nodes f) (stmt_nodes x) (first_nodes f + stmt_nodes x) (opened s) p.0 (closed z.0) g1.good l14 (omega arith)) (omega arith);
        made = (
          first_nodes f,
          optional_nodes c,
          optional_nodes u,
          stmt_nodes x,
          first_later (stmt_nodes x) p.0 (closed z.0) l14.later a.breaks a.continues (first_nodes f) p.1 g1.made,
          condition_later (stmt_nodes x) q.0 (closed z.0) l24.later (optional_nodes c) q.1 g2.condition,
          effect_later (stmt_nodes x) r.0 (closed z.0) l34.later (optional_nodes u) r.1 g3.made,
          made_later 0 z.0 (closed z.0) e.later true true (stmt_nodes x) z.1 g4.made,
          omega arith,
        );
      })))))))
  stmt_good a s (switch_stmt at e gs) w h =
      of_then (selector_judged s e) _ (MakesValue s (expr_nodes e)) _ (selector_good s e w.0 h) (λ r g.
      (let o = opened_good r.0 g.good.scene in
      of_then (groups_judged (in_switch a) (opened r.0) no_labels gs) _ (MakesGroups (opened r.0) no_labels a.continues (groups_nodes gs)) _ (groups_good (in_switch a) (opened r.0) no_labels gs w.1 o.scene (omega arith) refl) (λ q f.
      (let c = closed_good q.0 f.good.scene in
      let l = good_twice 0 (groups_nodes gs) (groups_nodes gs) r.0 (opened r.0) (closed q.0) o (good_twice (groups_nodes gs) 0 (groups_nodes gs) (opened r.0) q.0 (closed q.0) f.good c (omega arith)) (omega arith) in
      of_value _ _ (record {
        good = good_twice 0 (groups_nodes gs) (1 + (expr_nodes e + groups_nodes gs)) s r.0 (closed q.0) g.good l (omega arith);
        made = (expr_nodes e, groups_nodes gs, meaning_later (groups_nodes gs) r.0 (closed q.0) l.later 1 (expr_nodes e) r.1 g.meaning, groups_later 0 q.0 (closed q.0) c.later a.continues (groups_nodes gs) q.1 f.made, f.distinct tt, (let d : group_defaults q.1 + one_if false ≤ 1 = f.defaults in omega arith), omega arith);
      })))))
  stmt_good a s (jump_stmt at j) w h = of_then (jump_judged a j at) _ (IsMade s a.breaks a.continues 1) _ (jump_good s a j at) (λ m g. of_value _ _ (record { good = good_more 0 1 s s (good_none s h) (omega arith); made = g }))
  stmt_good a s (return_stmt at e) w h = return_good s a.breaks a.continues at a.result e w h

  pub items_good : (a : Around) (s : Scene) (is : ItemTrees) → AreItems is → IsScene s → Holds (items_judged a s is) (MakesList s a.breaks a.continues (items_nodes is) (items_nodes is))
  items_good a s no_item_trees w h = of_value _ _ (record { good = good_none s h; made = tt })
  items_good a s (decl_item d is) w h =
      of_then (decl_judged s d) _ (MakesList s a.breaks a.continues (local_nodes d) (local_nodes d)) _ (decl_good s a.breaks a.continues d w.0 h) (λ r g.
      of_then (items_judged a r.0 is) _ (MakesList r.0 a.breaks a.continues (items_nodes is) (items_nodes is)) _ (items_good a r.0 is w.1 g.good.scene) (λ q f.
      of_value _ _ (record {
        good = good_twice (local_nodes d) (items_nodes is) (local_nodes d + items_nodes is) s r.0 q.0 g.good f.good (omega arith);
        made = joined_made q.0 a.breaks a.continues (local_nodes d) (items_nodes is) r.1 q.1 (list_later (items_nodes is) r.0 q.0 f.good.later a.breaks a.continues (local_nodes d) r.1 g.made) f.made;
      })))
  items_good a s (stmt_item x is) w h =
      of_then (stmt_judged a s x) _ (MakesOne s a.breaks a.continues (stmt_nodes x)) _ (stmt_good a s x w.0 h) (λ r g.
      of_then (items_judged a r.0 is) _ (MakesList r.0 a.breaks a.continues (items_nodes is) (items_nodes is)) _ (items_good a r.0 is w.1 g.good.scene) (λ q f.
      of_value _ _ (record {
        good = good_twice (stmt_nodes x) (items_nodes is) (stmt_nodes x + items_nodes is) s r.0 q.0 g.good f.good (omega arith);
        made = (stmt_nodes x, items_nodes is, made_later (items_nodes is) r.0 q.0 f.good.later a.breaks a.continues (stmt_nodes x) r.1 g.made, f.made, omega arith);
      })))

  pub groups_good : (a : Around) (s : Scene) (l : Labels) (gs : GroupTrees) → AreGroups gs → IsScene s → one_if l.has_default ≤ 1 → a.breaks ≡ true → Holds (groups_judged a s l gs) (MakesGroups s l a.continues (groups_nodes gs))
  groups_good a s l no_group_trees w h d z = of_value _ _ (record { good = good_none s h; made = tt; distinct = λ e. subst AreDistinct (append_none l.seen) e; defaults = omega arith })
  groups_good a s l (group_trees ls is gs) w h d z =
      of_then (labels_judged s (new_group l) ls) _ (AddsLabels s (new_group l) (labels_nodes ls)) _ (all_labels s (new_group l) ls w.0 h) (λ r g.
      of_then (items_judged a r.0 is) _ (MakesList r.0 a.breaks a.continues (items_nodes is) (items_nodes is)) _ (items_good a r.0 is w.1.0 g.good.scene) (λ q f.
      of_then (groups_judged a q.0 r.1 gs) _ (MakesGroups q.0 r.1 a.continues (groups_nodes gs)) _ (groups_good a q.0 r.1 gs w.1.1 f.good.scene (one_at_most r.1.has_default) z) (λ p k.
      of_value _ _ (record {
        good = good_twice 0 (items_nodes is + groups_nodes gs) (labels_nodes ls + (items_nodes is + groups_nodes gs)) s r.0 p.0 g.good (good_twice (items_nodes is) (groups_nodes gs) (items_nodes is + groups_nodes gs) r.0 q.0 p.0 f.good k.good (omega arith)) (omega arith);
        made = (items_nodes is, groups_nodes gs, subst (λ b. AreMade p.0 b a.continues (items_nodes is) q.1) z (list_later (groups_nodes gs) q.0 p.0 k.good.later a.breaks a.continues (items_nodes is) q.1 f.made), k.made, (let e : length r.1.numbers ≡ length g.new = ap length g.numbers in let m : length g.new ≤ labels_nodes ls = g.few in omega arith));
        distinct = λ e. subst AreDistinct (ap (λ x. x ++ group_numbers p.1) g.seen ∙ append_assoc l.seen g.new (group_numbers p.1) ∙ ap (λ x. l.seen ++ (x ++ group_numbers p.1)) (sym g.numbers)) (k.distinct (g.distinct e));
        defaults = (let b : one_if r.1.is_default + one_if l.has_default ≤ one_if r.1.has_default + 0 = g.defaults in let c : group_defaults p.1 + one_if r.1.has_default ≤ 1 = k.defaults in omega arith);
      }))))
