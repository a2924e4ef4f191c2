-- The loops over locals, labels, items and groups: what stands behind one element more, and behind the last one.
use Rattle.std.proofs.Common.{◌≡◌, ℕ, ◌+◌, ◌<◌, ◌≤◌, Bool, false, List, [], ◌∷◌, ◌++◌, length, get_or, drop, refl, sym, ap, ◌∙◌}
use Rattle.c_tree.specs.Trees.{LabelTree, GroupTrees}
use Rattle.c_tree.specs.Shape.{declarator_of}
use Rattle.c_tree.specs.FileShape.{initializer_of, init_declarators_of, label_of, labels_of as label_trees, items_of, groups_of}
use Rattle.c_tree.specs.declared.file.InitDeclarator.{InitDeclarator}
use Rattle.c_tree.specs.declared.stmt.Label.{Label}
use Rattle.c_tree.specs.declared.stmt.Item.{Item}
use Rattle.c_tree.specs.declared.stmt.Group.{Group}
use Rattle.clight_types.specs.declared.rule.Refusal.{Refusal}
use Rattle.clight_types.specs.Judged.{Judged, value, and_then}
use Rattle.clight_scopes.specs.Scopes.{Scene}
use Rattle.clight_typing.specs.Statements.{MadeList, NoMade, MadeGroups, NoGroups, AndGroup, Around, Labels, joined, local_declared, locals_declared, label_judged, labels_judged, new_group, items_judged, groups_judged}
use Rattle.clight_expressions.proofs.Rest.{at_front}
use Rattle.clight_expressions.proofs.Stops.{Stops, stops_on, stops_as}
use Rattle.clight_made.specs.declared.made.Made.{Made}
use Rattle.clight_made.specs.declared.made.MadeGroup.{MadeGroup}
use Rattle.clight_made.specs.MadeOf.{made_list, made_groups}
use Rattle.clight_statements.specs.StatementsOf.{maybe_made, behind, groups_joined, groups_behind, item_judged}
use Rattle.clight_statements.proofs.Joined.{joined_none, group_more, groups_joined_none}
use Rattle.clight_statements.proofs.Behind.{then_on, stops_second, behind_none, behind_next, groups_behind_none, groups_behind_next, past_end}
use Rattle.clight_statements.proofs.Fronts.{item_front, group_front}

-- before the first element
pub list_first : (made : List Made) (j : Judged (Scene × MadeList)) → made ≡ [] → behind (made_list made) j ≡ j
list_first made j none = ap (λ l. behind (made_list l) j) none ∙ behind_none j

pub groups_first : (a : Around) (s : Scene) (l m : Labels) (made : List MadeGroup) (gs : GroupTrees) → made ≡ [] → l ≡ m → groups_behind (made_groups made) (groups_judged a s l gs) ≡ groups_judged a s m gs
groups_first a s l m made gs none same = ap (λ g. groups_behind (made_groups g) (groups_judged a s l gs)) none ∙ groups_behind_none (groups_judged a s l gs) ∙ ap (λ k. groups_judged a s k gs) same

pub labels_first : (s : Scene) (seen : List ℕ) (numbers : List ℕ) (had : Bool) (list : List LabelTree) → numbers ≡ [] → labels_judged s (record { seen = seen; numbers = numbers; has_default = had; is_default = false }) list ≡ labels_judged s (record { seen = seen; numbers = []; has_default = had; is_default = false }) list
labels_first s seen numbers had list none = ap (λ (n : List ℕ). labels_judged s (record { seen = seen; numbers = n; has_default = had; is_default = false }) list) none

-- ## Locals

-- the next local and then the others
pub locals_at : (s : Scene) (at base : ℕ) (made : MadeList) (list : List InitDeclarator) (i : ℕ) (x : InitDeclarator) → i < length list → x ≡ get_or list i x
    → behind made (locals_declared s at base (init_declarators_of (drop i list))) ≡ and_then (behind made (local_declared s at base (declarator_of x.declarator) (initializer_of x.initializer))) (λ r. behind r.1 (locals_declared r.0 at base (init_declarators_of (drop (i + 1) list))))
locals_at s at base made list i x within is =
    ap (λ xs. behind made (locals_declared s at base (init_declarators_of xs))) (at_front list i x within is)
    ∙ behind_next made (local_declared s at base (declarator_of x.declarator) (initializer_of x.initializer)) (λ q. locals_declared q at base (init_declarators_of (drop (i + 1) list)))

pub locals_stop : (s : Scene) (at base : ℕ) (made : MadeList) (list : List InitDeclarator) (i : ℕ) (x : InitDeclarator) (e : Refusal) (all : Judged (Scene × MadeList)) → i < length list → x ≡ get_or list i x → Stops (local_declared s at base (declarator_of x.declarator) (initializer_of x.initializer)) e → behind made (locals_declared s at base (init_declarators_of (drop i list))) ≡ all → Stops all e
locals_stop s at base made list i x e all within is h known =
    stops_on all (behind made (local_declared s at base (declarator_of x.declarator) (initializer_of x.initializer))) (λ r. behind r.1 (locals_declared r.0 at base (init_declarators_of (drop (i + 1) list)))) e
    (sym known ∙ locals_at s at base made list i x within is)
    (stops_on (behind made (local_declared s at base (declarator_of x.declarator) (initializer_of x.initializer))) (local_declared s at base (declarator_of x.declarator) (initializer_of x.initializer)) (λ q. value (q.0, joined made q.1)) e refl h)

pub locals_next : (s t : Scene) (at base : ℕ) (made new : MadeList) (m : MadeList) (list : List InitDeclarator) (i : ℕ) (x : InitDeclarator) (all : Judged (Scene × MadeList)) → i < length list → x ≡ get_or list i x → local_declared s at base (declarator_of x.declarator) (initializer_of x.initializer) ≡ value (t, m) → new ≡ joined made m → behind made (locals_declared s at base (init_declarators_of (drop i list))) ≡ all → behind new (locals_declared t at base (init_declarators_of (drop (i + 1) list))) ≡ all
locals_next s t at base made new m list i x all within is step grown known =
    ap (λ l. behind l (locals_declared t at base (init_declarators_of (drop (i + 1) list)))) grown
    ∙ sym (ap (λ j. and_then (behind made j) (λ r. behind r.1 (locals_declared r.0 at base (init_declarators_of (drop (i + 1) list))))) step)
    ∙ sym (locals_at s at base made list i x within is)
    ∙ known

pub locals_end : (s : Scene) (at base : ℕ) (made : MadeList) (list : List InitDeclarator) (i : ℕ) (all : Judged (Scene × MadeList)) → length list ≤ i → behind made (locals_declared s at base (init_declarators_of (drop i list))) ≡ all → all ≡ value (s, made)
locals_end s at base made list i all past known =
    sym known
    ∙ ap (λ xs. behind made (locals_declared s at base (init_declarators_of xs))) (past_end list i past)
    ∙ ap (λ (l : MadeList). value (s, l)) (joined_none made)

-- ## Labels

pub labels_at : (s : Scene) (l : Labels) (list : List Label) (i : ℕ) (x : Label) → i < length list → x ≡ get_or list i x
    → labels_judged s l (label_trees (drop i list)) ≡ and_then (label_judged s l (label_of x)) (λ r. labels_judged r.0 r.1 (label_trees (drop (i + 1) list)))
labels_at s l list i x within is = ap (λ xs. labels_judged s l (label_trees xs)) (at_front list i x within is)

pub labels_stop : (s : Scene) (l : Labels) (list : List Label) (i : ℕ) (x : Label) (e : Refusal) (all : Judged (Scene × Labels)) → i < length list → x ≡ get_or list i x → Stops (label_judged s l (label_of x)) e → labels_judged s l (label_trees (drop i list)) ≡ all → Stops all e
labels_stop s l list i x e all within is h known =
    stops_on all (label_judged s l (label_of x)) (λ r. labels_judged r.0 r.1 (label_trees (drop (i + 1) list))) e (sym known ∙ labels_at s l list i x within is) h

pub labels_next : (s t : Scene) (l m : Labels) (list : List Label) (i : ℕ) (x : Label) (all : Judged (Scene × Labels)) → i < length list → x ≡ get_or list i x → label_judged s l (label_of x) ≡ value (t, m) → labels_judged s l (label_trees (drop i list)) ≡ all → labels_judged t m (label_trees (drop (i + 1) list)) ≡ all
labels_next s t l m list i x all within is step known =
    sym (labels_at s l list i x within is ∙ then_on (label_judged s l (label_of x)) (t, m) (λ r. labels_judged r.0 r.1 (label_trees (drop (i + 1) list))) step)
    ∙ known

pub labels_end : (s : Scene) (l : Labels) (list : List Label) (i : ℕ) (all : Judged (Scene × Labels)) → length list ≤ i → labels_judged s l (label_trees (drop i list)) ≡ all → all ≡ value (s, l)
labels_end s l list i all past known = sym known ∙ ap (λ xs. labels_judged s l (label_trees xs)) (past_end list i past)

-- ## Items

pub items_at : (a : Around) (s : Scene) (made : MadeList) (list : List Item) (i : ℕ) (x : Item) → i < length list → x ≡ get_or list i x
    → behind made (items_judged a s (items_of (drop i list))) ≡ and_then (behind made (item_judged a s x)) (λ r. behind r.1 (items_judged a r.0 (items_of (drop (i + 1) list))))
items_at a s made list i x within is =
    ap (λ xs. behind made (items_judged a s (items_of xs))) (at_front list i x within is)
    ∙ ap (behind made) (item_front a s x (items_of (drop (i + 1) list)))
    ∙ behind_next made (item_judged a s x) (λ q. items_judged a q (items_of (drop (i + 1) list)))

pub items_stop : (a : Around) (s : Scene) (made : MadeList) (list : List Item) (i : ℕ) (x : Item) (e : Refusal) (all : Judged (Scene × MadeList)) → i < length list → x ≡ get_or list i x → Stops (behind made (item_judged a s x)) e → behind made (items_judged a s (items_of (drop i list))) ≡ all → Stops all e
items_stop a s made list i x e all within is h known =
    stops_on all (behind made (item_judged a s x)) (λ r. behind r.1 (items_judged a r.0 (items_of (drop (i + 1) list)))) e (sym known ∙ items_at a s made list i x within is) h

pub items_next : (a : Around) (s t : Scene) (made new : MadeList) (list : List Item) (i : ℕ) (x : Item) (all : Judged (Scene × MadeList)) → i < length list → x ≡ get_or list i x → behind made (item_judged a s x) ≡ value (t, new) → behind made (items_judged a s (items_of (drop i list))) ≡ all → behind new (items_judged a t (items_of (drop (i + 1) list))) ≡ all
items_next a s t made new list i x all within is step known =
    sym (items_at a s made list i x within is ∙ then_on (behind made (item_judged a s x)) (t, new) (λ r. behind r.1 (items_judged a r.0 (items_of (drop (i + 1) list)))) step)
    ∙ known

pub items_end : (a : Around) (s : Scene) (made : MadeList) (list : List Item) (i : ℕ) (all : Judged (Scene × MadeList)) → length list ≤ i → behind made (items_judged a s (items_of (drop i list))) ≡ all → all ≡ value (s, made)
items_end a s made list i all past known =
    sym known
    ∙ ap (λ xs. behind made (items_judged a s (items_of xs))) (past_end list i past)
    ∙ ap (λ (l : MadeList). value (s, l)) (joined_none made)

-- ## Groups

pub groups_at : (a : Around) (s : Scene) (l : Labels) (made : MadeGroups) (list : List Group) (i : ℕ) (x : Group) → i < length list → x ≡ get_or list i x
    → groups_behind made (groups_judged a s l (groups_of (drop i list))) ≡ and_then (labels_judged s (new_group l) (label_trees x.labels.items)) (λ r. and_then (items_judged a r.0 (items_of x.items.items)) (λ q. groups_behind (groups_joined made (AndGroup r.1.numbers r.1.is_default q.1 NoGroups)) (groups_judged a q.0 r.1 (groups_of (drop (i + 1) list)))))
groups_at a s l made list i x within is =
    ap (λ xs. groups_behind made (groups_judged a s l (groups_of xs))) (at_front list i x within is)
    ∙ groups_behind_next made (labels_judged s (new_group l) (label_trees x.labels.items)) (λ q. items_judged a q (items_of x.items.items)) (λ q k. groups_judged a q k (groups_of (drop (i + 1) list)))

pub groups_stop_first : (a : Around) (s : Scene) (l : Labels) (made : MadeGroups) (list : List Group) (i : ℕ) (x : Group) (e : Refusal) (all : Judged (Scene × MadeGroups)) → i < length list → x ≡ get_or list i x → new_group l ≡ l → Stops (labels_judged s l (label_trees x.labels.items)) e → groups_behind made (groups_judged a s l (groups_of (drop i list))) ≡ all → Stops all e
groups_stop_first a s l made list i x e all within is begun h known =
    stops_on all (labels_judged s (new_group l) (label_trees x.labels.items)) (λ r. and_then (items_judged a r.0 (items_of x.items.items)) (λ q. groups_behind (groups_joined made (AndGroup r.1.numbers r.1.is_default q.1 NoGroups)) (groups_judged a q.0 r.1 (groups_of (drop (i + 1) list))))) e
    (sym known ∙ groups_at a s l made list i x within is)
    (stops_as (labels_judged s (new_group l) (label_trees x.labels.items)) (labels_judged s l (label_trees x.labels.items)) e (ap (λ k. labels_judged s k (label_trees x.labels.items)) begun) h)

pub groups_stop_second : (a : Around) (s t : Scene) (l m : Labels) (made : MadeGroups) (list : List Group) (i : ℕ) (x : Group) (e : Refusal) (all : Judged (Scene × MadeGroups)) → i < length list → x ≡ get_or list i x → new_group l ≡ l → labels_judged s l (label_trees x.labels.items) ≡ value (t, m) → Stops (items_judged a t (items_of x.items.items)) e → groups_behind made (groups_judged a s l (groups_of (drop i list))) ≡ all → Stops all e
groups_stop_second a s t l m made list i x e all within is begun first h known =
    stops_second all (labels_judged s (new_group l) (label_trees x.labels.items)) (t, m) (λ r. items_judged a r.0 (items_of x.items.items)) (λ r q. groups_behind (groups_joined made (AndGroup r.1.numbers r.1.is_default q.1 NoGroups)) (groups_judged a q.0 r.1 (groups_of (drop (i + 1) list)))) e
    (sym known ∙ groups_at a s l made list i x within is)
    (ap (λ k. labels_judged s k (label_trees x.labels.items)) begun ∙ first) h

pub groups_next : (a : Around) (s t u : Scene) (l m k : Labels) (ms : MadeList) (made new : List MadeGroup) (g : MadeGroup) (list : List Group) (i : ℕ) (x : Group) (all : Judged (Scene × MadeGroups)) → i < length list → x ≡ get_or list i x → new_group l ≡ l → new_group m ≡ new_group k → labels_judged s l (label_trees x.labels.items) ≡ value (t, m) → items_judged a t (items_of x.items.items) ≡ value (u, ms) → g.numbers.items ≡ m.numbers → g.is_default ≡ m.is_default → made_list g.statements.items ≡ ms → new ≡ made ++ g ∷ [] → groups_behind (made_groups made) (groups_judged a s l (groups_of (drop i list))) ≡ all → groups_behind (made_groups new) (groups_judged a u k (groups_of (drop (i + 1) list))) ≡ all
groups_next a s t u l m k ms made new g list i x all within is begun again first second numbers default statements grown known =
    let rest : List Group = drop (i + 1) list in
    ap (λ l. groups_behind (made_groups l) (groups_judged a u k (groups_of rest))) grown
    ∙ ap (λ l. groups_behind l (groups_judged a u k (groups_of rest))) (group_more made g)
    ∙ ap (λ n. groups_behind (groups_joined (made_groups made) (AndGroup n g.is_default (made_list g.statements.items) NoGroups)) (groups_judged a u k (groups_of rest))) numbers
    ∙ ap (λ d. groups_behind (groups_joined (made_groups made) (AndGroup m.numbers d (made_list g.statements.items) NoGroups)) (groups_judged a u k (groups_of rest))) default
    ∙ ap (λ y. groups_behind (groups_joined (made_groups made) (AndGroup m.numbers m.is_default y NoGroups)) (groups_judged a u k (groups_of rest))) statements
    ∙ ap (groups_behind (groups_joined (made_groups made) (AndGroup m.numbers m.is_default ms NoGroups))) (group_front a u k (groups_of rest) ∙ sym (ap (λ z. groups_judged a u z (groups_of rest)) again) ∙ sym (group_front a u m (groups_of rest)))
    ∙ sym (groups_at a s l (made_groups made) list i x within is
    ∙ ap (λ z. and_then (labels_judged s z (label_trees x.labels.items)) (λ r. and_then (items_judged a r.0 (items_of x.items.items)) (λ q. groups_behind (groups_joined (made_groups made) (AndGroup r.1.numbers r.1.is_default q.1 NoGroups)) (groups_judged a q.0 r.1 (groups_of rest))))) begun
    ∙ then_on (labels_judged s l (label_trees x.labels.items)) (t, m) (λ r. and_then (items_judged a r.0 (items_of x.items.items)) (λ q. groups_behind (groups_joined (made_groups made) (AndGroup r.1.numbers r.1.is_default q.1 NoGroups)) (groups_judged a q.0 r.1 (groups_of rest)))) first
    ∙ then_on (items_judged a t (items_of x.items.items)) (u, ms) (λ q. groups_behind (groups_joined (made_groups made) (AndGroup m.numbers m.is_default q.1 NoGroups)) (groups_judged a q.0 m (groups_of rest))) second)
    ∙ known

pub groups_end : (a : Around) (s : Scene) (l : Labels) (made : MadeGroups) (list : List Group) (i : ℕ) (all : Judged (Scene × MadeGroups)) → length list ≤ i → groups_behind made (groups_judged a s l (groups_of (drop i list))) ≡ all → all ≡ value (s, made)
groups_end a s l made list i all past known =
    sym known
    ∙ ap (λ xs. groups_behind made (groups_judged a s l (groups_of xs))) (past_end list i past)
    ∙ ap (λ (g : MadeGroups). value (s, g)) (groups_joined_none made)
