-- What is judged behind what has been made before, and the faults and the values of parts that are judged one behind another.
use Rattle.std.proofs.Common.{◌≡◌, ℕ, zero, suc, ◌≤◌, List, [], ◌∷◌, length, drop, refl, sym, ap, ◌∙◌, arith}
use Rattle.std.proofs.Math.Seq.{drop-nil}
use Rattle.clight_types.specs.declared.rule.Refusal.{Refusal}
use Rattle.clight_types.specs.Judged.{Judged, value, fault, and_then}
use Rattle.clight_scopes.specs.Scopes.{Scene}
use Rattle.clight_typing.specs.Statements.{MadeList, NoMade, AndMade, MadeGroups, NoGroups, AndGroup, Labels, joined}
use Rattle.clight_expressions.proofs.Stops.{Stops, stops_on}
use Rattle.clight_statements.specs.StatementsOf.{behind, groups_joined, groups_behind}
use Rattle.clight_statements.proofs.Joined.{joined_twice, groups_joined_twice}

-- ## Parts one behind another

-- what goes on behind a part without faults
pub then_on : {A B : Type 0} (j : Judged A) (a : A) (next : A → Judged B) → j ≡ value a → and_then j next ≡ next a
then_on j a next h = ap (λ i. and_then i next) h

-- the fault of the second part is the first one of all where the first part has none, and so on
pub stops_second : {A B E : Type 0} (all : Judged B) (i : Judged E) (a : E) (j : E → Judged A) (next : E → A → Judged B) (e : Refusal) → all ≡ and_then i (λ r. and_then (j r) (next r)) → i ≡ value a → Stops (j a) e → Stops all e
stops_second all i a j next e front h p = stops_on all (j a) (next a) e (front ∙ then_on i a (λ r. and_then (j r) (next r)) h) p

pub stops_third : {A B E F : Type 0} (all : Judged B) (k : Judged F) (b : F) (i : F → Judged E) (a : E) (j : F → E → Judged A) (next : F → E → A → Judged B) (e : Refusal) → all ≡ and_then k (λ r. and_then (i r) (λ q. and_then (j r q) (next r q))) → k ≡ value b → i b ≡ value a → Stops (j b a) e → Stops all e
stops_third all k b i a j next e front g h p = stops_second all (i b) a (j b) (next b) e (front ∙ then_on k b (λ r. and_then (i r) (λ q. and_then (j r q) (next r q))) g) h p

-- what is made where no part has a fault
pub one_value : {A B : Type 0} (all w : Judged B) (i : Judged A) (a : A) (next : A → Judged B) → all ≡ and_then i next → i ≡ value a → next a ≡ w → all ≡ w
one_value all w i a next front h last = front ∙ then_on i a next h ∙ last

pub two_values : {A B C : Type 0} (all w : Judged B) (i : Judged A) (a : A) (j : A → Judged C) (c : C) (next : A → C → Judged B) → all ≡ and_then i (λ r. and_then (j r) (next r)) → i ≡ value a → j a ≡ value c → next a c ≡ w → all ≡ w
two_values all w i a j c next front h g last = one_value all w (j a) c (next a) (front ∙ then_on i a (λ r. and_then (j r) (next r)) h) g last

pub three_values : {A B C D : Type 0} (all w : Judged B) (k : Judged D) (d : D) (i : D → Judged A) (a : A) (j : D → A → Judged C) (c : C) (next : D → A → C → Judged B) → all ≡ and_then k (λ r. and_then (i r) (λ q. and_then (j r q) (next r q))) → k ≡ value d → i d ≡ value a → j d a ≡ value c → next d a c ≡ w → all ≡ w
three_values all w k d i a j c next front f h g last = two_values all w (i d) a (j d) c (next d) (front ∙ then_on k d (λ r. and_then (i r) (λ q. and_then (j r q) (next r q))) f) h g last

abbrev pub made_at : {A : Type 0} → Scene → A → Judged (Scene × A)
made_at s m = value (s, m)

pub same_value : {A : Type 0} (s t : Scene) (m n : A) → s ≡ t → m ≡ n → made_at s m ≡ made_at t n
same_value s t m n p q = ap (λ x. made_at x m) p ∙ ap (made_at t) q

-- ## Lists of statements

pub behind_none : (j : Judged (Scene × MadeList)) → behind NoMade j ≡ j
behind_none (value q) = refl
behind_none (fault r at j) = ap (fault r at) (behind_none j)

behind_twice : (made more : MadeList) (j : Judged (Scene × MadeList)) → behind made (behind more j) ≡ behind (joined made more) j
behind_twice made more (value q) = ap (λ (l : MadeList). value (q.0, l)) (sym (joined_twice made more q.1))
behind_twice made more (fault r at j) = ap (fault r at) (behind_twice made more j)

-- one part and then the others
pub behind_next : (made : MadeList) (j : Judged (Scene × MadeList)) (rest : Scene → Judged (Scene × MadeList)) → behind made (and_then j (λ r. behind r.1 (rest r.0))) ≡ and_then (behind made j) (λ r. behind r.1 (rest r.0))
behind_next made (value r) rest = behind_twice made r.1 (rest r.0)
behind_next made (fault r at j) rest = ap (fault r at) (behind_next made j rest)

-- ## Groups of a `switch`

pub groups_behind_none : (j : Judged (Scene × MadeGroups)) → groups_behind NoGroups j ≡ j
groups_behind_none (value q) = refl
groups_behind_none (fault r at j) = ap (fault r at) (groups_behind_none j)

group_onto : (made : MadeGroups) (ns : List ℕ) (d : _) (ms : MadeList) (j : Judged (Scene × MadeGroups)) → groups_behind made (and_then j (λ p. value (p.0, AndGroup ns d ms p.1))) ≡ groups_behind (groups_joined made (AndGroup ns d ms NoGroups)) j
group_onto made ns d ms (value p) = ap (λ (l : MadeGroups). value (p.0, l)) (sym (groups_joined_twice made (AndGroup ns d ms NoGroups) p.1))
group_onto made ns d ms (fault r at j) = ap (fault r at) (group_onto made ns d ms j)

items_onto : (made : MadeGroups) (l : Labels) (j : Judged (Scene × MadeList)) (rest : Scene → Judged (Scene × MadeGroups)) → groups_behind made (and_then j (λ q. and_then (rest q.0) (λ p. value (p.0, AndGroup l.numbers l.is_default q.1 p.1)))) ≡ and_then j (λ q. groups_behind (groups_joined made (AndGroup l.numbers l.is_default q.1 NoGroups)) (rest q.0))
items_onto made l (value q) rest = group_onto made l.numbers l.is_default q.1 (rest q.0)
items_onto made l (fault r at j) rest = ap (fault r at) (items_onto made l j rest)

-- one group and then the others
pub groups_behind_next : (made : MadeGroups) (j : Judged (Scene × Labels)) (items : Scene → Judged (Scene × MadeList)) (rest : Scene → Labels → Judged (Scene × MadeGroups)) → groups_behind made (and_then j (λ r. and_then (items r.0) (λ q. and_then (rest q.0 r.1) (λ p. value (p.0, AndGroup r.1.numbers r.1.is_default q.1 p.1))))) ≡ and_then j (λ r. and_then (items r.0) (λ q. groups_behind (groups_joined made (AndGroup r.1.numbers r.1.is_default q.1 NoGroups)) (rest q.0 r.1)))
groups_behind_next made (value r) items rest = items_onto made r.1 (items r.0) (λ q. rest q r.1)
groups_behind_next made (fault r at j) items rest = ap (fault r at) (groups_behind_next made j items rest)

-- ## The end of a list

pub past_end : {A : Type 0} (list : List A) (i : ℕ) → length list ≤ i → drop i list ≡ []
past_end [] i h = drop-nil i
past_end (x ∷ xs) zero h = absurd (omega arith)
past_end (x ∷ xs) (suc i) h = past_end xs i (omega arith)
