-- One statement more behind those that are made, and one group more of a switch.
use Rattle.std.proofs.Common.{◌≡◌, ℕ, zero, suc, ◌+◌, ◌<◌, ◌≤◌, Bool, List, [], ◌∷◌, ◌++◌, length, map, drop, get_or, refl, sym, ap, ◌∙◌, arith}
use Rattle.std.proofs.Math.Seq.{drop-cons}
use Rattle.std.specs.declared.alloc.Global.{Global}
use Rattle.std.specs.declared.rc.Rc.{Rc}
use Rattle.clight_lang.specs.declared.statement.Stmt.{Stmt}
use Rattle.clight_lang.specs.declared.statement.Group.{Group}
use Rattle.clight_lang.specs.Syntax.{Statements, Cons, GroupOf, group_of}
use Rattle.clight_typing.specs.Statements.{MadeGroups, AndGroup}
use Rattle.clight_made.specs.declared.made.Made.{Made}
use Rattle.clight_made.specs.declared.made.MadeGroup.{MadeGroup}
use Rattle.clight_made.specs.MadeOf.{made_of, made_list, made_groups}
use Rattle.clight_placing.specs.Placing.{Inner, both, count_statements, GroupsMeant, meant, all_meant, groups_meant}
use Rattle.clight_placing.specs.Listed.{listed, shared_of, onto_statements, onto_groups}
use Rattle.clight_placing.proofs.Joined.{both_nil, both_both, pushed_onto, count_listed, count_both}

-- ## Lists from a place on

at_front : {A : Type 0} (list : List A) (i : ℕ) (x : A) → i < length list → x ≡ get_or list i x → drop i list ≡ x ∷ drop (i + 1) list
at_front list i x within is =
    let next : suc i ≡ i + 1 = omega arith in
    drop-cons list i x within ∙ ap (λ y. y ∷ drop (suc i) list) (sym is) ∙ ap (λ k. x ∷ drop k list) next

past_end : {A : Type 0} (list : List A) (i : ℕ) → length list ≤ i → drop i list ≡ []
past_end [] zero h = refl
past_end [] (suc i) h = refl
past_end (x ∷ xs) zero h = absurd (omega arith)
past_end (x ∷ xs) (suc i) h = past_end xs i (omega arith)

-- ## Statements

-- a statement behind those that are made
pub statement_next : (w : Inner) (n after : ℕ) (made new : List (Rc Stmt Global)) (s : Rc Stmt Global) (list : List Made) (i : ℕ) (x : Made) (all : Statements × ℕ) → i < length list → x ≡ get_or list i x
    → (shared_of s, after) ≡ meant w n (made_of x) → new ≡ made ++ s ∷ [] → onto_statements (map shared_of made) (all_meant w n (made_list (drop i list))) ≡ all
    → onto_statements (map shared_of new) (all_meant w after (made_list (drop (i + 1) list))) ≡ all
statement_next w n after made new s list i x all within is step grown known =
    let rest = drop (i + 1) list in
    ap (λ l. onto_statements (map shared_of l) (all_meant w after (made_list rest))) grown
    ∙ ap (λ (l : Statements). (l, (all_meant w after (made_list rest)).1)) (pushed_onto made s (all_meant w after (made_list rest)).0)
    ∙ ap (λ r. onto_statements (map shared_of made) (Cons r.0 (all_meant w r.1 (made_list rest)).0, (all_meant w r.1 (made_list rest)).1)) step
    ∙ sym (ap (λ l. onto_statements (map shared_of made) (all_meant w n (made_list l))) (at_front list i x within is))
    ∙ known

-- behind the last statement nothing is left
pub statements_end : (w : Inner) (n : ℕ) (made : List (Rc Stmt Global)) (list : List Made) (i : ℕ) (all : Statements × ℕ) → length list ≤ i → onto_statements (map shared_of made) (all_meant w n (made_list (drop i list))) ≡ all
    → (listed (map shared_of made), n) ≡ all
statements_end w n made list i all past known =
    sym (ap (λ (l : Statements). (l, n)) (both_nil (listed (map shared_of made))))
    ∙ sym (ap (λ l. onto_statements (map shared_of made) (all_meant w n (made_list l))) (past_end list i past))
    ∙ known

-- ## Groups

group_pushed : (made : List Group) (g : Group) (l : List GroupOf) → map group_of (made ++ g ∷ []) ++ l ≡ map group_of made ++ group_of g ∷ l
group_pushed [] g l = refl
group_pushed (x ∷ xs) g l = ap (λ r. group_of x ∷ r) (group_pushed xs g l)

append_nil : (l : List GroupOf) → l ++ [] ≡ l
append_nil [] = refl
append_nil (g ∷ l) = ap (λ r. g ∷ r) (append_nil l)

abbrev whole : List GroupOf → Statements → ℕ → GroupsMeant
whole gs ss n = record { groups = gs; statements = ss; next = n }

abbrev grouped : List ℕ → Bool → ℕ → GroupOf
grouped numbers default from = record { numbers = numbers; is_default = default; from = from }

same : (a b : List GroupOf) (c d : Statements) (n : ℕ) → a ≡ b → c ≡ d → whole a c n ≡ whole b d n
same a b c d n e f = ap (λ x. whole x c n) e ∙ ap (λ y. whole b y n) f

longer : (w : Inner) (old new : List (Rc Stmt Global)) (r : Statements × ℕ) (after : ℕ) → (listed (map shared_of new), after) ≡ onto_statements (map shared_of old) r → length new ≡ length old + count_statements r.0
longer w old new r after h = sym (count_listed new) ∙ ap (λ q. count_statements q.0) h ∙ count_both (listed (map shared_of old)) r.0 ∙ ap (λ k. k + count_statements r.0) (count_listed old)

group_more : (w : Inner) (n after : ℕ) (made : List Group) (g : Group) (old new : List (Rc Stmt Global)) (x : MadeGroup) (rest : MadeGroups) → group_of g ≡ record { numbers = x.numbers.items; is_default = x.is_default; from = length old }
    → (listed (map shared_of new), after) ≡ onto_statements (map shared_of old) (all_meant w n (made_list x.statements.items))
    → onto_groups (map group_of (made ++ g ∷ [])) (map shared_of new) (groups_meant w after (length new) rest) ≡ onto_groups (map group_of made) (map shared_of old) (groups_meant w n (length old) (AndGroup x.numbers.items x.is_default (made_list x.statements.items) rest))
group_more w n after made g old new x rest is step =
    let r = all_meant w n (made_list x.statements.items) in
    let l = groups_meant w r.1 (length old + count_statements r.0) rest in
    ap (λ q. onto_groups (map group_of (made ++ g ∷ [])) (map shared_of new) (groups_meant w q (length new) rest)) (ap (λ q. q.1) step)
    ∙ ap (λ k. onto_groups (map group_of (made ++ g ∷ [])) (map shared_of new) (groups_meant w r.1 k rest)) (longer w old new r after step)
    ∙ same _ _ _ _ _ (group_pushed made g l.groups ∙ ap (λ y. map group_of made ++ y ∷ l.groups) is) (ap (λ q. both q.0 l.statements) step ∙ both_both (listed (map shared_of old)) r.0 l.statements)

same_group : (a b : List ℕ) (c d : Bool) (n m : ℕ) → a ≡ b → c ≡ d → n ≡ m → grouped a c n ≡ grouped b d m
same_group a b c d n m e f g = ap (λ x. grouped x c n) e ∙ ap (λ x. grouped b x n) f ∙ ap (λ x. grouped b d x) g

-- a group behind those that are made
pub group_next : (w : Inner) (n after : ℕ) (made grown : List Group) (g : Group) (old new : List (Rc Stmt Global)) (list : List MadeGroup) (i : ℕ) (x : MadeGroup) (all : GroupsMeant) → i < length list → x ≡ get_or list i x
    → g.numbers.items ≡ x.numbers.items → g.is_default ≡ x.is_default → g.from ≡ length old
    → (listed (map shared_of new), after) ≡ onto_statements (map shared_of old) (all_meant w n (made_list x.statements.items)) → grown ≡ made ++ g ∷ []
    → onto_groups (map group_of made) (map shared_of old) (groups_meant w n (length old) (made_groups (drop i list))) ≡ all
    → onto_groups (map group_of grown) (map shared_of new) (groups_meant w after (length new) (made_groups (drop (i + 1) list))) ≡ all
group_next w n after made grown g old new list i x all within is numbers default from step pushed known =
    ap (λ l. onto_groups (map group_of l) (map shared_of new) (groups_meant w after (length new) (made_groups (drop (i + 1) list)))) pushed
    ∙ group_more w n after made g old new x (made_groups (drop (i + 1) list)) (same_group _ _ _ _ _ _ numbers default from) step
    ∙ sym (ap (λ l. onto_groups (map group_of made) (map shared_of old) (groups_meant w n (length old) (made_groups l))) (at_front list i x within is))
    ∙ known

-- behind the last group nothing is left
pub groups_end : (w : Inner) (n from : ℕ) (made : List Group) (statements : List (Rc Stmt Global)) (list : List MadeGroup) (i : ℕ) (all : GroupsMeant) → length list ≤ i
    → onto_groups (map group_of made) (map shared_of statements) (groups_meant w n from (made_groups (drop i list))) ≡ all
    → whole (map group_of made) (listed (map shared_of statements)) n ≡ all
groups_end w n from made statements list i all past known =
    sym (same _ _ _ _ _ (append_nil (map group_of made)) (both_nil (listed (map shared_of statements))))
    ∙ sym (ap (λ l. onto_groups (map group_of made) (map shared_of statements) (groups_meant w n from (made_groups l))) (past_end list i past))
    ∙ known
