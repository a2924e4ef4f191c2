-- What statements mean names only what is in the program.
use Rattle.std.proofs.Common.{◌≡◌, ℕ, ◌+◌, ◌<◌, ◌≤◌, Bool, true, false, cond, List, [], ◌∷◌, ◌++◌, length, Some, refl, sym, ap, ◌∙◌, subst, arith}
use Rattle.std.specs.Prelude.{slice_get, All, Contains}
use Rattle.std.specs.List.{list_any}
use Rattle.std.proofs.lemmas.List.Sums.{sum_by-cons}
use Rattle.clight_lang.specs.Syntax.{GroupOf, Statements, Nil, Cons}
use Rattle.clight_lang.specs.State.{FunctionOf}
use Rattle.clight_lang.specs.Meaning.{ProgramOf}
use Rattle.clight_lang.specs.WellMade.{expression_weight, expressions_weight, result_weight, numbers_in, statement_weight, statements_weight, expression_height, heights_above, statement_height, statements_height}
use Rattle.clight_types.specs.Types.{Spelling, same_name}
use Rattle.clight_scopes.specs.Scopes.{Scene, find_file}
use Rattle.clight_typing.specs.Statements.{MadeGroups, NoGroups, AndGroup}
use Rattle.clight_placing.specs.Placing.{Location, InTemp, InMemory, Inner, count_statements, both, GroupsMeant, all_meant, groups_meant}
use Rattle.std.specs.Prelude.{AllPairs, ◌≢◌, slice_index_or}
use Rattle.std.proofs.lemmas.List.Elements.{All-cons, All-nil}
use Rattle.std.proofs.lemmas.List.Kept.{AllPairs-cons}
use Rattle.clight_lang.specs.WellMade as made
use Rattle.clight_lang.specs.WellMade.{IsDefined, IsExpression, IsStatement, AreStatements, IsResult, AreGroups, all_numbers, default_count}
use Rattle.clight_laws.proofs.Scenes.{IsFunctionOf}
use Rattle.clight_laws.proofs.Expressions.{IsNamed}
use Rattle.clight_laws.proofs.Deeds.{Takes}
use Rattle.clight_laws.proofs.Made.{group_numbers, group_defaults, one_if, IsAbsent, AreDistinct}

-- a local is a temporary or in memory
abbrev pub IsPlaced : FunctionOf → Location → Type 0
IsPlaced f (InTemp t) = t < f.temps
IsPlaced f (InMemory m) = m < length f.locals

-- the program has all that a scene has; L are the function types that it lists
pub record Fits (s : Scene) (w : Inner) (p : ProgramOf) (f : FunctionOf) (L : ℕ → Type 0) : Type 0 where
  pub named : (x : Spelling) → IsNamed s x → IsDefined p.globals x
  pub places : (n : ℕ) → n < length s.locals → IsPlaced f (w.location n)
  pub typed : (t n : ℕ) → L t → Takes s.types t n → slice_get p.types (w.type_number t) ≡ Some n
  pub externals : (name : Spelling) (t : ℕ) → L t → IsFunctionOf t (find_file name s.file) → list_any (same_name name) s.defined ≡ false → Contains p.externals (record { name = name; function_type = w.type_number t })

-- ## Groups of a switch

all_pairs_none : {A : Type 0} (R : A → A → Type 0) → AllPairs R []
all_pairs_none R i j d l m = absurd (omega arith)

absent_all : (x : ℕ) (xs : List ℕ) → IsAbsent x xs → All (λ y. x ≢ y) xs
absent_all x [] h = All-nil (λ y. x ≢ y)
absent_all x (y ∷ ys) h = All-cons (λ y. x ≢ y) y ys h.0 (absent_all x ys h.1)

pub distinct_pairs : (xs : List ℕ) → AreDistinct xs → AllPairs (λ a b. a ≢ b) xs
distinct_pairs [] h = all_pairs_none (λ a b. a ≢ b)
distinct_pairs (x ∷ xs) h = AllPairs-cons (λ a b. a ≢ b) x xs (absent_all x xs h.0) (distinct_pairs xs h.1)

same_counts : (l : Statements) → made.count_statements l ≡ count_statements l
same_counts Nil = refl
same_counts (Cons s l) = (let e : made.count_statements l ≡ count_statements l = same_counts l in omega arith)

both_count : (a b : Statements) → count_statements (both a b) ≡ count_statements a + count_statements b
both_count Nil b = (let e : count_statements b ≡ 0 + count_statements b = omega arith in e)
both_count (Cons s a) b = (let e : count_statements (both a b) ≡ count_statements a + count_statements b = both_count a b in omega arith)

numbers_kept : (w : Inner) (start from : ℕ) (gs : MadeGroups) → all_numbers (groups_meant w start from gs).groups ≡ group_numbers gs
numbers_kept w start from NoGroups = refl
numbers_kept w start from (AndGroup numbers d l gs) = ap (λ x. numbers ++ x) (numbers_kept w (all_meant w start l).1 (from + count_statements (all_meant w start l).0) gs)

defaults_kept : (w : Inner) (start from : ℕ) (gs : MadeGroups) → default_count (groups_meant w start from gs).groups ≡ group_defaults gs
defaults_kept w start from NoGroups = refl
defaults_kept w start from (AndGroup numbers d l gs) =
    sum_by-cons (λ (g : GroupOf). cond g.is_default 1 0) (record { numbers = numbers; is_default = d; from = from }) (groups_meant w (all_meant w start l).1 (from + count_statements (all_meant w start l).0) gs).groups
    ∙ ap (λ n. cond d 1 0 + n) (defaults_kept w (all_meant w start l).1 (from + count_statements (all_meant w start l).0) gs)
    ∙ ap (λ n. n + group_defaults gs) (one d)
  where
    one : (d : Bool) → cond d 1 0 ≡ one_if d
    one true = refl
    one false = refl

-- each group begins behind those before it, and within the statements
record AreOrdered (from most : ℕ) (gs : List GroupOf) : Type 0 where
  after : All (λ g. from ≤ g.from) gs
  within : All (λ g. g.from ≤ most) gs
  order : AllPairs (λ g h. g.from ≤ h.from) gs

all_more : (n m : ℕ) (gs : List GroupOf) → n ≤ m → All (λ g. m ≤ g.from) gs → All (λ g. n ≤ g.from) gs
all_more n m gs l h k d q = (let u : m ≤ (slice_index_or gs k d).from = h k d q in omega arith)

all_less : (n m : ℕ) (gs : List GroupOf) → n ≤ m → All (λ g. g.from ≤ n) gs → All (λ g. g.from ≤ m) gs
all_less n m gs l h k d q = (let u : (slice_index_or gs k d).from ≤ n = h k d q in omega arith)

groups_ordered : (w : Inner) (start from : ℕ) (gs : MadeGroups) → AreOrdered from (from + count_statements (groups_meant w start from gs).statements) (groups_meant w start from gs).groups
groups_ordered w start from NoGroups = record { after = All-nil (λ (g : GroupOf). from ≤ g.from); within = All-nil (λ (g : GroupOf). g.from ≤ from + 0); order = all_pairs_none (λ (g h : GroupOf). g.from ≤ h.from) }
groups_ordered w start from (AndGroup numbers d l gs) =
    let next = from + count_statements (all_meant w start l).0 in
    let r = groups_ordered w (all_meant w start l).1 (from + count_statements (all_meant w start l).0) gs in
    let rest = groups_meant w (all_meant w start l).1 (from + count_statements (all_meant w start l).0) gs in
    put (all_meant w start l).0 (groups_meant w (all_meant w start l).1 (from + count_statements (all_meant w start l).0) gs) r
  where
    put : (l : Statements) (g : GroupsMeant) → AreOrdered (from + count_statements l) ((from + count_statements l) + count_statements g.statements) g.groups
        → AreOrdered from (from + count_statements (both l g.statements)) ((record { numbers = numbers; is_default = d; from = from }) ∷ g.groups)
    put l g r =
        let c : count_statements (both l g.statements) ≡ count_statements l + count_statements g.statements = both_count l g.statements in
        let after = all_more from (from + count_statements l) g.groups (omega arith) r.after in
        record {
          after = All-cons (λ (h : GroupOf). from ≤ h.from) _ g.groups (omega arith) after;
          within = All-cons (λ (h : GroupOf). h.from ≤ from + count_statements (both l g.statements)) _ g.groups (omega arith) (all_less ((from + count_statements l) + count_statements g.statements) (from + count_statements (both l g.statements)) g.groups (omega arith) r.within);
          order = AllPairs-cons (λ (g h : GroupOf). g.from ≤ h.from) _ g.groups after r.order;
        }

pub groups_valid : (w : Inner) (start : ℕ) (gs : MadeGroups) → AreDistinct (group_numbers gs) → group_defaults gs ≤ 1 → AreGroups (groups_meant w start 0 gs).groups (groups_meant w start 0 gs).statements
groups_valid w start gs d l =
    let o = groups_ordered w start 0 gs in
    record {
      numbers_differ = subst (AllPairs (λ a b. a ≢ b)) (sym (numbers_kept w start 0 gs)) (distinct_pairs (group_numbers gs) d);
      one_default = (let e : default_count (groups_meant w start 0 gs).groups ≡ group_defaults gs = defaults_kept w start 0 gs in omega arith);
      in_order = o.order;
      within = all_less (0 + count_statements (groups_meant w start 0 gs).statements) (made.count_statements (groups_meant w start 0 gs).statements) (groups_meant w start 0 gs).groups (let e : made.count_statements (groups_meant w start 0 gs).statements ≡ count_statements (groups_meant w start 0 gs).statements = same_counts (groups_meant w start 0 gs).statements in omega arith) o.within;
    }
