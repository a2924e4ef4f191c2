-- Pages: what a look-up finds after the table or the pages grow, and after a write.
use Rattle.std.proofs.Common.{◌≡◌, ◌≢◌, ℕ, ◌+◌, ◌-◌, ◌*◌, ◌/◌, ◌%◌, ◌<◌, ◌≤◌, Bool, true, false, List, ◌++◌, length, get_or, set, take, replicate, Option, Some, None, refl, sym, ap, ◌∙◌, subst, inl, inr, ◌⊎◌, arith, IsSome, if◌then◌else◌, ◌==◌, ◌&&◌, nat_le, nat_lt, min, max, rules}
use Rattle.std.proofs.lemmas.List.{take_all, get_or_append_left, get_or_past, get_or-set_same, get_or-set_other, get_or-append_right, get_or-replicate, get_or_read, length-replicate}
use Rattle.std.proofs.lemmas.Bool.{cases_lt, cases_eq, eq-eqb, ne_eqb, cond-true, cond-false}
use Rattle.std.proofs.lemmas.Option.{same_Some, none-some}
use Rattle.std.proofs.lemmas.Bool.Decides.{nat_tests}
use Rattle.tso_words.specs.declared.value.Cell.{Cell}
use Rattle.tso_words.specs.declared.value.Cell.TheVariants.{Blank}
use Rattle.tso_memory.specs.Memory.{is_in}
use Rattle.tso_memory.specs.Kept.{ArePages, cell_in}

get_or-replicate_default : {X : Type 0} (k i : ℕ) (d : X) → get_or (replicate k d) i d ≡ d
get_or-replicate_default k i d =
    elim (cases_lt i k) as (λ _. get_or (replicate k d) i d ≡ d) [
      | inl a ↦ get_or-replicate k i d d a
      | inr b ↦ get_or_past (replicate k d) i d (rw length-replicate b)
    ]

-- a list that is filled up with what stands past its end
pub get_or-padded : {X : Type 0} (xs : List X) (n k i : ℕ) (d : X) → length xs ≤ n → get_or (take n xs ++ replicate k d) i d ≡ get_or xs i d
get_or-padded xs n k i d h =
    rw (take_all n xs h) (elim (cases_lt i (length xs)) as (λ _. get_or (xs ++ replicate k d) i d ≡ get_or xs i d) [
      | inl a ↦ get_or_append_left xs (replicate k d) d i a
      | inr b ↦ get_or-append_right xs (replicate k d) (length xs) i d refl b ∙ (get_or-replicate_default k (i - length xs) d ∙ sym (get_or_past xs i d b))
    ])

-- and one that may have been
pub get_or-resized : {X : Type 0} (b : Bool) (xs ys : List X) (n k : ℕ) (d : X) → ys ≡ (if b then take n xs ++ replicate k d else xs) → length xs ≤ n → (i : ℕ) → get_or ys i d ≡ get_or xs i d
get_or-resized true xs ys n k d e h i = rw e (get_or-padded xs n k i d h)
get_or-resized false xs ys n k d e h i = rw e refl

abbrev SameEntries : {X : Type 0} → List (Option X) → List (Option X) → Type 0
SameEntries {X} xs ys = (i : ℕ) → get_or ys i None ≡ get_or xs i None

cell_in-same_cells : (cs ds : List (Option Cell)) → SameEntries cs ds → (s : Option ℕ) (o : ℕ) → cell_in ds s o ≡ cell_in cs s o
cell_in-same_cells cs ds h None o = refl
cell_in-same_cells cs ds h (Some p) o = h (p * 16384 + o)

-- the same entries of the table and the same cells
pub cell_in-same : (t u : List (Option ℕ)) (cs ds : List (Option Cell)) → SameEntries t u → SameEntries cs ds → (y : ℕ) → cell_in ds (get_or u (y / 16384) None) (y % 16384) ≡ cell_in cs (get_or t (y / 16384) None) (y % 16384)
cell_in-same t u cs ds h g y = ap (λ s. cell_in ds s (y % 16384)) (h (y / 16384)) ∙ cell_in-same_cells cs ds g (get_or t (y / 16384) None) (y % 16384)

-- a table with the same entries
pub ArePages-same : (t u : List (Option ℕ)) (cs : List (Option Cell)) (n : ℕ) → SameEntries t u → ArePages t cs n → ArePages u cs n
ArePages-same t u cs n h r =
    record {
      whole = r.whole;
      there = λ i p e. r.there i p (sym (h i) ∙ e);
      apart = λ i j p e f. r.apart i j p (sym (h i) ∙ e) (sym (h j) ∙ f);
    }

-- one more page, for a number that had none
there_more : (t : List (Option ℕ)) (cs : List (Option Cell)) (n k : ℕ) → ArePages t cs n → k < length t → (i p : ℕ) → get_or (set t k (Some n)) i None ≡ Some p → (i ≡ k → p ≡ n) × (i ≢ k → get_or t i None ≡ Some p)
there_more t cs n k r h i p e =
    (λ q. same_Some p n (sym e ∙ (ap (λ j. get_or (set t k (Some n)) j None) q ∙ get_or-set_same t k (Some n) None h)), λ q. sym (get_or-set_other t k i (Some n) None q) ∙ e)

pub ArePages-opened : (t : List (Option ℕ)) (cs ds : List (Option Cell)) (n k : ℕ) → ArePages t cs n → k < length t → length ds ≡ (n + 1) * 16384 → ArePages (set t k (Some n)) ds (n + 1)
ArePages-opened t cs ds n k r h g =
    record {
      whole = g;
      there = λ i p e. elim (cases_eq i k) as (λ _. p < n + 1) [
        | inl q ↦ (let eq : p ≡ n = (there_more t cs n k r h i p e).0 q in omega arith)
        | inr q ↦ (let lt : p < n = r.there i p ((there_more t cs n k r h i p e).1 q) in omega arith)
      ];
      apart = λ i j p e f. elim (cases_eq i k) as (λ _. i ≡ j) [
        | inl q ↦ elim (cases_eq j k) as (λ _. i ≡ j) [
          | inl s ↦ q ∙ sym s
          | inr s ↦ (let eq : p ≡ n = (there_more t cs n k r h i p e).0 q in let lt : p < n = r.there j p ((there_more t cs n k r h j p f).1 s) in absurd (omega arith))
        ]
        | inr q ↦ elim (cases_eq j k) as (λ _. i ≡ j) [
          | inl s ↦ (let eq : p ≡ n = (there_more t cs n k r h j p f).0 s in let lt : p < n = r.there i p ((there_more t cs n k r h i p e).1 q) in absurd (omega arith))
          | inr s ↦ r.apart i j p ((there_more t cs n k r h i p e).1 q) ((there_more t cs n k r h j p f).1 s)
        ]
      ];
    }

pub cell_in-opened : (t : List (Option ℕ)) (cs ds : List (Option Cell)) (n k : ℕ) → ArePages t cs n → k < length t → get_or t k None ≡ None → SameEntries cs ds → (y : ℕ) → cell_in ds (get_or (set t k (Some n)) (y / 16384) None) (y % 16384) ≡ cell_in cs (get_or t (y / 16384) None) (y % 16384)
cell_in-opened t cs ds n k r h none g y =
    elim (cases_eq (y / 16384) k) as (λ _. cell_in ds (get_or (set t k (Some n)) (y / 16384) None) (y % 16384) ≡ cell_in cs (get_or t (y / 16384) None) (y % 16384)) [
      | inl q ↦ rw q (rw none (rw (get_or-set_same t k (Some n) None h) (g (n * 16384 + y % 16384) ∙ (let past : length cs ≤ n * 16384 + y % 16384 = (let w : length cs ≡ n * 16384 = r.whole in omega arith) in get_or_past cs (n * 16384 + y % 16384) None past))))
      | inr q ↦ rw (get_or-set_other t k (y / 16384) (Some n) None q) (cell_in-same_cells cs ds g (get_or t (y / 16384) None) (y % 16384))
    ]

-- a cell of an open page lies among the cells
pub cell_within : (t : List (Option ℕ)) (cs : List (Option Cell)) (n i p o : ℕ) → ArePages t cs n → get_or t i None ≡ Some p → o < 16384 → p * 16384 + o < length cs
cell_within t cs n i p o r e h = let w : length cs ≡ n * 16384 = r.whole in let lt : p < n = r.there i p e in omega arith

-- a write of one cell
cell_in-set_at : (t : List (Option ℕ)) (cs : List (Option Cell)) (n x p : ℕ) (c : Cell) → ArePages t cs n → get_or t (x / 16384) None ≡ Some p → (y : ℕ) (s : Option ℕ) → get_or t (y / 16384) None ≡ s → cell_in (set cs (p * 16384 + x % 16384) (Some c)) s (y % 16384) ≡ (if y == x then Some c else cell_in cs s (y % 16384))
cell_in-set_at t cs n x p c r e y None f =
    sym (cond-false (y == x) (Some c) None (ne_eqb y x (λ q. none-some p (sym f ∙ (ap (λ z. get_or t (z / 16384) None) q ∙ e)))))
cell_in-set_at t cs n x p c r e y (Some q) f =
    elim (cases_eq y x) as (λ _. get_or (set cs (p * 16384 + x % 16384) (Some c)) (q * 16384 + y % 16384) None ≡ (if y == x then Some c else get_or cs (q * 16384 + y % 16384) None)) [
      | inl s ↦ (let same : q ≡ p = same_Some q p (sym f ∙ (ap (λ z. get_or t (z / 16384) None) s ∙ e)) in
          rw (cond-true (y == x) (Some c) (get_or cs (q * 16384 + y % 16384) None) (eq-eqb y x s)) (rw (s, same) (get_or-set_same cs (p * 16384 + x % 16384) (Some c) None (cell_within t cs n (x / 16384) p (x % 16384) r e (omega arith)))))
      | inr s ↦ rw (cond-false (y == x) (Some c) (get_or cs (q * 16384 + y % 16384) None) (ne_eqb y x s)) (get_or-set_other cs (p * 16384 + x % 16384) (q * 16384 + y % 16384) (Some c) None (λ z. s (same_address t cs n x p y q r e f z)))
    ]
  where
    same_address : (t : List (Option ℕ)) (cs : List (Option Cell)) (n x p y q : ℕ) → ArePages t cs n → get_or t (x / 16384) None ≡ Some p → get_or t (y / 16384) None ≡ Some q → q * 16384 + y % 16384 ≡ p * 16384 + x % 16384 → y ≡ x
    same_address t cs n x p y q r e f z =
        let pages : q ≡ p = omega arith in
        let numbers : y / 16384 ≡ x / 16384 = r.apart (y / 16384) (x / 16384) p (f ∙ ap (λ v. Some v) pages) e in
        omega arith

pub cell_in-set : (t : List (Option ℕ)) (cs : List (Option Cell)) (n x p : ℕ) (c : Cell) → ArePages t cs n → get_or t (x / 16384) None ≡ Some p → (y : ℕ) → cell_in (set cs (p * 16384 + x % 16384) (Some c)) (get_or t (y / 16384) None) (y % 16384) ≡ (if y == x then Some c else cell_in cs (get_or t (y / 16384) None) (y % 16384))
cell_in-set t cs n x p c r e y = cell_in-set_at t cs n x p c r e y (get_or t (y / 16384) None) refl

-- an entry that was read
pub entry_read : (t : List (Option ℕ)) (i n p : ℕ) (r : Option ℕ) → n ≡ length t → i < n → r ≡ get_or t i r → r ≡ Some p → get_or t i None ≡ Some p
entry_read t i n p r l h e f = let lt : i < length t = omega arith in sym (get_or_read t i r lt e None) ∙ f

pub open_within : (t : List (Option ℕ)) (i : ℕ) → IsSome (get_or t i None) → i < length t
open_within t i h =
    elim (cases_lt i (length t)) as (λ _. i < length t) [
      | inl a ↦ a
      | inr b ↦ (let none : get_or t i None ≡ None = get_or_past t i None b in absurd (let P : Option ℕ → Type 0 = λ s. IsSome s in let h' : IsSome {T = ℕ} None = subst P none h in search rules))
    ]

pub none_from_closed : (s : Option ℕ) → (IsSome s → ⊥) → s ≡ None
none_from_closed None h = refl
none_from_closed (Some p) h = absurd (h (search rules))

-- a loop that empties cells
pub blank_none : (from k : ℕ) (o : Option Cell) → o ≡ (if nat_le from k && nat_lt k from then None else o)
blank_none from k o = grind (arith, nat_tests)

pub blank_more : (cs ds : List (Option Cell)) (from i k : ℕ) → i < length cs → from ≤ i → get_or cs k None ≡ (if nat_le from k && nat_lt k i then None else get_or ds k None) → get_or (set cs i None) k None ≡ (if nat_le from k && nat_lt k (i + 1) then None else get_or ds k None)
blank_more cs ds from i k h g e =
    elim (cases_eq k i) as (λ _. get_or (set cs i None) k None ≡ (if nat_le from k && nat_lt k (i + 1) then None else get_or ds k None)) [
      | inl q ↦ rw q (get_or-set_same cs i None None h ∙ within from i g (get_or ds i None))
      | inr q ↦ get_or-set_other cs i k None None q ∙ (e ∙ beside from i k (get_or ds k None) q)
    ]
  where
    within : (from i : ℕ) → from ≤ i → (o : Option Cell) → None ≡ (if nat_le from i && nat_lt i (i + 1) then None else o)
    within from i g o = grind (arith, nat_tests)

    beside : (from i k : ℕ) (o : Option Cell) → k ≢ i → (if nat_le from k && nat_lt k i then None else o) ≡ (if nat_le from k && nat_lt k (i + 1) then None else o)
    beside from i k o q = grind (arith, nat_tests)

-- a loop over pages that forgets a range
pub forget_none : (base end y : ℕ) (o : Option Cell) → base < end → o ≡ (if (nat_le base y && nat_lt y end) && nat_lt (y / 16384) (base / 16384) then None else o)
forget_none base end y o h = elim (cases_lt y base) as (λ _. o ≡ (if (nat_le base y && nat_lt y end) && nat_lt (y / 16384) (base / 16384) then None else o)) [
  | inl a ↦ grind (arith, nat_tests)
  | inr b ↦ (let le : base / 16384 ≤ y / 16384 = omega arith in grind (arith, nat_tests))
]

pub forget_more : (base end number y q : ℕ) (a b o : Option Cell) → b ≡ (if (nat_le base y && nat_lt y end) && nat_lt q number then None else o) → a ≡ (if (q == number) && (nat_le base y && nat_lt y end) then None else b) → a ≡ (if (nat_le base y && nat_lt y end) && nat_lt q (number + 1) then None else o)
forget_more base end number y q a b o e f = grind (arith, nat_tests)

pub forget_all : (base end y : ℕ) (o : Option Cell) → base < end → (if (nat_le base y && nat_lt y end) && nat_lt (y / 16384) ((end - 1) / 16384 + 1) then None else o) ≡ (if nat_le base y && nat_lt y end then None else o)
forget_all base end y o h = elim (cases_lt y end) as (λ _. (if (nat_le base y && nat_lt y end) && nat_lt (y / 16384) ((end - 1) / 16384 + 1) then None else o) ≡ (if nat_le base y && nat_lt y end then None else o)) [
  | inl a ↦ (let le : y / 16384 < (end - 1) / 16384 + 1 = omega arith in grind (arith, nat_tests))
  | inr b ↦ grind (arith, nat_tests)
]

-- the part of a range in one page
in_part : (base end first o : ℕ) → o < 16384 → base < first + 16384 → first < end → (nat_le (max base first - first) o && nat_lt o (min end (first + 16384) - first)) ≡ (nat_le base (first + o) && nat_lt (first + o) end)
in_part base end first o h g f = elim (cases_lt base first) as (λ _. (nat_le (max base first - first) o && nat_lt o (min end (first + 16384) - first)) ≡ (nat_le base (first + o) && nat_lt (first + o) end)) [
  | inl a ↦ (let m : max base first - first ≡ 0 = omega arith in part_of (max base first - first) (min end (first + 16384) - first) base end first o (omega arith) (omega arith) (omega arith) (omega arith))
  | inr a ↦ part_of (max base first - first) (min end (first + 16384) - first) base end first o (omega arith) (omega arith) (omega arith) (omega arith)
]
  where
    part_of : (low high base end first o : ℕ) → (low ≤ o → base ≤ first + o) → (base ≤ first + o → low ≤ o) → (o < high → first + o < end) → (first + o < end → o < high) → (nat_le low o && nat_lt o high) ≡ (nat_le base (first + o) && nat_lt (first + o) end)
    part_of low high base end first o a b c d = grind (arith, nat_tests)

cond_same : {X : Type 0} (b : Bool) (x : X) → x ≡ (if b then x else x)
cond_same true x = refl
cond_same false x = refl

shifted : (s a b o : ℕ) → (nat_le (s + a) (s + o) && nat_lt (s + o) (s + b)) ≡ (nat_le a o && nat_lt o b)
shifted s a b o = grind (arith, nat_tests)

outside : (low high k : ℕ) → (k < low) ⊎ (high ≤ k) → (nat_le low k && nat_lt k high) ≡ false
outside low high k (inl h) = grind (arith, nat_tests)
outside low high k (inr h) = grind (arith, nat_tests)

module _ (t : List (Option ℕ)) (cs ws : List (Option Cell)) (n number p base end : ℕ) (r : ArePages t cs n) (entry : get_or t number None ≡ Some p) (above : base < number * 16384 + 16384) (below : number * 16384 < end) (after : (k : ℕ) → get_or ws k None ≡ (if nat_le (p * 16384 + (max base (number * 16384) - number * 16384)) k && nat_lt k (p * 16384 + (min end (number * 16384 + 16384) - number * 16384)) then None else get_or cs k None)) where
  here : (y : ℕ) → y / 16384 ≡ number → get_or ws (p * 16384 + y % 16384) None ≡ (if (y / 16384 == number) && (nat_le base y && nat_lt y end) then None else get_or cs (p * 16384 + y % 16384) None)
  here y e =
      let whole : number * 16384 + y % 16384 ≡ y = omega arith in
      let tests = shifted (p * 16384) (max base (number * 16384) - number * 16384) (min end (number * 16384 + 16384) - number * 16384) (y % 16384) ∙ (in_part base end (number * 16384) (y % 16384) (omega arith) above below ∙ ap (λ z. nat_le base z && nat_lt z end) whole) in
      after (p * 16384 + y % 16384) ∙ ap (λ b. if b then None else get_or cs (p * 16384 + y % 16384) None) (tests ∙ ap (λ b. b && (nat_le base y && nat_lt y end)) (sym (eq-eqb (y / 16384) number e)))

  elsewhere : (y q : ℕ) → get_or t (y / 16384) None ≡ Some q → (y / 16384 ≡ number → ⊥) → get_or ws (q * 16384 + y % 16384) None ≡ (if (y / 16384 == number) && (nat_le base y && nat_lt y end) then None else get_or cs (q * 16384 + y % 16384) None)
  elsewhere y q f e =
      let apart : q ≢ p = λ z. e (r.apart (y / 16384) number p (f ∙ ap (λ v. Some v) z) entry) in
      let out : (q * 16384 + y % 16384 < p * 16384 + (max base (number * 16384) - number * 16384)) ⊎ (p * 16384 + (min end (number * 16384 + 16384) - number * 16384) ≤ q * 16384 + y % 16384) = elim (cases_lt q p) as (λ _. (q * 16384 + y % 16384 < p * 16384 + (max base (number * 16384) - number * 16384)) ⊎ (p * 16384 + (min end (number * 16384 + 16384) - number * 16384) ≤ q * 16384 + y % 16384)) [
        | inl a ↦ inl (omega arith)
        | inr a ↦ inr (let lt : p < q = omega arith in omega arith)
      ] in
      after (q * 16384 + y % 16384) ∙ (ap (λ b. if b then None else get_or cs (q * 16384 + y % 16384) None) (outside (p * 16384 + (max base (number * 16384) - number * 16384)) (p * 16384 + (min end (number * 16384 + 16384) - number * 16384)) (q * 16384 + y % 16384) out) ∙ sym (ap (λ b. if b && (nat_le base y && nat_lt y end) then None else get_or cs (q * 16384 + y % 16384) None) (ne_eqb (y / 16384) number e)))

  at_entry : (y : ℕ) (s : Option ℕ) → get_or t (y / 16384) None ≡ s → cell_in ws s (y % 16384) ≡ (if (y / 16384 == number) && (nat_le base y && nat_lt y end) then None else cell_in cs s (y % 16384))
  at_entry y None f = cond_same ((y / 16384 == number) && (nat_le base y && nat_lt y end)) None
  at_entry y (Some q) f =
      elim (cases_eq (y / 16384) number) as (λ _. get_or ws (q * 16384 + y % 16384) None ≡ (if (y / 16384 == number) && (nat_le base y && nat_lt y end) then None else get_or cs (q * 16384 + y % 16384) None)) [
        | inl e ↦ (let same : q ≡ p = same_Some q p (sym f ∙ (ap (λ z. get_or t z None) e ∙ entry)) in rw same (here y e))
        | inr e ↦ elsewhere y q f e
      ]

  pub cell_in-forgotten : (y : ℕ) → cell_in ws (get_or t (y / 16384) None) (y % 16384) ≡ (if (y / 16384 == number) && (nat_le base y && nat_lt y end) then None else cell_in cs (get_or t (y / 16384) None) (y % 16384))
  cell_in-forgotten y = at_entry y (get_or t (y / 16384) None) refl

-- a loop that writes cells one after another
pub set_more : (cells : List Cell) (x k y : ℕ) (c : Cell) (new old first : Option Cell) → c ≡ get_or cells k Blank → new ≡ (if y == x + k then Some c else old) → old ≡ (if is_in x k y then Some (get_or cells (y - x) Blank) else first) → new ≡ (if is_in x (k + 1) y then Some (get_or cells (y - x) Blank) else first)
set_more cells x k y c new old first e f g = elim (cases_eq y (x + k)) as (λ _. new ≡ (if is_in x (k + 1) y then Some (get_or cells (y - x) Blank) else first)) [
  | inl q ↦ f ∙ (cond-true (y == x + k) (Some c) old (eq-eqb y (x + k) q) ∙ (ap (λ z. Some z) (e ∙ ap (λ i. get_or cells i Blank) (let i : k ≡ y - x = omega arith in i)) ∙ sym (cond-true (is_in x (k + 1) y) (Some (get_or cells (y - x) Blank)) first (inside x k y q))))
  | inr q ↦ f ∙ (cond-false (y == x + k) (Some c) old (ne_eqb y (x + k) q) ∙ (g ∙ ap (λ b. if b then Some (get_or cells (y - x) Blank) else first) (beside x k y q)))
]
  where
    inside : (x k y : ℕ) → y ≡ x + k → is_in x (k + 1) y ≡ true
    inside x k y q = grind (arith, nat_tests)

    beside : (x k y : ℕ) → (y ≡ x + k → ⊥) → is_in x k y ≡ is_in x (k + 1) y
    beside x k y q = grind (arith, nat_tests)
