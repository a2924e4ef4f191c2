-- In a run of a machine no Place meets a live object when it is applied, and each Lift finds its object: what every state of a run keeps.
use Rattle.std.proofs.Common.{◌≡◌, ◌≢◌, ℕ, zero, suc, ◌+◌, ◌%◌, ◌^◌, ◌<◌, ◌≤◌, List, [], ◌∷◌, ◌++◌, length, refl, sym, ap, ◌∙◌, subst, arith, length-append, Option, Some, None, ◌⊎◌, inl, inr, Bool, true, false}
use Rattle.std.specs.Prelude.{if◌then◌else◌, ◌==◌, ◌&&◌, ◌||◌, not, nat_lt, nat_le, slice_get, slice_set, slice_index_or}
use Rattle.std.specs.List.{list_any, list_all, filter}
use Rattle.std.proofs.lemmas.Bool.{eq-eqb, ne_eqb, ltb-true, leb-true}
use Rattle.std.proofs.Math.Dec.{eqb}
use Rattle.std.proofs.lemmas.List.{length-set}
use Rattle.std.proofs.lemmas.Option.{slice_get_within}
use Rattle.std.proofs.lemmas.Map.Views.{any-filter_same}
use Rattle.tso_memory.specs.declared.object.Object.{Object}
use Rattle.tso_memory.specs.declared.buffer.Item.{Item}
use Rattle.tso_memory.specs.declared.buffer.Item.TheVariants.{Put, Place, Lift}
use Rattle.tso_memory.specs.Memory.{meets, is_met, is_at, inserted, unmet, lifted, removed}
use Rattle.tso_memory.specs.Buffer.{local, is_lift, objects_lifted, places_lifted, unplaced, pending_ok, is_in_stacks, is_place_allowed}
use Rattle.tso_core.specs.Systems.{Places}
use Rattle.tso_core.specs.Language.{Language, IsThread}
use Rattle.tso_core.specs.Shared.{items_or_none, is_heap, heap_at}
use Rattle.tso_core.specs.Locals.{IsSafe}
use Rattle.tso_core.proofs.Lists.{none_some, get_set, get_set_other, set_get, get_some, get_append, dec_eq}
use Rattle.tso_core.proofs.Waiting.{Range, both, joined_true, either, or_right, not_true, not_false, opposed, same_number, count, same_self, same_is, Plays, Clear, Apart, apart_rest, Stacked}

-- lists of objects
or_swap : (a b c : Bool) → (a || (b || c)) ≡ (b || (a || c))
or_swap true true c = refl
or_swap true false c = refl
or_swap false b c = refl

and_swap : (a b c : Bool) → (a && (b && c)) ≡ (b && (a && c))
and_swap true b c = refl
and_swap false true c = refl
and_swap false false c = refl

pub any_inserted : (p : Object → Bool) (o : Object) (os : List Object) → list_any p (inserted o os) ≡ (p o || list_any p os)
any_inserted p o [] = refl
any_inserted p o (q ∷ qs) = go (nat_lt q.base o.base) (any_inserted p o qs)
  where
    go : (b : Bool) → list_any p (inserted o qs) ≡ (p o || list_any p qs) → list_any p (if b then q ∷ inserted o qs else o ∷ q ∷ qs) ≡ (p o || (p q || list_any p qs))
    go true e = ap (λ z. p q || z) e ∙ or_swap (p q) (p o) (list_any p qs)
    go false e = refl

pub all_inserted : (p : Object → Bool) (o : Object) (os : List Object) → list_all p (inserted o os) ≡ (p o && list_all p os)
all_inserted p o [] = refl
all_inserted p o (q ∷ qs) = go (nat_lt q.base o.base) (all_inserted p o qs)
  where
    go : (b : Bool) → list_all p (inserted o qs) ≡ (p o && list_all p qs) → list_all p (if b then q ∷ inserted o qs else o ∷ q ∷ qs) ≡ (p o && (p q && list_all p qs))
    go true e = ap (λ z. p q && z) e ∙ and_swap (p q) (p o) (list_all p qs)
    go false e = refl

pub filter_fewer : (p q : Object → Bool) (os : List Object) → list_any p (filter q os) ≡ true → list_any p os ≡ true
filter_fewer p q [] e = e
filter_fewer p q (o ∷ os) e = go (q o) e (filter_fewer p q os)
  where
    step : (list_any p (filter q os) ≡ true → list_any p os ≡ true) → (p o ≡ true) ⊎ (list_any p (filter q os) ≡ true) → (p o || list_any p os) ≡ true
    step f (inl e) = ap (λ z. z || list_any p os) e
    step f (inr e) = or_right (p o) (list_any p os) (f e)

    go : (b : Bool) → list_any p (if b then o ∷ filter q os else filter q os) ≡ true → (list_any p (filter q os) ≡ true → list_any p os ≡ true) → (p o || list_any p os) ≡ true
    go true e f = step f (either (p o) (list_any p (filter q os)) e)
    go false e f = or_right (p o) (list_any p os) (f e)

pub all_filter : (p q : Object → Bool) (os : List Object) → list_all p os ≡ true → list_all p (filter q os) ≡ true
all_filter p q [] e = e
all_filter p q (o ∷ os) e = let h = both (p o) (list_all p os) e in go (q o) h.0 (all_filter p q os h.1)
  where
    go : (b : Bool) → p o ≡ true → list_all p (filter q os) ≡ true → list_all p (if b then o ∷ filter q os else filter q os) ≡ true
    go true e f = joined_true (p o) (list_all p (filter q os)) e f
    go false e f = f

-- an object with this range is there
abbrev pub IsThere : List Object → Range → Type 0
IsThere os r = list_any (is_at r.0 r.1) os ≡ true

pub range_of : (o : Object) (r : Range) → is_at r.0 r.1 o ≡ true → (let x : Range = (o.base, o.size) in x) ≡ r
range_of o r e = same_is (o.base, o.size) r e

-- with the object of a Place, which meets none
pub placed_keeps : (os : List Object) (b n : ℕ) → ((r : Range) → IsThere os r → meets r.0 r.1 b n ≡ false) → (r : Range) → IsThere os r → IsThere (inserted (local b n) (unmet b n os)) r
placed_keeps os b n f r e =
    let kept : list_any (is_at r.0 r.1) (unmet b n os) ≡ list_any (is_at r.0 r.1) os = any-filter_same (is_at r.0 r.1) (λ o. not (is_met b n o)) true (λ o h. not_false (is_met b n o) (ap (λ x. meets x.0 x.1 b n) (range_of o r h) ∙ f r e)) os in
    any_inserted (is_at r.0 r.1) (local b n) (unmet b n os) ∙ or_right (is_at r.0 r.1 (local b n)) (list_any (is_at r.0 r.1) (unmet b n os)) (kept ∙ e)

pub placed_most : (os : List Object) (b n : ℕ) (r : Range) → IsThere (inserted (local b n) (unmet b n os)) r → IsThere os r ⊎ (r ≡ (b, n))
placed_most os b n r e = go (either (is_at r.0 r.1 (local b n)) (list_any (is_at r.0 r.1) (unmet b n os)) (sym (any_inserted (is_at r.0 r.1) (local b n) (unmet b n os)) ∙ e))
  where
    go : (is_at r.0 r.1 (local b n) ≡ true) ⊎ (list_any (is_at r.0 r.1) (unmet b n os) ≡ true) → IsThere os r ⊎ (r ≡ (b, n))
    go (inl h) = inr (sym (range_of (local b n) r h))
    go (inr h) = inl (filter_fewer (is_at r.0 r.1) (λ o. not (is_met b n o)) os h)

pub placed_there : (os : List Object) (b n : ℕ) → IsThere (inserted (local b n) (unmet b n os)) (b, n)
placed_there os b n = any_inserted (is_at b n) (local b n) (unmet b n os) ∙ ap (λ z. z || list_any (is_at b n) (unmet b n os)) (same_self (b, n))

-- without the object of a Lift
pub lifted_keeps : (os : List Object) (b n : ℕ) (r : Range) → (r ≢ (b, n)) → IsThere os r → IsThere (lifted b n os) r
lifted_keeps os b n r ne e = any-filter_same (is_at r.0 r.1) (λ o. not (is_at b n o)) true (λ o h. not_false (is_at b n o) (other o h)) os ∙ e
  where
    other : (o : Object) → is_at r.0 r.1 o ≡ true → is_at b n o ≡ false
    other o h = go (is_at b n o) refl
      where
        go : (x : Bool) → is_at b n o ≡ x → is_at b n o ≡ false
        go false f = f
        go true f = absurd (ne (sym (range_of o r h) ∙ range_of o (b, n) f))

pub lifted_most : (os : List Object) (b n : ℕ) (r : Range) → IsThere (lifted b n os) r → IsThere os r × (r ≢ (b, n))
lifted_most os b n r e = (filter_fewer (is_at r.0 r.1) (λ o. not (is_at b n o)) os e, gone)
  where
    none : list_any (is_at b n) (lifted b n os) ≡ false
    none = any-filter_same (is_at b n) (λ o. not (is_at b n o)) false (λ o h. ap not h) os

    gone : r ≢ (b, n)
    gone f = opposed (list_any (is_at b n) (lifted b n os)) (sym (ap (λ x. list_any (is_at x.0 x.1) (lifted b n os)) f) ∙ e) none

-- heap blocks lie below the stacks
abbrev pub is_low : Object → Bool
is_low o = not (is_heap o.kind) || nat_lt o.base 0x90000000

pub heap_low : (os : List Object) (a n : ℕ) → list_all is_low os ≡ true → heap_at os a ≡ Some n → a < 0x90000000
heap_low [] a n h e = absurd (none_some n e)
heap_low (o ∷ os) a n h e = let f = both (is_low o) (list_all is_low os) h in go ((o.base == a) && is_heap o.kind) refl e f.0 (heap_low os a n f.1)
  where
    low : (o.base == a) ≡ true → is_heap o.kind ≡ true → (not (is_heap o.kind) ≡ true) ⊎ (nat_lt o.base 0x90000000 ≡ true) → a < 0x90000000
    low f g (inl x) = absurd (opposed (is_heap o.kind) g (not_true (is_heap o.kind) x))
    low f g (inr x) = subst (λ y. y < 0x90000000) (same_number o.base a f) (ltb-true o.base 0x90000000 x)

    go : (x : Bool) → ((o.base == a) && is_heap o.kind) ≡ x → (if x then Some o.size else heap_at os a) ≡ Some n → is_low o ≡ true → (heap_at os a ≡ Some n → a < 0x90000000) → a < 0x90000000
    go false f e l rec = rec e
    go true f e l rec = let g = both (o.base == a) (is_heap o.kind) f in low g.0 g.1 (either (not (is_heap o.kind)) (nat_lt o.base 0x90000000) l)

-- without a heap block
pub removed_keeps : (os : List Object) (a : ℕ) (r : Range) → a < 0x90000000 → 0x90000000 ≤ r.0 → IsThere os r → IsThere (removed a os) r
removed_keeps os a r lt le e = any-filter_same (is_at r.0 r.1) (λ o. not (o.base == a)) true (λ o h. not_false (o.base == a) (other o h)) os ∙ e
  where
    other : (o : Object) → is_at r.0 r.1 o ≡ true → (o.base == a) ≡ false
    other o h =
        let f : o.base ≡ r.0 = ap (λ x. x.0) (range_of o r h) in
        ne_eqb o.base a (λ g. omega (arith, f, g))

-- the buffers
abbrev pub items : List (List Item) → ℕ → List Item
items buffers i = items_or_none (slice_get buffers i)

items_set : (buffers : List (List Item)) (i : ℕ) (is : List Item) → i < length buffers → items (slice_set buffers i is) i ≡ is
items_set buffers i is lt = let y = get_some buffers i lt in ap items_or_none (get_set buffers i is y.0 y.1)

items_other : (buffers : List (List Item)) (i j : ℕ) (is : List Item) → (j ≡ i → ⊥) → items (slice_set buffers i is) j ≡ items buffers j
items_other buffers i j is ne = ap items_or_none (get_set_other buffers i j is ne)

set_items : (buffers : List (List Item)) (i : ℕ) → i < length buffers → slice_set buffers i (items buffers i) ≡ buffers
set_items buffers i lt =
    let y = get_some buffers i lt in
    ap (λ l. slice_set buffers i l) (ap items_or_none y.1) ∙ set_get buffers i y.0 y.1

pub items_within : (buffers : List (List Item)) (i : ℕ) (x : Item) (rest : List Item) → items buffers i ≡ x ∷ rest → i < length buffers
items_within buffers i x rest e = go (slice_get buffers i) refl
  where
    go : (o : Option (List Item)) → slice_get buffers i ≡ o → i < length buffers
    go (Some is) f = slice_get_within buffers i is f
    go None f = let g : [] ≡ x ∷ rest = sym (ap items_or_none f) ∙ e in absurd (cc)

items_push : (buffers : List (List Item)) (j : ℕ) → items (buffers ++ [] ∷ []) j ≡ items buffers j
items_push [] zero = refl
items_push [] (suc j) = refl
items_push (b ∷ bs) zero = refl
items_push (b ∷ bs) (suc j) = items_push bs j

-- a function, with one value changed
abbrev pub at_one : (ℕ → Range → ℕ) → ℕ → (Range → ℕ) → ℕ → Range → ℕ
at_one f i m j = if eqb i j then m else f j

at_same : (f : ℕ → Range → ℕ) (i : ℕ) (m : Range → ℕ) → at_one f i m i ≡ m
at_same f i m = ap (λ x. if x then m else f i) (eq-eqb i i refl)

at_other : (f : ℕ → Range → ℕ) (i : ℕ) (m : Range → ℕ) (j : ℕ) → (j ≡ i → ⊥) → at_one f i m j ≡ f j
at_other f i m j ne = ap (λ x. if x then m else f j) (ne_eqb i j (λ e. ne (sym e)))

apart_tail : (x : Item) (is js : List Item) → Apart (x ∷ is) js → Apart is js
apart_tail (Put c a v) is js h = h
apart_tail (Place b n) is js h = h.1
apart_tail (Lift b n) is js h = h

stacked_tail : (x : Item) (is : List Item) → Stacked (x ∷ is) → Stacked is
stacked_tail (Put c a v) is h = h
stacked_tail (Place b n) is h = h.1
stacked_tail (Lift b n) is h = h

-- what place_ok tells of the other buffers
pub other_unplaced : (b n i : ℕ) (buffers : List (List Item)) → pending_ok b n i buffers ≡ true → (j : ℕ) → (i ≢ j) → unplaced b n (items buffers j) ≡ true
other_unplaced b n i [] e j ne = refl
other_unplaced b n zero (own ∷ others) e zero ne = absurd (ne refl)
other_unplaced b n zero (own ∷ others) e (suc j) ne = all_of others j (both (places_lifted b n own) (list_all (unplaced b n) others) e).1
  where
    all_of : (ls : List (List Item)) (k : ℕ) → list_all (unplaced b n) ls ≡ true → unplaced b n (items ls k) ≡ true
    all_of [] k f = refl
    all_of (x ∷ ls) zero f = (both (unplaced b n x) (list_all (unplaced b n) ls) f).0
    all_of (x ∷ ls) (suc k) f = all_of ls k (both (unplaced b n x) (list_all (unplaced b n) ls) f).1
other_unplaced b n (suc i) (other ∷ buffers) e zero ne = (both (unplaced b n other) (pending_ok b n i buffers) e).0
other_unplaced b n (suc i) (other ∷ buffers) e (suc j) ne = other_unplaced b n i buffers (both (unplaced b n other) (pending_ok b n i buffers) e).1 j (λ f. ne (ap suc f))

pub own_lifted : (b n i : ℕ) (buffers : List (List Item)) → pending_ok b n i buffers ≡ true → places_lifted b n (items buffers i) ≡ true
own_lifted b n i [] e = refl
own_lifted b n zero (own ∷ others) e = (both (places_lifted b n own) (list_all (unplaced b n) others) e).0
own_lifted b n (suc i) (other ∷ buffers) e = own_lifted b n i buffers (both (unplaced b n other) (pending_ok b n i buffers) e).1

index_items : (buffers : List (List Item)) (i : ℕ) → slice_index_or buffers i [] ≡ items buffers i
index_items [] i = refl
index_items (b ∷ bs) zero = refl
index_items (b ∷ bs) (suc i) = index_items bs i

pub lifted_where : (b n : ℕ) (own : List Item) (os : List Object) → objects_lifted b n own os ≡ true → (r : Range) → IsThere os r → (meets r.0 r.1 b n ≡ false) ⊎ (list_any (is_lift r.0 r.1) own ≡ true)
lifted_where b n own [] e r h = absurd (opposed false h refl)
lifted_where b n own (o ∷ os) e r h =
    let f = both (not (meets o.base o.size b n) || list_any (is_lift o.base o.size) own) (objects_lifted b n own os) e in
    go (either (is_at r.0 r.1 o) (list_any (is_at r.0 r.1) os) h) f.0 (lifted_where b n own os f.1 r)
  where
    here : (not (meets o.base o.size b n) ≡ true) ⊎ (list_any (is_lift o.base o.size) own ≡ true) → (meets o.base o.size b n ≡ false) ⊎ (list_any (is_lift o.base o.size) own ≡ true)
    here (inl x) = inl (not_true (meets o.base o.size b n) x)
    here (inr x) = inr x

    go : (is_at r.0 r.1 o ≡ true) ⊎ (list_any (is_at r.0 r.1) os ≡ true) → (not (meets o.base o.size b n) || list_any (is_lift o.base o.size) own) ≡ true → (IsThere os r → (meets r.0 r.1 b n ≡ false) ⊎ (list_any (is_lift r.0 r.1) own ≡ true)) → (meets r.0 r.1 b n ≡ false) ⊎ (list_any (is_lift r.0 r.1) own ≡ true)
    go (inl x) f rec = subst (λ q. (meets q.0 q.1 b n ≡ false) ⊎ (list_any (is_lift q.0 q.1) own ≡ true)) (range_of o r x) (here (either (not (meets o.base o.size b n)) (list_any (is_lift o.base o.size) own) f))
    go (inr x) f rec = rec x

pub record IsAllowed (os : List Object) (buffers : List (List Item)) (i b n : ℕ) : Type 0 where
  pub some : 1 ≤ n
  pub high : 0x90000000 ≤ b
  pub word : b < 2 ^ 32
  pub objects : objects_lifted b n (items buffers i) os ≡ true
  pub pending : pending_ok b n i buffers ≡ true

pub allowed : (os : List Object) (buffers : List (List Item)) (i b n align : ℕ) → is_place_allowed os buffers i b n align ≡ true → IsAllowed os buffers i b n
allowed os buffers i b n align e =
    let lifted = objects_lifted b n (slice_index_or buffers i []) os && pending_ok b n i buffers in
    let e1 = both (nat_lt 0 n) (nat_lt 0 align && ((b % align == 0) && (is_in_stacks b n && lifted))) e in
    let e2 = both (nat_lt 0 align) ((b % align == 0) && (is_in_stacks b n && lifted)) e1.1 in
    let e3 = both (b % align == 0) (is_in_stacks b n && lifted) e2.1 in
    let e4 = both (is_in_stacks b n) lifted e3.1 in
    let e5 = both (objects_lifted b n (slice_index_or buffers i []) os) (pending_ok b n i buffers) e4.1 in
    let e6 = both (nat_le 0x90000000 b) (nat_le (b + n) 0xF0000000) e4.0 in
    let lt : 0 < n = ltb-true 0 n e1.0 in
    let top : b + n ≤ 0xF0000000 = leb-true (b + n) 0xF0000000 e6.1 in
    record {
      some = lt;
      high = leb-true 0x90000000 b e6.0;
      word = omega arith;
      objects = ap (λ l. objects_lifted b n l os) (sym (index_items buffers i)) ∙ e5.0;
      pending = e5.1;
    }

module _ {State : Type 0} (l : Language State) where
  -- which ranges of memory each thread owns, and what holds of them and of the buffers
  pub record Sound (at : Places) (os : List Object) (buffers : List (List Item)) (threads : List State) : Type 0 where
    pub owned : ℕ → Range → ℕ
    pub many : length buffers ≡ length threads
    pub live : (i : ℕ) (r : Range) → 0 < owned i r → IsThere os r × (0x90000000 ≤ r.0)
    pub once : (i : ℕ) (r : Range) → owned i r ≤ 1
    pub alone : (i j : ℕ) (r : Range) → (j ≡ i → ⊥) → 0 < owned i r → owned j r ≡ 0
    pub unborn : (i : ℕ) (r : Range) → length threads ≤ i → owned i r ≡ 0
    pub plays : (i : ℕ) (s : State) → slice_get threads i ≡ Some s → Plays (items buffers i) (owned i) (λ r. count r (l.ranges s))
    pub known : (i : ℕ) (s : State) → slice_get threads i ≡ Some s → IsThread l at s
    pub clear : (i : ℕ) → Clear (items buffers i) (IsThere os)
    pub apart : (i j : ℕ) → (j ≡ i → ⊥) → Apart (items buffers i) (items buffers j)
    pub stacked : (i : ℕ) → Stacked (items buffers i)
    pub low : list_all is_low os ≡ true

  -- the oldest items are safe
  pub safe_items : (at : Places) (os : List Object) (buffers : List (List Item)) (threads : List State) → Sound at os buffers threads → (i : ℕ) (is : List Item) → items buffers i ≡ is → IsSafe os is
  safe_items at os buffers threads v i [] e = tt
  safe_items at os buffers threads v i (Put c a w ∷ is) e = tt
  safe_items at os buffers threads v i (Place b n ∷ is) e = none_met os (subst (λ x. Clear x (IsThere os)) e (v.clear i)).0
    where
      none_met : (ps : List Object) → ((r : Range) → IsThere ps r → meets r.0 r.1 b n ≡ false) → list_any (is_met b n) ps ≡ false
      none_met [] f = refl
      none_met (p ∷ ps) f =
          let here : is_met b n p ≡ false = f (p.base, p.size) (ap (λ z. z || list_any (is_at p.base p.size) ps) (same_self (p.base, p.size))) in
          ap (λ z. z || list_any (is_met b n) ps) here ∙ none_met ps (λ r h. f r (or_right (is_at r.0 r.1 p) (list_any (is_at r.0 r.1) ps) h))
  safe_items at os buffers threads v i (Lift b n ∷ is) e =
      let lt : i < length threads = omega (arith, items_within buffers i (Lift b n) is e, v.many) in
      let s = get_some threads i lt in
      let p = subst (λ x. Plays x (v.owned i) (λ r. count r (l.ranges s.0))) e (v.plays i s.0 s.1) in
      (v.live i (b, n) p.0).0

  module _ (at : Places) (os : List Object) (buffers : List (List Item)) (threads : List State) (v : Sound at os buffers threads) where
    -- a thread goes on, with items behind those of its buffer
    module _ (i : ℕ) (s : State) (g : slice_get threads i ≡ Some s) (is : List Item) (u : State) (k : IsThread l at u) (pl : Plays is (v.owned i) (λ r. count r (l.ranges u))) (cl : Clear is (IsThere os)) (mine : (j : ℕ) → (j ≡ i → ⊥) → Apart is (items buffers j)) (theirs : (j : ℕ) → (j ≡ i → ⊥) → Apart (items buffers j) is) (st : Stacked is) where
      within : i < length buffers
      within = omega (arith, slice_get_within threads i s g, v.many)

      of_items : (Q : ℕ → List Item → Type 0) → Q i is → ((j : ℕ) → (j ≡ i → ⊥) → Q j (items buffers j)) → (j : ℕ) → Q j (items (slice_set buffers i is) j)
      of_items Q a b j = go (dec_eq i j)
        where
          go : Dec (j ≡ i) → Q j (items (slice_set buffers i is) j)
          go (yes e) = subst (λ x. Q x (items (slice_set buffers i is) x)) (sym e) (subst (λ x. Q i x) (sym (items_set buffers i is within)) a)
          go (no ne) = subst (λ x. Q j x) (sym (items_other buffers i j is ne)) (b j ne)

      thread_at : (j : ℕ) (w : State) → slice_get (slice_set threads i u) j ≡ Some w → ((j ≡ i) × (u ≡ w)) ⊎ ((j ≡ i → ⊥) × (slice_get threads j ≡ Some w))
      thread_at j w e = go (dec_eq i j)
        where
          go : Dec (j ≡ i) → ((j ≡ i) × (u ≡ w)) ⊎ ((j ≡ i → ⊥) × (slice_get threads j ≡ Some w))
          go (yes f) =
              let h : slice_get (slice_set threads i u) i ≡ Some w = sym (ap (slice_get (slice_set threads i u)) f) ∙ e in
              let q = get_set threads i u s g in
              let same : u ≡ w = cc in
              inl (f, same)
          go (no ne) = inr (ne, sym (get_set_other threads i j u ne) ∙ e)

      plays_at : (j : ℕ) (w : State) → ((j ≡ i) × (u ≡ w)) ⊎ ((j ≡ i → ⊥) × (slice_get threads j ≡ Some w)) → Plays (items (slice_set buffers i is) j) (v.owned j) (λ r. count r (l.ranges w))
      plays_at j w (inl e) =
          let a = subst (λ x. Plays is (v.owned i) (λ r. count r (l.ranges x))) e.1 pl in
          let b = subst (λ x. Plays x (v.owned i) (λ r. count r (l.ranges w))) (sym (items_set buffers i is within)) a in
          subst (λ x. Plays (items (slice_set buffers i is) x) (v.owned x) (λ r. count r (l.ranges w))) (sym e.0) b
      plays_at j w (inr e) = subst (λ x. Plays x (v.owned j) (λ r. count r (l.ranges w))) (sym (items_other buffers i j is e.0)) (v.plays j w e.1)

      known_at : (j : ℕ) (w : State) → ((j ≡ i) × (u ≡ w)) ⊎ ((j ≡ i → ⊥) × (slice_get threads j ≡ Some w)) → IsThread l at w
      known_at j w (inl e) = subst (λ x. IsThread l at x) e.1 k
      known_at j w (inr e) = v.known j w e.1

      apart_at : (j m : ℕ) → (m ≡ j → ⊥) → Apart (items (slice_set buffers i is) j) (items (slice_set buffers i is) m)
      apart_at j m ne = go (dec_eq i j) (dec_eq i m)
        where
          go : Dec (j ≡ i) → Dec (m ≡ i) → Apart (items (slice_set buffers i is) j) (items (slice_set buffers i is) m)
          go (yes e) (yes f) = absurd (ne (f ∙ sym e))
          go (yes e) (no f) =
              let a = subst (λ x. Apart x (items buffers m)) (sym (items_set buffers i is within)) (mine m f) in
              let b = subst (λ x. Apart (items (slice_set buffers i is) i) x) (sym (items_other buffers i m is f)) a in
              subst (λ x. Apart (items (slice_set buffers i is) x) (items (slice_set buffers i is) m)) (sym e) b
          go (no e) (yes f) =
              let a = subst (λ x. Apart (items buffers j) x) (sym (items_set buffers i is within)) (theirs j e) in
              let b = subst (λ x. Apart x (items (slice_set buffers i is) i)) (sym (items_other buffers i j is e)) a in
              subst (λ x. Apart (items (slice_set buffers i is) j) (items (slice_set buffers i is) x)) (sym f) b
          go (no e) (no f) =
              let a = subst (λ x. Apart x (items buffers m)) (sym (items_other buffers i j is e)) (v.apart j m ne) in
              subst (λ x. Apart (items (slice_set buffers i is) j) x) (sym (items_other buffers i m is f)) a

      pub sound_thread : Sound at os (slice_set buffers i is) (slice_set threads i u)
      sound_thread =
          record {
            owned = v.owned;
            many = length-set buffers i is ∙ v.many ∙ sym (length-set threads i u);
            live = v.live;
            once = v.once;
            alone = v.alone;
            unborn = λ j r le. v.unborn j r (subst (λ x. x ≤ j) (length-set threads i u) le);
            plays = λ j w e. plays_at j w (thread_at j w e);
            known = λ j w e. known_at j w (thread_at j w e);
            clear = of_items (λ j x. Clear x (IsThere os)) cl (λ j ne. v.clear j);
            apart = apart_at;
            stacked = of_items (λ j x. Stacked x) st (λ j ne. v.stacked j);
            low = v.low;
          }

    -- a thread goes on, and nothing else changes
    pub sound_resume : (i : ℕ) (s : State) → slice_get threads i ≡ Some s → (u : State) → IsThread l at u → l.ranges u ≡ l.ranges s → Sound at os buffers (slice_set threads i u)
    sound_resume i s g u k e =
        let lt : i < length buffers = omega (arith, slice_get_within threads i s g, v.many) in
        let pl = subst (λ x. Plays (items buffers i) (v.owned i) (λ r. count r x)) (sym e) (v.plays i s g) in
        subst (λ x. Sound at os x (slice_set threads i u)) (set_items buffers i lt)
        (sound_thread i s g (items buffers i) u k pl (v.clear i) (λ j ne. v.apart i j ne) (λ j ne. v.apart j i (λ f. ne (sym f))) (v.stacked i))

    -- the objects change, and the ranges that are owned stay
    pub sound_objects : (ps : List Object) → ((r : Range) → 0x90000000 ≤ r.0 → IsThere os r → IsThere ps r) → ((i : ℕ) → Clear (items buffers i) (IsThere ps)) → list_all is_low ps ≡ true → Sound at ps buffers threads
    sound_objects ps keeps cl low =
        record {
          owned = v.owned;
          many = v.many;
          live = λ i r h. let a = v.live i r h in (keeps r a.1 a.0, a.1);
          once = v.once;
          alone = v.alone;
          unborn = v.unborn;
          plays = v.plays;
          known = v.known;
          clear = cl;
          apart = v.apart;
          stacked = v.stacked;
          low = low;
        }

    -- a further thread
    pub sound_spawn : (u : State) → IsThread l at u → l.ranges u ≡ [] → Sound at os (buffers ++ [] ∷ []) (threads ++ u ∷ [])
    sound_spawn u k e =
        record {
          owned = v.owned;
          many = length-append buffers ([] ∷ []) ∙ ap (λ n. n + 1) v.many ∙ sym (length-append threads (u ∷ []));
          live = v.live;
          once = v.once;
          alone = v.alone;
          unborn = λ j r le. v.unborn j r (omega (arith, length-append threads (u ∷ [])));
          plays = λ j w h. plays_at j w (get_append threads u j w h);
          known = λ j w h. known_at j w (get_append threads u j w h);
          clear = λ j. subst (λ x. Clear x (IsThere os)) (sym (items_push buffers j)) (v.clear j);
          apart = λ i j ne. subst (λ x. Apart x (items (buffers ++ [] ∷ []) j)) (sym (items_push buffers i)) (subst (λ x. Apart (items buffers i) x) (sym (items_push buffers j)) (v.apart i j ne));
          stacked = λ j. subst (λ x. Stacked x) (sym (items_push buffers j)) (v.stacked j);
          low = v.low;
        }
      where
        past : (bs : List (List Item)) (j : ℕ) → length bs ≤ j → items bs j ≡ []
        past [] j le = refl
        past (b ∷ bs) zero le = absurd (omega arith)
        past (b ∷ bs) (suc j) le = let le1 : length bs ≤ j = omega arith in past bs j le1

        plays_at : (j : ℕ) (w : State) → (slice_get threads j ≡ Some w) ⊎ ((j ≡ length threads) × (u ≡ w)) → Plays (items (buffers ++ [] ∷ []) j) (v.owned j) (λ r. count r (l.ranges w))
        plays_at j w (inl h) = subst (λ x. Plays x (v.owned j) (λ r. count r (l.ranges w))) (sym (items_push buffers j)) (v.plays j w h)
        plays_at j w (inr h) =
            let le : length threads ≤ j = omega (arith, h.0) in
            let le2 : length buffers ≤ j = omega (arith, h.0, v.many) in
            let empty = items_push buffers j ∙ past buffers j le2 in
            let none : l.ranges w ≡ [] = ap l.ranges (sym h.1) ∙ e in
            subst (λ x. Plays x (v.owned j) (λ r. count r (l.ranges w))) (sym empty) (λ r. v.unborn j r le ∙ sym (ap (count r) none))

        known_at : (j : ℕ) (w : State) → (slice_get threads j ≡ Some w) ⊎ ((j ≡ length threads) × (u ≡ w)) → IsThread l at w
        known_at j w (inl h) = v.known j w h
        known_at j w (inr h) = subst (λ x. IsThread l at x) h.1 k

    -- the oldest item of a buffer reaches memory: the objects and what its thread owns change
    module _ (i : ℕ) (x : Item) (rest : List Item) (e : items buffers i ≡ x ∷ rest) (ps : List Object) (own : Range → ℕ) where
      pub record Drains : Type 0 where
        pub live : (r : Range) → 0 < own r → IsThere ps r × (0x90000000 ≤ r.0)
        pub keeps : (j : ℕ) → (j ≡ i → ⊥) → (r : Range) → 0 < v.owned j r → IsThere ps r
        pub once : (r : Range) → own r ≤ 1
        pub mine : (j : ℕ) → (j ≡ i → ⊥) → (r : Range) → 0 < own r → v.owned j r ≡ 0
        pub theirs : (j : ℕ) → (j ≡ i → ⊥) → (r : Range) → 0 < v.owned j r → own r ≡ 0
        pub plays : (s : State) → slice_get threads i ≡ Some s → Plays rest own (λ r. count r (l.ranges s))
        pub clear_rest : Clear rest (IsThere ps)
        pub clear_others : (j : ℕ) → (j ≡ i → ⊥) → Clear (items buffers j) (IsThere ps)
        pub low : list_all is_low ps ≡ true

      pub sound_drain : Drains → Sound at ps (slice_set buffers i rest) threads
      sound_drain d =
          record {
            owned = at_one v.owned i own;
            many = length-set buffers i rest ∙ v.many;
            live = λ j r. of_owned (λ y m. 0 < m r → IsThere ps r × (0x90000000 ≤ r.0)) (d.live r) (λ y ne h. (d.keeps y ne r h, (v.live y r h).1)) j;
            once = λ j r. of_owned (λ y m. m r ≤ 1) (d.once r) (λ y ne. v.once y r) j;
            alone = alone;
            unborn = λ j r le. of_owned (λ y m. length threads ≤ y → m r ≡ 0) (λ h. absurd (omega (arith, items_within buffers i x rest e, v.many))) (λ y ne h. v.unborn y r h) j le;
            plays = λ j w h. of_both (λ y is m. slice_get threads y ≡ Some w → Plays is m (λ r. count r (l.ranges w))) (d.plays w) (λ y ne. v.plays y w) j h;
            known = v.known;
            clear = of_buffers (λ y is. Clear is (IsThere ps)) d.clear_rest d.clear_others;
            apart = apart;
            stacked = of_buffers (λ y is. Stacked is) (stacked_tail x rest (subst (λ z. Stacked z) e (v.stacked i))) (λ y ne. v.stacked y);
            low = d.low;
          }
        where
          lt : i < length buffers
          lt = items_within buffers i x rest e

          of_owned : (Q : ℕ → (Range → ℕ) → Type 0) → Q i own → ((j : ℕ) → (j ≡ i → ⊥) → Q j (v.owned j)) → (j : ℕ) → Q j (at_one v.owned i own j)
          of_owned Q a b j = go (dec_eq i j)
            where
              go : Dec (j ≡ i) → Q j (at_one v.owned i own j)
              go (yes f) = subst (λ z. Q z (at_one v.owned i own z)) (sym f) (subst (λ z. Q i z) (sym (at_same v.owned i own)) a)
              go (no ne) = subst (λ z. Q j z) (sym (at_other v.owned i own j ne)) (b j ne)

          of_buffers : (Q : ℕ → List Item → Type 0) → Q i rest → ((j : ℕ) → (j ≡ i → ⊥) → Q j (items buffers j)) → (j : ℕ) → Q j (items (slice_set buffers i rest) j)
          of_buffers Q a b j = go (dec_eq i j)
            where
              go : Dec (j ≡ i) → Q j (items (slice_set buffers i rest) j)
              go (yes f) = subst (λ z. Q z (items (slice_set buffers i rest) z)) (sym f) (subst (λ z. Q i z) (sym (items_set buffers i rest lt)) a)
              go (no ne) = subst (λ z. Q j z) (sym (items_other buffers i j rest ne)) (b j ne)

          of_both : (Q : ℕ → List Item → (Range → ℕ) → Type 0) → Q i rest own → ((j : ℕ) → (j ≡ i → ⊥) → Q j (items buffers j) (v.owned j)) → (j : ℕ) → Q j (items (slice_set buffers i rest) j) (at_one v.owned i own j)
          of_both Q a b j = go (dec_eq i j)
            where
              go : Dec (j ≡ i) → Q j (items (slice_set buffers i rest) j) (at_one v.owned i own j)
              go (yes f) =
                  let a1 = subst (λ z. Q i z own) (sym (items_set buffers i rest lt)) a in
                  let a2 = subst (λ z. Q i (items (slice_set buffers i rest) i) z) (sym (at_same v.owned i own)) a1 in
                  subst (λ z. Q z (items (slice_set buffers i rest) z) (at_one v.owned i own z)) (sym f) a2
              go (no ne) =
                  let b1 = subst (λ z. Q j z (v.owned j)) (sym (items_other buffers i j rest ne)) (b j ne) in
                  subst (λ z. Q j (items (slice_set buffers i rest) j) z) (sym (at_other v.owned i own j ne)) b1

          alone : (j m : ℕ) (r : Range) → (m ≡ j → ⊥) → 0 < at_one v.owned i own j r → at_one v.owned i own m r ≡ 0
          alone j m r ne = go (dec_eq i j) (dec_eq i m)
            where
              go : Dec (j ≡ i) → Dec (m ≡ i) → 0 < at_one v.owned i own j r → at_one v.owned i own m r ≡ 0
              go (yes f) (yes h) p = absurd (ne (h ∙ sym f))
              go (yes f) (no h) p =
                  let q : 0 < own r = subst (λ z. 0 < z r) (ap (at_one v.owned i own) f ∙ at_same v.owned i own) p in
                  ap (λ z. z r) (at_other v.owned i own m h) ∙ d.mine m h r q
              go (no f) (yes h) p =
                  let q : 0 < v.owned j r = subst (λ z. 0 < z r) (at_other v.owned i own j f) p in
                  ap (λ z. z r) (ap (at_one v.owned i own) h ∙ at_same v.owned i own) ∙ d.theirs j f r q
              go (no f) (no h) p =
                  let q : 0 < v.owned j r = subst (λ z. 0 < z r) (at_other v.owned i own j f) p in
                  ap (λ z. z r) (at_other v.owned i own m h) ∙ v.alone j m r ne q

          apart : (j m : ℕ) → (m ≡ j → ⊥) → Apart (items (slice_set buffers i rest) j) (items (slice_set buffers i rest) m)
          apart j m ne = go (dec_eq i j) (dec_eq i m)
            where
              go : Dec (j ≡ i) → Dec (m ≡ i) → Apart (items (slice_set buffers i rest) j) (items (slice_set buffers i rest) m)
              go (yes f) (yes h) = absurd (ne (h ∙ sym f))
              go (yes f) (no h) =
                  let a = apart_tail x rest (items buffers m) (subst (λ z. Apart z (items buffers m)) e (v.apart i m h)) in
                  let a1 = subst (λ z. Apart z (items buffers m)) (sym (items_set buffers i rest lt)) a in
                  let a2 = subst (λ z. Apart (items (slice_set buffers i rest) i) z) (sym (items_other buffers i m rest h)) a1 in
                  subst (λ z. Apart (items (slice_set buffers i rest) z) (items (slice_set buffers i rest) m)) (sym f) a2
              go (no f) (yes h) =
                  let a = apart_rest (items buffers j) x rest (subst (λ z. Apart (items buffers j) z) e (v.apart j i (λ y. f (sym y)))) in
                  let a1 = subst (λ z. Apart (items buffers j) z) (sym (items_set buffers i rest lt)) a in
                  let a2 = subst (λ z. Apart z (items (slice_set buffers i rest) i)) (sym (items_other buffers i j rest f)) a1 in
                  subst (λ z. Apart (items (slice_set buffers i rest) j) (items (slice_set buffers i rest) z)) (sym h) a2
              go (no f) (no h) =
                  let a = subst (λ z. Apart z (items buffers m)) (sym (items_other buffers i j rest f)) (v.apart j m ne) in
                  subst (λ z. Apart (items (slice_set buffers i rest) j) z) (sym (items_other buffers i m rest h)) a
