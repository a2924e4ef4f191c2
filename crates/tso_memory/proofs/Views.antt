-- The view, item by item: its objects, the object with a range, and one cell.
use Rattle.std.proofs.Common.{◌≡◌, ℕ, zero, suc, ◌+◌, ◌-◌, ◌%◌, ◌<◌, ◌≤◌, Bool, true, false, not, List, [], ◌∷◌, ◌++◌, length, get_or, take, drop, replicate, Option, Some, None, refl, sym, ap, ◌∙◌, arith, if◌then◌else◌, ◌&&◌, ◌||◌, nat_le, nat_lt, cond, is_some}
use Rattle.std.specs.List.{find, filter, list_any, list_all}
use Rattle.std.proofs.lemmas.List.{get_or_append_left, take_more, drop_more, drop_all, drop-take, take-append-drop}
use Rattle.std.proofs.Math.Bool.{and_assoc}
use Rattle.std.proofs.lemmas.Bool.{leb-true, eq-eqb, cond-true, cond-false, and_parts, and_from, or_parts, false≢true, true≢false}
use Rattle.std.proofs.lemmas.Bool.Decides.{nat_tests}
use Rattle.tso_words.specs.declared.value.Val.{Val}
use Rattle.tso_words.specs.declared.value.Val.TheVariants.{Undef, Word}
use Rattle.tso_words.specs.declared.value.Cell.{Cell}
use Rattle.tso_words.specs.declared.value.Cell.TheVariants.{Blank}
use Rattle.tso_words.specs.declared.value.Chunk.{Chunk}
use Rattle.tso_words.specs.Words.{chunk_size, byte_of, bytes_of, value_of}
use Rattle.tso_memory.specs.declared.object.Object.{Object}
use Rattle.tso_memory.specs.declared.buffer.Item.{Item}
use Rattle.tso_memory.specs.declared.buffer.Item.TheVariants.{Put, Place, Lift}
use Rattle.tso_memory.specs.Memory.{MemoryMeaning, IsApart, AreObjects, holds, is_in, is_live, is_met, is_at, meets, is_right, unmet, lifted, inserted, added, only, cells_put, value_at}
use Rattle.tso_memory.specs.Buffer.{local, applied, and_then, view, loaded, IsSoundItem, AreSoundItems}
use Rattle.tso_memory.specs.Kept.{Kept, kept_at, memory_of}
use Rattle.tso_memory.specs.Through.{objects_at, objects_after, is_right_item, is_store, all_right, unless, holder_after, holder_through, cell_after, cell_through}
use Rattle.tso_memory.proofs.ObjectLists.{find_above, is_some-find, kept_known, size_positive, loaded_one, loaded_two, loaded_four}
use Rattle.tso_memory.proofs.KeptMemory.{AreObjects-filter, AreObjects-inserted, IsApart-unmet, is_live-inserted, live_filtered, get_or-bytes_of, length-bytes_of}

-- one byte of the four cells of a store
pub stored_byte : (c : Chunk) (v : Val) (k r : ℕ) → k < chunk_size c → get_or (bytes_of c v ++ replicate r Blank) k Blank ≡ byte_of v k
stored_byte c v k r h = get_or_append_left (bytes_of c v) (replicate r Blank) Blank k (rw (length-bytes_of c v) h) ∙ get_or-bytes_of c v k h

-- the object with a range, after some objects end and after one begins
find-filter : (t : Object → Bool) (low base size : ℕ) (os : List Object) → AreObjects low os → 1 ≤ size → find (λ o. holds o base size) (filter (λ o. not (t o)) os) ≡ unless t (find (λ o. holds o base size) os)
find-filter t low base size [] h s = refl
find-filter t low base size (o ∷ os) h s =
    by_tests (holds o base size) (t o) refl refl (find-filter t (o.base + o.size) base size os h.2 s) (λ e. gone (inside o.base o.size e))
  where
    inside : (b n : ℕ) → (nat_le b base && nat_le (base + size) (b + n)) ≡ true → base < b + n
    inside b n e = let last : base + size ≤ b + n = leb-true (base + size) (b + n) (and_parts (nat_le b base) (nat_le (base + size) (b + n)) e).1 in omega arith

    gone : base < o.base + o.size → None ≡ find (λ o. holds o base size) (filter (λ o. not (t o)) os)
    gone l = find_above (o.base + o.size) (filter (λ o. not (t o)) os) base size (AreObjects-filter (λ o. not (t o)) (o.base + o.size) os h.2) l

    by_tests : (b d : Bool) → holds o base size ≡ b → t o ≡ d → find (λ o. holds o base size) (filter (λ o. not (t o)) os) ≡ unless t (find (λ o. holds o base size) os) → (holds o base size ≡ true → None ≡ find (λ o. holds o base size) (filter (λ o. not (t o)) os)) → find (λ o. holds o base size) (cond (not d) (o ∷ filter (λ o. not (t o)) os) (filter (λ o. not (t o)) os)) ≡ unless t (cond b (Some o) (find (λ o. holds o base size) os))
    by_tests true true e g ih gone_then = rw g (sym (gone_then e))
    by_tests true false e g ih gone_then = rw (g, e) refl
    by_tests false true e g ih gone_then = ih
    by_tests false false e g ih gone_then = rw e ih

find-inserted : (o : Object) (base size : ℕ) (os : List Object) → IsApart o.base o.size os → 1 ≤ size → find (λ p. holds p base size) (inserted o os) ≡ (if holds o base size then Some o else find (λ p. holds p base size) os)
find-inserted o base size [] a s = refl
find-inserted o base size (p ∷ ps) a s =
    let parts = or_parts (meets p.base p.size o.base o.size) (list_any (is_met o.base o.size) ps) a in
    by_tests (nat_lt p.base o.base) (holds p base size) (holds o base size) refl refl (find-inserted o base size ps parts.1 s) (λ e f. apart p.base p.size o.base o.size parts.0 e f)
  where
    apart : (b n c k : ℕ) → meets b n c k ≡ false → (nat_le b base && nat_le (base + size) (b + n)) ≡ true → (nat_le c base && nat_le (base + size) (c + k)) ≡ true → ⊥
    apart b n c k m e f = grind (arith, nat_tests)

    by_tests : (b d e : Bool) → holds p base size ≡ d → holds o base size ≡ e → find (λ p. holds p base size) (inserted o ps) ≡ (if e then Some o else find (λ p. holds p base size) ps) → (holds p base size ≡ true → holds o base size ≡ true → ⊥) → find (λ p. holds p base size) (cond b (p ∷ inserted o ps) (o ∷ p ∷ ps)) ≡ (if e then Some o else cond d (Some p) (find (λ p. holds p base size) ps))
    by_tests true true true f g ih clash = absurd (clash f g)
    by_tests true true false f g ih clash = rw f refl
    by_tests true false true f g ih clash = rw f ih
    by_tests true false false f g ih clash = rw f ih
    by_tests false d true f g ih clash = rw g refl
    by_tests false d false f g ih clash = rw (g, f) refl

pub AreObjects-at : (i : Item) (os : List Object) → AreObjects 0 os → IsSoundItem i → AreObjects 0 (objects_at i os)
AreObjects-at (Put c a v) os h s = h
AreObjects-at (Place base size) os h s = AreObjects-inserted 0 (local base size) (unmet base size os) (AreObjects-filter (λ o. not (is_met base size o)) 0 os h) (omega arith) s (IsApart-unmet base size os)
AreObjects-at (Lift base size) os h s = AreObjects-filter (λ o. not (is_at base size o)) 0 os h

pub AreObjects-after : (is : List Item) (os : List Object) → AreObjects 0 os → AreSoundItems is → AreObjects 0 (objects_after os is)
AreObjects-after [] os h s = h
AreObjects-after (i ∷ is) os h s = AreObjects-after is (objects_at i os) (AreObjects-at i os h s.0) s.1

find-at : (i : Item) (base size : ℕ) (os : List Object) → AreObjects 0 os → IsSoundItem i → 1 ≤ size → find (λ o. holds o base size) (objects_at i os) ≡ holder_after i base size (find (λ o. holds o base size) os)
find-at (Put c a v) base size os h s n = refl
find-at (Place b k) base size os h s n = find-inserted (local b k) base size (unmet b k os) (IsApart-unmet b k os) n ∙ ap (λ z. if holds (local b k) base size then Some (local b k) else z) (find-filter (is_met b k) 0 base size os h n)
find-at (Lift b k) base size os h s n = find-filter (is_at b k) 0 base size os h n

pub find-after : (is : List Item) (base size : ℕ) (os : List Object) → AreObjects 0 os → AreSoundItems is → 1 ≤ size → find (λ o. holds o base size) (objects_after os is) ≡ holder_through is base size (find (λ o. holds o base size) os)
find-after [] base size os h s n = refl
find-after (i ∷ is) base size os h s n = find-after is base size (objects_at i os) (AreObjects-at i os h s.0) s.1 n ∙ ap (holder_through is base size) (find-at i base size os h s.0 n)

-- an access is right just where some object has its range
pub right_behind : (os : List Object) (is : List Item) (c : Chunk) (v : Val) (a n : ℕ) (holder : Option Object) → AreObjects 0 os → AreSoundItems is → v ≡ Word a → n ≡ chunk_size c → a % n ≡ 0 → holder ≡ holder_through is a n (find (λ o. holds o a n) os) → is_some holder ≡ is_right (objects_after os is) c v
right_behind os is c v a n holder h s e f g p =
    rw (e, ← f) (rw (eq-eqb (a % n) 0 g) (ap is_some (p ∙ sym (find-after is a n os h s (rw f (size_positive c)))) ∙ is_some-find (λ o. holds o a n) (objects_after os is)))

-- a walk over the items, at its end
pub holder_end : (is : List Item) (k base size : ℕ) (h g : Option Object) → length is ≤ k → holder_through (drop k is) base size h ≡ g → h ≡ g
holder_end is k base size h g l e = sym (ap (λ z. holder_through z base size h) (drop_all k is l)) ∙ e

pub cell_put_byte : (c : Chunk) (addr v : Val) (a x n r : ℕ) (bytes : List Cell) (cell : Cell) → addr ≡ Word a → a ≤ x → x - a < n → n ≡ chunk_size c → bytes ≡ bytes_of c v ++ replicate r Blank → get_or bytes (x - a) Blank ≡ cell_after (Put c addr v) x cell
cell_put_byte c addr v a x n r bytes cell e l h f g =
    rw (e, g) (stored_byte c v (x - a) r (rw (← f) h) ∙ sym (cond-true (is_in a (chunk_size c) x) (byte_of v (x - a)) cell (inside a (chunk_size c) x l (rw (← f) h))))
  where
    inside : (a n x : ℕ) → a ≤ x → x - a < n → is_in a n x ≡ true
    inside a n x l h = let m : x < a + n = omega arith in grind (arith, nat_tests)

-- one item more at the end
pub objects_after-push : (is : List Item) (i : Item) (os : List Object) → objects_after os (is ++ i ∷ []) ≡ objects_at i (objects_after os is)
objects_after-push [] i os = refl
objects_after-push (j ∷ is) i os = objects_after-push is i (objects_at j os)

pub all_right_more : (items : List Item) (k : ℕ) (os : List Object) (d : Item) → k < length items → all_right (objects_after os (take k items)) (drop k items) ≡ (is_right_item (objects_after os (take k items)) (get_or items k d) && all_right (objects_after os (take (k + 1) items)) (drop (k + 1) items))
all_right_more items k os d h =
    ap (all_right (objects_after os (take k items))) (drop_more items k d h) ∙ ap (λ z. is_right_item (objects_after os (take k items)) (get_or items k d) && all_right z (drop (k + 1) items)) (sym (ap (objects_after os) (take_more items k d h) ∙ objects_after-push (take k items) (get_or items k d) os))

pub AreSoundItems-take : (is : List Item) (k : ℕ) → AreSoundItems is → AreSoundItems (take k is)
AreSoundItems-take [] zero h = tt
AreSoundItems-take [] (suc k) h = tt
AreSoundItems-take (i ∷ is) zero h = tt
AreSoundItems-take (i ∷ is) (suc k) h = (h.0, AreSoundItems-take is k h.1)

-- one item more is tried, among objects that are those behind the items in front of it
pub all_right_step : (items : List Item) (k : ℕ) (os here : List Object) (d : Item) (b : Bool) → k < length items → here ≡ objects_after os (take k items) → is_right_item here (get_or items k d) ≡ b → all_right (objects_after os (take k items)) (drop k items) ≡ all_right os items → (b && all_right (objects_after os (take (k + 1) items)) (drop (k + 1) items)) ≡ all_right os items
all_right_step items k os here d b h f e g = sym (all_right_more items k os d h ∙ ap (λ z. z && all_right (objects_after os (take (k + 1) items)) (drop (k + 1) items)) (ap (λ z. is_right_item z (get_or items k d)) (sym f) ∙ e)) ∙ g

-- the stores in front of other items leave the objects
objects_after-front : (is : List Item) (n front : ℕ) (os : List Object) → n ≤ front → list_all is_store (take front is) ≡ true → objects_after os (drop n is) ≡ objects_after os is
objects_after-front is zero front os h e = refl
objects_after-front [] (suc n) front os h e = refl
objects_after-front (i ∷ is) (suc n) zero os h e = absurd (by_order h)
  where
    by_order : suc n ≤ 0 → ⊥
    by_order h = omega (arith, h)
objects_after-front (Put c a v ∷ is) (suc n) (suc front) os h e = objects_after-front is n front os (omega (arith, h)) e
objects_after-front (Place b k ∷ is) (suc n) (suc front) os h e = absurd (false≢true e)
objects_after-front (Lift b k ∷ is) (suc n) (suc front) os h e = absurd (false≢true e)

-- so a walk up to an item may begin behind some of them
pub objects_after-between : (is : List Item) (n k front : ℕ) (os : List Object) → n ≤ k → n ≤ front → list_all is_store (take front is) ≡ true → objects_after os (take (k - n) (drop n is)) ≡ objects_after os (take k is)
objects_after-between is n k front os h l e =
    let whole : n + (k - n) ≡ k = omega (arith, h) in
    ap (objects_after os) (sym (drop-take n (k - n) is) ∙ ap (λ z. drop n (take z is)) whole) ∙ objects_after-front (take k is) n front os l (all_before is front k e)
  where
    all_before : (is : List Item) (front k : ℕ) → list_all is_store (take front is) ≡ true → list_all is_store (take front (take k is)) ≡ true
    all_before is zero k e = refl
    all_before [] (suc front) zero e = refl
    all_before [] (suc front) (suc k) e = refl
    all_before (i ∷ is) (suc front) zero e = refl
    all_before (i ∷ is) (suc front) (suc k) e =
        let parts = and_parts (is_store i) (list_all is_store (take front is)) e in
        and_from (is_store i) (list_all is_store (take front (take k is))) parts.0 (all_before is front k parts.1)

all_right-append : (os : List Object) (xs ys : List Item) → all_right os (xs ++ ys) ≡ (all_right os xs && all_right (objects_after os xs) ys)
all_right-append os [] ys = refl
all_right-append os (x ∷ xs) ys = ap (λ z. is_right_item os x && z) (all_right-append (objects_at x os) xs ys) ∙ sym (and_assoc (is_right_item os x) (all_right (objects_at x os) xs) (all_right (objects_after (objects_at x os) xs) ys))

-- where those in front are right, only the others are to be tried
pub all_right-known : (os : List Object) (is : List Item) (k : ℕ) → all_right os (take k is) ≡ true → all_right (objects_after os (take k is)) (drop k is) ≡ all_right os is
all_right-known os is k e = sym (sym (ap (all_right os) (take-append-drop k is)) ∙ (all_right-append os (take k is) (drop k is) ∙ ap (λ z. z && all_right (objects_after os (take k is)) (drop k is)) e))

pub AreSoundItems-drop : (is : List Item) (k : ℕ) → AreSoundItems is → AreSoundItems (drop k is)
AreSoundItems-drop [] zero h = tt
AreSoundItems-drop [] (suc k) h = tt
AreSoundItems-drop (i ∷ is) zero h = h
AreSoundItems-drop (i ∷ is) (suc k) h = AreSoundItems-drop is k h.1

-- ---- the view

-- a memory after an item, whose objects and live cells are known
pub record IsThrough (os : List Object) (is : List Item) (m n : MemoryMeaning) : Type 0 where
  pub objects : n.objects ≡ objects_after os is
  pub cells : (x : ℕ) (cell : Cell) → (is_live os x ≡ true → m.cells x ≡ cell) → is_live n.objects x ≡ true → n.cells x ≡ cell_through is x cell

-- where one item is right, the memory after it
pub record IsAfter (m n : MemoryMeaning) (i : Item) : Type 0 where
  pub applied_is : applied m i ≡ Some n
  pub objects : n.objects ≡ objects_at i m.objects
  pub cells : (x : ℕ) (cell : Cell) → (is_live m.objects x ≡ true → m.cells x ≡ cell) → is_live n.objects x ≡ true → n.cells x ≡ cell_after i x cell

after_item : (i : Item) (m : MemoryMeaning) → is_right_item m.objects i ≡ true → (n : MemoryMeaning) × IsAfter m n i
after_item (Put c Undef v) m r = absurd (false≢true r)
after_item (Put c (Word a) v) m r = (
  record m { cells = cells_put m.cells c (Word a) v },
  record {
    applied_is = cond-true (is_right m.objects c (Word a)) (Some (record m { cells = cells_put m.cells c (Word a) v })) None r;
    objects = refl;
    cells = λ x cell known live. ap (λ z. if is_in a (chunk_size c) x then byte_of v (x - a) else z) (known live);
  },
)
after_item (Place b k) m r = (
  added (local b k) Blank (only (unmet b k m.objects) m),
  record {
    applied_is = refl;
    objects = refl;
    cells = λ x cell known live. placed (is_in b k x) x cell known (sym (is_live-inserted (local b k) (unmet b k m.objects) x) ∙ live);
  },
)
  where
    placed : (t : Bool) (x : ℕ) (cell : Cell) → (is_live m.objects x ≡ true → m.cells x ≡ cell) → (t || is_live (unmet b k m.objects) x) ≡ true → (if t then Blank else (if is_live (unmet b k m.objects) x then m.cells x else Blank)) ≡ (if t then Blank else cell)
    placed true x cell known live = refl
    placed false x cell known live = cond-true (is_live (unmet b k m.objects) x) (m.cells x) Blank live ∙ known (live_filtered (λ o. not (is_met b k o)) x m.objects live)
after_item (Lift b k) m r = (
  only (lifted b k m.objects) m,
  record {
    applied_is = refl;
    objects = refl;
    cells = λ x cell known live. cond-true (is_live (lifted b k m.objects) x) (m.cells x) Blank live ∙ known (live_filtered (λ o. not (is_at b k o)) x m.objects live);
  },
)

wrong_item : (i : Item) (m : MemoryMeaning) → is_right_item m.objects i ≡ false → applied m i ≡ None
wrong_item (Put c a v) m r = cond-false (is_right m.objects c a) (Some (record m { cells = cells_put m.cells c a v })) None r
wrong_item (Place b k) m r = absurd (true≢false r)
wrong_item (Lift b k) m r = absurd (true≢false r)

-- where each store is right in its turn there is a view, and it is known
pub view_known : (is : List Item) (m : MemoryMeaning) → all_right m.objects is ≡ true → (n : MemoryMeaning) × (view m is ≡ Some n) × IsThrough m.objects is m n
view_known [] m r = (m, refl, record { objects = refl; cells = λ x cell known live. known live })
view_known (i ∷ is) m r =
    let parts = and_parts (is_right_item m.objects i) (all_right (objects_at i m.objects) is) r in
    let first = after_item i m parts.0 in
    let rest = view_known is first.0 (ap (λ os. all_right os is) first.1.objects ∙ parts.1) in (
      rest.0,
      ap (λ o. and_then o (λ n. view n is)) first.1.applied_is ∙ rest.1,
      record {
        objects = rest.2.objects ∙ ap (λ os. objects_after os is) first.1.objects;
        cells = λ x cell known live. rest.2.cells x (cell_after i x cell) (λ e. first.1.cells x cell known e) live;
      },
    )

pub view_wrong : (is : List Item) (m : MemoryMeaning) → all_right m.objects is ≡ false → view m is ≡ None
view_wrong [] m r = absurd (true≢false r)
view_wrong (i ∷ is) m r = by_test (is_right_item m.objects i) refl r (λ first e. view_wrong is first e)
  where
    by_test : (b : Bool) → is_right_item m.objects i ≡ b → (b && all_right (objects_at i m.objects) is) ≡ false → ((n : MemoryMeaning) → all_right n.objects is ≡ false → view n is ≡ None) → and_then (applied m i) (λ n. view n is) ≡ None
    by_test false e f ih = ap (λ o. and_then o (λ n. view n is)) (wrong_item i m e)
    by_test true e f ih =
        let first = after_item i m e in
        ap (λ o. and_then o (λ n. view n is)) first.1.applied_is ∙ ih first.0 (ap (λ os. all_right os is) first.1.objects ∙ f)

-- so there is a view just where each store is right in its turn
pub is_some-view : (m : MemoryMeaning) (is : List Item) → is_some (view m is) ≡ all_right m.objects is
is_some-view m is = by_test (all_right m.objects is) refl
  where
    by_test : (b : Bool) → all_right m.objects is ≡ b → is_some (view m is) ≡ b
    by_test true e = ap is_some (view_known is m e).1
    by_test false e = ap is_some (view_wrong is m e)

-- a load from the view, by the cells behind the items
pub view_refused : (is : List Item) (m : MemoryMeaning) (c : Chunk) (v : Val) → all_right m.objects is ≡ false → loaded (view m is) c v ≡ None
view_refused is m c v e = ap (λ o. loaded o c v) (view_wrong is m e)

pub load_refused : (is : List Item) (m : MemoryMeaning) (c : Chunk) (v : Val) → all_right m.objects is ≡ true → is_right (objects_after m.objects is) c v ≡ false → loaded (view m is) c v ≡ None
load_refused is m c v e f =
    let known = view_known is m e in
    ap (λ o. loaded o c v) known.1 ∙ cond-false (is_right known.0.objects c v) (Some (value_at known.0.cells c v)) None (ap (λ os. is_right os c v) known.2.objects ∙ f)

module _ (is : List Item) (k : Kept) (c : Chunk) (v r : Val) (x : ℕ) (e : v ≡ Word x) (all : all_right k.objects is ≡ true) (right : is_right (objects_after k.objects is) c v ≡ true) where
  abbrev known : (n : MemoryMeaning) × (view (memory_of k) is ≡ Some n) × IsThrough k.objects is (memory_of k) n
  known = view_known is (memory_of k) all

  right_there : is_right known.0.objects c v ≡ true
  right_there = ap (λ os. is_right os c v) known.2.objects ∙ right

  cells_there : (y : ℕ) → is_live known.0.objects y ≡ true → known.0.cells y ≡ cell_through is y (kept_at k y)
  cells_there y live = known.2.cells y (kept_at k y) (kept_known k y) live

  pub view_one : (a : Cell) → chunk_size c ≡ 1 → a ≡ cell_through is x (kept_at k x) → r ≡ value_of c (a ∷ []) → loaded (view (memory_of k) is) c v ≡ Some r
  view_one a z p q = ap (λ o. loaded o c v) known.1 ∙ loaded_one known.0 (λ y. cell_through is y (kept_at k y)) cells_there c v r x a e right_there z p q

  pub view_two : (a b : Cell) → chunk_size c ≡ 2 → a ≡ cell_through is x (kept_at k x) → b ≡ cell_through is (x + 1) (kept_at k (x + 1)) → r ≡ value_of c (a ∷ b ∷ []) → loaded (view (memory_of k) is) c v ≡ Some r
  view_two a b z p p2 q = ap (λ o. loaded o c v) known.1 ∙ loaded_two known.0 (λ y. cell_through is y (kept_at k y)) cells_there c v r x a b e right_there z p p2 q

  pub view_four : (a b g h : Cell) → chunk_size c ≡ 4 → a ≡ cell_through is x (kept_at k x) → b ≡ cell_through is (x + 1) (kept_at k (x + 1)) → g ≡ cell_through is (x + 2) (kept_at k (x + 2)) → h ≡ cell_through is (x + 3) (kept_at k (x + 3)) → r ≡ value_of c (a ∷ b ∷ g ∷ h ∷ []) → loaded (view (memory_of k) is) c v ≡ Some r
  view_four a b g h z p p2 p3 p4 q = ap (λ o. loaded o c v) known.1 ∙ loaded_four known.0 (λ y. cell_through is y (kept_at k y)) cells_there c v r x a b g h e right_there z p p2 p3 p4 q
