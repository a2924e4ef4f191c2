-- Laws of memory and of the view, for the crates above.
use Rattle.std.proofs.Common.{◌≡◌, ℕ, zero, suc, ◌+◌, ◌-◌, ◌%◌, ◌<◌, ◌≤◌, Bool, true, false, not, List, [], ◌∷◌, ◌++◌, length, take, Option, Some, None, refl, sym, ap, ◌∙◌, inl, inr, ◌⊎◌, arith, if◌then◌else◌, ◌&&◌, ◌||◌, ◌==◌, nat_lt}
use Rattle.std.specs.List.{filter, list_any}
use Rattle.std.proofs.lemmas.Bool.{cond-true, cond-false, cond_both, and_parts, and_from, or_cases, or_left, or_right, false≢true}
use Rattle.std.proofs.lemmas.Bool.Decides.{nat_tests}
use Rattle.std.proofs.lemmas.List.{take-append-le}
use Rattle.tso_words.specs.declared.value.Val.{Val}
use Rattle.tso_words.specs.declared.value.Val.TheVariants.{Undef, Word}
use Rattle.tso_words.specs.declared.value.Cell.{Cell}
use Rattle.tso_words.specs.declared.value.Cell.TheVariants.{Blank}
use Rattle.tso_words.specs.declared.value.Chunk.{Chunk}
use Rattle.tso_words.specs.Words.{chunk_size, byte_of, bytes_of, bytes_from, value_of}
use Rattle.tso_memory.specs.declared.object.Object.{Object}
use Rattle.tso_memory.specs.declared.buffer.Item.{Item}
use Rattle.tso_memory.specs.declared.buffer.Item.TheVariants.{Put, Place, Lift}
use Rattle.tso_memory.specs.Memory.{MemoryMeaning, holds, is_in, is_live, is_met, is_at, is_right, cells_from, value_at, load, cells_put, put, only, inserted, added, unmet, lifted}
use Rattle.tso_memory.specs.Buffer.{local, applied, and_then, view, loaded}
use Rattle.tso_memory.specs.Through.{objects_at, is_right_item, is_store, all_right}
use Rattle.tso_memory.proofs.ObjectLists.{cells_from-same, live_held}

-- ---- a load after a store

-- byte by byte: a cell of the range has the byte of the value, any other is as it was
pub cell-put_inside : (cells : ℕ → Cell) (c : Chunk) (a : ℕ) (v : Val) (x : ℕ) → a ≤ x → x < a + chunk_size c → cells_put cells c (Word a) v x ≡ byte_of v (x - a)
cell-put_inside cells c a v x l h = cond-true (is_in a (chunk_size c) x) (byte_of v (x - a)) (cells x) (inside a (chunk_size c) x l h)
  where
    inside : (a n x : ℕ) → a ≤ x → x < a + n → is_in a n x ≡ true
    inside a n x l h = grind (arith, nat_tests)

pub cell-put_outside : (cells : ℕ → Cell) (c : Chunk) (a : ℕ) (v : Val) (x : ℕ) → (x < a) ⊎ (a + chunk_size c ≤ x) → cells_put cells c (Word a) v x ≡ cells x
cell-put_outside cells c a v x h = cond-false (is_in a (chunk_size c) x) (byte_of v (x - a)) (cells x) (outside a (chunk_size c) x h)
  where
    outside : (a n x : ℕ) → (x < a) ⊎ (a + n ≤ x) → is_in a n x ≡ false
    outside a n x (inl h) = grind (arith, nat_tests)
    outside a n x (inr h) = grind (arith, nat_tests)

-- the cells that a store leaves are the bytes of its value
cells_from-put_from : (cells : ℕ → Cell) (c : Chunk) (a : ℕ) (v : Val) (i n : ℕ) → i + n ≤ chunk_size c → cells_from (cells_put cells c (Word a) v) (a + i) n ≡ bytes_from v i n
cells_from-put_from cells c a v i zero h = refl
cells_from-put_from cells c a v i (suc n) h =
    let place : (a + i) - a ≡ i = omega arith in
    let next : suc (a + i) ≡ a + suc i = omega arith in
    let here : cells_put cells c (Word a) v (a + i) ≡ byte_of v i = cell-put_inside cells c a v (a + i) (omega arith) (omega arith) ∙ ap (byte_of v) place in
    let rest : cells_from (cells_put cells c (Word a) v) (suc (a + i)) n ≡ bytes_from v (suc i) n = ap (λ x. cells_from (cells_put cells c (Word a) v) x n) next ∙ cells_from-put_from cells c a v (suc i) n (omega arith) in
    cc

-- of the same bytes: the value, as the chunk keeps it
pub load-put_same : (m n : MemoryMeaning) (c d : Chunk) (addr v : Val) → chunk_size d ≡ chunk_size c → put m c addr v ≡ Some n → load n d addr ≡ Some (value_of d (bytes_of c v))
load-put_same m n c d Undef v s e = elim (none_some e) [ ]
  where
    none_some : {n : MemoryMeaning} → ◌≡◌ {A = Option MemoryMeaning} None (Some n) → ⊥
    none_some e = cc
load-put_same m n c d (Word a) v s e =
    by_test (is_right m.objects c (Word a)) refl e
  where
    same_bytes : cells_from (cells_put m.cells c (Word a) v) a (chunk_size d) ≡ bytes_of c v
    same_bytes = let z : a ≡ a + 0 = omega arith in ap (λ k. cells_from (cells_put m.cells c (Word a) v) a k) s ∙ (ap (λ x. cells_from (cells_put m.cells c (Word a) v) x (chunk_size c)) z ∙ cells_from-put_from m.cells c a v 0 (chunk_size c) (omega arith))

    by_test : (b : Bool) → is_right m.objects c (Word a) ≡ b → (if b then Some (record m { cells = cells_put m.cells c (Word a) v }) else None) ≡ Some n → load n d (Word a) ≡ Some (value_of d (bytes_of c v))
    by_test true r e =
        let after : MemoryMeaning = record m { cells = cells_put m.cells c (Word a) v } in
        let n_is : n ≡ after = sym (some_same _ _ e) in
        ap (λ w. load w d (Word a)) n_is ∙ (cond-true (is_right m.objects d (Word a)) (Some (value_at (cells_put m.cells c (Word a) v) d (Word a))) None (ap (λ k. (a % k == 0) && list_any (λ o. holds o a k) m.objects) s ∙ r) ∙ ap (λ l. Some (value_of d l)) same_bytes)
      where
        some_same : (x y : MemoryMeaning) → Some x ≡ Some y → x ≡ y
        some_same x y e = cc
    by_test false r e = absurd (none_some e)
      where
        none_some : ◌≡◌ {A = Option MemoryMeaning} None (Some n) → ⊥
        none_some e = cc

-- of other bytes: as before
pub load-put_elsewhere : (m n : MemoryMeaning) (c d : Chunk) (a x : ℕ) (v : Val) → put m c (Word a) v ≡ Some n → (x + chunk_size d ≤ a) ⊎ (a + chunk_size c ≤ x) → load n d (Word x) ≡ load m d (Word x)
load-put_elsewhere m n c d a x v e apart = by_test (is_right m.objects c (Word a)) e
  where
    same_bytes : cells_from (cells_put m.cells c (Word a) v) x (chunk_size d) ≡ cells_from m.cells x (chunk_size d)
    same_bytes = cells_from-same (cells_put m.cells c (Word a) v) m.cells x (chunk_size d) (λ y l h. cell-put_outside m.cells c a v y (beside y l h apart))
      where
        beside : (y : ℕ) → x ≤ y → y < x + chunk_size d → (x + chunk_size d ≤ a) ⊎ (a + chunk_size c ≤ x) → (y < a) ⊎ (a + chunk_size c ≤ y)
        beside y l h (inl p) = inl (omega arith)
        beside y l h (inr p) = inr (omega arith)

    by_test : (b : Bool) → (if b then Some (record m { cells = cells_put m.cells c (Word a) v }) else None) ≡ Some n → load n d (Word x) ≡ load m d (Word x)
    by_test true e =
        let after : MemoryMeaning = record m { cells = cells_put m.cells c (Word a) v } in
        let n_is : n ≡ after = sym (some_same _ _ e) in
        ap (λ w. load w d (Word x)) n_is ∙ ap (λ l. if is_right m.objects d (Word x) then Some (value_of d l) else None) same_bytes
      where
        some_same : (x y : MemoryMeaning) → Some x ≡ Some y → x ≡ y
        some_same x y e = cc
    by_test false e = absurd (none_some e)
      where
        none_some : ◌≡◌ {A = Option MemoryMeaning} None (Some n) → ⊥
        none_some e = cc

-- ---- the view

-- applying items in order is a fold
pub view-append : (m : MemoryMeaning) (xs ys : List Item) → view m (xs ++ ys) ≡ and_then (view m xs) (λ n. view n ys)
view-append m [] ys = refl
view-append m (x ∷ xs) ys = after (applied m x) (λ n. view-append n xs ys)
  where
    after : (o : Option MemoryMeaning) → ((n : MemoryMeaning) → view n (xs ++ ys) ≡ and_then (view n xs) (λ n. view n ys)) → and_then o (λ n. view n (xs ++ ys)) ≡ and_then (and_then o (λ n. view n xs)) (λ n. view n ys)
    after None h = refl
    after (Some n) h = h n

-- a pushed item is applied last
pub view-push : (m : MemoryMeaning) (xs : List Item) (i : Item) → view m (xs ++ i ∷ []) ≡ and_then (view m xs) (λ n. applied n i)
view-push m xs i = view-append m xs (i ∷ []) ∙ after (view m xs)
  where
    alone : (o : Option MemoryMeaning) → and_then o (λ n. Some n) ≡ o
    alone None = refl
    alone (Some n) = refl

    after : (o : Option MemoryMeaning) → and_then o (λ n. view n (i ∷ [])) ≡ and_then o (λ n. applied n i)
    after None = refl
    after (Some n) = alone (applied n i)

-- draining the oldest item does not change the own view
pub view-drained : (m n : MemoryMeaning) (i : Item) (is : List Item) → applied m i ≡ Some n → view m (i ∷ is) ≡ view n is
view-drained m n i is e = ap (λ o. and_then o (λ n. view n is)) e

-- a load sees the newest own store
pub loaded-newest : (m n : MemoryMeaning) (xs : List Item) (c d : Chunk) (addr v : Val) → chunk_size d ≡ chunk_size c → view m (xs ++ Put c addr v ∷ []) ≡ Some n → loaded (view m (xs ++ Put c addr v ∷ [])) d addr ≡ Some (value_of d (bytes_of c v))
loaded-newest m n xs c d addr v s e = from (view m xs) (sym (view-push m xs (Put c addr v)) ∙ e) ∙ refl
  where
    from : (o : Option MemoryMeaning) → and_then o (λ k. applied k (Put c addr v)) ≡ Some n → loaded (view m (xs ++ Put c addr v ∷ [])) d addr ≡ Some (value_of d (bytes_of c v))
    from None f = absurd (none_some f)
      where
        none_some : ◌≡◌ {A = Option MemoryMeaning} None (Some n) → ⊥
        none_some e = cc
    from (Some k) f = ap (λ o. loaded o d addr) e ∙ load-put_same k n c d addr v s f

-- ---- objects that begin and end

-- where an object of the range stays, a load finds what it found
pub load-only : (m : MemoryMeaning) (t : Object → Bool) (d : Chunk) (x : ℕ) → is_right (filter t m.objects) d (Word x) ≡ true → is_right m.objects d (Word x) ≡ true → load (only (filter t m.objects) m) d (Word x) ≡ load m d (Word x)
load-only m t d x r q =
    let held = (and_parts (x % chunk_size d == 0) (list_any (λ o. holds o x (chunk_size d)) (filter t m.objects)) r).1 in
    let same = cells_from-same (only (filter t m.objects) m).cells m.cells x (chunk_size d) (λ y l h. cond-true (is_live (filter t m.objects) y) (m.cells y) Blank (live_held x (chunk_size d) y (filter t m.objects) held l h)) in
    cond-true (is_right (filter t m.objects) d (Word x)) (Some (value_at (only (filter t m.objects) m).cells d (Word x))) None r ∙ (ap (λ l. Some (value_of d l)) same ∙ sym (cond-true (is_right m.objects d (Word x)) (Some (value_at m.cells d (Word x))) None q))

-- a Lift of another object
pub load-lift_elsewhere : (m : MemoryMeaning) (base size : ℕ) (d : Chunk) (x : ℕ) → is_right (lifted base size m.objects) d (Word x) ≡ true → is_right m.objects d (Word x) ≡ true → loaded (applied m (Lift base size)) d (Word x) ≡ load m d (Word x)
load-lift_elsewhere m base size d x r q = load-only m (λ o. not (is_at base size o)) d x r q

list_any-inserted : (t : Object → Bool) (o : Object) (os : List Object) → list_any t os ≡ true → list_any t (inserted o os) ≡ true
list_any-inserted t o [] h = absurd (false≢true h)
list_any-inserted t o (p ∷ ps) h =
    cond_both (nat_lt p.base o.base) (p ∷ inserted o ps) (o ∷ p ∷ ps) (λ l. list_any t l ≡ true) (λ e. elim (or_cases (t p) (list_any t ps) h) as (λ _. (t p || list_any t (inserted o ps)) ≡ true) [
      | inl a ↦ or_left (t p) (list_any t (inserted o ps)) a
      | inr a ↦ or_right (t p) (list_any t (inserted o ps)) (list_any-inserted t o ps a)
    ]) (λ e. or_right (t o) (t p || list_any t ps) h)

-- an object that begins elsewhere
pub load-added_elsewhere : (m : MemoryMeaning) (o : Object) (start : Cell) (d : Chunk) (x : ℕ) → is_right m.objects d (Word x) ≡ true → (x + chunk_size d ≤ o.base) ⊎ (o.base + o.size ≤ x) → load (added o start m) d (Word x) ≡ load m d (Word x)
load-added_elsewhere m o start d x r apart =
    let parts = and_parts (x % chunk_size d == 0) (list_any (λ o. holds o x (chunk_size d)) m.objects) r in
    let right : is_right (inserted o m.objects) d (Word x) ≡ true = and_from (x % chunk_size d == 0) (list_any (λ p. holds p x (chunk_size d)) (inserted o m.objects)) parts.0 (list_any-inserted (λ p. holds p x (chunk_size d)) o m.objects parts.1) in
    let same = cells_from-same (added o start m).cells m.cells x (chunk_size d) (λ y l h. cond-false (is_in o.base o.size y) start (m.cells y) (outside o.base o.size y l h apart)) in
    cond-true (is_right (inserted o m.objects) d (Word x)) (Some (value_at (added o start m).cells d (Word x))) None right ∙ (ap (λ l. Some (value_of d l)) same ∙ sym (cond-true (is_right m.objects d (Word x)) (Some (value_at m.cells d (Word x))) None r))
  where
    outside : (b n y : ℕ) → x ≤ y → y < x + chunk_size d → (x + chunk_size d ≤ b) ⊎ (b + n ≤ x) → is_in b n y ≡ false
    outside b n y l h (inl p) = let q : y < b = omega arith in grind (arith, nat_tests)
    outside b n y l h (inr p) = let q : b + n ≤ y = omega arith in grind (arith, nat_tests)

-- a Place elsewhere, where the object of the range does not meet it
pub load-place_elsewhere : (m : MemoryMeaning) (base size : ℕ) (d : Chunk) (x : ℕ) → is_right (unmet base size m.objects) d (Word x) ≡ true → is_right m.objects d (Word x) ≡ true → (x + chunk_size d ≤ base) ⊎ (base + size ≤ x) → loaded (applied m (Place base size)) d (Word x) ≡ load m d (Word x)
load-place_elsewhere m base size d x r q apart =
    load-added_elsewhere (only (unmet base size m.objects) m) (local base size) Blank d x r apart ∙ load-only m (λ o. not (is_met base size o)) d x r q

-- ---- the first items of a buffer, known to be right

-- a pushed item is none of them
pub all_right-pushed : (os : List Object) (is : List Item) (i : Item) (k : ℕ) → k ≤ length is → all_right os (take k (is ++ i ∷ [])) ≡ all_right os (take k is)
all_right-pushed os is i k h = ap (all_right os) (take-append-le k is (i ∷ []) h)

-- behind the oldest, which reaches memory, the others stay right
pub all_right-drained : (os : List Object) (i : Item) (is : List Item) (k : ℕ) → all_right os (take (suc k) (i ∷ is)) ≡ true → all_right (objects_at i os) (take k is) ≡ true
all_right-drained os i is k e = (and_parts (is_right_item os i) (all_right (objects_at i os) (take k is)) e).1

objects_same : (m n : MemoryMeaning) → Some m ≡ Some n → n.objects ≡ m.objects
objects_same m n e = cc

-- the objects after an item that was applied
pub objects-applied : (m n : MemoryMeaning) (i : Item) → applied m i ≡ Some n → n.objects ≡ objects_at i m.objects
objects-applied m n (Put c a v) e = by_test (is_right m.objects c a) e
  where
    by_test : (b : Bool) → (if b then Some (record m { cells = cells_put m.cells c a v }) else None) ≡ Some n → n.objects ≡ m.objects
    by_test true e = objects_same _ n e
    by_test false e = absurd (none_some e)
      where
        none_some : ◌≡◌ {A = Option MemoryMeaning} None (Some n) → ⊥
        none_some e = cc
objects-applied m n (Place base size) e = objects_same _ n e
objects-applied m n (Lift base size) e = objects_same _ n e

-- a store leaves them
pub objects_at-store : (i : Item) (os : List Object) → is_store i ≡ true → objects_at i os ≡ os
objects_at-store (Put c a v) os e = refl
objects_at-store (Place base size) os e = absurd (false≢true e)
objects_at-store (Lift base size) os e = absurd (false≢true e)

pub objects-stored : (m n : MemoryMeaning) (i : Item) → is_store i ≡ true → applied m i ≡ Some n → n.objects ≡ m.objects
objects-stored m n i s e = objects-applied m n i e ∙ objects_at-store i m.objects s
