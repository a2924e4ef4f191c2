-- Lists of objects in order: searches, insertions and filters.
use Rattle.std.proofs.Common.{◌≡◌, ℕ, zero, suc, ◌+◌, ◌-◌, ◌<◌, ◌≤◌, Bool, true, false, not, List, [], ◌∷◌, ◌++◌, length, get_or, take, drop, Option, Some, None, refl, sym, ap, ◌∙◌, inl, inr, ◌⊎◌, arith, if◌then◌else◌, ◌==◌, ◌&&◌, ◌||◌, ◌%◌, nat_le, nat_lt, cond, is_some}
use Rattle.std.specs.List.{find, list_any}
use Rattle.std.specs.List.Sorted.{IsPartitionedBy, IsPartitionPoint}
use Rattle.std.proofs.lemmas.Bool.{false≢true, true≢false, lt-ltb, le-ltb, le-leb, lt-leb, leb-true, leb-false, ltb-true, ltb-false, eq-eqb, cond-true, and_left, and_right, and_parts, or_cases, or_right}
use Rattle.std.proofs.lemmas.Bool.Decides.{nat_tests}
use Rattle.tso_words.specs.declared.value.Cell.{Cell}
use Rattle.tso_words.specs.declared.value.Cell.TheVariants.{Blank, Byte}
use Rattle.tso_words.specs.declared.value.Val.{Val}
use Rattle.tso_words.specs.declared.value.Val.TheVariants.{Word}
use Rattle.tso_words.specs.declared.value.Chunk.TheVariants.{I8s, I8u, I16s, I16u, I32}
use Rattle.tso_words.specs.declared.value.Chunk.{Chunk}
use Rattle.tso_words.specs.Words.{chunk_size, value_of}
use Rattle.tso_memory.specs.declared.object.Object.{Object}
use Rattle.tso_memory.specs.Kept.{Kept, kept_at, memory_of, written_at}
use Rattle.tso_memory.specs.Memory.{MemoryMeaning, AreObjects, holds, is_in, is_live, inserted, cells_from, is_right, load, value_at}

-- no object begins below the bound
pub base_above : (low : ℕ) (os : List Object) → AreObjects low os → (j : ℕ) (d : Object) → j < length os → low ≤ (get_or os j d).base
base_above low [] h j d l = absurd (omega arith)
base_above low (o ∷ os) h zero d l = h.0
base_above low (o ∷ os) h (suc j) d l = let rest : o.base + o.size ≤ (get_or os j d).base = base_above (o.base + o.size) os h.2 j d (omega arith) in omega (arith, h.0, rest)

-- the bases rise
pub bases_rise : (low : ℕ) (os : List Object) → AreObjects low os → (i j : ℕ) (d : Object) → i ≤ j → j < length os → (get_or os i d).base ≤ (get_or os j d).base
bases_rise low [] h i j d e l = absurd (omega arith)
bases_rise low (o ∷ os) h zero zero d e l = omega arith
bases_rise low (o ∷ os) h zero (suc j) d e l = let rest : o.base + o.size ≤ (get_or os j d).base = base_above (o.base + o.size) os h.2 j d (omega arith) in omega arith
bases_rise low (o ∷ os) h (suc i) zero d e l = absurd (omega arith)
bases_rise low (o ∷ os) h (suc i) (suc j) d e l = bases_rise (o.base + o.size) os h.2 i j d (omega arith) (omega arith)

pub parted_at_most : (low base : ℕ) (os : List Object) → AreObjects low os → IsPartitionedBy (λ o. nat_le o.base base) os
parted_at_most low base os h i j d e l t = le-leb (get_or os i d).base base (let a : (get_or os j d).base ≤ base = leb-true (get_or os j d).base base t in let b = bases_rise low os h i j d e l in omega (arith, a, b))

pub parted_below : (low base : ℕ) (os : List Object) → AreObjects low os → IsPartitionedBy (λ o. nat_lt o.base base) os
parted_below low base os h i j d e l t = lt-ltb (get_or os i d).base base (let a : (get_or os j d).base < base = ltb-true (get_or os j d).base base t in let b = bases_rise low os h i j d e l in omega (arith, a, b))

-- no object that begins behind a range has it
holds_above : (o : Object) (base size : ℕ) → base < o.base → holds o base size ≡ false
holds_above o base size h = and_left (nat_le o.base base) (nat_le (base + size) (o.base + o.size)) (lt-leb o.base base h)

pub find_above : (low : ℕ) (os : List Object) (base size : ℕ) → AreObjects low os → base < low → None ≡ find (λ o. holds o base size) os
find_above low [] base size h l = refl
find_above low (o ∷ os) base size h l =
    rw (holds_above o base size (omega (arith, h.0))) (find_above (o.base + o.size) os base size h.2 (omega (arith, h.0)))

-- a binary search for the object that has a range: the last that does not begin behind it, or none
abbrev pub found : List Object → (base size : ℕ) → ℕ → Object → Option Object
found os base size zero d = None
found os base size (suc i) d = if holds (get_or os i d) base size then Some (get_or os i d) else None

pub find-partition : (low : ℕ) (os : List Object) (base size i : ℕ) (d : Object) → AreObjects low os → 1 ≤ size → i ≤ length os → ((k : ℕ) → k < i → (get_or os k d).base ≤ base) → ((k : ℕ) → i ≤ k → k < length os → base < (get_or os k d).base) → found os base size i d ≡ find (λ o. holds o base size) os
find-partition low [] base size zero d h s l below above = refl
find-partition low [] base size (suc i) d h s l below above = absurd (omega arith)
find-partition low (o ∷ os) base size zero d h s l below above =
    let first : base < o.base = above 0 (omega arith) (omega arith) in
    rw (holds_above o base size first) (find_above (o.base + o.size) os base size h.2 (omega arith))
find-partition low (o ∷ os) base size (suc zero) d h s l below above =
    ap (λ z. if holds o base size then Some o else z) (rest os h.2 (λ k. λ m. above (suc k) (omega arith) (omega arith)))
  where
    rest : (os : List Object) → AreObjects (o.base + o.size) os → ((k : ℕ) → k < length os → base < (get_or os k d).base) → None ≡ find (λ o. holds o base size) os
    rest [] g f = refl
    rest (p ∷ ps) g f = let first : base < p.base = f 0 (omega arith) in rw (holds_above p base size first) (find_above (p.base + p.size) ps base size g.2 (omega arith))
find-partition low (o ∷ os) base size (suc (suc i)) d h s l below above =
    let next : (get_or os 0 d).base ≤ base = below 1 (omega arith) in
    let room : o.base + o.size ≤ (get_or os 0 d).base = base_above (o.base + o.size) os h.2 0 d (omega arith) in
    let short : holds o base size ≡ false = and_right (nat_le o.base base) (nat_le (base + size) (o.base + o.size)) (lt-leb (base + size) (o.base + o.size) (omega arith)) in
    rw short (find-partition (o.base + o.size) os base size (suc i) d h.2 s (omega arith) (λ k m. below (suc k) (omega arith)) (λ k m n. above (suc k) (omega arith) (omega arith)))

-- an insertion at the place by base
pub inserted-partition : (os : List Object) (o d : Object) (i : ℕ) → i ≤ length os → ((k : ℕ) → k < i → (get_or os k d).base < o.base) → ((k : ℕ) → i ≤ k → k < length os → o.base ≤ (get_or os k d).base) → take i os ++ o ∷ drop i os ≡ inserted o os
inserted-partition [] o d zero l below above = refl
inserted-partition [] o d (suc i) l below above = absurd (omega arith)
inserted-partition (p ∷ ps) o d zero l below above = rw (le-ltb p.base o.base (above 0 (omega arith) (omega arith))) refl
inserted-partition (p ∷ ps) o d (suc i) l below above =
    rw (lt-ltb p.base o.base (below 0 (omega arith))) (ap (λ z. p ∷ z) (inserted-partition ps o d i (omega arith) (λ k m. below (suc k) (omega arith)) (λ k m n. above (suc k) (omega arith) (omega arith))))

-- the same from what `partition_point` ensures
module _ (os : List Object) (base size i : ℕ) (d : Object) (h : AreObjects 0 os) (s : 1 ≤ size) (l : i ≤ length os) (point : IsPartitionPoint (λ o. nat_le o.base base ≡ true) (λ o. nat_le o.base base ≡ false) os i) where
  searched : found os base size i d ≡ find (λ o. holds o base size) os
  searched = find-partition 0 os base size i d h s l (λ k m. leb-true (get_or os k d).base base (point.0 k d (omega arith) m)) (λ k m n. leb-false (get_or os k d).base base (point.1 k d m n))

  pub find-searched_none : i ≡ 0 → None ≡ find (λ o. holds o base size) os
  find-searched_none e = ap (λ n. found os base size n d) (sym e) ∙ searched

  pub find-searched_some : 0 < i → (b : Bool) → b ≡ holds (get_or os (i - 1) d) base size → (if b then Some (get_or os (i - 1) d) else None) ≡ find (λ o. holds o base size) os
  find-searched_some m b e =
      let back : suc (i - 1) ≡ i = omega arith in
      ap (λ b. if b then Some (get_or os (i - 1) d) else None) e ∙ (ap (λ n. found os base size n d) back ∙ searched)

pub inserted-searched : (os : List Object) (o : Object) (i : ℕ) → i ≤ length os → IsPartitionPoint (λ p. nat_lt p.base o.base ≡ true) (λ p. nat_lt p.base o.base ≡ false) os i → take i os ++ o ∷ drop i os ≡ inserted o os
inserted-searched os o i l point = inserted-partition os o o i l (λ k m. ltb-true (get_or os k o).base o.base (point.0 k o (omega arith) m)) (λ k m n. ltb-false (get_or os k o).base o.base (point.1 k o m n))

-- an object is found just where one has the range
pub is_some-find : (t : Object → Bool) (os : List Object) → is_some (find t os) ≡ list_any t os
is_some-find t [] = refl
is_some-find t (o ∷ os) = by_test (t o) (is_some-find t os)
  where
    by_test : (b : Bool) → is_some (find t os) ≡ list_any t os → is_some (cond b (Some o) (find t os)) ≡ (b || list_any t os)
    by_test true h = refl
    by_test false h = h

pub is_live-find : (os : List Object) (x : ℕ) → is_some (find (λ o. holds o x 1) os) ≡ is_live os x
is_live-find [] x = refl
is_live-find (o ∷ os) x = by_test (holds o x 1) (same o.base o.size) (is_live-find os x)
  where
    same : (b n : ℕ) → (nat_le b x && nat_le (x + 1) (b + n)) ≡ is_in b n x
    same b n = grind (arith, nat_tests)

    by_test : (b : Bool) → b ≡ is_in o.base o.size x → is_some (find (λ o. holds o x 1) os) ≡ is_live os x → is_some (cond b (Some o) (find (λ o. holds o x 1) os)) ≡ (is_in o.base o.size x || is_live os x)
    by_test true e h = ap (λ z. z || is_live os x) e
    by_test false e h = h ∙ ap (λ z. z || is_live os x) e

-- the bytes of a range that an object has are live
pub live_held : (base size x : ℕ) (os : List Object) → list_any (λ o. holds o base size) os ≡ true → base ≤ x → x < base + size → is_live os x ≡ true
live_held base size x [] h l m = h
live_held base size x (o ∷ os) h l m = elim (or_cases (holds o base size) (list_any (λ o. holds o base size) os) h) as (λ _. is_live (o ∷ os) x ≡ true) [
  | inl a ↦ rw (inside o.base o.size a) refl
  | inr a ↦ or_right (is_in o.base o.size x) (is_live os x) (live_held base size x os a l m)
]
  where
    inside : (b n : ℕ) → (nat_le b base && nat_le (base + size) (b + n)) ≡ true → is_in b n x ≡ true
    inside b n h = grind (arith, nat_tests)

pub cells_from-same : (f g : ℕ → Cell) (a n : ℕ) → ((x : ℕ) → a ≤ x → x < a + n → f x ≡ g x) → cells_from f a n ≡ cells_from g a n
cells_from-same f g a zero h = refl
cells_from-same f g a (suc n) h =
    let here : f a ≡ g a = h a (omega arith) (omega arith) in
    let rest : cells_from f (suc a) n ≡ cells_from g (suc a) n = cells_from-same f g (suc a) n (λ x l m. h x (omega arith) (omega arith)) in
    cc

pub cells_from-two : (f : ℕ → Cell) (a : ℕ) → cells_from f a 2 ≡ f a ∷ f (a + 1) ∷ []
cells_from-two f a = let e : suc a ≡ a + 1 = omega arith in rw e refl

pub cells_from-four : (f : ℕ → Cell) (a : ℕ) → cells_from f a 4 ≡ f a ∷ f (a + 1) ∷ f (a + 2) ∷ f (a + 3) ∷ []
cells_from-four f a =
    let e : suc a ≡ a + 1 = omega arith in
    let e2 : suc (suc a) ≡ a + 2 = omega arith in
    let e3 : suc (suc (suc a)) ≡ a + 3 = omega arith in
    ap (λ x. f a ∷ f x ∷ f (suc (suc a)) ∷ f (suc (suc (suc a))) ∷ []) e ∙ (ap (λ x. f a ∷ f (a + 1) ∷ f x ∷ f (suc (suc (suc a))) ∷ []) e2 ∙ ap (λ x. f a ∷ f (a + 1) ∷ f (a + 2) ∷ f x ∷ []) e3)

-- a right load, by cells that are known where they are live
module _ (n : MemoryMeaning) (f : ℕ → Cell) (known : (y : ℕ) → is_live n.objects y ≡ true → n.cells y ≡ f y) where
  load_by : (c : Chunk) (v r : Val) (x : ℕ) (cells : List Cell) → v ≡ Word x → is_right n.objects c v ≡ true → cells ≡ cells_from f x (chunk_size c) → r ≡ value_of c cells → load n c v ≡ Some r
  load_by c v r x cells e t p q =
      let right : is_right n.objects c (Word x) ≡ true = ap (λ w. is_right n.objects c w) (sym e) ∙ t in
      let held = (and_parts (x % chunk_size c == 0) (list_any (λ o. holds o x (chunk_size c)) n.objects) right).1 in
      ap (λ w. load n c w) e ∙ (cond-true (is_right n.objects c (Word x)) (Some (value_at n.cells c (Word x))) None right ∙ (ap (λ l. Some (value_of c l)) (cells_from-same n.cells f x (chunk_size c) (λ y l m. known y (live_held x (chunk_size c) y n.objects held l m)) ∙ sym p) ∙ ap (λ u. Some u) (sym q)))

  pub loaded_one : (c : Chunk) (v r : Val) (x : ℕ) (a : Cell) → v ≡ Word x → is_right n.objects c v ≡ true → chunk_size c ≡ 1 → a ≡ f x → r ≡ value_of c (a ∷ []) → load n c v ≡ Some r
  loaded_one c v r x a e t z p q = load_by c v r x (a ∷ []) e t (rw (z, p) refl) q

  pub loaded_two : (c : Chunk) (v r : Val) (x : ℕ) (a b : Cell) → v ≡ Word x → is_right n.objects c v ≡ true → chunk_size c ≡ 2 → a ≡ f x → b ≡ f (x + 1) → r ≡ value_of c (a ∷ b ∷ []) → load n c v ≡ Some r
  loaded_two c v r x a b e t z p p2 q = load_by c v r x (a ∷ b ∷ []) e t (rw z (rw (p, p2) (sym (cells_from-two f x)))) q

  pub loaded_four : (c : Chunk) (v r : Val) (x : ℕ) (a b g h : Cell) → v ≡ Word x → is_right n.objects c v ≡ true → chunk_size c ≡ 4 → a ≡ f x → b ≡ f (x + 1) → g ≡ f (x + 2) → h ≡ f (x + 3) → r ≡ value_of c (a ∷ b ∷ g ∷ h ∷ []) → load n c v ≡ Some r
  loaded_four c v r x a b g h e t z p p2 p3 p4 q = load_by c v r x (a ∷ b ∷ g ∷ h ∷ []) e t (rw z (rw (p, p2, p3, p4) (sym (cells_from-four f x)))) q

pub kept_known : (k : Kept) (y : ℕ) → is_live k.objects y ≡ true → (memory_of k).cells y ≡ kept_at k y
kept_known k y e = cond-true (is_live k.objects y) (kept_at k y) Blank e

-- a test of an access by its parts
pub right_from : (os : List Object) (c : Chunk) (v : Val) (a n : ℕ) (b : Bool) → v ≡ Word a → n ≡ chunk_size c → a % n ≡ 0 → b ≡ list_any (λ o. holds o a n) os → b ≡ is_right os c v
right_from os c v a n b e f g h = rw (e, ← f) (rw (eq-eqb (a % n) 0 g) h)

-- the cell of an address that was not written
pub kept_at-unwritten : (k : Kept) (x : ℕ) (w : Option Cell) (b : Bool) → w ≡ None → w ≡ written_at k.pages x → b ≡ is_live k.zeroed x → (if b then Byte 0 else Blank) ≡ kept_at k x
kept_at-unwritten k x w b e f g = rw (← f, e, ← g) refl

-- the sizes of chunks
pub size_positive : (c : Chunk) → 1 ≤ chunk_size c
size_positive I8s = omega arith
size_positive I8u = omega arith
size_positive I16s = omega arith
size_positive I16u = omega arith
size_positive I32 = omega arith

pub size_one : (c : Chunk) → (c ≡ I8s) ⊎ (c ≡ I8u) → chunk_size c ≡ 1
size_one c (inl e) = ap chunk_size e
size_one c (inr e) = ap chunk_size e

pub size_two : (c : Chunk) → (c ≡ I16s) ⊎ (c ≡ I16u) → chunk_size c ≡ 2
size_two c (inl e) = ap chunk_size e
size_two c (inr e) = ap chunk_size e

-- a test that answers the contrary
pub apart_iff : (r x : Bool) → r ≡ x → (not r ≡ true → x ≡ false) × (x ≡ false → not r ≡ true)
apart_iff true x e = (λ t. absurd (false≢true t), λ f. absurd (true≢false (e ∙ f)))
apart_iff false x e = (λ t. sym e, λ f. refl)
