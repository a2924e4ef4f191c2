-- What the fields of a memory stand for after objects come and go and cells are written.
use Rattle.std.proofs.Common.{◌≡◌, ℕ, zero, suc, ◌+◌, ◌-◌, ◌%◌, ◌^◌, ◌<◌, ◌≤◌, Bool, true, false, not, List, [], ◌∷◌, length, get_or, Option, Some, None, refl, sym, ap, ◌∙◌, subst, inl, inr, arith, if◌then◌else◌, ◌==◌, ◌||◌, nat_le, nat_lt, cond}
use Rattle.std.specs.List.{filter, list_any}
use Rattle.std.specs.Option.{unwrap_or}
use Rattle.std.proofs.lemmas.Bool.{le-ltb, lt-leb, leb-true, ltb-true, ltb-false, cond-true, cond-false, cond_both, or_from, and_left, and_parts, or_parts, or_cases, or_right, false≢true, true≢false}
use Rattle.std.proofs.lemmas.Bool.Decides.{nat_tests}
use Rattle.tso_words.specs.declared.value.Cell.{Cell}
use Rattle.tso_words.specs.declared.value.Cell.TheVariants.{Blank, Byte}
use Rattle.tso_words.specs.declared.value.Val.{Val}
use Rattle.tso_words.specs.declared.value.Val.TheVariants.{Word}
use Rattle.tso_words.specs.declared.value.Chunk.{Chunk}
use Rattle.tso_words.specs.declared.value.Chunk.TheVariants.{I8s, I8u, I16s, I16u, I32}
use Rattle.tso_words.specs.Words.{chunk_size, byte_of, bytes_from, bytes_of}
use Rattle.tso_memory.specs.declared.object.Object.{Object}
use Rattle.tso_memory.specs.Memory.{MemoryMeaning, IsSound, AreObjects, holds, is_in, is_live, is_met, meets, unmet, inserted, added, only, IsApart, is_right, put, cells_put}
use Rattle.tso_memory.proofs.ObjectLists.{live_held}
use Rattle.tso_memory.specs.Kept.{Within, WithinNone, WithinBoth, WithinMore, IsKept, Kept, KeptPages, memory_of, written_at}

-- two memories with the same objects and the same cell at each address
pub same_memory : (m n : MemoryMeaning) → m.objects ≡ n.objects → ((x : ℕ) → m.cells x ≡ n.cells x) → m ≡ n
same_memory m n p q = λ i. record { objects = p i; cells = λ x. q x i }

-- objects in order after a bound that is lower, and after a filter
pub AreObjects-lower : (low high : ℕ) (os : List Object) → low ≤ high → AreObjects high os → AreObjects low os
AreObjects-lower low high [] l h = tt
AreObjects-lower low high (o ∷ os) l h = (omega (arith, h.0), h.1, h.2)

pub AreObjects-filter : (p : Object → Bool) (low : ℕ) (os : List Object) → AreObjects low os → AreObjects low (filter p os)
AreObjects-filter p low [] h = tt
AreObjects-filter p low (o ∷ os) h =
    let rest = AreObjects-filter p (o.base + o.size) os h.2 in
    cond_both (p o) (o ∷ filter p os) (filter p os) (AreObjects low) (λ e. (h.0, h.1, rest)) (λ e. AreObjects-lower low (o.base + o.size) (filter p os) (omega (arith, h.0)) rest)

-- an address below all objects is not live
pub dead_below : (low x : ℕ) (os : List Object) → AreObjects low os → x < low → is_live os x ≡ false
dead_below low x [] h l = refl
dead_below low x (o ∷ os) h l =
    rw (and_left (nat_le o.base x) (nat_lt x (o.base + o.size)) (lt-leb o.base x (omega (arith, h.0)))) (dead_below (o.base + o.size) x os h.2 (omega (arith, h.0)))

behind_unmet : (b n c k : ℕ) → b < c → 1 ≤ k → meets b n c k ≡ false → b + n ≤ c
behind_unmet b n c k l h m = grind (arith, nat_tests)

before_unmet : (b n c k : ℕ) → c ≤ b → 1 ≤ n → meets b n c k ≡ false → c + k ≤ b
before_unmet b n c k l h m = grind (arith, nat_tests)

-- an object that meets none
pub AreObjects-inserted : (low : ℕ) (o : Object) (os : List Object) → AreObjects low os → low ≤ o.base → IsSound o.base o.size → list_any (is_met o.base o.size) os ≡ false → AreObjects low (inserted o os)
AreObjects-inserted low o [] h l s m = (l, s, tt)
AreObjects-inserted low o (p ∷ ps) h l s m =
    let apart = or_parts (meets p.base p.size o.base o.size) (list_any (is_met o.base o.size) ps) m in
    cond_both (nat_lt p.base o.base) (p ∷ inserted o ps) (o ∷ p ∷ ps) (AreObjects low) (λ e. (h.0, h.1, AreObjects-inserted (p.base + p.size) o ps h.2 (behind_unmet p.base p.size o.base o.size (ltb-true p.base o.base e) s.0 apart.0) s apart.1)) (λ e. (l, s, (before_unmet p.base p.size o.base o.size (ltb-false p.base o.base e) h.1.0 apart.0, h.1, h.2)))

pub is_live-inserted : (o : Object) (os : List Object) (x : ℕ) → is_live (inserted o os) x ≡ (is_in o.base o.size x || is_live os x)
is_live-inserted o [] x = refl
is_live-inserted o (p ∷ ps) x =
    cond_both (nat_lt p.base o.base) (p ∷ inserted o ps) (o ∷ p ∷ ps) (λ l. is_live l x ≡ (is_in o.base o.size x || (is_in p.base p.size x || is_live ps x))) (λ e. ap (λ z. is_in p.base p.size x || z) (is_live-inserted o ps x) ∙ swapped (is_in p.base p.size x) (is_in o.base o.size x) (is_live ps x)) (λ e. refl)
  where
    swapped : (a b c : Bool) → (a || (b || c)) ≡ (b || (a || c))
    swapped true true c = refl
    swapped true false c = refl
    swapped false true c = refl
    swapped false false c = refl

-- an address of a range that meets no object is not live
pub dead_unmet : (base size x : ℕ) (os : List Object) → list_any (is_met base size) os ≡ false → is_in base size x ≡ true → is_live os x ≡ false
dead_unmet base size x [] m i = refl
dead_unmet base size x (o ∷ os) m i =
    let parts = or_parts (meets o.base o.size base size) (list_any (is_met base size) os) m in
    rw (out o.base o.size base size x parts.0 i) (dead_unmet base size x os parts.1 i)
  where
    out : (b n c k x : ℕ) → meets b n c k ≡ false → is_in c k x ≡ true → is_in b n x ≡ false
    out b n c k x m i = grind (arith, nat_tests)

-- some of the objects, after filters and insertions
pub Within-filter : (p : Object → Bool) (zs os : List Object) → Within zs os → Within (filter p zs) (filter p os)
Within-filter p _ _ WithinNone = WithinNone
Within-filter p _ _ (WithinBoth {o = o} {xs = zs} {ys = os} h) =
    let rest = Within-filter p zs os h in
    elim (p o) as (λ b. Within (cond b (o ∷ filter p zs) (filter p zs)) (cond b (o ∷ filter p os) (filter p os))) [ true ↦ WithinBoth rest | false ↦ rest ]
Within-filter p _ _ (WithinMore {o = o} {xs = zs} {ys = os} h) =
    let rest = Within-filter p zs os h in
    elim (p o) as (λ b. Within (filter p zs) (cond b (o ∷ filter p os) (filter p os))) [ true ↦ WithinMore rest | false ↦ rest ]

pub Within-more : (o : Object) (zs os : List Object) → Within zs os → Within zs (inserted o os)
Within-more o _ _ WithinNone = WithinMore WithinNone
Within-more o _ _ (WithinBoth {o = p} {xs = zs} {ys = os} h) = cond_both (nat_lt p.base o.base) (p ∷ inserted o os) (o ∷ p ∷ os) (Within (p ∷ zs)) (λ e. WithinBoth (Within-more o zs os h)) (λ e. WithinMore (WithinBoth h))
Within-more o _ _ (WithinMore {o = p} {xs = zs} {ys = os} h) = cond_both (nat_lt p.base o.base) (p ∷ inserted o os) (o ∷ p ∷ os) (Within zs) (λ e. WithinMore (Within-more o zs os h)) (λ e. WithinMore (WithinMore h))

-- an object that begins before all of them is inserted first
inserted_first : (o : Object) (low : ℕ) (zs os : List Object) → Within zs os → AreObjects low os → o.base ≤ low → inserted o zs ≡ o ∷ zs
inserted_first o low _ _ WithinNone h l = refl
inserted_first o low _ _ (WithinBoth {o = p} {xs = zs} {ys = os} w) h l = cond-false (nat_lt p.base o.base) (p ∷ inserted o zs) (o ∷ p ∷ zs) (le-ltb p.base o.base (omega (arith, h.0)))
inserted_first o low _ _ (WithinMore {o = p} {xs = zs} {ys = os} w) h l = inserted_first o (p.base + p.size) zs os w h.2 (omega (arith, h.0))

pub Within-both : (o : Object) (low : ℕ) (zs os : List Object) → Within zs os → AreObjects low os → Within (inserted o zs) (inserted o os)
Within-both o low _ _ WithinNone h = WithinBoth WithinNone
Within-both o low _ _ (WithinBoth {o = p} {xs = zs} {ys = os} w) h =
    let rest = Within-both o (p.base + p.size) zs os w h.2 in
    elim (nat_lt p.base o.base) as (λ b. Within (cond b (p ∷ inserted o zs) (o ∷ p ∷ zs)) (cond b (p ∷ inserted o os) (o ∷ p ∷ os))) [ true ↦ WithinBoth rest | false ↦ WithinBoth (WithinBoth w) ]
Within-both o low _ _ (WithinMore {o = p} {xs = zs} {ys = os} w) h =
    let rest = Within-both o (p.base + p.size) zs os w h.2 in
    cond_both (nat_lt p.base o.base) (p ∷ inserted o os) (o ∷ p ∷ os) (Within (inserted o zs)) (λ e. WithinMore rest) (λ e. subst (λ (l : List Object). Within l (o ∷ p ∷ os)) (sym (inserted_first o p.base zs (p ∷ os) (WithinMore w) (omega arith, h.1, h.2) (ltb-false p.base o.base e))) (WithinBoth (WithinMore w)))

dead_within : (x : ℕ) (zs os : List Object) → Within zs os → is_live os x ≡ false → is_live zs x ≡ false
dead_within x _ _ WithinNone e = e
dead_within x _ _ (WithinBoth {o = o} {xs = zs} {ys = os} w) e = let parts = or_parts (is_in o.base o.size x) (is_live os x) e in or_from (is_in o.base o.size x) (is_live zs x) parts.0 (dead_within x zs os w parts.1)
dead_within x _ _ (WithinMore {o = o} {xs = zs} {ys = os} w) e = dead_within x zs os w (or_parts (is_in o.base o.size x) (is_live os x) e).1

dead_filtered : (p : Object → Bool) (low x : ℕ) (os : List Object) → AreObjects low os → x < low → is_live (filter p os) x ≡ false
dead_filtered p low x os h l = dead_below low x (filter p os) (AreObjects-filter p low os h) l

inside_below : (b n x : ℕ) → is_in b n x ≡ true → x < b + n
inside_below b n x h = grind (arith, nat_tests)

pub live_within : (x : ℕ) (zs os : List Object) → Within zs os → is_live zs x ≡ true → is_live os x ≡ true
live_within x _ _ WithinNone e = e
live_within x _ _ (WithinBoth {o = o} {xs = zs} {ys = os} w) e = elim (or_cases (is_in o.base o.size x) (is_live zs x) e) as (λ _. (is_in o.base o.size x || is_live os x) ≡ true) [
  | inl a ↦ rw a refl
  | inr a ↦ or_right (is_in o.base o.size x) (is_live os x) (live_within x zs os w a)
]
live_within x _ _ (WithinMore {o = o} {xs = zs} {ys = os} w) e = or_right (is_in o.base o.size x) (is_live os x) (live_within x zs os w e)

-- the objects that stay began as they did
pub zeroed-filter : (p : Object → Bool) (low x : ℕ) (zs os : List Object) → Within zs os → AreObjects low os → is_live (filter p os) x ≡ true → is_live (filter p zs) x ≡ is_live zs x
zeroed-filter p low x _ _ WithinNone h e = refl
zeroed-filter p low x _ _ (WithinBoth {o = o} {xs = zs} {ys = os} w) h e =
    by_test (p o) (is_in o.base o.size x) refl (zeroed-filter p (o.base + o.size) x zs os w h.2) (λ q. dead_filtered p (o.base + o.size) x os h.2 (inside_below o.base o.size x q)) e
  where
    by_test : (b i : Bool) → is_in o.base o.size x ≡ i → (is_live (filter p os) x ≡ true → is_live (filter p zs) x ≡ is_live zs x) → (i ≡ true → is_live (filter p os) x ≡ false) → is_live (cond b (o ∷ filter p os) (filter p os)) x ≡ true → is_live (cond b (o ∷ filter p zs) (filter p zs)) x ≡ (is_in o.base o.size x || is_live zs x)
    by_test true true q ih dead e = rw q refl
    by_test true false q ih dead e = rw q (ih (sym (ap (λ z. z || is_live (filter p os) x) q) ∙ e))
    by_test false true q ih dead e = absurd (true≢false (sym e ∙ dead refl))
    by_test false false q ih dead e = rw q (ih e)
zeroed-filter p low x _ _ (WithinMore {o = o} {xs = zs} {ys = os} w) h e =
    by_test (p o) (is_in o.base o.size x) refl (zeroed-filter p (o.base + o.size) x zs os w h.2) (λ q. dead_within x zs os w (dead_below (o.base + o.size) x os h.2 (inside_below o.base o.size x q))) (λ q. dead_within x (filter p zs) (filter p os) (Within-filter p zs os w) (dead_filtered p (o.base + o.size) x os h.2 (inside_below o.base o.size x q))) e
  where
    by_test : (b i : Bool) → is_in o.base o.size x ≡ i → (is_live (filter p os) x ≡ true → is_live (filter p zs) x ≡ is_live zs x) → (i ≡ true → is_live zs x ≡ false) → (i ≡ true → is_live (filter p zs) x ≡ false) → is_live (cond b (o ∷ filter p os) (filter p os)) x ≡ true → is_live (filter p zs) x ≡ is_live zs x
    by_test true true q ih dead gone e = gone refl ∙ sym (dead refl)
    by_test true false q ih dead gone e = ih (sym (ap (λ z. z || is_live (filter p os) x) q) ∙ e)
    by_test false i q ih dead gone e = ih e

-- the cells that are kept: objects, those that began with zeros, and what was written
abbrev pub kept_cells : (os zs : List Object) (w : ℕ → Option Cell) → ℕ → Cell
kept_cells os zs w x = if is_live os x then unwrap_or (w x) (if is_live zs x then Byte 0 else Blank) else Blank

-- a new object
cells-added : (o : Object) (start : Cell) (os zs us : List Object) (w v : ℕ → Option Cell) → ((x : ℕ) → v x ≡ (if is_in o.base o.size x then None else w x)) → ((x : ℕ) → is_in o.base o.size x ≡ true → (if is_live us x then Byte 0 else Blank) ≡ start) → ((x : ℕ) → is_in o.base o.size x ≡ false → is_live us x ≡ is_live zs x) → (x : ℕ) → kept_cells (inserted o os) us v x ≡ (if is_in o.base o.size x then start else kept_cells os zs w x)
cells-added o start os zs us w v written inside outside x =
    ap (λ b. if b then unwrap_or (v x) (if is_live us x then Byte 0 else Blank) else Blank) (is_live-inserted o os x) ∙ (ap (λ r. if is_in o.base o.size x || is_live os x then unwrap_or r (if is_live us x then Byte 0 else Blank) else Blank) (written x) ∙ by_test (is_in o.base o.size x) (inside x) (outside x))
  where
    by_test : (b : Bool) → (b ≡ true → (if is_live us x then Byte 0 else Blank) ≡ start) → (b ≡ false → is_live us x ≡ is_live zs x) → (if b || is_live os x then unwrap_or (if b then None else w x) (if is_live us x then Byte 0 else Blank) else Blank) ≡ (if b then start else kept_cells os zs w x)
    by_test true i j = i refl
    by_test false i j = ap (λ z. if is_live os x then unwrap_or (w x) (if z then Byte 0 else Blank) else Blank) (j refl)

pub cells-blank : (o : Object) (os zs : List Object) (w v : ℕ → Option Cell) → Within zs os → list_any (is_met o.base o.size) os ≡ false → ((x : ℕ) → v x ≡ (if is_in o.base o.size x then None else w x)) → (x : ℕ) → kept_cells (inserted o os) zs v x ≡ (if is_in o.base o.size x then Blank else kept_cells os zs w x)
cells-blank o os zs w v within apart written =
    cells-added o Blank os zs zs w v written (λ x i. ap (λ b. if b then Byte 0 else Blank) (dead_within x zs os within (dead_unmet o.base o.size x os apart i))) (λ x i. refl)

pub cells-zeroed : (o : Object) (os zs : List Object) (w v : ℕ → Option Cell) → ((x : ℕ) → v x ≡ (if is_in o.base o.size x then None else w x)) → (x : ℕ) → kept_cells (inserted o os) (inserted o zs) v x ≡ (if is_in o.base o.size x then Byte 0 else kept_cells os zs w x)
cells-zeroed o os zs w v written =
    cells-added o (Byte 0) os zs (inserted o zs) w v written (λ x i. ap (λ b. if b then Byte 0 else Blank) (is_live-inserted o zs x ∙ ap (λ b. b || is_live zs x) i)) (λ x i. is_live-inserted o zs x ∙ ap (λ b. b || is_live zs x) i)

-- objects that end
pub live_filtered : (p : Object → Bool) (x : ℕ) (os : List Object) → is_live (filter p os) x ≡ true → is_live os x ≡ true
live_filtered p x [] e = e
live_filtered p x (o ∷ os) e = by_test (p o) (live_filtered p x os) e
  where
    by_test : (b : Bool) → (is_live (filter p os) x ≡ true → is_live os x ≡ true) → is_live (cond b (o ∷ filter p os) (filter p os)) x ≡ true → (is_in o.base o.size x || is_live os x) ≡ true
    by_test true ih e = elim (or_cases (is_in o.base o.size x) (is_live (filter p os) x) e) as (λ _. (is_in o.base o.size x || is_live os x) ≡ true) [ inl a ↦ rw a refl | inr a ↦ or_right (is_in o.base o.size x) (is_live os x) (ih a) ]
    by_test false ih e = or_right (is_in o.base o.size x) (is_live os x) (ih e)

pub cells-filter : (p : Object → Bool) (os zs : List Object) (w : ℕ → Option Cell) → Within zs os → AreObjects 0 os → (x : ℕ) → kept_cells (filter p os) (filter p zs) w x ≡ (if is_live (filter p os) x then kept_cells os zs w x else Blank)
cells-filter p os zs w within order x = by_test (is_live (filter p os) x) (λ e. live_filtered p x os e) (λ e. zeroed-filter p 0 x zs os within order e)
  where
    by_test : (b : Bool) → (b ≡ true → is_live os x ≡ true) → (b ≡ true → is_live (filter p zs) x ≡ is_live zs x) → (if b then unwrap_or (w x) (if is_live (filter p zs) x then Byte 0 else Blank) else Blank) ≡ (if b then kept_cells os zs w x else Blank)
    by_test true live same = ap (λ z. unwrap_or (w x) (if z then Byte 0 else Blank)) (same refl) ∙ sym (ap (λ z. if z then unwrap_or (w x) (if is_live zs x then Byte 0 else Blank) else Blank) (live refl))
    by_test false live same = refl

-- a memory with these fields
abbrev pub kept : (os zs : List Object) → KeptPages → Kept
kept os zs p = record { objects = os; zeroed = zs; pages = p; spare = 0 }

-- the whole memories: equal fields, a new object, objects that end
pub memory_of-same : (k l : Kept) → l.objects ≡ k.objects → l.zeroed ≡ k.zeroed → ((x : ℕ) → written_at l.pages x ≡ written_at k.pages x) → memory_of l ≡ memory_of k
memory_of-same k l p q w =
    same_memory (memory_of l) (memory_of k) p (λ x. ap (λ os. kept_cells os l.zeroed (written_at l.pages) x) p ∙ (ap (λ zs. kept_cells k.objects zs (written_at l.pages) x) q ∙ ap (λ r. if is_live k.objects x then unwrap_or r (if is_live k.zeroed x then Byte 0 else Blank) else Blank) (w x)))

pub memory_of-added : (o : Object) (k l : Kept) → Within k.zeroed k.objects → IsApart o.base o.size k.objects → l.objects ≡ inserted o k.objects → l.zeroed ≡ k.zeroed → ((x : ℕ) → written_at l.pages x ≡ (if is_in o.base o.size x then None else written_at k.pages x)) → memory_of l ≡ added o Blank (memory_of k)
memory_of-added o k l within apart p q w =
    same_memory (memory_of l) (added o Blank (memory_of k)) p (λ x. ap (λ os. kept_cells os l.zeroed (written_at l.pages) x) p ∙ (ap (λ zs. kept_cells (inserted o k.objects) zs (written_at l.pages) x) q ∙ cells-blank o k.objects k.zeroed (written_at k.pages) (written_at l.pages) within apart w x))

pub memory_of-zeroed : (o : Object) (k l : Kept) → l.objects ≡ inserted o k.objects → l.zeroed ≡ inserted o k.zeroed → ((x : ℕ) → written_at l.pages x ≡ (if is_in o.base o.size x then None else written_at k.pages x)) → memory_of l ≡ added o (Byte 0) (memory_of k)
memory_of-zeroed o k l p q w =
    same_memory (memory_of l) (added o (Byte 0) (memory_of k)) p (λ x. ap (λ os. kept_cells os l.zeroed (written_at l.pages) x) p ∙ (ap (λ zs. kept_cells (inserted o k.objects) zs (written_at l.pages) x) q ∙ cells-zeroed o k.objects k.zeroed (written_at k.pages) (written_at l.pages) w x))

pub memory_of-filter : (t : Object → Bool) (k l : Kept) → Within k.zeroed k.objects → AreObjects 0 k.objects → l.objects ≡ filter t k.objects → l.zeroed ≡ filter t k.zeroed → ((x : ℕ) → written_at l.pages x ≡ written_at k.pages x) → memory_of l ≡ only (filter t k.objects) (memory_of k)
memory_of-filter t k l within order p q w =
    same_memory (memory_of l) (only (filter t k.objects) (memory_of k)) p (λ x. ap (λ os. kept_cells os l.zeroed (written_at l.pages) x) p ∙ (ap (λ zs. kept_cells (filter t k.objects) zs (written_at l.pages) x) q ∙ (ap (λ r. if is_live (filter t k.objects) x then unwrap_or r (if is_live (filter t k.zeroed) x then Byte 0 else Blank) else Blank) (w x) ∙ cells-filter t k.objects k.zeroed (written_at k.pages) within order x)))

-- the invariant after these
pub IsKept-filter : (t : Object → Bool) (os zs : List Object) → IsKept os zs → IsKept (filter t os) (filter t zs)
IsKept-filter t os zs r = record { in_order = AreObjects-filter t 0 os r.in_order; zeroed_order = AreObjects-filter t 0 zs r.zeroed_order; live = Within-filter t zs os r.live }

pub IsKept-added : (o : Object) (os zs : List Object) → IsSound o.base o.size → IsApart o.base o.size os → IsKept os zs → IsKept (inserted o os) zs
IsKept-added o os zs s a r = record { in_order = AreObjects-inserted 0 o os r.in_order (omega arith) s a; zeroed_order = r.zeroed_order; live = Within-more o zs os r.live }

apart_within : (base size : ℕ) (zs os : List Object) → Within zs os → IsApart base size os → IsApart base size zs
apart_within base size _ _ WithinNone e = e
apart_within base size _ _ (WithinBoth {o = o} {xs = zs} {ys = os} w) e = let parts = or_parts (is_met base size o) (list_any (is_met base size) os) e in or_from (is_met base size o) (list_any (is_met base size) zs) parts.0 (apart_within base size zs os w parts.1)
apart_within base size _ _ (WithinMore {o = o} {xs = zs} {ys = os} w) e = apart_within base size zs os w (or_parts (is_met base size o) (list_any (is_met base size) os) e).1

pub IsKept-zeroed : (o : Object) (os zs : List Object) → IsSound o.base o.size → IsApart o.base o.size os → IsKept os zs → IsKept (inserted o os) (inserted o zs)
IsKept-zeroed o os zs s a r = record { in_order = AreObjects-inserted 0 o os r.in_order (omega arith) s a; zeroed_order = AreObjects-inserted 0 o zs r.zeroed_order (omega arith) s (apart_within o.base o.size zs os r.live a); live = Within-both o 0 zs os r.live r.in_order }

-- what is left after a range has ended the objects that it meets is apart from it
pub IsApart-unmet : (base size : ℕ) (os : List Object) → IsApart base size (unmet base size os)
IsApart-unmet base size [] = refl
IsApart-unmet base size (o ∷ os) = by_test (is_met base size o) refl (IsApart-unmet base size os)
  where
    by_test : (b : Bool) → is_met base size o ≡ b → IsApart base size (unmet base size os) → IsApart base size (cond (not b) (o ∷ unmet base size os) (unmet base size os))
    by_test true e h = h
    by_test false e h = or_from (is_met base size o) (list_any (is_met base size) (unmet base size os)) e h

-- a Place: the objects that it meets end, and its own begins
pub memory_of-placed : (base size : ℕ) (o : Object) (k l : Kept) → o.base ≡ base → o.size ≡ size → IsKept k.objects k.zeroed → l.objects ≡ inserted o (unmet base size k.objects) → l.zeroed ≡ unmet base size k.zeroed → ((x : ℕ) → written_at l.pages x ≡ (if is_in base size x then None else written_at k.pages x)) → memory_of l ≡ added o Blank (only (unmet base size k.objects) (memory_of k))
memory_of-placed base size o k l e f r p q w =
    let middle : Kept = record { objects = unmet base size k.objects; zeroed = unmet base size k.zeroed; pages = k.pages; spare = 0 } in
    let kept : IsKept (unmet base size k.objects) (unmet base size k.zeroed) = IsKept-filter (λ o. not (is_met base size o)) k.objects k.zeroed r in
    memory_of-added o middle l kept.live (rw (e, f) (IsApart-unmet base size k.objects)) p q (λ x. rw (e, f) (w x)) ∙ ap (added o Blank) (memory_of-filter (λ o. not (is_met base size o)) k middle r.live r.in_order refl refl (λ x. refl))

-- the bytes of a value, one by one
get_or-bytes_from : (v : Val) (i n k : ℕ) (d : Cell) → k < n → get_or (bytes_from v i n) k d ≡ byte_of v (i + k)
get_or-bytes_from v i zero k d h = absurd (omega arith)
get_or-bytes_from v i (suc n) zero d h = let e : i ≡ i + 0 = omega arith in ap (byte_of v) e
get_or-bytes_from v i (suc n) (suc k) d h = let e : suc i + k ≡ i + suc k = omega arith in get_or-bytes_from v (suc i) n k d (omega arith) ∙ ap (byte_of v) e

length-bytes_from : (v : Val) (i n : ℕ) → length (bytes_from v i n) ≡ n
length-bytes_from v i zero = refl
length-bytes_from v i (suc n) = ap suc (length-bytes_from v (suc i) n)

pub length-bytes_of : (c : Chunk) (v : Val) → length (bytes_of c v) ≡ chunk_size c
length-bytes_of c v = length-bytes_from v 0 (chunk_size c)

pub get_or-bytes_of : (c : Chunk) (v : Val) (k : ℕ) → k < chunk_size c → get_or (bytes_of c v) k Blank ≡ byte_of v k
get_or-bytes_of c v k h = let e : 0 + k ≡ k = omega arith in get_or-bytes_from v 0 (chunk_size c) k Blank h ∙ ap (byte_of v) e

-- a right store
cells-put : (c : Chunk) (a : ℕ) (v : Val) (os zs : List Object) (w u : ℕ → Option Cell) → list_any (λ o. holds o a (chunk_size c)) os ≡ true → ((x : ℕ) → u x ≡ (if is_in a (chunk_size c) x then Some (get_or (bytes_of c v) (x - a) Blank) else w x)) → (x : ℕ) → kept_cells os zs u x ≡ cells_put (kept_cells os zs w) c (Word a) v x
cells-put c a v os zs w u held written x =
    ap (λ r. if is_live os x then unwrap_or r (if is_live zs x then Byte 0 else Blank) else Blank) (written x) ∙ by_test (is_in a (chunk_size c) x) (λ e. let b = inside_parts a (chunk_size c) x e in live_held a (chunk_size c) x os held b.0 b.1) (λ e. let b = inside_parts a (chunk_size c) x e in get_or-bytes_of c v (x - a) (omega arith))
  where
    inside_parts : (b n x : ℕ) → is_in b n x ≡ true → (b ≤ x) × (x < b + n)
    inside_parts b n x e = let p = and_parts (nat_le b x) (nat_lt x (b + n)) e in (leb-true b x p.0, ltb-true x (b + n) p.1)

    by_test : (b : Bool) → (b ≡ true → is_live os x ≡ true) → (b ≡ true → get_or (bytes_of c v) (x - a) Blank ≡ byte_of v (x - a)) → (if is_live os x then unwrap_or (if b then Some (get_or (bytes_of c v) (x - a) Blank) else w x) (if is_live zs x then Byte 0 else Blank) else Blank) ≡ (if b then byte_of v (x - a) else kept_cells os zs w x)
    by_test true live byte = ap (λ z. if z then get_or (bytes_of c v) (x - a) Blank else Blank) (live refl) ∙ byte refl
    by_test false live byte = refl

pub memory_of-put : (c : Chunk) (a : ℕ) (addr v : Val) (k l : Kept) (bytes : List Cell) → addr ≡ Word a → is_right k.objects c addr ≡ true → bytes ≡ bytes_of c v → l.objects ≡ k.objects → l.zeroed ≡ k.zeroed → ((x : ℕ) → written_at l.pages x ≡ (if is_in a (length bytes) x then Some (get_or bytes (x - a) Blank) else written_at k.pages x)) → put (memory_of k) c addr v ≡ Some (memory_of l)
memory_of-put c a addr v k l bytes e right b p q w =
    let right_at : is_right k.objects c (Word a) ≡ true = ap (λ z. is_right k.objects c z) (sym e) ∙ right in
    let held = (and_parts (a % chunk_size c == 0) (list_any (λ o. holds o a (chunk_size c)) k.objects) right_at).1 in
    let same : memory_of l ≡ record { objects = k.objects; cells = cells_put (memory_of k).cells c (Word a) v } = same_memory (memory_of l) (record { objects = k.objects; cells = cells_put (memory_of k).cells c (Word a) v }) p (λ x. ap (λ os. kept_cells os l.zeroed (written_at l.pages) x) p ∙ (ap (λ zs. kept_cells k.objects zs (written_at l.pages) x) q ∙ cells-put c a v k.objects k.zeroed (written_at k.pages) (written_at l.pages) held (λ y. w y ∙ (ap (λ n. if is_in a n y then Some (get_or bytes (y - a) Blank) else written_at k.pages y) (ap length b ∙ length-bytes_of c v) ∙ ap (λ z. if is_in a (chunk_size c) y then Some (get_or z (y - a) Blank) else written_at k.pages y) b)) x)) in
    ap (λ z. put (memory_of k) c z v) e ∙ (cond-true (is_right k.objects c (Word a)) (Some (record { objects = k.objects; cells = cells_put (memory_of k).cells c (Word a) v })) None right_at ∙ ap (λ m. Some m) (sym same))

-- where an access may be: in one page, and below the end of the addresses
pub in_one_page : (c : Chunk) (a : ℕ) → a % chunk_size c ≡ 0 → a % 16384 + chunk_size c ≤ 16384
in_one_page I8s a h = omega arith
in_one_page I8u a h = omega arith
in_one_page I16s a h = omega arith
in_one_page I16u a h = omega arith
in_one_page I32 a h = omega arith

pub held_below : (low base size : ℕ) (os : List Object) → AreObjects low os → list_any (λ o. holds o base size) os ≡ true → base + size ≤ 2 ^ 32
held_below low base size [] h e = absurd (false≢true e)
held_below low base size (o ∷ os) h e = elim (or_cases (holds o base size) (list_any (λ o. holds o base size) os) e) as (λ _. base + size ≤ 2 ^ 32) [
  | inl a ↦ (let last : base + size ≤ o.base + o.size = leb-true (base + size) (o.base + o.size) (and_parts (nat_le o.base base) (nat_le (base + size) (o.base + o.size)) a).1 in let top : o.base + o.size ≤ 2 ^ 32 = h.1.1 in omega arith)
  | inr a ↦ held_below (o.base + o.size) base size os h.2 a
]
