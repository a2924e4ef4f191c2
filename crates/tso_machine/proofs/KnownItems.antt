-- The numbers of items that are known to be right, as buffers and objects change.
use Rattle.std.proofs.Common.{◌≡◌, ◌≤◌, ◌<◌, ◌+◌, ◌-◌, ℕ, zero, suc, true, List, [], ◌∷◌, ◌++◌, length, length-append, take, get_or, map, Some, refl, sym, ap, subst, arith, ◌∙◌}
use Rattle.std.specs.Prelude.{nat_le, replicate, slice_get, slice_set}
use Rattle.std.proofs.lemmas.Bool.{and_parts, and_from, leb-true, le-leb, false≢true}
use Rattle.std.proofs.lemmas.List.{take_all}
use Rattle.std.proofs.lemmas.Option.{slice_get-get_or}
use Rattle.tso_memory.specs.declared.object.Object.{Object}
use Rattle.tso_memory.specs.declared.buffer.Item.{Item}
use Rattle.tso_memory.specs.Buffer.{BufferMeaning}
use Rattle.tso_memory.specs.Through.{objects_at, all_right}
use Rattle.tso_memory.proofs.MemoryLaws.{all_right-pushed, all_right-drained}
use Rattle.tso_core.specs.Shared.{items_or_none}
use Rattle.tso_machine.specs.Known.{is_known, are_known}
use Rattle.tso_machine.specs.State.{oldest_of, behind}
use Rattle.tso_machine.proofs.MapLists.{none_some, get_map}

-- ---- one buffer

known_from : (os : List Object) (is : List Item) (k : ℕ) → k ≤ length is → all_right os (take k is) ≡ true → is_known os is k ≡ true
known_from os is k l r = and_from (nat_le k (length is)) (all_right os (take k is)) (le-leb k (length is) l) r

pub known_parts : (os : List Object) (is : List Item) (k : ℕ) → is_known os is k ≡ true → (k ≤ length is) × (all_right os (take k is) ≡ true)
known_parts os is k e =
    let p = and_parts (nat_le k (length is)) (all_right os (take k is)) e in
    (leb-true k (length is) p.0, p.1)

known_none : (os : List Object) (is : List Item) → is_known os is 0 ≡ true
known_none os is = known_from os is 0 (omega arith) refl

pub known_whole : (os : List Object) (is : List Item) → all_right os is ≡ true → is_known os is (length is) ≡ true
known_whole os is e = known_from os is (length is) (omega arith) (ap (all_right os) (take_all (length is) is (omega arith)) ∙ e)

known_pushed : (os : List Object) (is : List Item) (i : Item) (k : ℕ) → is_known os is k ≡ true → is_known os (is ++ i ∷ []) k ≡ true
known_pushed os is i k e =
    let p = known_parts os is k e in
    let longer : length (is ++ i ∷ []) ≡ length is + 1 = length-append is (i ∷ []) in
    known_from os (is ++ i ∷ []) k (omega (arith, p.0)) (all_right-pushed os is i k p.0 ∙ p.1)

known_drained : (os : List Object) (i : Item) (is : List Item) (k : ℕ) → is_known os (i ∷ is) k ≡ true → is_known (objects_at i os) is (k - 1) ≡ true
known_drained os i is zero e =
    let none : 0 ≡ 0 - 1 = omega arith in
    subst (λ n. is_known (objects_at i os) is n ≡ true) none (known_none (objects_at i os) is)
known_drained os i is (suc k) e =
    let less : k ≡ suc k - 1 = omega arith in
    let p = known_parts os (i ∷ is) (suc k) e in
    let within : k ≤ length is = omega (arith, p.0) in
    subst (λ n. is_known (objects_at i os) is n ≡ true) less (known_from (objects_at i os) is k within (all_right-drained os i is k p.1))

pub oldest_first : (is : List Item) (i : Item) → Some i ≡ oldest_of is → is ≡ i ∷ behind is
oldest_first [] i e = cc
oldest_first (x ∷ is) i e = let same : x ≡ i = cc in ap (λ z. z ∷ is) same

-- ---- all buffers

pub known_at : (os : List Object) (bs : List (List Item)) (ks : List ℕ) (i : ℕ) (is : List Item) (k : ℕ) → slice_get bs i ≡ Some is → slice_get ks i ≡ Some k → are_known os bs ks ≡ true → is_known os is k ≡ true
known_at os [] ks i is k b h e = absurd (none_some is b)
known_at os (x ∷ bs) [] i is k b h e = absurd (none_some k h)
known_at os (x ∷ bs) (n ∷ ks) zero is k b h e =
    let p : x ≡ is = cc in
    let q : n ≡ k = cc in
    subst (λ z. is_known os z k ≡ true) p (subst (λ z. is_known os x z ≡ true) q (and_parts (is_known os x n) (are_known os bs ks) e).0)
known_at os (x ∷ bs) (n ∷ ks) (suc i) is k b h e = known_at os bs ks i is k b h (and_parts (is_known os x n) (are_known os bs ks) e).1

pub known_set : (os : List Object) (bs : List (List Item)) (ks : List ℕ) (i : ℕ) (is : List Item) (k : ℕ) → are_known os bs ks ≡ true → is_known os is k ≡ true → are_known os (slice_set bs i is) (slice_set ks i k) ≡ true
known_set os [] [] i is k e h = refl
known_set os [] (n ∷ ks) i is k e h = absurd (false≢true e)
known_set os (x ∷ bs) [] i is k e h = absurd (false≢true e)
known_set os (x ∷ bs) (n ∷ ks) zero is k e h = and_from (is_known os is k) (are_known os bs ks) h (and_parts (is_known os x n) (are_known os bs ks) e).1
known_set os (x ∷ bs) (n ∷ ks) (suc i) is k e h =
    let p = and_parts (is_known os x n) (are_known os bs ks) e in
    and_from (is_known os x n) (are_known os (slice_set bs i is) (slice_set ks i k)) p.0 (known_set os bs ks i is k p.1 h)

-- a load tries all items of its own buffer
pub known_loaded : (os : List Object) (bs : List (List Item)) (ks : List ℕ) (i : ℕ) (is : List Item) → slice_get bs i ≡ Some is → are_known os bs ks ≡ true → all_right os is ≡ true → are_known os bs (slice_set ks i (length is)) ≡ true
known_loaded os [] ks i is b e h = absurd (none_some is b)
known_loaded os (x ∷ bs) [] i is b e h = absurd (false≢true e)
known_loaded os (x ∷ bs) (n ∷ ks) zero is b e h =
    let p : is ≡ x = cc in
    and_from (is_known os x (length is)) (are_known os bs ks) (subst (λ z. is_known os z (length is) ≡ true) p (known_whole os is h)) (and_parts (is_known os x n) (are_known os bs ks) e).1
known_loaded os (x ∷ bs) (n ∷ ks) (suc i) is b e h =
    let p = and_parts (is_known os x n) (are_known os bs ks) e in
    and_from (is_known os x n) (are_known os bs (slice_set ks i (length is))) p.0 (known_loaded os bs ks i is b p.1 h)

-- an item is pushed
pub known_push : (os : List Object) (bs : List (List Item)) (ks : List ℕ) (i : ℕ) (item : Item) → are_known os bs ks ≡ true → are_known os (slice_set bs i (items_or_none (slice_get bs i) ++ item ∷ [])) ks ≡ true
known_push os [] [] i item e = refl
known_push os [] (n ∷ ks) i item e = absurd (false≢true e)
known_push os (x ∷ bs) [] i item e = absurd (false≢true e)
known_push os (x ∷ bs) (n ∷ ks) zero item e =
    let p = and_parts (is_known os x n) (are_known os bs ks) e in
    and_from (is_known os (x ++ item ∷ []) n) (are_known os bs ks) (known_pushed os x item n p.0) p.1
known_push os (x ∷ bs) (n ∷ ks) (suc i) item e =
    let p = and_parts (is_known os x n) (are_known os bs ks) e in
    and_from (is_known os x n) (are_known os (slice_set bs i (items_or_none (slice_get bs i) ++ item ∷ [])) ks) p.0 (known_push os bs ks i item p.1)

-- the oldest item of a buffer reaches memory, with what is then still known of the others
pub known_drain : (os : List Object) (bs : List (List Item)) (ks js : List ℕ) (i : ℕ) (item : Item) (rest : List Item) (k : ℕ) → slice_get bs i ≡ Some (item ∷ rest) → slice_get ks i ≡ Some k → are_known os bs ks ≡ true → are_known (objects_at item os) bs js ≡ true → are_known (objects_at item os) (slice_set bs i rest) (slice_set js i (k - 1)) ≡ true
known_drain os bs ks js i item rest k b h e f = known_set (objects_at item os) bs js i rest (k - 1) f (known_drained os item rest k (known_at os bs ks i (item ∷ rest) k b h e))

-- nothing is known
pub none_known : (os : List Object) (bs : List (List Item)) (n : ℕ) → n ≡ length bs → are_known os bs (replicate n 0) ≡ true
none_known os [] zero e = refl
none_known os [] (suc n) e = absurd (omega arith)
none_known os (x ∷ bs) zero e = absurd (omega arith)
none_known os (x ∷ bs) (suc n) e = and_from (is_known os x 0) (are_known os bs (replicate n 0)) (known_none os x) (none_known os bs n (omega arith))

-- a buffer more, without items
pub known_more : (os : List Object) (bs : List (List Item)) (ks : List ℕ) → are_known os bs ks ≡ true → are_known os (bs ++ [] ∷ []) (ks ++ 0 ∷ []) ≡ true
known_more os [] [] e = refl
known_more os [] (n ∷ ks) e = absurd (false≢true e)
known_more os (x ∷ bs) [] e = absurd (false≢true e)
known_more os (x ∷ bs) (n ∷ ks) e =
    let p = and_parts (is_known os x n) (are_known os bs ks) e in
    and_from (is_known os x n) (are_known os (bs ++ [] ∷ []) (ks ++ 0 ∷ [])) p.0 (known_more os bs ks p.1)

-- the buffer at a place, and its count
pub buffer_there : (bs : List BufferMeaning) (i : ℕ) (b : BufferMeaning) → i < length bs → b ≡ get_or bs i b → slice_get (map (λ x. x.items) bs) i ≡ Some b.items
buffer_there bs i b l e = get_map (λ x. x.items) bs i b (slice_get-get_or bs i b l ∙ ap Some (sym e))

pub buffer_known : (os : List Object) (bs : List BufferMeaning) (ks : List ℕ) (i : ℕ) (b : BufferMeaning) (k : ℕ) → i < length bs → i < length ks → b ≡ get_or bs i b → k ≡ get_or ks i k → are_known os (map (λ x. x.items) bs) ks ≡ true → is_known os b.items k ≡ true
buffer_known os bs ks i b k l m e f h = known_at os (map (λ x. x.items) bs) ks i b.items k (buffer_there bs i b l e) (slice_get-get_or ks i k m ∙ ap Some (sym f)) h
