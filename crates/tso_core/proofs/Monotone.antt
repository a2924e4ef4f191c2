-- The shared part is monotone: where less is known, it goes wrong or does the same.
use Rattle.std.proofs.Common.{◌≡◌, ◌≢◌, ℕ, zero, suc, ◌+◌, ◌-◌, ◌%◌, ◌^◌, ◌<◌, ◌≤◌, List, [], ◌∷◌, ◌++◌, length, refl, sym, ap, ◌∙◌, subst, arith, Option, Some, None, ◌⊎◌, inl, inr, Bool, true, false}
use Rattle.std.specs.Prelude.{if◌then◌else◌, ◌==◌, ◌&&◌, ◌||◌, not, nat_lt, nat_le, slice_get, slice_set, slice_index_or}
use Rattle.std.specs.List.{AllZip, list_any, list_all}
use Rattle.std.proofs.lemmas.Bool.{eq-eqb, leb-true, ltb-true}
use Rattle.tso_words.specs.declared.value.Val.{Val}
use Rattle.tso_words.specs.declared.value.Val.TheVariants.{Undef, Word}
use Rattle.tso_words.specs.declared.value.Cell.{Cell}
use Rattle.tso_words.specs.declared.value.Cell.TheVariants.{Blank}
use Rattle.tso_words.specs.declared.value.Chunk.{Chunk}
use Rattle.tso_words.specs.declared.value.Chunk.TheVariants.{I32}
use Rattle.tso_words.specs.declared.operator.Op.TheVariants as W
use Rattle.tso_words.specs.declared.operator.Cond.TheVariants as C
use Rattle.tso_words.specs.Words.{chunk_size, byte_of}
use Rattle.tso_words.specs.Below.{ValBelow, CellBelow, CellsBelow}
use Rattle.tso_words.specs.Below as Known
use Rattle.tso_words.proofs.BelowLaws.{ValBelow_refl, CellBelow_refl, value_of-below, operate-below, compare-below}
use Rattle.tso_memory.specs.declared.object.Object.{Object}
use Rattle.tso_memory.specs.declared.buffer.Item.{Item}
use Rattle.tso_memory.specs.declared.buffer.Item.TheVariants.{Put, Place, Lift}
use Rattle.tso_memory.specs.Memory.{MemoryMeaning, meets, inserted, is_in, is_live, is_right, cells_from, value_at, load, cells_put, put, only, added, unmet, lifted, removed}
use Rattle.tso_memory.specs.Buffer.{local, applied, and_then, view, loaded, is_lift, is_place, objects_lifted, places_lifted, unplaced, pending_ok, is_in_stacks, is_place_allowed}
use Rattle.tso_core.specs.declared.Event.TheVariants as E
use Rattle.tso_core.specs.declared.offer.Atomic.{Atomic}
use Rattle.tso_core.specs.declared.offer.Atomic.TheVariants as A
use Rattle.tso_core.specs.declared.offer.Offer.{Offer}
use Rattle.tso_core.specs.declared.offer.Offer.TheVariants as O
use Rattle.tso_core.specs.declared.offer.Answer.TheVariants.{Nothing, Value}
use Rattle.tso_core.specs.declared.offer.Now.{Now}
use Rattle.tso_core.specs.declared.offer.Now.TheVariants as N
use Rattle.tso_core.specs.Threads.{Refused, Goes, Stops, Spawns}
use Rattle.tso_core.specs.ThreadTies.{Kept, IsWrongAt, EffectBelow, IsMonotone}
use Rattle.tso_core.specs.Language.{Takes}
use Rattle.tso_core.specs.Shared.{Shared, Eff, items_or_none, buffer_of, holds_put, heap_at, block_size, is_block_allowed, block, compared, exchanged, failed, wrong, pushed, if_empty, when, answered, stored, swapped, swapped_at, given, freed, freed_at, spawned, effect_of, put_on, drained_by, is_start, shared_part}
use Rattle.tso_core.specs.Below.{MemoryBelow, ItemBelow, PutBelow, PlaceSame, LiftSame, ItemsBelow, SharedBelow, OfferBelow, LoadBelow, StoreBelow, AtomicBelow, MallocBelow, FreeBelow, StartBelow, ExitBelow, SameOffer, AnswerBelow, orders}

-- lists related element by element
all_set : {A B : Type 0} (R : A → B → Type 0) (xs : List A) (ys : List B) (i : ℕ) (x : A) (y : B) → R x y → AllZip R xs ys → AllZip R (slice_set xs i x) (slice_set ys i y)
all_set R [] [] i x y r h = tt
all_set R [] (b ∷ ys) i x y r h = absurd h
all_set R (a ∷ xs) [] i x y r h = absurd h
all_set R (a ∷ xs) (b ∷ ys) zero x y r h = (r, h.1)
all_set R (a ∷ xs) (b ∷ ys) (suc i) x y r h = (h.0, all_set R xs ys i x y r h.1)

all_push : {A B : Type 0} (R : A → B → Type 0) (xs : List A) (ys : List B) (x : A) (y : B) → R x y → AllZip R xs ys → AllZip R (xs ++ x ∷ []) (ys ++ y ∷ [])
all_push R [] [] x y r h = (r, tt)
all_push R [] (b ∷ ys) x y r h = absurd h
all_push R (a ∷ xs) [] x y r h = absurd h
all_push R (a ∷ xs) (b ∷ ys) x y r h = (h.0, all_push R xs ys x y r h.1)

all_length : {A B : Type 0} (R : A → B → Type 0) (xs : List A) (ys : List B) → AllZip R xs ys → length xs ≡ length ys
all_length R [] [] h = refl
all_length R [] (b ∷ ys) h = absurd h
all_length R (a ∷ xs) [] h = absurd h
all_length R (a ∷ xs) (b ∷ ys) h = ap suc (all_length R xs ys h.1)

all_buffer : (xs ys : List (List Item)) (i : ℕ) → AllZip ItemsBelow xs ys → ItemsBelow (items_or_none (slice_get xs i)) (items_or_none (slice_get ys i))
all_buffer [] [] i h = tt
all_buffer [] (b ∷ ys) i h = absurd h
all_buffer (a ∷ xs) [] i h = absurd h
all_buffer (a ∷ xs) (b ∷ ys) zero h = h.0
all_buffer (a ∷ xs) (b ∷ ys) (suc i) h = all_buffer xs ys i h.1

-- what buffers so related have in common
put_same : {x y : Item} → ItemBelow x y → (b1 b2 : Bool) → b1 ≡ b2 → (p : Item → Bool → Bool) → ((c : Chunk) (a1 a2 v1 v2 : Val) (b : Bool) → p (Put c a1 v1) b ≡ p (Put c a2 v2) b) → p x b1 ≡ p y b2
put_same (PutBelow {chunk = c} {addr1 = a1} {addr2 = a2} {val1 = v1} {val2 = v2} a v) b1 b2 e p h = h c a1 a2 v1 v2 b1 ∙ ap (p (Put c a2 v2)) e
put_same (PlaceSame {base = b} {size = n}) b1 b2 e p h = ap (p (Place b n)) e
put_same (LiftSame {base = b} {size = n}) b1 b2 e p h = ap (p (Lift b n)) e

abbrev one_put : Item → Bool → Bool
one_put (Put chunk addr val) b = true
one_put (Place base size) b = b
one_put (Lift base size) b = b

holds_one : (x : Item) (xs : List Item) → holds_put (x ∷ xs) ≡ one_put x (holds_put xs)
holds_one (Put chunk addr val) xs = refl
holds_one (Place base size) xs = refl
holds_one (Lift base size) xs = refl

puts_same : (xs ys : List Item) → ItemsBelow xs ys → holds_put xs ≡ holds_put ys
puts_same [] [] h = refl
puts_same [] (y ∷ ys) h = absurd h
puts_same (x ∷ xs) [] h = absurd h
puts_same (x ∷ xs) (y ∷ ys) h = holds_one x xs ∙ put_same h.0 _ _ (puts_same xs ys h.1) one_put (λ c a1 a2 v1 v2 b. refl) ∙ sym (holds_one y ys)

lift_same : {x y : Item} → ItemBelow x y → (b n : ℕ) → is_lift b n x ≡ is_lift b n y
lift_same (PutBelow a v) b n = refl
lift_same PlaceSame b n = refl
lift_same LiftSame b n = refl

place_same : {x y : Item} → ItemBelow x y → (b n : ℕ) → is_place b n x ≡ is_place b n y
place_same (PutBelow a v) b n = refl
place_same PlaceSame b n = refl
place_same LiftSame b n = refl

any_lift_same : (b n : ℕ) (xs ys : List Item) → ItemsBelow xs ys → list_any (is_lift b n) xs ≡ list_any (is_lift b n) ys
any_lift_same b n [] [] h = refl
any_lift_same b n [] (y ∷ ys) h = absurd h
any_lift_same b n (x ∷ xs) [] h = absurd h
any_lift_same b n (x ∷ xs) (y ∷ ys) h = ap (λ z. z || list_any (is_lift b n) xs) (lift_same h.0 b n) ∙ ap (λ z. is_lift b n y || z) (any_lift_same b n xs ys h.1)

unplaced_same : (b n : ℕ) (xs ys : List Item) → ItemsBelow xs ys → unplaced b n xs ≡ unplaced b n ys
unplaced_same b n [] [] h = refl
unplaced_same b n [] (y ∷ ys) h = absurd h
unplaced_same b n (x ∷ xs) [] h = absurd h
unplaced_same b n (x ∷ xs) (y ∷ ys) h = ap (λ z. not z && unplaced b n xs) (place_same h.0 b n) ∙ ap (λ z. not (is_place b n y) && z) (unplaced_same b n xs ys h.1)

all_unplaced_same : (b n : ℕ) (xs ys : List (List Item)) → AllZip ItemsBelow xs ys → list_all (unplaced b n) xs ≡ list_all (unplaced b n) ys
all_unplaced_same b n [] [] h = refl
all_unplaced_same b n [] (y ∷ ys) h = absurd h
all_unplaced_same b n (x ∷ xs) [] h = absurd h
all_unplaced_same b n (x ∷ xs) (y ∷ ys) h = ap (λ z. z && list_all (unplaced b n) xs) (unplaced_same b n x y h.0) ∙ ap (λ z. unplaced b n y && z) (all_unplaced_same b n xs ys h.1)

objects_lifted_same : (b n : ℕ) (xs ys : List Item) → ItemsBelow xs ys → (os : List Object) → objects_lifted b n xs os ≡ objects_lifted b n ys os
objects_lifted_same b n xs ys h [] = refl
objects_lifted_same b n xs ys h (o ∷ os) =
    ap (λ z. (not (meets o.base o.size b n) || z) && objects_lifted b n xs os) (any_lift_same o.base o.size xs ys h) ∙ ap (λ z. (not (meets o.base o.size b n) || list_any (is_lift o.base o.size) ys) && z) (objects_lifted_same b n xs ys h os)

places_on : {x y : Item} → ItemBelow x y → (b n : ℕ) (xs ys : List Item) → ItemsBelow xs ys → places_lifted b n xs ≡ places_lifted b n ys → places_lifted b n (x ∷ xs) ≡ places_lifted b n (y ∷ ys)
places_on (PutBelow a v) b n xs ys h e = e
places_on (PlaceSame {base = p} {size = s}) b n xs ys h e =
    ap (λ z. (not (meets p s b n) || z) && places_lifted b n xs) (any_lift_same p s xs ys h) ∙ ap (λ z. (not (meets p s b n) || list_any (is_lift p s) ys) && z) e
places_on LiftSame b n xs ys h e = e

places_lifted_same : (b n : ℕ) (xs ys : List Item) → ItemsBelow xs ys → places_lifted b n xs ≡ places_lifted b n ys
places_lifted_same b n [] [] h = refl
places_lifted_same b n [] (y ∷ ys) h = absurd h
places_lifted_same b n (x ∷ xs) [] h = absurd h
places_lifted_same b n (x ∷ xs) (y ∷ ys) h = places_on h.0 b n xs ys h.1 (places_lifted_same b n xs ys h.1)

pending_same : (b n i : ℕ) (xs ys : List (List Item)) → AllZip ItemsBelow xs ys → pending_ok b n i xs ≡ pending_ok b n i ys
pending_same b n i [] [] h = refl
pending_same b n i [] (y ∷ ys) h = absurd h
pending_same b n i (x ∷ xs) [] h = absurd h
pending_same b n zero (x ∷ xs) (y ∷ ys) h = ap (λ z. z && list_all (unplaced b n) xs) (places_lifted_same b n x y h.0) ∙ ap (λ z. places_lifted b n y && z) (all_unplaced_same b n xs ys h.1)
pending_same b n (suc i) (x ∷ xs) (y ∷ ys) h = ap (λ z. z && pending_ok b n i xs) (unplaced_same b n x y h.0) ∙ ap (λ z. unplaced b n y && z) (pending_same b n i xs ys h.1)

own_same : (xs ys : List (List Item)) (i : ℕ) → AllZip ItemsBelow xs ys → ItemsBelow (slice_index_or xs i []) (slice_index_or ys i [])
own_same [] [] i h = tt
own_same [] (b ∷ ys) i h = absurd h
own_same (a ∷ xs) [] i h = absurd h
own_same (a ∷ xs) (b ∷ ys) zero h = h.0
own_same (a ∷ xs) (b ∷ ys) (suc i) h = own_same xs ys i h.1

allowed_same : (os : List Object) (xs ys : List (List Item)) → AllZip ItemsBelow xs ys → (i base size align : ℕ) → is_place_allowed os xs i base size align ≡ is_place_allowed os ys i base size align
allowed_same os xs ys h i base size align =
    ap (λ z. nat_lt 0 size && (nat_lt 0 align && ((base % align == 0) && (is_in_stacks base size && (z && pending_ok base size i xs))))) (objects_lifted_same base size _ _ (own_same xs ys i h) os)
    ∙ ap (λ z. nat_lt 0 size && (nat_lt 0 align && ((base % align == 0) && (is_in_stacks base size && (objects_lifted base size (slice_index_or ys i []) os && z))))) (pending_same base size i xs ys h)

-- tests that hold
both_hold : (a b : Bool) → (a && b) ≡ true → (a ≡ true) × (b ≡ true)
both_hold true b e = (refl, e)
both_hold false b e = cc

allowed_word : (os : List Object) (xs : List (List Item)) (i base size align : ℕ) → is_place_allowed os xs i base size align ≡ true → base < 2 ^ 32
allowed_word os xs i base size align e =
    let lifted = objects_lifted base size (slice_index_or xs i []) os && pending_ok base size i xs in
    let e1 = both_hold (nat_lt 0 size) (nat_lt 0 align && ((base % align == 0) && (is_in_stacks base size && lifted))) e in
    let e2 = both_hold (nat_lt 0 align) ((base % align == 0) && (is_in_stacks base size && lifted)) e1.1 in
    let e3 = both_hold (base % align == 0) (is_in_stacks base size && lifted) e2.1 in
    let e4 = both_hold (is_in_stacks base size) lifted e3.1 in
    let h : base + size ≤ 0xF0000000 = leb-true (base + size) 0xF0000000 (both_hold (nat_le 0x90000000 base) (nat_le (base + size) 0xF0000000) e4.0).1 in
    omega arith

block_word : (os : List Object) (base size : ℕ) → is_block_allowed os base size ≡ true → base < 2 ^ 32
block_word os base size e =
    let inner = list_all (λ o. not (meets o.base o.size base size)) os in
    let e1 = both_hold (base % 16 == 0) (nat_le 0x30000000 base && (nat_le (base + size) 0x90000000 && inner)) e in
    let e2 = both_hold (nat_le 0x30000000 base) (nat_le (base + size) 0x90000000 && inner) e1.1 in
    let h : base + size ≤ 0x90000000 = leb-true (base + size) 0x90000000 (both_hold (nat_le (base + size) 0x90000000) inner e2.1).0 in
    omega arith

-- cells and values
choose_below : (x : Bool) (c1 c2 d1 d2 : Cell) → CellBelow c1 c2 → CellBelow d1 d2 → CellBelow (if x then c1 else d1) (if x then c2 else d2)
choose_below true c1 c2 d1 d2 h g = h
choose_below false c1 c2 d1 d2 h g = g

byte_below : (v w : Val) (i : ℕ) → ValBelow v w → CellBelow (byte_of v i) (byte_of w i)
byte_below Undef w i h = tt
byte_below (Word a) w i h = subst (λ x. CellBelow (byte_of (Word a) i) (byte_of x i)) (sym h) refl

-- memory: the first is wrong, or both go on
abbrev Both : (MemoryMeaning → MemoryMeaning → Type 0) → Option MemoryMeaning → Option MemoryMeaning → Type 0
Both R x y = (x ≡ None) ⊎ ((n1 n2 : MemoryMeaning) × (x ≡ Some n1) × (y ≡ Some n2) × R n1 n2)

abbrev BothVals : Option Val → Option Val → Type 0
BothVals x y = (x ≡ None) ⊎ ((v1 v2 : Val) × (x ≡ Some v1) × (y ≡ Some v2) × ValBelow v1 v2)

both_vals : (x y : Option Val) → Known.AnswerBelow ValBelow x y → BothVals x y
both_vals None y h = inl refl
both_vals (Some v) None h = absurd h
both_vals (Some v) (Some w) h = inr (v, w, refl, refl, h)

module _ (m1 m2 : MemoryMeaning) (h : MemoryBelow m1 m2) where
  only_below : (os1 os2 : List Object) → os1 ≡ os2 → MemoryBelow (only os1 m1) (only os2 m2)
  only_below os1 os2 e =
      let same : MemoryBelow (only os1 m1) (only os1 m2) = record { objects = refl; cells = λ x. choose_below (is_live os1 x) _ _ _ _ (h.cells x) tt } in
      subst (λ os. MemoryBelow (only os1 m1) (only os m2)) e same

  added_below : (o : Object) (c : Cell) → MemoryBelow (added o c m1) (added o c m2)
  added_below o c = record { objects = ap (inserted o) h.objects; cells = λ x. choose_below (is_in o.base o.size x) _ _ _ _ (CellBelow_refl c) (h.cells x) }

  put_below : (c : Chunk) (a : ℕ) (v w : Val) → ValBelow v w → (x : Bool) → is_right m2.objects c (Word a) ≡ x → Both MemoryBelow (put m1 c (Word a) v) (put m2 c (Word a) w)
  put_below c a v w l false e =
      let same = ap (λ os. is_right os c (Word a)) h.objects ∙ e in
      inl (ap (λ y. if y then Some (record m1 { cells = cells_put m1.cells c (Word a) v }) else None) same)
  put_below c a v w l true e =
      let same = ap (λ os. is_right os c (Word a)) h.objects ∙ e in
      inr (
        record m1 { cells = cells_put m1.cells c (Word a) v },
        record m2 { cells = cells_put m2.cells c (Word a) w },
        ap (λ y. if y then Some (record m1 { cells = cells_put m1.cells c (Word a) v }) else None) same,
        ap (λ y. if y then Some (record m2 { cells = cells_put m2.cells c (Word a) w }) else None) e,
        record { objects = h.objects; cells = λ x. choose_below (is_in a (chunk_size c) x) _ _ _ _ (byte_below v w (x - a) l) (h.cells x) },
      )

  put_any : (c : Chunk) (a1 a2 : Val) → ValBelow a1 a2 → (v w : Val) → ValBelow v w → Both MemoryBelow (put m1 c a1 v) (put m2 c a2 w)
  put_any c Undef a2 l v w k = inl refl
  put_any c (Word a) a2 l v w k = subst (λ x. Both MemoryBelow (put m1 c (Word a) v) (put m2 c x w)) (sym l) (put_below c a v w k _ refl)

  applied_below : {x y : Item} → ItemBelow x y → Both MemoryBelow (applied m1 x) (applied m2 y)
  applied_below (PutBelow {chunk = c} {addr1 = a1} {addr2 = a2} {val1 = v} {val2 = w} a l) = put_any c a1 a2 a v w l
  applied_below (LiftSame {base = base} {size = size}) = inr (_, _, refl, refl, only_below _ _ (ap (lifted base size) h.objects))
  applied_below (PlaceSame {base = base} {size = size}) =
      inr (_, _, refl, refl, placed_below (only (unmet base size m1.objects) m1) (only (unmet base size m2.objects) m2) (only_below _ _ (ap (unmet base size) h.objects)))
    where
      placed_below : (n1 n2 : MemoryMeaning) → MemoryBelow n1 n2 → MemoryBelow (added (local base size) Blank n1) (added (local base size) Blank n2)
      placed_below n1 n2 g = record { objects = ap (inserted (local base size)) g.objects; cells = λ x. choose_below (is_in base size x) _ _ _ _ tt (g.cells x) }

  cells_below : (a n : ℕ) → CellsBelow (cells_from m1.cells a n) (cells_from m2.cells a n)
  cells_below a zero = tt
  cells_below a (suc n) = (h.cells a, cells_below (suc a) n)

  read_below : (c : Chunk) (a : ℕ) (x : Bool) → is_right m2.objects c (Word a) ≡ x → BothVals (load m1 c (Word a)) (load m2 c (Word a))
  read_below c a false e = inl (ap (λ y. if y then Some (value_at m1.cells c (Word a)) else None) (ap (λ os. is_right os c (Word a)) h.objects ∙ e))
  read_below c a true e =
      inr (
        value_at m1.cells c (Word a),
        value_at m2.cells c (Word a),
        ap (λ y. if y then Some (value_at m1.cells c (Word a)) else None) (ap (λ os. is_right os c (Word a)) h.objects ∙ e),
        ap (λ y. if y then Some (value_at m2.cells c (Word a)) else None) e,
        value_of-below c _ _ (cells_below a (chunk_size c)),
      )

  load_below : (c : Chunk) (a1 a2 : Val) → ValBelow a1 a2 → BothVals (load m1 c a1) (load m2 c a2)
  load_below c Undef a2 l = inl refl
  load_below c (Word a) a2 l = subst (λ x. BothVals (load m1 c (Word a)) (load m2 c x)) (sym l) (read_below c a _ refl)

view_below : (m1 m2 : MemoryMeaning) → MemoryBelow m1 m2 → (xs ys : List Item) → ItemsBelow xs ys → Both MemoryBelow (view m1 xs) (view m2 ys)
view_below m1 m2 h [] [] t = inr (m1, m2, refl, refl, h)
view_below m1 m2 h [] (y ∷ ys) t = absurd t
view_below m1 m2 h (x ∷ xs) [] t = absurd t
view_below m1 m2 h (x ∷ xs) (y ∷ ys) t = go (applied_below m1 m2 h t.0) (λ n1 n2 g. view_below n1 n2 g xs ys t.1)
  where
    go : Both MemoryBelow (applied m1 x) (applied m2 y) → ((n1 n2 : MemoryMeaning) → MemoryBelow n1 n2 → Both MemoryBelow (view n1 xs) (view n2 ys)) → Both MemoryBelow (view m1 (x ∷ xs)) (view m2 (y ∷ ys))
    go (inl e) rest = inl (ap (λ z. and_then z (λ n. view n xs)) e)
    go (inr r) rest = on (rest r.0 r.1 r.4)
      where
        on : Both MemoryBelow (view r.0 xs) (view r.1 ys) → Both MemoryBelow (view m1 (x ∷ xs)) (view m2 (y ∷ ys))
        on (inl e) = inl (ap (λ z. and_then z (λ n. view n xs)) r.2 ∙ e)
        on (inr s) = inr (s.0, s.1, ap (λ z. and_then z (λ n. view n xs)) r.2 ∙ s.2, ap (λ z. and_then z (λ n. view n ys)) r.3 ∙ s.3, s.4)

-- what an atomic step stores
compared_below : (o1 o2 d1 d2 : Val) → ValBelow o1 o2 → ValBelow d1 d2 → (x y : Option Bool) → Known.AnswerBelow (λ r s. s ≡ r) x y → BothVals (compared o1 d1 x) (compared o2 d2 y)
compared_below o1 o2 d1 d2 lo ld None y h = inl refl
compared_below o1 o2 d1 d2 lo ld (Some r) None h = absurd h
compared_below o1 o2 d1 d2 lo ld (Some r) (Some s) h =
    subst (λ z. BothVals (compared o1 d1 (Some r)) (compared o2 d2 (Some z))) (sym h) (inr (_, _, refl, refl, chosen r))
  where
    chosen : (b : Bool) → ValBelow (if b then d1 else o1) (if b then d2 else o2)
    chosen true = ld
    chosen false = lo

exchanged_below : (kind : Atomic) (o1 o2 e1 e2 d1 d2 : Val) → ValBelow o1 o2 → ValBelow e1 e2 → ValBelow d1 d2 → BothVals (exchanged kind o1 e1 d1) (exchanged kind o2 e2 d2)
exchanged_below A.Cas o1 o2 e1 e2 d1 d2 lo le ld = compared_below o1 o2 d1 d2 lo ld _ _ (compare-below C.Eq o1 e1 o2 e2 lo le)
exchanged_below A.Add o1 o2 e1 e2 d1 d2 lo le ld = both_vals _ _ (operate-below W.Add (o1 ∷ d1 ∷ []) (o2 ∷ d2 ∷ []) (lo, (ld, tt)))
exchanged_below A.Xchg o1 o2 e1 e2 d1 d2 lo le ld = inr (d1, d2, refl, refl, ld)

abbrev EB : Shared → ℕ → Offer → Offer → Eff → Eff → Type 0
EB old i o1 o2 x1 x2 = EffectBelow shared_part orders old i o1 o2 x1 x2

abbrev WrongEff : Eff → Type 0
WrongEff x = (n : Shared) × (x ≡ Stops None n) × (n.now ≡ N.Wrong)

-- w is the effect in the first at the choice at which it is wrong
abbrev Case : Shared → ℕ → Offer → Offer → Eff → Eff → Eff → Type 0
Case old i o1 o2 w x1 x2 = WrongEff w ⊎ EB old i o1 o2 x1 x2

case_eq : (old : Shared) (i : ℕ) (o1 o2 : Offer) (x1 y1 x2 y2 : Eff) → x1 ≡ y1 → x2 ≡ y2 → Case old i o1 o2 y1 y1 y2 → Case old i o1 o2 x1 x1 x2
case_eq old i o1 o2 x1 y1 x2 y2 e1 e2 h = subst (λ z. Case old i o1 o2 z z x2) (sym e1) (subst (λ z. Case old i o1 o2 y1 y1 z) (sym e2) h)

case_empty : (old : Shared) (i : ℕ) (o1 o2 : Offer) (w x1 x2 : Eff) (xs ys : List Item) → ItemsBelow xs ys → Case old i o1 o2 w x1 x2 → Case old i o1 o2 (if_empty xs w) (if_empty xs x1) (if_empty ys x2)
case_empty old i o1 o2 w x1 x2 [] [] t h = h
case_empty old i o1 o2 w x1 x2 [] (y ∷ ys) t h = absurd t
case_empty old i o1 o2 w x1 x2 (x ∷ xs) [] t h = absurd t
case_empty old i o1 o2 w x1 x2 (x ∷ xs) (y ∷ ys) t h = inr tt

case_when : (old : Shared) (i : ℕ) (o1 o2 : Offer) (e1 e2 : Eff) (x1 x2 : Bool) → x1 ≡ x2 → (x2 ≡ true → EB old i o1 o2 e1 e2) → Case old i o1 o2 (when x1 e1) (when x1 e1) (when x2 e2)
case_when old i o1 o2 e1 e2 x1 true f g = case_eq old i o1 o2 _ e1 _ e2 (ap (λ z. when z e1) f) refl (inr (g refl))
case_when old i o1 o2 e1 e2 x1 false f g = case_eq old i o1 o2 _ Refused _ Refused (ap (λ z. when z e1) f) refl (inr tt)

failing : (s : Shared) → WrongEff (wrong s)
failing s = (failed s, refl, refl)

not_no_heap : N.NoHeap ≢ N.Wrong
not_no_heap e = cc

not_exited : N.Exited ≢ N.Wrong
not_exited e = cc

module _ (s1 s2 : Shared) (h : SharedBelow s1 s2) (going : s2.now ≡ N.Running) (i : ℕ) where
  kept : Kept shared_part orders s2 s2
  kept = record { going = going; ended = λ j e. e }

  here : ItemsBelow (buffer_of s1 i) (buffer_of s2 i)
  here = all_buffer s1.buffers s2.buffers i h.buffers

  abbrev Result : Offer → Offer → Option ℕ → Type 0
  Result o1 o2 c = IsWrongAt shared_part orders o1 i s1 ⊎ EB s2 i o1 o2 (effect_of o1 i c s1) (effect_of o2 i c s2)

  -- the first goes wrong at a choice, or both do the same
  finish : (o1 o2 : Offer) (d c : Option ℕ) → Case s2 i o1 o2 (effect_of o1 i d s1) (effect_of o1 i c s1) (effect_of o2 i c s2) → Result o1 o2 c
  finish o1 o2 d c (inl w) = inl (record { choice = d; new = w.0; stops = w.1; wrong = w.2 })
  finish o1 o2 d c (inr e) = inr e

  with_memory : (m1 m2 : MemoryMeaning) → MemoryBelow m1 m2 → SharedBelow (record s1 { memory = m1 }) (record s2 { memory = m2 })
  with_memory m1 m2 g = record { memory = g; buffers = h.buffers; ended = h.ended; now = h.now; right = h.right }

  with_pushed : (x y : Item) → ItemBelow x y → SharedBelow (pushed s1 i x) (pushed s2 i y)
  with_pushed x y r =
      record {
        memory = h.memory;
        buffers = all_set ItemsBelow s1.buffers s2.buffers i _ _ (all_push ItemBelow (buffer_of s1 i) (buffer_of s2 i) x y r here) h.buffers;
        ended = h.ended;
        now = h.now;
        right = h.right;
      }

  with_now : (n : Now) → n ≢ N.Wrong → SharedBelow (record s1 { now = n }) (record s2 { now = n })
  with_now n w = record { memory = h.memory; buffers = h.buffers; ended = h.ended; now = refl; right = w }

  -- both are answered nothing; both are answered a word
  nothing : (o : Offer) → Takes o Nothing → AnswerBelow o Nothing Nothing
  nothing o t = record { below = tt; takes_first = t; takes_second = t }

  same_word : (o : Offer) (n : ℕ) → Takes o (Value (Word n)) → AnswerBelow o (Value (Word n)) (Value (Word n))
  same_word o n t = record { below = refl; takes_first = t; takes_second = t }

  values : (o : Offer) → ((v : Val) → Takes o (Value v)) → (v w : Val) → ValBelow v w → AnswerBelow o (Value v) (Value w)
  values o t v w l = record { below = l; takes_first = t v; takes_second = t w }

  load_vals : (o1 o2 : Offer) → ((v : Val) → Takes o2 (Value v)) → (x y : Option Val) → BothVals x y → Case s2 i o1 o2 (answered s1 x) (answered s1 x) (answered s2 y)
  load_vals o1 o2 t x y (inl e) = inl (failed s1, ap (answered s1) e, refl)
  load_vals o1 o2 t x y (inr v) =
      case_eq s2 i o1 o2 _ (Goes (Value v.0) None s1) _ (Goes (Value v.1) None s2) (ap (answered s1) v.2) (ap (answered s2) v.3) (inr (values o2 t v.0 v.1 v.4, refl, h, kept))

  load_view : (c : Chunk) (a1 a2 : Val) → ValBelow a1 a2 → (x y : Option MemoryMeaning) → Both MemoryBelow x y → Case s2 i (O.Load c a1) (O.Load c a2) (answered s1 (loaded x c a1)) (answered s1 (loaded x c a1)) (answered s2 (loaded y c a2))
  load_view c a1 a2 l x y (inl e) = inl (failed s1, ap (λ z. answered s1 (loaded z c a1)) e, refl)
  load_view c a1 a2 l x y (inr r) =
      case_eq s2 i (O.Load c a1) (O.Load c a2) _ (answered s1 (load r.0 c a1)) _ (answered s2 (load r.1 c a2)) (ap (λ z. answered s1 (loaded z c a1)) r.2) (ap (λ z. answered s2 (loaded z c a2)) r.3)
      (load_vals (O.Load c a1) (O.Load c a2) (λ v. tt) (load r.0 c a1) (load r.1 c a2) (load_below r.0 r.1 r.4 c a1 a2 l))

  eff_load : (ch : Chunk) (a1 a2 : Val) → ValBelow a1 a2 → (c : Option ℕ) → Result (O.Load ch a1) (O.Load ch a2) c
  eff_load ch a1 a2 l None = finish (O.Load ch a1) (O.Load ch a2) None None (load_view ch a1 a2 l _ _ (view_below s1.memory s2.memory h.memory _ _ here))
  eff_load ch a1 a2 l (Some c) = inr tt

  eff_store : (ch : Chunk) (a1 a2 v1 v2 : Val) → ValBelow a1 a2 → ValBelow v1 v2 → (c : Option ℕ) → Result (O.Store ch a1 v1) (O.Store ch a2 v2) c
  eff_store ch a1 a2 v1 v2 l m None = inr (nothing (O.Store ch a2 v2) tt, refl, with_pushed _ _ (PutBelow l m), record { going = going; ended = λ j e. e })
  eff_store ch a1 a2 v1 v2 l m (Some c) = inr tt

  eff_lift : (base size : ℕ) (c : Option ℕ) → Result (O.Lift base size) (O.Lift base size) c
  eff_lift base size None = inr (nothing (O.Lift base size) tt, refl, with_pushed _ _ LiftSame, record { going = going; ended = λ j e. e })
  eff_lift base size (Some c) = inr tt

  may_place : (size align base : ℕ) → is_place_allowed s1.memory.objects s1.buffers i base size align ≡ is_place_allowed s2.memory.objects s2.buffers i base size align
  may_place size align base = ap (λ os. is_place_allowed os s1.buffers i base size align) h.memory.objects ∙ allowed_same s2.memory.objects s1.buffers s2.buffers h.buffers i base size align

  eff_place : (size align : ℕ) (c : Option ℕ) → Result (O.Place size align) (O.Place size align) c
  eff_place size align None = inr tt
  eff_place size align (Some base) =
      let o = O.Place size align in
      finish o o (Some base) (Some base)
      (case_when s2 i o o (Goes (Value (Word base)) None (pushed s1 i (Place base size))) (Goes (Value (Word base)) None (pushed s2 i (Place base size))) _ _ (may_place size align base)
      (λ e. (same_word o base (allowed_word _ _ i base size align e), refl, with_pushed _ _ PlaceSame, record { going = going; ended = λ j g. g })))

  eff_fence : (c : Option ℕ) → Result O.Fence O.Fence c
  eff_fence None = finish O.Fence O.Fence None None (case_empty s2 i O.Fence O.Fence _ _ _ _ _ here (inr (nothing O.Fence tt, refl, h, kept)))
  eff_fence (Some c) = inr tt

  -- an atomic step
  store_new : (o1 o2 : Offer) → ((v : Val) → Takes o2 (Value v)) → (old1 old2 : Val) → ValBelow old1 old2 → (x y : Option MemoryMeaning) → Both MemoryBelow x y → Case s2 i o1 o2 (stored s1 old1 x) (stored s1 old1 x) (stored s2 old2 y)
  store_new o1 o2 t old1 old2 l x y (inl e) = inl (failed s1, ap (stored s1 old1) e, refl)
  store_new o1 o2 t old1 old2 l x y (inr r) =
      case_eq s2 i o1 o2 _ (Goes (Value old1) None (record s1 { memory = r.0 })) _ (Goes (Value old2) None (record s2 { memory = r.1 })) (ap (stored s1 old1) r.2) (ap (stored s2 old2) r.3) (inr (values o2 t old1 old2 l, refl, with_memory r.0 r.1 r.4, record { going = going; ended = λ j e. e }))

  swap_new : (o1 o2 : Offer) → ((v : Val) → Takes o2 (Value v)) → (a1 a2 : Val) → ValBelow a1 a2 → (old1 old2 : Val) → ValBelow old1 old2 → (x y : Option Val) → BothVals x y → Case s2 i o1 o2 (swapped s1 a1 old1 x) (swapped s1 a1 old1 x) (swapped s2 a2 old2 y)
  swap_new o1 o2 t a1 a2 l old1 old2 m x y (inl e) = inl (failed s1, ap (swapped s1 a1 old1) e, refl)
  swap_new o1 o2 t a1 a2 l old1 old2 m x y (inr v) =
      case_eq s2 i o1 o2 _ (swapped s1 a1 old1 (Some v.0)) _ (swapped s2 a2 old2 (Some v.1)) (ap (swapped s1 a1 old1) v.2) (ap (swapped s2 a2 old2) v.3)
      (store_new o1 o2 t old1 old2 m _ _ (put_any s1.memory s2.memory h.memory I32 a1 a2 l v.0 v.1 v.4))

  eff_atomic : (kind : Atomic) (a1 a2 e1 e2 d1 d2 : Val) → ValBelow a1 a2 → ValBelow e1 e2 → ValBelow d1 d2 → (c : Option ℕ) → Result (O.Atomic kind a1 e1 d1) (O.Atomic kind a2 e2 d2) c
  eff_atomic kind a1 a2 e1 e2 d1 d2 l le ld (Some c) = inr tt
  eff_atomic kind a1 a2 e1 e2 d1 d2 l le ld None = finish o1 o2 None None (case_empty s2 i o1 o2 _ _ _ _ _ here (swap_at _ _ (load_below s1.memory s2.memory h.memory I32 a1 a2 l)))
    where
      o1 : Offer
      o1 = O.Atomic kind a1 e1 d1

      o2 : Offer
      o2 = O.Atomic kind a2 e2 d2

      swap_at : (x y : Option Val) → BothVals x y → Case s2 i (O.Atomic kind a1 e1 d1) (O.Atomic kind a2 e2 d2) (swapped_at s1 kind a1 e1 d1 x) (swapped_at s1 kind a1 e1 d1 x) (swapped_at s2 kind a2 e2 d2 y)
      swap_at x y (inl e) = inl (failed s1, ap (swapped_at s1 kind a1 e1 d1) e, refl)
      swap_at x y (inr v) =
          case_eq s2 i (O.Atomic kind a1 e1 d1) (O.Atomic kind a2 e2 d2) _ (swapped_at s1 kind a1 e1 d1 (Some v.0)) _ (swapped_at s2 kind a2 e2 d2 (Some v.1)) (ap (swapped_at s1 kind a1 e1 d1) v.2) (ap (swapped_at s2 kind a2 e2 d2) v.3)
          (swap_new (O.Atomic kind a1 e1 d1) (O.Atomic kind a2 e2 d2) (λ w. tt) a1 a2 l v.0 v.1 v.4 _ _ (exchanged_below kind v.0 v.1 e1 e2 d1 d2 v.4 le ld))

  -- a heap block
  stops_no_heap : N.NoHeap ≢ N.Running
  stops_no_heap e = cc

  malloc_word : (n : ℕ) (c : Option ℕ) → Case s2 i (O.Malloc (Word n)) (O.Malloc (Word n)) (given s1 (Word n) c) (given s1 (Word n) c) (given s2 (Word n) c)
  malloc_word n None = inr tt
  malloc_word n (Some zero) = inr (refl, with_now N.NoHeap not_no_heap, inr (stops_no_heap, (λ e. (n, refl, refl))))
  malloc_word n (Some (suc base)) =
      let o = O.Malloc (Word n) in
      case_when s2 i o o _ _ _ _ (ap (λ os. is_block_allowed os (suc base) (block_size n)) h.memory.objects)
      (λ e. (same_word o (suc base) (block_word _ (suc base) (block_size n) e), refl, with_memory _ _ (added_below s1.memory s2.memory h.memory (block (suc base) (block_size n)) Blank), record { going = going; ended = λ j g. g }))

  eff_malloc : (n1 n2 : Val) → ValBelow n1 n2 → (c : Option ℕ) → Result (O.Malloc n1) (O.Malloc n2) c
  eff_malloc Undef n2 l c = finish (O.Malloc Undef) (O.Malloc n2) None c (case_empty s2 i (O.Malloc Undef) (O.Malloc n2) (given s1 Undef None) _ _ _ _ here (inl (failing s1)))
  eff_malloc (Word n) n2 l c = subst (λ x. Result (O.Malloc (Word n)) (O.Malloc x) c) (sym l) (finish (O.Malloc (Word n)) (O.Malloc (Word n)) c c (case_empty s2 i (O.Malloc (Word n)) (O.Malloc (Word n)) _ _ _ _ _ here (malloc_word n c)))

  free_case : (a : ℕ) (x : Option ℕ) → heap_at s2.memory.objects (suc a) ≡ x → Case s2 i (O.Free (Word (suc a))) (O.Free (Word (suc a))) (freed_at s1 (Word (suc a))) (freed_at s1 (Word (suc a))) (freed_at s2 (Word (suc a)))
  free_case a None e =
      let same = ap (λ os. heap_at os (suc a)) h.memory.objects ∙ e in
      inl (failed s1, ap (freed s1 (suc a)) same, refl)
  free_case a (Some size) e =
      let o = O.Free (Word (suc a)) in
      let same = ap (λ os. heap_at os (suc a)) h.memory.objects ∙ e in
      case_eq s2 i o o _ (freed s1 (suc a) (Some size)) _ (freed s2 (suc a) (Some size)) (ap (freed s1 (suc a)) same) (ap (freed s2 (suc a)) e)
      (inr (nothing o tt, refl, with_memory _ _ (only_below s1.memory s2.memory h.memory _ _ (ap (removed (suc a)) h.memory.objects)), record { going = going; ended = λ j g. g }))

  free_word : (a : ℕ) → Case s2 i (O.Free (Word a)) (O.Free (Word a)) (freed_at s1 (Word a)) (freed_at s1 (Word a)) (freed_at s2 (Word a))
  free_word zero = inr (nothing (O.Free (Word 0)) tt, refl, h, kept)
  free_word (suc a) = free_case a _ refl

  eff_free : (a1 a2 : Val) → ValBelow a1 a2 → (c : Option ℕ) → Result (O.Free a1) (O.Free a2) c
  eff_free a1 a2 l (Some c) = inr tt
  eff_free Undef a2 l None = finish (O.Free Undef) (O.Free a2) None None (case_empty s2 i (O.Free Undef) (O.Free a2) _ _ _ _ _ here (inl (failing s1)))
  eff_free (Word a) a2 l None = subst (λ x. Result (O.Free (Word a)) (O.Free x) None) (sym l) (finish (O.Free (Word a)) (O.Free (Word a)) None None (case_empty s2 i (O.Free (Word a)) (O.Free (Word a)) _ _ _ _ _ here (free_word a)))

  -- a further thread: as many are there
  many : length s1.buffers ≡ length s2.buffers
  many = all_length ItemsBelow s1.buffers s2.buffers h.buffers

  spawn_case : (f1 f2 a1 a2 : Val) → ValBelow f1 f2 → ValBelow a1 a2 → (n : ℕ) → n ≡ length s2.buffers → nat_lt (length s2.buffers) 4294967295 ≡ true → EB s2 i (O.Start f1 a1) (O.Start f2 a2) (Spawns (f1, a1) (Value (Word n)) (record s1 { buffers = s1.buffers ++ [] ∷ [] })) (Spawns (f2, a2) (Value (Word (length s2.buffers))) (record s2 { buffers = s2.buffers ++ [] ∷ [] }))
  spawn_case f1 f2 a1 a2 lf la n e t =
      let below = ltb-true (length s2.buffers) 4294967295 t in
      let word : length s2.buffers < 2 ^ 32 = omega arith in
      let answer = subst (λ x. AnswerBelow (O.Start f2 a2) (Value (Word x)) (Value (Word (length s2.buffers)))) (sym e) (same_word (O.Start f2 a2) (length s2.buffers) word) in
      ((lf, la), answer, record { memory = h.memory; buffers = all_push ItemsBelow s1.buffers s2.buffers [] [] tt h.buffers; ended = h.ended; now = h.now; right = h.right }, record { going = going; ended = λ j g. g })

  eff_start : (f1 f2 a1 a2 : Val) → ValBelow f1 f2 → ValBelow a1 a2 → (c : Option ℕ) → Result (O.Start f1 a1) (O.Start f2 a2) c
  eff_start f1 f2 a1 a2 lf la (Some c) = inr tt
  eff_start f1 f2 a1 a2 lf la None =
      finish (O.Start f1 a1) (O.Start f2 a2) None None (case_empty s2 i (O.Start f1 a1) (O.Start f2 a2) (spawned s1 f1 a1) (spawned s1 f1 a1) (spawned s2 f2 a2) _ _ here
      (case_when s2 i (O.Start f1 a1) (O.Start f2 a2) _ _ _ _ (ap (λ n. nat_lt n 4294967295) many) (spawn_case f1 f2 a1 a2 lf la (length s1.buffers) many)))

  stops_exited : N.Exited ≢ N.Running
  stops_exited e = cc

  exit_wants : N.Exited ≡ N.NoHeap → ⊥
  exit_wants e = cc

  exit_word : (w : ℕ) → Result (O.Exit (Word w)) (O.Exit (Word w)) None
  exit_word w = inr (refl, with_now N.Exited not_exited, inr (stops_exited, (λ e. absurd (exit_wants e))))

  eff_exit : (v1 v2 : Val) → ValBelow v1 v2 → (c : Option ℕ) → Result (O.Exit v1) (O.Exit v2) c
  eff_exit v1 v2 l (Some c) = inr tt
  eff_exit Undef v2 l None = finish (O.Exit Undef) (O.Exit v2) None None (inl (failing s1))
  eff_exit (Word w) v2 l None = subst (λ x. Result (O.Exit (Word w)) (O.Exit x) None) (sym l) (exit_word w)

  ends_back : (j : ℕ) (x : Bool) → (if x then true else s2.ended j) ≡ false → s2.ended j ≡ false
  ends_back j true e = cc
  ends_back j false e = e

  both_ended : (j : ℕ) (x : Bool) → (if x then true else s1.ended j) ≡ (if x then true else s2.ended j)
  both_ended j true = refl
  both_ended j false = h.ended j

  eff_end : (c : Option ℕ) → Result O.End O.End c
  eff_end (Some c) = inr tt
  eff_end None =
      inr (
        refl,
        record { memory = h.memory; buffers = h.buffers; ended = λ j. both_ended j (j == i); now = h.now; right = h.right },
        inl (record { going = going; ended = λ j e. ends_back j (j == i) e }, ap (λ x. if x then true else s2.ended i) (eq-eqb i i refl)),
      )

  eff_wait : (c : Option ℕ) → Result O.Wait O.Wait c
  eff_wait None = inr tt
  eff_wait (Some w) =
      finish O.Wait O.Wait (Some w) (Some w)
      (case_when s2 i O.Wait O.Wait (Goes (Value (Word w)) (Some (E.Return i w)) s1) (Goes (Value (Word w)) (Some (E.Return i w)) s2) (nat_lt w (2 ^ 32)) (nat_lt w (2 ^ 32)) refl (λ e. (same_word O.Wait w (ltb-true w (2 ^ 32) e), refl, h, kept)))

  eff_same : (o : Offer) (c : Option ℕ) → Result o o c
  eff_same O.Silent c = inr tt
  eff_same (O.Load ch a) c = eff_load ch a a (ValBelow_refl a) c
  eff_same (O.Store ch a v) c = eff_store ch a a v v (ValBelow_refl a) (ValBelow_refl v) c
  eff_same (O.Place size align) c = eff_place size align c
  eff_same (O.Lift base size) c = eff_lift base size c
  eff_same O.Fence c = eff_fence c
  eff_same (O.Atomic kind a e d) c = eff_atomic kind a a e e d d (ValBelow_refl a) (ValBelow_refl e) (ValBelow_refl d) c
  eff_same (O.Malloc n) c = eff_malloc n n (ValBelow_refl n) c
  eff_same (O.Free a) c = eff_free a a (ValBelow_refl a) c
  eff_same (O.Start f a) c = eff_start f f a a (ValBelow_refl f) (ValBelow_refl a) c
  eff_same (O.Call name words) None = inr (nothing (O.Call name words) tt, refl, h, kept)
  eff_same (O.Call name words) (Some c) = inr tt
  eff_same O.Wait c = eff_wait c
  eff_same (O.Exit v) c = eff_exit v v (ValBelow_refl v) c
  eff_same O.End c = eff_end c
  eff_same O.Wrong c = inr tt

  effects : {o1 o2 : Offer} → OfferBelow o1 o2 → (c : Option ℕ) → Result o1 o2 c
  effects (LoadBelow {chunk = ch} {a1 = a1} {a2 = a2} l) c = eff_load ch a1 a2 l c
  effects (StoreBelow {chunk = ch} {a1 = a1} {a2 = a2} {v1 = v1} {v2 = v2} l m) c = eff_store ch a1 a2 v1 v2 l m c
  effects (AtomicBelow {kind = kind} {a1 = a1} {a2 = a2} {e1 = e1} {e2 = e2} {d1 = d1} {d2 = d2} l le ld) c = eff_atomic kind a1 a2 e1 e2 d1 d2 l le ld c
  effects (MallocBelow {n1 = n1} {n2 = n2} l) c = eff_malloc n1 n2 l c
  effects (FreeBelow {a1 = a1} {a2 = a2} l) c = eff_free a1 a2 l c
  effects (StartBelow {f1 = f1} {f2 = f2} {a1 = a1} {a2 = a2} lf la) c = eff_start f1 f2 a1 a2 lf la c
  effects (ExitBelow {v1 = v1} {v2 = v2} l) c = eff_exit v1 v2 l c
  effects (SameOffer {o = o}) c = eff_same o c

  -- a drain: the first is wrong, or both apply the same item
  drain_by : (rest1 rest2 : List Item) → ItemsBelow rest1 rest2 → (x y : Option MemoryMeaning) → Both MemoryBelow x y → ((put_on s1 i rest1 x).now ≡ N.Wrong) ⊎ (SharedBelow (put_on s1 i rest1 x) (put_on s2 i rest2 y) × Kept shared_part orders s2 (put_on s2 i rest2 y))
  drain_by rest1 rest2 t x y (inl e) = inl (ap (λ z. (put_on s1 i rest1 z).now) e)
  drain_by rest1 rest2 t x y (inr r) =
      let low : SharedBelow (put_on s1 i rest1 (Some r.0)) (put_on s2 i rest2 (Some r.1)) = record { memory = r.4; buffers = all_set ItemsBelow s1.buffers s2.buffers i rest1 rest2 t h.buffers; ended = h.ended; now = h.now; right = h.right } in
      let on : Kept shared_part orders s2 (put_on s2 i rest2 (Some r.1)) = record { going = going; ended = λ j e. e } in
      let low1 = subst (λ z. SharedBelow (put_on s1 i rest1 z) (put_on s2 i rest2 (Some r.1))) (sym r.2) low in
      inr (subst (λ z. SharedBelow (put_on s1 i rest1 x) (put_on s2 i rest2 z)) (sym r.3) low1, subst (λ z. Kept shared_part orders s2 (put_on s2 i rest2 z)) (sym r.3) on)

  no_item : (n : Shared) → None ≡ Some n → ⊥
  no_item n f = cc

  drain_items : (xs ys : List Item) → ItemsBelow xs ys → (new2 : Shared) → drained_by s2 i ys ≡ Some new2 → (new1 : Shared) × (drained_by s1 i xs ≡ Some new1) × ((new1.now ≡ N.Wrong) ⊎ (SharedBelow new1 new2 × Kept shared_part orders s2 new2))
  drain_items [] [] t new2 e = absurd (no_item new2 e)
  drain_items [] (y ∷ ys) t new2 e = absurd t
  drain_items (x ∷ xs) [] t new2 e = absurd t
  drain_items (x ∷ xs) (y ∷ ys) t new2 e =
      let is : put_on s2 i ys (applied s2.memory y) ≡ new2 = cc in
      let a = drain_by xs ys t.1 (applied s1.memory x) (applied s2.memory y) (applied_below s1.memory s2.memory h.memory t.0) in
      (put_on s1 i xs (applied s1.memory x), refl, subst (λ n. ((put_on s1 i xs (applied s1.memory x)).now ≡ N.Wrong) ⊎ (SharedBelow (put_on s1 i xs (applied s1.memory x)) n × Kept shared_part orders s2 n)) is a)

starts_same : {o1 o2 : Offer} → OfferBelow o1 o2 → is_start o1 ≡ is_start o2
starts_same (LoadBelow l) = refl
starts_same (StoreBelow l m) = refl
starts_same (AtomicBelow l le ld) = refl
starts_same (MallocBelow l) = refl
starts_same (FreeBelow l) = refl
starts_same (StartBelow lf la) = refl
starts_same (ExitBelow l) = refl
starts_same SameOffer = refl

put_most : (s1 s2 : Shared) → SharedBelow s1 s2 → (i : ℕ) → holds_put (buffer_of s2 i) ≡ false → holds_put (buffer_of s1 i) ≡ false
put_most s1 s2 h i e = puts_same _ _ (all_buffer s1.buffers s2.buffers i h.buffers) ∙ e

-- a memory and buffers are below themselves
pub memory_refl : (m : MemoryMeaning) → MemoryBelow m m
memory_refl m = record { objects = refl; cells = λ x. CellBelow_refl (m.cells x) }

pub monotone : IsMonotone shared_part orders
monotone =
    record {
      now_same = λ s1 s2 h. h.now;
      not_wrong = λ s1 s2 h. h.right;
      ended_same = λ s1 s2 h. h.ended;
      put_most = put_most;
      heap_same = λ s1 s2 h base. ap (λ os. heap_at os base) h.memory.objects;
      fail_wrong = λ s. refl;
      effects = λ s1 s2 h o1 o2 l going i c. effects s1 s2 h going i l c;
      drains = λ s1 s2 new2 h going i e. drain_items s1 s2 h going i _ _ (all_buffer s1.buffers s2.buffers i h.buffers) new2 e;
      starts_same = λ o1 o2 l. starts_same l;
    }
