-- The Places and Lifts that wait in buffers.
use Rattle.std.proofs.Common.{◌≡◌, ◌≢◌, ℕ, ◌+◌, ◌-◌, ◌<◌, ◌≤◌, List, [], ◌∷◌, ◌++◌, refl, sym, ap, ◌∙◌, subst, arith, ◌⊎◌, inl, inr, Bool, true, false}
use Rattle.std.specs.Prelude.{◌==◌, ◌&&◌, ◌||◌, not, nat_lt}
use Rattle.std.specs.List.{list_any}
use Rattle.std.proofs.lemmas.Bool.{eq-eqb, lt-ltb, ltb-true}
use Rattle.std.proofs.lemmas.Bool.Decides.{eqb_tells}
use Rattle.std.proofs.Math.Dec.{eqb}
use Rattle.std.proofs.Math.Bool.{and_comm}
use Rattle.tso_words.specs.declared.value.Val.{Val}
use Rattle.tso_words.specs.declared.value.Chunk.{Chunk}
use Rattle.tso_memory.specs.declared.buffer.Item.{Item}
use Rattle.tso_memory.specs.declared.buffer.Item.TheVariants.{Put, Place, Lift}
use Rattle.tso_memory.specs.Memory.{meets}
use Rattle.tso_memory.specs.Buffer.{is_lift, is_place, places_lifted, unplaced}
use Rattle.tso_core.specs.Language.{IsWithout}

abbrev pub Range : Type 0
Range = ℕ × ℕ

-- tests
pub both : (a b : Bool) → (a && b) ≡ true → (a ≡ true) × (b ≡ true)
both true b e = (refl, e)
both false b e = cc

pub joined_true : (a b : Bool) → a ≡ true → b ≡ true → (a && b) ≡ true
joined_true a b e f = ap (λ z. z && b) e ∙ f

pub either : (a b : Bool) → (a || b) ≡ true → (a ≡ true) ⊎ (b ≡ true)
either true b e = inl refl
either false b e = inr e

pub or_right : (a b : Bool) → b ≡ true → (a || b) ≡ true
or_right true b e = refl
or_right false b e = e

pub not_true : (a : Bool) → not a ≡ true → a ≡ false
not_true true e = sym e
not_true false e = refl

pub not_false : (a : Bool) → a ≡ false → not a ≡ true
not_false a e = ap not e

pub opposed : (a : Bool) → a ≡ true → a ≡ false → ⊥
opposed a e f = cc

pub same_number : (a b : ℕ) → (a == b) ≡ true → a ≡ b
same_number a b e = go (eqb_tells a b)
  where
    go : ((eqb a b ≡ true) × (a ≡ b)) ⊎ ((eqb a b ≡ false) × (a ≢ b)) → a ≡ b
    go (inl x) = x.1
    go (inr x) = absurd (opposed (eqb a b) e x.0)

-- the number of times that a range stands in a list
abbrev pub is_same : Range → Range → Bool
is_same r q = (r.0 == q.0) && (r.1 == q.1)

abbrev pub bit : Bool → ℕ
bit false = 0
bit true = 1

abbrev pub count : Range → List Range → ℕ
count r [] = 0
count r (q ∷ qs) = bit (is_same r q) + count r qs

pub same_self : (r : Range) → is_same r r ≡ true
same_self r = joined_true (r.0 == r.0) (r.1 == r.1) (eq-eqb r.0 r.0 refl) (eq-eqb r.1 r.1 refl)

pub same_is : (r q : Range) → is_same r q ≡ true → r ≡ q
same_is r q e =
    let h = both (r.0 == q.0) (r.1 == q.1) e in
    let f = same_number r.0 q.0 h.0 in
    let g = same_number r.1 q.1 h.1 in
    ap (λ a. let x : Range = (a, r.1) in x) f ∙ ap (λ a. let x : Range = (q.0, a) in x) g

count-append : (r : Range) (xs ys : List Range) → count r (xs ++ ys) ≡ count r xs + count r ys
count-append r [] ys = omega arith
count-append r (x ∷ xs) ys = omega (arith, count-append r xs ys)

pub count_without : (r : Range) (with without : List Range) → IsWithout r with without → (q : Range) → count q with ≡ bit (is_same q r) + count q without
count_without r with without w q =
    let a = ap (count q) w.with_is ∙ count-append q w.front (r ∷ w.back) in
    let b = ap (count q) w.without_is ∙ count-append q w.front w.back in
    omega (arith, a, b)

-- from so many of each range, the items lead to so many
abbrev pub Plays : List Item → (Range → ℕ) → (Range → ℕ) → Type 0
Plays [] m k = (r : Range) → m r ≡ k r
Plays (Put chunk addr val ∷ is) m k = Plays is m k
Plays (Place b n ∷ is) m k = Plays is (λ r. bit (is_same r (b, n)) + m r) k
Plays (Lift b n ∷ is) m k = (0 < m (b, n)) × Plays is (λ r. m r - bit (is_same r (b, n))) k

pub plays_put : (is : List Item) (m k : Range → ℕ) (c : Chunk) (a v : Val) → Plays is m k → Plays (is ++ Put c a v ∷ []) m k
plays_put [] m k c a v h = h
plays_put (Put x y z ∷ is) m k c a v h = plays_put is m k c a v h
plays_put (Place b n ∷ is) m k c a v h = plays_put is _ k c a v h
plays_put (Lift b n ∷ is) m k c a v h = (h.0, plays_put is _ k c a v h.1)

pub plays_place : (is : List Item) (m k l : Range → ℕ) (b n : ℕ) → Plays is m k → ((r : Range) → l r ≡ bit (is_same r (b, n)) + k r) → Plays (is ++ Place b n ∷ []) m l
plays_place [] m k l b n h e = λ r. omega (arith, h r, e r)
plays_place (Put x y z ∷ is) m k l b n h e = plays_place is m k l b n h e
plays_place (Place x y ∷ is) m k l b n h e = plays_place is _ k l b n h e
plays_place (Lift x y ∷ is) m k l b n h e = (h.0, plays_place is _ k l b n h.1 e)

pub plays_lift : (is : List Item) (m k l : Range → ℕ) (b n : ℕ) → Plays is m k → ((r : Range) → k r ≡ bit (is_same r (b, n)) + l r) → Plays (is ++ Lift b n ∷ []) m l
plays_lift [] m k l b n h e =
    let one : bit (is_same (b, n) (b, n)) ≡ 1 = ap bit (same_self (b, n)) in
    let some : 0 < m (b, n) = omega (arith, h (b, n), e (b, n)) in
    (some, (λ r. omega (arith, h r, e r)))
plays_lift (Put x y z ∷ is) m k l b n h e = plays_lift is m k l b n h e
plays_lift (Place x y ∷ is) m k l b n h e = plays_lift is _ k l b n h e
plays_lift (Lift x y ∷ is) m k l b n h e = (h.0, plays_lift is _ k l b n h.1 e)

-- ranges that meet
pub meets_sym : (a n b k : ℕ) → meets a n b k ≡ meets b k a n
meets_sym a n b k = and_comm (nat_lt a (b + k)) (nat_lt b (a + n))

pub meets_self : (b n : ℕ) → 1 ≤ n → meets b n b n ≡ true
meets_self b n h =
    let lt : b < b + n = omega arith in
    joined_true (nat_lt b (b + n)) (nat_lt b (b + n)) (lt-ltb b (b + n) lt) (lt-ltb b (b + n) lt)

-- with these obstacles, no Place meets one in its turn; a Place is an obstacle behind it, until its Lift
abbrev pub Clear : List Item → (Range → Type 0) → Type 0
Clear [] P = Unit {0}
Clear (Put chunk addr val ∷ is) P = Clear is P
Clear (Place b n ∷ is) P = ((r : Range) → P r → meets r.0 r.1 b n ≡ false) × Clear is (λ r. P r ⊎ (r ≡ (b, n)))
Clear (Lift b n ∷ is) P = Clear is (λ r. P r × (r ≢ (b, n)))

pub clear_fewer : (is : List Item) (P Q : Range → Type 0) → ((r : Range) → Q r → P r) → Clear is P → Clear is Q
clear_fewer [] P Q f h = tt
clear_fewer (Put c a v ∷ is) P Q f h = clear_fewer is P Q f h
clear_fewer (Place b n ∷ is) P Q f h = ((λ r q. h.0 r (f r q)), clear_fewer is _ _ go h.1)
  where
    go : (r : Range) → Q r ⊎ (r ≡ (b, n)) → P r ⊎ (r ≡ (b, n))
    go r (inl q) = inl (f r q)
    go r (inr e) = inr e
clear_fewer (Lift b n ∷ is) P Q f h = clear_fewer is _ _ (λ r x. (f r x.0, x.1)) h

-- an obstacle that no Place meets
pub clear_more : (is : List Item) (P : Range → Type 0) (q : Range) → unplaced q.0 q.1 is ≡ true → Clear is P → Clear is (λ r. P r ⊎ (r ≡ q))
clear_more [] P q u h = tt
clear_more (Put c a v ∷ is) P q u h = clear_more is P q u h
clear_more (Place b n ∷ is) P q u h = (first, clear_fewer is _ _ swap (clear_more is (λ r. P r ⊎ (r ≡ (b, n))) q free.1 h.1))
  where
    free : (not (meets b n q.0 q.1) ≡ true) × (unplaced q.0 q.1 is ≡ true)
    free = both (not (meets b n q.0 q.1)) (unplaced q.0 q.1 is) u

    first : (r : Range) → P r ⊎ (r ≡ q) → meets r.0 r.1 b n ≡ false
    first r (inl p) = h.0 r p
    first r (inr e) = ap (λ x. meets x.0 x.1 b n) e ∙ meets_sym q.0 q.1 b n ∙ not_true (meets b n q.0 q.1) free.0

    swap : (r : Range) → (P r ⊎ (r ≡ q)) ⊎ (r ≡ (b, n)) → (P r ⊎ (r ≡ (b, n))) ⊎ (r ≡ q)
    swap r (inl (inl p)) = inl (inl p)
    swap r (inl (inr e)) = inr e
    swap r (inr e) = inl (inr e)
clear_more (Lift b n ∷ is) P q u h = clear_fewer is _ _ swap (clear_more is (λ r. P r × (r ≢ (b, n))) q u h)
  where
    swap : (r : Range) → (P r ⊎ (r ≡ q)) × (r ≢ (b, n)) → (P r × (r ≢ (b, n))) ⊎ (r ≡ q)
    swap r x = go x.0
      where
        go : P r ⊎ (r ≡ q) → (P r × (r ≢ (b, n))) ⊎ (r ≡ q)
        go (inl p) = inl (p, x.1)
        go (inr e) = inr e

-- an item behind the others
pub clear_put : (is : List Item) (P : Range → Type 0) (c : Chunk) (a v : Val) → Clear is P → Clear (is ++ Put c a v ∷ []) P
clear_put [] P c a v h = tt
clear_put (Put x y z ∷ is) P c a v h = clear_put is P c a v h
clear_put (Place b n ∷ is) P c a v h = (h.0, clear_put is _ c a v h.1)
clear_put (Lift b n ∷ is) P c a v h = clear_put is _ c a v h

pub clear_lift : (is : List Item) (P : Range → Type 0) (d k : ℕ) → Clear is P → Clear (is ++ Lift d k ∷ []) P
clear_lift [] P d k h = tt
clear_lift (Put x y z ∷ is) P d k h = clear_lift is P d k h
clear_lift (Place b n ∷ is) P d k h = (h.0, clear_lift is _ d k h.1)
clear_lift (Lift b n ∷ is) P d k h = clear_lift is _ d k h

pub clear_place : (is : List Item) (P : Range → Type 0) (d k : ℕ) → places_lifted d k is ≡ true → ((r : Range) → P r → (meets r.0 r.1 d k ≡ false) ⊎ (list_any (is_lift r.0 r.1) is ≡ true)) → Clear is P → Clear (is ++ Place d k ∷ []) P
clear_place [] P d k u f h = ((λ r p. go r (f r p)), tt)
  where
    go : (r : Range) → (meets r.0 r.1 d k ≡ false) ⊎ (false ≡ true) → meets r.0 r.1 d k ≡ false
    go r (inl e) = e
    go r (inr e) = absurd (opposed true refl (sym e))
clear_place (Put x y z ∷ is) P d k u f h = clear_place is P d k u f h
clear_place (Place b n ∷ is) P d k u f h = (h.0, clear_place is _ d k free.1 go h.1)
  where
    free : ((not (meets b n d k) || list_any (is_lift b n) is) ≡ true) × (places_lifted d k is ≡ true)
    free = both (not (meets b n d k) || list_any (is_lift b n) is) (places_lifted d k is) u

    new : (not (meets b n d k) ≡ true) ⊎ (list_any (is_lift b n) is ≡ true) → (meets b n d k ≡ false) ⊎ (list_any (is_lift b n) is ≡ true)
    new (inl e) = inl (not_true (meets b n d k) e)
    new (inr e) = inr e

    go : (r : Range) → P r ⊎ (r ≡ (b, n)) → (meets r.0 r.1 d k ≡ false) ⊎ (list_any (is_lift r.0 r.1) is ≡ true)
    go r (inl p) = f r p
    go r (inr e) = subst (λ x. (meets x.0 x.1 d k ≡ false) ⊎ (list_any (is_lift x.0 x.1) is ≡ true)) (sym e) (new (either (not (meets b n d k)) (list_any (is_lift b n) is) free.0))
clear_place (Lift b n ∷ is) P d k u f h = clear_place is _ d k u go h
  where
    late : (r : Range) → r ≢ (b, n) → (((b == r.0) && (n == r.1)) ≡ true) ⊎ (list_any (is_lift r.0 r.1) is ≡ true) → list_any (is_lift r.0 r.1) is ≡ true
    late r ne (inl e) = absurd (ne (sym (same_is (b, n) r e)))
    late r ne (inr e) = e

    go : (r : Range) → P r × (r ≢ (b, n)) → (meets r.0 r.1 d k ≡ false) ⊎ (list_any (is_lift r.0 r.1) is ≡ true)
    go r x = on (f r x.0)
      where
        on : (meets r.0 r.1 d k ≡ false) ⊎ ((((b == r.0) && (n == r.1)) || list_any (is_lift r.0 r.1) is) ≡ true) → (meets r.0 r.1 d k ≡ false) ⊎ (list_any (is_lift r.0 r.1) is ≡ true)
        on (inl e) = inl e
        on (inr e) = inr (late r x.1 (either ((b == r.0) && (n == r.1)) (list_any (is_lift r.0 r.1) is) e))

-- no Place of the first list meets one of the second
abbrev pub Apart : List Item → List Item → Type 0
Apart [] js = Unit {0}
Apart (Put chunk addr val ∷ is) js = Apart is js
Apart (Place b n ∷ is) js = (unplaced b n js ≡ true) × Apart is js
Apart (Lift b n ∷ is) js = Apart is js

pub apart_none : (is : List Item) → Apart is []
apart_none [] = tt
apart_none (Put c a v ∷ is) = apart_none is
apart_none (Place b n ∷ is) = (refl, apart_none is)
apart_none (Lift b n ∷ is) = apart_none is

pub apart_rest : (is : List Item) (x : Item) (js : List Item) → Apart is (x ∷ js) → Apart is js
apart_rest [] x js h = tt
apart_rest (Put c a v ∷ is) x js h = apart_rest is x js h
apart_rest (Place b n ∷ is) x js h = ((both (not (is_place b n x)) (unplaced b n js) h.0).1, apart_rest is x js h.1)
apart_rest (Lift b n ∷ is) x js h = apart_rest is x js h

pub unplaced_push : (b n : ℕ) (js : List Item) (x : Item) → unplaced b n js ≡ true → is_place b n x ≡ false → unplaced b n (js ++ x ∷ []) ≡ true
unplaced_push b n [] x u e = joined_true (not (is_place b n x)) true (not_false (is_place b n x) e) refl
unplaced_push b n (j ∷ js) x u e = let h = both (not (is_place b n j)) (unplaced b n js) u in joined_true (not (is_place b n j)) (unplaced b n (js ++ x ∷ [])) h.0 (unplaced_push b n js x h.1 e)

pub apart_behind : (is js : List Item) (x : Item) → ((b n : ℕ) → is_place b n x ≡ false) → Apart is js → Apart is (js ++ x ∷ [])
apart_behind [] js x e h = tt
apart_behind (Put c a v ∷ is) js x e h = apart_behind is js x e h
apart_behind (Place b n ∷ is) js x e h = (unplaced_push b n js x h.0 (e b n), apart_behind is js x e h.1)
apart_behind (Lift b n ∷ is) js x e h = apart_behind is js x e h

pub apart_place_behind : (is js : List Item) (d k : ℕ) → unplaced d k is ≡ true → Apart is js → Apart is (js ++ Place d k ∷ [])
apart_place_behind [] js d k u h = tt
apart_place_behind (Put c a v ∷ is) js d k u h = apart_place_behind is js d k u h
apart_place_behind (Place b n ∷ is) js d k u h =
    let f = both (not (meets b n d k)) (unplaced d k is) u in (
      unplaced_push b n js (Place d k) h.0 (meets_sym d k b n ∙ not_true (meets b n d k) f.0),
      apart_place_behind is js d k f.1 h.1,
    )
apart_place_behind (Lift b n ∷ is) js d k u h = apart_place_behind is js d k u h

pub apart_put : (is js : List Item) (c : Chunk) (a v : Val) → Apart is js → Apart (is ++ Put c a v ∷ []) js
apart_put [] js c a v h = tt
apart_put (Put x y z ∷ is) js c a v h = apart_put is js c a v h
apart_put (Place b n ∷ is) js c a v h = (h.0, apart_put is js c a v h.1)
apart_put (Lift b n ∷ is) js c a v h = apart_put is js c a v h

pub apart_lift : (is js : List Item) (d k : ℕ) → Apart is js → Apart (is ++ Lift d k ∷ []) js
apart_lift [] js d k h = tt
apart_lift (Put x y z ∷ is) js d k h = apart_lift is js d k h
apart_lift (Place b n ∷ is) js d k h = (h.0, apart_lift is js d k h.1)
apart_lift (Lift b n ∷ is) js d k h = apart_lift is js d k h

pub apart_place : (is js : List Item) (d k : ℕ) → unplaced d k js ≡ true → Apart is js → Apart (is ++ Place d k ∷ []) js
apart_place [] js d k u h = (u, tt)
apart_place (Put x y z ∷ is) js d k u h = apart_place is js d k u h
apart_place (Place b n ∷ is) js d k u h = (h.0, apart_place is js d k u h.1)
apart_place (Lift b n ∷ is) js d k u h = apart_place is js d k u h

-- each Place lies in the stacks' range, and has a byte
abbrev pub Stacked : List Item → Type 0
Stacked [] = Unit {0}
Stacked (Put chunk addr val ∷ is) = Stacked is
Stacked (Place b n ∷ is) = ((0x90000000 ≤ b) × (1 ≤ n)) × Stacked is
Stacked (Lift b n ∷ is) = Stacked is

pub stacked_put : (is : List Item) (c : Chunk) (a v : Val) → Stacked is → Stacked (is ++ Put c a v ∷ [])
stacked_put [] c a v h = tt
stacked_put (Put x y z ∷ is) c a v h = stacked_put is c a v h
stacked_put (Place b n ∷ is) c a v h = (h.0, stacked_put is c a v h.1)
stacked_put (Lift b n ∷ is) c a v h = stacked_put is c a v h

pub stacked_lift : (is : List Item) (d k : ℕ) → Stacked is → Stacked (is ++ Lift d k ∷ [])
stacked_lift [] d k h = tt
stacked_lift (Put x y z ∷ is) d k h = stacked_lift is d k h
stacked_lift (Place b n ∷ is) d k h = (h.0, stacked_lift is d k h.1)
stacked_lift (Lift b n ∷ is) d k h = stacked_lift is d k h

pub stacked_place : (is : List Item) (d k : ℕ) → 0x90000000 ≤ d → 1 ≤ k → Stacked is → Stacked (is ++ Place d k ∷ [])
stacked_place [] d k l s h = ((l, s), tt)
stacked_place (Put x y z ∷ is) d k l s h = stacked_place is d k l s h
stacked_place (Place b n ∷ is) d k l s h = (h.0, stacked_place is d k l s h.1)
stacked_place (Lift b n ∷ is) d k l s h = stacked_place is d k l s h

not_below : (a b : ℕ) → b ≤ a → nat_lt a b ≡ false
not_below a b h = go (nat_lt a b) refl
  where
    go : (x : Bool) → nat_lt a b ≡ x → nat_lt a b ≡ false
    go false e = e
    go true e = let lt = ltb-true a b e in absurd (omega arith)

-- what lies below the stacks meets none of them
pub stacked_unplaced : (is : List Item) (base size : ℕ) → base + size ≤ 0x90000000 → Stacked is → unplaced base size is ≡ true
stacked_unplaced [] base size l h = refl
stacked_unplaced (Put x y z ∷ is) base size l h = stacked_unplaced is base size l h
stacked_unplaced (Place b n ∷ is) base size l h =
    let le : base + size ≤ b = omega (arith, h.0.0) in
    let no_meet : meets b n base size ≡ false = ap (λ z. z && nat_lt base (b + n)) (not_below b (base + size) le) in
    joined_true (not (meets b n base size)) (unplaced base size is) (not_false (meets b n base size) no_meet) (stacked_unplaced is base size l h.1)
stacked_unplaced (Lift b n ∷ is) base size l h = stacked_unplaced is base size l h
