-- The table of types while a file is judged: what stands in it stays, and complete types have a size and an alignment of C.
use Rattle.std.proofs.Common.{◌≡◌, ℕ, zero, suc, ◌+◌, ◌≤◌, Bool, true, false, cond, ◌||◌, not, true≢false, List, [], ◌∷◌, ◌++◌, max, Option, Some, None, refl, sym, ap, ◌∙◌, subst, inl, inr, arith}
use Rattle.std.specs.Prelude.{◌⊎◌, slice_get, slice_set, unwrap_or}
use Rattle.std.specs.List.{list_any, position_or_len}
use Rattle.clight_lang.specs.Placed.{IsAlignment}
use Rattle.clight_types.specs.declared.kind.Integer.{Integer}
use Rattle.clight_types.specs.declared.kind.Integer.TheVariants as i
use Rattle.clight_types.specs.Types.{Types, Shape, VoidShape, IntegerShape, PointerShape, ArrayShape, StructShape, FunctionShape, BodyOf, Open, Closed, MemberOf, same_shape, number_in, with_shape, shape_at, body_at, shape_size, shape_align, shape_is_complete, is_closed, integer_size, body_size, body_align, size_at, align_at, is_complete, is_function, is_function_shape, with_struct, with_body, Laid, closed_body, aligned, next_offset, laid_with, first_types}

-- ## What holds of the table

abbrev pub IsShape : Shape → Type 0
IsShape (ArrayShape t n size align) = (1 ≤ size) × IsAlignment align
IsShape _ = Unit {0}

abbrev pub IsBody : BodyOf → Type 0
IsBody Open = Unit {0}
IsBody (Closed size align members) = (1 ≤ size) × IsAlignment align

pub record AreTypes (types : Types) : Type 0 where
  pub first : (t : ℕ) (s : Shape) → slice_get first_types.shapes t ≡ Some s → slice_get types.shapes t ≡ Some s
  pub shapes : (t : ℕ) (s : Shape) → slice_get types.shapes t ≡ Some s → IsShape s
  pub bodies : (n : ℕ) (b : BodyOf) → slice_get types.structs n ≡ Some b → IsBody b

-- nothing in a table is lost in a later one
pub record Grows (types new : Types) : Type 0 where
  pub shapes : (t : ℕ) (s : Shape) → slice_get types.shapes t ≡ Some s → slice_get new.shapes t ≡ Some s
  pub bodies : (n : ℕ) → is_closed (body_at types n) ≡ true → is_closed (body_at new n) ≡ true

pub grows_none : (types : Types) → Grows types types
grows_none types = record { shapes = λ t s e. e; bodies = λ n e. e }

pub grows_twice : (a b c : Types) → Grows a b → Grows b c → Grows a c
grows_twice a b c g h = record { shapes = λ t s e. h.shapes t s (g.shapes t s e); bodies = λ n e. h.bodies n (g.bodies n e) }

pub shape_is : (types : Types) (t : ℕ) (s : Shape) → slice_get types.shapes t ≡ Some s → shape_at types t ≡ s
shape_is types t s e = ap (λ o. unwrap_or o VoidShape) e

pub shape_good : (types : Types) → AreTypes types → (t : ℕ) → IsShape (shape_at types t)
shape_good types h t = by (slice_get types.shapes t) refl
  where
    by : (o : Option Shape) → slice_get types.shapes t ≡ o → IsShape (unwrap_or (slice_get types.shapes t) VoidShape)
    by None e = subst (λ o. IsShape (unwrap_or o VoidShape)) (sym e) tt
    by (Some s) e = subst (λ o. IsShape (unwrap_or o VoidShape)) (sym e) (h.shapes t s e)

pub body_good : (types : Types) → AreTypes types → (n : ℕ) → IsBody (body_at types n)
body_good types h n = by (slice_get types.structs n) refl
  where
    by : (o : Option BodyOf) → slice_get types.structs n ≡ o → IsBody (unwrap_or (slice_get types.structs n) Open)
    by None e = subst (λ o. IsBody (unwrap_or o Open)) (sym e) tt
    by (Some b) e = subst (λ o. IsBody (unwrap_or o Open)) (sym e) (h.bodies n b e)

-- ## Sizes of complete types

integer_sized : (j : Integer) → (1 ≤ integer_size j) × IsAlignment (integer_size j)
integer_sized i.Char = (omega arith, inl refl)
integer_sized i.UnsignedChar = (omega arith, inl refl)
integer_sized i.Short = (omega arith, inr (inl refl))
integer_sized i.UnsignedShort = (omega arith, inr (inl refl))
integer_sized i.Int = (omega arith, inr (inr refl))
integer_sized i.UnsignedInt = (omega arith, inr (inr refl))

body_sized : (b : BodyOf) → IsBody b → is_closed b ≡ true → (1 ≤ body_size b) × IsAlignment (body_align b)
body_sized Open h e = absurd (true≢false (sym e))
body_sized (Closed size align ms) h e = h

shape_sized : (types : Types) → AreTypes types → (s : Shape) → IsShape s → shape_is_complete types s ≡ true → (1 ≤ shape_size types s) × IsAlignment (shape_align types s)
shape_sized types h VoidShape g e = absurd (true≢false (sym e))
shape_sized types h (IntegerShape j) g e = integer_sized j
shape_sized types h (PointerShape t) g e = (omega arith, inr (inr refl))
shape_sized types h (ArrayShape t n size align) g e = g
shape_sized types h (StructShape n) g e = body_sized (body_at types n) (body_good types h n) e
shape_sized types h (FunctionShape r ps) g e = absurd (true≢false (sym e))

pub complete_sized : (types : Types) → AreTypes types → (t : ℕ) → is_complete types t ≡ true → (1 ≤ size_at types t) × IsAlignment (align_at types t)
complete_sized types h t e = shape_sized types h (shape_at types t) (shape_good types h t) e

complete_shape : (types new : Types) → Grows types new → (s : Shape) → shape_is_complete types s ≡ true → shape_is_complete new s ≡ true
complete_shape types new g VoidShape e = e
complete_shape types new g (IntegerShape j) e = e
complete_shape types new g (PointerShape t) e = e
complete_shape types new g (ArrayShape t n size align) e = e
complete_shape types new g (StructShape n) e = g.bodies n e
complete_shape types new g (FunctionShape r ps) e = e

pub complete_stays : (types new : Types) → Grows types new → (t : ℕ) → is_complete types t ≡ true → is_complete new t ≡ true
complete_stays types new g t e = by (slice_get types.shapes t) refl
  where
    by : (o : Option Shape) → slice_get types.shapes t ≡ o → is_complete new t ≡ true
    by None q = absurd (true≢false (sym e ∙ ap (λ o. shape_is_complete types (unwrap_or o VoidShape)) q))
    by (Some s) q =
        ap (shape_is_complete new) (shape_is new t s (g.shapes t s q))
        ∙ complete_shape types new g s (sym (ap (λ o. shape_is_complete types (unwrap_or o VoidShape)) q) ∙ e)

-- a function type stays the type that it is
pub function_stays : (types new : Types) → Grows types new → (t : ℕ) → is_function types t ≡ true → shape_at new t ≡ shape_at types t
function_stays types new g t e = by (slice_get types.shapes t) refl
  where
    by : (o : Option Shape) → slice_get types.shapes t ≡ o → shape_at new t ≡ shape_at types t
    by None q = absurd (true≢false (sym e ∙ ap (λ o. is_function_shape (unwrap_or o VoidShape)) q))
    by (Some s) q = shape_is new t s (g.shapes t s q) ∙ sym (shape_is types t s q)

-- ## One type more

get_front : {A : Type 0} (xs ys : List A) (k : ℕ) (x : A) → slice_get xs k ≡ Some x → slice_get (xs ++ ys) k ≡ Some x
get_front [] ys k x e = cc
get_front (a ∷ xs) ys zero x e = e
get_front (a ∷ xs) ys (suc k) x e = get_front xs ys k x e

get_push : {A : Type 0} (xs : List A) (y : A) (k : ℕ) (x : A) → slice_get (xs ++ y ∷ []) k ≡ Some x → (slice_get xs k ≡ Some x) ⊎ (y ≡ x)
get_push [] y zero x e = inr cc
get_push [] y (suc k) x e = cc
get_push (a ∷ xs) y zero x e = inl e
get_push (a ∷ xs) y (suc k) x e = get_push xs y k x e

with_front : (b : Bool) (shapes : List Shape) (s : Shape) (t : ℕ) (x : Shape) → slice_get shapes t ≡ Some x → slice_get (cond b shapes (shapes ++ s ∷ [])) t ≡ Some x
with_front true shapes s t x e = e
with_front false shapes s t x e = get_front shapes (s ∷ []) t x e

with_push : (b : Bool) (shapes : List Shape) (s : Shape) (t : ℕ) (x : Shape) → slice_get (cond b shapes (shapes ++ s ∷ [])) t ≡ Some x → (slice_get shapes t ≡ Some x) ⊎ (s ≡ x)
with_push true shapes s t x e = inl e
with_push false shapes s t x e = get_push shapes s t x e

pub shape_grows : (types : Types) (s : Shape) → Grows types (with_shape types s).0
shape_grows types s = record { shapes = λ t x e. with_front (list_any (same_shape s) types.shapes) types.shapes s t x e; bodies = λ n e. e }

pub shape_added : (types : Types) (s : Shape) → AreTypes types → IsShape s → AreTypes (with_shape types s).0
shape_added types s h g =
    record {
      first = λ t x e. with_front (list_any (same_shape s) types.shapes) types.shapes s t x (h.first t x e);
      shapes = λ t x e. by t x (with_push (list_any (same_shape s) types.shapes) types.shapes s t x e);
      bodies = h.bodies;
    }
  where
    by : (t : ℕ) (x : Shape) → (slice_get types.shapes t ≡ Some x) ⊎ (s ≡ x) → IsShape x
    by t x (inl e) = h.shapes t x e
    by t x (inr e) = subst IsShape e g

-- the new type is of the shape, or of one that is the same
pub data IsMadeAs (s : Shape) : Shape → Type 0 where
  made_new : IsMadeAs s s
  made_same : (x : Shape) → same_shape s x ≡ true → IsMadeAs s x

one_more : (n : ℕ) → 1 + n ≡ suc n
one_more n = omega arith

get_after : (a : Shape) (xs : List Shape) (n : ℕ) (x : Shape) → slice_get xs n ≡ Some x → slice_get (a ∷ xs) (1 + n) ≡ Some x
get_after a xs n x e = subst (λ m. slice_get (a ∷ xs) m ≡ Some x) (sym (one_more n)) e

found : (s : Shape) (xs : List Shape) → list_any (same_shape s) xs ≡ true → (x : Shape) × (slice_get xs (position_or_len (same_shape s) xs) ≡ Some x) × (same_shape s x ≡ true)
found s [] e = absurd (true≢false (sym e))
found s (a ∷ xs) e = by (λ q. found s xs q) (same_shape s a) refl e
  where
    by : (list_any (same_shape s) xs ≡ true → (x : Shape) × (slice_get xs (position_or_len (same_shape s) xs) ≡ Some x) × (same_shape s x ≡ true)) → (b : Bool) → same_shape s a ≡ b → (b || list_any (same_shape s) xs) ≡ true → (x : Shape) × (slice_get (a ∷ xs) (cond (not (same_shape s a)) (1 + position_or_len (same_shape s) xs) 0) ≡ Some x) × (same_shape s x ≡ true)
    by rest true q e = (a, ap (λ b. slice_get (a ∷ xs) (cond (not b) (1 + position_or_len (same_shape s) xs) 0)) q, q)
    by rest false q e =
        let r = rest e in
        (r.0, ap (λ b. slice_get (a ∷ xs) (cond (not b) (1 + position_or_len (same_shape s) xs) 0)) q ∙ get_after a xs (position_or_len (same_shape s) xs) r.0 r.1, r.2)

missed : (s : Shape) (xs : List Shape) → list_any (same_shape s) xs ≡ false → slice_get (xs ++ s ∷ []) (position_or_len (same_shape s) xs) ≡ Some s
missed s [] e = refl
missed s (a ∷ xs) e = by (λ q. missed s xs q) (same_shape s a) refl e
  where
    by : (list_any (same_shape s) xs ≡ false → slice_get (xs ++ s ∷ []) (position_or_len (same_shape s) xs) ≡ Some s) → (b : Bool) → same_shape s a ≡ b → (b || list_any (same_shape s) xs) ≡ false → slice_get (a ∷ (xs ++ s ∷ [])) (cond (not (same_shape s a)) (1 + position_or_len (same_shape s) xs) 0) ≡ Some s
    by rest true q e = absurd (true≢false e)
    by rest false q e = ap (λ b. slice_get (a ∷ (xs ++ s ∷ [])) (cond (not b) (1 + position_or_len (same_shape s) xs) 0)) q ∙ get_after a (xs ++ s ∷ []) (position_or_len (same_shape s) xs) s (rest e)

pub new_shape : (types : Types) (s : Shape) → IsMadeAs s (shape_at (with_shape types s).0 (with_shape types s).1)
new_shape types s = by (list_any (same_shape s) types.shapes) refl
  where
    by : (b : Bool) → list_any (same_shape s) types.shapes ≡ b → IsMadeAs s (unwrap_or (slice_get (cond (list_any (same_shape s) types.shapes) types.shapes (types.shapes ++ s ∷ [])) (number_in types.shapes s)) VoidShape)
    by true q =
        let r = found s types.shapes q in
        let e : unwrap_or (slice_get (cond (list_any (same_shape s) types.shapes) types.shapes (types.shapes ++ s ∷ [])) (number_in types.shapes s)) VoidShape ≡ r.0 = ap (λ b. unwrap_or (slice_get (cond b types.shapes (types.shapes ++ s ∷ [])) (number_in types.shapes s)) VoidShape) q ∙ ap (λ o. unwrap_or o VoidShape) r.1 in
        subst (IsMadeAs s) (sym e) (made_same r.0 r.2)
    by false q =
        let e : unwrap_or (slice_get (cond (list_any (same_shape s) types.shapes) types.shapes (types.shapes ++ s ∷ [])) (number_in types.shapes s)) VoidShape ≡ s = ap (λ b. unwrap_or (slice_get (cond b types.shapes (types.shapes ++ s ∷ [])) (number_in types.shapes s)) VoidShape) q ∙ ap (λ o. unwrap_or o VoidShape) (missed s types.shapes q) in
        subst (IsMadeAs s) (sym e) made_new

-- ## Structs

pub struct_grows : (types : Types) → Grows types (with_struct types)
struct_grows types = record { shapes = λ t s e. e; bodies = λ n e. by types.structs n e }
  where
    by : (bs : List BodyOf) (n : ℕ) → is_closed (unwrap_or (slice_get bs n) Open) ≡ true → is_closed (unwrap_or (slice_get (bs ++ Open ∷ []) n) Open) ≡ true
    by [] n e = absurd (true≢false (sym e))
    by (b ∷ bs) zero e = e
    by (b ∷ bs) (suc n) e = by bs n e

pub struct_added : (types : Types) → AreTypes types → AreTypes (with_struct types)
struct_added types h = record { first = h.first; shapes = h.shapes; bodies = λ n b e. by n b (get_push types.structs Open n b e) }
  where
    by : (n : ℕ) (b : BodyOf) → (slice_get types.structs n ≡ Some b) ⊎ (Open ≡ b) → IsBody b
    by n b (inl e) = h.bodies n b e
    by n b (inr e) = subst IsBody e tt

closed_set : (bs : List BodyOf) (m : ℕ) (size align : ℕ) (ms : List MemberOf) (n : ℕ) → is_closed (unwrap_or (slice_get bs n) Open) ≡ true → is_closed (unwrap_or (slice_get (slice_set bs m (Closed size align ms)) n) Open) ≡ true
closed_set [] m size align ms n e = absurd (true≢false (sym e))
closed_set (b ∷ bs) zero size align ms zero e = refl
closed_set (b ∷ bs) zero size align ms (suc n) e = e
closed_set (b ∷ bs) (suc m) size align ms zero e = e
closed_set (b ∷ bs) (suc m) size align ms (suc n) e = closed_set bs m size align ms n e

get_set : {A : Type 0} (xs : List A) (m : ℕ) (v : A) (n : ℕ) (x : A) → slice_get (slice_set xs m v) n ≡ Some x → (slice_get xs n ≡ Some x) ⊎ (v ≡ x)
get_set [] m v n x e = cc
get_set (a ∷ xs) zero v zero x e = inr cc
get_set (a ∷ xs) zero v (suc n) x e = inl e
get_set (a ∷ xs) (suc m) v zero x e = inl e
get_set (a ∷ xs) (suc m) v (suc n) x e = get_set xs m v n x e

pub body_grows : (types : Types) (n : ℕ) (laid : Laid) → Grows types (with_body types n laid)
body_grows types n laid = record { shapes = λ t s e. e; bodies = λ m e. closed_set types.structs n (aligned laid.size laid.align) laid.align laid.members m e }

pub body_added : (types : Types) (n : ℕ) (laid : Laid) → AreTypes types → IsBody (closed_body laid) → AreTypes (with_body types n laid)
body_added types n laid h g = record { first = h.first; shapes = h.shapes; bodies = λ m b e. by m b (get_set types.structs n (closed_body laid) m b e) }
  where
    by : (m : ℕ) (b : BodyOf) → (slice_get types.structs m ≡ Some b) ⊎ (closed_body laid ≡ b) → IsBody b
    by m b (inl e) = h.bodies m b e
    by m b (inr e) = subst IsBody e g

-- ## Layout of members

aligned_up : (n a : ℕ) → IsAlignment a → n ≤ aligned n a
aligned_up n a (inl e) = subst (λ b. n ≤ aligned n b) (sym e) (omega arith)
aligned_up n a (inr (inl e)) = subst (λ b. n ≤ aligned n b) (sym e) (omega arith)
aligned_up n a (inr (inr e)) = subst (λ b. n ≤ aligned n b) (sym e) (omega arith)

max_alignment : (a b : ℕ) → IsAlignment a → IsAlignment b → IsAlignment (max a b)
max_alignment a b (inl e) (inl f) = inl (ap (λ x. max x b) e ∙ ap (max 1) f)
max_alignment a b (inl e) (inr (inl f)) = inr (inl (ap (λ x. max x b) e ∙ ap (max 1) f))
max_alignment a b (inl e) (inr (inr f)) = inr (inr (ap (λ x. max x b) e ∙ ap (max 1) f))
max_alignment a b (inr (inl e)) (inl f) = inr (inl (ap (λ x. max x b) e ∙ ap (max 2) f))
max_alignment a b (inr (inl e)) (inr (inl f)) = inr (inl (ap (λ x. max x b) e ∙ ap (max 2) f))
max_alignment a b (inr (inl e)) (inr (inr f)) = inr (inr (ap (λ x. max x b) e ∙ ap (max 2) f))
max_alignment a b (inr (inr e)) (inl f) = inr (inr (ap (λ x. max x b) e ∙ ap (max 4) f))
max_alignment a b (inr (inr e)) (inr (inl f)) = inr (inr (ap (λ x. max x b) e ∙ ap (max 4) f))
max_alignment a b (inr (inr e)) (inr (inr f)) = inr (inr (ap (λ x. max x b) e ∙ ap (max 4) f))

pub laid_more : (types : Types) (laid : Laid) (name : List ℕ) (t : ℕ) → AreTypes types → is_complete types t ≡ true → IsAlignment laid.align → (1 ≤ (laid_with types laid name t).size) × IsAlignment (laid_with types laid name t).align
laid_more types laid name t h e a =
    let s = complete_sized types h t e in
    let up : 1 ≤ next_offset types laid t + size_at types t = (let p : 1 ≤ size_at types t = s.0 in omega arith) in
    (up, max_alignment laid.align (align_at types t) a s.1)

pub laid_body : (laid : Laid) → 1 ≤ laid.size → IsAlignment laid.align → IsBody (closed_body laid)
laid_body laid h a = (le_twice 1 laid.size (aligned laid.size laid.align) h (aligned_up laid.size laid.align a), a)
  where
    le_twice : (a b c : ℕ) → a ≤ b → b ≤ c → a ≤ c
    le_twice a b c p q = omega arith
