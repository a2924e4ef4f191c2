-- Elements of lists by their places.
use Rattle.std.proofs.Common.{◌≡◌, ◌≢◌, ℕ, zero, suc, ◌<◌, List, [], ◌∷◌, ◌++◌, length, refl, ap, arith, Some, None, ◌⊎◌, inl, inr, true, false}
use Rattle.std.specs.Prelude.{slice_get, slice_set}
use Rattle.std.proofs.lemmas.Bool.Decides.{eqb_tells}
use Rattle.std.proofs.Math.Dec.{eqb}

pub none_some : {A : Type 0} (x : A) → None ≡ Some x → ⊥
none_some x e = cc

pub get_set : {A : Type 0} (xs : List A) (i : ℕ) (x y : A) → slice_get xs i ≡ Some y → slice_get (slice_set xs i x) i ≡ Some x
get_set [] i x y e = absurd (none_some y e)
get_set (z ∷ xs) zero x y e = refl
get_set (z ∷ xs) (suc i) x y e = get_set xs i x y e

pub get_set_other : {A : Type 0} (xs : List A) (i j : ℕ) (x : A) → (j ≡ i → ⊥) → slice_get (slice_set xs i x) j ≡ slice_get xs j
get_set_other [] i j x h = refl
get_set_other (z ∷ xs) zero zero x h = absurd (h refl)
get_set_other (z ∷ xs) zero (suc j) x h = refl
get_set_other (z ∷ xs) (suc i) zero x h = refl
get_set_other (z ∷ xs) (suc i) (suc j) x h = get_set_other xs i j x (λ e. h (ap suc e))

pub set_get : {A : Type 0} (xs : List A) (i : ℕ) (x : A) → slice_get xs i ≡ Some x → slice_set xs i x ≡ xs
set_get [] i x e = absurd (none_some x e)
set_get (z ∷ xs) zero x e = let f : x ≡ z = cc in ap (λ y. y ∷ xs) f
set_get (z ∷ xs) (suc i) x e = ap (λ l. z ∷ l) (set_get xs i x e)

pub get_some : {A : Type 0} (xs : List A) (i : ℕ) → i < length xs → (x : A) × (slice_get xs i ≡ Some x)
get_some [] i h = absurd (omega arith)
get_some (z ∷ xs) zero h = (z, refl)
get_some (z ∷ xs) (suc i) h = let lt : i < length xs = omega arith in get_some xs i lt

pub get_append : {A : Type 0} (xs : List A) (x : A) (j : ℕ) (y : A) → slice_get (xs ++ x ∷ []) j ≡ Some y → (slice_get xs j ≡ Some y) ⊎ ((j ≡ length xs) × (x ≡ y))
get_append [] x zero y e = let f : x ≡ y = cc in inr (refl, f)
get_append [] x (suc j) y e = absurd (none_some y e)
get_append (z ∷ xs) x zero y e = inl e
get_append (z ∷ xs) x (suc j) y e = go (get_append xs x j y e)
  where
    go : (slice_get xs j ≡ Some y) ⊎ ((j ≡ length xs) × (x ≡ y)) → (slice_get xs j ≡ Some y) ⊎ ((suc j ≡ suc (length xs)) × (x ≡ y))
    go (inl a) = inl a
    go (inr a) = inr (ap suc a.0, a.1)

pub dec_eq : (i j : ℕ) → Dec (j ≡ i)
dec_eq i j = go (eqb_tells j i)
  where
    go : ((eqb j i ≡ true) × (j ≡ i)) ⊎ ((eqb j i ≡ false) × (j ≢ i)) → Dec (j ≡ i)
    go (inl e) = yes e.1
    go (inr e) = no e.1
