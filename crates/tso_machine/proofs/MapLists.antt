-- Places of mapped lists.
use Rattle.std.proofs.Common.{◌≡◌, ℕ, zero, suc, List, [], ◌∷◌, refl, sym, ap, ◌∙◌, Some, None}
use Rattle.std.specs.Prelude.{map, slice_get, slice_set}

pub none_some : {A : Type 0} (x : A) → None ≡ Some x → ⊥
none_some x e = cc

pub map_set : {A B : Type 0} (f : A → B) (xs : List A) (i : ℕ) (y : A) → map f (slice_set xs i y) ≡ slice_set (map f xs) i (f y)
map_set f [] i y = refl
map_set f (x ∷ xs) zero y = refl
map_set f (x ∷ xs) (suc i) y = ap (λ l. f x ∷ l) (map_set f xs i y)

pub map_get : {A B : Type 0} (f : A → B) (xs : List A) (i : ℕ) (x : A) (s : B) → slice_get xs i ≡ Some x → slice_get (map f xs) i ≡ Some s → f x ≡ s
map_get f [] i x s e h = absurd (none_some x e)
map_get f (y ∷ xs) zero x s e h = let a : y ≡ x = cc in let b : f y ≡ s = cc in ap f (sym a) ∙ b
map_get f (y ∷ xs) (suc i) x s e h = map_get f xs i x s e h

pub get_map : {A B : Type 0} (f : A → B) (xs : List A) (i : ℕ) (x : A) → slice_get xs i ≡ Some x → slice_get (map f xs) i ≡ Some (f x)
get_map f [] i x e = absurd (none_some x e)
get_map f (y ∷ xs) zero x e = let a : y ≡ x = cc in ap (λ z. Some (f z)) a
get_map f (y ∷ xs) (suc i) x e = get_map f xs i x e

-- an element that stands for the same keeps what the list stands for
pub same_map : {A B : Type 0} (f : A → B) (xs : List A) (i : ℕ) (x y : A) → slice_get xs i ≡ Some x → f y ≡ f x → map f (slice_set xs i y) ≡ map f xs
same_map f [] i x y e h = refl
same_map f (z ∷ xs) zero x y e h = let a : z ≡ x = cc in ap (λ b. b ∷ map f xs) (h ∙ ap f (sym a))
same_map f (z ∷ xs) (suc i) x y e h = ap (λ l. f z ∷ l) (same_map f xs i x y e h)

-- one element that stands for what its own becomes
pub set_resumed : {A B : Type 0} (f : A → B) (r : B → B) (xs : List A) (i : ℕ) (x y : A) → slice_get xs i ≡ Some x → f y ≡ r (f x) → (s : B) → slice_get (map f xs) i ≡ Some s → map f (slice_set xs i y) ≡ slice_set (map f xs) i (r s)
set_resumed f r xs i x y e h s k = map_set f xs i y ∙ ap (slice_set (map f xs) i) (h ∙ ap r (map_get f xs i x s e k))
