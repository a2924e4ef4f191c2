-- Facts about lists.
use Rattle.std.proofs.Common.{◌≡◌, ℕ, Bool, true, false, cond, List, [], ◌∷◌, Option, Some, None, map, find, refl}
use Rattle.std.specs.Option.{option_map}

-- the first image that passes is the image of the first that passes so
pub find_map : {A B : Type 0} (f : A → B) (p : B → Bool) → (xs : List A) → find p (map f xs) ≡ option_map f (find (λ x. p (f x)) xs)
find_map f p [] = refl
find_map f p (x ∷ xs) = by_test (p (f x)) (find_map f p xs)
  where
    by_test : (b : Bool) → find p (map f xs) ≡ option_map f (find (λ y. p (f y)) xs) → cond b (Some (f x)) (find p (map f xs)) ≡ option_map f (cond b (Some x) (find (λ y. p (f y)) xs))
    by_test true h = refl
    by_test false h = h
