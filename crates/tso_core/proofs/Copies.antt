-- Lists of copies.
use Rattle.std.proofs.Common.{◌≡◌, List, [], ◌∷◌, refl, ap, ◌∙◌}
use Rattle.std.specs.Prelude.{map}
use Rattle.std.specs.List.{AllZip}

-- elements that agree under a function
pub map_same : {A B : Type 0} (f : A → B) (xs ys : List A) → AllZip (λ x y. f y ≡ f x) xs ys → map f ys ≡ map f xs
map_same f [] [] h = refl
map_same f [] (y ∷ ys) h = absurd h
map_same f (x ∷ xs) [] h = absurd h
map_same f (x ∷ xs) (y ∷ ys) h = ap (λ z. z ∷ map f ys) h.0 ∙ ap (λ l. f x ∷ l) (map_same f xs ys h.1)

pub all_same : {A : Type 0} (xs ys : List A) → AllZip (λ x y. y ≡ x) xs ys → ys ≡ xs
all_same [] [] h = refl
all_same [] (y ∷ ys) h = absurd h
all_same (x ∷ xs) [] h = absurd h
all_same (x ∷ xs) (y ∷ ys) h = ap (λ z. z ∷ ys) h.0 ∙ ap (λ l. x ∷ l) (all_same xs ys h.1)
