-- Walks over lists: what is left, and one more behind what is made.
use Rattle.std.proofs.Common.{◌≡◌, ℕ, zero, suc, ◌+◌, ◌<◌, ◌≤◌, List, [], ◌∷◌, ◌++◌, length, map, get_or, drop, refl, sym, ap, ◌∙◌, drop-cons, append_assoc, arith}
use Rattle.std.proofs.Math.Seq.{drop-nil}

pub at_front : {A : Type 0} (list : List A) (i : ℕ) (x : A) → i < length list → x ≡ get_or list i x → drop i list ≡ x ∷ drop (i + 1) list
at_front list i x within is =
    let next : suc i ≡ i + 1 = omega arith in
    drop-cons list i x within ∙ ap (λ y. y ∷ drop (suc i) list) (sym is) ∙ ap (λ k. x ∷ drop k list) next

pub past_end : {A : Type 0} (list : List A) (i : ℕ) → length list ≤ i → drop i list ≡ []
past_end [] i h = drop-nil i
past_end (x ∷ xs) zero h = absurd (omega arith)
past_end (x ∷ xs) (suc i) h = past_end xs i (omega arith)

pub next_is : (n : ℕ) → n + 1 ≡ suc n
next_is n = omega arith

pub append_end : {A : Type 0} (xs : List A) → xs ++ [] ≡ xs
append_end [] = refl
append_end (x ∷ xs) = ap (λ r. x ∷ r) (append_end xs)

-- one more behind what is made, before what is left
pub pushed : {A B : Type 0} (f : A → B) (xs : List A) (x : A) (ys : List B) → map f (xs ++ x ∷ []) ++ ys ≡ map f xs ++ f x ∷ ys
pushed f [] x ys = refl
pushed f (z ∷ zs) x ys = ap (λ r. f z ∷ r) (pushed f zs x ys)

pub map_push : {A B : Type 0} (f : A → B) (xs : List A) (x : A) → map f (xs ++ x ∷ []) ≡ map f xs ++ f x ∷ []
map_push f [] x = refl
map_push f (y ∷ ys) x = ap (λ r. f y ∷ r) (map_push f ys x)
