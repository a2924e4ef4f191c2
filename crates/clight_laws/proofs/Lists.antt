-- Lists: what holds of each element and of each two, by recursion and as the words of the invariant say it.
use Rattle.std.proofs.Common.{◌≡◌, ℕ, ◌+◌, List, [], ◌∷◌, ◌++◌, map, refl, sym, ap, ◌∙◌, subst, inl, inr, arith}
use Rattle.std.specs.Prelude.{◌⊎◌, sum_by, All, AllPairs, Contains}
use Rattle.std.proofs.lemmas.List.Elements.{All-nil, All-cons, Contains-push, Contains-append_left, Contains-append_right}
use Rattle.std.proofs.lemmas.List.Kept.{AllPairs-cons}
use Rattle.std.proofs.lemmas.List.Sums.{sum_by-cons}

-- ## Each element

abbrev pub Each : {A : Type 0} → (A → Type 0) → List A → Type 0
Each P [] = Unit {0}
Each P (x ∷ xs) = P x × Each P xs

pub each_all : {A : Type 0} (P : A → Type 0) (xs : List A) → Each P xs → All P xs
each_all P [] h = All-nil P
each_all P (x ∷ xs) h = All-cons P x xs h.0 (each_all P xs h.1)

pub each_append : {A : Type 0} (P : A → Type 0) (xs ys : List A) → Each P xs → Each P ys → Each P (xs ++ ys)
each_append P [] ys g h = h
each_append P (x ∷ xs) ys g h = (g.0, each_append P xs ys g.1 h)

pub each_more : {A : Type 0} (P Q : A → Type 0) → ((x : A) → P x → Q x) → (xs : List A) → Each P xs → Each Q xs
each_more P Q f [] h = tt
each_more P Q f (x ∷ xs) h = (f x h.0, each_more P Q f xs h.1)

pub each_both : {A : Type 0} (P Q : A → Type 0) (xs : List A) → Each P xs → Each Q xs → Each (λ x. P x × Q x) xs
each_both P Q [] g h = tt
each_both P Q (x ∷ xs) g h = ((g.0, h.0), each_both P Q xs g.1 h.1)

pub each_map : {A B : Type 0} (f : A → B) (P : B → Type 0) (xs : List A) → Each (λ x. P (f x)) xs → Each P (map f xs)
each_map f P [] h = tt
each_map f P (x ∷ xs) h = (h.0, each_map f P xs h.1)

-- ## Each element with each later one

abbrev pub Pairs : {A : Type 0} → (A → A → Type 0) → List A → Type 0
Pairs R [] = Unit {0}
Pairs R (x ∷ xs) = Each (R x) xs × Pairs R xs

all_pairs_none : {A : Type 0} (R : A → A → Type 0) → AllPairs R []
all_pairs_none R i j d l m = absurd (omega arith)

pub pairs_all : {A : Type 0} (R : A → A → Type 0) (xs : List A) → Pairs R xs → AllPairs R xs
pairs_all R [] h = all_pairs_none R
pairs_all R (x ∷ xs) h = AllPairs-cons R x xs (each_all (R x) xs h.0) (pairs_all R xs h.1)

pub pairs_append : {A : Type 0} (R : A → A → Type 0) (xs ys : List A) → Pairs R xs → Pairs R ys → Each (λ x. Each (R x) ys) xs → Pairs R (xs ++ ys)
pairs_append R [] ys g h c = h
pairs_append R (x ∷ xs) ys g h c = (each_append (R x) xs ys g.0 c.0, pairs_append R xs ys g.1 h c.1)

pub pairs_map : {A B : Type 0} (f : A → B) (R : B → B → Type 0) (xs : List A) → Pairs (λ x y. R (f x) (f y)) xs → Pairs R (map f xs)
pairs_map f R [] h = tt
pairs_map f R (x ∷ xs) h = (each_map f (R (f x)) xs h.0, pairs_map f R xs h.1)

-- two relations, of which one follows where something else holds of both
pub pairs_more : {A : Type 0} (P : A → Type 0) (R Q : A → A → Type 0) → ((x y : A) → P x → P y → R x y → Q x y) → (xs : List A) → Each P xs → Pairs R xs → Pairs Q xs
pairs_more P R Q f [] p h = tt
pairs_more P R Q f (x ∷ xs) p h = (by xs p.1 h.0, pairs_more P R Q f xs p.1 h.1)
  where
    by : (ys : List _) → Each P ys → Each (R x) ys → Each (Q x) ys
    by [] p h = tt
    by (y ∷ ys) q h = (f x y p.0 q.0 h.0, by ys q.1 h.1)

-- ## Elements

abbrev pub Has : {A : Type 0} → A → List A → Type 0
Has x [] = ⊥
Has x (y ∷ ys) = (y ≡ x) ⊎ Has x ys

pub has_contains : {A : Type 0} (x : A) (xs : List A) → Has x xs → Contains xs x
has_contains x [] h = absurd h
has_contains x (y ∷ ys) (inl e) = subst (λ z. Contains (z ∷ ys) x) (sym e) (Contains-append_left (x ∷ []) ys x (Contains-push [] x))
has_contains x (y ∷ ys) (inr h) = Contains-append_right (y ∷ []) ys x (has_contains x ys h)

pub has_left : {A : Type 0} (x : A) (xs ys : List A) → Has x xs → Has x (xs ++ ys)
has_left x [] ys h = absurd h
has_left x (z ∷ xs) ys (inl e) = inl e
has_left x (z ∷ xs) ys (inr h) = inr (has_left x xs ys h)

pub has_right : {A : Type 0} (x : A) (xs ys : List A) → Has x ys → Has x (xs ++ ys)
has_right x [] ys h = h
has_right x (z ∷ xs) ys h = inr (has_right x xs ys h)

pub has_map : {A B : Type 0} (f : A → B) (x : A) (xs : List A) → Has x xs → Has (f x) (map f xs)
has_map f x [] h = absurd h
has_map f x (y ∷ ys) (inl e) = inl (ap f e)
has_map f x (y ∷ ys) (inr h) = inr (has_map f x ys h)

-- ## Sums

abbrev pub total : {A : Type 0} → (A → ℕ) → List A → ℕ
total f [] = 0
total f (x ∷ xs) = f x + total f xs

pub sum_total : {A : Type 0} (f : A → ℕ) (xs : List A) → sum_by f xs ≡ total f xs
sum_total f [] = refl
sum_total f (x ∷ xs) = sum_by-cons f x xs ∙ ap (λ n. f x + n) (sum_total f xs)

pub total_append : {A : Type 0} (f : A → ℕ) (xs ys : List A) → total f (xs ++ ys) ≡ total f xs + total f ys
total_append f [] ys = (let e : total f ys ≡ 0 + total f ys = omega arith in e)
total_append f (x ∷ xs) ys = (let e : total f (xs ++ ys) ≡ total f xs + total f ys = total_append f xs ys in omega arith)

pub total_map : {A B : Type 0} (g : A → B) (f : B → ℕ) (xs : List A) → total f (map g xs) ≡ total (λ x. f (g x)) xs
total_map g f [] = refl
total_map g f (x ∷ xs) = ap (λ n. f (g x) + n) (total_map g f xs)

pub append_none : {A : Type 0} (xs : List A) → xs ++ [] ≡ xs
append_none [] = refl
append_none (x ∷ xs) = ap (λ l. x ∷ l) (append_none xs)
