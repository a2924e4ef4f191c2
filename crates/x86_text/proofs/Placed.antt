-- Names of places: which stand in a list, and that none stands there twice.
use Rattle.std.proofs.Common.{◌≡◌, ◌≢◌, ◌⊎◌, ℕ, zero, suc, ◌<◌, [], ◌∷◌, ◌++◌, length, get_or, sym, subst, inl, inr, arith}
use Rattle.tso_core.specs.Systems.{Names, Places}
use Rattle.tso_core.specs.Placing.{NamesDiffer}
use Rattle.x86_table.specs.Names.{AllOf, IsName}
use Rattle.x86_lang.specs.Whole.{IsPlaced, IsAmong, IsMade, services}

pub placed_left : (name : Names) (xs ys : Places) → IsPlaced name xs → IsPlaced name (xs ++ ys)
placed_left name [] ys h = absurd h
placed_left name (x ∷ xs) ys (inl e) = inl e
placed_left name (x ∷ xs) ys (inr h) = inr (placed_left name xs ys h)

pub placed_right : (name : Names) (xs ys : Places) → IsPlaced name ys → IsPlaced name (xs ++ ys)
placed_right name [] ys h = h
placed_right name (x ∷ xs) ys h = inr (placed_right name xs ys h)

-- a sum with one more on its left
shifted : {X Y Z : Type 0} → X ⊎ Y → (Z ⊎ X) ⊎ Y
shifted (inl x) = inl (inr x)
shifted (inr y) = inr y

pub placed_split : (name : Names) (xs ys : Places) → IsPlaced name (xs ++ ys) → IsPlaced name xs ⊎ IsPlaced name ys
placed_split name [] ys h = inr h
placed_split name (x ∷ xs) ys (inl e) = inl (inl e)
placed_split name (x ∷ xs) ys (inr h) = shifted (placed_split name xs ys h)

-- no name stands twice, from the left
abbrev pub Differ : Places → Type 0
Differ [] = Unit {0}
Differ (p ∷ ps) = (IsPlaced p.0 ps → ⊥) × Differ ps

-- a place by its number
placed_at : (ps : Places) (j : ℕ) (d : Names × ℕ) (name : Names) → j < length ps → name ≡ (get_or ps j d).0 → IsPlaced name ps
placed_at [] j d name h e = absurd (omega (arith, h))
placed_at (p ∷ ps) zero d name h e = inl e
placed_at (p ∷ ps) (suc j) d name h e = inr (placed_at ps j d name (omega (arith, h)) e)

differ_at : (p : Names × ℕ) (ps : Places) → (IsPlaced p.0 ps → ⊥) → NamesDiffer ps → (i j : ℕ) (d : Names × ℕ) → i < j → j < length (p ∷ ps) → (get_or (p ∷ ps) i d).0 ≢ (get_or (p ∷ ps) j d).0
differ_at p ps fresh h zero zero d lt within same = omega (arith, lt)
differ_at p ps fresh h zero (suc j) d lt within same = fresh (placed_at ps j d p.0 (omega (arith, within)) same)
differ_at p ps fresh h (suc i) zero d lt within same = omega (arith, lt)
differ_at p ps fresh h (suc i) (suc j) d lt within same = h i j d (omega (arith, lt)) (omega (arith, within)) same

pub to_names_differ : (ps : Places) → Differ ps → NamesDiffer ps
to_names_differ [] h = λ i j d lt within same. omega (arith, within)
to_names_differ (p ∷ ps) h = differ_at p ps h.0 (to_names_differ ps h.1)

-- and back
not_behind : (p : Names × ℕ) (ps : Places) → ((j : ℕ) (d : Names × ℕ) → j < length ps → p.0 ≢ (get_or ps j d).0) → IsPlaced p.0 ps → ⊥
not_behind p [] h k = k
not_behind p (q ∷ ps) h (inl e) = h 0 q (omega arith) e
not_behind p (q ∷ ps) h (inr k) = not_behind p ps (λ j d within same. h (suc j) d (omega (arith, within)) same) k

pub from_names_differ : (ps : Places) → NamesDiffer ps → Differ ps
from_names_differ [] h = tt
from_names_differ (p ∷ ps) h = (not_behind p ps (λ j d within same. h 0 (suc j) d (omega arith) (omega (arith, within)) same), from_names_differ ps (λ i j d lt within same. h (suc i) (suc j) d (omega (arith, lt)) (omega (arith, within)) same))

-- one more place in the middle
around : (name : Names) (p : Names × ℕ) (xs ys : Places) → (name ≡ p.0 → ⊥) → (IsPlaced name (xs ++ ys) → ⊥) → IsPlaced name xs ⊎ IsPlaced name (p ∷ ys) → ⊥
around name p xs ys other fresh (inl k) = fresh (placed_left name xs ys k)
around name p xs ys other fresh (inr (inl e)) = other e
around name p xs ys other fresh (inr (inr k)) = fresh (placed_right name xs ys k)

pub differ_with : (xs ys : Places) (p : Names × ℕ) → (IsPlaced p.0 (xs ++ ys) → ⊥) → Differ (xs ++ ys) → Differ (xs ++ p ∷ ys)
differ_with [] ys p fresh h = (fresh, h)
differ_with (x ∷ xs) ys p fresh h = (λ k. around x.0 p xs ys (λ e. fresh (inl (sym e))) h.0 (placed_split x.0 xs (p ∷ ys) k), differ_with xs ys p (λ k. fresh (inr k)) h.1)

pub differ_without : (xs ys : Places) (p : Names × ℕ) → Differ (xs ++ p ∷ ys) → IsPlaced p.0 (xs ++ ys) → ⊥
differ_without [] ys p h k = h.0 k
differ_without (x ∷ xs) ys p h (inl e) = h.0 (placed_right x.0 xs (p ∷ ys) (inl (sym e)))
differ_without (x ∷ xs) ys p h (inr k) = differ_without xs ys p h.1 k

-- a part of the list
between : (name : Names) (m : Names × ℕ) (xs zs : Places) → IsPlaced name xs ⊎ IsPlaced name zs → IsPlaced name (xs ++ m ∷ zs)
between name m xs zs (inl k) = placed_left name xs (m ∷ zs) k
between name m xs zs (inr k) = placed_right name xs (m ∷ zs) (inr k)

dropped : (xs : Places) (m : Names × ℕ) (zs : Places) → Differ (xs ++ m ∷ zs) → Differ (xs ++ zs)
dropped [] m zs h = h.1
dropped (x ∷ xs) m zs h = (λ k. h.0 (between x.0 m xs zs (placed_split x.0 xs zs k)), dropped xs m zs h.1)

pub differ_parts : (xs ms ys : Places) → Differ (xs ++ (ms ++ ys)) → Differ (xs ++ ys)
differ_parts xs [] ys h = h
differ_parts xs (m ∷ ms) ys h = differ_parts xs ms ys (dropped xs m (ms ++ ys) h)

-- a name that is placed was made right
pub placed_made : (name : Names) (ps : Places) → AllOf IsMade ps → IsPlaced name ps → IsName name × (IsAmong name services → ⊥)
placed_made name [] h k = absurd k
placed_made name (p ∷ ps) h (inl e) = subst (λ (n : Names). IsName n × (IsAmong n services → ⊥)) (sym e) h.0
placed_made name (p ∷ ps) h (inr k) = placed_made name ps h.1 k
