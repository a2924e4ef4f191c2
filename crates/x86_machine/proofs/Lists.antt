-- Lists of threads and of blocks.
use Rattle.std.proofs.Common.{◌≡◌, ℕ, Bool, true, false, List, [], ◌∷◌, ◌++◌, map, take, drop, refl, ap}
use Rattle.std.specs.Prelude.{◌&&◌, ◌||◌, nat_lt}
use Rattle.std.specs.List.{list_any, list_all}
use Rattle.x86_machine.specs.Target.{with_block}
use Rattle.x86_machine.specs.Tables.{count_below}

pub list_any-map : {X Y : Type 0} (p : Y → Bool) (f : X → Y) (xs : List X) → list_any p (map f xs) ≡ list_any (λ x. p (f x)) xs
list_any-map p f [] = refl
list_any-map p f (x ∷ xs) = ap (λ z. p (f x) || z) (list_any-map p f xs)

pub list_all-map : {X Y : Type 0} (p : Y → Bool) (f : X → Y) (xs : List X) → list_all p (map f xs) ≡ list_all (λ x. p (f x)) xs
list_all-map p f [] = refl
list_all-map p f (x ∷ xs) = ap (λ z. p (f x) && z) (list_all-map p f xs)

-- a block behind those that begin below it
pub block_placed : (base bytes : ℕ) (bs : List (ℕ × ℕ)) → take (count_below base bs) bs ++ (base, bytes) ∷ drop (count_below base bs) bs ≡ with_block base bytes bs
block_placed base bytes [] = refl
block_placed base bytes (b ∷ bs) = at_test base bytes b bs (block_placed base bytes bs) (nat_lt b.0 base) refl
  where
    at_test : (base bytes : ℕ) (b : ℕ × ℕ) (bs : List (ℕ × ℕ)) → take (count_below base bs) bs ++ (base, bytes) ∷ drop (count_below base bs) bs ≡ with_block base bytes bs → (t : Bool) → nat_lt b.0 base ≡ t → take (count_below base (b ∷ bs)) (b ∷ bs) ++ (base, bytes) ∷ drop (count_below base (b ∷ bs)) (b ∷ bs) ≡ with_block base bytes (b ∷ bs)
    at_test base bytes b bs tail true e = rw e (ap (λ z. b ∷ z) tail)
    at_test base bytes b bs tail false e = rw e refl
