-- The first element of a list, and the others.
use Rattle.std.proofs.Common.{◌≡◌, ◌<◌, List, [], ◌∷◌, length, ap, sym, arith}
use Rattle.std.specs.Prelude.{slice_index_or}
use Rattle.std.specs.List.{remove}

-- a list is its first element, and what is left without it
pub front_removed : {A : Type 0} (xs : List A) (x : A) → 0 < length xs → x ≡ slice_index_or xs 0 x → xs ≡ x ∷ remove xs 0
front_removed [] x within first = absurd (omega arith)
front_removed (y ∷ ys) x within first = ap (λ z. z ∷ ys) (sym first)
