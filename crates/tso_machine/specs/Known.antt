-- What a machine knows of its buffers: for each one a number of first items that are right in their turn (of this project; the definition of a load tries them all).
use Rattle.std.specs.Prelude.{ℕ, Bool, true, false, List, [], ◌∷◌, length, take, ◌&&◌, nat_le}
use Rattle.tso_memory.specs.declared.object.Object.{Object}
use Rattle.tso_memory.specs.declared.buffer.Item.{Item}
use Rattle.tso_memory.specs.Through.{all_right}

-- the first k of the items, of which there are as many, are right in their turn
abbrev pub is_known : List Object → List Item → ℕ → Bool
is_known os is k = nat_le k (length is) && all_right os (take k is)

-- so are those of each buffer
abbrev pub are_known : List Object → List (List Item) → List ℕ → Bool
are_known os [] [] = true
are_known os [] (k ∷ ks) = false
are_known os (is ∷ bs) [] = false
are_known os (is ∷ bs) (k ∷ ks) = is_known os is k && are_known os bs ks
