-- Names of an assembly text, after GNU as: letters, digits, '_' and '.', not beginning with a digit.
use Rattle.std.specs.Prelude.{ℕ, Bool, List, [], ◌∷◌, IsTrue, ◌||◌, ◌&&◌, nat_le, ◌==◌}

-- every item is of the set
abbrev pub AllOf : {X : Type 0} → (X → Type 0) → List X → Type 0
AllOf P [] = Unit {0}
AllOf P (x ∷ xs) = P x × AllOf P xs

-- a byte that a name may begin with, and one that it may have behind that
abbrev pub begins_name : ℕ → Bool
begins_name b = (nat_le 65 b && nat_le b 90) || (nat_le 97 b && nat_le b 122) || b == 95 || b == 46

abbrev pub is_of_name : ℕ → Bool
is_of_name b = begins_name b || (nat_le 48 b && nat_le b 57)

abbrev pub IsName : List ℕ → Type 0
IsName [] = ⊥
IsName (b ∷ bs) = IsTrue (begins_name b) × AllOf (λ c. IsTrue (is_of_name c)) bs
