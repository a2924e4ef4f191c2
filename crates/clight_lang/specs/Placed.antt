-- The default placement of a program's names (an address map of this project).
use Rattle.std.specs.Prelude.{◌≡◌, ◌≢◌, ℕ, ◌+◌, ◌-◌, ◌%◌, ◌≤◌, List, [], ◌∷◌, ◌++◌, length, map, sum_by, All, AllPairs, ◌⊎◌}
use Rattle.tso_core.specs.Systems.{Names, Places, GlobalsOf}

-- the i-th function is at the i-th address
abbrev pub functions_from : ℕ → List Names → Places
functions_from a [] = []
functions_from a (f ∷ fs) = (f, a) ∷ functions_from (a + 1) fs

-- the least multiple of n that is at least a
abbrev pub aligned : ℕ → ℕ → ℕ
aligned a n = (a + (n - 1)) - (a + (n - 1)) % n

-- each global at the least address that its alignment allows, behind the one before
abbrev pub objects_from : ℕ → List (Names × ℕ × ℕ × List ℕ) → Places
objects_from a [] = []
objects_from a (o ∷ os) = (o.0, aligned a o.2) ∷ objects_from (aligned a o.2 + o.1) os

abbrev pub default_places : GlobalsOf → Places
default_places g = functions_from 0x08000000 g.functions ++ objects_from 0x20000000 g.objects

-- the alignments of C's types
abbrev pub IsAlignment : ℕ → Type 0
IsAlignment n = (n ≡ 1) ⊎ ((n ≡ 2) ⊎ (n ≡ 4))

-- functions and globals within the counts of a file, no name twice
pub record AreWithin (g : GlobalsOf) : Type 0 where
  pub names_differ : AllPairs (λ a b. a ≢ b) (g.functions ++ map (λ o. o.0) g.objects)
  pub few_functions : length g.functions ≤ 4096
  pub sizes : All (λ o. (1 ≤ o.1) × IsAlignment o.2) g.objects
  pub few_bytes : sum_by (λ o. o.1) g.objects ≤ 16777216
