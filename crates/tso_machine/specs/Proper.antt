-- Proper placements, told so that the fact has one proof at most (the definition of runs lets two globals be apart in two ways).
use Rattle.std.specs.Prelude.{◌≡◌, ℕ, ◌+◌, Bool, true, ◌||◌, nat_le, List, Contains, AllPairs, All}
use Rattle.std.proofs.Props.{props}
use Rattle.tso_core.specs.Systems.{Names, Places, GlobalsOf}
use Rattle.tso_core.specs.Placing.{address_of, base_of}
use Rattle.tso_core.specs.Runs.{IsCodePlace, IsDataPlace}

-- the ranges of two globals share no address
abbrev pub are_apart : Places → Names × ℕ × ℕ × List ℕ → Names × ℕ × ℕ × List ℕ → Bool
are_apart at o r = nat_le (base_of at o.0 + o.1) (base_of at r.0) || nat_le (base_of at r.0 + r.1) (base_of at o.0)

-- the placement is proper for these functions and globals
pub record IsPlaced (g : GlobalsOf) (at : Places) : Type 0 where
  pub functions_placed : All (IsCodePlace at) g.functions
  pub functions_apart : (f h : Names) → Contains g.functions f → Contains g.functions h → address_of at f ≡ address_of at h → f ≡ h
  pub objects_placed : All (IsDataPlace at) g.objects
  pub objects_apart : AllPairs (λ o r. are_apart at o r ≡ true) g.objects

pub IsPlaced-prop : (g : GlobalsOf) (at : Places) → IsProp (IsPlaced g at)
IsPlaced-prop g at = hlevel props
