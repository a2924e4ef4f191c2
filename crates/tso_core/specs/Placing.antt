-- Where a program's names stand.
use Rattle.std.specs.Prelude.{◌≢◌, ℕ, Option, AllPairs, find, nat_eq}
use Rattle.std.specs.Option.{option_map, unwrap_or}
use Rattle.std.specs.Cmp.Lexicographic.{pointwise}
use Rattle.tso_core.specs.Systems.{Names, Places}

-- the address of a name
abbrev pub address_of : Places → Names → Option ℕ
address_of at name = option_map (λ e. e.1) (find (λ e. pointwise nat_eq e.0 name) at)

-- the address, or 0 where there is none
abbrev pub base_of : Places → Names → ℕ
base_of at name = unwrap_or (address_of at name) 0

-- no name twice
abbrev pub NamesDiffer : Places → Type 0
NamesDiffer at = AllPairs (λ a b. a.0 ≢ b.0) at
