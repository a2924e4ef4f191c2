-- What the code's tables of a function are: the types, the numbers of the function types, and where each local is.
use Rattle.std.specs.Prelude.{ℕ, ◌+◌, ◌-◌, Bool, true, false, List, length, count_by, unwrap_or, slice_get}
use Rattle.std.specs.Option.{option_map}
use Rattle.clight_types.specs.Table.{types_of}
use Rattle.clight_placing.specs.declared.inner.Location.{Location}
use Rattle.clight_placing.specs.declared.inner.Location.TheVariants as at
use Rattle.clight_placing.specs.declared.inner.Inner.{Inner}
use Rattle.clight_placing.specs.Placing as p

abbrev pub location_of : Location → p.Location
location_of (at.Temp t) = p.InTemp t
location_of (at.Memory m) = p.InMemory m

abbrev pub is_memory : Location → Bool
is_memory (at.Temp t) = false
is_memory (at.Memory m) = true

-- what is not in the table is in memory, behind what is
abbrev pub location_in : List Location → ℕ → p.Location
location_in ls n = unwrap_or (option_map location_of (slice_get ls n)) (p.InMemory (count_by is_memory ls + (n - length ls)))

abbrev pub inner_of : Inner → p.Inner
inner_of w = record { types = types_of w.types.now; type_number = p.number_of_type w.function_types.now.keys; location = location_in w.locations.now }
