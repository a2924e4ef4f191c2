-- What the code computes of a number for a width, and of one that is not below 0: functions in the code's order. The grammar does not rest on them.
use Rattle.std.specs.Prelude.{ℕ, ◌+◌, ◌-◌, ◌%◌, Bool, true, false, Option, Some, None, ◌&&◌, not, ◌==◌, nat_lt, nat_le, if◌then◌else◌}

abbrev pub width_in : ℕ → Bool → ℕ → Option ℕ
width_in half true size = if nat_le size half then Some ((half + half - size) % (half + half)) else None
width_in half false size = if nat_lt size (half + half) then Some size else None

abbrev pub width_kept : ℕ → Bool → Option ℕ → Option ℕ
width_kept half negative None = None
width_kept half negative (Some size) = width_in half negative size

abbrev pub count_kept : Bool → Option ℕ → Option ℕ
count_kept negative None = None
count_kept negative (Some size) = if negative && not (size == 0) then None else Some size
