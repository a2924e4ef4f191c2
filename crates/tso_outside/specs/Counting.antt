-- Counts of 64 bits, and the numbers of the calls that are to fail. This project's own; the code keeps a list of numbers and looks through it at each call.
use Rattle.std.specs.Prelude.{ℕ, ◌+◌, ◌-◌, ◌^◌, ◌==◌, min, List, Bool}
use Rattle.std.specs.List.{list_any}

-- one more, up to the last value of u64, where a count stands still
abbrev pub one_more : ℕ → ℕ
one_more n = min (n + 1) (2 ^ 64 - 1)

-- whether the call with this number is to fail
abbrev pub is_due : List ℕ → ℕ → Bool
is_due failing number = list_any (λ n. n == number) failing
