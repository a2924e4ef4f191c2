use Rattle.std.proofs.Common.{◌≡◌, ℕ, ◌&&◌, ◌/◌, nat_le, nat_lt, None, if◌then◌else◌}
use Rattle.tso_memory.specs.Kept.{written_at}
use Rattle.tso_memory.proofs.pages.Pages.forget.Given as goal

abbrev pub invariant-loop-number : goal.invariant-loop-number
invariant-loop-number l = (y : ℕ) → written_at l.self y ≡ (if (nat_le l.base y && nat_lt y l.end) && nat_lt (y / 16384) l.number then None else written_at l.initial.self y)
