use Rattle.std.proofs.Common.{◌≡◌, ℕ, ◌&&◌, nat_le, nat_lt, None, get_or, if◌then◌else◌}
use Rattle.tso_memory.proofs.pages.blank.Given as goal

abbrev pub invariant-loop-k : goal.invariant-loop-k
invariant-loop-k l = (k : ℕ) → get_or l.cells k None ≡ (if nat_le l.from k && nat_lt k l.k then None else get_or l.initial.cells k None)
