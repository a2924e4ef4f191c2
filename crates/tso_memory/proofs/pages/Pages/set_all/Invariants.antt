use Rattle.std.proofs.Common.{◌≡◌, ℕ, ◌-◌, Some, get_or, if◌then◌else◌}
use Rattle.tso_words.specs.declared.value.Cell.TheVariants.{Blank}
use Rattle.tso_memory.specs.Memory.{is_in}
use Rattle.tso_memory.specs.Kept.{written_at}
use Rattle.tso_memory.proofs.pages.Pages.set_all.Given as goal

abbrev pub invariant-loop-k : goal.invariant-loop-k
invariant-loop-k l = record {
  written : (y : ℕ) → written_at l.self y ≡ (if is_in l.x l.k y then Some (get_or l.cells (y - l.x) Blank) else written_at l.initial.self y);
  table : l.self.table ≡ l.initial.self.table;
}
