use Rattle.std.proofs.Common.{◌≡◌, drop}
use Rattle.tso_memory.specs.Through.{cell_through}
use Rattle.tso_memory.proofs.view.cell_behind.Given as goal

abbrev pub invariant-loop-item : goal.invariant-loop-item
invariant-loop-item l = cell_through (drop l.item-index l.items) l.x l.cell ≡ cell_through l.items l.x l.initial.cell
