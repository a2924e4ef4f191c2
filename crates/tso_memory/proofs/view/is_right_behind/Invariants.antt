use Rattle.std.proofs.Common.{◌≡◌, drop}
use Rattle.tso_memory.specs.Through.{holder_through}
use Rattle.tso_memory.proofs.view.is_right_behind.Given as goal

abbrev pub invariant-loop-item : goal.invariant-loop-item
invariant-loop-item l = holder_through (drop l.item-index l.items) l.base l.size l.holder ≡ holder_through l.items l.base l.size l.initial.holder
