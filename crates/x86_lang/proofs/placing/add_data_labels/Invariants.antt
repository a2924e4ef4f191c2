use Rattle.std.proofs.Common.{◌≡◌, ◌++◌, ◌≤◌, length}
use Rattle.x86_lang.specs.Assembly.{data_end, data_labels, data_start, heap_start}
use Rattle.x86_lang.specs.Whole.{IsAlignment}
use Rattle.x86_table.specs.Names.{AllOf}
use Rattle.x86_lang.proofs.placing.add_data_labels.Given as goal

abbrev pub invariant-loop-rest : goal.invariant-loop-rest
invariant-loop-rest l = (l.places.items ++ data_labels l.at l.rest ≡ l.fn.places.items ++ data_labels data_start l.lines) × (data_end l.at l.rest ≤ heap_start) × AllOf IsAlignment l.rest

abbrev pub decreases-loop-rest : goal.decreases-loop-rest
decreases-loop-rest l = length l.rest
