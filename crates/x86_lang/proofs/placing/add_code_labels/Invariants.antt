use Rattle.std.proofs.Common.{◌≡◌, ◌++◌, ◌≤◌, length}
use Rattle.x86_lang.specs.Assembly.{code_end, code_labels, code_start, data_start}
use Rattle.x86_lang.proofs.placing.add_code_labels.Given as goal

abbrev pub invariant-loop-rest : goal.invariant-loop-rest
invariant-loop-rest l = (l.places.items ++ code_labels l.at l.rest ≡ l.fn.places.items ++ code_labels code_start l.lines) × (code_end l.at l.rest ≤ data_start)

abbrev pub decreases-loop-rest : goal.decreases-loop-rest
decreases-loop-rest l = length l.rest
