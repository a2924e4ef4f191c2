use Rattle.std.proofs.Common.{◌≤◌, length}
use Rattle.x86_lang.specs.Assembly.{data_end, heap_start}
use Rattle.x86_lang.specs.Whole.{IsAlignment}
use Rattle.x86_memory.specs.Kept.{bytes_in}
use Rattle.x86_table.specs.Names.{AllOf}
use Rattle.x86_machine.proofs.DataBytes.{Added}
use Rattle.x86_machine.proofs.data.add_lines.Given as goal

abbrev pub invariant-loop-rest : goal.invariant-loop-rest
invariant-loop-rest l = record {
  fits : data_end l.at l.rest ≤ heap_start;
  aligned : AllOf IsAlignment l.rest;
  added : Added l.lines l.rest l.at (bytes_in l.memory);
}

abbrev pub decreases-loop-rest : goal.decreases-loop-rest
decreases-loop-rest l = length l.rest
