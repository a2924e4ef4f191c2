use Rattle.std.proofs.Common.{◌≡◌, ◌≤◌, length}
use Rattle.x86_lang.specs.Assembly.{data_end, data_start, heap_start}
use Rattle.x86_lang.specs.Whole.{IsAlignment}
use Rattle.x86_table.specs.Names.{AllOf}
use Rattle.x86_lang.proofs.placing.data_end.Given as goal

abbrev pub invariant-loop-rest : goal.invariant-loop-rest
invariant-loop-rest l = record {
  end : data_end l.at l.rest ≡ data_end data_start l.lines;
  fits : data_end l.at l.rest ≤ heap_start;
  aligned : AllOf IsAlignment l.rest;
  behind : data_start ≤ l.at;
}

abbrev pub decreases-loop-rest : goal.decreases-loop-rest
decreases-loop-rest l = length l.rest
