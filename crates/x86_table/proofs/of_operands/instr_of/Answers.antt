-- What is chosen has both, and each instruction is chosen for what it has.
use Rattle.x86_table.proofs.OfOperands.{has_both, none_has}
use Rattle.x86_table.proofs.of_operands.instr_of.Goals as goal

pub returns : goal.returns
returns c = record {
  has = has_both _ _ c.chosen.result c.chosen.ensures;
  none = none_has _ _ c.chosen.result c.chosen.ensures;
}
