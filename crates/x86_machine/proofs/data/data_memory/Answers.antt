use Rattle.std.proofs.Common.{◌∙◌}
use Rattle.x86_machine.proofs.DataBytes.{data_none}
use Rattle.x86_machine.proofs.data.data_memory.Goals as goal

pub add_lines-requires-clause-empty : goal.add_lines-requires-clause-empty
add_lines-requires-clause-empty c = c.new-memory.ensures ∙ data_none
