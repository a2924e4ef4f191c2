-- Both are what their mnemonic and operands give.
use Rattle.x86_table.proofs.OfOperands.{determine}
use Rattle.x86_table.proofs.of_operands.mnemonic_and_operands_determine.Goals as goal

pub returns : goal.returns
returns c = determine
