-- By cases over the instructions.
use Rattle.x86_table.proofs.FormsFit.{form_is_found}
use Rattle.x86_table.proofs.instruction.form_of.Goals as goal

pub returns : goal.returns
returns c = form_is_found c.args.instr.now c.place_of.result c.place_of.ensures
