use Rattle.x86_lines.proofs.OneInstr.{one_instr}
use Rattle.x86_lines.proofs.instr_reading.a_line_is_one_instruction.Goals as goal

pub returns : goal.returns
returns c = one_instr
