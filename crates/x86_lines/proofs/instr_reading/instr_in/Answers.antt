use Rattle.x86_lines.specs.Pieces.{pieces}
use Rattle.x86_lines.proofs.OneInstr.{no_instr, instr_decided}
use Rattle.x86_lines.proofs.instr_reading.instr_in.Goals as goal

pub returns-in-None : goal.returns-in-None
returns-in-None c = no_instr (pieces c.args.line.now) c.in-None.ensures

pub returns-in-Some : goal.returns-in-Some
returns-in-Some c = instr_decided c.args.line.now c.in-Some.first.word.now (pieces c.in-Some.first.rest.now) c.instr_at.result c.in-Some.ensures c.instr_at.ensures
