use Rattle.x86_lines.proofs.Chosen.{chosen_is, chosen_none}
use Rattle.x86_lines.proofs.instr_reading.chosen.Goals as goal

pub returns-in-None : goal.returns-in-None
returns-in-None c = chosen_none c.args.text.now c.args.operands c.args.pattern.now c.in-None.ensures

pub returns-in-Some : goal.returns-in-Some
returns-in-Some c = chosen_is c.args.text.now c.args.operands c.args.pattern.now c.in-Some.mnemonic c.instr_of.result c.shortened.result c.in-Some.ensures c.instr_of.ensures.has c.instr_of.ensures.none c.shortened.ensures
