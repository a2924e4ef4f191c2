use Rattle.std.proofs.Common.{sym, ◌∙◌}
use Rattle.x86_lines.proofs.Chosen.{row_none, row_some}
use Rattle.x86_lines.proofs.instr_reading.mnemonic_in.Goals as goal

pub returns-in-None : goal.returns-in-None
returns-in-None c = row_none c.args.text.now c.args.pattern.now c.find.result c.find.ensures c.in-None.is

pub returns-in-Some : goal.returns-in-Some
returns-in-Some c = row_some c.args.text.now c.args.pattern.now c.in-Some.row c.mnemonic_at.result (sym c.find.ensures ∙ c.in-Some.is) c.mnemonic_at.ensures
