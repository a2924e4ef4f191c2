use Rattle.std.proofs.Common.{sym}
use Rattle.x86_lines.specs.Pieces.{pieces}
use Rattle.x86_lines.specs.Spelled.{operand_of}
use Rattle.x86_lines.specs.Taking.{two_of}
use Rattle.x86_lines.proofs.OneInstr.{behind_none, behind_made}
use Rattle.x86_lines.proofs.instr_reading.instr_behind.Goals as goal

pub returns-in-None : goal.returns-in-None
returns-in-None c = behind_none c.args.text.now (pieces c.args.line.now) (sym c.in-None.ensures)

pub returns-in_ok-operands-in-Some : goal.returns-in_ok-operands-in-Some
returns-in_ok-operands-in-Some c = behind_made c.args.text.now (pieces c.args.line.now) c.in_ok-operands-in-Some.operands (two_of (operand_of c.in-Some.spelled.first) (operand_of c.in-Some.spelled.second)) c.in-Some.spelled.pattern c.chosen.result c.in-Some.ensures c.in_ok-operands-in-Some.ensures c.chosen.ensures
