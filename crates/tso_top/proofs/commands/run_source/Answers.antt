use Rattle.std.proofs.Common.{refl}
use Rattle.tso_top.specs.Answers.{printed_status, printed_lines}
use Rattle.tso_top.proofs.Lines.{lines_kept}
use Rattle.tso_top.proofs.commands.run_source.Goals as goal

pub returns : goal.returns
returns g c = lines_kept _ refl _ _ _ _ (printed_status c.source_lines-answer.result) c.put_printed.result (printed_lines c.source_lines-answer.result) c.source_lines-answer.ensures c.put_printed.ensures
