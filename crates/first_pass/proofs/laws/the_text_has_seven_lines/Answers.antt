use Rattle.first_pass.proofs.Lines.{seven_lines}
use Rattle.first_pass.proofs.laws.the_text_has_seven_lines.Goals as goal

pub returns : goal.returns
returns c = seven_lines
