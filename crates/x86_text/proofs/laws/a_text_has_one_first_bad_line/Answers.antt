use Rattle.x86_text.proofs.OneBad.{one_bad}
use Rattle.x86_text.proofs.laws.a_text_has_one_first_bad_line.Goals as goal

pub returns : goal.returns
returns c = one_bad
