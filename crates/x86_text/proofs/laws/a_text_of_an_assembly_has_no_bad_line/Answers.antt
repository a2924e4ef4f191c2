use Rattle.x86_text.proofs.Excluded.{asm_has_no_bad}
use Rattle.x86_text.proofs.laws.a_text_of_an_assembly_has_no_bad_line.Goals as goal

pub returns : goal.returns
returns c = asm_has_no_bad
