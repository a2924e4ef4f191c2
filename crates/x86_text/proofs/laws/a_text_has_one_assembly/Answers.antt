use Rattle.x86_text.proofs.OneSaying.{one_asm}
use Rattle.x86_text.proofs.laws.a_text_has_one_assembly.Goals as goal

pub returns : goal.returns
returns c = one_asm
