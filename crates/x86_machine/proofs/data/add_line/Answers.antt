use Rattle.std.proofs.Common.{◌∙◌}
use Rattle.x86_machine.proofs.DataBytes.{data_zeros}
use Rattle.x86_machine.proofs.data.add_line.Goals as goal

pub returns-in-Zero : goal.returns-in-Zero
returns-in-Zero c = λ before e h. rw c.in-Zero.is (h ∙ data_zeros before _)

pub returns-in-Balign : goal.returns-in-Balign
returns-in-Balign c = λ before e h. rw c.in-Balign.is (h ∙ data_zeros before _)
