-- What the tie gives, of the machines that are shut.
use Rattle.tso_core.specs.Machine.{machine}
use Rattle.clight_lang.specs.Meaning.{language}
use Rattle.x86_machine.specs.X86Tso.{x86_machine}
use Rattle.first_pass.proofs.assembling.assembly.Goals as goal

pub returns-clause-refines : goal.returns-clause-refines
unfolding machine language x86_machine
returns-clause-refines c = c.tie_refines.ensures
