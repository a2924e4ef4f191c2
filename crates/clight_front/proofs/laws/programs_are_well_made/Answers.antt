use Rattle.clight_laws.proofs.Programs.{read_well_made}
use Rattle.clight_front.proofs.laws.programs_are_well_made.Goals as goal

pub returns : goal.returns
returns c = λ bytes p h. read_well_made bytes h.file p h.read h.means
