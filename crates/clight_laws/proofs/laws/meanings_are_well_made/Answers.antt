use Rattle.clight_laws.proofs.Programs.{meaning_well_made, read_well_made}
use Rattle.clight_laws.proofs.laws.meanings_are_well_made.Goals as goal

pub returns : goal.returns
returns c = record { tree = meaning_well_made; bytes = read_well_made }
