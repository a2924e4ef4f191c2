use Rattle.clight_laws.proofs.Programs.{meaning_there, meaning_alone}
use Rattle.clight_laws.proofs.laws.files_have_one_meaning.Goals as goal

pub returns : goal.returns
returns c = record { some = meaning_there; alone = meaning_alone }
