use Rattle.std.proofs.Common.{sym, subst}
use Rattle.clight_lang.specs.WellMade.{IsWellMade}
use Rattle.clight_lang.proofs.WellMade.{well_made}
use Rattle.clight_lang.proofs.returning.program_returning.Goals as goal

pub returns-clause-well_made : goal.returns-clause-well_made
returns-clause-well_made c = subst IsWellMade (sym c.in_ok-program.ensures) (well_made c.args.number)
