use Rattle.std.proofs.Common.{sym, subst}
use Rattle.clight_lang.specs.Placed.{AreWithin}
use Rattle.clight_run.proofs.TriedNames.{names_within}
use Rattle.clight_run.proofs.tests.names.Goals as goal

pub returns : goal.returns
returns c = subst AreWithin (sym c.in_ok-globals.ensures) names_within
