-- The test over all pairs of rows is computed.
use Rattle.std.proofs.Common.{refl}
use Rattle.x86_table.proofs.Apart.{fits_at_most_once}
use Rattle.x86_table.proofs.table.no_two_rows_fit.Goals as goal

pub returns : goal.returns
returns c = fits_at_most_once _ refl
