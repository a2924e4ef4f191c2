-- The test over the rows is computed.
use Rattle.std.specs.Prelude.{refl}
use Rattle.x86_table.specs.declared.table.TheConstants.{FORMS}
use Rattle.x86_table.proofs.Numbered.{numbered_at}
use Rattle.x86_table.proofs.table.rows_are_numbered.Goals as goal

pub returns : goal.returns
returns c = numbered_at 1 FORMS refl
