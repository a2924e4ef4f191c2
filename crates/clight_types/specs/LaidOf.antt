-- What the code's struct that is being laid out is.
use Rattle.clight_types.specs.declared.laid.Laid as L
use Rattle.clight_types.specs.Alignments.{bytes_in}
use Rattle.clight_types.specs.Table.{members_of}
use Rattle.clight_types.specs.Types as t

abbrev pub laid_of : L.Laid → t.Laid
laid_of x = record { size = x.size; align = bytes_in x.align; members = members_of x.members.entries }
