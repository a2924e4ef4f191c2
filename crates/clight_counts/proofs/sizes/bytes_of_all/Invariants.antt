use Rattle.std.proofs.Common.{◌≡◌, take}
use Rattle.clight_types.specs.Table.{types_of}
use Rattle.clight_meaning.specs.Counts.{bytes_of_all}
use Rattle.clight_counts.proofs.sizes.bytes_of_all.Given as goal

abbrev pub invariant-loop-t : goal.invariant-loop-t
invariant-loop-t l = l.bytes ≡ bytes_of_all (types_of l.types) (take l.t-index l.list)
