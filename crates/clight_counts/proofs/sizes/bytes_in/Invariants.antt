use Rattle.std.proofs.Common.{◌≡◌, [], take}
use Rattle.clight_types.specs.Table.{types_of}
use Rattle.clight_files.specs.FilesOf.{functions_of}
use Rattle.clight_counts.specs.First.{firsts}
use Rattle.clight_counts.specs.CountsOf.{bytes_in}
use Rattle.clight_counts.proofs.sizes.bytes_in.Given as goal

abbrev pub invariant-loop-function : goal.invariant-loop-function
invariant-loop-function l = l.bytes.entries ≡ firsts [] (bytes_in (types_of l.types) (functions_of (take l.function-index l.functions)))
