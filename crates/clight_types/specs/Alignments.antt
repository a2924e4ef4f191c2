-- The alignments of types in bytes.
use Rattle.std.specs.Prelude.{ℕ}
use Rattle.clight_types.specs.declared.kind.Alignment.{Alignment}
use Rattle.clight_types.specs.declared.kind.Alignment.TheVariants as a

abbrev pub bytes_in : Alignment → ℕ
bytes_in a.One = 1
bytes_in a.Two = 2
bytes_in a.Four = 4
