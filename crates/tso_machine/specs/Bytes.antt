-- Bytes that are written one after another (of this project; the code stores each in its turn).
use Rattle.std.specs.Prelude.{ℕ, ◌-◌, List, length, slice_index_or, if◌then◌else◌}
use Rattle.tso_words.specs.declared.value.Cell.TheVariants.{Byte}
use Rattle.tso_memory.specs.Memory.{MemoryMeaning, is_in}

-- a memory with these bytes from an address on
abbrev pub with_bytes : ℕ → List ℕ → MemoryMeaning → MemoryMeaning
with_bytes base bytes m = record m { cells = λ x. if is_in base (length bytes) x then Byte (slice_index_or bytes (x - base) 0) else m.cells x }
