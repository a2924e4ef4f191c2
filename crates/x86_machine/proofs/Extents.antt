-- How many entries a table has, and how many bytes the data.
use Rattle.std.proofs.Common.{◌≡◌, ℕ, zero, suc, ◌+◌, List, [], ◌∷◌, ◌++◌, length, length-append, refl, arith}
use Rattle.tso_core.specs.Systems.{Places}
use Rattle.x86_lang.specs.declared.assembly.CodeLine.{CodeLine}
use Rattle.x86_lang.specs.declared.assembly.CodeLine.TheVariants as code
use Rattle.x86_lang.specs.declared.assembly.StaticLine.{StaticLine}
use Rattle.x86_lang.specs.declared.assembly.StaticLine.TheVariants as statics
use Rattle.x86_lang.specs.Assembly.{code_end, data_end, size_at, padding, little_endian, zeros, bytes_at, bytes_from}
use Rattle.x86_machine.specs.Tables.{entries_of}

pub entries-length : (at : Places) (n start : ℕ) (lines : List CodeLine) → start + length (entries_of at n lines) ≡ code_end start lines
entries-length at n start [] = omega arith
entries-length at n start (code.Label name ∷ lines) = omega (arith, entries-length at (suc n) (start + 0) lines)
entries-length at n start (code.Op o ∷ lines) = omega (arith, entries-length at (suc n) (start + 1) lines)

zeros-length : (k : ℕ) → length (zeros k) ≡ k
zeros-length zero = refl
zeros-length (suc k) = omega (arith, zeros-length k)

pub line-length : (at : ℕ) (line : StaticLine) → length (bytes_at at line) ≡ size_at at line
line-length at (statics.Label name) = refl
line-length at (statics.Byte n) = refl
line-length at (statics.Short n) = refl
line-length at (statics.Long n) = refl
line-length at (statics.Zero n) = zeros-length n
line-length at (statics.Balign n) = zeros-length (padding n at)

pub bytes-length : (at : ℕ) (lines : List StaticLine) → at + length (bytes_from at lines) ≡ data_end at lines
bytes-length at [] = omega arith
bytes-length at (line ∷ lines) = omega (arith, line-length at line, length-append (bytes_at at line) (bytes_from (at + size_at at line) lines), bytes-length (at + size_at at line) lines)
