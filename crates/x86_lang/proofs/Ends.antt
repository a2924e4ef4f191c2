-- Addresses grow along the lines, so that each one on the way is within the last.
use Rattle.std.proofs.Common.{◌≡◌, ℕ, ◌+◌, ◌≤◌, List, [], ◌∷◌, length, get_or, arith}
use Rattle.x86_lang.specs.declared.assembly.CodeLine.{CodeLine}
use Rattle.x86_lang.specs.declared.assembly.StaticLine.{StaticLine}
use Rattle.x86_lang.specs.Assembly.{code_size, code_end, size_at, data_end}

pub code_end-grows : (at : ℕ) (lines : List CodeLine) → at ≤ code_end at lines
code_end-grows at [] = omega arith
code_end-grows at (line ∷ lines) = omega (arith, code_end-grows (at + code_size line) lines)

pub data_end-grows : (at : ℕ) (lines : List StaticLine) → at ≤ data_end at lines
data_end-grows at [] = omega arith
data_end-grows at (line ∷ lines) = omega (arith, data_end-grows (at + size_at at line) lines)

-- the first line ends within the bound
pub code_line_fits : (rest : List CodeLine) (line : CodeLine) (at bound : ℕ) → 1 ≤ length rest → line ≡ get_or rest 0 line → code_end at rest ≤ bound → at + code_size line ≤ bound
code_line_fits [] line at bound h e le = omega arith
code_line_fits (first ∷ rest) line at bound h e le = rw e (omega (arith, le, code_end-grows (at + code_size first) rest))

pub data_line_fits : (rest : List StaticLine) (line : StaticLine) (at bound : ℕ) → 1 ≤ length rest → line ≡ get_or rest 0 line → data_end at rest ≤ bound → at + size_at at line ≤ bound
data_line_fits [] line at bound h e le = omega arith
data_line_fits (first ∷ rest) line at bound h e le = rw e (omega (arith, le, data_end-grows (at + size_at at first) rest))
