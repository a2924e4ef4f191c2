-- What an assembly means to the x86-TSO machine: the instructions by number, the labels with their addresses, the bytes of the data. Syntax after GNU as for the System V i386 ABI; the address map is this project's own. The code keeps lines, in which labels stand among the instructions and the data.
use Rattle.std.specs.Prelude.{ℕ, zero, suc, ◌+◌, ◌-◌, ◌/◌, ◌%◌, List, [], ◌∷◌, ◌++◌}
use Rattle.tso_core.specs.Systems.{Names, Places}
use Rattle.x86_table.specs.declared.instruction.Instr.{Instr}
use Rattle.x86_lang.specs.declared.assembly.CodeLine.{CodeLine}
use Rattle.x86_lang.specs.declared.assembly.CodeLine.TheVariants as code
use Rattle.x86_lang.specs.declared.assembly.StaticLine.{StaticLine}
use Rattle.x86_lang.specs.declared.assembly.StaticLine.TheVariants as statics
use Rattle.x86_lang.specs.declared.assembly.Parts.{Parts}

-- where the instructions, the data and the heap begin
abbrev pub code_start : ℕ
code_start = 0x08000000

abbrev pub data_start : ℕ
data_start = 0x20000000

abbrev pub heap_start : ℕ
heap_start = 0x30000000

-- the instruction of a line, and those of lines in order
abbrev pub instruction_of : CodeLine → List Instr
instruction_of (code.Label name) = []
instruction_of (code.Op instr) = instr ∷ []

abbrev pub instructions : List CodeLine → List Instr
instructions [] = []
instructions (line ∷ lines) = instruction_of line ++ instructions lines

-- an instruction takes one address
abbrev pub code_size : CodeLine → ℕ
code_size (code.Label name) = 0
code_size (code.Op instr) = 1

-- where lines of code end that begin at this address
abbrev pub code_end : ℕ → List CodeLine → ℕ
code_end at [] = at
code_end at (line ∷ lines) = code_end (at + code_size line) lines

-- the labels of such lines: each has the address of the instruction that follows it
abbrev pub code_label : ℕ → CodeLine → Places
code_label at (code.Label name) = (name, at) ∷ []
code_label at (code.Op instr) = []

abbrev pub code_labels : ℕ → List CodeLine → Places
code_labels at [] = []
code_labels at (line ∷ lines) = code_label at line ++ code_labels (at + code_size line) lines

-- the bytes up to the next multiple of n
abbrev pub padding : ℕ → ℕ → ℕ
padding n at = (n - at % n) % n

-- the number of bytes of a line of data that begins at this address
abbrev pub size_at : ℕ → StaticLine → ℕ
size_at at (statics.Label name) = 0
size_at at (statics.Byte n) = 1
size_at at (statics.Short n) = 2
size_at at (statics.Long n) = 4
size_at at (statics.Zero n) = n
size_at at (statics.Balign n) = padding n at

-- where lines of data end that begin at this address
abbrev pub data_end : ℕ → List StaticLine → ℕ
data_end at [] = at
data_end at (line ∷ lines) = data_end (at + size_at at line) lines

-- the labels of such lines: each has the address of the byte that follows it, be it one of padding
abbrev pub data_label : ℕ → StaticLine → Places
data_label at (statics.Label name) = (name, at) ∷ []
data_label at _ = []

abbrev pub data_labels : ℕ → List StaticLine → Places
data_labels at [] = []
data_labels at (line ∷ lines) = data_label at line ++ data_labels (at + size_at at line) lines

-- so many bytes of a number, the lowest first
abbrev pub little_endian : ℕ → ℕ → List ℕ
little_endian zero n = []
little_endian (suc k) n = n % 256 ∷ little_endian k (n / 256)

abbrev pub zeros : ℕ → List ℕ
zeros zero = []
zeros (suc k) = 0 ∷ zeros k

-- the bytes of a line of data that begins at this address
abbrev pub bytes_at : ℕ → StaticLine → List ℕ
bytes_at at (statics.Label name) = []
bytes_at at (statics.Byte n) = little_endian 1 n
bytes_at at (statics.Short n) = little_endian 2 n
bytes_at at (statics.Long n) = little_endian 4 n
bytes_at at (statics.Zero n) = zeros n
bytes_at at (statics.Balign n) = zeros (padding n at)

abbrev pub bytes_from : ℕ → List StaticLine → List ℕ
bytes_from at [] = []
bytes_from at (line ∷ lines) = bytes_at at line ++ bytes_from (at + size_at at line) lines

-- the labels of an assembly with their addresses
abbrev pub labels_of : Parts → Places
labels_of a = code_labels code_start a.code ++ data_labels data_start a.statics

-- what the machine reads of an assembly: instruction i stands at 0x08000000 + i, and the bytes of the data from 0x20000000 on; each external has the number of words that it takes
pub record Assembly : Type 0 where
  pub pace : ℕ
  pub externs : List (Names × ℕ)
  pub instructions : List Instr
  pub labels : Places
  pub bytes : List ℕ

abbrev pub assembly_of : Parts → Assembly
assembly_of a = record { pace = a.pace; externs = a.externs; instructions = instructions a.code; labels = labels_of a; bytes = bytes_from data_start a.statics }
