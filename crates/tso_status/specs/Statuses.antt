-- The number of each status and the line that it prints. This project's own.
use Rattle.std.specs.Prelude.{ℕ, List, [], ◌∷◌, ◌++◌, codes, decimal}
use Rattle.tso_status.specs.declared.status.Status.{Status}
use Rattle.tso_status.specs.declared.status.Status.TheVariants.{Done, Usage, ReadFault, WriteFault, TooLong, Syntax, TooDeep, Types, TooLarge, NoMemory, BadText, BadSchedule, NotARun, NotBuilt}

-- the number with which the program ends
abbrev pub code_of : Status → ℕ
code_of Done = 0
code_of Usage = 1
code_of ReadFault = 2
code_of WriteFault = 3
code_of TooLong = 4
code_of (Syntax at) = 5
code_of (TooDeep at) = 6
code_of (Types rule at) = 7
code_of (TooLarge count at) = 8
code_of NoMemory = 9
code_of (BadText number) = 10
code_of (BadSchedule number) = 11
code_of (NotARun number) = 12
code_of NotBuilt = 13

-- a text and the LF that ends its line
abbrev pub line : List ℕ → List ℕ
line text = text ++ 10 ∷ []

-- a line with a number at its end
abbrev pub numbered : List ℕ → ℕ → List ℕ
numbered text number = text ++ line (decimal number)

-- a line with a number and the byte of a place
abbrev pub placed : List ℕ → ℕ → ℕ → List ℕ
placed text number at = text ++ (decimal number ++ numbered (codes ", byte ") at)

-- the line that a status prints; Done prints none, and that of NotARun comes behind the lines of the replay
abbrev pub line_of : Status → List ℕ
line_of Done = []
line_of Usage = line (codes "usage")
line_of ReadFault = line (codes "read fault")
line_of WriteFault = line (codes "write fault")
line_of TooLong = line (codes "too long")
line_of (Syntax at) = numbered (codes "syntax: byte ") at
line_of (TooDeep at) = numbered (codes "too deep: byte ") at
line_of (Types rule at) = placed (codes "types: rule ") rule at
line_of (TooLarge count at) = placed (codes "too large: count ") count at
line_of NoMemory = line (codes "no memory")
line_of (BadText number) = numbered (codes "bad text: line ") number
line_of (BadSchedule number) = numbered (codes "bad schedule: line ") number
line_of (NotARun number) = numbered (codes "not a run: line ") number
line_of NotBuilt = line (codes "not built")
