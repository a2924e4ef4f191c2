-- The tables that the machine makes of an assembly before it runs: for each instruction its line and the address of its name; for each external how many words it takes. A place in a list of blocks.
use Rattle.std.specs.Prelude.{◌≡◌, ℕ, nat_eq, suc, List, [], ◌∷◌, ◌++◌, Option, Some, None, slice_get, ◌-◌, nat_le, nat_lt, if◌then◌else◌}
use Rattle.std.specs.Cmp.Lexicographic.{pointwise}
use Rattle.indexmap.specs.IndexMap.{IndexMap, get}
use Rattle.tso_core.specs.Systems.{Names, Places}
use Rattle.x86_table.specs.declared.instruction.Instr.{Instr}
use Rattle.x86_lang.specs.declared.assembly.CodeLine.{CodeLine}
use Rattle.x86_lang.specs.declared.assembly.CodeLine.TheVariants as code
use Rattle.x86_machine.specs.declared.table.Placed.{Placed}
use Rattle.x86_lang.specs.Assembly.{code_start}
use Rattle.x86_machine.specs.Target.{name_of, address_or_zero, words_of}

-- the entry of a line, and those of lines whose first has this number
abbrev pub entry_of : Places → (line : ℕ) → CodeLine → List Placed
entry_of at n (code.Label name) = []
entry_of at n (code.Op o) = record { line = n; label = address_or_zero at (name_of o) } ∷ []

abbrev pub entries_of : Places → (line : ℕ) → List CodeLine → List Placed
entries_of at n [] = []
entries_of at n (line ∷ lines) = entry_of at n line ++ entries_of at (suc n) lines

-- an entry is that of an instruction: its line has it, and its label is the address of its name
abbrev pub IsEntry : Places → List CodeLine → Option Placed → Option Instr → Type 0
IsEntry at lines None None = Unit {0}
IsEntry at lines None (Some o) = ⊥
IsEntry at lines (Some p) None = ⊥
IsEntry at lines (Some p) (Some o) = (slice_get lines p.line ≡ Some (code.Op o)) × (p.label ≡ address_or_zero at (name_of o))

-- the entry of an address
abbrev pub entry_at : List Placed → (place : ℕ) → Option Placed
entry_at table place = if nat_le code_start place then slice_get table (place - code_start) else None

-- a map has the words of each external at its name
abbrev pub Knows : {S : Type 0} → IndexMap Names ℕ S → List (Names × ℕ) → Type 0
Knows words externs = (name : Names) → get (pointwise nat_eq) words name ≡ words_of externs name

-- how many of the first blocks begin below a base
abbrev pub count_below : (base : ℕ) → List (ℕ × ℕ) → ℕ
count_below base [] = 0
count_below base (b ∷ bs) = if nat_lt b.0 base then suc (count_below base bs) else 0
