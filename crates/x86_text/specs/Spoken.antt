-- What a line says, without a copy of its names.
use Rattle.std.specs.Prelude.{◌≡◌, ℕ, List, Option, Some, None, MatchOption}
use Rattle.x86_table.specs.declared.instruction.Instr.{Instr}
use Rattle.x86_lines.specs.Pieces.{pieces}
use Rattle.x86_lines.specs.Grammar.{IsInstr}
use Rattle.x86_lang.specs.declared.assembly.StaticLine.TheVariants as statics
use Rattle.x86_text.specs.declared.line.Line.{Line}
use Rattle.x86_text.specs.declared.line.Line.TheVariants as line
use Rattle.x86_text.specs.declared.line_reading.Spoken.{Spoken}
use Rattle.x86_text.specs.declared.line_reading.Spoken.TheVariants as spoken
use Rattle.x86_text.specs.Scanning.{Reading, Said, Bad, Code}

-- what was read
abbrev pub spoken_of : Spoken → Reading
spoken_of spoken.Nothing = Said line.Nothing
spoken_of (spoken.Pace n) = Said (line.Pace n)
spoken_of (spoken.Extern name n) = Said (line.Extern name.now n)
spoken_of spoken.Text = Said line.Text
spoken_of spoken.Data = Said line.Data
spoken_of (spoken.Export name) = Said (line.Export name.now)
spoken_of (spoken.Label name) = Said (line.Label name.now)
spoken_of (spoken.Byte n) = Said (line.Datum (statics.Byte n))
spoken_of (spoken.Short n) = Said (line.Datum (statics.Short n))
spoken_of (spoken.Long n) = Said (line.Datum (statics.Long n))
spoken_of (spoken.Zero n) = Said (line.Datum (statics.Zero n))
spoken_of (spoken.Balign n) = Said (line.Datum (statics.Balign n))
spoken_of spoken.Bad = Bad
spoken_of spoken.Code = Code

-- the line is an instruction, and says it
pub record IsOp (bytes : List ℕ) (l : Line) : Type 0 where
  pub instr : Instr
  pub is : l ≡ line.Op instr
  pub reads : IsInstr (pieces bytes) instr

-- what is made of a reading
abbrev pub IsMadeOf : Reading → List ℕ → Option Line → Type 0
IsMadeOf (Said l) bytes o = o ≡ Some l
IsMadeOf Bad bytes o = o ≡ None
IsMadeOf Code bytes o = MatchOption o ((i : Instr) → ¬ IsInstr (pieces bytes) i) (λ l. IsOp bytes l)
