-- What the code makes of a line, by its first byte and its pieces: functions in the code's order. The texts do not rest on them.
use Rattle.std.specs.Prelude.{ℕ, Bool, List, [], ◌∷◌, codes, bytes_eq, Option, Some, None, ◌||◌, ◌==◌, nat_le, if◌then◌else◌}
use Rattle.x86_lines.specs.Pieces.{pieces}
use Rattle.x86_lines.specs.Reading.{is_name}
use Rattle.x86_lines.specs.Finding.{bits_in, count_in}
use Rattle.x86_lang.specs.declared.assembly.StaticLine.TheVariants as statics
use Rattle.x86_text.specs.declared.line.Line.{Line}
use Rattle.x86_text.specs.declared.line.Line.TheVariants as line
use Rattle.x86_text.specs.Text.{past_blanks, pace_mark, extern_mark}

-- a line says something, or it is bad, or it has to be an instruction
pub data Reading : Type 0 where
  Said : Line → Reading
  Bad : Reading
  Code : Reading

-- what stands behind a mark
abbrev pub strip : List ℕ → List ℕ → Option (List ℕ)
strip [] bs = Some bs
strip (m ∷ ms) [] = None
strip (m ∷ ms) (b ∷ bs) = if b == m then strip ms bs else None

-- '# pace' and '# extern'
abbrev pub pace_from : Option ℕ → Reading
pace_from None = Bad
pace_from (Some n) = Said (line.Pace n)

abbrev pub pace_in : List (List ℕ) → Reading
pace_in [] = Bad
pace_in (p ∷ []) = pace_from (count_in p)
pace_in (p ∷ q ∷ ps) = Bad

abbrev pub extern_from : List ℕ → Option ℕ → Reading
extern_from name None = Bad
extern_from name (Some n) = if nat_le n 64 then Said (line.Extern name n) else Bad

abbrev pub extern_at : List ℕ → List ℕ → Reading
extern_at name p = if is_name name then extern_from name (count_in p) else Bad

abbrev pub extern_in : List (List ℕ) → Reading
extern_in [] = Bad
extern_in (name ∷ []) = Bad
extern_in (name ∷ p ∷ []) = extern_at name p
extern_in (name ∷ p ∷ q ∷ ps) = Bad

abbrev pub extern_or : Option (List ℕ) → Reading
extern_or None = Said line.Nothing
extern_or (Some rest) = extern_in (pieces rest)

abbrev pub pace_or : Option (List ℕ) → List ℕ → Reading
pace_or None bytes = extern_or (strip extern_mark bytes)
pace_or (Some rest) bytes = pace_in (pieces rest)

abbrev pub comment : List ℕ → Reading
comment bytes = pace_or (strip pace_mark bytes) bytes

-- directives of data
abbrev pub is_alignment : ℕ → Bool
is_alignment n = n == 1 || (n == 2 || (n == 4 || n == 16))

abbrev pub byte_from : Option ℕ → Reading
byte_from None = Bad
byte_from (Some n) = Said (line.Datum (statics.Byte n))

abbrev pub short_from : Option ℕ → Reading
short_from None = Bad
short_from (Some n) = Said (line.Datum (statics.Short n))

abbrev pub long_from : Option ℕ → Reading
long_from None = Bad
long_from (Some n) = Said (line.Datum (statics.Long n))

abbrev pub zero_from : Option ℕ → Reading
zero_from None = Bad
zero_from (Some n) = Said (line.Datum (statics.Zero n))

abbrev pub balign_from : Option ℕ → Reading
balign_from None = Bad
balign_from (Some n) = if is_alignment n then Said (line.Datum (statics.Balign n)) else Bad

abbrev pub datum : List ℕ → List ℕ → Reading
datum w p = if bytes_eq w (codes ".byte") then byte_from (bits_in 128 p) else (if bytes_eq w (codes ".short") then short_from (bits_in 32768 p) else (if bytes_eq w (codes ".long") then long_from (bits_in 2147483648 p) else (if bytes_eq w (codes ".zero") then zero_from (bits_in 2147483648 p) else (if bytes_eq w (codes ".balign") then balign_from (count_in p) else Code))))

-- a line that is no comment
abbrev pub label : List ℕ → Reading
label name = if is_name name then Said (line.Label name) else Bad

abbrev pub export : List ℕ → Reading
export name = if is_name name then Said (line.Export name) else Bad

abbrev pub one_piece : List ℕ → Reading
one_piece w = if bytes_eq w (codes ".text") then Said line.Text else (if bytes_eq w (codes ".data") then Said line.Data else Code)

abbrev pub two_pieces : List ℕ → List ℕ → Reading
two_pieces w p = if bytes_eq p (codes ":") then label w else (if bytes_eq w (codes ".globl") then export p else datum w p)

abbrev pub plain : List (List ℕ) → Reading
plain [] = Said line.Nothing
plain (w ∷ []) = one_piece w
plain (w ∷ p ∷ []) = two_pieces w p
plain (w ∷ p ∷ q ∷ ps) = Code

abbrev pub reading_at : List ℕ → List ℕ → Reading
reading_at [] bytes = plain (pieces bytes)
reading_at (b ∷ bs) bytes = if b == 35 then comment (b ∷ bs) else plain (pieces bytes)

abbrev pub reading : List ℕ → Reading
reading bytes = reading_at (past_blanks bytes) bytes
