-- Which bytes are a text of which assembly. Syntax after GNU as for the System V i386 ABI; the comments '# pace' and '# extern' are this project's own. Lines are told apart by their pieces, so blanks and comments are free.
use Rattle.std.specs.Prelude.{◌≡◌, ◌≢◌, ℕ, ◌^◌, ◌<◌, ◌≤◌, Bool, true, false, List, [], ◌∷◌, ◌++◌, codes, Option, Some, None, ◌==◌, if◌then◌else◌}
use Rattle.x86_table.specs.declared.instruction.Instr.{Instr}
use Rattle.x86_table.specs.Names.{IsName}
use Rattle.x86_lines.specs.Pieces.{pieces, is_blank, onto_first}
use Rattle.x86_lines.specs.Numbers.{IsBits, IsWord, IsCount}
use Rattle.x86_lines.specs.Grammar.{IsInstr}
use Rattle.x86_lang.specs.declared.assembly.CodeLine.{CodeLine}
use Rattle.x86_lang.specs.declared.assembly.CodeLine.TheVariants as code
use Rattle.x86_lang.specs.declared.assembly.StaticLine.{StaticLine}
use Rattle.x86_lang.specs.declared.assembly.StaticLine.TheVariants as statics
use Rattle.x86_lang.specs.declared.assembly.Parts.{Parts}
use Rattle.x86_lang.specs.Whole.{IsAlignment, IsWhole}
use Rattle.x86_text.specs.declared.line.Line.{Line}
use Rattle.x86_text.specs.declared.line.Line.TheVariants as line

-- the lines of a text: each ends with a line feed, which the last may lack
abbrev pub lines : List ℕ → List (List ℕ)
lines [] = []
lines (b ∷ bs) = if b == 10 then [] ∷ lines bs else onto_first b (lines bs)

-- a line from its first byte that is no blank on
abbrev pub past_blanks : List ℕ → List ℕ
past_blanks [] = []
past_blanks (b ∷ bs) = if is_blank b then past_blanks bs else b ∷ bs

-- a comment that is more than a comment begins so
abbrev pub pace_mark : List ℕ
pace_mark = codes "# pace "

abbrev pub extern_mark : List ℕ
extern_mark = codes "# extern "

-- a directive of the data section, by its name and its number
pub data IsDatum : List ℕ → List ℕ → StaticLine → Type 0 where
  Byte : (p : List ℕ) (n : ℕ) → IsBits 128 p n → IsDatum (codes ".byte") p (statics.Byte n)
  Short : (p : List ℕ) (n : ℕ) → IsBits 32768 p n → IsDatum (codes ".short") p (statics.Short n)
  Long : (p : List ℕ) (n : ℕ) → IsBits 2147483648 p n → IsDatum (codes ".long") p (statics.Long n)
  Zero : (p : List ℕ) (n : ℕ) → IsWord p n → IsDatum (codes ".zero") p (statics.Zero n)
  Balign : (p : List ℕ) (n : ℕ) → IsCount p n → IsAlignment (statics.Balign n) → IsDatum (codes ".balign") p (statics.Balign n)

-- what a line says; a line of none of these forms says nothing at all and is bad
pub data Says : List ℕ → Line → Type 0 where
  Blank : (bytes : List ℕ) → pieces bytes ≡ [] → Says bytes line.Nothing
  Comment : (bytes rest : List ℕ) → past_blanks bytes ≡ 35 ∷ rest → ((more : List ℕ) → 35 ∷ rest ≢ pace_mark ++ more) → ((more : List ℕ) → 35 ∷ rest ≢ extern_mark ++ more) → Says bytes line.Nothing
  Pace : (bytes rest p : List ℕ) (n : ℕ) → past_blanks bytes ≡ pace_mark ++ rest → pieces rest ≡ p ∷ [] → IsCount p n → n < 2 ^ 128 → Says bytes (line.Pace n)
  Extern : (bytes rest name p : List ℕ) (n : ℕ) → past_blanks bytes ≡ extern_mark ++ rest → pieces rest ≡ name ∷ p ∷ [] → IsName name → IsCount p n → n ≤ 64 → Says bytes (line.Extern name n)
  Text : (bytes : List ℕ) → pieces bytes ≡ codes ".text" ∷ [] → Says bytes line.Text
  Data : (bytes : List ℕ) → pieces bytes ≡ codes ".data" ∷ [] → Says bytes line.Data
  Export : (bytes name : List ℕ) → pieces bytes ≡ codes ".globl" ∷ name ∷ [] → IsName name → Says bytes (line.Export name)
  Label : (bytes name : List ℕ) → pieces bytes ≡ name ∷ codes ":" ∷ [] → IsName name → Says bytes (line.Label name)
  Datum : (bytes word p : List ℕ) (datum : StaticLine) → pieces bytes ≡ word ∷ p ∷ [] → IsDatum word p datum → Says bytes (line.Datum datum)
  Op : (bytes : List ℕ) (instr : Instr) → IsInstr (pieces bytes) instr → Says bytes (line.Op instr)

-- what the lines so far said, and the section that they ended in
pub record Gathered : Type 0 where
  pub in_data : Bool
  pub has_pace : Bool
  pub parts : Parts

-- at the start: in '.text', and a pace of 0 where none is said
abbrev pub opening : Gathered
opening = record { in_data = false; has_pace = false; parts = record { pace = 0; externs = []; exports = []; code = []; statics = [] } }

-- what one more line says, or None where it may not stand: a second '# pace', data outside '.data', an instruction outside '.text'
abbrev pub with_parts : Gathered → Parts → Gathered
with_parts g parts = record g { parts = parts }

abbrev pub with_code : Gathered → CodeLine → Gathered
with_code g c = with_parts g (record g.parts { code = g.parts.code ++ c ∷ [] })

abbrev pub with_static : Gathered → StaticLine → Gathered
with_static g s = with_parts g (record g.parts { statics = g.parts.statics ++ s ∷ [] })

abbrev pub adds : Gathered → Line → Option Gathered
adds g line.Nothing = Some g
adds g (line.Pace n) = if g.has_pace then None else Some (record { in_data = g.in_data; has_pace = true; parts = record g.parts { pace = n } })
adds g (line.Extern name n) = Some (with_parts g (record g.parts { externs = g.parts.externs ++ (name, n) ∷ [] }))
adds g line.Text = Some (record g { in_data = false })
adds g line.Data = Some (record g { in_data = true })
adds g (line.Export name) = Some (with_parts g (record g.parts { exports = g.parts.exports ++ name ∷ [] }))
adds g (line.Label name) = Some (if g.in_data then with_static g (statics.Label name) else with_code g (code.Label name))
adds g (line.Datum datum) = if g.in_data then Some (with_static g datum) else None
adds g (line.Op instr) = if g.in_data then None else Some (with_code g (code.Op instr))

-- each line says something that may stand there; all together
pub data Gathers : Gathered → List (List ℕ) → Gathered → Type 0 where
  End : (g : Gathered) → Gathers g [] g
  Next : (g h k : Gathered) (bytes : List ℕ) (rest : List (List ℕ)) (said : Line) → Says bytes said → adds g said ≡ Some h → Gathers h rest k → Gathers g (bytes ∷ rest) k

-- the bytes are a text of this assembly
pub record AsmOf (text : List ℕ) (a : Parts) : Type 0 where
  pub gathered : Gathered
  pub says : Gathers opening (lines text) gathered
  pub parts : gathered.parts ≡ a
  pub whole : IsWhole a
