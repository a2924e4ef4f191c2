-- The printed form of an assembly: the pace, the externals, the exports, the data, the code, a line each. A tab stands before an instruction and before a directive of data.
use Rattle.std.specs.Prelude.{ℕ, List, [], ◌∷◌, ◌++◌, codes, map}
use Rattle.std.specs.Fmt.{decimal}
use Rattle.x86_print.specs.Printed.{instr_text, signed_text, word_text}
use Rattle.x86_lang.specs.declared.assembly.CodeLine.{CodeLine}
use Rattle.x86_lang.specs.declared.assembly.CodeLine.TheVariants as code
use Rattle.x86_lang.specs.declared.assembly.StaticLine.{StaticLine}
use Rattle.x86_lang.specs.declared.assembly.StaticLine.TheVariants as statics
use Rattle.x86_lang.specs.declared.assembly.Parts.{Parts}

abbrev pub pace_text : ℕ → List ℕ
pace_text n = codes "# pace " ++ decimal n

abbrev pub extern_text : List ℕ × ℕ → List ℕ
extern_text e = codes "# extern " ++ e.0 ++ codes " " ++ decimal e.1

abbrev pub export_text : List ℕ → List ℕ
export_text name = codes ".globl " ++ name

abbrev pub label_text : List ℕ → List ℕ
label_text name = name ++ codes ":"

abbrev pub static_text : StaticLine → List ℕ
static_text (statics.Label name) = label_text name
static_text (statics.Byte n) = codes "\t.byte " ++ signed_text 128 n
static_text (statics.Short n) = codes "\t.short " ++ signed_text 32768 n
static_text (statics.Long n) = codes "\t.long " ++ word_text n
static_text (statics.Zero n) = codes "\t.zero " ++ word_text n
static_text (statics.Balign n) = codes "\t.balign " ++ decimal n

abbrev pub code_text : CodeLine → List ℕ
code_text (code.Label name) = label_text name
code_text (code.Op instr) = instr_text instr

-- the lines, in order
abbrev pub code_lines : Parts → List (List ℕ)
code_lines a = codes ".text" ∷ map code_text a.code

abbrev pub static_lines : Parts → List (List ℕ)
static_lines a = codes ".data" ∷ map static_text a.statics

abbrev pub printed_lines : Parts → List (List ℕ)
printed_lines a = pace_text a.pace ∷ (map extern_text a.externs ++ (map export_text a.exports ++ (static_lines a ++ code_lines a)))

-- lines, each with its end
abbrev pub joined : List (List ℕ) → List ℕ
joined [] = []
joined (line ∷ lines) = (line ++ 10 ∷ []) ++ joined lines

abbrev pub printed : Parts → List ℕ
printed a = joined (printed_lines a)
