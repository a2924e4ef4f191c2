-- What each printed line says.
use Rattle.std.proofs.Common.{◌≡◌, ℕ, ◌^◌, ◌<◌, ◌≤◌, List, [], ◌∷◌, ◌++◌, refl, true, arith, lit<, inl, inr}
use Rattle.std.specs.Prelude.{codes}
use Rattle.std.specs.Fmt.{decimal}
use Rattle.x86_table.specs.Names.{IsName}
use Rattle.x86_table.specs.declared.instruction.Instr.{Instr}
use Rattle.x86_lines.specs.Pieces.{pieces}
use Rattle.x86_print.specs.Printed.{instr_text, signed_text, word_text}
use Rattle.x86_lines.proofs.Cuts.{Cuts, CutsAll, IsFresh, IsStop, cuts_after, cuts_then, cuts_stop, cuts_name, cuts_decimal, cuts_whole}
use Rattle.x86_print.proofs.Rendered.{count_is, signed_cut, word_cut}
use Rattle.x86_print.proofs.RenderedInstr.{IsPrintableInstr, instr_is}
use Rattle.x86_lang.specs.declared.assembly.StaticLine.{StaticLine}
use Rattle.x86_lang.specs.declared.assembly.StaticLine.TheVariants as statics
use Rattle.x86_lang.specs.Whole.{IsAlignment, FitsWidth}
use Rattle.x86_text.specs.declared.line.Line.{Line}
use Rattle.x86_text.specs.declared.line.Line.TheVariants as line
use Rattle.x86_text.specs.Text.{Says, Pace, Extern, Export, Label, Datum, Op, IsDatum, Byte, Short, Long, Zero, Balign}
use Rattle.x86_text.specs.Printed.{pace_text, extern_text, export_text, label_text, static_text}
use Rattle.x86_text.proofs.Joined.{in_line}
use Rattle.x86_text.proofs.Feeds.{in_line_append, pieces_in_line, name_in_line, count_in_line, bits_in_line, instr_in_line}

-- a printed line says this, and has no line feed
pub record Printing (text : List ℕ) (said : Line) : Type 0 where
  pub says : Says text said
  pub in_line : in_line text ≡ true

blank_cut : CutsAll (codes " ") []
blank_cut = record { cut = λ rest. refl }

blank_stop : IsStop (codes " ")
blank_stop = record { stops = λ rest. refl }

pub pace_printing : (n : ℕ) → n < 2 ^ 128 → Printing (pace_text n) (line.Pace n)
pace_printing n h =
    let bound : n < 10 ^ 64 = omega arith in
    record {
      says = Pace (pace_text n) (decimal n) (decimal n) n refl (cuts_whole (decimal n) (decimal n ∷ []) (cuts_decimal n bound)) (count_is n bound) h;
      in_line = in_line_append (codes "# pace ") (decimal n) refl (count_in_line (decimal n) n (count_is n bound));
    }

pub extern_printing : (name : List ℕ) (n : ℕ) → IsName name → n ≤ 64 → Printing (extern_text (name, n)) (line.Extern name n)
extern_printing name n named h =
    let bound : n < 10 ^ 64 = omega arith in
    let front : CutsAll (name ++ codes " ") (name ∷ []) = cuts_stop name (codes " ") (name ∷ []) [] (cuts_name name named) blank_stop blank_cut in
    let all = cuts_after (name ++ codes " ") (decimal n) (name ∷ []) (decimal n ∷ []) front (cuts_decimal n bound) in
    record {
      says = Extern (extern_text (name, n)) (name ++ codes " " ++ decimal n) name (decimal n) n refl (cuts_whole (name ++ codes " " ++ decimal n) (name ∷ decimal n ∷ []) all) named (count_is n bound) h;
      in_line = in_line_append (codes "# extern " ++ name ++ codes " ") (decimal n) (in_line_append (codes "# extern " ++ name) (codes " ") (in_line_append (codes "# extern ") name refl (name_in_line name named)) refl) (count_in_line (decimal n) n (count_is n bound));
    }

globl_cut : CutsAll (codes ".globl ") (codes ".globl" ∷ [])
globl_cut = record { cut = λ rest. refl }

pub export_printing : (name : List ℕ) → IsName name → Printing (export_text name) (line.Export name)
export_printing name named = record {
  says = Export (export_text name) name (cuts_whole (export_text name) (codes ".globl" ∷ name ∷ []) (cuts_after (codes ".globl ") name (codes ".globl" ∷ []) (name ∷ []) globl_cut (cuts_name name named))) named;
  in_line = in_line_append (codes ".globl ") name refl (name_in_line name named);
}

colon_cut : Cuts (codes ":") (codes ":" ∷ [])
colon_cut = record { cut = λ rest stop. refl }

colon_fresh : IsFresh (codes ":")
colon_fresh = record { fresh = λ rest stop. refl }

pub label_printing : (name : List ℕ) → IsName name → Printing (label_text name) (line.Label name)
label_printing name named = record {
  says = Label (label_text name) name (cuts_whole (label_text name) (name ∷ codes ":" ∷ []) (cuts_then name (codes ":") (name ∷ []) (codes ":" ∷ []) (cuts_name name named) colon_fresh colon_cut)) named;
  in_line = in_line_append name (codes ":") (name_in_line name named) refl;
}

-- a directive with a number
datum_printing : (front word number : List ℕ) (s : StaticLine) → CutsAll front (word ∷ []) → in_line front ≡ true → Cuts number (number ∷ []) → in_line number ≡ true → IsDatum word number s → Printing (front ++ number) (line.Datum s)
datum_printing front word number s f h n k d = record {
  says = Datum (front ++ number) word number s (cuts_whole (front ++ number) (word ∷ number ∷ []) (cuts_after front number (word ∷ []) (number ∷ []) f n)) d;
  in_line = in_line_append front number h k;
}

-- what a line of data says
abbrev pub said_static : StaticLine → Line
said_static (statics.Label name) = line.Label name
said_static s = line.Datum s

-- its name is one
abbrev pub IsNamedStatic : StaticLine → Type 0
IsNamedStatic (statics.Label name) = IsName name
IsNamedStatic s = Unit {0}

alignment_small : (n : ℕ) → IsAlignment (statics.Balign n) → n < 10 ^ 64
alignment_small n (inl e) = omega (arith, e)
alignment_small n (inr (inl e)) = omega (arith, e)
alignment_small n (inr (inr (inl e))) = omega (arith, e)
alignment_small n (inr (inr (inr e))) = omega (arith, e)

pub static_printing : (s : StaticLine) → IsNamedStatic s → FitsWidth s → IsAlignment s → Printing (static_text s) (said_static s)
static_printing (statics.Label name) named w al = label_printing name named
static_printing (statics.Byte n) named w al = let c = signed_cut 128 n w (lit< tt) in datum_printing (codes "\t.byte ") (codes ".byte") (signed_text 128 n) (statics.Byte n) (record { cut = λ rest. refl }) refl c.cuts (bits_in_line 128 (signed_text 128 n) n c.bits) (Byte (signed_text 128 n) n c.bits)
static_printing (statics.Short n) named w al = let c = signed_cut 32768 n w (lit< tt) in datum_printing (codes "\t.short ") (codes ".short") (signed_text 32768 n) (statics.Short n) (record { cut = λ rest. refl }) refl c.cuts (bits_in_line 32768 (signed_text 32768 n) n c.bits) (Short (signed_text 32768 n) n c.bits)
static_printing (statics.Long n) named w al = let c = word_cut n w in datum_printing (codes "\t.long ") (codes ".long") (word_text n) (statics.Long n) (record { cut = λ rest. refl }) refl c.cuts (bits_in_line 2147483648 (word_text n) n c.bits) (Long (word_text n) n c.bits)
static_printing (statics.Zero n) named w al = let c = word_cut n w in datum_printing (codes "\t.zero ") (codes ".zero") (word_text n) (statics.Zero n) (record { cut = λ rest. refl }) refl c.cuts (bits_in_line 2147483648 (word_text n) n c.bits) (Zero (word_text n) n c.bits)
static_printing (statics.Balign n) named w al = let bound = alignment_small n al in datum_printing (codes "\t.balign ") (codes ".balign") (decimal n) (statics.Balign n) (record { cut = λ rest. refl }) refl (cuts_decimal n bound) (count_in_line (decimal n) n (count_is n bound)) (Balign (decimal n) n (count_is n bound) al)

pub instr_printing : (i : Instr) → IsPrintableInstr i → Printing (instr_text i) (line.Op i)
instr_printing i h = let is = instr_is i h in record { says = Op (instr_text i) i is; in_line = pieces_in_line (instr_text i) (instr_in_line (pieces (instr_text i)) i is) }
