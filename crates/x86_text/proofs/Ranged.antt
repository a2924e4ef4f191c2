-- What a line says is in its ranges.
use Rattle.std.proofs.Common.{ℕ, ◌+◌, ◌-◌, ◌^◌, ◌<◌, ◌≤◌, List, Bool, Option, arith}
use Rattle.std.proofs.Math.Nat.{mod-lt}
use Rattle.x86_table.specs.declared.operand.Operand.{Operand}
use Rattle.x86_table.specs.declared.operand.Operands.{Operands}
use Rattle.x86_table.specs.declared.table.Shape.{Shape}
use Rattle.x86_table.specs.declared.table.Pattern.{Pattern}
use Rattle.x86_lines.specs.Numbers.{InWidth, Positive, Below, IsBits, IsWord}
use Rattle.x86_lines.specs.Grammar.{IsFront, Nothing, Plus, Label, LabelPlus, IsOperand, Word, Byte, Half, Through, Number, Symbol, SymbolPlus, Bare, Memory, AreOperands, NoOperand, OneOperand, TwoOperands}
use Rattle.x86_lang.specs.declared.assembly.StaticLine.{StaticLine}
use Rattle.x86_lang.specs.Whole.{HasWord, FitsWidth, IsAlignment}
use Rattle.x86_text.specs.declared.line.Line.{Line}
use Rattle.x86_text.specs.Text.{Says, IsDatum}
use Rattle.x86_text.specs.Text as text
use Rattle.x86_text.proofs.Growing.{IsNoLabel, RightLine}

below_width : (half : ℕ) (negative : Bool) (size n : ℕ) → 1 ≤ half → InWidth half negative size n → n < half + half
below_width half negative size n some (Positive m h) = h
below_width half negative size n some (Below m h) = mod-lt (half + half - size) (omega (arith, some))

bits_below : (half : ℕ) (p : List ℕ) (n : ℕ) → 1 ≤ half → IsBits half p n → n < half + half
bits_below half p n some h = below_width half h.negative h.size n some h.ranges

word_below : (p : List ℕ) (n : ℕ) → IsWord p n → n < 2 ^ 32
word_below p n h = let small = bits_below 2147483648 p n (omega arith) h in omega (arith, small)

front_below : (ps : List (List ℕ)) (label : Option (List ℕ)) (n : ℕ) → IsFront ps label n → n < 2 ^ 32
front_below ps label n Nothing = omega arith
front_below ps label n (Plus p k h) = word_below p n h
front_below ps label n (Label name h) = omega arith
front_below ps label n (LabelPlus name p k named h) = word_below p n h

operand_below : (ps : List (List ℕ)) (o : Operand) (s : Shape) → IsOperand ps o s → HasWord o
operand_below ps o s (Word r) = tt
operand_below ps o s (Byte r) = tt
operand_below ps o s (Half r) = tt
operand_below ps o s (Through r) = tt
operand_below ps o s (Number p n h) = word_below p n h
operand_below ps o s (Symbol name h) = omega arith
operand_below ps o s (SymbolPlus name p n h k) = word_below p n k
operand_below ps o s (Bare name h) = omega arith
operand_below ps o s (Memory front back label n base index f b some lone) = front_below front label n f

operands_below : (ps : List (List ℕ)) (o : Operands) (p : Pattern) → AreOperands ps o p → HasWord o.first × HasWord o.second
operands_below ps o p NoOperand = (tt, tt)
operands_below ps o p (OneOperand qs x s h) = (operand_below qs x s h, tt)
operands_below ps o p (TwoOperands qs rs x y s t h k) = (operand_below qs x s h, operand_below rs y t k)

datum_right : (w p : List ℕ) (s : StaticLine) → IsDatum w p s → IsNoLabel s × FitsWidth s × IsAlignment s
datum_right w p s (text.Byte q n h) = (tt, (let small = bits_below 128 q n (omega arith) h in omega (arith, small)), tt)
datum_right w p s (text.Short q n h) = (tt, (let small = bits_below 32768 q n (omega arith) h in omega (arith, small)), tt)
datum_right w p s (text.Long q n h) = (tt, word_below q n h, tt)
datum_right w p s (text.Zero q n h) = (tt, word_below q n h, tt)
datum_right w p s (text.Balign q n h k) = (tt, tt, k)

pub says_right : (bytes : List ℕ) (l : Line) → Says bytes l → RightLine l
says_right bytes l (text.Blank b e) = tt
says_right bytes l (text.Comment b rest e h k) = tt
says_right bytes l (text.Pace b rest p n e f c small) = small
says_right bytes l (text.Extern b rest name p n e f named c small) = (named, small)
says_right bytes l (text.Text b e) = tt
says_right bytes l (text.Data b e) = tt
says_right bytes l (text.Export b name e named) = tt
says_right bytes l (text.Label b name e named) = named
says_right bytes l (text.Datum b w p s e d) = datum_right w p s d
says_right bytes l (text.Op b i is) = (operands_below is.given _ is.pattern is.operands, is.short)
