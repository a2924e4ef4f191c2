-- An operand of the grammar is taken whole where the line ends behind it or a comma stands there.
use Rattle.std.proofs.Common.{◌≡◌, ◌≢◌, ℕ, ◌≤◌, List, [], ◌∷◌, ◌++◌, refl, sym, ◌∙◌, ap, Bool, false, cond, Option, Some, None, lit≤, arith}
use Rattle.std.specs.Prelude.{codes}
use Rattle.std.proofs.lemmas.List.{append-nil}
use Rattle.x86_table.specs.declared.register.Register.{Register}
use Rattle.x86_table.specs.declared.register.ByteRegister.{ByteRegister}
use Rattle.x86_table.specs.declared.register.HalfRegister.{HalfRegister}
use Rattle.x86_table.specs.declared.register.IndexRegister.{IndexRegister}
use Rattle.x86_table.specs.declared.operand.Index.{Index}
use Rattle.x86_table.specs.declared.operand.Scale.{Scale}
use Rattle.x86_table.specs.declared.operand.Operand.{Operand}
use Rattle.x86_table.specs.declared.operand.Operands.{Operands}
use Rattle.x86_table.specs.declared.table.Shape.{Shape}
use Rattle.x86_table.specs.declared.table.Shape.TheVariants as shape
use Rattle.x86_table.specs.declared.table.Pattern.{Pattern}
use Rattle.x86_table.specs.Names.{IsName}
use Rattle.x86_lines.specs.Numbers.{IsWord, IsCount, IsBits}
use Rattle.x86_lines.specs.Registers.{register_text, byte_text, half_text, index_register, factor}
use Rattle.x86_lines.specs.Finding.{register_in, byte_in, half_in, bits_in, is_mark}
use Rattle.x86_lines.specs.Taking.{Pieces, behind, with_scale, index_from, index_of, indexed, behind_base, base_from, inside, closed_from, closed, back, word_from, plus, named_from, memory_from, named, numbered, memory, memory_at, symbol_from, number_from, through_from, through, immediate, plain_from, plain_at, take_operand, second_from, first_from, operands_in}
use Rattle.x86_lines.specs.Grammar.{IsFront, Nothing, Plus, Label, LabelPlus, IsBack, Absent, Base, Scaled, BaseScaled, IsNoLoneName, IsOperand, Word, Byte, Half, Through, Number, Symbol, SymbolPlus, Bare, Memory, AreOperands, NoOperand, OneOperand, TwoOperands}
use Rattle.x86_lines.proofs.BitsFound.{bits_some, bits_none}
use Rattle.x86_lines.proofs.Marks.{head, mark_other, register_head, byte_head, half_head, register_some, byte_some, half_some, index_some, byte_no_word, half_no_word, half_no_byte, no_register, no_byte, no_half, scale_some, name_some, name_not, bits_begin, bits_no_name}

-- the line ends, or a comma stands there
pub data Ends : Pieces → Type 0 where
  Over : Ends []
  Comma : (ps : Pieces) → Ends (codes "," ∷ ps)

abbrev Taken : Type 0
Taken = Operand × Shape × Pieces

abbrev Back : Type 0
Back = Option Register × Option Index × Pieces

-- an index
index_whole : (i : IndexRegister) (p : List ℕ) (s : Scale) (rest : Pieces) → IsCount p (factor s) → index_of (register_text (index_register i) ∷ codes "," ∷ p ∷ rest) ≡ Some (record { register = i; scale = s }, rest)
index_whole i p s rest c =
    ap (λ (o : Option IndexRegister). index_from o (codes "," ∷ p ∷ rest)) (index_some i)
    ∙ ap (λ (o : Option Scale). with_scale i o rest) (scale_some p s c)

-- parentheses
register_no_mark : (mark : ℕ) (r : Register) → 37 ≢ mark → is_mark mark (register_text r) ≡ false
register_no_mark mark r h = mark_other mark (register_text r) (λ e. h (sym (register_head r) ∙ e))

inside_base : (r : Register) (ps : Pieces) → inside (register_text r ∷ ps) ≡ behind_base r (behind 44 ps) ps
inside_base r ps =
    ap (λ (b : Bool). cond b (indexed None (index_of ps)) (base_from (register_in (register_text r)) ps)) (register_no_mark 44 r (λ e. omega arith))
    ∙ ap (λ (o : Option Register). base_from o ps) (register_some r)

back_whole : (front rest : Pieces) (base : Option Register) (index : Option Index) → IsBack front base index → Ends rest → back (front ++ rest) ≡ Some (base, index, rest)
back_whole front rest base index Absent Over = refl
back_whole front rest base index Absent (Comma ps) = refl
back_whole front rest base index (Base r) e = ap closed_from (inside_base r (codes ")" ∷ rest))
back_whole front rest base index (Scaled i p s c) e = ap (λ (o : Option (Index × Pieces)). closed_from (indexed None o)) (index_whole i p s (codes ")" ∷ rest) c)
back_whole front rest base index (BaseScaled r i p s c) e =
    ap closed_from (inside_base r (codes "," ∷ register_text (index_register i) ∷ codes "," ∷ p ∷ codes ")" ∷ rest))
    ∙ ap (λ (o : Option (Index × Pieces)). closed_from (indexed (Some r) o)) (index_whole i p s (codes ")" ∷ rest) c)

-- what is added
plus_whole : (p : List ℕ) (n : ℕ) (rest : Pieces) → IsWord p n → plus (codes "+" ∷ p ∷ rest) ≡ Some (n, rest)
plus_whole p n rest h = ap (λ (o : Option ℕ). word_from o rest) (bits_some 2147483648 p n (lit≤ tt) h)

no_plus : (rest : Pieces) → Ends rest → plus rest ≡ None
no_plus rest Over = refl
no_plus rest (Comma ps) = refl

-- neither '$' nor '*'
plain_is : (w : List ℕ) (ps : Pieces) → head w ≢ 36 → head w ≢ 42 → take_operand (w ∷ ps) ≡ plain_at w ps
plain_is w ps h k =
    ap (λ (b : Bool). cond b (immediate ps) (cond (is_mark 42 w) (through ps) (plain_at w ps))) (mark_other 36 w h)
    ∙ ap (λ (b : Bool). cond b (through ps) (plain_at w ps)) (mark_other 42 w k)

register_is : (w : List ℕ) (ps : Pieces) → head w ≡ 37 → take_operand (w ∷ ps) ≡ plain_at w ps
register_is w ps h = plain_is w ps (λ e. omega arith) (λ e. omega arith)

memory_is : (w : List ℕ) (ps : Pieces) → head w ≢ 36 → head w ≢ 42 → head w ≢ 37 → take_operand (w ∷ ps) ≡ memory_at w ps
memory_is w ps h k r =
    plain_is w ps h k
    ∙ ap (λ (o : Option Register). plain_from o (byte_in w) (half_in w) w ps) (no_register w r)
    ∙ ap (λ (o : Option ByteRegister). plain_from None o (half_in w) w ps) (no_byte w r)
    ∙ ap (λ (o : Option HalfRegister). plain_from None None o w ps) (no_half w r)

-- operands of memory, by their first piece
name_whole : (name : List ℕ) (ps : Pieces) → IsName name → take_operand (name ∷ ps) ≡ named name (plus ps) ps
name_whole name ps h =
    memory_is name ps (name_not name 36 h refl) (name_not name 42 h refl) (name_not name 37 h refl)
    ∙ ap (λ (b : Bool). cond b (named name (plus ps) ps) (numbered (bits_in 2147483648 name) name ps)) (name_some name h)

number_whole : (p : List ℕ) (n : ℕ) (ps : Pieces) → IsWord p n → take_operand (p ∷ ps) ≡ memory_from None n (back ps)
number_whole p n ps h =
    let low : 45 ≤ head p = (bits_begin 2147483648 p n h).0 in
    memory_is p ps (λ e. omega arith) (λ e. omega arith) (λ e. omega arith)
    ∙ ap (λ (b : Bool). cond b (named p (plus ps) ps) (numbered (bits_in 2147483648 p) p ps)) (bits_no_name 2147483648 p n h)
    ∙ ap (λ (o : Option ℕ). numbered o p ps) (bits_some 2147483648 p n (lit≤ tt) h)

open_no_bits : (n : ℕ) → ¬ IsBits 2147483648 (codes "(") n
open_no_bits n = λ h. let low : 45 ≤ 40 = (bits_begin 2147483648 (codes "(") n h).0 in omega arith

open_whole : (ps : Pieces) → take_operand (codes "(" ∷ ps) ≡ memory_from None 0 (closed ps)
open_whole ps =
    memory_is (codes "(") ps (λ e. omega arith) (λ e. omega arith) (λ e. omega arith)
    ∙ ap (λ (o : Option ℕ). numbered o (codes "(") ps) (bits_none 2147483648 (codes "(") (lit≤ tt) open_no_bits)

abbrev Whole : Pieces → Operand → Shape → Pieces → Type 0
Whole front o s rest = take_operand (front ++ rest) ≡ Some (o, s, rest)

back_alone : (front rest : Pieces) (base : Option Register) (index : Option Index) → IsBack front base index → Ends rest → front ≢ [] → Whole front (memory None 0 base index) shape.Memory rest
back_alone front rest base index Absent e some = absurd (some refl)
back_alone front rest base index (Base r) e some = open_whole (register_text r ∷ codes ")" ∷ rest) ∙ ap (memory_from None 0) (back_whole (codes "(" ∷ register_text r ∷ codes ")" ∷ []) rest (Some r) None (Base r) e)
back_alone front rest base index (Scaled i p s c) e some = open_whole (codes "," ∷ register_text (index_register i) ∷ codes "," ∷ p ∷ codes ")" ∷ rest) ∙ ap (memory_from None 0) (back_whole (codes "(" ∷ codes "," ∷ register_text (index_register i) ∷ codes "," ∷ p ∷ codes ")" ∷ []) rest None (Some (record { register = i; scale = s })) (Scaled i p s c) e)
back_alone front rest base index (BaseScaled r i p s c) e some = open_whole (register_text r ∷ codes "," ∷ register_text (index_register i) ∷ codes "," ∷ p ∷ codes ")" ∷ rest) ∙ ap (memory_from None 0) (back_whole (codes "(" ∷ register_text r ∷ codes "," ∷ register_text (index_register i) ∷ codes "," ∷ p ∷ codes ")" ∷ []) rest (Some r) (Some (record { register = i; scale = s })) (BaseScaled r i p s c) e)

name_back : (name : List ℕ) (front rest : Pieces) (base : Option Register) (index : Option Index) → IsName name → IsBack front base index → Ends rest → IsNoLoneName (name ∷ front) → Whole (name ∷ front) (memory (Some name) 0 base index) shape.Memory rest
name_back name front rest base index n Absent e lone = absurd (lone name n refl)
name_back name front rest base index n (Base r) e lone = name_whole name (codes "(" ∷ register_text r ∷ codes ")" ∷ rest) n ∙ ap (named_from name) (back_whole (codes "(" ∷ register_text r ∷ codes ")" ∷ []) rest (Some r) None (Base r) e)
name_back name front rest base index n (Scaled i p s c) e lone = name_whole name (codes "(" ∷ codes "," ∷ register_text (index_register i) ∷ codes "," ∷ p ∷ codes ")" ∷ rest) n ∙ ap (named_from name) (back_whole (codes "(" ∷ codes "," ∷ register_text (index_register i) ∷ codes "," ∷ p ∷ codes ")" ∷ []) rest None (Some (record { register = i; scale = s })) (Scaled i p s c) e)
name_back name front rest base index n (BaseScaled r i p s c) e lone = name_whole name (codes "(" ∷ register_text r ∷ codes "," ∷ register_text (index_register i) ∷ codes "," ∷ p ∷ codes ")" ∷ rest) n ∙ ap (named_from name) (back_whole (codes "(" ∷ register_text r ∷ codes "," ∷ register_text (index_register i) ∷ codes "," ∷ p ∷ codes ")" ∷ []) rest (Some r) (Some (record { register = i; scale = s })) (BaseScaled r i p s c) e)

memory_whole : (front back rest : Pieces) (label : Option (List ℕ)) (n : ℕ) (base : Option Register) (index : Option Index) → IsFront front label n → IsBack back base index → Ends rest → front ++ back ≢ [] → IsNoLoneName (front ++ back) → Whole (front ++ back) (memory label n base index) shape.Memory rest
memory_whole front back rest label n base index Nothing b e some lone = back_alone back rest base index b e some
memory_whole front back rest label n base index (Plus p m w) b e some lone = number_whole p m (back ++ rest) w ∙ ap (memory_from None m) (back_whole back rest base index b e)
memory_whole front back rest label n base index (Label name i) b e some lone = name_back name back rest base index i b e lone
memory_whole front back rest label n base index (LabelPlus name p m i w) b e some lone =
    name_whole name (codes "+" ∷ p ∷ (back ++ rest)) i
    ∙ ap (λ (o : Option (ℕ × Pieces)). named name o (codes "+" ∷ p ∷ (back ++ rest))) (plus_whole p m (back ++ rest) w)
    ∙ ap (memory_from (Some name) m) (back_whole back rest base index b e)

pub operand_whole : (front rest : Pieces) (o : Operand) (s : Shape) → IsOperand front o s → Ends rest → Whole front o s rest
operand_whole front rest o s (Word r) e = register_is (register_text r) rest (register_head r) ∙ ap (λ (x : Option Register). plain_from x (byte_in (register_text r)) (half_in (register_text r)) (register_text r) rest) (register_some r)
operand_whole front rest o s (Byte r) e =
    register_is (byte_text r) rest (byte_head r)
    ∙ ap (λ (x : Option Register). plain_from x (byte_in (byte_text r)) (half_in (byte_text r)) (byte_text r) rest) (byte_no_word r)
    ∙ ap (λ (x : Option ByteRegister). plain_from None x (half_in (byte_text r)) (byte_text r) rest) (byte_some r)
operand_whole front rest o s (Half r) e =
    register_is (half_text r) rest (half_head r)
    ∙ ap (λ (x : Option Register). plain_from x (byte_in (half_text r)) (half_in (half_text r)) (half_text r) rest) (half_no_word r)
    ∙ ap (λ (x : Option ByteRegister). plain_from None x (half_in (half_text r)) (half_text r) rest) (half_no_byte r)
    ∙ ap (λ (x : Option HalfRegister). plain_from None None x (half_text r) rest) (half_some r)
operand_whole front rest o s (Through r) e = ap (λ (x : Option Register). through_from x rest) (register_some r)
operand_whole front rest o s (Number p n w) e =
    ap (λ (b : Bool). cond b (Some (symbol_from p (plus rest) rest)) (number_from (bits_in 2147483648 p) rest)) (bits_no_name 2147483648 p n w)
    ∙ ap (λ (x : Option ℕ). number_from x rest) (bits_some 2147483648 p n (lit≤ tt) w)
operand_whole front rest o s (Symbol name i) e =
    ap (λ (b : Bool). cond b (Some (symbol_from name (plus rest) rest)) (number_from (bits_in 2147483648 name) rest)) (name_some name i)
    ∙ ap (λ (x : Option (ℕ × Pieces)). Some (symbol_from name x rest)) (no_plus rest e)
operand_whole front rest o s (SymbolPlus name p n i w) e =
    ap (λ (b : Bool). cond b (Some (symbol_from name (plus (codes "+" ∷ p ∷ rest)) (codes "+" ∷ p ∷ rest))) (number_from (bits_in 2147483648 name) (codes "+" ∷ p ∷ rest))) (name_some name i)
    ∙ ap (λ (x : Option (ℕ × Pieces)). Some (symbol_from name x (codes "+" ∷ p ∷ rest))) (plus_whole p n rest w)
operand_whole front rest o s (Bare name i) e =
    name_whole name rest i
    ∙ ap (λ (x : Option (ℕ × Pieces)). named name x rest) (no_plus rest e)
    ∙ ap (named_from name) (back_whole [] rest None None Absent e)
operand_whole front rest o s (Memory a b label n base index f g some lone) e = memory_whole a b rest label n base index f g e some lone

-- lists of operands
first_whole : (ps : Pieces) (t : Taken) → take_operand ps ≡ Some t → operands_in ps ≡ first_from (Some t)
first_whole [] t h = absurd cc
first_whole (w ∷ ps) t h = ap first_from h

alone : (ps : Pieces) (o : Operand) (s : Shape) → IsOperand ps o s → take_operand ps ≡ Some (o, s, [])
alone ps o s h = ap take_operand (sym (append-nil ps)) ∙ operand_whole ps [] o s h Over

pub operands_whole : (ps : Pieces) (o : Operands) (p : Pattern) → AreOperands ps o p → operands_in ps ≡ Some (o, p)
operands_whole ps o p NoOperand = refl
operands_whole ps o p (OneOperand qs x s h) = first_whole qs (x, s, []) (alone qs x s h)
operands_whole ps o p (TwoOperands qs rs x y s t h k) =
    first_whole (qs ++ codes "," ∷ rs) (x, s, codes "," ∷ rs) (operand_whole qs (codes "," ∷ rs) x s h (Comma rs))
    ∙ ap (second_from x s) (alone rs y t k)

-- nothing begins with ':'
colon_no_bits : (n : ℕ) → ¬ IsBits 2147483648 (codes ":") n
colon_no_bits n = λ h. let high : 58 ≤ 57 = (bits_begin 2147483648 (codes ":") n h).1 in omega arith

pub colon_whole : take_operand (codes ":" ∷ []) ≡ None
colon_whole =
    memory_is (codes ":") [] (λ e. omega arith) (λ e. omega arith) (λ e. omega arith)
    ∙ ap (λ (o : Option ℕ). numbered o (codes ":") []) (bits_none 2147483648 (codes ":") (lit≤ tt) colon_no_bits)
