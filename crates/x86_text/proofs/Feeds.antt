-- No line feed stands in a printed line.
use Rattle.std.proofs.Common.{◌≡◌, ℕ, ◌<◌, ◌≤◌, List, [], ◌∷◌, ◌++◌, refl, ◌∙◌, ap, Bool, true, false, cond, eqb, arith, Option}
use Rattle.std.specs.Prelude.{◌&&◌, not, codes}
use Rattle.std.specs.Char.{digit_value}
use Rattle.std.specs.Str.Parse.{AllDigits}
use Rattle.std.proofs.lemmas.Bool.{and_parts, and_from, not_from_false, ne_eqb, false≢true}
use Rattle.x86_table.specs.Names.{AllOf, IsName, begins_name, is_of_name}
use Rattle.x86_table.specs.declared.register.Register.{Register}
use Rattle.x86_table.specs.declared.register.Register.TheVariants as word
use Rattle.x86_table.specs.declared.register.ByteRegister.{ByteRegister}
use Rattle.x86_table.specs.declared.register.ByteRegister.TheVariants as byte
use Rattle.x86_table.specs.declared.register.HalfRegister.{HalfRegister}
use Rattle.x86_table.specs.declared.register.HalfRegister.TheVariants as half
use Rattle.x86_table.specs.declared.operand.Index.{Index}
use Rattle.x86_table.specs.declared.operand.Operand.{Operand}
use Rattle.x86_table.specs.declared.operand.Operands.{Operands}
use Rattle.x86_table.specs.declared.table.Shape.{Shape}
use Rattle.x86_table.specs.declared.table.Pattern.{Pattern}
use Rattle.x86_table.specs.declared.instruction.Instr.{Instr}
use Rattle.x86_table.specs.declared.mnemonic.Mnemonic.{Mnemonic}
use Rattle.x86_table.specs.declared.mnemonic.Mnemonic.TheVariants.{Movl, Movb, Movw, Movsbl, Movzbl, Movswl, Movzwl, Leal, Addl, Subl, Imull, Andl, Orl, Xorl, Negl, Notl, Shll, Shrl, Sarl, Cltd, Idivl, Divl, Cmpl, Testl, Sete, Setne, Setl, Setge, Setle, Setg, Setb, Setae, Setbe, Seta, Je, Jne, Jl, Jge, Jle, Jg, Jb, Jae, Jbe, Ja, Jmp, Call, Ret, Pushl, Popl, Mfence, LockCmpxchgl, LockXaddl, Xchgl}
use Rattle.x86_table.specs.Mnemonic.{text_of}
use Rattle.x86_table.specs.Instruction.{mnemonic_of, operands_of}
use Rattle.x86_lines.specs.Pieces.{pieces, is_blank, joins, onto_first}
use Rattle.x86_lines.specs.Numbers.{IsNumber, Decimal, Negative, Hexadecimal, IsBits, IsCount, Plain, MinusZero}
use Rattle.x86_lines.specs.Registers.{register_text, byte_text, half_text, index_register}
use Rattle.x86_lines.specs.Grammar.{IsFront, Nothing, Plus, Label, LabelPlus, IsBack, Absent, Base, Scaled, BaseScaled, IsOperand, Word, Byte, Half, Through, Number, Symbol, SymbolPlus, Bare, Memory, AreOperands, NoOperand, OneOperand, TwoOperands, IsInstr}
use Rattle.x86_text.proofs.Joined.{in_line}

abbrev pub all_in_line : List (List ℕ) → Bool
all_in_line [] = true
all_in_line (p ∷ ps) = in_line p && all_in_line ps

pub in_line_append : (t u : List ℕ) → in_line t ≡ true → in_line u ≡ true → in_line (t ++ u) ≡ true
in_line_append [] u h k = k
in_line_append (b ∷ t) u h k = let parts = and_parts (not (eqb b 10)) (in_line t) h in and_from (not (eqb b 10)) (in_line (t ++ u)) parts.0 (in_line_append t u parts.1 k)

pub all_in_line_append : (ps qs : List (List ℕ)) → all_in_line ps ≡ true → all_in_line qs ≡ true → all_in_line (ps ++ qs) ≡ true
all_in_line_append [] qs h k = k
all_in_line_append (p ∷ ps) qs h k = let parts = and_parts (in_line p) (all_in_line ps) h in and_from (in_line p) (all_in_line (ps ++ qs)) parts.0 (all_in_line_append ps qs parts.1 k)

-- a blank is no line feed
blank_feed : (b : ℕ) → is_blank b ≡ true → not (eqb b 10) ≡ true
blank_feed b h = not_from_false (eqb b 10) (ne_eqb b 10 (λ e. let bad : is_blank 10 ≡ true = rw e at h in false≢true bad))

onto_in_line : (b : ℕ) (ps : List (List ℕ)) → all_in_line (onto_first b ps) ≡ true → (not (eqb b 10) ≡ true) × (all_in_line ps ≡ true)
onto_in_line b [] h = let parts = and_parts (not (eqb b 10) && true) true h in ((and_parts (not (eqb b 10)) true parts.0).0, refl)
onto_in_line b (p ∷ ps) h = let parts = and_parts (not (eqb b 10) && in_line p) (all_in_line ps) h in let more = and_parts (not (eqb b 10)) (in_line p) parts.0 in (more.0, and_from (in_line p) (all_in_line ps) more.1 parts.1)

in_line_at : (b : ℕ) (t : List ℕ) (blank join : Bool) → is_blank b ≡ blank → all_in_line (cond blank (pieces t) (cond join (onto_first b (pieces t)) ((b ∷ []) ∷ pieces t))) ≡ true → (not (eqb b 10) ≡ true) × (all_in_line (pieces t) ≡ true)
in_line_at b t true join e h = (blank_feed b e, h)
in_line_at b t false true e h = onto_in_line b (pieces t) h
in_line_at b t false false e h = let parts = and_parts (not (eqb b 10) && true) (all_in_line (pieces t)) h in ((and_parts (not (eqb b 10)) true parts.0).0, parts.1)

-- where no piece has a line feed the line has none
pub pieces_in_line : (t : List ℕ) → all_in_line (pieces t) ≡ true → in_line t ≡ true
pieces_in_line [] h = refl
pieces_in_line (b ∷ t) h =
    let parts = in_line_at b t (is_blank b) (joins b t) refl h in
    and_from (not (eqb b 10)) (in_line t) parts.0 (pieces_in_line t parts.1)

-- names and numbers
of_name_feed : (b : ℕ) → is_of_name b ≡ true → not (eqb b 10) ≡ true
of_name_feed b h = not_from_false (eqb b 10) (ne_eqb b 10 (λ e. let bad : is_of_name 10 ≡ true = rw e at h in false≢true bad))

begins_feed : (b : ℕ) → begins_name b ≡ true → not (eqb b 10) ≡ true
begins_feed b h = not_from_false (eqb b 10) (ne_eqb b 10 (λ e. let bad : begins_name 10 ≡ true = rw e at h in false≢true bad))

bytes_in_line : (bs : List ℕ) → AllOf (λ c. is_of_name c ≡ true) bs → in_line bs ≡ true
bytes_in_line [] h = refl
bytes_in_line (b ∷ bs) h = and_from (not (eqb b 10)) (in_line bs) (of_name_feed b h.0) (bytes_in_line bs h.1)

pub name_in_line : (name : List ℕ) → IsName name → in_line name ≡ true
name_in_line [] h = absurd h
name_in_line (b ∷ bs) h = and_from (not (eqb b 10)) (in_line bs) (begins_feed b h.0) (bytes_in_line bs h.1)

digit_feed : (radix c : ℕ) → radix ≤ 16 → digit_value c < radix → not (eqb c 10) ≡ true
digit_feed radix c small h = not_from_false (eqb c 10) (ne_eqb c 10 (λ e. let bad : digit_value 10 < radix = rw e at h in let worse : 36 < radix = bad in omega arith))

digits_in_line : (radix : ℕ) (ds : List ℕ) → radix ≤ 16 → AllDigits radix ds → in_line ds ≡ true
digits_in_line radix [] small h = refl
digits_in_line radix (c ∷ cs) small h = and_from (not (eqb c 10)) (in_line cs) (digit_feed radix c small h.0) (digits_in_line radix cs small h.1)

pub number_in_line : (p : List ℕ) (negative : Bool) (n : ℕ) → IsNumber p negative n → in_line p ≡ true
number_in_line p negative n (Decimal ds h) = digits_in_line 10 ds (omega arith) h.1
number_in_line p negative n (Negative ds h) = digits_in_line 10 ds (omega arith) h.1
number_in_line p negative n (Hexadecimal ds h) = digits_in_line 16 ds (omega arith) h.1

pub count_in_line : (p : List ℕ) (n : ℕ) → IsCount p n → in_line p ≡ true
count_in_line p n (Plain q m h) = number_in_line p false n h
count_in_line p n (MinusZero q h) = number_in_line p true 0 h

pub bits_in_line : (half : ℕ) (p : List ℕ) (n : ℕ) → IsBits half p n → in_line p ≡ true
bits_in_line half p n h = number_in_line p h.negative h.size h.number

register_in_line : (r : Register) → in_line (register_text r) ≡ true
register_in_line word.Eax = refl
register_in_line word.Ebx = refl
register_in_line word.Ecx = refl
register_in_line word.Edx = refl
register_in_line word.Esi = refl
register_in_line word.Edi = refl
register_in_line word.Ebp = refl
register_in_line word.Esp = refl

byte_in_line : (r : ByteRegister) → in_line (byte_text r) ≡ true
byte_in_line byte.Al = refl
byte_in_line byte.Bl = refl
byte_in_line byte.Cl = refl
byte_in_line byte.Dl = refl

half_in_line : (r : HalfRegister) → in_line (half_text r) ≡ true
half_in_line half.Ax = refl
half_in_line half.Bx = refl
half_in_line half.Cx = refl
half_in_line half.Dx = refl
half_in_line half.Si = refl
half_in_line half.Di = refl
half_in_line half.Bp = refl

-- lists of pieces
one : (p : List ℕ) → in_line p ≡ true → all_in_line (p ∷ []) ≡ true
one p h = and_from (in_line p) true h refl

more : (p : List ℕ) (ps : List (List ℕ)) → in_line p ≡ true → all_in_line ps ≡ true → all_in_line (p ∷ ps) ≡ true
more p ps h k = and_from (in_line p) (all_in_line ps) h k

front_in_line : (ps : List (List ℕ)) (label : Option (List ℕ)) (n : ℕ) → IsFront ps label n → all_in_line ps ≡ true
front_in_line ps label n Nothing = refl
front_in_line ps label n (Plus p m h) = one p (bits_in_line 2147483648 p n h)
front_in_line ps label n (Label name h) = one name (name_in_line name h)
front_in_line ps label n (LabelPlus name p m h k) = more name (codes "+" ∷ p ∷ []) (name_in_line name h) (one p (bits_in_line 2147483648 p n k))

back_in_line : (ps : List (List ℕ)) (base : Option Register) (index : Option Index) → IsBack ps base index → all_in_line ps ≡ true
back_in_line ps base index Absent = refl
back_in_line ps base index (Base r) = more (register_text r) (codes ")" ∷ []) (register_in_line r) refl
back_in_line ps base index (Scaled i p s h) = more (register_text (index_register i)) (codes "," ∷ p ∷ codes ")" ∷ []) (register_in_line (index_register i)) (more p (codes ")" ∷ []) (count_in_line p _ h) refl)
back_in_line ps base index (BaseScaled r i p s h) = more (register_text r) (codes "," ∷ register_text (index_register i) ∷ codes "," ∷ p ∷ codes ")" ∷ []) (register_in_line r) (more (register_text (index_register i)) (codes "," ∷ p ∷ codes ")" ∷ []) (register_in_line (index_register i)) (more p (codes ")" ∷ []) (count_in_line p _ h) refl))

operand_in_line : (ps : List (List ℕ)) (o : Operand) (s : Shape) → IsOperand ps o s → all_in_line ps ≡ true
operand_in_line ps o s (Word r) = one (register_text r) (register_in_line r)
operand_in_line ps o s (Byte r) = one (byte_text r) (byte_in_line r)
operand_in_line ps o s (Half r) = one (half_text r) (half_in_line r)
operand_in_line ps o s (Through r) = one (register_text r) (register_in_line r)
operand_in_line ps o s (Number p n h) = one p (bits_in_line 2147483648 p n h)
operand_in_line ps o s (Symbol name h) = one name (name_in_line name h)
operand_in_line ps o s (SymbolPlus name p n h k) = more name (codes "+" ∷ p ∷ []) (name_in_line name h) (one p (bits_in_line 2147483648 p n k))
operand_in_line ps o s (Bare name h) = one name (name_in_line name h)
operand_in_line ps o s (Memory front back label n base index f b e l) = all_in_line_append front back (front_in_line front label n f) (back_in_line back base index b)

operands_in_line : (ps : List (List ℕ)) (o : Operands) (p : Pattern) → AreOperands ps o p → all_in_line ps ≡ true
operands_in_line ps o p NoOperand = refl
operands_in_line ps o p (OneOperand qs q s h) = operand_in_line qs q s h
operands_in_line ps o p (TwoOperands qs rs q r s t h k) = all_in_line_append qs (codes "," ∷ rs) (operand_in_line qs q s h) (operand_in_line rs r t k)

mnemonic_in_line : (m : Mnemonic) → all_in_line (pieces (text_of m)) ≡ true
mnemonic_in_line Movl = refl
mnemonic_in_line Movb = refl
mnemonic_in_line Movw = refl
mnemonic_in_line Movsbl = refl
mnemonic_in_line Movzbl = refl
mnemonic_in_line Movswl = refl
mnemonic_in_line Movzwl = refl
mnemonic_in_line Leal = refl
mnemonic_in_line Addl = refl
mnemonic_in_line Subl = refl
mnemonic_in_line Imull = refl
mnemonic_in_line Andl = refl
mnemonic_in_line Orl = refl
mnemonic_in_line Xorl = refl
mnemonic_in_line Negl = refl
mnemonic_in_line Notl = refl
mnemonic_in_line Shll = refl
mnemonic_in_line Shrl = refl
mnemonic_in_line Sarl = refl
mnemonic_in_line Cltd = refl
mnemonic_in_line Idivl = refl
mnemonic_in_line Divl = refl
mnemonic_in_line Cmpl = refl
mnemonic_in_line Testl = refl
mnemonic_in_line Sete = refl
mnemonic_in_line Setne = refl
mnemonic_in_line Setl = refl
mnemonic_in_line Setge = refl
mnemonic_in_line Setle = refl
mnemonic_in_line Setg = refl
mnemonic_in_line Setb = refl
mnemonic_in_line Setae = refl
mnemonic_in_line Setbe = refl
mnemonic_in_line Seta = refl
mnemonic_in_line Je = refl
mnemonic_in_line Jne = refl
mnemonic_in_line Jl = refl
mnemonic_in_line Jge = refl
mnemonic_in_line Jle = refl
mnemonic_in_line Jg = refl
mnemonic_in_line Jb = refl
mnemonic_in_line Jae = refl
mnemonic_in_line Jbe = refl
mnemonic_in_line Ja = refl
mnemonic_in_line Jmp = refl
mnemonic_in_line Call = refl
mnemonic_in_line Ret = refl
mnemonic_in_line Pushl = refl
mnemonic_in_line Popl = refl
mnemonic_in_line Mfence = refl
mnemonic_in_line LockCmpxchgl = refl
mnemonic_in_line LockXaddl = refl
mnemonic_in_line Xchgl = refl

pub instr_in_line : (ps : List (List ℕ)) (i : Instr) → IsInstr ps i → all_in_line ps ≡ true
instr_in_line ps i h = ap all_in_line h.parts ∙ all_in_line_append (pieces (text_of (mnemonic_of i))) h.given (mnemonic_in_line (mnemonic_of i)) (operands_in_line h.given (operands_of i) h.pattern h.operands)
