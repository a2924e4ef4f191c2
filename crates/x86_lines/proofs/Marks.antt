-- What pieces of the grammar are to the code: a mark, a register, a number or a name is found where it is one, and only there.
use Rattle.std.proofs.Common.{◌≡◌, ◌≢◌, ℕ, ◌^◌, ◌<◌, ◌≤◌, List, [], ◌∷◌, refl, sym, ◌∙◌, ap, subst, Bool, true, false, cond, Option, Some, None, arith, lit<, lit≤, eqb}
use Rattle.std.specs.Prelude.{IsTrue, nat_le, ◌&&◌, ◌||◌}
use Rattle.std.specs.Char.{digit_value}
use Rattle.std.proofs.lemmas.Bool.{eqb-true, ne_eqb, false≢true, lt-leb, or_from, and_left, and_from, and_parts}
use Rattle.std.proofs.lemmas.Str.Parse.{digit_from_value}
use Rattle.x86_table.specs.declared.register.Register.{Register}
use Rattle.x86_table.specs.declared.register.Register.TheVariants as word
use Rattle.x86_table.specs.declared.register.ByteRegister.{ByteRegister}
use Rattle.x86_table.specs.declared.register.ByteRegister.TheVariants as byte
use Rattle.x86_table.specs.declared.register.HalfRegister.{HalfRegister}
use Rattle.x86_table.specs.declared.register.HalfRegister.TheVariants as half
use Rattle.x86_table.specs.declared.register.IndexRegister.{IndexRegister}
use Rattle.x86_table.specs.declared.register.IndexRegister.TheVariants as index
use Rattle.x86_table.specs.declared.operand.Scale.{Scale}
use Rattle.x86_table.specs.declared.operand.Scale.TheVariants as scale
use Rattle.x86_table.specs.Names.{AllOf, IsName, begins_name, is_of_name}
use Rattle.x86_lines.specs.Reading.{is_name, all_of_name}
use Rattle.x86_lines.proofs.Cuts.{name_passes}
use Rattle.x86_lines.specs.declared.register_names.TheConstants.{REGISTERS, BYTES, HALVES, INDEXES}
use Rattle.x86_lines.specs.Numbers.{IsNumber, Decimal, Negative, Hexadecimal, IsBits, IsCount, Plain, MinusZero}
use Rattle.x86_lines.specs.Registers.{register_text, byte_text, half_text, index_register, factor}
use Rattle.x86_lines.specs.Finding.{register_in, byte_in, half_in, index_in, count_in, scale_from, is_mark}
use Rattle.x86_lines.proofs.Registered.{Names, names_of, all_registers, all_bytes, all_halves, all_indexes}
use Rattle.x86_lines.proofs.BitsRead.{Counts}
use Rattle.x86_lines.proofs.NumberRead.{one_number}
use Rattle.x86_lines.proofs.BitsFound.{count_found}

-- the first byte of a piece
abbrev pub head : List ℕ → ℕ
head [] = 0
head (b ∷ bs) = b

-- marks
pub mark_sound : (mark : ℕ) (w : List ℕ) → is_mark mark w ≡ true → w ≡ mark ∷ []
mark_sound mark [] e = absurd (false≢true e)
mark_sound mark (b ∷ []) e = ap (λ (x : ℕ). let q : List ℕ = x ∷ [] in q) (eqb-true b mark e)
mark_sound mark (b ∷ c ∷ bs) e = absurd (false≢true e)

pub mark_other : (mark : ℕ) (w : List ℕ) → head w ≢ mark → is_mark mark w ≡ false
mark_other mark [] h = refl
mark_other mark (b ∷ []) h = ne_eqb b mark h
mark_other mark (b ∷ c ∷ bs) h = refl

-- registers
pub register_some : (r : Register) → register_in (register_text r) ≡ Some r
unfolding register_in
register_some word.Eax = refl
register_some word.Ebx = refl
register_some word.Ecx = refl
register_some word.Edx = refl
register_some word.Esi = refl
register_some word.Edi = refl
register_some word.Ebp = refl
register_some word.Esp = refl

pub byte_some : (r : ByteRegister) → byte_in (byte_text r) ≡ Some r
unfolding byte_in
byte_some byte.Al = refl
byte_some byte.Bl = refl
byte_some byte.Cl = refl
byte_some byte.Dl = refl

pub half_some : (r : HalfRegister) → half_in (half_text r) ≡ Some r
unfolding half_in
half_some half.Ax = refl
half_some half.Bx = refl
half_some half.Cx = refl
half_some half.Dx = refl
half_some half.Si = refl
half_some half.Di = refl
half_some half.Bp = refl

pub index_some : (r : IndexRegister) → index_in (register_text (index_register r)) ≡ Some r
unfolding index_in
index_some index.Eax = refl
index_some index.Ebx = refl
index_some index.Ecx = refl
index_some index.Edx = refl
index_some index.Esi = refl
index_some index.Edi = refl
index_some index.Ebp = refl

-- a byte or a half is no word, and a half is no byte
pub byte_no_word : (r : ByteRegister) → register_in (byte_text r) ≡ None
unfolding register_in
byte_no_word byte.Al = refl
byte_no_word byte.Bl = refl
byte_no_word byte.Cl = refl
byte_no_word byte.Dl = refl

pub half_no_word : (r : HalfRegister) → register_in (half_text r) ≡ None
unfolding register_in
half_no_word half.Ax = refl
half_no_word half.Bx = refl
half_no_word half.Cx = refl
half_no_word half.Dx = refl
half_no_word half.Si = refl
half_no_word half.Di = refl
half_no_word half.Bp = refl

pub half_no_byte : (r : HalfRegister) → byte_in (half_text r) ≡ None
unfolding byte_in
half_no_byte half.Ax = refl
half_no_byte half.Bx = refl
half_no_byte half.Cx = refl
half_no_byte half.Dx = refl
half_no_byte half.Si = refl
half_no_byte half.Di = refl
half_no_byte half.Bp = refl

-- each name of a register begins with '%'
pub register_head : (r : Register) → head (register_text r) ≡ 37
register_head word.Eax = refl
register_head word.Ebx = refl
register_head word.Ecx = refl
register_head word.Edx = refl
register_head word.Esi = refl
register_head word.Edi = refl
register_head word.Ebp = refl
register_head word.Esp = refl

pub byte_head : (r : ByteRegister) → head (byte_text r) ≡ 37
byte_head byte.Al = refl
byte_head byte.Bl = refl
byte_head byte.Cl = refl
byte_head byte.Dl = refl

pub half_head : (r : HalfRegister) → head (half_text r) ≡ 37
half_head half.Ax = refl
half_head half.Bx = refl
half_head half.Cx = refl
half_head half.Dx = refl
half_head half.Si = refl
half_head half.Di = refl
half_head half.Bp = refl

pub register_sound : (w : List ℕ) (r : Register) → register_in w ≡ Some r → w ≡ register_text r
unfolding register_in
register_sound w r e = subst (Names register_text w) e (names_of register_text w REGISTERS (register_in w) all_registers refl)

pub byte_sound : (w : List ℕ) (r : ByteRegister) → byte_in w ≡ Some r → w ≡ byte_text r
unfolding byte_in
byte_sound w r e = subst (Names byte_text w) e (names_of byte_text w BYTES (byte_in w) all_bytes refl)

pub half_sound : (w : List ℕ) (r : HalfRegister) → half_in w ≡ Some r → w ≡ half_text r
unfolding half_in
half_sound w r e = subst (Names half_text w) e (names_of half_text w HALVES (half_in w) all_halves refl)

pub index_sound : (w : List ℕ) (r : IndexRegister) → index_in w ≡ Some r → w ≡ register_text (index_register r)
unfolding index_in
index_sound w r e = subst (Names (λ (x : IndexRegister). register_text (index_register x)) w) e (names_of (λ (x : IndexRegister). register_text (index_register x)) w INDEXES (index_in w) all_indexes refl)

-- no register begins otherwise
no_register_at : (w : List ℕ) (o : Option Register) → register_in w ≡ o → head w ≢ 37 → o ≡ None
no_register_at w None e h = refl
no_register_at w (Some r) e h = absurd (h (ap head (register_sound w r e) ∙ register_head r))

pub no_register : (w : List ℕ) → head w ≢ 37 → register_in w ≡ None
no_register w h = no_register_at w (register_in w) refl h

no_byte_at : (w : List ℕ) (o : Option ByteRegister) → byte_in w ≡ o → head w ≢ 37 → o ≡ None
no_byte_at w None e h = refl
no_byte_at w (Some r) e h = absurd (h (ap head (byte_sound w r e) ∙ byte_head r))

pub no_byte : (w : List ℕ) → head w ≢ 37 → byte_in w ≡ None
no_byte w h = no_byte_at w (byte_in w) refl h

no_half_at : (w : List ℕ) (o : Option HalfRegister) → half_in w ≡ o → head w ≢ 37 → o ≡ None
no_half_at w None e h = refl
no_half_at w (Some r) e h = absurd (h (ap head (half_sound w r e) ∙ half_head r))

pub no_half : (w : List ℕ) → head w ≢ 37 → half_in w ≡ None
no_half w h = no_half_at w (half_in w) refl h

-- counts
is_number : (w : List ℕ) (n : ℕ) → IsCount w n → (negative : Bool) × IsNumber w negative n
is_number w n (Plain v m h) = (false, h)
is_number w n (MinusZero v h) = (true, h)

pub one_count : (w : List ℕ) (n m : ℕ) → IsCount w n → IsCount w m → n ≡ m
one_count w n m h k =
    let a = is_number w n h in
    let b = is_number w m k in
    (one_number w a.0 b.0 n m a.1 b.1).1

count_some_at : (w : List ℕ) (n : ℕ) (r : Option ℕ) → Counts w r → n < 2 ^ 128 → IsCount w n → r ≡ Some n
count_some_at w n None f small h = absurd (f n small h)
count_some_at w n (Some m) f small h = ap Some (one_count w m n f.0 h)

pub count_some : (w : List ℕ) (n : ℕ) → n < 2 ^ 128 → IsCount w n → count_in w ≡ Some n
count_some w n small h = count_some_at w n (count_in w) (count_found w (count_in w) refl) small h

pub factor_fits : (s : Scale) → factor s < 2 ^ 128
factor_fits scale.One = lit< tt
factor_fits scale.Two = lit< tt
factor_fits scale.Four = lit< tt
factor_fits scale.Eight = lit< tt

scale_back : (s : Scale) → scale_from (Some (factor s)) ≡ Some s
scale_back scale.One = refl
scale_back scale.Two = refl
scale_back scale.Four = refl
scale_back scale.Eight = refl

pub scale_some : (w : List ℕ) (s : Scale) → IsCount w (factor s) → scale_from (count_in w) ≡ Some s
scale_some w s h = ap scale_from (count_some w (factor s) (factor_fits s) h) ∙ scale_back s

-- a scale that is found is that of its number
eight_at : (n : ℕ) (s : Scale) (b : Bool) → eqb n 8 ≡ b → cond b (Some scale.Eight) None ≡ Some s → n ≡ factor s
eight_at n s true e h = eqb-true n 8 e ∙ ap factor (let k : Some scale.Eight ≡ Some s = h in let q : scale.Eight ≡ s = cc in q)
eight_at n s false e h = absurd (let k : None ≡ Some s = h in cc)

four_at : (n : ℕ) (s : Scale) (b : Bool) → eqb n 4 ≡ b → cond b (Some scale.Four) (cond (eqb n 8) (Some scale.Eight) None) ≡ Some s → n ≡ factor s
four_at n s true e h = eqb-true n 4 e ∙ ap factor (let k : Some scale.Four ≡ Some s = h in let q : scale.Four ≡ s = cc in q)
four_at n s false e h = eight_at n s (eqb n 8) refl h

two_at : (n : ℕ) (s : Scale) (b : Bool) → eqb n 2 ≡ b → cond b (Some scale.Two) (cond (eqb n 4) (Some scale.Four) (cond (eqb n 8) (Some scale.Eight) None)) ≡ Some s → n ≡ factor s
two_at n s true e h = eqb-true n 2 e ∙ ap factor (let k : Some scale.Two ≡ Some s = h in let q : scale.Two ≡ s = cc in q)
two_at n s false e h = four_at n s (eqb n 4) refl h

one_at : (n : ℕ) (s : Scale) (b : Bool) → eqb n 1 ≡ b → cond b (Some scale.One) (cond (eqb n 2) (Some scale.Two) (cond (eqb n 4) (Some scale.Four) (cond (eqb n 8) (Some scale.Eight) None))) ≡ Some s → n ≡ factor s
one_at n s true e h = eqb-true n 1 e ∙ ap factor (let k : Some scale.One ≡ Some s = h in let q : scale.One ≡ s = cc in q)
one_at n s false e h = two_at n s (eqb n 2) refl h

scale_at : (w : List ℕ) (s : Scale) (o : Option ℕ) → count_in w ≡ o → Counts w o → scale_from o ≡ Some s → IsCount w (factor s)
scale_at w s None e c h = absurd (let k : None ≡ Some s = h in cc)
scale_at w s (Some n) e c h = subst (IsCount w) (one_at n s (eqb n 1) refl h) c.0

pub scale_sound : (w : List ℕ) (s : Scale) → scale_from (count_in w) ≡ Some s → IsCount w (factor s)
scale_sound w s h = scale_at w s (count_in w) refl (count_found w (count_in w) refl) h

-- a number begins with a digit or '-'
abbrev pub BeginsNumber : ℕ → Type 0
BeginsNumber b = (45 ≤ b) × (b ≤ 57) × (b ≢ 46)

digit_begins : (b : ℕ) → digit_value b < 10 → BeginsNumber b
digit_begins b h = let range = digit_from_value b h in (omega (arith, range), omega (arith, range), λ e. omega (arith, range, e))

number_begins : (w : List ℕ) (negative : Bool) (n : ℕ) → IsNumber w negative n → BeginsNumber (head w)
number_begins w negative n (Decimal [] h) = absurd (let k : 0 < 0 = h.0 in omega arith)
number_begins w negative n (Decimal (c ∷ cs) h) = digit_begins c h.1.0
number_begins w negative n (Negative ds h) = (lit≤ tt, lit≤ tt, λ e. omega arith)
number_begins w negative n (Hexadecimal ds h) = (lit≤ tt, lit≤ tt, λ e. omega arith)

pub bits_begin : (half : ℕ) (w : List ℕ) (n : ℕ) → IsBits half w n → BeginsNumber (head w)
bits_begin half w n h = number_begins w h.negative h.size h.number

-- no name begins so
number_no_name : (b : ℕ) → BeginsNumber b → begins_name b ≡ false
number_no_name b range =
    let high : b ≤ 57 = range.1 in
    let small : nat_le 65 b ≡ false = lt-leb 65 b (omega arith) in
    let large : nat_le 97 b ≡ false = lt-leb 97 b (omega arith) in
    or_from ((nat_le 65 b && nat_le b 90) || (nat_le 97 b && nat_le b 122) || eqb b 95) (eqb b 46)
    (or_from ((nat_le 65 b && nat_le b 90) || (nat_le 97 b && nat_le b 122)) (eqb b 95)
    (or_from (nat_le 65 b && nat_le b 90) (nat_le 97 b && nat_le b 122) (and_left (nat_le 65 b) (nat_le b 90) small) (and_left (nat_le 97 b) (nat_le b 122) large))
    (ne_eqb b 95 (λ e. omega arith)))
    (ne_eqb b 46 range.2)

name_at : (w : List ℕ) → begins_name (head w) ≡ false → is_name w ≡ false
name_at [] e = refl
name_at (b ∷ bs) e = and_left (begins_name b) (all_of_name bs) e

pub bits_no_name : (half : ℕ) (w : List ℕ) (n : ℕ) → IsBits half w n → is_name w ≡ false
bits_no_name half w n h = name_at w (number_no_name (head w) (bits_begin half w n h))

-- names
pub name_some : (w : List ℕ) → IsName w → is_name w ≡ true
name_some [] h = absurd h
name_some (b ∷ bs) h = and_from (begins_name b) (all_of_name bs) h.0 (name_passes bs h.1)

all_holds : (bs : List ℕ) → all_of_name bs ≡ true → AllOf (λ c. IsTrue (is_of_name c)) bs
all_holds [] e = tt
all_holds (b ∷ bs) e = let p = and_parts (is_of_name b) (all_of_name bs) e in (p.0, all_holds bs p.1)

pub name_sound : (w : List ℕ) → is_name w ≡ true → IsName w
name_sound [] e = absurd (false≢true e)
name_sound (b ∷ bs) e = let p = and_parts (begins_name b) (all_of_name bs) e in (p.0, all_holds bs p.1)

pub name_head : (w : List ℕ) → IsName w → begins_name (head w) ≡ true
name_head [] h = absurd h
name_head (b ∷ bs) h = h.0

-- what no name and no number begins with
pub name_not : (w : List ℕ) (m : ℕ) → IsName w → begins_name m ≡ false → head w ≢ m
name_not w m h e = λ same. false≢true (sym e ∙ sym (ap begins_name same) ∙ name_head w h)

pub count_begins : (w : List ℕ) (n : ℕ) → IsCount w n → BeginsNumber (head w)
count_begins w n h = let a = is_number w n h in number_begins w a.0 n a.1
