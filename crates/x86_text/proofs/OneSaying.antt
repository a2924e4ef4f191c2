-- A line says one thing, and a text has one assembly.
use Rattle.std.proofs.Common.{◌≡◌, ◌≢◌, ℕ, ◌^◌, ◌<◌, ◌≤◌, List, [], ◌∷◌, ◌++◌, refl, sym, ◌∙◌, ap, subst, Bool, true, false, cond, Option, Some, None, lit≤}
use Rattle.std.specs.Prelude.{codes, unwrap_or, bytes_eq, nat_le}
use Rattle.std.proofs.Common.{eqb, arith, inl, inr}
use Rattle.std.proofs.lemmas.Bool.{false≢true, eqb-true, ne_eqb, false_from_ne_true, le-leb, eq-eqb}
use Rattle.std.proofs.lemmas.Slice.Eq.{bytes_eq-Decides}
use Rattle.x86_table.specs.declared.mnemonic.Mnemonic.{Mnemonic}
use Rattle.x86_table.specs.declared.instruction.Instr.{Instr}
use Rattle.x86_table.specs.Names.{IsName}
use Rattle.x86_table.specs.declared.mnemonic.Mnemonic.TheVariants.{Movl, Movb, Movw, Movsbl, Movzbl, Movswl, Movzwl, Leal, Addl, Subl, Imull, Andl, Orl, Xorl, Negl, Notl, Shll, Shrl, Sarl, Cltd, Idivl, Divl, Cmpl, Testl, Sete, Setne, Setl, Setge, Setle, Setg, Setb, Setae, Setbe, Seta, Je, Jne, Jl, Jge, Jle, Jg, Jb, Jae, Jbe, Ja, Jmp, Call, Ret, Pushl, Popl, Mfence, LockCmpxchgl, LockXaddl, Xchgl}
use Rattle.x86_table.specs.Mnemonic.{text_of}
use Rattle.x86_table.specs.Instruction.{mnemonic_of, operands_of}
use Rattle.x86_lines.specs.Pieces.{pieces, is_blank, joins}
use Rattle.x86_lines.specs.Finding.{bits_in, count_in}
use Rattle.x86_lines.specs.Taking.{prefix, locked}
use Rattle.x86_lines.proofs.Cuts.{solid_step}
use Rattle.x86_lines.specs.Numbers.{IsBits, IsCount}
use Rattle.x86_lines.specs.Grammar.{AreOperands, IsInstr}
use Rattle.x86_table.specs.declared.table.Pattern.{Pattern}
use Rattle.x86_lines.proofs.BitsFound.{bits_some}
use Rattle.x86_lines.proofs.Marks.{head, name_some, name_not, bits_begin, count_begins, count_some}
use Rattle.x86_lines.proofs.OneInstr.{one_instr, no_instr, to_split, paired, first_same, second_same, no_colon}
use Rattle.x86_lang.specs.declared.assembly.StaticLine.{StaticLine}
use Rattle.x86_lang.specs.declared.assembly.StaticLine.TheVariants as statics
use Rattle.x86_lang.specs.declared.assembly.Parts.{Parts}
use Rattle.x86_lang.specs.Whole.{IsAlignment}
use Rattle.x86_text.specs.declared.line.Line.{Line}
use Rattle.x86_text.specs.declared.line.Line.TheVariants as line
use Rattle.x86_text.specs.Text.{Says, Blank, Comment, Pace, Extern, Text, Data, Export, Label, Datum, Op, IsDatum, Byte, Short, Long, Zero, Balign, past_blanks, pace_mark, extern_mark, Gathered, adds, Gathers, End, Next, opening, lines, AsmOf}
use Rattle.x86_text.specs.Scanning.{Reading, Said, Bad, Code, strip, pace_from, pace_in, extern_from, extern_in, extern_or, pace_or, comment, is_alignment, byte_from, short_from, long_from, zero_from, balign_from, datum, label, export, two_pieces, plain, reading_at, reading}

-- marks of comments
pub strip_whole : (mark rest : List ℕ) → strip mark (mark ++ rest) ≡ Some rest
strip_whole [] rest = refl
strip_whole (m ∷ ms) rest = ap (λ (b : Bool). cond b (strip ms (ms ++ rest)) None) (eq-eqb m m refl) ∙ strip_whole ms rest

strip_at : (m b : ℕ) (ms bs rest : List ℕ) (same : Bool) → eqb b m ≡ same → cond same (strip ms bs) None ≡ Some rest → (strip ms bs ≡ Some rest → bs ≡ ms ++ rest) → b ∷ bs ≡ m ∷ ms ++ rest
strip_at m b ms bs rest true e h more = let first : b ≡ m = eqb-true b m e in let behind : bs ≡ ms ++ rest = more h in cc
strip_at m b ms bs rest false e h more = absurd (let k : None ≡ Some rest = h in cc)

pub strip_sound : (mark bs rest : List ℕ) → strip mark bs ≡ Some rest → bs ≡ mark ++ rest
strip_sound [] bs rest h = let k : Some bs ≡ Some rest = h in cc
strip_sound (m ∷ ms) [] rest h = absurd (let k : None ≡ Some rest = h in cc)
strip_sound (m ∷ ms) (b ∷ bs) rest h = strip_at m b ms bs rest (eqb b m) refl h (strip_sound ms bs rest)

no_mark_at : (mark bs : List ℕ) (o : Option (List ℕ)) → strip mark bs ≡ o → ((more : List ℕ) → bs ≢ mark ++ more) → o ≡ None
no_mark_at mark bs None e h = refl
no_mark_at mark bs (Some rest) e h = absurd (h rest (strip_sound mark bs rest e))

pub no_mark : (mark bs : List ℕ) → ((more : List ℕ) → bs ≢ mark ++ more) → strip mark bs ≡ None
no_mark mark bs h = no_mark_at mark bs (strip mark bs) refl h

-- a line that begins with '#' has it as its first piece
past_at : (b : ℕ) (bs : List ℕ) (blank : Bool) → is_blank b ≡ blank → pieces (past_blanks bs) ≡ pieces bs → pieces (cond blank (past_blanks bs) (b ∷ bs)) ≡ pieces (b ∷ bs)
past_at b bs true e h = h ∙ sym (solid_step b bs true (joins b bs) e refl)
past_at b bs false e h = refl

pub past_pieces : (bytes : List ℕ) → pieces (past_blanks bytes) ≡ pieces bytes
past_pieces [] = refl
past_pieces (b ∷ bs) = past_at b bs (is_blank b) refl (past_pieces bs)

hash_first : (bytes rest : List ℕ) → past_blanks bytes ≡ 35 ∷ rest → pieces bytes ≡ codes "#" ∷ pieces rest
hash_first bytes rest e = sym (past_pieces bytes) ∙ ap pieces e

plain_at : (bytes front : List ℕ) → past_blanks bytes ≡ front → ((ps : List (List ℕ)) → pieces bytes ≢ codes "#" ∷ ps) → reading_at front bytes ≡ plain (pieces bytes)
plain_at bytes [] e h = refl
plain_at bytes (b ∷ bs) e h = ap (λ (t : Bool). cond t (comment (b ∷ bs)) (plain (pieces bytes))) (ne_eqb b 35 (λ same. h (pieces bs) (hash_first bytes bs (e ∙ ap (λ (x : ℕ). let q : List ℕ = x ∷ bs in q) same))))

pub plain_reading : (bytes : List ℕ) (ps : List (List ℕ)) → pieces bytes ≡ ps → ((qs : List (List ℕ)) → ps ≢ codes "#" ∷ qs) → reading bytes ≡ plain ps
plain_reading bytes ps e h = plain_at bytes (past_blanks bytes) refl (λ qs k. h qs (sym e ∙ k)) ∙ ap plain e

comment_reading : (bytes rest : List ℕ) → past_blanks bytes ≡ 35 ∷ rest → reading bytes ≡ comment (35 ∷ rest)
comment_reading bytes rest e = ap (λ (front : List ℕ). reading_at front bytes) e

-- names and numbers are no ':'
other : (w v : List ℕ) → w ≢ v → bytes_eq w v ≡ false
other w v h = false_from_ne_true (bytes_eq w v) (λ e. h ((bytes_eq-Decides w v).0 e))

name_no_colon : (w : List ℕ) → IsName w → bytes_eq w (codes ":") ≡ false
name_no_colon w h = other w (codes ":") (λ e. name_not w 58 h refl (ap head e))

bits_no_colon : (half : ℕ) (w : List ℕ) (n : ℕ) → IsBits half w n → bytes_eq w (codes ":") ≡ false
bits_no_colon half w n h = other w (codes ":") (λ e. let same : head w ≡ 58 = ap head e in let high : head w ≤ 57 = (bits_begin half w n h).1 in omega arith)

count_no_colon : (w : List ℕ) (n : ℕ) → IsCount w n → bytes_eq w (codes ":") ≡ false
count_no_colon w n h = other w (codes ":") (λ e. let same : head w ≡ 58 = ap head e in let high : head w ≤ 57 = (count_begins w n h).1 in omega arith)

-- directives
two_at : (w p : List ℕ) → bytes_eq p (codes ":") ≡ false → bytes_eq w (codes ".globl") ≡ false → two_pieces w p ≡ datum w p
two_at w p h k = ap (λ (b : Bool). cond b (label w) (cond (bytes_eq w (codes ".globl")) (export p) (datum w p))) h ∙ ap (λ (b : Bool). cond b (export p) (datum w p)) k

alignment_is : (n : ℕ) → IsAlignment (statics.Balign n) → (is_alignment n ≡ true) × (n < 2 ^ 128)
alignment_is n (inl e) = (subst (λ (k : ℕ). is_alignment k ≡ true) (sym e) refl, omega (arith, e))
alignment_is n (inr (inl e)) = (subst (λ (k : ℕ). is_alignment k ≡ true) (sym e) refl, omega (arith, e))
alignment_is n (inr (inr (inl e))) = (subst (λ (k : ℕ). is_alignment k ≡ true) (sym e) refl, omega (arith, e))
alignment_is n (inr (inr (inr e))) = (subst (λ (k : ℕ). is_alignment k ≡ true) (sym e) refl, omega (arith, e))

datum_reading : (w p : List ℕ) (s : StaticLine) → IsDatum w p s → two_pieces w p ≡ Said (line.Datum s)
datum_reading w p s (Byte q n h) = two_at (codes ".byte") p (bits_no_colon 128 p n h) refl ∙ ap byte_from (bits_some 128 p n (lit≤ tt) h)
datum_reading w p s (Short q n h) = two_at (codes ".short") p (bits_no_colon 32768 p n h) refl ∙ ap short_from (bits_some 32768 p n (lit≤ tt) h)
datum_reading w p s (Long q n h) = two_at (codes ".long") p (bits_no_colon 2147483648 p n h) refl ∙ ap long_from (bits_some 2147483648 p n (lit≤ tt) h)
datum_reading w p s (Zero q n h) = two_at (codes ".zero") p (bits_no_colon 2147483648 p n h) refl ∙ ap zero_from (bits_some 2147483648 p n (lit≤ tt) h)
datum_reading w p s (Balign q n h a) =
    two_at (codes ".balign") p (count_no_colon p n h) refl
    ∙ ap balign_from (count_some p n (alignment_is n a).1 h)
    ∙ ap (λ (b : Bool). cond b (Said (line.Datum (statics.Balign n))) Bad) (alignment_is n a).0

datum_no_hash : (w p : List ℕ) (s : StaticLine) → IsDatum w p s → head w ≡ 46
datum_no_hash w p s (Byte q n h) = refl
datum_no_hash w p s (Short q n h) = refl
datum_no_hash w p s (Long q n h) = refl
datum_no_hash w p s (Zero q n h) = refl
datum_no_hash w p s (Balign q n h a) = refl

-- each mnemonic begins with a small letter
letter : (m : Mnemonic) → nat_le 97 (head (text_of m)) ≡ true
letter Movl = refl
letter Movb = refl
letter Movw = refl
letter Movsbl = refl
letter Movzbl = refl
letter Movswl = refl
letter Movzwl = refl
letter Leal = refl
letter Addl = refl
letter Subl = refl
letter Imull = refl
letter Andl = refl
letter Orl = refl
letter Xorl = refl
letter Negl = refl
letter Notl = refl
letter Shll = refl
letter Shrl = refl
letter Sarl = refl
letter Cltd = refl
letter Idivl = refl
letter Divl = refl
letter Cmpl = refl
letter Testl = refl
letter Sete = refl
letter Setne = refl
letter Setl = refl
letter Setge = refl
letter Setle = refl
letter Setg = refl
letter Setb = refl
letter Setae = refl
letter Setbe = refl
letter Seta = refl
letter Je = refl
letter Jne = refl
letter Jl = refl
letter Jge = refl
letter Jle = refl
letter Jg = refl
letter Jb = refl
letter Jae = refl
letter Jbe = refl
letter Ja = refl
letter Jmp = refl
letter Call = refl
letter Ret = refl
letter Pushl = refl
letter Popl = refl
letter Mfence = refl
letter LockCmpxchgl = refl
letter LockXaddl = refl
letter Xchgl = refl

no_locked_colon : (m : Mnemonic) → bytes_eq (text_of m) (codes "lock :") ≡ false
no_locked_colon Movl = refl
no_locked_colon Movb = refl
no_locked_colon Movw = refl
no_locked_colon Movsbl = refl
no_locked_colon Movzbl = refl
no_locked_colon Movswl = refl
no_locked_colon Movzwl = refl
no_locked_colon Leal = refl
no_locked_colon Addl = refl
no_locked_colon Subl = refl
no_locked_colon Imull = refl
no_locked_colon Andl = refl
no_locked_colon Orl = refl
no_locked_colon Xorl = refl
no_locked_colon Negl = refl
no_locked_colon Notl = refl
no_locked_colon Shll = refl
no_locked_colon Shrl = refl
no_locked_colon Sarl = refl
no_locked_colon Cltd = refl
no_locked_colon Idivl = refl
no_locked_colon Divl = refl
no_locked_colon Cmpl = refl
no_locked_colon Testl = refl
no_locked_colon Sete = refl
no_locked_colon Setne = refl
no_locked_colon Setl = refl
no_locked_colon Setge = refl
no_locked_colon Setle = refl
no_locked_colon Setg = refl
no_locked_colon Setb = refl
no_locked_colon Setae = refl
no_locked_colon Setbe = refl
no_locked_colon Seta = refl
no_locked_colon Je = refl
no_locked_colon Jne = refl
no_locked_colon Jl = refl
no_locked_colon Jge = refl
no_locked_colon Jle = refl
no_locked_colon Jg = refl
no_locked_colon Jb = refl
no_locked_colon Jae = refl
no_locked_colon Jbe = refl
no_locked_colon Ja = refl
no_locked_colon Jmp = refl
no_locked_colon Call = refl
no_locked_colon Ret = refl
no_locked_colon Pushl = refl
no_locked_colon Popl = refl
no_locked_colon Mfence = refl
no_locked_colon LockCmpxchgl = refl
no_locked_colon LockXaddl = refl
no_locked_colon Xchgl = refl

abbrev first_word : List (List ℕ) → List ℕ
first_word [] = []
first_word (w ∷ ps) = w

-- the first piece of an instruction
instr_letter_at : (w : List ℕ) (ps given : List (List ℕ)) (m : Mnemonic) (b : Bool) → bytes_eq w prefix ≡ b → cond b (locked ps) (Some (w, ps)) ≡ paired (text_of m) given → nat_le 97 (head w) ≡ true
instr_letter_at w ps given m true e h = subst (λ (x : List ℕ). nat_le 97 (head x) ≡ true) (sym ((bytes_eq-Decides w prefix).0 e)) refl
instr_letter_at w ps given m false e h = subst (λ (x : List ℕ). nat_le 97 (head x) ≡ true) (sym (first_same w (text_of m) ps given h)) (letter m)

instr_letter : (w : List ℕ) (ps : List (List ℕ)) (i : Instr) → IsInstr (w ∷ ps) i → nat_le 97 (head w) ≡ true
instr_letter w ps i is = instr_letter_at w ps is.given (mnemonic_of i) (bytes_eq w prefix) refl (to_split (w ∷ ps) i is)

not_low : (w v : List ℕ) → nat_le 97 (head w) ≡ true → nat_le 97 (head v) ≡ false → bytes_eq w v ≡ false
not_low w v h k = other w v (λ e. false≢true (sym k ∙ ap (λ (x : List ℕ). nat_le 97 (head x)) (sym e) ∙ h))

-- no ':' stands alone behind a mnemonic
colon_at : (w : List ℕ) (given : List (List ℕ)) (i : Instr) (p : Pattern) (b : Bool) → bytes_eq w prefix ≡ b → cond b (locked (codes ":" ∷ [])) (Some (w, codes ":" ∷ [])) ≡ paired (text_of (mnemonic_of i)) given → AreOperands given (operands_of i) p → ⊥
colon_at w given i p true e h a = false≢true (sym (no_locked_colon (mnemonic_of i)) ∙ (bytes_eq-Decides (text_of (mnemonic_of i)) (codes "lock :")).1 (sym (first_same (codes "lock :") (text_of (mnemonic_of i)) [] given h)))
colon_at w given i p false e h a = no_colon (operands_of i) p (subst (λ (x : List (List ℕ)). AreOperands x (operands_of i) p) (sym (second_same w (text_of (mnemonic_of i)) (codes ":" ∷ []) given h)) a)

instr_no_colon : (w p : List ℕ) (i : Instr) → IsInstr (w ∷ p ∷ []) i → bytes_eq p (codes ":") ≡ false
instr_no_colon w p i is = other p (codes ":") (λ e. let at : IsInstr (w ∷ codes ":" ∷ []) i = subst (λ (x : List ℕ). IsInstr (w ∷ x ∷ []) i) e is in colon_at w at.given i at.pattern (bytes_eq w prefix) refl (to_split (w ∷ codes ":" ∷ []) i at) at.operands)

datum_code : (w p : List ℕ) → nat_le 97 (head w) ≡ true → datum w p ≡ Code
datum_code w p h =
    ap (λ (b : Bool). cond b (byte_from (bits_in 128 p)) (cond (bytes_eq w (codes ".short")) (short_from (bits_in 32768 p)) (cond (bytes_eq w (codes ".long")) (long_from (bits_in 2147483648 p)) (cond (bytes_eq w (codes ".zero")) (zero_from (bits_in 2147483648 p)) (cond (bytes_eq w (codes ".balign")) (balign_from (count_in p)) Code))))) (not_low w (codes ".byte") h refl)
    ∙ ap (λ (b : Bool). cond b (short_from (bits_in 32768 p)) (cond (bytes_eq w (codes ".long")) (long_from (bits_in 2147483648 p)) (cond (bytes_eq w (codes ".zero")) (zero_from (bits_in 2147483648 p)) (cond (bytes_eq w (codes ".balign")) (balign_from (count_in p)) Code)))) (not_low w (codes ".short") h refl)
    ∙ ap (λ (b : Bool). cond b (long_from (bits_in 2147483648 p)) (cond (bytes_eq w (codes ".zero")) (zero_from (bits_in 2147483648 p)) (cond (bytes_eq w (codes ".balign")) (balign_from (count_in p)) Code))) (not_low w (codes ".long") h refl)
    ∙ ap (λ (b : Bool). cond b (zero_from (bits_in 2147483648 p)) (cond (bytes_eq w (codes ".balign")) (balign_from (count_in p)) Code)) (not_low w (codes ".zero") h refl)
    ∙ ap (λ (b : Bool). cond b (balign_from (count_in p)) Code) (not_low w (codes ".balign") h refl)

code_reading : (ps : List (List ℕ)) (i : Instr) → IsInstr ps i → plain ps ≡ Code
code_reading [] i is = absurd (no_instr [] refl i is)
code_reading (w ∷ []) i is =
    let h = instr_letter w [] i is in
    ap (λ (b : Bool). cond b (Said line.Text) (cond (bytes_eq w (codes ".data")) (Said line.Data) Code)) (not_low w (codes ".text") h refl)
    ∙ ap (λ (b : Bool). cond b (Said line.Data) Code) (not_low w (codes ".data") h refl)
code_reading (w ∷ p ∷ []) i is =
    let h = instr_letter w (p ∷ []) i is in
    two_at w p (instr_no_colon w p i is) (not_low w (codes ".globl") h refl) ∙ datum_code w p h
code_reading (w ∷ p ∷ q ∷ ps) i is = refl

-- what a line says is what the code makes of it
abbrev pub Makes : Reading → List ℕ → Line → Type 0
Makes (Said l) bytes m = l ≡ m
Makes Bad bytes m = ⊥
Makes Code bytes m = (i : Instr) × (m ≡ line.Op i) × IsInstr (pieces bytes) i

said_makes : (r : Reading) (bytes : List ℕ) (m : Line) → r ≡ Said m → Makes r bytes m
said_makes r bytes m e = subst (λ (x : Reading). Makes x bytes m) (sym e) refl

no_hash : (w : List ℕ) (ps qs : List (List ℕ)) → head w ≢ 35 → w ∷ ps ≢ codes "#" ∷ qs
no_hash w ps qs h e = h (ap (λ (x : List (List ℕ)). head (first_word x)) e)

pace_reading : (rest p : List ℕ) (n : ℕ) → pieces rest ≡ p ∷ [] → IsCount p n → n < 2 ^ 128 → comment (pace_mark ++ rest) ≡ Said (line.Pace n)
pace_reading rest p n e c small =
    ap (λ (o : Option (List ℕ)). pace_or o (pace_mark ++ rest)) (strip_whole pace_mark rest)
    ∙ ap pace_in e
    ∙ ap pace_from (count_some p n small c)

extern_reading : (rest name p : List ℕ) (n : ℕ) → pieces rest ≡ name ∷ p ∷ [] → IsName name → IsCount p n → n ≤ 64 → comment (extern_mark ++ rest) ≡ Said (line.Extern name n)
extern_reading rest name p n e named c small =
    ap extern_or (strip_whole extern_mark rest)
    ∙ ap extern_in e
    ∙ ap (λ (b : Bool). cond b (extern_from name (count_in p)) Bad) (name_some name named)
    ∙ ap (extern_from name) (count_some p n (omega arith) c)
    ∙ ap (λ (b : Bool). cond b (Said (line.Extern name n)) Bad) (le-leb n 64 small)

nothing_reading : (rest : List ℕ) → ((more : List ℕ) → 35 ∷ rest ≢ pace_mark ++ more) → ((more : List ℕ) → 35 ∷ rest ≢ extern_mark ++ more) → comment (35 ∷ rest) ≡ Said line.Nothing
nothing_reading rest h k =
    ap (λ (o : Option (List ℕ)). pace_or o (35 ∷ rest)) (no_mark pace_mark (35 ∷ rest) h)
    ∙ ap extern_or (no_mark extern_mark (35 ∷ rest) k)

code_no_hash : (ps : List (List ℕ)) (i : Instr) → IsInstr ps i → (qs : List (List ℕ)) → ps ≢ codes "#" ∷ qs
code_no_hash [] i is qs = λ e. cc
code_no_hash (w ∷ ps) i is qs = no_hash w ps qs (λ e. false≢true (sym (ap (nat_le 97) e) ∙ instr_letter w ps i is))

pub makes : (bytes : List ℕ) (l : Line) → Says bytes l → Makes (reading bytes) bytes l
makes bytes l (Blank b e) = said_makes (reading bytes) bytes line.Nothing (plain_reading bytes [] e (λ qs k. cc))
makes bytes l (Comment b rest e h k) = said_makes (reading bytes) bytes line.Nothing (comment_reading bytes rest e ∙ nothing_reading rest h k)
makes bytes l (Pace b rest p n e f c small) = said_makes (reading bytes) bytes (line.Pace n) (ap (λ (front : List ℕ). reading_at front bytes) e ∙ pace_reading rest p n f c small)
makes bytes l (Extern b rest name p n e f named c small) = said_makes (reading bytes) bytes (line.Extern name n) (ap (λ (front : List ℕ). reading_at front bytes) e ∙ extern_reading rest name p n f named c small)
makes bytes l (Text b e) = said_makes (reading bytes) bytes line.Text (plain_reading bytes (codes ".text" ∷ []) e (λ qs. no_hash (codes ".text") [] qs (λ k. omega arith)))
makes bytes l (Data b e) = said_makes (reading bytes) bytes line.Data (plain_reading bytes (codes ".data" ∷ []) e (λ qs. no_hash (codes ".data") [] qs (λ k. omega arith)))
makes bytes l (Export b name e named) = said_makes (reading bytes) bytes (line.Export name) (plain_reading bytes (codes ".globl" ∷ name ∷ []) e (λ qs. no_hash (codes ".globl") (name ∷ []) qs (λ k. omega arith)) ∙ ap (λ (t : Bool). cond t (label (codes ".globl")) (export name)) (name_no_colon name named) ∙ ap (λ (t : Bool). cond t (Said (line.Export name)) Bad) (name_some name named))
makes bytes l (Label b name e named) = said_makes (reading bytes) bytes (line.Label name) (plain_reading bytes (name ∷ codes ":" ∷ []) e (λ qs. no_hash name (codes ":" ∷ []) qs (name_not name 35 named refl)) ∙ ap (λ (t : Bool). cond t (Said (line.Label name)) Bad) (name_some name named))
makes bytes l (Datum b w p s e d) = said_makes (reading bytes) bytes (line.Datum s) (plain_reading bytes (w ∷ p ∷ []) e (λ qs. no_hash w (p ∷ []) qs (λ k. let at : head w ≡ 46 = datum_no_hash w p s d in omega arith)) ∙ datum_reading w p s d)
makes bytes l (Op b i is) = subst (λ (x : Reading). Makes x bytes (line.Op i)) (sym (plain_reading bytes (pieces bytes) refl (code_no_hash (pieces bytes) i is) ∙ code_reading (pieces bytes) i is)) (i, refl, is)

same_made : (r : Reading) (bytes : List ℕ) (l m : Line) → Makes r bytes l → Makes r bytes m → l ≡ m
same_made (Said k) bytes l m h g = sym h ∙ g
same_made Bad bytes l m h g = absurd h
same_made Code bytes l m h g = h.1 ∙ ap line.Op (one_instr (pieces bytes) h.0 g.0 h.2 g.2) ∙ sym g.1

pub one_saying : (bytes : List ℕ) (l m : Line) → Says bytes l → Says bytes m → l ≡ m
one_saying bytes l m h g = same_made (reading bytes) bytes l m (makes bytes l h) (makes bytes m g)

-- all lines
one_next : (g h k : Gathered) (l m : Line) → l ≡ m → adds g l ≡ Some h → adds g m ≡ Some k → h ≡ k
one_next g h k l m e a b = ap (λ (o : Option Gathered). unwrap_or o h) (sym a ∙ ap (adds g) e ∙ b)

pub one_gathering : (g h k : Gathered) (ls : List (List ℕ)) → Gathers g ls h → Gathers g ls k → h ≡ k
one_gathering g h k ls (End x) (End y) = refl
one_gathering g h k ls (Next x u y bytes rest said s a more) (Next x' v y' bytes' rest' said' s' a' more') =
    let same : u ≡ v = one_next g u v said said' (one_saying bytes said said' s s') a a' in
    one_gathering u h k rest more (subst (λ (z : Gathered). Gathers z rest k) (sym same) more')

pub one_asm : (text : List ℕ) (a b : Parts) → AsmOf text a → AsmOf text b → a ≡ b
one_asm text a b h k = sym h.parts ∙ ap (λ (g : Gathered). g.parts) (one_gathering opening h.gathered k.gathered (lines text) h.says k.says) ∙ k.parts
