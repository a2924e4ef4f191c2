-- What the code makes of a line is what the line says.
use Rattle.std.proofs.Common.{◌≡◌, ◌≢◌, ℕ, ◌^◌, ◌<◌, List, [], ◌∷◌, ◌++◌, refl, sym, ◌∙◌, ap, subst, Bool, true, false, cond, Option, Some, None, lit≤, eqb, inl, inr}
use Rattle.std.specs.Prelude.{codes, bytes_eq, nat_le, MatchOption, Result, Ok, Err, IfOk, ◌||◌}
use Rattle.std.proofs.lemmas.Bool.{false≢true, eqb-true, leb-true}
use Rattle.std.proofs.lemmas.Slice.Eq.{bytes_eq-Decides}
use Rattle.x86_table.specs.Names.{IsName}
use Rattle.x86_lines.specs.Pieces.{pieces, is_blank}
use Rattle.x86_lines.specs.Reading as scan
use Rattle.x86_lines.specs.Finding.{bits_in, count_in}
use Rattle.x86_lines.specs.Numbers.{IsCount}
use Rattle.x86_lines.proofs.BitsFound.{bits_sound, count_found}
use Rattle.x86_lines.proofs.Marks.{name_sound}
use Rattle.x86_lang.specs.declared.assembly.StaticLine.{StaticLine}
use Rattle.x86_lang.specs.declared.assembly.StaticLine.TheVariants as statics
use Rattle.x86_lang.specs.Whole.{IsAlignment}
use Rattle.x86_text.specs.declared.line.Line.{Line}
use Rattle.x86_text.specs.declared.line.Line.TheVariants as line
use Rattle.x86_text.specs.Text.{Says, Blank, Comment, Pace, Extern, Text, Data, Export, Label, Datum, Op, IsDatum, Byte, Short, Long, Zero, Balign, past_blanks, pace_mark, extern_mark}
use Rattle.x86_text.specs.Scanning.{Reading, Said, Bad, Code, strip, pace_from, pace_in, extern_from, extern_in, extern_or, pace_or, comment, is_alignment, byte_from, short_from, long_from, zero_from, balign_from, datum, label, export, plain, reading_at, reading}
use Rattle.x86_text.specs.Spoken.{IsMadeOf}
use Rattle.x86_text.proofs.OneSaying.{Makes, strip_whole, strip_sound, makes}

-- readings
said_same : (l m : Line) → Said l ≡ Said m → l ≡ m
said_same l m e = cc

bad_said : {Y : Type 0} (l : Line) → Bad ≡ Said l → Y
bad_said l e = absurd cc

code_said : {Y : Type 0} (l : Line) → Code ≡ Said l → Y
code_said l e = absurd cc

says_at : (bytes : List ℕ) (l m : Line) → Says bytes l → Said l ≡ Said m → Says bytes m
says_at bytes l m s e = subst (Says bytes) (said_same l m e) s

-- counts
count_sound_at : (p : List ℕ) (n : ℕ) (o : Option ℕ) → o ≡ count_in p → o ≡ Some n → IsCount p n × (n < 2 ^ 128)
count_sound_at p n None e h = absurd (let k : None ≡ Some n = h in cc)
count_sound_at p n (Some m) e h = subst (λ (x : ℕ). IsCount p x × (x < 2 ^ 128)) (let k : Some m ≡ Some n = h in let q : m ≡ n = cc in q) (count_found p (Some m) e)

count_sound : (p : List ℕ) (n : ℕ) → count_in p ≡ Some n → IsCount p n × (n < 2 ^ 128)
count_sound p n h = count_sound_at p n (count_in p) refl h

-- comments
pace_from_sound : (bytes rest p : List ℕ) (l : Line) (o : Option ℕ) → past_blanks bytes ≡ pace_mark ++ rest → pieces rest ≡ p ∷ [] → count_in p ≡ o → pace_from o ≡ Said l → Says bytes l
pace_from_sound bytes rest p l None e f c h = bad_said l h
pace_from_sound bytes rest p l (Some n) e f c h = let k = count_sound p n c in says_at bytes (line.Pace n) l (Pace bytes rest p n e f k.0 k.1) h

pace_sound : (bytes rest : List ℕ) (ps : List (List ℕ)) (l : Line) → past_blanks bytes ≡ pace_mark ++ rest → pieces rest ≡ ps → pace_in ps ≡ Said l → Says bytes l
pace_sound bytes rest [] l e f h = bad_said l h
pace_sound bytes rest (p ∷ []) l e f h = pace_from_sound bytes rest p l (count_in p) e f refl h
pace_sound bytes rest (p ∷ q ∷ ps) l e f h = bad_said l h

extern_small : (bytes rest name p : List ℕ) (n : ℕ) (l : Line) (b : Bool) → past_blanks bytes ≡ extern_mark ++ rest → pieces rest ≡ name ∷ p ∷ [] → IsName name → IsCount p n → nat_le n 64 ≡ b → cond b (Said (line.Extern name n)) Bad ≡ Said l → Says bytes l
extern_small bytes rest name p n l true e f i c s h = says_at bytes (line.Extern name n) l (Extern bytes rest name p n e f i c (leb-true n 64 s)) h
extern_small bytes rest name p n l false e f i c s h = bad_said l h

extern_from_sound : (bytes rest name p : List ℕ) (l : Line) (o : Option ℕ) → past_blanks bytes ≡ extern_mark ++ rest → pieces rest ≡ name ∷ p ∷ [] → IsName name → count_in p ≡ o → extern_from name o ≡ Said l → Says bytes l
extern_from_sound bytes rest name p l None e f i c h = bad_said l h
extern_from_sound bytes rest name p l (Some n) e f i c h = extern_small bytes rest name p n l (nat_le n 64) e f i (count_sound p n c).0 refl h

extern_at_sound : (bytes rest name p : List ℕ) (l : Line) (b : Bool) → past_blanks bytes ≡ extern_mark ++ rest → pieces rest ≡ name ∷ p ∷ [] → scan.is_name name ≡ b → cond b (extern_from name (count_in p)) Bad ≡ Said l → Says bytes l
extern_at_sound bytes rest name p l true e f i h = extern_from_sound bytes rest name p l (count_in p) e f (name_sound name i) refl h
extern_at_sound bytes rest name p l false e f i h = bad_said l h

extern_sound : (bytes rest : List ℕ) (ps : List (List ℕ)) (l : Line) → past_blanks bytes ≡ extern_mark ++ rest → pieces rest ≡ ps → extern_in ps ≡ Said l → Says bytes l
extern_sound bytes rest [] l e f h = bad_said l h
extern_sound bytes rest (name ∷ []) l e f h = bad_said l h
extern_sound bytes rest (name ∷ p ∷ []) l e f h = extern_at_sound bytes rest name p l (scan.is_name name) e f refl h
extern_sound bytes rest (name ∷ p ∷ q ∷ ps) l e f h = bad_said l h

no_more : (mark bs : List ℕ) → strip mark bs ≡ None → (more : List ℕ) → bs ≢ mark ++ more
no_more mark bs e more h = let k : None ≡ Some more = sym e ∙ ap (strip mark) h ∙ strip_whole mark more in cc

extern_or_sound : (bytes rest : List ℕ) (l : Line) (o : Option (List ℕ)) → past_blanks bytes ≡ 35 ∷ rest → strip pace_mark (35 ∷ rest) ≡ None → strip extern_mark (35 ∷ rest) ≡ o → extern_or o ≡ Said l → Says bytes l
extern_or_sound bytes rest l None e p x h = says_at bytes line.Nothing l (Comment bytes rest e (no_more pace_mark (35 ∷ rest) p) (no_more extern_mark (35 ∷ rest) x)) h
extern_or_sound bytes rest l (Some more) e p x h = extern_sound bytes more (pieces more) l (e ∙ strip_sound extern_mark (35 ∷ rest) more x) refl h

pace_or_sound : (bytes rest : List ℕ) (l : Line) (o : Option (List ℕ)) → past_blanks bytes ≡ 35 ∷ rest → strip pace_mark (35 ∷ rest) ≡ o → pace_or o (35 ∷ rest) ≡ Said l → Says bytes l
pace_or_sound bytes rest l None e p h = extern_or_sound bytes rest l (strip extern_mark (35 ∷ rest)) e p refl h
pace_or_sound bytes rest l (Some more) e p h = pace_sound bytes more (pieces more) l (e ∙ strip_sound pace_mark (35 ∷ rest) more p) refl h

comment_sound : (bytes rest : List ℕ) (l : Line) → past_blanks bytes ≡ 35 ∷ rest → comment (35 ∷ rest) ≡ Said l → Says bytes l
comment_sound bytes rest l e h = pace_or_sound bytes rest l (strip pace_mark (35 ∷ rest)) e refl h

-- directives of data
abbrev IsSaidOf : List ℕ → List ℕ → Line → Type 0
IsSaidOf w p l = (s : StaticLine) × (line.Datum s ≡ l) × IsDatum w p s

byte_sound : (p : List ℕ) (l : Line) (o : Option ℕ) → bits_in 128 p ≡ o → byte_from o ≡ Said l → IsSaidOf (codes ".byte") p l
byte_sound p l None e h = bad_said l h
byte_sound p l (Some n) e h = (statics.Byte n, said_same (line.Datum (statics.Byte n)) l h, Byte p n (bits_sound 128 p n (lit≤ tt) e))

short_sound : (p : List ℕ) (l : Line) (o : Option ℕ) → bits_in 32768 p ≡ o → short_from o ≡ Said l → IsSaidOf (codes ".short") p l
short_sound p l None e h = bad_said l h
short_sound p l (Some n) e h = (statics.Short n, said_same (line.Datum (statics.Short n)) l h, Short p n (bits_sound 32768 p n (lit≤ tt) e))

long_sound : (p : List ℕ) (l : Line) (o : Option ℕ) → bits_in 2147483648 p ≡ o → long_from o ≡ Said l → IsSaidOf (codes ".long") p l
long_sound p l None e h = bad_said l h
long_sound p l (Some n) e h = (statics.Long n, said_same (line.Datum (statics.Long n)) l h, Long p n (bits_sound 2147483648 p n (lit≤ tt) e))

zero_sound : (p : List ℕ) (l : Line) (o : Option ℕ) → bits_in 2147483648 p ≡ o → zero_from o ≡ Said l → IsSaidOf (codes ".zero") p l
zero_sound p l None e h = bad_said l h
zero_sound p l (Some n) e h = (statics.Zero n, said_same (line.Datum (statics.Zero n)) l h, Zero p n (bits_sound 2147483648 p n (lit≤ tt) e))

four_at : (n : ℕ) (b c : Bool) → eqb n 4 ≡ b → eqb n 16 ≡ c → (b || c) ≡ true → IsAlignment (statics.Balign n)
four_at n true c e f h = inr (inr (inl (eqb-true n 4 e)))
four_at n false true e f h = inr (inr (inr (eqb-true n 16 f)))
four_at n false false e f h = absurd (false≢true h)

two_at : (n : ℕ) (b : Bool) → eqb n 2 ≡ b → (b || (eqb n 4 || eqb n 16)) ≡ true → IsAlignment (statics.Balign n)
two_at n true e h = inr (inl (eqb-true n 2 e))
two_at n false e h = four_at n (eqb n 4) (eqb n 16) refl refl h

one_at : (n : ℕ) (b : Bool) → eqb n 1 ≡ b → (b || (eqb n 2 || (eqb n 4 || eqb n 16))) ≡ true → IsAlignment (statics.Balign n)
one_at n true e h = inl (eqb-true n 1 e)
one_at n false e h = two_at n (eqb n 2) refl h

balign_at : (p : List ℕ) (n : ℕ) (l : Line) (b : Bool) → IsCount p n → is_alignment n ≡ b → cond b (Said (line.Datum (statics.Balign n))) Bad ≡ Said l → IsSaidOf (codes ".balign") p l
balign_at p n l true c e h = (statics.Balign n, said_same (line.Datum (statics.Balign n)) l h, Balign p n c (one_at n (eqb n 1) refl e))
balign_at p n l false c e h = bad_said l h

balign_sound : (p : List ℕ) (l : Line) (o : Option ℕ) → count_in p ≡ o → balign_from o ≡ Said l → IsSaidOf (codes ".balign") p l
balign_sound p l None e h = bad_said l h
balign_sound p l (Some n) e h = balign_at p n l (is_alignment n) (count_sound p n e).0 refl h

named : (w v p : List ℕ) (l : Line) → bytes_eq w v ≡ true → IsSaidOf v p l → IsSaidOf w p l
named w v p l e h = subst (λ (x : List ℕ). IsSaidOf x p l) (sym ((bytes_eq-Decides w v).0 e)) h

abbrev from_balign : List ℕ → List ℕ → Reading
from_balign w p = cond (bytes_eq w (codes ".balign")) (balign_from (count_in p)) Code

abbrev from_zero : List ℕ → List ℕ → Reading
from_zero w p = cond (bytes_eq w (codes ".zero")) (zero_from (bits_in 2147483648 p)) (from_balign w p)

abbrev from_long : List ℕ → List ℕ → Reading
from_long w p = cond (bytes_eq w (codes ".long")) (long_from (bits_in 2147483648 p)) (from_zero w p)

abbrev from_short : List ℕ → List ℕ → Reading
from_short w p = cond (bytes_eq w (codes ".short")) (short_from (bits_in 32768 p)) (from_long w p)

from_balign_sound : (w p : List ℕ) (l : Line) (b : Bool) → bytes_eq w (codes ".balign") ≡ b → cond b (balign_from (count_in p)) Code ≡ Said l → IsSaidOf w p l
from_balign_sound w p l true e h = named w (codes ".balign") p l e (balign_sound p l (count_in p) refl h)
from_balign_sound w p l false e h = code_said l h

from_zero_sound : (w p : List ℕ) (l : Line) (b : Bool) → bytes_eq w (codes ".zero") ≡ b → cond b (zero_from (bits_in 2147483648 p)) (from_balign w p) ≡ Said l → IsSaidOf w p l
from_zero_sound w p l true e h = named w (codes ".zero") p l e (zero_sound p l (bits_in 2147483648 p) refl h)
from_zero_sound w p l false e h = from_balign_sound w p l (bytes_eq w (codes ".balign")) refl h

from_long_sound : (w p : List ℕ) (l : Line) (b : Bool) → bytes_eq w (codes ".long") ≡ b → cond b (long_from (bits_in 2147483648 p)) (from_zero w p) ≡ Said l → IsSaidOf w p l
from_long_sound w p l true e h = named w (codes ".long") p l e (long_sound p l (bits_in 2147483648 p) refl h)
from_long_sound w p l false e h = from_zero_sound w p l (bytes_eq w (codes ".zero")) refl h

from_short_sound : (w p : List ℕ) (l : Line) (b : Bool) → bytes_eq w (codes ".short") ≡ b → cond b (short_from (bits_in 32768 p)) (from_long w p) ≡ Said l → IsSaidOf w p l
from_short_sound w p l true e h = named w (codes ".short") p l e (short_sound p l (bits_in 32768 p) refl h)
from_short_sound w p l false e h = from_long_sound w p l (bytes_eq w (codes ".long")) refl h

datum_sound : (w p : List ℕ) (l : Line) (b : Bool) → bytes_eq w (codes ".byte") ≡ b → cond b (byte_from (bits_in 128 p)) (from_short w p) ≡ Said l → IsSaidOf w p l
datum_sound w p l true e h = named w (codes ".byte") p l e (byte_sound p l (bits_in 128 p) refl h)
datum_sound w p l false e h = from_short_sound w p l (bytes_eq w (codes ".short")) refl h

-- lines that are no comment
label_sound : (bytes name : List ℕ) (l : Line) (b : Bool) → pieces bytes ≡ name ∷ codes ":" ∷ [] → scan.is_name name ≡ b → cond b (Said (line.Label name)) Bad ≡ Said l → Says bytes l
label_sound bytes name l true e i h = says_at bytes (line.Label name) l (Label bytes name e (name_sound name i)) h
label_sound bytes name l false e i h = bad_said l h

export_sound : (bytes name : List ℕ) (l : Line) (b : Bool) → pieces bytes ≡ codes ".globl" ∷ name ∷ [] → scan.is_name name ≡ b → cond b (Said (line.Export name)) Bad ≡ Said l → Says bytes l
export_sound bytes name l true e i h = says_at bytes (line.Export name) l (Export bytes name e (name_sound name i)) h
export_sound bytes name l false e i h = bad_said l h

datum_says : (bytes w p : List ℕ) (l : Line) → pieces bytes ≡ w ∷ p ∷ [] → IsSaidOf w p l → Says bytes l
datum_says bytes w p l e d = subst (Says bytes) d.1 (Datum bytes w p d.0 e d.2)

globl_sound : (bytes w p : List ℕ) (l : Line) (b : Bool) → pieces bytes ≡ w ∷ p ∷ [] → bytes_eq w (codes ".globl") ≡ b → cond b (export p) (datum w p) ≡ Said l → Says bytes l
globl_sound bytes w p l true e f h = export_sound bytes p l (scan.is_name p) (e ∙ ap (λ (x : List ℕ). let q : List (List ℕ) = x ∷ p ∷ [] in q) ((bytes_eq-Decides w (codes ".globl")).0 f)) refl h
globl_sound bytes w p l false e f h = datum_says bytes w p l e (datum_sound w p l (bytes_eq w (codes ".byte")) refl h)

two_sound : (bytes w p : List ℕ) (l : Line) (b : Bool) → pieces bytes ≡ w ∷ p ∷ [] → bytes_eq p (codes ":") ≡ b → cond b (label w) (cond (bytes_eq w (codes ".globl")) (export p) (datum w p)) ≡ Said l → Says bytes l
two_sound bytes w p l true e f h = label_sound bytes w l (scan.is_name w) (e ∙ ap (λ (x : List ℕ). let q : List (List ℕ) = w ∷ x ∷ [] in q) ((bytes_eq-Decides p (codes ":")).0 f)) refl h
two_sound bytes w p l false e f h = globl_sound bytes w p l (bytes_eq w (codes ".globl")) e refl h

alone : (w v : List ℕ) → bytes_eq w v ≡ true → w ∷ [] ≡ v ∷ []
alone w v f = ap (λ (x : List ℕ). let q : List (List ℕ) = x ∷ [] in q) ((bytes_eq-Decides w v).0 f)

data_sound : (bytes w : List ℕ) (l : Line) (b : Bool) → pieces bytes ≡ w ∷ [] → bytes_eq w (codes ".data") ≡ b → cond b (Said line.Data) Code ≡ Said l → Says bytes l
data_sound bytes w l true e f h = says_at bytes line.Data l (Data bytes (e ∙ alone w (codes ".data") f)) h
data_sound bytes w l false e f h = code_said l h

text_sound : (bytes w : List ℕ) (l : Line) (b : Bool) → pieces bytes ≡ w ∷ [] → bytes_eq w (codes ".text") ≡ b → cond b (Said line.Text) (cond (bytes_eq w (codes ".data")) (Said line.Data) Code) ≡ Said l → Says bytes l
text_sound bytes w l true e f h = says_at bytes line.Text l (Text bytes (e ∙ alone w (codes ".text") f)) h
text_sound bytes w l false e f h = data_sound bytes w l (bytes_eq w (codes ".data")) e refl h

plain_sound : (bytes : List ℕ) (ps : List (List ℕ)) (l : Line) → pieces bytes ≡ ps → plain ps ≡ Said l → Says bytes l
plain_sound bytes [] l e h = says_at bytes line.Nothing l (Blank bytes e) h
plain_sound bytes (w ∷ []) l e h = text_sound bytes w l (bytes_eq w (codes ".text")) e refl h
plain_sound bytes (w ∷ p ∷ []) l e h = two_sound bytes w p l (bytes_eq p (codes ":")) e refl h
plain_sound bytes (w ∷ p ∷ q ∷ ps) l e h = code_said l h

hash_sound : (bytes bs : List ℕ) (b : ℕ) (l : Line) (hash : Bool) → past_blanks bytes ≡ b ∷ bs → eqb b 35 ≡ hash → cond hash (comment (b ∷ bs)) (plain (pieces bytes)) ≡ Said l → Says bytes l
hash_sound bytes bs b l true e f h =
    let same : b ≡ 35 = eqb-true b 35 f in
    comment_sound bytes bs l (e ∙ ap (λ (x : ℕ). let q : List ℕ = x ∷ bs in q) same) (ap (λ (x : ℕ). comment (x ∷ bs)) (sym same) ∙ h)
hash_sound bytes bs b l false e f h = plain_sound bytes (pieces bytes) l refl h

front_sound : (bytes front : List ℕ) (l : Line) → past_blanks bytes ≡ front → reading_at front bytes ≡ Said l → Says bytes l
front_sound bytes [] l e h = plain_sound bytes (pieces bytes) l refl h
front_sound bytes (b ∷ bs) l e h = hash_sound bytes bs b l (eqb b 35) e refl h

pub reading_sound : (bytes : List ℕ) (l : Line) → reading bytes ≡ Said l → Says bytes l
reading_sound bytes l h = front_sound bytes (past_blanks bytes) l refl h

-- what is made of a reading
bad_makes : (bytes : List ℕ) (r : Reading) → reading bytes ≡ r → (l : Line) → Says bytes l → Makes r bytes l
bad_makes bytes r e l s = subst (λ (x : Reading). Makes x bytes l) e (makes bytes l s)

made_at : (bytes : List ℕ) (r : Reading) (o : Option Line) → reading bytes ≡ r → IsMadeOf r bytes o → MatchOption o ((l : Line) → ¬ Says bytes l) (λ l. Says bytes l)
made_at bytes (Said l) o e h = subst (λ (x : Option Line). MatchOption x ((k : Line) → ¬ Says bytes k) (λ k. Says bytes k)) (sym h) (reading_sound bytes l e)
made_at bytes Bad o e h = subst (λ (x : Option Line). MatchOption x ((k : Line) → ¬ Says bytes k) (λ k. Says bytes k)) (sym h) (bad_makes bytes Bad e)
made_at bytes Code None e h = λ l s. let k = bad_makes bytes Code e l s in h k.0 k.2
made_at bytes Code (Some l) e h = subst (Says bytes) (sym h.is) (Op bytes h.instr h.reads)

pub made_is : {E : Type 0} (bytes : List ℕ) (r : Reading) (o : Result (Option Line) E) → r ≡ reading bytes → IfOk o (λ x. IsMadeOf r bytes x) → IfOk o (λ x. MatchOption x ((l : Line) → ¬ Says bytes l) (λ l. Says bytes l))
made_is bytes r (Ok x) e h = made_at bytes r x (sym e) h
made_is bytes r (Err x) e h = tt

-- what stands behind blanks
same_at : (b : ℕ) (bs : List ℕ) (blank : Bool) → scan.past_blanks bs ≡ past_blanks bs → cond blank (scan.past_blanks bs) (b ∷ bs) ≡ cond blank (past_blanks bs) (b ∷ bs)
same_at b bs true h = h
same_at b bs false h = refl

pub same_past : (bytes : List ℕ) → scan.past_blanks bytes ≡ past_blanks bytes
same_past [] = refl
same_past (b ∷ bs) = same_at b bs (is_blank b) (same_past bs)
