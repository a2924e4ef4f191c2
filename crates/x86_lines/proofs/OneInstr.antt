-- An instruction of the grammar is its mnemonic and the operands behind it, and the only one of its line.
use Rattle.std.proofs.Common.{◌≡◌, ℕ, List, [], ◌∷◌, ◌++◌, refl, sym, ◌∙◌, ap, subst, Bool, true, false, cond, Option, Some, None}
use Rattle.std.specs.Prelude.{codes, bytes_eq, Result, Ok, Err, MatchOption, IfOk, ◌&&◌, unwrap_or}
use Rattle.std.proofs.lemmas.Bool.{false≢true, and_parts, and_from}
use Rattle.std.proofs.lemmas.List.{append-nil}
use Rattle.std.proofs.lemmas.Slice.Eq.{bytes_eq-Decides}
use Rattle.x86_table.specs.declared.mnemonic.Mnemonic.{Mnemonic}
use Rattle.x86_table.specs.declared.mnemonic.Mnemonic.TheVariants.{Movl, Movb, Movw, Movsbl, Movzbl, Movswl, Movzwl, Leal, Addl, Subl, Imull, Andl, Orl, Xorl, Negl, Notl, Shll, Shrl, Sarl, Cltd, Idivl, Divl, Cmpl, Testl, Sete, Setne, Setl, Setge, Setle, Setg, Setb, Setae, Setbe, Seta, Je, Jne, Jl, Jge, Jle, Jg, Jb, Jae, Jbe, Ja, Jmp, Call, Ret, Pushl, Popl, Mfence, LockCmpxchgl, LockXaddl, Xchgl}
use Rattle.x86_table.specs.declared.operand.Operands.{Operands}
use Rattle.x86_table.specs.declared.table.Pattern.{Pattern}
use Rattle.x86_table.specs.declared.instruction.Instr.{Instr}
use Rattle.x86_table.specs.Names.{AllOf, is_of_name}
use Rattle.x86_table.specs.Mnemonic.{text_of}
use Rattle.x86_table.specs.Instruction.{mnemonic_of, operands_of}
use Rattle.x86_table.proofs.OfOperands.{determine}
use Rattle.x86_table.specs.Table.{is_form_of}
use Rattle.x86_lines.specs.Pieces.{pieces, is_blank, joins, onto_first}
use Rattle.x86_lines.specs.Reading.{opens, all_of_name}
use Rattle.x86_lines.specs.Choosing.{HasRow, IsChosen, IsBehind, IsAfter}
use Rattle.x86_lines.specs.Taking.{Pieces, prefix, locked, split_at, split, operands_in, first_from}
use Rattle.x86_lines.specs.Grammar.{AreOperands, IsInstr}
use Rattle.x86_lines.proofs.Chosen.{text_one}
use Rattle.x86_lines.proofs.Cuts.{cut_word, solid_step, name_no_blank}
use Rattle.x86_lines.proofs.TakenSound.{operands_sound}
use Rattle.x86_lines.proofs.TakenWhole.{operands_whole, colon_whole}

-- options and pairs
nothing : {X Y : Type 0} (x : X) → None ≡ Some x → Y
nothing x e = absurd cc

abbrev pub paired : {X Y : Type 0} → X → Y → Option (X × Y)
paired a b = Some (a, b)

pub first_same : {X Y : Type 0} (a c : X) (b d : Y) → paired a b ≡ paired c d → a ≡ c
first_same {X} {Y} a c b d e = ap (λ (o : Option (X × Y)). (unwrap_or o (a, b)).0) e

pub second_same : {X Y : Type 0} (a c : X) (b d : Y) → paired a b ≡ paired c d → b ≡ d
second_same {X} {Y} a c b d e = ap (λ (o : Option (X × Y)). (unwrap_or o (a, b)).1) e

-- by the operands
abbrev Decides : (Instr → Type 0) → Option Instr → Type 0
Decides P r = MatchOption r ((i : Instr) → ¬ P i) (λ i. P i)

pub behind_none : (text : List ℕ) (ps : Pieces) → operands_in ps ≡ None → (i : Instr) → ¬ IsBehind text ps i
behind_none text ps e i = λ is. nothing (operands_of i, is.pattern) (sym e ∙ operands_whole ps (operands_of i) is.pattern is.operands)

pub behind_some : (text : List ℕ) (ps : Pieces) (o : Operands) (p : Pattern) (r : Option Instr) → operands_in ps ≡ Some (o, p) → MatchOption r ((i : Instr) → ¬ IsChosen text o p i) (λ i. IsChosen text o p i) → MatchOption r ((i : Instr) → ¬ IsBehind text ps i) (λ i. IsBehind text ps i)
behind_some text ps o p None e h = λ i is.
    let k : Some (operands_of i, is.pattern) ≡ Some (o, p) = sym (operands_whole ps (operands_of i) is.pattern is.operands) ∙ e in
    let given : operands_of i ≡ o = first_same (operands_of i) o is.pattern p k in
    let shapes : is.pattern ≡ p = second_same (operands_of i) o is.pattern p k in
    h i (record { has = subst (λ (x : Pattern). HasRow text x (mnemonic_of i)) shapes is.has; given = given; short = is.short })
behind_some text ps o p (Some i) e h = record { pattern = p; has = h.has; operands = subst (λ (x : Operands). AreOperands ps x p) (sym h.given) (operands_sound ps o p e); short = h.short }

-- a mnemonic splits off
split_whole : (m : Mnemonic) (given : Pieces) → split (pieces (text_of m) ++ given) ≡ Some (text_of m, given)
split_whole Movl given = refl
split_whole Movb given = refl
split_whole Movw given = refl
split_whole Movsbl given = refl
split_whole Movzbl given = refl
split_whole Movswl given = refl
split_whole Movzwl given = refl
split_whole Leal given = refl
split_whole Addl given = refl
split_whole Subl given = refl
split_whole Imull given = refl
split_whole Andl given = refl
split_whole Orl given = refl
split_whole Xorl given = refl
split_whole Negl given = refl
split_whole Notl given = refl
split_whole Shll given = refl
split_whole Shrl given = refl
split_whole Sarl given = refl
split_whole Cltd given = refl
split_whole Idivl given = refl
split_whole Divl given = refl
split_whole Cmpl given = refl
split_whole Testl given = refl
split_whole Sete given = refl
split_whole Setne given = refl
split_whole Setl given = refl
split_whole Setge given = refl
split_whole Setle given = refl
split_whole Setg given = refl
split_whole Setb given = refl
split_whole Setae given = refl
split_whole Setbe given = refl
split_whole Seta given = refl
split_whole Je given = refl
split_whole Jne given = refl
split_whole Jl given = refl
split_whole Jge given = refl
split_whole Jle given = refl
split_whole Jg given = refl
split_whole Jb given = refl
split_whole Jae given = refl
split_whole Jbe given = refl
split_whole Ja given = refl
split_whole Jmp given = refl
split_whole Call given = refl
split_whole Ret given = refl
split_whole Pushl given = refl
split_whole Popl given = refl
split_whole Mfence given = refl
split_whole LockCmpxchgl given = refl
split_whole LockXaddl given = refl
split_whole Xchgl given = refl

-- a piece is a piece of itself
abbrev IsAlone : List ℕ → Type 0
IsAlone w = pieces w ≡ w ∷ []

-- a word, from its first byte on
abbrev IsSolid : List ℕ → Type 0
IsSolid [] = ⊥
IsSolid (b ∷ []) = is_blank b ≡ false
IsSolid (b ∷ c ∷ bs) = (is_blank b ≡ false) × (opens b ≡ true) × (all_of_name (c ∷ bs) ≡ true)

and_false : (b : Bool) → (b && false) ≡ false
and_false true = refl
and_false false = refl

solid_alone : (w : List ℕ) → IsSolid w → IsAlone w
solid_alone [] h = absurd h
solid_alone (b ∷ []) h = solid_step b [] false false h (and_false (opens b))
solid_alone (b ∷ c ∷ bs) h = ap pieces (sym (append-nil (b ∷ c ∷ bs))) ∙ cut_word b (c ∷ bs) [] h.0 h.1 h.2 refl

-- a byte before a word whose bytes are those of names
abbrev FirstOf : ℕ → List (List ℕ) → Type 0
FirstOf c [] = ⊥
FirstOf c ([] ∷ ps) = ⊥
FirstOf c ((b ∷ bs) ∷ ps) = b ≡ c

onto_is : (c : ℕ) (ps : Pieces) → FirstOf c (onto_first c ps)
onto_is c [] = refl
onto_is c (p ∷ ps) = refl

first_is : (c : ℕ) (cs : List ℕ) (join : Bool) → joins c cs ≡ join → is_of_name c ≡ true → FirstOf c (pieces (c ∷ cs))
first_is c cs true e h = subst (FirstOf c) (sym (solid_step c cs false true (name_no_blank c h) e)) (onto_is c (pieces cs))
first_is c cs false e h = subst (FirstOf c) (sym (solid_step c cs false false (name_no_blank c h) e)) refl

onto_solid : (b c : ℕ) (ps : Pieces) → is_blank b ≡ false → opens b ≡ true → is_of_name c ≡ true → FirstOf c ps → AllOf IsSolid ps → AllOf IsSolid (onto_first b ps)
onto_solid b c [] s o h f a = absurd f
onto_solid b c ([] ∷ ps) s o h f a = absurd f
onto_solid b c ((x ∷ []) ∷ ps) s o h f a = ((s, o, and_from (is_of_name x) true (ap is_of_name f ∙ h) refl), a.1)
onto_solid b c ((x ∷ y ∷ xs) ∷ ps) s o h f a = ((s, o, and_from (is_of_name x) (all_of_name (y ∷ xs)) (ap is_of_name f ∙ h) a.0.2), a.1)

joined_solid : (b : ℕ) (bs : List ℕ) → is_blank b ≡ false → joins b bs ≡ true → AllOf IsSolid (pieces bs) → AllOf IsSolid (onto_first b (pieces bs))
joined_solid b [] s j a = absurd (false≢true (sym (and_false (opens b)) ∙ j))
joined_solid b (c ∷ cs) s j a =
    let parts = and_parts (opens b) (is_of_name c) j in
    onto_solid b c (pieces (c ∷ cs)) s parts.0 parts.1 (first_is c cs (joins c cs) refl parts.1) a

solid_at : (b : ℕ) (bs : List ℕ) (blank join : Bool) → is_blank b ≡ blank → joins b bs ≡ join → AllOf IsSolid (pieces bs) → AllOf IsSolid (pieces (b ∷ bs))
solid_at b bs true join e j a = subst (AllOf IsSolid) (sym (solid_step b bs true join e j)) a
solid_at b bs false true e j a = subst (AllOf IsSolid) (sym (solid_step b bs false true e j)) (joined_solid b bs e j a)
solid_at b bs false false e j a = subst (AllOf IsSolid) (sym (solid_step b bs false false e j)) (e, a)

solid : (line : List ℕ) → AllOf IsSolid (pieces line)
solid [] = tt
solid (b ∷ bs) = solid_at b bs (is_blank b) (joins b bs) refl refl (solid bs)

-- what was split off
locked_sound : (ps given : Pieces) (text : List ℕ) → AllOf IsSolid ps → locked ps ≡ Some (text, given) → codes "lock" ∷ ps ≡ pieces text ++ given
locked_sound [] given text a e = nothing (text, given) e
locked_sound (x ∷ ps) given text a e =
    let whole : codes "lock " ++ x ≡ text = first_same (codes "lock " ++ x) text ps given e in
    let rest : ps ≡ given = second_same (codes "lock " ++ x) text ps given e in
    let cut : pieces (codes "lock " ++ x) ≡ codes "lock" ∷ x ∷ [] = ap (λ (q : Pieces). codes "lock" ∷ q) (solid_alone x a.0) in
    subst (λ (q : Pieces). codes "lock" ∷ x ∷ ps ≡ pieces text ++ q) rest (subst (λ (t : List ℕ). codes "lock" ∷ x ∷ ps ≡ pieces t ++ ps) whole (ap (λ (q : Pieces). q ++ ps) (sym cut)))

split_at_sound : (w : List ℕ) (ps given : Pieces) (text : List ℕ) (b : Bool) → bytes_eq w prefix ≡ b → IsSolid w → AllOf IsSolid ps → cond b (locked ps) (Some (w, ps)) ≡ Some (text, given) → w ∷ ps ≡ pieces text ++ given
split_at_sound w ps given text true e s a h = subst (λ (x : List ℕ). x ∷ ps ≡ pieces text ++ given) (sym ((bytes_eq-Decides w prefix).0 e)) (locked_sound ps given text a h)
split_at_sound w ps given text false e s a h =
    let whole : w ≡ text = first_same w text ps given h in
    let rest : ps ≡ given = second_same w text ps given h in
    subst (λ (q : Pieces). w ∷ ps ≡ pieces text ++ q) rest (subst (λ (t : List ℕ). w ∷ ps ≡ pieces t ++ ps) whole (ap (λ (q : Pieces). q ++ ps) (sym (solid_alone w s))))

split_sound : (ps given : Pieces) (text : List ℕ) → AllOf IsSolid ps → split ps ≡ Some (text, given) → ps ≡ pieces text ++ given
split_sound [] given text a e = nothing (text, given) e
split_sound (w ∷ ps) given text a e = split_at_sound w ps given text (bytes_eq w prefix) refl a.0 a.1 e

-- an instruction of the grammar, by what was split off
to_behind : (ps : Pieces) (i : Instr) → (is : IsInstr ps i) → IsBehind (text_of (mnemonic_of i)) is.given i
to_behind ps i is = record { pattern = is.pattern; has = record { row = is.row; form = is.form; stands = is.stands; fits = is.fits; named = refl }; operands = is.operands; short = is.short }

pub to_split : (ps : Pieces) (i : Instr) → (is : IsInstr ps i) → split ps ≡ Some (text_of (mnemonic_of i), is.given)
to_split ps i is = ap split is.parts ∙ split_whole (mnemonic_of i) is.given

after_from : (ps : Pieces) (i : Instr) → IsInstr ps i → IsAfter (split ps) i
after_from ps i is = subst (λ (t : Option (List ℕ × Pieces)). IsAfter t i) (sym (to_split ps i is)) (to_behind ps i is)

from_after : (ps : Pieces) (t : Option (List ℕ × Pieces)) (i : Instr) → AllOf IsSolid ps → split ps ≡ t → IsAfter t i → IsInstr ps i
from_after ps None i a e h = absurd h
from_after ps (Some t) i a e h = record {
  given = t.1;
  pattern = h.pattern;
  row = h.has.row;
  form = h.has.form;
  parts = split_sound ps t.1 t.0 a e ∙ ap (λ (x : List ℕ). pieces x ++ t.1) (sym h.has.named);
  operands = h.operands;
  stands = h.has.stands;
  fits = subst (λ (x : List ℕ). is_form_of x h.pattern h.has.form ≡ true) (sym h.has.named) h.has.fits;
  short = h.short;
}

decided_at : (ps : Pieces) (r : Option Instr) → AllOf IsSolid ps → MatchOption r ((i : Instr) → ¬ IsAfter (split ps) i) (λ i. IsAfter (split ps) i) → MatchOption r ((i : Instr) → ¬ IsInstr ps i) (λ i. IsInstr ps i)
decided_at ps None a h = λ i is. h i (after_from ps i is)
decided_at ps (Some i) a h = from_after ps (split ps) i a refl h

decided : {E : Type 0} (ps : Pieces) (r : Result (Option Instr) E) → AllOf IsSolid ps → IfOk r (λ o. MatchOption o ((i : Instr) → ¬ IsAfter (split ps) i) (λ i. IsAfter (split ps) i)) → IfOk r (λ o. MatchOption o ((i : Instr) → ¬ IsInstr ps i) (λ i. IsInstr ps i))
decided ps (Ok o) a h = decided_at ps o a h
decided ps (Err e) a h = tt

pub instr_decided : {E : Type 0} (line w : List ℕ) (rest : Pieces) (r : Result (Option Instr) E) → pieces line ≡ w ∷ rest → IfOk r (λ o. MatchOption o ((i : Instr) → ¬ IsAfter (split_at w rest) i) (λ i. IsAfter (split_at w rest) i)) → IfOk r (λ o. MatchOption o ((i : Instr) → ¬ IsInstr (pieces line) i) (λ i. IsInstr (pieces line) i))
instr_decided line w rest r e h = decided (pieces line) r (solid line) (subst (λ (ps : Pieces). IfOk r (λ o. MatchOption o ((i : Instr) → ¬ IsAfter (split ps) i) (λ i. IsAfter (split ps) i))) (sym e) h)

pub no_instr : (ps : Pieces) → ps ≡ [] → (i : Instr) → ¬ IsInstr ps i
no_instr ps e i = λ is. nothing (text_of (mnemonic_of i), is.given) (sym (ap split e) ∙ to_split ps i is)

-- one line, one instruction
pub one_instr : (line : Pieces) (i j : Instr) → IsInstr line i → IsInstr line j → i ≡ j
one_instr line i j a b =
    let k : Some (text_of (mnemonic_of i), a.given) ≡ Some (text_of (mnemonic_of j), b.given) = sym (to_split line i a) ∙ to_split line j b in
    let texts : text_of (mnemonic_of i) ≡ text_of (mnemonic_of j) = first_same (text_of (mnemonic_of i)) (text_of (mnemonic_of j)) a.given b.given k in
    let given : a.given ≡ b.given = second_same (text_of (mnemonic_of i)) (text_of (mnemonic_of j)) a.given b.given k in
    let l : Some (operands_of i, a.pattern) ≡ Some (operands_of j, b.pattern) = sym (operands_whole a.given (operands_of i) a.pattern a.operands) ∙ ap operands_in given ∙ operands_whole b.given (operands_of j) b.pattern b.operands in
    determine i j (text_one (mnemonic_of i) (mnemonic_of j) texts) (first_same (operands_of i) (operands_of j) a.pattern b.pattern l)

pub behind_made : (text : List ℕ) (ps : Pieces) (o q : Operands) (p : Pattern) (r : Option Instr) → paired q p ≡ operands_in ps → o ≡ q → MatchOption r ((i : Instr) → ¬ IsChosen text o p i) (λ i. IsChosen text o p i) → MatchOption r ((i : Instr) → ¬ IsBehind text ps i) (λ i. IsBehind text ps i)
behind_made text ps o q p r e same h = behind_some text ps o p r (sym e ∙ ap (λ (x : Operands). paired x p) (sym same)) h

-- no operand begins with ':'
pub no_colon : (o : Operands) (p : Pattern) → AreOperands (codes ":" ∷ []) o p → ⊥
no_colon o p h = nothing (o, p) (sym (ap first_from colon_whole) ∙ operands_whole (codes ":" ∷ []) o p h)
