-- The instruction that is chosen is the only one of its mnemonic and operands.
use Rattle.std.proofs.Common.{◌≡◌, ℕ, ◌<◌, List, [], ◌∷◌, get_or, length, refl, sym, ◌∙◌, ap, subst, Bool, true, false, cond, Option, Some, None, ◌≤◌, arith}
use Rattle.std.specs.Prelude.{bytes_eq, find, position, slice_get, MatchOption, IfSome, IfNone, nat_lt}
use Rattle.std.specs.List.{position_or_len}
use Rattle.std.specs.Option.{option_map}
use Rattle.std.proofs.lemmas.Bool.{ltb-false, false≢true}
use Rattle.x86_lines.proofs.Found.{any_form, found_fits, found_mnemonic}
use Rattle.std.proofs.lemmas.List.Sums.{fails_before_first}
use Rattle.std.proofs.lemmas.Option.{slice_get-get_or, slice_get_within, get_or_from_slice_get}
use Rattle.x86_table.specs.declared.mnemonic.Mnemonic.{Mnemonic}
use Rattle.x86_table.specs.declared.mnemonic.Mnemonic.TheVariants.{Movl, Movb, Movw, Movsbl, Movzbl, Movswl, Movzwl, Leal, Addl, Subl, Imull, Andl, Orl, Xorl, Negl, Notl, Shll, Shrl, Sarl, Cltd, Idivl, Divl, Cmpl, Testl, Sete, Setne, Setl, Setge, Setle, Setg, Setb, Setae, Setbe, Seta, Je, Jne, Jl, Jge, Jle, Jg, Jb, Jae, Jbe, Ja, Jmp, Call, Ret, Pushl, Popl, Mfence, LockCmpxchgl, LockXaddl, Xchgl}
use Rattle.x86_table.specs.declared.operand.Operands.{Operands}
use Rattle.x86_table.specs.declared.table.Pattern.{Pattern}
use Rattle.x86_table.specs.declared.table.Form.{Form}
use Rattle.x86_table.specs.declared.table.TheConstants.{FORMS}
use Rattle.x86_table.specs.declared.instruction.Instr.{Instr}
use Rattle.x86_table.specs.Mnemonic.{text_of}
use Rattle.x86_table.specs.Instruction.{mnemonic_of, operands_of}
use Rattle.x86_table.specs.Table.{is_form_of}
use Rattle.x86_table.proofs.OfOperands.{determine}
use Rattle.x86_lines.specs.Choosing.{HasRow, IsChosen}
use Rattle.x86_lines.specs.Grammar.{HasShortShift}

-- a mnemonic is found by its text
abbrev mnemonics : List Mnemonic
mnemonics = Movl ∷ Movb ∷ Movw ∷ Movsbl ∷ Movzbl ∷ Movswl ∷ Movzwl ∷ Leal ∷ Addl ∷ Subl ∷ Imull ∷ Andl ∷ Orl ∷ Xorl ∷ Negl ∷ Notl ∷ Shll ∷ Shrl ∷ Sarl ∷ Cltd ∷ Idivl ∷ Divl ∷ Cmpl ∷ Testl ∷ Sete ∷ Setne ∷ Setl ∷ Setge ∷ Setle ∷ Setg ∷ Setb ∷ Setae ∷ Setbe ∷ Seta ∷ Je ∷ Jne ∷ Jl ∷ Jge ∷ Jle ∷ Jg ∷ Jb ∷ Jae ∷ Jbe ∷ Ja ∷ Jmp ∷ Call ∷ Ret ∷ Pushl ∷ Popl ∷ Mfence ∷ LockCmpxchgl ∷ LockXaddl ∷ Xchgl ∷ []

abbrev of_text : List ℕ → Option Mnemonic
of_text t = find (λ m. bytes_eq (text_of m) t) mnemonics

text_found : (m : Mnemonic) → of_text (text_of m) ≡ Some m
text_found Movl = refl
text_found Movb = refl
text_found Movw = refl
text_found Movsbl = refl
text_found Movzbl = refl
text_found Movswl = refl
text_found Movzwl = refl
text_found Leal = refl
text_found Addl = refl
text_found Subl = refl
text_found Imull = refl
text_found Andl = refl
text_found Orl = refl
text_found Xorl = refl
text_found Negl = refl
text_found Notl = refl
text_found Shll = refl
text_found Shrl = refl
text_found Sarl = refl
text_found Cltd = refl
text_found Idivl = refl
text_found Divl = refl
text_found Cmpl = refl
text_found Testl = refl
text_found Sete = refl
text_found Setne = refl
text_found Setl = refl
text_found Setge = refl
text_found Setle = refl
text_found Setg = refl
text_found Setb = refl
text_found Setae = refl
text_found Setbe = refl
text_found Seta = refl
text_found Je = refl
text_found Jne = refl
text_found Jl = refl
text_found Jge = refl
text_found Jle = refl
text_found Jg = refl
text_found Jb = refl
text_found Jae = refl
text_found Jbe = refl
text_found Ja = refl
text_found Jmp = refl
text_found Call = refl
text_found Ret = refl
text_found Pushl = refl
text_found Popl = refl
text_found Mfence = refl
text_found LockCmpxchgl = refl
text_found LockXaddl = refl
text_found Xchgl = refl

pub text_one : (m n : Mnemonic) → text_of m ≡ text_of n → m ≡ n
text_one m n e = let k : Some m ≡ Some n = sym (text_found m) ∙ ap of_text e ∙ text_found n in cc

-- by what the table answers
pub chosen_is : (text : List ℕ) (o : Operands) (p : Pattern) (m : Mnemonic) (instr r : Option Instr) → HasRow text p m → IfSome instr (λ i. (mnemonic_of i ≡ m) × (operands_of i ≡ o)) → IfNone instr ((i : Instr) → mnemonic_of i ≡ m → operands_of i ≡ o → ⊥) → MatchOption r ((i : Instr) → instr ≡ Some i → ¬ HasShortShift i) (λ i. (instr ≡ Some i) × HasShortShift i) → MatchOption r ((i : Instr) → ¬ IsChosen text o p i) (λ i. IsChosen text o p i)
chosen_is text o p m None None row some none h = λ i is. none i (text_one (mnemonic_of i) m (is.has.named ∙ sym row.named)) is.given
chosen_is text o p m (Some j) None row some none h = λ i is. h i (ap Some (determine j i (some.0 ∙ text_one m (mnemonic_of i) (row.named ∙ sym is.has.named)) (some.1 ∙ sym is.given))) is.short
chosen_is text o p m None (Some i) row some none h = absurd (let k : None ≡ Some i = h.0 in cc)
chosen_is text o p m (Some j) (Some i) row some none h =
    let same : j ≡ i = let k : Some j ≡ Some i = h.0 in cc in
    let found : (mnemonic_of i ≡ m) × (operands_of i ≡ o) = subst (λ (x : Instr). (mnemonic_of x ≡ m) × (operands_of x ≡ o)) same some in
    record { has = subst (HasRow text p) (sym found.0) row; given = found.1; short = h.1 }

pub chosen_none : (text : List ℕ) (o : Operands) (p : Pattern) → ((m : Mnemonic) → ¬ HasRow text p m) → (i : Instr) → ¬ IsChosen text o p i
chosen_none text o p h i = λ is. h (mnemonic_of i) is.has

-- by the row that is found
no_row_at : (p : Form → Bool) (table : List Form) (first : ℕ) (b : Bool) → nat_lt first (length table) ≡ b → cond b (Some first) None ≡ None → length table ≤ first
no_row_at p table first true e h = absurd (let k : Some first ≡ None = h in cc)
no_row_at p table first false e h = ltb-false first (length table) e

no_row : (p : Form → Bool) (table : List Form) (row : ℕ) (form : Form) → position p table ≡ None → slice_get table row ≡ Some form → p form ≡ true → ⊥
no_row p table row form h stands fits =
    let past : length table ≤ position_or_len p table = no_row_at p table (position_or_len p table) (nat_lt (position_or_len p table) (length table)) refl h in
    let within : row < length table = slice_get_within table row form stands in
    let fails : p (get_or table row form) ≡ false = fails_before_first p table row form (omega arith) in
    let is : get_or table row form ≡ form = get_or_from_slice_get table row form form stands in
    false≢true (sym fails ∙ ap p is ∙ fits)

pub row_none : (text : List ℕ) (p : Pattern) (r : Option ℕ) → r ≡ position (is_form_of text p) FORMS → r ≡ None → (m : Mnemonic) → ¬ HasRow text p m
row_none text p r e h m = λ is. no_row (is_form_of text p) FORMS is.row is.form (sym e ∙ h) is.stands is.fits

row_at : (text : List ℕ) (p : Pattern) (row : ℕ) (m : Option Mnemonic) → position (is_form_of text p) FORMS ≡ Some row → m ≡ option_map (λ (form : Form). form.mnemonic) (Some (get_or FORMS row any_form)) → MatchOption m ((n : Mnemonic) → ¬ HasRow text p n) (λ n. HasRow text p n)
row_at text p row None e h = absurd (let k : None ≡ Some (get_or FORMS row any_form).mnemonic = h in cc)
row_at text p row (Some n) e h =
    let found = found_fits FORMS text p row any_form e in
    let same : n ≡ (get_or FORMS row any_form).mnemonic = let k : Some n ≡ Some (get_or FORMS row any_form).mnemonic = h in cc in
    record { row = row; form = get_or FORMS row any_form; stands = slice_get-get_or FORMS row any_form found.0; fits = found.1; named = ap text_of same ∙ found_mnemonic FORMS text p row any_form e }

pub row_some : (text : List ℕ) (p : Pattern) (row : ℕ) (m : Option Mnemonic) → position (is_form_of text p) FORMS ≡ Some row → m ≡ option_map (λ (form : Form). form.mnemonic) (slice_get FORMS row) → MatchOption m ((n : Mnemonic) → ¬ HasRow text p n) (λ n. HasRow text p n)
row_some text p row m e h = row_at text p row m e (h ∙ ap (λ (o : Option Form). option_map (λ (form : Form). form.mnemonic) o) (slice_get-get_or FORMS row any_form (found_fits FORMS text p row any_form e).0))
