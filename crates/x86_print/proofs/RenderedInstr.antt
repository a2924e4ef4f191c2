-- The printed form of an instruction is one of the grammar.
use Rattle.std.proofs.Common.{◌≡◌, ℕ, List, [], ◌∷◌, ◌++◌, get_or, refl, sym, ◌∙◌, ap, subst, Bool, true, false}
use Rattle.std.specs.Prelude.{codes}
use Rattle.std.proofs.lemmas.Bool.{false≢true}
use Rattle.std.proofs.lemmas.List.{append-nil}
use Rattle.std.proofs.lemmas.Option.{slice_get-get_or}
use Rattle.x86_table.specs.declared.operand.Operand.{Operand}
use Rattle.x86_table.specs.declared.operand.Operand.TheVariants as operand
use Rattle.x86_table.specs.declared.table.TheConstants.{FORMS}
use Rattle.x86_table.specs.declared.instruction.Instr.{Instr}
use Rattle.x86_table.specs.declared.instruction.Instr.TheVariants.{MoveNumber, MoveSymbol, Move, Load, Store, StoreNumber, StoreByte, StoreHalf, LoadExtended, ExtendByte, ExtendHalf, LoadAddress, Combine, CombineNumber, Negate, Complement, ShiftByNumber, ShiftByCl, ExtendEax, Divide, Compare, CompareNumber, Test, Set, JumpIf, Jump, Call, CallThrough, Return, Push, Pop, Fence, CompareExchange, ExchangeAdd, Exchange}
use Rattle.x86_table.specs.Mnemonic.{text_of}
use Rattle.x86_table.specs.Operand.{shape_of, pattern_of}
use Rattle.x86_table.specs.Instruction.{mnemonic_of, operands_of, form_of}
use Rattle.x86_table.proofs.FormsFit.{form_is_found}
use Rattle.x86_lines.specs.Pieces.{pieces}
use Rattle.x86_print.specs.Printed.{operand_text, second_text, operands_at, instr_text}
use Rattle.x86_lines.specs.Grammar.{AreOperands, NoOperand, OneOperand, TwoOperands, HasShortShift, IsInstr}
use Rattle.x86_lines.proofs.Cuts.{Cuts, CutsAll, IsFresh, cuts_all, cuts_nothing, cuts_after, cuts_then, cuts_any, cuts_whole}
use Rattle.x86_lines.proofs.Found.{any_form, found_fits}
use Rattle.x86_print.proofs.RenderedMemory.{IsPrintable, is_absent, operand_cut}

-- whether an operand is there
absent_is : (o : Operand) → is_absent o ≡ true → o ≡ operand.Absent
absent_is operand.Absent h = refl
absent_is (operand.Word r) h = absurd (false≢true h)
absent_is (operand.Byte r) h = absurd (false≢true h)
absent_is (operand.Half r) h = absurd (false≢true h)
absent_is (operand.Number n) h = absurd (false≢true h)
absent_is (operand.Symbol s) h = absurd (false≢true h)
absent_is (operand.Memory m) h = absurd (false≢true h)
absent_is (operand.Through r) h = absurd (false≢true h)

second_there : (o : Operand) → is_absent o ≡ false → second_text o ≡ codes ", " ++ operand_text o
second_there operand.Absent h = absurd (false≢true (sym h))
second_there (operand.Word r) h = refl
second_there (operand.Byte r) h = refl
second_there (operand.Half r) h = refl
second_there (operand.Number n) h = refl
second_there (operand.Symbol s) h = refl
second_there (operand.Memory m) h = refl
second_there (operand.Through r) h = refl

first_there : (o p : Operand) → is_absent o ≡ false → operands_at o p ≡ 32 ∷ operand_text o ++ second_text p
first_there operand.Absent p h = absurd (false≢true (sym h))
first_there (operand.Word r) p h = refl
first_there (operand.Byte r) p h = refl
first_there (operand.Half r) p h = refl
first_there (operand.Number n) p h = refl
first_there (operand.Symbol s) p h = refl
first_there (operand.Memory m) p h = refl
first_there (operand.Through r) p h = refl

-- no instruction has a second operand alone
pub absent_both : (i : Instr) → is_absent (operands_of i).first ≡ true → is_absent (operands_of i).second ≡ true
absent_both (MoveNumber n r) h = absurd (false≢true h)
absent_both (MoveSymbol s r) h = absurd (false≢true h)
absent_both (Move q r) h = absurd (false≢true h)
absent_both (Load a r) h = absurd (false≢true h)
absent_both (Store r a) h = absurd (false≢true h)
absent_both (StoreNumber n a) h = absurd (false≢true h)
absent_both (StoreByte r a) h = absurd (false≢true h)
absent_both (StoreHalf r a) h = absurd (false≢true h)
absent_both (LoadExtended w s a r) h = absurd (false≢true h)
absent_both (ExtendByte s q r) h = absurd (false≢true h)
absent_both (ExtendHalf s q r) h = absurd (false≢true h)
absent_both (LoadAddress a r) h = absurd (false≢true h)
absent_both (Combine op q r) h = absurd (false≢true h)
absent_both (CombineNumber op n r) h = absurd (false≢true h)
absent_both (Negate r) h = refl
absent_both (Complement r) h = refl
absent_both (ShiftByNumber s n r) h = absurd (false≢true h)
absent_both (ShiftByCl s r) h = absurd (false≢true h)
absent_both ExtendEax h = refl
absent_both (Divide s r) h = refl
absent_both (Compare q r) h = absurd (false≢true h)
absent_both (CompareNumber n r) h = absurd (false≢true h)
absent_both (Test q r) h = absurd (false≢true h)
absent_both (Set c r) h = refl
absent_both (JumpIf c name) h = refl
absent_both (Jump name) h = refl
absent_both (Call name) h = refl
absent_both (CallThrough r) h = refl
absent_both Return h = refl
absent_both (Push r) h = refl
absent_both (Pop r) h = refl
absent_both Fence h = refl
absent_both (CompareExchange r a) h = absurd (false≢true h)
absent_both (ExchangeAdd r a) h = absurd (false≢true h)
absent_both (Exchange r a) h = absurd (false≢true h)

-- the operands behind a mnemonic
pub record OperandsAre (o p : Operand) : Type 0 where
  pub ps : List (List ℕ)
  pub cuts : Cuts (operands_at o p) ps
  pub operands : AreOperands ps (record { first = o; second = p }) (record { first = shape_of o; second = shape_of p })
  pub fresh : IsFresh (operands_at o p)

blank_cut : CutsAll (codes " ") []
blank_cut = record { cut = λ rest. refl }

comma_cut : CutsAll (codes ", ") (codes "," ∷ [])
comma_cut = record { cut = λ rest. refl }

one_cut : (o : Operand) → IsPrintable o → is_absent o ≡ false → OperandsAre o operand.Absent
one_cut o p h =
    let first = operand_cut o p h in
    let text : codes " " ++ operand_text o ≡ operands_at o operand.Absent = ap (λ (t : List ℕ). 32 ∷ t) (sym (append-nil (operand_text o))) ∙ sym (first_there o operand.Absent h) in
    record {
      ps = first.ps;
      cuts = subst (λ (t : List ℕ). Cuts t first.ps) text (cuts_after (codes " ") (operand_text o) [] first.ps blank_cut first.cuts);
      operands = OneOperand first.ps o (shape_of o) first.operand;
      fresh = subst IsFresh text (record { fresh = λ rest stop. refl });
    }

two_cut : (o p : Operand) → IsPrintable o → IsPrintable p → is_absent o ≡ false → is_absent p ≡ false → OperandsAre o p
two_cut o p f g h k =
    let first = operand_cut o f h in
    let second = operand_cut p g k in
    let text : codes " " ++ (operand_text o ++ (codes ", " ++ operand_text p)) ≡ operands_at o p = ap (λ (t : List ℕ). 32 ∷ operand_text o ++ t) (sym (second_there p k)) ∙ sym (first_there o p h) in
    record {
      ps = first.ps ++ codes "," ∷ second.ps;
      cuts = subst (λ (t : List ℕ). Cuts t (first.ps ++ codes "," ∷ second.ps)) text (cuts_after (codes " ") (operand_text o ++ (codes ", " ++ operand_text p)) [] _ blank_cut (cuts_then (operand_text o) (codes ", " ++ operand_text p) first.ps (codes "," ∷ second.ps) first.cuts (record { fresh = λ rest stop. refl }) (cuts_after (codes ", ") (operand_text p) (codes "," ∷ []) second.ps comma_cut second.cuts)));
      operands = TwoOperands first.ps second.ps o p (shape_of o) (shape_of p) first.operand second.operand;
      fresh = subst IsFresh text (record { fresh = λ rest stop. refl });
    }

none_cut : OperandsAre operand.Absent operand.Absent
none_cut = record { ps = []; cuts = cuts_all [] [] cuts_nothing; operands = NoOperand; fresh = record { fresh = λ rest stop. stop } }

operands_cut : (o p : Operand) (a b : Bool) → is_absent o ≡ a → is_absent p ≡ b → (a ≡ true → b ≡ true) → IsPrintable o → IsPrintable p → OperandsAre o p
operands_cut o p true true h k both f g = subst (λ (x : Operand). OperandsAre x p) (sym (absent_is o h)) (subst (λ (x : Operand). OperandsAre operand.Absent x) (sym (absent_is p k)) none_cut)
operands_cut o p true false h k both f g = absurd (false≢true (both refl))
operands_cut o p false true h k both f g = subst (λ (x : Operand). OperandsAre o x) (sym (absent_is p k)) (one_cut o f h)
operands_cut o p false false h k both f g = two_cut o p f g h k

-- an instruction that may be printed
pub record IsPrintableInstr (i : Instr) : Type 0 where
  pub first : IsPrintable (operands_of i).first
  pub second : IsPrintable (operands_of i).second
  pub short : HasShortShift i

pub instr_is : (i : Instr) → IsPrintableInstr i → IsInstr (pieces (instr_text i)) i
instr_is i h =
    let o = (operands_of i).first in
    let p = (operands_of i).second in
    let behind = operands_cut o p (is_absent o) (is_absent p) refl refl (absent_both i) h.first h.second in
    let found = found_fits FORMS (text_of (mnemonic_of i)) (pattern_of (operands_of i)) (form_of i) any_form (form_is_found i (form_of i) refl) in
    let whole : pieces (text_of (mnemonic_of i) ++ operands_at o p) ≡ pieces (text_of (mnemonic_of i)) ++ behind.ps = cuts_whole _ _ (cuts_then (text_of (mnemonic_of i)) (operands_at o p) (pieces (text_of (mnemonic_of i))) behind.ps (cuts_any (text_of (mnemonic_of i))) behind.fresh behind.cuts) in
    record {
      given = behind.ps;
      pattern = pattern_of (operands_of i);
      row = form_of i;
      form = get_or FORMS (form_of i) any_form;
      parts = whole;
      operands = behind.operands;
      stands = slice_get-get_or FORMS (form_of i) any_form found.0;
      fits = found.1;
      short = h.short;
    }
