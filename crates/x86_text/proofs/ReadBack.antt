-- The answer of the code is the only one, and the printed form of an assembly is read as that assembly.
use Rattle.std.proofs.Common.{◌≡◌, ◌⊎◌, ℕ, List, ap, inl, subst, sym}
use Rattle.x86_lang.specs.declared.assembly.Parts.{Parts}
use Rattle.x86_lang.specs.Whole.{IsWhole}
use Rattle.x86_text.specs.declared.assembling.Outcome.{Outcome}
use Rattle.x86_text.specs.declared.assembling.Outcome.TheVariants.{Whole, BadLine}
use Rattle.x86_text.specs.declared.reading.ReadAsmRefusal.{ReadAsmRefusal}
use Rattle.x86_text.specs.declared.reading.ReadAsmRefusal.TheVariants.{BadText, NoMemory}
use Rattle.x86_text.specs.Judging.{IsOutcomeOf}
use Rattle.x86_text.specs.Text.{AsmOf}
use Rattle.x86_text.specs.Bad.{IsBadText}
use Rattle.x86_text.specs.Printed.{printed}
use Rattle.x86_text.proofs.Assembled.{printed_is_text}
use Rattle.x86_text.proofs.OneSaying.{one_asm}
use Rattle.x86_text.proofs.OneBad.{one_bad}
use Rattle.x86_text.proofs.Excluded.{asm_has_no_bad}

-- where the code has parts
pub whole_reads : (text : List ℕ) (outcome : Outcome) (p a : Parts) → outcome ≡ Whole p → IsOutcomeOf text outcome → AsmOf text a → p ≡ a
whole_reads text outcome p a e h k = one_asm text p a (subst (IsOutcomeOf text) e h) k

pub whole_is_good : (text : List ℕ) (outcome : Outcome) (p : Parts) (n : ℕ) → outcome ≡ Whole p → IsOutcomeOf text outcome → IsBadText text n → ⊥
whole_is_good text outcome p n e h k = asm_has_no_bad text p n (subst (IsOutcomeOf text) e h) k

-- where it has a bad line
pub bad_has_none : (text : List ℕ) (outcome : Outcome) (n : ℕ) (a : Parts) → outcome ≡ BadLine n → IsOutcomeOf text outcome → AsmOf text a → ⊥
bad_has_none text outcome n a e h k = asm_has_no_bad text a n k (subst (IsOutcomeOf text) e h)

pub bad_refuses : (text : List ℕ) (outcome : Outcome) (n m : ℕ) → outcome ≡ BadLine n → IsOutcomeOf text outcome → IsBadText text m → (BadText n ≡ BadText m) ⊎ (BadText n ≡ NoMemory)
bad_refuses text outcome n m e h k = inl (ap (λ (x : ℕ). let r : ReadAsmRefusal = BadText x in r) (one_bad text n m (subst (IsOutcomeOf text) e h) k))

-- the printed form
pub printed_asm : (text : List ℕ) (a : Parts) → IsWhole a → text ≡ printed a → AsmOf text a
printed_asm text a w e = subst (λ (t : List ℕ). AsmOf t a) (sym e) (printed_is_text a w)
