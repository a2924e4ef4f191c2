-- The printed form of an instruction is one of the grammar: operands.
use Rattle.std.proofs.Common.{◌≡◌, ℕ, ◌+◌, ◌-◌, ◌%◌, ◌^◌, ◌<◌, ◌≤◌, List, [], ◌∷◌, refl, subst, Bool, true, false, cond, arith, lit<}
use Rattle.std.specs.Prelude.{codes, nat_lt}
use Rattle.std.specs.Fmt.{decimal}
use Rattle.std.proofs.lemmas.Bool.{ltb-false}
use Rattle.std.proofs.Math.Nat.{mod-eq_of_lt}
use Rattle.std.proofs.lemmas.Fmt.{decimal_is_IsNumeral_wide}
use Rattle.x86_table.specs.declared.register.Register.{Register}
use Rattle.x86_table.specs.declared.register.Register.TheVariants as word
use Rattle.x86_table.specs.declared.register.ByteRegister.{ByteRegister}
use Rattle.x86_table.specs.declared.register.ByteRegister.TheVariants as byte
use Rattle.x86_table.specs.declared.register.HalfRegister.{HalfRegister}
use Rattle.x86_table.specs.declared.register.HalfRegister.TheVariants as half
use Rattle.x86_lines.specs.Numbers.{IsNumber, Decimal, Negative, InWidth, Positive, Below, IsBits, IsCount, Plain}
use Rattle.x86_print.specs.Printed.{signed_text, word_text}
use Rattle.x86_lines.specs.Registers.{register_text, byte_text, half_text}
use Rattle.x86_lines.proofs.Cuts.{Cuts, cuts_word, cuts_decimal, cuts_minus}

pub cuts_register : (r : Register) → Cuts (register_text r) (register_text r ∷ [])
cuts_register word.Eax = cuts_word 37 (codes "eax") refl refl refl
cuts_register word.Ebx = cuts_word 37 (codes "ebx") refl refl refl
cuts_register word.Ecx = cuts_word 37 (codes "ecx") refl refl refl
cuts_register word.Edx = cuts_word 37 (codes "edx") refl refl refl
cuts_register word.Esi = cuts_word 37 (codes "esi") refl refl refl
cuts_register word.Edi = cuts_word 37 (codes "edi") refl refl refl
cuts_register word.Ebp = cuts_word 37 (codes "ebp") refl refl refl
cuts_register word.Esp = cuts_word 37 (codes "esp") refl refl refl

pub cuts_byte : (r : ByteRegister) → Cuts (byte_text r) (byte_text r ∷ [])
cuts_byte byte.Al = cuts_word 37 (codes "al") refl refl refl
cuts_byte byte.Bl = cuts_word 37 (codes "bl") refl refl refl
cuts_byte byte.Cl = cuts_word 37 (codes "cl") refl refl refl
cuts_byte byte.Dl = cuts_word 37 (codes "dl") refl refl refl

pub cuts_half : (r : HalfRegister) → Cuts (half_text r) (half_text r ∷ [])
cuts_half half.Ax = cuts_word 37 (codes "ax") refl refl refl
cuts_half half.Bx = cuts_word 37 (codes "bx") refl refl refl
cuts_half half.Cx = cuts_word 37 (codes "cx") refl refl refl
cuts_half half.Dx = cuts_word 37 (codes "dx") refl refl refl
cuts_half half.Si = cuts_word 37 (codes "si") refl refl refl
cuts_half half.Di = cuts_word 37 (codes "di") refl refl refl
cuts_half half.Bp = cuts_word 37 (codes "bp") refl refl refl

-- numbers
decimal_is : (n : ℕ) → n < 10 ^ 64 → IsNumber (decimal n) false n
decimal_is n h = let k = decimal_is_IsNumeral_wide n h in subst (IsNumber (decimal n) false) k.1 (Decimal (decimal n) k.0)

minus_is : (n : ℕ) → n < 10 ^ 64 → IsNumber (45 ∷ decimal n) true n
minus_is n h = let k = decimal_is_IsNumeral_wide n h in subst (IsNumber (45 ∷ decimal n) true) k.1 (Negative (decimal n) k.0)

pub count_is : (n : ℕ) → n < 10 ^ 64 → IsCount (decimal n) n
count_is n h = Plain (decimal n) n (decimal_is n h)

-- the bits of a number below 0
below_bits : (h n : ℕ) → h ≤ n → n < h + h → (h + h - (h + h - n)) % (h + h) ≡ n
below_bits h n low high = let e : h + h - (h + h - n) ≡ n = omega arith in rw e (mod-eq_of_lt high)

-- the piece of a signed decimal, and what it stands for
pub record SignedCut (h n : ℕ) (text : List ℕ) : Type 0 where
  pub cuts : Cuts text (text ∷ [])
  pub bits : IsBits h text n

signed_at : (h n : ℕ) (small : Bool) → nat_lt n h ≡ small → n < h + h → h + h < 10 ^ 64 → SignedCut h n (cond small (decimal n) (45 ∷ decimal (h + h - n)))
signed_at h n true e high low =
    let bound : n < 10 ^ 64 = omega arith in
    record { cuts = cuts_decimal n bound; bits = record { negative = false; size = n; number = decimal_is n bound; ranges = Positive n high } }
signed_at h n false e high low =
    let above : h ≤ n = ltb-false n h e in
    let size : ℕ = h + h - n in
    let bound : h + h - n < 10 ^ 64 = omega arith in
    let range : InWidth h true (h + h - n) n = subst (InWidth h true (h + h - n)) (below_bits h n above high) (Below (h + h - n) (omega arith)) in
    record { cuts = cuts_minus (h + h - n) bound; bits = record { negative = true; size = h + h - n; number = minus_is (h + h - n) bound; ranges = range } }

pub signed_cut : (h n : ℕ) → n < h + h → h + h < 10 ^ 64 → SignedCut h n (signed_text h n)
signed_cut h n high low = signed_at h n (nat_lt n h) refl high low

pub word_cut : (n : ℕ) → n < 4294967296 → SignedCut 2147483648 n (word_text n)
word_cut n high = signed_cut 2147483648 n high (lit< tt)
