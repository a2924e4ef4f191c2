-- What a field writes: threads, counts, choices and words.
use Rattle.std.specs.Prelude.{◌==◌, codes, bytes_eq, option_and_then}
use Rattle.std.proofs.Common.{◌≡◌, ℕ, ◌+◌, ◌-◌, ◌%◌, ◌^◌, ◌<◌, ◌≤◌, Bool, true, false, cond, List, [], ◌∷◌, Option, Some, None, refl, ap, sym, ◌∙◌, subst, arith}
use Rattle.std.proofs.lemmas.Bool.{eqb-true}
use Rattle.std.proofs.lemmas.Bool.Decides.{nat_tests}
use Rattle.std.proofs.lemmas.Slice.Eq.{bytes_eq-Decides}
use Rattle.schedule_text.specs.declared.line.Word.{Word}
use Rattle.schedule_text.specs.declared.line.Word.TheVariants as W
use Rattle.schedule_text.specs.Text.{digit_value, AreDigits, IsNumber, IsChoice, Plain, Negative, Hexadecimal}
use Rattle.schedule_text.specs.Scanning.{number_of, thread_of, count_of, negative_of, choice_behind_zero, choice_of, word_of}
use Rattle.schedule_text.proofs.Numbers.{number_sound, number_complete, word_below}

pub thread_sound : (field : List ℕ) (n : ℕ) → thread_of field ≡ Some n → IsNumber (2 ^ 32) field n
thread_sound field n e = let w = number_sound 10 20 4294967295 n field e in record { numeral = w.0; below = let le : n ≤ 4294967295 = w.1 in omega arith }

pub thread_complete : (field : List ℕ) (n : ℕ) → IsNumber (2 ^ 32) field n → thread_of field ≡ Some n
thread_complete field n h = number_complete 10 20 4294967295 n field (omega arith) (omega arith) h.numeral (let lt : n < 2 ^ 32 = h.below in omega arith)

pub count_sound : (field : List ℕ) (n : ℕ) → count_of field ≡ Some n → IsNumber (2 ^ 64) field n
count_sound field n e = let w = number_sound 10 20 18446744073709551615 n field e in record { numeral = w.0; below = let le : n ≤ 18446744073709551615 = w.1 in omega arith }

pub count_complete : (field : List ℕ) (n : ℕ) → IsNumber (2 ^ 64) field n → count_of field ≡ Some n
count_complete field n h = number_complete 10 20 18446744073709551615 n field (omega arith) (omega arith) h.numeral (let lt : n < 2 ^ 64 = h.below in omega arith)

some_of : {A B : Type 0} (f : A → B) (o : Option A) (y : B) → option_and_then (λ x. Some (f x)) o ≡ Some y → (x : A) × (o ≡ Some x) × (f x ≡ y)
some_of f None y e = cc
some_of f (Some x) y e = (x, refl, cc)

-- choices
negative_sound : (field : List ℕ) (n : ℕ) → negative_of field ≡ Some n → IsChoice (45 ∷ field) n
negative_sound field n e =
    let w = some_of (λ m. (4294967296 - m) % 4294967296) (number_of 10 20 2147483648 field) n e in
    let s = number_sound 10 20 2147483648 w.0 field w.1 in
    let number : IsNumber (2 ^ 31 + 1) field w.0 = record { numeral = s.0; below = let le : w.0 ≤ 2147483648 = s.1 in omega arith } in
    subst (λ (v : ℕ). IsChoice (45 ∷ field) v) w.2 (Negative field w.0 number)

hexadecimal_sound : (field : List ℕ) (n : ℕ) → number_of 16 8 4294967295 field ≡ Some n → IsChoice (48 ∷ 120 ∷ field) n
hexadecimal_sound field n e = Hexadecimal field n (number_sound 16 8 4294967295 n field e).0

behind_zero_cases : (b n : ℕ) (bs : List ℕ) (t : Bool) → (b == 120) ≡ t → cond t (number_of 16 8 4294967295 bs) (thread_of (48 ∷ b ∷ bs)) ≡ Some n → IsChoice (48 ∷ b ∷ bs) n
behind_zero_cases b n bs true is e = subst (λ (v : ℕ). IsChoice (48 ∷ v ∷ bs) n) (sym (eqb-true b 120 is)) (hexadecimal_sound bs n e)
behind_zero_cases b n bs false is e = Plain (48 ∷ b ∷ bs) n (thread_sound (48 ∷ b ∷ bs) n e)

behind_zero_sound : (n : ℕ) (bs : List ℕ) → choice_behind_zero (48 ∷ bs) bs ≡ Some n → IsChoice (48 ∷ bs) n
behind_zero_sound n [] e = Plain (48 ∷ []) n (thread_sound (48 ∷ []) n e)
behind_zero_sound n (b ∷ bs) e = behind_zero_cases b n bs (b == 120) refl e

choice_cases : (b n : ℕ) (bs : List ℕ) (t u : Bool) → (b == 45) ≡ t → (b == 48) ≡ u → cond t (negative_of bs) (cond u (choice_behind_zero (b ∷ bs) bs) (thread_of (b ∷ bs))) ≡ Some n → IsChoice (b ∷ bs) n
choice_cases b n bs true u is zero e = subst (λ (v : ℕ). IsChoice (v ∷ bs) n) (sym (eqb-true b 45 is)) (negative_sound bs n e)
choice_cases b n bs false true is zero e =
    let same = eqb-true b 48 zero in
    subst (λ (v : ℕ). IsChoice (v ∷ bs) n) (sym same) (behind_zero_sound n bs (subst (λ (v : ℕ). choice_behind_zero (v ∷ bs) bs ≡ Some n) same e))
choice_cases b n bs false false is zero e = Plain (b ∷ bs) n (thread_sound (b ∷ bs) n e)

pub choice_sound : (field : List ℕ) (n : ℕ) → choice_of field ≡ Some n → IsChoice field n
choice_sound [] n e = cc
choice_sound (b ∷ bs) n e = choice_cases b n bs (b == 45) (b == 48) refl refl e

-- no '-' and no 'x' is a decimal digit
no_digit : (b low : ℕ) → digit_value b < 10 → (b ≡ 45 → ⊥) × (b ≡ 120 → ⊥)
no_digit b low h = (λ e. absurd (let v : digit_value 45 < 10 = subst (λ (x : ℕ). digit_value x < 10) e h in omega arith), λ e. absurd (let v : digit_value 120 < 10 = subst (λ (x : ℕ). digit_value x < 10) e h in omega arith))

different : (a b : ℕ) → (a ≡ b → ⊥) → (a == b) ≡ false
different a b h = grind (arith, nat_tests)

plain_zero : (b : ℕ) (bs field : List ℕ) (n : ℕ) → AreDigits 10 bs → thread_of field ≡ Some n → choice_behind_zero field bs ≡ Some n
plain_zero b [] field n are e = e
plain_zero b (c ∷ cs) field n are e = ap (λ t. cond t (number_of 16 8 4294967295 cs) (thread_of field)) (different c 120 (no_digit c 0 are.0).1) ∙ e

plain_cases : (b : ℕ) (bs : List ℕ) (n : ℕ) (u : Bool) → AreDigits 10 bs → thread_of (b ∷ bs) ≡ Some n → cond u (choice_behind_zero (b ∷ bs) bs) (thread_of (b ∷ bs)) ≡ Some n
plain_cases b bs n true are e = plain_zero b bs (b ∷ bs) n are e
plain_cases b bs n false are e = e

plain_complete : (field : List ℕ) (n : ℕ) → IsNumber (2 ^ 32) field n → choice_of field ≡ Some n
plain_complete [] n h = absurd (let some : 1 ≤ 0 = h.numeral.some in omega arith)
plain_complete (b ∷ bs) n h =
    ap (λ t. cond t (negative_of bs) (cond (b == 48) (choice_behind_zero (b ∷ bs) bs) (thread_of (b ∷ bs)))) (different b 45 (no_digit b 0 h.numeral.digits.0).0)
    ∙ plain_cases b bs n (b == 48) h.numeral.digits.1 (thread_complete (b ∷ bs) n h)

pub choice_complete : (field : List ℕ) (n : ℕ) → IsChoice field n → choice_of field ≡ Some n
choice_complete field n (Plain f m h) = plain_complete f m h
choice_complete field n (Negative f m h) = ap (option_and_then (λ x. Some ((4294967296 - x) % 4294967296))) (number_complete 10 20 2147483648 m f (omega arith) (omega arith) h.numeral (let lt : m < 2 ^ 31 + 1 = h.below in omega arith))
choice_complete field n (Hexadecimal f m h) = number_complete 16 8 4294967295 m f (omega arith) (omega arith) h (word_below f m h)

-- words
abbrev pub name_of : Word → List ℕ
name_of W.Run = codes "run"
name_of W.Drain = codes "drain"
name_of W.Hold = codes "hold"
name_of W.Lazy = codes "lazy"
name_of W.Auto = codes "auto"

is_word : (field : List ℕ) (w v : Word) → bytes_eq field (name_of w) ≡ true → Some w ≡ Some v → field ≡ name_of v
is_word field w v e same = (bytes_eq-Decides field (name_of w)).0 e ∙ ap name_of (let x : w ≡ v = cc in x)

word_cases : (field : List ℕ) (v : Word) (r d h l a : Bool) → bytes_eq field (codes "run") ≡ r → bytes_eq field (codes "drain") ≡ d → bytes_eq field (codes "hold") ≡ h → bytes_eq field (codes "lazy") ≡ l → bytes_eq field (codes "auto") ≡ a → cond r (Some W.Run) (cond d (Some W.Drain) (cond h (Some W.Hold) (cond l (Some W.Lazy) (cond a (Some W.Auto) None)))) ≡ Some v → field ≡ name_of v
word_cases field v true d h l a er ed eh el ea e = is_word field W.Run v er e
word_cases field v false true h l a er ed eh el ea e = is_word field W.Drain v ed e
word_cases field v false false true l a er ed eh el ea e = is_word field W.Hold v eh e
word_cases field v false false false true a er ed eh el ea e = is_word field W.Lazy v el e
word_cases field v false false false false true er ed eh el ea e = is_word field W.Auto v ea e
word_cases field v false false false false false er ed eh el ea e = cc

pub word_sound : (field : List ℕ) (v : Word) → word_of field ≡ Some v → field ≡ name_of v
word_sound field v e = word_cases field v (bytes_eq field (codes "run")) (bytes_eq field (codes "drain")) (bytes_eq field (codes "hold")) (bytes_eq field (codes "lazy")) (bytes_eq field (codes "auto")) refl refl refl refl refl e
