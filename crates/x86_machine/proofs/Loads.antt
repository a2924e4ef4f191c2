-- The words that stand from an address on.
use Rattle.std.proofs.Common.{◌≡◌, ℕ, zero, suc, ◌+◌, ◌-◌, ◌*◌, ◌≤◌, Bool, true, false, List, [], ◌∷◌, ◌++◌, refl, sym, ap, ◌∙◌, arith, Option, Some, None, add-zero}
use Rattle.std.specs.Prelude.{◌&&◌, MatchOption}
use Rattle.std.proofs.lemmas.List.{append_assoc}
use Rattle.x86_steps.specs.declared.access.Size.TheVariants as size
use Rattle.x86_memory.specs.Bytes.{Bytes, word_at}
use Rattle.x86_lang.specs.Assembly.{Assembly}
use Rattle.x86_machine.specs.Target.{Thread, State, is_right, are_right, seen, words_from}
use Rattle.x86_machine.specs.X86Tso.{word_at_esp}

-- one word more
pub words_more : (b : Bytes) (x n : ℕ) → 1 ≤ n → words_from b x n ≡ word_at b size.Word x ∷ words_from b (x + 4) (n - 1)
words_more b x zero h = absurd (omega arith)
words_more b x (suc n) h = let e : n ≡ suc n - 1 = omega arith in ap (λ k. word_at b size.Word x ∷ words_from b (x + 4) k) e

pub words_step : (b : Bytes) (ws : List ℕ) (x n w : ℕ) (all : List ℕ) → 1 ≤ n → w ≡ word_at b size.Word x → ws ++ words_from b x n ≡ all → (ws ++ w ∷ []) ++ words_from b (x + 4) (n - 1) ≡ all
words_step b ws x n w all h e f =
    append_assoc ws (w ∷ []) (words_from b (x + 4) (n - 1)) ∙ (ap (λ v. ws ++ v ∷ words_from b (x + 4) (n - 1)) e ∙ (ap (λ us. ws ++ us) (sym (words_more b x n h)) ∙ f))

pub right_step : (a : Assembly) (m : State) (x n : ℕ) → 1 ≤ n → is_right a m size.Word x ≡ true → are_right a m (x + 4) (n - 1) ≡ are_right a m x n
right_step a m x zero h e = absurd (omega arith)
right_step a m x (suc n) h e = let k : suc n - 1 ≡ n = omega arith in rw e (ap (λ j. are_right a m (x + 4) j) k)

pub right_fails : (a : Assembly) (m : State) (x n : ℕ) → 1 ≤ n → is_right a m size.Word x ≡ false → are_right a m x n ≡ false
right_fails a m x zero h e = absurd (omega arith)
right_fails a m x (suc n) h e = rw e refl

-- the word at the stack pointer
one_right : (a : Assembly) (m : State) (x : ℕ) (b : Bool) → is_right a m size.Word x ≡ b → are_right a m x 1 ≡ b
one_right a m x true e = rw e refl
one_right a m x false e = rw e refl

pub first_word_from : (a : Assembly) (m : State) (u t : Thread) (x : ℕ) (r : Option ℕ) → u ≡ t → x ≡ u.registers.esp → MatchOption r (is_right a m size.Word x ≡ false) (λ w. (is_right a m size.Word x ≡ true) × (w ≡ word_at (seen m u) size.Word x)) → MatchOption r (are_right a m t.registers.esp 1 ≡ false) (λ w. (are_right a m t.registers.esp 1 ≡ true) × (w ≡ word_at_esp m t 0))
first_word_from a m u t x None e f h =
    let at : x ≡ t.registers.esp = f ∙ ap (λ (v : Thread). v.registers.esp) e in
    one_right a m t.registers.esp false (ap (λ y. is_right a m size.Word y) (sym at) ∙ h)
first_word_from a m u t x (Some w) e f h =
    let at : x ≡ t.registers.esp = f ∙ ap (λ (v : Thread). v.registers.esp) e in (
      one_right a m t.registers.esp true (ap (λ y. is_right a m size.Word y) (sym at) ∙ h.0),
      h.1 ∙ (ap (λ (v : Thread). word_at (seen m v) size.Word x) e ∙ ap (λ y. word_at (seen m t) size.Word y) (at ∙ sym (add-zero t.registers.esp))),
    )

-- the two words there
two_right : (a : Assembly) (m : State) (x y : ℕ) (p q : Bool) → y ≡ x + 4 → is_right a m size.Word x ≡ p → is_right a m size.Word y ≡ q → are_right a m x 2 ≡ (p && q)
two_right a m x y true true e f g = rw (f, ap (λ z. is_right a m size.Word z) (sym e) ∙ g) refl
two_right a m x y true false e f g = rw (f, ap (λ z. is_right a m size.Word z) (sym e) ∙ g) refl
two_right a m x y false q e f g = rw f refl

module _ (a : Assembly) (m : State) (u t : Thread) (x : ℕ) (e : u ≡ t) (f : x ≡ u.registers.esp) where
  at_esp : x ≡ t.registers.esp
  at_esp = f ∙ ap (λ (v : Thread). v.registers.esp) e

  pub two_words_none : is_right a m size.Word x ≡ false → are_right a m t.registers.esp 2 ≡ false
  two_words_none h = two_right a m t.registers.esp (t.registers.esp + 4) false (is_right a m size.Word (t.registers.esp + 4)) refl (ap (λ y. is_right a m size.Word y) (sym at_esp) ∙ h) refl

  pub two_words_one : is_right a m size.Word x ≡ true → is_right a m size.Word (x + 4) ≡ false → are_right a m t.registers.esp 2 ≡ false
  two_words_one h k = two_right a m t.registers.esp (t.registers.esp + 4) true false refl (ap (λ y. is_right a m size.Word y) (sym at_esp) ∙ h) (ap (λ y. is_right a m size.Word (y + 4)) (sym at_esp) ∙ k)

  pub two_words_both : is_right a m size.Word x ≡ true → is_right a m size.Word (x + 4) ≡ true → are_right a m t.registers.esp 2 ≡ true
  two_words_both h k = two_right a m t.registers.esp (t.registers.esp + 4) true true refl (ap (λ y. is_right a m size.Word y) (sym at_esp) ∙ h) (ap (λ y. is_right a m size.Word (y + 4)) (sym at_esp) ∙ k)

  pub word_first : (w : ℕ) → w ≡ word_at (seen m u) size.Word x → w ≡ word_at_esp m t 0
  word_first w h = h ∙ (ap (λ (v : Thread). word_at (seen m v) size.Word x) e ∙ ap (λ y. word_at (seen m t) size.Word y) (at_esp ∙ sym (add-zero t.registers.esp)))

  pub word_second : (w : ℕ) → w ≡ word_at (seen m u) size.Word (x + 4) → w ≡ word_at_esp m t 1
  word_second w h = h ∙ (ap (λ (v : Thread). word_at (seen m v) size.Word (x + 4)) e ∙ ap (λ y. word_at (seen m t) size.Word (y + 4)) at_esp)
