-- The number of a function type, as a look-up by the type finds it.
use Rattle.std.proofs.Common.{◌≡◌, ℕ, List, Bool, true, false, refl, sym, ap, ◌∙◌, nat_eq, eq-eqb, eqb-true, true≢false}
use Rattle.std.specs.Prelude.{position, unwrap_or}
use Rattle.clight_placing.specs.Placing.{number_of_type}

turned : (n m : ℕ) → nat_eq n m ≡ nat_eq m n
turned n m = by (nat_eq n m) refl (nat_eq m n) refl
  where
    by : (a : Bool) → nat_eq n m ≡ a → (b : Bool) → nat_eq m n ≡ b → a ≡ b
    by true e true f = refl
    by false e false f = refl
    by true e false f = absurd (true≢false (sym (eq-eqb m n (sym (eqb-true n m e))) ∙ f))
    by false e true f = absurd (true≢false (sym (eq-eqb n m (sym (eqb-true m n f))) ∙ e))

pub number_at : (t : ℕ) (ts : List ℕ) → unwrap_or (position (nat_eq t) ts) 0 ≡ number_of_type ts t
number_at t ts =
    let same : nat_eq t ≡ (λ u. nat_eq u t) = λ i u. turned t u i in
    ap (λ (p : ℕ → Bool). unwrap_or (position p ts) 0) same
