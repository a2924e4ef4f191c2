-- A set of numbers by the list of them, in the order in which they came.
use Rattle.std.proofs.Common.{◌≡◌, ℕ, Bool, true, false, not, cond, List, [], ◌∷◌, ◌++◌, nat_eq, refl, sym, ap, ◌∙◌, true≢false}
use Rattle.std.specs.Prelude.{◌==◌, ◌||◌}
use Rattle.std.specs.List.{list_any}
use Rattle.std.specs.Cmp.{nat_eq_equiv}
use Rattle.indexmap.specs.IndexSet.{insert_key}
use Rattle.clight_types.specs.declared.kind.Constant.TheVariants.{Known}
use Rattle.clight_typing.specs.Statements.{is_new}

any_other : (ks : List ℕ) (n : ℕ) → list_any (nat_eq n) ks ≡ list_any (λ x. x == n) ks
any_other [] n = refl
any_other (k ∷ ks) n = ap (λ b. b || list_any (nat_eq n) ks) (nat_eq_equiv.symm n k) ∙ ap (λ b. nat_eq k n || b) (any_other ks n)

pub new_number : (ks : List ℕ) (n : ℕ) → not (list_any (nat_eq n) ks) ≡ is_new ks (Known n)
new_number ks n = ap not (any_other ks n)

pub number_noted : (ks : List ℕ) (n : ℕ) → is_new ks (Known n) ≡ true → insert_key nat_eq ks n ≡ ks ++ n ∷ []
number_noted ks n h = by (list_any (nat_eq n) ks) (new_number ks n ∙ h)
  where
    by : (b : Bool) → not b ≡ true → cond b ks (ks ++ n ∷ []) ≡ ks ++ n ∷ []
    by true e = absurd (true≢false (sym e))
    by false e = refl
