-- What holds of what a part of a file makes, where it has no fault.
use Rattle.std.proofs.Common.{◌≡◌, ℕ, Bool, true, false, ◌&&◌, not, true≢false, refl, sym, ◌∙◌, subst}
use Rattle.clight_types.specs.declared.rule.Rule.{Rule}
use Rattle.clight_types.specs.Judged.{Judged, value, fault, and_then, unless}

unfoldable pub Holds : {A : Type 0} → Judged A → (A → Type 0) → Type 0
Holds (value a) P = P a
Holds (fault r at j) P = Unit {0}

pub of_value : {A : Type 0} (a : A) (P : A → Type 0) → P a → Holds (value a) P
unfolding Holds
of_value a P h = h

pub of_fault : {A : Type 0} (r : Rule) (at : ℕ) (j : Judged A) (P : A → Type 0) → Holds (fault r at j) P
unfolding Holds
of_fault r at j P = tt

pub of_then : {A B : Type 0} (j : Judged A) (next : A → Judged B) (Q : A → Type 0) (P : B → Type 0) → Holds j Q → ((a : A) → Q a → Holds (next a) P) → Holds (and_then j next) P
unfolding Holds
of_then (value a) next Q P h f = f a h
of_then (fault r at j) next Q P h f = tt

pub of_unless : {A : Type 0} (c : Bool) (r : Rule) (at : ℕ) (j : Judged A) (P : A → Type 0) → (c ≡ true → Holds j P) → Holds (unless c r at j) P
unfolding Holds
of_unless true r at j P h = h refl
of_unless false r at j P h = tt

pub holds_more : {A : Type 0} (j : Judged A) (P Q : A → Type 0) → ((a : A) → P a → Q a) → Holds j P → Holds j Q
unfolding Holds
holds_more (value a) P Q f h = f a h
holds_more (fault r at j) P Q f h = tt

open_value : {A : Type 0} (a : A) (P : A → Type 0) → Holds (value a) P → P a
unfolding Holds
open_value a P h = h

pub of_made : {A : Type 0} (j : Judged A) (a : A) (P : A → Type 0) → j ≡ value a → Holds j P → P a
of_made j a P e h = open_value a P (subst (λ i. Holds i P) e h)

-- tests that have passed
pub both_true : (a b : Bool) → (a && b) ≡ true → (a ≡ true) × (b ≡ true)
both_true true b e = (refl, e)
both_true false b e = absurd (true≢false (sym e))

pub not_true : (a : Bool) → not a ≡ true → a ≡ false
not_true true e = absurd (true≢false (sym e))
not_true false e = refl

pub not_both : (a : Bool) → a ≡ true → a ≡ false → ⊥
not_both a t f = true≢false (sym t ∙ f)
