-- A walk over the multiples of 16 finds the least that passes a test, or that none does.
use Rattle.std.proofs.Common.{◌≡◌, ◌≤◌, ◌<◌, ◌+◌, ◌%◌, ◌⊎◌, inl, inr, ℕ, Bool, true, false, refl, arith}
use Rattle.std.specs.Prelude.{◌&&◌, ◌==◌, nat_le}
use Rattle.std.proofs.lemmas.Bool.{cases_lt, both_ways, le-leb, leb-true, eq-eqb}
use Rattle.x86_machine.specs.Target.{lies_in}
use Rattle.tso_core.specs.Least.{IsLeast, NonePasses, NoneBetween}
use Rattle.x86_machine.specs.Choices.{IsLeastOrZero}

-- a base is allowed at a multiple of 16, in a range, and where nothing stands in the way
abbrev pub is_base : (from bytes size : ℕ) → (ℕ → Bool) → ℕ → Bool
is_base from bytes size clear x = (x % 16 == 0) && (lies_in from bytes x size && clear x)

false_last : (a b c : Bool) → c ≡ false → (a && (b && c)) ≡ false
false_last true true c e = e
false_last true false c e = refl
false_last false b c e = refl

false_middle : (a b c : Bool) → b ≡ false → (a && (b && c)) ≡ false
false_middle true true c e = cc
false_middle true false c e = refl
false_middle false b c e = refl

all_true : (a b c d : Bool) → a ≡ true → b ≡ true → c ≡ true → d ≡ true → (a && ((b && c) && d)) ≡ true
all_true true true true d e f g h = h
all_true true true false d e f g h = g
all_true true false c d e f g h = f
all_true false b c d e f g h = e

module _ (from bytes size : ℕ) (clear : ℕ → Bool) where
  unclear : (x : ℕ) → clear x ≡ false → is_base from bytes size clear x ≡ false
  unclear x e = false_last (x % 16 == 0) (lies_in from bytes x size) (clear x) e

  -- the walk has come to an address in whose way nothing stands
  pub found_least : (x : ℕ) → NoneBetween clear from x → from ≤ x → x % 16 ≡ 0 → x + size ≤ from + bytes → clear x ≡ true → IsLeastOrZero from (is_base from bytes size clear) x
  found_least x none l m h e = inl (record {
    high = l;
    multiple = m;
    passes = all_true (x % 16 == 0) (nat_le from x) (nat_le (x + size) (from + bytes)) (clear x) (eq-eqb (x % 16) 0 m) (le-leb from x l) (le-leb (x + size) (from + bytes) h) e;
    least = λ y k n t. least_at y k n t (cases_lt y x);
  })
    where
      least_at : (y : ℕ) → from ≤ y → y % 16 ≡ 0 → is_base from bytes size clear y ≡ true → (y < x) ⊎ (x ≤ y) → x ≤ y
      least_at y k n t (inl lt) = absurd (both_ways (is_base from bytes size clear y) (unclear y (none y k lt n)) t)
      least_at y k n t (inr ge) = ge

  -- the walk has left the range
  pub found_none : (x : ℕ) → NoneBetween clear from x → from + bytes < x + size → IsLeastOrZero from (is_base from bytes size clear) 0
  found_none x none h = inr (refl, λ y k n. none_at y k n (cases_lt y x))
    where
      beyond : (y : ℕ) → x ≤ y → lies_in from bytes y size ≡ false
      beyond y ge = past (nat_le from y) (nat_le (y + size) (from + bytes)) (λ t. absurd (let le : y + size ≤ from + bytes = leb-true (y + size) (from + bytes) t in omega arith))
        where
          past : (a b : Bool) → (b ≡ true → (a && b) ≡ false) → (a && b) ≡ false
          past true true f = f refl
          past true false f = refl
          past false b f = refl

      none_at : (y : ℕ) → from ≤ y → y % 16 ≡ 0 → (y < x) ⊎ (x ≤ y) → is_base from bytes size clear y ≡ false
      none_at y k n (inl lt) = unclear y (none y k lt n)
      none_at y k n (inr ge) = false_middle (y % 16 == 0) (lies_in from bytes y size) (clear y) (beyond y ge)
