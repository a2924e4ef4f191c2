-- Sizes that are kept: once past the limit the value stays past it.
use Rattle.std.proofs.Common.{◌≡◌, ℕ, ◌+◌, ◌*◌, ◌^◌, ◌≤◌, List, [], ◌∷◌, length, get_or, refl, sym, ap, Bool, true, false, cond, Some, None, arith}
use Rattle.std.specs.Prelude.{nat_lt}
use Rattle.std.specs.Char.{digit_value}
use Rattle.std.proofs.Math.Nat.{mul-le-mul_left}
use Rattle.std.proofs.lemmas.Bool.{ltb-false, le-ltb}
use Rattle.x86_lines.specs.Reading.{kept, value_on}

value_step : (radix n d : ℕ) → 1 ≤ radix → n ≤ n * radix + d
value_step radix n d low = omega (arith, mul-le-mul_left n low)

pub value_grows : (radix n : ℕ) (ds : List ℕ) → 1 ≤ radix → n ≤ value_on radix n ds
value_grows radix n [] low = omega arith
value_grows radix n (b ∷ bs) low = omega (arith, value_step radix n (digit_value b) low, value_grows radix (n * radix + digit_value b) bs low)

none_at : (n : ℕ) (small : Bool) → nat_lt n (2 ^ 128) ≡ small → None ≡ cond small (Some n) None → 2 ^ 128 ≤ n
none_at n true e h = absurd (let k : None ≡ Some n = h in cc)
none_at n false e h = ltb-false n (2 ^ 128) e

pub kept_none : (n : ℕ) → None ≡ kept n → 2 ^ 128 ≤ n
kept_none n h = none_at n (nat_lt n (2 ^ 128)) refl h

pub kept_large : (n : ℕ) → 2 ^ 128 ≤ n → None ≡ kept n
kept_large n h = sym (ap (λ (t : Bool). cond t (Some n) None) (le-ltb n (2 ^ 128) h))

pub stays_past : (radix size v : ℕ) (rest : List ℕ) → 1 ≤ radix → 1 ≤ length rest → None ≡ kept (size * radix + digit_value (get_or rest 0 0)) → value_on radix size rest ≡ v → None ≡ kept v
stays_past radix size v [] low some h e = absurd (let k : 1 ≤ 0 = some in omega arith)
stays_past radix size v (b ∷ bs) low some h e =
    let large : 2 ^ 128 ≤ size * radix + digit_value b = kept_none (size * radix + digit_value b) h in
    kept_large v (omega (arith, large, e, value_grows radix (size * radix + digit_value b) bs low))
