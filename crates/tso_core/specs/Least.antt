-- The least address that a machine can choose: the least multiple of 16 that passes a test, and walks that leave out those that cannot pass (a rule of this project: the least choice that is allowed, so that runs of a schedule repeat).
use Rattle.std.specs.Prelude.{◌≡◌, ◌≤◌, ◌<◌, ◌%◌, ℕ, Bool, true, false}

-- the least multiple of 16 from an address on that passes a test
pub record IsLeast (from : ℕ) (test : ℕ → Bool) (base : ℕ) : Type 0 where
  pub high : from ≤ base
  pub multiple : base % 16 ≡ 0
  pub passes : test base ≡ true
  pub least : (x : ℕ) → from ≤ x → x % 16 ≡ 0 → test x ≡ true → base ≤ x

-- no multiple of 16 from an address on passes it
abbrev pub NonePasses : (from : ℕ) → (ℕ → Bool) → Type 0
NonePasses from test = (x : ℕ) → from ≤ x → x % 16 ≡ 0 → test x ≡ false

-- between two addresses no multiple of 16 passes
abbrev pub NoneBetween : (ℕ → Bool) → ℕ → ℕ → Type 0
NoneBetween test from to = (x : ℕ) → from ≤ x → x < to → x % 16 ≡ 0 → test x ≡ false

-- the code leaps behind what stands in the way: from one address to a later one no multiple of 16 passes, and where nothing is left out, the first address passes
pub record Skips (test : ℕ → Bool) (from to : ℕ) : Type 0 where
  pub high : from ≤ to
  pub multiple : from % 16 ≡ 0 → to % 16 ≡ 0
  pub none : NoneBetween test from to
  pub passes : to ≡ from → test from ≡ true
