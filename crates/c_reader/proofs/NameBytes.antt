-- What a token is hangs on its bytes where it is a name, and nowhere else.
use Rattle.std.proofs.Common.{◌≡◌, ℕ, List, refl}
use Rattle.c_reading.specs.Kinds.{kind_of}
use Rattle.c_reading.specs.declared.token.Kind.{Kind}
use Rattle.c_reading.specs.declared.token.Kind.TheVariants as kind

pub any_bytes : (a b : List ℕ) (k : Kind) → (k ≡ kind.Name → ⊥) → kind_of a k ≡ kind_of b k
any_bytes a b kind.Name not = absurd (not refl)
any_bytes a b k not = refl
