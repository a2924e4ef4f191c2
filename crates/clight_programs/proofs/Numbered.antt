-- Numbers that are looked up in a table, whose test has them in the other order.
use Rattle.std.proofs.Common.{◌≡◌, ℕ, zero, suc, ◌==◌, Bool, true, false, cond, ◌||◌, List, [], ◌∷◌, ◌++◌, refl, sym, ap, ◌∙◌, nat_eq, arith}
use Rattle.std.specs.Prelude.{position}
use Rattle.std.specs.List.{list_any}
use Rattle.indexmap.specs.IndexSet.{insert_key}
use Rattle.clight_counts.proofs.Firsts.{number_turned}
use Rattle.clight_meaning.specs.Meaning.{added}

any_turned : (t : ℕ) (ts : List ℕ) → list_any (nat_eq t) ts ≡ list_any (λ u. u == t) ts
any_turned t [] = refl
any_turned t (u ∷ us) = ap (λ b. b || list_any (nat_eq t) us) (number_turned t u) ∙ ap (λ b. nat_eq u t || b) (any_turned t us)

pub number_added : (t : ℕ) (ts : List ℕ) → insert_key nat_eq ts t ≡ added ts t
number_added t ts = ap (λ b. cond b ts (ts ++ t ∷ [])) (any_turned t ts)

pub position_turned : (t : ℕ) (ts : List ℕ) → position (nat_eq t) ts ≡ position (λ u. u == t) ts
position_turned t [] = refl
position_turned t (u ∷ us) = grind (arith, position_turned t us, number_turned t u)
