-- The rows of a table are numbered in their order: a test that is computed, and what it says.
use Rattle.std.specs.Prelude.{◌≡◌, ℕ, zero, suc, ◌+◌, Bool, true, false, ◌&&◌, ◌==◌, List, [], ◌∷◌, Some, unwrap_or, slice_get, refl}
use Rattle.std.proofs.Common.{ap, subst, ◌∙◌, arith}
use Rattle.std.proofs.lemmas.Bool.{eqb-true}
use Rattle.x86_table.specs.declared.table.Form.{Form}

and_first : (a b : Bool) → (a && b) ≡ true → a ≡ true
and_first true b e = refl
and_first false b e = e

and_second : (a b : Bool) → (a && b) ≡ true → b ≡ true
and_second true b e = e
and_second false b e = absurd cc

abbrev pub are_numbered : ℕ → List Form → Bool
are_numbered n [] = true
are_numbered n (f ∷ fs) = (f.row == n) && are_numbered (n + 1) fs

pub numbered_at : (n : ℕ) (fs : List Form) → are_numbered n fs ≡ true → (i : ℕ) (f : Form) → slice_get fs i ≡ Some f → f.row ≡ i + n
numbered_at n [] a i f e = absurd cc
numbered_at n (x ∷ fs) a zero f e =
    let same : x ≡ f = ap (λ o. unwrap_or o x) e in
    let row : x.row ≡ n = eqb-true x.row n (and_first (x.row == n) _ a) in
    let P : Form → Type 0 = λ g. g.row ≡ 0 + n in
    subst P same (row ∙ omega arith)
numbered_at n (x ∷ fs) a (suc i) f e =
    let later : f.row ≡ i + (n + 1) = numbered_at (n + 1) fs (and_second (x.row == n) _ a) i f e in
    omega (arith, later)
