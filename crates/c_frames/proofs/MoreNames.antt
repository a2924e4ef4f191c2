-- One typedef name more.
use Rattle.std.proofs.Common.{◌≡◌, ℕ, Bool, true, cond, List, ◌∷◌, ap, ◌∙◌}
use Rattle.std.specs.Cmp.Lexicographic.{nat_list_eq_equiv}
use Rattle.std.specs.Prelude.{bytes_eq}
use Rattle.c_grammar.specs.Spelling.{is_typedef}

pub more_names : (has new : List ℕ → Bool) (ns : List (List ℕ)) (name : List ℕ) → ((x : List ℕ) → has x ≡ is_typedef ns x) → ((x : List ℕ) → new x ≡ cond (bytes_eq name x) true (has x)) → (x : List ℕ) → new x ≡ is_typedef (name ∷ ns) x
more_names has new ns name old more x = more x ∙ ap (λ b. cond b true (has x)) (nat_list_eq_equiv.symm name x) ∙ ap (λ b. cond (bytes_eq x name) true b) (old x)
