-- What a map by names finds is what the list of its entries gives.
use Rattle.std.proofs.Common.{◌≡◌, ◌≢◌, ℕ, zero, suc, Bool, true, false, cond, [], ◌∷◌, ◌++◌, length, Some, None, refl, sym, ap, ◌∙◌, arith, find, nat_eq, slice_index_or, Decides, length-append, true≢false}
use Rattle.std.specs.Option.{option_map}
use Rattle.std.specs.Map.{lookup}
use Rattle.std.specs.Cmp.Lexicographic.{pointwise}
use Rattle.std.proofs.lemmas.Bool.Decides.{Decides-eqb}
use Rattle.std.proofs.lemmas.Slice.Eq.{slice_eq-Decides}
use Rattle.tso_core.specs.Systems.{Names, Places}
use Rattle.tso_core.specs.Placing.{address_of, NamesDiffer}

same_name : (x y : Names) → Decides (pointwise nat_eq x y) (x ≡ y)
same_name x y = slice_eq-Decides Decides-eqb x y (pointwise nat_eq x y) refl

not_true : (b : Bool) → (b ≡ true → ⊥) → b ≡ false
not_true true h = absurd (h refl)
not_true false h = refl

both_ways : (a b : Bool) → (a ≡ true → b ≡ true) → (b ≡ true → a ≡ true) → a ≡ b
both_ways true b f g = sym (f refl)
both_ways false true f g = g refl
both_ways false false f g = refl

exchanged : (x y : Names) → pointwise nat_eq x y ≡ pointwise nat_eq y x
exchanged x y = both_ways (pointwise nat_eq x y) (pointwise nat_eq y x) (λ e. (same_name y x).1 (sym ((same_name x y).0 e))) (λ e. (same_name x y).1 (sym ((same_name y x).0 e)))

pub looked_up : (name : Names) (at : Places) → lookup (pointwise nat_eq name) at ≡ address_of at name
looked_up name [] = refl
looked_up name (e ∷ es) = go (pointwise nat_eq name e.0) (pointwise nat_eq e.0 name) (exchanged name e.0) (looked_up name es)
  where
    go : (a b : Bool) → a ≡ b → lookup (pointwise nat_eq name) es ≡ address_of es name → cond a (Some e.1) (lookup (pointwise nat_eq name) es) ≡ option_map (λ u. u.1) (cond b (Some e) (find (λ u. pointwise nat_eq u.0 name) es))
    go true true h k = refl
    go false false h k = k
    go true false h k = absurd (true≢false h)
    go false true h k = absurd (true≢false (sym h))

at_end : (es rest : Places) (x d : Names × ℕ) → slice_index_or (es ++ x ∷ rest) (length es) d ≡ x
at_end [] rest x d = refl
at_end (e ∷ es) rest x d = at_end es rest x d

-- a name that stands behind these does not stand among them
pub is_new : (done : Places) (name : Names) (address : ℕ) (rest : Places) → NamesDiffer (done ++ (name, address) ∷ rest) → lookup (pointwise nat_eq name) done ≡ None
is_new [] name address rest nd = refl
is_new (e ∷ es) name address rest nd =
    let other : name ≢ e.0 = λ h. nd zero (suc (length es)) e (omega arith) (omega (arith, length-append es ((name, address) ∷ rest))) (sym h ∙ sym (ap (λ u. u.0) (at_end es rest (name, address) e))) in
    ap (λ b. cond b (Some e.1) (lookup (pointwise nat_eq name) es)) (not_true (pointwise nat_eq name e.0) (λ h. other ((same_name name e.0).0 h))) ∙ is_new es name address rest (λ i j d ij jl. nd (suc i) (suc j) d (omega arith) (omega arith))
