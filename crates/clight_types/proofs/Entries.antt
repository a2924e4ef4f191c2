-- Lists of named things that the code keeps in maps in order.
use Rattle.std.proofs.Common.{◌≡◌, ℕ, zero, suc, Bool, true, false, cond, List, [], ◌∷◌, ◌++◌, map, Option, Some, None, is_some, true≢false, refl, sym, ap, ◌∙◌, find, nat_eq, Decides}
use Rattle.std.specs.Prelude.{slice_get, slice_set}
use Rattle.std.specs.Option.{option_map}
use Rattle.std.specs.Cmp.Lexicographic.{pointwise}
use Rattle.std.proofs.lemmas.Bool.Decides.{Decides-eqb}
use Rattle.std.proofs.lemmas.Slice.Eq.{slice_eq-Decides}
use Rattle.std.specs.Map.{lookup}
use Rattle.indexmap.specs.IndexMap.{insert_entry}
use Rattle.clight_types.specs.Types.{Spelling, same_name}

same_decides : (x y : Spelling) → Decides (same_name x y) (x ≡ y)
same_decides x y = slice_eq-Decides Decides-eqb x y (pointwise nat_eq x y) refl

pub same_name_is : (x y : Spelling) → same_name x y ≡ true → x ≡ y
same_name_is x y e = (same_decides x y).0 e

module _ {V R : Type 0} (make : Spelling × V → R) (key : R → Spelling) (same : (e : Spelling × V) → key (make e) ≡ e.0) (name : Spelling) where
  abbrev first_named : List R → Option R
  first_named rs = find (λ r. same_name name (key r)) rs

  found_by : (b : Bool) (e : Spelling × V) (es : List (Spelling × V)) → same_name name e.0 ≡ b → first_named (map make es) ≡ option_map (λ v. make (name, v)) (lookup (pointwise nat_eq name) es)
      → cond b (Some (make e)) (first_named (map make es)) ≡ option_map (λ v. make (name, v)) (cond b (Some e.1) (lookup (pointwise nat_eq name) es))
  found_by true e es t rest = ap (λ n. Some (make (n, e.1))) (sym (same_name_is name e.0 t))
  found_by false e es t rest = rest

  -- the first thing of a name, as the map finds it by that name
  pub find_lookup : (es : List (Spelling × V)) → first_named (map make es) ≡ option_map (λ v. make (name, v)) (lookup (pointwise nat_eq name) es)
  find_lookup [] = refl
  find_lookup (e ∷ es) =
      ap (λ k. cond (same_name name k) (Some (make e)) (first_named (map make es))) (same e)
      ∙ found_by (same_name name e.0) e es refl (find_lookup es)

  put_by : (b : Bool) (v : V) (e : Spelling × V) (es : List (Spelling × V)) → cond b (Some (make e)) (first_named (map make es)) ≡ None
      → (first_named (map make es) ≡ None → map make (insert_entry (pointwise nat_eq) es name v) ≡ map make es ++ make (name, v) ∷ [])
      → map make (cond b ((e.0, v) ∷ es) (e ∷ insert_entry (pointwise nat_eq) es name v)) ≡ make e ∷ (map make es ++ make (name, v) ∷ [])
  put_by true v e es t rest = absurd (true≢false (ap is_some t))
  put_by false v e es t rest = ap (λ r. make e ∷ r) (rest t)

  -- a new name goes last
  pub put_new : (v : V) (es : List (Spelling × V)) → first_named (map make es) ≡ None → map make (insert_entry (pointwise nat_eq) es name v) ≡ map make es ++ make (name, v) ∷ []
  put_new v [] h = refl
  put_new v (e ∷ es) h = put_by (same_name name e.0) v e es (sym (ap (λ k. cond (same_name name k) (Some (make e)) (first_named (map make es))) (same e)) ∙ h) (put_new v es)

-- a place that is not there is not written
pub set_past : {A : Type 0} (xs : List A) (n : ℕ) (v : A) → slice_get xs n ≡ None → slice_set xs n v ≡ xs
set_past [] n v h = refl
set_past (x ∷ xs) zero v h = absurd (true≢false (ap is_some h))
set_past (x ∷ xs) (suc n) v h = ap (λ r. x ∷ r) (set_past xs n v h)

pub set_mapped : {A B : Type 0} (f : A → B) (xs : List A) (n : ℕ) (v : A) → map f (slice_set xs n v) ≡ slice_set (map f xs) n (f v)
set_mapped f [] n v = refl
set_mapped f (x ∷ xs) zero v = refl
set_mapped f (x ∷ xs) (suc n) v = ap (λ r. f x ∷ r) (set_mapped f xs n v)
