-- A placement that is proper, in both forms.
use Rattle.std.proofs.Common.{◌≡◌, ◌+◌, ℕ, Bool, true, false, List, get_or, refl, inl, inr}
use Rattle.std.specs.Prelude.{◌||◌, nat_le}
use Rattle.std.proofs.lemmas.Bool.{or_cases, or_right, leb-true, le-leb}
use Rattle.tso_core.specs.Systems.{Names, Places, GlobalsOf}
use Rattle.tso_core.specs.Placing.{base_of}
use Rattle.tso_core.specs.Runs.{IsProper, AreApart}
use Rattle.tso_machine.specs.Proper.{IsPlaced, are_apart}

or_first : (a b : Bool) → a ≡ true → (a || b) ≡ true
or_first true b e = refl
or_first false b e = cc

apart_tested : (at : Places) (o r : Names × ℕ × ℕ × List ℕ) → AreApart at o r → are_apart at o r ≡ true
apart_tested at o r (inl h) = or_first (nat_le (base_of at o.0 + o.1) (base_of at r.0)) (nat_le (base_of at r.0 + r.1) (base_of at o.0)) (le-leb (base_of at o.0 + o.1) (base_of at r.0) h)
apart_tested at o r (inr h) = or_right (nat_le (base_of at o.0 + o.1) (base_of at r.0)) (nat_le (base_of at r.0 + r.1) (base_of at o.0)) (le-leb (base_of at r.0 + r.1) (base_of at o.0) h)

tested_apart : (at : Places) (o r : Names × ℕ × ℕ × List ℕ) → are_apart at o r ≡ true → AreApart at o r
tested_apart at o r e = elim (or_cases (nat_le (base_of at o.0 + o.1) (base_of at r.0)) (nat_le (base_of at r.0 + r.1) (base_of at o.0)) e) as (λ _. AreApart at o r) [
  | inl a ↦ inl (leb-true (base_of at o.0 + o.1) (base_of at r.0) a)
  | inr a ↦ inr (leb-true (base_of at r.0 + r.1) (base_of at o.0) a)
]

pub IsPlaced-proper : (g : GlobalsOf) (at : Places) → IsProper g at → IsPlaced g at
IsPlaced-proper g at h = record {
  functions_placed = h.functions_placed;
  functions_apart = h.functions_apart;
  objects_placed = h.objects_placed;
  objects_apart = λ i j d l m. apart_tested at (get_or g.objects i d) (get_or g.objects j d) (h.objects_apart i j d l m);
}

pub IsProper-placed : (g : GlobalsOf) (at : Places) → IsPlaced g at → IsProper g at
IsProper-placed g at h = record {
  functions_placed = h.functions_placed;
  functions_apart = h.functions_apart;
  objects_placed = h.objects_placed;
  objects_apart = λ i j d l m. tested_apart at (get_or g.objects i d) (get_or g.objects j d) (h.objects_apart i j d l m);
}
