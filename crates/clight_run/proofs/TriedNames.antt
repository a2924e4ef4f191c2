-- The names of the programs that the tests play are within the counts of a file.
use Rattle.std.proofs.Common.{◌≡◌, ℕ, ◌≤◌, false, List, [], ◌∷◌, refl, inr, arith}
use Rattle.std.specs.Prelude.{◌≢◌, nat_eq, All, AllPairs}
use Rattle.std.specs.Bool.{Decides}
use Rattle.std.specs.Cmp.Lexicographic.{pointwise}
use Rattle.std.proofs.lemmas.Bool.Decides.{Decides-eqb}
use Rattle.std.proofs.lemmas.Slice.Eq.{slice_eq-Decides}
use Rattle.std.proofs.lemmas.List.Elements.{All-cons, All-nil}
use Rattle.std.proofs.lemmas.List.Kept.{AllPairs-cons}
use Rattle.tso_core.specs.Systems.{Names}
use Rattle.clight_lang.specs.Placed.{AreWithin, IsAlignment}
use Rattle.clight_run.proofs.Defaults.{no_both}
use Rattle.clight_run.specs.Tried.{names_tried}

same_name : (a b : Names) → Decides (pointwise nat_eq a b) (a ≡ b)
same_name a b = slice_eq-Decides Decides-eqb a b (pointwise nat_eq a b) refl

differs : (a b : Names) → pointwise nat_eq a b ≡ false → a ≢ b
differs a b h e = no_both (pointwise nat_eq a b) ((same_name a b).1 e) h

abbrev IsNew : Names → List Names → Type 0
IsNew a [] = Unit {0}
IsNew a (b ∷ bs) = (pointwise nat_eq a b ≡ false) × IsNew a bs

abbrev AreNew : List Names → Type 0
AreNew [] = Unit {0}
AreNew (a ∷ names) = IsNew a names × AreNew names

new_differs : (a : Names) (bs : List Names) → IsNew a bs → All (λ b. a ≢ b) bs
new_differs a [] h = All-nil (λ b. a ≢ b)
new_differs a (b ∷ bs) h = All-cons (λ c. a ≢ c) b bs (differs a b h.0) (new_differs a bs h.1)

new_differ : (names : List Names) → AreNew names → AllPairs (λ a b. a ≢ b) names
new_differ [] h = λ i j d ij lt. absurd (omega arith)
new_differ (a ∷ names) h = AllPairs-cons (λ x y. x ≢ y) a names (new_differs a names h.0) (new_differ names h.1)

abbrev all_names : List Names
all_names = (102 ∷ []) ∷ (103 ∷ []) ∷ (109 ∷ 97 ∷ 105 ∷ 110 ∷ []) ∷ (120 ∷ []) ∷ (121 ∷ []) ∷ []

abbrev Sized : Names × ℕ × ℕ × List ℕ → Type 0
Sized o = (1 ≤ o.1) × IsAlignment o.2

a_word : (name : Names) → Sized (name, 4, 4, [])
a_word name = (omega arith, inr (inr refl))

pub names_within : AreWithin names_tried
names_within =
    record {
      names_differ = new_differ all_names ((refl, (refl, (refl, (refl, tt)))), ((refl, (refl, (refl, tt))), ((refl, (refl, tt)), ((refl, tt), (tt, tt)))));
      few_functions = omega arith;
      sizes = All-cons Sized (120 ∷ [], 4, 4, []) ((121 ∷ [], 4, 4, []) ∷ []) (a_word (120 ∷ [])) (All-cons Sized (121 ∷ [], 4, 4, []) [] (a_word (121 ∷ [])) (All-nil Sized));
      few_bytes = omega arith;
    }
