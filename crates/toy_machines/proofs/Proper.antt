-- The placements of the programs that are tried are proper.
use Rattle.std.proofs.Common.{◌≡◌, ℕ, zero, suc, ◌<◌, List, [], ◌∷◌, refl, arith, sym, ◌∙◌}
use Rattle.std.specs.List.{slice_index_or}
use Rattle.tso_core.specs.Systems.{Names}
use Rattle.tso_core.specs.Runs.{IsProper, IsCodePlace, IsDataPlace}
use Rattle.toy_machines.specs.Meaning.{x, x_alone}
use Rattle.toy_machines.specs.Placed.{x_placed}

x_fits : (k : ℕ) (d : Names × ℕ × ℕ × List ℕ) → k < 1 → IsDataPlace x_placed (slice_index_or ((x, 8, 4, 7 ∷ []) ∷ []) k d)
x_fits zero d l = (omega arith, omega arith, refl)
x_fits (suc k) d l = absurd (omega arith)

pub x_proper : IsProper x_alone x_placed
x_proper = record {
  functions_placed = λ k d l. absurd (omega arith);
  functions_apart = λ f h c e p. absurd (omega (arith, c.1));
  objects_placed = x_fits;
  objects_apart = λ i j d l m. absurd (omega arith);
}
