-- That the least programs are made well.
use Rattle.std.proofs.Common.{◌≡◌, ℕ, zero, suc, ◌<◌, ◌≤◌, List, [], ◌∷◌, Option, Some, None, refl, arith}
use Rattle.std.specs.Prelude.{All}
use Rattle.clight_lang.specs.MainAlone.{main_alone, main_returning, returned}
use Rattle.clight_lang.specs.Placed.{AreWithin}
use Rattle.clight_lang.specs.WellMade.{IsFunction, IsWellMade}

single : {A : Type 0} (P : A → Type 0) (x : A) → P x → All P (x ∷ [])
single P x h zero d lt = h
single P x h (suc k) d lt = absurd (omega arith)

none_some : {A : Type 0} (a : A) → None ≡ Some a → ⊥
none_some a e = cc

alone_within : AreWithin main_alone
alone_within =
    record {
      names_differ = λ i j d ij lt. absurd (omega arith);
      few_functions = omega arith;
      sizes = λ k d lt. absurd (omega arith);
      few_bytes = omega arith;
    }

main_made : (n : ℕ) → IsFunction (returned n) (main_returning n)
main_made n =
    record {
      typed = refl;
      arguments = λ k lt. absurd (omega arith);
      each_once = λ i j d ij lt. absurd (omega arith);
      as_many = refl;
      taken = λ k d lt. absurd (omega arith);
      taken_apart = λ i j d ij lt. absurd (omega arith);
      kept = λ i k e. absurd (none_some k e);
      sizes = λ k d lt. absurd (omega arith);
      few_temps = omega arith;
      few_nodes = omega arith;
      height = omega arith;
      weight = omega arith;
      body = (tt, tt);
      needed = omega arith;
      holds = omega arith;
    }

pub well_made : (n : ℕ) → IsWellMade (returned n)
well_made n =
    record {
      globals = alone_within;
      few_functions = omega arith;
      named = refl;
      main = (0, omega arith, refl);
      main_named = refl;
      main_has_none = refl;
      thread_type = λ t e. absurd (none_some t e);
      each = single (IsFunction (returned n)) (main_returning n) (main_made n);
      externals = λ k d lt. absurd (omega arith);
      externals_differ = λ i j d ij lt. absurd (omega arith);
    }
