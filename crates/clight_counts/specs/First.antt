-- Tables by name in which the first thing of a name stays.
use Rattle.std.specs.Prelude.{Bool, List, [], ◌∷◌, ◌++◌, if◌then◌else◌}
use Rattle.std.specs.List.{list_any}
use Rattle.clight_types.specs.Types.{Spelling, same_name}

abbrev pub with_first : {V : Type 0} → List (Spelling × V) → Spelling × V → List (Spelling × V)
with_first es p = if list_any (λ e. same_name p.0 e.0) es then es else es ++ p ∷ []

-- one thing after another
abbrev pub firsts : {V : Type 0} → List (Spelling × V) → List (Spelling × V) → List (Spelling × V)
firsts es [] = es
firsts es (p ∷ ps) = firsts (with_first es p) ps
