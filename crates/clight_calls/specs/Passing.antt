-- What code that looks for a row of faults answers: no fault stands in front of what follows, or the first one does.
use Rattle.std.specs.Prelude.{◌≡◌, Result, Ok, Err}
use Rattle.clight_types.specs.declared.rule.Refusal.{Refusal}
use Rattle.clight_types.specs.declared.rule.Refusal.TheVariants as refusal
use Rattle.clight_types.specs.Judged.{Judged, first_of}
use Rattle.clight_operands.specs.Operands.{Typed}

abbrev pub Passes : (Judged Typed → Judged Typed) → Result (Unit {0}) Refusal → Type 0
Passes rest (Ok u) = (j : Judged Typed) → rest j ≡ j
Passes rest (Err (refusal.Faulty f)) = (j : Judged Typed) → first_of (rest j) ≡ Err f
Passes rest (Err refusal.NoMemory) = Unit {0}
