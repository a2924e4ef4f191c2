-- What a machine's step gives, as its contract says it.
use Rattle.std.specs.Prelude.{◌≡◌, Option, Some, None, Result, Ok, Err}
use Rattle.tso_core.specs.declared.Event.{Event}
use Rattle.tso_core.specs.declared.offer.StepRefusal.{StepRefusal}
use Rattle.tso_core.specs.declared.offer.StepRefusal.TheVariants.{NotEnabled, NoMemory}

-- the try is enabled, and shows its event and leads to the new state; it is not enabled, and nothing changes; or memory lacks, and nothing changes
abbrev pub Gives : {State : Type 0} → (State → Option (Option Event × State) → Type 0) → (old new : State) → Result (Option Event) StepRefusal → Type 0
Gives tries old new (Ok event) = tries old (Some (event, new))
Gives tries old new (Err NotEnabled) = tries old None × (new ≡ old)
Gives tries old new (Err NoMemory) = new ≡ old
