-- What a step gives, as contracts say it: the definition's step is a function on states, where the code changes its state in place.
use Rattle.std.specs.Prelude.{◌≡◌, Option, Some, None, Result, Ok, Err}
use Rattle.tso_core.specs.declared.Event.{Event}
use Rattle.tso_core.specs.declared.offer.StepRefusal.{StepRefusal}
use Rattle.tso_core.specs.declared.offer.StepRefusal.TheVariants.{NotEnabled, NoMemory}
use Rattle.x86_machine.specs.Target.{State}
use Rattle.x86_machine.specs.X86Tso.{Outcome}

-- the step is enabled, and gives its event and the new state; it is not enabled, and nothing changes; or memory lacks, and nothing changes
abbrev pub Gives : Outcome → (old new : State) → Result (Option Event) StepRefusal → Type 0
Gives x old new (Ok event) = Some (event, new) ≡ x
Gives x old new (Err NotEnabled) = (x ≡ None) × (new ≡ old)
Gives x old new (Err NoMemory) = new ≡ old
