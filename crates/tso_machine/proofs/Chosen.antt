-- What a chosen step gives is what the machine gives.
use Rattle.std.proofs.Common.{◌≡◌, ◌≤◌, ℕ, Bool, true, List, length, None, Result, Ok, Err, inl, inr, arith}
use Rattle.std.specs.Prelude.{◌⊎◌, ◌≢◌, map, slice_get}
use Rattle.std.proofs.lemmas.List.{length-map}
use Rattle.std.proofs.lemmas.Option.{slice_get_past}
use Rattle.tso_core.specs.declared.Step.{Step}
use Rattle.tso_core.specs.declared.offer.Now.{Now}
use Rattle.tso_core.specs.declared.offer.Now.TheVariants as N
use Rattle.tso_core.specs.declared.offer.StepOut.{StepOut}
use Rattle.tso_core.specs.declared.offer.StepRefusal.{StepRefusal}
use Rattle.tso_core.specs.declared.offer.StepRefusal.TheVariants.{NotEnabled, NoMemory}
use Rattle.tso_core.specs.Language.{Language}
use Rattle.tso_core.specs.Machine.{MachineState}
use Rattle.tso_machine.specs.State.{flag, CannotRun}
use Rattle.tso_machine.specs.Choices.{ChosenGives, MachineGives}

pub machine_gives : {State : Type 0} (l : Language State) (x : Step) (old new : MachineState State) (result : Result StepOut StepRefusal) → ChosenGives l x old new result → MachineGives l x old new result
machine_gives l x old new (Ok out) h = h
machine_gives l x old new (Err NotEnabled) h = h
machine_gives l x old new (Err NoMemory) h = h.gives

pub idle : {T State : Type 0} (f : T → State) (xs : List T) (ended : List Bool) (n : Now) (i : ℕ) → length ended ≡ length xs → CannotRun n ended i → (n ≢ N.Running) ⊎ (flag (slice_get ended i) ≡ true) ⊎ (slice_get (map f xs) i ≡ None)
idle f xs ended n i e (inl h) = inl h
idle f xs ended n i e (inr (inl h)) = inr (inl h)
idle f xs ended n i e (inr (inr h)) =
    let past : length (map f xs) ≤ i = omega (arith, length-map xs f) in
    inr (inr (slice_get_past (map f xs) i past))
