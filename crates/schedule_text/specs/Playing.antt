-- What the private functions of a replay keep: only their contracts cite this file, and that of the trait.
use Rattle.std.specs.Prelude.{◌≡◌, ℕ, ◌+◌, min, List, ◌++◌, length, Option, None, Result, Ok, Err}
use Rattle.tso_core.specs.declared.Event.{Event}
use Rattle.tso_core.specs.declared.Step.{Step}
use Rattle.tso_core.specs.declared.Step.TheVariants.{Run, Drain}
use Rattle.tso_core.specs.declared.offer.StepRefusal.{StepRefusal}
use Rattle.tso_core.specs.declared.offer.StepRefusal.TheVariants.{NotEnabled, NoMemory}
use Rattle.schedule_text.specs.declared.playing.Log.{Log}
use Rattle.schedule_text.specs.declared.playing.Way.{Way}
use Rattle.schedule_text.specs.declared.playing.Way.TheVariants.{Hold, Lazy, Auto}
use Rattle.schedule_text.specs.declared.schedule.Directive.{Directive}
use Rattle.schedule_text.specs.Plays.{Outcome, Just, FirstOf, PlaysLine, IsNotEnabled, events_in}

-- the tries of a line that plays several steps
abbrev pub TriesOf : {State : Type 0} → (State → Step → Outcome State → Type 0) → Way → ℕ → State → Outcome State → Type 0
TriesOf steps Hold thread = Just steps (Run thread None)
TriesOf steps Lazy thread = FirstOf steps (Run thread None) (Drain thread)
TriesOf steps Auto thread = FirstOf steps (Drain thread) (Run thread None)

-- a log with what further steps show
pub record Adds (shown : List (Option Event)) (old new : Log) : Type 0 where
  pub events : new.events.items ≡ old.events.items ++ events_in shown
  pub taken : new.taken ≡ min (old.taken + length shown) 18446744073709551615

-- some steps show that of which a fact holds, and the log has it
pub record Logs (P : List (Option Event) → Type 0) (old new : Log) : Type 0 where
  pub shown : List (Option Event)
  pub plays : P shown
  pub adds : Adds shown old new

-- a line is played and logged, or it is not enabled and nothing changes
abbrev pub LineGives : {State : Type 0} → (State → Step → Outcome State → Type 0) → Directive → (s end : State) → (old new : Log) → Result (Unit {0}) StepRefusal → Type 0
LineGives steps what s end old new (Ok done) = Logs (PlaysLine steps what s end) old new
LineGives steps what s end old new (Err NotEnabled) = IsNotEnabled steps what s × (end ≡ s) × (new ≡ old)
LineGives steps what s end old new (Err NoMemory) = Unit {0}
