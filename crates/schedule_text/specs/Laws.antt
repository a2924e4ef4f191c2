-- What holds of schedules and replays, for the laws.
use Rattle.std.specs.Prelude.{◌≡◌, ◌⊎◌, ℕ, List, Result, Ok, Err}
use Rattle.tso_core.specs.declared.Step.{Step}
use Rattle.schedule_text.specs.declared.played.Replay.{Replay}
use Rattle.schedule_text.specs.declared.played.ReplayRefusal.{ReplayRefusal}
use Rattle.schedule_text.specs.declared.played.ReplayRefusal.TheVariants.{NotARun, NoMemory}
use Rattle.schedule_text.specs.declared.schedule.Line.{Line}
use Rattle.schedule_text.specs.Schedules.{ScheduleOf, IsFirstBad}
use Rattle.schedule_text.specs.Plays.{Outcome}

-- a text has a schedule or a first bad line
abbrev pub IsRead : List ℕ → Type 0
IsRead bytes = ((lines : List Line) × ScheduleOf bytes lines) ⊎ ((number : ℕ) × IsFirstBad bytes number)

-- a step gives one thing at a state
abbrev pub IsFunctional : {State : Type 0} → (State → Step → Outcome State → Type 0) → Type 0
IsFunctional {State} steps = (s : State) (x : Step) (a b : Outcome State) → steps s x a → steps s x b → a ≡ b

pub record SameReplay (r q : Replay) : Type 0 where
  pub events : r.events.items ≡ q.events.items
  pub taken : r.taken ≡ q.taken
  pub end_is : r.end ≡ q.end

-- the same answer, want of memory aside
abbrev pub SameAnswer : (a b : Result Replay ReplayRefusal) → Type 0
SameAnswer (Err NoMemory) b = Unit {0}
SameAnswer a (Err NoMemory) = Unit {0}
SameAnswer (Ok r) (Ok q) = SameReplay r q
SameAnswer (Ok r) (Err (NotARun number before)) = ⊥
SameAnswer (Err (NotARun number before)) (Ok r) = ⊥
SameAnswer (Err (NotARun number before)) (Err (NotARun other after)) = (number ≡ other) × SameReplay before after
