-- Replays (a rule of this project): how the lines of a schedule are played on a machine. The machine is a relation: what a step gives at a state, which is the event that it shows and the state after it, or None where it is not enabled; a step without a choice has the default choice there. Relations on whole lists of steps; the code goes step by step.
use Rattle.std.specs.Prelude.{◌≡◌, ℕ, zero, suc, ◌<◌, min, List, [], ◌∷◌, ◌++◌, length, Option, Some, None, Result, Ok, Err}
use Rattle.tso_core.specs.declared.Event.{Event}
use Rattle.tso_core.specs.declared.Step.{Step}
use Rattle.tso_core.specs.declared.Step.TheVariants.{Run, Drain}
use Rattle.schedule_text.specs.declared.played.End.{End}
use Rattle.schedule_text.specs.declared.played.Replay.{Replay}
use Rattle.schedule_text.specs.declared.played.ReplayRefusal.{ReplayRefusal}
use Rattle.schedule_text.specs.declared.played.ReplayRefusal.TheVariants.{NotARun, NoMemory}
use Rattle.schedule_text.specs.declared.schedule.Directive.{Directive}
use Rattle.schedule_text.specs.declared.schedule.Directive.TheVariants as D
use Rattle.schedule_text.specs.declared.schedule.Line.{Line}

-- what a step, or a try of several, gives at a state
abbrev pub Outcome : Type 0 → Type 0
Outcome State = Option (Option Event × State)

-- what each of some steps shows: nothing at all, so many times
abbrev pub quiet : ℕ → List (Option Event)
quiet zero = []
quiet (suc n) = None ∷ quiet n

abbrev pub events_in : List (Option Event) → List Event
events_in [] = []
events_in (None ∷ shown) = events_in shown
events_in (Some event ∷ shown) = event ∷ events_in shown

module _ {State : Type 0} (tries : State → Outcome State → Type 0) where
  -- tries that are all enabled, with what each shows
  abbrev pub IsPath : State → List (Option Event) → State → Type 0
  IsPath s [] end = s ≡ end
  IsPath s (e ∷ shown) end = (middle : State) × tries s (Some (e, middle)) × IsPath middle shown end

  -- at most so many tries, that stop behind the first event, or where nothing is enabled
  pub data IsBurst (most : ℕ) (s end : State) : List (Option Event) → Type 0 where
    Spent : IsPath s (quiet most) end → IsBurst most s end (quiet most)
    Stuck : (n : ℕ) → n < most → IsPath s (quiet n) end → tries end None → IsBurst most s end (quiet n)
    Shows : (n : ℕ) (event : Event) → n < most → IsPath s (quiet n ++ Some event ∷ []) end → IsBurst most s end (quiet n ++ Some event ∷ [])

module _ {State : Type 0} (steps : State → Step → Outcome State → Type 0) where
  -- a step, and the first of two that is enabled
  abbrev pub Just : Step → State → Outcome State → Type 0
  Just x s o = steps s x o

  pub data FirstOf (x y : Step) (s : State) : Outcome State → Type 0 where
    First : (gives : Option Event × State) → steps s x (Some gives) → FirstOf x y s (Some gives)
    Second : (o : Outcome State) → steps s x None → steps s y o → FirstOf x y s o

  -- what a line plays: one step, or runs alone, or runs before drains, or drains before runs
  abbrev pub PlaysLine : Directive → State → State → List (Option Event) → Type 0
  PlaysLine (D.Step x) s end shown = (event : Option Event) × steps s x (Some (event, end)) × (shown ≡ event ∷ [])
  PlaysLine (D.Hold thread most) s end shown = IsBurst (Just (Run thread None)) most s end shown
  PlaysLine (D.Lazy thread most) s end shown = IsBurst (FirstOf (Run thread None) (Drain thread)) most s end shown
  PlaysLine (D.Auto thread most) s end shown = IsBurst (FirstOf (Drain thread) (Run thread None)) most s end shown

  -- lines in order, with what their steps show
  pub data PlaysLines : List Line → State → State → List (Option Event) → Type 0 where
    NoMore : (s : State) → PlaysLines [] s s []
    Plays : (line : Line) (lines : List Line) (s middle end : State) (shown more : List (Option Event)) → PlaysLine line.what s middle shown → PlaysLines lines middle end more → PlaysLines (line ∷ lines) s end (shown ++ more)

  -- a line that is not enabled: only one step alone can be that
  abbrev pub IsNotEnabled : Directive → State → Type 0
  IsNotEnabled (D.Step x) s = steps s x None
  IsNotEnabled (D.Hold thread most) s = ⊥
  IsNotEnabled (D.Lazy thread most) s = ⊥
  IsNotEnabled (D.Auto thread most) s = ⊥

  module _ (end_of : State → End) where
    -- the replay of steps with what they show and the state after them; the count stands still at the end of its type
    pub record IsReplay (shown : List (Option Event)) (end : State) (r : Replay) : Type 0 where
      pub events : r.events.items ≡ events_in shown
      pub taken : r.taken ≡ min (length shown) 18446744073709551615
      pub end_is : r.end ≡ end_of end

    -- all lines are played
    pub record PlaysAll (lines : List Line) (s end : State) (r : Replay) : Type 0 where
      pub shown : List (Option Event)
      pub plays : PlaysLines lines s end shown
      pub replay : IsReplay shown end r

    -- the lines before one are played, and that one is not enabled
    pub record StopsAt (lines : List Line) (s end : State) (number : ℕ) (before : Replay) : Type 0 where
      pub front : List Line
      pub line : Line
      pub back : List Line
      pub shown : List (Option Event)
      pub parts : lines ≡ front ++ line ∷ back
      pub number_is : number ≡ line.number
      pub plays : PlaysLines front s end shown
      pub stops : IsNotEnabled line.what end
      pub replay : IsReplay shown end before

    -- what a replay from one state to another answers, want of memory aside
    abbrev pub Replays : List Line → (s end : State) → Result Replay ReplayRefusal → Type 0
    Replays lines s end (Ok r) = PlaysAll lines s end r
    Replays lines s end (Err (NotARun number before)) = StopsAt lines s end number before
    Replays lines s end (Err NoMemory) = Unit {0}
