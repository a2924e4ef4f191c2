-- What a machine is to the laws of refinement, and its runs. A machine has run and drain steps alone, as that of x86-TSO (Owens, Sarkar and Sewell 2009); here a step is a function, and a list of steps that is not enabled is no run.
use Rattle.std.specs.Prelude.{ℕ, ◌+◌, Bool, false, List, [], ◌∷◌, ◌++◌, Option, Some, None, IsSome, if◌then◌else◌, ◌==◌}
use Rattle.tso_core.specs.declared.Step.{Step}
use Rattle.tso_core.specs.declared.Step.TheVariants.{Run, Drain}
use Rattle.tso_core.specs.declared.Event.{Event}

-- which of the ends a machine has come to; Wrong stands for Fault of x86-TSO too
pub data Status : Type 0 where
  Running : Status
  Exited : Status
  Wrong : Status
  NoHeap : Status
  NoStack : Status

-- names with their addresses
abbrev pub Names : Type 0
Names = List ℕ

abbrev pub Places : Type 0
Places = List (Names × ℕ)

-- a global with its size, its alignment and its first bytes; the defined functions and the globals of a program
pub record GlobalsOf : Type 0 where
  pub functions : List Names
  pub objects : List (Names × ℕ × ℕ × List ℕ)

-- a program on its machine, as far as refinement speaks of it
pub record System : Type 1 where
  -- the machine's states
  pub State : Type 0
  -- the placements that the program may have, and where it begins
  pub IsProper : Places → Type 0
  pub opening : Places → State
  -- the event that an enabled step shows and the state after it
  pub step : State → Step → Option (Option Event × State)
  pub status : State → Status
  pub threads : State → ℕ
  pub has_ended : State → ℕ → Bool
  -- whether a Put is in the thread's buffer
  pub has_put : State → ℕ → Bool
  -- the size of the live heap block with this base
  pub heap : State → ℕ → Option ℕ
  -- the functions of the thread's live calls; None: the machine has none of its own
  pub calls : State → ℕ → Option (List Names)
  -- whether the thread offers Start, and the size where it offers Malloc
  pub starts : State → ℕ → Bool
  pub asks : State → ℕ → Option ℕ
  -- what the program states; None: it states nothing
  pub globals : Option GlobalsOf
  pub stated : Names → Option ℕ

-- one step
abbrev pub events_of : {S : Type 0} → Option (Option Event × S) → List Event
events_of None = []
events_of (Some (None, s)) = []
events_of (Some (Some e, s)) = e ∷ []

abbrev pub state_of : {S : Type 0} → S → Option (Option Event × S) → S
state_of s None = s
state_of s (Some a) = a.1

abbrev pub next : (m : System) → m.State → Step → m.State
next m s x = state_of s (m.step s x)

-- whole lists of steps: the state after them, what they show, and whether each is enabled in its turn
abbrev pub after : (m : System) → m.State → List Step → m.State
after m s [] = s
after m s (x ∷ xs) = after m (next m s x) xs

abbrev pub shown : (m : System) → m.State → List Step → List Event
shown m s [] = []
shown m s (x ∷ xs) = events_of (m.step s x) ++ shown m (next m s x) xs

abbrev pub IsRun : (m : System) → m.State → List Step → Type 0
IsRun m s [] = Unit {0}
IsRun m s (x ∷ xs) = IsSome (m.step s x) × IsRun m (next m s x) xs

-- the runs of a thread in a list of steps
abbrev pub is_run_of : ℕ → Step → Bool
is_run_of i (Run thread choice) = thread == i
is_run_of i (Drain thread) = false

abbrev pub runs_of : ℕ → List Step → ℕ
runs_of i [] = 0
runs_of i (x ∷ xs) = (if is_run_of i x then 1 else 0) + runs_of i xs

-- the thread of the last step, where that is a run
abbrev pub run_by : Step → Option ℕ
run_by (Run thread choice) = Some thread
run_by (Drain thread) = None

abbrev pub last_run : List Step → Option ℕ
last_run [] = None
last_run (x ∷ []) = run_by x
last_run (x ∷ y ∷ ys) = last_run (y ∷ ys)
