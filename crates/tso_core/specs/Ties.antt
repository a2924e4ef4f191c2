-- A tie of two machines: a relation of their states that each step of q keeps, with the steps of p that answer it (a simulation, as in CompCertTSO; the numbers take the place of its measure, and bound how many runs of q are answered without one of p).
use Rattle.std.specs.Prelude.{◌≡◌, ℕ, ◌+◌, ◌<◌, ◌≤◌, true, List, [], ◌∷◌, IsSome, ◌⊎◌}
use Rattle.tso_core.specs.declared.Step.{Step}
use Rattle.tso_core.specs.Systems.{System, Running, Wrong, Places, after, shown, IsRun, runs_of, next, events_of}
use Rattle.tso_core.specs.Matching.{IsPrefixOf, Alike}
use Rattle.tso_core.specs.Refinement.{Ends, IsAtStart, SameInterface}

-- a state of p, a state of q, and a number for each thread
abbrev pub Relation : System → System → Type 1
Relation p q = p.State → q.State → (ℕ → ℕ) → Type 0

-- the piece for a step leads to related states, and shows what the step shows
pub record LeadsOn (p q : System) (R : Relation p q) (s : p.State) (t : q.State) (f : ℕ → ℕ) (x : Step) (piece : List Step) : Type 0 where
  pub numbers : ℕ → ℕ
  pub related : R (after p s piece) (next q t x) numbers
  pub same_events : shown p s piece ≡ events_of (q.step t x)
  -- a run that is answered without a run raises the thread's number, and no step that is answered without one lowers it
  pub counted : (i : ℕ) → runs_of i piece ≡ 0 → f i + runs_of i (x ∷ []) ≤ numbers i
  pub ends : Ends p q s t piece (x ∷ [])

-- or ends in Wrong, and shows a prefix
pub record GoesWrong (p q : System) (s : p.State) (t : q.State) (x : Step) (piece : List Step) : Type 0 where
  pub wrong : p.status (after p s piece) ≡ Wrong
  pub goes_wrong_inside : IsPrefixOf (shown p s piece) (events_of (q.step t x))

-- p answers a step of q
pub record Answers (p q : System) (R : Relation p q) (s : p.State) (t : q.State) (f : ℕ → ℕ) (x : Step) : Type 0 where
  pub piece : List Step
  pub is_run : IsRun p s piece
  pub leads : LeadsOn p q R s t f x piece ⊎ GoesWrong p q s t x piece

-- some steps that show nothing lead to where the thread offers Start
pub record ComesToStart (p q : System) (s : p.State) (t : q.State) (i : ℕ) : Type 0 where
  pub more : List Step
  pub is_run : IsRun p s more
  pub quiet : shown p s more ≡ []
  pub arrives : IsAtStart p q (after p s more) t i

-- the relation ties the two, and its numbers stay below the bound
pub record IsMachineTie (p q : System) (R : Relation p q) (bound : ℕ) : Type 0 where
  pub same_interface : SameInterface p q
  pub labels_proper : (at : Places) → q.IsProper at → p.IsProper at
  pub opens_running : (at : Places) → q.status (q.opening at) ≡ Running
  pub opens_related : (at : Places) → q.IsProper at → (f : ℕ → ℕ) × R (p.opening at) (q.opening at) f
  pub below_bound : (s : p.State) (t : q.State) (f : ℕ → ℕ) → R s t f → (i : ℕ) → f i < bound
  pub alike : (s : p.State) (t : q.State) (f : ℕ → ℕ) → R s t f → Alike p q s t
  pub answers : (s : p.State) (t : q.State) (f : ℕ → ℕ) → R s t f → (x : Step) → IsSome (q.step t x) → Answers p q R s t f x
  pub start_ready : (s : p.State) (t : q.State) (f : ℕ → ℕ) → R s t f → q.status t ≡ Running → (i : ℕ) → q.starts t i ≡ true → ComesToStart p q s t i
