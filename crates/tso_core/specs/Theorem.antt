-- What a refinement says of whole runs to a reader: the compiler theorem (after the simulations of CompCertTSO, JACM 2013). No state between the two machines and no pass appears; refinement gives this form.
use Rattle.std.specs.Prelude.{◌≡◌, ℕ, ◌+◌, ◌<◌, true, List, [], ◌∷◌, Option, Some, None}
use Rattle.tso_core.specs.declared.Step.{Step}
use Rattle.tso_core.specs.Systems.{System, Running, NoHeap, NoStack, Names, Places, after, IsRun, last_run}
use Rattle.tso_core.specs.Matching.{joined}
use Rattle.tso_core.specs.Literal.{MakesWrong, LiteralMatches}
use Rattle.tso_core.specs.Refinement.{IsStartZero, SameRequest}

-- the frame bound of a function: 8 bytes above the frame size that the program states for it
abbrev pub frame_bound : Option ℕ → ℕ
frame_bound None = 0
frame_bound (Some stated) = stated + 8

abbrev pub frame_bounds : (Names → Option ℕ) → List Names → ℕ
frame_bounds stated [] = 0
frame_bounds stated (f ∷ fs) = frame_bound (stated f) + frame_bounds stated fs

-- the frame bounds of a thread's live calls, in sum
abbrev pub bounds_of : (Names → Option ℕ) → Option (List Names) → ℕ
bounds_of stated None = 0
bounds_of stated (Some calls) = frame_bounds stated calls

-- why q may want stack in a run of thread i, after these steps and the pieces of p for them: the run is a Start with choice 0, and thread i of p offers Start; or the frame bounds of its live calls in p pass the 1 MiB of a stack
pub data StackJustified (p q : System) (s : p.State) (t : q.State) (xs ys : List Step) (i : ℕ) : Type 0 where
  AtStart : IsStartZero q t ys i → p.status (after p s xs) ≡ Running → p.starts (after p s xs) i ≡ true → StackJustified p q s t xs ys i
  TooDeep : 1048576 < bounds_of p.stated (p.calls (after p s xs) i) → StackJustified p q s t xs ys i

-- a run of q from a placement, with a piece of p for each of its steps
pub record MatchedRun (p q : System) (pace : ℕ) (at : Places) (steps : List Step) : Type 0 where
  pub pieces : List (List Step)
  -- step by step, until a step of p makes it wrong
  pub matches : LiteralMatches p q pace (p.opening at) (q.opening at) steps pieces
  -- where q wants heap, p has come to it by a run of the same thread, which asks for the same size
  pub same_request : q.status (after q (q.opening at) steps) ≡ NoHeap → ¬ MakesWrong p (p.opening at) (joined pieces) → SameRequest p q (p.opening at) (q.opening at) (joined pieces) steps
  -- where q wants stack in a run of a thread, it is justified
  pub stack_justified : q.status (after q (q.opening at) steps) ≡ NoStack → ¬ MakesWrong p (p.opening at) (joined pieces) → (i : ℕ) → last_run steps ≡ Some i → StackJustified p q (p.opening at) (q.opening at) (joined pieces) steps i

-- the compiler theorem for a source on p and a target on q: a placement that the target may have is one that the source may have, and every run of the target from there is matched
pub record EveryRunMatched (p q : System) (pace : ℕ) : Type 0 where
  pub labels_proper : (at : Places) → q.IsProper at → p.IsProper at
  pub matched : (at : Places) → q.IsProper at → (steps : List Step) → IsRun q (q.opening at) steps → MatchedRun p q pace at steps
