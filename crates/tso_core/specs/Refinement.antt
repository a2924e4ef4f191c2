-- What it is that one program's machine refines another's (after the weak-memory simulations of CompCertTSO, JACM 2013). It speaks of whole runs and of what is seen of the states; no state of the one is related to one of the other, so refinements compose.
use Rattle.std.specs.Prelude.{◌≡◌, ◌≢◌, ℕ, ◌+◌, ◌<◌, true, List, [], ◌∷◌, ◌++◌, Option, Some, None, ◌⊎◌}
use Rattle.tso_core.specs.declared.Step.{Step}
use Rattle.tso_core.specs.declared.Step.TheVariants.{Run}
use Rattle.tso_core.specs.Systems.{System, Running, Wrong, NoHeap, NoStack, Names, Places, after, shown, IsRun, last_run}
use Rattle.tso_core.specs.Matching.{SaysSame, joined, Alike, Matches}

-- the frame sizes that a program states for these calls, in sum
abbrev pub size_or_none : Option ℕ → ℕ
size_or_none None = 0
size_or_none (Some n) = n

abbrev pub stated_sum : (Names → Option ℕ) → List Names → ℕ
stated_sum f [] = 0
stated_sum f (c ∷ cs) = size_or_none (f c) + stated_sum f cs

abbrev pub calls_sum : (Names → Option ℕ) → Option (List Names) → ℕ
calls_sum f None = 0
calls_sum f (Some cs) = stated_sum f cs

-- the frames of the thread's live calls and the 8 bytes at the top pass the stack
abbrev pub IsOverStack : (m : System) → m.State → ℕ → Type 0
IsOverStack m s i = 1048576 < calls_sum m.stated (m.calls s i) + 8

-- the steps end with a run of i that is a Start with choice 0
pub record IsStartZero (m : System) (s : m.State) (xs : List Step) (i : ℕ) : Type 0 where
  pub front : List Step
  pub last_is : xs ≡ front ++ Run i (Some 0) ∷ []
  pub starts : m.starts (after m s front) i ≡ true

-- how the want of stack of q after these steps is paid for by p after the pieces: p has come to it too, by a run of the same thread, and by a Start only where q has; or thread i of p is about to start a thread; or its frames pass the stack
pub data StackCase (p q : System) (s : p.State) (t : q.State) (xs ys : List Step) (i : ℕ) : Type 0 where
  AlreadyThere : p.status (after p s xs) ≡ NoStack → last_run xs ≡ Some i → (IsStartZero p s xs i → IsStartZero q t ys i) → StackCase p q s t xs ys i
  AtStart : IsStartZero q t ys i → p.status (after p s xs) ≡ Running → p.starts (after p s xs) i ≡ true → StackCase p q s t xs ys i
  TooDeep : IsOverStack p (after p s xs) i → StackCase p q s t xs ys i

-- both want heap: the last step of both is a run of one thread, which asks for the same size
pub record SameRequest (p q : System) (s : p.State) (t : q.State) (xs ys : List Step) : Type 0 where
  pub thread : ℕ
  pub size : ℕ
  pub last_of_q : last_run ys ≡ Some thread
  pub last_of_p : last_run xs ≡ Some thread
  pub asked_by_q : q.asks (after q t ys) thread ≡ Some size
  pub asked_by_p : p.asks (after p s xs) thread ≡ Some size

-- the ends that a run of one thread leads to, where p is not wrong
pub record Ends (p q : System) (s : p.State) (t : q.State) (xs ys : List Step) : Type 0 where
  pub same_request : q.status (after q t ys) ≡ NoHeap → p.status (after p s xs) ≢ Wrong → SameRequest p q s t xs ys
  pub stack_justified : q.status (after q t ys) ≡ NoStack → p.status (after p s xs) ≢ Wrong → (i : ℕ) → last_run ys ≡ Some i → StackCase p q s t xs ys i

-- the pieces of p for one run of q
pub record Follows (p q : System) (pace : ℕ) (s : p.State) (t : q.State) (steps : List Step) : Type 0 where
  pub pieces : List (List Step)
  pub matches : Matches p q pace s t steps pieces
  pub ends : Ends p q s t (joined pieces) steps

-- p offers Start in thread i too and looks like q, or it is wrong
abbrev pub IsAtStart : (p q : System) → p.State → q.State → ℕ → Type 0
IsAtStart p q s t i = (p.status s ≡ Wrong) ⊎ ((p.status s ≡ Running) × (p.starts s i ≡ true) × Alike p q s t)

-- behind the pieces p has further steps that show nothing, to where thread i offers Start too
pub record CatchesUp (p q : System) (s : p.State) (t : q.State) (xs ys : List Step) (i : ℕ) : Type 0 where
  pub more : List Step
  pub is_run : IsRun p s (xs ++ more)
  pub quiet : shown p s (xs ++ more) ≡ shown p s xs
  pub arrives : p.status (after p s xs) ≢ Wrong → IsAtStart p q (after p s (xs ++ more)) (after q t ys) i

-- the pieces of p for a run of q after which q is Running and thread i of q offers Start (so no end is to be justified)
pub record FollowsToStart (p q : System) (pace : ℕ) (s : p.State) (t : q.State) (steps : List Step) (i : ℕ) : Type 0 where
  pub pieces : List (List Step)
  pub matches : Matches p q pace s t steps pieces
  pub catches_up : CatchesUp p q s t (joined pieces) steps i

-- what q states, p states: the defined functions, the globals with their first bytes, and the frame sizes
pub record SameInterface (p q : System) : Type 0 where
  pub globals : SaysSame p.globals q.globals
  pub stated : (f : Names) → SaysSame (p.stated f) (q.stated f)

-- every run of q is told by pieces of p, at most so many runs for one, from every placement that q may have
pub record Refines (p q : System) (pace : ℕ) : Type 0 where
  pub same_interface : SameInterface p q
  pub labels_proper : (at : Places) → q.IsProper at → p.IsProper at
  pub matches : (at : Places) → q.IsProper at → (steps : List Step) → IsRun q (q.opening at) steps → Follows p q pace (p.opening at) (q.opening at) steps
  -- before a run of q in which thread i starts a thread, p can come to its own Start by steps that show nothing
  pub start_ready : (at : Places) → q.IsProper at → (steps : List Step) → IsRun q (q.opening at) steps → q.status (after q (q.opening at) steps) ≡ Running → (i : ℕ) → q.starts (after q (q.opening at) steps) i ≡ true → FollowsToStart p q pace (p.opening at) (q.opening at) steps i
