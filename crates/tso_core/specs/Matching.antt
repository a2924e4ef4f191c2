-- That the pieces of one machine's run match the steps of another's, step by step (after the weak-memory simulation of CompCertTSO, JACM 2013; whole runs are spoken of here, and no state of the one is related to one of the other).
use Rattle.std.specs.Prelude.{◌≡◌, ◌≢◌, ℕ, ◌+◌, ◌*◌, ◌≤◌, false, List, [], ◌∷◌, ◌++◌, length, take, drop, Option, Some, None, ◌↔◌}
use Rattle.tso_core.specs.declared.Step.{Step}
use Rattle.tso_core.specs.Systems.{System, Exited, Wrong, NoHeap, after, shown, IsRun, runs_of}

-- whatever the second says, the first says too
abbrev pub SaysSame : {A : Type 0} → Option A → Option A → Type 0
SaysSame p None = Unit {0}
SaysSame p (Some x) = p ≡ Some x

abbrev pub IsPrefixOf : {A : Type 0} → List A → List A → Type 0
IsPrefixOf {A} xs ys = (rest : List A) × (xs ++ rest ≡ ys)

-- pieces, joined
abbrev pub joined : List (List Step) → List Step
joined [] = []
joined (p ∷ ps) = p ++ joined ps

-- a state of p and one of q that look alike from outside; Wrong of q stands for its Fault too
pub record Alike (p q : System) (s : p.State) (t : q.State) : Type 0 where
  -- as many threads, and the same ones have ended
  pub same_threads : p.threads s ≡ q.threads t
  pub same_ended : (i : ℕ) → p.has_ended s i ≡ q.has_ended t i
  -- a thread with no write buffered in q has none buffered in p
  pub no_write_buffered : (i : ℕ) → q.has_put t i ≡ false → p.has_put s i ≡ false
  -- the same end
  pub not_wrong : q.status t ≢ Wrong
  pub same_exit : p.status s ≡ Exited ↔ q.status t ≡ Exited
  pub same_no_heap : p.status s ≡ NoHeap ↔ q.status t ≡ NoHeap
  -- the same live heap blocks
  pub same_heap : (base : ℕ) → p.heap s base ≡ q.heap t base
  -- where q tells live calls, they are p's
  pub same_calls : (i : ℕ) → SaysSame (p.calls s i) (q.calls t i)

-- after some steps of q and the pieces for them
pub record Agrees (p q : System) (s : p.State) (t : q.State) (xs ys : List Step) : Type 0 where
  -- until p is wrong they look alike, and have shown the same events
  pub alike : p.status (after p s xs) ≢ Wrong → Alike p q (after p s xs) (after q t ys)
  pub same_events : p.status (after p s xs) ≢ Wrong → shown p s xs ≡ shown q t ys
  -- what p has shown when it goes wrong is a prefix of what q has shown
  pub goes_wrong_inside : p.status (after p s xs) ≡ Wrong → IsPrefixOf (shown p s xs) (shown q t ys)

-- the steps of q, with a piece of p for each; the pieces end with the step that makes p wrong, where there is one
pub record Matches (p q : System) (pace : ℕ) (s : p.State) (t : q.State) (steps : List Step) (pieces : List (List Step)) : Type 0 where
  pub as_many : length pieces ≡ length steps
  pub is_run : IsRun p s (joined pieces)
  pub agrees : (n : ℕ) → n ≤ length steps → Agrees p q s t (joined (take n pieces)) (take n steps)
  -- in every stretch before p is wrong, thread by thread: a run of p pays for so many runs of q
  pub within_pace : (i m n : ℕ) → m + n ≤ length steps → p.status (after p s (joined (take (m + n) pieces))) ≢ Wrong → runs_of i (take n (drop m steps)) + 1 ≤ pace * (runs_of i (joined (take n (drop m pieces))) + 1)
