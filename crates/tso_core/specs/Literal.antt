-- Matching runs in the form in which a reader may expect them: the pieces need not be runs, and the first step that makes p wrong is looked for among them. Matching gives this form.
use Rattle.std.specs.Prelude.{◌≡◌, ℕ, ◌+◌, ◌*◌, ◌≤◌, List, [], ◌∷◌, ◌++◌, length, take, drop}
use Rattle.tso_core.specs.declared.Step.{Step}
use Rattle.tso_core.specs.Systems.{System, Wrong, after, shown, IsRun, runs_of}
use Rattle.tso_core.specs.Matching.{IsPrefixOf, joined, Alike}

-- a step of the list makes p wrong, and the steps up to it are enabled
pub record MakesWrong (p : System) (s : p.State) (xs : List Step) : Type 0 where
  pub front : List Step
  pub last : Step
  pub back : List Step
  pub parts : xs ≡ front ++ last ∷ back
  pub enabled : IsRun p s (front ++ last ∷ [])
  pub wrong : p.status (after p s (front ++ last ∷ [])) ≡ Wrong

-- the steps of q and a piece of p for each
pub record LiteralMatches (p q : System) (pace : ℕ) (s : p.State) (t : q.State) (steps : List Step) (pieces : List (List Step)) : Type 0 where
  pub as_many : length pieces ≡ length steps
  -- before the first piece in which p goes wrong
  pub below : (n : ℕ) → n ≤ length steps → ¬ MakesWrong p s (joined (take n pieces)) → IsRun p s (joined (take n pieces)) × (shown p s (joined (take n pieces)) ≡ shown q t (take n steps)) × Alike p q (after p s (joined (take n pieces))) (after q t (take n steps))
  pub within_pace : (i m n : ℕ) → m + n ≤ length steps → ¬ MakesWrong p s (joined (take (m + n) pieces)) → runs_of i (take n (drop m steps)) + 1 ≤ pace * (runs_of i (joined (take n (drop m pieces))) + 1)
  -- where it does: its steps up to there are enabled, and what they show is a prefix
  pub at_wrong : (n : ℕ) → n ≤ length steps → (w : MakesWrong p s (joined (take n pieces))) → IsPrefixOf (shown p s (w.front ++ w.last ∷ [])) (shown q t (take n steps))
