-- The relation as it is used gives the one with pieces that need not be runs.
use Rattle.std.proofs.Common.{◌≡◌, ◌≢◌, ℕ, ◌+◌, ◌≤◌, List, [], ◌∷◌, ◌++◌, length, take, drop, refl, sym, ap, ◌∙◌, subst, append_assoc}
use Rattle.tso_core.specs.declared.Step.{Step}
use Rattle.tso_core.specs.Systems.{System, Wrong, after, shown, IsRun}
use Rattle.tso_core.specs.Matching.{IsPrefixOf, joined, Matches}
use Rattle.tso_core.specs.Literal.{MakesWrong, LiteralMatches}
use Rattle.tso_core.proofs.Pieces.{joined_split, IsPrefixOf-trans, IsPrefixOf-refl}
use Rattle.tso_core.proofs.Runs.{front_runs, shown-append, dec_wrong}

-- a list with a step has a last one
split_end : (x : Step) (xs : List Step) → (front : List Step) × (y : Step) × (x ∷ xs ≡ front ++ y ∷ [])
split_end x [] = ([], x, refl)
split_end x (z ∷ xs) = let r = split_end z xs in (x ∷ r.0, r.1, ap (λ l. x ∷ l) r.2)

module _ (p q : System) (k : ℕ) (s : p.State) (t : q.State) (right : p.status s ≢ Wrong) (steps : List Step) (pieces : List (List Step)) (a : Matches p q k s t steps pieces) where
  runs_to : (n : ℕ) → IsRun p s (joined (take n pieces))
  runs_to n = front_runs p s (joined (take n pieces)) (joined (drop n pieces)) (subst (λ l. IsRun p s l) (sym (joined_split n pieces)) a.is_run)

  pub not_wrong : (xs : List Step) → IsRun p s xs → ¬ MakesWrong p s xs → p.status (after p s xs) ≢ Wrong
  not_wrong [] run h e = right e
  not_wrong (x ∷ xs) run h e =
      let r = split_end x xs in
      h (record { front = r.0; last = r.1; back = []; parts = r.2; enabled = subst (λ l. IsRun p s l) r.2 run; wrong = subst (λ l. p.status (after p s l) ≡ Wrong) r.2 e })

  all_prefix : (n : ℕ) → n ≤ length steps → Dec (p.status (after p s (joined (take n pieces))) ≡ Wrong) → IsPrefixOf (shown p s (joined (take n pieces))) (shown q t (take n steps))
  all_prefix n h (yes e) = (a.agrees n h).goes_wrong_inside e
  all_prefix n h (no w) = subst (λ l. IsPrefixOf (shown p s (joined (take n pieces))) l) ((a.agrees n h).same_events w) (IsPrefixOf-refl (shown p s (joined (take n pieces))))

  up_to_wrong : (n : ℕ) → n ≤ length steps → (w : MakesWrong p s (joined (take n pieces))) → IsPrefixOf (shown p s (w.front ++ w.last ∷ [])) (shown q t (take n steps))
  up_to_wrong n h w =
      let cut = w.front ++ w.last ∷ [] in
      let whole : joined (take n pieces) ≡ cut ++ w.back = w.parts ∙ sym (append_assoc w.front (w.last ∷ []) w.back) in
      let low : IsPrefixOf (shown p s cut) (shown p s (joined (take n pieces))) = (shown p (after p s cut) w.back, sym (shown-append p s cut w.back) ∙ ap (shown p s) (sym whole)) in
      IsPrefixOf-trans (shown p s cut) (shown p s (joined (take n pieces))) (shown q t (take n steps)) low (all_prefix n h (dec_wrong (p.status (after p s (joined (take n pieces))))))

  pub literally : LiteralMatches p q k s t steps pieces
  literally =
      record {
        as_many = a.as_many;
        below = λ n h w. let r = not_wrong (joined (take n pieces)) (runs_to n) w in (runs_to n, (a.agrees n h).same_events r, (a.agrees n h).alike r);
        within_pace = λ i m n h w. a.within_pace i m n h (not_wrong (joined (take (m + n) pieces)) (runs_to (m + n)) w);
        at_wrong = up_to_wrong;
      }
