-- Refinement gives the compiler theorem, where the source is a machine over a thread language.
use Rattle.std.proofs.Common.{◌≡◌, ◌≢◌, ℕ, ◌+◌, ◌<◌, ◌≤◌, List, [], ◌∷◌, refl, arith, Option, Some, None, ◌⊎◌, inl, inr}
use Rattle.tso_core.specs.declared.Step.{Step}
use Rattle.tso_core.specs.declared.offer.Now.{Now}
use Rattle.tso_core.specs.declared.offer.Now.TheVariants as N
use Rattle.tso_core.specs.Systems.{System, Wrong, NoStack, Names, Places, after}
use Rattle.tso_core.specs.Threads.{status_of}
use Rattle.tso_core.specs.Matching.{joined}
use Rattle.tso_core.specs.Literal.{MakesWrong}
use Rattle.tso_core.specs.Refinement.{size_or_none, stated_sum, calls_sum, StackCase, AlreadyThere, AtStart, TooDeep, Follows, Refines}
use Rattle.tso_core.specs.Language.{Language}
use Rattle.tso_core.specs.Machine.{machine}
use Rattle.tso_core.specs.Theorem.{frame_bound, frame_bounds, bounds_of, StackJustified, MatchedRun, EveryRunMatched}
use Rattle.tso_core.specs.Theorem as theorem
use Rattle.tso_core.proofs.Literally.{not_wrong, literally}

-- no bound is below the size that is stated, and where one is stated the 8 bytes at the top of a stack are paid
size_bound : (o : Option ℕ) → (size_or_none o ≡ 0) ⊎ (size_or_none o + 8 ≤ frame_bound o)
size_bound None = inl refl
size_bound (Some n) = inr (omega arith)

size_below : (o : Option ℕ) → size_or_none o ≤ frame_bound o
size_below None = omega arith
size_below (Some n) = omega arith

sums_below : (f : Names → Option ℕ) (calls : List Names) → stated_sum f calls ≤ frame_bounds f calls
sums_below f [] = omega arith
sums_below f (c ∷ cs) = omega (arith, size_below (f c), sums_below f cs)

sums_paid : (f : Names → Option ℕ) (calls : List Names) → 0 < stated_sum f calls → stated_sum f calls + 8 ≤ frame_bounds f calls
sums_paid f [] h = absurd (omega arith)
sums_paid f (c ∷ cs) h = go (size_bound (f c)) (sums_paid f cs)
  where
    go : (size_or_none (f c) ≡ 0) ⊎ (size_or_none (f c) + 8 ≤ frame_bound (f c)) → (0 < stated_sum f cs → stated_sum f cs + 8 ≤ frame_bounds f cs) → (size_or_none (f c) + stated_sum f cs) + 8 ≤ frame_bound (f c) + frame_bounds f cs
    go (inl e) rest =
        let some : 0 < stated_sum f cs = omega arith in
        omega (arith, rest some, size_below (f c))
    go (inr le) rest = omega (arith, le, sums_below f cs)

over_bounds : (f : Names → Option ℕ) (calls : Option (List Names)) → 1048576 < calls_sum f calls + 8 → 1048576 < bounds_of f calls
over_bounds f None h = absurd (omega arith)
over_bounds f (Some cs) h =
    let some : 0 < stated_sum f cs = omega arith in
    omega (arith, sums_paid f cs some)

module _ (p q : System) (pace : ℕ) (right : (at : Places) → p.status (p.opening at) ≢ Wrong) (has_stack : (s : p.State) → p.status s ≢ NoStack) where
  justified : (s : p.State) (t : q.State) (xs ys : List Step) (i : ℕ) → StackCase p q s t xs ys i → StackJustified p q s t xs ys i
  justified s t xs ys i (AlreadyThere e last zero) = absurd (has_stack (after p s xs) e)
  justified s t xs ys i (AtStart zero running starts) = theorem.AtStart zero running starts
  justified s t xs ys i (TooDeep over) = theorem.TooDeep (over_bounds p.stated (p.calls (after p s xs) i) over)

  matched_by : (at : Places) (steps : List Step) → Follows p q pace (p.opening at) (q.opening at) steps → MatchedRun p q pace at steps
  matched_by at steps f =
      let no_wrong : ¬ MakesWrong p (p.opening at) (joined f.pieces) → p.status (after p (p.opening at) (joined f.pieces)) ≢ Wrong = not_wrong p q pace (p.opening at) (q.opening at) (right at) steps f.pieces f.matches (joined f.pieces) f.matches.is_run in
      record {
        pieces = f.pieces;
        matches = literally p q pace (p.opening at) (q.opening at) (right at) steps f.pieces f.matches;
        same_request = λ e w. f.ends.same_request e (no_wrong w);
        stack_justified = λ e w i last. justified (p.opening at) (q.opening at) (joined f.pieces) steps i (f.ends.stack_justified e (no_wrong w) i last);
      }

  pub matched : Refines p q pace → EveryRunMatched p q pace
  matched r =
      record {
        labels_proper = r.labels_proper;
        matched = λ at proper steps run. matched_by at steps (r.matches at proper steps run);
      }

-- a machine over a thread language begins rightly, and never wants stack
never_no_stack : (n : Now) → status_of n ≢ NoStack
never_no_stack N.Running e = cc
never_no_stack N.Exited e = cc
never_no_stack N.Wrong e = cc
never_no_stack N.NoHeap e = cc

right_at_first : status_of N.Running ≢ Wrong
right_at_first e = cc

pub machine_matched : {State : Type 0} (l : Language State) (q : System) (pace : ℕ) → Refines (machine l) q pace → EveryRunMatched (machine l) q pace
unfolding machine
machine_matched l q pace r = matched (machine l) q pace (λ at. right_at_first) (λ m. never_no_stack m.shared.now) r
