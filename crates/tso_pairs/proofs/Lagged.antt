-- A simulation of threads from its core.
use Rattle.std.proofs.Common.{◌≡◌, ℕ, zero, suc, ◌+◌, ◌-◌, sym, ap, subst, ◌∙◌, arith, ◌⊎◌, inl, inr}
use Rattle.tso_core.specs.declared.offer.Answer.TheVariants.{Nothing}
use Rattle.tso_core.specs.Systems.{Places}
use Rattle.tso_core.specs.Language.{Language}
use Rattle.tso_core.specs.Below.{OfferBelow}
use Rattle.tso_core.specs.Simulation.{silently, StaysSilent, GoesWrongAlone, FollowsAlone, ComesToOffer, ThreadSimulation}
use Rattle.tso_pairs.specs.Lagging.{Lags, Moves, Offers, CoreSimulation, LagsWith}

module _ {S : Type 0} (l : Language S) (at : Places) where
  -- Silent steps behind Silent steps
  silently-add : (s : S) (a b : ℕ) → silently l at s (a + b) ≡ silently l at (silently l at s a) b
  silently-add s zero b = let e : 0 + b ≡ b = omega arith in ap (silently l at s) e
  silently-add s (suc a) b = let e : suc a + b ≡ suc (a + b) = omega arith in ap (silently l at s) e ∙ silently-add (l.resumed at s Nothing) a b

  stays-add : (s : S) (a b : ℕ) → StaysSilent l at s a → StaysSilent l at (silently l at s a) b → StaysSilent l at s (a + b)
  stays-add s zero b h k = let e : b ≡ 0 + b = omega arith in subst (StaysSilent l at s) e k
  stays-add s (suc a) b h k = let e : suc (a + b) ≡ suc a + b = omega arith in subst (StaysSilent l at s) e (h.0, stays-add (l.resumed at s Nothing) a b h.1 k)

  wrong_later : (s : S) (a : ℕ) → StaysSilent l at s a → GoesWrongAlone l at (silently l at s a) → GoesWrongAlone l at s
  wrong_later s a h w = record {
    count = a + w.count;
    silent = stays-add s a w.count h w.silent;
    wrong = ap (l.offer at) (silently-add s a w.count) ∙ w.wrong;
  }

module _ {S T : Type 0} (p : Language S) (q : Language T) (Core : Places → S → T → Type 0) (measure : Places → S → T → ℕ) (bound : ℕ) (h : CoreSimulation p q Core measure bound) where
  abbrev R : Places → S → T → ℕ → Type 0
  R = LagsWith p q Core measure bound

  -- where the lag is known, the number is what the measure leaves
  numbered : (at : Places) (s : S) (t : T) (k : Lags p q Core measure at s t) → R at s t (bound - measure at (silently p at s k.lag) t)
  numbered at s t k = let m = h.measured at (silently p at s k.lag) t k.core in record { lags = k; within = omega (arith, m) }

  opened : (at : Places) (s : S) (t : T) → Lags p q Core measure at s t → R at s t 0
  opened at s t k = let m = h.measured at (silently p at s k.lag) t k.core in record { lags = k; within = omega (arith, m) }

  -- the steps of the lag come first
  moved : (at : Places) (s : S) (t : T) (n : ℕ) (r : R at s t n) → Moves p q Core measure at (silently p at s r.lags.lag) t → FollowsAlone p q R at s t n
  moved at s t n r m =
      let lag = r.lags.lag in
      let met = silently p at s lag in
      let to = silently p at met m.count in
      let same : silently p at s (lag + m.count) ≡ to = silently-add p at s lag m.count in
      let left = measure at (silently p at to m.lags.lag) (q.resumed at t Nothing) in
      let most = h.measured at (silently p at to m.lags.lag) (q.resumed at t Nothing) m.lags.core in
      let old = r.within in
      record {
        count = lag + m.count;
        silent = stays-add p at s lag m.count r.lags.silent m.silent;
        number = bound - left;
        related = subst (λ z. R at z (q.resumed at t Nothing) (bound - left)) (sym same) (numbered at to (q.resumed at t Nothing) m.lags);
        counted = λ e.
            let none : m.count ≡ 0 = omega arith in
            let falls = m.falls none in
            omega (arith, falls, old, most);
      }

  offered : (at : Places) (s : S) (t : T) (n : ℕ) (r : R at s t n) → Offers p q Core measure at (silently p at s r.lags.lag) t → ComesToOffer p q R at s t
  offered at s t n r m =
      let lag = r.lags.lag in
      let met = silently p at s lag in
      let to = silently p at met m.count in
      let same : silently p at s (lag + m.count) ≡ to = silently-add p at s lag m.count in
      record {
        count = lag + m.count;
        silent = stays-add p at s lag m.count r.lags.silent m.silent;
        below = subst (λ z. OfferBelow (p.offer at z) (q.offer at t)) (sym same) m.below;
        calls = ap p.calls same ∙ m.calls;
        resumes = λ a1 a2 le. (0, subst (λ z. R at (p.resumed at z a1) (q.resumed at t a2) 0) (sym same) (opened at (p.resumed at to a1) (q.resumed at t a2) (m.resumes a1 a2 le)));
      }

  pub lagging_simulates : ThreadSimulation p q R bound
  lagging_simulates =
      record {
        globals = h.globals;
        stated = h.stated;
        first = λ at proper. opened at (p.first at) (q.first at) (h.first at proper);
        started = λ at proper f1 f2 a1 a2 s lf la e. let k = h.started at proper f1 f2 a1 a2 s lf la e in (k.0, k.1, opened at s k.0 k.2);
        bounded = λ at s t n r. let w = r.within in omega (arith, w);
        calls = λ at s t n r. r.lags.calls ∙ h.calls at (silently p at s r.lags.lag) t r.lags.core;
        silent = λ at s t n r e. silent at s t n r (h.silent at (silently p at s r.lags.lag) t r.lags.core e);
        wrong = λ at s t n r e. wrong_later p at s r.lags.lag r.lags.silent (h.wrong at (silently p at s r.lags.lag) t r.lags.core e);
        offers = λ at s t n r e f. offers at s t n r (h.offers at (silently p at s r.lags.lag) t r.lags.core e f);
      }
    where
      silent : (at : Places) (s : S) (t : T) (n : ℕ) (r : R at s t n) → GoesWrongAlone p at (silently p at s r.lags.lag) ⊎ Moves p q Core measure at (silently p at s r.lags.lag) t → GoesWrongAlone p at s ⊎ FollowsAlone p q R at s t n
      silent at s t n r (inl w) = inl (wrong_later p at s r.lags.lag r.lags.silent w)
      silent at s t n r (inr m) = inr (moved at s t n r m)

      offers : (at : Places) (s : S) (t : T) (n : ℕ) (r : R at s t n) → GoesWrongAlone p at (silently p at s r.lags.lag) ⊎ Offers p q Core measure at (silently p at s r.lags.lag) t → GoesWrongAlone p at s ⊎ ComesToOffer p q R at s t
      offers at s t n r (inl w) = inl (wrong_later p at s r.lags.lag r.lags.silent w)
      offers at s t n r (inr m) = inr (offered at s t n r m)
