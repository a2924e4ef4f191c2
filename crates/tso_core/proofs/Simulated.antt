-- A simulation of threads gives refinement of their machines.
use Rattle.std.proofs.Common.{◌≡◌, ◌≢◌, ℕ, zero, suc, ◌+◌, refl, sym, ap, subst, Some, ◌⊎◌, inl, inr}
use Rattle.tso_core.specs.declared.offer.Offer.{Offer}
use Rattle.tso_core.specs.declared.offer.Offer.TheVariants as O
use Rattle.tso_core.specs.declared.offer.Answer.TheVariants.{Nothing}
use Rattle.tso_core.specs.Systems.{Places}
use Rattle.tso_core.specs.Refinement.{Refines}
use Rattle.tso_core.specs.Threads.{Silent, Fails, Does, silents, AreSilent, ReachesWrong}
use Rattle.tso_core.specs.ThreadTies.{Meets, FollowsSilently, IsThreadTie}
use Rattle.tso_core.specs.Language.{Language}
use Rattle.tso_core.specs.Shared.{shared_part}
use Rattle.tso_core.specs.Runs.{IsProper, opening}
use Rattle.tso_core.specs.Machine.{offered, lang_of, machine}
use Rattle.tso_core.specs.Below.{SharedBelow, OfferBelow, LoadBelow, StoreBelow, AtomicBelow, MallocBelow, FreeBelow, StartBelow, ExitBelow, SameOffer, AnswerBelow, orders}
use Rattle.tso_core.specs.Simulation.{silently, StaysSilent, GoesWrongAlone, FollowsAlone, ComesToOffer, ThreadSimulation}
use Rattle.tso_core.proofs.Lifted
use Rattle.tso_core.proofs.Monotone.{monotone, memory_refl}

-- which offer is which
is_silent : (o : Offer) → offered o ≡ Silent → o ≡ O.Silent
is_silent O.Silent e = refl
is_silent O.Wrong e = cc
is_silent _ e = cc

is_wrong : (o : Offer) → offered o ≡ Fails → o ≡ O.Wrong
is_wrong O.Silent e = cc
is_wrong O.Wrong e = refl
is_wrong _ e = cc

record IsOther (o op : Offer) : Type 0 where
  same : o ≡ op
  loud : o ≢ O.Silent
  right : o ≢ O.Wrong

is_other : (o op : Offer) → offered o ≡ Does op → IsOther o op
is_other O.Silent op e = cc
is_other O.Wrong op e = cc
is_other _ op e = record { same = cc; loud = λ f. cc; right = λ f. cc }

does_same : (o : Offer) → o ≢ O.Silent → o ≢ O.Wrong → offered o ≡ Does o
does_same O.Silent h g = absurd (h refl)
does_same O.Wrong h g = absurd (g refl)
does_same _ h g = refl

does_below : {o1 o2 : Offer} → OfferBelow o1 o2 → o2 ≢ O.Silent → o2 ≢ O.Wrong → offered o1 ≡ Does o1
does_below (LoadBelow l) h g = refl
does_below (StoreBelow l m) h g = refl
does_below (AtomicBelow l m n) h g = refl
does_below (MallocBelow l) h g = refl
does_below (FreeBelow l) h g = refl
does_below (StartBelow l m) h g = refl
does_below (ExitBelow l) h g = refl
does_below (SameOffer {o = o}) h g = does_same o h g

module _ {State : Type 0} (l : Language State) (at : Places) where
  same_state : (s : State) (n : ℕ) → silently l at s n ≡ silents shared_part (lang_of l) at s n
  same_state s zero = refl
  same_state s (suc n) = same_state (l.resumed at s _) n

  same_silence : (s : State) (n : ℕ) → StaysSilent l at s n → AreSilent shared_part (lang_of l) at s n
  same_silence s zero h = tt
  same_silence s (suc n) h = (ap offered h.0, same_silence (l.resumed at s _) n h.1)

  same_wrong : (s : State) → GoesWrongAlone l at s → ReachesWrong shared_part (lang_of l) at s
  same_wrong s w =
      record {
        count = w.count;
        silent = same_silence s w.count w.silent;
        fails = subst (λ x. offered (l.offer at x) ≡ Fails) (same_state s w.count) (ap offered w.wrong);
      }

module _ {S T : Type 0} (p : Language S) (q : Language T) (R : Places → S → T → ℕ → Type 0) (bound : ℕ) (sim : ThreadSimulation p q R bound) where
  follows : (at : Places) (s : S) (t : T) (n : ℕ) → GoesWrongAlone p at s ⊎ FollowsAlone p q R at s t n → ReachesWrong shared_part (lang_of p) at s ⊎ FollowsSilently shared_part orders (lang_of p) (lang_of q) R at s t n
  follows at s t n (inl w) = inl (same_wrong p at s w)
  follows at s t n (inr f) =
      inr (record {
        count = f.count;
        silent = same_silence p at s f.count f.silent;
        number = f.number;
        related = subst (λ x. R at x (q.resumed at t Nothing) f.number) (same_state p at s f.count) f.related;
        counted = f.counted;
      })

  meets : (at : Places) (s : S) (t : T) (op : Offer) → IsOther (q.offer at t) op → GoesWrongAlone p at s ⊎ ComesToOffer p q R at s t → ReachesWrong shared_part (lang_of p) at s ⊎ Meets shared_part orders (lang_of p) (lang_of q) R at s t op
  meets at s t op o (inl w) = inl (same_wrong p at s w)
  meets at s t op o (inr m) =
      let x = silently p at s m.count in
      let same = same_state p at s m.count in
      inr (record {
        count = m.count;
        silent = same_silence p at s m.count m.silent;
        op = p.offer at x;
        offers = subst (λ y. offered (p.offer at y) ≡ Does (p.offer at x)) same (does_below m.below o.loud o.right);
        below = subst (λ z. OfferBelow (p.offer at x) z) o.same m.below;
        calls = subst (λ y. p.calls y ≡ q.calls t) same m.calls;
        resumes = λ a1 a2 le. let r = m.resumes a1 a2 (subst (λ z. AnswerBelow z a1 a2) (sym o.same) le) in (r.0, subst (λ y. R at (p.resumed at y a1) (q.resumed at t a2) r.0) same r.1);
      })

  opening_below : (at : Places) → SharedBelow (opening p.globals at) (opening q.globals at)
  opening_below at =
      let same : SharedBelow (opening q.globals at) (opening q.globals at) = record { memory = memory_refl _; buffers = (tt, tt); ended = λ j. refl; now = refl; right = λ e. cc } in
      subst (λ g. SharedBelow (opening g at) (opening q.globals at)) (sym sim.globals) same

  tie : IsThreadTie shared_part orders (lang_of p) (lang_of q) R bound
  tie =
      record {
        globals = ap Some sim.globals;
        stated = sim.stated;
        labels_proper = λ at h. subst (λ g. IsProper g at) (sym sim.globals) h;
        opening = λ at h. opening_below at;
        opens_running = λ at. refl;
        first = sim.first;
        started = λ at h g1 g2 s l e. sim.started at h g1.0 g2.0 g1.1 g2.1 s l.0 l.1 e;
        bounded = sim.bounded;
        calls = sim.calls;
        silent = λ at s t n r e. follows at s t n (sim.silent at s t n r (is_silent (q.offer at t) e));
        fails = λ at s t n r e. same_wrong p at s (sim.wrong at s t n r (is_wrong (q.offer at t) e));
        does = λ at s t n r op e. let o = is_other (q.offer at t) op e in meets at s t op o (sim.offers at s t n r o.loud o.right);
      }

  pub simulation_refines : Refines (machine p) (machine q) (bound + 1)
  unfolding machine
  simulation_refines = Lifted.sim_lifts shared_part orders monotone (lang_of p) (lang_of q) R bound tie
