-- Thread simulation from a relation of the places where two programs meet (after the measured simulations of CompCertTSO; here the first program may lag behind by Silent steps that it makes when the second moves next).
use Rattle.std.specs.Prelude.{◌≡◌, ◌≢◌, ℕ, ◌+◌, ◌<◌, ◌≤◌, Some, ◌⊎◌}
use Rattle.tso_words.specs.declared.value.Val.{Val}
use Rattle.tso_words.specs.Below.{ValBelow}
use Rattle.tso_core.specs.declared.offer.Offer.TheVariants as O
use Rattle.tso_core.specs.declared.offer.Answer.{Answer}
use Rattle.tso_core.specs.declared.offer.Answer.TheVariants.{Nothing}
use Rattle.tso_core.specs.Systems.{Names, Places}
use Rattle.tso_core.specs.Matching.{SaysSame}
use Rattle.tso_core.specs.Language.{Language}
use Rattle.tso_core.specs.Runs.{IsProper}
use Rattle.tso_core.specs.Below.{OfferBelow, AnswerBelow}
use Rattle.tso_core.specs.Simulation.{silently, StaysSilent, GoesWrongAlone}

-- Core relates the places where the two programs meet; the measure falls with each Silent step of the second that the first answers by none
module _ {S T : Type 0} (p : Language S) (q : Language T) (Core : Places → S → T → Type 0) (measure : Places → S → T → ℕ) where
  -- by Silent steps, which leave its live calls, the first comes to where they meet
  pub record Lags (at : Places) (s : S) (t : T) : Type 0 where
    pub lag : ℕ
    pub silent : StaysSilent p at s lag
    pub core : Core at (silently p at s lag) t
    pub calls : p.calls s ≡ p.calls (silently p at s lag)

  -- a Silent step of the second: the first makes some, or none and the measure falls
  pub record Moves (at : Places) (s : S) (t : T) : Type 0 where
    pub count : ℕ
    pub silent : StaysSilent p at s count
    pub lags : Lags at (silently p at s count) (q.resumed at t Nothing)
    pub falls : count ≡ 0 → measure at (silently p at (silently p at s count) lags.lag) (q.resumed at t Nothing) < measure at s t

  -- the first comes by Silent steps to where it offers what the second offers; after answers so related it lags again
  pub record Offers (at : Places) (s : S) (t : T) : Type 0 where
    pub count : ℕ
    pub silent : StaysSilent p at s count
    pub below : OfferBelow (p.offer at (silently p at s count)) (q.offer at t)
    pub calls : p.calls (silently p at s count) ≡ q.calls t
    pub resumes : (a1 a2 : Answer) → AnswerBelow (q.offer at t) a1 a2 → Lags at (p.resumed at (silently p at s count) a1) (q.resumed at t a2)

  -- what is owed of the relation; the measure stays within the bound
  pub record CoreSimulation (bound : ℕ) : Type 0 where
    pub globals : p.globals ≡ q.globals
    pub stated : (f : Names) → SaysSame (p.stated f) (q.stated f)
    pub first : (at : Places) → IsProper q.globals at → Lags at (p.first at) (q.first at)
    pub started : (at : Places) → IsProper q.globals at → (fun1 fun2 arg1 arg2 : Val) (s : S) → ValBelow fun1 fun2 → ValBelow arg1 arg2 → p.started at fun1 arg1 ≡ Some s → (t : T) × (q.started at fun2 arg2 ≡ Some t) × Lags at s t
    pub measured : (at : Places) (s : S) (t : T) → Core at s t → measure at s t ≤ bound
    pub calls : (at : Places) (s : S) (t : T) → Core at s t → p.calls s ≡ q.calls t
    -- where the first can reach Wrong by Silent steps alone, the second is free
    pub silent : (at : Places) (s : S) (t : T) → Core at s t → q.offer at t ≡ O.Silent → GoesWrongAlone p at s ⊎ Moves at s t
    pub wrong : (at : Places) (s : S) (t : T) → Core at s t → q.offer at t ≡ O.Wrong → GoesWrongAlone p at s
    pub offers : (at : Places) (s : S) (t : T) → Core at s t → q.offer at t ≢ O.Silent → q.offer at t ≢ O.Wrong → GoesWrongAlone p at s ⊎ Offers at s t

  -- the relation with numbers that follows: a lag, and no more than the bound with the measure
  pub record LagsWith (bound : ℕ) (at : Places) (s : S) (t : T) (n : ℕ) : Type 0 where
    pub lags : Lags at s t
    pub within : n + measure at (silently p at s lags.lag) t ≤ bound
