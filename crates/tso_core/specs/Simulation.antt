-- Thread simulation: two programs of two thread languages, whose machines are tied because their threads are (after the thread simulations of CompCertTSO; here the second program is answered by the first, and Undef of the first may be any word of the second).
use Rattle.std.specs.Prelude.{◌≡◌, ◌≢◌, ℕ, zero, suc, ◌<◌, ◌≤◌, Some, ◌⊎◌}
use Rattle.tso_words.specs.declared.value.Val.{Val}
use Rattle.tso_words.specs.Below.{ValBelow}
use Rattle.tso_core.specs.declared.offer.Offer.TheVariants as O
use Rattle.tso_core.specs.declared.offer.Answer.{Answer}
use Rattle.tso_core.specs.declared.offer.Answer.TheVariants.{Nothing}
use Rattle.tso_core.specs.Systems.{Names, Places}
use Rattle.tso_core.specs.Matching.{SaysSame}
use Rattle.tso_core.specs.Language.{Language}
use Rattle.tso_core.specs.Runs.{IsProper}
use Rattle.tso_core.specs.Below.{OfferBelow, AnswerBelow}

module _ {State : Type 0} (l : Language State) (at : Places) where
  -- so many Silent steps of a thread
  abbrev pub silently : State → ℕ → State
  silently s zero = s
  silently s (suc n) = silently (l.resumed at s Nothing) n

  abbrev pub StaysSilent : State → ℕ → Type 0
  StaysSilent s zero = Unit {0}
  StaysSilent s (suc n) = (l.offer at s ≡ O.Silent) × StaysSilent (l.resumed at s Nothing) n

  -- by Silent steps alone the thread comes to Wrong
  pub record GoesWrongAlone (s : State) : Type 0 where
    pub count : ℕ
    pub silent : StaysSilent s count
    pub wrong : l.offer at (silently s count) ≡ O.Wrong

module _ {S T : Type 0} (p : Language S) (q : Language T) (R : Places → S → T → ℕ → Type 0) where
  -- for a Silent step of the second: some of the first, or none and a greater number
  pub record FollowsAlone (at : Places) (s : S) (t : T) (n : ℕ) : Type 0 where
    pub count : ℕ
    pub silent : StaysSilent p at s count
    pub number : ℕ
    pub related : R at (silently p at s count) (q.resumed at t Nothing) number
    pub counted : count ≡ 0 → n < number

  -- the first comes by Silent steps to where it offers what the second offers; after answers so related they are related again
  pub record ComesToOffer (at : Places) (s : S) (t : T) : Type 0 where
    pub count : ℕ
    pub silent : StaysSilent p at s count
    pub below : OfferBelow (p.offer at (silently p at s count)) (q.offer at t)
    pub calls : p.calls (silently p at s count) ≡ q.calls t
    pub resumes : (a1 a2 : Answer) → AnswerBelow (q.offer at t) a1 a2 → (n : ℕ) × R at (p.resumed at (silently p at s count) a1) (q.resumed at t a2) n

  -- the relation is a simulation of the threads; its numbers count the Silent steps of the second in a row without one of the first
  pub record ThreadSimulation (bound : ℕ) : Type 0 where
    pub globals : p.globals ≡ q.globals
    pub stated : (f : Names) → SaysSame (p.stated f) (q.stated f)
    pub first : (at : Places) → IsProper q.globals at → R at (p.first at) (q.first at) 0
    pub started : (at : Places) → IsProper q.globals at → (fun1 fun2 arg1 arg2 : Val) (s : S) → ValBelow fun1 fun2 → ValBelow arg1 arg2 → p.started at fun1 arg1 ≡ Some s → (t : T) × (q.started at fun2 arg2 ≡ Some t) × R at s t 0
    pub bounded : (at : Places) (s : S) (t : T) (n : ℕ) → R at s t n → n ≤ bound
    pub calls : (at : Places) (s : S) (t : T) (n : ℕ) → R at s t n → p.calls s ≡ q.calls t
    -- where the first can reach Wrong by Silent steps alone, the second is free
    pub silent : (at : Places) (s : S) (t : T) (n : ℕ) → R at s t n → q.offer at t ≡ O.Silent → GoesWrongAlone p at s ⊎ FollowsAlone at s t n
    pub wrong : (at : Places) (s : S) (t : T) (n : ℕ) → R at s t n → q.offer at t ≡ O.Wrong → GoesWrongAlone p at s
    pub offers : (at : Places) (s : S) (t : T) (n : ℕ) → R at s t n → q.offer at t ≢ O.Silent → q.offer at t ≢ O.Wrong → GoesWrongAlone p at s ⊎ ComesToOffer at s t
