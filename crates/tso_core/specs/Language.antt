-- Thread languages: what a program of one means (after the thread languages of CompCertTSO; here each is a record of functions, so a thread has one next step for each answer).
use Rattle.std.specs.Prelude.{◌≡◌, ◌≢◌, ℕ, ◌^◌, ◌<◌, List, [], ◌∷◌, ◌++◌, Option, Some}
use Rattle.tso_words.specs.declared.value.Val.{Val}
use Rattle.tso_words.specs.declared.value.Val.TheVariants.{Undef, Word}
use Rattle.tso_core.specs.declared.offer.Offer.{Offer}
use Rattle.tso_core.specs.declared.offer.Offer.TheVariants as O
use Rattle.tso_core.specs.declared.offer.Answer.{Answer}
use Rattle.tso_core.specs.declared.offer.Answer.TheVariants.{Nothing, Value}
use Rattle.tso_core.specs.Systems.{Names, Places, GlobalsOf}

-- a program of a thread language, over the states of its threads
pub record Language (State : Type 0) : Type 0 where
  pub globals : GlobalsOf
  -- the frame sizes that it states
  pub stated : Names → Option ℕ
  -- the thread of main, and one that calls the function at an address with an argument
  pub first : Places → State
  pub started : Places → Val → Val → Option State
  -- what a thread does next, and how it goes on with an answer to that
  pub offer : Places → State → Offer
  pub resumed : Places → State → Answer → State
  -- the functions of its live calls, the innermost first; one that is being entered is live
  pub calls : State → List Names
  -- the bases and sizes of its local objects
  pub ranges : State → List (ℕ × ℕ)

-- the answers that an offer takes
abbrev pub IsNothing : Answer → Type 0
IsNothing Nothing = Unit {0}
IsNothing (Value v) = ⊥

abbrev pub IsValue : Answer → Type 0
IsValue Nothing = ⊥
IsValue (Value v) = Unit {0}

abbrev pub IsWord : Val → Type 0
IsWord Undef = ⊥
IsWord (Word w) = w < 2 ^ 32

abbrev pub IsWordValue : Answer → Type 0
IsWordValue Nothing = ⊥
IsWordValue (Value v) = IsWord v

abbrev pub Takes : Offer → Answer → Type 0
Takes O.Silent a = IsNothing a
Takes (O.Load chunk addr) a = IsValue a
Takes (O.Store chunk addr val) a = IsNothing a
Takes (O.Place size align) a = IsWordValue a
Takes (O.Lift base size) a = IsNothing a
Takes O.Fence a = IsNothing a
Takes (O.Atomic kind addr expected desired) a = IsValue a
Takes (O.Malloc size) a = IsWordValue a
Takes (O.Free addr) a = IsNothing a
Takes (O.Start fun arg) a = IsWordValue a
Takes (O.Call name words) a = IsNothing a
Takes O.Wait a = IsWordValue a
Takes (O.Exit word) a = ⊥
Takes O.End a = ⊥
Takes O.Wrong a = ⊥

-- a list with a range is the other with it taken off
pub record IsWithout (range : ℕ × ℕ) (with without : List (ℕ × ℕ)) : Type 0 where
  pub front : List (ℕ × ℕ)
  pub back : List (ℕ × ℕ)
  pub with_is : with ≡ front ++ range ∷ back
  pub without_is : without ≡ front ++ back

module _ {State : Type 0} (l : Language State) where
  -- the threads that come of a program at a placement
  pub data IsThread (at : Places) : State → Type 0 where
    First : IsThread at (l.first at)
    Started : (fun arg : Val) (s : State) → l.started at fun arg ≡ Some s → IsThread at s
    Resumed : (s : State) (a : Answer) → IsThread at s → Takes (l.offer at s) a → IsThread at (l.resumed at s a)

  -- the ranges of a thread after an answer to its offer
  abbrev pub RangesAfter : Offer → Answer → List (ℕ × ℕ) → List (ℕ × ℕ) → Type 0
  RangesAfter (O.Place size align) (Value (Word base)) old new = IsWithout (base, size) new old
  RangesAfter (O.Lift base size) a old new = IsWithout (base, size) old new
  RangesAfter o a old new = new ≡ old

  -- what each language promises of its live calls and ranges, at each placement of a program's names
  pub record IsLawful : Type 0 where
    -- a thread has a live call until it has ended
    pub some_call : (at : Places) (s : State) → IsThread at s → l.calls s ≢ []
    pub first_ranges : (at : Places) → l.ranges (l.first at) ≡ []
    pub started_ranges : (at : Places) (fun arg : Val) (s : State) → l.started at fun arg ≡ Some s → l.ranges s ≡ []
    -- a Place adds its range, a Lift takes off one that is there, and no other step changes them
    pub resumed_ranges : (at : Places) (s : State) (a : Answer) → IsThread at s → Takes (l.offer at s) a → RangesAfter (l.offer at s) a (l.ranges s) (l.ranges (l.resumed at s a))
