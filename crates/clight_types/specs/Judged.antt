-- What is made of a part of a file, with all the faults that are met on the way, in order. A fault stops nothing: what stands behind it is judged with a value that recovers from it.
use Rattle.std.specs.Prelude.{◌≡◌, ℕ, Bool, true, false, List, [], ◌∷◌, Result, Ok, Err}
use Rattle.clight_types.specs.declared.rule.Rule.{Rule}
use Rattle.clight_types.specs.declared.rule.Fault.{Fault}
use Rattle.clight_types.specs.declared.rule.Refusal.{Refusal}
use Rattle.clight_types.specs.declared.rule.Refusal.TheVariants as refusal

pub data Judged (A : Type 0) : Type 0 where
  value : A → Judged A
  fault : Rule → ℕ → Judged A → Judged A

-- one part behind another
abbrev pub and_then : {A B : Type 0} → Judged A → (A → Judged B) → Judged B
and_then (value a) next = next a
and_then (fault r at j) next = fault r at (and_then j next)

-- a fault, unless what the rule asks for holds
abbrev pub unless : {A : Type 0} → Bool → Rule → ℕ → Judged A → Judged A
unless true r at j = j
unless false r at j = fault r at j

abbrev pub fault_at : Rule → ℕ → Fault
fault_at r at = record { rule = r; at = at }

-- all faults, in order, and what was made
abbrev pub faults_of : {A : Type 0} → Judged A → List Fault
faults_of (value a) = []
faults_of (fault r at j) = fault_at r at ∷ faults_of j

abbrev pub made_of : {A : Type 0} → Judged A → A
made_of (value a) = a
made_of (fault r at j) = made_of j

-- what stops at the first fault
abbrev pub first_of : {A : Type 0} → Judged A → Result A Fault
first_of (value a) = Ok a
first_of (fault r at j) = Err (fault_at r at)

-- what code that stops at the first fault answers: what was made where there is no fault, and else the first one
abbrev pub Judges : {A B : Type 0} → Judged A → (B → A) → Result B Refusal → Type 0
Judges j view (Ok b) = j ≡ value (view b)
Judges j view (Err (refusal.Faulty f)) = first_of j ≡ Err f
Judges j view (Err refusal.NoMemory) = Unit {0}

-- what a rule asks for does not hold
abbrev pub IsOwed : Bool → Rule → ℕ → Refusal → Type 0
IsOwed ok r at e = (ok ≡ false) × (e ≡ refusal.Faulty (fault_at r at))
