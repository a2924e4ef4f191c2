-- Where code that stops at the first fault stops: in one part, or behind parts without faults.
use Rattle.std.proofs.Common.{◌≡◌, ℕ, Bool, true, false, true≢false, refl, sym, subst}
use Rattle.std.specs.Prelude.{Result, Ok, Err, IsErrAnd}
use Rattle.clight_types.specs.declared.rule.Rule.{Rule}
use Rattle.clight_types.specs.declared.rule.Refusal.{Refusal}
use Rattle.clight_types.specs.declared.rule.Refusal.TheVariants as refusal
use Rattle.clight_types.specs.Judged.{Judged, fault, and_then, unless, Judges, IsOwed}
use Rattle.clight_specifiers.proofs.Faults.{first_then}

-- what code that stops with this refusal says of a part, whatever it would have made of it
abbrev pub Stops : {A : Type 0} → Judged A → Refusal → Type 0
Stops {A} j e = Judges {B = A} j (λ a. a) (Err e)

stops_then : {A B : Type 0} (j : Judged A) (next : A → Judged B) (e : Refusal) → Stops j e → Stops (and_then j next) e
stops_then j next (refusal.Faulty f) h = first_then j next f h
stops_then j next refusal.NoMemory h = tt

pub stops_as : {A : Type 0} (j k : Judged A) (e : Refusal) → j ≡ k → Stops k e → Stops j e
stops_as j k e same h = subst (λ i. Stops i e) (sym same) h

-- the fault of the next part is the first one of all
pub stops_on : {A B : Type 0} (all : Judged B) (j : Judged A) (next : A → Judged B) (e : Refusal) → all ≡ and_then j next → Stops j e → Stops all e
stops_on all j next e front h = stops_as all (and_then j next) e front (stops_then j next e h)

-- nothing is said where memory is short
pub stops_short : {A : Type 0} (j : Judged A) (e : Refusal) → e ≡ refusal.NoMemory → Stops j e
stops_short j e short = subst (λ r. Stops j r) (sym short) tt

-- what `?` hands on is the refusal itself
pub fails_as : {A B : Type 0} (j : Judged A) (view : B → A) (r : Result B Refusal) (e : Refusal) → IsErrAnd r (λ y. y ≡ e) → Stops j e → Judges j view r
fails_as j view (Ok b) e h p = absurd h
fails_as j view (Err y) e h p = subst (λ x. Judges j view (Err x)) (sym h) p

pub fails_short : {A B : Type 0} (j : Judged A) (view : B → A) (r : Result B Refusal) → IsErrAnd r (λ y. y ≡ refusal.NoMemory) → Judges j view r
fails_short j view r h = fails_as j view r refusal.NoMemory h tt

-- what a rule asks for does not hold
pub stops_unless : {A : Type 0} (ok : Bool) (r : Rule) (at : ℕ) (j : Judged A) (e : Refusal) → IsOwed ok r at e → Stops (unless ok r at j) e
stops_unless true r at j e h = absurd (true≢false h.0)
stops_unless false r at j e h = subst (λ x. Stops (fault r at j) x) (sym h.1) refl
