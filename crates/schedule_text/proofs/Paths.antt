-- Paths of tries and what they show, one more try at a time.
use Rattle.std.proofs.Common.{◌≡◌, ℕ, zero, suc, true, false, ◌+◌, ◌<◌, ◌≤◌, min, List, [], ◌∷◌, ◌++◌, length, Option, Some, None, Result, Ok, Err, refl, sym, ◌∙◌, ap, subst, arith, append_assoc, length-append}
use Rattle.std.specs.Prelude.{is_some}
use Rattle.std.proofs.lemmas.List.{append-nil}
use Rattle.tso_core.specs.declared.Event.{Event}
use Rattle.tso_core.specs.declared.Step.{Step}
use Rattle.tso_core.specs.declared.offer.StepRefusal.{StepRefusal}
use Rattle.tso_core.specs.declared.offer.StepRefusal.TheVariants.{NotEnabled, NoMemory}
use Rattle.schedule_text.specs.declared.playing.Log.{Log}
use Rattle.schedule_text.specs.Stepping.{Gives}
use Rattle.schedule_text.specs.Plays.{Outcome, IsPath, IsBurst, Spent, Stuck, Shows, FirstOf, Second, quiet, events_in}
use Rattle.schedule_text.specs.Playing.{Adds, Logs}

pub events_append : (a b : List (Option Event)) → events_in (a ++ b) ≡ events_in a ++ events_in b
events_append [] b = refl
events_append (None ∷ a) b = events_append a b
events_append (Some e ∷ a) b = ap (λ es. e ∷ es) (events_append a b)

pub path_more : {State : Type 0} (tries : State → Outcome State → Type 0) (s : State) (shown : List (Option Event)) (middle end : State) (e : Option Event) → IsPath tries s shown middle → tries middle (Some (e, end)) → IsPath tries s (shown ++ e ∷ []) end
path_more tries s [] middle end e path gives = (end, subst (λ (x : _). tries x (Some (e, end))) (sym path) gives, refl)
path_more tries s (f ∷ shown) middle end e path gives = (path.0, path.1, path_more tries path.0 shown middle end e path.2 gives)

quiet_suc : (n : ℕ) → quiet (suc n + 1) ≡ None ∷ quiet (n + 1)
quiet_suc n = let e : suc n + 1 ≡ suc (n + 1) = omega arith in ap quiet e

pub quiet_more : (n : ℕ) → quiet n ++ None ∷ [] ≡ quiet (n + 1)
quiet_more zero = refl
quiet_more (suc n) = ap (λ es. None ∷ es) (quiet_more n) ∙ sym (quiet_suc n)

-- the second of two steps, where the first is not enabled
pub second_gives : {State : Type 0} (steps : State → Step → Outcome State → Type 0) (x y : Step) (s middle end : State) (r : Result (Option Event) StepRefusal) → steps s x None → middle ≡ s → Gives (λ a o. steps a y o) middle end r → Gives (FirstOf steps x y) s end r
second_gives steps x y s middle end (Ok e) none same gives = Second (Some (e, end)) none (subst (λ (a : _). steps a y (Some (e, end))) same gives)
second_gives steps x y s middle end (Err NotEnabled) none same gives = (Second None none (subst (λ (a : _). steps a y None) same gives.0), gives.1 ∙ same)
second_gives steps x y s middle end (Err NoMemory) none same gives = gives ∙ same

-- logs
pub adds_none : (log : Log) → log.taken ≤ 18446744073709551615 → Adds [] log log
adds_none log h = record { events = sym (append-nil log.events.items); taken = omega arith }

pub taken_more : (a b m n o : ℕ) → m ≡ min (n + a) 18446744073709551615 → o ≡ min (m + b) 18446744073709551615 → o ≡ min (n + (a + b)) 18446744073709551615
taken_more a b m n o e f = omega arith

pub adds_more : (a b : List (Option Event)) (old middle new : Log) → Adds a old middle → Adds b middle new → Adds (a ++ b) old new
adds_more a b old middle new x y =
    record {
      events = y.events ∙ ap (λ es. es ++ events_in b) x.events ∙ append_assoc old.events.items (events_in a) (events_in b) ∙ ap (λ es. old.events.items ++ es) (sym (events_append a b));
      taken = rw (length-append a b) (taken_more (length a) (length b) middle.taken old.taken new.taken x.taken y.taken);
    }

-- some quiet tries, and the log of them
pub record Turns {State : Type 0} (tries : State → Outcome State → Type 0) (n : ℕ) (s now : State) (old new : Log) : Type 0 where
  pub path : IsPath tries s (quiet n) now
  pub adds : Adds (quiet n) old new

pub turns_start : {State : Type 0} (tries : State → Outcome State → Type 0) (s : State) (log : Log) → log.taken ≤ 18446744073709551615 → Turns tries 0 s s log log
turns_start tries s log h = record { path = refl; adds = adds_none log h }

pub turns_more : {State : Type 0} (tries : State → Outcome State → Type 0) (n : ℕ) (s now end : State) (old log new : Log) → Turns tries n s now old log → tries now (Some (None, end)) → Adds (None ∷ []) log new → Turns tries (n + 1) s end old new
turns_more tries n s now end old log new t gives adds =
    record {
      path = subst (λ (es : List (Option Event)). IsPath tries s es end) (quiet_more n) (path_more tries s (quiet n) now end None t.path gives);
      adds = subst (λ (es : List (Option Event)). Adds es old new) (quiet_more n) (adds_more (quiet n) (None ∷ []) old log new t.adds adds);
    }

pub turns_show : {State : Type 0} (tries : State → Outcome State → Type 0) (n most : ℕ) (s now end : State) (old log new : Log) (e : Event) → Turns tries n s now old log → n < most → tries now (Some (Some e, end)) → Adds (Some e ∷ []) log new → Logs (IsBurst tries most s end) old new
turns_show tries n most s now end old log new e t below gives adds =
    record {
      shown = quiet n ++ Some e ∷ [];
      plays = Shows n e below (path_more tries s (quiet n) now end (Some e) t.path gives);
      adds = adds_more (quiet n) (Some e ∷ []) old log new t.adds adds;
    }

pub turns_stuck : {State : Type 0} (tries : State → Outcome State → Type 0) (n most : ℕ) (s now end : State) (old log : Log) → Turns tries n s now old log → n < most → tries now None → end ≡ now → Logs (IsBurst tries most s end) old log
turns_stuck tries n most s now end old log t below none same =
    let at : Logs (IsBurst tries most s now) old log = record { shown = quiet n; plays = Stuck n below t.path none; adds = t.adds } in
    subst (λ (a : _). Logs (IsBurst tries most s a) old log) (sym same) at

pub turns_spent : {State : Type 0} (tries : State → Outcome State → Type 0) (n most : ℕ) (s now : State) (old log : Log) → Turns tries n s now old log → n ≡ most → Logs (IsBurst tries most s now) old log
turns_spent tries n most s now old log t all =
    let at : Logs (IsBurst tries n s now) old log = record { shown = quiet n; plays = Spent t.path; adds = t.adds } in
    subst (λ (m : ℕ). Logs (IsBurst tries m s now) old log) all at

-- a refusal that is this one
pub refused : {State : Type 0} (tries : State → Outcome State → Type 0) (old new : State) (e : StepRefusal) → e ≡ NotEnabled → Gives tries old new (Err e) → tries old None × (new ≡ old)
refused tries old new e is gives = subst (λ (x : StepRefusal). Gives tries old new (Err x)) is gives

-- the turn of a try whose event is there, or not
pub turns_after : {State : Type 0} (tries : State → Outcome State → Type 0) (n : ℕ) (s now end : State) (old log new : Log) (e : Option Event) → Turns tries n s now old log → is_some e ≡ false → tries now (Some (e, end)) → Adds (e ∷ []) log new → Turns tries (n + 1) s end old new
turns_after tries n s now end old log new None t is gives adds = turns_more tries n s now end old log new t gives adds
turns_after tries n s now end old log new (Some e) t is gives adds = cc

pub shown_after : {State : Type 0} (tries : State → Outcome State → Type 0) (n most : ℕ) (s now end : State) (old log new : Log) (e : Option Event) → Turns tries n s now old log → n < most → is_some e ≡ true → tries now (Some (e, end)) → Adds (e ∷ []) log new → Logs (IsBurst tries most s end) old new
shown_after tries n most s now end old log new None t below is gives adds = cc
shown_after tries n most s now end old log new (Some e) t below is gives adds = turns_show tries n most s now end old log new e t below gives adds
