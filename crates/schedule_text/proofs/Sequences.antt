-- Lines that are played in order, and the log of what they show.
use Rattle.std.proofs.Common.{◌≡◌, ℕ, ◌+◌, ◌<◌, min, List, [], ◌∷◌, ◌++◌, length, take, drop, get_or, Option, Some, Err, refl, sym, ◌∙◌, ap, subst, arith, add-one, append_assoc, length-append}
use Rattle.std.proofs.lemmas.List.{append-nil, take_more, take-append-drop}
use Rattle.std.proofs.Math.Seq.{drop-cons}
use Rattle.tso_core.specs.declared.Event.{Event}
use Rattle.tso_core.specs.declared.Step.{Step}
use Rattle.tso_core.specs.declared.offer.StepRefusal.{StepRefusal}
use Rattle.tso_core.specs.declared.offer.StepRefusal.TheVariants.{NotEnabled, NoMemory}
use Rattle.schedule_text.specs.declared.playing.Log.{Log}
use Rattle.schedule_text.specs.declared.played.End.{End}
use Rattle.schedule_text.specs.declared.played.Replay.{Replay}
use Rattle.schedule_text.specs.declared.schedule.Directive.{Directive}
use Rattle.schedule_text.specs.declared.schedule.Directive.TheVariants as D
use Rattle.schedule_text.specs.declared.schedule.Line.{Line}
use Rattle.schedule_text.specs.Stepping.{Gives}
use Rattle.schedule_text.specs.Plays.{Outcome, PlaysLine, PlaysLines, NoMore, Plays, IsNotEnabled, StopsAt, events_in}
use Rattle.schedule_text.specs.Playing.{Adds, Logs, LineGives}
use Rattle.schedule_text.proofs.Paths.{events_append}

-- one step alone
pub line_step : {State : Type 0} (steps : State → Step → Outcome State → Type 0) (x : Step) (s end : State) (old new : Log) (e : Option Event) → steps s x (Some (e, end)) → Adds (e ∷ []) old new → Logs (PlaysLine steps (D.Step x) s end) old new
line_step steps x s end old new e gives adds = record { shown = e ∷ []; plays = (e, gives, refl); adds = adds }

pub line_refused : {State : Type 0} (steps : State → Step → Outcome State → Type 0) (x : Step) (s end : State) (log : Log) (what : Directive) (e : StepRefusal) → what ≡ D.Step x → Gives (λ a o. steps a x o) s end (Err e) → LineGives steps what s end log log (Err e)
line_refused steps x s end log what NotEnabled is gives = subst (λ (d : Directive). LineGives steps d s end log log (Err NotEnabled)) (sym is) (gives.0, gives.1, refl)
line_refused steps x s end log what NoMemory is gives = tt

pub line_stops : {State : Type 0} (steps : State → Step → Outcome State → Type 0) (what : Directive) (s end : State) (old new : Log) (e : StepRefusal) → e ≡ NotEnabled → LineGives steps what s end old new (Err e) → IsNotEnabled steps what s × (end ≡ s) × (new ≡ old)
line_stops steps what s end old new e is gives = subst (λ (x : StepRefusal). LineGives steps what s end old new (Err x)) is gives

-- the first lines of a schedule are played
pub record Front {State : Type 0} (steps : State → Step → Outcome State → Type 0) (lines : List Line) (s now : State) (log : Log) : Type 0 where
  pub shown : List (Option Event)
  pub plays : PlaysLines steps lines s now shown
  pub events : log.events.items ≡ events_in shown
  pub taken : log.taken ≡ min (length shown) 18446744073709551615

pub front_start : {State : Type 0} (steps : State → Step → Outcome State → Type 0) (s : State) (log : Log) → log.events.items ≡ [] → log.taken ≡ 0 → Front steps [] s s log
front_start steps s log none zero = record { shown = []; plays = NoMore s; events = none; taken = omega arith }

line_more : {State : Type 0} (steps : State → Step → Outcome State → Type 0) (lines : List Line) (s now end : State) (shown more : List (Option Event)) (line : Line) → PlaysLines steps lines s now shown → PlaysLine steps line.what now end more → PlaysLines steps (lines ++ line ∷ []) s end (shown ++ more)
line_more steps lines s now end shown more line (NoMore a) plays =
    subst (λ (es : List (Option Event)). PlaysLines steps (line ∷ []) s end es) (append-nil more) (Plays line [] s end end more [] plays (NoMore end))
line_more steps lines s now end shown more line (Plays l ls a middle b es fs one rest) plays =
    subst (λ (xs : List (Option Event)). PlaysLines steps (l ∷ (ls ++ line ∷ [])) s end xs) (sym (append_assoc es fs more)) (Plays l (ls ++ line ∷ []) s middle end es (fs ++ more) one (line_more steps ls middle now end fs more line rest plays))

taken_sum : (a b m o : ℕ) → m ≡ min a 18446744073709551615 → o ≡ min (m + b) 18446744073709551615 → o ≡ min (a + b) 18446744073709551615
taken_sum a b m o e f = omega arith

pub front_more : {State : Type 0} (steps : State → Step → Outcome State → Type 0) (lines : List Line) (s now end : State) (old new : Log) (line : Line) → Front steps lines s now old → Logs (PlaysLine steps line.what now end) old new → Front steps (lines ++ line ∷ []) s end new
front_more steps lines s now end old new line f l =
    record {
      shown = f.shown ++ l.shown;
      plays = line_more steps lines s now end f.shown l.shown line f.plays l.plays;
      events = l.adds.events ∙ ap (λ es. es ++ events_in l.shown) f.events ∙ sym (events_append f.shown l.shown);
      taken = rw (length-append f.shown l.shown) (taken_sum (length f.shown) (length l.shown) old.taken new.taken f.taken l.adds.taken);
    }

-- one more line of a list, as a loop over it has it
pub front_step : {State : Type 0} (steps : State → Step → Outcome State → Type 0) (lines xs : List Line) (i : ℕ) (d : Line) (s now end : State) (old new : Log) → xs ≡ lines → i < length xs → Front steps (take i lines) s now old → Logs (PlaysLine steps (get_or xs i d).what now end) old new → Front steps (take (i + 1) lines) s end new
front_step steps lines xs i d s now end old new same lt f l =
    let here : Front steps (take i xs) s now old = subst (λ (ls : List Line). Front steps (take i ls) s now old) (sym same) f in
    let next : Front steps (take (i + 1) xs) s end new = subst (λ (ls : List Line). Front steps ls s end new) (sym (take_more xs i d lt)) (front_more steps (take i xs) s now end old new (get_or xs i d) here l) in
    subst (λ (ls : List Line). Front steps (take (i + 1) ls) s end new) same next

behind_at : (xs : List Line) (i : ℕ) (d : Line) → i < length xs → drop i xs ≡ get_or xs i d ∷ drop (i + 1) xs
behind_at xs i d lt = rw add-one (drop-cons xs i d lt)

parts_at : (lines xs : List Line) (i : ℕ) (d : Line) → xs ≡ lines → i < length xs → lines ≡ take i lines ++ get_or xs i d ∷ drop (i + 1) xs
parts_at lines xs i d same lt = sym same ∙ sym (take-append-drop i xs) ∙ ap (λ ls. take i xs ++ ls) (behind_at xs i d lt) ∙ ap (λ ls. take i ls ++ get_or xs i d ∷ drop (i + 1) xs) same

-- the answers of a replay
pub front_stops : {State : Type 0} (steps : State → Step → Outcome State → Type 0) (end_of : State → End) (lines xs : List Line) (i : ℕ) (d : Line) (s now end : State) (old new : Log) (r : Replay) → xs ≡ lines → i < length xs → Front steps (take i lines) s now old → IsNotEnabled steps (get_or xs i d).what now × (end ≡ now) × (new ≡ old) → r.events.items ≡ new.events.items → r.taken ≡ new.taken → r.end ≡ end_of end → StopsAt steps end_of lines s end (get_or xs i d).number r
front_stops steps end_of lines xs i d s now end old new r same lt f stops events taken end_is =
    let at : StopsAt steps end_of lines s now (get_or xs i d).number r = record {
      front = take i lines;
      line = get_or xs i d;
      back = drop (i + 1) xs;
      shown = f.shown;
      parts = parts_at lines xs i d same lt;
      number_is = refl;
      plays = f.plays;
      stops = stops.0;
      replay = record {
        events = events ∙ ap (λ (l : Log). l.events.items) stops.2 ∙ f.events;
        taken = taken ∙ ap (λ (l : Log). l.taken) stops.2 ∙ f.taken;
        end_is = end_is ∙ ap end_of stops.1;
      };
    } in
    subst (λ (a : _). StopsAt steps end_of lines s a (get_or xs i d).number r) (sym stops.1) at
