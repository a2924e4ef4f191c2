-- On a machine whose steps give one thing each, a schedule has one replay.
use Rattle.std.proofs.Common.{◌≡◌, ℕ, zero, suc, ◌<◌, min, List, [], ◌∷◌, ◌++◌, length, Option, Some, None, Result, Ok, Err, refl, sym, ◌∙◌, ap, subst, arith}
use Rattle.std.proofs.lemmas.Option.{same_Some}
use Rattle.tso_core.specs.declared.Event.{Event}
use Rattle.tso_core.specs.declared.Step.{Step}
use Rattle.tso_core.specs.declared.Step.TheVariants.{Run, Drain}
use Rattle.schedule_text.specs.declared.played.End.{End}
use Rattle.schedule_text.specs.declared.played.Replay.{Replay}
use Rattle.schedule_text.specs.declared.played.ReplayRefusal.{ReplayRefusal}
use Rattle.schedule_text.specs.declared.played.ReplayRefusal.TheVariants.{NotARun, NoMemory}
use Rattle.schedule_text.specs.declared.schedule.Directive.{Directive}
use Rattle.schedule_text.specs.declared.schedule.Directive.TheVariants as D
use Rattle.schedule_text.specs.declared.schedule.Line.{Line}
use Rattle.schedule_text.specs.Plays.{Outcome, IsPath, IsBurst, Spent, Stuck, Shows, Just, FirstOf, First, Second, PlaysLine, PlaysLines, NoMore, Plays, IsNotEnabled, IsReplay, PlaysAll, StopsAt, Replays, quiet, events_in}
use Rattle.schedule_text.specs.Laws.{IsFunctional, SameReplay, SameAnswer}

abbrev IsOne : {State : Type 0} → (State → Outcome State → Type 0) → Type 0
IsOne {State} tries = (s : State) (a b : Outcome State) → tries s a → tries s b → a ≡ b

no_some : {A : Type 0} (a : A) → Some a ≡ None → ⊥
no_some a e = cc

pair_of : {A B : Type 0} (p q : A × B) → Some p ≡ Some q → (p.0 ≡ q.0) × (p.1 ≡ q.1)
pair_of p q e = let same = same_Some p q e in (ap (λ (x : _). x.0) same, ap (λ (x : _). x.1) same)

first_one : {State : Type 0} (steps : State → Step → Outcome State → Type 0) → IsFunctional steps → (x y : Step) → IsOne (FirstOf steps x y)
first_one steps f x y s a b (First g h) (First k l) = f s x (Some g) (Some k) h l
first_one steps f x y s a b (First g h) (Second o n l) = absurd (no_some g (f s x (Some g) None h n))
first_one steps f x y s a b (Second o n h) (First k l) = absurd (no_some k (f s x (Some k) None l n))
first_one steps f x y s a b (Second o n h) (Second p m l) = f s y o p h l

-- a line of several steps, one turn at a time
data Turn {State : Type 0} (tries : State → Outcome State → Type 0) (more : State → List (Option Event) → Type 0) (s end : State) (shown : List (Option Event)) : Type 0 where
  TurnStuck : tries s None → s ≡ end → shown ≡ [] → Turn tries more s end shown
  TurnShows : (e : Event) → tries s (Some (Some e, end)) → shown ≡ Some e ∷ [] → Turn tries more s end shown
  TurnQuiet : (m : State) (rest : List (Option Event)) → tries s (Some (None, m)) → more m rest → shown ≡ None ∷ rest → Turn tries more s end shown

abbrev Bursts : {State : Type 0} → (State → Outcome State → Type 0) → ℕ → State → State → List (Option Event) → Type 0
Bursts tries zero s end shown = (s ≡ end) × (shown ≡ [])
Bursts tries (suc n) s end shown = Turn tries (λ m rest. Bursts tries n m end rest) s end shown

quiet_form : {State : Type 0} (tries : State → Outcome State → Type 0) (n : ℕ) (s end : State) → IsPath tries s (quiet n) end → Bursts tries n s end (quiet n)
quiet_form tries zero s end p = (p, refl)
quiet_form tries (suc n) s end p = TurnQuiet p.0 (quiet n) p.1 (quiet_form tries n p.0 end p.2) refl

stuck_form : {State : Type 0} (tries : State → Outcome State → Type 0) (most n : ℕ) (s end : State) → n < most → IsPath tries s (quiet n) end → tries end None → Bursts tries most s end (quiet n)
stuck_form tries zero n s end lt p none = absurd (omega arith)
stuck_form tries (suc most) zero s end lt p none = TurnStuck (subst (λ (a : _). tries a None) (sym p) none) p refl
stuck_form tries (suc most) (suc n) s end lt p none = TurnQuiet p.0 (quiet n) p.1 (stuck_form tries most n p.0 end (omega arith) p.2 none) refl

shows_form : {State : Type 0} (tries : State → Outcome State → Type 0) (most n : ℕ) (s end : State) (e : Event) → n < most → IsPath tries s (quiet n ++ Some e ∷ []) end → Bursts tries most s end (quiet n ++ Some e ∷ [])
shows_form tries zero n s end e lt p = absurd (omega arith)
shows_form tries (suc most) zero s end e lt p = TurnShows e (subst (λ (a : _). tries s (Some (Some e, a))) p.2 p.1) refl
shows_form tries (suc most) (suc n) s end e lt p = TurnQuiet p.0 (quiet n ++ Some e ∷ []) p.1 (shows_form tries most n p.0 end e (omega arith) p.2) refl

form : {State : Type 0} (tries : State → Outcome State → Type 0) (most : ℕ) (s end : State) (shown : List (Option Event)) → IsBurst tries most s end shown → Bursts tries most s end shown
form tries most s end shown (Spent p) = quiet_form tries most s end p
form tries most s end shown (Stuck n lt p none) = stuck_form tries most n s end lt p none
form tries most s end shown (Shows n e lt p) = shows_form tries most n s end e lt p

abbrev Same : {State : Type 0} → (end other : State) → (shown more : List (Option Event)) → Type 0
Same end other shown more = (end ≡ other) × (shown ≡ more)

turns_one : {State : Type 0} (tries : State → Outcome State → Type 0) → IsOne tries → (n : ℕ) (s end other : State) (shown more : List (Option Event)) → ((m : State) (xs ys : List (Option Event)) → Bursts tries n m end xs → Bursts tries n m other ys → Same end other xs ys) → Turn tries (λ m rest. Bursts tries n m end rest) s end shown → Turn tries (λ m rest. Bursts tries n m other rest) s other more → Same end other shown more
turns_one tries one n s end other shown more go (TurnStuck none e f) (TurnStuck never g h) = (sym e ∙ g, f ∙ sym h)
turns_one tries one n s end other shown more go (TurnStuck none e f) (TurnShows v t h) = absurd (no_some _ (one s _ _ t none))
turns_one tries one n s end other shown more go (TurnStuck none e f) (TurnQuiet m r t b h) = absurd (no_some _ (one s _ _ t none))
turns_one tries one n s end other shown more go (TurnShows v t f) (TurnStuck never g h) = absurd (no_some _ (one s _ _ t never))
turns_one tries one n s end other shown more go (TurnShows v t f) (TurnShows w u h) = let e = pair_of _ _ (one s _ _ t u) in (e.1, f ∙ ap (λ (x : Option Event). x ∷ []) e.0 ∙ sym h)
turns_one tries one n s end other shown more go (TurnShows v t f) (TurnQuiet m r u b h) = absurd (no_some v (pair_of _ _ (one s _ _ t u)).0)
turns_one tries one n s end other shown more go (TurnQuiet m r t b f) (TurnStuck never g h) = absurd (no_some _ (one s _ _ t never))
turns_one tries one n s end other shown more go (TurnQuiet m r t b f) (TurnShows w u h) = absurd (no_some w (pair_of _ _ (one s _ _ u t)).0)
turns_one tries one n s end other shown more go (TurnQuiet m r t b f) (TurnQuiet k q u d h) =
    let same : k ≡ m = (pair_of _ _ (one s _ _ u t)).1 in
    let w = go m r q b (subst (λ (a : _). Bursts tries n a other q) same d) in
    (w.0, f ∙ ap (λ xs. None ∷ xs) w.1 ∙ sym h)

bursts_one : {State : Type 0} (tries : State → Outcome State → Type 0) → IsOne tries → (n : ℕ) (s end other : State) (shown more : List (Option Event)) → Bursts tries n s end shown → Bursts tries n s other more → Same end other shown more
bursts_one tries one zero s end other shown more a b = (sym a.0 ∙ b.0, a.1 ∙ sym b.1)
bursts_one tries one (suc n) s end other shown more a b = turns_one tries one n s end other shown more (λ m xs ys. bursts_one tries one n m end other xs ys) a b

burst_one : {State : Type 0} (tries : State → Outcome State → Type 0) → IsOne tries → (most : ℕ) (s end other : State) (shown more : List (Option Event)) → IsBurst tries most s end shown → IsBurst tries most s other more → Same end other shown more
burst_one tries one most s end other shown more a b = bursts_one tries one most s end other shown more (form tries most s end shown a) (form tries most s other more b)

-- one step alone
step_one : {State : Type 0} (steps : State → Step → Outcome State → Type 0) → IsFunctional steps → (x : Step) (s end other : State) (shown more : List (Option Event)) → PlaysLine steps (D.Step x) s end shown → PlaysLine steps (D.Step x) s other more → Same end other shown more
step_one steps f x s end other shown more a b =
    let e = pair_of _ _ (f s x _ _ a.1 b.1) in
    (e.1, a.2 ∙ ap (λ (v : Option Event). v ∷ []) e.0 ∙ sym b.2)

just_one : {State : Type 0} (steps : State → Step → Outcome State → Type 0) → IsFunctional steps → (x : Step) → IsOne (Just steps x)
just_one steps f x s a b h k = f s x a b h k

line_one : {State : Type 0} (steps : State → Step → Outcome State → Type 0) → IsFunctional steps → (what : Directive) (s end other : State) (shown more : List (Option Event)) → PlaysLine steps what s end shown → PlaysLine steps what s other more → Same end other shown more
line_one steps f (D.Step x) s end other shown more a b = step_one steps f x s end other shown more a b
line_one steps f (D.Hold t n) s end other shown more a b = burst_one (Just steps (Run t None)) (just_one steps f (Run t None)) n s end other shown more a b
line_one steps f (D.Lazy t n) s end other shown more a b = burst_one (FirstOf steps (Run t None) (Drain t)) (first_one steps f (Run t None) (Drain t)) n s end other shown more a b
line_one steps f (D.Auto t n) s end other shown more a b = burst_one (FirstOf steps (Drain t) (Run t None)) (first_one steps f (Drain t) (Run t None)) n s end other shown more a b

lines_one : {State : Type 0} (steps : State → Step → Outcome State → Type 0) → IsFunctional steps → (lines : List Line) (s end other : State) (shown more : List (Option Event)) → PlaysLines steps lines s end shown → PlaysLines steps lines s other more → Same end other shown more
lines_one steps f lines s end other shown more (NoMore a) (NoMore b) = (refl, refl)
lines_one steps f lines s end other shown more (Plays l ls a m e xs ys p q) (Plays k ks b n o vs ws t u) =
    let first = line_one steps f l.what a m n xs vs p t in
    let rest = lines_one steps f ls m e o ys ws q (subst (λ (x : _). PlaysLines steps ls x o ws) (sym first.0) u) in
    (rest.0, ap (λ zs. zs ++ ys) first.1 ∙ ap (λ zs. vs ++ zs) rest.1)

-- a line that is played is enabled
stops_not : {State : Type 0} (steps : State → Step → Outcome State → Type 0) → IsFunctional steps → (what : Directive) (s end : State) (shown : List (Option Event)) → IsNotEnabled steps what s → PlaysLine steps what s end shown → ⊥
stops_not steps f (D.Step x) s end shown none p = no_some _ (f s x _ _ p.1 none)
stops_not steps f (D.Hold t n) s end shown none p = none
stops_not steps f (D.Lazy t n) s end shown none p = none
stops_not steps f (D.Auto t n) s end shown none p = none

plays_none : {State : Type 0} (steps : State → Step → Outcome State → Type 0) (s end : State) (shown : List (Option Event)) → PlaysLines steps [] s end shown → (s ≡ end) × (shown ≡ [])
plays_none steps s end shown (NoMore a) = (refl, refl)

record FirstLine {State : Type 0} (steps : State → Step → Outcome State → Type 0) (line : Line) (lines : List Line) (s end : State) (shown : List (Option Event)) : Type 0 where
  middle : State
  front : List (Option Event)
  back : List (Option Event)
  one : PlaysLine steps line.what s middle front
  others : PlaysLines steps lines middle end back
  whole : shown ≡ front ++ back

plays_some : {State : Type 0} (steps : State → Step → Outcome State → Type 0) (line : Line) (lines : List Line) (s end : State) (shown : List (Option Event)) → PlaysLines steps (line ∷ lines) s end shown → FirstLine steps line lines s end shown
plays_some steps line lines s end shown (Plays l ls a m e xs ys p q) = record { middle = m; front = xs; back = ys; one = p; others = q; whole = refl }

record Reached {State : Type 0} (steps : State → Step → Outcome State → Type 0) (front : List Line) (line : Line) (s : State) : Type 0 where
  middle : State
  end : State
  shown : List (Option Event)
  more : List (Option Event)
  before : PlaysLines steps front s middle shown
  one : PlaysLine steps line.what middle end more

reached : {State : Type 0} (steps : State → Step → Outcome State → Type 0) (front : List Line) (line : Line) (back : List Line) (s end : State) (shown : List (Option Event)) → PlaysLines steps (front ++ line ∷ back) s end shown → Reached steps front line s
reached steps [] line back s end shown p =
    let f = plays_some steps line back s end shown p in
    record { middle = s; end = f.middle; shown = []; more = f.front; before = NoMore s; one = f.one }
reached steps (l ∷ ls) line back s end shown p =
    let f = plays_some steps l (ls ++ line ∷ back) s end shown p in
    let r = reached steps ls line back f.middle end f.back f.others in
    record { middle = r.middle; end = r.end; shown = f.front ++ r.shown; more = r.more; before = Plays l ls s f.middle r.middle f.front r.shown f.one r.before; one = r.one }

-- where all lines are played none stops
all_or_stops : {State : Type 0} (steps : State → Step → Outcome State → Type 0) (end_of : State → End) → IsFunctional steps → (lines : List Line) (s end other : State) (number : ℕ) (r q : Replay) → PlaysAll steps end_of lines s end r → StopsAt steps end_of lines s other number q → ⊥
all_or_stops steps end_of f lines s end other number r q a b =
    let t = reached steps b.front b.line b.back s end a.shown (subst (λ (ls : List Line). PlaysLines steps ls s end a.shown) b.parts a.plays) in
    let same = lines_one steps f b.front s t.middle other t.shown b.shown t.before b.plays in
    stops_not steps f b.line.what t.middle t.end t.more (subst (λ (x : _). IsNotEnabled steps b.line.what x) (sym same.0) b.stops) t.one

-- one line stops
stops_one : {State : Type 0} (steps : State → Step → Outcome State → Type 0) → IsFunctional steps → (front other : List Line) (line word : Line) (back behind : List Line) (s a b : State) (xs ys : List (Option Event)) → front ++ line ∷ back ≡ other ++ word ∷ behind → PlaysLines steps front s a xs → IsNotEnabled steps line.what a → PlaysLines steps other s b ys → IsNotEnabled steps word.what b → (line ≡ word) × Same a b xs ys
stops_one steps f [] [] line word back behind s a b xs ys e p stop q halt =
    let m = plays_none steps s a xs p in
    let n = plays_none steps s b ys q in
    (let same : line ≡ word = cc in same, (sym m.0 ∙ n.0, m.1 ∙ sym n.1))
stops_one steps f [] (o ∷ os) line word back behind s a b xs ys e p stop q halt =
    let m = plays_none steps s a xs p in
    let one = plays_some steps o os s b ys q in
    let same : line ≡ o = cc in
    absurd (stops_not steps f o.what s one.middle one.front (subst (λ (l : Line). IsNotEnabled steps l.what s) same (subst (λ (x : _). IsNotEnabled steps line.what x) (sym m.0) stop)) one.one)
stops_one steps f (o ∷ os) [] line word back behind s a b xs ys e p stop q halt =
    let m = plays_none steps s b ys q in
    let one = plays_some steps o os s a xs p in
    let same : word ≡ o = cc in
    absurd (stops_not steps f o.what s one.middle one.front (subst (λ (l : Line). IsNotEnabled steps l.what s) same (subst (λ (x : _). IsNotEnabled steps word.what x) (sym m.0) halt)) one.one)
stops_one steps f (o ∷ os) (v ∷ vs) line word back behind s a b xs ys e p stop q halt =
    let one = plays_some steps o os s a xs p in
    let two = plays_some steps v vs s b ys q in
    let same : v ≡ o = cc in
    let rest : os ++ line ∷ back ≡ vs ++ word ∷ behind = cc in
    let first = line_one steps f o.what s one.middle two.middle one.front two.front one.one (subst (λ (l : Line). PlaysLine steps l.what s two.middle two.front) same two.one) in
    let more = stops_one steps f os vs line word back behind one.middle a b one.back two.back rest one.others stop (subst (λ (x : _). PlaysLines steps vs x b two.back) (sym first.0) two.others) halt in
    (more.0, (more.1.0, one.whole ∙ ap (λ zs. zs ++ one.back) first.1 ∙ ap (λ zs. two.front ++ zs) more.1.1 ∙ sym two.whole))

same_replay : {State : Type 0} (end_of : State → End) (steps : State → Step → Outcome State → Type 0) (end other : State) (shown more : List (Option Event)) (r q : Replay) → IsReplay steps end_of shown end r → IsReplay steps end_of more other q → Same end other shown more → SameReplay r q
same_replay end_of steps end other shown more r q a b same =
    record {
      events = a.events ∙ ap events_in same.1 ∙ sym b.events;
      taken = a.taken ∙ ap (λ (es : List (Option Event)). min (length es) 18446744073709551615) same.1 ∙ sym b.taken;
      end_is = a.end_is ∙ ap end_of same.0 ∙ sym b.end_is;
    }

pub one_replay : {State : Type 0} (steps : State → Step → Outcome State → Type 0) (end_of : State → End) → IsFunctional steps → (lines : List Line) (s end other : State) (a b : Result Replay ReplayRefusal) → Replays steps end_of lines s end a → Replays steps end_of lines s other b → SameAnswer a b
one_replay steps end_of f lines s end other (Err NoMemory) b x y = tt
one_replay steps end_of f lines s end other (Ok r) (Err NoMemory) x y = tt
one_replay steps end_of f lines s end other (Err (NotARun n r)) (Err NoMemory) x y = tt
one_replay steps end_of f lines s end other (Ok r) (Ok q) x y =
    same_replay end_of steps end other x.shown y.shown r q x.replay y.replay (lines_one steps f lines s end other x.shown y.shown x.plays y.plays)
one_replay steps end_of f lines s end other (Ok r) (Err (NotARun n q)) x y = all_or_stops steps end_of f lines s end other n r q x y
one_replay steps end_of f lines s end other (Err (NotARun n r)) (Ok q) x y = all_or_stops steps end_of f lines s other end n q r y x
one_replay steps end_of f lines s end other (Err (NotARun n r)) (Err (NotARun m q)) x y =
    let same = stops_one steps f x.front y.front x.line y.line x.back y.back s end other x.shown y.shown (sym x.parts ∙ y.parts) x.plays x.stops y.plays y.stops in
    (x.number_is ∙ ap (λ (l : Line). l.number) same.0 ∙ sym y.number_is, same_replay end_of steps end other x.shown y.shown r q x.replay y.replay same.1)
