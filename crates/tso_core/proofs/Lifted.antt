-- A tie of thread languages gives a tie of their machines.
use Rattle.std.proofs.Common.{◌≡◌, ◌≢◌, ℕ, zero, suc, ◌+◌, ◌<◌, ◌≤◌, List, [], ◌∷◌, ◌++◌, length, refl, sym, ap, ◌∙◌, subst, arith, length-append, Option, Some, None, ◌⊎◌, inl, inr, Bool, true, false, IsSome}
use Rattle.std.specs.Prelude.{if◌then◌else◌, ◌==◌, slice_get, slice_set}
use Rattle.std.proofs.lemmas.List.{append-nil, set-set, length-set}
use Rattle.std.proofs.lemmas.Option.{slice_get_within}
use Rattle.std.proofs.lemmas.Bool.{eq-eqb, ne_eqb}
use Rattle.std.proofs.Math.Dec.{eqb}
use Rattle.tso_core.specs.declared.Step.{Step}
use Rattle.tso_core.specs.declared.Step.TheVariants.{Run, Drain}
use Rattle.tso_core.specs.declared.Event.{Event}
use Rattle.tso_core.specs.declared.offer.Now.{Now}
use Rattle.tso_core.specs.declared.offer.Now.TheVariants as N
use Rattle.tso_core.specs.Systems.{System, Running, Wrong, NoHeap, NoStack, Places, after, shown, IsRun, runs_of, next, events_of, state_of}
use Rattle.tso_core.specs.Matching.{SaysSame, IsPrefixOf, Alike}
use Rattle.tso_core.specs.Refinement.{SameRequest, Ends, Refines}
use Rattle.tso_core.specs.Ties.{Answers, ComesToStart, IsMachineTie}
use Rattle.tso_core.specs.Threads.{status_of, Effect, Refused, Goes, Stops, Spawns, Base, Lang, Offered, Silent, Fails, Does, MachineOf, with_thread, begun, finished, acted, ran, drained, step_of, calls_at, start_offered, starts_at, asks_offered, asks_at, threaded, silents, AreSilent, ReachesWrong}
use Rattle.tso_core.specs.ThreadTies.{Orders, Kept, IsWrongAt, StopsSo, EffectBelow, IsMonotone, Meets, FollowsSilently, IsThreadTie}
use Rattle.tso_core.proofs.Runs.{after-append, shown-append, joins_run}
use Rattle.tso_core.proofs.Lists.{none_some, get_set, get_set_other, set_get, get_some, get_append, dec_eq}
use Rattle.tso_core.proofs.Tied.{tie_refines, last-append}
use Rattle.tso_core.proofs.Pieces.{runs_of-append}

none_enabled : false ≡ true → ⊥
none_enabled e = cc

-- a way from one state to another, with what it shows
record Way (m : System) (s : m.State) (xs : List Step) (es : List Event) (u : m.State) : Type 0 where
  run : IsRun m s xs
  to : after m s xs ≡ u
  shows : shown m s xs ≡ es

abbrev list_of : Option Event → List Event
list_of None = []
list_of (Some e) = e ∷ []

events_list : {S : Type 0} (e : Option Event) (s : S) → events_of (Some (e, s)) ≡ list_of e
events_list None s = refl
events_list (Some e) s = refl

way_one : (m : System) (s : m.State) (x : Step) (e : Option Event) (u : m.State) → m.step s x ≡ Some (e, u) → Way m s (x ∷ []) (list_of e) u
way_one m s x e u h =
    record {
      run = (subst (λ r. IsSome r) (sym h) refl, tt);
      to = ap (state_of s) h;
      shows = append-nil (events_of (m.step s x)) ∙ ap (λ r. events_of r) h ∙ events_list e u;
    }

way_on : (m : System) (s : m.State) (xs ys : List Step) (es fs : List Event) (u v : m.State) → Way m s xs es u → Way m u ys fs v → Way m s (xs ++ ys) (es ++ fs) v
way_on m s xs ys es fs u v a b =
    record {
      run = joins_run m s xs ys a.run (subst (λ w. IsRun m w ys) (sym a.to) b.run);
      to = after-append m s xs ys ∙ ap (λ w. after m w ys) a.to ∙ b.to;
      shows = shown-append m s xs ys ∙ ap (λ l. l ++ shown m (after m s xs) ys) a.shows ∙ ap (λ w. es ++ shown m w ys) a.to ∙ ap (λ l. es ++ l) b.shows;
    }

abbrev reps : ℕ → ℕ → List Step
reps zero i = []
reps (suc n) i = Run i None ∷ reps n i

module _ (b : Base) {T : Type 0} (l : Lang b T) where
  step_runs : (m : MachineOf b.Shared T) (i : ℕ) (c : Option ℕ) (t : T) (o : Offered b.Op) → b.now m.shared ≡ N.Running → b.has_ended m.shared i ≡ false → slice_get m.threads i ≡ Some t → l.offer m.at t ≡ o → step_of b l m (Run i c) ≡ acted b l m i t o c
  step_runs m i c t o n e g f =
      ap (λ x. ran b l m i c x (b.has_ended m.shared i) (slice_get m.threads i)) n
      ∙ ap (λ x. ran b l m i c N.Running x (slice_get m.threads i)) e
      ∙ ap (λ x. ran b l m i c N.Running false x) g
      ∙ ap (λ x. acted b l m i t x c) f

  silent_way : (n : ℕ) (m : MachineOf b.Shared T) (i : ℕ) (t : T) → b.now m.shared ≡ N.Running → b.has_ended m.shared i ≡ false → slice_get m.threads i ≡ Some t → AreSilent b l m.at t n → Way (threaded b l) m (reps n i) [] (with_thread b l m i (silents b l m.at t n))
  silent_way zero m i t g e h s = record { run = tt; to = ap (λ xs. record m { threads = xs }) (sym (set_get m.threads i t h)); shows = refl }
  silent_way (suc n) m i t g e h s =
      let u = l.resume m.at t None in
      let one = step_runs m i None t Silent g e h s.0 in
      let rest = silent_way n (with_thread b l m i u) i u g e (get_set m.threads i u t h) s.1 in
      let same : with_thread b l (with_thread b l m i u) i (silents b l m.at u n) ≡ with_thread b l m i (silents b l m.at u n) = ap (λ xs. record m { threads = xs }) (set-set m.threads i u (silents b l m.at u n)) in
      let all = way_on (threaded b l) m (Run i None ∷ []) (reps n i) [] [] (with_thread b l m i u) _ (way_one (threaded b l) m (Run i None) None (with_thread b l m i u) one) rest in
      record { run = all.run; to = all.to ∙ same; shows = all.shows }

says_eq : {A : Type 0} (a c : Option A) → a ≡ c → SaysSame a c
says_eq a None e = tt
says_eq a (Some x) e = e

status_wrong : (n : Now) → status_of n ≡ Wrong → n ≡ N.Wrong
status_wrong N.Running e = cc
status_wrong N.Exited e = cc
status_wrong N.Wrong e = refl
status_wrong N.NoHeap e = cc

status_heap : (n : Now) → status_of n ≡ NoHeap → n ≡ N.NoHeap
status_heap N.Running e = cc
status_heap N.Exited e = cc
status_heap N.Wrong e = cc
status_heap N.NoHeap e = refl

status_stack : (n : Now) → status_of n ≡ NoStack → ⊥
status_stack N.Running e = cc
status_stack N.Exited e = cc
status_stack N.Wrong e = cc
status_stack N.NoHeap e = cc

going_heap : (n : Now) → n ≡ N.Running → n ≡ N.NoHeap → ⊥
going_heap n e f = cc

both_bools : (x : Bool) → x ≡ true → x ≡ false → ⊥
both_bools x e f = cc

-- the numbers, with that of one thread changed
abbrev numbered : (ℕ → ℕ) → ℕ → ℕ → ℕ → ℕ
numbered f i n j = if i == j then n else f j

ne_test : (i j : ℕ) → (j ≡ i → ⊥) → eqb i j ≡ false
ne_test i j h = ne_eqb i j (λ e. h (sym e))

numbered_same : (f : ℕ → ℕ) (i n : ℕ) → numbered f i n i ≡ n
numbered_same f i n = ap (λ x. if x then n else f i) (eq-eqb i i refl)

numbered_other : (f : ℕ → ℕ) (i n j : ℕ) → (j ≡ i → ⊥) → numbered f i n j ≡ f j
numbered_other f i n j h = ap (λ x. if x then n else f j) (ne_test i j h)

-- the runs of another thread
reps_other : (n i j : ℕ) → (j ≡ i → ⊥) → runs_of j (reps n i) ≡ 0
reps_other zero i j h = refl
reps_other (suc n) i j h = omega (arith, ap (λ x. (if x then 1 else 0) + runs_of j (reps n i)) (ne_test i j h), reps_other n i j h)

run_other : (i j : ℕ) (c : Option ℕ) → (j ≡ i → ⊥) → runs_of j (Run i c ∷ []) ≡ 0
run_other i j c h = ap (λ x. (if x then 1 else 0) + 0) (ne_test i j h)

run_same : (i : ℕ) (c : Option ℕ) → runs_of i (Run i c ∷ []) ≡ 1
run_same i c = ap (λ x. (if x then 1 else 0) + 0) (eq-eqb i i refl)

reps_same : (n i : ℕ) → runs_of i (reps n i) ≡ n
reps_same zero i = refl
reps_same (suc n) i = omega (arith, ap (λ x. (if x then 1 else 0) + runs_of i (reps n i)) (eq-eqb i i refl), reps_same n i)

module _ (b : Base) (o : Orders b) (mono : IsMonotone b o) {T U : Type 0} (p : Lang b T) (q : Lang b U) (R : Places → T → U → ℕ → Type 0) (bound : ℕ) (tie : IsThreadTie b o p q R bound) where
  abbrev P : System
  P = threaded b p

  abbrev Q : System
  Q = threaded b q

  record Live (at : Places) (sh1 sh2 : b.Shared) (ts : List T) (us : List U) (f : ℕ → ℕ) : Type 0 where
    proper : q.IsProper at
    below : o.Below sh1 sh2
    going : b.now sh2 ≡ N.Running
    many : length ts ≡ length us
    each : (j : ℕ) (t : T) (u : U) → slice_get ts j ≡ Some t → slice_get us j ≡ Some u → (p.calls t ≡ q.calls u) × (b.has_ended sh2 j ≡ false → R at t u (f j))
    bounded : (j : ℕ) → f j ≤ bound
    unborn : (j : ℕ) → length us ≤ j → f j ≡ 0

  data Rel (m1 : MachineOf b.Shared T) (m2 : MachineOf b.Shared U) (f : ℕ → ℕ) : Type 0 where
    On : m1.at ≡ m2.at → Live m2.at m1.shared m2.shared m1.threads m2.threads f → Rel m1 m2 f
    Over : (b.now m2.shared ≢ N.Running) → Alike P Q m1 m2 → ((j : ℕ) → f j ≤ bound) → Rel m1 m2 f

  calls_same : (ts : List T) (us : List U) → length ts ≡ length us → ((j : ℕ) (t : T) (u : U) → slice_get ts j ≡ Some t → slice_get us j ≡ Some u → p.calls t ≡ q.calls u) → (i : ℕ) → calls_at b p (slice_get ts i) ≡ calls_at b q (slice_get us i)
  calls_same [] [] e h i = refl
  calls_same [] (u ∷ us) e h i = absurd (omega arith)
  calls_same (t ∷ ts) [] e h i = absurd (omega arith)
  calls_same (t ∷ ts) (u ∷ us) e h zero = ap Some (h 0 t u refl refl)
  calls_same (t ∷ ts) (u ∷ us) e h (suc i) = let e1 : length ts ≡ length us = omega arith in calls_same ts us e1 (λ j x y g1 g2. h (suc j) x y g1 g2) i

  alike_from : (m1 : MachineOf b.Shared T) (m2 : MachineOf b.Shared U) → o.Below m1.shared m2.shared → length m1.threads ≡ length m2.threads → ((i : ℕ) → calls_at b p (slice_get m1.threads i) ≡ calls_at b q (slice_get m2.threads i)) → Alike P Q m1 m2
  alike_from m1 m2 below many calls =
      let same = ap status_of (mono.now_same m1.shared m2.shared below) in
      record {
        same_threads = many;
        same_ended = mono.ended_same m1.shared m2.shared below;
        no_write_buffered = mono.put_most m1.shared m2.shared below;
        not_wrong = λ e. mono.not_wrong m1.shared m2.shared below (status_wrong (b.now m2.shared) e);
        same_exit = ((λ e. sym same ∙ e), (λ e. same ∙ e));
        same_no_heap = ((λ e. sym same ∙ e), (λ e. same ∙ e));
        same_heap = mono.heap_same m1.shared m2.shared below;
        same_calls = λ i. says_eq (calls_at b p (slice_get m1.threads i)) (calls_at b q (slice_get m2.threads i)) (calls i);
      }

  alike_rel : (m1 : MachineOf b.Shared T) (m2 : MachineOf b.Shared U) (f : ℕ → ℕ) → Rel m1 m2 f → Alike P Q m1 m2
  alike_rel m1 m2 f (On e v) = alike_from m1 m2 v.below v.many (calls_same m1.threads m2.threads v.many (λ j t u g1 g2. (v.each j t u g1 g2).0))
  alike_rel m1 m2 f (Over n a h) = a

  below_rel : (m1 : MachineOf b.Shared T) (m2 : MachineOf b.Shared U) (f : ℕ → ℕ) → Rel m1 m2 f → (i : ℕ) → f i < bound + 1
  below_rel m1 m2 f (On e v) i = omega (arith, v.bounded i)
  below_rel m1 m2 f (Over n a h) i = omega (arith, h i)

  -- one thread changes on both sides
  module _ (at : Places) (sh1 sh2 : b.Shared) (ts : List T) (us : List U) (f : ℕ → ℕ) (v : Live at sh1 sh2 ts us f) (i : ℕ) (t : T) (u : U) (gt : slice_get ts i ≡ Some t) (gu : slice_get us i ≡ Some u) where
    bounded_set : (n : ℕ) → n ≤ bound → (j : ℕ) → numbered f i n j ≤ bound
    bounded_set n h j = go (dec_eq i j)
      where
        go : Dec (j ≡ i) → numbered f i n j ≤ bound
        go (yes e) = subst (λ c. numbered f i n c ≤ bound) (sym e) (omega (arith, numbered_same f i n))
        go (no ne) = omega (arith, numbered_other f i n j ne, v.bounded j)

    unborn_set : (n : ℕ) → (j : ℕ) → length us ≤ j → numbered f i n j ≡ 0
    unborn_set n j le =
        let lt = slice_get_within us i u gu in
        let ne : j ≡ i → ⊥ = λ e. omega (arith, e) in
        numbered_other f i n j ne ∙ v.unborn j le

    live_set : (new1 new2 : b.Shared) → o.Below new1 new2 → Kept b o sh2 new2 → (t1 : T) (u1 : U) (n : ℕ) → p.calls t1 ≡ q.calls u1 → R at t1 u1 n → Live at new1 new2 (slice_set ts i t1) (slice_set us i u1) (numbered f i n)
    live_set new1 new2 below kept t1 u1 n calls rel =
        record {
          proper = v.proper;
          below = below;
          going = kept.going;
          many = length-set ts i t1 ∙ v.many ∙ sym (length-set us i u1);
          each = λ j x y g1 g2. at_j j x y g1 g2 (dec_eq i j);
          bounded = bounded_set n (tie.bounded at t1 u1 n rel);
          unborn = λ j le. unborn_set n j (subst (λ c. c ≤ j) (length-set us i u1) le);
        }
      where
        at_j : (j : ℕ) (x : T) (y : U) → slice_get (slice_set ts i t1) j ≡ Some x → slice_get (slice_set us i u1) j ≡ Some y → Dec (j ≡ i) → (p.calls x ≡ q.calls y) × (b.has_ended new2 j ≡ false → R at x y (numbered f i n j))
        at_j j x y g1 g2 (yes e) =
            let h1 = subst (λ c. slice_get (slice_set ts i t1) c ≡ Some x) e g1 in
            let h2 = subst (λ c. slice_get (slice_set us i u1) c ≡ Some y) e g2 in
            let k1 = get_set ts i t1 t gt in
            let k2 = get_set us i u1 u gu in
            let is1 : t1 ≡ x = cc in
            let is2 : u1 ≡ y = cc in
            let num : n ≡ numbered f i n j = sym (ap (numbered f i n) e ∙ numbered_same f i n) in
            (ap p.calls (sym is1) ∙ calls ∙ ap q.calls is2, (λ h. subst (λ c. R at x y c) num (subst (λ c. R at x c n) is2 (subst (λ c. R at c u1 n) is1 rel))))
        at_j j x y g1 g2 (no ne) =
            let a = v.each j x y (sym (get_set_other ts i j t1 ne) ∙ g1) (sym (get_set_other us i j u1 ne) ∙ g2) in
            (a.0, (λ h. subst (λ c. R at x y c) (sym (numbered_other f i n j ne)) (a.1 (kept.ended j h))))

  -- a further thread on both sides
  live_append : (at : Places) (sh1 sh2 : b.Shared) (ts : List T) (us : List U) (f : ℕ → ℕ) → Live at sh1 sh2 ts us f → (t : T) (u : U) → R at t u 0 → Live at sh1 sh2 (ts ++ t ∷ []) (us ++ u ∷ []) f
  live_append at sh1 sh2 ts us f v t u rel =
      record {
        proper = v.proper;
        below = v.below;
        going = v.going;
        many = length-append ts (t ∷ []) ∙ ap (λ n. n + 1) v.many ∙ sym (length-append us (u ∷ []));
        each = λ j x y g1 g2. at_j j x y (get_append ts t j x g1) (get_append us u j y g2);
        bounded = v.bounded;
        unborn = λ j le. v.unborn j (omega (arith, length-append us (u ∷ [])));
      }
    where
      at_j : (j : ℕ) (x : T) (y : U) → (slice_get ts j ≡ Some x) ⊎ ((j ≡ length ts) × (t ≡ x)) → (slice_get us j ≡ Some y) ⊎ ((j ≡ length us) × (u ≡ y)) → (p.calls x ≡ q.calls y) × (b.has_ended sh2 j ≡ false → R at x y (f j))
      at_j j x y (inl g1) (inl g2) = v.each j x y g1 g2
      at_j j x y (inl g1) (inr e) = let lt = slice_get_within ts j x g1 in absurd (omega (arith, v.many, e.0))
      at_j j x y (inr e) (inl g2) = let lt = slice_get_within us j y g2 in absurd (omega (arith, v.many, e.0))
      at_j j x y (inr e1) (inr e2) =
          let zero_is : f j ≡ 0 = v.unborn j (omega (arith, e2.0)) in
          let r = subst (λ c. R at c y (f j)) e1.1 (subst (λ c. R at t c (f j)) e2.1 (subst (λ c. R at t u c) (sym zero_is) rel)) in
          (tie.calls at x y (f j) r, (λ h. r))

  -- where the first goes wrong and shows nothing
  wrong_by : (m1 : MachineOf b.Shared T) (m2 : MachineOf b.Shared U) (f : ℕ → ℕ) (x : Step) (piece : List Step) (m : MachineOf b.Shared T) → Way P m1 piece [] m → b.now m.shared ≡ N.Wrong → Answers P Q Rel m1 m2 f x
  wrong_by m1 m2 f x piece m w e =
      record {
        piece = piece;
        is_run = w.run;
        leads = inr (record {
          wrong = ap P.status w.to ∙ ap status_of e;
          goes_wrong_inside = subst (λ l. IsPrefixOf l (events_of (Q.step m2 x))) (sym w.shows) (events_of (Q.step m2 x), refl);
        });
      }

  -- where both go on
  lead_by : (m1 : MachineOf b.Shared T) (m2 : MachineOf b.Shared U) (f : ℕ → ℕ) (x : Step) (piece : List Step) (es : List Event) (e : Option Event) (n1 : MachineOf b.Shared T) (n2 : MachineOf b.Shared U) (g : ℕ → ℕ) → Way P m1 piece es n1 → Q.step m2 x ≡ Some (e, n2) → es ≡ list_of e → Rel n1 n2 g → ((i : ℕ) → runs_of i piece ≡ 0 → f i + runs_of i (x ∷ []) ≤ g i) → Ends P Q m1 m2 piece (x ∷ []) → Answers P Q Rel m1 m2 f x
  lead_by m1 m2 f x piece es e n1 n2 g w st same rel counted ends =
      record {
        piece = piece;
        is_run = w.run;
        leads = inl (record {
          numbers = g;
          related = subst (λ s. Rel s (next Q m2 x) g) (sym w.to) (subst (λ r. Rel n1 (state_of m2 r) g) (sym st) rel);
          same_events = w.shows ∙ same ∙ sym (ap (λ r. events_of r) st ∙ events_list e n2);
          counted = counted;
          ends = ends;
        });
      }

  ends_going : (m1 : MachineOf b.Shared T) (m2 n2 : MachineOf b.Shared U) (xs : List Step) (x : Step) (e : Option Event) → Q.step m2 x ≡ Some (e, n2) → b.now n2.shared ≡ N.Running → Ends P Q m1 m2 xs (x ∷ [])
  ends_going m1 m2 n2 xs x e st going =
      let now : b.now (next Q m2 x).shared ≡ N.Running = ap (λ r. b.now (state_of m2 r).shared) st ∙ going in
      record {
        same_request = λ h w. absurd (going_heap _ now (status_heap _ h));
        stack_justified = λ h w i l. absurd (status_stack _ h);
      }

  -- a run of a thread that goes on
  module _ (at : Places) (sh1 sh2 : b.Shared) (ts : List T) (us : List U) (f : ℕ → ℕ) (v : Live at sh1 sh2 ts us f) (i : ℕ) (t : T) (u : U) (gt : slice_get ts i ≡ Some t) (gu : slice_get us i ≡ Some u) (up : b.has_ended sh2 i ≡ false) where
    abbrev m1 : MachineOf b.Shared T
    m1 = record { at = at; shared = sh1; threads = ts }

    abbrev m2 : MachineOf b.Shared U
    m2 = record { at = at; shared = sh2; threads = us }

    going1 : b.now sh1 ≡ N.Running
    going1 = mono.now_same sh1 sh2 v.below ∙ v.going

    up1 : b.has_ended sh1 i ≡ false
    up1 = mono.ended_same sh1 sh2 v.below i ∙ up

    way_silent : (n : ℕ) → AreSilent b p at t n → Way P m1 (reps n i) [] (with_thread b p m1 i (silents b p at t n))
    way_silent n s = silent_way b p n m1 i t going1 up1 gt s

    -- the step behind the Silent ones
    step_behind : (n : ℕ) (c : Option ℕ) (x : Offered b.Op) → p.offer at (silents b p at t n) ≡ x → P.step (with_thread b p m1 i (silents b p at t n)) (Run i c) ≡ acted b p (with_thread b p m1 i (silents b p at t n)) i (silents b p at t n) x c
    step_behind n c x e = step_runs b p (with_thread b p m1 i (silents b p at t n)) i c (silents b p at t n) x going1 up1 (get_set ts i (silents b p at t n) t gt) e

    step_there : (c : Option ℕ) (x : Offered b.Op) → q.offer at u ≡ x → Q.step m2 (Run i c) ≡ acted b q m2 i u x c
    step_there c x e = step_runs b q m2 i c u x v.going up gu e

    answer_wrong : (c : Option ℕ) → ReachesWrong b p at t → Answers P Q Rel m1 m2 f (Run i c)
    answer_wrong c w =
        let bad : MachineOf b.Shared T = record { at = at; shared = b.fail sh1; threads = slice_set ts i (silents b p at t w.count) } in
        wrong_by m1 m2 f (Run i c) (reps w.count i ++ Run i None ∷ []) bad
        (way_on P m1 (reps w.count i) (Run i None ∷ []) [] [] _ bad (way_silent w.count w.silent) (way_one P _ (Run i None) None bad (step_behind w.count None Fails w.fails)))
        (mono.fail_wrong sh1)

    kept_same : Kept b o sh2 sh2
    kept_same = record { going = v.going; ended = λ j h. h }

    counted_silent : (n k : ℕ) → (k ≡ 0 → f i < n) → (j : ℕ) → runs_of j (reps k i) ≡ 0 → f j + runs_of j (Run i None ∷ []) ≤ numbered f i n j
    counted_silent n k h j e = go (dec_eq i j)
      where
        go : Dec (j ≡ i) → f j + runs_of j (Run i None ∷ []) ≤ numbered f i n j
        go (yes is) =
            let e1 = subst (λ c. runs_of c (reps k i) ≡ 0) is e in
            let k0 : k ≡ 0 = omega (arith, reps_same k i) in
            let lt = h k0 in
            let done : f i + runs_of i (Run i None ∷ []) ≤ numbered f i n i = omega (arith, run_same i None, numbered_same f i n) in
            subst (λ c. f c + runs_of c (Run i None ∷ []) ≤ numbered f i n c) (sym is) done
        go (no ne) = omega (arith, run_other i j None ne, numbered_other f i n j ne)

    counted_run : (n k : ℕ) (c : Option ℕ) → (j : ℕ) → runs_of j (reps k i ++ Run i c ∷ []) ≡ 0 → f j + runs_of j (Run i c ∷ []) ≤ numbered f i n j
    counted_run n k c j e = go (dec_eq i j)
      where
        go : Dec (j ≡ i) → f j + runs_of j (Run i c ∷ []) ≤ numbered f i n j
        go (yes is) =
            let e1 = subst (λ d. runs_of d (reps k i ++ Run i c ∷ []) ≡ 0) is e in
            absurd (omega (arith, runs_of-append i (reps k i) (Run i c ∷ []), run_same i c))
        go (no ne) = omega (arith, run_other i j c ne, numbered_other f i n j ne)

    counted_kept : (k : ℕ) (c : Option ℕ) → (j : ℕ) → runs_of j (reps k i ++ Run i c ∷ []) ≡ 0 → f j + runs_of j (Run i c ∷ []) ≤ f j
    counted_kept k c j e = go (dec_eq i j)
      where
        go : Dec (j ≡ i) → f j + runs_of j (Run i c ∷ []) ≤ f j
        go (yes is) =
            let e1 = subst (λ d. runs_of d (reps k i ++ Run i c ∷ []) ≡ 0) is e in
            absurd (omega (arith, runs_of-append i (reps k i) (Run i c ∷ []), run_same i c))
        go (no ne) = omega (arith, run_other i j c ne)

    answer_silent : q.offer at u ≡ Silent → ReachesWrong b p at t ⊎ FollowsSilently b o p q R at t u (f i) → Answers P Q Rel m1 m2 f (Run i None)
    answer_silent e (inl w) = answer_wrong None w
    answer_silent e (inr s) =
        let n2 : MachineOf b.Shared U = with_thread b q m2 i (q.resume at u None) in
        lead_by m1 m2 f (Run i None) (reps s.count i) [] None _ n2 (numbered f i s.number) (way_silent s.count s.silent) (step_there None Silent e) refl
        (On refl (live_set at sh1 sh2 ts us f v i t u gt gu sh1 sh2 v.below kept_same (silents b p at t s.count) (q.resume at u None) s.number (tie.calls at _ _ s.number s.related) s.related))
        (counted_silent s.number s.count s.counted)
        (ends_going m1 m2 n2 (reps s.count i) (Run i None) None (step_there None Silent e) v.going)

    -- the thread stays where it is, on both sides
    each_stop : (n : ℕ) → p.calls (silents b p at t n) ≡ q.calls u → (j : ℕ) (x : T) (y : U) → slice_get (slice_set ts i (silents b p at t n)) j ≡ Some x → slice_get us j ≡ Some y → Dec (j ≡ i) → (p.calls x ≡ q.calls y) × ((j ≡ i → ⊥) → b.has_ended sh2 j ≡ false → R at x y (f j))
    each_stop n e j x y g1 g2 (yes is) =
        let h1 = subst (λ c. slice_get (slice_set ts i (silents b p at t n)) c ≡ Some x) is g1 in
        let h2 = subst (λ c. slice_get us c ≡ Some y) is g2 in
        let k1 = get_set ts i (silents b p at t n) t gt in
        let is1 : silents b p at t n ≡ x = cc in
        let is2 : u ≡ y = cc in
        (ap p.calls (sym is1) ∙ e ∙ ap q.calls is2, (λ ne. absurd (ne is)))
    each_stop n e j x y g1 g2 (no ne) =
        let a = v.each j x y (sym (get_set_other ts i j (silents b p at t n) ne) ∙ g1) g2 in
        (a.0, (λ h. a.1))

    many_stop : (n : ℕ) → length (slice_set ts i (silents b p at t n)) ≡ length us
    many_stop n = length-set ts i (silents b p at t n) ∙ v.many

    live_stop : (n : ℕ) → p.calls (silents b p at t n) ≡ q.calls u → (new1 new2 : b.Shared) → o.Below new1 new2 → Kept b o sh2 new2 → b.has_ended new2 i ≡ true → Live at new1 new2 (slice_set ts i (silents b p at t n)) us f
    live_stop n e new1 new2 below kept over =
        record {
          proper = v.proper;
          below = below;
          going = kept.going;
          many = many_stop n;
          each = λ j x y g1 g2. let a = each_stop n e j x y g1 g2 (dec_eq i j) in (a.0, (λ h. a.1 (λ is. both_bools (b.has_ended new2 i) over (subst (λ c. b.has_ended new2 c ≡ false) is h)) (kept.ended j h)));
          bounded = v.bounded;
          unborn = v.unborn;
        }

    module _ (c : Option ℕ) (op2 : b.Op) (off : q.offer at u ≡ Does op2) (mt : Meets b o p q R at t u op2) where
      abbrev t1 : T
      t1 = silents b p at t mt.count

      abbrev mid : MachineOf b.Shared T
      mid = with_thread b p m1 i t1

      abbrev piece : List Step
      piece = reps mt.count i ++ Run i c ∷ []

      way_by : (e : Option Event) (n : MachineOf b.Shared T) → P.step mid (Run i c) ≡ Some (e, n) → Way P m1 piece (list_of e) n
      way_by e n st = way_on P m1 (reps mt.count i) (Run i c ∷ []) [] (list_of e) mid n (way_silent mt.count mt.silent) (way_one P mid (Run i c) e n st)

      -- the first goes wrong by a run of its own
      does_wrong : (d : Option ℕ) (n : MachineOf b.Shared T) → P.step mid (Run i d) ≡ Some (None, n) → b.now n.shared ≡ N.Wrong → Answers P Q Rel m1 m2 f (Run i c)
      does_wrong d n st w =
          wrong_by m1 m2 f (Run i c) (reps mt.count i ++ Run i d ∷ []) n (way_on P m1 (reps mt.count i) (Run i d ∷ []) [] [] mid n (way_silent mt.count mt.silent) (way_one P mid (Run i d) None n st)) w

      does_stop : (e1 e2 : Option Event) (s1 s2 : b.Shared) → P.step mid (Run i c) ≡ Some (e1, record mid { shared = s1 }) → Q.step m2 (Run i c) ≡ Some (e2, record m2 { shared = s2 }) → e1 ≡ e2 → o.Below s1 s2 → StopsSo b o sh2 s2 i (b.asks mt.op) (b.asks op2) → Answers P Q Rel m1 m2 f (Run i c)
      does_stop e1 e2 s1 s2 st1 st2 same below (inl k) =
          lead_by m1 m2 f (Run i c) piece (list_of e1) e2 (record mid { shared = s1 }) (record m2 { shared = s2 }) f (way_by e1 _ st1) st2 (ap list_of same)
          (On refl (live_stop mt.count mt.calls s1 s2 below k.0 k.1))
          (counted_kept mt.count c)
          (ends_going m1 m2 (record m2 { shared = s2 }) piece (Run i c) e2 st2 k.0.going)
      does_stop e1 e2 s1 s2 st1 st2 same below (inr k) =
          lead_by m1 m2 f (Run i c) piece (list_of e1) e2 (record mid { shared = s1 }) (record m2 { shared = s2 }) f way st2 (ap list_of same)
          (Over k.0 alike v.bounded)
          (counted_kept mt.count c)
          (record { same_request = request; stack_justified = λ h w n l. absurd (status_stack _ h) })
        where
          way : Way P m1 piece (list_of e1) (record mid { shared = s1 })
          way = way_by e1 _ st1

          alike : Alike P Q (record mid { shared = s1 }) (record m2 { shared = s2 })
          alike = alike_from (record mid { shared = s1 }) (record m2 { shared = s2 }) below (many_stop mt.count) (calls_same (slice_set ts i t1) us (many_stop mt.count) (λ j x y g1 g2. (each_stop mt.count mt.calls j x y g1 g2 (dec_eq i j)).0))

          request : Q.status (after Q m2 (Run i c ∷ [])) ≡ NoHeap → P.status (after P m1 piece) ≢ Wrong → SameRequest P Q m1 m2 piece (Run i c ∷ [])
          request h w =
              let now : b.now s2 ≡ N.NoHeap = sym (ap (λ r. b.now (state_of m2 r).shared) st2) ∙ status_heap _ h in
              let a = k.1 now in
              record {
                thread = i;
                size = a.0;
                last_of_q = refl;
                last_of_p = last-append (reps mt.count i) (Run i c ∷ []) i refl;
                asked_by_q = ap (λ r. Q.asks (state_of m2 r) i) st2 ∙ ap (asks_at b q at) gu ∙ ap (asks_offered b q) off ∙ a.2;
                asked_by_p = ap (λ s. P.asks s i) way.to ∙ ap (asks_at b p at) (get_set ts i t1 t gt) ∙ ap (asks_offered b p) mt.offers ∙ a.1;
              }

      -- the answered states, at the answers
      module _ (a1 a2 : b.Answer) (le : o.AnswerBelow op2 a1 a2) (s1 s2 : b.Shared) (below : o.Below s1 s2) (kept : Kept b o sh2 s2) where
        abbrev t2 : T
        t2 = p.resume at t1 (Some a1)

        abbrev u2 : U
        u2 = q.resume at u (Some a2)

        abbrev num : ℕ → ℕ
        num = numbered f i (mt.resumes a1 a2 le).0

        live_on : Live at s1 s2 (slice_set (slice_set ts i t1) i t2) (slice_set us i u2) num
        live_on =
            let r = mt.resumes a1 a2 le in
            subst (λ l. Live at s1 s2 l (slice_set us i u2) num) (sym (set-set ts i t1 t2)) (live_set at sh1 sh2 ts us f v i t u gt gu s1 s2 below kept t2 u2 r.0 (tie.calls at t2 u2 r.0 r.1) r.1)

        does_go : (e1 e2 : Option Event) → e1 ≡ e2 → P.step mid (Run i c) ≡ Some (e1, record { at = at; shared = s1; threads = slice_set (slice_set ts i t1) i t2 }) → Q.step m2 (Run i c) ≡ Some (e2, record { at = at; shared = s2; threads = slice_set us i u2 }) → Answers P Q Rel m1 m2 f (Run i c)
        does_go e1 e2 same st1 st2 =
            let n2 : MachineOf b.Shared U = record { at = at; shared = s2; threads = slice_set us i u2 } in
            lead_by m1 m2 f (Run i c) piece (list_of e1) e2 _ n2 num (way_by e1 _ st1) st2 (ap list_of same) (On refl live_on) (counted_run (mt.resumes a1 a2 le).0 mt.count c) (ends_going m1 m2 n2 piece (Run i c) e2 st2 kept.going)

        does_begin : (g1 g2 : b.Arg) → o.ArgBelow g1 g2 → P.step mid (Run i c) ≡ begun b p mid i t1 a1 s1 (p.started at g1) → Q.step m2 (Run i c) ≡ begun b q m2 i u a2 s2 (q.started at g2) → (x : Option T) → p.started at g1 ≡ x → Answers P Q Rel m1 m2 f (Run i c)
        does_begin g1 g2 le2 st1 st2 None e = does_wrong c (record mid { shared = b.fail sh1 }) (st1 ∙ ap (begun b p mid i t1 a1 s1) e) (mono.fail_wrong sh1)
        does_begin g1 g2 le2 st1 st2 (Some w) e =
            let z = tie.started at v.proper g1 g2 w le2 e in
            let n1 : MachineOf b.Shared T = record { at = at; shared = s1; threads = slice_set (slice_set ts i t1) i t2 ++ w ∷ [] } in
            let n2 : MachineOf b.Shared U = record { at = at; shared = s2; threads = slice_set us i u2 ++ z.0 ∷ [] } in
            let to2 = st2 ∙ ap (begun b q m2 i u a2 s2) z.1 in
            lead_by m1 m2 f (Run i c) piece [] None n1 n2 num (way_by None n1 (st1 ∙ ap (begun b p mid i t1 a1 s1) e)) to2 refl (On refl (live_append at s1 s2 _ _ num live_on w z.0 z.2)) (counted_run (mt.resumes a1 a2 le).0 mt.count c) (ends_going m1 m2 n2 piece (Run i c) None to2 kept.going)

      by_effect : (x1 x2 : Effect b.Shared b.Answer b.Arg) → P.step mid (Run i c) ≡ finished b p mid i t1 x1 → Q.step m2 (Run i c) ≡ finished b q m2 i u x2 → EffectBelow b o sh2 i mt.op op2 x1 x2 → IsSome (finished b q m2 i u x2) → Answers P Q Rel m1 m2 f (Run i c)
      by_effect x1 Refused st1 st2 h en = absurd (none_enabled en)
      by_effect Refused (Goes r2 e2 s2) st1 st2 h en = absurd h
      by_effect (Goes r1 e1 s1) (Goes r2 e2 s2) st1 st2 h en = does_go r1 r2 h.0 s1 s2 h.2 h.3 e1 e2 h.1 st1 st2
      by_effect (Stops e1 s1) (Goes r2 e2 s2) st1 st2 h en = absurd h
      by_effect (Spawns g1 r1 s1) (Goes r2 e2 s2) st1 st2 h en = absurd h
      by_effect Refused (Stops e2 s2) st1 st2 h en = absurd h
      by_effect (Goes r1 e1 s1) (Stops e2 s2) st1 st2 h en = absurd h
      by_effect (Stops e1 s1) (Stops e2 s2) st1 st2 h en = does_stop e1 e2 s1 s2 st1 st2 h.0 h.1 h.2
      by_effect (Spawns g1 r1 s1) (Stops e2 s2) st1 st2 h en = absurd h
      by_effect Refused (Spawns g2 r2 s2) st1 st2 h en = absurd h
      by_effect (Goes r1 e1 s1) (Spawns g2 r2 s2) st1 st2 h en = absurd h
      by_effect (Stops e1 s1) (Spawns g2 r2 s2) st1 st2 h en = absurd h
      by_effect (Spawns g1 r1 s1) (Spawns g2 r2 s2) st1 st2 h en = does_begin r1 r2 h.1 s1 s2 h.2 h.3 g1 g2 h.0 st1 st2 (p.started at g1) refl

      by_below : IsWrongAt b o mt.op i sh1 ⊎ EffectBelow b o sh2 i mt.op op2 (b.effect mt.op i c sh1) (b.effect op2 i c sh2) → IsSome (finished b q m2 i u (b.effect op2 i c sh2)) → Answers P Q Rel m1 m2 f (Run i c)
      by_below (inl w) en = does_wrong w.choice (record mid { shared = w.new }) (step_behind mt.count w.choice (Does mt.op) mt.offers ∙ ap (finished b p mid i t1) w.stops) w.wrong
      by_below (inr h) en = by_effect (b.effect mt.op i c sh1) (b.effect op2 i c sh2) (step_behind mt.count c (Does mt.op) mt.offers) (step_there c (Does op2) off) h en

    by_meets : (c : Option ℕ) (op2 : b.Op) → q.offer at u ≡ Does op2 → IsSome (finished b q m2 i u (b.effect op2 i c sh2)) → ReachesWrong b p at t ⊎ Meets b o p q R at t u op2 → Answers P Q Rel m1 m2 f (Run i c)
    by_meets c op2 off en (inl w) = answer_wrong c w
    by_meets c op2 off en (inr mt) = by_below c op2 off mt (mono.effects sh1 sh2 v.below mt.op op2 mt.below v.going i c) en

    by_offer : (x : Offered b.Op) → q.offer at u ≡ x → (c : Option ℕ) → IsSome (acted b q m2 i u x c) → R at t u (f i) → Answers P Q Rel m1 m2 f (Run i c)
    by_offer Silent e None en r = answer_silent e (tie.silent at t u (f i) r e)
    by_offer Silent e (Some c) en r = absurd (none_enabled en)
    by_offer Fails e None en r = answer_wrong None (tie.fails at t u (f i) r e)
    by_offer Fails e (Some c) en r = absurd (none_enabled en)
    by_offer (Does op2) e c en r = by_meets c op2 e en (tie.does at t u (f i) r op2 e)

  -- only N.Running, a thread that has not ended and one that is there are enabled
  by_thread : (at : Places) (sh1 sh2 : b.Shared) (ts : List T) (us : List U) (f : ℕ → ℕ) (v : Live at sh1 sh2 ts us f) (i : ℕ) (c : Option ℕ) (x : Bool) → b.has_ended sh2 i ≡ x → (y : Option U) → slice_get us i ≡ y → IsSome (ran b q (record { at = at; shared = sh2; threads = us }) i c N.Running x y) → Answers P Q Rel (record { at = at; shared = sh1; threads = ts }) (record { at = at; shared = sh2; threads = us }) f (Run i c)
  by_thread at sh1 sh2 ts us f v i c true e y g en = absurd (none_enabled en)
  by_thread at sh1 sh2 ts us f v i c false e None g en = absurd (none_enabled en)
  by_thread at sh1 sh2 ts us f v i c false e (Some u) g en =
      let lt : i < length ts = omega (arith, slice_get_within us i u g, v.many) in
      let t = get_some ts i lt in
      by_offer at sh1 sh2 ts us f v i t.0 u t.1 g e (q.offer at u) refl c en ((v.each i t.0 u t.1 g).1 e)

  answer_run : (at : Places) (sh1 sh2 : b.Shared) (ts : List T) (us : List U) (f : ℕ → ℕ) → Live at sh1 sh2 ts us f → (i : ℕ) (c : Option ℕ) → IsSome (Q.step (record { at = at; shared = sh2; threads = us }) (Run i c)) → Answers P Q Rel (record { at = at; shared = sh1; threads = ts }) (record { at = at; shared = sh2; threads = us }) f (Run i c)
  answer_run at sh1 sh2 ts us f v i c en =
      by_thread at sh1 sh2 ts us f v i c (b.has_ended sh2 i) refl (slice_get us i) refl
      (subst (λ n. IsSome (ran b q (record { at = at; shared = sh2; threads = us }) i c n (b.has_ended sh2 i) (slice_get us i))) v.going en)

  live_shared : (at : Places) (sh1 sh2 : b.Shared) (ts : List T) (us : List U) (f : ℕ → ℕ) → Live at sh1 sh2 ts us f → (new1 new2 : b.Shared) → o.Below new1 new2 → Kept b o sh2 new2 → Live at new1 new2 ts us f
  live_shared at sh1 sh2 ts us f v new1 new2 below kept =
      record {
        proper = v.proper;
        below = below;
        going = kept.going;
        many = v.many;
        each = λ j t u g1 g2. let a = v.each j t u g1 g2 in (a.0, (λ h. a.1 (kept.ended j h)));
        bounded = v.bounded;
        unborn = v.unborn;
      }

  no_runs : (f : ℕ → ℕ) (i j : ℕ) → f j + runs_of j (Drain i ∷ []) ≤ f j
  no_runs f i j = omega arith

  drain_step : {V : Type 0} (l : Lang b V) (m : MachineOf b.Shared V) (i : ℕ) (new : b.Shared) → b.now m.shared ≡ N.Running → b.drain i m.shared ≡ Some new → step_of b l m (Drain i) ≡ Some (None, record m { shared = new })
  drain_step l m i new n e = ap (λ x. drained b l m x (b.drain i m.shared)) n ∙ ap (drained b l m N.Running) e

  answer_drain : (at : Places) (sh1 sh2 : b.Shared) (ts : List T) (us : List U) (f : ℕ → ℕ) → Live at sh1 sh2 ts us f → (i : ℕ) (d : Option b.Shared) → b.drain i sh2 ≡ d → IsSome (drained b q (record { at = at; shared = sh2; threads = us }) N.Running d) → Answers P Q Rel (record { at = at; shared = sh1; threads = ts }) (record { at = at; shared = sh2; threads = us }) f (Drain i)
  answer_drain at sh1 sh2 ts us f v i None e en = absurd (none_enabled en)
  answer_drain at sh1 sh2 ts us f v i (Some new2) e en =
      let n1 : MachineOf b.Shared T = record { at = at; shared = sh1; threads = ts } in
      let n2 : MachineOf b.Shared U = record { at = at; shared = sh2; threads = us } in
      let d = mono.drains sh1 sh2 new2 v.below v.going i e in
      let g1 = mono.now_same sh1 sh2 v.below ∙ v.going in
      let st1 = drain_step p n1 i d.0 g1 d.1 in
      let st2 = drain_step q n2 i new2 v.going e in
      go n1 n2 d.0 st1 st2 d.2
    where
      go : (n1 : MachineOf b.Shared T) (n2 : MachineOf b.Shared U) (new1 : b.Shared) → P.step (record { at = at; shared = sh1; threads = ts }) (Drain i) ≡ Some (None, record { at = at; shared = new1; threads = ts }) → Q.step (record { at = at; shared = sh2; threads = us }) (Drain i) ≡ Some (None, record { at = at; shared = new2; threads = us }) → (b.now new1 ≡ N.Wrong) ⊎ (o.Below new1 new2 × Kept b o sh2 new2) → Answers P Q Rel (record { at = at; shared = sh1; threads = ts }) (record { at = at; shared = sh2; threads = us }) f (Drain i)
      go n1 n2 new1 st1 st2 (inl w) = wrong_by _ _ f (Drain i) (Drain i ∷ []) _ (way_one P _ (Drain i) None _ st1) w
      go n1 n2 new1 st1 st2 (inr k) =
          lead_by _ _ f (Drain i) (Drain i ∷ []) [] None _ (record { at = at; shared = new2; threads = us }) f (way_one P _ (Drain i) None _ st1) st2 refl
          (On refl (live_shared at sh1 sh2 ts us f v new1 new2 k.0 k.1))
          (λ j e1. no_runs f i j)
          (ends_going _ _ (record { at = at; shared = new2; threads = us }) (Drain i ∷ []) (Drain i) None st2 k.1.going)

  answer_live : (at : Places) (sh1 sh2 : b.Shared) (ts : List T) (us : List U) (f : ℕ → ℕ) → Live at sh1 sh2 ts us f → (x : Step) → IsSome (Q.step (record { at = at; shared = sh2; threads = us }) x) → Answers P Q Rel (record { at = at; shared = sh1; threads = ts }) (record { at = at; shared = sh2; threads = us }) f x
  answer_live at sh1 sh2 ts us f v (Run i c) en = answer_run at sh1 sh2 ts us f v i c en
  answer_live at sh1 sh2 ts us f v (Drain i) en =
      answer_drain at sh1 sh2 ts us f v i (b.drain i sh2) refl (subst (λ n. IsSome (drained b q (record { at = at; shared = sh2; threads = us }) n (b.drain i sh2))) v.going en)

  stopped_run : (m : MachineOf b.Shared U) (i : ℕ) (c : Option ℕ) (n : Now) → n ≢ N.Running → IsSome (ran b q m i c n (b.has_ended m.shared i) (slice_get m.threads i)) → ⊥
  stopped_run m i c N.Running h en = h refl
  stopped_run m i c N.Exited h en = none_enabled en
  stopped_run m i c N.Wrong h en = none_enabled en
  stopped_run m i c N.NoHeap h en = none_enabled en

  stopped_drain : (m : MachineOf b.Shared U) (i : ℕ) (n : Now) → n ≢ N.Running → IsSome (drained b q m n (b.drain i m.shared)) → ⊥
  stopped_drain m i N.Running h en = h refl
  stopped_drain m i N.Exited h en = none_enabled en
  stopped_drain m i N.Wrong h en = none_enabled en
  stopped_drain m i N.NoHeap h en = none_enabled en

  stopped : (m : MachineOf b.Shared U) (x : Step) → b.now m.shared ≢ N.Running → IsSome (Q.step m x) → ⊥
  stopped m (Run i c) h en = stopped_run m i c (b.now m.shared) h en
  stopped m (Drain i) h en = stopped_drain m i (b.now m.shared) h en

  answers_rel : (m1 : MachineOf b.Shared T) (m2 : MachineOf b.Shared U) (f : ℕ → ℕ) → Rel m1 m2 f → (x : Step) → IsSome (Q.step m2 x) → Answers P Q Rel m1 m2 f x
  answers_rel n1 n2 f (On e v) x en =
      subst (λ a. Answers P Q Rel (record { at = a; shared = n1.shared; threads = n1.threads }) n2 f x) (sym e) (answer_live n2.at n1.shared n2.shared n1.threads n2.threads f v x en)
  answers_rel n1 n2 f (Over n a h) x en = absurd (stopped n2 x n en)

  status_running : (n : Now) → status_of n ≡ Running → n ≡ N.Running
  status_running N.Running e = refl
  status_running N.Exited e = cc
  status_running N.Wrong e = cc
  status_running N.NoHeap e = cc

  -- to where the first offers Start too
  module _ (at : Places) (sh1 sh2 : b.Shared) (ts : List T) (us : List U) (f : ℕ → ℕ) (v : Live at sh1 sh2 ts us f) (i : ℕ) (t : T) (u : U) (gt : slice_get ts i ≡ Some t) (gu : slice_get us i ≡ Some u) (up : b.has_ended sh2 i ≡ false) where
    abbrev k1 : MachineOf b.Shared T
    k1 = record { at = at; shared = sh1; threads = ts }

    abbrev k2 : MachineOf b.Shared U
    k2 = record { at = at; shared = sh2; threads = us }

    start_meets : (op2 : b.Op) → q.offer at u ≡ Does op2 → b.is_start op2 ≡ true → ReachesWrong b p at t ⊎ Meets b o p q R at t u op2 → ComesToStart P Q k1 k2 i
    start_meets op2 off st (inl w) =
        let bad : MachineOf b.Shared T = record { at = at; shared = b.fail sh1; threads = slice_set ts i (silents b p at t w.count) } in
        let way = way_on P k1 (reps w.count i) (Run i None ∷ []) [] [] _ bad (way_silent at sh1 sh2 ts us f v i t u gt gu up w.count w.silent) (way_one P _ (Run i None) None bad (step_behind at sh1 sh2 ts us f v i t u gt gu up w.count None Fails w.fails)) in
        record { more = reps w.count i ++ Run i None ∷ []; is_run = way.run; quiet = way.shows; arrives = inl (ap P.status way.to ∙ ap status_of (mono.fail_wrong sh1)) }
    start_meets op2 off st (inr mt) =
        let way = way_silent at sh1 sh2 ts us f v i t u gt gu up mt.count mt.silent in
        let mid : MachineOf b.Shared T = with_thread b p k1 i (silents b p at t mt.count) in
        let run : P.status mid ≡ Running = ap status_of (going1 at sh1 sh2 ts us f v i t u gt gu up) in
        let begins : P.starts mid i ≡ true =
        ap (λ x. starts_at b p at x (slice_get (slice_set ts i (silents b p at t mt.count)) i)) (up1 at sh1 sh2 ts us f v i t u gt gu up)
        ∙ ap (starts_at b p at false) (get_set ts i (silents b p at t mt.count) t gt)
        ∙ ap (start_offered b p) mt.offers
        ∙ mono.starts_same mt.op op2 mt.below
        ∙ st in
        let alike = alike_from mid k2 v.below (many_stop at sh1 sh2 ts us f v i t u gt gu up mt.count) (calls_same (slice_set ts i (silents b p at t mt.count)) us (many_stop at sh1 sh2 ts us f v i t u gt gu up mt.count) (λ j x y g1 g2. (each_stop at sh1 sh2 ts us f v i t u gt gu up mt.count mt.calls j x y g1 g2 (dec_eq i j)).0)) in
        record {
          more = reps mt.count i;
          is_run = way.run;
          quiet = way.shows;
          arrives = inr (subst (λ s. (P.status s ≡ Running) × (P.starts s i ≡ true) × Alike P Q s k2) (sym way.to) (run, begins, alike));
        }

    start_offer : (x : Offered b.Op) → q.offer at u ≡ x → start_offered b q x ≡ true → R at t u (f i) → ComesToStart P Q k1 k2 i
    start_offer Silent e st r = absurd (none_enabled st)
    start_offer Fails e st r = absurd (none_enabled st)
    start_offer (Does op2) e st r = start_meets op2 e st (tie.does at t u (f i) r op2 e)

  start_thread : (at : Places) (sh1 sh2 : b.Shared) (ts : List T) (us : List U) (f : ℕ → ℕ) (v : Live at sh1 sh2 ts us f) (i : ℕ) (x : Bool) → b.has_ended sh2 i ≡ x → (y : Option U) → slice_get us i ≡ y → starts_at b q at x y ≡ true → ComesToStart P Q (record { at = at; shared = sh1; threads = ts }) (record { at = at; shared = sh2; threads = us }) i
  start_thread at sh1 sh2 ts us f v i true e y g st = absurd (none_enabled st)
  start_thread at sh1 sh2 ts us f v i false e None g st = absurd (none_enabled st)
  start_thread at sh1 sh2 ts us f v i false e (Some u) g st =
      let lt : i < length ts = omega (arith, slice_get_within us i u g, v.many) in
      let t = get_some ts i lt in
      start_offer at sh1 sh2 ts us f v i t.0 u t.1 g e (q.offer at u) refl st ((v.each i t.0 u t.1 g).1 e)

  start_rel : (m1 : MachineOf b.Shared T) (m2 : MachineOf b.Shared U) (f : ℕ → ℕ) → Rel m1 m2 f → Q.status m2 ≡ Running → (i : ℕ) → Q.starts m2 i ≡ true → ComesToStart P Q m1 m2 i
  start_rel n1 n2 f (On e v) run i st =
      subst (λ a. ComesToStart P Q (record { at = a; shared = n1.shared; threads = n1.threads }) n2 i) (sym e) (start_thread n2.at n1.shared n2.shared n1.threads n2.threads f v i (b.has_ended n2.shared i) refl (slice_get n2.threads i) refl st)
  start_rel n1 n2 f (Over n a h) run i st = absurd (n (status_running (b.now n2.shared) run))

  -- main alone, with the number 0
  one_each : (at : Places) → q.IsProper at → (j : ℕ) (t : T) (u : U) → slice_get (p.first at ∷ []) j ≡ Some t → slice_get (q.first at ∷ []) j ≡ Some u → (p.calls t ≡ q.calls u) × (b.has_ended (q.opening at) j ≡ false → R at t u 0)
  one_each at fits zero t u g1 g2 =
      let e1 : p.first at ≡ t = cc in
      let e2 : q.first at ≡ u = cc in
      let r = subst (λ x. R at t x 0) e2 (subst (λ x. R at x (q.first at) 0) e1 (tie.first at fits)) in
      (tie.calls at t u 0 r, (λ h. r))
  one_each at fits (suc j) t u g1 g2 = absurd (none_some t g1)

  opens_rel : (at : Places) → q.IsProper at → Rel (P.opening at) (Q.opening at) (λ j. 0)
  opens_rel at fits =
      On refl
      (record {
        proper = fits;
        below = tie.opening at fits;
        going = tie.opens_running at;
        many = refl;
        each = one_each at fits;
        bounded = λ j. omega arith;
        unborn = λ j le. refl;
      })

  machine_tie : IsMachineTie P Q Rel (bound + 1)
  machine_tie =
      record {
        same_interface = record { globals = tie.globals; stated = tie.stated };
        labels_proper = tie.labels_proper;
        opens_running = λ at. ap status_of (tie.opens_running at);
        opens_related = λ at fits. ((λ j. 0), opens_rel at fits);
        below_bound = below_rel;
        alike = alike_rel;
        answers = answers_rel;
        start_ready = start_rel;
      }

  pub sim_lifts : Refines P Q (bound + 1)
  sim_lifts = tie_refines P Q Rel (bound + 1) machine_tie
