-- Refinements compose.
use Rattle.std.proofs.Common.{◌≡◌, ◌≢◌, ℕ, ◌+◌, ◌*◌, ◌<◌, ◌≤◌, List, [], ◌∷◌, ◌++◌, length, take, drop, refl, sym, ap, ◌∙◌, subst, arith, append_assoc, length-append, Option, Some, None, inl, inr, true}
use Rattle.std.proofs.Math.Nat.{mul-le-mul_left, le_trans}
use Rattle.std.proofs.Math.Decide.{dec_lt}
use Rattle.std.proofs.Math.Seq.{take-append_seam}
use Rattle.std.proofs.lemmas.List.{append-nil, take_all}
use Rattle.tso_core.specs.declared.Step.{Step}
use Rattle.tso_core.specs.Systems.{System, Status, Running, Wrong, NoHeap, NoStack, Names, Places, after, shown, IsRun, runs_of, last_run}
use Rattle.tso_core.specs.Matching.{SaysSame, IsPrefixOf, joined, Alike, Agrees, Matches}
use Rattle.tso_core.specs.Refinement.{size_or_none, stated_sum, calls_sum, IsOverStack, IsStartZero, StackCase, AlreadyThere, AtStart, TooDeep, SameRequest, SameInterface, Ends, IsAtStart, CatchesUp, Follows, FollowsToStart, Refines}
use Rattle.tso_core.proofs.Pieces.{grouped, steps_in, length-grouped, take_grouped, take_joined, joined_grouped, joined_split, stretch, stretch_grouped, steps_in-add, steps_in_most, IsPrefixOf-trans, IsPrefixOf-refl, adds_nothing, joined_grouped_all, attached, length-attached, joined-attached, take-attached, runs-attached}
use Rattle.tso_core.proofs.Runs.{shown-append, front_runs, dec_wrong, dec_no_stack}

says_trans : {A : Type 0} (a b c : Option A) → SaysSame a b → SaysSame b c → SaysSame a c
says_trans a b None h g = tt
says_trans {A = A} a b (Some x) h g = let P : Option A → Type 0 = λ o. SaysSame a o in subst P g h

interface_trans : (p q r : System) → SameInterface p q → SameInterface q r → SameInterface p r
interface_trans p q r a b =
    record {
      globals = says_trans p.globals q.globals r.globals a.globals b.globals;
      stated = λ f. says_trans (p.stated f) (q.stated f) (r.stated f) (a.stated f) (b.stated f);
    }

paces_multiply : (a b c j k : ℕ) → a ≤ k * b → b ≤ j * c → a ≤ j * k * c
paces_multiply a b c j k h g = omega (arith, mul-le-mul_left k g)

module _ (p q r : System) where
  alike_trans : (s : p.State) (t : q.State) (v : r.State) → Alike p q s t → Alike q r t v → Alike p r s v
  alike_trans s t v a b =
      record {
        same_threads = a.same_threads ∙ b.same_threads;
        same_ended = λ i. a.same_ended i ∙ b.same_ended i;
        no_write_buffered = λ i h. a.no_write_buffered i (b.no_write_buffered i h);
        not_wrong = b.not_wrong;
        same_exit = ((λ h. b.same_exit.0 (a.same_exit.0 h)), (λ h. a.same_exit.1 (b.same_exit.1 h)));
        same_no_heap = ((λ h. b.same_no_heap.0 (a.same_no_heap.0 h)), (λ h. a.same_no_heap.1 (b.same_no_heap.1 h)));
        same_heap = λ base. a.same_heap base ∙ b.same_heap base;
        same_calls = λ i. says_trans (p.calls s i) (q.calls t i) (r.calls v i) (a.same_calls i) (b.same_calls i);
      }

  agrees_trans : (s : p.State) (t : q.State) (v : r.State) (xs ys zs : List Step) → Agrees p q s t xs ys → Agrees q r t v ys zs → Agrees p r s v xs zs
  agrees_trans s t v xs ys zs a b =
      record {
        alike = λ w. alike_trans _ _ _ (a.alike w) (b.alike (a.alike w).not_wrong);
        same_events = λ w. a.same_events w ∙ b.same_events (a.alike w).not_wrong;
        goes_wrong_inside = λ w. fewer w (dec_wrong (q.status (after q t ys)));
      }
    where
      fewer : p.status (after p s xs) ≡ Wrong → Dec (q.status (after q t ys) ≡ Wrong) → IsPrefixOf (shown p s xs) (shown r v zs)
      fewer w (yes e) = IsPrefixOf-trans (shown p s xs) (shown q t ys) (shown r v zs) (a.goes_wrong_inside w) (b.goes_wrong_inside e)
      fewer w (no n) = subst (λ l. IsPrefixOf (shown p s xs) l) (b.same_events n) (a.goes_wrong_inside w)

  -- the runs of q may go on behind the pieces by more steps
  module _ (j k : ℕ) (s : p.State) (t : q.State) (v : r.State) (zs more : List Step) (qs ps : List (List Step)) (b : Matches q r k t v zs qs) (a : Matches p q j s t (joined qs ++ more) ps) where
    agrees_at : (n : ℕ) → n ≤ length zs → Agrees p r s v (joined (take n (grouped qs ps))) (take n zs)
    agrees_at n h =
        let a1 = a.agrees (steps_in n qs) (steps_in_most n qs more) in
        let a2 = subst (λ l. Agrees p q s t (joined (take (steps_in n qs) ps)) l) (take_joined n qs more) a1 in
        let a3 = subst (λ l. Agrees p q s t l (joined (take n qs))) (sym (take_grouped n qs ps)) a2 in
        agrees_trans s t v (joined (take n (grouped qs ps))) (joined (take n qs)) (take n zs) a3 (b.agrees n h)

    -- where p is not wrong, q is not
    q_right : (n : ℕ) → p.status (after p s (joined (take n (grouped qs ps)))) ≢ Wrong → q.status (after q t (joined (take n qs))) ≢ Wrong
    q_right n w =
        let w1 = subst (λ l. p.status (after p s l) ≢ Wrong) (take_grouped n qs ps) w in
        subst (λ l. q.status (after q t l) ≢ Wrong) (take_joined n qs more) ((a.agrees (steps_in n qs) (steps_in_most n qs more)).alike w1).not_wrong

    paces : (i m n : ℕ) → m + n ≤ length zs → p.status (after p s (joined (take (m + n) (grouped qs ps)))) ≢ Wrong → runs_of i (take n (drop m zs)) + 1 ≤ j * k * (runs_of i (joined (take n (drop m (grouped qs ps)))) + 1)
    paces i m n h w =
        let m1 = steps_in m qs in
        let n1 = steps_in n (drop m qs) in
        let far : m1 + n1 ≤ length (joined qs ++ more) = omega (arith, steps_in_most (m + n) qs more, steps_in-add m n qs) in
        let w1 = subst (λ l. p.status (after p s l) ≢ Wrong) (take_grouped (m + n) qs ps ∙ ap (λ c. joined (take c ps)) (steps_in-add m n qs)) w in
        let low = b.within_pace i m n h (q_right (m + n) w) in
        let high = a.within_pace i m1 n1 far w1 in
        let high1 = subst (λ l. runs_of i l + 1 ≤ j * (runs_of i (joined (take n1 (drop m1 ps))) + 1)) (stretch m n qs more) high in
        let high2 = subst (λ l. runs_of i (joined (take n (drop m qs))) + 1 ≤ j * (runs_of i l + 1)) (sym (stretch_grouped m n qs ps)) high1 in
        paces_multiply _ _ _ j k low high2

    runs_on : IsRun p s (joined (grouped qs ps))
    runs_on =
        let whole = subst (λ l. IsRun p s l) (sym (joined_split (length (joined qs)) ps)) a.is_run in
        subst (λ l. IsRun p s l) (sym (joined_grouped qs ps)) (front_runs p s (joined (take (length (joined qs)) ps)) (joined (drop (length (joined qs)) ps)) whole)

    matches_trans : Matches p r (j * k) s v zs (grouped qs ps)
    matches_trans =
        record {
          as_many = length-grouped qs ps ∙ b.as_many;
          is_run = runs_on;
          agrees = agrees_at;
          within_pace = paces;
        }

-- after all steps
at_end : (p q : System) (k : ℕ) (s : p.State) (t : q.State) (steps : List Step) (pieces : List (List Step)) → Matches p q k s t steps pieces → Agrees p q s t (joined pieces) steps
at_end p q k s t steps pieces a =
    let n = length steps in
    let le : length pieces ≤ n = omega (arith, a.as_many) in
    let most : n ≤ n = omega arith in
    let a1 = subst (λ l. Agrees p q s t (joined l) (take n steps)) (take_all n pieces le) (a.agrees n most) in
    subst (λ l. Agrees p q s t (joined pieces) l) (take_all n steps most) a1

-- what q states p states too
size_most : (a b : Option ℕ) → SaysSame a b → size_or_none b ≤ size_or_none a
size_most a None h = omega arith
size_most a (Some n) h = let P : Option ℕ → Type 0 = λ o. size_or_none (Some n) ≤ size_or_none o in let le : n ≤ n = omega arith in subst P (sym h) le

sum_most : (f g : Names → Option ℕ) → ((n : Names) → SaysSame (f n) (g n)) → (cs : List Names) → stated_sum g cs ≤ stated_sum f cs
sum_most f g h [] = omega arith
sum_most f g h (c ∷ cs) = omega (arith, size_most (f c) (g c) (h c), sum_most f g h cs)

over_too : (f g : Names → Option ℕ) → ((n : Names) → SaysSame (f n) (g n)) → (a b : Option (List Names)) → SaysSame a b → 1048576 < calls_sum g b + 8 → 1048576 < calls_sum f a + 8
over_too f g h a None e d = absurd (omega arith)
over_too f g h a (Some cs) e d =
    let P : Option (List Names) → Type 0 = λ o. 1048576 < calls_sum f o + 8 in
    let deep : 1048576 < calls_sum f (Some cs) + 8 = omega (arith, sum_most f g h cs) in
    subst P (sym e) deep

-- one thread's run comes last
same_last : (a : Option ℕ) (i n : ℕ) → a ≡ Some i → a ≡ Some n → i ≡ n
same_last a i n e f = cc

is_right : (a : Status) → a ≡ Running → a ≢ Wrong
is_right a e f = cc

must_be : {A : Type 0} → Dec A → (¬ A → ⊥) → A
must_be (yes a) h = a
must_be (no n) h = absurd (h n)

not_both : (a : Status) → a ≡ NoStack → a ≡ NoHeap → ⊥
not_both a e f = cc

has_last : (zs : List Step) (i : ℕ) → last_run zs ≡ Some i → 0 < length zs
has_last [] i e = absurd (none i e)
  where
    none : (n : ℕ) → None ≡ Some n → ⊥
    none n f = cc
has_last (x ∷ zs) i e = omega arith

module _ (p q r : System) (stated : (f : Names) → SaysSame (p.stated f) (q.stated f)) (s : p.State) (t : q.State) (v : r.State) (xs ys zs : List Step) (a : Agrees p q s t xs ys) (ea : Ends p q s t xs ys) (b : Agrees q r t v ys zs) (eb : Ends q r t v ys zs) where
  request_on : r.status (after r v zs) ≡ NoHeap → p.status (after p s xs) ≢ Wrong → SameRequest p r s v xs zs
  request_on e w =
      let wq = (a.alike w).not_wrong in
      let nq = (b.alike wq).same_no_heap.1 e in
      let hb = eb.same_request e wq in
      let ha = ea.same_request nq w in
      let i_is : ha.thread ≡ hb.thread = same_last (last_run ys) ha.thread hb.thread ha.last_of_q hb.last_of_p in
      let asks_q = subst (λ n. q.asks (after q t ys) n ≡ Some ha.size) i_is ha.asked_by_q in
      let size_is : ha.size ≡ hb.size = same_last (q.asks (after q t ys) hb.thread) ha.size hb.size asks_q hb.asked_by_p in
      record {
        thread = hb.thread;
        size = hb.size;
        last_of_q = hb.last_of_q;
        last_of_p = subst (λ n. last_run xs ≡ Some n) i_is ha.last_of_p;
        asked_by_q = hb.asked_by_q;
        asked_by_p = subst (λ n. p.asks (after p s xs) n ≡ Some ha.size) i_is ha.asked_by_p ∙ ap Some size_is;
      }

  -- what p pays where q was without a stack
  stack_there : (i : ℕ) → q.status (after q t ys) ≡ NoStack → p.status (after p s xs) ≢ Wrong → last_run ys ≡ Some i → (IsStartZero q t ys i → IsStartZero r v zs i) → StackCase p q s t xs ys i → StackCase p r s v xs zs i
  stack_there i e w l z (AlreadyThere np lp zp) = AlreadyThere np lp (λ h. z (zp h))
  stack_there i e w l z (AtStart zy run st) = AtStart (z zy) run st
  stack_there i e w l z (TooDeep d) = TooDeep d

  ends_by : ((i : ℕ) → r.status (after r v zs) ≡ NoStack → p.status (after p s xs) ≢ Wrong → last_run zs ≡ Some i → StackCase p r s v xs zs i) → Ends p r s v xs zs
  ends_by h = record { same_request = request_on; stack_justified = λ e w i l. h i e w l }

  -- the cases but that of a Start
  ends_there : (i : ℕ) → last_run zs ≡ Some i → q.status (after q t ys) ≡ NoStack → last_run ys ≡ Some i → (IsStartZero q t ys i → IsStartZero r v zs i) → Ends p r s v xs zs
  ends_there i l nq lq zq = ends_by (λ n e w g. subst (λ c. StackCase p r s v xs zs c) (same_last (last_run zs) i n l g) (stack_there i nq w lq zq (ea.stack_justified nq w i lq)))

  ends_deep : (i : ℕ) → last_run zs ≡ Some i → IsOverStack q (after q t ys) i → Ends p r s v xs zs
  ends_deep i l d = ends_by (λ n e w g. subst (λ c. StackCase p r s v xs zs c) (same_last (last_run zs) i n l g) (TooDeep (over_too p.stated q.stated stated (p.calls (after p s xs) i) (q.calls (after q t ys) i) ((a.alike w).same_calls i) d)))

-- with more steps behind the last piece
module _ (p r : System) (k : ℕ) (s : p.State) (v : r.State) (zs more : List Step) (ps : List (List Step)) (a : Matches p r k s v zs ps) (some : 0 < length zs) (w : p.status (after p s (joined ps)) ≢ Wrong) (on : IsRun p s (joined ps ++ more)) (quiet : shown p s (joined ps ++ more) ≡ shown p s (joined ps)) (alike : p.status (after p s (joined ps ++ more)) ≢ Wrong → Alike p r (after p s (joined ps ++ more)) (after r v zs)) where
  attached_is : joined (attached ps more) ≡ joined ps ++ more
  attached_is = let pos : 0 < length ps = omega (arith, a.as_many) in joined-attached ps more pos

  agrees_whole : Agrees p r s v (joined ps ++ more) zs
  agrees_whole =
      record {
        alike = alike;
        same_events = λ h. quiet ∙ (at_end p r k s v zs ps a).same_events w;
        goes_wrong_inside = λ h. subst (λ l. IsPrefixOf l (shown r v zs)) (sym (quiet ∙ (at_end p r k s v zs ps a).same_events w)) (IsPrefixOf-refl (shown r v zs));
      }

  agrees_attached : (n : ℕ) → n ≤ length zs → Dec (n < length zs) → Agrees p r s v (joined (take n (attached ps more))) (take n zs)
  agrees_attached n h (yes lt) =
      let lt1 : n < length ps = omega (arith, a.as_many) in
      subst (λ l. Agrees p r s v (joined l) (take n zs)) (sym (take-attached n ps more lt1)) (a.agrees n h)
  agrees_attached n h (no ge) =
      let le : length (attached ps more) ≤ n = omega (arith, a.as_many, length-attached ps more) in
      let le1 : length zs ≤ n = omega arith in
      let g1 = subst (λ l. Agrees p r s v l zs) (sym attached_is) agrees_whole in
      let g2 = subst (λ l. Agrees p r s v (joined l) zs) (sym (take_all n (attached ps more) le)) g1 in
      subst (λ l. Agrees p r s v (joined (take n (attached ps more))) l) (sym (take_all n zs le1)) g2

  -- before the last piece nothing has changed, and there p was not wrong
  right_before : (n : ℕ) → n ≤ length zs → Dec (n < length zs) → p.status (after p s (joined (take n (attached ps more)))) ≢ Wrong → p.status (after p s (joined (take n ps))) ≢ Wrong
  right_before n h (yes lt) g =
      let lt1 : n < length ps = omega (arith, a.as_many) in
      subst (λ l. p.status (after p s (joined l)) ≢ Wrong) (take-attached n ps more lt1) g
  right_before n h (no ge) g =
      let le : length ps ≤ n = omega (arith, a.as_many) in
      subst (λ l. p.status (after p s (joined l)) ≢ Wrong) (sym (take_all n ps le)) w

  pace_attached : (i m n : ℕ) → m + n ≤ length zs → p.status (after p s (joined (take (m + n) (attached ps more)))) ≢ Wrong → runs_of i (take n (drop m zs)) + 1 ≤ k * (runs_of i (joined (take n (drop m (attached ps more)))) + 1)
  pace_attached i m n h g =
      let low = a.within_pace i m n h (right_before (m + n) h (dec_lt (m + n) (length zs)) g) in
      let up : runs_of i (joined (take n (drop m ps))) + 1 ≤ runs_of i (joined (take n (drop m (attached ps more)))) + 1 = omega (arith, runs-attached i m n ps more) in
      le_trans low (mul-le-mul_left k up)

  matches_attached : Matches p r k s v zs (attached ps more)
  matches_attached =
      record {
        as_many = length-attached ps more ∙ a.as_many;
        is_run = subst (λ l. IsRun p s l) (sym attached_is) on;
        agrees = λ n h. agrees_attached n h (dec_lt n (length zs));
        within_pace = pace_attached;
      }

-- steps that lead on from a state where nothing more is shown
module _ (p q r : System) (j k : ℕ) (pq : Refines p q j) (qr : Refines q r k) (at : Places) (fits : r.IsProper at) (zs : List Step) where
  abbrev s : p.State
  s = p.opening at

  abbrev t : q.State
  t = q.opening at

  abbrev v : r.State
  v = r.opening at

  -- by the pieces of p for exactly the pieces of q
  module _ (qs ps : List (List Step)) (b : Matches q r k t v zs qs) (a : Matches p q j s t (joined qs) ps) where
    exact : Matches p r (j * k) s v zs (grouped qs ps)
    exact =
        let a1 = subst (λ l. Matches p q j s t l ps) (sym (append-nil (joined qs))) a in
        matches_trans p q r j k s t v zs [] qs ps b a1

    exact_is : joined (grouped qs ps) ≡ joined ps
    exact_is = joined_grouped_all qs ps a.as_many

    -- q was wrong, so p is
    wrong_before : q.status (after q t (joined qs)) ≡ Wrong → p.status (after p s (joined ps)) ≢ Wrong → ⊥
    wrong_before e w = ((at_end p q j s t (joined qs) ps a).alike w).not_wrong e

    with_ends : Ends p r s v (joined ps) zs → Follows p r (j * k) s v zs
    with_ends e =
        record {
          pieces = grouped qs ps;
          matches = exact;
          ends = subst (λ l. Ends p r s v l zs) (sym exact_is) e;
        }

  follows_wrong : (qs : List (List Step)) → Matches q r k t v zs qs → q.status (after q t (joined qs)) ≡ Wrong → Follows p r (j * k) s v zs
  follows_wrong qs b e =
      let f = pq.matches at (qr.labels_proper at fits) (joined qs) b.is_run in
      with_ends qs f.pieces b f.matches
      (record {
        same_request = λ h w. absurd (wrong_before qs f.pieces b f.matches e w);
        stack_justified = λ h w i l. absurd (wrong_before qs f.pieces b f.matches e w);
      })

  -- r still has a stack, or its last step is no run
  follows_free : (qs : List (List Step)) → Matches q r k t v zs qs → Ends q r t v (joined qs) zs → ((i : ℕ) → r.status (after r v zs) ≡ NoStack → last_run zs ≡ Some i → ⊥) → Follows p r (j * k) s v zs
  follows_free qs b eb free =
      let f = pq.matches at (qr.labels_proper at fits) (joined qs) b.is_run in
      with_ends qs f.pieces b f.matches
      (ends_by p q r pq.same_interface.stated s t v (joined f.pieces) (joined qs) zs (at_end p q j s t (joined qs) f.pieces f.matches) f.ends (at_end q r k t v zs qs b) eb
      (λ i e w l. absurd (free i e l)))

  -- where p comes to the Start only behind the pieces, those steps go with the last piece
  module _ (qs : List (List Step)) (b : Matches q r k t v zs qs) (e : r.status (after r v zs) ≡ NoStack) (i : ℕ) (l : last_run zs ≡ Some i) (z : IsStartZero r v zs i) (run : q.status (after q t (joined qs)) ≡ Running) (g : FollowsToStart p q j s t (joined qs) i) where
    abbrev behind : List Step
    behind = joined g.pieces ++ g.catches_up.more

    arrived_alike : IsAtStart p q (after p s behind) (after q t (joined qs)) i → p.status (after p s behind) ≢ Wrong → Alike p r (after p s behind) (after r v zs)
    arrived_alike (inl x) w = absurd (w x)
    arrived_alike (inr x) w = alike_trans p q r (after p s behind) (after q t (joined qs)) (after r v zs) x.2 ((at_end q r k t v zs qs b).alike (is_right (q.status (after q t (joined qs))) run))

    arrived_case : IsAtStart p q (after p s behind) (after q t (joined qs)) i → p.status (after p s behind) ≢ Wrong → StackCase p r s v behind zs i
    arrived_case (inl x) w = absurd (w x)
    arrived_case (inr x) w = AtStart z x.0 x.1

    behind_start : Dec (p.status (after p s (joined g.pieces)) ≡ Wrong) → Follows p r (j * k) s v zs
    behind_start (yes h) =
        with_ends qs g.pieces b g.matches (record { same_request = λ x w. absurd (w h); stack_justified = λ x w n y. absurd (w h) })
    behind_start (no w) =
        let ps = grouped qs g.pieces in
        let is = exact_is qs g.pieces b g.matches in
        let some = has_last zs i l in
        let w1 = subst (λ c. p.status (after p s c) ≢ Wrong) (sym is) w in
        let on = subst (λ c. IsRun p s (c ++ g.catches_up.more)) (sym is) g.catches_up.is_run in
        let quiet = subst (λ c. shown p s (c ++ g.catches_up.more) ≡ shown p s c) (sym is) g.catches_up.quiet in
        let alike = subst (λ c. p.status (after p s (c ++ g.catches_up.more)) ≢ Wrong → Alike p r (after p s (c ++ g.catches_up.more)) (after r v zs)) (sym is) (arrived_alike (g.catches_up.arrives w)) in
        let ex = exact qs g.pieces b g.matches in
        let ends1 : Ends p r s v behind zs = record { same_request = λ x y. absurd (not_both (r.status (after r v zs)) e x); stack_justified = λ x y n c. subst (λ d. StackCase p r s v behind zs d) (same_last (last_run zs) i n l c) (arrived_case (g.catches_up.arrives w) y) } in
        let pieces_is = attached_is p r (j * k) s v zs g.catches_up.more ps ex some w1 on quiet alike ∙ ap (λ c. c ++ g.catches_up.more) is in
        record {
          pieces = attached ps g.catches_up.more;
          matches = matches_attached p r (j * k) s v zs g.catches_up.more ps ex some w1 on quiet alike;
          ends = subst (λ c. Ends p r s v c zs) (sym pieces_is) ends1;
        }

  follows_case : (qs : List (List Step)) → Matches q r k t v zs qs → Ends q r t v (joined qs) zs → r.status (after r v zs) ≡ NoStack → (i : ℕ) → last_run zs ≡ Some i → StackCase q r t v (joined qs) zs i → Follows p r (j * k) s v zs
  follows_case qs b eb e i l (AlreadyThere nq lq zq) =
      let f = pq.matches at (qr.labels_proper at fits) (joined qs) b.is_run in
      with_ends qs f.pieces b f.matches
      (ends_there p q r pq.same_interface.stated s t v (joined f.pieces) (joined qs) zs (at_end p q j s t (joined qs) f.pieces f.matches) f.ends (at_end q r k t v zs qs b) eb i l nq lq zq)
  follows_case qs b eb e i l (TooDeep d) =
      let f = pq.matches at (qr.labels_proper at fits) (joined qs) b.is_run in
      with_ends qs f.pieces b f.matches
      (ends_deep p q r pq.same_interface.stated s t v (joined f.pieces) (joined qs) zs (at_end p q j s t (joined qs) f.pieces f.matches) f.ends (at_end q r k t v zs qs b) eb i l d)
  follows_case qs b eb e i l (AtStart z run st) =
      let g = pq.start_ready at (qr.labels_proper at fits) (joined qs) b.is_run run i st in
      behind_start qs b e i l z run g (dec_wrong (p.status (after p s (joined g.pieces))))

  follows_last : (qs : List (List Step)) → Matches q r k t v zs qs → Ends q r t v (joined qs) zs → q.status (after q t (joined qs)) ≢ Wrong → r.status (after r v zs) ≡ NoStack → (o : Option ℕ) → last_run zs ≡ o → Follows p r (j * k) s v zs
  follows_last qs b eb n e None l = follows_free qs b eb (λ i h g. absurd (differ (last_run zs) i l g))
    where
      differ : (a : Option ℕ) (i : ℕ) → a ≡ None → a ≡ Some i → ⊥
      differ a i x y = cc
  follows_last qs b eb n e (Some i) l = follows_case qs b eb e i l (eb.stack_justified e n i l)

  follows_dec : (qs : List (List Step)) → Matches q r k t v zs qs → Ends q r t v (joined qs) zs → Dec (q.status (after q t (joined qs)) ≡ Wrong) → Dec (r.status (after r v zs) ≡ NoStack) → Follows p r (j * k) s v zs
  follows_dec qs b eb (yes e) d = follows_wrong qs b e
  follows_dec qs b eb (no n) (yes e) = follows_last qs b eb n e (last_run zs) refl
  follows_dec qs b eb (no n) (no m) = follows_free qs b eb (λ i h l. m h)

  follows_trans : IsRun r v zs → Follows p r (j * k) s v zs
  follows_trans run =
      let f = qr.matches at fits zs run in
      follows_dec f.pieces f.matches f.ends (dec_wrong (q.status (after q t (joined f.pieces)))) (dec_no_stack (r.status (after r v zs)))

  -- to a Start: the pieces for what q does behind its own pieces are what p does behind
  abbrev Arrived : (qs : List (List Step)) (xs : List Step) (i : ℕ) → Type 0
  Arrived qs xs i = IsAtStart p r (after p s xs) (after r v zs) i

  caught : (ps : List (List Step)) → Matches p r (j * k) s v zs ps → (i : ℕ) → CatchesUp p r s v (joined ps) zs i → FollowsToStart p r (j * k) s v zs i
  caught ps a i c = record { pieces = ps; matches = a; catches_up = c }

  -- nothing more to do where p is wrong already
  caught_wrong : (ps : List (List Step)) → Matches p r (j * k) s v zs ps → (i : ℕ) → p.status (after p s (joined ps)) ≡ Wrong → FollowsToStart p r (j * k) s v zs i
  caught_wrong ps a i e =
      caught ps a i
      (record {
        more = [];
        is_run = subst (λ l. IsRun p s l) (sym (append-nil (joined ps))) a.is_run;
        quiet = ap (shown p s) (append-nil (joined ps));
        arrives = λ w. absurd (w e);
      })

  start_wrong : (qs : List (List Step)) → Matches q r k t v zs qs → (i : ℕ) → q.status (after q t (joined qs)) ≡ Wrong → FollowsToStart p r (j * k) s v zs i
  start_wrong qs b i e =
      let f = pq.matches at (qr.labels_proper at fits) (joined qs) b.is_run in
      let gone = subst (λ l. p.status (after p s l) ≢ Wrong → ⊥) (sym (exact_is qs f.pieces b f.matches)) (wrong_before qs f.pieces b f.matches e) in
      caught_wrong (grouped qs f.pieces) (exact qs f.pieces b f.matches) i (must_be (dec_wrong (p.status (after p s (joined (grouped qs f.pieces))))) gone)

  -- q goes on by further steps that show nothing
  module _ (qs : List (List Step)) (b : Matches q r k t v zs qs) (i : ℕ) (c : CatchesUp q r t v (joined qs) zs i) (ps : List (List Step)) (a : Matches p q j s t (joined qs ++ c.more) ps) where
    abbrev head : List Step
    head = joined (grouped qs ps)

    abbrev rest : List Step
    rest = joined (drop (length (joined qs)) ps)

    whole : Matches p r (j * k) s v zs (grouped qs ps)
    whole = matches_trans p q r j k s t v zs c.more qs ps b a

    head_rest : head ++ rest ≡ joined ps
    head_rest = ap (λ l. l ++ rest) (joined_grouped qs ps) ∙ joined_split (length (joined qs)) ps

    -- at the end of the pieces of q
    head_agrees : Agrees p q s t head (joined qs)
    head_agrees =
        let n = length (joined qs) in
        let le : n ≤ length (joined qs ++ c.more) = omega (arith, length-append (joined qs) c.more) in
        let a1 = a.agrees n le in
        let a2 = subst (λ l. Agrees p q s t (joined (take n ps)) l) (take-append_seam (joined qs) c.more) a1 in
        subst (λ l. Agrees p q s t l (joined qs)) (sym (joined_grouped qs ps)) a2

    -- what is shown in all, where p is wrong at the end and was not before
    quiet_wrong : p.status (after p s head) ≢ Wrong → p.status (after p s (joined ps)) ≡ Wrong → shown p s (head ++ rest) ≡ shown p s head
    quiet_wrong w e =
        let pre = (at_end p q j s t (joined qs ++ c.more) ps a).goes_wrong_inside e in
        let pre1 = subst (λ l. IsPrefixOf (shown p s (joined ps)) l) (c.quiet ∙ sym (head_agrees.same_events w)) pre in
        let pre2 = subst (λ l. IsPrefixOf (shown p s l) (shown p s head)) (sym head_rest) pre1 in
        let pre3 = subst (λ l. IsPrefixOf l (shown p s head)) (shown-append p s head rest) pre2 in
        shown-append p s head rest ∙ adds_nothing (shown p s head) (shown p (after p s head) rest) pre3

    start_becomes_wrong : p.status (after p s head) ≢ Wrong → p.status (after p s (joined ps)) ≡ Wrong → FollowsToStart p r (j * k) s v zs i
    start_becomes_wrong w e =
        caught (grouped qs ps) whole i
        (record {
          more = rest;
          is_run = subst (λ l. IsRun p s l) (sym head_rest) a.is_run;
          quiet = quiet_wrong w e;
          arrives = λ h. inl (subst (λ l. p.status (after p s l) ≡ Wrong) (sym head_rest) e);
        })

    -- q goes wrong there
    start_lost : q.status (after q t (joined qs ++ c.more)) ≡ Wrong → Dec (p.status (after p s head) ≡ Wrong) → FollowsToStart p r (j * k) s v zs i
    start_lost e (yes h) = caught_wrong (grouped qs ps) whole i h
    start_lost e (no w) =
        start_becomes_wrong w (must_be (dec_wrong (p.status (after p s (joined ps)))) (λ h. ((at_end p q j s t (joined qs ++ c.more) ps a).alike h).not_wrong e))

    -- q comes to the Start, and p to it behind that
    module _ (d : CatchesUp p q s t (joined ps) (joined qs ++ c.more) i) (run : q.status (after q t (joined qs ++ c.more)) ≡ Running) (qr_alike : Alike q r (after q t (joined qs ++ c.more)) (after r v zs)) where
      far_is : head ++ (rest ++ d.more) ≡ joined ps ++ d.more
      far_is = sym (append_assoc head rest d.more) ∙ ap (λ l. l ++ d.more) head_rest

      arrived : IsAtStart p q (after p s (joined ps ++ d.more)) (after q t (joined qs ++ c.more)) i → Arrived qs (joined ps ++ d.more) i
      arrived (inl x) = inl x
      arrived (inr x) = inr (x.0, x.1, alike_trans p q r (after p s (joined ps ++ d.more)) (after q t (joined qs ++ c.more)) (after r v zs) x.2 qr_alike)

      start_on : Dec (p.status (after p s head) ≡ Wrong) → Dec (p.status (after p s (joined ps)) ≡ Wrong) → FollowsToStart p r (j * k) s v zs i
      start_on (yes h) x = caught_wrong (grouped qs ps) whole i h
      start_on (no w) (yes e) = start_becomes_wrong w e
      start_on (no w) (no w2) =
          caught (grouped qs ps) whole i
          (record {
            more = rest ++ d.more;
            is_run = subst (λ l. IsRun p s l) (sym far_is) d.is_run;
            quiet = ap (shown p s) far_is ∙ d.quiet ∙ (at_end p q j s t (joined qs ++ c.more) ps a).same_events w2 ∙ c.quiet ∙ sym (head_agrees.same_events w);
            arrives = λ h. subst (λ l. Arrived qs l i) (sym far_is) (arrived (d.arrives w2));
          })

  start_arrives : (qs : List (List Step)) (b : Matches q r k t v zs qs) (i : ℕ) (c : CatchesUp q r t v (joined qs) zs i) → IsAtStart q r (after q t (joined qs ++ c.more)) (after r v zs) i → FollowsToStart p r (j * k) s v zs i
  start_arrives qs b i c (inl e) =
      let f = pq.matches at (qr.labels_proper at fits) (joined qs ++ c.more) c.is_run in
      start_lost qs b i c f.pieces f.matches e (dec_wrong _)
  start_arrives qs b i c (inr x) =
      let f = pq.start_ready at (qr.labels_proper at fits) (joined qs ++ c.more) c.is_run x.0 i x.1 in
      start_on qs b i c f.pieces f.matches f.catches_up x.0 x.2 (dec_wrong _) (dec_wrong _)

  start_dec : (i : ℕ) (f : FollowsToStart q r k t v zs i) → Dec (q.status (after q t (joined f.pieces)) ≡ Wrong) → FollowsToStart p r (j * k) s v zs i
  start_dec i f (yes e) = start_wrong f.pieces f.matches i e
  start_dec i f (no n) = start_arrives f.pieces f.matches i f.catches_up (f.catches_up.arrives n)

  start_trans : IsRun r v zs → r.status (after r v zs) ≡ Running → (i : ℕ) → r.starts (after r v zs) i ≡ true → FollowsToStart p r (j * k) s v zs i
  start_trans run e i st = let f = qr.start_ready at fits zs run e i st in start_dec i f (dec_wrong _)

pub refines_trans : (p q r : System) (j k : ℕ) → Refines p q j → Refines q r k → Refines p r (j * k)
refines_trans p q r j k pq qr =
    record {
      same_interface = interface_trans p q r pq.same_interface qr.same_interface;
      labels_proper = λ at h. pq.labels_proper at (qr.labels_proper at h);
      matches = λ at fits zs run. follows_trans p q r j k pq qr at fits zs run;
      start_ready = λ at fits zs run e i st. start_trans p q r j k pq qr at fits zs run e i st;
    }

-- the same, at a factor that is told by an equation
pub refines_by : (p q r : System) (j k n : ℕ) → Refines p q j → Refines q r k → j * k ≡ n → Refines p r n
refines_by p q r j k n pq qr e = subst (λ c. Refines p r c) e (refines_trans p q r j k pq qr)
