-- A tie gives refinement.
use Rattle.std.proofs.Common.{◌≡◌, ◌≢◌, ℕ, zero, suc, ◌+◌, ◌*◌, ◌<◌, ◌≤◌, List, [], ◌∷◌, ◌++◌, length, take, drop, refl, sym, ap, ◌∙◌, subst, arith, append_assoc, length-append, Some, None, ◌⊎◌, inl, inr, Bool, true, false}
use Rattle.std.specs.Prelude.{if◌then◌else◌}
use Rattle.std.proofs.lemmas.List.{append-nil}
use Rattle.std.proofs.Math.Nat.{mul-le-mul_left}
use Rattle.tso_core.specs.declared.Step.{Step}
use Rattle.tso_core.specs.declared.Step.TheVariants.{Run}
use Rattle.tso_core.specs.Systems.{System, Status, Running, Wrong, NoHeap, NoStack, Places, after, shown, IsRun, runs_of, is_run_of, last_run, next, events_of}
use Rattle.tso_core.specs.Matching.{IsPrefixOf, joined, Alike, Agrees, Matches}
use Rattle.tso_core.specs.Refinement.{IsStartZero, StackCase, AlreadyThere, AtStart, TooDeep, IsOverStack, Ends, IsAtStart, CatchesUp, Follows, FollowsToStart, Refines}
use Rattle.tso_core.specs.Ties.{Relation, LeadsOn, GoesWrong, IsMachineTie}
use Rattle.tso_core.proofs.Pieces.{runs_of-append}
use Rattle.tso_core.proofs.Runs.{after-append, shown-append, joins_run}

-- no pieces
abbrev blanks : ℕ → List (List Step)
blanks zero = []
blanks (suc n) = [] ∷ blanks n

joined-blanks : (n : ℕ) → joined (blanks n) ≡ []
joined-blanks zero = refl
joined-blanks (suc n) = joined-blanks n

joined-take-blanks : (n m : ℕ) → joined (take n (blanks m)) ≡ []
joined-take-blanks zero m = refl
joined-take-blanks (suc n) zero = refl
joined-take-blanks (suc n) (suc m) = joined-take-blanks n m

length-blanks : (n : ℕ) → length (blanks n) ≡ n
length-blanks zero = refl
length-blanks (suc n) = ap suc (length-blanks n)

prefix_more : {A : Type 0} (xs ys zs : List A) → IsPrefixOf xs ys → IsPrefixOf xs (ys ++ zs)
prefix_more xs ys zs h = (h.0 ++ zs, sym (append_assoc xs h.0 zs) ∙ ap (λ l. l ++ zs) h.1)

prefix_behind : {A : Type 0} (front xs ys : List A) → IsPrefixOf xs ys → IsPrefixOf (front ++ xs) (front ++ ys)
prefix_behind front xs ys h = (h.0, append_assoc front xs h.0 ∙ ap (λ l. front ++ l) h.1)

-- the last step of what stands behind others
pub last-append : (xs ys : List Step) (i : ℕ) → last_run ys ≡ Some i → last_run (xs ++ ys) ≡ Some i
last-append [] ys i h = h
last-append (x ∷ []) [] i h = absurd (none i h)
  where
    none : (n : ℕ) → None ≡ Some n → ⊥
    none n e = cc
last-append (x ∷ []) (y ∷ ys) i h = h
last-append (x ∷ z ∷ xs) ys i h = last-append (z ∷ xs) ys i h

-- the numbers below k pay for the runs that are answered without one
paid_before : (k a b f g c : ℕ) → f + b ≤ g → a + g + 1 ≤ k * (c + 1) → b + a + f + 1 ≤ k * (0 + c + 1)
paid_before k a b f g c h e = omega arith

paid_by : (k a b f d c : ℕ) → b ≤ 1 → f < k → a + 1 ≤ k * (c + 1) → 0 < d → b + a + f + 1 ≤ k * (d + c + 1)
paid_by k a b f d c h l e pos =
    let more : c + 1 + 1 ≤ d + c + 1 = omega arith in
    let all = mul-le-mul_left k more in
    omega (arith, all)

bit_most : (b : Bool) → (if b then 1 else 0) + 0 ≤ 1
bit_most true = omega arith
bit_most false = omega arith

joined_none : (ps : List (List Step)) → length ps ≡ 0 → joined ps ≡ []
joined_none [] e = refl
joined_none (p ∷ ps) e = absurd (omega arith)

none_heap : (a : Status) → a ≡ Running → a ≡ NoHeap → ⊥
none_heap a e f = cc

none_stack : (a : Status) → a ≡ Running → a ≡ NoStack → ⊥
none_stack a e f = cc

-- a list that ends in one step, cut in two
split_last : (xs ys front : List Step) (l : Step) → xs ++ ys ≡ front ++ l ∷ [] → 0 < length ys → (f : List Step) × (front ≡ xs ++ f) × (ys ≡ f ++ l ∷ [])
split_last [] ys front l e h = (front, refl, e)
split_last (x ∷ xs) ys [] l e h =
    let c : xs ++ ys ≡ [] = cc in
    let n = ap length c in
    absurd (omega (arith, n, length-append xs ys))
split_last (x ∷ xs) ys (y ∷ front) l e h =
    let c : xs ++ ys ≡ front ++ l ∷ [] = cc in
    let r = split_last xs ys front l c h in
    let d : y ∷ front ≡ x ∷ (xs ++ r.0) = cc in
    (r.0, d, r.2)

last_of_some : (zs : List Step) (i : ℕ) → last_run zs ≡ Some i → 0 < length zs
last_of_some [] i e = absurd (none i e)
  where
    none : (n : ℕ) → None ≡ Some n → ⊥
    none n f = cc
last_of_some (x ∷ zs) i e = omega arith

-- a Start at the end, seen from further back and from further on
start_back : (p : System) (s : p.State) (piece rest : List Step) (i : ℕ) → last_run rest ≡ Some i → IsStartZero p s (piece ++ rest) i → IsStartZero p (after p s piece) rest i
start_back p s piece rest i l z =
    let c = split_last piece rest z.front (Run i (Some 0)) z.last_is (last_of_some rest i l) in
    record { front = c.0; last_is = c.2; starts = ap (λ u. p.starts u i) (sym (after-append p s piece c.0)) ∙ ap (λ l. p.starts (after p s l) i) (sym c.1) ∙ z.starts }

start_on : (q : System) (t : q.State) (x : Step) (rest : List Step) (i : ℕ) → IsStartZero q (next q t x) rest i → IsStartZero q t (x ∷ rest) i
start_on q t x rest i z = record { front = x ∷ z.front; last_is = ap (λ l. x ∷ l) z.last_is; starts = z.starts }

-- one step with its piece before others
module _ (p q : System) (s : p.State) (t : q.State) (x : Step) (piece : List Step) where
  agrees_cons : (xs ys : List Step) → shown p s piece ≡ events_of (q.step t x) → Agrees p q (after p s piece) (next q t x) xs ys → Agrees p q s t (piece ++ xs) (x ∷ ys)
  agrees_cons xs ys e a =
      let is = sym (after-append p s piece xs) in
      let rest = shown-append p s piece xs ∙ ap (λ l. l ++ shown p (after p s piece) xs) e in
      record {
        alike = subst (λ u. p.status u ≢ Wrong → Alike p q u (after q (next q t x) ys)) is a.alike;
        same_events = λ w. rest ∙ ap (λ l. events_of (q.step t x) ++ l) (a.same_events (subst (λ u. p.status u ≢ Wrong) (sym is) w));
        goes_wrong_inside = λ w. subst (λ l. IsPrefixOf l (shown q t (x ∷ ys))) (sym rest) (prefix_behind (events_of (q.step t x)) (shown p (after p s piece) xs) (shown q (next q t x) ys) (a.goes_wrong_inside (subst (λ u. p.status u ≡ Wrong) (sym is) w)));
      }

  case_cons : (xs : List Step) (y : Step) (ys : List Step) (i : ℕ) → StackCase p q (after p s piece) (next q t x) xs (y ∷ ys) i → StackCase p q s t (piece ++ xs) (x ∷ y ∷ ys) i
  case_cons xs y ys i (AlreadyThere np lp zp) =
      AlreadyThere (subst (λ u. p.status u ≡ NoStack) (sym (after-append p s piece xs)) np) (last-append piece xs i lp) (λ z. start_on q t x (y ∷ ys) i (zp (start_back p s piece xs i lp z)))
  case_cons xs y ys i (AtStart z run st) =
      AtStart (start_on q t x (y ∷ ys) i z) (subst (λ u. p.status u ≡ Running) (sym (after-append p s piece xs)) run) (subst (λ u. p.starts u i ≡ true) (sym (after-append p s piece xs)) st)
  case_cons xs y ys i (TooDeep d) = TooDeep (subst (λ u. IsOverStack p u i) (sym (after-append p s piece xs)) d)

  ends_cons : (xs : List Step) (y : Step) (ys : List Step) → Ends p q (after p s piece) (next q t x) xs (y ∷ ys) → Ends p q s t (piece ++ xs) (x ∷ y ∷ ys)
  ends_cons xs y ys e =
      let is = after-append p s piece xs in
      record {
        same_request = λ n w. let a = e.same_request n (subst (λ u. p.status u ≢ Wrong) is w) in record { thread = a.thread; size = a.size; last_of_q = a.last_of_q; last_of_p = last-append piece xs a.thread a.last_of_p; asked_by_q = a.asked_by_q; asked_by_p = ap (λ u. p.asks u a.thread) is ∙ a.asked_by_p };
        stack_justified = λ n w i l. case_cons xs y ys i (e.stack_justified n (subst (λ u. p.status u ≢ Wrong) is w) i l);
      }

module _ (p q : System) (R : Relation p q) (k : ℕ) (tie : IsMachineTie p q R k) where
  -- what the induction gives: the pieces, with what the numbers pay for, and where they lead
  record Told (s : p.State) (t : q.State) (f : ℕ → ℕ) (steps : List Step) : Type 0 where
    pieces : List (List Step)
    matches : Matches p q k s t steps pieces
    paid : (i n : ℕ) → n ≤ length steps → p.status (after p s (joined (take n pieces))) ≢ Wrong → runs_of i (take n steps) + f i + 1 ≤ k * (runs_of i (joined (take n pieces)) + 1)
    ends : 0 < length steps → Ends p q s t (joined pieces) steps
    last : (p.status (after p s (joined pieces)) ≡ Wrong) ⊎ ((g : ℕ → ℕ) × R (after p s (joined pieces)) (after q t steps) g)

  positive : (s : p.State) (t : q.State) (f : ℕ → ℕ) → R s t f → 0 < k
  positive s t f h = omega (arith, tie.below_bound s t f h 0)

  start_agrees : (s : p.State) (t : q.State) (f : ℕ → ℕ) → R s t f → Agrees p q s t [] []
  start_agrees s t f h = record { alike = λ w. tie.alike s t f h; same_events = λ w. refl; goes_wrong_inside = λ w. ([], refl) }

  none_agrees : (s : p.State) (t : q.State) (f : ℕ → ℕ) → R s t f → (n : ℕ) → Agrees p q s t (joined (take n [])) (take n [])
  none_agrees s t f h zero = start_agrees s t f h
  none_agrees s t f h (suc n) = start_agrees s t f h

  none_paces : 0 < k → (i m n : ℕ) → runs_of i (take n (drop m [])) + 1 ≤ k * (runs_of i (joined (take n (drop m []))) + 1)
  none_paces h i zero zero = omega arith
  none_paces h i zero (suc n) = omega arith
  none_paces h i (suc m) zero = omega arith
  none_paces h i (suc m) (suc n) = omega arith

  none_paid : (c : ℕ) → c < k → (i n : ℕ) → runs_of i (take n []) + c + 1 ≤ k * (runs_of i (joined (take n [])) + 1)
  none_paid c h i zero = omega arith
  none_paid c h i (suc n) = omega arith

  told_none : (s : p.State) (t : q.State) (f : ℕ → ℕ) → R s t f → Told s t f []
  told_none s t f h =
      record {
        pieces = [];
        matches = record { as_many = refl; is_run = tt; agrees = λ n le. none_agrees s t f h n; within_pace = λ i m n le w. none_paces (positive s t f h) i m n };
        paid = λ i n le w. none_paid (f i) (tie.below_bound s t f h i) i n;
        ends = λ pos. absurd (omega arith);
        last = inr (f, h);
      }

  -- one step with its piece before the rest
  module _ (s : p.State) (t : q.State) (f : ℕ → ℕ) (h : R s t f) (x : Step) (xs : List Step) (piece : List Step) (on : IsRun p s piece) where
    -- the piece ends in Wrong
    module _ (w : GoesWrong p q s t x piece) where
      abbrev wrong_pieces : List (List Step)
      wrong_pieces = piece ∷ blanks (length xs)

      wrong_first : (n : ℕ) → joined (take (suc n) wrong_pieces) ≡ piece
      wrong_first n = ap (λ l. piece ++ l) (joined-take-blanks n (length xs)) ∙ append-nil piece

      wrong_all : joined wrong_pieces ≡ piece
      wrong_all = ap (λ l. piece ++ l) (joined-blanks (length xs)) ∙ append-nil piece

      wrong_agrees : (n : ℕ) → Agrees p q s t (joined (take n wrong_pieces)) (take n (x ∷ xs))
      wrong_agrees zero = start_agrees s t f h
      wrong_agrees (suc n) =
          let a : Agrees p q s t piece (x ∷ take n xs) = record { alike = λ g. absurd (g w.wrong); same_events = λ g. absurd (g w.wrong); goes_wrong_inside = λ e. prefix_more (shown p s piece) (events_of (q.step t x)) (shown q (next q t x) (take n xs)) w.goes_wrong_inside } in
          subst (λ l. Agrees p q s t l (x ∷ take n xs)) (sym (wrong_first n)) a

      -- nothing is asked from there on
      no_more : {A : Type 0} (n : ℕ) → p.status (after p s (joined (take (suc n) wrong_pieces))) ≢ Wrong → A
      no_more n g = absurd (g (subst (λ l. p.status (after p s l) ≡ Wrong) (sym (wrong_first n)) w.wrong))

      wrong_pace : (i m n : ℕ) → p.status (after p s (joined (take (m + n) wrong_pieces))) ≢ Wrong → runs_of i (take n (drop m (x ∷ xs))) + 1 ≤ k * (runs_of i (joined (take n (drop m wrong_pieces))) + 1)
      wrong_pace i zero zero g = let pos = positive s t f h in omega arith
      wrong_pace i zero (suc n) g =
          let e : 0 + suc n ≡ suc n = omega arith in
          no_more n (subst (λ c. p.status (after p s (joined (take c wrong_pieces))) ≢ Wrong) e g)
      wrong_pace i (suc m) n g =
          let e : suc m + n ≡ suc (m + n) = omega arith in
          no_more (m + n) (subst (λ c. p.status (after p s (joined (take c wrong_pieces))) ≢ Wrong) e g)

      wrong_paid : (i n : ℕ) → p.status (after p s (joined (take n wrong_pieces))) ≢ Wrong → runs_of i (take n (x ∷ xs)) + f i + 1 ≤ k * (runs_of i (joined (take n wrong_pieces)) + 1)
      wrong_paid i zero g = let le = tie.below_bound s t f h i in omega arith
      wrong_paid i (suc n) g = no_more n g

      wrong_end : p.status (after p s (joined wrong_pieces)) ≡ Wrong
      wrong_end = subst (λ l. p.status (after p s l) ≡ Wrong) (sym wrong_all) w.wrong

      told_wrong : Told s t f (x ∷ xs)
      told_wrong =
          record {
            pieces = wrong_pieces;
            matches = record { as_many = many; is_run = subst (λ l. IsRun p s l) (sym wrong_all) on; agrees = λ n le. wrong_agrees n; within_pace = λ i m n le g. wrong_pace i m n g };
            paid = λ i n le g. wrong_paid i n g;
            ends = λ pos. record { same_request = λ e g. absurd (g wrong_end); stack_justified = λ e g i l. absurd (g wrong_end) };
            last = inl wrong_end;
          }
        where
          many : length wrong_pieces ≡ length (x ∷ xs)
          many = ap suc (length-blanks (length xs))

    -- the piece leads on
    module _ (l : LeadsOn p q R s t f x piece) (rest : Told (after p s piece) (next q t x) l.numbers xs) where
      abbrev on_pieces : List (List Step)
      on_pieces = piece ∷ rest.pieces

      on_agrees : (n : ℕ) → n ≤ length (x ∷ xs) → Agrees p q s t (joined (take n on_pieces)) (take n (x ∷ xs))
      on_agrees zero le = start_agrees s t f h
      on_agrees (suc n) le = let le1 : n ≤ length xs = omega arith in agrees_cons p q s t x piece (joined (take n rest.pieces)) (take n xs) l.same_events (rest.matches.agrees n le1)

      right_on : (n : ℕ) → p.status (after p s (piece ++ joined (take n rest.pieces))) ≢ Wrong → p.status (after p (after p s piece) (joined (take n rest.pieces))) ≢ Wrong
      right_on n w = subst (λ u. p.status u ≢ Wrong) (after-append p s piece (joined (take n rest.pieces))) w

      one_run : (i : ℕ) → runs_of i (x ∷ []) ≤ 1
      one_run i = bit_most (is_run_of i x)

      paid_dec : (i n d : ℕ) → runs_of i piece ≡ d → runs_of i (take n xs) + l.numbers i + 1 ≤ k * (runs_of i (joined (take n rest.pieces)) + 1) → runs_of i (x ∷ []) + runs_of i (take n xs) + f i + 1 ≤ k * (d + runs_of i (joined (take n rest.pieces)) + 1)
      paid_dec i n zero e g = paid_before k _ _ _ _ _ (l.counted i e) g
      paid_dec i n (suc d) e g =
          let less : runs_of i (take n xs) + 1 ≤ k * (runs_of i (joined (take n rest.pieces)) + 1) = omega arith in
          let pos : 0 < suc d = omega arith in
          paid_by k _ _ _ _ _ (one_run i) (tie.below_bound s t f h i) less pos

      on_paid : (i n : ℕ) → n ≤ length (x ∷ xs) → p.status (after p s (joined (take n on_pieces))) ≢ Wrong → runs_of i (take n (x ∷ xs)) + f i + 1 ≤ k * (runs_of i (joined (take n on_pieces)) + 1)
      on_paid i zero le w = let b = tie.below_bound s t f h i in omega arith
      on_paid i (suc n) le w =
          let le1 : n ≤ length xs = omega arith in
          let g = paid_dec i n (runs_of i piece) refl (rest.paid i n le1 (right_on n w)) in
          let g2 = subst (λ c. runs_of i (x ∷ []) + runs_of i (take n xs) + f i + 1 ≤ k * (c + 1)) (sym (runs_of-append i piece (joined (take n rest.pieces)))) g in
          omega arith

      on_pace : (i m n : ℕ) → m + n ≤ length (x ∷ xs) → p.status (after p s (joined (take (m + n) on_pieces))) ≢ Wrong → runs_of i (take n (drop m (x ∷ xs))) + 1 ≤ k * (runs_of i (joined (take n (drop m on_pieces))) + 1)
      on_pace i zero n le w =
          let e : 0 + n ≡ n = omega arith in
          let le1 : n ≤ length (x ∷ xs) = omega arith in
          let g = on_paid i n le1 (subst (λ c. p.status (after p s (joined (take c on_pieces))) ≢ Wrong) e w) in
          omega arith
      on_pace i (suc m) n le w =
          let e : suc m + n ≡ suc (m + n) = omega arith in
          let le1 : m + n ≤ length xs = omega arith in
          rest.matches.within_pace i m n le1 (right_on (m + n) (subst (λ c. p.status (after p s (joined (take c on_pieces))) ≢ Wrong) e w))

      on_last : (p.status (after p (after p s piece) (joined rest.pieces)) ≡ Wrong) ⊎ ((g : ℕ → ℕ) × R (after p (after p s piece) (joined rest.pieces)) (after q (next q t x) xs) g) → (p.status (after p s (joined on_pieces)) ≡ Wrong) ⊎ ((g : ℕ → ℕ) × R (after p s (joined on_pieces)) (after q t (x ∷ xs)) g)
      on_last (inl e) = inl (subst (λ u. p.status u ≡ Wrong) (sym (after-append p s piece (joined rest.pieces))) e)
      on_last (inr g) = inr (g.0, subst (λ u. R u (after q (next q t x) xs) g.0) (sym (after-append p s piece (joined rest.pieces))) g.1)

      told_on : Ends p q s t (joined on_pieces) (x ∷ xs) → Told s t f (x ∷ xs)
      told_on e =
          record {
            pieces = on_pieces;
            matches = record { as_many = ap suc rest.matches.as_many; is_run = joins_run p s piece (joined rest.pieces) on rest.matches.is_run; agrees = on_agrees; within_pace = on_pace };
            paid = on_paid;
            ends = λ pos. e;
            last = on_last rest.last;
          }

  -- the ends after the last step are those of that step
  ends_on : (s : p.State) (t : q.State) (f : ℕ → ℕ) (x : Step) (xs : List Step) (piece : List Step) (l : LeadsOn p q R s t f x piece) (rest : Told (after p s piece) (next q t x) l.numbers xs) → Ends p q s t (piece ++ joined rest.pieces) (x ∷ xs)
  ends_on s t f x [] piece l rest = subst (λ c. Ends p q s t c (x ∷ [])) (sym (ap (λ c. piece ++ c) (joined_none rest.pieces rest.matches.as_many) ∙ append-nil piece)) l.ends
  ends_on s t f x (y ∷ ys) piece l rest = let pos : 0 < length (y ∷ ys) = omega arith in ends_cons p q s t x piece (joined rest.pieces) y ys (rest.ends pos)

  tell_step : (s : p.State) (t : q.State) (f : ℕ → ℕ) → R s t f → (x : Step) (xs : List Step) (piece : List Step) → IsRun p s piece → LeadsOn p q R s t f x piece ⊎ GoesWrong p q s t x piece → ((l : LeadsOn p q R s t f x piece) → Told (after p s piece) (next q t x) l.numbers xs) → Told s t f (x ∷ xs)
  tell_step s t f h x xs piece on (inl l) rec = told_on s t f h x xs piece on l (rec l) (ends_on s t f x xs piece l (rec l))
  tell_step s t f h x xs piece on (inr w) rec = told_wrong s t f h x xs piece on w

  tell : (s : p.State) (t : q.State) (f : ℕ → ℕ) → R s t f → (steps : List Step) → IsRun q t steps → Told s t f steps
  tell s t f h [] run = told_none s t f h
  tell s t f h (x ∷ xs) run =
      let a = tie.answers s t f h x run.0 in
      tell_step s t f h x xs a.piece a.is_run a.leads (λ l. tell (after p s a.piece) (next q t x) l.numbers l.related xs run.1)

  -- an opening that runs has come to no end
  ends_from : (s : p.State) (t : q.State) (f : ℕ → ℕ) (steps : List Step) → q.status t ≡ Running → (d : Told s t f steps) → Ends p q s t (joined d.pieces) steps
  ends_from s t f [] run d = record { same_request = λ e w. absurd (none_heap (q.status t) run e); stack_justified = λ e w i l. absurd (none_stack (q.status t) run e) }
  ends_from s t f (x ∷ xs) run d = let pos : 0 < length (x ∷ xs) = omega arith in d.ends pos

  start_from : (s : p.State) (t : q.State) (f : ℕ → ℕ) (steps : List Step) (d : Told s t f steps) (i : ℕ) → q.status (after q t steps) ≡ Running → q.starts (after q t steps) i ≡ true → (p.status (after p s (joined d.pieces)) ≡ Wrong) ⊎ ((g : ℕ → ℕ) × R (after p s (joined d.pieces)) (after q t steps) g) → CatchesUp p q s t (joined d.pieces) steps i
  start_from s t f steps d i run st (inl e) =
      record {
        more = [];
        is_run = subst (λ l. IsRun p s l) (sym (append-nil (joined d.pieces))) d.matches.is_run;
        quiet = ap (shown p s) (append-nil (joined d.pieces));
        arrives = λ w. absurd (w e);
      }
  start_from s t f steps d i run st (inr g) =
      let xs = joined d.pieces in
      let c = tie.start_ready (after p s xs) (after q t steps) g.0 g.1 run i st in
      record {
        more = c.more;
        is_run = joins_run p s xs c.more d.matches.is_run c.is_run;
        quiet = shown-append p s xs c.more ∙ ap (λ l. shown p s xs ++ l) c.quiet ∙ append-nil (shown p s xs);
        arrives = λ w. subst (λ u. IsAtStart p q u (after q t steps) i) (sym (after-append p s xs c.more)) c.arrives;
      }

  tied_follows : (at : Places) → q.IsProper at → (steps : List Step) → IsRun q (q.opening at) steps → Follows p q k (p.opening at) (q.opening at) steps
  tied_follows at fits steps run =
      let o = tie.opens_related at fits in
      let d = tell (p.opening at) (q.opening at) o.0 o.1 steps run in
      record { pieces = d.pieces; matches = d.matches; ends = ends_from (p.opening at) (q.opening at) o.0 steps (tie.opens_running at) d }

  tied_to_start : (at : Places) → q.IsProper at → (steps : List Step) → IsRun q (q.opening at) steps → q.status (after q (q.opening at) steps) ≡ Running → (i : ℕ) → q.starts (after q (q.opening at) steps) i ≡ true → FollowsToStart p q k (p.opening at) (q.opening at) steps i
  tied_to_start at fits steps run e i st =
      let o = tie.opens_related at fits in
      let d = tell (p.opening at) (q.opening at) o.0 o.1 steps run in
      record { pieces = d.pieces; matches = d.matches; catches_up = start_from (p.opening at) (q.opening at) o.0 steps d i e st d.last }

pub tie_refines : (p q : System) (R : Relation p q) (k : ℕ) → IsMachineTie p q R k → Refines p q k
tie_refines p q R k tie =
    record {
      same_interface = tie.same_interface;
      labels_proper = tie.labels_proper;
      matches = tied_follows p q R k tie;
      start_ready = tied_to_start p q R k tie;
    }
