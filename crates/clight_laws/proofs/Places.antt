-- Where the parameters and locals of a function are: those in memory are numbered among themselves, and so are the others.
use Rattle.std.proofs.Common.{◌≡◌, ℕ, zero, suc, ◌+◌, ◌<◌, ◌≤◌, Bool, true, false, cond, not, true≢false, List, [], ◌∷◌, ◌++◌, map, length, Some, refl, sym, ap, ◌∙◌, subst, inl, inr, arith}
use Rattle.std.specs.Prelude.{◌⊎◌, count_by, sum_by, slice_get, unwrap_or}
use Rattle.std.proofs.lemmas.List.{append_assoc, map-append}
use Rattle.std.proofs.lemmas.List.Sums.{sum_by-cons, sum_by-append}
use Rattle.clight_lang.specs.declared.function.Local.{Local}
use Rattle.clight_lang.specs.declared.function.Taken.{Taken}
use Rattle.clight_lang.specs.declared.function.Kept.{Kept}
use Rattle.clight_lang.specs.Placed.{IsAlignment}
use Rattle.clight_types.specs.declared.kind.Value.{Value}
use Rattle.clight_types.specs.Types.{Types, size_at, align_at, is_complete, value_at}
use Rattle.clight_types.specs.WordOperators.{value_chunk}
use Rattle.clight_files.specs.Files.{FunctionMade}
use Rattle.clight_placing.specs.Placing.{Location, InTemp, InMemory, Inner}
use Rattle.clight_meaning.specs.Meaning.{below, is_in_memory, memory_locals, taken_at, kept_at, taken_from, kept_from}
use Rattle.clight_laws.proofs.TypeTables.{AreTypes, complete_sized}
use Rattle.clight_laws.proofs.Scenes.{AreComplete, length_push}
use Rattle.clight_laws.proofs.Lists.{Each, each_append, each_more, Pairs, pairs_append, Has, has_left, has_right, total, sum_total, total_map, append_none}

-- ## How many of the numbers below a bound pass a test

count_push : (p : ℕ → Bool) (xs : List ℕ) (n : ℕ) → count_by p (xs ++ n ∷ []) ≡ count_by p xs + cond (p n) 1 0
count_push p xs n = sum_by-append (λ x. cond (p x) 1 0) xs (n ∷ []) ∙ ap (λ k. count_by p xs + k) (sum_by-cons (λ x. cond (p x) 1 0) n [] ∙ plain (cond (p n) 1 0))
  where
    plain : (k : ℕ) → k + 0 ≡ k
    plain k = omega arith

count_next : (p : ℕ → Bool) (n : ℕ) → count_by p (below (suc n)) ≡ count_by p (below n) + cond (p n) 1 0
count_next p n = count_push p (below n) n

-- each number passes or not
pub count_both : (p : ℕ → Bool) (n : ℕ) → count_by p (below n) + count_by (λ m. not (p m)) (below n) ≡ n
count_both p zero = refl
count_both p (suc n) =
    let a : count_by p (below (suc n)) ≡ count_by p (below n) + cond (p n) 1 0 = count_next p n in
    let b : count_by (λ m. not (p m)) (below (suc n)) ≡ count_by (λ m. not (p m)) (below n) + cond (not (p n)) 1 0 = count_next (λ m. not (p m)) n in
    let c : count_by p (below n) + count_by (λ m. not (p m)) (below n) ≡ n = count_both p n in
    let d : cond (p n) 1 0 + cond (not (p n)) 1 0 ≡ 1 = one (p n) in
    omega arith
  where
    one : (b : Bool) → cond b 1 0 + cond (not b) 1 0 ≡ 1
    one true = refl
    one false = refl

-- a number below another is below it or the one before
last_or_less : (n m : ℕ) → n < suc m → (n < m) ⊎ (n ≡ m)
last_or_less zero zero l = inr refl
last_or_less zero (suc m) l = inl (omega arith)
last_or_less (suc n) zero l = absurd (omega arith)
last_or_less (suc n) (suc m) l = up (last_or_less n m (omega arith))
  where
    up : (n < m) ⊎ (n ≡ m) → (suc n < suc m) ⊎ (suc n ≡ suc m)
    up (inl h) = inl (omega arith)
    up (inr e) = inr (ap suc e)

passes : (b : Bool) → b ≡ true → 1 ≤ cond b 1 0
passes true e = omega arith
passes false e = absurd (true≢false (sym e))

-- the count of a number that passes is below that of each later bound
pub count_below : (p : ℕ → Bool) (n m : ℕ) → n < m → p n ≡ true → count_by p (below n) < count_by p (below m)
count_below p n zero l e = absurd (omega arith)
count_below p n (suc m) l e = by (λ h. count_below p n m h e) (last_or_less n m l)
  where
    next : count_by p (below (suc m)) ≡ count_by p (below m) + cond (p m) 1 0
    next = count_next p m

    by : (n < m → count_by p (below n) < count_by p (below m)) → (n < m) ⊎ (n ≡ m) → count_by p (below n) < count_by p (below (suc m))
    by rest (inl h) = (let a : count_by p (below n) < count_by p (below m) = rest h in let b : count_by p (below (suc m)) ≡ count_by p (below m) + cond (p m) 1 0 = next in omega arith)
    by rest (inr q) =
        let a : count_by p (below n) ≡ count_by p (below m) = ap (λ k. count_by p (below k)) q in
        let c : 1 ≤ cond (p m) 1 0 = passes (p m) (ap p (sym q) ∙ e) in
        let b : count_by p (below (suc m)) ≡ count_by p (below m) + cond (p m) 1 0 = next in
        omega arith

-- nor does a later bound have fewer
pub count_grows : (p : ℕ → Bool) (n m : ℕ) → n ≤ m → count_by p (below n) ≤ count_by p (below m)
count_grows p zero zero l = omega arith
count_grows p (suc n) zero l = absurd (omega arith)
count_grows p n (suc m) l = by (λ h. count_grows p n m h) (last_or_less n (suc m) (omega arith))
  where
    next : count_by p (below (suc m)) ≡ count_by p (below m) + cond (p m) 1 0
    next = count_next p m

    by : (n ≤ m → count_by p (below n) ≤ count_by p (below m)) → (n < suc m) ⊎ (n ≡ suc m) → count_by p (below n) ≤ count_by p (below (suc m))
    by rest (inl h) = (let a : count_by p (below n) ≤ count_by p (below m) = rest (omega arith) in let b : count_by p (below (suc m)) ≡ count_by p (below m) + cond (p m) 1 0 = next in omega arith)
    by rest (inr e) = (let a : count_by p (below n) ≡ count_by p (below (suc m)) = ap (λ k. count_by p (below k)) e in omega arith)

-- where a number is, by the test for memory
abbrev pub place : (ℕ → Bool) → ℕ → Location
place p n = cond (p n) (InMemory (count_by p (below n))) (InTemp (count_by (λ m. not (p m)) (below n)))

less_more : (n k : ℕ) → k < n → k < suc n
less_more n k l = omega arith

less_last : (n : ℕ) → n < suc n
less_last n = omega arith

none_right : (n : ℕ) → n + 0 ≡ n
none_right n = omega arith

-- ## Parameters

module _ (w : Inner) (p : ℕ → Bool) (located : (n : ℕ) → w.location n ≡ place p n) where
  abbrev pub temps_below : ℕ → ℕ
  temps_below n = count_by (λ m. not (p m)) (below n)

  abbrev pub kept_below : ℕ → ℕ
  kept_below n = count_by p (below n)

  -- a parameter that is a temporary
  pub record IsTaken (n : ℕ) (t : Taken) : Type 0 where
    pub before : t.argument < n
    pub place : p t.argument ≡ false
    pub temp : t.temp ≡ temps_below t.argument

  taken_push : (ns : List ℕ) (n : ℕ) → taken_from w (ns ++ n ∷ []) ≡ taken_from w ns ++ taken_at n (place p n)
  taken_push [] n = append_none (taken_at n (w.location n)) ∙ ap (taken_at n) (located n)
  taken_push (m ∷ ns) n = ap (λ l. taken_at m (w.location m) ++ l) (taken_push ns n) ∙ sym (append_assoc (taken_at m (w.location m)) (taken_from w ns) (taken_at n (place p n)))

  pub record AreTaken (n : ℕ) (ts : List Taken) : Type 0 where
    pub each : Each (IsTaken n) ts
    pub order : Pairs (λ s t. s.argument < t.argument) ts
    pub many : length ts ≡ temps_below n
    pub all : (k : ℕ) → k < n → p k ≡ false → Has k (map (λ t. t.argument) ts)

  taken_more : (n : ℕ) (ts : List Taken) → AreTaken n ts → Each (IsTaken (suc n)) ts
  taken_more n ts h = each_more (IsTaken n) (IsTaken (suc n)) (λ t g. record { before = less_more n t.argument g.before; place = g.place; temp = g.temp }) ts h.each

  taken_next : (n : ℕ) (ts : List Taken) → AreTaken n ts → (b : Bool) → p n ≡ b → AreTaken (suc n) (ts ++ taken_at n (cond b (InMemory (kept_below n)) (InTemp (temps_below n))))
  taken_next n ts h true e =
      record {
        each = each_append (IsTaken (suc n)) ts [] (taken_more n ts h) tt;
        order = pairs_append (λ (s t : Taken). s.argument < t.argument) ts [] h.order tt (each_more (IsTaken n) (λ s. Unit {0}) (λ t g. tt) ts h.each);
        many = ap length (append_none ts) ∙ h.many ∙ sym (count_next (λ m. not (p m)) n ∙ ap (λ b. temps_below n + cond (not b) 1 0) e ∙ none_right (temps_below n));
        all = λ k l q. subst (λ x. Has k (map (λ (t : Taken). t.argument) x)) (sym (append_none ts)) (by k q (last_or_less k n l));
      }
    where
      by : (k : ℕ) → p k ≡ false → (k < n) ⊎ (k ≡ n) → Has k (map (λ t. t.argument) ts)
      by k q (inl l) = h.all k l q
      by k q (inr c) = absurd (true≢false (sym (ap p c ∙ e) ∙ q))
  taken_next n ts h false e =
      record {
        each = each_append (IsTaken (suc n)) ts _ (taken_more n ts h) (record { before = less_last n; place = e; temp = refl }, tt);
        order = pairs_append (λ (s t : Taken). s.argument < t.argument) ts _ h.order (tt, tt) (each_more (IsTaken n) (λ (s : Taken). (s.argument < n) × Unit {0}) (λ t g. (g.before, tt)) ts h.each);
        many = length_push ts (record { argument = n; temp = temps_below n }) ∙ ap (λ k. k + 1) h.many ∙ sym (count_next (λ m. not (p m)) n ∙ ap (λ b. temps_below n + cond (not b) 1 0) e);
        all = λ k l q. subst (Has k) (sym (map-append (λ (t : Taken). t.argument) ts _)) (by k q (last_or_less k n l));
      }
    where
      by : (k : ℕ) → p k ≡ false → (k < n) ⊎ (k ≡ n) → Has k (map (λ t. t.argument) ts ++ n ∷ [])
      by k q (inl l) = has_left k (map (λ t. t.argument) ts) (n ∷ []) (h.all k l q)
      by k q (inr c) = has_right k (map (λ t. t.argument) ts) (n ∷ []) (inl (sym c))

  pub taken_good : (n : ℕ) → AreTaken n (taken_from w (below n))
  taken_good zero = record { each = tt; order = tt; many = refl; all = λ k l q. absurd (omega arith) }
  taken_good (suc n) = subst (AreTaken (suc n)) (sym (taken_push (below n) n)) (taken_next n (taken_from w (below n)) (taken_good n) (p n) refl)

  pub taken_temps : (n m : ℕ) → n ≤ m → (t : Taken) → IsTaken n t → t.temp < temps_below m
  taken_temps n m l t h =
      let b : t.argument < n = h.before in
      let c : temps_below t.argument < temps_below m = count_below (λ k. not (p k)) t.argument m (omega arith) (ap not h.place) in
      let e : t.temp ≡ temps_below t.argument = h.temp in
      omega arith

  pub taken_apart : (n : ℕ) (s t : Taken) → IsTaken n s → IsTaken n t → s.argument < t.argument → s.temp ≡ t.temp → ⊥
  taken_apart n s t g h l e =
      let c : temps_below s.argument < temps_below t.argument = count_below (λ k. not (p k)) s.argument t.argument l (ap not g.place) in
      let a : s.temp ≡ temps_below s.argument = g.temp in
      let b : t.temp ≡ temps_below t.argument = h.temp in
      let q : s.temp ≡ t.temp = e in
      absurd (omega arith)

  -- a parameter in memory
  pub record IsKept (n : ℕ) (k : Kept) : Type 0 where
    pub before : k.argument < n
    pub place : p k.argument ≡ true

  module _ (f : FunctionMade) where
    abbrev value_of : ℕ → Value
    value_of n = value_at w.types (unwrap_or (slice_get f.locals n) 0)

    kept_push : (ns : List ℕ) (n : ℕ) → kept_from w f (ns ++ n ∷ []) ≡ kept_from w f ns ++ kept_at (value_of n) n (place p n)
    kept_push [] n = append_none (kept_at (value_of n) n (w.location n)) ∙ ap (kept_at (value_of n) n) (located n)
    kept_push (m ∷ ns) n = ap (λ l. kept_at (value_of m) m (w.location m) ++ l) (kept_push ns n) ∙ sym (append_assoc (kept_at (value_of m) m (w.location m)) (kept_from w f ns) (kept_at (value_of n) n (place p n)))

    pub record AreKept (n : ℕ) (ts : List Kept) : Type 0 where
      pub each : Each (IsKept n) ts
      pub order : Pairs (λ s t. s.argument < t.argument) ts
      pub many : length ts ≡ kept_below n
      pub all : (k : ℕ) → k < n → p k ≡ true → Has k (map (λ t. t.argument) ts)
      pub locals : (i : ℕ) (k : Kept) → slice_get ts i ≡ Some k → (k.local ≡ i) × (i < kept_below n)

    kept_more : (n : ℕ) (ts : List Kept) → AreKept n ts → Each (IsKept (suc n)) ts
    kept_more n ts h = each_more (IsKept n) (IsKept (suc n)) (λ t g. record { before = less_more n t.argument g.before; place = g.place }) ts h.each

    kept_next : (n : ℕ) (ts : List Kept) → AreKept n ts → (b : Bool) → p n ≡ b → AreKept (suc n) (ts ++ kept_at (value_of n) n (cond b (InMemory (kept_below n)) (InTemp (temps_below n))))
    kept_next n ts h false e =
        let c : kept_below (suc n) ≡ kept_below n = count_next p n ∙ ap (λ b. kept_below n + cond b 1 0) e ∙ none_right (kept_below n) in
        record {
          each = each_append (IsKept (suc n)) ts [] (kept_more n ts h) tt;
          order = pairs_append (λ (s t : Kept). s.argument < t.argument) ts [] h.order tt (each_more (IsKept n) (λ s. Unit {0}) (λ t g. tt) ts h.each);
          many = ap length (append_none ts) ∙ h.many ∙ sym c;
          all = λ k l q. subst (λ x. Has k (map (λ (t : Kept). t.argument) x)) (sym (append_none ts)) (by k q (last_or_less k n l));
          locals = λ i k q. (let g = h.locals i k (ap (λ x. slice_get x i) (sym (append_none ts)) ∙ q) in (g.0, subst (λ x. i < x) (sym c) g.1));
        }
      where
        by : (k : ℕ) → p k ≡ true → (k < n) ⊎ (k ≡ n) → Has k (map (λ t. t.argument) ts)
        by k q (inl l) = h.all k l q
        by k q (inr c) = absurd (true≢false (sym q ∙ ap p c ∙ e))
    kept_next n ts h true e =
        let c : kept_below (suc n) ≡ kept_below n + 1 = count_next p n ∙ ap (λ b. kept_below n + cond b 1 0) e in
        record {
          each = each_append (IsKept (suc n)) ts _ (kept_more n ts h) (record { before = less_last n; place = e }, tt);
          order = pairs_append (λ (s t : Kept). s.argument < t.argument) ts _ h.order (tt, tt) (each_more (IsKept n) (λ (s : Kept). (s.argument < n) × Unit {0}) (λ t g. (g.before, tt)) ts h.each);
          many = length_push ts (record { argument = n; local = kept_below n; chunk = value_chunk (value_of n) }) ∙ ap (λ k. k + 1) h.many ∙ sym c;
          all = λ k l q. subst (Has k) (sym (map-append (λ (t : Kept). t.argument) ts _)) (by k q (last_or_less k n l));
          locals = λ i k q. at c i k (pushed ts (record { argument = n; local = kept_below n; chunk = value_chunk (value_of n) }) i k q);
        }
      where
        by : (k : ℕ) → p k ≡ true → (k < n) ⊎ (k ≡ n) → Has k (map (λ t. t.argument) ts ++ n ∷ [])
        by k q (inl l) = has_left k (map (λ t. t.argument) ts) (n ∷ []) (h.all k l q)
        by k q (inr c) = has_right k (map (λ t. t.argument) ts) (n ∷ []) (inl (sym c))

        pushed : (xs : List Kept) (y : Kept) (i : ℕ) (k : Kept) → slice_get (xs ++ y ∷ []) i ≡ Some k → (slice_get xs i ≡ Some k) ⊎ ((i ≡ length xs) × (y ≡ k))
        pushed [] y zero k q = inr (refl, cc)
        pushed [] y (suc i) k q = cc
        pushed (x ∷ xs) y zero k q = inl q
        pushed (x ∷ xs) y (suc i) k q = up (pushed xs y i k q)
          where
            up : (slice_get xs i ≡ Some k) ⊎ ((i ≡ length xs) × (y ≡ k)) → (slice_get (x ∷ xs) (suc i) ≡ Some k) ⊎ ((suc i ≡ length (x ∷ xs)) × (y ≡ k))
            up (inl z) = inl z
            up (inr z) = inr (ap suc z.0, z.1)

        at : kept_below (suc n) ≡ kept_below n + 1 → (i : ℕ) (k : Kept) → (slice_get ts i ≡ Some k) ⊎ ((i ≡ length ts) × (record { argument = n; local = kept_below n; chunk = value_chunk (value_of n) } ≡ k)) → (k.local ≡ i) × (i < kept_below (suc n))
        at c i k (inl z) = (let g = h.locals i k z in (g.0, (let l : i < kept_below n = g.1 in let d : kept_below (suc n) ≡ kept_below n + 1 = c in omega arith)))
        at c i k (inr z) =
            let m : i ≡ kept_below n = z.0 ∙ h.many in
            (ap (λ (x : Kept). x.local) (sym z.1) ∙ sym m, (let d : kept_below (suc n) ≡ kept_below n + 1 = c in omega arith))

    pub kept_good : (n : ℕ) → AreKept n (kept_from w f (below n))
    kept_good zero = record { each = tt; order = tt; many = refl; all = λ k l q. absurd (omega arith); locals = λ i k q. cc }
    kept_good (suc n) = subst (AreKept (suc n)) (sym (kept_push (below n) n)) (kept_next n (kept_from w f (below n)) (kept_good n) (p n) refl)

-- ## Locals in memory

complete_at : (types : Types) (ls : List ℕ) → AreComplete types ls → (n : ℕ) → n < length ls → is_complete types (unwrap_or (slice_get ls n) 0) ≡ true
complete_at types [] h n l = absurd (omega arith)
complete_at types (t ∷ ts) h zero l = h.0
complete_at types (t ∷ ts) h (suc n) l = complete_at types ts h.1 n (omega arith)

map_push : (xs : List ℕ) (n : ℕ) → map suc (xs ++ n ∷ []) ≡ map suc xs ++ suc n ∷ []
map_push xs n = map-append suc xs (n ∷ [])

below_front : (n : ℕ) → below (suc n) ≡ zero ∷ map suc (below n)
below_front zero = refl
below_front (suc n) = ap (λ l. l ++ suc n ∷ []) (below_front n) ∙ ap (λ l. zero ∷ l) (sym (map_push (below n) n))

-- the bytes of all, one by one
total_below : (g : ℕ → ℕ) (ls : List ℕ) → total (λ n. g (unwrap_or (slice_get ls n) 0)) (below (length ls)) ≡ total g ls
total_below g [] = refl
total_below g (t ∷ ts) =
    ap (total (λ n. g (unwrap_or (slice_get (t ∷ ts) n) 0))) (below_front (length ts))
    ∙ ap (λ k. g t + k) (total_map suc (λ n. g (unwrap_or (slice_get (t ∷ ts) n) 0)) (below (length ts)) ∙ total_below g ts)

module _ (types : Types) (f : FunctionMade) where
  abbrev in_memory : ℕ → Bool
  in_memory = is_in_memory types f

  abbrev bytes_of : ℕ → ℕ
  bytes_of n = size_at types (unwrap_or (slice_get f.locals n) 0)

  abbrev local_of : ℕ → Local
  local_of n = record { size = bytes_of n; align = align_at types (unwrap_or (slice_get f.locals n) 0) }

  memory_bytes : (ns : List ℕ) → total (λ (l : Local). l.size) (memory_locals types f ns) ≤ total bytes_of ns
  memory_bytes [] = omega arith
  memory_bytes (n ∷ ns) = by (in_memory n) (memory_bytes ns)
    where
      by : (b : Bool) → total (λ (l : Local). l.size) (memory_locals types f ns) ≤ total bytes_of ns → total (λ (l : Local). l.size) (cond b (local_of n ∷ memory_locals types f ns) (memory_locals types f ns)) ≤ bytes_of n + total bytes_of ns
      by true h = omega arith
      by false h = omega arith

  -- no more bytes than all have
  pub memory_few : sum_by (λ (l : Local). l.size) (memory_locals types f (below (length f.locals))) ≤ sum_by (size_at types) f.locals
  memory_few =
      let a : sum_by (λ (l : Local). l.size) (memory_locals types f (below (length f.locals))) ≡ total (λ (l : Local). l.size) (memory_locals types f (below (length f.locals))) = sum_total (λ (l : Local). l.size) (memory_locals types f (below (length f.locals))) in
      let b : total (λ (l : Local). l.size) (memory_locals types f (below (length f.locals))) ≤ total bytes_of (below (length f.locals)) = memory_bytes (below (length f.locals)) in
      let c : total bytes_of (below (length f.locals)) ≡ total (size_at types) f.locals = total_below (size_at types) f.locals in
      let d : sum_by (size_at types) f.locals ≡ total (size_at types) f.locals = sum_total (size_at types) f.locals in
      omega arith

  memory_push : (ns : List ℕ) (n : ℕ) → length (memory_locals types f (ns ++ n ∷ [])) ≡ length (memory_locals types f ns) + cond (in_memory n) 1 0
  memory_push [] n = by (in_memory n)
    where
      by : (b : Bool) → length (cond b (local_of n ∷ []) []) ≡ 0 + cond b 1 0
      by true = refl
      by false = refl
  memory_push (m ∷ ns) n = by (in_memory m) (memory_push ns n)
    where
      by : (b : Bool) → length (memory_locals types f (ns ++ n ∷ [])) ≡ length (memory_locals types f ns) + cond (in_memory n) 1 0
          → length (cond b (local_of m ∷ memory_locals types f (ns ++ n ∷ [])) (memory_locals types f (ns ++ n ∷ []))) ≡ length (cond b (local_of m ∷ memory_locals types f ns) (memory_locals types f ns)) + cond (in_memory n) 1 0
      by true h = omega arith
      by false h = h

  pub memory_many : (n : ℕ) → length (memory_locals types f (below n)) ≡ count_by in_memory (below n)
  memory_many zero = refl
  memory_many (suc n) = memory_push (below n) n ∙ ap (λ k. k + cond (in_memory n) 1 0) (memory_many n) ∙ sym (count_next in_memory n)

  each_below : (n : ℕ) → Each (λ m. m < n) (below n)
  each_below zero = tt
  each_below (suc n) = each_append (λ m. m < suc n) (below n) (n ∷ []) (each_more (λ m. m < n) (λ m. m < suc n) (λ m l. less_more n m l) (below n) (each_below n)) (less_last n, tt)

  memory_each : AreTypes types → AreComplete types f.locals → (ns : List ℕ) → Each (λ m. m < length f.locals) ns → Each (λ (l : Local). (1 ≤ l.size) × (IsAlignment l.align)) (memory_locals types f ns)
  memory_each h c [] l = tt
  memory_each h c (n ∷ ns) l = by (in_memory n) (memory_each h c ns l.1)
    where
      by : (b : Bool) → Each (λ (l : Local). (1 ≤ l.size) × (IsAlignment l.align)) (memory_locals types f ns) → Each (λ (l : Local). (1 ≤ l.size) × (IsAlignment l.align)) (cond b (local_of n ∷ memory_locals types f ns) (memory_locals types f ns))
      by true r = (complete_sized types h (unwrap_or (slice_get f.locals n) 0) (complete_at types f.locals c n l.0), r)
      by false r = r

  pub memory_sized : AreTypes types → AreComplete types f.locals → Each (λ (l : Local). (1 ≤ l.size) × (IsAlignment l.align)) (memory_locals types f (below (length f.locals)))
  memory_sized h c = memory_each h c (below (length f.locals)) (each_below (length f.locals))
