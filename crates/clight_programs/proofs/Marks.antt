-- The marks by the numbers of parameters and locals, and where each is by its number.
use Rattle.std.proofs.Common.{◌≡◌, ℕ, zero, suc, ◌+◌, ◌-◌, ◌<◌, ◌≤◌, ◌==◌, Bool, true, false, cond, not, ◌||◌, List, [], ◌∷◌, ◌++◌, length, map, nat_lt, nat_eq, Option, Some, None, true≢false, refl, sym, ap, ◌∙◌, subst, arith, ne_eqb, eq-eqb, eqb-true, ltb-true, ltb-false}
use Rattle.std.specs.Prelude.{count_by, sum_by, slice_get, slice_set, unwrap_or}
use Rattle.std.specs.List.{list_any}
use Rattle.std.specs.Option.{option_map}
use Rattle.std.proofs.lemmas.List.Sums.{sum_by-cons, sum_by_push}
use Rattle.clight_types.specs.Types.{Types, is_scalar}
use Rattle.clight_placing.specs.declared.inner.Location as L
use Rattle.clight_placing.specs.declared.inner.Location.TheVariants as at
use Rattle.clight_placing.specs.InnerOf.{location_of, location_in, is_memory}
use Rattle.clight_placing.specs.Placing.{Location, InTemp, InMemory, Inner, number_of_type}
use Rattle.clight_files.specs.Files.{FunctionMade}
use Rattle.clight_meaning.specs.Meaning.{below, is_in_memory}
use Rattle.clight_programs.specs.Locals.{marks_of, marked, located}
use Rattle.clight_programs.specs.ProgramsOf.{inner_with}
use Rattle.clight_programs.proofs.Walks.{map_push}

map_twice : {A B C : Type 0} (f : B → C) (g : A → B) (xs : List A) → map f (map g xs) ≡ map (λ x. f (g x)) xs
map_twice f g [] = refl
map_twice f g (x ∷ xs) = ap (λ r. f (g x) ∷ r) (map_twice f g xs)

map_same : {A B : Type 0} (f g : A → B) → ((x : A) → f x ≡ g x) → (xs : List A) → map f xs ≡ map g xs
map_same f g h xs = λ i. map (λ x. h x i) xs

-- ## Numbers below a bound

below_front : (k : ℕ) → below (suc k) ≡ 0 ∷ map suc (below k)
below_front zero = refl
below_front (suc k) = ap (λ l. l ++ suc k ∷ []) (below_front k) ∙ ap (λ l. 0 ∷ l) (sym (map_push suc (below k) k))

map_front : {A : Type 0} (g : ℕ → A) (k : ℕ) → map g (below (suc k)) ≡ g 0 ∷ map (λ n. g (suc n)) (below k)
map_front g k = ap (map g) (below_front k) ∙ ap (λ l. g 0 ∷ l) (map_twice g suc (below k))

module _ {A : Type 0} where
  get_below : (g : ℕ → A) (k n : ℕ) → n < k → slice_get (map g (below k)) n ≡ Some (g n)
  get_below g zero n l = absurd (omega arith)
  get_below g (suc k) zero l = ap (λ (xs : List A). slice_get xs 0) (map_front g k)
  get_below g (suc k) (suc n) l = ap (λ (xs : List A). slice_get xs (suc n)) (map_front g k) ∙ get_below (λ m. g (suc m)) k n (omega arith)

  get_past : (g : ℕ → A) (k n : ℕ) → k ≤ n → slice_get (map g (below k)) n ≡ None
  get_past g zero n l = refl
  get_past g (suc k) zero l = absurd (omega arith)
  get_past g (suc k) (suc n) l = ap (λ (xs : List A). slice_get xs (suc n)) (map_front g k) ∙ get_past (λ m. g (suc m)) k n (omega arith)

length_below : (k : ℕ) → length (below k) ≡ k
length_below zero = refl
length_below (suc k) = pushed (below k) ∙ ap suc (length_below k)
  where
    pushed : (xs : List ℕ) → length (xs ++ k ∷ []) ≡ suc (length xs)
    pushed [] = refl
    pushed (x ∷ xs) = ap suc (pushed xs)

-- ## Marks

each_at : (h : ℕ → Bool) (xs : List ℕ) → map h xs ≡ map (λ n. h (unwrap_or (slice_get xs n) 0)) (below (length xs))
each_at h [] = refl
each_at h (x ∷ xs) = ap (λ r. h x ∷ r) (each_at h xs) ∙ sym (map_front (λ n. h (unwrap_or (slice_get (x ∷ xs) n) 0)) (length xs))

less_one : (a n : ℕ) → nat_eq (suc a) (suc n) ≡ nat_eq a n
less_one a n = by (nat_eq a n) refl
  where
    by : (b : Bool) → nat_eq a n ≡ b → nat_eq (suc a) (suc n) ≡ b
    by true e = eq-eqb (suc a) (suc n) (ap suc (eqb-true a n e))
    by false e = ne_eqb (suc a) (suc n) (λ h. true≢false (sym (eq-eqb a n (omega arith)) ∙ e))

set_at : (g : ℕ → Bool) (k a : ℕ) → slice_set (map g (below k)) a true ≡ map (λ n. nat_eq a n || g n) (below k)
set_at g zero a = refl
set_at g (suc k) zero =
    ap (λ xs. slice_set xs 0 true) (map_front g k)
    ∙ ap (λ r. true ∷ r) (map_same (λ n. g (suc n)) (λ n. nat_eq 0 (suc n) || g (suc n)) (λ n. sym (ap (λ b. b || g (suc n)) (ne_eqb 0 (suc n) (λ h. absurd (omega arith))))) (below k))
    ∙ sym (map_front (λ n. nat_eq 0 n || g n) k)
set_at g (suc k) (suc a) =
    ap (λ xs. slice_set xs (suc a) true) (map_front g k)
    ∙ ap (λ r. g 0 ∷ r) (set_at (λ n. g (suc n)) k a)
    ∙ ap (λ r. g 0 ∷ r) (map_same (λ n. nat_eq a n || g (suc n)) (λ n. nat_eq (suc a) (suc n) || g (suc n)) (λ n. ap (λ b. b || g (suc n)) (sym (less_one a n))) (below k))
    ∙ ap (λ b. (b || g 0) ∷ map (λ n. nat_eq (suc a) (suc n) || g (suc n)) (below k)) (sym (ne_eqb (suc a) 0 (λ h. absurd (omega arith))))
    ∙ sym (map_front (λ n. nat_eq (suc a) n || g n) k)

marked_are : (g : ℕ → Bool) (k : ℕ) (ns : List ℕ) → marked (map g (below k)) ns ≡ map (λ n. list_any (λ a. a == n) ns || g n) (below k)
marked_are g k [] = refl
marked_are g k (a ∷ ns) =
    ap (λ m. marked m ns) (set_at g k a)
    ∙ marked_are (λ n. nat_eq a n || g n) k ns
    ∙ map_same (λ n. list_any (λ b. b == n) ns || (nat_eq a n || g n)) (λ n. (nat_eq a n || list_any (λ b. b == n) ns) || g n) (λ n. turned (nat_eq a n) (list_any (λ b. b == n) ns) (g n)) (below k)
  where
    turned : (x y z : Bool) → (y || (x || z)) ≡ ((x || y) || z)
    turned true true z = refl
    turned true false z = refl
    turned false true z = refl
    turned false false z = refl

pub marks_are : (types : Types) (f : FunctionMade) (first marks : List Bool) → first ≡ map (λ t. not (is_scalar types t)) f.locals → marks ≡ marked first f.addressed → located 0 0 marks ≡ located 0 0 (marks_of types f)
marks_are types f first marks begun done =
    ap (located 0 0)
    (done
    ∙ ap (λ m. marked m f.addressed) (begun ∙ each_at (λ t. not (is_scalar types t)) f.locals)
    ∙ marked_are (λ n. not (is_scalar types (unwrap_or (slice_get f.locals n) 0))) (length f.locals) f.addressed)

-- ## Places

abbrev place : (ℕ → Bool) → ℕ → Location
place p n = cond (p n) (InMemory (count_by p (below n))) (InTemp (count_by (λ m. not (p m)) (below n)))

count_front : {A : Type 0} (q : A → Bool) (x : A) (xs : List A) → count_by q (x ∷ xs) ≡ cond (q x) 1 0 + count_by q xs
count_front q x xs = sum_by-cons (λ y. cond (q y) 1 0) x xs

count_mapped : {A B : Type 0} (q : B → Bool) (f : A → B) (xs : List A) → count_by q (map f xs) ≡ count_by (λ x. q (f x)) xs
count_mapped q f [] = refl
count_mapped q f (x ∷ xs) = count_front q (f x) (map f xs) ∙ ap (λ n. cond (q (f x)) 1 0 + n) (count_mapped q f xs) ∙ sym (count_front (λ y. q (f y)) x xs)

count_next : (p : ℕ → Bool) (n : ℕ) → count_by p (below (suc n)) ≡ count_by p (below n) + cond (p n) 1 0
count_next p n = sum_by_push (λ x. cond (p x) 1 0) (below n) n

moved : (b : Bool) (a c x y : ℕ) → a ≡ c → x ≡ y → cond b (InMemory a) (InTemp x) ≡ cond b (InMemory c) (InTemp y)
moved b a c x y h k = ap (λ n. cond b (InMemory n) (InTemp x)) h ∙ ap (λ n. cond b (InMemory c) (InTemp n)) k

located_push : (t m : ℕ) (xs : List Bool) (b : Bool) → located t m (xs ++ b ∷ []) ≡ located t m xs ++ cond b (InMemory (m + count_by (λ c. c) xs)) (InTemp (t + count_by not xs)) ∷ []
located_push t m [] true = (let e : m ≡ m + 0 = omega arith in ap (λ n. InMemory n ∷ []) e)
located_push t m [] false = (let e : t ≡ t + 0 = omega arith in ap (λ n. InTemp n ∷ []) e)
located_push t m (true ∷ xs) b =
    let a : count_by (λ c. c) (true ∷ xs) ≡ 1 + count_by (λ c. c) xs = count_front (λ c. c) true xs in
    let d : count_by not (true ∷ xs) ≡ 0 + count_by not xs = count_front not true xs in
    ap (λ r. InMemory m ∷ r) (located_push t (m + 1) xs b ∙ ap (λ l. located t (m + 1) xs ++ l ∷ []) (moved b ((m + 1) + count_by (λ c. c) xs) (m + count_by (λ c. c) (true ∷ xs)) (t + count_by not xs) (t + count_by not (true ∷ xs)) (omega arith) (omega arith)))
located_push t m (false ∷ xs) b =
    let a : count_by (λ c. c) (false ∷ xs) ≡ 0 + count_by (λ c. c) xs = count_front (λ c. c) false xs in
    let d : count_by not (false ∷ xs) ≡ 1 + count_by not xs = count_front not false xs in
    ap (λ r. InTemp t ∷ r) (located_push (t + 1) m xs b ∙ ap (λ l. located (t + 1) m xs ++ l ∷ []) (moved b (m + count_by (λ c. c) xs) (m + count_by (λ c. c) (false ∷ xs)) ((t + 1) + count_by not xs) (t + count_by not (false ∷ xs)) (omega arith) (omega arith)))

located_are : (p : ℕ → Bool) (k : ℕ) → located 0 0 (map p (below k)) ≡ map (place p) (below k)
located_are p zero = refl
located_are p (suc k) =
    let a : count_by (λ c. c) (map p (below k)) ≡ count_by p (below k) = count_mapped (λ c. c) p (below k) in
    let d : count_by not (map p (below k)) ≡ count_by (λ m. not (p m)) (below k) = count_mapped not p (below k) in
    ap (located 0 0) (map_push p (below k) k)
    ∙ located_push 0 0 (map p (below k)) (p k)
    ∙ ap (λ l. l ++ cond (p k) (InMemory (0 + count_by (λ c. c) (map p (below k)))) (InTemp (0 + count_by not (map p (below k)))) ∷ []) (located_are p k)
    ∙ ap (λ l. map (place p) (below k) ++ l ∷ []) (moved (p k) (0 + count_by (λ c. c) (map p (below k))) (count_by p (below k)) (0 + count_by not (map p (below k))) (count_by (λ m. not (p m)) (below k)) (omega arith) (omega arith))
    ∙ sym (map_push (place p) (below k) k)

-- from a number on, all are in memory
count_past : (p : ℕ → Bool) (k : ℕ) → ((n : ℕ) → k ≤ n → p n ≡ true) → (n : ℕ) → k ≤ n → count_by p (below n) ≡ count_by p (below k) + (n - k)
count_past p k h zero l =
    let e : k ≡ 0 = omega arith in
    let d : count_by p (below k) ≡ count_by p (below 0) = ap (λ m. count_by p (below m)) e in
    omega arith
count_past p k h (suc m) l = by (nat_lt m k) refl (count_past p k h m)
  where
    by : (b : Bool) → nat_lt m k ≡ b → (k ≤ m → count_by p (below m) ≡ count_by p (below k) + (m - k)) → count_by p (below (suc m)) ≡ count_by p (below k) + (suc m - k)
    by true e rest =
        let g : m < k = ltb-true m k e in
        let q : k ≡ suc m = omega arith in
        let d : count_by p (below k) ≡ count_by p (below (suc m)) = ap (λ n. count_by p (below n)) q in
        omega arith
    by false e rest =
        let g : k ≤ m = ltb-false m k e in
        let d : count_by p (below m) ≡ count_by p (below k) + (m - k) = rest g in
        let c : count_by p (below (suc m)) ≡ count_by p (below m) + cond (p m) 1 0 = count_next p m in
        let one : cond {A = ℕ} (p m) 1 0 ≡ 1 = ap (λ b. cond {A = ℕ} b 1 0) (h m g) in
        omega (arith, one)

abbrev is_there : Location → Bool
is_there (InTemp t) = false
is_there (InMemory m) = true

there_same : (l : L.Location) → is_memory l ≡ is_there (location_of l)
there_same (at.Temp t) = refl
there_same (at.Memory m) = refl

there_place : (p : ℕ → Bool) (n : ℕ) → is_there (place p n) ≡ p n
there_place p n = by (p n)
  where
    by : (b : Bool) → is_there (cond b (InMemory (count_by p (below n))) (InTemp (count_by (λ m. not (p m)) (below n)))) ≡ b
    by true = refl
    by false = refl

count_same : {A : Type 0} (f g : A → Bool) → ((x : A) → f x ≡ g x) → (xs : List A) → count_by f xs ≡ count_by g xs
count_same f g h xs = λ i. count_by (λ x. h x i) xs

got_mapped : (ls : List L.Location) (n : ℕ) → option_map location_of (slice_get ls n) ≡ slice_get (map location_of ls) n
got_mapped [] n = refl
got_mapped (x ∷ xs) zero = refl
got_mapped (x ∷ xs) (suc n) = got_mapped xs n

length_mapped : {A B : Type 0} (f : A → B) (xs : List A) → length (map f xs) ≡ length xs
length_mapped f [] = refl
length_mapped f (x ∷ xs) = ap suc (length_mapped f xs)

module _ (p : ℕ → Bool) (k : ℕ) (behind : (n : ℕ) → k ≤ n → p n ≡ true) (ls : List L.Location) (are : map location_of ls ≡ map (place p) (below k)) where
  as_long : length ls ≡ k
  as_long = sym (length_mapped location_of ls) ∙ ap length are ∙ length_mapped (place p) (below k) ∙ length_below k

  as_many : count_by is_memory ls ≡ count_by p (below k)
  as_many =
      count_same is_memory (λ l. is_there (location_of l)) there_same ls
      ∙ sym (count_mapped is_there location_of ls)
      ∙ ap (count_by is_there) are
      ∙ count_mapped is_there (place p) (below k)
      ∙ count_same (λ n. is_there (place p n)) p (there_place p) (below k)

  pub place_found : (n : ℕ) → location_in ls n ≡ place p n
  place_found n = ap (λ o. unwrap_or o (InMemory (count_by is_memory ls + (n - length ls)))) (got_mapped ls n ∙ ap (λ (l : List Location). slice_get l n) are) ∙ by (nat_lt n k) refl
    where
      by : (b : Bool) → nat_lt n k ≡ b → unwrap_or (slice_get (map (place p) (below k)) n) (InMemory (count_by is_memory ls + (n - length ls))) ≡ place p n
      by true e = ap (λ o. unwrap_or o (InMemory (count_by is_memory ls + (n - length ls)))) (get_below (place p) k n (ltb-true n k e))
      by false e =
          let g : k ≤ n = ltb-false n k e in
          let c : count_by p (below n) ≡ count_by p (below k) + (n - k) = count_past p k behind n g in
          let a : count_by is_memory ls ≡ count_by p (below k) = as_many in
          let d : length ls ≡ k = as_long in
          let z : count_by is_memory ls + (n - length ls) ≡ count_by p (below n) = omega arith in
          ap (λ o. unwrap_or o (InMemory (count_by is_memory ls + (n - length ls)))) (get_past (place p) k n g)
          ∙ ap InMemory z
          ∙ sym (ap (λ b. cond b (InMemory (count_by p (below n))) (InTemp (count_by (λ m. not (p m)) (below n)))) (behind n g))

-- ## What is known in a function

-- a number that is no local's is in memory, as the first type is no scalar
behind_locals : (types : Types) (f : FunctionMade) → is_scalar types 0 ≡ false → (n : ℕ) → length f.locals ≤ n → is_in_memory types f n ≡ true
behind_locals types f none n past = ap (λ o. list_any (λ a. a == n) f.addressed || not (is_scalar types (unwrap_or o 0))) (none_there f.locals n past) ∙ ap (λ b. list_any (λ a. a == n) f.addressed || not b) none ∙ or_true (list_any (λ a. a == n) f.addressed)
  where
    or_true : (b : Bool) → (b || true) ≡ true
    or_true true = refl
    or_true false = refl

    none_there : (xs : List ℕ) (n : ℕ) → length xs ≤ n → slice_get xs n ≡ None
    none_there [] n l = refl
    none_there (x ∷ xs) zero l = absurd (omega arith)
    none_there (x ∷ xs) (suc n) l = none_there xs n (omega arith)

abbrev pub inner_found : Types → List ℕ → List L.Location → Inner
inner_found types ts ls = record { types = types; type_number = number_of_type ts; location = location_in ls }

pub inner_is : (types : Types) (ts : List ℕ) (f : FunctionMade) (ls : List L.Location) → is_scalar types 0 ≡ false → map location_of ls ≡ located 0 0 (marks_of types f) → inner_found types ts ls ≡ inner_with types ts f
inner_is types ts f ls none are = λ i. record { types = types; type_number = number_of_type ts; location = λ n. place_found (is_in_memory types f) (length f.locals) (behind_locals types f none) ls (are ∙ located_are (is_in_memory types f) (length f.locals)) n i }
