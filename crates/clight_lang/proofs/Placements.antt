-- The default placement is proper.
use Rattle.std.proofs.Common.{◌≡◌, ◌≢◌, ℕ, zero, suc, ◌+◌, ◌-◌, ◌*◌, ◌%◌, ◌<◌, ◌≤◌, Bool, true, false, cond, List, [], ◌∷◌, ◌++◌, length, map, sum_by, Option, Some, None, refl, sym, ap, ◌∙◌, subst, arith, inl, inr, ◌⊎◌, find, nat_eq, slice_index_or, Decides, length-append, Result, Ok, Err}
use Rattle.std.specs.Prelude.{All, AllPairs, Contains, IfOk, IsSomeAnd, unwrap_or}
use Rattle.std.specs.Option.{option_map}
use Rattle.std.specs.Cmp.Lexicographic.{pointwise}
use Rattle.std.proofs.Math.ListN.{get_or-map, length-map}
use Rattle.std.proofs.lemmas.List.{get_or_append_left, get_or-append-add, map-append}
use Rattle.std.proofs.lemmas.List.Sums.{sum_by-cons}
use Rattle.std.proofs.lemmas.Bool.Decides.{Decides-eqb}
use Rattle.std.proofs.lemmas.Slice.Eq.{slice_eq-Decides}
use Rattle.tso_words.specs.declared.name.NoMemory.{NoMemory}
use Rattle.tso_core.specs.Systems.{Names, Places, GlobalsOf}
use Rattle.tso_core.specs.Placing.{address_of, base_of, NamesDiffer}
use Rattle.tso_core.specs.Runs.{IsCodePlace, IsDataPlace, AreApart, IsProper}
use Rattle.clight_lang.specs.Placed.{functions_from, aligned, objects_from, default_places, IsAlignment, AreWithin}

abbrev ObjectOf : Type 0
ObjectOf = Names × ℕ × ℕ × List ℕ

abbrev Entry : Type 0
Entry = Names × ℕ

abbrev name_in : Entry → Names
name_in e = e.0

same_name : (x y : Names) → Decides (pointwise nat_eq x y) (x ≡ y)
same_name x y = slice_eq-Decides Decides-eqb x y (pointwise nat_eq x y) refl

at_self : (x : Names) → pointwise nat_eq x x ≡ true
at_self x = (same_name x x).1 refl

not_true : (b : Bool) → (b ≡ true → ⊥) → b ≡ false
not_true true h = absurd (h refl)
not_true false h = refl

at_other : (x y : Names) → x ≢ y → pointwise nat_eq x y ≡ false
at_other x y ne = not_true (pointwise nat_eq x y) (λ e. ne ((same_name x y).0 e))

-- where no name stands twice, each name has the address that stands beside it
found : (at : Places) → NamesDiffer at → (k : ℕ) (d : Entry) → k < length at → address_of at (slice_index_or at k d).0 ≡ Some (slice_index_or at k d).1
found [] nd k d lt = absurd (omega arith)
found (e ∷ es) nd zero d lt =
    ap (λ b. option_map (λ u. u.1) (cond b (Some e) (find (λ u. pointwise nat_eq u.0 e.0) es))) (at_self e.0)
found (e ∷ es) nd (suc k) d lt =
    let u = slice_index_or es k d in
    ap (λ b. option_map (λ v. v.1) (cond b (Some e) (find (λ v. pointwise nat_eq v.0 u.0) es))) (at_other e.0 u.0 (nd zero (suc k) d (omega arith) lt)) ∙ found es (λ i j c ij jl. nd (suc i) (suc j) c (omega arith) (omega arith)) k d (omega arith)

names_differ : (at : Places) → AllPairs (λ a b. a ≢ b) (map name_in at) → NamesDiffer at
names_differ at nd i j d lt le e =
    nd i j d.0 lt (omega (arith, length-map at name_in)) (get_or-map name_in at i d ∙ e ∙ sym (get_or-map name_in at j d))

function_names : (a : ℕ) (fs : List Names) → map name_in (functions_from a fs) ≡ fs
function_names a [] = refl
function_names a (f ∷ fs) = ap (λ l. f ∷ l) (function_names (a + 1) fs)

object_names : (a : ℕ) (os : List ObjectOf) → map name_in (objects_from a os) ≡ map (λ o. o.0) os
object_names a [] = refl
object_names a (o ∷ os) = ap (λ l. o.0 ∷ l) (object_names (aligned a o.2 + o.1) os)

function_count : (a : ℕ) (fs : List Names) → length (functions_from a fs) ≡ length fs
function_count a [] = refl
function_count a (f ∷ fs) = ap (λ n. suc n) (function_count (a + 1) fs)

object_count : (a : ℕ) (os : List ObjectOf) → length (objects_from a os) ≡ length os
object_count a [] = refl
object_count a (o ∷ os) = ap (λ n. suc n) (object_count (aligned a o.2 + o.1) os)

function_at : (a : ℕ) (fs : List Names) (k : ℕ) (d : Entry) → k < length fs → slice_index_or (functions_from a fs) k d ≡ (slice_index_or fs k d.0, a + k)
function_at a [] k d lt = absurd (omega arith)
function_at a (f ∷ fs) zero d lt = let e : a ≡ a + 0 = omega arith in ap (λ n. (f, n)) e
function_at a (f ∷ fs) (suc k) d lt =
    let e : (a + 1) + k ≡ a + suc k = omega arith in
    function_at (a + 1) fs k d (omega arith) ∙ ap (λ n. (slice_index_or fs k d.0, n)) e

-- the address of the k-th global
abbrev base : ℕ → List ObjectOf → ℕ → ℕ
base a [] k = 0
base a (o ∷ os) zero = aligned a o.2
base a (o ∷ os) (suc k) = base (aligned a o.2 + o.1) os k

object_at : (a : ℕ) (os : List ObjectOf) (k : ℕ) (d : ObjectOf) (e : Entry) → k < length os → slice_index_or (objects_from a os) k e ≡ ((slice_index_or os k d).0, base a os k)
object_at a [] k d e lt = absurd (omega arith)
object_at a (o ∷ os) zero d e lt = refl
object_at a (o ∷ os) (suc k) d e lt = object_at (aligned a o.2 + o.1) os k d e (omega arith)

-- what holds of an aligned address
record IsAligned (a n : ℕ) : Type 0 where
  low : a ≤ aligned a n
  high : aligned a n ≤ a + 3
  whole : aligned a n % n ≡ 0

aligned_to : (a n : ℕ) → IsAlignment n → IsAligned a n
aligned_to a n (inl e) = subst (λ m. IsAligned a m) (sym e) (record { low = omega arith; high = omega arith; whole = omega arith })
aligned_to a n (inr (inl e)) = subst (λ m. IsAligned a m) (sym e) (record { low = omega arith; high = omega arith; whole = omega arith })
aligned_to a n (inr (inr e)) = subst (λ m. IsAligned a m) (sym e) (record { low = omega arith; high = omega arith; whole = omega arith })

abbrev IsSized : ObjectOf → Type 0
IsSized o = (1 ≤ o.1) × IsAlignment o.2

abbrev bytes : List ObjectOf → ℕ
bytes os = sum_by (λ o. o.1) os

more_bytes : (o : ObjectOf) (os : List ObjectOf) → bytes (o ∷ os) ≡ o.1 + bytes os
more_bytes o os = sum_by-cons (λ q. q.1) o os

later : (o : ObjectOf) (os : List ObjectOf) → All IsSized (o ∷ os) → All IsSized os
later o os s k d lt = s (suc k) d (omega arith)

first_of_all : (o : ObjectOf) (os : List ObjectOf) → All IsSized (o ∷ os) → IsSized o
first_of_all o os s = s zero o (omega arith)

-- what holds of the k-th global's address
record IsBase (a : ℕ) (os : List ObjectOf) (k : ℕ) (o : ObjectOf) : Type 0 where
  low : a ≤ base a os k
  high : base a os k + o.1 ≤ a + 4 * bytes os
  whole : base a os k % o.2 ≡ 0

base_is : (a : ℕ) (os : List ObjectOf) → All IsSized os → (k : ℕ) (d : ObjectOf) → k < length os → IsBase a os k (slice_index_or os k d)
base_is a [] s k d lt = absurd (omega arith)
base_is a (o ∷ os) s zero d lt =
    let z = first_of_all o os s in
    let g = aligned_to a o.2 z.1 in
    let h : 1 ≤ o.1 = z.0 in
    let r : IsBase a (o ∷ os) zero o = record { low = g.low; high = omega (arith, g.high, more_bytes o os); whole = g.whole } in
    r
base_is a (o ∷ os) s (suc k) d lt =
    let z = first_of_all o os s in
    let g = aligned_to a o.2 z.1 in
    let h : 1 ≤ o.1 = z.0 in
    let r = base_is (aligned a o.2 + o.1) os (later o os s) k d (omega arith) in
    record { low = omega (arith, r.low, g.low); high = omega (arith, r.high, g.high, more_bytes o os); whole = r.whole }

apart : (a : ℕ) (os : List ObjectOf) → All IsSized os → (i j : ℕ) (d : ObjectOf) → i < j → j < length os → base a os i + (slice_index_or os i d).1 ≤ base a os j
apart a [] s i j d ij lt = absurd (omega arith)
apart a (o ∷ os) s i zero d ij lt = absurd (omega arith)
apart a (o ∷ os) s zero (suc j) d ij lt =
    let r = base_is (aligned a o.2 + o.1) os (later o os s) j d (omega arith) in r.low
apart a (o ∷ os) s (suc i) (suc j) d ij lt =
    apart (aligned a o.2 + o.1) os (later o os s) i j d (omega arith) (omega arith)

same_default : (fs : List Names) (k : ℕ) (d e : Names) → k < length fs → slice_index_or fs k d ≡ slice_index_or fs k e
same_default [] k d e lt = absurd (omega arith)
same_default (f ∷ fs) zero d e lt = refl
same_default (f ∷ fs) (suc k) d e lt = same_default fs k d e (omega arith)

same_number : (m n : ℕ) → Some m ≡ Some n → m ≡ n
same_number m n e = cc

module _ (g : GlobalsOf) (w : AreWithin g) where
  abbrev at : Places
  at = default_places g

  pub differ : NamesDiffer (default_places g)
  differ =
      let e : map name_in at ≡ g.functions ++ map (λ o. o.0) g.objects = map-append name_in (functions_from 0x08000000 g.functions) (objects_from 0x20000000 g.objects) ∙ ap (λ l. l ++ map name_in (objects_from 0x20000000 g.objects)) (function_names 0x08000000 g.functions) ∙ ap (λ l. g.functions ++ l) (object_names 0x20000000 g.objects) in
      names_differ at (subst (λ l. AllPairs (λ a b. a ≢ b) l) (sym e) w.names_differ)

  all_count : length at ≡ length g.functions + length g.objects
  all_count = omega (arith, length-append (functions_from 0x08000000 g.functions) (objects_from 0x20000000 g.objects), function_count 0x08000000 g.functions, object_count 0x20000000 g.objects)

  code_at : (k : ℕ) (d : Names) → k < length g.functions → address_of at (slice_index_or g.functions k d) ≡ Some (0x08000000 + k)
  code_at k d lt =
      let e : slice_index_or at k (d, 0) ≡ (slice_index_or g.functions k d, 0x08000000 + k) = get_or_append_left (functions_from 0x08000000 g.functions) (objects_from 0x20000000 g.objects) (d, 0) k (omega (arith, function_count 0x08000000 g.functions)) ∙ function_at 0x08000000 g.functions k (d, 0) lt in
      subst (λ (u : Entry). address_of at u.0 ≡ Some u.1) e (found at differ k (d, 0) (omega (arith, all_count)))

  data_at : (k : ℕ) (d : ObjectOf) → k < length g.objects → address_of at (slice_index_or g.objects k d).0 ≡ Some (base 0x20000000 g.objects k)
  data_at k d lt =
      let n = length (functions_from 0x08000000 g.functions) in
      let e : slice_index_or at (length (functions_from 0x08000000 g.functions) + k) (d.0, 0) ≡ ((slice_index_or g.objects k d).0, base 0x20000000 g.objects k) = get_or-append-add (functions_from 0x08000000 g.functions) (objects_from 0x20000000 g.objects) k (d.0, 0) ∙ object_at 0x20000000 g.objects k d (d.0, 0) lt in
      subst (λ (u : Entry). address_of at u.0 ≡ Some u.1) e (found at differ (length (functions_from 0x08000000 g.functions) + k) (d.0, 0) (omega (arith, all_count, function_count 0x08000000 g.functions)))

  base_at : (k : ℕ) (d : ObjectOf) → k < length g.objects → base_of at (slice_index_or g.objects k d).0 ≡ base 0x20000000 g.objects k
  base_at k d lt = ap (λ o. unwrap_or o 0) (data_at k d lt)

  function_is : (f : Names) (k : ℕ) → k < length g.functions → slice_index_or g.functions k f ≡ f → address_of at f ≡ Some (0x08000000 + k)
  function_is f k lt e = subst (λ x. address_of at x ≡ Some (0x08000000 + k)) e (code_at k f lt)

  one_address : (f h : Names) (i j : ℕ) → i < length g.functions → j < length g.functions → slice_index_or g.functions i f ≡ f → slice_index_or g.functions j h ≡ h → address_of at f ≡ address_of at h → f ≡ h
  one_address f h i j li lj ef eh e =
      let n : 0x08000000 + i ≡ 0x08000000 + j = same_number _ _ (sym (function_is f i li ef) ∙ e ∙ function_is h j lj eh) in
      let ij : i ≡ j = omega arith in
      sym ef ∙ same_default g.functions i f h li ∙ ap (λ k. slice_index_or g.functions k h) ij ∙ eh

  data_placed : (k : ℕ) (d : ObjectOf) → k < length g.objects → IsDataPlace at (slice_index_or g.objects k d)
  data_placed k d lt =
      let o = slice_index_or g.objects k d in
      let b = base_is 0x20000000 g.objects w.sizes k d lt in
      let low : 0x20000000 ≤ base 0x20000000 g.objects k = b.low in
      let high : base 0x20000000 g.objects k + (slice_index_or g.objects k d).1 ≤ 0x30000000 = omega (arith, b.high, w.few_bytes) in
      subst (λ x. IsSomeAnd x (λ a. (0x20000000 ≤ a) × (a + o.1 ≤ 0x30000000) × (a % o.2 ≡ 0))) (sym (data_at k d lt)) (low, high, b.whole)

  data_apart : (i j : ℕ) (d : ObjectOf) → i < j → j < length g.objects → AreApart at (slice_index_or g.objects i d) (slice_index_or g.objects j d)
  data_apart i j d ij lt =
      let e : base_of at (slice_index_or g.objects i d).0 ≡ base 0x20000000 g.objects i = base_at i d (omega arith) in
      let f : base_of at (slice_index_or g.objects j d).0 ≡ base 0x20000000 g.objects j = base_at j d lt in
      inl (omega (arith, e, f, apart 0x20000000 g.objects w.sizes i j d ij lt))

  pub proper : IsProper g (default_places g)
  proper =
      record {
        functions_placed = λ k d lt. subst (λ x. IsSomeAnd x (λ a. (0x08000000 ≤ a) × (a ≤ 0x1FFFFFFF))) (sym (code_at k d lt)) (omega arith, omega (arith, w.few_functions));
        functions_apart = λ f h a b e. one_address f h a.0 b.0 a.1 b.1 a.2 b.2 e;
        objects_placed = data_placed;
        objects_apart = data_apart;
      }

pub made_proper : (g : GlobalsOf) (list : Places) (made : Result Places NoMemory) → list ≡ default_places g → IfOk made (λ at. at ≡ list) → AreWithin g → IfOk made (λ at. IsProper g at)
made_proper g list (Ok places) e made within =
    let P : Places → Type 0 = λ at. IsProper g at in
    subst P (sym (made ∙ e)) (proper g within)
made_proper g list (Err _) e made within = tt
