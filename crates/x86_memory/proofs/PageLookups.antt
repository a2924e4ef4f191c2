-- Pages: what a look-up finds after the table or the pages grow, and after a write.
use Rattle.std.proofs.Common.{◌≡◌, ◌≢◌, ℕ, ◌+◌, ◌-◌, ◌*◌, ◌/◌, ◌%◌, ◌<◌, ◌≤◌, Bool, true, false, List, ◌++◌, length, get_or, set, take, replicate, Option, Some, None, refl, sym, ap, ◌∙◌, subst, inl, inr, arith, IsSome, if◌then◌else◌, ◌==◌, rules}
use Rattle.std.proofs.lemmas.List.{take_all, get_or_append_left, get_or_past, get_or-set_same, get_or-set_other, get_or-append_right, get_or-replicate, get_or_read, length-replicate}
use Rattle.std.proofs.lemmas.Bool.{cases_lt, cases_eq, eq-eqb, ne_eqb, cond-true, cond-false}
use Rattle.std.proofs.lemmas.Option.{same_Some, none-some}
use Rattle.x86_memory.specs.Kept.{ArePages, byte_in}

get_or-replicate_default : {X : Type 0} (k i : ℕ) (d : X) → get_or (replicate k d) i d ≡ d
get_or-replicate_default k i d =
    elim (cases_lt i k) as (λ _. get_or (replicate k d) i d ≡ d) [
      | inl a ↦ get_or-replicate k i d d a
      | inr b ↦ get_or_past (replicate k d) i d (rw length-replicate b)
    ]

-- a list that is filled up with what stands past its end
pub get_or-padded : {X : Type 0} (xs : List X) (n k i : ℕ) (d : X) → length xs ≤ n → get_or (take n xs ++ replicate k d) i d ≡ get_or xs i d
get_or-padded xs n k i d h =
    rw (take_all n xs h) (elim (cases_lt i (length xs)) as (λ _. get_or (xs ++ replicate k d) i d ≡ get_or xs i d) [
      | inl a ↦ get_or_append_left xs (replicate k d) d i a
      | inr b ↦ get_or-append_right xs (replicate k d) (length xs) i d refl b ∙ (get_or-replicate_default k (i - length xs) d ∙ sym (get_or_past xs i d b))
    ])

-- and one that may have been
pub get_or-resized : {X : Type 0} (b : Bool) (xs ys : List X) (n k : ℕ) (d : X) → ys ≡ (if b then take n xs ++ replicate k d else xs) → length xs ≤ n → (i : ℕ) → get_or ys i d ≡ get_or xs i d
get_or-resized true xs ys n k d e h i = rw e (get_or-padded xs n k i d h)
get_or-resized false xs ys n k d e h i = rw e refl

abbrev SameEntries : {X : Type 0} → List (Option X) → List (Option X) → Type 0
SameEntries {X} xs ys = (i : ℕ) → get_or ys i None ≡ get_or xs i None

abbrev SameBytes : List ℕ → List ℕ → Type 0
SameBytes xs ys = (i : ℕ) → get_or ys i 0 ≡ get_or xs i 0

byte_in-same_bytes : (cs ds : List ℕ) → SameBytes cs ds → (s : Option ℕ) (o : ℕ) → byte_in ds s o ≡ byte_in cs s o
byte_in-same_bytes cs ds h None o = refl
byte_in-same_bytes cs ds h (Some p) o = h (p * 16384 + o)

-- the same entries of the table and the same bytes
pub byte_in-same : (t u : List (Option ℕ)) (cs ds : List ℕ) → SameEntries t u → SameBytes cs ds → (y : ℕ) → byte_in ds (get_or u (y / 16384) None) (y % 16384) ≡ byte_in cs (get_or t (y / 16384) None) (y % 16384)
byte_in-same t u cs ds h g y = ap (λ s. byte_in ds s (y % 16384)) (h (y / 16384)) ∙ byte_in-same_bytes cs ds g (get_or t (y / 16384) None) (y % 16384)

-- a table with the same entries
pub ArePages-same : (t u : List (Option ℕ)) (cs : List ℕ) (n : ℕ) → SameEntries t u → ArePages t cs n → ArePages u cs n
ArePages-same t u cs n h r =
    record {
      whole = r.whole;
      there = λ i p e. r.there i p (sym (h i) ∙ e);
      apart = λ i j p e f. r.apart i j p (sym (h i) ∙ e) (sym (h j) ∙ f);
    }

-- one more page, for a number that had none
there_more : (t : List (Option ℕ)) (cs : List ℕ) (n k : ℕ) → ArePages t cs n → k < length t → (i p : ℕ) → get_or (set t k (Some n)) i None ≡ Some p → (i ≡ k → p ≡ n) × (i ≢ k → get_or t i None ≡ Some p)
there_more t cs n k r h i p e =
    (λ q. same_Some p n (sym e ∙ (ap (λ j. get_or (set t k (Some n)) j None) q ∙ get_or-set_same t k (Some n) None h)), λ q. sym (get_or-set_other t k i (Some n) None q) ∙ e)

pub ArePages-opened : (t : List (Option ℕ)) (cs ds : List ℕ) (n k : ℕ) → ArePages t cs n → k < length t → length ds ≡ (n + 1) * 16384 → ArePages (set t k (Some n)) ds (n + 1)
ArePages-opened t cs ds n k r h g =
    record {
      whole = g;
      there = λ i p e. elim (cases_eq i k) as (λ _. p < n + 1) [
        | inl q ↦ (let eq : p ≡ n = (there_more t cs n k r h i p e).0 q in omega arith)
        | inr q ↦ (let lt : p < n = r.there i p ((there_more t cs n k r h i p e).1 q) in omega arith)
      ];
      apart = λ i j p e f. elim (cases_eq i k) as (λ _. i ≡ j) [
        | inl q ↦ elim (cases_eq j k) as (λ _. i ≡ j) [
          | inl s ↦ q ∙ sym s
          | inr s ↦ (let eq : p ≡ n = (there_more t cs n k r h i p e).0 q in let lt : p < n = r.there j p ((there_more t cs n k r h j p f).1 s) in absurd (omega arith))
        ]
        | inr q ↦ elim (cases_eq j k) as (λ _. i ≡ j) [
          | inl s ↦ (let eq : p ≡ n = (there_more t cs n k r h j p f).0 s in let lt : p < n = r.there i p ((there_more t cs n k r h i p e).1 q) in absurd (omega arith))
          | inr s ↦ r.apart i j p ((there_more t cs n k r h i p e).1 q) ((there_more t cs n k r h j p f).1 s)
        ]
      ];
    }

pub byte_in-opened : (t : List (Option ℕ)) (cs ds : List ℕ) (n k : ℕ) → ArePages t cs n → k < length t → get_or t k None ≡ None → SameBytes cs ds → (y : ℕ) → byte_in ds (get_or (set t k (Some n)) (y / 16384) None) (y % 16384) ≡ byte_in cs (get_or t (y / 16384) None) (y % 16384)
byte_in-opened t cs ds n k r h none g y =
    elim (cases_eq (y / 16384) k) as (λ _. byte_in ds (get_or (set t k (Some n)) (y / 16384) None) (y % 16384) ≡ byte_in cs (get_or t (y / 16384) None) (y % 16384)) [
      | inl q ↦ rw q (rw none (rw (get_or-set_same t k (Some n) None h) (g (n * 16384 + y % 16384) ∙ (let past : length cs ≤ n * 16384 + y % 16384 = (let w : length cs ≡ n * 16384 = r.whole in omega arith) in get_or_past cs (n * 16384 + y % 16384) 0 past))))
      | inr q ↦ rw (get_or-set_other t k (y / 16384) (Some n) None q) (byte_in-same_bytes cs ds g (get_or t (y / 16384) None) (y % 16384))
    ]

-- a byte of an open page lies among the bytes
pub byte_within : (t : List (Option ℕ)) (cs : List ℕ) (n i p o : ℕ) → ArePages t cs n → get_or t i None ≡ Some p → o < 16384 → p * 16384 + o < length cs
byte_within t cs n i p o r e h = let w : length cs ≡ n * 16384 = r.whole in let lt : p < n = r.there i p e in omega arith

-- a write of one byte
byte_in-set_at : (t : List (Option ℕ)) (cs : List ℕ) (n x p : ℕ) (c : ℕ) → ArePages t cs n → get_or t (x / 16384) None ≡ Some p → (y : ℕ) (s : Option ℕ) → get_or t (y / 16384) None ≡ s → byte_in (set cs (p * 16384 + x % 16384) c) s (y % 16384) ≡ (if y == x then c else byte_in cs s (y % 16384))
byte_in-set_at t cs n x p c r e y None f =
    sym (cond-false (y == x) c 0 (ne_eqb y x (λ q. none-some p (sym f ∙ (ap (λ z. get_or t (z / 16384) None) q ∙ e)))))
byte_in-set_at t cs n x p c r e y (Some q) f =
    elim (cases_eq y x) as (λ _. get_or (set cs (p * 16384 + x % 16384) c) (q * 16384 + y % 16384) 0 ≡ (if y == x then c else get_or cs (q * 16384 + y % 16384) 0)) [
      | inl s ↦ (let same : q ≡ p = same_Some q p (sym f ∙ (ap (λ z. get_or t (z / 16384) None) s ∙ e)) in
          rw (cond-true (y == x) c (get_or cs (q * 16384 + y % 16384) 0) (eq-eqb y x s)) (rw (s, same) (get_or-set_same cs (p * 16384 + x % 16384) c 0 (byte_within t cs n (x / 16384) p (x % 16384) r e (omega arith)))))
      | inr s ↦ rw (cond-false (y == x) c (get_or cs (q * 16384 + y % 16384) 0) (ne_eqb y x s)) (get_or-set_other cs (p * 16384 + x % 16384) (q * 16384 + y % 16384) c 0 (λ z. s (same_address t cs n x p y q r e f z)))
    ]
  where
    same_address : (t : List (Option ℕ)) (cs : List ℕ) (n x p y q : ℕ) → ArePages t cs n → get_or t (x / 16384) None ≡ Some p → get_or t (y / 16384) None ≡ Some q → q * 16384 + y % 16384 ≡ p * 16384 + x % 16384 → y ≡ x
    same_address t cs n x p y q r e f z =
        let pages : q ≡ p = omega arith in
        let numbers : y / 16384 ≡ x / 16384 = r.apart (y / 16384) (x / 16384) p (f ∙ ap (λ v. Some v) pages) e in
        omega arith

pub byte_in-set : (t : List (Option ℕ)) (cs : List ℕ) (n x p : ℕ) (c : ℕ) → ArePages t cs n → get_or t (x / 16384) None ≡ Some p → (y : ℕ) → byte_in (set cs (p * 16384 + x % 16384) c) (get_or t (y / 16384) None) (y % 16384) ≡ (if y == x then c else byte_in cs (get_or t (y / 16384) None) (y % 16384))
byte_in-set t cs n x p c r e y = byte_in-set_at t cs n x p c r e y (get_or t (y / 16384) None) refl

-- an entry that was read
pub entry_read : (t : List (Option ℕ)) (i n p : ℕ) (r : Option ℕ) → n ≡ length t → i < n → r ≡ get_or t i r → r ≡ Some p → get_or t i None ≡ Some p
entry_read t i n p r l h e f = let lt : i < length t = omega arith in sym (get_or_read t i r lt e None) ∙ f

pub open_within : (t : List (Option ℕ)) (i : ℕ) → IsSome (get_or t i None) → i < length t
open_within t i h =
    elim (cases_lt i (length t)) as (λ _. i < length t) [
      | inl a ↦ a
      | inr b ↦ (let none : get_or t i None ≡ None = get_or_past t i None b in absurd (let P : Option ℕ → Type 0 = λ s. IsSome s in let h' : IsSome {T = ℕ} None = subst P none h in search rules))
    ]

pub none_from_closed : (s : Option ℕ) → (IsSome s → ⊥) → s ≡ None
none_from_closed None h = refl
none_from_closed (Some p) h = absurd (h (search rules))
