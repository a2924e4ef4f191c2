-- Lists of writes.
use Rattle.std.proofs.Common.{◌≡◌, ℕ, ◌+◌, ◌-◌, ◌/◌, ◌%◌, ◌^◌, ◌==◌, ◌<◌, ◌≤◌, Bool, true, false, List, [], ◌∷◌, ◌++◌, length, length-append, take, drop, arith, if◌then◌else◌, Some, None, ◌⊎◌, inl, inr, sym, ap, ◌∙◌, refl, get_or}
use Rattle.std.specs.Prelude.{unwrap_or}
use Rattle.std.proofs.lemmas.List.{drop-append-le, take_more}
use Rattle.std.proofs.lemmas.Bool.{cases_lt, cases_eq}
use Rattle.std.proofs.lemmas.Bool.Decides.{nat_tests}
use Rattle.x86_memory.specs.declared.buffer.Write.{Write}
use Rattle.x86_memory.specs.Bytes.{Bytes, IsSound, AreSound, is_in, byte_of, written, view}
use Rattle.x86_memory.specs.Kept.{IsQueue}

AreSound-push : (xs : List Write) (w : Write) → AreSound xs → IsSound w → AreSound (xs ++ w ∷ [])
AreSound-push [] w h s = (s, tt)
AreSound-push (x ∷ xs) w h s = (h.0, AreSound-push xs w h.1 s)

IsQueue-push : (xs : List Write) (head : ℕ) (w : Write) → IsQueue xs head → IsSound w → IsQueue (xs ++ w ∷ []) head
IsQueue-push xs head w h s = record {
  within = let longer : length (xs ++ w ∷ []) ≡ length xs + 1 = length-append xs (w ∷ []) in omega (arith, h.within);
  sound = rw (drop-append-le head xs (w ∷ []) h.within) (AreSound-push (drop head xs) w h.sound s);
}

pub IsQueue-pushed : (b : Bool) (xs ys : List Write) (head : ℕ) (w : Write) → ys ≡ (if b then xs ++ w ∷ [] else xs) → IsQueue xs head → IsSound w → IsQueue ys head
IsQueue-pushed true xs ys head w e h s = rw e (IsQueue-push xs head w h s)
IsQueue-pushed false xs ys head w e h s = rw e h

-- ---- the bytes of a write

byte_there : (x k v y : ℕ) → y ≡ x + k → v / 256 ^ (y - x) % 256 ≡ v / 256 ^ k % 256
byte_there x k v y e = let d : y - x ≡ k = omega arith in rw d refl

inside : (n x y : ℕ) → x ≤ y → y < x + n → is_in x n y ≡ true
inside n x y h g = grind (arith, nat_tests)

outside : (n x y : ℕ) → (y < x) ⊎ (x + n ≤ y) → is_in x n y ≡ false
outside n x y (inl h) = grind (arith, nat_tests)
outside n x y (inr h) = grind (arith, nat_tests)

apart : (n x y : ℕ) → (x ≤ y → y < x + n → ⊥) → (y < x) ⊎ (x + n ≤ y)
apart n x y h = elim (cases_lt y x) as (λ _. (y < x) ⊎ (x + n ≤ y)) [
  | inl a ↦ inl a
  | inr a ↦ elim (cases_lt y (x + n)) as (λ _. (y < x) ⊎ (x + n ≤ y)) [
    | inl b ↦ absurd (h a b)
    | inr b ↦ inr b
  ]
]

-- one that is written, and one that is not
pub byte_here : (n x k v y o : ℕ) → y ≡ x + k → k < n → v / 256 ^ k % 256 ≡ unwrap_or (if is_in x n y then Some (v / 256 ^ (y - x) % 256) else None) o
byte_here n x k v y o e h = rw (inside n x y (omega arith) (omega arith)) (sym (byte_there x k v y e))

pub byte_elsewhere : (n x v y o : ℕ) → (y < x) ⊎ (x + n ≤ y) → o ≡ unwrap_or (if is_in x n y then Some (v / 256 ^ (y - x) % 256) else None) o
byte_elsewhere n x v y o h = rw (outside n x y h) refl

pub byte_written : (x v y o a : ℕ) → a ≡ (if y == x then v % 256 else o) → a ≡ unwrap_or (if is_in x 1 y then Some (v / 256 ^ (y - x) % 256) else None) o
byte_written x v y o a e = elim (cases_eq y x) as (λ _. a ≡ unwrap_or (if is_in x 1 y then Some (v / 256 ^ (y - x) % 256) else None) o) [
  | inl q ↦ (let t : a ≡ v / 256 ^ 0 % 256 = grind (arith, nat_tests) in t ∙ byte_here 1 x 0 v y o (omega arith) (omega arith))
  | inr q ↦ (let t : a ≡ o = grind (arith, nat_tests) in t ∙ byte_elsewhere 1 x v y o (apart 1 x y (λ h g. q (omega arith))))
]

pub half_written : (x v y o a b : ℕ) → a ≡ (if y == x then v % 256 else o) → b ≡ (if y == x + 1 then v / 256 % 256 else a) → b ≡ unwrap_or (if is_in x 2 y then Some (v / 256 ^ (y - x) % 256) else None) o
half_written x v y o a b e f = elim (cases_eq y (x + 1)) as (λ _. b ≡ unwrap_or (if is_in x 2 y then Some (v / 256 ^ (y - x) % 256) else None) o) [
  | inl q ↦ (let t : b ≡ v / 256 ^ 1 % 256 = grind (arith, nat_tests) in t ∙ byte_here 2 x 1 v y o q (omega arith))
  | inr q ↦ elim (cases_eq y x) as (λ _. b ≡ unwrap_or (if is_in x 2 y then Some (v / 256 ^ (y - x) % 256) else None) o) [
    | inl p ↦ (let t : b ≡ v / 256 ^ 0 % 256 = grind (arith, nat_tests) in t ∙ byte_here 2 x 0 v y o (omega arith) (omega arith))
    | inr p ↦ (let t : b ≡ o = grind (arith, nat_tests) in t ∙ byte_elsewhere 2 x v y o (apart 2 x y (λ h g. q (omega arith))))
  ]
]

pub word_written : (x v y o a b c d : ℕ) → v < 2 ^ 32 → a ≡ (if y == x then v % 256 else o) → b ≡ (if y == x + 1 then v / 256 % 256 else a) → c ≡ (if y == x + 2 then v / 65536 % 256 else b) → d ≡ (if y == x + 3 then v / 16777216 else c) → d ≡ unwrap_or (if is_in x 4 y then Some (v / 256 ^ (y - x) % 256) else None) o
word_written x v y o a b c d fits e f g h = elim (cases_eq y (x + 3)) as (λ _. d ≡ unwrap_or (if is_in x 4 y then Some (v / 256 ^ (y - x) % 256) else None) o) [
  | inl q ↦ (let t : d ≡ v / 16777216 = grind (arith, nat_tests) in let s : v / 16777216 ≡ v / 16777216 % 256 = omega arith in t ∙ (s ∙ byte_here 4 x 3 v y o q (omega arith)))
  | inr q ↦ (let t : d ≡ c = grind (arith, nat_tests) in t ∙ elim (cases_eq y (x + 2)) as (λ _. c ≡ unwrap_or (if is_in x 4 y then Some (v / 256 ^ (y - x) % 256) else None) o) [
    | inl p ↦ (let s : c ≡ v / 256 ^ 2 % 256 = grind (arith, nat_tests) in s ∙ byte_here 4 x 2 v y o p (omega arith))
    | inr p ↦ (let s : c ≡ b = grind (arith, nat_tests) in s ∙ elim (cases_eq y (x + 1)) as (λ _. b ≡ unwrap_or (if is_in x 4 y then Some (v / 256 ^ (y - x) % 256) else None) o) [
      | inl r ↦ (let u : b ≡ v / 256 ^ 1 % 256 = grind (arith, nat_tests) in u ∙ byte_here 4 x 1 v y o r (omega arith))
      | inr r ↦ (let u : b ≡ a = grind (arith, nat_tests) in u ∙ elim (cases_eq y x) as (λ _. a ≡ unwrap_or (if is_in x 4 y then Some (v / 256 ^ (y - x) % 256) else None) o) [
        | inl z ↦ (let w : a ≡ v / 256 ^ 0 % 256 = grind (arith, nat_tests) in w ∙ byte_here 4 x 0 v y o (omega arith) (omega arith))
        | inr z ↦ (let w : a ≡ o = grind (arith, nat_tests) in w ∙ byte_elsewhere 4 x v y o (apart 4 x y (λ above below. z (omega arith))))
      ])
    ])
  ])
]

-- the byte at an offset of a write
pub byte_of_at : (n x v y k : ℕ) → x ≤ y → y < x + n → y - x ≡ k → (if is_in x n y then Some (v / 256 ^ (y - x) % 256) else None) ≡ Some (v / 256 ^ k % 256)
byte_of_at n x v y k h g e = rw (inside n x y h g) (ap (λ z. Some (v / 256 ^ z % 256)) e)

pub byte_of_none : (n x v y : ℕ) → (y < x) ⊎ (x + n ≤ y) → (if is_in x n y then Some (v / 256 ^ (y - x) % 256) else None) ≡ None
byte_of_none n x v y h = rw (outside n x y h) refl

-- ---- the view through a buffer

pub view-push : (m : Bytes) (ws : List Write) (w : Write) → view m (ws ++ w ∷ []) ≡ written (view m ws) w
view-push m [] w = refl
view-push m (x ∷ ws) w = view-push (written m x) ws w

view-more : (m : Bytes) (ws : List Write) (k x : ℕ) (d : Write) → k < length ws → view m (take (k + 1) ws) x ≡ unwrap_or (byte_of (get_or ws k d) x) (view m (take k ws) x)
view-more m ws k x d h = rw (take_more ws k d h) (ap (λ f. f x) (view-push m (take k ws) (get_or ws k d)))

-- the newest of the first n writes has the byte, or the view before it has
pub view-found : (m : Bytes) (ws : List Write) (n x : ℕ) (d : Write) (b : ℕ) → 0 < n → n ≤ length ws → view m (take n ws) x ≡ view m ws x → Some b ≡ byte_of (get_or ws (n - 1) d) x → b ≡ view m ws x
view-found m ws n x d b some h e f =
    let last : n - 1 + 1 ≡ n = omega arith in
    let here = view-more m ws (n - 1) x d (omega arith) in
    ap (λ o. unwrap_or o (view m (take (n - 1) ws) x)) f ∙ (sym here ∙ (ap (λ z. view m (take z ws) x) last ∙ e))

pub view-passed : (m : Bytes) (ws : List Write) (n x : ℕ) (d : Write) → 0 < n → n ≤ length ws → view m (take n ws) x ≡ view m ws x → None ≡ byte_of (get_or ws (n - 1) d) x → view m (take (n - 1) ws) x ≡ view m ws x
view-passed m ws n x d some h e f =
    let last : n - 1 + 1 ≡ n = omega arith in
    let here = view-more m ws (n - 1) x d (omega arith) in
    ap (λ o. unwrap_or o (view m (take (n - 1) ws) x)) f ∙ (sym here ∙ (ap (λ z. view m (take z ws) x) last ∙ e))
