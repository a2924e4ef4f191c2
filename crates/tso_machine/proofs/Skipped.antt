-- Walks one after another, and the least address that they find.
use Rattle.std.proofs.Common.{◌≡◌, ◌≤◌, ◌<◌, ◌+◌, ◌%◌, ◌⊎◌, inl, inr, ℕ, zero, suc, Bool, true, false, refl, sym, ap, subst, ◌∙◌, arith, List, [], ◌∷◌, length, get_or, take, drop, map}
use Rattle.std.specs.Prelude.{◌&&◌}
use Rattle.std.specs.List.{list_all}
use Rattle.std.proofs.lemmas.Bool.{cases_lt, and_left, and_right}
use Rattle.tso_memory.specs.declared.buffer.Item.{Item}
use Rattle.tso_memory.specs.Buffer.{BufferMeaning, unplaced, places_lifted, pending_ok}
use Rattle.tso_core.specs.Least.{Skips}

-- a test that answers the same
pub skips_same : (p q : ℕ → Bool) (x y : ℕ) → ((a : ℕ) → p a ≡ q a) → Skips p x y → Skips q x y
skips_same p q x y f s = record {
  high = s.high;
  multiple = s.multiple;
  none = λ a l h m. sym (f a) ∙ s.none a l h m;
  passes = λ e. sym (f x) ∙ s.passes e;
}

both_true : (a b : Bool) → a ≡ true → b ≡ true → (a && b) ≡ true
both_true true true e f = refl
both_true true false e f = f
both_true false b e f = e

-- one walk behind another
pub skips_both : (p q : ℕ → Bool) (x y z : ℕ) → Skips p x y → Skips q y z → Skips (λ a. p a && q a) x z
skips_both p q x y z s t =
    let up : x ≤ y = s.high in
    let further : y ≤ z = t.high in
    record {
      high = omega arith;
      multiple = λ k. t.multiple (s.multiple k);
      none = λ a l h k. left a l h k (cases_lt a y);
      passes = λ e.
          let same : y ≡ x = omega arith in
          let stays : z ≡ y = omega arith in
          both_true (p x) (q x) (s.passes same) (subst (λ w. q w ≡ true) same (t.passes stays));
    }
  where
    left : (a : ℕ) → x ≤ a → a < z → a % 16 ≡ 0 → (a < y) ⊎ (y ≤ a) → (p a && q a) ≡ false
    left a l h k (inl lt) = and_left (p a) (q a) (s.none a l lt k)
    left a l h k (inr ge) = and_right (p a) (q a) (t.none a ge h k)

-- the buffers of the others in front, the own one, and those behind it
list_all-map : {X Y : Type 0} (p : Y → Bool) (f : X → Y) (xs : List X) → list_all p (map f xs) ≡ list_all (λ x. p (f x)) xs
list_all-map p f [] = refl
list_all-map p f (x ∷ xs) = ap (λ z. p (f x) && z) (list_all-map p f xs)

and_assoc : (a b c : Bool) → (a && (b && c)) ≡ ((a && b) && c)
and_assoc true b c = refl
and_assoc false b c = refl

pending-parts : (base size t : ℕ) (bs : List BufferMeaning) (d : BufferMeaning) → t < length bs → pending_ok base size t (map (λ b. b.items) bs) ≡ (list_all (λ b. unplaced base size b.items) (take t bs) && (places_lifted base size (get_or bs t d).items && list_all (λ b. unplaced base size b.items) (drop (t + 1) bs)))
pending-parts base size t [] d h = absurd (omega arith)
pending-parts base size zero (b ∷ bs) d h = ap (λ z. places_lifted base size b.items && z) (list_all-map (unplaced base size) (λ b. b.items) bs)
pending-parts base size (suc t) (b ∷ bs) d h =
    let next : suc t + 1 ≡ suc (t + 1) = omega arith in
    ap (λ z. unplaced base size b.items && z) (pending-parts base size t bs d (omega arith)) ∙ (and_assoc (unplaced base size b.items) (list_all (λ b. unplaced base size b.items) (take t bs)) (places_lifted base size (get_or bs t d).items && list_all (λ b. unplaced base size b.items) (drop (t + 1) bs)) ∙ ap (λ z. list_all (λ b. unplaced base size b.items) (take (suc t) (b ∷ bs)) && (places_lifted base size (get_or bs t d).items && list_all (λ b. unplaced base size b.items) (drop z (b ∷ bs)))) (sym next))

pub skips_pending : (size t : ℕ) (bs : List BufferMeaning) (d : BufferMeaning) (own : List Item) (rest : List BufferMeaning) (w x y z : ℕ) → t < length bs → own ≡ (get_or bs t d).items → rest ≡ drop (t + 1) bs → Skips (λ a. list_all (λ b. unplaced a size b.items) (take t bs)) w x → Skips (λ a. places_lifted a size own) x y → Skips (λ a. list_all (λ b. unplaced a size b.items) rest) y z → Skips (λ a. pending_ok a size t (map (λ b. b.items) bs)) w z
skips_pending size t bs d own rest w x y z h e f s u v =
    skips_same (λ a. list_all (λ b. unplaced a size b.items) (take t bs) && (places_lifted a size own && list_all (λ b. unplaced a size b.items) rest)) (λ a. pending_ok a size t (map (λ b. b.items) bs)) w z
    (λ a. ap (λ l. list_all (λ b. unplaced a size b.items) (take t bs) && (places_lifted a size l && list_all (λ b. unplaced a size b.items) rest)) e ∙ (ap (λ l. list_all (λ b. unplaced a size b.items) (take t bs) && (places_lifted a size (get_or bs t d).items && list_all (λ b. unplaced a size b.items) l)) f ∙ sym (pending-parts a size t bs d h)))
    (skips_both (λ a. list_all (λ b. unplaced a size b.items) (take t bs)) (λ a. places_lifted a size own && list_all (λ b. unplaced a size b.items) rest) w x z s (skips_both (λ a. places_lifted a size own) (λ a. list_all (λ b. unplaced a size b.items) rest) x y z u v))
