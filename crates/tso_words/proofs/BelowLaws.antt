-- Laws of the order in which less is known: what is answered of more is more.
use Rattle.std.proofs.Common.{◌≡◌, ℕ, zero, suc, Bool, true, false, List, [], ◌∷◌, Option, Some, None, refl, subst}
use Rattle.std.specs.Prelude.{if◌then◌else◌, nat_lt}
use Rattle.std.specs.List.{AllZip}
use Rattle.tso_words.specs.declared.value.Val.{Val}
use Rattle.tso_words.specs.declared.value.Val.TheVariants.{Undef, Word}
use Rattle.tso_words.specs.declared.value.Cell.{Cell}
use Rattle.tso_words.specs.declared.value.Cell.TheVariants.{Blank, Byte}
use Rattle.tso_words.specs.declared.value.Chunk.{Chunk}
use Rattle.tso_words.specs.declared.operator.Cond.{Cond}
use Rattle.tso_words.specs.declared.operator.Op.{Op}
use Rattle.tso_words.specs.declared.operator.Op.TheVariants.{DivS, ModS, DivU, ModU, Shl, ShrS, ShrU, Neg, Not, Cast8s, Cast8u, Cast16s, Cast16u}
use Rattle.tso_words.specs.Words.{chunk_size, byte_of, bytes_from, bytes_of, with_byte, number_of, extend, value_of}
use Rattle.tso_words.specs.Operators.{compare, of_one, of_two, of_division, of_shift, operate, operate_one, operate_two}
use Rattle.tso_words.specs.Below.{ValBelow, CellBelow, ValsBelow, CellsBelow, AnswerBelow}

-- ---- the order

pub ValBelow_refl : (v : Val) → ValBelow v v
ValBelow_refl Undef = tt
ValBelow_refl (Word a) = refl

pub ValBelow_trans : (u v w : Val) → ValBelow u v → ValBelow v w → ValBelow u w
ValBelow_trans Undef v w h k = tt
ValBelow_trans (Word a) v w h k = let P : Val → Type 0 = λ x. ValBelow x w in subst P h k

pub CellBelow_refl : (c : Cell) → CellBelow c c
CellBelow_refl Blank = tt
CellBelow_refl (Byte b) = refl

pub CellBelow_trans : (b c d : Cell) → CellBelow b c → CellBelow c d → CellBelow b d
CellBelow_trans Blank c d h k = tt
CellBelow_trans (Byte b) c d h k = let P : Cell → Type 0 = λ x. CellBelow x d in subst P h k

pub AllZip_refl : {A : Type 0} (R : A → A → Type 0) → ((x : A) → R x x) → (xs : List A) → AllZip R xs xs
AllZip_refl R r [] = tt
AllZip_refl R r (x ∷ xs) = (r x, AllZip_refl R r xs)

pub AllZip_trans : {A : Type 0} (R : A → A → Type 0) → ((x y z : A) → R x y → R y z → R x z) → (xs ys zs : List A) → AllZip R xs ys → AllZip R ys zs → AllZip R xs zs
AllZip_trans R t [] [] [] h k = tt
AllZip_trans R t [] [] (z ∷ zs) h k = absurd k
AllZip_trans R t [] (y ∷ ys) zs h k = absurd h
AllZip_trans R t (x ∷ xs) [] zs h k = absurd h
AllZip_trans R t (x ∷ xs) (y ∷ ys) [] h k = absurd k
AllZip_trans R t (x ∷ xs) (y ∷ ys) (z ∷ zs) h k = (t x y z h.0 k.0, AllZip_trans R t xs ys zs h.1 k.1)

-- ---- answers

-- what the first answers, the second answers with no less
pub above_some : {A B : Type 0} (R : A → B → Type 0) (p : Option A) (q : Option B) (v : A) → AnswerBelow R p q → p ≡ Some v → (w : B) × (q ≡ Some w) × R v w
above_some R None q v h e = cc
above_some R (Some u) None v h e = absurd h
above_some {A} {B} R (Some u) (Some w) v h e = (w, refl, let P : Option A → Type 0 = λ o. AnswerBelow R o (Some w) in subst P e h)

-- where the second is wrong, the first is
pub below_none : {A B : Type 0} (R : A → B → Type 0) (p : Option A) (q : Option B) → AnswerBelow R p q → q ≡ None → p ≡ None
below_none R None q h e = refl
below_none R (Some u) None h e = absurd h
below_none R (Some u) (Some w) h e = cc

-- ---- operators

same_answer : (p : Option Val) → AnswerBelow ValBelow p p
same_answer None = tt
same_answer (Some v) = ValBelow_refl v

one_below : (f : ℕ → ℕ) (v w : Val) → ValBelow v w → AnswerBelow ValBelow (of_one f v) (of_one f w)
one_below f Undef Undef h = tt
one_below f Undef (Word b) h = tt
one_below f (Word a) w h = rw h refl

two_below : (f : ℕ → ℕ → ℕ) (v w v' w' : Val) → ValBelow v v' → ValBelow w w' → AnswerBelow ValBelow (of_two f v w) (of_two f v' w')
two_below f Undef w Undef w' h k = tt
two_below f Undef w (Word a) Undef h k = tt
two_below f Undef w (Word a) (Word b) h k = tt
two_below f (Word a) Undef v' Undef h k = rw h tt
two_below f (Word a) Undef v' (Word b) h k = rw h tt
two_below f (Word a) (Word b) v' w' h k = rw (h, k) refl

division_below : (may : ℕ → ℕ → Bool) (f : ℕ → ℕ → ℕ) (v w v' w' : Val) → ValBelow v v' → ValBelow w w' → AnswerBelow ValBelow (of_division may f v w) (of_division may f v' w')
division_below may f Undef w v' w' h k = tt
division_below may f (Word a) Undef v' w' h k = tt
division_below may f (Word a) (Word b) v' w' h k = rw (h, k) (same_answer (if may a b then Some (Word (f a b)) else None))

shift_below : (f : ℕ → ℕ → ℕ) (v w v' w' : Val) → ValBelow v v' → ValBelow w w' → AnswerBelow ValBelow (of_shift f v w) (of_shift f v' w')
shift_below f v Undef v' w' h k = tt
shift_below f v (Word n) v' w' h k = rw k (elim (nat_lt n 32) as (λ b. AnswerBelow ValBelow (if b then of_one (λ a. f a n) v else None) (if b then of_one (λ a. f a n) v' else None)) [ true ↦ one_below (λ a. f a n) v v' h | false ↦ tt ])

one_operand_below : (op : Op) (v w : Val) → ValBelow v w → AnswerBelow ValBelow (operate_one op v) (operate_one op w)
one_operand_below Neg v w h = one_below _ v w h
one_operand_below Not v w h = one_below _ v w h
one_operand_below Cast8s v w h = one_below _ v w h
one_operand_below Cast8u v w h = one_below _ v w h
one_operand_below Cast16s v w h = one_below _ v w h
one_operand_below Cast16u v w h = one_below _ v w h
one_operand_below _ v w h = tt

two_operands_below : (op : Op) (v w v' w' : Val) → ValBelow v v' → ValBelow w w' → AnswerBelow ValBelow (operate_two op v w) (operate_two op v' w')
two_operands_below Neg v w v' w' h k = tt
two_operands_below Not v w v' w' h k = tt
two_operands_below Cast8s v w v' w' h k = tt
two_operands_below Cast8u v w v' w' h k = tt
two_operands_below Cast16s v w v' w' h k = tt
two_operands_below Cast16u v w v' w' h k = tt
two_operands_below DivS v w v' w' h k = division_below _ _ v w v' w' h k
two_operands_below ModS v w v' w' h k = division_below _ _ v w v' w' h k
two_operands_below DivU v w v' w' h k = division_below _ _ v w v' w' h k
two_operands_below ModU v w v' w' h k = division_below _ _ v w v' w' h k
two_operands_below Shl v w v' w' h k = shift_below _ v w v' w' h k
two_operands_below ShrS v w v' w' h k = shift_below _ v w v' w' h k
two_operands_below ShrU v w v' w' h k = shift_below _ v w v' w' h k
two_operands_below _ v w v' w' h k = two_below _ v w v' w' h k

-- where more is known of the operands no less is known of the answer, and an operator that is right stays so
pub operate-below : (op : Op) (vs ws : List Val) → ValsBelow vs ws → AnswerBelow ValBelow (operate op vs) (operate op ws)
operate-below op [] ws h = tt
operate-below op (v ∷ []) [] h = absurd h
operate-below op (v ∷ []) (w ∷ []) h = one_operand_below op v w h.0
operate-below op (v ∷ []) (w ∷ w' ∷ ws) h = absurd h.1
operate-below op (v ∷ v' ∷ []) [] h = absurd h
operate-below op (v ∷ v' ∷ []) (w ∷ []) h = absurd h.1
operate-below op (v ∷ v' ∷ []) (w ∷ w' ∷ []) h = two_operands_below op v v' w w' h.0 h.1.0
operate-below op (v ∷ v' ∷ []) (w ∷ w' ∷ w'' ∷ ws) h = absurd h.1.1
operate-below op (v ∷ v' ∷ v'' ∷ vs) ws h = tt

-- a comparison that is known stays the same
pub compare-below : (c : Cond) (v w v' w' : Val) → ValBelow v v' → ValBelow w w' → AnswerBelow (λ r s. s ≡ r) (compare c v w) (compare c v' w')
compare-below c Undef w v' w' h k = tt
compare-below c (Word a) Undef v' w' h k = tt
compare-below c (Word a) (Word b) v' w' h k = rw (h, k) refl

-- ---- bytes

byte_below : (v w : Val) (i : ℕ) → ValBelow v w → CellBelow (byte_of v i) (byte_of w i)
byte_below Undef w i h = tt
byte_below (Word a) w i h = rw h refl

bytes_from_below : (v w : Val) (i n : ℕ) → ValBelow v w → CellsBelow (bytes_from v i n) (bytes_from w i n)
bytes_from_below v w i zero h = tt
bytes_from_below v w i (suc n) h = (byte_below v w i h, bytes_from_below v w (suc i) n h)

-- the bytes of more are more
pub bytes_of-below : (c : Chunk) (v w : Val) → ValBelow v w → CellsBelow (bytes_of c v) (bytes_of c w)
bytes_of-below c v w h = bytes_from_below v w 0 (chunk_size c) h

with_byte_below : (b : ℕ) (v w : Val) → ValBelow v w → ValBelow (with_byte b v) (with_byte b w)
with_byte_below b Undef w h = tt
with_byte_below b (Word a) w h = rw h refl

number_below : (cs ds : List Cell) → CellsBelow cs ds → ValBelow (number_of cs) (number_of ds)
number_below [] [] h = refl
number_below [] (d ∷ ds) h = absurd h
number_below (c ∷ cs) [] h = absurd h
number_below (Blank ∷ cs) (d ∷ ds) h = tt
number_below (Byte b ∷ cs) (d ∷ ds) h = rw h.0 (with_byte_below b (number_of cs) (number_of ds) (number_below cs ds h.1))

extend_below : (c : Chunk) (v w : Val) → ValBelow v w → ValBelow (extend c v) (extend c w)
extend_below c Undef w h = tt
extend_below c (Word a) w h = rw h refl

-- the value of more cells is more
pub value_of-below : (c : Chunk) (cs ds : List Cell) → CellsBelow cs ds → ValBelow (value_of c cs) (value_of c ds)
value_of-below c cs ds h = extend_below c (number_of cs) (number_of ds) (number_below cs ds h)
