-- No two rows of the instruction table fit: two rows fit the same operands only where some shape is taken by both.
use Rattle.std.specs.Prelude.{◌≡◌, ℕ, zero, suc, Bool, true, false, not, ◌&&◌, ◌||◌, List, [], ◌∷◌, Some, unwrap_or, slice_get, bytes_eq, refl}
use Rattle.std.proofs.Common.{sym, ◌∙◌, ap, subst}
use Rattle.std.proofs.lemmas.Slice.Eq.{bytes_eq-Decides}
use Rattle.x86_table.specs.declared.table.Shape.{Shape}
use Rattle.x86_table.specs.declared.table.Shape.TheVariants.{Absent, Word, Byte, Cl, Half, Number, Symbol, Bare, Memory, Through}
use Rattle.x86_table.specs.declared.table.Pattern.{Pattern}
use Rattle.x86_table.specs.declared.table.Form.{Form}
use Rattle.x86_table.specs.Mnemonic.{text_of}
use Rattle.x86_table.specs.Table.{takes, takes_pattern, is_form_of, FitsAtMostOnce}

or_left : (a b : Bool) → a ≡ true → (a || b) ≡ true
or_left true b e = refl
or_left false b e = absurd cc

or_right : (a b : Bool) → b ≡ true → (a || b) ≡ true
or_right true b e = refl
or_right false b e = e

and_true : (a b : Bool) → a ≡ true → b ≡ true → (a && b) ≡ true
and_true true b e f = f
and_true false b e f = e

and_first : (a b : Bool) → (a && b) ≡ true → a ≡ true
and_first true b e = refl
and_first false b e = e

and_second : (a b : Bool) → (a && b) ≡ true → b ≡ true
and_second true b e = e
and_second false b e = absurd cc

-- some shape is taken by both
abbrev both : Shape → Shape → Shape → Bool
both s t u = takes s u && takes t u

abbrev shapes : List Shape
shapes = Absent ∷ Word ∷ Byte ∷ Cl ∷ Half ∷ Number ∷ Symbol ∷ Bare ∷ Memory ∷ Through ∷ []

abbrev any_of : (Shape → Bool) → List Shape → Bool
any_of p [] = false
any_of p (u ∷ us) = p u || any_of p us

any_at : (p : Shape → Bool) (us : List Shape) (i : ℕ) (u : Shape) → slice_get us i ≡ Some u → p u ≡ true → any_of p us ≡ true
any_at p [] i u e h = absurd cc
any_at p (v ∷ us) zero u e h = or_left (p v) _ (let P : Shape → Type 0 = λ w. p w ≡ true in subst P (sym (ap (λ o. unwrap_or o v) e)) h)
any_at p (v ∷ us) (suc i) u e h = or_right (p v) _ (any_at p us i u e h)

abbrev meets : Shape → Shape → Bool
meets s t = any_of (both s t) shapes

meets_at : (s t u : Shape) → takes s u ≡ true → takes t u ≡ true → meets s t ≡ true
meets_at s t Absent e f = any_at (both s t) shapes 0 Absent refl (and_true _ _ e f)
meets_at s t Word e f = any_at (both s t) shapes 1 Word refl (and_true _ _ e f)
meets_at s t Byte e f = any_at (both s t) shapes 2 Byte refl (and_true _ _ e f)
meets_at s t Cl e f = any_at (both s t) shapes 3 Cl refl (and_true _ _ e f)
meets_at s t Half e f = any_at (both s t) shapes 4 Half refl (and_true _ _ e f)
meets_at s t Number e f = any_at (both s t) shapes 5 Number refl (and_true _ _ e f)
meets_at s t Symbol e f = any_at (both s t) shapes 6 Symbol refl (and_true _ _ e f)
meets_at s t Bare e f = any_at (both s t) shapes 7 Bare refl (and_true _ _ e f)
meets_at s t Memory e f = any_at (both s t) shapes 8 Memory refl (and_true _ _ e f)
meets_at s t Through e f = any_at (both s t) shapes 9 Through refl (and_true _ _ e f)

-- two rows of one mnemonic meet at no operands
abbrev apart_if : Bool → Pattern → Pattern → Bool
apart_if false p q = true
apart_if true p q = not (meets p.first q.first && meets p.second q.second)

abbrev apart : Form → Form → Bool
apart f g = apart_if (bytes_eq (text_of f.mnemonic) (text_of g.mnemonic)) f.pattern g.pattern

abbrev all_apart_from : Form → List Form → Bool
all_apart_from f [] = true
all_apart_from f (g ∷ gs) = apart f g && all_apart_from f gs

abbrev pub all_apart : List Form → Bool
all_apart [] = true
all_apart (f ∷ fs) = all_apart_from f fs && all_apart fs

not_both : (a b : Bool) → a ≡ true → b ≡ true → not (a && b) ≡ true → ⊥
not_both true true e f h = cc
not_both true false e f h = cc
not_both false b e f h = cc

met_not_apart : (b : Bool) (p q : Pattern) → b ≡ true → meets p.first q.first ≡ true → meets p.second q.second ≡ true → apart_if b p q ≡ true → ⊥
met_not_apart false p q e h k a = cc
met_not_apart true p q e h k a = not_both _ _ h k a

fit_not_apart : (mnemonic : List ℕ) (given : Pattern) (f g : Form) → is_form_of mnemonic given f ≡ true → is_form_of mnemonic given g ≡ true → apart f g ≡ true → ⊥
fit_not_apart mnemonic given f g e h a =
    let one : text_of f.mnemonic ≡ mnemonic = (bytes_eq-Decides (text_of f.mnemonic) mnemonic).0 (and_first _ _ e) in
    let other : text_of g.mnemonic ≡ mnemonic = (bytes_eq-Decides (text_of g.mnemonic) mnemonic).0 (and_first _ _ h) in
    let same : bytes_eq (text_of f.mnemonic) (text_of g.mnemonic) ≡ true = (bytes_eq-Decides (text_of f.mnemonic) (text_of g.mnemonic)).1 (one ∙ sym other) in
    let p : takes_pattern f.pattern given ≡ true = and_second _ _ e in
    let q : takes_pattern g.pattern given ≡ true = and_second _ _ h in
    met_not_apart _ f.pattern g.pattern same
    (meets_at _ _ given.first (and_first _ _ p) (and_first _ _ q))
    (meets_at _ _ given.second (and_second _ _ p) (and_second _ _ q)) a

some_is : (x y : Form) → Some x ≡ Some y → x ≡ y
some_is x y e = ap (λ o. unwrap_or o x) e

apart_at : (f : Form) (gs : List Form) (j : ℕ) (g : Form) → all_apart_from f gs ≡ true → slice_get gs j ≡ Some g → apart f g ≡ true
apart_at f [] j g a e = absurd cc
apart_at f (x ∷ gs) zero g a e = let P : Form → Type 0 = λ y. apart f y ≡ true in subst P (some_is x g e) (and_first _ _ a)
apart_at f (x ∷ gs) (suc j) g a e = apart_at f gs j g (and_second (apart f x) _ a) e

same_row : (fs : List Form) → all_apart fs ≡ true → (mnemonic : List ℕ) (given : Pattern) (i j : ℕ) (f g : Form) → slice_get fs i ≡ Some f → slice_get fs j ≡ Some g → is_form_of mnemonic given f ≡ true → is_form_of mnemonic given g ≡ true → i ≡ j
same_row [] a mnemonic given i j f g d e h k = absurd cc
same_row (x ∷ fs) a mnemonic given zero zero f g d e h k = refl
same_row (x ∷ fs) a mnemonic given zero (suc j) f g d e h k =
    let P : Form → Type 0 = λ y. is_form_of mnemonic given y ≡ true in
    let h' : is_form_of mnemonic given x ≡ true = subst P (sym (some_is x f d)) h in
    absurd (fit_not_apart mnemonic given x g h' k (apart_at x fs j g (and_first _ _ a) e))
same_row (x ∷ fs) a mnemonic given (suc i) zero f g d e h k =
    let P : Form → Type 0 = λ y. is_form_of mnemonic given y ≡ true in
    let k' : is_form_of mnemonic given x ≡ true = subst P (sym (some_is x g e)) k in
    absurd (fit_not_apart mnemonic given x f k' h (apart_at x fs i f (and_first _ _ a) d))
same_row (x ∷ fs) a mnemonic given (suc i) (suc j) f g d e h k =
    ap suc (same_row fs (and_second (all_apart_from x fs) _ a) mnemonic given i j f g d e h k)

pub fits_at_most_once : (fs : List Form) → all_apart fs ≡ true → FitsAtMostOnce fs
fits_at_most_once fs a = record { same_row = same_row fs a }
