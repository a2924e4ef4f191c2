-- The table of types that the code keeps: where a shape stands in it, and where it is put.
use Rattle.std.proofs.Common.{◌≡◌, ◌==◌, ◌&&◌, Bool, true, false, cond, List, [], ◌∷◌, ◌++◌, map, refl, sym, ap, ◌∙◌}
use Rattle.std.specs.List.{list_any, position_or_len}
use Rattle.clight_types.specs.contracts.types.ShapePartialEq.TheImpl.{eq-value}
use Rattle.clight_types.specs.contracts.kind.IntegerPartialEq.TheImpl.{eq-value as integer_eq}
use Rattle.clight_types.specs.contracts.kind.AlignmentPartialEq.TheImpl.{eq-value as align_eq}
use Rattle.clight_types.specs.declared.kind.Alignment.{Alignment}
use Rattle.clight_types.specs.declared.kind.Alignment.TheVariants as l
use Rattle.clight_types.specs.Alignments.{bytes_in}
use Rattle.clight_types.specs.declared.kind.Integer.{Integer}
use Rattle.clight_types.specs.declared.kind.Integer.TheVariants as i
use Rattle.clight_types.specs.declared.types.Shape.{Shape}
use Rattle.clight_types.specs.declared.types.Shape.TheVariants as s
use Rattle.clight_types.specs.Types as t
use Rattle.clight_types.specs.Table.{shape_of}

-- a test that agrees with another along a map finds the same
list_any-map : {A B : Type 0} (f : A → B) (p : A → Bool) (q : B → Bool) → ((a : A) → p a ≡ q (f a)) → (xs : List A) → list_any q (map f xs) ≡ list_any p xs
list_any-map f p q same [] = refl
list_any-map f p q same (x ∷ xs) = let h = same x in let ih = list_any-map f p q same xs in cc

position_or_len-map : {A B : Type 0} (f : A → B) (p : A → Bool) (q : B → Bool) → ((a : A) → p a ≡ q (f a)) → (xs : List A) → position_or_len q (map f xs) ≡ position_or_len p xs
position_or_len-map f p q same [] = refl
position_or_len-map f p q same (x ∷ xs) = let h = same x in let ih = position_or_len-map f p q same xs in cc

map-cond : {A B : Type 0} (f : A → B) (b : Bool) (xs ys : List A) → map f (cond b xs ys) ≡ cond b (map f xs) (map f ys)
map-cond f true xs ys = refl
map-cond f false xs ys = refl

map-push : {A B : Type 0} (f : A → B) (xs : List A) (y : A) → map f (xs ++ y ∷ []) ≡ map f xs ++ f y ∷ []
map-push f [] y = refl
map-push f (x ∷ xs) y = ap (λ r. f x ∷ r) (map-push f xs y)

pub integer_eq_is : (a b : Integer) → (integer_eq).it a b ≡ t.same_integer a b
integer_eq_is i.Char i.Char = refl
integer_eq_is i.Char i.UnsignedChar = refl
integer_eq_is i.Char i.Short = refl
integer_eq_is i.Char i.UnsignedShort = refl
integer_eq_is i.Char i.Int = refl
integer_eq_is i.Char i.UnsignedInt = refl
integer_eq_is i.UnsignedChar i.Char = refl
integer_eq_is i.UnsignedChar i.UnsignedChar = refl
integer_eq_is i.UnsignedChar i.Short = refl
integer_eq_is i.UnsignedChar i.UnsignedShort = refl
integer_eq_is i.UnsignedChar i.Int = refl
integer_eq_is i.UnsignedChar i.UnsignedInt = refl
integer_eq_is i.Short i.Char = refl
integer_eq_is i.Short i.UnsignedChar = refl
integer_eq_is i.Short i.Short = refl
integer_eq_is i.Short i.UnsignedShort = refl
integer_eq_is i.Short i.Int = refl
integer_eq_is i.Short i.UnsignedInt = refl
integer_eq_is i.UnsignedShort i.Char = refl
integer_eq_is i.UnsignedShort i.UnsignedChar = refl
integer_eq_is i.UnsignedShort i.Short = refl
integer_eq_is i.UnsignedShort i.UnsignedShort = refl
integer_eq_is i.UnsignedShort i.Int = refl
integer_eq_is i.UnsignedShort i.UnsignedInt = refl
integer_eq_is i.Int i.Char = refl
integer_eq_is i.Int i.UnsignedChar = refl
integer_eq_is i.Int i.Short = refl
integer_eq_is i.Int i.UnsignedShort = refl
integer_eq_is i.Int i.Int = refl
integer_eq_is i.Int i.UnsignedInt = refl
integer_eq_is i.UnsignedInt i.Char = refl
integer_eq_is i.UnsignedInt i.UnsignedChar = refl
integer_eq_is i.UnsignedInt i.Short = refl
integer_eq_is i.UnsignedInt i.UnsignedShort = refl
integer_eq_is i.UnsignedInt i.Int = refl
integer_eq_is i.UnsignedInt i.UnsignedInt = refl

align_eq_is : (a b : Alignment) → (align_eq).it a b ≡ (bytes_in a == bytes_in b)
align_eq_is l.One l.One = refl
align_eq_is l.One l.Two = refl
align_eq_is l.One l.Four = refl
align_eq_is l.Two l.One = refl
align_eq_is l.Two l.Two = refl
align_eq_is l.Two l.Four = refl
align_eq_is l.Four l.One = refl
align_eq_is l.Four l.Two = refl
align_eq_is l.Four l.Four = refl

pub shape_eq_is : (a b : Shape) → (eq-value).it a b ≡ t.same_shape (shape_of a) (shape_of b)
shape_eq_is s.Void s.Void = refl
shape_eq_is s.Void (s.Integer b) = refl
shape_eq_is s.Void (s.Pointer b) = refl
shape_eq_is s.Void (s.Array b m y k) = refl
shape_eq_is s.Void (s.Struct b) = refl
shape_eq_is s.Void (s.Function b qs) = refl
shape_eq_is (s.Integer a) s.Void = refl
shape_eq_is (s.Integer a) (s.Integer b) = integer_eq_is a b
shape_eq_is (s.Integer a) (s.Pointer b) = refl
shape_eq_is (s.Integer a) (s.Array b m y k) = refl
shape_eq_is (s.Integer a) (s.Struct b) = refl
shape_eq_is (s.Integer a) (s.Function b qs) = refl
shape_eq_is (s.Pointer a) s.Void = refl
shape_eq_is (s.Pointer a) (s.Integer b) = refl
shape_eq_is (s.Pointer a) (s.Pointer b) = refl
shape_eq_is (s.Pointer a) (s.Array b m y k) = refl
shape_eq_is (s.Pointer a) (s.Struct b) = refl
shape_eq_is (s.Pointer a) (s.Function b qs) = refl
shape_eq_is (s.Array a n z l) s.Void = refl
shape_eq_is (s.Array a n z l) (s.Integer b) = refl
shape_eq_is (s.Array a n z l) (s.Pointer b) = refl
shape_eq_is (s.Array a n z l) (s.Array b m y k) = ap (λ e. a == b && (n == m && (z == y && e))) (align_eq_is l k)
shape_eq_is (s.Array a n z l) (s.Struct b) = refl
shape_eq_is (s.Array a n z l) (s.Function b qs) = refl
shape_eq_is (s.Struct a) s.Void = refl
shape_eq_is (s.Struct a) (s.Integer b) = refl
shape_eq_is (s.Struct a) (s.Pointer b) = refl
shape_eq_is (s.Struct a) (s.Array b m y k) = refl
shape_eq_is (s.Struct a) (s.Struct b) = refl
shape_eq_is (s.Struct a) (s.Function b qs) = refl
shape_eq_is (s.Function a ps) s.Void = refl
shape_eq_is (s.Function a ps) (s.Integer b) = refl
shape_eq_is (s.Function a ps) (s.Pointer b) = refl
shape_eq_is (s.Function a ps) (s.Array b m y k) = refl
shape_eq_is (s.Function a ps) (s.Struct b) = refl
shape_eq_is (s.Function a ps) (s.Function b qs) = refl

-- the shapes behind an insertion, and the number of the one that was inserted
pub shapes_with-map : (keys : List Shape) (k : Shape) → map shape_of (cond (list_any ((eq-value).it k) keys) keys (keys ++ k ∷ [])) ≡ t.shapes_with (map shape_of keys) (shape_of k)
shapes_with-map keys k =
    let a = list_any-map shape_of ((eq-value).it k) (t.same_shape (shape_of k)) (shape_eq_is k) keys in
    map-cond shape_of _ keys _ ∙ (ap (λ r. cond (list_any ((eq-value).it k) keys) (map shape_of keys) r) (map-push shape_of keys k) ∙ ap (λ b. cond b (map shape_of keys) (map shape_of keys ++ shape_of k ∷ [])) (sym a))

pub number_in-map : (keys : List Shape) (k : Shape) → position_or_len ((eq-value).it k) keys ≡ t.number_in (map shape_of keys) (shape_of k)
number_in-map keys k = sym (position_or_len-map shape_of ((eq-value).it k) (t.same_shape (shape_of k)) (shape_eq_is k) keys)
