-- Which values operators and conversions take, and what they give (ISO C99 6.3 and 6.5, a profile).
use Rattle.std.specs.Prelude.{ℕ, ◌==◌, Bool, true, false, ◌&&◌, ◌||◌, not, Option, Some, None, if◌then◌else◌}
use Rattle.c_grammar.specs.Tokens as k
use Rattle.clight_types.specs.declared.kind.Integer.{Integer}
use Rattle.clight_types.specs.declared.kind.Integer.TheVariants.{Int, UnsignedInt}
use Rattle.clight_types.specs.declared.kind.Value.{Value}
use Rattle.clight_types.specs.declared.kind.Value.TheVariants as v
use Rattle.clight_types.specs.declared.kind.Constant.{Constant}
use Rattle.clight_types.specs.declared.kind.Constant.TheVariants as constant
use Rattle.clight_types.specs.Types.{Types, is_complete, is_function, is_void, void_type}

-- the integer promotions (6.3.1.1), and the common type of two integers (6.3.1.8)
abbrev pub promoted : Integer → Integer
promoted UnsignedInt = UnsignedInt
promoted _ = Int

abbrev pub common_of : Integer → Integer → Integer
common_of UnsignedInt j = UnsignedInt
common_of _ j = promoted j

abbrev pub is_scalar_value : Value → Bool
is_scalar_value (v.Integer i) = true
is_scalar_value (v.Pointer t) = true
is_scalar_value v.Struct = false
is_scalar_value v.Void = false

abbrev pub is_integer_value : Value → Bool
is_integer_value (v.Integer i) = true
is_integer_value _ = false

abbrev pub is_struct_value : Value → Bool
is_struct_value v.Struct = true
is_struct_value _ = false

-- a constant expression with the value 0
abbrev pub is_null : Constant → Bool
is_null (constant.Known w) = w == 0
is_null _ = false

-- a pointer to an object, or `void *`: no pointer to a function
abbrev pub points_to_object : Types → ℕ → Bool
points_to_object types t = not (is_function types t)

-- two pointers of which one is `void *` and the other points to an object
abbrev pub meet_as_void : Types → ℕ → ℕ → Bool
meet_as_void types t u = points_to_object types t && points_to_object types u && (is_void types t || is_void types u)

-- ## Conversions without a cast (6.5.16.1): integers to integers, a null constant to a pointer, and an object's pointer from and to `void *`

abbrev pub to_pointer : Types → Value → Constant → ℕ → Bool
to_pointer types (v.Pointer t) c u = t == u || meet_as_void types t u
to_pointer types (v.Integer i) c u = is_null c
to_pointer types v.Struct c u = false
to_pointer types v.Void c u = false

abbrev pub converts : Types → Value → Constant → Value → Bool
converts types from c (v.Integer i) = is_integer_value from
converts types from c (v.Pointer u) = to_pointer types from c u
converts types from c v.Struct = false
converts types from c v.Void = false

-- ## Operators

-- the value of two integers, a pointer and an integer, an integer and a pointer, two pointers
pub record OnKinds : Type 0 where
  pub integers : Integer → Integer → Option Value
  pub pointer_first : ℕ → Bool → Option Value
  pub pointer_second : ℕ → Bool → Option Value
  pub pointers : ℕ → ℕ → Option Value

-- the Bool says whether the integer is a null constant
abbrev pub on_kinds : OnKinds → Value → Constant → Value → Constant → Option Value
on_kinds on (v.Integer i) c (v.Integer j) d = on.integers i j
on_kinds on (v.Integer i) c (v.Pointer u) d = on.pointer_second u (is_null c)
on_kinds on (v.Pointer t) c (v.Integer j) d = on.pointer_first t (is_null d)
on_kinds on (v.Pointer t) c (v.Pointer u) d = on.pointers t u
on_kinds on _ c _ d = None

abbrev pub given_if : Bool → Value → Option Value
given_if true x = Some x
given_if false x = None

abbrev pub int_value : Value
int_value = v.Integer Int

abbrev pub on_integers_alone : (Integer → Integer → Integer) → OnKinds
on_integers_alone f = record { integers = λ i j. Some (v.Integer (f i j)); pointer_first = λ t b. None; pointer_second = λ u b. None; pointers = λ t u. None }

-- `==` and the like compare integers, pointers of one type, a pointer and `void *`, and a pointer and a null constant (6.5.8, 6.5.9)
abbrev pub comparing : Types → OnKinds
comparing types = record { integers = λ i j. Some int_value; pointer_first = λ t b. given_if b int_value; pointer_second = λ u b. given_if b int_value; pointers = λ t u. given_if (t == u || (is_void types t || is_void types u)) int_value }

-- a pointer to a complete type moves by an integer, and two of one type have a difference (6.5.6)
abbrev pub adding : Types → OnKinds
adding types = record { integers = λ i j. Some (v.Integer (common_of i j)); pointer_first = λ t b. given_if (is_complete types t) (v.Pointer t); pointer_second = λ u b. given_if (is_complete types u) (v.Pointer u); pointers = λ t u. None }

abbrev pub subtracting : Types → OnKinds
subtracting types = record { integers = λ i j. Some (v.Integer (common_of i j)); pointer_first = λ t b. given_if (is_complete types t) (v.Pointer t); pointer_second = λ u b. None; pointers = λ t u. given_if (t == u && is_complete types t) int_value }

-- the last two operands of `?:` (6.5.15)
abbrev pub joining : Types → OnKinds
joining types = record { integers = λ i j. Some (v.Integer (common_of i j)); pointer_first = λ t b. given_if b (v.Pointer t); pointer_second = λ u b. given_if b (v.Pointer u); pointers = λ t u. if t == u then Some (v.Pointer t) else given_if (meet_as_void types t u) (v.Pointer void_type) }

-- what an operator between two values gives; None where it does not take them
abbrev pub operated : Types → k.Operator → Value → Constant → Value → Constant → Option Value
operated types k.LogicalOr a c b d = given_if (is_scalar_value a && is_scalar_value b) int_value
operated types k.LogicalAnd a c b d = given_if (is_scalar_value a && is_scalar_value b) int_value
operated types k.Equal a c b d = on_kinds (comparing types) a c b d
operated types k.NotEqual a c b d = on_kinds (comparing types) a c b d
operated types k.Less a c b d = on_kinds (comparing types) a c b d
operated types k.Greater a c b d = on_kinds (comparing types) a c b d
operated types k.LessEqual a c b d = on_kinds (comparing types) a c b d
operated types k.GreaterEqual a c b d = on_kinds (comparing types) a c b d
operated types k.ShiftLeft a c b d = on_kinds (on_integers_alone (λ i j. promoted i)) a c b d
operated types k.ShiftRight a c b d = on_kinds (on_integers_alone (λ i j. promoted i)) a c b d
operated types k.Plus a c b d = on_kinds (adding types) a c b d
operated types k.Minus a c b d = on_kinds (subtracting types) a c b d
operated types k.BitOr a c b d = on_kinds (on_integers_alone common_of) a c b d
operated types k.BitXor a c b d = on_kinds (on_integers_alone common_of) a c b d
operated types k.Ampersand a c b d = on_kinds (on_integers_alone common_of) a c b d
operated types k.Star a c b d = on_kinds (on_integers_alone common_of) a c b d
operated types k.Slash a c b d = on_kinds (on_integers_alone common_of) a c b d
operated types k.Percent a c b d = on_kinds (on_integers_alone common_of) a c b d
operated types k.Complement a c b d = None
operated types k.Not a c b d = None

-- whether a compound assignment gives a value of its target's kind: an integer to an integer, a pointer to a pointer
abbrev pub keeps_kind : Option Value → Value → Bool
keeps_kind (Some (v.Integer i)) (v.Integer j) = true
keeps_kind (Some (v.Pointer t)) (v.Pointer u) = true
keeps_kind _ _ = false

abbrev pub promoted_value : Value → Value
promoted_value (v.Integer i) = v.Integer (promoted i)
promoted_value x = x
