-- What a declarator makes of the type that its specifiers give (ISO C99 6.7.5): pointers, arrays and functions, from the outermost part on.
use Rattle.std.specs.Prelude.{ℕ, ◌*◌, Bool, true, false, ◌||◌, not, nat_lt, List, [], ◌∷◌, map, Option, Some, None, if◌then◌else◌}
use Rattle.clight_types.specs.Types.{Spelling, Types, Shape, PointerShape, FunctionShape, ArrayShape, with_shape, shape_at, array_shape, size_at, is_function, is_function_shape, is_array_shape, is_incomplete, is_struct, type_limit}

-- the length of an array: left out, not one that an array may have, or a number
pub data Length : Type 0 where
  NoLength BadLength : Length
  Elements : ℕ → Length

-- a parameter: its name, where it has one, its place and its type
pub record ParameterOf : Type 0 where
  pub name : Option Spelling
  pub at : ℕ
  pub type : ℕ

pub data Part : Type 0 where
  PointerPart : Part
  ArrayPart : Length → Part
  FunctionPart : List ParameterOf → Part

-- the type so far, where there is one, and what was wrong on the way: an incomplete element; a bad length, or an array of functions, or a function that gives an array or a function; a type that is too large; a struct as a result
pub record Built : Type 0 where
  pub types : Types
  pub type : Option ℕ
  pub has_incomplete : Bool
  pub is_wrong : Bool
  pub is_large : Bool
  pub gives_struct : Bool

abbrev pub begun : Types → ℕ → Built
begun types t = record { types = types; type = Some t; has_incomplete = false; is_wrong = false; is_large = false; gives_struct = false }

-- one type more, of a shape
abbrev pub shaped : Built → Shape → Built
shaped b s = let r = with_shape b.types s in record b { types = r.0; type = Some r.1 }

abbrev pub refused : Built → Built
refused b = record b { type = None; is_wrong = true }

abbrev pub with_function : Built → ℕ → List ParameterOf → Built
with_function b t ps =
    if is_function_shape (shape_at b.types t) || is_array_shape (shape_at b.types t) then refused b
    else (let c = shaped b (FunctionShape t (map (λ p. p.type) ps)) in record c { gives_struct = b.gives_struct || is_struct b.types t })

-- an array whose element is not complete, or is a function, is no type
abbrev pub with_bad_array : Built → ℕ → Bool → Built
with_bad_array b t length_is_wrong = record b { type = None; has_incomplete = b.has_incomplete || is_incomplete b.types t; is_wrong = b.is_wrong || length_is_wrong || is_function b.types t }

abbrev pub is_no_element : Types → ℕ → Bool
is_no_element types t = is_incomplete types t || is_function types t

abbrev pub with_elements : Built → ℕ → ℕ → Built
with_elements b t n =
    if is_no_element b.types t then with_bad_array b t false
    else (let c = shaped b (array_shape b.types t n) in record c { is_large = b.is_large || nat_lt type_limit (size_at b.types t * n) })

-- the outermost bracket of a parameter may be empty: the parameter is a pointer
abbrev pub with_open_array : Built → ℕ → Bool → Built
with_open_array b t excused =
    if is_no_element b.types t || not excused then with_bad_array b t (not excused)
    else shaped b (PointerShape t)

abbrev pub with_array : Built → ℕ → Bool → Length → Built
with_array b t excused NoLength = with_open_array b t excused
with_array b t excused BadLength = with_bad_array b t true
with_array b t excused (Elements n) = with_elements b t n

abbrev pub with_part : Built → ℕ → Bool → Part → Built
with_part b t excused PointerPart = shaped b (PointerShape t)
with_part b t excused (ArrayPart length) = with_array b t excused length
with_part b t excused (FunctionPart ps) = with_function b t ps

abbrev pub part_onto : Built → Option ℕ → Bool → Part → Built
part_onto b None excused p = b
part_onto b (Some t) excused p = with_part b t excused p

-- the parts, from the outermost on; the last one of a parameter may be an array without a length
abbrev pub built_of : Bool → Built → List Part → Built
built_of parameter b [] = b
built_of parameter b (p ∷ []) = part_onto b b.type parameter p
built_of parameter b (p ∷ ps) = built_of parameter (part_onto b b.type false p) ps

-- an array parameter is a pointer to its element, a function one to it (6.7.5.3)
abbrev pub adjusted_shape : Built → ℕ → Shape → Built
adjusted_shape b t (ArrayShape u n size align) = shaped b (PointerShape u)
adjusted_shape b t (FunctionShape r ps) = shaped b (PointerShape t)
adjusted_shape b t _ = b

abbrev pub adjusted : Built → Option ℕ → Built
adjusted b None = b
adjusted b (Some t) = adjusted_shape b t (shape_at b.types t)

abbrev pub built_parameter : Types → ℕ → List Part → Built
built_parameter types base parts = let b = built_of true (begun types base) parts in adjusted b b.type

abbrev pub built_type : Types → ℕ → List Part → Built
built_type types base parts = built_of false (begun types base) parts

-- what stands for a type that could not be built
abbrev pub type_or : Option ℕ → ℕ → ℕ
type_or None t = t
type_or (Some u) t = u
