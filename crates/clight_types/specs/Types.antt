-- The types of a file (ISO C99 6.2.5) as a table: a type is its number there. No type stands in the table twice, so two types are one exactly where their numbers are. Layout is that of the i386 ABI.
use Rattle.std.specs.Prelude.{ℕ, ◌+◌, ◌-◌, ◌*◌, ◌%◌, ◌==◌, nat_eq, Bool, true, false, ◌&&◌, not, List, [], ◌∷◌, ◌++◌, max, min, find, Option, None, unwrap_or, slice_get, slice_set, if◌then◌else◌}
use Rattle.std.specs.List.{list_any, position_or_len}
use Rattle.std.specs.Cmp.Lexicographic.{pointwise}
use Rattle.clight_types.specs.declared.kind.Integer.{Integer}
use Rattle.clight_types.specs.declared.kind.Integer.TheVariants.{Char, UnsignedChar, Short, UnsignedShort, Int, UnsignedInt}
use Rattle.clight_types.specs.declared.kind.Value.{Value}
use Rattle.clight_types.specs.declared.kind.Value.TheVariants as v

abbrev pub Spelling : Type 0
Spelling = List ℕ

abbrev pub same_name : Spelling → Spelling → Bool
same_name = pointwise nat_eq

-- what a type is made of; an array has its element's type and its length, and the size and the alignment of the whole
pub data Shape : Type 0 where
  VoidShape : Shape
  IntegerShape : Integer → Shape
  PointerShape : ℕ → Shape
  ArrayShape : ℕ → ℕ → ℕ → ℕ → Shape
  -- a struct by its number: each struct is a type of its own
  StructShape : ℕ → Shape
  -- the result and the parameters
  FunctionShape : ℕ → List ℕ → Shape

pub record MemberOf : Type 0 where
  pub name : Spelling
  pub offset : ℕ
  pub type : ℕ

-- a struct before its body, and behind it
pub data BodyOf : Type 0 where
  Open : BodyOf
  -- the size, the alignment and the members
  Closed : ℕ → ℕ → List MemberOf → BodyOf

-- the types and the structs of a file, as far as it has been read
pub record Types : Type 0 where
  pub shapes : List Shape
  pub structs : List BodyOf

-- ## When two types are one

abbrev pub same_integer : Integer → Integer → Bool
same_integer Char Char = true
same_integer UnsignedChar UnsignedChar = true
same_integer Short Short = true
same_integer UnsignedShort UnsignedShort = true
same_integer Int Int = true
same_integer UnsignedInt UnsignedInt = true
same_integer _ _ = false

abbrev pub same_shape : Shape → Shape → Bool
same_shape VoidShape VoidShape = true
same_shape (IntegerShape i) (IntegerShape j) = same_integer i j
same_shape (PointerShape t) (PointerShape u) = t == u
same_shape (ArrayShape t n s a) (ArrayShape u m r b) = t == u && (n == m && (s == r && a == b))
same_shape (StructShape n) (StructShape m) = n == m
same_shape (FunctionShape r ps) (FunctionShape s qs) = r == s && pointwise nat_eq ps qs
same_shape _ _ = false

-- the table with a type of this shape, and that type's number: a new one stands at the end
abbrev pub shapes_with : List Shape → Shape → List Shape
shapes_with shapes s = if list_any (same_shape s) shapes then shapes else shapes ++ s ∷ []

abbrev pub number_in : List Shape → Shape → ℕ
number_in shapes s = position_or_len (same_shape s) shapes

abbrev pub with_shape : Types → Shape → Types × ℕ
with_shape types s = (record types { shapes = shapes_with types.shapes s }, number_in types.shapes s)

abbrev pub shape_at : Types → ℕ → Shape
shape_at types t = unwrap_or (slice_get types.shapes t) VoidShape

abbrev pub body_at : Types → ℕ → BodyOf
body_at types n = unwrap_or (slice_get types.structs n) Open

-- ## Layout

-- no type has more bytes
abbrev pub type_limit : ℕ
type_limit = 16777216

abbrev pub integer_size : Integer → ℕ
integer_size Char = 1
integer_size UnsignedChar = 1
integer_size Short = 2
integer_size UnsignedShort = 2
integer_size Int = 4
integer_size UnsignedInt = 4

abbrev pub body_size : BodyOf → ℕ
body_size Open = 0
body_size (Closed size align members) = size

abbrev pub body_align : BodyOf → ℕ
body_align Open = 1
body_align (Closed size align members) = align

abbrev pub shape_size : Types → Shape → ℕ
shape_size types VoidShape = 0
shape_size types (IntegerShape i) = integer_size i
shape_size types (PointerShape t) = 4
shape_size types (ArrayShape t n size align) = size
shape_size types (StructShape n) = body_size (body_at types n)
shape_size types (FunctionShape r ps) = 0

abbrev pub shape_align : Types → Shape → ℕ
shape_align types VoidShape = 1
shape_align types (IntegerShape i) = integer_size i
shape_align types (PointerShape t) = 4
shape_align types (ArrayShape t n size align) = align
shape_align types (StructShape n) = body_align (body_at types n)
shape_align types (FunctionShape r ps) = 1

abbrev pub size_at : Types → ℕ → ℕ
size_at types t = shape_size types (shape_at types t)

abbrev pub align_at : Types → ℕ → ℕ
align_at types t = shape_align types (shape_at types t)

-- the least multiple of the alignment that is at least n
abbrev pub aligned : ℕ → ℕ → ℕ
aligned n align = (n + (align - 1)) - (n + (align - 1)) % align

-- an array of so many elements; a size past the limit counts as one more than the limit
abbrev pub array_shape : Types → ℕ → ℕ → Shape
array_shape types t n = ArrayShape t n (min (size_at types t * n) (type_limit + 1)) (align_at types t)

-- a struct of which members stand so far: the next one at the least offset that its alignment allows
pub record Laid : Type 0 where
  pub size : ℕ
  pub align : ℕ
  pub members : List MemberOf

abbrev pub nothing_laid : Laid
nothing_laid = record { size = 0; align = 1; members = [] }

abbrev pub next_offset : Types → Laid → ℕ → ℕ
next_offset types laid t = aligned laid.size (align_at types t)

abbrev pub laid_with : Types → Laid → Spelling → ℕ → Laid
laid_with types laid name t = record { size = next_offset types laid t + size_at types t; align = max laid.align (align_at types t); members = laid.members ++ (record { name = name; offset = next_offset types laid t; type = t }) ∷ [] }

abbrev pub closed_body : Laid → BodyOf
closed_body laid = Closed (aligned laid.size laid.align) laid.align laid.members

-- the table with one struct more, and with the body of a struct
abbrev pub with_struct : Types → Types
with_struct types = record types { structs = types.structs ++ Open ∷ [] }

abbrev pub with_body : Types → ℕ → Laid → Types
with_body types n laid = record types { structs = slice_set types.structs n (closed_body laid) }

-- ## Kinds of types

abbrev pub is_closed : BodyOf → Bool
is_closed Open = false
is_closed (Closed size align members) = true

-- void and a struct without its body have no size; neither has a function
abbrev pub shape_is_complete : Types → Shape → Bool
shape_is_complete types VoidShape = false
shape_is_complete types (StructShape n) = is_closed (body_at types n)
shape_is_complete types (FunctionShape r ps) = false
shape_is_complete types _ = true

abbrev pub is_function_shape : Shape → Bool
is_function_shape (FunctionShape r ps) = true
is_function_shape _ = false

abbrev pub is_array_shape : Shape → Bool
is_array_shape (ArrayShape t n size align) = true
is_array_shape _ = false

abbrev pub is_struct_shape : Shape → Bool
is_struct_shape (StructShape n) = true
is_struct_shape _ = false

abbrev pub is_void_shape : Shape → Bool
is_void_shape VoidShape = true
is_void_shape _ = false

-- the scalar types: integers and pointers (6.2.5)
abbrev pub is_scalar_shape : Shape → Bool
is_scalar_shape (IntegerShape i) = true
is_scalar_shape (PointerShape t) = true
is_scalar_shape _ = false

abbrev pub is_complete : Types → ℕ → Bool
is_complete types t = shape_is_complete types (shape_at types t)

abbrev pub is_function : Types → ℕ → Bool
is_function types t = is_function_shape (shape_at types t)

abbrev pub is_void : Types → ℕ → Bool
is_void types t = is_void_shape (shape_at types t)

abbrev pub is_struct : Types → ℕ → Bool
is_struct types t = is_struct_shape (shape_at types t)

abbrev pub is_scalar : Types → ℕ → Bool
is_scalar types t = is_scalar_shape (shape_at types t)

-- void or a struct without its body (6.2.5)
abbrev pub is_incomplete : Types → ℕ → Bool
is_incomplete types t = not (is_complete types t) && not (is_function types t)

-- the value of an object or a function of a type: an array becomes a pointer to its first element, a function one to itself (6.3.2.1)
abbrev pub shape_value : ℕ → Shape → Value
shape_value t VoidShape = v.Void
shape_value t (IntegerShape i) = v.Integer i
shape_value t (PointerShape u) = v.Pointer u
shape_value t (ArrayShape u n size align) = v.Pointer u
shape_value t (StructShape n) = v.Struct
shape_value t (FunctionShape r ps) = v.Pointer t

abbrev pub value_at : Types → ℕ → Value
value_at types t = shape_value t (shape_at types t)

-- the member of a struct with a name
abbrev pub named_member : Spelling → List MemberOf → Option MemberOf
named_member name members = find (λ m. same_name name m.name) members

abbrev pub body_members : BodyOf → List MemberOf
body_members Open = []
body_members (Closed size align members) = members

-- the member of the type of an object
abbrev pub shape_member : Types → Spelling → Shape → Option MemberOf
shape_member types name (StructShape n) = named_member name (body_members (body_at types n))
shape_member types name _ = None

abbrev pub member_at : Types → ℕ → Spelling → Option MemberOf
member_at types t name = shape_member types name (shape_at types t)

-- ## The types that stand in each table

abbrev pub void_type : ℕ
void_type = 0

abbrev pub integer_type : Integer → ℕ
integer_type Char = 1
integer_type UnsignedChar = 2
integer_type Short = 3
integer_type UnsignedShort = 4
integer_type Int = 5
integer_type UnsignedInt = 6

-- `void *`, and the types of the builtins: 'void (void *)' of a thread's function and of `free`, the pointer to it, and those of `thread_create`, `mfence`, `malloc` and `exit`; 'int (void)' of `main`
abbrev pub void_pointer_type : ℕ
void_pointer_type = 7

abbrev pub thread_function_type : ℕ
thread_function_type = 8

abbrev pub thread_create_type : ℕ
thread_create_type = 10

abbrev pub fence_type : ℕ
fence_type = 11

abbrev pub malloc_type : ℕ
malloc_type = 12

abbrev pub exit_type : ℕ
exit_type = 13

abbrev pub main_type : ℕ
main_type = 14

abbrev pub scalar_shapes : List Shape
scalar_shapes = VoidShape ∷ IntegerShape Char ∷ IntegerShape UnsignedChar ∷ IntegerShape Short ∷ IntegerShape UnsignedShort ∷ IntegerShape Int ∷ IntegerShape UnsignedInt ∷ []

abbrev pub builtin_shapes : List Shape
builtin_shapes = PointerShape 0 ∷ FunctionShape 0 (7 ∷ []) ∷ PointerShape 8 ∷ FunctionShape 5 (9 ∷ 7 ∷ []) ∷ FunctionShape 0 [] ∷ FunctionShape 7 (6 ∷ []) ∷ FunctionShape 0 (5 ∷ []) ∷ FunctionShape 5 [] ∷ []

abbrev pub no_types : Types
no_types = record { shapes = []; structs = [] }

abbrev pub first_types : Types
first_types = record { shapes = scalar_shapes ++ builtin_shapes; structs = [] }
