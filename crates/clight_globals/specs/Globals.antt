-- The faults of what a file declares, in its order, and what is known behind each declaration (ISO C99 6.7).
use Rattle.std.specs.Prelude.{ℕ, zero, suc, ◌+◌, ◌-◌, ◌*◌, ◌/◌, ◌%◌, nat_lt, ◌==◌, Bool, true, false, ◌&&◌, ◌||◌, not, List, [], ◌∷◌, ◌++◌, length, codes, Option, Some, None, is_some, slice_get, if◌then◌else◌}
use Rattle.std.specs.List.{list_any, list_all}
use Rattle.std.proofs.Common.{replicate}
use Rattle.c_grammar.specs.Tokens as k
use Rattle.c_tree.specs.Trees.{ExprTrees, no_exprs, exprs, SpecifierTree, storage_specifier, SpecifierTrees, no_specs, specs, InitializerTree, no_init, value_init, list_init, InitDeclaratorTree, init_tree}
use Rattle.tso_words.specs.Words.{chunk_size}
use Rattle.clight_types.specs.declared.kind.Integer.TheVariants as i
use Rattle.clight_types.specs.declared.kind.Value.{Value}
use Rattle.clight_types.specs.declared.kind.Value.TheVariants as v
use Rattle.clight_types.specs.declared.kind.Constant.{Constant}
use Rattle.clight_types.specs.declared.kind.Constant.TheVariants as constant
use Rattle.clight_types.specs.declared.rule.Rule.TheVariants as rule
use Rattle.clight_types.specs.Judged.{Judged, value, fault, and_then, unless}
use Rattle.clight_types.specs.Types.{Types, Shape, ArrayShape, StructShape, MemberOf, shape_at, size_at, body_at, body_members, value_at, is_scalar, is_struct, is_function, is_incomplete, integer_type, main_type}
use Rattle.clight_types.specs.WordOperators.{value_chunk}
use Rattle.clight_types.specs.Constants.{constant_as}
use Rattle.clight_scopes.specs.Scopes.{Entity, ObjectEntity, FunctionEntity, EnumeratorEntity, TypedefEntity, BuiltinEntity, Scene, with_types, with_file_name, with_entity}
use Rattle.clight_types.specs.Types.{Spelling, same_name}
use Rattle.clight_calls.specs.Builtins.{is_builtin_name, builtin_named, builtin_type}
use Rattle.clight_operands.specs.Operands.{NoEffect, Typed, converts_to, is_struct_expression}
use Rattle.clight_calls.specs.Calls.{results_at}
use Rattle.clight_types.specs.Declarators.{Built, built_type, type_or}
use Rattle.clight_typing.specs.Typing.{typed, typed_all, declared, declared_name, declared_at, name_or_empty, Clash, no_clash, defined_twice, other_thing, entity_of}

-- ## Declarations of a name

abbrev pub main_name : Spelling
main_name = codes "main"

abbrev pub is_main : Spelling → Bool
is_main name = same_name name main_name

abbrev pub object_with : ℕ → Bool → Option Entity → Clash
object_with t defines None = no_clash
object_with t defines (Some (ObjectEntity u defined start)) = record { twice = defined && defines; differs = not (t == u) }
object_with t defines (Some (FunctionEntity u static defined)) = other_thing (defined && defines)
object_with t defines (Some (EnumeratorEntity w)) = other_thing defines
object_with t defines (Some _) = defined_twice

-- where no type could be built, a difference of types is not judged
abbrev pub judged_if : Bool → Clash → Clash
judged_if true c = c
judged_if false c = record { twice = c.twice; differs = false }

abbrev pub object_clash : Scene → Spelling → Option ℕ → Bool → Clash
object_clash s name t defines = if is_builtin_name name then defined_twice else judged_if (is_some t) (object_with (type_or t 0) defines (entity_of s name))

abbrev pub function_with : ℕ → Bool → Option Entity → Clash
function_with t defines None = no_clash
function_with t defines (Some (FunctionEntity u static defined)) = record { twice = defined && defines; differs = not (t == u) }
function_with t defines (Some (ObjectEntity u defined start)) = other_thing (defined && defines)
function_with t defines (Some (EnumeratorEntity w)) = other_thing defines
function_with t defines (Some _) = defined_twice

-- a builtin may be declared with just its type
abbrev pub is_type : Option ℕ → ℕ → Bool
is_type None t = false
is_type (Some u) t = u == t

abbrev pub option_type : {A : Type 0} → Option A → (A → Option ℕ) → Option ℕ
option_type None f = None
option_type (Some x) f = f x

abbrev pub builtin_clash : Spelling → ℕ → Bool → Clash
builtin_clash name t defines = if is_type (option_type (builtin_named name) builtin_type) t && not defines then no_clash else defined_twice

abbrev pub function_clash : Scene → Spelling → ℕ → Bool → Clash
function_clash s name t defines = if is_builtin_name name then builtin_clash name t defines else function_with t defines (entity_of s name)

abbrev pub typedef_clash : Scene → Spelling → Bool
typedef_clash s name = is_builtin_name name || is_some (entity_of s name)

-- ## What is known behind a declaration

abbrev pub object_known : Scene → Spelling → ℕ → ℕ → Bool → Option Entity → Scene
object_known s name at t defines None = with_file_name s name at (ObjectEntity t defines [])
object_known s name at t defines (Some (ObjectEntity u defined start)) = with_entity s name (ObjectEntity u (defined || defines) start)
object_known s name at t defines (Some _) = s

abbrev pub function_known : Scene → Spelling → ℕ → ℕ → Bool → Bool → Option Entity → Scene
function_known s name at t static defines None = with_file_name s name at (if is_builtin_name name then BuiltinEntity static else FunctionEntity t static defines)
function_known s name at t static defines (Some (FunctionEntity u was_static defined)) = with_entity s name (FunctionEntity u (was_static || static) (defined || defines))
function_known s name at t static defines (Some (BuiltinEntity was_static)) = with_entity s name (BuiltinEntity (was_static || static))
function_known s name at t static defines (Some _) = s

-- ## Initializers of globals (6.7.8)

-- the bytes of a word, the lowest first
abbrev pub word_bytes : ℕ → ℕ → List ℕ
word_bytes w zero = []
word_bytes w (suc n) = w % 256 ∷ word_bytes (w / 256) n

abbrev pub constant_word : Constant → ℕ
constant_word (constant.Known w) = w
constant_word _ = 0

-- a constant as a value of a type: a pointer keeps its word
abbrev pub stored_constant : Value → Constant → Constant
stored_constant (v.Integer j) c = constant_as (v.Integer j) c
stored_constant _ c = c

abbrev pub constant_bytes : Value → Constant → List ℕ
constant_bytes to c = word_bytes (constant_word (stored_constant to c)) (chunk_size (value_chunk to))

abbrev pub is_known : Constant → Bool
is_known (constant.Known w) = true
is_known _ = false

abbrev pub with_start : Scene → Spelling → List ℕ → Option Entity → Scene
with_start s name bytes (Some (ObjectEntity t defined start)) = with_entity s name (ObjectEntity t defined bytes)
with_start s name bytes _ = s

abbrev pub started : Scene → Spelling → List ℕ → Scene
started s name bytes = with_start s name bytes (entity_of s name)

-- the offset and the value of an item of a list: an element of an array of scalars, or a member of a struct of scalars
abbrev pub member_slot : Types → Option MemberOf → Option (ℕ × Value)
member_slot types None = None
member_slot types (Some m) = Some (m.offset, value_at types m.type)

abbrev pub element_slot : Types → ℕ → ℕ → ℕ → Option (ℕ × Value)
element_slot types t n item = if nat_lt item n then Some (item * size_at types t, value_at types t) else None

abbrev pub shape_slot : Types → Shape → ℕ → Option (ℕ × Value)
shape_slot types (ArrayShape t n size align) item = element_slot types t n item
shape_slot types (StructShape n) item = member_slot types (slice_get (body_members (body_at types n)) item)
shape_slot types _ item = None

abbrev pub shape_takes_list : Types → Shape → Bool
shape_takes_list types (ArrayShape t n size align) = is_scalar types t
shape_takes_list types (StructShape n) = list_all (λ m. is_scalar types m.type) (body_members (body_at types n))
shape_takes_list types _ = false

-- the bytes so far, and whether an item was of no use: too many, or not constant
pub record Filled : Type 0 where
  pub bytes : List ℕ
  pub is_bad : Bool

-- bytes at an offset, with zeros before them
abbrev pub filled_at : List ℕ → ℕ → List ℕ → List ℕ
filled_at bytes offset more = bytes ++ replicate (offset - length bytes) 0 ++ more

abbrev pub filled_with : Filled → Typed → ℕ × Value → Filled
filled_with f e slot = record { bytes = filled_at f.bytes slot.0 (constant_bytes slot.1 e.constant); is_bad = f.is_bad || not (is_known e.constant) }

abbrev pub item_judged : Types → Filled → Typed → Option (ℕ × Value) → Judged Filled
item_judged types f e None = value (record { bytes = f.bytes; is_bad = true })
item_judged types f e (Some slot) =
    unless (not (is_struct_expression types e)) rule.StructValue e.at
    (unless (is_struct_expression types e || converts_to types slot.1 e) rule.NeedsCast e.at
    (value (filled_with f e slot)))

abbrev pub slot_of : Types → ℕ → Bool → ℕ → Option (ℕ × Value)
slot_of types t fits item = if fits then shape_slot types (shape_at types t) item else None

abbrev pub items_filled : Scene → ℕ → Bool → ℕ → Filled → ExprTrees → Judged (Scene × Filled)
items_filled s t fits item f no_exprs = value (s, f)
items_filled s t fits item f (exprs e es) = and_then (typed NoEffect false s e) (λ r. and_then (item_judged r.0.types f r.1 (slot_of r.0.types t fits item)) (λ g. items_filled r.0 t fits (item + 1) g es))

abbrev pub list_judged : Scene → ℕ → Spelling → ℕ → ExprTrees → Judged Scene
list_judged s at name t es =
    and_then (items_filled s t (shape_takes_list s.types (shape_at s.types t)) 0 (record { bytes = []; is_bad = false }) es) (λ r.
    unless (not r.1.is_bad) rule.Initializer at (value (started r.0 name r.1.bytes)))

abbrev pub value_judged : Scene → Spelling → ℕ → Typed → Judged Scene
value_judged s name t e =
    unless (not (is_struct_expression s.types e) && not (is_struct s.types t)) rule.StructValue e.at
    (unless (is_known e.constant) rule.Initializer e.at
    (unless (is_struct s.types t || is_scalar s.types t && converts_to s.types (value_at s.types t) e) rule.NeedsCast e.at
    (value (started s name (constant_bytes (value_at s.types t) e.constant)))))

-- an initializer where none may stand: of a function, an `extern` or a typedef
abbrev pub refused_initializer : Scene → InitializerTree → Judged Scene
refused_initializer s no_init = value s
refused_initializer s (value_init e) = and_then (typed NoEffect false s e) (λ r. fault rule.Initializer r.1.at (value r.0))
refused_initializer s (list_init at es) = and_then (typed_all s es) (λ r. fault rule.Initializer at (value r.0))

abbrev pub object_initialized : Scene → Spelling → ℕ → InitializerTree → Judged Scene
object_initialized s name t no_init = value s
object_initialized s name t (value_init e) = and_then (typed NoEffect false s e) (λ r. value_judged r.0 name t r.1)
object_initialized s name t (list_init at es) = if is_scalar s.types t then refused_initializer s (list_init at es) else list_judged s at name t es

-- ## Declarators of a file

abbrev pub narrow_value : Value → Bool
narrow_value (v.Integer i.Char) = true
narrow_value (v.Integer i.UnsignedChar) = true
narrow_value (v.Integer i.Short) = true
narrow_value (v.Integer i.UnsignedShort) = true
narrow_value _ = false

-- the function is external and its result is narrow
abbrev pub gives_narrow : Scene → Types → Spelling → ℕ → Bool
gives_narrow s types name t = not (is_builtin_name name) && not (list_any (same_name name) s.defined) && narrow_value (value_at types (results_at (shape_at types t)))

abbrev pub function_judged : Scene → ℕ → Spelling → Built → ℕ → Bool → Bool → Judged Scene
function_judged s at name b t static defines =
    let c = function_clash s name t defines in
    unless (not c.twice) rule.DefinedTwice at
    (unless (not c.differs) rule.TypesDiffer at
    (unless (not b.is_large) rule.LargeType at
    (unless (not b.gives_struct) rule.StructValue at
    (unless (not (is_main name) || t == main_type) rule.Main at
    (unless (not (gives_narrow s b.types name t)) rule.NarrowResult at
    (value (function_known (with_types s b.types) name at t static defines (entity_of s name))))))))

abbrev pub object_judged : Scene → ℕ → Spelling → Built → Bool → Judged Scene
object_judged s at name b defines =
    let c = object_clash s name b.type defines in
    let t = type_or b.type (integer_type i.Int) in
    unless (not c.twice) rule.DefinedTwice at
    (unless (not c.differs) rule.TypesDiffer at
    (unless (not b.has_incomplete && not (is_incomplete b.types t)) rule.Incomplete at
    (unless (not b.is_wrong) rule.ArrayOrFunction at
    (unless (not b.is_large) rule.LargeType at
    (unless (not b.gives_struct) rule.StructValue at
    (unless (not (is_main name)) rule.Main at
    (value (object_known (with_types s b.types) name at t defines (entity_of s name)))))))))

abbrev pub typedef_declared : Scene → ℕ → Spelling → Built → Judged Scene
typedef_declared s at name b =
    unless (not (typedef_clash s name)) rule.DefinedTwice at
    (unless (not b.has_incomplete) rule.Incomplete at
    (unless (not b.is_wrong) rule.ArrayOrFunction at
    (unless (not b.is_large) rule.LargeType at
    (unless (not b.gives_struct) rule.StructValue at
    (value (with_file_name (with_types s b.types) name at (TypedefEntity (type_or b.type (integer_type i.Int)))))))))

abbrev pub storage_word : SpecifierTree → Option k.StorageClass
storage_word (storage_specifier at w) = Some w
storage_word _ = None

abbrev pub storage_in : SpecifierTrees → Option k.StorageClass
storage_in no_specs = None
storage_in (specs x xs) = storage_or (storage_word x) (storage_in xs)
  where
    storage_or : Option k.StorageClass → Option k.StorageClass → Option k.StorageClass
    storage_or None w = w
    storage_or (Some v) w = Some v

abbrev pub is_static : Option k.StorageClass → Bool
is_static (Some k.Static) = true
is_static _ = false

abbrev pub is_extern : Option k.StorageClass → Bool
is_extern (Some k.Extern) = true
is_extern _ = false

abbrev pub is_typedef : Option k.StorageClass → Bool
is_typedef (Some k.Typedef) = true
is_typedef _ = false

abbrev pub function_in : Types → Option ℕ → Bool
function_in types None = false
function_in types (Some t) = is_function types t

abbrev pub object_declared : Scene → Option k.StorageClass → ℕ → Spelling → Built → InitializerTree → Judged Scene
object_declared s w at name b x =
    and_then (object_judged s at name b (not (is_extern w))) (λ r.
    if is_extern w then refused_initializer r x else object_initialized r name (type_or b.type (integer_type i.Int)) x)

abbrev pub name_declared : Scene → Option k.StorageClass → ℕ → Spelling → Built → InitializerTree → Judged Scene
name_declared s w at name b x =
    if is_typedef w then and_then (typedef_declared s at name b) (λ r. refused_initializer r x)
    else (if function_in b.types b.type then and_then (function_judged s at name b (type_or b.type 0) (is_static w) false) (λ r. refused_initializer r x)
    else object_declared s w at name b x)

abbrev pub names_declared : Scene → Option k.StorageClass → ℕ → List InitDeclaratorTree → Judged Scene
names_declared s w base [] = value s
names_declared s w base (init_tree d x ∷ ds) =
    and_then (declared s false d) (λ r.
    and_then (name_declared r.0 w (declared_at d 0) (name_or_empty (declared_name d)) (built_type r.0.types base r.1) x) (λ q.
    names_declared q w base ds))
