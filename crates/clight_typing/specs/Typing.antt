-- The faults and the meaning of expressions, and of the types, specifiers and declarators that stand in them, in the order of the file: the operands from left to right before their operator, specifiers token by token, the parts of a declarator before itself.
use Rattle.std.specs.Prelude.{ℕ, ◌+◌, ◌%◌, ◌^◌, Bool, true, false, ◌&&◌, ◌||◌, not, nat_le, nat_lt, List, [], ◌∷◌, length, Option, Some, None, is_some, if◌then◌else◌}
use Rattle.std.specs.List.{list_any}
use Rattle.std.specs.Option.{option_map}
use Rattle.c_grammar.specs.Tokens as k
use Rattle.c_tree.specs.Trees.{TagTree, untagged, tagged, ExprTree, name_expr, constant_expr, index_expr, call_expr, member_expr, step_after_expr, step_before_expr, unary_expr, sizeof_expr, sizeof_type_expr, cast_expr, binary_expr, cond_expr, assign_expr, ExprTrees, no_exprs, exprs, MaybeTree, left_out, stated, TypeTree, type_tree, SpecifierTree, storage_specifier, qualifier_specifier, inline_specifier, words_specifier, typedef_specifier, reference_specifier, composite_specifier, enum_reference_specifier, enum_specifier, SpecifierTrees, no_specs, specs, MemberTrees, no_member_trees, member_trees, EnumeratorTrees, no_enumerator_trees, enumerator_trees, DeclaratorTree, unnamed, named, pointer_to, array_of, function_of, DeclaratorTrees, no_declarator_trees, declarator_trees, ParameterTrees, no_parameter_trees, parameter_trees}
use Rattle.clight_types.specs.declared.kind.Integer.TheVariants as i
use Rattle.clight_types.specs.declared.kind.Integer.{Integer}
use Rattle.clight_types.specs.declared.kind.Constant.{Constant}
use Rattle.clight_types.specs.declared.kind.Constant.TheVariants as constant
use Rattle.clight_types.specs.declared.rule.Rule.TheVariants as rule
use Rattle.clight_types.specs.Judged.{Judged, value, fault, and_then, unless}
use Rattle.clight_types.specs.Types.{Types, StructShape, with_shape, with_struct, with_body, Laid, nothing_laid, laid_with, next_offset, named_member, size_at, is_complete, is_incomplete, is_struct, type_limit, void_type, integer_type}
use Rattle.clight_scopes.specs.Scopes.{Entity, ObjectEntity, FunctionEntity, EnumeratorEntity, TypedefEntity, TagKind, StructTag, EnumTag, Scene, or_else, find_file, find_tag, with_types, with_file_name, with_tag, with_tag_kind, opened, closed, with_block_name, is_in_first, with_local}
use Rattle.clight_types.specs.Types.{Spelling}
use Rattle.clight_calls.specs.Builtins.{is_builtin_name}
use Rattle.clight_operands.specs.Operands.{Allowed, NoEffect, Typed, number_typed, unary_typed, sizeof_typed, has_size, denoted_size, cast_typed, binary_typed, choice_typed, index_typed, step_typed, assigned_by, assignment_operator, allowed_right}
use Rattle.clight_calls.specs.Names.{name_typed, scene_behind}
use Rattle.clight_calls.specs.Members.{member_typed}
use Rattle.clight_calls.specs.Calls.{call_typed}
use Rattle.clight_types.specs.Declarators.{Length, NoLength, BadLength, Elements, ParameterOf, Part, PointerPart, ArrayPart, FunctionPart, Built, built_parameter, built_type, type_or}

-- what was made, beside the scene behind it
abbrev pub beside : {A : Type 0} → Scene → Judged A → Judged (Scene × A)
beside s j = and_then j (λ a. value (s, a))

-- ## Type words (6.7.2)

abbrev pub is_word : k.TypeWord → k.TypeWord → Bool
is_word k.Void k.Void = true
is_word k.Char k.Char = true
is_word k.Short k.Short = true
is_word k.Int k.Int = true
is_word k.Long k.Long = true
is_word k.Float k.Float = true
is_word k.Double k.Double = true
is_word k.Signed k.Signed = true
is_word k.Unsigned k.Unsigned = true
is_word _ _ = false

abbrev pub has_word : k.TypeWord → List k.TypeWord → Bool
has_word w ws = list_any (is_word w) ws

-- two `long`
abbrev pub is_long_long : List k.TypeWord → Bool
is_long_long [] = false
is_long_long (k.Long ∷ ws) = has_word k.Long ws
is_long_long (w ∷ ws) = is_long_long ws

abbrev pub is_floating : List k.TypeWord → Bool
is_floating ws = has_word k.Float ws || (has_word k.Double ws || is_long_long ws)

abbrev pub words_integer : List k.TypeWord → Integer
words_integer ws =
    if has_word k.Char ws then (if has_word k.Unsigned ws then i.UnsignedChar else i.Char)
    else (if has_word k.Short ws then (if has_word k.Unsigned ws then i.UnsignedShort else i.Short)
    else (if has_word k.Unsigned ws then i.UnsignedInt else i.Int))

abbrev pub words_type : List k.TypeWord → ℕ
words_type ws = if has_word k.Void ws then void_type else integer_type (words_integer ws)

-- ## Names that clash in a file: defined twice, or declared with another type or as another thing

pub record Clash : Type 0 where
  pub twice : Bool
  pub differs : Bool

abbrev pub no_clash : Clash
no_clash = record { twice = false; differs = false }

abbrev pub defined_twice : Clash
defined_twice = record { twice = true; differs = false }

-- another thing of the name is there, and is defined or not
abbrev pub other_thing : Bool → Clash
other_thing defined = record { twice = defined; differs = not defined }

abbrev pub entity_of : Scene → Spelling → Option Entity
entity_of s name = option_map (λ x. x.entity) (find_file name s.file)

abbrev pub enumerator_with : Option Entity → Clash
enumerator_with None = no_clash
enumerator_with (Some (ObjectEntity t defined start)) = other_thing defined
enumerator_with (Some (FunctionEntity t static defined)) = other_thing defined
enumerator_with (Some _) = defined_twice

abbrev pub enumerator_clash : Scene → Spelling → Clash
enumerator_clash s name = if is_builtin_name name then defined_twice else enumerator_with (entity_of s name)

-- ## Declared names

abbrev pub declared_name : DeclaratorTree → Option Spelling
declared_name unnamed = None
declared_name (named at name) = Some name
declared_name (pointer_to qs d) = declared_name d
declared_name (array_of d n) = declared_name d
declared_name (function_of d ps) = declared_name d

-- the place of the name, or another place where there is none
abbrev pub declared_at : DeclaratorTree → ℕ → ℕ
declared_at unnamed other = other
declared_at (named at name) other = at
declared_at (pointer_to qs d) other = declared_at d other
declared_at (array_of d n) other = declared_at d other
declared_at (function_of d ps) other = declared_at d other

abbrev pub is_name : DeclaratorTree → Bool
is_name (named at name) = true
is_name _ = false

-- ## Constant expressions in types

-- a length is from 1 to the limit
abbrev pub length_of : Constant → Length
length_of (constant.Known w) = if nat_le 1 w && nat_le w type_limit then Elements w else BadLength
length_of _ = BadLength

-- an enumerator's value: the stated one, or the next; what is not constant has none
pub data EnumValue : Type 0 where
  NextValue : EnumValue
  StatedValue : Constant → EnumValue

abbrev pub has_value : EnumValue → Bool
has_value (StatedValue constant.No) = false
has_value (StatedValue constant.WithoutValue) = false
has_value _ = true

abbrev pub enum_word : ℕ → EnumValue → ℕ
enum_word next (StatedValue (constant.Known w)) = w
enum_word next _ = next

abbrev pub enumerator_judged : Scene → ℕ → Spelling → ℕ → EnumValue → Judged (Scene × ℕ)
enumerator_judged s at name next x =
    let c = enumerator_clash s name in
    unless (not c.twice) rule.DefinedTwice at
    (unless (not c.differs) rule.TypesDiffer at
    (unless (has_value x) rule.Enumerator at
    (value (with_file_name s name at (EnumeratorEntity (enum_word next x)), (enum_word next x + 1) % 2 ^ 32))))

-- ## Tags (6.7.2.3)

abbrev pub tag_kind : Scene → Spelling → Option TagKind
tag_kind s name = option_map (λ x. x.kind) (find_tag name s.tags)

-- the type of a struct by its number
abbrev pub struct_type : Scene → ℕ → Scene × ℕ
struct_type s n = let r = with_shape s.types (StructShape n) in (with_types s r.0, r.1)

-- a new struct, and its number
abbrev pub new_struct : Scene → Scene × ℕ
new_struct s = (with_types s (with_struct s.types), length s.types.structs)

abbrev pub new_tagged : Scene → Spelling → Bool → Scene × ℕ
new_tagged s name begun = let r = new_struct s in (with_tag r.0 name (StructTag r.1 begun), r.1)

-- `struct NAME` declares its tag where it is not declared yet
abbrev pub referred_by : Scene → ℕ → Spelling → Option TagKind → Judged (Scene × ℕ)
referred_by s at name None = let r = new_tagged s name false in value (struct_type r.0 r.1)
referred_by s at name (Some (StructTag n begun)) = value (struct_type s n)
referred_by s at name (Some EnumTag) = fault rule.TagTwice at (let r = new_struct s in value (struct_type r.0 r.1))

abbrev pub referred : Scene → k.CompositeWord → ℕ → ℕ → Spelling → Judged (Scene × ℕ)
referred s k.Struct at tag_at name = referred_by s tag_at name (tag_kind s name)
referred s k.Union at tag_at name = fault rule.Union at (referred_by s tag_at name (tag_kind s name))

-- the struct of which a body begins
abbrev pub begun_by : Scene → ℕ → Spelling → Option TagKind → Judged (Scene × ℕ)
begun_by s at name None = value (new_tagged s name true)
begun_by s at name (Some (StructTag n false)) = value (with_tag_kind s name (StructTag n true), n)
begun_by s at name (Some (StructTag n true)) = fault rule.TagTwice at (value (new_struct s))
begun_by s at name (Some EnumTag) = fault rule.TagTwice at (value (new_struct s))

abbrev pub begun_struct : Scene → TagTree → Judged (Scene × ℕ)
begun_struct s untagged = value (new_struct s)
begun_struct s (tagged at name) = begun_by s at name (tag_kind s name)

abbrev pub is_struct_word : k.CompositeWord → Bool
is_struct_word k.Struct = true
is_struct_word k.Union = false

-- the body of a struct stands in no block
abbrev pub body_begun : Scene → k.CompositeWord → ℕ → TagTree → ℕ → Judged (Scene × ℕ)
body_begun s w at tag body_at = unless (is_struct_word w) rule.Union at (and_then (begun_struct s tag) (λ r. unless (not s.in_body) rule.InBlock body_at (value r)))

abbrev pub body_ended : Scene → ℕ → Laid → Judged (Scene × ℕ)
body_ended s n laid = value (struct_type (with_types s (with_body s.types n laid)) n)

abbrev pub enum_referred : Scene → ℕ → Option TagKind → Judged (Scene × ℕ)
enum_referred s at None = fault rule.Undeclared at (value (s, integer_type i.Int))
enum_referred s at (Some EnumTag) = value (s, integer_type i.Int)
enum_referred s at (Some (StructTag n begun)) = fault rule.TagTwice at (value (s, integer_type i.Int))

abbrev pub enum_begun : Scene → TagTree → ℕ → Judged Scene
enum_begun s untagged body_at = unless (not s.in_body) rule.InBlock body_at (value s)
enum_begun s (tagged at name) body_at = unless (not (is_some (tag_kind s name))) rule.TagTwice at (unless (not s.in_body) rule.InBlock body_at (value (with_tag s name EnumTag)))

-- ## Typedef names

abbrev pub typedef_of : Option Entity → Option ℕ
typedef_of (Some (TypedefEntity t)) = Some t
typedef_of _ = None

abbrev pub typedef_judged : Scene → ℕ → Option ℕ → Judged (Scene × ℕ)
typedef_judged s at (Some t) = value (s, t)
typedef_judged s at None = fault rule.Undeclared at (value (s, integer_type i.Int))

-- ## Members (6.7.2.1) and parameters (6.7.5.3)

abbrev pub is_member_type : Types → ℕ → Bool
is_member_type types t = is_complete types t

abbrev pub is_member_name : Laid → Spelling → Bool
is_member_name laid name = is_some (named_member name laid.members)

-- no member ends past the limit
abbrev pub passes_limit : Types → Laid → ℕ → Bool
passes_limit types laid t = nat_lt type_limit (next_offset types laid t + size_at types t)

abbrev pub name_or_empty : Option Spelling → Spelling
name_or_empty None = []
name_or_empty (Some name) = name

abbrev pub member_judged : Scene → Laid → ℕ → Spelling → Built → Judged (Scene × Laid)
member_judged s laid at name b =
    let t = type_or b.type (integer_type i.Int) in
    unless (not (is_member_name laid name)) rule.DefinedTwice at
    (unless (not b.has_incomplete && is_member_type b.types t) rule.Incomplete at
    (unless (not b.is_wrong) rule.ArrayOrFunction at
    (unless (not b.is_large && not (passes_limit b.types laid t)) rule.LargeType at
    (unless (not b.gives_struct) rule.StructValue at
    (value (with_types s b.types, laid_with b.types laid name t))))))

abbrev pub is_taken_name : Scene → Option Spelling → Bool
is_taken_name s None = false
is_taken_name s (Some name) = is_in_first name s.blocks || is_builtin_name name

-- a parameter of the function that is defined is a local of it
abbrev pub parameter_number : Bool → Scene → Option ℕ
parameter_number true s = Some (length s.locals)
parameter_number false s = None

abbrev pub with_parameter_name : Scene → Option Spelling → ℕ → Option ℕ → Scene
with_parameter_name s None t local = s
with_parameter_name s (Some name) t local = with_block_name s name t local

abbrev pub with_parameter : Bool → Scene → Option Spelling → ℕ → Scene
with_parameter true s name t = with_local (with_parameter_name s name t (parameter_number true s)) t
with_parameter false s name t = with_parameter_name s name t None

abbrev pub parameter_judged : Bool → Scene → ℕ → ℕ → Option Spelling → Built → Judged (Scene × ParameterOf)
parameter_judged own s first_at at name b =
    let t = type_or b.type (integer_type i.Int) in
    unless (not (is_taken_name s name)) rule.DefinedTwice at
    (unless (not b.has_incomplete && not (is_incomplete b.types t)) rule.Incomplete at
    (unless (not b.is_wrong) rule.ArrayOrFunction at
    (unless (not b.is_large) rule.LargeType at
    (unless (not b.gives_struct && not (is_struct b.types t)) rule.StructValue at
    (unless (not own || is_some name) rule.NamelessParameter first_at
    (value (with_parameter own (with_types s b.types) name t, record { name = name; at = at; type = t })))))))

-- a type name, and the same of a type
abbrev pub type_name_judged : Scene → ℕ → Built → Judged (Scene × ℕ)
type_name_judged s at b =
    unless (not b.has_incomplete) rule.Incomplete at
    (unless (not b.is_wrong) rule.ArrayOrFunction at
    (unless (not b.is_large) rule.LargeType at
    (unless (not b.gives_struct) rule.StructValue at
    (value (with_types s b.types, type_or b.type (integer_type i.Int))))))

-- the type that specifiers give: the last one that gives any
abbrev pub base_of : Option ℕ → ℕ
base_of t = type_or t (integer_type i.Int)

-- ## The trees

abbrev mutual
  -- the effects that may stand here; whether it is the callee of a call
  pub typed : Allowed → Bool → Scene → ExprTree → Judged (Scene × Typed)
  typed allowed called s (name_expr at name) = beside s (name_typed s called at name)
  typed allowed called s (constant_expr at n) = beside s (number_typed at n)
  typed allowed called s (index_expr at op_at a b) = and_then (typed NoEffect false s a) (λ r. and_then (typed NoEffect false r.0 b) (λ q. beside q.0 (index_typed q.0.types at op_at r.1 q.1)))
  typed allowed called s (call_expr at op_at f xs) = and_then (typed NoEffect true s f) (λ r. and_then (typed_all r.0 xs) (λ q. beside q.0 (call_typed q.0.types allowed at op_at r.1 q.1)))
  typed allowed called s (member_expr at op_at e access name_at name) = and_then (typed NoEffect false s e) (λ r. beside r.0 (member_typed r.0.types at access name_at name r.1))
  typed allowed called s (step_after_expr at op_at e step) = and_then (typed NoEffect false s e) (λ r. beside r.0 (step_typed r.0.types allowed at op_at step r.1))
  typed allowed called s (step_before_expr at step e) = and_then (typed NoEffect false s e) (λ r. beside r.0 (step_typed r.0.types allowed at at step r.1))
  typed allowed called s (unary_expr at o e) = and_then (typed NoEffect false s e) (λ r. beside (scene_behind r.0 o r.1) (unary_typed r.0.types at o r.1))
  typed allowed called s (sizeof_expr at e) = and_then (typed NoEffect false s e) (λ r. beside r.0 (sizeof_typed at (has_size r.0.types r.1.denoted) (denoted_size r.0.types r.1.denoted)))
  typed allowed called s (sizeof_type_expr at t) = and_then (typed_name s t) (λ r. beside r.0 (sizeof_typed at (is_complete r.0.types r.1) (size_at r.0.types r.1)))
  typed allowed called s (cast_expr at t e) = and_then (typed_name s t) (λ r. and_then (typed NoEffect false r.0 e) (λ q. beside q.0 (cast_typed q.0.types at r.1 q.1)))
  typed allowed called s (binary_expr at op_at o a b) = and_then (typed NoEffect false s a) (λ r. and_then (typed NoEffect false r.0 b) (λ q. beside q.0 (binary_typed q.0.types at op_at o r.1 q.1)))
  typed allowed called s (cond_expr at op_at c a b) = and_then (typed NoEffect false s c) (λ p. and_then (typed NoEffect false p.0 a) (λ r. and_then (typed NoEffect false r.0 b) (λ q. beside q.0 (choice_typed q.0.types at op_at p.1 r.1 q.1))))
  typed allowed called s (assign_expr at op_at o a b) = and_then (typed NoEffect false s a) (λ r. and_then (typed (allowed_right o) false r.0 b) (λ q. beside q.0 (assigned_by q.0.types allowed at op_at (assignment_operator o) r.1 q.1)))

  pub typed_all : Scene → ExprTrees → Judged (Scene × List Typed)
  typed_all s no_exprs = value (s, [])
  typed_all s (exprs e es) = and_then (typed NoEffect false s e) (λ r. and_then (typed_all r.0 es) (λ q. value (q.0, r.1 ∷ q.1)))

  pub typed_length : Scene → MaybeTree → Judged (Scene × Length)
  typed_length s left_out = value (s, NoLength)
  typed_length s (stated e) = and_then (typed NoEffect false s e) (λ r. value (r.0, length_of r.1.constant))

  pub typed_value : Scene → MaybeTree → Judged (Scene × EnumValue)
  typed_value s left_out = value (s, NextValue)
  typed_value s (stated e) = and_then (typed NoEffect false s e) (λ r. value (r.0, StatedValue r.1.constant))

  pub typed_name : Scene → TypeTree → Judged (Scene × ℕ)
  typed_name s (type_tree at ss d) = and_then (specified s None ss) (λ r. and_then (declared r.0 false d) (λ q. type_name_judged q.0 (declared_at d at) (built_type q.0.types (base_of r.1) q.1)))

  pub specifier_judged : Scene → SpecifierTree → Judged (Scene × Option ℕ)
  specifier_judged s (storage_specifier at w) = unless (not s.in_body) rule.InBlock at (value (s, None))
  specifier_judged s (qualifier_specifier at q) = value (s, None)
  specifier_judged s (inline_specifier at) = value (s, None)
  specifier_judged s (words_specifier at ws) = unless (not (is_floating ws)) rule.Floating at (value (s, Some (words_type ws)))
  specifier_judged s (typedef_specifier at name) = and_then (typedef_judged s at (typedef_of (entity_of s name))) (λ r. value (r.0, Some r.1))
  specifier_judged s (reference_specifier at w tag_at name) = and_then (referred s w at tag_at name) (λ r. value (r.0, Some r.1))
  specifier_judged s (composite_specifier at w tag body_at ms) = and_then (body_begun s w at tag body_at) (λ p. and_then (members_judged p.0 nothing_laid ms) (λ r. and_then (body_ended r.0 p.1 r.1) (λ q. value (q.0, Some q.1))))
  specifier_judged s (enum_reference_specifier at tag_at name) = and_then (enum_referred s tag_at (tag_kind s name)) (λ r. value (r.0, Some r.1))
  specifier_judged s (enum_specifier at tag body_at es) = and_then (enum_begun s tag body_at) (λ p. and_then (enumerators_judged p 0 es) (λ r. value (r, Some (integer_type i.Int))))

  -- specifiers, behind a type that stands already or none
  pub specified : Scene → Option ℕ → SpecifierTrees → Judged (Scene × Option ℕ)
  specified s t no_specs = value (s, t)
  specified s t (specs x xs) = and_then (specifier_judged s x) (λ r. specified r.0 (or_else r.1 t) xs)

  pub members_judged : Scene → Laid → MemberTrees → Judged (Scene × Laid)
  members_judged s laid no_member_trees = value (s, laid)
  members_judged s laid (member_trees at ss ds ms) = and_then (specified s None ss) (λ r. and_then (member_declarators r.0 (base_of r.1) laid ds) (λ q. members_judged q.0 q.1 ms))

  pub member_declarators : Scene → ℕ → Laid → DeclaratorTrees → Judged (Scene × Laid)
  member_declarators s base laid no_declarator_trees = value (s, laid)
  member_declarators s base laid (declarator_trees d ds) = and_then (declared s false d) (λ r. and_then (member_judged r.0 laid (declared_at d 0) (name_or_empty (declared_name d)) (built_type r.0.types base r.1)) (λ q. member_declarators q.0 base q.1 ds))

  -- enumerators, of which the next has this value
  pub enumerators_judged : Scene → ℕ → EnumeratorTrees → Judged Scene
  enumerators_judged s next no_enumerator_trees = value s
  enumerators_judged s next (enumerator_trees at name x es) = and_then (typed_value s x) (λ r. and_then (enumerator_judged r.0 at name next r.1) (λ q. enumerators_judged q.0 q.1 es))

  -- the parts of a declarator, the outermost first; whether it is that of a function that is defined
  pub declared : Scene → Bool → DeclaratorTree → Judged (Scene × List Part)
  declared s own unnamed = value (s, [])
  declared s own (named at name) = value (s, [])
  declared s own (pointer_to qs d) = and_then (declared s own d) (λ r. value (r.0, PointerPart ∷ r.1))
  declared s own (array_of d n) = and_then (declared s own d) (λ r. and_then (typed_length r.0 n) (λ q. value (q.0, ArrayPart q.1 ∷ r.1)))
  declared s own (function_of d ps) = and_then (declared s own d) (λ r. and_then (parameters_judged (own && is_name d) (opened r.0) ps) (λ q. value (closed q.0, FunctionPart q.1 ∷ r.1)))

  pub parameters_judged : Bool → Scene → ParameterTrees → Judged (Scene × List ParameterOf)
  parameters_judged own s no_parameter_trees = value (s, [])
  parameters_judged own s (parameter_trees at ss d ps) =
      and_then (specified s None ss) (λ r. and_then (declared r.0 false d) (λ q.
      and_then (parameter_judged own q.0 at (declared_at d at) (declared_name d) (built_parameter q.0.types (base_of r.1) q.1)) (λ p.
      and_then (parameters_judged own p.0 ps) (λ o. value (o.0, p.1 ∷ o.1)))))
