-- Single steps of types, members, enumerators, tags and parameters: the scene behind each is good.
use Rattle.std.proofs.Common.{◌≡◌, ℕ, ◌+◌, ◌<◌, ◌≤◌, Bool, true, false, cond, ◌&&◌, not, true≢false, length, Option, Some, None, refl, sym, ap, inl, inr, arith}
use Rattle.std.specs.Prelude.{◌⊎◌, is_some, nat_le}
use Rattle.std.specs.Option.{option_map}
use Rattle.std.proofs.lemmas.Bool.Decides.{leb_tells}
use Rattle.c_grammar.specs.Tokens as k
use Rattle.c_tree.specs.Trees.{TagTree, untagged, tagged}
use Rattle.clight_lang.specs.Placed.{IsAlignment}
use Rattle.clight_types.specs.declared.kind.Integer.TheVariants as i
use Rattle.clight_types.specs.declared.kind.Constant.{Constant}
use Rattle.clight_types.specs.declared.kind.Constant.TheVariants as constant
use Rattle.clight_types.specs.Types.{Types, Spelling, StructShape, Laid, with_shape, with_struct, with_body, is_complete, is_incomplete, is_function, is_struct, integer_type, type_limit, IntegerShape, is_function_shape}
use Rattle.clight_types.specs.Declarators.{BadLength, Elements, ParameterOf, ArrayPart, Built, type_or}
use Rattle.clight_scopes.specs.Scopes.{Entity, ObjectEntity, FunctionEntity, EnumeratorEntity, TypedefEntity, BuiltinEntity, TagKind, StructTag, EnumTag, FileName, Scene, find_file, with_types, with_tag, with_tag_kind}
use Rattle.clight_calls.specs.Builtins.{is_builtin_name}
use Rattle.clight_typing.specs.Typing.{defined_twice, enumerator_with, enumerator_clash, entity_of, length_of, EnumValue, has_value, enum_word, enumerator_judged, tag_kind, struct_type, new_struct, new_tagged, referred_by, referred, begun_by, begun_struct, is_struct_word, body_begun, enum_referred, enum_begun, typedef_judged, is_member_name, is_member_type, passes_limit, member_judged, is_taken_name, with_parameter_name, with_parameter, parameter_judged, type_name_judged}
use Rattle.clight_laws.proofs.Holding.{Holds, of_value, of_fault, of_then, of_unless, both_true, not_both}
use Rattle.clight_laws.proofs.TypeTables.{shape_is, AreTypes, grows_none, shape_grows, shape_added, struct_grows, struct_added, body_grows, body_added, laid_more, laid_body}
use Rattle.clight_laws.proofs.BuiltTypes.{IsNext, IsPart, IsNoFunction}
use Rattle.clight_laws.proofs.Scenes.{IsScene, IsGood, good_none, good_twice, types_good, block_good, local_good, named_good, length_push}

-- ## Lengths

pub length_good : (c : Constant) → IsPart (ArrayPart (length_of c))
length_good constant.No = tt
length_good constant.WithoutValue = tt
length_good (constant.Known w) = by (nat_le 1 w) (nat_le w type_limit) refl
  where
    some : (nat_le 1 w ≡ true) → ((nat_le 1 w ≡ true) × (1 ≤ w)) ⊎ ((nat_le 1 w ≡ false) × (w < 1)) → 1 ≤ w
    some e (inl h) = h.1
    some e (inr h) = absurd (not_both (nat_le 1 w) e h.0)

    by : (b c : Bool) → nat_le 1 w ≡ b → IsPart (ArrayPart (cond (b && c) (Elements w) BadLength))
    by true true e = some e (leb_tells 1 w)
    by true false e = tt
    by false c e = tt

-- ## Tags and structs

pub tag_good : (s : Scene) (name : Spelling) (kind : TagKind) → IsScene s → IsGood 0 s (with_tag s name kind)
tag_good s name kind h =
    record {
      scene = record { types = h.types; blocks = h.blocks; locals = h.locals; names = h.names; apart = h.apart };
      later = record { types = grows_none s.types; objects = λ name o. o; functions = λ name u o. o; definitions = λ name u o. o; blocks = λ e m o. o; defined = refl; more = omega arith; few = omega arith };
    }

tag_kind_good : (s : Scene) (name : Spelling) (kind : TagKind) → IsScene s → IsGood 0 s (with_tag_kind s name kind)
tag_kind_good s name kind h =
    record {
      scene = record { types = h.types; blocks = h.blocks; locals = h.locals; names = h.names; apart = h.apart };
      later = record { types = grows_none s.types; objects = λ name o. o; functions = λ name u o. o; definitions = λ name u o. o; blocks = λ e m o. o; defined = refl; more = omega arith; few = omega arith };
    }

struct_type_good : (s : Scene) (n : ℕ) → IsScene s → IsGood 0 s (struct_type s n).0
struct_type_good s n h = types_good s (with_shape s.types (StructShape n)).0 h (record { good = shape_added s.types (StructShape n) h.types tt; grows = shape_grows s.types (StructShape n) })

new_struct_good : (s : Scene) → IsScene s → IsGood 0 s (new_struct s).0
new_struct_good s h = types_good s (with_struct s.types) h (record { good = struct_added s.types h.types; grows = struct_grows s.types })

then_good : (a b c : Scene) → IsGood 0 a b → (IsScene b → IsGood 0 b c) → IsGood 0 a c
then_good a b c g h = good_twice 0 0 0 a b c g (h g.scene) (omega arith)

new_tagged_good : (s : Scene) (name : Spelling) (begun : Bool) → IsScene s → IsGood 0 s (new_tagged s name begun).0
new_tagged_good s name begun h = then_good s (new_struct s).0 _ (new_struct_good s h) (λ g. tag_good (new_struct s).0 name (StructTag (new_struct s).1 begun) g)

-- the scene behind is good, whatever else is made
abbrev pub Keeps : {A : Type 0} → Scene → Scene × A → Type 0
Keeps s r = IsGood 0 s r.0

referred_by_good : (s : Scene) (at : ℕ) (name : Spelling) (o : Option TagKind) → IsScene s → Holds (referred_by s at name o) (Keeps s)
referred_by_good s at name None h = of_value _ _ (then_good s (new_tagged s name false).0 _ (new_tagged_good s name false h) (λ g. struct_type_good (new_tagged s name false).0 (new_tagged s name false).1 g))
referred_by_good s at name (Some (StructTag n begun)) h = of_value _ _ (struct_type_good s n h)
referred_by_good s at name (Some EnumTag) h = of_fault _ _ _ _

pub referred_good : (s : Scene) (w : k.CompositeWord) (at tag_at : ℕ) (name : Spelling) → IsScene s → Holds (referred s w at tag_at name) (Keeps s)
referred_good s k.Struct at tag_at name h = referred_by_good s tag_at name (tag_kind s name) h
referred_good s k.Union at tag_at name h = of_fault _ _ _ _

begun_by_good : (s : Scene) (at : ℕ) (name : Spelling) (o : Option TagKind) → IsScene s → Holds (begun_by s at name o) (Keeps s)
begun_by_good s at name None h = of_value _ _ (new_tagged_good s name true h)
begun_by_good s at name (Some (StructTag n false)) h = of_value _ _ (tag_kind_good s name (StructTag n true) h)
begun_by_good s at name (Some (StructTag n true)) h = of_fault _ _ _ _
begun_by_good s at name (Some EnumTag) h = of_fault _ _ _ _

begun_struct_good : (s : Scene) (tag : TagTree) → IsScene s → Holds (begun_struct s tag) (Keeps s)
begun_struct_good s untagged h = of_value _ _ (new_struct_good s h)
begun_struct_good s (tagged at name) h = begun_by_good s at name (tag_kind s name) h

pub body_begun_good : (s : Scene) (w : k.CompositeWord) (at : ℕ) (tag : TagTree) (body_at : ℕ) → IsScene s → Holds (body_begun s w at tag body_at) (Keeps s)
body_begun_good s w at tag body_at h =
    of_unless (is_struct_word w) _ _ _ _ (λ e.
    of_then (begun_struct s tag) _ (Keeps s) _ (begun_struct_good s tag h) (λ r g.
    of_unless (not s.in_body) _ _ _ _ (λ e2. of_value _ _ g)))

pub body_ended_good : (s : Scene) (n : ℕ) (laid : Laid) → IsScene s → 1 ≤ laid.size → IsAlignment laid.align → IsGood 0 s (struct_type (with_types s (with_body s.types n laid)) n).0
body_ended_good s n laid h l a =
    then_good s (with_types s (with_body s.types n laid)) _
    (types_good s (with_body s.types n laid) h (record { good = body_added s.types n laid h.types (laid_body laid l a); grows = body_grows s.types n laid }))
    (λ g. struct_type_good (with_types s (with_body s.types n laid)) n g)

pub enum_referred_good : (s : Scene) (at : ℕ) (o : Option TagKind) → IsScene s → Holds (enum_referred s at o) (Keeps s)
enum_referred_good s at None h = of_fault _ _ _ _
enum_referred_good s at (Some EnumTag) h = of_value _ _ (good_none s h)
enum_referred_good s at (Some (StructTag n begun)) h = of_fault _ _ _ _

pub enum_begun_good : (s : Scene) (tag : TagTree) (body_at : ℕ) → IsScene s → Holds (enum_begun s tag body_at) (IsGood 0 s)
enum_begun_good s untagged body_at h = of_unless (not s.in_body) _ _ _ _ (λ e. of_value _ _ (good_none s h))
enum_begun_good s (tagged at name) body_at h = of_unless (not (is_some (tag_kind s name))) _ _ _ _ (λ e. of_unless (not s.in_body) _ _ _ _ (λ e2. of_value _ _ (tag_good s name EnumTag h)))

pub typedef_good : (s : Scene) (at : ℕ) (o : Option ℕ) → IsScene s → Holds (typedef_judged s at o) (Keeps s)
typedef_good s at (Some t) h = of_value _ _ (good_none s h)
typedef_good s at None h = of_fault _ _ _ _

-- ## Enumerators

defined_differs : (b : Bool) → not b ≡ true → not (not b) ≡ true → ⊥
defined_differs true p q = true≢false (sym p)
defined_differs false p q = true≢false (sym q)

clash_by : (o : Option FileName) → not (enumerator_with (option_map (λ x. x.entity) o)).twice ≡ true → not (enumerator_with (option_map (λ x. x.entity) o)).differs ≡ true → o ≡ None
clash_by None p q = refl
clash_by (Some x) p q = absurd (by x.entity p q)
  where
    by : (e : Entity) → not (enumerator_with (Some e)).twice ≡ true → not (enumerator_with (Some e)).differs ≡ true → ⊥
    by (ObjectEntity t df start) p q = defined_differs df p q
    by (FunctionEntity t static df) p q = defined_differs df p q
    by (EnumeratorEntity w) p q = true≢false (sym p)
    by (TypedefEntity t) p q = true≢false (sym p)
    by (BuiltinEntity static) p q = true≢false (sym p)

enumerator_new : (s : Scene) (name : Spelling) → not (enumerator_clash s name).twice ≡ true → not (enumerator_clash s name).differs ≡ true → find_file name s.file ≡ None
enumerator_new s name p q = by (is_builtin_name name) p q
  where
    by : (b : Bool) → not (cond b defined_twice (enumerator_with (entity_of s name))).twice ≡ true → not (cond b defined_twice (enumerator_with (entity_of s name))).differs ≡ true → find_file name s.file ≡ None
    by true p q = absurd (true≢false (sym p))
    by false p q = clash_by (find_file name s.file) p q

pub enumerator_good : (s : Scene) (at : ℕ) (name : Spelling) (next : ℕ) (x : EnumValue) → IsScene s → Holds (enumerator_judged s at name next x) (Keeps s)
enumerator_good s at name next x h =
    of_unless (not (enumerator_clash s name).twice) _ _ _ _ (λ e1.
    of_unless (not (enumerator_clash s name).differs) _ _ _ _ (λ e2.
    of_unless (has_value x) _ _ _ _ (λ e3.
    of_value _ _ (named_good s name at (EnumeratorEntity (enum_word next x)) h (enumerator_new s name e1 e2) tt))))

-- ## Members

pub record IsLaid (s : Scene) (Some_before : Type 0) (r : Scene × Laid) : Type 0 where
  pub good : IsGood 0 s r.0
  pub align : IsAlignment r.1.align
  pub size : Some_before → 1 ≤ r.1.size

pub member_laid : (s : Scene) (laid : Laid) (at : ℕ) (name : Spelling) (b : Built) → IsScene s → IsAlignment laid.align → IsNext s.types b.types → Holds (member_judged s laid at name b) (IsLaid s (Unit {0}))
member_laid s laid at name b h a n =
    of_unless (not (is_member_name laid name)) _ _ _ _ (λ e1.
    of_unless (not b.has_incomplete && is_member_type b.types (type_or b.type (integer_type i.Int))) _ _ _ _ (λ e2.
    of_unless (not b.is_wrong) _ _ _ _ (λ e3.
    of_unless (not b.is_large && not (passes_limit b.types laid (type_or b.type (integer_type i.Int)))) _ _ _ _ (λ e4.
    of_unless (not b.gives_struct) _ _ _ _ (λ e5.
    (let m = laid_more b.types laid name (type_or b.type (integer_type i.Int)) n.good (both_true (not b.has_incomplete) (is_member_type b.types (type_or b.type (integer_type i.Int))) e2).1 a in
    of_value _ _ (record { good = types_good s b.types h n; align = m.1; size = λ u. m.0 })))))))

-- ## Parameters

object_complete : (types : Types) (t : ℕ) → not (is_incomplete types t) ≡ true → is_function types t ≡ false → is_complete types t ≡ true
object_complete types t e f = by (is_complete types t) (is_function types t) e f
  where
    by : (c g : Bool) → not (not c && not g) ≡ true → g ≡ false → c ≡ true
    by true g e f = refl
    by false true e f = absurd (true≢false f)
    by false false e f = absurd (true≢false (sym e))

int_complete : (types : Types) → AreTypes types → is_function types (integer_type i.Int) ≡ false
int_complete types h = ap is_function_shape (shape_is types 5 (IntegerShape i.Int) (h.first 5 (IntegerShape i.Int) refl))

pub no_function : (types : Types) (o : Option ℕ) → AreTypes types → IsNoFunction types o → is_function types (type_or o (integer_type i.Int)) ≡ false
no_function types None h n = int_complete types h
no_function types (Some t) h n = n

pub parameter_declared : (s : Scene) (first_at at : ℕ) (name : Option Spelling) (b : Built) → IsScene s → IsNext s.types b.types → Holds (parameter_judged false s first_at at name b) (Keeps s)
parameter_declared s first_at at name b h n =
    of_unless (not (is_taken_name s name)) _ _ _ _ (λ e1.
    of_unless (not b.has_incomplete && not (is_incomplete b.types (type_or b.type (integer_type i.Int)))) _ _ _ _ (λ e2.
    of_unless (not b.is_wrong) _ _ _ _ (λ e3.
    of_unless (not b.is_large) _ _ _ _ (λ e4.
    of_unless (not b.gives_struct && not (is_struct b.types (type_or b.type (integer_type i.Int)))) _ _ _ _ (λ e5.
    of_value _ _ (by name (types_good s b.types h n)))))))
  where
    by : (o : Option Spelling) → IsGood 0 s (with_types s b.types) → IsGood 0 s (with_parameter_name (with_types s b.types) o (type_or b.type (integer_type i.Int)) None)
    by None g = g
    by (Some m) g = then_good s (with_types s b.types) _ g (λ q. block_good (with_types s b.types) m (type_or b.type (integer_type i.Int)) q)

-- a parameter of the function that is defined is one local more
pub record AddsOne (s : Scene) (r : Scene × ParameterOf) : Type 0 where
  pub good : IsGood 1 s r.0
  pub one : length r.0.locals ≡ length s.locals + 1

pub parameter_defined : (s : Scene) (first_at at : ℕ) (name : Option Spelling) (b : Built) → IsScene s → IsNext s.types b.types → IsNoFunction b.types b.type → Holds (parameter_judged true s first_at at name b) (AddsOne s)
parameter_defined s first_at at name b h n f =
    of_unless (not (is_taken_name s name)) _ _ _ _ (λ e1.
    of_unless (not b.has_incomplete && not (is_incomplete b.types (type_or b.type (integer_type i.Int)))) _ _ _ _ (λ e2.
    of_unless (not b.is_wrong) _ _ _ _ (λ e3.
    of_unless (not b.is_large) _ _ _ _ (λ e4.
    of_unless (not b.gives_struct && not (is_struct b.types (type_or b.type (integer_type i.Int)))) _ _ _ _ (λ e5.
    of_unless (is_some name) _ _ _ _ (λ e6.
    of_value _ _ (by name e6 (types_good s b.types h n)
    (object_complete b.types (type_or b.type (integer_type i.Int)) (both_true (not b.has_incomplete) (not (is_incomplete b.types (type_or b.type (integer_type i.Int)))) e2).1 (no_function b.types b.type n.good f)))))))))
  where
    by : (o : Option Spelling) → is_some o ≡ true → IsGood 0 s (with_types s b.types) → is_complete b.types (type_or b.type (integer_type i.Int)) ≡ true
        → AddsOne s (with_parameter true (with_types s b.types) o (type_or b.type (integer_type i.Int)), record { name = o; at = at; type = type_or b.type (integer_type i.Int) })
    by None e g c = absurd (true≢false (sym e))
    by (Some m) e g c =
        record {
          good = good_twice 0 1 1 s (with_types s b.types) _ g (local_good (with_types s b.types) m (type_or b.type (integer_type i.Int)) g.scene c) (omega arith);
          one = length_push s.locals (type_or b.type (integer_type i.Int));
        }

pub type_name_good : (s : Scene) (at : ℕ) (b : Built) → IsScene s → IsNext s.types b.types → Holds (type_name_judged s at b) (Keeps s)
type_name_good s at b h n =
    of_unless (not b.has_incomplete) _ _ _ _ (λ e1.
    of_unless (not b.is_wrong) _ _ _ _ (λ e2.
    of_unless (not b.is_large) _ _ _ _ (λ e3.
    of_unless (not b.gives_struct) _ _ _ _ (λ e4.
    of_value _ _ (types_good s b.types h n)))))
