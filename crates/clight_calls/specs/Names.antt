-- What a name stands for in an expression (6.5.1): a local, a builtin or what the file declares; and the fault at it.
use Rattle.std.specs.Prelude.{ℕ, Bool, true, false, Option, Some, None, if◌then◌else◌}
use Rattle.c_grammar.specs.Tokens as k
use Rattle.clight_lang.specs.declared.statement.Builtin.{Builtin}
use Rattle.clight_lang.specs.Syntax.{Expression, Const, LocalAddr, GlobalAddr}
use Rattle.clight_types.specs.declared.kind.Value.TheVariants as v
use Rattle.clight_types.specs.declared.kind.Denoted.{Denoted}
use Rattle.clight_types.specs.declared.kind.Denoted.TheVariants as d
use Rattle.clight_types.specs.declared.kind.Constant.TheVariants as constant
use Rattle.clight_types.specs.declared.rule.Rule.TheVariants as rule
use Rattle.clight_types.specs.Judged.{Judged, value, fault, unless}
use Rattle.clight_types.specs.Types.{Spelling}
use Rattle.clight_types.specs.Conversions.{int_value}
use Rattle.clight_scopes.specs.Scopes.{Entity, ObjectEntity, FunctionEntity, EnumeratorEntity, TypedefEntity, BuiltinEntity, FileName, BlockName, Scene, find_local, find_file, is_defined_function, with_addressed}
use Rattle.clight_operands.specs.Operands.{Naming, NoName, LocalName, ExternalName, BuiltinName, NoDeed, Typed, plain, recovered, addressed_by}
use Rattle.clight_calls.specs.Builtins.{builtin_named}

abbrev pub named_as : ℕ → Denoted → Naming → Expression → Typed
named_as at x name e = record { at = at; denoted = x; constant = constant.No; naming = name; meaning = e; deed = NoDeed }

-- a builtin is only called
abbrev pub builtin_typed : Bool → ℕ → Builtin → Judged Typed
builtin_typed called at b = unless called rule.NoObject at (value (named_as at (d.Value v.Void) (BuiltinName b) (Const 0)))

-- so is an external function; one that the file defines has an address
abbrev pub function_typed : Bool → Bool → ℕ → Spelling → ℕ → Judged Typed
function_typed true called at name t = value (named_as at (d.Function t) NoName (GlobalAddr name))
function_typed false called at name t = unless called rule.NoObject at (value (named_as at (d.Function t) (ExternalName name) (GlobalAddr name)))

abbrev pub file_name_typed : Scene → Bool → ℕ → Spelling → Entity → Judged Typed
file_name_typed s called at name (ObjectEntity t defined start) = value (named_as at (d.Object t) NoName (GlobalAddr name))
file_name_typed s called at name (FunctionEntity t static defined) = function_typed (is_defined_function s name) called at name t
file_name_typed s called at name (EnumeratorEntity w) = value (plain at (d.Value int_value) (constant.Known w) (Const w))
file_name_typed s called at name (TypedefEntity t) = fault rule.Undeclared at (value (recovered at))
file_name_typed s called at name (BuiltinEntity static) = fault rule.Undeclared at (value (recovered at))

abbrev pub known_name_typed : Scene → Bool → ℕ → Spelling → Option FileName → Judged Typed
known_name_typed s called at name None = fault rule.Undeclared at (value (recovered at))
known_name_typed s called at name (Some x) = file_name_typed s called at name x.entity

abbrev pub file_typed : Scene → Bool → ℕ → Spelling → Option Builtin → Judged Typed
file_typed s called at name (Some b) = builtin_typed called at b
file_typed s called at name None = known_name_typed s called at name (find_file name s.file)

-- the address of a local, by its number among all
abbrev pub local_address : Option ℕ → Expression
local_address None = Const 0
local_address (Some n) = LocalAddr n

abbrev pub name_typed_by : Scene → Bool → ℕ → Spelling → Option BlockName → Judged Typed
name_typed_by s called at name (Some x) = value (named_as at (d.Object x.type) (LocalName x.local) (local_address x.local))
name_typed_by s called at name None = file_typed s called at name (builtin_named name)

abbrev pub name_typed : Scene → Bool → ℕ → Spelling → Judged Typed
name_typed s called at name = name_typed_by s called at name (find_local name s.blocks)

-- ## Addresses of names

abbrev pub is_ampersand : k.Operator → Bool
is_ampersand k.Ampersand = true
is_ampersand _ = false

-- the scene behind an operator: `&` of a local's name takes its address, also where it is not evaluated
abbrev pub scene_behind : Scene → k.Operator → Typed → Scene
scene_behind s o a = if is_ampersand o then with_addressed (addressed_by a.naming) s else s
