-- What the code's slots, filled objects and storage words are, and what those functions judge that do a part of a definition's work.
use Rattle.std.specs.Prelude.{ℕ, Bool, false, ◌||◌, List, [], Option, Some, None, if◌then◌else◌}
use Rattle.std.specs.Option.{option_map}
use Rattle.c_grammar.specs.Tokens as k
use Rattle.c_tree.specs.Trees.{ExprTree, DeclaratorTree, InitializerTree}
use Rattle.c_tree.specs.Shape.{storage_of}
use Rattle.c_tree.specs.declared.word.StorageClass.{StorageClass}
use Rattle.clight_types.specs.declared.kind.Value.{Value}
use Rattle.clight_types.specs.Judged.{Judged, value, and_then}
use Rattle.clight_types.specs.Types.{Spelling}
use Rattle.clight_types.specs.Declarators.{built_type}
use Rattle.clight_scopes.specs.Scopes.{Entity, ObjectEntity, FunctionEntity, BuiltinEntity, Scene}
use Rattle.clight_calls.specs.Builtins.{is_builtin_name}
use Rattle.clight_operands.specs.Operands.{NoEffect}
use Rattle.clight_typing.specs.Typing.{typed, declared, declared_name, declared_at, name_or_empty}
use Rattle.clight_globals.specs.declared.slots.Slot as S
use Rattle.clight_globals.specs.declared.lists.Filled as F
use Rattle.clight_globals.specs.Globals as g

abbrev pub storage_given : Option StorageClass → Option k.StorageClass
storage_given w = option_map storage_of w

-- ## What is known behind a declaration

-- an object that is declared again
abbrev pub object_again : Bool → Entity → Entity
object_again defines (ObjectEntity t defined start) = ObjectEntity t (defined || defines) start
object_again defines e = e

-- a function or a builtin that is declared first
abbrev pub new_function : Spelling → ℕ → Bool → Bool → Entity
new_function name t static defined = if is_builtin_name name then BuiltinEntity static else FunctionEntity t static defined

-- a function or a builtin that is declared again; nothing else is
abbrev pub function_again : Bool → Bool → Entity → Option Entity
function_again static defines (FunctionEntity t was_static defined) = Some (FunctionEntity t (was_static || static) (defined || defines))
function_again static defines (BuiltinEntity was_static) = Some (BuiltinEntity (was_static || static))
function_again static defines _ = None

-- an object with these first bytes; nothing else has any
abbrev pub object_started : List ℕ → Entity → Option Entity
object_started bytes (ObjectEntity t defined start) = Some (ObjectEntity t defined bytes)
object_started bytes _ = None

-- ## Lists in braces

abbrev pub slot_in : Option S.Slot → Option (ℕ × Value)
slot_in slot = option_map (λ x. (x.offset, x.to)) slot

abbrev pub filled_of : F.Filled → g.Filled
filled_of f = record { bytes = f.bytes.items; is_bad = f.is_bad }

abbrev pub nothing_filled : g.Filled
nothing_filled = record { bytes = []; is_bad = false }

-- one item
abbrev pub item_filled : Scene → ℕ → Bool → ℕ → g.Filled → ExprTree → Judged (Scene × g.Filled)
item_filled s t fits item f e = and_then (typed NoEffect false s e) (λ r. and_then (g.item_judged r.0.types f r.1 (g.slot_of r.0.types t fits item)) (λ h. value (r.0, h)))

-- ## Declarators

-- one declarator with its initializer
abbrev pub item_declared : Scene → Option k.StorageClass → ℕ → DeclaratorTree → InitializerTree → Judged Scene
item_declared s w base d x = and_then (declared s false d) (λ r. g.name_declared r.0 w (declared_at d 0) (name_or_empty (declared_name d)) (built_type r.0.types base r.1) x)
