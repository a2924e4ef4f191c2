-- The faults of a file, in its order, and what it declares and defines (ISO C99 6.9).
use Rattle.std.specs.Prelude.{ℕ, ◌+◌, Bool, true, false, ◌||◌, not, List, [], ◌∷◌, ◌++◌, length, Option, Some, None}
use Rattle.c_tree.specs.Trees.{DeclaratorTree, SpecifierTrees, decl_tree, ItemTrees, ExternalTree, decl_external, function_external, FileTree}
use Rattle.clight_types.specs.declared.rule.Rule.TheVariants as rule
use Rattle.clight_types.specs.declared.rule.Fault.{Fault}
use Rattle.clight_types.specs.Judged.{Judged, value, fault, and_then, unless, faults_of}
use Rattle.clight_types.specs.Types.{Types, shape_at, main_type}
use Rattle.clight_scopes.specs.Scopes.{Entity, ObjectEntity, FunctionEntity, BuiltinEntity, FileName, BlockName, Scene, first_scene}
use Rattle.clight_types.specs.Types.{Spelling}
use Rattle.clight_calls.specs.Calls.{results_at}
use Rattle.clight_types.specs.Declarators.{Built, ParameterOf, Part, FunctionPart, built_type}
use Rattle.clight_typing.specs.Typing.{specified, declared, declared_name, declared_at, name_or_empty, base_of, entity_of}
use Rattle.clight_typing.specs.Statements.{MadeList, Around, items_judged}
use Rattle.clight_globals.specs.Globals.{main_name, function_clash, function_judged, storage_in, is_static, names_declared}

-- ## Functions

-- a function that is defined: its name, its type, its parameters and locals by their types, which of them have their address taken, how many are parameters, and what it does
pub record FunctionMade : Type 0 where
  pub name : Spelling
  pub type : ℕ
  pub locals : List ℕ
  pub addressed : List ℕ
  pub parameters : ℕ
  pub body : MadeList

-- the parameters of the function itself are those of the last part
abbrev pub own_parameters : List Part → List ParameterOf
own_parameters [] = []
own_parameters (FunctionPart ps ∷ []) = ps
own_parameters (p ∷ ps) = own_parameters ps

abbrev pub block_from : ℕ → List ParameterOf → List BlockName
block_from n [] = []
block_from n (p ∷ ps) = record { name = name_or_empty p.name; type = p.type; local = Some n } ∷ block_from (n + 1) ps

abbrev pub in_definition : Scene → Scene
in_definition s = record s { locals = []; addressed = [] }

abbrev pub in_body_of : Scene → List ParameterOf → Scene
in_body_of s ps = record s { blocks = block_from 0 ps ∷ []; in_body = true }

abbrev pub behind_body : Scene → Scene
behind_body s = record s { blocks = []; in_body = false }

abbrev pub made_function : Scene → Spelling → ℕ → List ParameterOf → MadeList → FunctionMade
made_function s name t ps body = record { name = name; type = t; locals = s.locals; addressed = s.addressed; parameters = length ps; body = body }

abbrev pub around_body : Types → ℕ → Around
around_body types t = record { result = results_at (shape_at types t); breaks = false; continues = false }

abbrev pub body_judged : Scene → Spelling → ℕ → List ParameterOf → ItemTrees → Judged (Scene × FunctionMade)
body_judged s name t ps is = and_then (items_judged (around_body s.types t) (in_body_of s ps) is) (λ r. value (behind_body r.0, made_function r.0 name t ps r.1))

-- a definition whose declarator makes no function breaks the rule on arrays and functions
abbrev pub definition_judged : Scene → Bool → ℕ → Spelling → Built → List ParameterOf → ItemTrees → Option ℕ → Judged (Scene × FunctionMade)
definition_judged s static at name b ps is (Some t) = and_then (function_judged s at name b t static true) (λ q. body_judged q name t ps is)
definition_judged s static at name b ps is None =
    unless (not (function_clash s name 0 true).twice) rule.DefinedTwice at
    (fault rule.ArrayOrFunction at (body_judged s name main_type ps is))

abbrev pub function_defined : Scene → SpecifierTrees → DeclaratorTree → ItemTrees → Judged (Scene × FunctionMade)
function_defined s ss d is =
    and_then (specified s None ss) (λ r.
    and_then (declared (in_definition r.0) true d) (λ q.
    let b = built_type q.0.types (base_of r.1) q.1 in
    definition_judged q.0 (is_static (storage_in ss)) (declared_at d 0) (name_or_empty (declared_name d)) b (own_parameters q.1) is b.type))

-- ## Files

abbrev pub external_judged : Scene → ExternalTree → Judged (Scene × List FunctionMade)
external_judged s (decl_external (decl_tree at ss ds)) = and_then (specified s None ss) (λ r. and_then (names_declared r.0 (storage_in ss) (base_of r.1) ds) (λ q. value (q, [])))
external_judged s (function_external at ss d body_at is) = and_then (function_defined s ss d is) (λ r. value (r.0, r.1 ∷ []))

abbrev pub externals_judged : Scene → FileTree → Judged (Scene × List FunctionMade)
externals_judged s [] = value (s, [])
externals_judged s (x ∷ xs) = and_then (external_judged s x) (λ r. and_then (externals_judged r.0 xs) (λ q. value (q.0, r.1 ++ q.1)))

-- the names of the functions that a file defines
abbrev pub defined_name : ExternalTree → List Spelling
defined_name (decl_external d) = []
defined_name (function_external at ss d body_at is) = name_or_empty (declared_name d) ∷ []

abbrev pub defined_names : FileTree → List Spelling
defined_names [] = []
defined_names (x ∷ xs) = defined_name x ++ defined_names xs

-- an object or a static function is defined somewhere
abbrev pub is_settled : Entity → Bool
is_settled (ObjectEntity t defined start) = defined
is_settled (FunctionEntity t static defined) = defined || not static
is_settled (BuiltinEntity static) = not static
is_settled _ = true

abbrev pub all_settled : {A : Type 0} → List FileName → Judged A → Judged A
all_settled [] j = j
all_settled (x ∷ xs) j = unless (is_settled x.entity) rule.NeverDefined x.at (all_settled xs j)

abbrev pub is_defined_entity : Option Entity → Bool
is_defined_entity (Some (FunctionEntity t static defined)) = defined
is_defined_entity _ = false

-- what a file declares and defines
pub record FileMade : Type 0 where
  pub scene : Scene
  pub functions : List FunctionMade

-- behind the last declaration: names that are never defined, and then `main`, at the file's length
abbrev pub ended : ℕ → Scene → List FunctionMade → Judged FileMade
ended length s fs = all_settled s.file (unless (is_defined_entity (entity_of s main_name)) rule.Main length (value (record { scene = s; functions = fs })))

abbrev pub file_judged : ℕ → FileTree → Judged FileMade
file_judged length f = and_then (externals_judged (first_scene (defined_names f)) f) (λ r. ended length r.0 r.1)

-- all faults of a file of a length, in its order
abbrev pub file_faults : ℕ → FileTree → List Fault
file_faults length f = faults_of (file_judged length f)
