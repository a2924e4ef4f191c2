-- The program of a file without faults: what its statements do as statements of ClightTSO, in the manner of Clight's translation in CompCert. A parameter or local is in memory where it is an array or a struct or the function takes its address; else it is a temporary.
use Rattle.std.specs.Prelude.{ℕ, zero, suc, ◌+◌, ◌-◌, ◌*◌, ◌==◌, Bool, false, ◌||◌, not, List, [], ◌∷◌, ◌++◌, length, map, count_by, sum_by, find, position, Option, Some, None, unwrap_or, slice_get, if◌then◌else◌}
use Rattle.std.specs.List.{list_any}
use Rattle.c_tree.specs.Trees.{FileTree}
use Rattle.tso_core.specs.declared.placement.Room.{Room}
use Rattle.clight_lang.specs.declared.function.Local.{Local}
use Rattle.clight_lang.specs.declared.function.Taken.{Taken}
use Rattle.clight_lang.specs.declared.function.Kept.{Kept}
use Rattle.clight_lang.specs.State.{FunctionOf}
use Rattle.clight_lang.specs.Meaning.{ExternalOf, ProgramOf}
use Rattle.clight_types.specs.declared.kind.Value.{Value}
use Rattle.clight_types.specs.Types.{Types, shape_at, size_at, align_at, value_at, is_scalar, thread_function_type}
use Rattle.clight_types.specs.WordOperators.{value_chunk}
use Rattle.clight_scopes.specs.Scopes.{Entity, ObjectEntity, FunctionEntity, FileName}
use Rattle.clight_types.specs.Types.{Spelling, same_name}
use Rattle.clight_operands.specs.Operands.{Callee, Inside, Outside, Provided, Source, FromValue, FromCall, Deed, NoDeed, CallDeed, AssignDeed, UpdateDeed}
use Rattle.clight_calls.specs.Calls.{parameters_at}
use Rattle.clight_typing.specs.Statements.{Made, NothingMade, EvaluatedMade, DeedMade, BlockMade, BranchMade, WhileMade, DoMade, ForMade, SwitchMade, BreakMade, ContinueMade, ReturnMade, ReturnCallMade, MadeList, NoMade, AndMade, MadeGroups, NoGroups, AndGroup}
use Rattle.clight_placing.specs.Placing.{Location, InTemp, InMemory, Inner, number_of_type, all_meant}
use Rattle.clight_files.specs.Files.{FunctionMade, FileMade}
use Rattle.clight_globals.specs.Globals.{main_name}
use Rattle.clight_meaning.specs.Counts.{SizeOf, function_size, function_named}

-- ## Where parameters and locals are

abbrev pub is_in_memory : Types → FunctionMade → ℕ → Bool
is_in_memory types f n = list_any (λ a. a == n) f.addressed || not (is_scalar types (unwrap_or (slice_get f.locals n) 0))

-- the numbers below a bound
abbrev pub below : ℕ → List ℕ
below zero = []
below (suc n) = below n ++ n ∷ []

-- those in memory are numbered among themselves, and so are the others
abbrev pub location_of : Types → FunctionMade → ℕ → Location
location_of types f n =
    if is_in_memory types f n then InMemory (count_by (is_in_memory types f) (below n))
    else InTemp (count_by (λ m. not (is_in_memory types f m)) (below n))

-- ## Function types: those of the functions in order of first declaration, and then those of the calls in order of their parentheses, each once

abbrev pub added : List ℕ → ℕ → List ℕ
added ts t = if list_any (λ u. u == t) ts then ts else ts ++ t ∷ []

abbrev pub callee_types : List ℕ → Callee → List ℕ
callee_types ts (Inside t f) = added ts t
callee_types ts (Outside name t) = added ts t
callee_types ts (Provided b) = ts

abbrev pub source_types : List ℕ → Source → List ℕ
source_types ts (FromValue e) = ts
source_types ts (FromCall f args from) = callee_types ts f

abbrev pub deed_types : List ℕ → Deed → List ℕ
deed_types ts NoDeed = ts
deed_types ts (CallDeed f args x) = callee_types ts f
deed_types ts (AssignDeed a to source) = source_types ts source
deed_types ts (UpdateDeed a to o other e given) = ts

abbrev mutual
  pub made_types : List ℕ → Made → List ℕ
  made_types ts NothingMade = ts
  made_types ts (EvaluatedMade e) = ts
  made_types ts (DeedMade deed) = deed_types ts deed
  made_types ts (BlockMade l) = list_types ts l
  made_types ts (BranchMade e a b) = made_types (made_types ts a) b
  made_types ts (WhileMade e a) = made_types ts a
  made_types ts (DoMade a e) = made_types ts a
  made_types ts (ForMade first c u a) = made_types (made_types (list_types ts first) u) a
  made_types ts (SwitchMade e gs) = group_types ts gs
  made_types ts BreakMade = ts
  made_types ts ContinueMade = ts
  made_types ts (ReturnMade e) = ts
  made_types ts (ReturnCallMade f args from to) = callee_types ts f

  pub list_types : List ℕ → MadeList → List ℕ
  list_types ts NoMade = ts
  list_types ts (AndMade m ms) = list_types (made_types ts m) ms

  pub group_types : List ℕ → MadeGroups → List ℕ
  group_types ts NoGroups = ts
  group_types ts (AndGroup numbers is_default l gs) = group_types (list_types ts l) gs

abbrev pub entity_types : List ℕ → Entity → List ℕ
entity_types ts (FunctionEntity t static defined) = added ts t
entity_types ts _ = ts

abbrev pub declared_types : List ℕ → List FileName → List ℕ
declared_types ts [] = ts
declared_types ts (x ∷ xs) = declared_types (entity_types ts x.entity) xs

abbrev pub body_types : List ℕ → List FunctionMade → List ℕ
body_types ts [] = ts
body_types ts (f ∷ fs) = body_types (list_types ts f.body) fs

abbrev pub all_types : FileMade → List ℕ
all_types made = body_types (declared_types [] made.scene.file) made.functions

-- ## Functions

abbrev pub inner_of : FileMade → FunctionMade → Inner
inner_of made f = record { types = made.scene.types; type_number = number_of_type (all_types made); location = location_of made.scene.types f }

abbrev pub taken_at : ℕ → Location → List Taken
taken_at n (InTemp t) = (record { argument = n; temp = t }) ∷ []
taken_at n (InMemory m) = []

abbrev pub kept_at : Value → ℕ → Location → List Kept
kept_at x n (InTemp t) = []
kept_at x n (InMemory m) = (record { argument = n; local = m; chunk = value_chunk x }) ∷ []

abbrev pub taken_from : Inner → List ℕ → List Taken
taken_from w [] = []
taken_from w (n ∷ ns) = taken_at n (w.location n) ++ taken_from w ns

abbrev pub kept_from : Inner → FunctionMade → List ℕ → List Kept
kept_from w f [] = []
kept_from w f (n ∷ ns) = kept_at (value_at w.types (unwrap_or (slice_get f.locals n) 0)) n (w.location n) ++ kept_from w f ns

abbrev pub memory_locals : Types → FunctionMade → List ℕ → List Local
memory_locals types f [] = []
memory_locals types f (n ∷ ns) = if is_in_memory types f n then (record { size = size_at types (unwrap_or (slice_get f.locals n) 0); align = align_at types (unwrap_or (slice_get f.locals n) 0) }) ∷ memory_locals types f ns else memory_locals types f ns

-- the frame that the program states is its bound less 8: the bound is 64 bytes, the parameters and locals, and 64 bytes for each node
abbrev pub room_of : SizeOf → List Local → ℕ → Room
room_of z locals temps = record { nodes = z.nodes; stated = 56 + z.bytes + 64 * z.nodes; needed = sum_by (λ l. l.size) locals + 4 * temps }

abbrev pub function_meant : FileTree → FileMade → FunctionMade → FunctionOf
function_meant file made f =
    let w = inner_of made f in
    let ns = below (length f.locals) in
    let locals = memory_locals w.types f ns in
    let body = all_meant w (length f.locals - length locals) f.body in
    record {
      name = f.name;
      function_type = w.type_number f.type;
      parameters = f.parameters;
      taken = taken_from w (below f.parameters);
      kept = kept_from w f (below f.parameters);
      locals = locals;
      temps = body.1;
      body = body.0;
      room = room_of (function_size file made f.name f.type) locals body.1;
    }

-- the defined functions, in order of first declaration
abbrev pub meant_named : FileTree → FileMade → Option FunctionMade → List FunctionOf
meant_named file made None = []
meant_named file made (Some f) = function_meant file made f ∷ []

abbrev pub functions_meant : FileTree → FileMade → List FileName → List FunctionOf
functions_meant file made [] = []
functions_meant file made (x ∷ xs) = meant_named file made (function_named made.functions x.name) ++ functions_meant file made xs

-- ## Globals and external functions

abbrev pub object_meant : Types → Spelling → Entity → List (List ℕ × ℕ × ℕ × List ℕ)
object_meant types name (ObjectEntity t defined start) = (name, size_at types t, align_at types t, start) ∷ []
object_meant types name _ = []

abbrev pub objects_meant : Types → List FileName → List (List ℕ × ℕ × ℕ × List ℕ)
objects_meant types [] = []
objects_meant types (x ∷ xs) = object_meant types x.name x.entity ++ objects_meant types xs

abbrev pub external_meant : FileMade → Spelling → Entity → List ExternalOf
external_meant made name (FunctionEntity t static false) = (record { name = name; function_type = number_of_type (all_types made) t }) ∷ []
external_meant made name _ = []

abbrev pub externals_meant : FileMade → List FileName → List ExternalOf
externals_meant made [] = []
externals_meant made (x ∷ xs) = external_meant made x.name x.entity ++ externals_meant made xs

-- ## Programs

abbrev pub main_of : List FunctionOf → Option FunctionOf
main_of fs = find (λ f. same_name f.name main_name) fs

abbrev pub program_with : FileMade → List FunctionOf → Option FunctionOf → Option ProgramOf
program_with made fs None = None
program_with made fs (Some main) =
    Some (record {
      globals = record { functions = map (λ f. f.name) fs; objects = objects_meant made.scene.types made.scene.file };
      main = main;
      functions = fs;
      externals = externals_meant made made.scene.file;
      types = map (λ t. length (parameters_at (shape_at made.scene.types t))) (all_types made);
      thread_type = position (λ t. t == thread_function_type) (all_types made);
    })

-- the program of what a file declares and defines; each file without faults has one
abbrev pub program_meant : FileTree → FileMade → Option ProgramOf
program_meant file made = let fs = functions_meant file made made.scene.file in program_with made fs (main_of fs)
