-- The parts of a program by what the code has of them: the table of function types, and what the sizes of functions are made from.
use Rattle.std.specs.Prelude.{◌≡◌, ℕ, ◌-◌, ◌==◌, false, List, [], ◌∷◌, ◌++◌, length, map, position, Option, Some, None}
use Rattle.std.specs.Option.{option_map}
use Rattle.std.specs.Map.{lookup}
use Rattle.std.specs.Global.{Global}
use Rattle.std.specs.declared.rc.Rc.{Rc}
use Rattle.c_tree.specs.Trees.{FileTree}
use Rattle.clight_lang.specs.declared.function.Function.{Function}
use Rattle.clight_lang.specs.State.{FunctionOf, function_of}
use Rattle.clight_lang.specs.Meaning.{ExternalOf, ProgramOf}
use Rattle.clight_types.specs.Types.{Types, Spelling, same_name, shape_at, is_scalar, thread_function_type}
use Rattle.clight_scopes.specs.Scopes.{Entity, FunctionEntity, FileName}
use Rattle.clight_calls.specs.Calls.{parameters_at}
use Rattle.clight_placing.specs.Placing.{Inner, number_of_type, all_meant}
use Rattle.clight_files.specs.Files.{FunctionMade, FileMade}
use Rattle.clight_meaning.specs.Counts.{SizeOf}
use Rattle.clight_meaning.specs.Meaning.{below, location_of, taken_from, kept_from, room_of, list_types, objects_meant, main_of, program_meant}
use Rattle.clight_counts.specs.declared.sizes.Sizes.{Sizes}
use Rattle.clight_counts.specs.CountsOf.{AreSizes, size_in}
use Rattle.clight_counts.specs.First.{firsts}
use Rattle.clight_programs.specs.Locals.{locals_at}

-- ## Functions

abbrev pub inner_with : Types → List ℕ → FunctionMade → Inner
inner_with types ts f = record { types = types; type_number = number_of_type ts; location = location_of types f }

-- a function, once it is known where its locals are
abbrev pub function_placed : Inner → SizeOf → FunctionMade → FunctionOf
function_placed w z f =
    let locals = locals_at w f.locals (below (length f.locals)) in
    let body = all_meant w (length f.locals - length locals) f.body in
    record {
      name = f.name;
      function_type = w.type_number f.type;
      parameters = f.parameters;
      taken = taken_from w (below f.parameters);
      kept = kept_from w f (below f.parameters);
      locals = locals;
      temps = body.1;
      body = body.0;
      room = room_of z locals body.1;
    }

abbrev pub function_with : Types → List ℕ → SizeOf → FunctionMade → FunctionOf
function_with types ts z f = function_placed (inner_with types ts f) z f

-- a function by its name, with its size
abbrev pub function_entry : Types → List ℕ → Sizes → FunctionMade → Spelling × FunctionOf
function_entry types ts s f = (f.name, function_with types ts (size_in s types f.name f.type) f)

abbrev pub function_table : Types → List ℕ → Sizes → List FunctionMade → List (Spelling × FunctionOf)
function_table types ts s fs = firsts [] (map (function_entry types ts s) fs)

abbrev pub table_of : List (Spelling × Rc Function Global) → List (Spelling × FunctionOf)
table_of es = map (λ e. (e.0, function_of e.1.value)) es

abbrev pub shared_function : Option (Rc Function Global) → Option FunctionOf
shared_function found = option_map (λ (r : Rc Function Global). function_of r.value) found

abbrev pub found_in : Option FunctionOf → List FunctionOf
found_in None = []
found_in (Some f) = f ∷ []

-- those of a table in the order of these names
abbrev pub in_order : List (Spelling × FunctionOf) → List Spelling → List FunctionOf
in_order es [] = []
in_order es (name ∷ names) = found_in (lookup (same_name name) es) ++ in_order es names

-- ## External functions

abbrev pub external_with : List ℕ → Spelling → Entity → List ExternalOf
external_with ts name (FunctionEntity t static false) = (record { name = name; function_type = number_of_type ts t }) ∷ []
external_with ts name _ = []

abbrev pub externals_with : List ℕ → List FileName → List ExternalOf
externals_with ts [] = []
externals_with ts (x ∷ xs) = external_with ts x.name x.entity ++ externals_with ts xs

-- ## Programs

-- of each function type how many parameters it has
abbrev pub counts_with : Types → List ℕ → List ℕ
counts_with types ts = map (λ t. length (parameters_at (shape_at types t))) ts

-- the program of each file with these sizes
abbrev pub IsMeant : FileMade → Sizes → ProgramOf → Type 0
IsMeant made s p = (file : FileTree) → AreSizes file made s → program_meant file made ≡ Some p
