-- The nodes of a function and of a file, and the counts that a file keeps to.
use Rattle.std.specs.Prelude.{ℕ, ◌+◌, nat_lt, Bool, true, false, List, [], ◌∷◌, length, sum_by, find, Option, Some, None}
use Rattle.c_tree.specs.Trees.{DeclaratorTree, ItemTrees, ExternalTree, decl_external, function_external, FileTree}
use Rattle.clight_types.specs.Types.{Types, shape_at, size_at}
use Rattle.clight_scopes.specs.Scopes.{Entity, ObjectEntity, FunctionEntity, FileName}
use Rattle.clight_types.specs.Types.{Spelling, same_name}
use Rattle.clight_calls.specs.Calls.{parameters_at}
use Rattle.clight_nodes.specs.Nodes.{specifiers_nodes, declarator_nodes, decl_nodes, items_nodes, items_labels}
use Rattle.clight_typing.specs.Typing.{declared_name, name_or_empty}
use Rattle.clight_files.specs.Files.{FunctionMade, FileMade}

-- ## Functions and files

-- the definition of a function: its declarator and its body
pub record DefinitionOf : Type 0 where
  pub name : Spelling
  pub declarator : DeclaratorTree
  pub body : ItemTrees

abbrev pub definitions_of : FileTree → List DefinitionOf
definitions_of [] = []
definitions_of (decl_external d ∷ xs) = definitions_of xs
definitions_of (function_external at ss d body_at is ∷ xs) = record { name = name_or_empty (declared_name d); declarator = d; body = is } ∷ definitions_of xs

abbrev pub definition_named : FileTree → Spelling → Option DefinitionOf
definition_named f name = find (λ x. same_name x.name name) (definitions_of f)

abbrev pub function_named : List FunctionMade → Spelling → Option FunctionMade
function_named fs name = find (λ x. same_name x.name name) fs

-- of a defined function: the expressions of its declarator, its parameters, and its body, which is one block
abbrev pub definition_nodes : ℕ → DefinitionOf → ℕ
definition_nodes parameters d = declarator_nodes d.declarator + (parameters + (1 + items_nodes d.body))

-- the nodes, the bytes of parameters and locals, the parameters and the most labels of a function
pub record SizeOf : Type 0 where
  pub nodes : ℕ
  pub bytes : ℕ
  pub parameters : ℕ
  pub labels : ℕ

abbrev pub bytes_of_all : Types → List ℕ → ℕ
bytes_of_all types ts = sum_by (size_at types) ts

-- of an external function its parameters alone
abbrev pub external_size : Types → List ℕ → SizeOf
external_size types ps = record { nodes = length ps; bytes = bytes_of_all types ps; parameters = length ps; labels = 0 }

abbrev pub defined_size : Types → List ℕ → Option DefinitionOf → Option FunctionMade → SizeOf
defined_size types ps (Some d) (Some m) = record { nodes = definition_nodes (length ps) d; bytes = bytes_of_all types m.locals; parameters = length ps; labels = items_labels d.body }
defined_size types ps _ _ = external_size types ps

abbrev pub function_size : FileTree → FileMade → Spelling → ℕ → SizeOf
function_size f made name t = defined_size made.scene.types (parameters_at (shape_at made.scene.types t)) (definition_named f name) (function_named made.functions name)

-- ## The counts

-- a count that is passed, and where
pub record Passed : Type 0 where
  pub count : ℕ
  pub at : ℕ

abbrev pub passed_if : Bool → ℕ → ℕ → List Passed → List Passed
passed_if true n at rest = (record { count = n; at = at }) ∷ rest
passed_if false n at rest = rest

-- a function: 64 parameters, 65,536 bytes, 8,000 nodes, 1,024 labels of a switch
abbrev pub size_passes : ℕ → SizeOf → List Passed → List Passed
size_passes at z rest =
    passed_if (nat_lt 64 z.parameters) 2 at
    (passed_if (nat_lt 65536 z.bytes) 3 at
    (passed_if (nat_lt 8000 z.nodes) 4 at
    (passed_if (nat_lt 1024 z.labels) 5 at rest)))

abbrev pub entity_passes : FileTree → FileMade → FileName → List Passed → List Passed
entity_passes f made x rest = entity_case x.entity
  where
    entity_case : Entity → List Passed
    entity_case (FunctionEntity t static defined) = size_passes x.at (function_size f made x.name t) rest
    entity_case _ = rest

abbrev pub functions_pass : FileTree → FileMade → List FileName → List Passed → List Passed
functions_pass f made [] rest = rest
functions_pass f made (x ∷ xs) rest = entity_passes f made x (functions_pass f made xs rest)

-- the nodes of a function by its name
abbrev pub entity_nodes : FileTree → FileMade → FileName → ℕ
entity_nodes f made x = nodes_case x.entity
  where
    nodes_case : Entity → ℕ
    nodes_case (FunctionEntity t static defined) = (function_size f made x.name t).nodes
    nodes_case _ = 0

-- the expressions of the file outside its functions
abbrev pub outer_nodes : ExternalTree → ℕ
outer_nodes (decl_external d) = decl_nodes d
outer_nodes (function_external at ss d body_at is) = specifiers_nodes ss

abbrev pub file_nodes : FileTree → FileMade → ℕ
file_nodes f made = sum_by outer_nodes f + sum_by (entity_nodes f made) made.scene.file

abbrev pub entity_bytes : Types → Entity → ℕ
entity_bytes types (ObjectEntity t defined start) = size_at types t
entity_bytes types _ = 0

abbrev pub global_bytes : FileMade → ℕ
global_bytes made = sum_by (λ x. entity_bytes made.scene.types x.entity) made.scene.file

-- all counts that a file of a length passes, in order: those of functions in order of first declaration; 4,096 functions, 80,000 nodes, 16,777,216 bytes of globals
abbrev pub passed_counts : ℕ → FileTree → FileMade → List Passed
passed_counts end f made =
    functions_pass f made made.scene.file
    (passed_if (nat_lt 4096 (length made.functions)) 1 end
    (passed_if (nat_lt 80000 (file_nodes f made)) 6 end
    (passed_if (nat_lt 16777216 (global_bytes made)) 7 end [])))
