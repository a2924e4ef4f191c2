-- What the code's counts are, and the tables that they are made from.
use Rattle.std.specs.Prelude.{◌≡◌, ℕ, ◌+◌, List, [], ◌∷◌, length, map, Option, Some, None, slice_get, Result, Ok, Err}
use Rattle.std.specs.Map.{lookup}
use Rattle.c_tree.specs.Trees.{FileTree}
use Rattle.c_tree.specs.Shape.{declarator_of}
use Rattle.c_tree.specs.FileShape.{items_of}
use Rattle.c_tree.specs.declared.file.FunctionDefinition.{FunctionDefinition}
use Rattle.clight_types.specs.Types.{Spelling, Types, same_name, shape_at}
use Rattle.clight_calls.specs.Calls.{parameters_at}
use Rattle.clight_nodes.specs.Nodes.{declarator_nodes, items_nodes, items_labels}
use Rattle.clight_typing.specs.Typing.{declared_name, name_or_empty}
use Rattle.clight_files.specs.Files.{FunctionMade, FileMade}
use Rattle.clight_meaning.specs.Counts.{DefinitionOf, definitions_of, SizeOf, bytes_of_all, Passed}
use Rattle.clight_counts.specs.First.{firsts}
use Rattle.clight_counts.specs.declared.texts.Text.{Text}
use Rattle.clight_counts.specs.declared.sizes.Size as S
use Rattle.clight_counts.specs.declared.sizes.Sizes as T

abbrev pub definition_of : FunctionDefinition → DefinitionOf
definition_of f = record { name = name_or_empty (declared_name (declarator_of f.declarator)); declarator = declarator_of f.declarator; body = items_of f.body.items }

-- ## The texts of the functions

-- the nodes of a function without its parameters, and its labels
abbrev pub text_of : DefinitionOf → Text
text_of d = record { nodes = declarator_nodes d.declarator + (1 + items_nodes d.body); labels = items_labels d.body }

abbrev pub text_entry : DefinitionOf → Spelling × Text
text_entry d = (d.name, text_of d)

abbrev pub texts_in : List DefinitionOf → List (Spelling × Text)
texts_in ds = map text_entry ds

-- the bytes of its parameters and locals
abbrev pub bytes_entry : Types → FunctionMade → Spelling × ℕ
bytes_entry types f = (f.name, bytes_of_all types f.locals)

abbrev pub bytes_in : Types → List FunctionMade → List (Spelling × ℕ)
bytes_in types fs = map (bytes_entry types) fs

-- the tables of a file and what is made of it
pub record AreSizes (file : FileTree) (made : FileMade) (s : T.Sizes) : Type 0 where
  pub texts : s.texts.entries ≡ firsts [] (texts_in (definitions_of file))
  pub bytes : s.bytes.entries ≡ firsts [] (bytes_in made.scene.types made.functions)

-- ## Sizes

abbrev pub size_of : S.Size → SizeOf
size_of z = record { nodes = z.nodes; bytes = z.bytes; parameters = z.parameters; labels = z.labels }

-- of an external function its parameters alone
abbrev pub size_with : Types → List ℕ → Option Text → Option ℕ → SizeOf
size_with types ps (Some text) (Some bytes) = record { nodes = text.nodes + length ps; bytes = bytes; parameters = length ps; labels = text.labels }
size_with types ps _ _ = record { nodes = length ps; bytes = bytes_of_all types ps; parameters = length ps; labels = 0 }

abbrev pub size_in : T.Sizes → Types → Spelling → ℕ → SizeOf
size_in s types name t = size_with types (parameters_at (shape_at types t)) (lookup (same_name name) s.texts.entries) (lookup (same_name name) s.bytes.entries)
