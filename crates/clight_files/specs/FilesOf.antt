-- What the code's functions and files are, and what those functions judge that do a part of a definition's work.
use Rattle.std.specs.Prelude.{ℕ, ◌+◌, List, [], ◌∷◌, ◌++◌, map, Some, None}
use Rattle.c_tree.specs.Trees.{DeclTree, decl_tree}
use Rattle.clight_types.specs.Judged.{Judged, value, and_then, unless}
use Rattle.clight_types.specs.declared.rule.Rule.TheVariants as rule
use Rattle.clight_types.specs.Types.{Spelling}
use Rattle.clight_scopes.specs.Scopes.{Scene, with_block_name}
use Rattle.clight_scopes.specs.SceneOf.{scene_of, entity_of}
use Rattle.clight_scopes.specs.declared.scene.FileName as N
use Rattle.clight_typing.specs.Typing.{specified, base_of, name_or_empty}
use Rattle.clight_types.specs.Declarators.{ParameterOf}
use Rattle.clight_made.specs.MadeOf.{made_list}
use Rattle.clight_globals.specs.Globals.{storage_in, names_declared}
use Rattle.clight_files.specs.declared.made.FunctionMade as M
use Rattle.clight_files.specs.declared.made.FileMade as F
use Rattle.clight_files.specs.Files as f

abbrev pub function_made_of : M.FunctionMade → f.FunctionMade
function_made_of x = record { name = x.name; type = x.type_number; locals = x.locals.items; addressed = x.addressed.items; parameters = x.parameters; body = made_list x.body.items }

abbrev pub functions_of : List M.FunctionMade → List f.FunctionMade
functions_of xs = map function_made_of xs

abbrev pub file_made_of : F.FileMade → f.FileMade
file_made_of x = record { scene = scene_of x.scene; functions = functions_of x.functions.items }

-- what is made behind what has been made before
abbrev pub functions_behind : List f.FunctionMade → Judged (Scene × List f.FunctionMade) → Judged (Scene × List f.FunctionMade)
functions_behind made j = and_then j (λ q. value (q.0, made ++ q.1))

-- a declaration of the file
abbrev pub decl_declared : Scene → DeclTree → Judged Scene
decl_declared s (decl_tree at ss ds) = and_then (specified s None ss) (λ r. names_declared r.0 (storage_in ss) (base_of r.1) ds)

abbrev pub with_defined : Scene → List Spelling → Scene
with_defined s names = record s { defined = names }

-- whether all is defined at the end
abbrev pub settled : Scene → Judged (Unit {0})
settled s = f.all_settled s.file (value tt)

-- the same of names by what they stand for
abbrev pub values_settled : List N.FileName → Judged (Unit {0})
values_settled [] = value tt
values_settled (x ∷ xs) = unless (f.is_settled (entity_of x.entity)) rule.NeverDefined x.at (values_settled xs)

-- the parameters of a definition, from a number on, one by one
abbrev pub named_from : ℕ → List ParameterOf → Scene → Scene
named_from n [] s = s
named_from n (p ∷ ps) s = named_from (n + 1) ps (with_block_name s (name_or_empty p.name) p.type (Some n))
