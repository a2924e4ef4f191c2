-- A program by its parts.
use Rattle.std.proofs.Common.{◌≡◌, ℕ, ◌-◌, ◌==◌, Bool, true, false, cond, not, List, [], ◌∷◌, ◌++◌, length, map, find, Option, Some, None, refl, sym, ap, ◌∙◌}
use Rattle.std.specs.Prelude.{count_by, position, unwrap_or, slice_get}
use Rattle.std.specs.Option.{option_map}
use Rattle.std.specs.Map.{lookup, keys_of}
use Rattle.c_tree.specs.Trees.{FileTree}
use Rattle.clight_lang.specs.declared.function.Local.{Local}
use Rattle.clight_lang.specs.State.{FunctionOf}
use Rattle.clight_lang.specs.Meaning.{ExternalOf, ProgramOf}
use Rattle.clight_types.specs.Types.{Types, Spelling, same_name, size_at, align_at, thread_function_type}
use Rattle.clight_scopes.specs.Scopes.{Entity, ObjectEntity, FunctionEntity, EnumeratorEntity, TypedefEntity, BuiltinEntity, FileName}
use Rattle.clight_scopes.specs.declared.scene.FileName as N
use Rattle.clight_scopes.specs.SceneOf.{file_of}
use Rattle.clight_placing.specs.Placing.{InTemp, InMemory, all_meant}
use Rattle.clight_files.specs.Files.{FunctionMade, FileMade}
use Rattle.clight_meaning.specs.Counts.{SizeOf, function_size, function_named}
use Rattle.clight_meaning.specs.Meaning.{below, is_in_memory, memory_locals, taken_from, kept_from, room_of, inner_of, all_types, function_meant, meant_named, functions_meant, objects_meant, external_meant, externals_meant, main_of, program_with, program_meant}
use Rattle.clight_counts.specs.declared.sizes.Sizes.{Sizes}
use Rattle.clight_counts.specs.CountsOf.{AreSizes, size_in}
use Rattle.clight_counts.specs.First.{firsts}
use Rattle.clight_counts.proofs.Firsts.{found_named}
use Rattle.clight_counts.proofs.Tables.{size_is}
use Rattle.clight_programs.specs.Locals.{local_at, locals_at}
use Rattle.clight_programs.specs.ProgramsOf.{inner_with, function_placed, function_with, function_entry, function_table, found_in, in_order, external_with, externals_with, counts_with, IsMeant}

-- ## Functions

locals_same : (types : Types) (ts : List ℕ) (f : FunctionMade) (ns : List ℕ) → locals_at (inner_with types ts f) f.locals ns ≡ memory_locals types f ns
locals_same types ts f [] = refl
locals_same types ts f (n ∷ ns) = by (is_in_memory types f n) (locals_same types ts f ns)
  where
    by : (b : Bool) → locals_at (inner_with types ts f) f.locals ns ≡ memory_locals types f ns
        → local_at types (unwrap_or (slice_get f.locals n) 0) (cond b (InMemory (count_by (is_in_memory types f) (below n))) (InTemp (count_by (λ m. not (is_in_memory types f m)) (below n)))) ++ locals_at (inner_with types ts f) f.locals ns
        ≡ cond b ((record { size = size_at types (unwrap_or (slice_get f.locals n) 0); align = align_at types (unwrap_or (slice_get f.locals n) 0) }) ∷ memory_locals types f ns) (memory_locals types f ns)
    by true rest = ap (λ r. (record { size = size_at types (unwrap_or (slice_get f.locals n) 0); align = align_at types (unwrap_or (slice_get f.locals n) 0) }) ∷ r) rest
    by false rest = rest

-- by what is in memory
abbrev meant_by : FileTree → FileMade → FunctionMade → SizeOf → List Local → FunctionOf
meant_by file made f z locals =
    let w = inner_of made f in
    let body = all_meant w (length f.locals - length locals) f.body in
    record {
      name = f.name;
      function_type = w.type_number f.type;
      parameters = f.parameters;
      taken = taken_from w (below f.parameters);
      kept = kept_from w f (below f.parameters);
      locals = locals;
      temps = body.1;
      body = body.0;
      room = room_of z locals body.1;
    }

module _ (file : FileTree) (made : FileMade) (s : Sizes) (sizes : AreSizes file made s) where
  function_same : (f : FunctionMade) → function_with made.scene.types (all_types made) (size_in s made.scene.types f.name f.type) f ≡ function_meant file made f
  function_same f =
      ap (λ z. function_with made.scene.types (all_types made) z f) (size_is file made s sizes f.name f.type)
      ∙ ap (meant_by file made f (function_size file made f.name f.type)) (locals_same made.scene.types (all_types made) f (below (length f.locals)))

  found_same : (o : Option FunctionMade) → found_in (option_map (λ f. function_with made.scene.types (all_types made) (size_in s made.scene.types f.name f.type) f) o) ≡ meant_named file made o
  found_same None = refl
  found_same (Some f) = ap (λ g. g ∷ []) (function_same f)

  order_same : (es : List (Spelling × N.FileName)) → in_order (function_table made.scene.types (all_types made) s made.functions) (keys_of es) ≡ functions_meant file made (file_of es)
  order_same [] = refl
  order_same (e ∷ es) =
      ap (λ o. found_in o ++ in_order (function_table made.scene.types (all_types made) s made.functions) (keys_of es)) (found_named (λ (f : FunctionMade). f.name) (λ f. function_with made.scene.types (all_types made) (size_in s made.scene.types f.name f.type) f) e.0 made.functions)
      ∙ ap (λ l. l ++ in_order (function_table made.scene.types (all_types made) s made.functions) (keys_of es)) (found_same (function_named made.functions e.0))
      ∙ ap (λ l. meant_named file made (function_named made.functions e.0) ++ l) (order_same es)

-- ## External functions

external_same : (made : FileMade) (name : Spelling) (e : Entity) → external_with (all_types made) name e ≡ external_meant made name e
external_same made name (ObjectEntity t d start) = refl
external_same made name (FunctionEntity t static true) = refl
external_same made name (FunctionEntity t static false) = refl
external_same made name (EnumeratorEntity w) = refl
external_same made name (TypedefEntity t) = refl
external_same made name (BuiltinEntity static) = refl

externals_same : (made : FileMade) (xs : List FileName) → externals_with (all_types made) xs ≡ externals_meant made xs
externals_same made [] = refl
externals_same made (x ∷ xs) = ap (λ l. l ++ externals_with (all_types made) xs) (external_same made x.name x.entity) ∙ ap (λ l. external_meant made x.name x.entity ++ l) (externals_same made xs)

-- ## The program

abbrev made_from : FunctionOf → List FunctionOf → List Spelling → List (List ℕ × ℕ × ℕ × List ℕ) → List ExternalOf → List ℕ → Option ℕ → ProgramOf
made_from main fs ns os xs cs t = record { globals = record { functions = ns; objects = os }; main = main; functions = fs; externals = xs; types = cs; thread_type = t }

-- what the code finds of a program, where its names are those of a map
pub meant : (made : FileMade) (s : Sizes) (es : List (Spelling × N.FileName)) (ts : List ℕ) (table : List (Spelling × FunctionOf)) (fs : List FunctionOf) (p : ProgramOf)
    → made.scene.file ≡ file_of es
    → ts ≡ all_types made
    → table ≡ function_table made.scene.types ts s made.functions
    → fs ≡ in_order table (keys_of es)
    → p.functions ≡ fs
    → main_of fs ≡ Some p.main
    → p.globals.functions ≡ map (λ (f : FunctionOf). f.name) fs
    → p.globals.objects ≡ objects_meant made.scene.types (file_of es)
    → p.externals ≡ externals_with ts (file_of es)
    → p.types ≡ counts_with made.scene.types ts
    → p.thread_type ≡ position (λ t. t == thread_function_type) ts
    → IsMeant made s p
meant made s es ts table fs p named typed tabled ordered functions main names objects externals counts thread = λ file sizes.
    let order : fs ≡ functions_meant file made made.scene.file =
    ordered
    ∙ ap (λ t. in_order t (keys_of es)) (tabled ∙ ap (λ l. function_table made.scene.types l s made.functions) typed)
    ∙ order_same file made s sizes es
    ∙ sym (ap (functions_meant file made) named) in
    ap (λ l. program_with made l (main_of l)) (sym order)
    ∙ ap (program_with made fs) main
    ∙ ap Some (whole (sym functions) (sym names)
    (ap (objects_meant made.scene.types) named ∙ sym objects)
    (sym (externals_same made made.scene.file) ∙ ap (externals_with (all_types made)) named ∙ sym (ap (λ l. externals_with l (file_of es)) typed) ∙ sym externals)
    (sym (ap (counts_with made.scene.types) typed) ∙ sym counts)
    (sym (ap (position (λ t. t == thread_function_type)) typed) ∙ sym thread))
  where
    whole : {fs gs : List FunctionOf} {ns ms : List Spelling} {os qs : List (List ℕ × ℕ × ℕ × List ℕ)} {xs ys : List ExternalOf} {cs ds : List ℕ} {t u : Option ℕ} → fs ≡ gs → ns ≡ ms → os ≡ qs → xs ≡ ys → cs ≡ ds → t ≡ u
        → made_from p.main fs ns os xs cs t ≡ made_from p.main gs ms qs ys ds u
    whole a b c d e f = λ i. made_from p.main (a i) (b i) (c i) (d i) (e i) (f i)
