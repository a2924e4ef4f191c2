-- What a file means is made well.
use Rattle.std.proofs.Common.{◌≡◌, ℕ, suc, ◌≤◌, ◌==◌, Bool, true, false, List, [], ◌∷◌, ◌++◌, map, length, Option, Some, None, refl, sym, ap, ◌∙◌, subst, inl, inr, arith, true≢false, cond}
use Rattle.std.specs.Prelude.{find, ◌≢◌, position, slice_get, sum_by, All, AllPairs, Contains}
use Rattle.std.specs.List.{list_any}
use Rattle.std.proofs.lemmas.List.Elements.{All-contains}
use Rattle.c_tree.specs.Trees.{FileTree}
use Rattle.clight_lang.specs.State.{FunctionOf}
use Rattle.clight_lang.specs.Meaning.{ExternalOf, ProgramOf}
use Rattle.clight_lang.specs.Placed.{IsAlignment}
use Rattle.clight_lang.specs.WellMade.{IsDefined, IsFunction, IsWellMade}
use Rattle.clight_types.specs.Types.{Types, FunctionShape, Spelling, same_name, shape_at, size_at, align_at, thread_function_type}
use Rattle.clight_scopes.specs.Scopes.{Entity, ObjectEntity, FunctionEntity, EnumeratorEntity, TypedefEntity, BuiltinEntity, FileName, find_file}
use Rattle.clight_calls.specs.Calls.{parameters_at}
use Rattle.clight_meaning.specs.Counts.{definitions_of, function_size, function_named, passed_counts}
use Rattle.clight_files.specs.Files.{FunctionMade, FileMade, is_defined_entity, file_judged, file_faults}
use Rattle.clight_globals.specs.Globals.{main_name, is_main}
use Rattle.clight_placing.specs.Placing.{number_of_type}
use Rattle.clight_meaning.specs.Meaning.{declared_types, all_types, function_meant, meant_named, functions_meant, object_meant, objects_meant, external_meant, externals_meant, main_of, program_with, program_meant}
use Rattle.c_shapes.specs.Shaped.{IsShaped}
use Rattle.clight_laws.specs.Laws.{Means}
use Rattle.clight_laws.proofs.Holding.{not_both}
use Rattle.clight_laws.proofs.TypeTables.{shape_is, complete_sized}
use Rattle.clight_laws.proofs.Scenes.{IsEntity, IsObject, IsObjectEntity, IsFunctionOf, IsFunctionEntity, IsDefinitionOf, IsDefinedEntity, name_is}
use Rattle.clight_laws.proofs.Expressions.{IsNamed}
use Rattle.clight_laws.proofs.Listed.{AreMadeListed}
use Rattle.clight_laws.proofs.Lists.{Each, each_all, each_more, each_both, each_map, pairs_all, pairs_append, pairs_map, Has, has_contains, has_map}
use Rattle.clight_laws.proofs.CallTypes.{IsIn, IsEntityIn, all_listed, declared_in, position_in}
use Rattle.clight_laws.proofs.WholeFiles.{IsFinished, IsMatched, file_finished, known_made}
use Rattle.clight_laws.proofs.Functions.{Serves, function_made}
use Rattle.clight_laws.proofs.ProgramNames.{find_has, each_has, IsListed, object_listed, function_listed, definition_listed, has_flat}
use Rattle.clight_laws.proofs.ProgramParts as part
use Rattle.clight_laws.proofs.CountsKept.{IsSmall, IsCounted, counted, bytes_meant, few_meant}
use Rattle.std.specs.Option.{option_map}
use Rattle.clight_types.specs.Judged.{Judged, value, fault, faults_of, made_of}
use Rattle.clight_laws.proofs.Defining.{same_self}
use Rattle.c_reading.specs.Answers.{tree}
use Rattle.c_reading.specs.FileAnswers.{IsFileAnswer}
use Rattle.c_shapes.proofs.Files.{read_shaped}

module _ (file : FileTree) (made : FileMade) (h : IsFinished file made) where
  abbrev types : Types
  types = made.scene.types

  abbrev names : List FileName
  names = made.scene.file

  abbrev functions : List FunctionOf
  functions = functions_meant file made names

  abbrev objects : List (List ℕ × ℕ × ℕ × List ℕ)
  objects = objects_meant types names

  abbrev externals : List ExternalOf
  externals = externals_meant made names

  abbrev Matched : FunctionMade → Type 0
  Matched = IsMatched made.scene (definitions_of file) made.functions

  -- ## All that a body names is there

  -- a function that is made has a place in the program
  made_listed : (name : Spelling) (f : FunctionMade) → function_named made.functions name ≡ Some f → Has (function_meant file made f) functions × (f.name ≡ name)
  made_listed name f e =
      let r = part.named_as file made h name f e in
      let m = each_has Matched made.functions f (part.matched file made h) r.0 in
      let l = definition_listed names f.name f.type m.done.definition in (
        subst (Has (function_meant file made f)) (sym (part.functions_flat file made h names))
            (has_flat (part.function_item file made h) (λ g. g.name) (part.function_of_name file made h) (function_meant file made f) l.entry names l.listed
            (subst (λ o. Has (function_meant file made f) (meant_named file made o)) (sym (ap (function_named made.functions) (l.named ∙ r.1) ∙ e)) (inl refl))),
        r.1,
      )

  named : (main : FunctionOf) (name : Spelling) → IsNamed made.scene name → IsDefined (part.program file made h main).globals name
  named main name (inl o) = inr (has_contains name (map (λ o. o.0) objects) (by l.entry.entity refl l.holds))
    where
      l : IsListed names name IsObjectEntity
      l = object_listed names name o

      has_object : (b : List ℕ × ℕ × ℕ × List ℕ) → Has b (object_meant types l.entry.name l.entry.entity) → Has b objects
      has_object b k = subst (Has b) (sym (part.objects_flat file made h names)) (has_flat (part.object_item file made h) (λ o. o.0) (part.object_of_name file made h) b l.entry names l.listed k)

      by : (e : Entity) → l.entry.entity ≡ e → IsObjectEntity e → Has name (map (λ o. o.0) objects)
      by (ObjectEntity t d start) q k =
          subst (λ n. Has n (map (λ o. o.0) objects)) l.named
          (has_map (λ o. o.0) (l.entry.name, size_at types t, align_at types t, start) objects
          (has_object (l.entry.name, size_at types t, align_at types t, start) (subst (λ e. Has (l.entry.name, size_at types t, align_at types t, start) (object_meant types l.entry.name e)) (sym q) (inl refl))))
      by (FunctionEntity t static d) q k = absurd k
      by (EnumeratorEntity w) q k = absurd k
      by (TypedefEntity t) q k = absurd k
      by (BuiltinEntity static) q k = absurd k
  named main name (inr k) =
      (let f = known_made file made h name k in
      let r = made_listed name f.0 f.1 in
      inl (has_contains name (map (λ g. g.name) functions) (subst (λ n. Has n (map (λ g. g.name) functions)) r.1 (has_map (λ g. g.name) (function_meant file made f.0) functions r.0))))

  external_there : (name : Spelling) (t : ℕ) → IsFunctionOf t (find_file name names) → list_any (same_name name) made.scene.defined ≡ false → Contains externals (record { name = name; function_type = number_of_type (all_types made) t })
  external_there name t o k = has_contains _ externals (by l.entry.entity refl l.holds (each_has (λ (x : FileName). IsEntity types made.scene.defined x.name x.entity) names l.entry (part.entities file made h) l.listed))
    where
      l : IsListed names name (IsFunctionEntity t)
      l = function_listed names name t o

      has_external : (b : ExternalOf) → Has b (external_meant made l.entry.name l.entry.entity) → Has b externals
      has_external b m = subst (Has b) (sym (part.externals_flat file made h names)) (has_flat (part.external_item file made h) (λ y. y.name) (part.external_of_name file made h) b l.entry names l.listed m)

      outer : (u : ℕ) (static : Bool) → l.entry.entity ≡ FunctionEntity u static false → u ≡ t → Has (record { name = name; function_type = number_of_type (all_types made) t }) externals
      outer u static q e =
          has_external (record { name = name; function_type = number_of_type (all_types made) t })
          (subst (λ z. Has (record { name = name; function_type = number_of_type (all_types made) t }) (external_meant made l.entry.name z)) (sym q)
          (inl (ap (λ n. record { name = n; function_type = number_of_type (all_types made) u }) l.named ∙ ap (λ v. record { name = name; function_type = number_of_type (all_types made) v }) e)))

      by : (e : Entity) → l.entry.entity ≡ e → IsFunctionEntity t e → IsEntity types made.scene.defined l.entry.name l.entry.entity → Has (record { name = name; function_type = number_of_type (all_types made) t }) externals
      by (FunctionEntity u static true) q e g = absurd (not_both (list_any (same_name name) made.scene.defined) (subst (λ n. list_any (same_name n) made.scene.defined ≡ true) l.named ((subst (IsEntity types made.scene.defined l.entry.name) q g).1 refl)) k)
      by (FunctionEntity u static false) q e g = outer u static q e
      by (ObjectEntity u d start) q e g = absurd e
      by (EnumeratorEntity w) q e g = absurd e
      by (TypedefEntity u) q e g = absurd e
      by (BuiltinEntity static) q e g = absurd e

  -- a main is there
  has_found : (p : FunctionOf → Bool) (xs : List FunctionOf) (g : FunctionOf) → Has g xs → p g ≡ true → (m : FunctionOf) × (find p xs ≡ Some m)
  has_found p [] g k e = absurd k
  has_found p (x ∷ xs) g k e = by (p x) refl k (λ i. has_found p xs g i e)
    where
      by : (b : Bool) → p x ≡ b → Has g (x ∷ xs) → (Has g xs → (m : FunctionOf) × (find p xs ≡ Some m)) → (m : FunctionOf) × (cond b (Some x) (find p xs) ≡ Some m)
      by true q k rest = (x, refl)
      by false q (inl i) rest = absurd (not_both (p x) (ap p i ∙ e) q)
      by false q (inr i) rest = rest i

  pub main_there : (m : FunctionOf) × (main_of functions ≡ Some m)
  main_there = by (find_file main_name names) refl h.main
    where
      of_entity : (x : FileName) → find_file main_name names ≡ Some x → (e : Entity) → x.entity ≡ e → is_defined_entity (Some e) ≡ true → IsEntity types made.scene.defined x.name e → list_any (same_name x.name) made.scene.defined ≡ true
      of_entity x q (FunctionEntity t static d) i k g = g.1 k
      of_entity x q (ObjectEntity t d start) i k g = absurd (true≢false (sym k))
      of_entity x q (EnumeratorEntity w) i k g = absurd (true≢false (sym k))
      of_entity x q (TypedefEntity t) i k g = absurd (true≢false (sym k))
      of_entity x q (BuiltinEntity static) i k g = absurd (true≢false (sym k))

      by : (o : Option FileName) → find_file main_name names ≡ o → is_defined_entity (option_map (λ x. x.entity) o) ≡ true → (m : FunctionOf) × (main_of functions ≡ Some m)
      by None q k = absurd (true≢false (sym k))
      by (Some x) q k =
          let r = find_has (λ (y : FileName). same_name main_name y.name) names x q in
          let n : x.name ≡ main_name = sym (name_is main_name x.name r.1) in
          let d = of_entity x q x.entity refl k (each_has (λ (y : FileName). IsEntity types made.scene.defined y.name y.entity) names x (part.entities file made h) r.0) in
          let f = known_made file made h main_name (subst (λ y. list_any (same_name y) made.scene.defined ≡ true) n d) in
          let g = made_listed main_name f.0 f.1 in
          has_found (λ (y : FunctionOf). same_name y.name main_name) functions (function_meant file made f.0) g.0 (same_self f.0.name main_name g.1)

  serves : (main : FunctionOf) → Serves made (part.program file made h main)
  serves main = record { types = refl; named = named main; externals = external_there }

  -- ## Each function

  module _ (c : IsCounted file made) (main : FunctionOf) where
    small : (f : FunctionMade) → IsDefinitionOf f.type (find_file f.name names) → (function_size file made f.name f.type).nodes ≤ 8000
    small f d = by l.entry.entity refl l.holds (each_has (λ (x : FileName). IsSmall file made x x.entity) names l.entry c.small l.listed)
      where
        l : IsListed names f.name (IsDefinedEntity f.type)
        l = definition_listed names f.name f.type d

        by : (e : Entity) → l.entry.entity ≡ e → IsDefinedEntity f.type e → IsSmall file made l.entry l.entry.entity → (function_size file made f.name f.type).nodes ≤ 8000
        by (FunctionEntity u static b) q e g = subst (λ n. (function_size file made n f.type).nodes ≤ 8000) l.named (subst (λ v. (function_size file made l.entry.name v).nodes ≤ 8000) e.0 (subst (IsSmall file made l.entry) q g))
        by (ObjectEntity u b start) q e g = absurd e
        by (EnumeratorEntity w) q e g = absurd e
        by (TypedefEntity u) q e g = absurd e
        by (BuiltinEntity static) q e g = absurd e

    type_in : (f : FunctionMade) → IsDefinitionOf f.type (find_file f.name names) → IsIn (all_types made) f.type
    type_in f d = by l.entry.entity refl l.holds (each_has (λ (x : FileName). IsEntityIn (all_types made) x.entity) names l.entry (declared_in names made.functions) l.listed)
      where
        l : IsListed names f.name (IsDefinedEntity f.type)
        l = definition_listed names f.name f.type d

        by : (e : Entity) → l.entry.entity ≡ e → IsDefinedEntity f.type e → IsEntityIn (all_types made) l.entry.entity → IsIn (all_types made) f.type
        by (FunctionEntity u static b) q e g = subst (IsIn (all_types made)) e.0 (subst (IsEntityIn (all_types made)) q g)
        by (ObjectEntity u b start) q e g = absurd e
        by (EnumeratorEntity w) q e g = absurd e
        by (TypedefEntity u) q e g = absurd e
        by (BuiltinEntity static) q e g = absurd e

    each_function : Each (IsFunction (part.program file made h main)) functions
    each_function =
        part.functions_each file made h (IsFunction (part.program file made h main))
        (each_more (λ (f : FunctionMade). Matched f × AreMadeListed (IsIn (all_types made)) f.body) (λ f. IsFunction (part.program file made h main) (function_meant file made f))
        (λ f m. function_made file made f (part.program file made h main) (serves main) h.scene m.0 (type_in f m.0.done.definition) m.1 (small f m.0.done.definition))
        made.functions (each_both Matched (λ (f : FunctionMade). AreMadeListed (IsIn (all_types made)) f.body) made.functions (part.matched file made h) (all_listed (declared_types [] names) made.functions)))

    -- ## Globals

    globals_differ : AllPairs (λ a b. a ≢ b) (map (λ f. f.name) functions ++ map (λ o. o.0) objects)
    globals_differ =
        pairs_all (λ a b. a ≢ b) _ (pairs_append (λ a b. a ≢ b) (map (λ f. f.name) functions) (map (λ o. o.0) objects)
        (pairs_map (λ f. f.name) (λ a b. a ≢ b) functions (part.functions_differ file made h))
        (pairs_map (λ o. o.0) (λ a b. a ≢ b) objects (part.objects_differ file made h))
        (each_map (λ f. f.name) (λ a. Each (λ b. a ≢ b) (map (λ o. o.0) objects)) functions
        (each_more (λ (f : FunctionOf). part.IsFunctionName file made h f.name) (λ f. Each (λ b. f.name ≢ b) (map (λ o. o.0) objects))
        (λ f d. each_map (λ o. o.0) (λ b. f.name ≢ b) objects (each_more (λ o. part.IsObjectName file made h o.0) (λ o. f.name ≢ o.0) (λ o k e. part.function_object file made h d.0 (find_file f.name names) d.1 (subst (λ n. IsObject (find_file n names)) (sym e) k)) objects (part.object_names file made h)))
        functions (part.function_names file made h))))

    object_sizes : Each (λ o. (1 ≤ o.1) × IsAlignment o.2) objects
    object_sizes =
        part.objects_each file made h (λ o. (1 ≤ o.1) × IsAlignment o.2)
        (each_more (λ (x : FileName). IsEntity types made.scene.defined x.name x.entity) (λ x. Each (λ o. (1 ≤ o.1) × IsAlignment o.2) (object_meant types x.name x.entity)) (λ x g. by x x.entity g) names (part.entities file made h))
      where
        by : (x : FileName) (e : Entity) → IsEntity types made.scene.defined x.name e → Each (λ o. (1 ≤ o.1) × IsAlignment o.2) (object_meant types x.name e)
        by x (ObjectEntity t d start) g = (complete_sized types h.scene.types t g, tt)
        by x (FunctionEntity t static d) g = tt
        by x (EnumeratorEntity w) g = tt
        by x (TypedefEntity t) g = tt
        by x (BuiltinEntity static) g = tt

    few_functions : length functions ≤ 4096
    few_functions =
        let a : length functions ≤ length made.functions = few_meant file made h.scene.apart in
        let b : length made.functions ≤ 4096 = c.functions in
        omega arith

    few_bytes : sum_by (λ o. o.1) objects ≤ 16777216
    few_bytes = subst (λ n. n ≤ 16777216) (sym (bytes_meant types names)) c.bytes

    names_many : length (map (λ f. f.name) functions) ≤ 4096
    names_many = subst (λ n. n ≤ 4096) (sym (many functions)) few_functions
      where
        many : (fs : List FunctionOf) → length (map (λ f. f.name) fs) ≡ length fs
        many [] = refl
        many (f ∷ fs) = ap suc (many fs)

    -- ## External functions

    external_apart : (name : Spelling) → part.IsOuter file made h (find_file name names) → IsDefined (part.program file made h main).globals name → ⊥
    external_apart name o (inl k) = (let d : part.IsFunctionName file made h name = All-contains (part.IsFunctionName file made h) (map (λ f. f.name) functions) name (each_all (part.IsFunctionName file made h) (map (λ f. f.name) functions) (each_map (λ f. f.name) (part.IsFunctionName file made h) functions (part.function_names file made h))) k in part.function_outer file made h d.0 (find_file name names) d.1 o)
    external_apart name o (inr k) = part.object_outer file made h (find_file name names) (All-contains (part.IsObjectName file made h) (map (λ o. o.0) objects) name (each_all (part.IsObjectName file made h) (map (λ o. o.0) objects) (each_map (λ o. o.0) (part.IsObjectName file made h) objects (part.object_names file made h))) k) o

    externals_good : All (λ (x : ExternalOf). (length x.name ≤ 127) × (IsDefined (part.program file made h main).globals x.name → ⊥)) externals
    externals_good = each_all (λ (x : ExternalOf). (length x.name ≤ 127) × (IsDefined (part.program file made h main).globals x.name → ⊥)) externals (each_more (λ (x : ExternalOf). (length x.name ≤ 127) × part.IsOuter file made h (find_file x.name names)) (λ x. (length x.name ≤ 127) × (IsDefined (part.program file made h main).globals x.name → ⊥)) (λ x g. (g.0, external_apart x.name g.1)) externals (part.external_names file made h))

    -- ## main and threads

    no_parameters : Each (λ (g : FunctionOf). is_main g.name ≡ true → g.parameters ≡ 0) functions
    no_parameters =
        part.functions_each file made h (λ g. is_main g.name ≡ true → g.parameters ≡ 0)
        (each_more Matched (λ f. is_main f.name ≡ true → f.parameters ≡ 0)
        (λ f m e. sym m.done.takes.parameters ∙ ap (λ t. length (parameters_at (shape_at types t))) (m.done.main e) ∙ ap (λ x. length (parameters_at x)) (shape_is types 14 (FunctionShape 5 []) (h.scene.types.first 14 (FunctionShape 5 []) refl)))
        made.functions (part.matched file made h))

    thread_takes : (n : ℕ) → position (λ t. t == thread_function_type) (all_types made) ≡ Some n → slice_get (map (λ t. length (parameters_at (shape_at types t))) (all_types made)) n ≡ Some 1
    thread_takes n e =
        position_in (λ t. length (parameters_at (shape_at types t))) (all_types made) thread_function_type n e
        ∙ ap (λ x. Some (length (parameters_at x))) (shape_is types 8 (FunctionShape 0 (7 ∷ [])) (h.scene.types.first 8 (FunctionShape 0 (7 ∷ [])) refl))

    pub well_made : main_of functions ≡ Some main → IsWellMade (part.program file made h main)
    well_made e =
        let m = find_has (λ (f : FunctionOf). same_name f.name main_name) functions main e in
        record {
          globals = record { names_differ = globals_differ; few_functions = names_many; sizes = each_all (λ o. (1 ≤ o.1) × IsAlignment o.2) objects object_sizes; few_bytes = few_bytes };
          few_functions = few_functions;
          named = refl;
          main = has_contains main functions m.0;
          main_named = name_is main.name main_name m.1;
          main_has_none = each_has (λ (g : FunctionOf). is_main g.name ≡ true → g.parameters ≡ 0) functions main no_parameters m.0 m.1;
          thread_type = thread_takes;
          each = each_all (IsFunction (part.program file made h main)) functions each_function;
          externals = externals_good;
          externals_differ = pairs_all (λ (x y : ExternalOf). x.name ≢ y.name) externals (part.externals_differ file made h);
        }

-- the meaning of a tree that the grammar gives
pub meaning_well_made : (length : ℕ) (file : FileTree) (p : ProgramOf) → IsShaped file → Means length file p → IsWellMade p
meaning_well_made length file p w m = by (main_of (functions_meant file m.made m.made.scene.file)) refl m.program
  where
    h : IsFinished file m.made
    h = file_finished length file m.made w m.judged

    by : (o : Option FunctionOf) → main_of (functions_meant file m.made m.made.scene.file) ≡ o → program_with m.made (functions_meant file m.made m.made.scene.file) o ≡ Some p → IsWellMade p
    by None e q = cc
    by (Some main) e q = subst IsWellMade (some_same _ p q) (well_made file m.made h (counted file m.made length m.counted) main e)
      where
        some_same : (a b : ProgramOf) → Some a ≡ Some b → a ≡ b
        some_same a b q = cc

-- a file without faults, within the counts, has one
no_faults : {A : Type 0} (j : Judged A) → faults_of j ≡ [] → j ≡ value (made_of j)
no_faults (value a) e = refl
no_faults (fault r at j) e = cc

there_with : (size : ℕ) (file : FileTree) (made : FileMade) → file_judged size file ≡ value made → passed_counts size file made ≡ [] → (m : FunctionOf) × (main_of (functions_meant file made made.scene.file) ≡ Some m) → (p : ProgramOf) × Means size file p
there_with size file made e c m = (_, record { made = made; judged = e; counted = c; program = ap (program_with made (functions_meant file made made.scene.file)) m.1 })

pub meaning_there : (size : ℕ) (file : FileTree) → IsShaped file → file_faults size file ≡ [] → passed_counts size file (made_of (file_judged size file)) ≡ [] → (p : ProgramOf) × Means size file p
meaning_there size file w e c =
    let judged : file_judged size file ≡ value (made_of (file_judged size file)) = no_faults (file_judged size file) e in
    there_with size file (made_of (file_judged size file)) judged c (main_there file (made_of (file_judged size file)) (file_finished size file (made_of (file_judged size file)) w judged))

-- and only one
pub meaning_alone : (length : ℕ) (file : FileTree) (p q : ProgramOf) → Means length file p → Means length file q → p ≡ q
meaning_alone length file p q m n =
    let e : m.made ≡ n.made = value_same m.made n.made (sym m.judged ∙ n.judged) in
    some_same p q (sym m.program ∙ ap (program_meant file) e ∙ n.program)
  where
    value_same : (a b : FileMade) → value a ≡ value b → a ≡ b
    value_same a b z = cc

    some_same : (a b : ProgramOf) → Some a ≡ Some b → a ≡ b
    some_same a b z = cc

-- the meaning of the bytes of a file
pub read_well_made : (bytes : List ℕ) (file : FileTree) (p : ProgramOf) → IsFileAnswer bytes (tree file) → Means (length bytes) file p → IsWellMade p
read_well_made bytes file p r m = meaning_well_made (length bytes) file p (read_shaped bytes file r) m
