-- The parts of the program that a file means: its functions, objects and external functions, each by its name.
use Rattle.std.proofs.Common.{◌≡◌, ℕ, ◌≤◌, ◌==◌, true, false, true≢false, List, [], ◌∷◌, ◌++◌, map, length, Option, Some, None, refl, sym, ap, subst}
use Rattle.std.specs.Prelude.{◌≢◌, position}
use Rattle.c_tree.specs.Trees.{FileTree}
use Rattle.clight_lang.specs.State.{FunctionOf}
use Rattle.clight_lang.specs.Meaning.{ExternalOf, ProgramOf}
use Rattle.clight_types.specs.Types.{Types, Spelling, same_name, shape_at, thread_function_type}
use Rattle.clight_scopes.specs.Scopes.{Entity, ObjectEntity, FunctionEntity, EnumeratorEntity, TypedefEntity, BuiltinEntity, FileName, find_file}
use Rattle.clight_calls.specs.Calls.{parameters_at}
use Rattle.clight_meaning.specs.Counts.{definitions_of, function_named}
use Rattle.clight_files.specs.Files.{FunctionMade, FileMade}
use Rattle.clight_meaning.specs.Meaning.{all_types, function_meant, meant_named, functions_meant, object_meant, objects_meant, external_meant, externals_meant}
use Rattle.clight_laws.proofs.Scenes.{IsEntity, IsObject, IsObjectEntity, IsDefinitionOf, IsDefinedEntity, name_is}
use Rattle.clight_laws.proofs.Lists.{Each, each_more, each_both, Pairs, Has}
use Rattle.clight_laws.proofs.WholeFiles.{IsFinished, IsMatched, all_matched}
use Rattle.clight_laws.proofs.ProgramNames.{find_has, each_has, each_found, each_entity, flat, flat_each, flat_pairs}

module _ (file : FileTree) (made : FileMade) (h : IsFinished file made) where
  abbrev pub types : Types
  types = made.scene.types

  abbrev pub names : List FileName
  names = made.scene.file

  abbrev pub functions : List FunctionOf
  functions = functions_meant file made names

  abbrev pub objects : List (List ℕ × ℕ × ℕ × List ℕ)
  objects = objects_meant types names

  abbrev pub externals : List ExternalOf
  externals = externals_meant made names

  abbrev pub Matched : FunctionMade → Type 0
  Matched = IsMatched made.scene (definitions_of file) made.functions

  pub matched : Each Matched made.functions
  matched = all_matched made.scene (definitions_of file) made.functions h.done h.apart

  pub entities : Each (λ (x : FileName). IsEntity types made.scene.defined x.name x.entity) names
  entities = each_entity types made.scene.defined names h.scene.names

  pub by_name : Each (λ (x : FileName). find_file x.name names ≡ Some x) names
  by_name = each_found names h.scene.apart

  -- a function by its name
  pub named_as : (name : Spelling) (f : FunctionMade) → function_named made.functions name ≡ Some f → Has f made.functions × (f.name ≡ name)
  named_as name f e = (let r = find_has (λ (x : FunctionMade). same_name x.name name) made.functions f e in (r.0, name_is f.name name r.1))

  -- ## The functions

  abbrev pub function_item : FileName → List FunctionOf
  function_item x = meant_named file made (function_named made.functions x.name)

  pub function_of_name : (x : FileName) → Each (λ (f : FunctionOf). f.name ≡ x.name) (function_item x)
  function_of_name x = by (function_named made.functions x.name) refl
    where
      by : (o : Option FunctionMade) → function_named made.functions x.name ≡ o → Each (λ (f : FunctionOf). f.name ≡ x.name) (meant_named file made o)
      by None e = tt
      by (Some f) e = ((named_as x.name f e).1, tt)

  function_alone : (x : FileName) → Pairs (λ (f g : FunctionOf). f.name ≢ g.name) (function_item x)
  function_alone x = by (function_named made.functions x.name)
    where
      by : (o : Option FunctionMade) → Pairs (λ (f g : FunctionOf). f.name ≢ g.name) (meant_named file made o)
      by None = tt
      by (Some f) = (tt, tt)

  pub functions_flat : (xs : List FileName) → functions_meant file made xs ≡ flat function_item (λ f. f.name) function_of_name xs
  functions_flat [] = refl
  functions_flat (x ∷ xs) = ap (λ l. function_item x ++ l) (functions_flat xs)

  -- what holds of the meaning of each function that is made
  pub functions_each : (Q : FunctionOf → Type 0) → Each (λ (f : FunctionMade). Q (function_meant file made f)) made.functions → Each Q functions
  functions_each Q k = subst (Each Q) (sym (functions_flat names)) (flat_each function_item (λ f. f.name) function_of_name Q names (each names))
    where
      item : (x : FileName) → Each Q (function_item x)
      item x = by (function_named made.functions x.name) refl
        where
          by : (o : Option FunctionMade) → function_named made.functions x.name ≡ o → Each Q (meant_named file made o)
          by None e = tt
          by (Some f) e = (each_has (λ (g : FunctionMade). Q (function_meant file made g)) made.functions f k (named_as x.name f e).0, tt)

      each : (xs : List FileName) → Each (λ x. Each Q (function_item x)) xs
      each [] = tt
      each (x ∷ xs) = (item x, each xs)

  pub functions_differ : Pairs (λ (f g : FunctionOf). f.name ≢ g.name) functions
  functions_differ = subst (Pairs (λ (f g : FunctionOf). f.name ≢ g.name)) (sym (functions_flat names)) (flat_pairs function_item (λ f. f.name) function_of_name function_alone names h.scene.apart)

  -- ## The objects

  abbrev pub object_item : FileName → List (List ℕ × ℕ × ℕ × List ℕ)
  object_item x = object_meant types x.name x.entity

  pub object_of_name : (x : FileName) → Each (λ o. o.0 ≡ x.name) (object_item x)
  object_of_name x = by x.entity
    where
      by : (e : Entity) → Each (λ o. o.0 ≡ x.name) (object_meant types x.name e)
      by (ObjectEntity t d start) = (refl, tt)
      by (FunctionEntity t static d) = tt
      by (EnumeratorEntity w) = tt
      by (TypedefEntity t) = tt
      by (BuiltinEntity static) = tt

  object_alone : (x : FileName) → Pairs (λ o p. o.0 ≢ p.0) (object_item x)
  object_alone x = by x.entity
    where
      by : (e : Entity) → Pairs (λ o p. o.0 ≢ p.0) (object_meant types x.name e)
      by (ObjectEntity t d start) = (tt, tt)
      by (FunctionEntity t static d) = tt
      by (EnumeratorEntity w) = tt
      by (TypedefEntity t) = tt
      by (BuiltinEntity static) = tt

  pub objects_flat : (xs : List FileName) → objects_meant types xs ≡ flat object_item (λ o. o.0) object_of_name xs
  objects_flat [] = refl
  objects_flat (x ∷ xs) = ap (λ l. object_item x ++ l) (objects_flat xs)

  -- what holds of the object of each name
  pub objects_each : (Q : List ℕ × ℕ × ℕ × List ℕ → Type 0) → Each (λ x. Each Q (object_item x)) names → Each Q objects
  objects_each Q k = subst (Each Q) (sym (objects_flat names)) (flat_each object_item (λ o. o.0) object_of_name Q names k)

  pub objects_differ : Pairs (λ o p. o.0 ≢ p.0) objects
  objects_differ = subst (Pairs (λ o p. o.0 ≢ p.0)) (sym (objects_flat names)) (flat_pairs object_item (λ o. o.0) object_of_name object_alone names h.scene.apart)

  -- ## The external functions

  abbrev pub external_item : FileName → List ExternalOf
  external_item x = external_meant made x.name x.entity

  pub external_of_name : (x : FileName) → Each (λ (y : ExternalOf). y.name ≡ x.name) (external_item x)
  external_of_name x = by x.entity
    where
      by : (e : Entity) → Each (λ (y : ExternalOf). y.name ≡ x.name) (external_meant made x.name e)
      by (FunctionEntity t static true) = tt
      by (FunctionEntity t static false) = (refl, tt)
      by (ObjectEntity t d start) = tt
      by (EnumeratorEntity w) = tt
      by (TypedefEntity t) = tt
      by (BuiltinEntity static) = tt

  external_alone : (x : FileName) → Pairs (λ (y z : ExternalOf). y.name ≢ z.name) (external_item x)
  external_alone x = by x.entity
    where
      by : (e : Entity) → Pairs (λ (y z : ExternalOf). y.name ≢ z.name) (external_meant made x.name e)
      by (FunctionEntity t static true) = tt
      by (FunctionEntity t static false) = (tt, tt)
      by (ObjectEntity t d start) = tt
      by (EnumeratorEntity w) = tt
      by (TypedefEntity t) = tt
      by (BuiltinEntity static) = tt

  pub externals_flat : (xs : List FileName) → externals_meant made xs ≡ flat external_item (λ y. y.name) external_of_name xs
  externals_flat [] = refl
  externals_flat (x ∷ xs) = ap (λ l. external_item x ++ l) (externals_flat xs)

  externals_each : (Q : ExternalOf → Type 0) → Each (λ x. Each Q (external_item x)) names → Each Q externals
  externals_each Q k = subst (Each Q) (sym (externals_flat names)) (flat_each external_item (λ y. y.name) external_of_name Q names k)

  pub externals_differ : Pairs (λ (y z : ExternalOf). y.name ≢ z.name) externals
  externals_differ = subst (Pairs (λ (y z : ExternalOf). y.name ≢ z.name)) (sym (externals_flat names)) (flat_pairs external_item (λ y. y.name) external_of_name external_alone names h.scene.apart)

  -- ## What each name stands for

  -- a name of a defined function
  abbrev pub IsFunctionName : Spelling → Type 0
  IsFunctionName name = (t : ℕ) × IsDefinitionOf t (find_file name names)

  abbrev pub IsObjectName : Spelling → Type 0
  IsObjectName name = IsObject (find_file name names)

  -- one that is declared alone
  abbrev pub IsOuterEntity : Entity → Type 0
  IsOuterEntity (FunctionEntity t static false) = Unit {0}
  IsOuterEntity _ = ⊥

  abbrev pub IsOuter : Option FileName → Type 0
  IsOuter None = ⊥
  IsOuter (Some x) = IsOuterEntity x.entity

  pub function_names : Each (λ (f : FunctionOf). IsFunctionName f.name) functions
  function_names = functions_each (λ f. IsFunctionName f.name) (each_more Matched (λ f. IsFunctionName f.name) (λ f m. (f.type, m.done.definition)) made.functions matched)

  pub object_names : Each (λ o. IsObjectName o.0) objects
  object_names = objects_each (λ o. IsObjectName o.0) (each_more (λ x. find_file x.name names ≡ Some x) (λ x. Each (λ o. IsObjectName o.0) (object_item x)) (λ x e. by x e x.entity refl) names by_name)
    where
      by : (x : FileName) → find_file x.name names ≡ Some x → (z : Entity) → x.entity ≡ z → Each (λ o. IsObjectName o.0) (object_meant types x.name z)
      by x e (ObjectEntity t d start) q = (subst IsObject (sym e) (subst IsObjectEntity (sym q) tt), tt)
      by x e (FunctionEntity t static d) q = tt
      by x e (EnumeratorEntity w) q = tt
      by x e (TypedefEntity t) q = tt
      by x e (BuiltinEntity static) q = tt

  pub external_names : Each (λ (y : ExternalOf). (length y.name ≤ 127) × IsOuter (find_file y.name names)) externals
  external_names =
      externals_each (λ y. (length y.name ≤ 127) × IsOuter (find_file y.name names))
      (each_more (λ x. (find_file x.name names ≡ Some x) × IsEntity types made.scene.defined x.name x.entity) (λ x. Each (λ y. (length y.name ≤ 127) × IsOuter (find_file y.name names)) (external_item x)) (λ x e. by x e.0 x.entity refl e.1) names
      (each_both (λ x. find_file x.name names ≡ Some x) (λ x. IsEntity types made.scene.defined x.name x.entity) names by_name entities))
    where
      by : (x : FileName) → find_file x.name names ≡ Some x → (z : Entity) → x.entity ≡ z → IsEntity types made.scene.defined x.name z → Each (λ (y : ExternalOf). (length y.name ≤ 127) × IsOuter (find_file y.name names)) (external_meant made x.name z)
      by x e (FunctionEntity t static true) q g = tt
      by x e (FunctionEntity t static false) q g = ((g.0, subst IsOuter (sym e) (subst IsOuterEntity (sym q) tt)), tt)
      by x e (ObjectEntity t d start) q g = tt
      by x e (EnumeratorEntity w) q g = tt
      by x e (TypedefEntity t) q g = tt
      by x e (BuiltinEntity static) q g = tt

  -- they exclude each other
  pub function_object : (t : ℕ) (o : Option FileName) → IsDefinitionOf t o → IsObject o → ⊥
  function_object t None a b = a
  function_object t (Some x) a b = by x.entity a b
    where
      by : (e : Entity) → IsDefinedEntity t e → IsObjectEntity e → ⊥
      by (ObjectEntity u d start) a b = a
      by (FunctionEntity u static d) a b = b
      by (EnumeratorEntity w) a b = a
      by (TypedefEntity u) a b = a
      by (BuiltinEntity static) a b = a

  pub function_outer : (t : ℕ) (o : Option FileName) → IsDefinitionOf t o → IsOuter o → ⊥
  function_outer t None a b = a
  function_outer t (Some x) a b = by x.entity a b
    where
      by : (e : Entity) → IsDefinedEntity t e → IsOuterEntity e → ⊥
      by (ObjectEntity u d start) a b = a
      by (FunctionEntity u static true) a b = b
      by (FunctionEntity u static false) a b = true≢false (sym a.1)
      by (EnumeratorEntity w) a b = a
      by (TypedefEntity u) a b = a
      by (BuiltinEntity static) a b = a

  pub object_outer : (o : Option FileName) → IsObject o → IsOuter o → ⊥
  object_outer None a b = a
  object_outer (Some x) a b = by x.entity a b
    where
      by : (e : Entity) → IsObjectEntity e → IsOuterEntity e → ⊥
      by (ObjectEntity u d start) a b = b
      by (FunctionEntity u static d) a b = a
      by (EnumeratorEntity w) a b = a
      by (TypedefEntity u) a b = a
      by (BuiltinEntity static) a b = a

  -- ## The program

  abbrev pub program : FunctionOf → ProgramOf
  program main =
      record {
        globals = record { functions = map (λ f. f.name) functions; objects = objects };
        main = main;
        functions = functions;
        externals = externals;
        types = map (λ t. length (parameters_at (shape_at types t))) (all_types made);
        thread_type = position (λ t. t == thread_function_type) (all_types made);
      }
