-- Declarations of a file: each leaves a good scene, in which nothing that was declared is lost.
use Rattle.std.proofs.Common.{◌≡◌, ℕ, Bool, true, false, cond, List, [], ◌∷◌, Option, Some, refl, sym, ap, ◌∙◌, subst, arith}
use Rattle.clight_types.specs.Types.{Types, Spelling, same_name}
use Rattle.clight_scopes.specs.Scopes.{Entity, FileName, Scene, find_file, with_entity, replaced}
use Rattle.clight_laws.proofs.TypeTables.{grows_none}
use Rattle.clight_laws.proofs.Scenes.{IsScene, IsGood, IsEntity, AreFileNames, AreApart, IsApart, IsObject, IsObjectEntity, IsFunctionOf, IsFunctionEntity, IsDefinitionOf, IsDefinedEntity, name_is}

-- an entity that takes the place of another keeps what it was
pub record Replaces (new old : Entity) : Type 0 where
  pub object : IsObjectEntity old → IsObjectEntity new
  pub function : (u : ℕ) → IsFunctionEntity u old → IsFunctionEntity u new
  pub definition : (u : ℕ) → IsDefinedEntity u old → IsDefinedEntity u new

module _ (name : Spelling) (e : Entity) where
  -- what holds of the entity of each name, where it is replaced
  find_replaced : (m : Spelling) (xs : List FileName) (P : Option FileName → Type 0) → ((x : FileName) → find_file name xs ≡ Some x → P (Some x) → P (Some (record x { entity = e }))) → P (find_file m xs) → P (find_file m (replaced name e xs))
  find_replaced m [] P keep h = h
  find_replaced m (x ∷ xs) P keep h = by (λ k h. find_replaced m xs P k h) (same_name name x.name) refl keep h
    where
      by : (((y : FileName) → find_file name xs ≡ Some y → P (Some y) → P (Some (record y { entity = e }))) → P (find_file m xs) → P (find_file m (replaced name e xs))) → (b : Bool) → same_name name x.name ≡ b
          → ((y : FileName) → cond (same_name name x.name) (Some x) (find_file name xs) ≡ Some y → P (Some y) → P (Some (record y { entity = e })))
          → P (cond (same_name m x.name) (Some x) (find_file m xs)) → P (find_file m (cond b ((record x { entity = e }) ∷ xs) (x ∷ replaced name e xs)))
      by rest true q keep h = here (same_name m x.name) h
        where
          here : (c : Bool) → P (cond c (Some x) (find_file m xs)) → P (cond c (Some (record x { entity = e })) (find_file m xs))
          here true h = keep x (ap (λ b. cond b (Some x) (find_file name xs)) q) h
          here false h = h
      by rest false q keep h = there (same_name m x.name) h
        where
          there : (c : Bool) → P (cond c (Some x) (find_file m xs)) → P (cond c (Some x) (find_file m (replaced name e xs)))
          there true h = h
          there false h = rest (λ y k p. keep y (ap (λ b. cond b (Some x) (find_file name xs)) q ∙ k) p) h

  -- names stay as they are
  apart_replaced : (m : Spelling) (xs : List FileName) → IsApart m xs → IsApart m (replaced name e xs)
  apart_replaced m [] h = tt
  apart_replaced m (x ∷ xs) h = by (same_name name x.name) (apart_replaced m xs h.1)
    where
      by : (b : Bool) → IsApart m (replaced name e xs) → IsApart m (cond b ((record x { entity = e }) ∷ xs) (x ∷ replaced name e xs))
      by true r = h
      by false r = (h.0, r)

  all_apart_replaced : (xs : List FileName) → AreApart xs → AreApart (replaced name e xs)
  all_apart_replaced [] h = tt
  all_apart_replaced (x ∷ xs) h = by (same_name name x.name) (all_apart_replaced xs h.1)
    where
      by : (b : Bool) → AreApart (replaced name e xs) → AreApart (cond b ((record x { entity = e }) ∷ xs) (x ∷ replaced name e xs))
      by true r = h
      by false r = (apart_replaced x.name xs h.0, r)

  names_replaced : (types : Types) (defined : List Spelling) (xs : List FileName) → AreFileNames types defined xs → IsEntity types defined name e → AreFileNames types defined (replaced name e xs)
  names_replaced types defined [] h g = tt
  names_replaced types defined (x ∷ xs) h g = by (same_name name x.name) refl (names_replaced types defined xs h.1 g)
    where
      by : (b : Bool) → same_name name x.name ≡ b → AreFileNames types defined (replaced name e xs) → AreFileNames types defined (cond b ((record x { entity = e }) ∷ xs) (x ∷ replaced name e xs))
      by true q r = (subst (λ n. IsEntity types defined n e) (name_is name x.name q) g, h.1)
      by false q r = (h.0, r)

  pub replaced_good : (s : Scene) (x : FileName) → IsScene s → find_file name s.file ≡ Some x → Replaces e x.entity → IsEntity s.types s.defined name e → IsGood 0 s (with_entity s name e)
  replaced_good s x h f r g =
      record {
        scene = record { types = h.types; blocks = h.blocks; locals = h.locals; names = names_replaced s.types s.defined s.file h.names g; apart = all_apart_replaced s.file h.apart };
        later = record {
          types = grows_none s.types;
          objects = λ m o. find_replaced m s.file IsObject (λ y k p. r.object (subst (λ (z : FileName). IsObjectEntity z.entity) (same y k) p)) o;
          functions = λ m u o. find_replaced m s.file (IsFunctionOf u) (λ y k p. r.function u (subst (λ (z : FileName). IsFunctionEntity u z.entity) (same y k) p)) o;
          definitions = λ m u o. find_replaced m s.file (IsDefinitionOf u) (λ y k p. r.definition u (subst (λ (z : FileName). IsDefinedEntity u z.entity) (same y k) p)) o;
          blocks = λ q m o. o;
          defined = refl;
          more = omega arith;
          few = omega arith;
        };
      }
    where
      some_same : (a b : FileName) → Some a ≡ Some b → a ≡ b
      some_same a b q = cc

      same : (y : FileName) → find_file name s.file ≡ Some y → y ≡ x
      same y k = some_same y x (sym k ∙ f)
