-- The names of a program: those of functions, objects and external functions differ, and each that a body uses is there.
use Rattle.std.proofs.Common.{◌≡◌, ℕ, Bool, true, false, cond, List, [], ◌∷◌, ◌++◌, Option, Some, None, refl, sym, ap, ◌∙◌, subst, inl, inr}
use Rattle.std.specs.Prelude.{◌⊎◌, ◌≢◌, find}
use Rattle.clight_types.specs.Types.{Types, Spelling, same_name}
use Rattle.clight_scopes.specs.Scopes.{Entity, FileName, find_file}
use Rattle.clight_laws.proofs.Scenes.{IsEntity, AreFileNames, IsApart, AreApart, IsObject, IsObjectEntity, IsFunctionOf, IsFunctionEntity, IsDefinitionOf, IsDefinedEntity, name_is}
use Rattle.clight_laws.proofs.Lists.{Each, each_append, each_more, Pairs, pairs_append, Has, has_left, has_right}
use Rattle.clight_laws.proofs.Defining.{name_self, differs}

-- ## What is found

pub find_has : {A : Type 0} (p : A → Bool) (xs : List A) (x : A) → find p xs ≡ Some x → Has x xs × (p x ≡ true)
find_has p [] x e = cc
find_has p (y ∷ ys) x e = by (p y) refl (λ q. find_has p ys x q) e
  where
    by : (b : Bool) → p y ≡ b → (find p ys ≡ Some x → Has x ys × (p x ≡ true)) → cond b (Some y) (find p ys) ≡ Some x → ((y ≡ x) ⊎ Has x ys) × (p x ≡ true)
    by true q rest e = (let s : y ≡ x = some_same y x e in (inl s, ap p (sym s) ∙ q))
      where
        some_same : {A : Type 0} (a b : A) → Some a ≡ Some b → a ≡ b
        some_same a b q = cc
    by false q rest e = (let r = rest e in (inr r.0, r.1))

pub each_has : {A : Type 0} (P : A → Type 0) (xs : List A) (x : A) → Each P xs → Has x xs → P x
each_has P [] x h m = absurd m
each_has P (y ∷ ys) x h (inl e) = subst P e h.0
each_has P (y ∷ ys) x h (inr m) = each_has P ys x h.1 m

-- a name of the file, in the list, by what it stands for
pub record IsListed (xs : List FileName) (name : Spelling) (P : Entity → Type 0) : Type 0 where
  pub entry : FileName
  pub listed : Has entry xs
  pub named : entry.name ≡ name
  pub holds : P entry.entity

listed_by : (xs : List FileName) (name : Spelling) (P : Entity → Type 0) (x : FileName) → find_file name xs ≡ Some x → P x.entity → IsListed xs name P
listed_by xs name P x e h = (let r = find_has (λ (y : FileName). same_name name y.name) xs x e in record { entry = x; listed = r.0; named = sym (name_is name x.name r.1); holds = h })

pub object_listed : (xs : List FileName) (name : Spelling) → IsObject (find_file name xs) → IsListed xs name IsObjectEntity
object_listed xs name h = by (find_file name xs) refl h
  where
    by : (o : Option FileName) → find_file name xs ≡ o → IsObject o → IsListed xs name IsObjectEntity
    by None e h = absurd h
    by (Some x) e h = listed_by xs name IsObjectEntity x e h

pub function_listed : (xs : List FileName) (name : Spelling) (t : ℕ) → IsFunctionOf t (find_file name xs) → IsListed xs name (IsFunctionEntity t)
function_listed xs name t h = by (find_file name xs) refl h
  where
    by : (o : Option FileName) → find_file name xs ≡ o → IsFunctionOf t o → IsListed xs name (IsFunctionEntity t)
    by None e h = absurd h
    by (Some x) e h = listed_by xs name (IsFunctionEntity t) x e h

pub definition_listed : (xs : List FileName) (name : Spelling) (t : ℕ) → IsDefinitionOf t (find_file name xs) → IsListed xs name (IsDefinedEntity t)
definition_listed xs name t h = by (find_file name xs) refl h
  where
    by : (o : Option FileName) → find_file name xs ≡ o → IsDefinitionOf t o → IsListed xs name (IsDefinedEntity t)
    by None e h = absurd h
    by (Some x) e h = listed_by xs name (IsDefinedEntity t) x e h

-- each entry is found by its name
pub each_found : (xs : List FileName) → AreApart xs → Each (λ (x : FileName). find_file x.name xs ≡ Some x) xs
each_found [] h = tt
each_found (x ∷ xs) h = (ap (λ b. cond b (Some x) (find_file x.name xs)) (name_self x.name), by xs h.0 (each_found xs h.1))
  where
    other : (y : FileName) → same_name x.name y.name ≡ false → same_name y.name x.name ≡ false
    other y e = at (same_name y.name x.name) refl
      where
        at : (b : Bool) → same_name y.name x.name ≡ b → same_name y.name x.name ≡ false
        at true q = absurd (differs x.name y.name e (sym (name_is y.name x.name q)))
        at false q = q

    by : (ys : List FileName) → IsApart x.name ys → Each (λ (y : FileName). find_file y.name xs ≡ Some y) ys → Each (λ (y : FileName). find_file y.name (x ∷ xs) ≡ Some y) ys
    by [] a h = tt
    by (y ∷ ys) a h = (ap (λ b. cond b (Some x) (find_file y.name xs)) (other y a.0) ∙ h.0, by ys a.1 h.1)

pub each_entity : (types : Types) (defined : List Spelling) (xs : List FileName) → AreFileNames types defined xs → Each (λ (x : FileName). IsEntity types defined x.name x.entity) xs
each_entity types defined [] h = tt
each_entity types defined (x ∷ xs) h = (h.0, each_entity types defined xs h.1)

-- ## What stands for each name, one behind the other

module _ {B : Type 0} (item : FileName → List B) (name_of : B → Spelling) (named : (x : FileName) → Each (λ b. name_of b ≡ x.name) (item x)) where
  abbrev pub flat : List FileName → List B
  flat [] = []
  flat (x ∷ xs) = item x ++ flat xs

  pub flat_each : (Q : B → Type 0) (xs : List FileName) → Each (λ x. Each Q (item x)) xs → Each Q (flat xs)
  flat_each Q [] h = tt
  flat_each Q (x ∷ xs) h = each_append Q (item x) (flat xs) h.0 (flat_each Q xs h.1)

  each_always : (P : FileName → Type 0) → ((x : FileName) → P x) → (xs : List FileName) → Each P xs
  each_always P f [] = tt
  each_always P f (x ∷ xs) = (f x, each_always P f xs)

  apart_each : (name : Spelling) (xs : List FileName) → IsApart name xs → Each (λ x. Each (λ b. name ≢ name_of b) (item x)) xs
  apart_each name [] h = tt
  apart_each name (x ∷ xs) h = (each_more (λ b. name_of b ≡ x.name) (λ b. name ≢ name_of b) (λ b e q. differs name x.name h.0 (q ∙ e)) (item x) (named x), apart_each name xs h.1)

  pub flat_pairs : ((x : FileName) → Pairs (λ a b. name_of a ≢ name_of b) (item x)) → (xs : List FileName) → AreApart xs → Pairs (λ a b. name_of a ≢ name_of b) (flat xs)
  flat_pairs alone [] h = tt
  flat_pairs alone (x ∷ xs) h =
      pairs_append (λ a b. name_of a ≢ name_of b) (item x) (flat xs) (alone x) (flat_pairs alone xs h.1)
      (each_more (λ a. name_of a ≡ x.name) (λ a. Each (λ b. name_of a ≢ name_of b) (flat xs))
      (λ a e. subst (λ n. Each (λ b. n ≢ name_of b) (flat xs)) (sym e) (flat_each (λ b. x.name ≢ name_of b) xs (apart_each x.name xs h.0)))
      (item x) (named x))

  pub has_flat : (b : B) (x : FileName) (xs : List FileName) → Has x xs → Has b (item x) → Has b (flat xs)
  has_flat b x [] h m = absurd h
  has_flat b x (y ∷ ys) (inl e) m = has_left b (item y) (flat ys) (subst (λ z. Has b (item z)) (sym e) m)
  has_flat b x (y ∷ ys) (inr h) m = has_right b (item y) (flat ys) (has_flat b x ys h m)
