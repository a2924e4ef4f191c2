-- What holds of a scene while a file is judged, and what stays from one to a later one.
use Rattle.std.proofs.Common.{◌≡◌, ℕ, suc, ◌+◌, ◌<◌, ◌≤◌, Bool, true, false, cond, true≢false, List, [], ◌∷◌, ◌++◌, length, Option, Some, None, refl, sym, ap, ◌∙◌, subst, arith}
use Rattle.std.specs.List.{list_any}
use Rattle.std.specs.Cmp.Lexicographic.{same_text}
use Rattle.clight_types.specs.Types.{Types, Spelling, same_name, is_complete}
use Rattle.clight_scopes.specs.Scopes.{Entity, ObjectEntity, FunctionEntity, EnumeratorEntity, TypedefEntity, BuiltinEntity, FileName, BlockName, Scene, find_file, with_types, with_file_name, opened, closed, without_first, into_first, with_block_name, with_local, with_addressed}
use Rattle.clight_laws.proofs.TypeTables.{AreTypes, Grows, grows_none, grows_twice, complete_stays}
use Rattle.clight_laws.proofs.BuiltTypes.{IsNext}

-- ## Blocks: each name of an object has a number below the count of locals

abbrev pub IsBelow : ℕ → Option ℕ → Type 0
IsBelow n None = Unit {0}
IsBelow n (Some m) = m < n

abbrev pub AreNames : ℕ → List BlockName → Type 0
AreNames n [] = Unit {0}
AreNames n (x ∷ xs) = IsBelow n x.local × AreNames n xs

abbrev pub AreBlocks : ℕ → List (List BlockName) → Type 0
AreBlocks n [] = Unit {0}
AreBlocks n (b ∷ bs) = AreNames n b × AreBlocks n bs

below_more : (n m : ℕ) → n ≤ m → (o : Option ℕ) → IsBelow n o → IsBelow m o
below_more n m l None h = tt
below_more n m l (Some k) h = omega arith

names_more : (n m : ℕ) → n ≤ m → (b : List BlockName) → AreNames n b → AreNames m b
names_more n m l [] h = tt
names_more n m l (x ∷ xs) h = (below_more n m l x.local h.0, names_more n m l xs h.1)

pub blocks_more : (n m : ℕ) → n ≤ m → (bs : List (List BlockName)) → AreBlocks n bs → AreBlocks m bs
blocks_more n m l [] h = tt
blocks_more n m l (b ∷ bs) h = (names_more n m l b h.0, blocks_more n m l bs h.1)

names_push : (n : ℕ) (b : List BlockName) (x : BlockName) → AreNames n b → IsBelow n x.local → AreNames n (b ++ x ∷ [])
names_push n [] x h l = (l, tt)
names_push n (y ∷ ys) x h l = (h.0, names_push n ys x h.1 l)

pub blocks_into : (n : ℕ) (bs : List (List BlockName)) (x : BlockName) → AreBlocks n bs → IsBelow n x.local → AreBlocks n (into_first x bs)
blocks_into n [] x h l = ((l, tt), tt)
blocks_into n (b ∷ bs) x h l = (names_push n b x h.0 l, h.1)

pub blocks_without : (n : ℕ) (bs : List (List BlockName)) → AreBlocks n bs → AreBlocks n (without_first bs)
blocks_without n [] h = tt
blocks_without n (b ∷ bs) h = h.1

-- ## Locals: each has a complete type

abbrev pub AreComplete : Types → List ℕ → Type 0
AreComplete types [] = Unit {0}
AreComplete types (t ∷ ts) = (is_complete types t ≡ true) × AreComplete types ts

pub complete_grow : (types new : Types) → Grows types new → (ts : List ℕ) → AreComplete types ts → AreComplete new ts
complete_grow types new g [] h = tt
complete_grow types new g (t ∷ ts) h = (complete_stays types new g t h.0, complete_grow types new g ts h.1)

pub complete_push : (types : Types) (ts : List ℕ) (t : ℕ) → AreComplete types ts → is_complete types t ≡ true → AreComplete types (ts ++ t ∷ [])
complete_push types [] t h e = (e, tt)
complete_push types (u ∷ ts) t h e = (h.0, complete_push types ts t h.1 e)

-- ## Names of the file

-- an object has a complete type; a function a short name, and it is among those that the file defines where it is defined
abbrev pub IsEntity : Types → List Spelling → Spelling → Entity → Type 0
IsEntity types defined name (ObjectEntity t d start) = is_complete types t ≡ true
IsEntity types defined name (FunctionEntity t static d) = (length name ≤ 127) × (d ≡ true → list_any (same_name name) defined ≡ true)
IsEntity types defined name _ = Unit {0}

abbrev pub AreFileNames : Types → List Spelling → List FileName → Type 0
AreFileNames types defined [] = Unit {0}
AreFileNames types defined (x ∷ xs) = IsEntity types defined x.name x.entity × AreFileNames types defined xs

entity_grow : (types new : Types) → Grows types new → (defined : List Spelling) (name : Spelling) (e : Entity) → IsEntity types defined name e → IsEntity new defined name e
entity_grow types new g defined name (ObjectEntity t d start) h = complete_stays types new g t h
entity_grow types new g defined name (FunctionEntity t static d) h = h
entity_grow types new g defined name (EnumeratorEntity w) h = h
entity_grow types new g defined name (TypedefEntity t) h = h
entity_grow types new g defined name (BuiltinEntity static) h = h

pub names_grow : (types new : Types) → Grows types new → (defined : List Spelling) (xs : List FileName) → AreFileNames types defined xs → AreFileNames new defined xs
names_grow types new g defined [] h = tt
names_grow types new g defined (x ∷ xs) h = (entity_grow types new g defined x.name x.entity h.0, names_grow types new g defined xs h.1)

pub names_pushed : (types : Types) (defined : List Spelling) (xs : List FileName) (x : FileName) → AreFileNames types defined xs → IsEntity types defined x.name x.entity → AreFileNames types defined (xs ++ x ∷ [])
names_pushed types defined [] x h e = (e, tt)
names_pushed types defined (y ∷ ys) x h e = (h.0, names_pushed types defined ys x h.1 e)

-- no name stands twice
abbrev pub IsApart : Spelling → List FileName → Type 0
IsApart name [] = Unit {0}
IsApart name (x ∷ xs) = (same_name name x.name ≡ false) × IsApart name xs

abbrev pub AreApart : List FileName → Type 0
AreApart [] = Unit {0}
AreApart (x ∷ xs) = IsApart x.name xs × AreApart xs

-- what a name stands for
abbrev pub IsObjectEntity : Entity → Type 0
IsObjectEntity (ObjectEntity t d start) = Unit {0}
IsObjectEntity _ = ⊥

abbrev pub IsObject : Option FileName → Type 0
IsObject None = ⊥
IsObject (Some x) = IsObjectEntity x.entity

abbrev pub IsFunctionEntity : ℕ → Entity → Type 0
IsFunctionEntity t (FunctionEntity u static d) = u ≡ t
IsFunctionEntity t _ = ⊥

abbrev pub IsFunctionOf : ℕ → Option FileName → Type 0
IsFunctionOf t None = ⊥
IsFunctionOf t (Some x) = IsFunctionEntity t x.entity

-- it is a function of the type that the file has defined
abbrev pub IsDefinedEntity : ℕ → Entity → Type 0
IsDefinedEntity t (FunctionEntity u static d) = (u ≡ t) × (d ≡ true)
IsDefinedEntity t _ = ⊥

abbrev pub IsDefinitionOf : ℕ → Option FileName → Type 0
IsDefinitionOf t None = ⊥
IsDefinitionOf t (Some x) = IsDefinedEntity t x.entity

-- ## Scenes

pub record IsScene (s : Scene) : Type 0 where
  pub types : AreTypes s.types
  pub blocks : AreBlocks (length s.locals) s.blocks
  pub locals : AreComplete s.types s.locals
  pub names : AreFileNames s.types s.defined s.file
  pub apart : AreApart s.file

-- a later scene of the same function, with at most so many locals more
pub record IsLater (n : ℕ) (s t : Scene) : Type 0 where
  pub types : Grows s.types t.types
  pub objects : (name : Spelling) → IsObject (find_file name s.file) → IsObject (find_file name t.file)
  pub functions : (name : Spelling) (u : ℕ) → IsFunctionOf u (find_file name s.file) → IsFunctionOf u (find_file name t.file)
  pub definitions : (name : Spelling) (u : ℕ) → IsDefinitionOf u (find_file name s.file) → IsDefinitionOf u (find_file name t.file)
  -- without new locals, blocks stay below each number
  pub blocks : n ≡ 0 → (m : ℕ) → AreBlocks m s.blocks → AreBlocks m t.blocks
  pub defined : t.defined ≡ s.defined
  pub more : length s.locals ≤ length t.locals
  pub few : length t.locals ≤ length s.locals + n

pub later_none : (s : Scene) → IsLater 0 s s
later_none s = record { types = grows_none s.types; objects = λ name h. h; functions = λ name u h. h; definitions = λ name u h. h; blocks = λ e m h. h; defined = refl; more = omega arith; few = omega arith }

pub later_twice : (n m k : ℕ) (a b c : Scene) → IsLater n a b → IsLater m b c → n + m ≤ k → IsLater k a c
later_twice n m k a b c g h l =
    record {
      types = grows_twice a.types b.types c.types g.types h.types;
      objects = λ name o. h.objects name (g.objects name o);
      functions = λ name u o. h.functions name u (g.functions name u o);
      definitions = λ name u o. h.definitions name u (g.definitions name u o);
      blocks = λ e i o. h.blocks (none_right n m k l e) i (g.blocks (none_left n m k l e) i o);
      defined = h.defined ∙ g.defined;
      more = le_twice (length a.locals) (length b.locals) (length c.locals) g.more h.more;
      few = few_twice (length a.locals) (length b.locals) (length c.locals) n m k g.few h.few l;
    }
  where
    none_left : (n m k : ℕ) → n + m ≤ k → k ≡ 0 → n ≡ 0
    none_left n m k l e = omega arith

    none_right : (n m k : ℕ) → n + m ≤ k → k ≡ 0 → m ≡ 0
    none_right n m k l e = omega arith

    le_twice : (x y z : ℕ) → x ≤ y → y ≤ z → x ≤ z
    le_twice x y z p q = omega arith

    few_twice : (x y z n m k : ℕ) → y ≤ x + n → z ≤ y + m → n + m ≤ k → z ≤ x + k
    few_twice x y z n m k p q r = omega arith

-- both in one
pub record IsGood (n : ℕ) (s t : Scene) : Type 0 where
  pub scene : IsScene t
  pub later : IsLater n s t

pub good_none : (s : Scene) → IsScene s → IsGood 0 s s
good_none s h = record { scene = h; later = later_none s }

pub good_twice : (n m k : ℕ) (a b c : Scene) → IsGood n a b → IsGood m b c → n + m ≤ k → IsGood k a c
good_twice n m k a b c g h l = record { scene = h.scene; later = later_twice n m k a b c g.later h.later l }

pub later_more : (n m : ℕ) (a b : Scene) → IsLater n a b → n ≤ m → IsLater m a b
later_more n m a b h l = later_twice n 0 m a b b h (later_none b) (omega arith)

pub good_more : (n m : ℕ) (a b : Scene) → IsGood n a b → n ≤ m → IsGood m a b
good_more n m a b h l = record { scene = h.scene; later = later_more n m a b h.later l }

-- ## Changes

pub types_good : (s : Scene) (types : Types) → IsScene s → IsNext s.types types → IsGood 0 s (with_types s types)
types_good s types h g =
    record {
      scene = record { types = g.good; blocks = h.blocks; locals = complete_grow s.types types g.grows s.locals h.locals; names = names_grow s.types types g.grows s.defined s.file h.names; apart = h.apart };
      later = record { types = g.grows; objects = λ name o. o; functions = λ name u o. o; definitions = λ name u o. o; blocks = λ e m o. o; defined = refl; more = omega arith; few = omega arith };
    }

pub opened_good : (s : Scene) → IsScene s → IsGood 0 s (opened s)
opened_good s h =
    record {
      scene = record { types = h.types; blocks = (tt, h.blocks); locals = h.locals; names = h.names; apart = h.apart };
      later = record { types = grows_none s.types; objects = λ name o. o; functions = λ name u o. o; definitions = λ name u o. o; blocks = λ e m o. (tt, o); defined = refl; more = omega arith; few = omega arith };
    }

pub closed_good : (s : Scene) → IsScene s → IsGood 0 s (closed s)
closed_good s h =
    record {
      scene = record { types = h.types; blocks = blocks_without (length s.locals) s.blocks h.blocks; locals = h.locals; names = h.names; apart = h.apart };
      later = record { types = grows_none s.types; objects = λ name o. o; functions = λ name u o. o; definitions = λ name u o. o; blocks = λ e m o. blocks_without m s.blocks o; defined = refl; more = omega arith; few = omega arith };
    }

-- a parameter of a declaration
pub block_good : (s : Scene) (name : Spelling) (t : ℕ) → IsScene s → IsGood 0 s (with_block_name s name t None)
block_good s name t h =
    record {
      scene = record { types = h.types; blocks = blocks_into (length s.locals) s.blocks (record { name = name; type = t; local = None }) h.blocks tt; locals = h.locals; names = h.names; apart = h.apart };
      later = record { types = grows_none s.types; objects = λ name o. o; functions = λ name u o. o; definitions = λ name u o. o; blocks = λ e m o. blocks_into m s.blocks (record { name = name; type = t; local = None }) o tt; defined = refl; more = omega arith; few = omega arith };
    }

pub addressed_good : (s : Scene) (o : Option ℕ) → IsScene s → IsGood 0 s (with_addressed o s)
addressed_good s None h = good_none s h
addressed_good s (Some n) h =
    record {
      scene = record { types = h.types; blocks = h.blocks; locals = h.locals; names = h.names; apart = h.apart };
      later = record { types = grows_none s.types; objects = λ name o. o; functions = λ name u o. o; definitions = λ name u o. o; blocks = λ e m o. o; defined = refl; more = omega arith; few = omega arith };
    }

one_none : (n : ℕ) → n ≡ 1 → n ≡ 0 → ⊥
one_none n d e = absurd (omega arith)

pub length_push : {A : Type 0} (xs : List A) (x : A) → length (xs ++ x ∷ []) ≡ length xs + 1
length_push [] x = refl
length_push (y ∷ ys) x = ap suc (length_push ys x) ∙ (let e : suc (length ys + 1) ≡ suc (length ys) + 1 = omega arith in e)

-- a local more, under a name of the innermost block or none
pub local_good : (s : Scene) (name : Spelling) (t : ℕ) → IsScene s → is_complete s.types t ≡ true → IsGood 1 s (with_local (with_block_name s name t (Some (length s.locals))) t)
local_good s name t h e =
    let n = length_push s.locals t in
    record {
      scene = record {
        types = h.types;
        blocks = blocks_into (length (s.locals ++ t ∷ [])) s.blocks (record { name = name; type = t; local = Some (length s.locals) }) (blocks_more (length s.locals) (length (s.locals ++ t ∷ [])) (omega (arith, n)) s.blocks h.blocks) (omega (arith, n));
        locals = complete_push s.types s.locals t h.locals e;
        names = h.names;
        apart = h.apart;
      };
      later = record { types = grows_none s.types; objects = λ name o. o; functions = λ name u o. o; definitions = λ name u o. o; blocks = λ e m o. absurd (one_none 1 refl e); defined = refl; more = omega (arith, n); few = omega (arith, n) };
    }

-- ## Names more

find_push : (name : Spelling) (xs : List FileName) (x : FileName) (P : Option FileName → Type 0) → (P None → ⊥) → P (find_file name xs) → P (find_file name (xs ++ x ∷ []))
find_push name [] x P none h = absurd (none h)
find_push name (y ∷ ys) x P none h = by (λ h. find_push name ys x P none h) (same_name name y.name) h
  where
    by : (P (find_file name ys) → P (find_file name (ys ++ x ∷ []))) → (b : Bool) → P (cond b (Some y) (find_file name ys)) → P (cond b (Some y) (find_file name (ys ++ x ∷ [])))
    by rest true h = h
    by rest false h = rest h

pub name_is : (a b : Spelling) → same_name a b ≡ true → a ≡ b
name_is a b e = same_text a b (sym e)

same_flip : (a b : Spelling) → same_name a b ≡ false → same_name b a ≡ false
same_flip a b e = by (same_name b a) refl
  where
    by : (c : Bool) → same_name b a ≡ c → same_name b a ≡ false
    by true q = absurd (true≢false (sym (subst (λ x. same_name x x ≡ true) (name_is b a q) (subst (λ x. same_name b x ≡ true) (sym (name_is b a q)) q)) ∙ subst (λ x. same_name a x ≡ false) (name_is b a q) e))
    by false q = q

none_apart : (name : Spelling) (xs : List FileName) → find_file name xs ≡ None → IsApart name xs
none_apart name [] e = tt
none_apart name (x ∷ xs) e = by (λ e. none_apart name xs e) (same_name name x.name) refl e
  where
    by : (find_file name xs ≡ None → IsApart name xs) → (b : Bool) → same_name name x.name ≡ b → cond b (Some x) (find_file name xs) ≡ None → (same_name name x.name ≡ false) × IsApart name xs
    by rest true q e = cc
    by rest false q e = (q, rest e)

apart_one : (name : Spelling) (xs : List FileName) (x : FileName) → IsApart name xs → same_name name x.name ≡ false → IsApart name (xs ++ x ∷ [])
apart_one name [] x h e = (e, tt)
apart_one name (y ∷ ys) x h e = (h.0, apart_one name ys x h.1 e)

apart_push : (xs : List FileName) (x : FileName) → AreApart xs → IsApart x.name xs → AreApart (xs ++ x ∷ [])
apart_push [] x h g = (tt, tt)
apart_push (y ∷ ys) x h g = (apart_one y.name ys x h.0 (same_flip x.name y.name g.0), apart_push ys x h.1 g.1)

pub named_good : (s : Scene) (name : Spelling) (at : ℕ) (e : Entity) → IsScene s → find_file name s.file ≡ None → IsEntity s.types s.defined name e → IsGood 0 s (with_file_name s name at e)
named_good s name at e h none g =
    record {
      scene = record { types = h.types; blocks = h.blocks; locals = h.locals; names = names_pushed s.types s.defined s.file (record { name = name; at = at; entity = e }) h.names g; apart = apart_push s.file (record { name = name; at = at; entity = e }) h.apart (none_apart name s.file none) };
      later = record { types = grows_none s.types; objects = λ m o. find_push m s.file (record { name = name; at = at; entity = e }) IsObject (λ h. h) o; functions = λ m u o. find_push m s.file (record { name = name; at = at; entity = e }) (IsFunctionOf u) (λ h. h) o; definitions = λ m u o. find_push m s.file (record { name = name; at = at; entity = e }) (IsDefinitionOf u) (λ h. h) o; blocks = λ e m o. o; defined = refl; more = omega arith; few = omega arith };
    }
