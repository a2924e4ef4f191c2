-- The function types of a program: those of its functions and of its calls are in its list, each with its number.
use Rattle.std.proofs.Common.{◌≡◌, ℕ, suc, ◌+◌, ◌<◌, ◌==◌, Bool, true, false, cond, ◌||◌, not, true≢false, List, [], ◌∷◌, ◌++◌, map, length, Some, None, refl, sym, ap, ◌∙◌, subst, arith}
use Rattle.std.specs.Prelude.{slice_get, position, unwrap_or, nat_lt}
use Rattle.std.specs.List.{list_any, position_or_len}
use Rattle.std.proofs.lemmas.Bool.{lt-ltb, ltb-true}
use Rattle.std.proofs.lemmas.Bool.Decides.{Decides-eqb}
use Rattle.clight_scopes.specs.Scopes.{Entity, ObjectEntity, FunctionEntity, EnumeratorEntity, TypedefEntity, BuiltinEntity, FileName}
use Rattle.clight_operands.specs.Operands.{Callee, Inside, Outside, Provided, FromValue, FromCall, Deed, NoDeed, CallDeed, AssignDeed, UpdateDeed}
use Rattle.clight_typing.specs.Statements.{Made, NothingMade, EvaluatedMade, DeedMade, BlockMade, BranchMade, WhileMade, DoMade, ForMade, SwitchMade, BreakMade, ContinueMade, ReturnMade, ReturnCallMade, MadeList, NoMade, AndMade, MadeGroups, NoGroups, AndGroup}
use Rattle.clight_files.specs.Files.{FunctionMade}
use Rattle.clight_meaning.specs.Meaning.{added, callee_types, deed_types, made_types, list_types, group_types, entity_types, declared_types, body_types}
use Rattle.clight_placing.specs.Placing.{number_of_type}
use Rattle.clight_laws.proofs.Listed.{IsCalleeListed, IsDeedListed, IsMadeListed, AreMadeListed, AreGroupsListed}
use Rattle.clight_laws.proofs.Lists.{Each}

abbrev pub IsIn : List ℕ → ℕ → Type 0
IsIn ts t = list_any (λ u. u == t) ts ≡ true

-- nothing is lost
abbrev pub Keeps : List ℕ → List ℕ → Type 0
Keeps ts us = (t : ℕ) → IsIn ts t → IsIn us t

-- ## One type more

equal_self : (t : ℕ) → (t == t) ≡ true
equal_self t = (Decides-eqb t t).1 refl

or_right : (a : Bool) → (a || true) ≡ true
or_right true = refl
or_right false = refl

in_front : (ts : List ℕ) (u t : ℕ) → IsIn ts t → IsIn (ts ++ u ∷ []) t
in_front [] u t h = absurd (true≢false (sym h))
in_front (x ∷ xs) u t h = by (x == t) (λ q. in_front xs u t q) h
  where
    by : (b : Bool) → (IsIn xs t → IsIn (xs ++ u ∷ []) t) → (b || list_any (λ y. y == t) xs) ≡ true → (b || list_any (λ y. y == t) (xs ++ u ∷ [])) ≡ true
    by true rest e = refl
    by false rest e = rest e

in_end : (ts : List ℕ) (t : ℕ) → IsIn (ts ++ t ∷ []) t
in_end [] t = ap (λ b. b || false) (equal_self t)
in_end (x ∷ xs) t = ap (λ b. (x == t) || b) (in_end xs t) ∙ or_right (x == t)

added_keeps : (ts : List ℕ) (u : ℕ) → Keeps ts (added ts u)
added_keeps ts u t h = by (list_any (λ x. x == u) ts)
  where
    by : (b : Bool) → IsIn (cond b ts (ts ++ u ∷ [])) t
    by true = h
    by false = in_front ts u t h

added_in : (ts : List ℕ) (t : ℕ) → IsIn (added ts t) t
added_in ts t = by (list_any (λ x. x == t) ts) refl
  where
    by : (b : Bool) → list_any (λ x. x == t) ts ≡ b → IsIn (cond b ts (ts ++ t ∷ [])) t
    by true e = e
    by false e = in_end ts t

-- ## What is made

callee_keeps : (ts : List ℕ) (f : Callee) → Keeps ts (callee_types ts f)
callee_keeps ts (Inside t f) = added_keeps ts t
callee_keeps ts (Outside name t) = added_keeps ts t
callee_keeps ts (Provided b) = λ t h. h

deed_keeps : (ts : List ℕ) (d : Deed) → Keeps ts (deed_types ts d)
deed_keeps ts NoDeed = λ t h. h
deed_keeps ts (CallDeed f args x) = callee_keeps ts f
deed_keeps ts (AssignDeed a to (FromValue e)) = λ t h. h
deed_keeps ts (AssignDeed a to (FromCall f args x)) = callee_keeps ts f
deed_keeps ts (UpdateDeed a to o other e given) = λ t h. h

mutual
  made_keeps : (ts : List ℕ) (m : Made) → Keeps ts (made_types ts m)
  made_keeps ts NothingMade = λ t h. h
  made_keeps ts (EvaluatedMade e) = λ t h. h
  made_keeps ts (DeedMade d) = deed_keeps ts d
  made_keeps ts (BlockMade l) = list_keeps ts l
  made_keeps ts (BranchMade e a b) = λ t h. made_keeps (made_types ts a) b t (made_keeps ts a t h)
  made_keeps ts (WhileMade e a) = made_keeps ts a
  made_keeps ts (DoMade a e) = made_keeps ts a
  made_keeps ts (ForMade f c u a) = λ t h. made_keeps (made_types (list_types ts f) u) a t (made_keeps (list_types ts f) u t (list_keeps ts f t h))
  made_keeps ts (SwitchMade e gs) = groups_keep ts gs
  made_keeps ts BreakMade = λ t h. h
  made_keeps ts ContinueMade = λ t h. h
  made_keeps ts (ReturnMade e) = λ t h. h
  made_keeps ts (ReturnCallMade f args x to) = callee_keeps ts f

  list_keeps : (ts : List ℕ) (l : MadeList) → Keeps ts (list_types ts l)
  list_keeps ts NoMade = λ t h. h
  list_keeps ts (AndMade m ms) = λ t h. list_keeps (made_types ts m) ms t (made_keeps ts m t h)

  groups_keep : (ts : List ℕ) (gs : MadeGroups) → Keeps ts (group_types ts gs)
  groups_keep ts NoGroups = λ t h. h
  groups_keep ts (AndGroup numbers is_default l gs) = λ t h. groups_keep (list_types ts l) gs t (list_keeps ts l t h)

-- ## What is made calls only what is in a list that keeps its types

module _ (us : List ℕ) where
  callee_listed : (ts : List ℕ) (f : Callee) → Keeps (callee_types ts f) us → IsCalleeListed (IsIn us) f
  callee_listed ts (Inside t f) k = k t (added_in ts t)
  callee_listed ts (Outside name t) k = k t (added_in ts t)
  callee_listed ts (Provided b) k = tt

  deed_listed : (ts : List ℕ) (d : Deed) → Keeps (deed_types ts d) us → IsDeedListed (IsIn us) d
  deed_listed ts NoDeed k = tt
  deed_listed ts (CallDeed f args x) k = callee_listed ts f k
  deed_listed ts (AssignDeed a to (FromValue e)) k = tt
  deed_listed ts (AssignDeed a to (FromCall f args x)) k = callee_listed ts f k
  deed_listed ts (UpdateDeed a to o other e given) k = tt

  mutual
    made_listed : (ts : List ℕ) (m : Made) → Keeps (made_types ts m) us → IsMadeListed (IsIn us) m
    made_listed ts NothingMade k = tt
    made_listed ts (EvaluatedMade e) k = tt
    made_listed ts (DeedMade d) k = deed_listed ts d k
    made_listed ts (BlockMade l) k = list_listed ts l k
    made_listed ts (BranchMade e a b) k = (made_listed ts a (λ t h. k t (made_keeps (made_types ts a) b t h)), made_listed (made_types ts a) b k)
    made_listed ts (WhileMade e a) k = made_listed ts a k
    made_listed ts (DoMade a e) k = made_listed ts a k
    made_listed ts (ForMade f c u a) k = (
      list_listed ts f (λ t h. k t (made_keeps (made_types (list_types ts f) u) a t (made_keeps (list_types ts f) u t h))),
      (
        made_listed (list_types ts f) u (λ t h. k t (made_keeps (made_types (list_types ts f) u) a t h)),
        made_listed (made_types (list_types ts f) u) a k,
      ),
    )
    made_listed ts (SwitchMade e gs) k = groups_listed ts gs k
    made_listed ts BreakMade k = tt
    made_listed ts ContinueMade k = tt
    made_listed ts (ReturnMade e) k = tt
    made_listed ts (ReturnCallMade f args x to) k = callee_listed ts f k

    list_listed : (ts : List ℕ) (l : MadeList) → Keeps (list_types ts l) us → AreMadeListed (IsIn us) l
    list_listed ts NoMade k = tt
    list_listed ts (AndMade m ms) k = (made_listed ts m (λ t h. k t (list_keeps (made_types ts m) ms t h)), list_listed (made_types ts m) ms k)

    groups_listed : (ts : List ℕ) (gs : MadeGroups) → Keeps (group_types ts gs) us → AreGroupsListed (IsIn us) gs
    groups_listed ts NoGroups k = tt
    groups_listed ts (AndGroup numbers is_default l gs) k = (list_listed ts l (λ t h. k t (groups_keep (list_types ts l) gs t h)), groups_listed (list_types ts l) gs k)

-- ## All functions

bodies_keep : (ts : List ℕ) (fs : List FunctionMade) → Keeps ts (body_types ts fs)
bodies_keep ts [] = λ t h. h
bodies_keep ts (f ∷ fs) = λ t h. bodies_keep (list_types ts f.body) fs t (list_keeps ts f.body t h)

bodies_listed : (us ts : List ℕ) (fs : List FunctionMade) → Keeps (body_types ts fs) us → Each (λ (f : FunctionMade). AreMadeListed (IsIn us) f.body) fs
bodies_listed us ts [] k = tt
bodies_listed us ts (f ∷ fs) k = (list_listed us ts f.body (λ t h. k t (bodies_keep (list_types ts f.body) fs t h)), bodies_listed us (list_types ts f.body) fs k)

-- each body calls functions of types in the list alone
pub all_listed : (ts : List ℕ) (fs : List FunctionMade) → Each (λ (f : FunctionMade). AreMadeListed (IsIn (body_types ts fs)) f.body) fs
all_listed ts fs = bodies_listed (body_types ts fs) ts fs (λ t h. h)

entity_keeps : (ts : List ℕ) (e : Entity) → Keeps ts (entity_types ts e)
entity_keeps ts (ObjectEntity t d start) = λ t h. h
entity_keeps ts (FunctionEntity t static d) = added_keeps ts t
entity_keeps ts (EnumeratorEntity w) = λ t h. h
entity_keeps ts (TypedefEntity t) = λ t h. h
entity_keeps ts (BuiltinEntity static) = λ t h. h

names_keep : (ts : List ℕ) (xs : List FileName) → Keeps ts (declared_types ts xs)
names_keep ts [] = λ t h. h
names_keep ts (x ∷ xs) = λ t h. names_keep (entity_types ts x.entity) xs t (entity_keeps ts x.entity t h)

-- the type of a declared function
abbrev pub IsEntityIn : List ℕ → Entity → Type 0
IsEntityIn us (FunctionEntity t static d) = IsIn us t
IsEntityIn us _ = Unit {0}

entity_in : (us ts : List ℕ) (e : Entity) → Keeps (entity_types ts e) us → IsEntityIn us e
entity_in us ts (ObjectEntity t d start) k = tt
entity_in us ts (FunctionEntity t static d) k = k t (added_in ts t)
entity_in us ts (EnumeratorEntity w) k = tt
entity_in us ts (TypedefEntity t) k = tt
entity_in us ts (BuiltinEntity static) k = tt

names_in : (us ts : List ℕ) (xs : List FileName) → Keeps (declared_types ts xs) us → Each (λ (x : FileName). IsEntityIn us x.entity) xs
names_in us ts [] k = tt
names_in us ts (x ∷ xs) k = (entity_in us ts x.entity (λ t h. k t (names_keep (entity_types ts x.entity) xs t h)), names_in us (entity_types ts x.entity) xs k)

pub declared_in : (xs : List FileName) (fs : List FunctionMade) → Each (λ (x : FileName). IsEntityIn (body_types (declared_types [] xs) fs) x.entity) xs
declared_in xs fs = names_in (body_types (declared_types [] xs) fs) [] xs (bodies_keep (declared_types [] xs) fs)

-- ## Numbers

module _ (g : ℕ → ℕ) where
  at_position : (t : ℕ) (ts : List ℕ) → position_or_len (λ u. u == t) ts < length ts → slice_get (map g ts) (position_or_len (λ u. u == t) ts) ≡ Some (g t)
  at_position t [] l = absurd (omega arith)
  at_position t (x ∷ xs) l = by (x == t) refl (λ q. at_position t xs q) l
    where
      one_more : (n : ℕ) → 1 + n ≡ suc n
      one_more n = omega arith

      by : (b : Bool) → (x == t) ≡ b → (position_or_len (λ u. u == t) xs < length xs → slice_get (map g xs) (position_or_len (λ u. u == t) xs) ≡ Some (g t))
          → cond (not b) (1 + position_or_len (λ u. u == t) xs) 0 < suc (length xs) → slice_get (g x ∷ map g xs) (cond (not b) (1 + position_or_len (λ u. u == t) xs) 0) ≡ Some (g t)
      by true e rest l = ap (λ y. Some (g y)) ((Decides-eqb x t).0 e)
      by false e rest l = ap (slice_get (g x ∷ map g xs)) (one_more (position_or_len (λ u. u == t) xs)) ∙ rest (omega arith)

  in_position : (t : ℕ) (ts : List ℕ) → IsIn ts t → position_or_len (λ u. u == t) ts < length ts
  in_position t [] h = absurd (true≢false (sym h))
  in_position t (x ∷ xs) h = by (x == t) (λ q. in_position t xs q) h
    where
      by : (b : Bool) → (IsIn xs t → position_or_len (λ u. u == t) xs < length xs) → (b || list_any (λ u. u == t) xs) ≡ true → cond (not b) (1 + position_or_len (λ u. u == t) xs) 0 < suc (length xs)
      by true rest e = omega arith
      by false rest e = (let l : position_or_len (λ u. u == t) xs < length xs = rest e in omega arith)

  -- a type of the list by its number
  pub number_in : (ts : List ℕ) (t : ℕ) → IsIn ts t → slice_get (map g ts) (number_of_type ts t) ≡ Some (g t)
  number_in ts t h =
      let l : position_or_len (λ u. u == t) ts < length ts = in_position t ts h in
      ap (λ b. slice_get (map g ts) (unwrap_or (cond b (Some (position_or_len (λ u. u == t) ts)) None) 0)) (lt-ltb (position_or_len (λ u. u == t) ts) (length ts) l) ∙ at_position t ts l

  -- the number where a type stands
  pub position_in : (ts : List ℕ) (t n : ℕ) → position (λ u. u == t) ts ≡ Some n → slice_get (map g ts) n ≡ Some (g t)
  position_in ts t n e = by (nat_lt (position_or_len (λ u. u == t) ts) (length ts)) refl e
    where
      some_same : (a b : ℕ) → Some a ≡ Some b → a ≡ b
      some_same a b q = cc

      by : (b : Bool) → nat_lt (position_or_len (λ u. u == t) ts) (length ts) ≡ b → cond b (Some (position_or_len (λ u. u == t) ts)) None ≡ Some n → slice_get (map g ts) n ≡ Some (g t)
      by true q e = subst (λ k. slice_get (map g ts) k ≡ Some (g t)) (some_same (position_or_len (λ u. u == t) ts) n e) (at_position t ts (ltb-true (position_or_len (λ u. u == t) ts) (length ts) q))
      by false q e = cc
