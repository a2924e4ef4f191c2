-- The name of a function that is defined: it stands for a function of that type, defined now and never before.
use Rattle.std.proofs.Common.{◌≡◌, ℕ, ◌≤◌, ◌==◌, Bool, true, false, cond, ◌&&◌, ◌||◌, not, true≢false, List, [], ◌∷◌, ◌++◌, length, Option, Some, None, refl, sym, ap, ◌∙◌, subst, arith}
use Rattle.std.specs.List.{list_any}
use Rattle.std.specs.Option.{option_map}
use Rattle.std.proofs.lemmas.Bool.Decides.{Decides-eqb}
use Rattle.clight_types.specs.Types.{Types, Spelling, same_name, main_type}
use Rattle.clight_types.specs.Declarators.{Built}
use Rattle.clight_scopes.specs.Scopes.{Entity, ObjectEntity, FunctionEntity, EnumeratorEntity, TypedefEntity, BuiltinEntity, FileName, Scene, find_file, with_types, replaced}
use Rattle.clight_calls.specs.Builtins.{is_builtin_name, builtin_named, builtin_type}
use Rattle.clight_typing.specs.Typing.{no_clash, defined_twice, entity_of}
use Rattle.clight_globals.specs.Globals.{function_with, is_type, option_type, builtin_clash, function_clash, function_known, function_judged, is_main, gives_narrow}
use Rattle.clight_laws.proofs.Holding.{Holds, of_value, of_unless, not_both}
use Rattle.clight_laws.proofs.TypeTables.{Grows}
use Rattle.clight_laws.proofs.BuiltTypes.{IsNext}
use Rattle.clight_laws.proofs.Scenes.{IsScene, IsGood, IsDefinitionOf, IsDefinedEntity, good_twice, types_good, name_is}
use Rattle.clight_laws.proofs.FileDeclarations.{function_put}

pub name_self : (a : Spelling) → same_name a a ≡ true
name_self [] = refl
name_self (x ∷ xs) = ap (λ b. b && same_name xs xs) ((Decides-eqb x x).1 refl) ∙ name_self xs

pub same_self : (a b : Spelling) → a ≡ b → same_name a b ≡ true
same_self a b e = subst (λ x. same_name a x ≡ true) e (name_self a)

pub differs : (a b : Spelling) → same_name a b ≡ false → a ≡ b → ⊥
differs a b e q = not_both (same_name a b) (same_self a b q) e

pub differ : (a b : Spelling) → (a ≡ b → ⊥) → same_name a b ≡ false
differ a b f = by (same_name a b) refl
  where
    by : (c : Bool) → same_name a b ≡ c → same_name a b ≡ false
    by true e = absurd (f (name_is a b e))
    by false e = e

find_new : (name : Spelling) (xs : List FileName) (x : FileName) → find_file name xs ≡ None → same_name name x.name ≡ true → find_file name (xs ++ x ∷ []) ≡ Some x
find_new name [] x e q = ap (λ b. cond b (Some x) None) q
find_new name (y ∷ ys) x e q = by (same_name name y.name) (λ z. find_new name ys x z q) e
  where
    by : (b : Bool) → (find_file name ys ≡ None → find_file name (ys ++ x ∷ []) ≡ Some x) → cond b (Some y) (find_file name ys) ≡ None → cond b (Some y) (find_file name (ys ++ x ∷ [])) ≡ Some x
    by true rest e = cc
    by false rest e = rest e

find_replaced_self : (name : Spelling) (e : Entity) (xs : List FileName) (x : FileName) → find_file name xs ≡ Some x → find_file name (replaced name e xs) ≡ Some (record x { entity = e })
find_replaced_self name e [] x q = cc
find_replaced_self name e (y ∷ ys) x q = by (same_name name y.name) refl (λ z. find_replaced_self name e ys x z) q
  where
    some_same : (a b : FileName) → Some a ≡ Some b → a ≡ b
    some_same a b q = cc

    by : (b : Bool) → same_name name y.name ≡ b → (find_file name ys ≡ Some x → find_file name (replaced name e ys) ≡ Some (record x { entity = e })) → cond b (Some y) (find_file name ys) ≡ Some x
        → find_file name (cond b ((record y { entity = e }) ∷ ys) (y ∷ replaced name e ys)) ≡ Some (record x { entity = e })
    by true p rest q = ap (λ b. cond b (Some (record y { entity = e })) (find_file name ys)) p ∙ ap (λ (z : FileName). Some (record z { entity = e })) (some_same y x q)
    by false p rest q = ap (λ b. cond b (Some y) (find_file name (replaced name e ys))) p ∙ rest q

-- a builtin is not defined
builtin_twice : (x : Bool) → not (cond (x && not true) no_clash defined_twice).twice ≡ true → ⊥
builtin_twice true e = true≢false (sym e)
builtin_twice false e = true≢false (sym e)

and_right : (d : Bool) → not (d && true) ≡ true → d ≡ false
and_right true e = absurd (true≢false (sym e))
and_right false e = refl

-- something else of the name is defined twice or differs
other_clash : (d : Bool) → not (d && true) ≡ true → not (not (d && true)) ≡ true → ⊥
other_clash true p q = true≢false (sym p)
other_clash false p q = true≢false (sym q)

module _ (s : Scene) (name : Spelling) (at t : ℕ) (static : Bool) where
  -- what the tests leave
  record IsFree (o : Option FileName) : Type 0 where
    other : is_builtin_name name ≡ false
    twice : not (function_with t true (option_map (λ x. x.entity) o)).twice ≡ true
    differs : not (function_with t true (option_map (λ x. x.entity) o)).differs ≡ true

  free : not (function_clash s name t true).twice ≡ true → not (function_clash s name t true).differs ≡ true → IsFree (find_file name s.file)
  free p q = by (is_builtin_name name) refl p q
    where
      by : (b : Bool) → is_builtin_name name ≡ b → not (cond b (builtin_clash name t true) (function_with t true (entity_of s name))).twice ≡ true → not (cond b (builtin_clash name t true) (function_with t true (entity_of s name))).differs ≡ true → IsFree (find_file name s.file)
      by true e p q = absurd (builtin_twice (is_type (option_type (builtin_named name) builtin_type) t) p)
      by false e p q = record { other = e; twice = p; differs = q }

  entity_new : (e : Entity) → not (function_with t true (Some e)).twice ≡ true → (u : ℕ) → IsDefinedEntity u e → ⊥
  entity_new (FunctionEntity v was d) p u h = not_both d h.1 (and_right d p)
  entity_new (ObjectEntity v d start) p u h = h
  entity_new (EnumeratorEntity w) p u h = h
  entity_new (TypedefEntity v) p u h = h
  entity_new (BuiltinEntity was) p u h = h

  new_by : (o : Option FileName) → IsFree o → (u : ℕ) → IsDefinitionOf u o → ⊥
  new_by None h u g = g
  new_by (Some x) h u g = entity_new x.entity h.twice u g

  defined_by : (o : Option FileName) → find_file name s.file ≡ o → IsFree o → IsDefinitionOf t (find_file name (function_known s name at t static true (option_map (λ x. x.entity) o)).file)
  defined_by None e h =
      let q : find_file name (function_known s name at t static true None).file ≡ Some (record { name = name; at = at; entity = cond (is_builtin_name name) (BuiltinEntity static) (FunctionEntity t static true) }) = find_new name s.file (record { name = name; at = at; entity = cond (is_builtin_name name) (BuiltinEntity static) (FunctionEntity t static true) }) e (name_self name) in
      subst (IsDefinitionOf t) (sym q) (subst (λ b. IsDefinedEntity t (cond b (BuiltinEntity static) (FunctionEntity t static true))) (sym h.other) (refl, refl))
  defined_by (Some x) e h = by x.entity h.twice h.differs
    where
      or_right : (d : Bool) → (d || true) ≡ true
      or_right true = refl
      or_right false = refl

      same_type : (u : ℕ) → not (not (t == u)) ≡ true → u ≡ t
      same_type u q = sym ((Decides-eqb t u).0 (double (t == u) q))
        where
          double : (b : Bool) → not (not b) ≡ true → b ≡ true
          double true q = refl
          double false q = absurd (true≢false (sym q))

      by : (z : Entity) → not (function_with t true (Some z)).twice ≡ true → not (function_with t true (Some z)).differs ≡ true → IsDefinitionOf t (find_file name (function_known s name at t static true (Some z)).file)
      by (FunctionEntity u was d) p q = subst (IsDefinitionOf t) (sym (find_replaced_self name (FunctionEntity u (was || static) (d || true)) s.file x e)) (same_type u q, or_right d)
      by (ObjectEntity u d start) p q = absurd (other_clash d p q)
      by (EnumeratorEntity w) p q = absurd (true≢false (sym p))
      by (TypedefEntity u) p q = absurd (true≢false (sym p))
      by (BuiltinEntity was) p q = absurd (true≢false (sym p))

pub record Defines (s : Scene) (name : Spelling) (types : Types) (t : ℕ) (r : Scene) : Type 0 where
  pub good : IsGood 0 s r
  pub grows : Grows types r.types
  pub definition : IsDefinitionOf t (find_file name r.file)
  pub new : (u : ℕ) → IsDefinitionOf u (find_file name s.file) → ⊥
  pub main : is_main name ≡ true → t ≡ main_type

pub definition_good : (s : Scene) (at : ℕ) (name : Spelling) (b : Built) (t : ℕ) (static : Bool) → IsScene s → IsNext s.types b.types → length name ≤ 127 → list_any (same_name name) s.defined ≡ true → Holds (function_judged s at name b t static true) (Defines s name b.types t)
definition_good s at name b t static h n l d =
    of_unless (not (function_clash s name t true).twice) _ _ _ _ (λ e1.
    of_unless (not (function_clash s name t true).differs) _ _ _ _ (λ e2.
    of_unless (not b.is_large) _ _ _ _ (λ e3.
    of_unless (not b.gives_struct) _ _ _ _ (λ e4.
    of_unless (not (is_main name) || t == main_type) _ _ _ _ (λ e5.
    of_unless (not (gives_narrow s b.types name t)) _ _ _ _ (λ e6.
    (let g = types_good s b.types h n in
    let f = free (with_types s b.types) name at t static e1 e2 in
    let k = function_put (with_types s b.types) name at t g.scene static true (find_file name s.file) refl l (λ e. d) in
    of_value _ _ (record {
      good = good_twice 0 0 0 s (with_types s b.types) _ g k (omega arith);
      grows = k.later.types;
      definition = defined_by (with_types s b.types) name at t static (find_file name s.file) refl f;
      new = new_by (with_types s b.types) name at t static (find_file name s.file) f;
      main = main_by (is_main name) e5;
    }))))))))
  where
    main_by : (m : Bool) → (not m || t == main_type) ≡ true → m ≡ true → t ≡ main_type
    main_by true e q = (Decides-eqb t main_type).0 e
    main_by false e q = absurd (true≢false (sym q))
