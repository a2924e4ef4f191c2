-- Objects, functions and typedef names that a file declares: the scene behind each is good.
use Rattle.std.proofs.Common.{◌≡◌, ℕ, ◌≤◌, ◌==◌, Bool, true, false, cond, ◌&&◌, ◌||◌, not, true≢false, List, [], ◌∷◌, length, Option, Some, None, refl, sym, subst, arith}
use Rattle.std.specs.List.{list_any}
use Rattle.std.specs.Option.{option_map}
use Rattle.clight_types.specs.declared.kind.Integer.TheVariants as i
use Rattle.clight_types.specs.Types.{Types, Spelling, same_name, is_complete, is_incomplete, is_function, integer_type, main_type}
use Rattle.clight_types.specs.Declarators.{Built, type_or}
use Rattle.clight_scopes.specs.Scopes.{Entity, ObjectEntity, FunctionEntity, EnumeratorEntity, TypedefEntity, BuiltinEntity, FileName, Scene, find_file, with_types, with_file_name}
use Rattle.clight_calls.specs.Builtins.{is_builtin_name}
use Rattle.clight_globals.specs.Globals.{object_clash, function_clash, object_known, function_known, object_judged, function_judged, is_main, gives_narrow}
use Rattle.clight_laws.proofs.Holding.{Holds, of_value, of_unless, both_true}
use Rattle.clight_laws.proofs.BuiltTypes.{IsNext}
use Rattle.clight_laws.proofs.Scenes.{IsScene, IsGood, IsEntity, IsObjectEntity, IsFunctionEntity, IsDefinedEntity, AreFileNames, good_none, good_twice, types_good, named_good, name_is}
use Rattle.clight_laws.proofs.FileNames.{replaced_good}

-- what is known of a name that is there
pub found_entity : (types : Types) (defined : List Spelling) (name : Spelling) (xs : List FileName) (x : FileName) → AreFileNames types defined xs → find_file name xs ≡ Some x → IsEntity types defined name x.entity
found_entity types defined name [] x h e = cc
found_entity types defined name (y ∷ ys) x h e = by (λ q. found_entity types defined name ys x h.1 q) (same_name name y.name) refl e
  where
    some_same : (a b : FileName) → Some a ≡ Some b → a ≡ b
    some_same a b q = cc

    by : (find_file name ys ≡ Some x → IsEntity types defined name x.entity) → (b : Bool) → same_name name y.name ≡ b → cond b (Some y) (find_file name ys) ≡ Some x → IsEntity types defined name x.entity
    by rest true q e = subst (λ (z : FileName). IsEntity types defined name z.entity) (some_same y x e) (subst (λ n. IsEntity types defined n y.entity) (sym (name_is name y.name q)) h.0)
    by rest false q e = rest e

module _ (s : Scene) (name : Spelling) (at t : ℕ) (h : IsScene s) where
  -- an object
  object_put : (defines : Bool) (o : Option FileName) → find_file name s.file ≡ o → is_complete s.types t ≡ true → IsGood 0 s (object_known s name at t defines (option_map (λ x. x.entity) o))
  object_put defines None e c = named_good s name at (ObjectEntity t defines []) h e c
  object_put defines (Some x) e c = by x.entity refl
    where
      by : (z : Entity) → x.entity ≡ z → IsGood 0 s (object_known s name at t defines (Some z))
      by (ObjectEntity u d start) q =
          replaced_good name (ObjectEntity u (d || defines) start) s x h e
          (record { object = λ p. tt; function = λ u p. absurd (subst (IsFunctionEntity u) q p); definition = λ u p. absurd (subst (IsDefinedEntity u) q p) })
          (subst (IsEntity s.types s.defined name) q (found_entity s.types s.defined name s.file x h.names e))
      by (FunctionEntity u static d) q = good_none s h
      by (EnumeratorEntity w) q = good_none s h
      by (TypedefEntity u) q = good_none s h
      by (BuiltinEntity static) q = good_none s h

  -- a function, of a short name that the file defines where this declaration does
  pub function_put : (static defines : Bool) (o : Option FileName) → find_file name s.file ≡ o → length name ≤ 127 → (defines ≡ true → list_any (same_name name) s.defined ≡ true) → IsGood 0 s (function_known s name at t static defines (option_map (λ x. x.entity) o))
  function_put static defines None e l d = by (is_builtin_name name)
    where
      by : (b : Bool) → IsGood 0 s (with_file_name s name at (cond b (BuiltinEntity static) (FunctionEntity t static defines)))
      by true = named_good s name at (BuiltinEntity static) h e tt
      by false = named_good s name at (FunctionEntity t static defines) h e (l, d)
  function_put static defines (Some x) e l d = by x.entity refl
    where
      either : (b : Bool) → (b ≡ true → list_any (same_name name) s.defined ≡ true) → (b || defines) ≡ true → list_any (same_name name) s.defined ≡ true
      either true f q = f refl
      either false f q = d q

      or_left : (a b : Bool) → a ≡ true → (a || b) ≡ true
      or_left true b q = refl
      or_left false b q = absurd (true≢false (sym q))

      by : (z : Entity) → x.entity ≡ z → IsGood 0 s (function_known s name at t static defines (Some z))
      by (FunctionEntity u was d0) q =
          (let k : IsEntity s.types s.defined name (FunctionEntity u was d0) = subst (IsEntity s.types s.defined name) q (found_entity s.types s.defined name s.file x h.names e) in
          replaced_good name (FunctionEntity u (was || static) (d0 || defines)) s x h e
          (record {
            object = λ p. absurd (subst IsObjectEntity q p);
            function = λ v p. subst (IsFunctionEntity v) q p;
            definition = λ v p. (let g : IsDefinedEntity v (FunctionEntity u was d0) = subst (IsDefinedEntity v) q p in (g.0, or_left d0 defines g.1));
          })
          (l, either d0 k.1))
      by (BuiltinEntity was) q =
          replaced_good name (BuiltinEntity (was || static)) s x h e
          (record { object = λ p. absurd (subst IsObjectEntity q p); function = λ v p. absurd (subst (IsFunctionEntity v) q p); definition = λ v p. absurd (subst (IsDefinedEntity v) q p) })
          tt
      by (ObjectEntity u d0 start) q = good_none s h
      by (EnumeratorEntity w) q = good_none s h
      by (TypedefEntity u) q = good_none s h

-- ## Declarators of a file

complete_object : (types : Types) (o : Option ℕ) → not (is_incomplete types (type_or o (integer_type i.Int))) ≡ true → is_function types (type_or o (integer_type i.Int)) ≡ false → is_complete types (type_or o (integer_type i.Int)) ≡ true
complete_object types o e f = by (is_complete types (type_or o (integer_type i.Int))) (is_function types (type_or o (integer_type i.Int))) e f
  where
    by : (c g : Bool) → not (not c && not g) ≡ true → g ≡ false → c ≡ true
    by true g e f = refl
    by false true e f = absurd (true≢false f)
    by false false e f = absurd (true≢false (sym e))

pub object_good : (s : Scene) (at : ℕ) (name : Spelling) (b : Built) (defines : Bool) → IsScene s → IsNext s.types b.types → is_function b.types (type_or b.type (integer_type i.Int)) ≡ false → Holds (object_judged s at name b defines) (IsGood 0 s)
object_good s at name b defines h n f =
    of_unless (not (object_clash s name b.type defines).twice) _ _ _ _ (λ e1.
    of_unless (not (object_clash s name b.type defines).differs) _ _ _ _ (λ e2.
    of_unless (not b.has_incomplete && not (is_incomplete b.types (type_or b.type (integer_type i.Int)))) _ _ _ _ (λ e3.
    of_unless (not b.is_wrong) _ _ _ _ (λ e4.
    of_unless (not b.is_large) _ _ _ _ (λ e5.
    of_unless (not b.gives_struct) _ _ _ _ (λ e6.
    of_unless (not (is_main name)) _ _ _ _ (λ e7.
    (let g = types_good s b.types h n in
    of_value _ _ (good_twice 0 0 0 s (with_types s b.types) _ g
    (object_put (with_types s b.types) name at (type_or b.type (integer_type i.Int)) g.scene defines (find_file name s.file) refl
    (complete_object b.types b.type (both_true (not b.has_incomplete) (not (is_incomplete b.types (type_or b.type (integer_type i.Int)))) e3).1 f)) (omega arith))))))))))

pub function_good : (s : Scene) (at : ℕ) (name : Spelling) (b : Built) (t : ℕ) (static defines : Bool) → IsScene s → IsNext s.types b.types → length name ≤ 127 → (defines ≡ true → list_any (same_name name) s.defined ≡ true) → Holds (function_judged s at name b t static defines) (IsGood 0 s)
function_good s at name b t static defines h n l d =
    of_unless (not (function_clash s name t defines).twice) _ _ _ _ (λ e1.
    of_unless (not (function_clash s name t defines).differs) _ _ _ _ (λ e2.
    of_unless (not b.is_large) _ _ _ _ (λ e3.
    of_unless (not b.gives_struct) _ _ _ _ (λ e4.
    of_unless (not (is_main name) || t == main_type) _ _ _ _ (λ e5.
    of_unless (not (gives_narrow s b.types name t)) _ _ _ _ (λ e6.
    (let g = types_good s b.types h n in
    of_value _ _ (good_twice 0 0 0 s (with_types s b.types) _ g (function_put (with_types s b.types) name at t g.scene static defines (find_file name s.file) refl l d) (omega arith)))))))))
