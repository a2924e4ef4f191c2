-- Whole declarations of a file: the scene behind each is good.
use Rattle.std.proofs.Common.{◌≡◌, ℕ, ◌≤◌, Bool, true, false, cond, ◌||◌, not, true≢false, List, [], ◌∷◌, length, Option, Some, None, refl, sym, arith}
use Rattle.std.specs.Prelude.{is_some}
use Rattle.std.specs.List.{list_any}
use Rattle.std.specs.Option.{option_map}
use Rattle.c_grammar.specs.Tokens as k
use Rattle.c_tree.specs.Trees.{DeclaratorTree, unnamed, named, pointer_to, array_of, function_of, InitializerTree, InitDeclaratorTree, init_tree}
use Rattle.clight_types.specs.declared.kind.Integer.TheVariants as i
use Rattle.clight_types.specs.Types.{Spelling, same_name, is_function, integer_type}
use Rattle.clight_types.specs.Declarators.{Built, built_type, type_or}
use Rattle.clight_types.specs.Judged.{and_then}
use Rattle.clight_scopes.specs.Scopes.{TypedefEntity, FileName, Scene, find_file, with_types}
use Rattle.clight_calls.specs.Builtins.{is_builtin_name}
use Rattle.clight_typing.specs.Typing.{declared, declared_name, declared_at, name_or_empty}
use Rattle.clight_globals.specs.Globals.{typedef_clash, typedef_declared, is_extern, is_static, is_typedef, function_in, object_judged, function_judged, object_initialized, refused_initializer, object_declared, name_declared, names_declared}
use Rattle.c_shapes.specs.Shaped.{IsInitializer, AreInits, IsShort, AreShort}
use Rattle.clight_laws.proofs.Holding.{Holds, of_value, of_then, of_unless, holds_more}
use Rattle.clight_laws.proofs.BuiltTypes.{IsNext, type_next}
use Rattle.clight_laws.proofs.Scenes.{IsScene, IsGood, good_none, types_good, named_good}
use Rattle.clight_laws.proofs.Declared.{no_function}
use Rattle.clight_laws.proofs.TypedTrees.{MakesParts, chain, declared_good}
use Rattle.clight_laws.proofs.FileDeclarations.{object_good, function_good}
use Rattle.clight_laws.proofs.FileInitializers.{refused_good, initialized_good}

-- the name that a declarator declares
pub short_name : (d : DeclaratorTree) → IsShort d → length (name_or_empty (declared_name d)) ≤ 127
short_name unnamed h = omega arith
short_name (named at name) h = h
short_name (pointer_to qs d) h = short_name d h
short_name (array_of d n) h = short_name d h
short_name (function_of d ps) h = short_name d h

module _ (s : Scene) (at : ℕ) (name : Spelling) (b : Built) (h : IsScene s) (n : IsNext s.types b.types) where
  no_entity : not (typedef_clash s name) ≡ true → find_file name s.file ≡ None
  no_entity e = by (is_builtin_name name) (find_file name s.file) e
    where
      by : (c : Bool) (o : Option FileName) → not (c || is_some (option_map (λ x. x.entity) o)) ≡ true → o ≡ None
      by true o e = absurd (true≢false (sym e))
      by false None e = refl
      by false (Some x) e = absurd (true≢false (sym e))

  new_typedef : Holds (typedef_declared s at name b) (IsGood 0 s)
  new_typedef =
      of_unless (not (typedef_clash s name)) _ _ _ _ (λ e1.
      of_unless (not b.has_incomplete) _ _ _ _ (λ e2.
      of_unless (not b.is_wrong) _ _ _ _ (λ e3.
      of_unless (not b.is_large) _ _ _ _ (λ e4.
      of_unless (not b.gives_struct) _ _ _ _ (λ e5.
      (let g = types_good s b.types h n in
      of_value _ _ (chain s (with_types s b.types) _ g (named_good (with_types s b.types) name at (TypedefEntity (type_or b.type (integer_type i.Int))) g.scene (no_entity e1) tt))))))))

  no_function_in : (o : Option ℕ) → function_in b.types o ≡ false → is_function b.types (type_or o (integer_type i.Int)) ≡ false
  no_function_in None e = no_function b.types None n.good tt
  no_function_in (Some t) e = e

  module _ (x : InitializerTree) (w : IsInitializer x) where
    refused_behind : (r : Scene) → IsGood 0 s r → Holds (refused_initializer r x) (IsGood 0 s)
    refused_behind r g = holds_more _ _ (IsGood 0 s) (λ q o. chain s r q g o) (refused_good r x w g.scene)

    new_object : (c : Option k.StorageClass) → function_in b.types b.type ≡ false → Holds (object_declared s c at name b x) (IsGood 0 s)
    new_object c e =
        of_then (object_judged s at name b (not (is_extern c))) _ (IsGood 0 s) _ (object_good s at name b (not (is_extern c)) h n (no_function_in b.type e)) (λ r g. by r g (is_extern c))
      where
        by : (r : Scene) → IsGood 0 s r → (d : Bool) → Holds (cond d (refused_initializer r x) (object_initialized r name (type_or b.type (integer_type i.Int)) x)) (IsGood 0 s)
        by r g true = refused_behind r g
        by r g false = holds_more _ _ (IsGood 0 s) (λ q o. chain s r q g o) (initialized_good r name (type_or b.type (integer_type i.Int)) x w g.scene)

    name_good : (c : Option k.StorageClass) → length name ≤ 127 → Holds (name_declared s c at name b x) (IsGood 0 s)
    name_good c l = by (is_typedef c) (function_in b.types b.type) refl
      where
        none : false ≡ true → list_any (same_name name) s.defined ≡ true
        none e = absurd (true≢false (sym e))

        by : (d f : Bool) → function_in b.types b.type ≡ f
            → Holds (cond d (and_then (typedef_declared s at name b) (λ r. refused_initializer r x)) (cond f (and_then (function_judged s at name b (type_or b.type 0) (is_static c) false) (λ r. refused_initializer r x)) (object_declared s c at name b x))) (IsGood 0 s)
        by true f e = of_then (typedef_declared s at name b) _ (IsGood 0 s) _ new_typedef refused_behind
        by false true e = of_then (function_judged s at name b (type_or b.type 0) (is_static c) false) _ (IsGood 0 s) _ (function_good s at name b (type_or b.type 0) (is_static c) false h n l none) refused_behind
        by false false e = new_object c e

pub names_good : (s : Scene) (c : Option k.StorageClass) (base : ℕ) (ds : List InitDeclaratorTree) → AreInits ds → AreShort ds → IsScene s → Holds (names_declared s c base ds) (IsGood 0 s)
names_good s c base [] w l h = of_value _ _ (good_none s h)
names_good s c base (init_tree d x ∷ ds) w l h =
    of_then (declared s false d) _ (MakesParts s) _ (declared_good s d w.0 h) (λ r g.
    of_then (name_declared r.0 c (declared_at d 0) (name_or_empty (declared_name d)) (built_type r.0.types base r.1) x) _ (IsGood 0 r.0) _
    (name_good r.0 (declared_at d 0) (name_or_empty (declared_name d)) (built_type r.0.types base r.1) g.good.scene (type_next r.0.types base r.1 g.good.scene.types g.parts) x w.1.0 c (short_name d l.0)) (λ q f.
    holds_more _ _ (IsGood 0 s) (λ p o. chain s q p (chain s r.0 q g.good f) o) (names_good q c base ds w.1.1 l.1 f.scene)))
