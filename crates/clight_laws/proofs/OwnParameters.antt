-- The declarator of a function that is defined: its parameters are the first locals, and its last part has just these.
use Rattle.std.proofs.Common.{◌≡◌, suc, ◌+◌, ◌≤◌, true, false, List, [], ◌∷◌, length, None, refl, sym, subst, arith}
use Rattle.c_tree.specs.Trees.{DeclaratorTree, unnamed, named, pointer_to, array_of, function_of, ParameterTrees, no_parameter_trees, parameter_trees}
use Rattle.clight_types.specs.Declarators.{ParameterOf, Part, PointerPart, built_parameter}
use Rattle.clight_scopes.specs.Scopes.{Scene, opened, closed}
use Rattle.clight_typing.specs.Typing.{declared_name, declared_at, base_of, specified, declared, parameters_judged, parameter_judged}
use Rattle.clight_files.specs.Files.{own_parameters}
use Rattle.c_shapes.specs.Shaped.{AreParameters, IsDefinition}
use Rattle.clight_laws.proofs.Holding.{Holds, of_value, of_then}
use Rattle.clight_laws.proofs.BuiltTypes.{AreParts, EndsIn, parameter_next, parameter_object}
use Rattle.clight_laws.proofs.Scenes.{IsScene, IsGood, good_none, good_twice, opened_good, closed_good}
use Rattle.clight_laws.proofs.Declared.{Keeps, AddsOne, parameter_defined}
use Rattle.clight_laws.proofs.TypedTrees.{MakesParts, chain, specified_good, declared_good}

-- a local more for each parameter
pub record AddsParameters (s : Scene) (r : Scene × List ParameterOf) : Type 0 where
  pub good : IsGood (length r.1) s r.0
  pub many : length r.0.locals ≡ length s.locals + length r.1

same_locals : (s t : Scene) → IsGood 0 s t → length t.locals ≡ length s.locals
same_locals s t g =
    let a : length s.locals ≤ length t.locals = g.later.more in
    let b : length t.locals ≤ length s.locals + 0 = g.later.few in
    omega arith

own_parameters_good : (s : Scene) (ps : ParameterTrees) → AreParameters ps → IsScene s → Holds (parameters_judged true s ps) (AddsParameters s)
own_parameters_good s no_parameter_trees w h = of_value _ _ (record { good = good_none s h; many = (let e : length s.locals ≡ length s.locals + 0 = omega arith in e) })
own_parameters_good s (parameter_trees at ss d ps) w h =
    of_then (specified s None ss) _ (Keeps s) _ (specified_good s None ss w.0 h) (λ r g.
    of_then (declared r.0 false d) _ (MakesParts r.0) _ (declared_good r.0 d w.1.0 g.scene) (λ q f.
    of_then (parameter_judged true q.0 at (declared_at d at) (declared_name d) (built_parameter q.0.types (base_of r.1) q.1)) _ (AddsOne q.0) _
    (parameter_defined q.0 at (declared_at d at) (declared_name d) (built_parameter q.0.types (base_of r.1) q.1) f.good.scene (parameter_next q.0.types (base_of r.1) q.1 f.good.scene.types f.parts) (parameter_object q.0.types (base_of r.1) q.1)) (λ p k.
    of_then (parameters_judged true p.0 ps) _ (AddsParameters p.0) _ (own_parameters_good p.0 ps w.1.1 k.good.scene) (λ o l.
    of_value _ _ (record {
      good = good_twice 0 (1 + length o.1) (suc (length o.1)) s q.0 o.0 (chain s r.0 q.0 g f.good) (good_twice 1 (length o.1) (1 + length o.1) q.0 p.0 o.0 k.good l.good (omega arith)) (omega arith);
      many =
          (let a : length q.0.locals ≡ length s.locals = same_locals s q.0 (chain s r.0 q.0 g f.good) in
          let b : length p.0.locals ≡ length q.0.locals + 1 = k.one in
          let c : length o.0.locals ≡ length p.0.locals + length o.1 = l.many in
          omega arith);
    })))))

-- ## Declarators

pub record MakesOwn (s : Scene) (r : Scene × List Part) : Type 0 where
  pub good : IsGood (length (own_parameters r.1)) s r.0
  pub many : length r.0.locals ≡ length s.locals + length (own_parameters r.1)
  pub parts : AreParts r.1
  pub ends : EndsIn (own_parameters r.1) r.1

behind_pointer : (l : List Part) → own_parameters (PointerPart ∷ l) ≡ own_parameters l
behind_pointer [] = refl
behind_pointer (p ∷ l) = refl

ends_pointer : (ps : List ParameterOf) (l : List Part) → EndsIn ps l → EndsIn ps (PointerPart ∷ l)
ends_pointer ps [] e = absurd e
ends_pointer ps (p ∷ l) e = e

own_pointer : (s t : Scene) (l : List Part) → MakesOwn s (t, l) → MakesOwn s (t, PointerPart ∷ l)
own_pointer s t l h =
    let e = sym (behind_pointer l) in
    record {
      good = subst (λ (ps : List ParameterOf). IsGood (length ps) s t) e h.good;
      many = subst (λ (ps : List ParameterOf). length t.locals ≡ length s.locals + length ps) e h.many;
      parts = (tt, h.parts);
      ends = subst (λ ps. EndsIn ps (PointerPart ∷ l)) e (ends_pointer (own_parameters l) l h.ends);
    }

pub own_declared : (s : Scene) (d : DeclaratorTree) → IsDefinition d → IsScene s → Holds (declared s true d) (MakesOwn s)
own_declared s unnamed w h = absurd w
own_declared s (named at name) w h = absurd w
own_declared s (pointer_to qs d) w h = of_then (declared s true d) _ (MakesOwn s) _ (own_declared s d w h) (λ r g. of_value _ _ (own_pointer s r.0 r.1 g))
own_declared s (array_of d n) w h = absurd w
own_declared s (function_of (named at name) ps) w h =
    (let o = opened_good s h in
    of_then (parameters_judged true (opened s) ps) _ (AddsParameters (opened s)) _ (own_parameters_good (opened s) ps w o.scene) (λ q f.
    of_value _ _ (record {
      good = good_twice 0 (length q.1) (length q.1) s (opened s) (closed q.0) o (good_twice (length q.1) 0 (length q.1) (opened s) q.0 (closed q.0) f.good (closed_good q.0 f.good.scene) (omega arith)) (omega arith);
      many = f.many;
      parts = (tt, tt);
      ends = refl;
    })))
own_declared s (function_of unnamed ps) w h = absurd w
own_declared s (function_of (pointer_to qs d) ps) w h = absurd w
own_declared s (function_of (array_of d n) ps) w h = absurd w
own_declared s (function_of (function_of d qs) ps) w h = absurd w
