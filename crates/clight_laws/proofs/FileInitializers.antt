-- Initializers of a file's objects, and whole declarations: the scene behind each is good.
use Rattle.std.proofs.Common.{◌≡◌, ℕ, ◌+◌, Bool, true, false, cond, ◌&&◌, ◌||◌, not, List, [], Option, Some, None, refl, subst}
use Rattle.std.specs.Option.{option_map}
use Rattle.c_tree.specs.Trees.{ExprTrees, no_exprs, exprs, InitializerTree, no_init, value_init, list_init}
use Rattle.clight_types.specs.declared.kind.Value.{Value}
use Rattle.clight_types.specs.Types.{Types, Spelling, is_scalar, is_struct, value_at, shape_at}
use Rattle.clight_scopes.specs.Scopes.{Entity, ObjectEntity, FunctionEntity, EnumeratorEntity, TypedefEntity, BuiltinEntity, FileName, Scene, find_file}
use Rattle.clight_operands.specs.Operands.{NoEffect, Typed, converts_to, is_struct_expression}
use Rattle.clight_typing.specs.Typing.{typed, typed_all}
use Rattle.clight_nodes.specs.Nodes.{expr_nodes, exprs_nodes}
use Rattle.clight_globals.specs.Globals.{with_start, started, Filled, item_judged, slot_of, items_filled, shape_takes_list, list_judged, is_known, value_judged, constant_bytes, refused_initializer, object_initialized}
use Rattle.c_shapes.specs.Shaped.{IsInitializer, AreExprs}
use Rattle.clight_laws.proofs.Holding.{Holds, of_value, of_fault, of_then, of_unless, holds_more}
use Rattle.clight_laws.proofs.Scenes.{IsScene, IsGood, IsEntity, IsFunctionEntity, IsDefinedEntity, good_none}
use Rattle.clight_laws.proofs.TypedTrees.{MakesTyped, MakesAll, chain, typed_good, all_good}
use Rattle.clight_laws.proofs.FileNames.{replaced_good}
use Rattle.clight_laws.proofs.FileDeclarations.{found_entity}

start_good : (s : Scene) (name : Spelling) (bytes : List ℕ) (o : Option FileName) → IsScene s → find_file name s.file ≡ o → IsGood 0 s (with_start s name bytes (option_map (λ x. x.entity) o))
start_good s name bytes None h e = good_none s h
start_good s name bytes (Some x) h e = by x.entity refl
  where
    by : (z : Entity) → x.entity ≡ z → IsGood 0 s (with_start s name bytes (Some z))
    by (ObjectEntity t d start) q =
        replaced_good name (ObjectEntity t d bytes) s x h e
        (record { object = λ p. tt; function = λ u p. absurd (subst (IsFunctionEntity u) q p); definition = λ u p. absurd (subst (IsDefinedEntity u) q p) })
        (subst (IsEntity s.types s.defined name) q (found_entity s.types s.defined name s.file x h.names e))
    by (FunctionEntity t static d) q = good_none s h
    by (EnumeratorEntity w) q = good_none s h
    by (TypedefEntity t) q = good_none s h
    by (BuiltinEntity static) q = good_none s h

started_good : (s : Scene) (name : Spelling) (bytes : List ℕ) → IsScene s → IsGood 0 s (started s name bytes)
started_good s name bytes h = start_good s name bytes (find_file name s.file) h refl

item_any : (types : Types) (f : Filled) (e : Typed) (o : Option (ℕ × Value)) → Holds (item_judged types f e o) (λ g. Unit {0})
item_any types f e None = of_value _ _ tt
item_any types f e (Some slot) =
    of_unless (not (is_struct_expression types e)) _ _ _ _ (λ e1.
    of_unless (is_struct_expression types e || converts_to types slot.1 e) _ _ _ _ (λ e2. of_value _ _ tt))

filled_good : (s : Scene) (t : ℕ) (fits : Bool) (item : ℕ) (f : Filled) (es : ExprTrees) → AreExprs es → IsScene s → Holds (items_filled s t fits item f es) (λ r. IsGood 0 s r.0)
filled_good s t fits item f no_exprs w h = of_value _ _ (good_none s h)
filled_good s t fits item f (exprs e es) w h =
    of_then (typed NoEffect false s e) _ (MakesTyped s false (expr_nodes e)) _ (typed_good NoEffect false s e w.0 h) (λ r g.
    of_then (item_judged r.0.types f r.1 (slot_of r.0.types t fits item)) _ (λ x. Unit {0}) _ (item_any r.0.types f r.1 (slot_of r.0.types t fits item)) (λ x u.
    holds_more _ _ (λ (q : Scene × Filled). IsGood 0 s q.0) (λ q o. chain s r.0 q.0 g.good o) (filled_good r.0 t fits (item + 1) x es w.1 g.good.scene)))

list_good : (s : Scene) (at : ℕ) (name : Spelling) (t : ℕ) (es : ExprTrees) → AreExprs es → IsScene s → Holds (list_judged s at name t es) (IsGood 0 s)
list_good s at name t es w h =
    of_then (items_filled s t (shape_takes_list s.types (shape_at s.types t)) 0 (record { bytes = []; is_bad = false }) es) _ (λ r. IsGood 0 s r.0) _ (filled_good s t (shape_takes_list s.types (shape_at s.types t)) 0 (record { bytes = []; is_bad = false }) es w h) (λ r g.
    of_unless (not r.1.is_bad) _ _ _ _ (λ e. of_value _ _ (chain s r.0 _ g (started_good r.0 name r.1.bytes g.scene))))

value_good : (s : Scene) (name : Spelling) (t : ℕ) (e : Typed) → IsScene s → Holds (value_judged s name t e) (IsGood 0 s)
value_good s name t e h =
    of_unless (not (is_struct_expression s.types e) && not (is_struct s.types t)) _ _ _ _ (λ e1.
    of_unless (is_known e.constant) _ _ _ _ (λ e2.
    of_unless (is_struct s.types t || is_scalar s.types t && converts_to s.types (value_at s.types t) e) _ _ _ _ (λ e3.
    of_value _ _ (started_good s name (constant_bytes (value_at s.types t) e.constant) h))))

pub refused_good : (s : Scene) (x : InitializerTree) → IsInitializer x → IsScene s → Holds (refused_initializer s x) (IsGood 0 s)
refused_good s no_init w h = of_value _ _ (good_none s h)
refused_good s (value_init e) w h = of_then (typed NoEffect false s e) _ (MakesTyped s false (expr_nodes e)) _ (typed_good NoEffect false s e w h) (λ r g. of_fault _ _ _ _)
refused_good s (list_init at es) w h = of_then (typed_all s es) _ (MakesAll s (exprs_nodes es)) _ (all_good s es w h) (λ r g. of_fault _ _ _ _)

pub initialized_good : (s : Scene) (name : Spelling) (t : ℕ) (x : InitializerTree) → IsInitializer x → IsScene s → Holds (object_initialized s name t x) (IsGood 0 s)
initialized_good s name t no_init w h = of_value _ _ (good_none s h)
initialized_good s name t (value_init e) w h =
    of_then (typed NoEffect false s e) _ (MakesTyped s false (expr_nodes e)) _ (typed_good NoEffect false s e w h) (λ r g.
    holds_more _ _ (IsGood 0 s) (λ q o. chain s r.0 q g.good o) (value_good r.0 name t r.1 g.good.scene))
initialized_good s name t (list_init at es) w h = by (is_scalar s.types t)
  where
    by : (b : Bool) → Holds (cond b (refused_initializer s (list_init at es)) (list_judged s at name t es)) (IsGood 0 s)
    by true = refused_good s (list_init at es) w h
    by false = list_good s at name t es w h
