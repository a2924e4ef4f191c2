-- Expressions, types and declarators: what is made of each tree without a fault is well typed, and the scene behind it is good.
use Rattle.std.proofs.Common.{ℕ, ◌+◌, ◌≤◌, Bool, true, false, cond, not, List, Option, None, refl, inl, inr, arith}
use Rattle.std.specs.Prelude.{◌⊎◌}
use Rattle.c_tree.specs.Trees.{ExprTree, name_expr, constant_expr, index_expr, call_expr, member_expr, step_after_expr, step_before_expr, unary_expr, sizeof_expr, sizeof_type_expr, cast_expr, binary_expr, cond_expr, assign_expr, ExprTrees, no_exprs, exprs, MaybeTree, left_out, stated, TypeTree, type_tree, SpecifierTree, storage_specifier, qualifier_specifier, inline_specifier, words_specifier, typedef_specifier, reference_specifier, composite_specifier, enum_reference_specifier, enum_specifier, SpecifierTrees, no_specs, specs, MemberTrees, no_member_trees, member_trees, EnumeratorTrees, no_enumerator_trees, enumerator_trees, DeclaratorTree, unnamed, named, pointer_to, array_of, function_of, DeclaratorTrees, no_declarator_trees, declarator_trees, ParameterTrees, no_parameter_trees, parameter_trees}
use Rattle.clight_lang.specs.Placed.{IsAlignment}
use Rattle.clight_types.specs.Judged.{Judged}
use Rattle.clight_types.specs.Types.{Laid, nothing_laid, is_complete, size_at}
use Rattle.clight_types.specs.Declarators.{Length, Part, ArrayPart, built_type, built_parameter}
use Rattle.clight_scopes.specs.Scopes.{Scene, opened, closed, or_else, with_addressed}
use Rattle.clight_operands.specs.Operands.{Allowed, NoEffect, Typed, allowed_right, assignment_operator, addressed_by, has_size, denoted_size}
use Rattle.clight_calls.specs.Names.{scene_behind, is_ampersand, name_typed}
use Rattle.clight_typing.specs.Typing.{beside, is_floating, declared_name, declared_at, name_or_empty, base_of, entity_of, tag_kind, typedef_of, typed, typed_all, typed_length, typed_value, typed_name, specifier_judged, specified, members_judged, member_declarators, enumerators_judged, declared, parameters_judged, typedef_judged, referred, body_begun, enum_referred, enum_begun, member_judged, enumerator_judged, parameter_judged}
use Rattle.clight_nodes.specs.Nodes.{expr_nodes, exprs_nodes, type_nodes}
use Rattle.c_shapes.specs.Shaped.{HasDeclarators, HasMembers, IsExpr, AreExprs, IsMaybe, IsTypeName, IsSpecifier, AreSpecifiers, AreMembers, AreEnumerators, IsDeclarator, AreDeclarators, AreParameters}
use Rattle.clight_laws.proofs.Holding.{Holds, of_value, of_then, of_unless, holds_more}
use Rattle.clight_laws.proofs.BuiltTypes.{AreParts, IsPart, type_next, parameter_next}
use Rattle.clight_laws.proofs.Scenes.{IsScene, IsGood, good_none, good_twice, opened_good, closed_good, addressed_good}
use Rattle.clight_laws.proofs.Deeds.{IsOperand, operand, typed_later, operand_later, AreOperands}
use Rattle.clight_laws.proofs.Operators.{IsPlain, IsGiven, number_good, name_good, unary_good, sizeof_good, cast_good, binary_good, choice_good, index_good, member_good, step_good, assigned_good}
use Rattle.clight_laws.proofs.Calls.{call_good}
use Rattle.clight_laws.proofs.Declared.{Keeps, length_good, referred_good, body_begun_good, body_ended_good, enum_referred_good, enum_begun_good, typedef_good, enumerator_good, IsLaid, member_laid, parameter_declared, type_name_good}

-- what is made of an expression of so many nodes
pub record MakesTyped (s : Scene) (called : Bool) (n : ℕ) (r : Scene × Typed) : Type 0 where
  pub good : IsGood 0 s r.0
  pub given : IsGiven r.0 called n r.1

pub record MakesAll (s : Scene) (n : ℕ) (r : Scene × List Typed) : Type 0 where
  pub good : IsGood 0 s r.0
  pub operands : AreOperands r.0 n r.1

pub record MakesLength (s : Scene) (r : Scene × Length) : Type 0 where
  pub good : IsGood 0 s r.0
  pub part : IsPart (ArrayPart r.1)

pub record MakesParts (s : Scene) (r : Scene × List Part) : Type 0 where
  pub good : IsGood 0 s r.0
  pub parts : AreParts r.1

-- one good scene behind another
pub chain : (a b c : Scene) → IsGood 0 a b → IsGood 0 b c → IsGood 0 a c
chain a b c g h = good_twice 0 0 0 a b c g h (omega arith)

pub of_beside : (s t : Scene) (called : Bool) (n : ℕ) (j : Judged Typed) → IsGood 0 s t → Holds j (IsPlain t n) → Holds (beside t j) (MakesTyped s called n)
of_beside s t called n j g h = of_then j _ (IsPlain t n) _ h (λ x p. of_value _ _ (record { good = g; given = record { typed = p.typed; inner = λ e. p.inner } }))

pub given_operand : (s : Scene) (n : ℕ) (x : Typed) → IsGiven s false n x → IsOperand s n x
given_operand s n x h = operand s n x h.typed (h.inner refl)

behind_good : (s : Scene) (b : Bool) (o : Option ℕ) → IsScene s → IsGood 0 s (cond b (with_addressed o s) s)
behind_good s true o h = addressed_good s o h
behind_good s false o h = good_none s h

mutual
  pub typed_good : (allowed : Allowed) (called : Bool) (s : Scene) (e : ExprTree) → IsExpr e → IsScene s → Holds (typed allowed called s e) (MakesTyped s called (expr_nodes e))
  typed_good allowed called s (name_expr at name) w h = of_then (name_typed s called at name) _ (IsGiven s called 1) _ (name_good s called at name h) (λ x g. of_value _ _ (record { good = good_none s h; given = g }))
  typed_good allowed called s (constant_expr at n) w h = of_beside s s called 1 _ (good_none s h) (number_good s at n)
  typed_good allowed called s (index_expr at op_at a b) w h =
      of_then (typed NoEffect false s a) _ (MakesTyped s false (expr_nodes a)) _ (typed_good NoEffect false s a w.0 h) (λ r g.
      of_then (typed NoEffect false r.0 b) _ (MakesTyped r.0 false (expr_nodes b)) _ (typed_good NoEffect false r.0 b w.1 g.good.scene) (λ q f.
      of_beside s q.0 called (1 + (expr_nodes a + expr_nodes b)) _ (chain s r.0 q.0 g.good f.good)
      (index_good q.0 q.0.types at op_at (expr_nodes a) (expr_nodes b) r.1 q.1 (operand_later 0 r.0 q.0 f.good.later (expr_nodes a) r.1 (given_operand r.0 (expr_nodes a) r.1 g.given)) (given_operand q.0 (expr_nodes b) q.1 f.given))))
  typed_good allowed called s (call_expr at op_at f xs) w h =
      of_then (typed NoEffect true s f) _ (MakesTyped s true (expr_nodes f)) _ (typed_good NoEffect true s f w.0 h) (λ r g.
      of_then (typed_all r.0 xs) _ (MakesAll r.0 (exprs_nodes xs)) _ (all_good r.0 xs w.1 g.good.scene) (λ q o.
      of_beside s q.0 called (1 + (expr_nodes f + exprs_nodes xs)) _ (chain s r.0 q.0 g.good o.good)
      (call_good q.0 o.good.scene allowed at op_at (expr_nodes f) (exprs_nodes xs) r.1 q.1 (typed_later 0 r.0 q.0 o.good.later (expr_nodes f) r.1 g.given.typed) o.operands)))
  typed_good allowed called s (member_expr at op_at e access name_at name) w h =
      of_then (typed NoEffect false s e) _ (MakesTyped s false (expr_nodes e)) _ (typed_good NoEffect false s e w h) (λ r g.
      of_beside s r.0 called (1 + expr_nodes e) _ g.good (member_good r.0 r.0.types at (expr_nodes e) r.1 (given_operand r.0 (expr_nodes e) r.1 g.given) access name_at name))
  typed_good allowed called s (step_after_expr at op_at e step) w h =
      of_then (typed NoEffect false s e) _ (MakesTyped s false (expr_nodes e)) _ (typed_good NoEffect false s e w h) (λ r g.
      of_beside s r.0 called (1 + expr_nodes e) _ g.good (step_good r.0 r.0.types allowed at op_at (expr_nodes e) step r.1 (given_operand r.0 (expr_nodes e) r.1 g.given)))
  typed_good allowed called s (step_before_expr at step e) w h =
      of_then (typed NoEffect false s e) _ (MakesTyped s false (expr_nodes e)) _ (typed_good NoEffect false s e w h) (λ r g.
      of_beside s r.0 called (1 + expr_nodes e) _ g.good (step_good r.0 r.0.types allowed at at (expr_nodes e) step r.1 (given_operand r.0 (expr_nodes e) r.1 g.given)))
  typed_good allowed called s (unary_expr at o e) w h =
      of_then (typed NoEffect false s e) _ (MakesTyped s false (expr_nodes e)) _ (typed_good NoEffect false s e w h) (λ r g.
      (let b = behind_good r.0 (is_ampersand o) (addressed_by r.1.naming) g.good.scene in
      of_beside s (scene_behind r.0 o r.1) called (1 + expr_nodes e) _ (chain s r.0 _ g.good b)
      (unary_good (scene_behind r.0 o r.1) r.0.types at (expr_nodes e) r.1 (operand_later 0 r.0 (scene_behind r.0 o r.1) b.later (expr_nodes e) r.1 (given_operand r.0 (expr_nodes e) r.1 g.given)) o)))
  typed_good allowed called s (sizeof_expr at e) w h =
      of_then (typed NoEffect false s e) _ (MakesTyped s false (expr_nodes e)) _ (typed_good NoEffect false s e w h) (λ r g.
      of_beside s r.0 called (1 + expr_nodes e) _ g.good (sizeof_good r.0 at (1 + expr_nodes e) (has_size r.0.types r.1.denoted) (denoted_size r.0.types r.1.denoted) (omega arith)))
  typed_good allowed called s (sizeof_type_expr at t) w h =
      of_then (typed_name s t) _ (Keeps s) _ (name_of_good s t w h) (λ r g.
      of_beside s r.0 called (1 + type_nodes t) _ g (sizeof_good r.0 at (1 + type_nodes t) (is_complete r.0.types r.1) (size_at r.0.types r.1) (omega arith)))
  typed_good allowed called s (cast_expr at t e) w h =
      of_then (typed_name s t) _ (Keeps s) _ (name_of_good s t w.0 h) (λ r g.
      of_then (typed NoEffect false r.0 e) _ (MakesTyped r.0 false (expr_nodes e)) _ (typed_good NoEffect false r.0 e w.1 g.scene) (λ q f.
      of_beside s q.0 called (1 + (type_nodes t + expr_nodes e)) _ (chain s r.0 q.0 g f.good)
      (cast_good q.0 q.0.types at (expr_nodes e) q.1 (given_operand q.0 (expr_nodes e) q.1 f.given) r.1 (type_nodes t + expr_nodes e) (omega arith))))
  typed_good allowed called s (binary_expr at op_at o a b) w h =
      of_then (typed NoEffect false s a) _ (MakesTyped s false (expr_nodes a)) _ (typed_good NoEffect false s a w.0 h) (λ r g.
      of_then (typed NoEffect false r.0 b) _ (MakesTyped r.0 false (expr_nodes b)) _ (typed_good NoEffect false r.0 b w.1 g.good.scene) (λ q f.
      of_beside s q.0 called (1 + (expr_nodes a + expr_nodes b)) _ (chain s r.0 q.0 g.good f.good)
      (binary_good q.0 q.0.types at op_at (expr_nodes a) (expr_nodes b) r.1 q.1 (operand_later 0 r.0 q.0 f.good.later (expr_nodes a) r.1 (given_operand r.0 (expr_nodes a) r.1 g.given)) (given_operand q.0 (expr_nodes b) q.1 f.given) o)))
  typed_good allowed called s (cond_expr at op_at c a b) w h =
      of_then (typed NoEffect false s c) _ (MakesTyped s false (expr_nodes c)) _ (typed_good NoEffect false s c w.0 h) (λ p k.
      of_then (typed NoEffect false p.0 a) _ (MakesTyped p.0 false (expr_nodes a)) _ (typed_good NoEffect false p.0 a w.1.0 k.good.scene) (λ r g.
      of_then (typed NoEffect false r.0 b) _ (MakesTyped r.0 false (expr_nodes b)) _ (typed_good NoEffect false r.0 b w.1.1 g.good.scene) (λ q f.
      of_beside s q.0 called (1 + (expr_nodes c + (expr_nodes a + expr_nodes b))) _ (chain s p.0 q.0 k.good (chain p.0 r.0 q.0 g.good f.good))
      (choice_good q.0 q.0.types at op_at (expr_nodes a) (expr_nodes b) r.1 q.1 (operand_later 0 r.0 q.0 f.good.later (expr_nodes a) r.1 (given_operand r.0 (expr_nodes a) r.1 g.given)) (given_operand q.0 (expr_nodes b) q.1 f.given)
      p.1 (expr_nodes c) (operand_later 0 p.0 q.0 (chain p.0 r.0 q.0 g.good f.good).later (expr_nodes c) p.1 (given_operand p.0 (expr_nodes c) p.1 k.given))))))
  typed_good allowed called s (assign_expr at op_at o a b) w h =
      of_then (typed NoEffect false s a) _ (MakesTyped s false (expr_nodes a)) _ (typed_good NoEffect false s a w.0 h) (λ r g.
      of_then (typed (allowed_right o) false r.0 b) _ (MakesTyped r.0 false (expr_nodes b)) _ (typed_good (allowed_right o) false r.0 b w.1 g.good.scene) (λ q f.
      of_beside s q.0 called (1 + (expr_nodes a + expr_nodes b)) _ (chain s r.0 q.0 g.good f.good)
      (assigned_good q.0 q.0.types allowed at op_at (expr_nodes a) (expr_nodes b) (assignment_operator o) r.1 q.1 (operand_later 0 r.0 q.0 f.good.later (expr_nodes a) r.1 (given_operand r.0 (expr_nodes a) r.1 g.given)) (given_operand q.0 (expr_nodes b) q.1 f.given))))

  pub all_good : (s : Scene) (es : ExprTrees) → AreExprs es → IsScene s → Holds (typed_all s es) (MakesAll s (exprs_nodes es))
  all_good s no_exprs w h = of_value _ _ (record { good = good_none s h; operands = tt })
  all_good s (exprs e es) w h =
      of_then (typed NoEffect false s e) _ (MakesTyped s false (expr_nodes e)) _ (typed_good NoEffect false s e w.0 h) (λ r g.
      of_then (typed_all r.0 es) _ (MakesAll r.0 (exprs_nodes es)) _ (all_good r.0 es w.1 g.good.scene) (λ q f.
      of_value _ _ (record { good = chain s r.0 q.0 g.good f.good; operands = (expr_nodes e, exprs_nodes es, operand_later 0 r.0 q.0 f.good.later (expr_nodes e) r.1 (given_operand r.0 (expr_nodes e) r.1 g.given), f.operands, omega arith) })))

  pub length_of_good : (s : Scene) (x : MaybeTree) → IsMaybe x → IsScene s → Holds (typed_length s x) (MakesLength s)
  length_of_good s left_out w h = of_value _ _ (record { good = good_none s h; part = tt })
  length_of_good s (stated e) w h =
      of_then (typed NoEffect false s e) _ (MakesTyped s false (expr_nodes e)) _ (typed_good NoEffect false s e w h) (λ r g.
      of_value _ _ (record { good = g.good; part = length_good r.1.constant }))

  pub value_of_good : (s : Scene) (x : MaybeTree) → IsMaybe x → IsScene s → Holds (typed_value s x) (Keeps s)
  value_of_good s left_out w h = of_value _ _ (good_none s h)
  value_of_good s (stated e) w h =
      of_then (typed NoEffect false s e) _ (MakesTyped s false (expr_nodes e)) _ (typed_good NoEffect false s e w h) (λ r g.
      of_value _ _ g.good)

  pub name_of_good : (s : Scene) (t : TypeTree) → IsTypeName t → IsScene s → Holds (typed_name s t) (Keeps s)
  name_of_good s (type_tree at ss d) w h =
      of_then (specified s None ss) _ (Keeps s) _ (specified_good s None ss w.0 h) (λ r g.
      of_then (declared r.0 false d) _ (MakesParts r.0) _ (declared_good r.0 d w.1 g.scene) (λ q f.
      holds_more _ _ (Keeps s) (λ p k. chain s q.0 p.0 (chain s r.0 q.0 g f.good) k)
      (type_name_good q.0 (declared_at d at) (built_type q.0.types (base_of r.1) q.1) f.good.scene (type_next q.0.types (base_of r.1) q.1 f.good.scene.types f.parts))))

  pub specifier_good : (s : Scene) (x : SpecifierTree) → IsSpecifier x → IsScene s → Holds (specifier_judged s x) (Keeps s)
  specifier_good s (storage_specifier at c) w h = of_unless (not s.in_body) _ _ _ _ (λ e. of_value _ _ (good_none s h))
  specifier_good s (qualifier_specifier at q) w h = of_value _ _ (good_none s h)
  specifier_good s (inline_specifier at) w h = of_value _ _ (good_none s h)
  specifier_good s (words_specifier at ws) w h = of_unless (not (is_floating ws)) _ _ _ _ (λ e. of_value _ _ (good_none s h))
  specifier_good s (typedef_specifier at name) w h = of_then (typedef_judged s at (typedef_of (entity_of s name))) _ (Keeps s) _ (typedef_good s at (typedef_of (entity_of s name)) h) (λ r g. of_value _ _ g)
  specifier_good s (reference_specifier at c tag_at name) w h = of_then (referred s c at tag_at name) _ (Keeps s) _ (referred_good s c at tag_at name h) (λ r g. of_value _ _ g)
  specifier_good s (composite_specifier at c tag body_at ms) w h =
      of_then (body_begun s c at tag body_at) _ (Keeps s) _ (body_begun_good s c at tag body_at h) (λ p g.
      of_then (members_judged p.0 nothing_laid ms) _ (IsLaid p.0 ((1 ≤ 0) ⊎ HasMembers ms)) _ (members_good p.0 nothing_laid ms w.1 (inl refl) g.scene) (λ r f.
      of_value _ _ (chain s p.0 _ g (chain p.0 r.0 _ f.good (body_ended_good r.0 p.1 r.1 f.good.scene (f.size (inr w.0)) f.align)))))
  specifier_good s (enum_reference_specifier at tag_at name) w h = of_then (enum_referred s tag_at (tag_kind s name)) _ (Keeps s) _ (enum_referred_good s tag_at (tag_kind s name) h) (λ r g. of_value _ _ g)
  specifier_good s (enum_specifier at tag body_at es) w h =
      of_then (enum_begun s tag body_at) _ (IsGood 0 s) _ (enum_begun_good s tag body_at h) (λ p g.
      of_then (enumerators_judged p 0 es) _ (IsGood 0 p) _ (enumerators_good p 0 es w g.scene) (λ r f.
      of_value _ _ (chain s p r g f)))

  pub specified_good : (s : Scene) (t : Option ℕ) (ss : SpecifierTrees) → AreSpecifiers ss → IsScene s → Holds (specified s t ss) (Keeps s)
  specified_good s t no_specs w h = of_value _ _ (good_none s h)
  specified_good s t (specs x xs) w h =
      of_then (specifier_judged s x) _ (Keeps s) _ (specifier_good s x w.0 h) (λ r g.
      holds_more _ _ (Keeps s) (λ q f. chain s r.0 q.0 g f) (specified_good r.0 (or_else r.1 t) xs w.1 g.scene))

  pub members_good : (s : Scene) (laid : Laid) (ms : MemberTrees) → AreMembers ms → IsAlignment laid.align → IsScene s → Holds (members_judged s laid ms) (IsLaid s ((1 ≤ laid.size) ⊎ HasMembers ms))
  members_good s laid no_member_trees w a h = of_value _ _ (record { good = good_none s h; align = a; size = λ e. only e })
    where
      only : (1 ≤ laid.size) ⊎ ⊥ → 1 ≤ laid.size
      only (inl e) = e
      only (inr e) = absurd e
  members_good s laid (member_trees at ss ds ms) w a h =
      of_then (specified s None ss) _ (Keeps s) _ (specified_good s None ss w.0 h) (λ r g.
      of_then (member_declarators r.0 (base_of r.1) laid ds) _ (IsLaid r.0 ((1 ≤ laid.size) ⊎ HasDeclarators ds)) _ (member_declarators_good r.0 (base_of r.1) laid ds w.1.0 a g.scene) (λ q f.
      holds_more _ _ (IsLaid s ((1 ≤ laid.size) ⊎ HasDeclarators ds)) (λ p k. record { good = chain s q.0 p.0 (chain s r.0 q.0 g f.good) k.good; align = k.align; size = λ e. k.size (inl (f.size e)) })
      (members_good q.0 q.1 ms w.1.1 f.align f.good.scene)))

  pub member_declarators_good : (s : Scene) (base : ℕ) (laid : Laid) (ds : DeclaratorTrees) → AreDeclarators ds → IsAlignment laid.align → IsScene s → Holds (member_declarators s base laid ds) (IsLaid s ((1 ≤ laid.size) ⊎ HasDeclarators ds))
  member_declarators_good s base laid no_declarator_trees w a h = of_value _ _ (record { good = good_none s h; align = a; size = λ e. only e })
    where
      only : (1 ≤ laid.size) ⊎ ⊥ → 1 ≤ laid.size
      only (inl e) = e
      only (inr e) = absurd e
  member_declarators_good s base laid (declarator_trees d ds) w a h =
      of_then (declared s false d) _ (MakesParts s) _ (declared_good s d w.0 h) (λ r g.
      of_then (member_judged r.0 laid (declared_at d 0) (name_or_empty (declared_name d)) (built_type r.0.types base r.1)) _ (IsLaid r.0 (Unit {0})) _
      (member_laid r.0 laid (declared_at d 0) (name_or_empty (declared_name d)) (built_type r.0.types base r.1) g.good.scene a (type_next r.0.types base r.1 g.good.scene.types g.parts)) (λ q f.
      holds_more _ _ (IsLaid s ((1 ≤ laid.size) ⊎ Unit {0})) (λ p k. record { good = chain s q.0 p.0 (chain s r.0 q.0 g.good f.good) k.good; align = k.align; size = λ e. k.size (inl (f.size tt)) })
      (member_declarators_good q.0 base q.1 ds w.1 f.align f.good.scene)))

  pub enumerators_good : (s : Scene) (next : ℕ) (es : EnumeratorTrees) → AreEnumerators es → IsScene s → Holds (enumerators_judged s next es) (IsGood 0 s)
  enumerators_good s next no_enumerator_trees w h = of_value _ _ (good_none s h)
  enumerators_good s next (enumerator_trees at name x es) w h =
      of_then (typed_value s x) _ (Keeps s) _ (value_of_good s x w.0 h) (λ r g.
      of_then (enumerator_judged r.0 at name next r.1) _ (Keeps r.0) _ (enumerator_good r.0 at name next r.1 g.scene) (λ q f.
      holds_more _ _ (IsGood 0 s) (λ p k. chain s q.0 p (chain s r.0 q.0 g f) k) (enumerators_good q.0 q.1 es w.1 f.scene)))

  pub declared_good : (s : Scene) (d : DeclaratorTree) → IsDeclarator d → IsScene s → Holds (declared s false d) (MakesParts s)
  declared_good s unnamed w h = of_value _ _ (record { good = good_none s h; parts = tt })
  declared_good s (named at name) w h = of_value _ _ (record { good = good_none s h; parts = tt })
  declared_good s (pointer_to qs d) w h = of_then (declared s false d) _ (MakesParts s) _ (declared_good s d w h) (λ r g. of_value _ _ (record { good = g.good; parts = (tt, g.parts) }))
  declared_good s (array_of d n) w h =
      of_then (declared s false d) _ (MakesParts s) _ (declared_good s d w.0 h) (λ r g.
      of_then (typed_length r.0 n) _ (MakesLength r.0) _ (length_of_good r.0 n w.1 g.good.scene) (λ q f.
      of_value _ _ (record { good = chain s r.0 q.0 g.good f.good; parts = (f.part, g.parts) })))
  declared_good s (function_of d ps) w h =
      of_then (declared s false d) _ (MakesParts s) _ (declared_good s d w.0 h) (λ r g.
      (let o = opened_good r.0 g.good.scene in
      of_then (parameters_judged false (opened r.0) ps) _ (Keeps (opened r.0)) _ (parameters_good (opened r.0) ps w.1 o.scene) (λ q f.
      of_value _ _ (record { good = chain s r.0 (closed q.0) g.good (chain r.0 (opened r.0) (closed q.0) o (chain (opened r.0) q.0 (closed q.0) f (closed_good q.0 f.scene))); parts = (tt, g.parts) }))))

  pub parameters_good : (s : Scene) (ps : ParameterTrees) → AreParameters ps → IsScene s → Holds (parameters_judged false s ps) (Keeps s)
  parameters_good s no_parameter_trees w h = of_value _ _ (good_none s h)
  parameters_good s (parameter_trees at ss d ps) w h =
      of_then (specified s None ss) _ (Keeps s) _ (specified_good s None ss w.0 h) (λ r g.
      of_then (declared r.0 false d) _ (MakesParts r.0) _ (declared_good r.0 d w.1.0 g.scene) (λ q f.
      of_then (parameter_judged false q.0 at (declared_at d at) (declared_name d) (built_parameter q.0.types (base_of r.1) q.1)) _ (Keeps q.0) _
      (parameter_declared q.0 at (declared_at d at) (declared_name d) (built_parameter q.0.types (base_of r.1) q.1) f.good.scene (parameter_next q.0.types (base_of r.1) q.1 f.good.scene.types f.parts)) (λ p k.
      of_then (parameters_judged false p.0 ps) _ (Keeps p.0) _ (parameters_good p.0 ps w.1.1 k.scene) (λ o l.
      of_value _ _ (chain s r.0 o.0 g (chain r.0 q.0 o.0 f.good (chain q.0 p.0 o.0 k l)))))))
