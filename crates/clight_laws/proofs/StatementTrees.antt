-- Statements and local declarations: what each does is made well.
use Rattle.std.proofs.Common.{◌≡◌, ℕ, suc, ◌+◌, ◌*◌, ◌<◌, ◌≤◌, Bool, true, false, ◌&&◌, ◌||◌, not, true≢false, List, [], ◌∷◌, ◌++◌, length, Option, Some, None, refl, sym, inl, inr, arith}
use Rattle.c_tree.specs.Trees.{ExprTree, DeclaratorTree, InitializerTree, no_init, value_init, list_init, InitDeclaratorTree, init_tree, DeclTree, decl_tree, ForFirstTree, first_nothing, first_expr, first_decl}
use Rattle.clight_lang.specs.Syntax.{Expression, LocalAddr}
use Rattle.clight_lang.specs.WellMade.{expression_weight, expression_height}
use Rattle.clight_types.specs.declared.kind.Value.{Value}
use Rattle.clight_types.specs.Types.{Types, Spelling, is_complete, is_incomplete, is_function, is_scalar, is_struct, is_void, value_at}
use Rattle.clight_types.specs.Declarators.{Built, built_type}
use Rattle.clight_types.specs.Conversions.{is_integer_value}
use Rattle.clight_scopes.specs.Scopes.{Scene, with_types}
use Rattle.clight_operands.specs.Operands.{NoEffect, CallAllowed, EffectAllowed, Typed, Deed, NoDeed, CallDeed, AssignDeed, UpdateDeed, value_in, as_value, converts_to, source_of, is_struct_expression, is_scalar_expression}
use Rattle.clight_typing.specs.Typing.{typed, typed_all, specified, declared, declared_name, declared_at, name_or_empty, base_of}
use Rattle.clight_typing.specs.Statements.{Made, MadeList, NoMade, AndMade, local_type, is_taken_local, local_judged, local_value_judged, local_initialized, local_declared, locals_declared, decl_judged, statement_made, effect_judged, condition_judged, optional_condition, optional_effect, first_judged, selector_judged, return_made, value_returned, return_judged}
use Rattle.clight_nodes.specs.Nodes.{expr_nodes, exprs_nodes, initializer_nodes, inits_nodes, local_nodes, optional_nodes, first_nodes}
use Rattle.c_shapes.specs.Shaped.{IsInitializer, AreInits, IsDecl, IsOptional, IsFirst, IsExpr, IsDeclarator}
use Rattle.clight_laws.proofs.Holding.{Holds, of_value, of_fault, of_then, of_unless, holds_more, both_true}
use Rattle.clight_laws.proofs.BuiltTypes.{IsNext, type_next}
use Rattle.clight_laws.proofs.Scenes.{IsScene, IsGood, good_none, good_twice, good_more, types_good, local_good, length_push}
use Rattle.clight_laws.proofs.Expressions.{IsMeaning}
use Rattle.clight_laws.proofs.Deeds.{IsDeed, callee_weight, callee_height, IsOperand, read_meaning, as_meaning}
use Rattle.clight_laws.proofs.Declared.{Keeps}
use Rattle.clight_laws.proofs.TypedTrees.{MakesTyped, MakesAll, MakesParts, given_operand, typed_good, all_good, specified_good, declared_good}
use Rattle.clight_laws.proofs.Made.{IsMade, AreMade, IsFirstMade, IsEffect, IsCondition, list_later, joined_made, made_more}

-- ## Local declarations

pub record MakesLocal (s : Scene) (r : Scene × ℕ) : Type 0 where
  pub good : IsGood 1 s r.0
  pub local : r.1 < length r.0.locals

object_complete : (types : Types) (t : ℕ) → not (is_incomplete types t) ≡ true → not (is_function types t) ≡ true → is_complete types t ≡ true
object_complete types t e f = by (is_complete types t) (is_function types t) e f
  where
    by : (c g : Bool) → not (not c && not g) ≡ true → not g ≡ true → c ≡ true
    by true g e f = refl
    by false true e f = absurd (true≢false (sym f))
    by false false e f = absurd (true≢false (sym e))

local_declaration : (s : Scene) (first_at at : ℕ) (name : Spelling) (b : Built) → IsScene s → IsNext s.types b.types → Holds (local_judged s first_at at name b) (MakesLocal s)
local_declaration s first_at at name b h n =
    of_unless (not (is_taken_local s name)) _ _ _ _ (λ e1.
    of_unless (not b.has_incomplete && not (is_incomplete b.types (local_type b))) _ _ _ _ (λ e2.
    of_unless (not b.is_wrong) _ _ _ _ (λ e3.
    of_unless (not b.is_large) _ _ _ _ (λ e4.
    of_unless (not b.gives_struct) _ _ _ _ (λ e5.
    of_unless (not (is_function b.types (local_type b))) _ _ _ _ (λ e6.
    (let g = types_good s b.types h n in
    let c = object_complete b.types (local_type b) (both_true (not b.has_incomplete) (not (is_incomplete b.types (local_type b))) e2).1 e6 in
    of_value _ _ (record {
      good = good_twice 0 1 1 s (with_types s b.types) _ g (local_good (with_types s b.types) name (local_type b) g.scene c) (omega arith);
      local = (let l : length (s.locals ++ local_type b ∷ []) ≡ length s.locals + 1 = length_push s.locals (local_type b) in omega arith);
    }))))))))

pub record MakesList (s : Scene) (b c : Bool) (more n : ℕ) (r : Scene × MadeList) : Type 0 where
  pub good : IsGood more s r.0
  pub made : AreMade r.0 b c n r.1

-- an initializer assigns to its local
assigned_local : (s : Scene) (n m : ℕ) (e : Typed) (to : Value) → n < length s.locals → IsOperand s m e → (z : Deed) → IsDeed s m z → IsDeed s (m + 1) (AssignDeed (LocalAddr n) to (source_of s.types to e z))
assigned_local s n m e to l h (CallDeed f args x) c =
    let w : callee_weight f + 3 * c.nodes + 3 ≤ 3 * m = c.weight in let g : callee_height f + c.nodes + 1 ≤ m = c.height in let q : c.nodes + 2 ≤ m = c.few in
    (l, record { nodes = c.nodes; callee = c.callee; arguments = c.arguments; weight = omega arith; height = omega arith; few = omega arith }, omega arith, omega arith, omega arith)
assigned_local s n m e to l h NoDeed c =
    let r : IsMeaning s 0 m (as_value s.types to e) = as_meaning s s.types m e h to in
    let w : expression_weight (as_value s.types to e) + 0 ≤ 3 * m = r.weight in let g : expression_height (as_value s.types to e) ≤ m = r.height in
    (l, r.valid, omega arith, omega arith, omega arith)
assigned_local s n m e to l h (AssignDeed a y x) c =
    let r : IsMeaning s 0 m (as_value s.types to e) = as_meaning s s.types m e h to in
    let w : expression_weight (as_value s.types to e) + 0 ≤ 3 * m = r.weight in let g : expression_height (as_value s.types to e) ≤ m = r.height in
    (l, r.valid, omega arith, omega arith, omega arith)
assigned_local s n m e to l h (UpdateDeed a y o x q given) c =
    let r : IsMeaning s 0 m (as_value s.types to e) = as_meaning s s.types m e h to in
    let w : expression_weight (as_value s.types to e) + 0 ≤ 3 * m = r.weight in let g : expression_height (as_value s.types to e) ≤ m = r.height in
    (l, r.valid, omega arith, omega arith, omega arith)

value_local : (s : Scene) (b c : Bool) (t n m : ℕ) (e : Typed) → IsScene s → n < length s.locals → IsOperand s m e → Holds (local_value_judged s t n e) (MakesList s b c 0 (m + 1))
value_local s b c t n m e h l g =
    of_unless (not (is_struct_expression s.types e) && not (is_struct s.types t)) _ _ _ _ (λ e1.
    of_unless (is_struct_expression s.types e || is_struct s.types t || is_scalar s.types t && converts_to s.types (value_at s.types t) e) _ _ _ _ (λ e2.
    of_value _ _ (record { good = good_none s h; made = (m + 1, 0, (m + 1, assigned_local s n m e (value_at s.types t) l g e.deed g.deed, omega arith, omega arith), tt, omega arith) })))

initialized_local : (s : Scene) (b c : Bool) (t n : ℕ) (x : InitializerTree) → IsInitializer x → IsScene s → n < length s.locals → Holds (local_initialized s t n x) (MakesList s b c 0 (initializer_nodes x + 1))
initialized_local s b c t n no_init w h l = of_value _ _ (record { good = good_none s h; made = tt })
initialized_local s b c t n (value_init e) w h l =
    of_then (typed CallAllowed false s e) _ (MakesTyped s false (expr_nodes e)) _ (typed_good CallAllowed false s e w h) (λ r g.
    holds_more _ _ (MakesList s b c 0 (expr_nodes e + 1)) (λ q f. record { good = good_twice 0 0 0 s r.0 q.0 g.good f.good (omega arith); made = f.made })
    (value_local r.0 b c t n (expr_nodes e) r.1 g.good.scene (let m : length s.locals ≤ length r.0.locals = g.good.later.more in omega arith) (given_operand r.0 (expr_nodes e) r.1 g.given)))
initialized_local s b c t n (list_init at es) w h l = of_then (typed_all s es) _ (MakesAll s (exprs_nodes es)) _ (all_good s es w h) (λ r g. of_fault _ _ _ _)

declared_local : (s : Scene) (b c : Bool) (first_at base : ℕ) (d : DeclaratorTree) (x : InitializerTree) → IsDeclarator d → IsInitializer x → IsScene s → Holds (local_declared s first_at base d x) (MakesList s b c 1 (initializer_nodes x + 1))
declared_local s b c first_at base d x wd wx h =
    of_then (declared s false d) _ (MakesParts s) _ (declared_good s d wd h) (λ r g.
    of_then (local_judged r.0 first_at (declared_at d first_at) (name_or_empty (declared_name d)) (built_type r.0.types base r.1)) _ (MakesLocal r.0) _
    (local_declaration r.0 first_at (declared_at d first_at) (name_or_empty (declared_name d)) (built_type r.0.types base r.1) g.good.scene (type_next r.0.types base r.1 g.good.scene.types g.parts)) (λ q f.
    holds_more _ _ (MakesList s b c 1 (initializer_nodes x + 1)) (λ p k. record { good = good_twice 0 1 1 s r.0 p.0 g.good (good_twice 1 0 1 r.0 q.0 p.0 f.good k.good (omega arith)) (omega arith); made = k.made })
    (initialized_local q.0 b c (local_type (built_type r.0.types base r.1)) q.1 x wx f.good.scene f.local)))

pub list_more : (s : Scene) (b c : Bool) (n m : ℕ) (xs : MadeList) → AreMade s b c n xs → n ≤ m → AreMade s b c m xs
list_more s b c n m NoMade h l = tt
list_more s b c n m (AndMade x xs) h l = (h.0, h.1, h.2, h.3, (let q : h.0 + h.1 ≤ n = h.4 in omega arith))

pub declared_locals : (s : Scene) (b c : Bool) (at base : ℕ) (ds : List InitDeclaratorTree) → AreInits ds → IsScene s → Holds (locals_declared s at base ds) (MakesList s b c (length ds) (length ds + inits_nodes ds))
declared_locals s b c at base [] w h = of_value _ _ (record { good = good_none s h; made = tt })
declared_locals s b c at base (init_tree d x ∷ ds) w h =
    of_then (local_declared s at base d x) _ (MakesList s b c 1 (initializer_nodes x + 1)) _ (declared_local s b c at base d x w.0 w.1.0 h) (λ r g.
    of_then (locals_declared r.0 at base ds) _ (MakesList r.0 b c (length ds) (length ds + inits_nodes ds)) _ (declared_locals r.0 b c at base ds w.1.1 g.good.scene) (λ q f.
    of_value _ _ (record {
      good = good_twice 1 (length ds) (suc (length ds)) s r.0 q.0 g.good f.good (omega arith);
      made = list_more q.0 b c ((initializer_nodes x + 1) + (length ds + inits_nodes ds)) _ _ (joined_made q.0 b c (initializer_nodes x + 1) (length ds + inits_nodes ds) r.1 q.1 (list_later (length ds) r.0 q.0 f.good.later b c (initializer_nodes x + 1) r.1 g.made) f.made) (omega arith);
    })))

pub decl_good : (s : Scene) (b c : Bool) (d : DeclTree) → IsDecl d → IsScene s → Holds (decl_judged s d) (MakesList s b c (local_nodes d) (local_nodes d))
decl_good s b c (decl_tree at ss ds) w h =
    of_then (specified s None ss) _ (Keeps s) _ (specified_good s None ss w.0 h) (λ r g.
    holds_more _ _ (MakesList s b c (local_nodes (decl_tree at ss ds)) (local_nodes (decl_tree at ss ds)))
    (λ q f. record { good = good_twice 0 (length ds) (local_nodes (decl_tree at ss ds)) s r.0 q.0 g f.good (omega arith); made = list_more q.0 b c (length ds + inits_nodes ds) (local_nodes (decl_tree at ss ds)) q.1 f.made (omega arith) })
    (declared_locals r.0 b c at (base_of r.1) ds w.1 g.scene))

-- ## Expressions in statements

pub record MakesEffect (s : Scene) (n : ℕ) (r : Scene × Made) : Type 0 where
  pub good : IsGood 0 s r.0
  pub made : IsEffect r.0 n r.1

effect_of_deed : (s : Scene) (types : Types) (n : ℕ) (x : Typed) → IsOperand s n x → (z : Deed) → IsDeed s n z → IsEffect s n (statement_made types x z)
effect_of_deed s types n x h NoDeed d = read_meaning s types n x h
effect_of_deed s types n x h (CallDeed f args y) d = (d, h.some)
effect_of_deed s types n x h (AssignDeed a to e) d = (d, h.some)
effect_of_deed s types n x h (UpdateDeed a to o other e given) d = (d, h.some)

pub effect_good : (s : Scene) (e : ExprTree) → IsExpr e → IsScene s → Holds (effect_judged s e) (MakesEffect s (expr_nodes e))
effect_good s e w h =
    of_then (typed EffectAllowed false s e) _ (MakesTyped s false (expr_nodes e)) _ (typed_good EffectAllowed false s e w h) (λ r g.
    of_unless (not (is_struct_expression r.0.types r.1)) _ _ _ _ (λ e1.
    (let o = given_operand r.0 (expr_nodes e) r.1 g.given in
    of_value _ _ (record { good = g.good; made = effect_of_deed r.0 r.0.types (expr_nodes e) r.1 o r.1.deed o.deed }))))

pub record MakesValue (s : Scene) (n : ℕ) (r : Scene × Expression) : Type 0 where
  pub good : IsGood 0 s r.0
  pub meaning : IsMeaning r.0 1 n r.1

pub condition_good : (s : Scene) (e : ExprTree) → IsExpr e → IsScene s → Holds (condition_judged s e) (MakesValue s (expr_nodes e))
condition_good s e w h =
    of_then (typed NoEffect false s e) _ (MakesTyped s false (expr_nodes e)) _ (typed_good NoEffect false s e w h) (λ r g.
    of_unless (is_scalar_expression r.0.types r.1) _ _ _ _ (λ e1.
    of_value _ _ (record { good = g.good; meaning = read_meaning r.0 r.0.types (expr_nodes e) r.1 (given_operand r.0 (expr_nodes e) r.1 g.given) })))

pub selector_good : (s : Scene) (e : ExprTree) → IsExpr e → IsScene s → Holds (selector_judged s e) (MakesValue s (expr_nodes e))
selector_good s e w h =
    of_then (typed NoEffect false s e) _ (MakesTyped s false (expr_nodes e)) _ (typed_good NoEffect false s e w h) (λ r g.
    of_unless (is_integer_value (value_in r.0.types r.1)) _ _ _ _ (λ e1.
    of_value _ _ (record { good = g.good; meaning = read_meaning r.0 r.0.types (expr_nodes e) r.1 (given_operand r.0 (expr_nodes e) r.1 g.given) })))

pub record MakesCondition (s : Scene) (n : ℕ) (r : Scene × Option Expression) : Type 0 where
  pub good : IsGood 0 s r.0
  pub condition : IsCondition r.0 n r.1

pub optional_condition_good : (s : Scene) (o : Option ExprTree) → IsOptional o → IsScene s → Holds (optional_condition s o) (MakesCondition s (optional_nodes o))
optional_condition_good s None w h = of_value _ _ (record { good = good_none s h; condition = tt })
optional_condition_good s (Some e) w h = of_then (condition_judged s e) _ (MakesValue s (expr_nodes e)) _ (condition_good s e w h) (λ r g. of_value _ _ (record { good = g.good; condition = g.meaning }))

pub optional_effect_good : (s : Scene) (o : Option ExprTree) → IsOptional o → IsScene s → Holds (optional_effect s o) (MakesEffect s (optional_nodes o))
optional_effect_good s None w h = of_value _ _ (record { good = good_none s h; made = tt })
optional_effect_good s (Some e) w h = effect_good s e w h

pub record MakesFirst (s : Scene) (b c : Bool) (n : ℕ) (r : Scene × MadeList) : Type 0 where
  pub good : IsGood n s r.0
  pub made : IsFirstMade r.0 b c n r.1

first_of_list : (s : Scene) (b c : Bool) (n : ℕ) (xs : MadeList) → AreMade s b c n xs → IsFirstMade s b c n xs
first_of_list s b c n NoMade h = tt
first_of_list s b c n (AndMade x NoMade) h = inr (made_more s b c h.0 n x h.2 (let q : h.0 + h.1 ≤ n = h.4 in omega arith))
first_of_list s b c n (AndMade x (AndMade y ys)) h = h

pub first_good : (s : Scene) (b c : Bool) (f : ForFirstTree) → IsFirst f → IsScene s → Holds (first_judged s f) (MakesFirst s b c (first_nodes f))
first_good s b c first_nothing w h = of_value _ _ (record { good = good_none s h; made = inl tt })
first_good s b c (first_expr e) w h = of_then (effect_judged s e) _ (MakesEffect s (expr_nodes e)) _ (effect_good s e w h) (λ r g. of_value _ _ (record { good = good_more 0 (expr_nodes e) s r.0 g.good (omega arith); made = inl g.made }))
first_good s b c (first_decl d) w h = holds_more _ _ (MakesFirst s b c (local_nodes d)) (λ r g. record { good = g.good; made = first_of_list r.0 b c (local_nodes d) r.1 g.made }) (decl_good s b c d w h)

-- ## `return`

return_of_deed : (s : Scene) (types : Types) (t n : ℕ) (x : Typed) (b c : Bool) → IsOperand s n x → (z : Deed) → IsDeed s n z → IsMade s b c (1 + n) (return_made types t x z)
return_of_deed s types t n x b c h (CallDeed f args y) d = (n, d, omega arith)
return_of_deed s types t n x b c h NoDeed d = (n, as_meaning s types n x h (value_at types t), omega arith)
return_of_deed s types t n x b c h (AssignDeed a to e) d = (n, as_meaning s types n x h (value_at types t), omega arith)
return_of_deed s types t n x b c h (UpdateDeed a to o other e given) d = (n, as_meaning s types n x h (value_at types t), omega arith)

pub record MakesOne (s : Scene) (b c : Bool) (n : ℕ) (r : Scene × Made) : Type 0 where
  pub good : IsGood n s r.0
  pub made : IsMade r.0 b c n r.1

pub return_good : (s : Scene) (b c : Bool) (at t : ℕ) (o : Option ExprTree) → IsOptional o → IsScene s → Holds (return_judged s at t o) (MakesOne s b c (1 + optional_nodes o))
return_good s b c at t None w h = of_unless (is_void s.types t) _ _ _ _ (λ e. of_value _ _ (record { good = good_more 0 1 s s (good_none s h) (omega arith); made = omega arith }))
return_good s b c at t (Some e) w h =
    of_then (typed CallAllowed false s e) _ (MakesTyped s false (expr_nodes e)) _ (typed_good CallAllowed false s e w h) (λ r g.
    of_then (value_returned r.0.types at t r.1) _ (IsMade r.0 b c (1 + expr_nodes e)) _ (by r g) (λ m f.
    of_value _ _ (record { good = good_more 0 (1 + expr_nodes e) s r.0 g.good (omega arith); made = f })))
  where
    by : (r : Scene × Typed) → MakesTyped s false (expr_nodes e) r → Holds (value_returned r.0.types at t r.1) (IsMade r.0 b c (1 + expr_nodes e))
    by r g =
        of_unless (not (is_struct_expression r.0.types r.1)) _ _ _ _ (λ e1.
        of_unless (is_void r.0.types t || is_struct_expression r.0.types r.1 || converts_to r.0.types (value_at r.0.types t) r.1) _ _ _ _ (λ e2.
        of_unless (not (is_void r.0.types t)) _ _ _ _ (λ e3.
        (let o = given_operand r.0 (expr_nodes e) r.1 g.given in
        of_value _ _ (return_of_deed r.0 r.0.types t (expr_nodes e) r.1 b c o r.1.deed o.deed)))))
