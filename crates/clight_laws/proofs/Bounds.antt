-- The weight, the height and the fresh temporaries of what statements mean.
use Rattle.std.proofs.Common.{ℕ, ◌+◌, ◌*◌, ◌≤◌, ◌==◌, Bool, true, false, cond, List, Option, Some, None, arith}
use Rattle.c_grammar.specs.Tokens as k
use Rattle.tso_words.specs.declared.operator.Op.{Op}
use Rattle.clight_lang.specs.Syntax.{Expression, Const, Temp, Read, Binary, AndAlso, OrElse, Statement}
use Rattle.clight_lang.specs.WellMade.{expression_weight, statement_weight, expression_height, statement_height}
use Rattle.clight_types.specs.declared.kind.Value.{Value}
use Rattle.clight_types.specs.declared.kind.Value.TheVariants as v
use Rattle.clight_types.specs.Types.{Types, size_at}
use Rattle.clight_types.specs.WordOperators.{value_chunk, word_operator}
use Rattle.clight_scopes.specs.Scopes.{Scene}
use Rattle.clight_operands.specs.Applied.{converted, scaled, sum_of, difference_of, applied}
use Rattle.clight_operands.specs.Operands.{Callee, FromValue, FromCall, Deed, NoDeed, CallDeed, AssignDeed, UpdateDeed}
use Rattle.clight_typing.specs.Statements.{Made, NothingMade, EvaluatedMade, DeedMade, BlockMade, BranchMade, WhileMade, DoMade, ForMade, SwitchMade, BreakMade, ContinueMade, ReturnMade, ReturnCallMade}
use Rattle.clight_placing.specs.Placing.{Inner, placed, call_into, temp_of, assigned, updated_value, updated, deed_meant, meant}
use Rattle.clight_laws.proofs.Expressions.{some_height}
use Rattle.clight_laws.proofs.Deeds.{IsCall, IsDeed}
use Rattle.clight_laws.proofs.Made.{IsEffect, deed_extra}
use Rattle.tso_words.specs.declared.operator.Op.TheVariants as op
use Rattle.clight_laws.proofs.Meant.{placed_weight, placed_height, IsEffectBounded, call_bounds, converted_weight, converted_height}

-- ## An operator between two expressions

pub record IsBuiltOf (P : Expression → Type 0) (most high : ℕ) (e : Expression) : Type 0 where
  pub holds : P e
  pub weight : expression_weight e ≤ most
  pub height : expression_height e ≤ high

module _ (P : Expression → Type 0) (of_binary : (o : Op) (x y : Expression) → P x → P y → P (Binary o x y)) (of_and : (x y : Expression) → P x → P y → P (AndAlso x y)) (of_or : (x y : Expression) → P x → P y → P (OrElse x y)) (of_const : (n : ℕ) → P (Const n)) (types : Types) (a b : Expression) (pa : P a) (pb : P b) where
  abbrev Built : Expression → Type 0
  Built e = IsBuiltOf P (expression_weight a + expression_weight b + 4) (expression_height a + expression_height b + 1) e

  plain : (o : Op) → Built (Binary o a b)
  plain o = (let h : 1 ≤ expression_height a = some_height a in record { holds = of_binary o a b pa pb; weight = omega arith; height = omega arith })

  right_scaled : (o : Op) (t : ℕ) → Built (Binary o a (scaled types t b))
  right_scaled o t = by (size_at types t == 1)
    where
      by : (c : Bool) → Built (Binary o a (cond c b (Binary op.Mul b (Const (size_at types t)))))
      by true = plain o
      by false = (let h : 1 ≤ expression_height a = some_height a in let g : 1 ≤ expression_height b = some_height b in record { holds = of_binary o a _ pa (of_binary op.Mul b _ pb (of_const (size_at types t))); weight = omega arith; height = omega arith })

  left_scaled : (o : Op) (t : ℕ) → Built (Binary o (scaled types t a) b)
  left_scaled o t = by (size_at types t == 1)
    where
      by : (c : Bool) → Built (Binary o (cond c a (Binary op.Mul a (Const (size_at types t)))) b)
      by true = plain o
      by false = (let h : 1 ≤ expression_height a = some_height a in let g : 1 ≤ expression_height b = some_height b in record { holds = of_binary o _ b (of_binary op.Mul a _ pa (of_const (size_at types t))) pb; weight = omega arith; height = omega arith })

  distance : (size : ℕ) → Built (Binary op.DivS (Binary op.Sub a b) (Const size))
  distance size = (let h : 1 ≤ expression_height a = some_height a in let g : 1 ≤ expression_height b = some_height b in record { holds = of_binary op.DivS _ _ (of_binary op.Sub a b pa pb) (of_const size); weight = omega arith; height = omega arith })

  sum_built : (x y : Value) → Built (sum_of types x y a b)
  sum_built (v.Pointer t) y = right_scaled op.Add t
  sum_built (v.Integer j) (v.Pointer u) = left_scaled op.Add u
  sum_built v.Struct (v.Pointer u) = left_scaled op.Add u
  sum_built v.Void (v.Pointer u) = left_scaled op.Add u
  sum_built (v.Integer j) (v.Integer l) = plain op.Add
  sum_built (v.Integer j) v.Struct = plain op.Add
  sum_built (v.Integer j) v.Void = plain op.Add
  sum_built v.Struct (v.Integer l) = plain op.Add
  sum_built v.Struct v.Struct = plain op.Add
  sum_built v.Struct v.Void = plain op.Add
  sum_built v.Void (v.Integer l) = plain op.Add
  sum_built v.Void v.Struct = plain op.Add
  sum_built v.Void v.Void = plain op.Add

  difference_built : (x y : Value) → Built (difference_of types x y a b)
  difference_built (v.Pointer t) (v.Pointer u) = distance (size_at types t)
  difference_built (v.Pointer t) (v.Integer j) = right_scaled op.Sub t
  difference_built (v.Pointer t) v.Struct = right_scaled op.Sub t
  difference_built (v.Pointer t) v.Void = right_scaled op.Sub t
  difference_built (v.Integer j) y = plain op.Sub
  difference_built v.Struct y = plain op.Sub
  difference_built v.Void y = plain op.Sub

  pub applied_built : (o : k.Operator) (x y : Value) → Built (applied types o x y a b)
  applied_built k.Plus x y = sum_built x y
  applied_built k.Minus x y = difference_built x y
  applied_built k.LogicalAnd x y = record { holds = of_and a b pa pb; weight = omega arith; height = omega arith }
  applied_built k.LogicalOr x y = record { holds = of_or a b pa pb; weight = omega arith; height = omega arith }
  applied_built k.BitOr x y = plain (word_operator k.BitOr x y)
  applied_built k.BitXor x y = plain (word_operator k.BitXor x y)
  applied_built k.Ampersand x y = plain (word_operator k.Ampersand x y)
  applied_built k.Equal x y = plain (word_operator k.Equal x y)
  applied_built k.NotEqual x y = plain (word_operator k.NotEqual x y)
  applied_built k.Less x y = plain (word_operator k.Less x y)
  applied_built k.Greater x y = plain (word_operator k.Greater x y)
  applied_built k.LessEqual x y = plain (word_operator k.LessEqual x y)
  applied_built k.GreaterEqual x y = plain (word_operator k.GreaterEqual x y)
  applied_built k.ShiftLeft x y = plain (word_operator k.ShiftLeft x y)
  applied_built k.ShiftRight x y = plain (word_operator k.ShiftRight x y)
  applied_built k.Star x y = plain (word_operator k.Star x y)
  applied_built k.Slash x y = plain (word_operator k.Slash x y)
  applied_built k.Percent x y = plain (word_operator k.Percent x y)
  applied_built k.Complement x y = plain (word_operator k.Complement x y)
  applied_built k.Not x y = plain (word_operator k.Not x y)

-- ## Deeds

-- of so many nodes, one higher where it is an update
pub record IsDeedBounded (n extra start : ℕ) (r : Statement × ℕ) : Type 0 where
  pub weight : statement_weight r.0 ≤ 9 * n
  pub height : statement_height r.0 ≤ n + 1 + extra
  pub more : start ≤ r.1
  pub fresh : r.1 ≤ start + 2 * n

module _ (s : Scene) (w : Inner) where
  updated_bounds : (to : Value) (o : k.Operator) (other : Value) (e : Expression) (given : Value) (old : Expression) → (expression_weight (updated_value w to o other e given old) ≤ expression_weight old + expression_weight e + 5) × (expression_height (updated_value w to o other e given old) ≤ expression_height old + expression_height e + 1)
  updated_bounds to o other e given old =
      let b = applied_built (λ x. Unit {0}) (λ o x y p q. tt) (λ x y p q. tt) (λ x y p q. tt) (λ n. tt) w.types old (placed w e) tt tt o to other in
      let cw : expression_weight (converted given to (applied w.types o to other old (placed w e))) ≤ expression_weight (applied w.types o to other old (placed w e)) + 1 = converted_weight s w given to (applied w.types o to other old (placed w e)) in
      let ch : expression_height (converted given to (applied w.types o to other old (placed w e))) ≤ expression_height (applied w.types o to other old (placed w e)) = converted_height s w given to (applied w.types o to other old (placed w e)) in
      let bw : expression_weight (applied w.types o to other old (placed w e)) ≤ expression_weight old + expression_weight (placed w e) + 4 = b.weight in
      let bh : expression_height (applied w.types o to other old (placed w e)) ≤ expression_height old + expression_height (placed w e) + 1 = b.height in
      let pw : expression_weight (placed w e) ≤ expression_weight e = placed_weight w e in let ph : expression_height (placed w e) ≤ expression_height e = placed_height w e in
      (omega arith, omega arith)

  value_assigned : (start n : ℕ) (o : Option ℕ) (a : Expression) (to : Value) (e : Expression) → 1 ≤ n → expression_weight a + expression_weight e ≤ 3 * n → expression_height a ≤ n → expression_height e ≤ n → IsDeedBounded n 0 start (assigned w start o a to (FromValue e))
  value_assigned start n (Some x) a to e l u g h =
      let pw : expression_weight (placed w e) ≤ expression_weight e = placed_weight w e in let ph : expression_height (placed w e) ≤ expression_height e = placed_height w e in
      record { weight = omega arith; height = omega arith; more = omega arith; fresh = omega arith }
  value_assigned start n None a to e l u g h =
      let pw : expression_weight (placed w e) ≤ expression_weight e = placed_weight w e in let ph : expression_height (placed w e) ≤ expression_height e = placed_height w e in
      let qw : expression_weight (placed w a) ≤ expression_weight a = placed_weight w a in let qh : expression_height (placed w a) ≤ expression_height a = placed_height w a in
      record { weight = omega arith; height = omega arith; more = omega arith; fresh = omega arith }

  call_assigned : (start n : ℕ) (o : Option ℕ) (a : Expression) (to : Value) (f : Callee) (args : List Expression) (x : Value) → 3 ≤ n → expression_weight a ≤ 3 * n → expression_height a ≤ n → IsCall s n f args → IsDeedBounded n 0 start (assigned w start o a to (FromCall f args x))
  call_assigned start n (Some t) a to f args x l u g h =
      let c = call_bounds s w start n f args h in
      let cw : statement_weight (call_into w start f args) ≤ 4 * n = c.0 in let ch : statement_height (call_into w start f args) ≤ n = c.1 in
      let vw : expression_weight (converted x to (Temp start)) ≤ expression_weight (Temp start) + 1 = converted_weight s w x to (Temp start) in let vh : expression_height (converted x to (Temp start)) ≤ expression_height (Temp start) = converted_height s w x to (Temp start) in
      record { weight = omega arith; height = omega arith; more = omega arith; fresh = omega arith }
  call_assigned start n None a to f args x l u g h =
      let c = call_bounds s w (start + 1) n f args h in
      let cw : statement_weight (call_into w (start + 1) f args) ≤ 4 * n = c.0 in let ch : statement_height (call_into w (start + 1) f args) ≤ n = c.1 in
      let vw : expression_weight (converted x to (Temp (start + 1))) ≤ expression_weight (Temp (start + 1)) + 1 = converted_weight s w x to (Temp (start + 1)) in let vh : expression_height (converted x to (Temp (start + 1))) ≤ expression_height (Temp (start + 1)) = converted_height s w x to (Temp (start + 1)) in
      let qw : expression_weight (placed w a) ≤ expression_weight a = placed_weight w a in let qh : expression_height (placed w a) ≤ expression_height a = placed_height w a in
      record { weight = omega arith; height = omega arith; more = omega arith; fresh = omega arith }

  update_bounded : (start n : ℕ) (o : Option ℕ) (a : Expression) (to : Value) (p : k.Operator) (other : Value) (e : Expression) (given : Value) → 2 ≤ n → expression_weight a + expression_weight e ≤ 3 * n → expression_height a ≤ n → expression_height e + 1 ≤ n → IsDeedBounded n 1 start (updated w start o a to p other e given)
  update_bounded start n (Some x) a to p other e given l u g h =
      let b = updated_bounds to p other e given (Temp x) in
      let bw : expression_weight (updated_value w to p other e given (Temp x)) ≤ 1 + expression_weight e + 5 = b.0 in let bh : expression_height (updated_value w to p other e given (Temp x)) ≤ 1 + expression_height e + 1 = b.1 in
      record { weight = omega arith; height = omega arith; more = omega arith; fresh = omega arith }
  update_bounded start n None a to p other e given l u g h =
      let b = updated_bounds to p other e given (Read (value_chunk to) (Temp start)) in
      let bw : expression_weight (updated_value w to p other e given (Read (value_chunk to) (Temp start))) ≤ 2 + expression_weight e + 5 = b.0 in let bh : expression_height (updated_value w to p other e given (Read (value_chunk to) (Temp start))) ≤ 1 + expression_height e + 1 = b.1 in
      let qw : expression_weight (placed w a) ≤ expression_weight a = placed_weight w a in let qh : expression_height (placed w a) ≤ expression_height a = placed_height w a in
      record { weight = omega arith; height = omega arith; more = omega arith; fresh = omega arith }

  pub deed_bounded : (start n : ℕ) (d : Deed) → 1 ≤ n → IsDeed s n d → IsDeedBounded n (deed_extra d) start (deed_meant w start d)
  deed_bounded start n NoDeed l h = record { weight = omega arith; height = omega arith; more = omega arith; fresh = omega arith }
  deed_bounded start n (CallDeed f args x) l h =
      let c = call_bounds s w start n f args h in
      let cw : statement_weight (call_into w start f args) ≤ 4 * n = c.0 in let ch : statement_height (call_into w start f args) ≤ n = c.1 in
      record { weight = omega arith; height = omega arith; more = omega arith; fresh = omega arith }
  deed_bounded start n (AssignDeed a to (FromValue e)) l h = value_assigned start n (temp_of w a) a to e l h.2 h.3 h.4
  deed_bounded start n (AssignDeed a to (FromCall f args x)) l h = call_assigned start n (temp_of w a) a to f args x h.4 h.2 h.3 h.1
  deed_bounded start n (UpdateDeed a to o other e given) l h = update_bounded start n (temp_of w a) a to o other e given h.5 h.2 h.3 h.4

  pub effect_bounded : (start n : ℕ) (m : Made) → IsEffect s n m → IsEffectBounded n start (meant w start m)
  effect_bounded start n NothingMade h = record { weight = omega arith; height = omega arith; more = omega arith; fresh = omega arith }
  effect_bounded start n (EvaluatedMade e) h =
      let pw : expression_weight (placed w e) ≤ expression_weight e = placed_weight w e in let ph : expression_height (placed w e) ≤ expression_height e = placed_height w e in
      let mw : expression_weight e + 1 ≤ 3 * n = h.weight in let mh : expression_height e ≤ n = h.height in
      record { weight = omega arith; height = omega arith; more = omega arith; fresh = omega arith }
  effect_bounded start n (DeedMade d) h =
      let b = deed_bounded start n d h.1 h.0 in
      let bw : statement_weight (deed_meant w start d).0 ≤ 9 * n = b.weight in let bh : statement_height (deed_meant w start d).0 ≤ n + 1 + deed_extra d = b.height in let x : deed_extra d ≤ 1 = extra_one d in
      let bm : start ≤ (deed_meant w start d).1 = b.more in let bf : (deed_meant w start d).1 ≤ start + 2 * n = b.fresh in
      record { weight = omega arith; height = omega arith; more = omega arith; fresh = omega arith }
    where
      extra_one : (d : Deed) → deed_extra d ≤ 1
      extra_one NoDeed = omega arith
      extra_one (CallDeed f args y) = omega arith
      extra_one (AssignDeed a to e) = omega arith
      extra_one (UpdateDeed a to o other e given) = omega arith
  effect_bounded start n (BlockMade x) h = absurd h
  effect_bounded start n (BranchMade e x y) h = absurd h
  effect_bounded start n (WhileMade e x) h = absurd h
  effect_bounded start n (DoMade x e) h = absurd h
  effect_bounded start n (ForMade f c u x) h = absurd h
  effect_bounded start n (SwitchMade e gs) h = absurd h
  effect_bounded start n BreakMade h = absurd h
  effect_bounded start n ContinueMade h = absurd h
  effect_bounded start n (ReturnMade e) h = absurd h
  effect_bounded start n (ReturnCallMade f args x to) h = absurd h
