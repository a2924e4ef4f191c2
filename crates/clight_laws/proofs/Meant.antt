-- What statements mean: the bounds on what is made bound the meaning, and all that it names is in the program.
use Rattle.std.proofs.Common.{◌≡◌, ℕ, suc, ◌+◌, ◌*◌, ◌≤◌, Bool, true, false, cond, List, [], ◌∷◌, map, length, Option, Some, None, refl, ap, ◌∙◌, arith}
use Rattle.std.proofs.lemmas.List.Sums.{sum_by-cons}
use Rattle.tso_words.specs.declared.value.Chunk.{Chunk}
use Rattle.tso_words.specs.declared.operator.Op.{Op}
use Rattle.clight_lang.specs.Syntax.{Expression, Const, Temp, LocalAddr, GlobalAddr, Read, Unary, Binary, AndAlso, OrElse, Choose, Statement, Statements}
use Rattle.clight_lang.specs.WellMade.{expression_weight, expressions_weight, statement_weight, statements_weight, expression_height, heights_above, statement_height, statements_height}
use Rattle.clight_types.specs.declared.kind.Value.{Value}
use Rattle.clight_types.specs.declared.kind.Value.TheVariants as v
use Rattle.clight_types.specs.WordOperators.{integer_cast}
use Rattle.clight_scopes.specs.Scopes.{Scene}
use Rattle.clight_operands.specs.Applied.{cast_by, converted, is_integer}
use Rattle.clight_operands.specs.Operands.{Callee, Inside, Outside, Provided}
use Rattle.clight_placing.specs.Placing.{Location, InTemp, InMemory, Inner, address_at, read_at, placed, call_into}
use Rattle.clight_laws.proofs.Deeds.{list_weight, callee_weight, callee_height, IsCall}

-- ## Placing makes nothing heavier

module _ (w : Inner) where
  address_weight : (l : Location) → expression_weight (address_at l) ≤ 1
  address_weight (InTemp t) = omega arith
  address_weight (InMemory m) = omega arith

  address_height : (l : Location) → expression_height (address_at l) ≤ 1
  address_height (InTemp t) = omega arith
  address_height (InMemory m) = omega arith

  read_weight_at : (c : Chunk) (l : Location) → expression_weight (read_at c l) ≤ 2
  read_weight_at c (InTemp t) = omega arith
  read_weight_at c (InMemory m) = omega arith

  read_height_at : (c : Chunk) (l : Location) → expression_height (read_at c l) ≤ 1
  read_height_at c (InTemp t) = omega arith
  read_height_at c (InMemory m) = omega arith

  pub placed_weight : (e : Expression) → expression_weight (placed w e) ≤ expression_weight e
  placed_weight (Const n) = omega arith
  placed_weight (Temp i) = omega arith
  placed_weight (LocalAddr n) = address_weight (w.location n)
  placed_weight (GlobalAddr x) = omega arith
  placed_weight (Read c (LocalAddr n)) = read_weight_at c (w.location n)
  placed_weight (Read c (Const n)) = omega arith
  placed_weight (Read c (Temp i)) = omega arith
  placed_weight (Read c (GlobalAddr x)) = omega arith
  placed_weight (Read c (Read d a)) = (let h : expression_weight (placed w (Read d a)) ≤ expression_weight (Read d a) = placed_weight (Read d a) in omega arith)
  placed_weight (Read c (Unary o a)) = (let h : expression_weight (placed w (Unary o a)) ≤ expression_weight (Unary o a) = placed_weight (Unary o a) in omega arith)
  placed_weight (Read c (Binary o a b)) = (let h : expression_weight (placed w (Binary o a b)) ≤ expression_weight (Binary o a b) = placed_weight (Binary o a b) in omega arith)
  placed_weight (Read c (AndAlso a b)) = (let h : expression_weight (placed w (AndAlso a b)) ≤ expression_weight (AndAlso a b) = placed_weight (AndAlso a b) in omega arith)
  placed_weight (Read c (OrElse a b)) = (let h : expression_weight (placed w (OrElse a b)) ≤ expression_weight (OrElse a b) = placed_weight (OrElse a b) in omega arith)
  placed_weight (Read c (Choose d a b)) = (let h : expression_weight (placed w (Choose d a b)) ≤ expression_weight (Choose d a b) = placed_weight (Choose d a b) in omega arith)
  placed_weight (Unary o a) = (let h : expression_weight (placed w a) ≤ expression_weight a = placed_weight a in omega arith)
  placed_weight (Binary o a b) = (let h : expression_weight (placed w a) ≤ expression_weight a = placed_weight a in let g : expression_weight (placed w b) ≤ expression_weight b = placed_weight b in omega arith)
  placed_weight (AndAlso a b) = (let h : expression_weight (placed w a) ≤ expression_weight a = placed_weight a in let g : expression_weight (placed w b) ≤ expression_weight b = placed_weight b in omega arith)
  placed_weight (OrElse a b) = (let h : expression_weight (placed w a) ≤ expression_weight a = placed_weight a in let g : expression_weight (placed w b) ≤ expression_weight b = placed_weight b in omega arith)
  placed_weight (Choose c a b) = (let l : expression_weight (placed w c) ≤ expression_weight c = placed_weight c in let h : expression_weight (placed w a) ≤ expression_weight a = placed_weight a in let g : expression_weight (placed w b) ≤ expression_weight b = placed_weight b in omega arith)

  pub placed_height : (e : Expression) → expression_height (placed w e) ≤ expression_height e
  placed_height (Const n) = omega arith
  placed_height (Temp i) = omega arith
  placed_height (LocalAddr n) = address_height (w.location n)
  placed_height (GlobalAddr x) = omega arith
  placed_height (Read c (LocalAddr n)) = read_height_at c (w.location n)
  placed_height (Read c (Const n)) = omega arith
  placed_height (Read c (Temp i)) = omega arith
  placed_height (Read c (GlobalAddr x)) = omega arith
  placed_height (Read c (Read d a)) = placed_height (Read d a)
  placed_height (Read c (Unary o a)) = placed_height (Unary o a)
  placed_height (Read c (Binary o a b)) = placed_height (Binary o a b)
  placed_height (Read c (AndAlso a b)) = placed_height (AndAlso a b)
  placed_height (Read c (OrElse a b)) = placed_height (OrElse a b)
  placed_height (Read c (Choose d a b)) = placed_height (Choose d a b)
  placed_height (Unary o a) = placed_height a
  placed_height (Binary o a b) = (let h : expression_height (placed w a) ≤ expression_height a = placed_height a in let g : expression_height (placed w b) ≤ expression_height b = placed_height b in omega arith)
  placed_height (AndAlso a b) = (let h : expression_height (placed w a) ≤ expression_height a = placed_height a in let g : expression_height (placed w b) ≤ expression_height b = placed_height b in omega arith)
  placed_height (OrElse a b) = (let h : expression_height (placed w a) ≤ expression_height a = placed_height a in let g : expression_height (placed w b) ≤ expression_height b = placed_height b in omega arith)
  placed_height (Choose c a b) = (let l : expression_height (placed w c) ≤ expression_height c = placed_height c in let h : expression_height (placed w a) ≤ expression_height a = placed_height a in let g : expression_height (placed w b) ≤ expression_height b = placed_height b in omega arith)

  list_placed : (es : List Expression) → list_weight (map (placed w) es) ≤ list_weight es
  list_placed [] = omega arith
  list_placed (e ∷ es) = (let h : expression_weight (placed w e) ≤ expression_weight e = placed_weight e in let g : list_weight (map (placed w) es) ≤ list_weight es = list_placed es in omega arith)

  heights_placed : (n : ℕ) (es : List Expression) → heights_above n (map (placed w) es) ≤ heights_above n es
  heights_placed n [] = omega arith
  heights_placed n (e ∷ es) = (let h : expression_height (placed w e) ≤ expression_height e = placed_height e in let g : heights_above (n + 1) (map (placed w) es) ≤ heights_above (n + 1) es = heights_placed (n + 1) es in omega arith)

list_summed : (es : List Expression) → expressions_weight es ≡ list_weight es
list_summed [] = refl
list_summed (e ∷ es) = sum_by-cons expression_weight e es ∙ ap (λ n. expression_weight e + n) (list_summed es)

pub length_mapped : {A B : Type 0} (f : A → B) (xs : List A) → length (map f xs) ≡ length xs
length_mapped f [] = refl
length_mapped f (x ∷ xs) = ap suc (length_mapped f xs)

-- ## Bounds

-- a statement of so many nodes, with fresh temporaries from one number on
pub record IsBounded (n start : ℕ) (r : Statement × ℕ) : Type 0 where
  pub weight : statement_weight r.0 ≤ 9 * n
  pub height : statement_height r.0 ≤ n + 1
  pub more : start ≤ r.1
  pub fresh : r.1 ≤ start + 2 * n

pub record AreBounded (n start : ℕ) (r : Statements × ℕ) : Type 0 where
  pub weight : statements_weight r.0 ≤ 9 * n
  pub height : statements_height r.0 ≤ n + 1
  pub more : start ≤ r.1
  pub fresh : r.1 ≤ start + 2 * n

-- the first and the third part of a `for`
pub record IsEffectBounded (n start : ℕ) (r : Statement × ℕ) : Type 0 where
  pub weight : statement_weight r.0 ≤ 9 * n + 1
  pub height : statement_height r.0 ≤ n + 2
  pub more : start ≤ r.1
  pub fresh : r.1 ≤ start + 2 * n

module _ (s : Scene) (w : Inner) where
  pub call_bounds : (t n : ℕ) (f : Callee) (args : List Expression) → IsCall s n f args → (statement_weight (call_into w t f args) ≤ 4 * n) × (statement_height (call_into w t f args) ≤ n)
  call_bounds t n f args h = by f h.weight h.height
    where
      ws : list_weight args ≤ 3 * h.nodes
      ws = h.arguments.weight

      sum : expressions_weight (map (placed w) args) ≤ 3 * h.nodes
      sum = (let e : expressions_weight (map (placed w) args) ≡ list_weight (map (placed w) args) = list_summed (map (placed w) args) in let g : list_weight (map (placed w) args) ≤ list_weight args = list_placed w args in let q : list_weight args ≤ 3 * h.nodes = h.arguments.weight in omega arith)

      many : length (map (placed w) args) ≤ h.nodes
      many = (let e : length (map (placed w) args) ≡ length args = length_mapped (placed w) args in let q : length args ≤ h.nodes = h.arguments.few in omega arith)

      high : (above : ℕ) → heights_above above (map (placed w) args) ≤ above + h.nodes
      high above = (let g : heights_above above (map (placed w) args) ≤ heights_above above args = heights_placed w above args in let q : heights_above above args ≤ above + h.nodes = h.arguments.heights above in omega arith)

      by : (f : Callee) → callee_weight f + 3 * h.nodes + 3 ≤ 3 * n → callee_height f + h.nodes + 1 ≤ n → (statement_weight (call_into w t f args) ≤ 4 * n) × (statement_height (call_into w t f args) ≤ n)
      by (Inside type e) a b =
          let s1 : expressions_weight (map (placed w) args) ≤ 3 * h.nodes = sum in let m1 : length (map (placed w) args) ≤ h.nodes = many in let h1 : heights_above 1 (map (placed w) args) ≤ 1 + h.nodes = high 1 in
          let pw : expression_weight (placed w e) ≤ expression_weight e = placed_weight w e in let ph : expression_height (placed w e) ≤ expression_height e = placed_height w e in
          let q : h.nodes + 2 ≤ n = h.few in
          (omega arith, omega arith)
      by (Outside name type) a b =
          let s1 : expressions_weight (map (placed w) args) ≤ 3 * h.nodes = sum in let m1 : length (map (placed w) args) ≤ h.nodes = many in let h1 : heights_above 0 (map (placed w) args) ≤ 0 + h.nodes = high 0 in
          let q : h.nodes + 2 ≤ n = h.few in
          (omega arith, omega arith)
      by (Provided b0) a b =
          let s1 : expressions_weight (map (placed w) args) ≤ 3 * h.nodes = sum in let m1 : length (map (placed w) args) ≤ h.nodes = many in let h1 : heights_above 0 (map (placed w) args) ≤ 0 + h.nodes = high 0 in
          let q : h.nodes + 2 ≤ n = h.few in
          (omega arith, omega arith)

  -- a conversion adds at most one, and no height
  pub converted_weight : (from to : Value) (e : Expression) → expression_weight (converted from to e) ≤ expression_weight e + 1
  converted_weight from (v.Integer j) e = by (is_integer j from) (integer_cast j)
    where
      by : (b : Bool) (o : Option Op) → expression_weight (cond b e (cast_by o e)) ≤ expression_weight e + 1
      by true o = omega arith
      by false None = omega arith
      by false (Some o) = omega arith
  converted_weight from (v.Pointer t) e = omega arith
  converted_weight from v.Struct e = omega arith
  converted_weight from v.Void e = omega arith

  pub converted_height : (from to : Value) (e : Expression) → expression_height (converted from to e) ≤ expression_height e
  converted_height from (v.Integer j) e = by (is_integer j from) (integer_cast j)
    where
      by : (b : Bool) (o : Option Op) → expression_height (cond b e (cast_by o e)) ≤ expression_height e
      by true o = omega arith
      by false None = omega arith
      by false (Some o) = omega arith
  converted_height from (v.Pointer t) e = omega arith
  converted_height from v.Struct e = omega arith
  converted_height from v.Void e = omega arith
