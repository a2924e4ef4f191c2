-- The meanings of expressions: what they name is there, and their weight and height are bounded by the nodes of their text.
use Rattle.std.proofs.Common.{◌≡◌, ℕ, ◌+◌, ◌*◌, ◌<◌, ◌≤◌, Bool, true, false, cond, length, Option, Some, None, ap, ◌∙◌, inl, inr, arith}
use Rattle.std.specs.Prelude.{◌⊎◌, ◌==◌}
use Rattle.std.specs.List.{list_any}
use Rattle.c_grammar.specs.Tokens as k
use Rattle.tso_words.specs.declared.operator.Op.{Op}
use Rattle.tso_words.specs.declared.operator.Op.TheVariants as op
use Rattle.clight_lang.specs.Syntax.{Expression, Const, Temp, LocalAddr, GlobalAddr, Read, Unary, Binary, AndAlso, OrElse, Choose}
use Rattle.clight_lang.specs.WellMade.{expression_weight, expression_height}
use Rattle.clight_types.specs.declared.kind.Value.{Value}
use Rattle.clight_types.specs.declared.kind.Value.TheVariants as v
use Rattle.clight_types.specs.Types.{Types, Spelling, same_name, size_at}
use Rattle.clight_types.specs.WordOperators.{integer_cast, word_operator}
use Rattle.clight_scopes.specs.Scopes.{Scene, find_file}
use Rattle.clight_operands.specs.Applied.{cast_by, converted, is_integer, scaled, sum_of, difference_of, applied, moved}
use Rattle.clight_laws.proofs.Scenes.{IsObject, IsLater}

-- a name that has an address: an object of the file, or a function that the file defines
abbrev pub IsNamed : Scene → Spelling → Type 0
IsNamed s name = IsObject (find_file name s.file) ⊎ (list_any (same_name name) s.defined ≡ true)

-- before locals are placed there are no temporaries
abbrev pub IsValid : Scene → Expression → Type 0
IsValid s (Const n) = Unit {0}
IsValid s (Temp i) = ⊥
IsValid s (LocalAddr n) = n < length s.locals
IsValid s (GlobalAddr x) = IsNamed s x
IsValid s (Read c a) = IsValid s a
IsValid s (Unary o a) = IsValid s a
IsValid s (Binary o a b) = IsValid s a × IsValid s b
IsValid s (AndAlso a b) = IsValid s a × IsValid s b
IsValid s (OrElse a b) = IsValid s a × IsValid s b
IsValid s (Choose c a b) = IsValid s c × (IsValid s a × IsValid s b)

pub named_later : (n : ℕ) (s t : Scene) → IsLater n s t → (x : Spelling) → IsNamed s x → IsNamed t x
named_later n s t l x (inl h) = inl (l.objects x h)
named_later n s t l x (inr h) = inr (ap (list_any (same_name x)) l.defined ∙ h)

pub valid_later : (n : ℕ) (s t : Scene) → IsLater n s t → (e : Expression) → IsValid s e → IsValid t e
valid_later n s t l (Const m) h = tt
valid_later n s t l (Temp m) h = absurd h
valid_later n s t l (LocalAddr m) h = (let g : length s.locals ≤ length t.locals = l.more in omega arith)
valid_later n s t l (GlobalAddr x) h = named_later n s t l x h
valid_later n s t l (Read c a) h = valid_later n s t l a h
valid_later n s t l (Unary o a) h = valid_later n s t l a h
valid_later n s t l (Binary o a b) h = (valid_later n s t l a h.0, valid_later n s t l b h.1)
valid_later n s t l (AndAlso a b) h = (valid_later n s t l a h.0, valid_later n s t l b h.1)
valid_later n s t l (OrElse a b) h = (valid_later n s t l a h.0, valid_later n s t l b h.1)
valid_later n s t l (Choose c a b) h = (valid_later n s t l c h.0, (valid_later n s t l a h.1.0, valid_later n s t l b h.1.1))

pub some_height : (e : Expression) → 1 ≤ expression_height e
some_height (Const n) = omega arith
some_height (Temp i) = omega arith
some_height (LocalAddr n) = omega arith
some_height (GlobalAddr x) = omega arith
some_height (Read c a) = some_height a
some_height (Unary o a) = some_height a
some_height (Binary o a b) = (let h : 1 ≤ expression_height a = some_height a in omega arith)
some_height (AndAlso a b) = (let h : 1 ≤ expression_height a = some_height a in omega arith)
some_height (OrElse a b) = (let h : 1 ≤ expression_height a = some_height a in omega arith)
some_height (Choose c a b) = (let h : 1 ≤ expression_height c = some_height c in omega arith)

-- a meaning of so many nodes, with so much less than three times their weight
pub record IsMeaning (s : Scene) (spare n : ℕ) (e : Expression) : Type 0 where
  pub valid : IsValid s e
  pub weight : expression_weight e + spare ≤ 3 * n
  pub height : expression_height e ≤ n

pub meaning_later : (m : ℕ) (s t : Scene) → IsLater m s t → (spare n : ℕ) (e : Expression) → IsMeaning s spare n e → IsMeaning t spare n e
meaning_later m s t l spare n e h = record { valid = valid_later m s t l e h.valid; weight = h.weight; height = h.height }

module _ (s : Scene) where
  pub const_meaning : (c n : ℕ) → 1 ≤ n → IsMeaning s 1 n (Const c)
  const_meaning c n l = record { valid = tt; weight = omega arith; height = omega arith }

  cast_meaning : (o : Option Op) (n : ℕ) (e : Expression) → IsMeaning s 1 n e → IsMeaning s 0 n (cast_by o e)
  cast_meaning None n e h = (let g : expression_weight e + 1 ≤ 3 * n = h.weight in record { valid = h.valid; weight = omega arith; height = h.height })
  cast_meaning (Some o) n e h = (let g : expression_weight e + 1 ≤ 3 * n = h.weight in record { valid = h.valid; weight = omega arith; height = h.height })

  spare_none : (n : ℕ) (e : Expression) → IsMeaning s 1 n e → IsMeaning s 0 n e
  spare_none n e h = (let g : expression_weight e + 1 ≤ 3 * n = h.weight in record { valid = h.valid; weight = omega arith; height = h.height })

  pub converted_meaning : (from to : Value) (n : ℕ) (e : Expression) → IsMeaning s 1 n e → IsMeaning s 0 n (converted from to e)
  converted_meaning from (v.Integer j) n e h = by (is_integer j from)
    where
      by : (b : Bool) → IsMeaning s 0 n (cond b e (cast_by (integer_cast j) e))
      by true = spare_none n e h
      by false = cast_meaning (integer_cast j) n e h
  converted_meaning from (v.Pointer t) n e h = spare_none n e h
  converted_meaning from v.Struct n e h = spare_none n e h
  converted_meaning from v.Void n e h = spare_none n e h

  pub unary_meaning : (o : Op) (n : ℕ) (e : Expression) → IsMeaning s 1 n e → IsMeaning s 1 (1 + n) (Unary o e)
  unary_meaning o n e h = (let g : expression_weight e + 1 ≤ 3 * n = h.weight in let q : expression_height e ≤ n = h.height in record { valid = h.valid; weight = omega arith; height = omega arith })

  pub not_meaning : (o : Op) (n : ℕ) (e : Expression) → IsMeaning s 1 n e → IsMeaning s 1 (1 + n) (Binary o e (Const 0))
  not_meaning o n e h = (let g : expression_weight e + 1 ≤ 3 * n = h.weight in let q : expression_height e ≤ n = h.height in let l : 1 ≤ expression_height e = some_height e in record { valid = (h.valid, tt); weight = omega arith; height = omega arith })

  module _ (types : Types) (a b : Expression) (n m : ℕ) (g : IsMeaning s 1 n a) (h : IsMeaning s 1 m b) where
    abbrev some_nodes : (1 ≤ expression_height a) × (1 ≤ expression_height b)
    some_nodes = (some_height a, some_height b)

    pub binary_meaning : (o : Op) → IsMeaning s 1 (1 + (n + m)) (Binary o a b)
    binary_meaning o =
        let wa : expression_weight a + 1 ≤ 3 * n = g.weight in let wb : expression_weight b + 1 ≤ 3 * m = h.weight in
        let ha : expression_height a ≤ n = g.height in let hb : expression_height b ≤ m = h.height in
        let la : 1 ≤ expression_height a = some_height a in
        record { valid = (g.valid, h.valid); weight = omega arith; height = omega arith }

    and_meaning : IsMeaning s 1 (1 + (n + m)) (AndAlso a b)
    and_meaning =
        let wa : expression_weight a + 1 ≤ 3 * n = g.weight in let wb : expression_weight b + 1 ≤ 3 * m = h.weight in
        let ha : expression_height a ≤ n = g.height in let hb : expression_height b ≤ m = h.height in
        record { valid = (g.valid, h.valid); weight = omega arith; height = omega arith }

    or_meaning : IsMeaning s 1 (1 + (n + m)) (OrElse a b)
    or_meaning =
        let wa : expression_weight a + 1 ≤ 3 * n = g.weight in let wb : expression_weight b + 1 ≤ 3 * m = h.weight in
        let ha : expression_height a ≤ n = g.height in let hb : expression_height b ≤ m = h.height in
        record { valid = (g.valid, h.valid); weight = omega arith; height = omega arith }

    plain_sum : (o : Op) → IsMeaning s 2 (1 + (n + m)) (Binary o a b)
    plain_sum o =
        let wa : expression_weight a + 1 ≤ 3 * n = g.weight in let wb : expression_weight b + 1 ≤ 3 * m = h.weight in
        let ha : expression_height a ≤ n = g.height in let hb : expression_height b ≤ m = h.height in
        let la : 1 ≤ expression_height a = some_height a in
        record { valid = (g.valid, h.valid); weight = omega arith; height = omega arith }

    right_scaled : (o : Op) (t : ℕ) → IsMeaning s 2 (1 + (n + m)) (Binary o a (scaled types t b))
    right_scaled o t = by (size_at types t == 1)
      where
        by : (c : Bool) → IsMeaning s 2 (1 + (n + m)) (Binary o a (cond c b (Binary op.Mul b (Const (size_at types t)))))
        by true = plain_sum o
        by false =
            let wa : expression_weight a + 1 ≤ 3 * n = g.weight in let wb : expression_weight b + 1 ≤ 3 * m = h.weight in
            let ha : expression_height a ≤ n = g.height in let hb : expression_height b ≤ m = h.height in
            let la : 1 ≤ expression_height a = some_height a in let lb : 1 ≤ expression_height b = some_height b in
            record { valid = (g.valid, (h.valid, tt)); weight = omega arith; height = omega arith }

    left_scaled : (o : Op) (t : ℕ) → IsMeaning s 2 (1 + (n + m)) (Binary o (scaled types t a) b)
    left_scaled o t = by (size_at types t == 1)
      where
        by : (c : Bool) → IsMeaning s 2 (1 + (n + m)) (Binary o (cond c a (Binary op.Mul a (Const (size_at types t)))) b)
        by true = plain_sum o
        by false =
            let wa : expression_weight a + 1 ≤ 3 * n = g.weight in let wb : expression_weight b + 1 ≤ 3 * m = h.weight in
            let ha : expression_height a ≤ n = g.height in let hb : expression_height b ≤ m = h.height in
            let la : 1 ≤ expression_height a = some_height a in let lb : 1 ≤ expression_height b = some_height b in
            record { valid = ((g.valid, tt), h.valid); weight = omega arith; height = omega arith }

    distance_meaning : (size : ℕ) → IsMeaning s 2 (1 + (n + m)) (Binary op.DivS (Binary op.Sub a b) (Const size))
    distance_meaning size =
        let wa : expression_weight a + 1 ≤ 3 * n = g.weight in let wb : expression_weight b + 1 ≤ 3 * m = h.weight in
        let ha : expression_height a ≤ n = g.height in let hb : expression_height b ≤ m = h.height in
        let la : 1 ≤ expression_height a = some_height a in let lb : 1 ≤ expression_height b = some_height b in
        record { valid = ((g.valid, h.valid), tt); weight = omega arith; height = omega arith }

    spare_one : (e : Expression) (k : ℕ) → IsMeaning s 2 k e → IsMeaning s 1 k e
    spare_one e k h = (let g : expression_weight e + 2 ≤ 3 * k = h.weight in record { valid = h.valid; weight = omega arith; height = h.height })

    pub sum_meaning : (x y : Value) → IsMeaning s 2 (1 + (n + m)) (sum_of types x y a b)
    sum_meaning (v.Pointer t) y = right_scaled op.Add t
    sum_meaning (v.Integer j) (v.Pointer u) = left_scaled op.Add u
    sum_meaning v.Struct (v.Pointer u) = left_scaled op.Add u
    sum_meaning v.Void (v.Pointer u) = left_scaled op.Add u
    sum_meaning (v.Integer j) (v.Integer l) = plain_sum op.Add
    sum_meaning (v.Integer j) v.Struct = plain_sum op.Add
    sum_meaning (v.Integer j) v.Void = plain_sum op.Add
    sum_meaning v.Struct (v.Integer l) = plain_sum op.Add
    sum_meaning v.Struct v.Struct = plain_sum op.Add
    sum_meaning v.Struct v.Void = plain_sum op.Add
    sum_meaning v.Void (v.Integer l) = plain_sum op.Add
    sum_meaning v.Void v.Struct = plain_sum op.Add
    sum_meaning v.Void v.Void = plain_sum op.Add

    difference_meaning : (x y : Value) → IsMeaning s 2 (1 + (n + m)) (difference_of types x y a b)
    difference_meaning (v.Pointer t) (v.Pointer u) = distance_meaning (size_at types t)
    difference_meaning (v.Pointer t) (v.Integer j) = right_scaled op.Sub t
    difference_meaning (v.Pointer t) v.Struct = right_scaled op.Sub t
    difference_meaning (v.Pointer t) v.Void = right_scaled op.Sub t
    difference_meaning (v.Integer j) y = plain_sum op.Sub
    difference_meaning v.Struct y = plain_sum op.Sub
    difference_meaning v.Void y = plain_sum op.Sub

    pub applied_meaning : (o : k.Operator) (x y : Value) → IsMeaning s 1 (1 + (n + m)) (applied types o x y a b)
    applied_meaning k.Plus x y = spare_one _ _ (sum_meaning x y)
    applied_meaning k.Minus x y = spare_one _ _ (difference_meaning x y)
    applied_meaning k.LogicalAnd x y = and_meaning
    applied_meaning k.LogicalOr x y = or_meaning
    applied_meaning k.BitOr x y = binary_meaning (word_operator k.BitOr x y)
    applied_meaning k.BitXor x y = binary_meaning (word_operator k.BitXor x y)
    applied_meaning k.Ampersand x y = binary_meaning (word_operator k.Ampersand x y)
    applied_meaning k.Equal x y = binary_meaning (word_operator k.Equal x y)
    applied_meaning k.NotEqual x y = binary_meaning (word_operator k.NotEqual x y)
    applied_meaning k.Less x y = binary_meaning (word_operator k.Less x y)
    applied_meaning k.Greater x y = binary_meaning (word_operator k.Greater x y)
    applied_meaning k.LessEqual x y = binary_meaning (word_operator k.LessEqual x y)
    applied_meaning k.GreaterEqual x y = binary_meaning (word_operator k.GreaterEqual x y)
    applied_meaning k.ShiftLeft x y = binary_meaning (word_operator k.ShiftLeft x y)
    applied_meaning k.ShiftRight x y = binary_meaning (word_operator k.ShiftRight x y)
    applied_meaning k.Star x y = binary_meaning (word_operator k.Star x y)
    applied_meaning k.Slash x y = binary_meaning (word_operator k.Slash x y)
    applied_meaning k.Percent x y = binary_meaning (word_operator k.Percent x y)
    applied_meaning k.Complement x y = binary_meaning (word_operator k.Complement x y)
    applied_meaning k.Not x y = binary_meaning (word_operator k.Not x y)

  -- a member further on
  pub moved_meaning : (offset n : ℕ) (e : Expression) → IsMeaning s 1 n e → IsMeaning s 2 (1 + n) (moved offset e)
  moved_meaning offset n e h = by (offset == 0)
    where
      by : (c : Bool) → IsMeaning s 2 (1 + n) (cond c e (Binary op.Add e (Const offset)))
      by true = (let g : expression_weight e + 1 ≤ 3 * n = h.weight in let q : expression_height e ≤ n = h.height in record { valid = h.valid; weight = omega arith; height = omega arith })
      by false = (let g : expression_weight e + 1 ≤ 3 * n = h.weight in let q : expression_height e ≤ n = h.height in let l : 1 ≤ expression_height e = some_height e in record { valid = (h.valid, tt); weight = omega arith; height = omega arith })

  pub choice_meaning : (c a b : Expression) (n m l : ℕ) → IsMeaning s 1 n c → IsMeaning s 0 m a → IsMeaning s 0 l b → IsMeaning s 1 (1 + (n + (m + l))) (Choose c a b)
  choice_meaning c a b n m l f g h =
      let wc : expression_weight c + 1 ≤ 3 * n = f.weight in let wa : expression_weight a + 0 ≤ 3 * m = g.weight in let wb : expression_weight b + 0 ≤ 3 * l = h.weight in
      let hc : expression_height c ≤ n = f.height in let ha : expression_height a ≤ m = g.height in let hb : expression_height b ≤ l = h.height in
      record { valid = (f.valid, (g.valid, h.valid)); weight = omega arith; height = omega arith }
