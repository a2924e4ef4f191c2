-- What conversions and operators between values are as expressions of ClightTSO (after Clight's translation in CompCert): conversions, the scaling of indexes and the offsets of members are operators of their own.
use Rattle.std.specs.Prelude.{ℕ, ◌==◌, Bool, false, Option, Some, None, if◌then◌else◌}
use Rattle.c_grammar.specs.Tokens as k
use Rattle.tso_words.specs.declared.operator.Op.{Op}
use Rattle.tso_words.specs.declared.operator.Op.TheVariants as op
use Rattle.clight_lang.specs.Syntax.{Expression, Const, Unary, Binary, AndAlso, OrElse}
use Rattle.clight_types.specs.declared.kind.Integer.{Integer}
use Rattle.clight_types.specs.declared.kind.Value.{Value}
use Rattle.clight_types.specs.declared.kind.Value.TheVariants as v
use Rattle.clight_types.specs.Types.{Types, size_at, same_integer}
use Rattle.clight_types.specs.WordOperators.{integer_cast, word_operator}

-- an expression behind a cast, where there is one
abbrev pub cast_by : Option Op → Expression → Expression
cast_by None e = e
cast_by (Some o) e = Unary o e

-- a value of one type as one of another
abbrev pub is_integer : Integer → Value → Bool
is_integer j (v.Integer i) = same_integer i j
is_integer j _ = false

abbrev pub converted : Value → Value → Expression → Expression
converted from (v.Integer j) e = if is_integer j from then e else cast_by (integer_cast j) e
converted from _ e = e

-- an index that is scaled by the size of what a pointer points to
abbrev pub scaled : Types → ℕ → Expression → Expression
scaled types t e = if size_at types t == 1 then e else Binary op.Mul e (Const (size_at types t))

-- the sum, and the difference, of two values (6.5.6)
abbrev pub sum_of : Types → Value → Value → Expression → Expression → Expression
sum_of types (v.Pointer t) b x y = Binary op.Add x (scaled types t y)
sum_of types _ (v.Pointer u) x y = Binary op.Add (scaled types u x) y
sum_of types _ _ x y = Binary op.Add x y

abbrev pub difference_of : Types → Value → Value → Expression → Expression → Expression
difference_of types (v.Pointer t) (v.Pointer u) x y = Binary op.DivS (Binary op.Sub x y) (Const (size_at types t))
difference_of types (v.Pointer t) b x y = Binary op.Sub x (scaled types t y)
difference_of types a b x y = Binary op.Sub x y

-- an operator between two values
abbrev pub applied : Types → k.Operator → Value → Value → Expression → Expression → Expression
applied types k.Plus a b x y = sum_of types a b x y
applied types k.Minus a b x y = difference_of types a b x y
applied types k.LogicalAnd a b x y = AndAlso x y
applied types k.LogicalOr a b x y = OrElse x y
applied types o a b x y = Binary (word_operator o a b) x y

-- the place of a member
abbrev pub moved : ℕ → Expression → Expression
moved offset e = if offset == 0 then e else Binary op.Add e (Const offset)
