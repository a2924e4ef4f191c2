-- Which chunk keeps a value, and which operator on words is a conversion or an operator between two values (after Clight's translation in CompCert).
use Rattle.std.specs.Prelude.{Bool, true, false, Option, Some, None, if◌then◌else◌}
use Rattle.c_grammar.specs.Tokens as k
use Rattle.tso_words.specs.declared.value.Chunk.{Chunk}
use Rattle.tso_words.specs.declared.value.Chunk.TheVariants as chunk
use Rattle.tso_words.specs.declared.operator.Op.{Op}
use Rattle.tso_words.specs.declared.operator.Op.TheVariants as op
use Rattle.tso_words.specs.declared.operator.Cond.TheVariants as cond
use Rattle.clight_types.specs.declared.kind.Integer.{Integer}
use Rattle.clight_types.specs.declared.kind.Integer.TheVariants as i
use Rattle.clight_types.specs.declared.kind.Value.{Value}
use Rattle.clight_types.specs.declared.kind.Value.TheVariants as v
use Rattle.clight_types.specs.Conversions.{common_of}

-- the chunk in which a scalar is kept
abbrev pub integer_chunk : Integer → Chunk
integer_chunk i.Char = chunk.I8s
integer_chunk i.UnsignedChar = chunk.I8u
integer_chunk i.Short = chunk.I16s
integer_chunk i.UnsignedShort = chunk.I16u
integer_chunk i.Int = chunk.I32
integer_chunk i.UnsignedInt = chunk.I32

abbrev pub value_chunk : Value → Chunk
value_chunk (v.Integer i) = integer_chunk i
value_chunk _ = chunk.I32

-- the cast to an integer type; none to a type of four bytes
abbrev pub integer_cast : Integer → Option Op
integer_cast i.Char = Some op.Cast8s
integer_cast i.UnsignedChar = Some op.Cast8u
integer_cast i.Short = Some op.Cast16s
integer_cast i.UnsignedShort = Some op.Cast16u
integer_cast i.Int = None
integer_cast i.UnsignedInt = None

-- whether two values are compared and divided as unsigned: a pointer is, and so are integers of which one is
abbrev pub is_unsigned : Integer → Bool
is_unsigned i.UnsignedInt = true
is_unsigned _ = false

abbrev pub are_unsigned : Value → Value → Bool
are_unsigned (v.Integer i) (v.Integer j) = is_unsigned (common_of i j)
are_unsigned _ _ = true

abbrev pub shifted_unsigned : Value → Bool
shifted_unsigned (v.Integer i) = is_unsigned i
shifted_unsigned _ = true

-- the operator on words of an operator between two values
abbrev pub word_operator : k.Operator → Value → Value → Op
word_operator k.Plus a b = op.Add
word_operator k.Minus a b = op.Sub
word_operator k.Star a b = op.Mul
word_operator k.Ampersand a b = op.And
word_operator k.BitOr a b = op.Or
word_operator k.BitXor a b = op.Xor
word_operator k.Slash a b = if are_unsigned a b then op.DivU else op.DivS
word_operator k.Percent a b = if are_unsigned a b then op.ModU else op.ModS
word_operator k.ShiftLeft a b = op.Shl
word_operator k.ShiftRight a b = if shifted_unsigned a then op.ShrU else op.ShrS
word_operator k.Equal a b = op.Cmp cond.Eq
word_operator k.NotEqual a b = op.Cmp cond.Ne
word_operator k.Less a b = op.Cmp (if are_unsigned a b then cond.LtU else cond.LtS)
word_operator k.LessEqual a b = op.Cmp (if are_unsigned a b then cond.LeU else cond.LeS)
word_operator k.Greater a b = op.Cmp (if are_unsigned a b then cond.GtU else cond.GtS)
word_operator k.GreaterEqual a b = op.Cmp (if are_unsigned a b then cond.GeU else cond.GeS)
word_operator k.LogicalAnd a b = op.And
word_operator k.LogicalOr a b = op.Or
word_operator k.Complement a b = op.Not
word_operator k.Not a b = op.Not
