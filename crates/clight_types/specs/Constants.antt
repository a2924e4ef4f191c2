-- Constant expressions and their values (ISO C99 6.6): constants, `sizeof`, casts to integers, and operators between these. Values are computed with the operators on words.
use Rattle.std.specs.Prelude.{ℕ, ◌==◌, nat_le, Bool, true, [], ◌∷◌, Option, Some, None, if◌then◌else◌}
use Rattle.c_grammar.specs.Tokens as k
use Rattle.tso_words.specs.declared.value.Val.{Val}
use Rattle.tso_words.specs.declared.value.Val.TheVariants.{Undef, Word}
use Rattle.tso_words.specs.declared.operator.Op.{Op}
use Rattle.tso_words.specs.Operators.{operate}
use Rattle.tso_words.specs.Words.{extend_sign}
use Rattle.clight_types.specs.declared.kind.Integer.{Integer}
use Rattle.clight_types.specs.declared.kind.Integer.TheVariants.{Int, UnsignedInt}
use Rattle.clight_types.specs.declared.kind.Value.{Value}
use Rattle.clight_types.specs.declared.kind.Value.TheVariants as v
use Rattle.clight_types.specs.declared.kind.Constant.{Constant}
use Rattle.clight_types.specs.declared.kind.Constant.TheVariants.{No, WithoutValue, Known}
use Rattle.clight_types.specs.WordOperators.{word_operator, integer_cast}

-- a constant that an operator answers
abbrev pub answered : Option Val → Constant
answered None = WithoutValue
answered (Some Undef) = WithoutValue
answered (Some (Word w)) = Known w

-- an operator on words, on one constant and between two
abbrev pub constant_one : Op → Constant → Constant
constant_one o No = No
constant_one o WithoutValue = WithoutValue
constant_one o (Known a) = answered (operate o (Word a ∷ []))

abbrev pub constant_two : Op → Constant → Constant → Constant
constant_two o No d = No
constant_two o c No = No
constant_two o WithoutValue d = WithoutValue
constant_two o c WithoutValue = WithoutValue
constant_two o (Known a) (Known b) = answered (operate o (Word a ∷ Word b ∷ []))

-- 1 for each word but 0
abbrev pub truth_of : Constant → Constant
truth_of (Known w) = Known (if w == 0 then 0 else 1)
truth_of c = c

abbrev pub negated : Constant → Constant
negated (Known w) = Known (if w == 0 then 1 else 0)
negated c = c

-- of `&&` and `||` the second operand counts only where the first does not decide, but both have to be constant
abbrev pub constant_and : Constant → Constant → Constant
constant_and No d = No
constant_and c No = No
constant_and WithoutValue d = WithoutValue
constant_and (Known a) d = if a == 0 then Known 0 else truth_of d

abbrev pub constant_or : Constant → Constant → Constant
constant_or No d = No
constant_or c No = No
constant_or WithoutValue d = WithoutValue
constant_or (Known a) d = if a == 0 then truth_of d else Known 1

abbrev pub constant_choice : Constant → Constant → Constant → Constant
constant_choice No a b = No
constant_choice c No b = No
constant_choice c a No = No
constant_choice WithoutValue a b = WithoutValue
constant_choice (Known w) a b = if w == 0 then b else a

abbrev pub constant_operated : k.Operator → Value → Value → Constant → Constant → Constant
constant_operated k.LogicalAnd a b c d = constant_and c d
constant_operated k.LogicalOr a b c d = constant_or c d
constant_operated o a b c d = constant_two (word_operator o a b) c d

-- a constant as a value of an integer type
abbrev pub cast_by : Option Op → Constant → Constant
cast_by None c = c
cast_by (Some o) c = constant_one o c

abbrev pub constant_as : Value → Constant → Constant
constant_as (v.Integer i) c = cast_by (integer_cast i) c
constant_as _ c = No

-- ## Constants as they are written (6.4.4): the type and the value

abbrev pub is_int_word : ℕ → Bool
is_int_word w = nat_le w 2147483647

abbrev pub number_type : k.Number → Integer
number_type (k.Decimal n) = Int
number_type (k.Octal_or_hexadecimal n) = if is_int_word n then Int else UnsignedInt
number_type (k.Decimal_unsigned n) = UnsignedInt
number_type (k.Other_unsigned n) = UnsignedInt
number_type (k.Character n) = Int

-- a character is a signed char
abbrev pub number_word : k.Number → ℕ
number_word (k.Decimal n) = n
number_word (k.Octal_or_hexadecimal n) = n
number_word (k.Decimal_unsigned n) = n
number_word (k.Other_unsigned n) = n
number_word (k.Character n) = extend_sign 8 n

-- a decimal without `u` has to be an int
abbrev pub is_allowed_number : k.Number → Bool
is_allowed_number (k.Decimal n) = is_int_word n
is_allowed_number _ = true
