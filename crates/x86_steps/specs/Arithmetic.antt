-- What the operations on registers give (Intel's manual of the IA-32 architecture, volume 2; here as numbers, where the code uses machine operations).
use Rattle.std.specs.Prelude.{ℕ, ◌+◌, ◌-◌, ◌*◌, ◌/◌, ◌%◌, ◌^◌, ◌==◌, nat_lt, if◌then◌else◌, Option, Some, None, ℤ, pos, ◌+ℤ◌, ◌*ℤ◌, int_div, int_rem, bit_and, bit_or, bit_xor}
use Rattle.std.specs.Int.{int_div_euclid}
use Rattle.tso_words.specs.Words.{extend_sign}
use Rattle.tso_words.specs.Operators.{signed, word_of}
use Rattle.x86_table.specs.declared.instruction.Sign.{Sign}
use Rattle.x86_table.specs.declared.instruction.Sign.TheVariants.{Signed, Unsigned}
use Rattle.x86_table.specs.declared.instruction.Width.{Width}
use Rattle.x86_table.specs.declared.instruction.Width.TheVariants as width
use Rattle.x86_table.specs.declared.instruction.Operator.{Operator}
use Rattle.x86_table.specs.declared.instruction.Operator.TheVariants.{Add, Subtract, Multiply, And, Or, Xor}
use Rattle.x86_table.specs.declared.instruction.Shift.{Shift}
use Rattle.x86_table.specs.declared.instruction.Shift.TheVariants.{Left, Right, Arithmetic}
use Rattle.x86_steps.specs.declared.flags.Flags.{Flags}
use Rattle.x86_steps.specs.declared.arithmetic.Division.{Division}
use Rattle.x86_steps.specs.Flags.{overflows, unknown, flags_of_sum, flags_of_difference, flags_of_bits}

-- 'a operator b'
abbrev pub combined : Operator → (a b : ℕ) → ℕ
combined Add a b = (a + b) % 2 ^ 32
combined Subtract a b = (a + 2 ^ 32 - b) % 2 ^ 32
combined Multiply a b = (a * b) % 2 ^ 32
combined And a b = bit_and a b
combined Or a b = bit_or a b
combined Xor a b = bit_xor a b

abbrev pub flags_of_combined : Operator → (a b : ℕ) → Flags
flags_of_combined Add a b = flags_of_sum a b
flags_of_combined Subtract a b = flags_of_difference a b
flags_of_combined Multiply a b = unknown
flags_of_combined And a b = flags_of_bits (bit_and a b)
flags_of_combined Or a b = flags_of_bits (bit_or a b)
flags_of_combined Xor a b = flags_of_bits (bit_xor a b)

-- a word shifted by the count modulo 32; the arithmetic shift rounds down, which copies the sign
abbrev pub shifted : Shift → (w count : ℕ) → ℕ
shifted Left w n = (w * 2 ^ (n % 32)) % 2 ^ 32
shifted Right w n = w / 2 ^ (n % 32)
shifted Arithmetic w n = word_of (int_div_euclid (signed w) (pos (2 ^ (n % 32))))

-- the lowest byte or half of a word, extended to a word by its sign or by zeros
abbrev pub extended : Width → Sign → ℕ → ℕ
extended width.Byte Signed w = extend_sign 8 (w % 2 ^ 8)
extended width.Byte Unsigned w = w % 2 ^ 8
extended width.Half Signed w = extend_sign 16 (w % 2 ^ 16)
extended width.Half Unsigned w = w % 2 ^ 16

-- a division is a fault where the divisor is 0 or the quotient is no word of its sign; a signed one rounds toward zero
abbrev pub divided_unsigned : (dividend divisor : ℕ) → Option Division
divided_unsigned n d = if d == 0 then None else if nat_lt (n / d) (2 ^ 32) then Some (record { quotient = n / d; remainder = n % d }) else None

abbrev pub divided_signed : (dividend : ℤ) (divisor : ℕ) → Option Division
divided_signed n d = if d == 0 then None else if overflows (int_div n (signed d)) then None else Some (record { quotient = word_of (int_div n (signed d)); remainder = word_of (int_rem n (signed d)) })

-- the double word 'high:low' by a word
abbrev pub divided : Sign → (high low divisor : ℕ) → Option Division
divided Signed high low d = divided_signed (signed high *ℤ pos (2 ^ 32) +ℤ pos low) d
divided Unsigned high low d = divided_unsigned (high * 2 ^ 32 + low) d
