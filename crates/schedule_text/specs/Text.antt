-- The text of a schedule: its lines, their fields, and the numbers that fields write. Functions of whole lists of bytes; the code goes from byte to byte.
use Rattle.std.specs.Prelude.{◌≡◌, ℕ, ◌+◌, ◌-◌, ◌*◌, ◌%◌, ◌^◌, ◌<◌, ◌≤◌, Bool, true, false, List, [], ◌∷◌, length, filter, nat_le, ◌==◌, ◌||◌, ◌&&◌, if◌then◌else◌}

-- a byte in front of the first of some lists
abbrev pub onto : ℕ → List (List ℕ) → List (List ℕ)
onto b [] = (b ∷ []) ∷ []
onto b (piece ∷ pieces) = (b ∷ piece) ∷ pieces

-- the lines of a text: a line feed ends each, but the last may lack it
abbrev pub lines_of : List ℕ → List (List ℕ)
lines_of [] = []
lines_of (b ∷ bs) = if b == 10 then [] ∷ lines_of bs else onto b (lines_of bs)

-- space, tab or carriage return
abbrev pub is_blank : ℕ → Bool
is_blank b = b == 32 || b == 9 || b == 13

-- what stands before, between and behind the blanks of a line
abbrev pub between_blanks : List ℕ → List (List ℕ)
between_blanks [] = [] ∷ []
between_blanks (b ∷ bs) = if is_blank b then [] ∷ between_blanks bs else onto b (between_blanks bs)

abbrev pub has_bytes : List ℕ → Bool
has_bytes [] = false
has_bytes (b ∷ bs) = true

-- the fields of a line, which blanks separate
abbrev pub fields_of : List ℕ → List (List ℕ)
fields_of line = filter has_bytes (between_blanks line)

abbrev pub is_between : ℕ → ℕ → ℕ → Bool
is_between low high b = nat_le low b && nat_le b high

-- the value of a byte as a digit of a base up to 16; 16 for one that is no digit
abbrev pub digit_value : ℕ → ℕ
digit_value b = if is_between 48 57 b then b - 48 else (if is_between 65 70 b then b - 55 else (if is_between 97 102 b then b - 87 else 16))

-- the number that digits write in a base: each counts for a power of it
abbrev pub value_of : ℕ → List ℕ → ℕ
value_of base [] = 0
value_of base (b ∷ bs) = digit_value b * base ^ length bs + value_of base bs

-- each byte is a digit of the base
abbrev pub AreDigits : ℕ → List ℕ → Type 0
AreDigits base [] = Unit {0}
AreDigits base (b ∷ bs) = (digit_value b < base) × AreDigits base bs

-- a field of at least one digit of the base and at most so many, with its number
pub record IsNumeral (base most : ℕ) (field : List ℕ) (n : ℕ) : Type 0 where
  pub digits : AreDigits base field
  pub some : 1 ≤ length field
  pub few : length field ≤ most
  pub value : n ≡ value_of base field

-- a decimal number below a limit; leading zeros are allowed
pub record IsNumber (limit : ℕ) (field : List ℕ) (n : ℕ) : Type 0 where
  pub numeral : IsNumeral 10 20 field n
  pub below : n < limit

-- a choice, as a word: a decimal number from -2147483648 to 4294967295, or '0x' and hexadecimal digits, modulo 2^32
pub data IsChoice : List ℕ → ℕ → Type 0 where
  Plain : (field : List ℕ) (n : ℕ) → IsNumber (2 ^ 32) field n → IsChoice field n
  Negative : (field : List ℕ) (n : ℕ) → IsNumber (2 ^ 31 + 1) field n → IsChoice (45 ∷ field) ((2 ^ 32 - n) % 2 ^ 32)
  Hexadecimal : (field : List ℕ) (n : ℕ) → IsNumeral 16 8 field n → IsChoice (48 ∷ 120 ∷ field) n
