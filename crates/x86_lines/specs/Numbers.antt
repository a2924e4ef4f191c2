-- Numbers of an assembly text: decimal with an optional '-', or hexadecimal behind '0x'; any number of digits, and leading zeros change nothing. What a number stands for in so many bits.
use Rattle.std.specs.Prelude.{ℕ, ◌+◌, ◌-◌, ◌%◌, ◌<◌, ◌≤◌, Bool, true, false, List, ◌∷◌}
use Rattle.std.specs.Str.Parse.{IsNumeral, digits_value}

-- a piece that is a number, whether it has a '-', and its size
pub data IsNumber : List ℕ → Bool → ℕ → Type 0 where
  Decimal : (digits : List ℕ) → IsNumeral 10 digits → IsNumber digits false (digits_value 10 digits)
  Negative : (digits : List ℕ) → IsNumeral 10 digits → IsNumber (45 ∷ digits) true (digits_value 10 digits)
  Hexadecimal : (digits : List ℕ) → IsNumeral 16 digits → IsNumber (48 ∷ 120 ∷ digits) false (digits_value 16 digits)

-- a number in the signed or the unsigned range of a width whose sign bit is `half`, and its bits
pub data InWidth (half : ℕ) : Bool → ℕ → ℕ → Type 0 where
  Positive : (n : ℕ) → n < half + half → InWidth half false n n
  Below : (n : ℕ) → n ≤ half → InWidth half true n ((half + half - n) % (half + half))

-- a piece that stands for a number of this width
pub record IsBits (half : ℕ) (piece : List ℕ) (bits : ℕ) : Type 0 where
  pub negative : Bool
  pub size : ℕ
  pub number : IsNumber piece negative size
  pub ranges : InWidth half negative size bits

-- for a word: -2147483648 to 4294967295, taken modulo 2^32
abbrev pub IsWord : List ℕ → ℕ → Type 0
IsWord = IsBits 2147483648

-- a piece that stands for a number that is not below 0
pub data IsCount : List ℕ → ℕ → Type 0 where
  Plain : (piece : List ℕ) (n : ℕ) → IsNumber piece false n → IsCount piece n
  MinusZero : (piece : List ℕ) → IsNumber piece true 0 → IsCount piece 0
