-- What the code computes on the way from bytes to pieces and from pieces to numbers: functions on whole lists, in the code's order. The grammar does not rest on them.
use Rattle.std.specs.Prelude.{ℕ, suc, ◌+◌, ◌*◌, ◌^◌, Bool, true, false, List, [], ◌∷◌, Option, Some, None, ◌||◌, ◌&&◌, ◌==◌, nat_lt, if◌then◌else◌}
use Rattle.std.specs.Char.{digit_value}
use Rattle.x86_table.specs.Names.{begins_name, is_of_name}
use Rattle.x86_lines.specs.Pieces.{is_blank}

-- a byte that may begin a word
abbrev pub opens : ℕ → Bool
opens b = is_of_name b || b == 37 || b == 45

-- the length of the longest run of bytes of names at the front
abbrev pub run : List ℕ → ℕ
run [] = 0
run (b ∷ bs) = if is_of_name b then suc (run bs) else 0

-- how many bytes of a piece stand behind its first one
abbrev pub behind_first : ℕ → List ℕ → ℕ
behind_first b bs = if opens b then run bs else 0

-- what stands behind blanks
abbrev pub past_blanks : List ℕ → List ℕ
past_blanks [] = []
past_blanks (b ∷ bs) = if is_blank b then past_blanks bs else b ∷ bs

-- every byte may stand in a name; a whole name
abbrev pub all_of_name : List ℕ → Bool
all_of_name [] = true
all_of_name (b ∷ bs) = is_of_name b && all_of_name bs

abbrev pub is_name : List ℕ → Bool
is_name [] = false
is_name (b ∷ bs) = begins_name b && all_of_name bs

-- digits of a base
abbrev pub all_digits : ℕ → List ℕ → Bool
all_digits radix [] = true
all_digits radix (b ∷ bs) = nat_lt (digit_value b) radix && all_digits radix bs

abbrev pub is_numeral : ℕ → List ℕ → Bool
is_numeral radix [] = false
is_numeral radix ds = all_digits radix ds

-- the value of digits behind a number that was read so far
abbrev pub value_on : ℕ → ℕ → List ℕ → ℕ
value_on radix n [] = n
value_on radix n (b ∷ bs) = value_on radix (n * radix + digit_value b) bs

-- a size that the code keeps
abbrev pub kept : ℕ → Option ℕ
kept n = if nat_lt n (2 ^ 128) then Some n else None

-- a number with its '-' and its size
abbrev pub signed_in : Bool → ℕ → List ℕ → Option (Bool × ℕ)
signed_in negative radix ds = if is_numeral radix ds then Some (negative, value_on radix 0 ds) else None

abbrev pub hexadecimal_in : List ℕ → Option (Bool × ℕ)
hexadecimal_in [] = None
hexadecimal_in (b ∷ bs) = if b == 120 then signed_in false 16 bs else None

abbrev pub marked_in : List ℕ → Option (Bool × ℕ)
marked_in [] = None
marked_in (b ∷ bs) = if b == 45 then signed_in true 10 bs else (if b == 48 then hexadecimal_in bs else None)

abbrev pub number_in : List ℕ → Option (Bool × ℕ)
number_in word = if is_numeral 10 word then Some (false, value_on 10 0 word) else marked_in word
