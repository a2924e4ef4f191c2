-- What a piece is to the code: the register, the number or the mark that it finds, as functions. The grammar does not rest on them.
use Rattle.std.specs.Prelude.{ℕ, Bool, false, List, [], ◌∷◌, Option, Some, None, ◌==◌, bytes_eq, find, if◌then◌else◌}
use Rattle.std.specs.Option.{option_map}
use Rattle.x86_table.specs.declared.register.Register.{Register}
use Rattle.x86_table.specs.declared.register.ByteRegister.{ByteRegister}
use Rattle.x86_table.specs.declared.register.HalfRegister.{HalfRegister}
use Rattle.x86_table.specs.declared.register.IndexRegister.{IndexRegister}
use Rattle.x86_table.specs.declared.operand.Scale.{Scale}
use Rattle.x86_table.specs.declared.operand.Scale.TheVariants.{One, Two, Four, Eight}
use Rattle.x86_lines.specs.declared.number.Number.{Number}
use Rattle.x86_lines.specs.declared.register_names.TheConstants.{REGISTERS, BYTES, HALVES, INDEXES}
use Rattle.x86_lines.specs.Registers.{register_text, byte_text, half_text, index_register}
use Rattle.x86_lines.specs.Reading.{number_in}
use Rattle.x86_lines.specs.Told.{told}
use Rattle.x86_lines.specs.Fitting.{width_kept, count_kept}

-- the first register of its table that has the name
unfoldable pub register_in : List ℕ → Option Register
register_in word = find (λ r. bytes_eq (register_text r) word) REGISTERS

unfoldable pub byte_in : List ℕ → Option ByteRegister
byte_in word = find (λ r. bytes_eq (byte_text r) word) BYTES

unfoldable pub half_in : List ℕ → Option HalfRegister
half_in word = find (λ r. bytes_eq (half_text r) word) HALVES

unfoldable pub index_in : List ℕ → Option IndexRegister
index_in word = find (λ r. bytes_eq (register_text (index_register r)) word) INDEXES

-- what a number that was kept stands for
abbrev pub bits_from : ℕ → Option Number → Option ℕ
bits_from half None = None
bits_from half (Some n) = width_kept half n.negative n.size

abbrev pub count_from : Option Number → Option ℕ
count_from None = None
count_from (Some n) = count_kept n.negative n.size

-- what a piece stands for
unfoldable pub bits_in : ℕ → List ℕ → Option ℕ
bits_in half word = bits_from half (option_map told (number_in word))

unfoldable pub count_in : List ℕ → Option ℕ
count_in word = count_from (option_map told (number_in word))

-- a factor of an index
abbrev pub scale_from : Option ℕ → Option Scale
scale_from None = None
scale_from (Some n) = if n == 1 then Some One else (if n == 2 then Some Two else (if n == 4 then Some Four else (if n == 8 then Some Eight else None)))

-- the piece is this byte alone
abbrev pub is_mark : ℕ → List ℕ → Bool
is_mark mark [] = false
is_mark mark (b ∷ []) = b == mark
is_mark mark (b ∷ c ∷ bs) = false
