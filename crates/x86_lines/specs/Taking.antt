-- What the code takes from the front of a list of pieces, with the pieces behind it, in the code's order. The grammar does not rest on it.
use Rattle.std.specs.Prelude.{ℕ, List, [], ◌∷◌, ◌++◌, codes, bytes_eq, Option, Some, None, if◌then◌else◌}
use Rattle.x86_table.specs.declared.register.Register.{Register}
use Rattle.x86_table.specs.declared.register.ByteRegister.{ByteRegister}
use Rattle.x86_table.specs.declared.register.HalfRegister.{HalfRegister}
use Rattle.x86_table.specs.declared.register.IndexRegister.{IndexRegister}
use Rattle.x86_table.specs.declared.operand.Index.{Index}
use Rattle.x86_table.specs.declared.operand.Scale.{Scale}
use Rattle.x86_table.specs.declared.operand.Operand.{Operand}
use Rattle.x86_table.specs.declared.operand.Operand.TheVariants as operand
use Rattle.x86_table.specs.declared.operand.Operands.{Operands}
use Rattle.x86_table.specs.declared.table.Shape.{Shape}
use Rattle.x86_table.specs.declared.table.Shape.TheVariants as shape
use Rattle.x86_table.specs.declared.table.Pattern.{Pattern}
use Rattle.x86_table.specs.Operand.{shape_of}
use Rattle.x86_lines.specs.Reading.{is_name}
use Rattle.x86_lines.specs.Finding.{register_in, byte_in, half_in, index_in, bits_in, count_in, scale_from, is_mark}

-- pieces
abbrev pub Pieces : Type 0
Pieces = List (List ℕ)

-- what stands behind a mark
abbrev pub behind : ℕ → Pieces → Option Pieces
behind mark [] = None
behind mark (w ∷ ps) = if is_mark mark w then Some ps else None

-- an index with its scale
abbrev pub with_scale : IndexRegister → Option Scale → Pieces → Option (Index × Pieces)
with_scale r None ps = None
with_scale r (Some s) ps = Some (record { register = r; scale = s }, ps)

abbrev pub scaled : IndexRegister → Pieces → Option (Index × Pieces)
scaled r [] = None
scaled r (w ∷ ps) = with_scale r (scale_from (count_in w)) ps

abbrev pub behind_index : IndexRegister → Option Pieces → Option (Index × Pieces)
behind_index r None = None
behind_index r (Some ps) = scaled r ps

abbrev pub index_from : Option IndexRegister → Pieces → Option (Index × Pieces)
index_from None ps = None
index_from (Some r) ps = behind_index r (behind 44 ps)

abbrev pub index_of : Pieces → Option (Index × Pieces)
index_of [] = None
index_of (w ∷ ps) = index_from (index_in w) ps

-- what stands between parentheses
abbrev pub indexed : Option Register → Option (Index × Pieces) → Option (Option Register × Option Index × Pieces)
indexed base None = None
indexed base (Some t) = Some (base, Some t.0, t.1)

abbrev pub behind_base : Register → Option Pieces → Pieces → Option (Option Register × Option Index × Pieces)
behind_base r None ps = Some (Some r, None, ps)
behind_base r (Some qs) ps = indexed (Some r) (index_of qs)

abbrev pub base_from : Option Register → Pieces → Option (Option Register × Option Index × Pieces)
base_from None ps = None
base_from (Some r) ps = behind_base r (behind 44 ps) ps

abbrev pub inside_at : List ℕ → Pieces → Option (Option Register × Option Index × Pieces)
inside_at w ps = if is_mark 44 w then indexed None (index_of ps) else base_from (register_in w) ps

abbrev pub inside : Pieces → Option (Option Register × Option Index × Pieces)
inside [] = None
inside (w ∷ ps) = inside_at w ps

-- up to the second parenthesis
abbrev pub closing : Option Register → Option Index → Option Pieces → Option (Option Register × Option Index × Pieces)
closing base index None = None
closing base index (Some ps) = Some (base, index, ps)

abbrev pub closed_from : Option (Option Register × Option Index × Pieces) → Option (Option Register × Option Index × Pieces)
closed_from None = None
closed_from (Some t) = closing t.0 t.1 (behind 41 t.2)

abbrev pub closed : Pieces → Option (Option Register × Option Index × Pieces)
closed ps = closed_from (inside ps)

-- parentheses, where there are any
abbrev pub back_from : Option Pieces → Pieces → Option (Option Register × Option Index × Pieces)
back_from None ps = Some (None, None, ps)
back_from (Some qs) ps = closed qs

abbrev pub back : Pieces → Option (Option Register × Option Index × Pieces)
back ps = back_from (behind 40 ps) ps

-- what is added to a label
abbrev pub word_from : Option ℕ → Pieces → Option (ℕ × Pieces)
word_from None ps = None
word_from (Some n) ps = Some (n, ps)

abbrev pub word_of : Pieces → Option (ℕ × Pieces)
word_of [] = None
word_of (w ∷ ps) = word_from (bits_in 2147483648 w) ps

abbrev pub plus_from : Option Pieces → Option (ℕ × Pieces)
plus_from None = None
plus_from (Some ps) = word_of ps

abbrev pub plus : Pieces → Option (ℕ × Pieces)
plus ps = plus_from (behind 43 ps)

-- operands of memory
abbrev pub memory : Option (List ℕ) → ℕ → Option Register → Option Index → Operand
memory label n base index = operand.Memory (record { label = label; displacement = n; base = base; index = index })

-- a name with no parentheses behind it stands alone
abbrev pub shape_behind : Option Register → Option Index → Shape
shape_behind None None = shape.Bare
shape_behind _ _ = shape.Memory

abbrev pub named_from : List ℕ → Option (Option Register × Option Index × Pieces) → Option (Operand × Shape × Pieces)
named_from name None = None
named_from name (Some t) = Some (memory (Some name) 0 t.0 t.1, shape_behind t.0 t.1, t.2)

abbrev pub memory_from : Option (List ℕ) → ℕ → Option (Option Register × Option Index × Pieces) → Option (Operand × Shape × Pieces)
memory_from label n None = None
memory_from label n (Some t) = Some (memory label n t.0 t.1, shape.Memory, t.2)

abbrev pub named : List ℕ → Option (ℕ × Pieces) → Pieces → Option (Operand × Shape × Pieces)
named name None ps = named_from name (back ps)
named name (Some t) ps = memory_from (Some name) t.0 (back t.1)

abbrev pub numbered : Option ℕ → List ℕ → Pieces → Option (Operand × Shape × Pieces)
numbered (Some n) w ps = memory_from None n (back ps)
numbered None w ps = if is_mark 40 w then memory_from None 0 (closed ps) else None

abbrev pub memory_at : List ℕ → Pieces → Option (Operand × Shape × Pieces)
memory_at w ps = if is_name w then named w (plus ps) ps else numbered (bits_in 2147483648 w) w ps

-- what stands behind a '$'
abbrev pub symbol_from : List ℕ → Option (ℕ × Pieces) → Pieces → Operand × Shape × Pieces
symbol_from name None ps = (operand.Symbol (record { name = name; plus = 0 }), shape.Symbol, ps)
symbol_from name (Some t) ps = (operand.Symbol (record { name = name; plus = t.0 }), shape.Symbol, t.1)

abbrev pub number_from : Option ℕ → Pieces → Option (Operand × Shape × Pieces)
number_from None ps = None
number_from (Some n) ps = Some (operand.Number n, shape.Number, ps)

abbrev pub immediate_at : List ℕ → Pieces → Option (Operand × Shape × Pieces)
immediate_at w ps = if is_name w then Some (symbol_from w (plus ps) ps) else number_from (bits_in 2147483648 w) ps

abbrev pub immediate : Pieces → Option (Operand × Shape × Pieces)
immediate [] = None
immediate (w ∷ ps) = immediate_at w ps

-- behind a '*'
abbrev pub through_from : Option Register → Pieces → Option (Operand × Shape × Pieces)
through_from None ps = None
through_from (Some r) ps = Some (operand.Through r, shape.Through, ps)

abbrev pub through : Pieces → Option (Operand × Shape × Pieces)
through [] = None
through (w ∷ ps) = through_from (register_in w) ps

-- registers, and what is none
abbrev pub plain_from : Option Register → Option ByteRegister → Option HalfRegister → List ℕ → Pieces → Option (Operand × Shape × Pieces)
plain_from (Some r) _ _ w ps = Some (operand.Word r, shape.Word, ps)
plain_from None (Some r) _ w ps = Some (operand.Byte r, shape_of (operand.Byte r), ps)
plain_from None None (Some r) w ps = Some (operand.Half r, shape.Half, ps)
plain_from None None None w ps = memory_at w ps

abbrev pub plain_at : List ℕ → Pieces → Option (Operand × Shape × Pieces)
plain_at w ps = plain_from (register_in w) (byte_in w) (half_in w) w ps

-- an operand
abbrev pub operand_at : List ℕ → Pieces → Option (Operand × Shape × Pieces)
operand_at w ps = if is_mark 36 w then immediate ps else (if is_mark 42 w then through ps else plain_at w ps)

abbrev pub take_operand : Pieces → Option (Operand × Shape × Pieces)
take_operand [] = None
take_operand (w ∷ ps) = operand_at w ps

-- at most two operands, and nothing behind them
abbrev pub two_of : Operand → Operand → Operands
two_of first second = record { first = first; second = second }

abbrev pub both_of : Shape → Shape → Pattern
both_of first second = record { first = first; second = second }

abbrev pub second_end : Operand → Shape → Operand → Shape → Pieces → Option (Operands × Pattern)
second_end o s p t [] = Some (two_of o p, both_of s t)
second_end o s p t (w ∷ ps) = None

abbrev pub second_from : Operand → Shape → Option (Operand × Shape × Pieces) → Option (Operands × Pattern)
second_from o s None = None
second_from o s (Some t) = second_end o s t.0 t.1 t.2

abbrev pub behind_comma : Operand → Shape → Option Pieces → Option (Operands × Pattern)
behind_comma o s None = None
behind_comma o s (Some ps) = second_from o s (take_operand ps)

abbrev pub behind_first : Operand → Shape → Pieces → Option (Operands × Pattern)
behind_first o s [] = Some (two_of o operand.Absent, both_of s shape.Absent)
behind_first o s (w ∷ ps) = behind_comma o s (behind 44 (w ∷ ps))

abbrev pub first_from : Option (Operand × Shape × Pieces) → Option (Operands × Pattern)
first_from None = None
first_from (Some t) = behind_first t.0 t.1 t.2

abbrev pub operands_in : Pieces → Option (Operands × Pattern)
operands_in [] = Some (two_of operand.Absent operand.Absent, both_of shape.Absent shape.Absent)
operands_in (w ∷ ps) = first_from (take_operand (w ∷ ps))

-- the text of a mnemonic, and the pieces behind it
abbrev pub prefix : List ℕ
prefix = codes "lock"

abbrev pub locked : Pieces → Option (List ℕ × Pieces)
locked [] = None
locked (w ∷ ps) = Some (codes "lock " ++ w, ps)

abbrev pub split_at : List ℕ → Pieces → Option (List ℕ × Pieces)
split_at w ps = if bytes_eq w prefix then locked ps else Some (w, ps)

abbrev pub split : Pieces → Option (List ℕ × Pieces)
split [] = None
split (w ∷ ps) = split_at w ps
