-- The shape of each operand, and what an operand list shows of itself to the instruction table.
use Rattle.std.specs.Prelude.{Bool, ◌&&◌, ◌==◌, is_some, is_none, if◌then◌else◌}
use Rattle.x86_table.specs.declared.register.ByteRegister.TheVariants.{Al, Bl, Cl, Dl}
use Rattle.x86_table.specs.declared.operand.Address.{Address}
use Rattle.x86_table.specs.declared.operand.Operand.{Operand}
use Rattle.x86_table.specs.declared.operand.Operand.TheVariants.{Absent, Word, Byte, Half, Number, Symbol, Memory, Through}
use Rattle.x86_table.specs.declared.operand.Operands.{Operands}
use Rattle.x86_table.specs.declared.table.Shape.{Shape}
use Rattle.x86_table.specs.declared.table.Shape.TheVariants as shape
use Rattle.x86_table.specs.declared.table.Pattern.{Pattern}

-- an address that is a name and nothing else
abbrev pub is_bare : Address → Bool
is_bare a = is_some a.label && a.displacement == 0 && is_none a.base && is_none a.index

-- the shape of an operand
abbrev pub shape_of : Operand → Shape
shape_of Absent = shape.Absent
shape_of (Word r) = shape.Word
shape_of (Byte Al) = shape.Byte
shape_of (Byte Bl) = shape.Byte
shape_of (Byte Cl) = shape.Cl
shape_of (Byte Dl) = shape.Byte
shape_of (Half r) = shape.Half
shape_of (Number n) = shape.Number
shape_of (Symbol s) = shape.Symbol
shape_of (Memory a) = if is_bare a then shape.Bare else shape.Memory
shape_of (Through r) = shape.Through

-- the shapes of both operands
abbrev pub pattern_of : Operands → Pattern
pattern_of o = record { first = shape_of o.first; second = shape_of o.second }
