-- What was taken, with the pieces behind it.
use Rattle.std.specs.Prelude.{Option, Some, None}
use Rattle.x86_table.specs.declared.register.Register.{Register}
use Rattle.x86_table.specs.declared.operand.Index.{Index}
use Rattle.x86_table.specs.declared.operand.Operand.{Operand}
use Rattle.x86_table.specs.declared.operand.Operand.TheVariants as operand
use Rattle.x86_table.specs.declared.operand.Operands.{Operands}
use Rattle.x86_table.specs.declared.table.Shape.{Shape}
use Rattle.x86_table.specs.declared.table.Pattern.{Pattern}
use Rattle.x86_lines.specs.declared.operand_reading.Spelled.{Spelled}
use Rattle.x86_lines.specs.declared.operand_reading.Spelled.TheVariants as spelled
use Rattle.x86_lines.specs.declared.operand_reading.Taken.{Taken}
use Rattle.x86_lines.specs.declared.operand_reading.TakenBack.{TakenBack}
use Rattle.x86_lines.specs.declared.operand_reading.SpelledOperands.{SpelledOperands}
use Rattle.x86_lines.specs.Pieces.{pieces}
use Rattle.x86_lines.specs.Taking.{Pieces, memory, two_of}

-- the operand that a text spells
abbrev pub operand_of : Spelled → Operand
operand_of spelled.Absent = operand.Absent
operand_of (spelled.Word r) = operand.Word r
operand_of (spelled.Byte r) = operand.Byte r
operand_of (spelled.Half r) = operand.Half r
operand_of (spelled.Number n) = operand.Number n
operand_of (spelled.Symbol name n) = operand.Symbol (record { name = name.now; plus = n })
operand_of (spelled.Labelled name n base index) = memory (Some name.now) n base index
operand_of (spelled.Memory n base index) = memory None n base index
operand_of (spelled.Through r) = operand.Through r

abbrev pub taken : Taken → Operand × Shape × Pieces
taken t = (operand_of t.operand, t.shape, pieces t.rest.now)

abbrev pub taken_back : TakenBack → Option Register × Option Index × Pieces
taken_back t = (t.base, t.index, pieces t.rest.now)

abbrev pub spelled_operands : SpelledOperands → Operands × Pattern
spelled_operands t = (two_of (operand_of t.first) (operand_of t.second), t.pattern)
