-- Operands as they are printed: without a copy of their names.
use Rattle.x86_table.specs.declared.operand.Operand.{Operand}
use Rattle.x86_table.specs.declared.operand.Operand.TheVariants as operand
use Rattle.x86_table.specs.Instruction.{name_alone}
use Rattle.x86_print.specs.declared.view.View.{View}
use Rattle.x86_print.specs.declared.view.View.TheVariants as view

-- the operand that is seen
abbrev pub seen : View → Operand
seen view.Absent = operand.Absent
seen (view.Word r) = operand.Word r
seen (view.Byte r) = operand.Byte r
seen (view.Half r) = operand.Half r
seen (view.Number n) = operand.Number n
seen (view.Symbol s) = operand.Symbol s.now
seen (view.Memory a) = operand.Memory a.now
seen (view.Bare name) = name_alone name.now
seen (view.Through r) = operand.Through r
