use Rattle.std.proofs.Common.{Option, subst}
use Rattle.c_reading.specs.Code as code
use Rattle.c_frames.specs.Frames.{stack_of}
use Rattle.c_frames.specs.Readers.{Moves}
use Rattle.c_reader.proofs.OtherTokens.{BeginsNone, begins_expression}
use Rattle.c_reader.proofs.statement.on_statement.Goals as goal

pub returns-in_default : goal.returns-in_default
returns-in_default c =
    let P : Option code.Reader → Type 0 = λ next. Moves c.operand_in.result c.operand_in.new.context next in
    let none : BeginsNone c.args.token.now.kind = record {
      not_jump = c.in_default.not-Jump;
      not_if = c.in_default.not-If;
      not_while = c.in_default.not-While;
      not_do = c.in_default.not-Do;
      not_for = c.in_default.not-For;
      not_switch = c.in_default.not-Switch;
      not_return = c.in_default.not-Return;
      not_block = c.in_default.not-LeftBrace;
      not_empty = c.in_default.not-Semicolon;
    } in
    subst P (begins_expression c.args.token.now.kind c.args.token.now.name c.args.token.now.at (stack_of c.args.context.now.stack) c.args.context.now.names none) c.operand_in.ensures
