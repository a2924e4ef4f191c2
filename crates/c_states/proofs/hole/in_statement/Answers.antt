use Rattle.c_frames.specs.Frames.{stack_of}
use Rattle.c_frames.specs.Readers.{token_of}
use Rattle.c_parts.specs.Views.{expr_part_of}
use Rattle.c_states.proofs.OtherFrames.{no_statement}
use Rattle.c_states.proofs.hole.in_statement.Goals as goal

pub returns-in_default : goal.returns-in_default
returns-in_default c = no_statement (expr_part_of c.args.e) c.args.frame (stack_of c.args.context.now.stack) c.args.context.now.names (token_of c.args.token.now) c.requires c.in_default.not-Expression c.in_default.not-Return c.in_default.not-If c.in_default.not-While c.in_default.not-Do c.in_default.not-Switch c.in_default.not-ForFirst c.in_default.not-ForTest c.in_default.not-ForStep
