use Rattle.c_frames.specs.Frames.{stack_of}
use Rattle.c_frames.specs.Readers.{token_of}
use Rattle.c_parts.specs.Views.{expr_part_of}
use Rattle.c_reader.proofs.OtherFrames.{no_list}
use Rattle.c_reader.proofs.initializer.on_list_comma_in.Goals as goal

pub returns-in_default : goal.returns-in_default
returns-in_default c = λ n. no_list (expr_part_of c.args.value) c.args.frame n (stack_of c.args.context.now.stack) c.args.context.now.names (token_of c.args.token.now) c.in_default.not-List
