use Rattle.c_frames.specs.Frames.{stack_of}
use Rattle.c_frames.specs.Readers.{token_of}
use Rattle.c_parts.specs.Views.{declarator_part_of}
use Rattle.c_states.proofs.OtherFrames.{no_declarator_end}
use Rattle.c_states.proofs.declarator.end_declarator.Goals as goal

pub returns-in_default : goal.returns-in_default
returns-in_default c = λ n. no_declarator_end (declarator_part_of c.args.declarator) c.args.frame n (stack_of c.args.context.now.stack) c.args.context.now.names (token_of c.args.token.now) c.requires c.in_default.not-Init c.in_default.not-Member c.in_default.not-ParameterOf c.in_default.not-Open
