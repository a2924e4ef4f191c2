use Rattle.c_frames.specs.Frames.{stack_of}
use Rattle.c_frames.specs.Readers.{token_of}
use Rattle.c_parts.specs.Views.{abstract_part_of, specifiers_part_of}
use Rattle.c_states.proofs.OtherFrames.{no_abstract_parameter}
use Rattle.c_states.proofs.declarator.on_abstract_parameter_in.Goals as goal

pub returns-in_default : goal.returns-in_default
returns-in_default c = λ n. no_abstract_parameter (specifiers_part_of c.args.specifiers) (abstract_part_of c.args.declarator) c.args.frame n (stack_of c.args.context.now.stack) c.args.context.now.names (token_of c.args.token.now) c.in_default.not-Parameter
