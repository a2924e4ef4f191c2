use Rattle.c_frames.specs.Frames.{stack_of}
use Rattle.c_parts.specs.Views.{declarators_part_of, specifiers_part_of}
use Rattle.c_states.proofs.OtherFrames.{no_members_more}
use Rattle.c_states.proofs.declarator.members_more_in.Goals as goal

pub returns-in_default : goal.returns-in_default
returns-in_default c = λ n. no_members_more (specifiers_part_of c.args.specifiers) (declarators_part_of c.args.declarators) c.args.frame n (stack_of c.args.context.now.stack) c.args.context.now.names c.in_default.not-Members
