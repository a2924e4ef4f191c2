use Rattle.c_frames.specs.Frames.{stack_of}
use Rattle.c_states.proofs.specifiers.members_end.Goals as goal

pub returns-in-Some : goal.returns-in-Some
returns-in-Some c = rw c.in-Some.ensures.taken.1 (c.members_end_in.ensures c.in-Some.ensures.taken.0 (stack_of c.pop.new.self) c.args.context.now.names)
