use Rattle.c_frames.specs.Frames.{stack_of}
use Rattle.c_states.proofs.specifiers.on_specifiers.Goals as goal

pub returns-in-TypeWord : goal.returns-in-TypeWord
returns-in-TypeWord c = rw c.in-TypeWord.is (c.on_word.ensures (stack_of c.args.context.now.stack) c.args.context.now.names)
