use Rattle.c_reader.proofs.OtherFrames.{no_initializer}
use Rattle.c_reader.proofs.initializer.on_after_list_in.Goals as goal

pub returns-in_default : goal.returns-in_default
returns-in_default c = λ n. no_initializer _ _ c.args.frame n _ _ _ c.in_default.not-Initializer
