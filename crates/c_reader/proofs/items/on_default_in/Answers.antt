use Rattle.c_reader.proofs.OtherFrames.{no_default}
use Rattle.c_reader.proofs.items.on_default_in.Goals as goal

pub returns-in_default : goal.returns-in_default
returns-in_default c = λ n. no_default _ c.args.frame n _ _ c.in_default.not-Group
