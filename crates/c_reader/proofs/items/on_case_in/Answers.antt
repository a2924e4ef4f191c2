use Rattle.c_reader.proofs.OtherFrames.{no_case}
use Rattle.c_reader.proofs.items.on_case_in.Goals as goal

pub returns-in_default : goal.returns-in_default
returns-in_default c = λ n. no_case _ c.args.frame n _ _ c.in_default.not-Group
