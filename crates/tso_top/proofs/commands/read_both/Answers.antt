use Rattle.tso_top.specs.Answers.{BothRead}
use Rattle.tso_top.proofs.Replayed.{first_kept, second_kept}
use Rattle.tso_top.proofs.commands.read_both.Goals as goal

pub returns-in_err-bytes : goal.returns-in_err-bytes
returns-in_err-bytes g c = first_kept _ _ _ _ _ _ _ c.from_residual.result c.in_err-bytes.ensures c.from_residual.ensures.1

pub returns-in_err-others : goal.returns-in_err-others
returns-in_err-others g c = second_kept _ _ _ _ _ _ _ c.in_ok-bytes.bytes _ c.from_residual-in_err-others.result c.in_ok-bytes.ensures c.in_err-others.ensures c.from_residual-in_err-others.ensures.1

pub returns : goal.returns
returns g c = BothRead _ c.in_ok-bytes.bytes c.in_ok-others.others c.in_ok-bytes.ensures c.in_ok-others.ensures
