use Rattle.clight_statements.proofs.Deeds.{for_made}
use Rattle.clight_statements.proofs.making.for_loop.Goals as goal

pub returns : goal.returns
returns c = for_made _ _ c.in_ok-update.update c.in_ok-body.body _ _ c.in_ok-update.ensures c.in_ok-body.ensures
