use Rattle.clight_expressions.proofs.Stops.{stops_on, fails_as}
use Rattle.clight_statements.proofs.Chains.{return_front, return_stops, returned}
use Rattle.clight_statements.proofs.returns.return_judged.Goals as goal

pub returns-in_err-e-in-Some : goal.returns-in_err-e-in-Some
returns-in_err-e-in-Some c = fails_as _ _ c.from_residual.result c.in_err-e-in-Some.field-0.0 c.from_residual.ensures.1 (stops_on _ _ _ _ (return_front _ _ _ _ _ c.in-Some.is) c.in_err-e-in-Some.ensures)

pub returns-in_err-made-in-Some : goal.returns-in_err-made-in-Some
returns-in_err-made-in-Some c = fails_as _ _ c.from_residual-in_err-made-in-Some.result c.in_err-made-in-Some.field-0.0 c.from_residual-in_err-made-in-Some.ensures.1 (return_stops _ _ _ _ _ _ _ c.in_err-made-in-Some.field-0.0 c.in-Some.is c.in_ok-e-in-Some.ensures c.in_err-made-in-Some.ensures)

pub returns-in_ok-made-in-Some : goal.returns-in_ok-made-in-Some
returns-in_ok-made-in-Some c = returned _ _ _ _ _ _ _ _ c.in-Some.is c.in_ok-e-in-Some.ensures c.in_ok-made-in-Some.ensures
